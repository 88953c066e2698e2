-- `replay::player::lent::Lent::expand` meets its contract. Assumes nothing.
use Rattle.replay.proofs.CallLaws.{legal_expand, expand_past, expand_added}
use native.Mathlib.Omega.{arith}
use mathlib.Core.Path.{sym, ◌∙◌}
use Rattle.replay.proofs.player.lent.Lent.expand.Goals as goal

pub returns-then-self-pages-clause-begun : goal.returns-then-self-pages-clause-begun
returns-then-self-pages-clause-begun c = let a = c.args.self.now in λ k. expand_past a.domain.now a.ledger.now a.guest.now a.words.now a.block.now a.domain_long a.guest_long k c.args.frame (legal_expand _ (omega arith)) _ _ c.evtchn_fifo_bytes_expand_array-next.ensures _ _ _ (sym c.is_done.ensures ∙ c.if-not-is_done.false) c.pages_in-pages.ensures c.if-self-pages.true

pub returns-clause-begun : goal.returns-clause-begun
returns-clause-begun c = let a = c.args.self.now in λ k. expand_added a.domain.now a.ledger.now a.guest.now a.words.now a.block.now a.domain_long a.guest_long k c.args.frame (legal_expand _ (omega arith)) _ _ c.evtchn_fifo_bytes_expand_array-next.ensures _ _ _ _ _ _ _ (sym c.is_done.ensures ∙ c.if-not-is_done.false) c.pages_in-pages.ensures c.if-self-pages.false c.zero_page.ensures c.pages_in-more.ensures c.evtchn_fifo_bytes_tell.ensures c.put_answer-2.ensures
