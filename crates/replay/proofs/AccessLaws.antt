-- An access of either side, made on the lent references, comes to `made`, and a start of a call of the hypervisor to `begins`.
-- Assumes nothing.
use Prim.Native.Nat.{ℕ}
use mathlib.Core.Path.{◌≡◌, refl, sym, ap, ◌∙◌}
use mathlib.Core.List.{List, ◌∷◌}
use Rattle.std.specs.Prelude.{Option, Result, Ok, Err}
use Rattle.word.specs.Word.{link_bits}
use Rattle.calls.specs.declared.answer.Code.{Code}
use Rattle.calls.specs.declared.types.Access.{Access}
use Rattle.machine.specs.declared.types.Side.{Side}
use Rattle.machine.specs.declared.types.Side.TheVariants as side
use Rattle.machine.specs.Memory.{memory, did, performed}
use Rattle.machine.specs.declared.types.Start.{Start}
use Rattle.machine.specs.declared.types.Step.TheVariants as step
use Rattle.machine.specs.Exec.{World}
use mathlib.Core.Bool.{false}
use Rattle.access_log.specs.declared.line.LoggedCall.{LoggedCall}
use Rattle.access_log.specs.Line.{LegalCall, bytes_of}
use Rattle.access_log.specs.Event.{access_line}
use Rattle.evtchn_fifo.specs.Encoded.{EncodedNext}
use Rattle.evtchn_fifo.specs.DomainRecord.{domain_at}
use Rattle.exported.specs.Run.{words_after}
use Rattle.replay.specs.declared.player.due.Due.{Due}
use Rattle.replay.specs.declared.player.due.Stop.{Stop}
use Rattle.replay.specs.declared.player.lent.Lent.{Lent}
use Rattle.replay.specs.declared.player.named.Named.TheVariants as named
use Rattle.replay.specs.Replay.{step_of_call, adds, begins}
use Rattle.replay.specs.Player.{met, made}
use Rattle.replay.specs.State.{named_in, result_due, after_line}
use Rattle.replay.specs.Lent.{world_lent, waits_for, Replied, Started}
use Rattle.replay.proofs.DueLaws.{Misses, named_answer, named_access}
use Rattle.replay.proofs.StepLaws.{hypervisor_began, hypervisor_idle, hypervisor_made, guest_rests, guest_made}

module _ (a : Lent) (k : ℕ) (text : List ℕ) where
  abbrev d : List ℕ
  d = a.domain.now

  abbrev t : List ℕ
  t = a.ledger.now

  abbrev g : List ℕ
  g = a.guest.now

  abbrev ws : List ℕ
  ws = a.words.now

  abbrev b : List ℕ
  b = a.block.now

  pub access_idle : (s : Side) (c : Code) (r : Stop) → named_in (waits_for s a) ≡ named.Answer c → Misses r 0 text → after_line (Err r) k a.due.now (world_lent a) ≡ made link_bits (world_lent a) k s text
  access_idle side.Hypervisor c r e m = hypervisor_idle d t g ws b a.domain_long a.guest_long _ k text r a.due.now refl (named_answer _ c e).0 m
  access_idle side.Guest c r e m = guest_rests d t g ws b a.domain_long a.guest_long _ k text r a.due.now refl (named_answer _ c e).0 m

  pub access_made : (s : Side) (x : Access) (p q : Lent) (seen : ℕ) (y : EncodedNext) (r : Result (Option Due) Stop) (due : List ℕ) → named_in (waits_for s a) ≡ named.Access x →
      p.domain.now ≡ d → p.ledger.now ≡ t → p.guest.now ≡ g → did (memory p.words.now p.block.now) seen ≡ performed (memory ws b) x → Replied s p seen y q →
      ((j : ℕ) (w : World) → after_line r j due w ≡ met w (bytes_of (access_line s x seen) ∷ result_due s y) j text) → after_line r k due (world_lent q) ≡ made link_bits (world_lent a) k s text
  access_made side.Hypervisor x p q seen y r due e pd pt pg done reply m =
      ap (λ (w : World). after_line r k due w) (simp (reply.1, reply.2, reply.3, pg))
      ∙ hypervisor_made d t g ws b a.domain_long a.guest_long _ x p.words.now p.block.now seen y q.domain.now q.ledger.now k text r due refl (named_access _ x e).0 (sym (named_access _ x e).1) done (simp (reply.0, pd, pt)) m
  access_made side.Guest x p q seen y r due e pd pt pg done reply m =
      ap (λ (w : World). after_line r k due w) (simp (reply.1, reply.2, reply.3, reply.4, pd, pt))
      ∙ guest_made d t g ws b a.domain_long a.guest_long _ x p.words.now p.block.now seen y q.guest.now k text r due refl (named_access _ x e).0 (sym (named_access _ x e).1) done (simp (reply.0, pg)) m

pub started_begins : (a : Lent) (k : ℕ) (c : LoggedCall) (s : Start) (r : Option Due) (q : Lent) → LegalCall c → adds link_bits (domain_at a.domain.now) c ≡ false → step_of_call c ≡ step.Hypervisor s →
    words_after link_bits a.domain.now a.words.now s ≡ a.words.now → Started a s r q → after_line (Ok r) k q.due.now (world_lent q) ≡ begins link_bits (world_lent a) k c
started_begins a k c s r q legal no_page is same h =
    ap (λ (w : World). after_line (Ok r) k q.due.now w) (simp (h.domain, h.ledger, h.guest, h.words, h.block))
    ∙ hypervisor_began a.domain.now a.ledger.now a.guest.now a.words.now a.block.now a.domain_long a.guest_long c s _ _ _ k r q.due.now legal no_page is same refl h.due_is
