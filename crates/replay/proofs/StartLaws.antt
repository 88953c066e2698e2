-- The start: what is lent is made fresh, and the header is due.
-- Assumes nothing.
use Prim.Native.Nat.{ℕ, ◌≤◌}
use mathlib.Core.Path.{◌≡◌, ap, ◌∙◌}
use mathlib.Core.List.{List, [], ◌∷◌}
use lib.ListN.{length, replicate}
use Rattle.word.specs.Word.{link_bits}
use Rattle.machine.specs.Exec.{World}
use Rattle.access_log.specs.declared.line.Line.TheVariants as line
use Rattle.access_log.specs.Line.{bytes_of}
use Rattle.evtchn_fifo.specs.Encoded.{Freshened, freshened}
use Rattle.evtchn_fifo.specs.Ledger.{entries, fresh_ledger_bytes}
use Rattle.evtchn_fifo.specs.DomainRecord.{domain_size}
use Rattle.evtchn_fifo.specs.GuestRecord.{guest_size}
use Rattle.evtchn_fifo.specs.Hypervisor.{fresh_domain_bytes}
use Rattle.evtchn_fifo.specs.Guest.{fresh_guest_bytes}
use Rattle.evtchn_fifo.proofs.Meaning.{domain_calls}
use Rattle.evtchn_fifo.proofs.GuestMeaning.{guest_calls}
use Rattle.replay.specs.Replay.{Player, playing, fresh_world, starts}
use Rattle.replay.specs.Player.{feed}
use Rattle.std.specs.Prelude.{Option, Ok}
use Rattle.replay.specs.declared.player.Position.{Position}
use Rattle.replay.specs.declared.player.due.Due.{Due}
use Rattle.replay.specs.State.{world_in, due_lines, feed_at, playing_after, feed_of}
use Rattle.replay.proofs.PositionLaws.{due_again}

module _ (d t g : List ℕ) (domain-long : domain_size ≤ length d) (guest-long : guest_size ≤ length g) where
  fresh_is : (words : ℕ) →
      world_in (fresh_domain_bytes d).record_bytes (fresh_ledger_bytes t).record_bytes (fresh_guest_bytes g).record_bytes (replicate words 0) (replicate 18 0) ≡ fresh_world (entries t) words
  unfolding fresh_world
  fresh_is words = rw ((domain_calls link_bits).fresh d domain-long, (domain_calls link_bits).fresh_ledger t, (guest_calls link_bits).fresh g guest-long)

  pub started : (d' t' g' ws' b b' due : List ℕ) (words i j k : ℕ) (header : Option Due) (q : Position) → freshened i d' ≡ fresh_domain_bytes d → freshened j t' ≡ fresh_ledger_bytes t → freshened k g' ≡ fresh_guest_bytes g →
      ws' ≡ replicate words 0 → length b ≡ 18 → b' ≡ replicate (length b) 0 → due_lines header due ≡ bytes_of line.Header ∷ [] →
      ((line due : List ℕ) (w : World) → feed_at q line due w ≡ feed_of (Ok (playing_after 0 header)) line due w) →
      (bytes : List ℕ) → feed_at q bytes due (world_in d' t' g' ws' b') ≡ feed (starts (entries t) words) []
  unfolding feed_of
  started d' t' g' ws' b b' due words i j k header q e f h m size n put at bytes =
      let is : world_in d' t' g' ws' b' ≡ fresh_world (entries t) words
      = ap (λ (x : Freshened). world_in x.record_bytes t' g' ws' b') e ∙ ap (λ (x : Freshened). world_in (fresh_domain_bytes d).record_bytes x.record_bytes g' ws' b') f
      ∙ ap (λ (x : Freshened). world_in (fresh_domain_bytes d).record_bytes (fresh_ledger_bytes t).record_bytes x.record_bytes ws' b') h
      ∙ ap (λ (x : List ℕ). world_in (fresh_domain_bytes d).record_bytes (fresh_ledger_bytes t).record_bytes (fresh_guest_bytes g).record_bytes x b') m
      ∙ ap (λ (x : List ℕ). world_in (fresh_domain_bytes d).record_bytes (fresh_ledger_bytes t).record_bytes (fresh_guest_bytes g).record_bytes (replicate words 0) x) (n ∙ ap (λ (y : ℕ). replicate y 0) size)
      ∙ fresh_is words in
      at bytes due (world_in d' t' g' ws' b')
      ∙ ap (λ (x : Player). feed x [])
      (ap (λ (x : Option Due). playing (world_in d' t' g' ws' b') (due_lines x due) 0) (due_again 0 header)
      ∙ ap (λ (ds : List (List ℕ)). playing (world_in d' t' g' ws' b') ds 0) put
      ∙ ap (λ (w : World). playing w (bytes_of line.Header ∷ []) 0) is)
