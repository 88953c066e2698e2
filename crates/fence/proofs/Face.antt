-- The face of a domain moves by a step without its word and by what is refused; a port's own refusal, and the port whose close falls, are
-- read off it. n is the number of link bits.
-- Assumes nothing.
use Rattle.std.specs.Prelude.{None, Some, Result, Err}
use Prim.Native.Nat.{ℕ}
use mathlib.Core.Path.{◌≡◌, refl}
use mathlib.Core.Bool.{Bool, true, false, cond, not}
use mathlib.Core.List.{List, map}
use lib.ListN.{length, get_or, length-map, get_or-map}
use lib.Dec.{ltb}
use Rattle.word.specs.Bits.{bit, field}
use Rattle.word.specs.Entry.{bound}
use Rattle.calls.specs.declared.types.Answer.{Answer}
use Rattle.calls.specs.declared.types.Answer.TheVariants.{BadPort, NotGiven}
use Rattle.calls.specs.declared.types.Next.{Next}
use Rattle.calls.specs.declared.types.Next.TheVariants as next
use Rattle.calls.specs.Answers.{code_of}
use Rattle.calls.specs.Records.{is_port, entry_at, is_free, closing_port}
use Rattle.calls.specs.Hypervisor.{entry_or14, accept_port, due_of}
use Rattle.machine.specs.declared.types.Side.TheVariants as side
use Rattle.machine.specs.declared.types.Step.{Step}
use Rattle.machine.specs.declared.types.Step.TheVariants as step
use Rattle.machine.specs.Memory.{performed}
use Rattle.machine.specs.Exec.{World, Advanced, world_after, perform_hypervisor_next, perform_hypervisor, hypervisor_step, perform_side, hand_back, advance_of, exec}
use Rattle.cables.specs.Rules.{entry_refusal, refusal_by, port_refusal}
use Rattle.fence.specs.System.{falls_by, falls}
use Rattle.fence.specs.Fence.{Replies, kind, is_seven, refused, weakest}
use Rattle.fence.proofs.FaceOf.{face, moved, refusal_of, falls_of}
use Rattle.fence.proofs.FaceStarts.{none_falls, start_goes}
use Rattle.fence.proofs.FaceReplies.{reply_answers}

-- ---- a port's own refusal

bound_at : (l : List ℕ) (i : ℕ) → get_or (map bound l) i false ≡ bound (get_or l i 0)
unfolding bound bit field
bound_at l i = get_or-map bound l i 0

-- the row of refusals, whatever its tests come to
abbrev acceptance : Bool → Bool → Bool → ℕ → Result ℕ Answer
acceptance a b c e =
    cond a (Err NotGiven) (cond b (Err BadPort) (entry_or14 (cond c (Some e) None)))

refusal_by_lem : (a b c : Bool) (e : ℕ) → entry_refusal (acceptance a b c e) ≡ cond a 10 (cond b 3 (cond c (cond (bound e) 0 4) 14))
unfolding code_of
refusal_by_lem true b c e = refl
refusal_by_lem false true c e = refl
refusal_by_lem false false true e = refl
refusal_by_lem false false false e = refl

pub refusal_face : (n : ℕ) (w : World) (p : ℕ) → port_refusal n w.domain w.ledger p ≡ refusal_of n (face w) p
unfolding refusal_by accept_port is_free entry_at
refusal_face n w p =
    rw (length-map w.ledger bound, bound_at w.ledger p)
    (refusal_by_lem (not w.domain.given) (not (is_port n p)) (ltb p (length w.ledger)) (get_or w.ledger p 0))

-- ---- a step

module _ (n : ℕ) (w : World) where
  -- an access with its reply
  record Performs (a : Advanced) : Type 0 where
    moves : face (world_after a) ≡ moved (face w) Replies (is_seven a.advance.answer)
    falls : falls_by a.advance.answer (closing_port w.domain.call) ≡ falls_of (face w) Replies (is_seven a.advance.answer)

  performs : (x : Next) → Performs (hypervisor_step w (perform_hypervisor_next n w.domain w.ledger w.memory x))
  performs (next.Access a) =
      let r = reply_answers n w.domain w.ledger (performed w.memory a).seen in
      record { moves = r.face; falls = r.falls }
  performs (next.Answer a count) =
      let r = reply_answers n w.domain w.ledger 0 in
      record { moves = r.face; falls = r.falls }

  pub exec_face : (s : Step) → face (exec n w s).world ≡ moved (face w) (kind s) (refused n weakest w s)
  unfolding refused advance_of perform_side perform_hypervisor hand_back
  exec_face (step.Hypervisor c) = (start_goes n w.domain w.ledger w.memory.words c).face
  exec_face (step.Guest c) = refl
  exec_face (step.Perform side.Hypervisor) = (performs (due_of n w.domain)).moves
  exec_face (step.Perform side.Guest) = refl
  exec_face (step.HandBack side.Hypervisor word) = (reply_answers n w.domain w.ledger word).face
  exec_face (step.HandBack side.Guest word) = refl

  pub falls_face : (s : Step) → falls n w s ≡ falls_of (face w) (kind s) (refused n weakest w s)
  unfolding falls refused advance_of perform_side perform_hypervisor hand_back
  falls_face (step.Hypervisor c) = (start_goes n w.domain w.ledger w.memory.words c).falls
  falls_face (step.Guest c) = none_falls (advance_of n w (step.Guest c)).advance.answer
  falls_face (step.Perform side.Hypervisor) = (performs (due_of n w.domain)).falls
  falls_face (step.Perform side.Guest) = none_falls (advance_of n w (step.Perform side.Guest)).advance.answer
  falls_face (step.HandBack side.Hypervisor word) = (reply_answers n w.domain w.ledger word).falls
  falls_face (step.HandBack side.Guest word) = none_falls (advance_of n w (step.HandBack side.Guest word)).advance.answer
