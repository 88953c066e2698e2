-- A port that passes its own refusals goes on to pass them, unless its close falls. n is the number of link bits.
-- Assumes nothing.
use Prim.Native.Nat.{ℕ}
use mathlib.Core.Path.{◌≡◌, refl, sym, ap, ◌∙◌}
use mathlib.Core.Bool.{Bool, true, false, cond, not}
use mathlib.Core.List.{List}
use mathlib.Core.Logic.{◌≢◌}
use borrow.Author.Tests.{ltb-true}
use lib.ListN.{length, get_or, length-set}
use lib.Seq.{get_or-set_same, get_or-set_other}
use lib.Dec.{ltb}
use Rattle.calls.specs.Records.{is_port, in_array}
use Rattle.calls.proofs.Cases.{choose, by_test}
use Rattle.queue.proofs.Cases.{split}
use Rattle.machine.specs.declared.types.Start.{Start}
use Rattle.machine.specs.declared.types.Start.TheVariants.{InitControl, ExpandArray, Bind, Close, SetPriority, Raise, Unmask}
use Rattle.machine.specs.declared.types.Step.{Step}
use Rattle.machine.specs.Exec.{World, exec}
use Rattle.cables.specs.Rules.{port_refusal}
use Rattle.fence.specs.System.{falls}
use Rattle.fence.specs.Fence.{Kind, Starts, Replies, GuestDoes, kind, refused, weakest}
use Rattle.fence.proofs.FaceOf.{UnderWay, quiet, binds, closes, Face, face, with_bound, begun, replied, moved, refusal_of, start_falls, reply_falls, falls_of}
use Rattle.fence.proofs.Face.{refusal_face, exec_face, falls_face}

record PassesBy (n : ℕ) (g : Bool) (bounds : List Bool) (p : ℕ) : Type 0 where
  given : g ≡ true
  port : is_port n p ≡ true
  entry : ltb p (length bounds) ≡ true
  bit : get_or bounds p false ≡ true

module _ (n p : ℕ) where
  abbrev Passes : Face → Type 0
  Passes f = PassesBy n f.given f.bounds p

  tests : (a b c e : Bool) → ◌≡◌ {A = ℕ} (cond (not a) 10 (cond (not b) 3 (cond c (cond e 0 4) 14))) 0 →
      (a ≡ true) × (b ≡ true) × (c ≡ true) × (e ≡ true)
  tests true true true true h = (refl, refl, refl, refl)
  tests true true true false h = (refl, refl, refl, cc)
  tests true true false e h = (refl, refl, cc, cc)
  tests true false c e h = (refl, cc, cc, cc)
  tests false b c e h = (cc, cc, cc, cc)

  passes : (f : Face) → refusal_of n f p ≡ 0 → Passes f
  passes f h =
      let t = tests f.given (is_port n p) (ltb p (length f.bounds)) (get_or f.bounds p false) h in
      record { given = t.0; port = t.1; entry = t.2; bit = t.3 }

  passed : (f : Face) → Passes f → refusal_of n f p ≡ 0
  passed f k = rw (k.given, k.port, k.entry, k.bit)

  -- the bit of another port changes, or one is set
  other_bit : (f : Face) (q : ℕ) (b : Bool) → p ≢ q → Passes f → Passes (with_bound f q b)
  other_bit f q b apart k = record {
    given = k.given;
    port = k.port;
    entry = rw (length-set f.bounds q b) k.entry;
    bit = get_or-set_other f.bounds q p b false apart ∙ k.bit;
  }

  set_bit : (f : Face) (q : ℕ) → Passes f → Passes (with_bound f q true)
  set_bit f q k = split p q
      (λ e. record {
        given = k.given;
        port = k.port;
        entry = rw (length-set f.bounds q true) k.entry;
        bit = rw (sym e) (get_or-set_same f.bounds p true false (ltb-true p (length f.bounds) k.entry));
      })
      (λ apart. other_bit f q true apart k)

  begun_passes : (f : Face) (c : Start) → p ≢ start_falls f c → Passes f → Passes (begun f c)
  begun_passes f (InitControl vcpu frame frames offset) h k = record { given = refl; port = k.port; entry = k.entry; bit = k.bit }
  begun_passes f (ExpandArray frame frames) h k = k
  begun_passes f (Bind q) h k = choose Passes (in_array f.pages q.0) k (set_bit f q.0 k)
  begun_passes f (Close q) h k = by_test Passes (in_array f.pages q.0) (λ e. k) (λ e. other_bit f q.0 false (rw e at h) k)
  begun_passes f (SetPriority q level) h k = k
  begun_passes f (Raise q) h k = k
  begun_passes f (Unmask q) h k = k

  replied_passes : (f : Face) (u : UnderWay) (seven : Bool) → p ≢ reply_falls u f → Passes f → Passes (replied u f seven)
  replied_passes f quiet seven h k = k
  replied_passes f (binds q) seven h k = choose Passes (ltb q (length f.bounds)) (choose Passes seven k (set_bit f q k)) k
  replied_passes f (closes q) seven h k = by_test Passes (ltb q (length f.bounds)) (λ e. other_bit f q false (rw e at h) k) (λ e. k)

  moved_passes : (f : Face) (x : Kind) (refused : Bool) → p ≢ falls_of f x refused → Passes f → Passes (moved f x refused)
  moved_passes f (Starts c) refused h k = by_test Passes refused (λ e. k) (λ e. begun_passes f c (rw e at h) k)
  moved_passes f Replies refused h k = replied_passes f f.under_way refused h k
  moved_passes f GuestDoes refused h k = k

  pub keeps_passing : (w : World) (s : Step) → port_refusal n w.domain w.ledger p ≡ 0 → p ≢ falls n w s →
      port_refusal n (exec n w s).world.domain (exec n w s).world.ledger p ≡ 0
  keeps_passing w s h apart =
      let f = face w in
      let r = refused n weakest w s in
      refusal_face n (exec n w s).world p ∙ ap (λ x. refusal_of n x p) (exec_face n w s)
      ∙ passed (moved f (kind s) r) (moved_passes f (kind s) r (rw (falls_face n w s) at apart) (passes f (sym (refusal_face n w p) ∙ h)))

  -- and is a port
  pub passing_port : (w : World) → port_refusal n w.domain w.ledger p ≡ 0 → is_port n p ≡ true
  passing_port w h = (passes (face w) (sym (refusal_face n w p) ∙ h)).port
