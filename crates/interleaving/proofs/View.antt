-- From the machine's records, lists and words to the functions of crate queue.
-- Assumes nothing.
use mathlib.Core.Path.{◌≡◌, refl, ap, ◌∙◌, fun_ext}
use mathlib.Core.List.{List, [], ◌∷◌}
use Prim.Native.Nat.{ℕ, zero, suc, ◌+◌, ◌-◌, ◌*◌, ◌<◌}
use native.Mathlib.Omega.{arith}
use lib.ListN.{length, get_or, set}
use lib.Seq.{get_or-set_same, get_or-set_other}
use Rattle.word.specs.Entry.{last_queue, ever_linked}
use Rattle.calls.specs.declared.types.Owner.{Owner}
use Rattle.calls.specs.declared.types.Owner.TheVariants as owner
use Rattle.calls.specs.declared.types.Stage.{Stage}
use Rattle.calls.specs.declared.types.Stage.TheVariants as stage
use Rattle.calls.specs.declared.types.Call as calls
use Rattle.calls.specs.declared.types.GuestStage.{GuestStage}
use Rattle.calls.specs.declared.types.GuestStage.TheVariants as guest_stage
use Rattle.calls.specs.declared.types.GuestCall as guests
use Rattle.calls.specs.declared.types.ClearStage.{ClearStage}
use Rattle.calls.specs.declared.types.ClearStage.TheVariants as clear_stage
use Rattle.calls.specs.declared.types.ClearCall as clears
use Rattle.machine.specs.Exec.{World}
use Rattle.queue.specs.Update.{update}
use Rattle.queue.specs.Model.{Call, GuestCall, ClearCall, View, alone, alone_clear}
use Rattle.queue.specs.Model.Kind.{at_r1, at_r2, at_u1, at_bind, at_close}
use Rattle.queue.specs.Model.Stage.{at_r3, at_r4, at_set_busy, at_clear_busy, at_r5, at_r6}
use Rattle.queue.specs.Model.Call.{idle, asks, holds}
use Rattle.queue.specs.Model.GuestCall.{no_service, at_g0, at_g1, at_g2, at_g3, at_g4}
use Rattle.queue.specs.Model.ClearCall.{no_clear, at_read, at_cas}
use Rattle.queue.proofs.Cases.{split}
use Rattle.queue.proofs.UpdateLaws.{update_same, update_other}
use Rattle.interleaving.proofs.ReadyBits.{bits_of}
use Rattle.interleaving.proofs.Decode.{decoded}

-- ---- memory and records
abbrev pub view_by : ℕ → ℕ → List ℕ → List ℕ → List ℕ → List ℕ → List ℕ → ℕ → View
view_by n pages words block tails ledger heads local = record {
  word = λ p. decoded n (get_or words p 0);
  size = 1024 * pages;
  tail = λ q. get_or tails q 0;
  last_queue = λ p. last_queue (get_or ledger p 0);
  ever_linked = λ p. ever_linked (get_or ledger p 0);
  head = λ q. get_or block (q + 2) 0;
  ready = bits_of (get_or block 0 0);
  guest_head = λ q. get_or heads q 0;
  local = bits_of local;
  owner = λ q. 0;
}

abbrev pub view_of : ℕ → World → View
view_of n w = view_by n w.domain.pages w.memory.words w.memory.block w.domain.tails w.ledger w.guest.heads w.guest.ready

-- two views are one where their parts are, place by place
pub record Agree (v v' : View) : Type 0 where
  pub word : (x : ℕ) → v.word x ≡ v'.word x
  pub size : v.size ≡ v'.size
  pub tail : (q : ℕ) → v.tail q ≡ v'.tail q
  pub last_queue : (x : ℕ) → v.last_queue x ≡ v'.last_queue x
  pub ever_linked : (x : ℕ) → v.ever_linked x ≡ v'.ever_linked x
  pub head : (q : ℕ) → v.head q ≡ v'.head q
  pub ready : (q : ℕ) → v.ready q ≡ v'.ready q
  pub guest_head : (q : ℕ) → v.guest_head q ≡ v'.guest_head q
  pub local : (q : ℕ) → v.local q ≡ v'.local q
  pub owner : (q : ℕ) → v.owner q ≡ v'.owner q

pub agree : {v v' : View} → Agree v v' → v ≡ v'
agree a = λ i. record {
  word = fun_ext a.word i;
  size = a.size i;
  tail = fun_ext a.tail i;
  last_queue = fun_ext a.last_queue i;
  ever_linked = fun_ext a.ever_linked i;
  head = fun_ext a.head i;
  ready = fun_ext a.ready i;
  guest_head = fun_ext a.guest_head i;
  local = fun_ext a.local i;
  owner = fun_ext a.owner i;
}

-- ---- calls under way
abbrev first_of : Owner → ℕ → Call
first_of owner.None p = idle
first_of owner.Bind p = asks at_bind p
first_of owner.Close p = asks at_close p
first_of owner.Raise p = asks at_r1 p
first_of owner.Unmask p = asks at_u1 p

abbrev pub unless_none : Owner → Call → Call
unless_none owner.None c = idle
unless_none owner.Bind c = c
unless_none owner.Close c = c
unless_none owner.Raise c = c
unless_none owner.Unmask c = c

-- the record counts the cas named, and the queue those not taken: one fewer
abbrev pub call_by : ℕ → Owner → Stage → ℕ → ℕ → ℕ → ℕ → Call
call_by n o stage.First p q x t = first_of o p
call_by n o stage.R2 p q x t = unless_none o (asks at_r2 p)
call_by n o stage.R3 p q x t = unless_none o (holds q p at_r3)
call_by n o stage.R4 p q x t = unless_none o (holds q p (at_r4 (t - 1) (decoded n x)))
call_by n o stage.SetBusy p q x t = unless_none o (holds q p at_set_busy)
call_by n o stage.ClearBusy p q x t = unless_none o (holds q p at_clear_busy)
call_by n o stage.R5 p q x t = unless_none o (holds q p at_r5)
call_by n o stage.R6 p q x t = unless_none o (holds q p at_r6)

abbrev pub call_of : ℕ → calls.Call → Call
call_of n c = call_by n c.owner c.stage c.port.0 c.queue.0 c.word c.tries

abbrev pub guest_call_by : GuestStage → ℕ → ℕ → GuestCall
guest_call_by guest_stage.None p q = no_service
guest_call_by guest_stage.G0 p q = at_g0
guest_call_by guest_stage.G1 p q = at_g1 q
guest_call_by guest_stage.G2 p q = at_g2 q p
guest_call_by guest_stage.G3 p q = at_g3 p
guest_call_by guest_stage.G4 p q = at_g4 p

abbrev pub guest_call_of : guests.GuestCall → GuestCall
guest_call_of c = guest_call_by c.stage c.port.0 c.queue.0

abbrev pub clear_call_by : ℕ → ClearStage → ℕ → ℕ → ClearCall
clear_call_by n clear_stage.None p x = no_clear
clear_call_by n clear_stage.Read p x = at_read p
clear_call_by n clear_stage.Cas p x = at_cas p (decoded n x)

abbrev pub clear_call_of : ℕ → clears.ClearCall → ClearCall
clear_call_of n c = clear_call_by n c.stage c.port.0 c.word

-- the guests' services and clear_masks, of which there is one each
abbrev pub guests_of : World → ℕ → GuestCall
guests_of w = alone (guest_call_of w.guest.call)

abbrev pub clears_of : ℕ → World → ℕ → ClearCall
clears_of n w = alone_clear (clear_call_of n w.guest.clear)

-- ---- a store in a list is a change of the function
module _ {ℓ} {B : Type ℓ} (f : ℕ → B) where
  pub set_update : (l : List ℕ) (i a : ℕ) (b : B) → i < length l → f a ≡ b → (j : ℕ) → f (get_or (set l i a) j 0) ≡ update (λ k. f (get_or l k 0)) i b j
  set_update l i a b h e j = split j i
      (λ d. rw (d, update_same (λ k. f (get_or l k 0)) i b) (ap f (get_or-set_same l i a 0 h) ∙ e))
      (λ n. rw (update_other (λ k. f (get_or l k 0)) i b j n) (ap f (get_or-set_other l i j a 0 n)))

  -- one that f does not tell
  pub set_blind : (l : List ℕ) (i a : ℕ) → f a ≡ f (get_or l i 0) → (j : ℕ) → f (get_or (set l i a) j 0) ≡ f (get_or l j 0)
  set_blind [] i a e j = refl
  set_blind (x ∷ l) zero a e zero = e
  set_blind (x ∷ l) zero a e (suc j) = refl
  set_blind (x ∷ l) (suc i) a e zero = refl
  set_blind (x ∷ l) (suc i) a e (suc j) = set_blind l i a e j

-- HEAD[q] in the control block
pub head_update : (block : List ℕ) (q a : ℕ) → q + 2 < length block → (r : ℕ) → get_or (set block (q + 2) a) (r + 2) 0 ≡ update (λ k. get_or block (k + 2) 0) q a r
head_update block q a h r = split r q
    (λ d. rw (d, update_same (λ k. get_or block (k + 2) 0) q a) (get_or-set_same block (q + 2) a 0 h))
    (λ n. rw (update_other (λ k. get_or block (k + 2) 0) q a r n) (get_or-set_other block (q + 2) (r + 2) a 0 (λ e. n (omega arith))))
