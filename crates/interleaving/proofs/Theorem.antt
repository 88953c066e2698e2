-- From the invariant to the claim, and demand 3.
-- Assumes nothing.
use mathlib.Core.Path.{◌≡◌, refl, sym, ap, subst, fun_ext}
use mathlib.Core.Logic.{inl, inr}
use mathlib.Core.Bool.{Bool, true, false}
use mathlib.Core.List.{List, []}
use Prim.Native.Nat.{ℕ, zero, suc, ◌+◌, ◌^◌, ◌≤◌, ◌<◌, zero-le}
use native.Mathlib.Omega.{arith}
use lib.Dec.{lit≤}
use lib.ListN.{length, get_or, replicate}
use Rattle.word.specs.Word.{Width, link_bits, link_bits-width}
use Rattle.word.specs.Entry.{fresh_entry, last_queue, ever_linked}
use Rattle.word.proofs.EntryLaws.{last_queue-lt, last_queue-fresh, ever_linked-fresh, last_queue-zero, ever_linked-zero}
use Rattle.calls.specs.declared.types.Owner.{Owner}
use Rattle.calls.specs.declared.types.Owner.TheVariants as owner
use Rattle.calls.specs.declared.types.Stage.{Stage}
use Rattle.calls.specs.declared.types.Stage.TheVariants as stage
use Rattle.calls.specs.declared.types.Call as calls
use Rattle.calls.specs.declared.types.GuestStage.{GuestStage}
use Rattle.calls.specs.declared.types.GuestStage.TheVariants as guest_stage
use Rattle.machine.specs.Exec.{World}
use Rattle.machine.specs.declared.types.Event.{Event}
use Rattle.queue.specs.Model.{Call, alone, alone_clear, HeldBy, LinkedBy, HeldByService}
use Rattle.queue.specs.Model.Call.{idle}
use Rattle.queue.specs.Model.GuestCall.{no_service}
use Rattle.queue.specs.Model.ClearCall.{no_clear}
use Rattle.queue.specs.Invariant.{Inv}
use Rattle.queue.specs.Claims.{Stands}
use Rattle.queue.specs.Claims as claims
use Rattle.queue.proofs.Cases.{clash, either, three}
use Rattle.queue.proofs.ChainLaws.{chain_unique}
use Rattle.queue.proofs.Expand.{fresh_keeps}
use Rattle.queue.proofs.Claim.{standing, linked_once_lem, none_lost_lem, rest_unlinked, rest_masked}
use Rattle.queue.proofs.OneVcpu.{alone_none, alone_clear_none, alone_held}
use Rattle.interleaving.specs.Fresh.{fresh_world}
use Rattle.interleaving.specs.Standing.{ready_word, Standing, StandingUnique, StandsOn}
use Rattle.interleaving.specs.Held.{is_linking, has_linked, has_taken, HeldByHypervisor, HeldByLinker, HeldByGuest}
use Rattle.interleaving.specs.Claim.{Rest, Claim}
use Rattle.interleaving.specs.Demand3.{Demand3}
use Rattle.interleaving.specs.Bounds.{BoundsOfEvents}
use Rattle.interleaving.specs.Lengths.{is_first}
use Rattle.interleaving.proofs.ReadyBits.{bits_at, bits_none, bits_zero}
use Rattle.interleaving.proofs.Decode.{decoded}
use Rattle.interleaving.proofs.View.{view_of, unless_none, call_by, call_of, guest_call_by, guest_call_of, guests_of, clears_of, agree}
use Rattle.interleaving.proofs.Good.{Good}
use Rattle.interleaving.proofs.Replies.{fit_idle}
use Rattle.interleaving.proofs.Linking.{unless, first_asks}
use Rattle.interleaving.proofs.Starts.{free_idle}
use Rattle.interleaving.proofs.GuestStarts.{none_serving, none_clearing}
use Rattle.interleaving.proofs.Steps.{steps_kept}

-- ---- who holds a port
module _ (n p q y t x : ℕ) where
  unless_held : (o : Owner) (c : Call) → HeldBy (unless_none o c) x → HeldBy c x
  unless_held = unless (λ c. HeldBy c x) (λ h. h)

  unless_linked : (o : Owner) (c : Call) → LinkedBy (unless_none o c) x → LinkedBy c x
  unless_linked = unless (λ c. LinkedBy c x) (λ h. h)

  held_by : (o : Owner) (s : Stage) → (is_first s ≡ false → is_linking o ≡ true) → HeldBy (call_by n o s p q y t) x → (is_linking o ≡ true) × (x ≡ p)
  held_by owner.None stage.First l h = absurd h
  held_by owner.Bind stage.First l h = clash h.0 refl
  held_by owner.Close stage.First l h = clash h.0 refl
  held_by owner.Raise stage.First l h = (refl, h.1)
  held_by owner.Unmask stage.First l h = (refl, h.1)
  held_by o stage.R2 l h = (l refl, (unless_held o _ h).1)
  held_by o stage.R3 l h = (l refl, unless_held o _ h)
  held_by o stage.R4 l h = (l refl, unless_held o _ h)
  held_by o stage.SetBusy l h = (l refl, unless_held o _ h)
  held_by o stage.ClearBusy l h = (l refl, unless_held o _ h)
  held_by o stage.R5 l h = (l refl, unless_held o _ h)
  held_by o stage.R6 l h = (l refl, unless_held o _ h)

  linked_by : (o : Owner) (s : Stage) → LinkedBy (call_by n o s p q y t) x → (is_first s ≡ false) × (has_linked s ≡ true) × (x ≡ p)
  linked_by o stage.First h = absurd (first_asks (λ c. LinkedBy c x) n p q y t (λ h. h) (λ k h. h) o h)
  linked_by o stage.R2 h = absurd (unless_linked o _ h)
  linked_by o stage.R3 h = (refl, refl, unless_linked o _ h)
  linked_by o stage.R4 h = (refl, refl, unless_linked o _ h)
  linked_by o stage.SetBusy h = (refl, refl, unless_linked o _ h)
  linked_by o stage.ClearBusy h = (refl, refl, unless_linked o _ h)
  linked_by o stage.R5 h = (refl, refl, unless_linked o _ h)
  linked_by o stage.R6 h = (refl, refl, unless_linked o _ h)

served_by : (s : GuestStage) (p q x : ℕ) → HeldByService (guest_call_by s p q) x → (has_taken s ≡ true) × (x ≡ p)
served_by guest_stage.None p q x h = absurd h
served_by guest_stage.G0 p q x h = absurd h
served_by guest_stage.G1 p q x h = absurd h
served_by guest_stage.G2 p q x h = absurd h
served_by guest_stage.G3 p q x h = (refl, h)
served_by guest_stage.G4 p q x h = (refl, h)

module _ {n : ℕ} {w : World} {h : List Event} (k : Good n w h) where
  abbrev call : calls.Call
  call = w.domain.call

  -- only a raise or unmask makes R2 to R6
  pub links : is_first call.stage ≡ false → is_linking call.owner ≡ true
  links e = go (is_linking call.owner) refl
    where
      go : (b : Bool) → is_linking call.owner ≡ b → b ≡ true
      go true d = refl
      go false d = clash (ap is_first (k.fit.linking d)) e

  held : (x : ℕ) → HeldBy (call_of n call) x → HeldByHypervisor call x
  held x e = let d = held_by n call.port.0 call.queue.0 call.word call.tries x call.owner call.stage links e in record { linking = d.0; port = d.1 }

  linked : (x : ℕ) → LinkedBy (call_of n call) x → HeldByLinker call x
  linked x e = let d = linked_by n call.port.0 call.queue.0 call.word call.tries x call.owner call.stage e in record { holds = record { linking = links d.0; port = d.2 }; linked = d.1 }

  served : (x : ℕ) → HeldByService (guest_call_of w.guest.call) x → HeldByGuest w.guest.call x
  served x e = let d = served_by w.guest.call.stage w.guest.call.port.0 w.guest.call.queue.0 x e in record { taken = d.0; port = d.1 }

  stands : (p : ℕ) → Stands k.lists p ((view_of n w).last_queue p) → (q : ℕ) × StandsOn k.lists p q
  stands p s = ((view_of n w).last_queue p, record { queue = last_queue-lt (get_or w.ledger p 0); once = s.once; only = λ r lt d. s.only r d })

  rest : Rest w → claims.Rest (view_of n w) (call_of n call) (guests_of w) (clears_of n w)
  rest r = record {
    call = free_idle n call r.hypervisor;
    service = rw (none_serving w.guest.call r.guest) alone_none;
    clear = rw (none_clearing n w.guest.clear r.clearing) alone_clear_none;
    local = bits_none w.guest.ready r.local;
    ready = bits_none (ready_word w) r.ready;
  }

  pub lists_stand : (q : ℕ) → q < 16 → Standing n w q (k.lists q)
  lists_stand q lt = rw (← (bits_at w.guest.ready q lt), ← (bits_at (ready_word w) q lt)) (standing k.inv q)

  pub claim : Claim n w h
  claim = record {
    lists = k.lists;
    standing = lists_stand;
    none_lost = λ p i a b. three (none_lost_lem k.inv p i.inside a b) (λ s. inl (stands p s)) (λ e. inr (inl (held p e))) (λ e. inr (inr (served p (alone_held (guest_call_of w.guest.call) p e))));
    linked_once = λ p i a. either (linked_once_lem k.inv p i.inside a) (λ s. inl (stands p s)) (λ e. inr ((λ q lt. e.0 q), linked p e.1));
    in_order = λ q lt. k.order q;
    at_rest = λ r p i. record { unlinked = rest_unlinked k.inv (rest r) p i.inside; masked = rest_masked k.inv (rest r) p i.inside };
  }

-- the ports that stand on a queue are one list
pub standing_unique : StandingUnique
standing_unique n w q l m a b = chain_unique a b

-- ---- the fresh world
filled : {A : Type 0} (f : ℕ → A) (a : A) (x : ℕ) → f x ≡ a → f 0 ≡ a → (entries i : ℕ) → f (get_or (replicate entries x) i 0) ≡ a
filled f a x e d zero i = d
filled f a x e d (suc entries) zero = e
filled f a x e d (suc entries) (suc i) = filled f a x e d entries i

pub fresh_good : (n : ℕ) (lent : List ℕ) (entries : ℕ) → 2 ^ n ≤ length lent → Good n (fresh_world lent entries) []
fresh_good n lent entries le = record {
  lists = λ q. [];
  inv = subst (λ v. Inv v idle (alone no_service) (alone_clear no_clear) (λ q. [])) (sym (agree (record {
    word = λ x. refl;
    size = refl;
    tail = filled (λ z. z) 0 0 refl refl 16;
    last_queue = filled last_queue 0 fresh_entry last_queue-fresh last_queue-zero entries;
    ever_linked = filled ever_linked false fresh_entry ever_linked-fresh ever_linked-zero entries;
    head = λ q. filled (λ z. z) 0 0 refl refl 18 (q + 2);
    ready = bits_zero;
    guest_head = filled (λ z. z) 0 0 refl refl 16;
    local = bits_zero;
    owner = λ q. refl;
  }))) (rw (fun_ext alone_none, fun_ext alone_clear_none) (fresh_keeps (λ p. decoded n (get_or lent p 0)) (λ q. 0)));
  sizes = record { array = zero-le; lent = le; small = λ p lt. absurd (omega arith); block = refl; tails = refl; heads = refl };
  fit = fit_idle (length (replicate entries fresh_entry));
  count = zero-le;
  guest_queue = lit≤ tt;
  clear_word = lit≤ tt;
  order = λ q. refl;
}

-- ---- demand 3, for every number of link bits, and for today's
module _ {n : ℕ} (wide : Width n) where
  pub demand3 : Demand3 n
  unfolding Demand3
  demand3 lent entries steps le rules = claim (steps_kept wide (fresh_world lent entries) [] steps (fresh_good n lent entries le) rules).good

  pub bounds_of_events : BoundsOfEvents n
  unfolding BoundsOfEvents
  bounds_of_events lent entries steps le rules = (steps_kept wide (fresh_world lent entries) [] steps (fresh_good n lent entries le) rules).bounds

pub demand3_today : Demand3 link_bits
demand3_today = demand3 link_bits-width

pub bounds_today : BoundsOfEvents link_bits
bounds_today = bounds_of_events link_bits-width
