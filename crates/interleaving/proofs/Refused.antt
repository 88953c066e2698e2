-- The claim refuses those worlds.
-- Assumes nothing.
use mathlib.Core.Path.{◌≡◌, refl, sym, ap, ◌∙◌}
use mathlib.Core.Logic.{◌≢◌}
use mathlib.Core.List.{List, [], ◌∷◌}
use Prim.Native.Nat.{ℕ, ◌<◌}
use native.Mathlib.Omega.{arith}
use lib.Dec.{lit≤}
use lib.ListN.{get_or}
use Rattle.word.specs.Word.{link_bits, link}
use Rattle.word.specs.Computes.{computes}
use Rattle.word.proofs.ReadyLaws.{ready_zero}
use Rattle.calls.specs.Records.{is_free, is_clearing}
use Rattle.calls.specs.Guest.{is_serving}
use Rattle.calls.specs.declared.types.Call.{Call}
use Rattle.calls.specs.declared.types.GuestCall.{GuestCall}
use Rattle.machine.specs.Exec.{World}
use Rattle.machine.specs.declared.types.Event.{Event}
use Rattle.claims.proofs.HypervisorReach.{zeros}
use Rattle.queue.specs.Chain.{Chain, count_of}
use Rattle.queue.specs.Chain.Chain.{ends, goes}
use Rattle.queue.proofs.Cases.{clash, split, either, three}
use Rattle.queue.proofs.ChainLaws.{chain_unique}
use Rattle.interleaving.specs.Fresh.{InArray, word_at}
use Rattle.interleaving.specs.Standing.{start_of, StandsOn}
use Rattle.interleaving.specs.Claim.{Rest, Claim}
use Rattle.interleaving.specs.Refused as worlds
use Rattle.interleaving.specs.Refused.{world_of, no_heads, takes, Refused, ClaimRefuses}

-- a port of the page
inside : {x y : ℕ} {c : Call} {g : GuestCall} {heads : List ℕ} {local : ℕ} → InArray (world_of x y c g heads local) 20
inside = omega arith

twenty : ◌≢◌ {A = ℕ} 20 0
twenty e = omega arith

-- ---- no queue starts: no port stands

module _ {x y : ℕ} {c : Call} {g : GuestCall} {h : List Event} (k : Claim link_bits (world_of x y c g no_heads 0) h) where
  starts : (q : ℕ) → start_of (world_of x y c g no_heads 0) q ≡ 0
  starts q = rw (zeros 16 q, ready_zero q) refl

  nowhere : ((q : ℕ) × StandsOn k.lists 20 q) → ⊥
  nowhere s = let d : ◌≡◌ {A = ℕ} 0 1 = sym (ap (count_of 20) (chain_unique (k.standing s.0 s.1.queue) (ends (starts s.0)))) ∙ s.1.once in omega arith

-- ---- each world

lost : Refused worlds.lost []
unfolding computes
lost k = three (k.none_lost 20 inside refl refl) (nowhere k) (λ h. let d : ◌≡◌ {A = ℕ} 20 3 = h.port in omega arith) (λ h. clash h.taken refl)

linked_by_none_lem : Refused worlds.linked_by_none []
unfolding computes
linked_by_none_lem k = either (k.linked_once 20 inside refl) (nowhere k) (λ h. clash h.1.linked refl)

-- the list of a queue that starts at port 20, whose LINK is 0
only_20 : {w : World} {h : List Event} (k : Claim link_bits w h) (q : ℕ) → q < 16 → start_of w q ≡ 20 → link link_bits (word_at w 20) ≡ 0 → count_of 20 (k.lists q) ≡ 0 → ⊥
only_20 k q lt s e z = let d : ◌≡◌ {A = ℕ} 1 0 = sym (ap (count_of 20) (chain_unique (k.standing q lt) (goes s twenty (ends e)))) ∙ z in omega arith

on_two_queues_lem : Refused worlds.on_two_queues (takes 0 20 ∷ takes 1 20 ∷ [])
unfolding computes
on_two_queues_lem k = either (k.linked_once 20 inside refl)
    (λ s. split s.0 0
    (λ e. only_20 k 1 (lit≤ tt) refl refl (s.1.only 1 (lit≤ tt) (λ d. let z : ◌≡◌ {A = ℕ} 1 0 = d ∙ e in omega arith)))
    (λ n. only_20 k 0 (lit≤ tt) refl refl (s.1.only 0 (lit≤ tt) (λ d. n (sym d)))))
    (λ h. only_20 k 0 (lit≤ tt) refl refl (h.0 0 (lit≤ tt)))

-- no list ends that comes back to where it was
ring : {link : ℕ → ℕ} {s p : ℕ} {l : List ℕ} → Chain link s l → s ≡ p → p ≢ 0 → link p ≡ p → ⊥
ring (ends e) s some back = some (sym s ∙ e)
ring {link} (goes e n c) s some back = ring c (ap link (sym e ∙ s) ∙ back) some back

twice_on_one_lem : Refused worlds.twice_on_one (takes 7 20 ∷ takes 7 20 ∷ [])
unfolding computes
twice_on_one_lem k = ring (k.standing 7 (lit≤ tt)) refl twenty refl

out_of_order_lem : Refused worlds.out_of_order (takes 7 20 ∷ takes 7 21 ∷ [])
unfolding computes
out_of_order_lem k =
    let stands : k.lists 7 ≡ 21 ∷ 20 ∷ [] = chain_unique (k.standing 7 (lit≤ tt)) (goes refl (λ (e : ◌≡◌ {A = ℕ} 21 0). omega arith) (goes refl twenty (ends refl))) in
    let d : ◌≡◌ {A = ℕ} 20 21 = ap (λ (l : List ℕ). get_or l 0 0) (k.in_order 7 (lit≤ tt) ∙ stands) in
    omega arith

-- no call, no bit; H alone is there
rests : (x : ℕ) → Rest (worlds.resting x)
unfolding is_free is_serving is_clearing
rests x = record { hypervisor = refl; guest = refl; clearing = refl; local = λ q lt. ready_zero q; ready = λ q lt. ready_zero q }

pending_at_rest_lem : Refused (worlds.resting 0x80000000) (takes 7 20 ∷ [])
unfolding computes
pending_at_rest_lem k = clash ((k.at_rest (rests 0x80000000) 20 inside).masked refl) refl

linked_at_rest_lem : Refused (worlds.resting 0x20000000) (takes 7 20 ∷ [])
unfolding computes
linked_at_rest_lem k = clash refl (k.at_rest (rests 0x20000000) 20 inside).unlinked

pub claim_refuses : ClaimRefuses
claim_refuses = record {
  lost = lost;
  linked_by_none = linked_by_none_lem;
  on_two_queues = on_two_queues_lem;
  twice_on_one = twice_on_one_lem;
  out_of_order = out_of_order_lem;
  pending_at_rest = pending_at_rest_lem;
  linked_at_rest = linked_at_rest_lem;
}
