-- The example of T-10's second half, by computation.
-- Assumes nothing.
use mathlib.Core.Path.{◌≡◌, refl, sym, ap, ◌∙◌, subst}
use mathlib.Core.Bool.{true, false}
use mathlib.Core.List.{List, [], ◌∷◌, ◌++◌}
use Prim.Native.Nat.{ℕ, zero, suc, ◌<◌}
use native.Mathlib.Omega.{arith}
use lib.Dec.{lit≤}
use lib.ListN.{set, replicate, length-replicate, length-append}
use Rattle.word.specs.Word.{link_bits, link_bits-width}
use Rattle.word.specs.Ready.{is_ready}
use Rattle.calls.specs.Answers.{code_of}
use Rattle.calls.specs.Records.{idle_call, guest_idle, clear_idle}
use Rattle.machine.specs.Memory.{memory, zero_page}
use Rattle.machine.specs.Exec.{World, Stepped, exec_all}
use Rattle.machine.specs.Computes.{runs}
use Rattle.machine.specs.declared.types.Step.{Step}
use Rattle.queue.specs.Chain.Chain.{ends, goes}
use Rattle.queue.proofs.Cases.{either}
use Rattle.interleaving.specs.Rules.{Told, NoGuestCall}
use Rattle.interleaving.specs.Standing.{ready_word, Standing}
use Rattle.interleaving.specs.Progress.{services_in, ready, LowestReady, ServedInTurn}
use Rattle.interleaving.specs.ProgressExample.{opening, leaving, raising, before, serving, services, start, stood, ServedExample, TurnRefuses, ExampleProgress}
use Rattle.interleaving.proofs.DocumentRules.{document_rules}
use Rattle.interleaving.proofs.Example.{all_pass, pass_rules, exec_all-append}
use Rattle.interleaving.proofs.Progress.{served_in_turn}

module _ (rest : List ℕ) where
  passed : all_pass link_bits false (start rest) before ≡ true
  unfolding runs
  passed = refl

  -- worlds between the parts of the list
  abbrev world : (tails ledger heads : List ℕ) (local five nine twelve : ℕ) → List ℕ → World
  world tails ledger heads local five nine twelve block = record {
    domain = record { given = true; pages = 1; tails = tails; call = idle_call };
    ledger = ledger;
    guest = record { heads = heads; ready = local; words = 1024; call = guest_idle; clear = clear_idle };
    memory = memory (set (set (set (zero_page 0 (replicate 1024 1 ++ rest)) 5 five) 9 nine) 12 twelve) block;
  }

  -- entries of 5, 9 and 12, and of all others; READY, HEAD[3] and HEAD[7]
  abbrev ledger : ℕ → ℕ → ℕ → List ℕ
  ledger five nine twelve = set (set (set (replicate 13 7) 5 five) 9 nine) 12 twelve

  abbrev block : ℕ → ℕ → ℕ → List ℕ
  block bits three seven = set (set (set (replicate 18 0) 0 bits) 5 three) 9 seven

  abbrev none : List ℕ
  none = replicate 16 0

  abbrev bound : World
  bound = world none (ledger 0x103 0x103 0x107) none 0 0 0 0 (block 0 0 0)

  abbrev left : World
  left = world (set none 3 9) (ledger 0x333 0x333 0x107) (set none 3 9) 0x8 0 0xA0000000 0 (block 0 5 0)

  abbrev here : World
  here = world (set (set none 3 5) 7 12) (ledger 0x333 0x333 0x377) (set none 3 9) 0x8 0xE0000000 0xA0000005 0xA0000000 (block 0x80 5 12)

  part_1 : (exec_all link_bits (start rest) opening).world ≡ bound
  unfolding runs
  part_1 = refl

  part_2 : (exec_all link_bits bound leaving).world ≡ left
  unfolding runs
  part_2 = refl

  part_3 : (exec_all link_bits left raising).world ≡ here
  unfolding runs
  part_3 = refl

  world_append : (w : World) (a b : List Step) → (exec_all link_bits w (a ++ b)).world ≡ (exec_all link_bits (exec_all link_bits w a).world b).world
  world_append w a b = ap (λ (s : Stepped). s.world) (exec_all-append link_bits w a b)

  is : stood rest ≡ here
  is = world_append (start rest) opening (leaving ++ raising) ∙ ap (λ w. (exec_all link_bits w (leaving ++ raising)).world) part_1 ∙ world_append bound leaving raising ∙ ap (λ w. (exec_all link_bits w raising).world) part_2 ∙ part_3

  told : Told here
  told = refl

  idle : NoGuestCall here
  unfolding runs
  idle = record { service = refl; clear = refl }

  three : Standing link_bits here 3 (9 ∷ 5 ∷ [])
  unfolding runs
  three = goes refl (λ (e : ◌≡◌ {A = ℕ} 9 0). omega arith) (goes refl (λ (e : ◌≡◌ {A = ℕ} 5 0). omega arith) (ends refl))

  seven : Standing link_bits here 7 (12 ∷ [])
  unfolding runs
  seven = goes refl (λ (e : ◌≡◌ {A = ℕ} 12 0). omega arith) (ends refl)

  least : (r : ℕ) → r < 3 → ready here r ≡ false
  unfolding runs
  least zero lt = refl
  least (suc zero) lt = refl
  least (suc (suc zero)) lt = refl
  least (suc (suc (suc r))) lt = absurd (omega arith)

  lowest : LowestReady here 3
  unfolding runs
  lowest = record { queue = lit≤ tt; set = refl; least = least }

  served : services_in 0 (exec_all link_bits here serving).events ≡ services
  unfolding runs code_of
  served = refl

  at : (P : World → Type 0) → P here → P (stood rest)
  at P h = subst P (sym is) h

  pub served_example : ServedExample rest
  unfolding runs
  served_example = record {
    rules = pass_rules link_bits false (start rest) before passed;
    told = at Told told;
    idle = at NoGuestCall idle;
    only = refl;
    three = at (λ w. Standing link_bits w 3 (9 ∷ 5 ∷ [])) three;
    seven = at (λ w. Standing link_bits w 7 (12 ∷ [])) seven;
    lowest = at (λ w. LowestReady w 3) lowest;
    left_over = at (λ w. is_ready 3 w.guest.ready ≡ true) refl;
    not_in_ready = at (λ w. is_ready 3 (ready_word w) ≡ false) refl;
    in_ready = at (λ w. is_ready 7 (ready_word w) ≡ true) refl;
    served = at (λ w. services_in 0 (exec_all link_bits w serving).events ≡ services) served;
  }

pub turn_refuses : (w : World) → TurnRefuses w
unfolding code_of
turn_refuses w = record {
  swapped = λ t. omega (arith, (t.takes 0 (lit≤ tt) (lit≤ tt)).port);
  higher_first = λ t. omega (arith, (t.takes 1 (lit≤ tt) (lit≤ tt)).port);
  idle_early = λ t. either (t.takes 1 (lit≤ tt) (lit≤ tt)).number (λ e. omega arith) (λ e. omega arith);
  never_idle = λ t. omega (arith, t.idle 3 (lit≤ tt) (lit≤ tt));
  slow = λ t. omega (arith, t.within 1);
  not_lowest = λ l t. omega (arith, (t.lowest 7 l 0 (lit≤ tt) (lit≤ tt)).port);
}

pub example_progress : ExampleProgress
unfolding ServedInTurn
example_progress rest enough =
    served_in_turn link_bits-width (replicate 1024 1 ++ rest) 13 before (rw (length-append (replicate 1024 1) rest, length-replicate {A = ℕ} 1024 1) enough)
    (document_rules link_bits (replicate 1024 1 ++ rest) 13 before (served_example rest).rules) (served_example rest).told (served_example rest).idle
