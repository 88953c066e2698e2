-- The example of demand 3, by computation.
-- Assumes nothing.
use mathlib.Core.Path.{◌≡◌, refl, sym, ap, subst, ◌∙◌}
use mathlib.Core.Bool.{Bool, true, false, not, ◌&&◌, and_assoc}
use mathlib.Core.List.{List, [], ◌∷◌, ◌++◌, append_assoc}
use Prim.Native.Nat.{ℕ, ◌<◌}
use native.Mathlib.Omega.{arith}
use lib.Dec.{leb}
use lib.ListN.{set, replicate, length-replicate, length-append}
use borrow.Author.Tests.{leb-true, not-true}
use Rattle.word.specs.declared.Flag.TheVariants.{Linked, Busy}
use Rattle.word.specs.Word.{link_bits, link_bits-width, has, port_at, queue_at}
use Rattle.word.proofs.ReadyLaws.{ready_zero}
use Rattle.calls.specs.declared.types.Answer.TheVariants.{Done, CallUnderWay, NoCall, CallUnmask}
use Rattle.calls.specs.declared.types.Owner.TheVariants as owner
use Rattle.calls.specs.declared.types.Stage.TheVariants as stage
use Rattle.calls.specs.declared.types.Call.{Call}
use Rattle.calls.specs.declared.types.GuestStage.TheVariants as guest_stage
use Rattle.calls.specs.declared.types.GuestCall.{GuestCall}
use Rattle.calls.specs.Records.{is_free, call_at, idle_call, guest_call_at, guest_idle, is_clearing, clear_idle}
use Rattle.calls.specs.Guest.{is_serving}
use Rattle.machine.specs.Memory.{memory, zero_page}
use Rattle.machine.specs.Exec.{World, exec, exec_all}
use Rattle.machine.specs.Computes.{runs}
use Rattle.machine.specs.declared.types.Side.TheVariants as side
use Rattle.machine.specs.declared.types.GuestStart.TheVariants.{Service, Mask, ClearMask, Tell}
use Rattle.machine.specs.declared.types.Step.{Step}
use Rattle.machine.specs.declared.types.Step.TheVariants as step
use Rattle.machine.specs.declared.types.Event.{Event}
use Rattle.machine.specs.declared.types.Event.TheVariants.{HypervisorAnswer, GuestAnswer}
use Rattle.claims.proofs.HypervisorReach.{zeros}
use Rattle.queue.specs.Chain.Chain.{ends, goes}
use Rattle.queue.proofs.Cases.{and_both}
use Rattle.interleaving.specs.Fresh.{array_words, word_at}
use Rattle.interleaving.specs.Rules.{tell_due, AllowedByDocument, KeepsDocumentRules}
use Rattle.interleaving.specs.Histories.{taken_in, given_out}
use Rattle.interleaving.specs.Standing.{ready_word, start_of, Standing}
use Rattle.interleaving.specs.Held.{HeldByLinker, HeldByGuest}
use Rattle.interleaving.specs.Claim.{Rest}
use Rattle.interleaving.specs.Demand3.{Demand3ByDocument}
use Rattle.interleaving.specs.Busy.{HasSetBusy}
use Rattle.interleaving.specs.Example.{linking, refused_start, refused_reply, raising, unmasking, expanding, clearing, marking, leaving, serving, holding, ending, raised, grown, marked, taking, example, start, answers, OnNoQueue, ExampleHolds, ExampleClaim}
use Rattle.interleaving.proofs.HistoryLaws.{taken_append, given_append}
use Rattle.interleaving.proofs.DocumentRules.{demand3_by_document}

-- ---- document 01's rules as a test
abbrev pub passes : Bool → World → Step → Bool
passes due w (step.Hypervisor s) = not due
passes due w (step.Guest Service) = not due
passes due w (step.Guest (Mask p)) = not due
passes due w (step.Guest (ClearMask p)) = not due
passes due w (step.Guest (Tell words)) = leb words (array_words w)
passes due w (step.Perform s) = not due
passes due w (step.HandBack side.Hypervisor word) = not due && is_free w.domain.call.owner
passes due w (step.HandBack side.Guest word) = not due && (not (is_serving w.guest.call.stage) && not (is_clearing w.guest.clear.stage))

pass_allowed : (due : Bool) (w : World) (s : Step) → passes due w s ≡ true → AllowedByDocument due w s
pass_allowed due w (step.Hypervisor s) e = not-true due e
pass_allowed due w (step.Guest Service) e = not-true due e
pass_allowed due w (step.Guest (Mask p)) e = not-true due e
pass_allowed due w (step.Guest (ClearMask p)) e = not-true due e
pass_allowed due w (step.Guest (Tell words)) e = leb-true words (array_words w) e
pass_allowed due w (step.Perform s) e = not-true due e
pass_allowed due w (step.HandBack side.Hypervisor word) e = let d = and_both (not due) _ e in (not-true due d.0, d.1)
pass_allowed due w (step.HandBack side.Guest word) e =
    let d = and_both (not due) _ e in
    let f = and_both (not (is_serving w.guest.call.stage)) (not (is_clearing w.guest.clear.stage)) d.1 in
    (not-true due d.0, record { service = not-true (is_serving w.guest.call.stage) f.0; clear = not-true (is_clearing w.guest.clear.stage) f.1 })

abbrev pub all_pass : ℕ → Bool → World → List Step → Bool
all_pass n due w [] = true
all_pass n due w (s ∷ ss) = passes due w s && all_pass n (tell_due due w s (exec n w s).world) (exec n w s).world ss

pub pass_rules : (n : ℕ) (due : Bool) (w : World) (ss : List Step) → all_pass n due w ss ≡ true → KeepsDocumentRules n due w ss
pass_rules n due w [] e = tt
pass_rules n due w (s ∷ ss) e =
    let d = and_both (passes due w s) (all_pass n (tell_due due w s (exec n w s).world) (exec n w s).world ss) e in
    (pass_allowed due w s d.0, pass_rules n (tell_due due w s (exec n w s).world) (exec n w s).world ss d.1)

-- ---- a part of the list: from one world to another, with what queues 7 and 3 took in and gave out. Worlds are written out between
-- the parts, so that none is computed from the start again.

record Flow : Type 0 where
  taken : List ℕ
  given : List ℕ
  taken_3 : List ℕ
  given_3 : List ℕ

abbrev flow_of : List Event → Flow
flow_of es = record { taken = taken_in 7 es; given = given_out 7 es; taken_3 = taken_in 3 es; given_3 = given_out 3 es }

abbrev both : Flow → Flow → Flow
both f h = record { taken = f.taken ++ h.taken; given = f.given ++ h.given; taken_3 = f.taken_3 ++ h.taken_3; given_3 = f.given_3 ++ h.given_3 }

record Ran : Type 0 where
  world : World
  flow : Flow
  due : Bool
  passed : Bool

-- whether a tell is due after a list
abbrev due_after : Bool → World → List Step → Bool
due_after due w [] = due
due_after due w (s ∷ ss) = due_after (tell_due due w s (exec link_bits w s).world) (exec link_bits w s).world ss

abbrev ran : World → List Step → Ran
ran w ss = record { world = (exec_all link_bits w ss).world; flow = flow_of (exec_all link_bits w ss).events; due = due_after false w ss; passed = all_pass link_bits false w ss }

-- to the world v, with that flow; the rules are kept, and no tell is due afterwards
record Part (w : World) (ss : List Step) (v : World) (f : Flow) : Type 0 where
  is : ran w ss ≡ record { world = v; flow = f; due = false; passed = true }

pub exec_all-append : (n : ℕ) (w : World) (a b : List Step) → exec_all n w (a ++ b)
    ≡ record { world = (exec_all n (exec_all n w a).world b).world; events = (exec_all n w a).events ++ (exec_all n (exec_all n w a).world b).events }
unfolding exec_all
exec_all-append n w [] b = refl
exec_all-append n w (s ∷ a) b =
    rw (exec_all-append n (exec n w s).world a b)
    (ap (λ (es : List Event). record { world = (exec_all n (exec_all n w (s ∷ a)).world b).world; events = es }) (sym (append_assoc (exec n w s).events _ _)))

due_append : (due : Bool) (w : World) (a b : List Step) → due_after due w (a ++ b) ≡ due_after (due_after due w a) (exec_all link_bits w a).world b
unfolding exec_all
due_append due w [] b = refl
due_append due w (s ∷ a) b = due_append (tell_due due w s (exec link_bits w s).world) (exec link_bits w s).world a b

pass_append : (due : Bool) (w : World) (a b : List Step) → all_pass link_bits due w (a ++ b) ≡ all_pass link_bits due w a && all_pass link_bits (due_after due w a) (exec_all link_bits w a).world b
unfolding exec_all
pass_append due w [] b = refl
pass_append due w (s ∷ a) b = rw (pass_append (tell_due due w s (exec link_bits w s).world) (exec link_bits w s).world a b) (sym (and_assoc (passes due w s) _ _))

-- one part after another
abbrev followed : List Step → Ran → Ran
followed b x = record {
  world = (exec_all link_bits x.world b).world;
  flow = both x.flow (flow_of (exec_all link_bits x.world b).events);
  due = due_after x.due x.world b;
  passed = x.passed && all_pass link_bits x.due x.world b;
}

ran_append : (w : World) (a b : List Step) → ran w (a ++ b) ≡ followed b (ran w a)
ran_append w a b = rw (exec_all-append link_bits w a b, due_append false w a b, pass_append false w a b) (simp (taken_append, given_append))

then : {w v u : World} {a b : List Step} {f h : Flow} → Part w a v f → Part v b u h → Part w (a ++ b) u (both f h)
then {w} {v} {u} {a} {b} {f} p q = record { is = ran_append w a b ∙ ap (followed b) p.is ∙ ap (λ (y : Ran). record { world = y.world; flow = both f y.flow; due = y.due; passed = y.passed }) q.is }

-- ---- the worlds between the parts

abbrev world : (pages words : ℕ) (tails : List ℕ) → Call → List ℕ → List ℕ → ℕ → GuestCall → List ℕ → List ℕ → World
world pages words tails c ledger heads local s memory-words block = record {
  domain = record { given = true; pages = pages; tails = tails; call = c };
  ledger = ledger;
  guest = record { heads = heads; ready = local; words = words; call = s; clear = clear_idle };
  memory = memory memory-words block;
}

abbrev no_tails : List ℕ
no_tails = replicate 16 0

abbrev one_entry : List ℕ
one_entry = set (replicate 1031 7) 5 0x377

abbrev two_entries : List ℕ
two_entries = set one_entry 9 0x377

-- READY, HEAD[7], HEAD[3]
abbrev block : ℕ → ℕ → ℕ → List ℕ
block ready seven three = set (set (set (replicate 18 0) 0 ready) 9 seven) 5 three

module _ (rest : List ℕ) where
  abbrev page : ℕ → ℕ → List ℕ
  page five nine = set (set (zero_page 0 (replicate 2048 1 ++ rest)) 5 five) 9 nine

  abbrev pages : ℕ → ℕ → ℕ → ℕ → List ℕ
  pages five nine twelve last = set (set (zero_page 1 (page five nine)) 12 twelve) 1030 last

  abbrev linked : World
  linked = world 1 1024 no_tails (call_at owner.Raise stage.R5 (port_at 5) (queue_at 7) 3) one_entry no_tails 0 guest_idle (page 0xA0000000 0) (block 0 0 0)

  abbrev standing : World
  standing = world 1 1024 (set no_tails 7 9) idle_call two_entries no_tails 0 guest_idle (page 0xA0000009 0xA0000000) (block 0x80 5 0)

  abbrev unmasked : World
  unmasked = world 1 1024 (set no_tails 7 5) idle_call two_entries (set no_tails 7 9) 0x80 guest_idle (page 0xA0000000 0xA0000005) (block 0 5 0)

  abbrev expanded : World
  expanded = world 2 2048 (set (set no_tails 7 5) 3 1030) idle_call (set two_entries 1030 0x333) (set no_tails 7 9) 0x80 guest_idle (pages 0xA0000000 0xA0000005 0 0xA0000000) (block 0x8 5 1030)

  -- the raise of 12 compares the tail's word with BUSY
  abbrev busied : World
  busied = world 2 2048 (set (set no_tails 7 5) 3 1030) (record { owner = owner.Raise; stage = stage.R4; port = port_at 12; queue = queue_at 3; word = 0xF0000000; tries = 2; count = 6 })
      (set (set two_entries 1030 0x333) 12 0x333) (set no_tails 7 9) 0x80 guest_idle (pages 0xA0000000 0xA0000005 0xA0000000 0xF0000000) (block 0x8 5 1030)

  abbrev behind : World
  behind = world 2 2048 (set (set no_tails 7 5) 3 12) idle_call (set (set two_entries 1030 0x333) 12 0x333) (set no_tails 7 9) 0x80 guest_idle (pages 0xA0000000 0xA0000005 0xA0000000 0xA000000C) (block 0x8 5 1030)

  abbrev served : World
  served = world 2 2048 (set (set no_tails 7 5) 3 12) idle_call (set (set two_entries 1030 0x237) 12 0x333) (set no_tails 7 9) 0x80 guest_idle (pages 0xA0000000 0xA0000005 0 0) (block 0 5 1030)

  abbrev taken : World
  taken = world 2 2048 (set (set no_tails 7 5) 3 12) idle_call (set (set two_entries 1030 0x237) 12 0x333) no_tails 0 (guest_call_at guest_stage.G3 (port_at 5) (queue_at 7) 3) (pages 0x80000000 0 0 0) (block 0 5 1030)

  abbrev resting : World
  resting = world 2 2048 (set (set no_tails 7 5) 3 12) idle_call (set (set two_entries 1030 0x237) 12 0x333) no_tails 0 guest_idle (pages 0 0 0 0) (block 0 5 1030)

  abbrev quiet : Flow
  quiet = record { taken = []; given = []; taken_3 = []; given_3 = [] }

  part_1 : Part (start rest) linking linked quiet
  unfolding runs
  part_1 = record { is = refl }

  part_2 : Part linked raising standing (record { taken = 5 ∷ 9 ∷ []; given = []; taken_3 = []; given_3 = [] })
  unfolding runs
  part_2 = record { is = refl }

  part_3 : Part standing unmasking unmasked (record { taken = 5 ∷ []; given = 5 ∷ []; taken_3 = []; given_3 = [] })
  unfolding runs
  part_3 = record { is = refl }

  part_4 : Part unmasked expanding expanded (record { taken = []; given = []; taken_3 = 1030 ∷ []; given_3 = [] })
  unfolding runs
  part_4 = record { is = refl }

  part_5 : Part expanded clearing expanded quiet
  unfolding runs
  part_5 = record { is = refl }

  part_6 : Part expanded marking busied quiet
  unfolding runs
  part_6 = record { is = refl }

  part_7 : Part busied leaving behind (record { taken = []; given = []; taken_3 = 12 ∷ []; given_3 = [] })
  unfolding runs
  part_7 = record { is = refl }

  part_8 : Part behind serving served (record { taken = []; given = []; taken_3 = []; given_3 = 1030 ∷ 12 ∷ [] })
  unfolding runs
  part_8 = record { is = refl }

  part_9 : Part served holding taken (record { taken = []; given = 9 ∷ 5 ∷ []; taken_3 = []; given_3 = [] })
  unfolding runs
  part_9 = record { is = refl }

  part_10 : Part taken ending resting quiet
  unfolding runs
  part_10 = record { is = refl }

  to_standing : Part (start rest) raised standing (record { taken = 5 ∷ 9 ∷ []; given = []; taken_3 = []; given_3 = [] })
  to_standing = then part_1 part_2

  to_expanded : Part (start rest) grown expanded (record { taken = 5 ∷ 9 ∷ 5 ∷ []; given = 5 ∷ []; taken_3 = 1030 ∷ []; given_3 = [] })
  to_expanded = then to_standing (then part_3 part_4)

  to_busied : Part (start rest) marked busied (record { taken = 5 ∷ 9 ∷ 5 ∷ []; given = 5 ∷ []; taken_3 = 1030 ∷ []; given_3 = [] })
  to_busied = then to_expanded (then part_5 part_6)

  to_taken : Part (start rest) taking taken (record { taken = 5 ∷ 9 ∷ 5 ∷ []; given = 5 ∷ 9 ∷ 5 ∷ []; taken_3 = 1030 ∷ 12 ∷ []; given_3 = 1030 ∷ 12 ∷ [] })
  to_taken = then to_busied (then part_7 (then part_8 part_9))

  to_rest : Part (start rest) example resting (record { taken = 5 ∷ 9 ∷ 5 ∷ []; given = 5 ∷ 9 ∷ 5 ∷ []; taken_3 = 1030 ∷ 12 ∷ []; given_3 = 1030 ∷ 12 ∷ [] })
  to_rest = then to_taken part_10

  -- ---- what holds of those worlds

  reached : {w v : World} {ss : List Step} {f : Flow} (P : World → Type 0) → Part w ss v f → P v → P (exec_all link_bits w ss).world
  reached P p h = subst P (sym (ap (λ (y : Ran). y.world) p.is)) h

  -- where heads and bits are 0, no queue starts
  no_start : (w : World) → w.guest.heads ≡ replicate 16 0 → w.guest.ready ≡ 0 → ready_word w ≡ 0 → (q : ℕ) → start_of w q ≡ 0
  no_start w h l r q = rw (h, zeros 16 q, l, r, ready_zero q)

  none_stand : (w : World) → w.guest.heads ≡ replicate 16 0 → w.guest.ready ≡ 0 → ready_word w ≡ 0 → (q : ℕ) → q < 16 → Standing link_bits w q []
  none_stand w h l r q lt = ends (no_start w h l r q)

  stand : Standing link_bits standing 7 (5 ∷ 9 ∷ [])
  unfolding runs
  stand = goes refl (λ (e : ◌≡◌ {A = ℕ} 5 0). omega arith) (goes refl (λ (e : ◌≡◌ {A = ℕ} 9 0). omega arith) (ends refl))

  at_rest_lem : Rest resting
  unfolding is_free is_serving is_clearing
  at_rest_lem = record { hypervisor = refl; guest = refl; clearing = refl; local = λ q lt. ready_zero q; ready = λ q lt. ready_zero q }

  held_by_raise_lem : OnNoQueue linked 5 × (has Linked (word_at linked 5) ≡ true) × HeldByLinker linked.domain.call 5
  unfolding runs
  held_by_raise_lem = (record { pending = refl; unmasked = refl; empty = none_stand linked refl refl refl }, refl, record { holds = record { linking = refl; port = refl }; linked = refl })

  held_by_service_lem : OnNoQueue taken 5 × HeldByGuest taken.guest.call 5
  unfolding runs
  held_by_service_lem = (record { pending = refl; unmasked = refl; empty = none_stand taken refl refl refl }, record { taken = refl; port = refl })

  clears : answers (exec_all link_bits expanded clearing).events ≡ GuestAnswer Done 1 ∷ GuestAnswer CallUnderWay 0 ∷ GuestAnswer Done 2 ∷ []
  unfolding runs
  clears = refl

  busy : HasSetBusy busied 1030 × (has Busy (word_at busied 1030) ≡ true)
  unfolding runs
  busy = (record { linking = refl; stage = refl; tail = refl }, refl)

  leaves : answers (exec_all link_bits busied leaving).events ≡ HypervisorAnswer Done 6 ∷ GuestAnswer CallUnmask 1 ∷ HypervisorAnswer Done 1 ∷ []
  unfolding runs
  leaves = refl

  fifteen : (exec link_bits linked refused_start).events ≡ HypervisorAnswer CallUnderWay 0 ∷ []
  unfolding runs
  fifteen = refl

  sixteen : (exec link_bits linked refused_reply).events ≡ GuestAnswer NoCall 0 ∷ []
  unfolding runs
  sixteen = refl

  pub example_holds : ExampleHolds rest
  example_holds = record {
    rules = pass_rules link_bits false (start rest) example (ap (λ (y : Ran). y.passed) to_rest.is);
    taken = ap (λ (y : Ran). y.flow.taken) to_rest.is;
    given = ap (λ (y : Ran). y.flow.given) to_rest.is;
    taken_3 = ap (λ (y : Ran). y.flow.taken_3) to_rest.is;
    given_3 = ap (λ (y : Ran). y.flow.given_3) to_rest.is;
    at_rest = reached Rest to_rest at_rest_lem;
    standing = reached (λ w. Standing link_bits w 7 (5 ∷ 9 ∷ [])) to_standing stand;
    held_by_raise = reached (λ w. OnNoQueue w 5 × (has Linked (word_at w 5) ≡ true) × HeldByLinker w.domain.call 5) part_1 held_by_raise_lem;
    held_by_service = reached (λ w. OnNoQueue w 5 × HeldByGuest w.guest.call 5) to_taken held_by_service_lem;
    cleared = reached (λ w. answers (exec_all link_bits w clearing).events ≡ GuestAnswer Done 1 ∷ GuestAnswer CallUnderWay 0 ∷ GuestAnswer Done 2 ∷ []) to_expanded clears;
    busy = reached (λ w. HasSetBusy w 1030 × (has Busy (word_at w 1030) ≡ true)) to_busied busy;
    left = reached (λ w. answers (exec_all link_bits w leaving).events ≡ HypervisorAnswer Done 6 ∷ GuestAnswer CallUnmask 1 ∷ HypervisorAnswer Done 1 ∷ []) to_busied leaves;
    fifteen = reached (λ w. (exec link_bits w refused_start).events ≡ HypervisorAnswer CallUnderWay 0 ∷ []) part_1 fifteen;
    sixteen = reached (λ w. (exec link_bits w refused_reply).events ≡ GuestAnswer NoCall 0 ∷ []) part_1 sixteen;
  }

pub example_claim : ExampleClaim
unfolding Demand3ByDocument
example_claim rest enough = demand3_by_document link_bits-width (replicate 2048 1 ++ rest) 1031 example (rw (length-append (replicate 2048 1) rest, length-replicate {A = ℕ} 2048 1) enough) (example_holds rest).rules
