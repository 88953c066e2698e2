-- Demands 1 and 3 and T-10 of bytes, from the theorems over records.
-- Assumes nothing.
use Rattle.std.specs.Prelude.{Result}
use Prim.Native.Nat.{ℕ, zero, suc, ◌*◌, ◌≤◌}
use mathlib.Core.Path.{◌≡◌, refl, sym, ap, subst, ◌∙◌}
use mathlib.Core.Bool.{true, not}
use mathlib.Core.List.{List, [], ◌∷◌, ◌++◌, map}
use mathlib.Core.Logic.{◌≢◌}
use native.Mathlib.Omega.{arith}
use lib.ListN.{length, replicate, length-append, length-replicate}
use lib.Dec.{leb, lit≤}
use Rattle.word.specs.declared.Port.{Port}
use Rattle.word.specs.declared.Flag.TheVariants.{Masked}
use Rattle.word.specs.Word.{Width, link_bits, link_bits-width, mask, port_at}
use Rattle.calls.specs.declared.types.Place.TheVariants as place
use Rattle.calls.specs.declared.types.Access.{Access}
use Rattle.calls.specs.declared.types.Access.TheVariants.{Or}
use Rattle.calls.specs.declared.types.Next.TheVariants as next
use Rattle.calls.specs.declared.types.Made.{Made}
use Rattle.calls.specs.declared.types.Refused.{Refused}
use Rattle.calls.specs.declared.types.Guest.{Guest}
use Rattle.calls.specs.Answers.{code_of}
use Rattle.calls.specs.Records.{is_port}
use Rattle.calls.specs.Guest.{mask_of}
use Rattle.calls.specs.Claims as acts
use Rattle.calls.specs.Claims.{GuestAct, Serves, ClearsMask, GuestReplies, Tells, is_guest_reply, is_services, is_clears, hypervisor_side}
use Rattle.calls.proofs.Cases.{choose, no_access, same_access}
use Rattle.calls.proofs.HypervisorClaims.{names_due}
use Rattle.calls.proofs.GuestClaims.{guest_names_due}
use Rattle.machine.specs.Memory.{place_of}
use Rattle.machine.specs.Exec.{World, Stepped, exec_all}
use Rattle.machine.specs.declared.types.Side.TheVariants as side
use Rattle.machine.specs.declared.types.GuestStart.TheVariants.{Service, Mask, ClearMask, Tell}
use Rattle.machine.specs.declared.types.Step.{Step}
use Rattle.machine.specs.declared.types.Step.TheVariants as step
use Rattle.queue.proofs.Cases.{clash}
use Rattle.claims.specs.Reach.{Inside, MaskInside, array_words, call_limit, service_limit, clear_limit}
use Rattle.claims.proofs.HypervisorReach.{calls_bounded}
use Rattle.claims.proofs.GuestReach.{services_bounded, clears_bounded, masks_inside}
use Rattle.interleaving.specs.Fresh.{fresh_world}
use Rattle.interleaving.specs.Rules.{Told, NoGuestCall}
use Rattle.interleaving.specs.Claim.{Claim}
use Rattle.interleaving.specs.Lengths.{Lengths, LengthsOfCalls}
use Rattle.interleaving.specs.Progress.{only_services, rounds, Progress, ServedInTurn}
use Rattle.interleaving.specs.Demand3 as records
use Rattle.interleaving.specs.Example.{example}
use Rattle.interleaving.proofs.Theorem.{demand3}
use Rattle.interleaving.proofs.Lengths.{lengths_of_calls}
use Rattle.interleaving.proofs.Progress.{served_in_turn}
use Rattle.interleaving.proofs.DocumentRules.{document_rules}
use Rattle.interleaving.proofs.Example.{example_holds}
use Rattle.evtchn_fifo.specs.Encoded.{encoded_masking, encoded_answer}
use Rattle.evtchn_fifo.specs.Ledger.{entries}
use Rattle.evtchn_fifo.specs.Numbers.{narrow, put_number, put_numbers}
use Rattle.evtchn_fifo.specs.DomainRecord.{domain_size, domain_at, pages_at, put_next, put_call, put_domain}
use Rattle.evtchn_fifo.specs.GuestRecord.{guest_size, guest_at, words_at, put_service, put_clear, put_guest}
use Rattle.evtchn_fifo.specs.Hypervisor.{fresh_domain_bytes}
use Rattle.evtchn_fifo.specs.Guest.{mask_bytes, fresh_guest_bytes}
use Rattle.evtchn_fifo.specs.Claims.{Meant, MeantGuest}
use Rattle.evtchn_fifo.proofs.Meaning.{domain_calls}
use Rattle.evtchn_fifo.proofs.GuestMeaning.{guest_calls}
use Rattle.evtchn_fifo.proofs.Narrow.{narrow_numbers}
use Rattle.evtchn_fifo.proofs.BeyondBytes.{beyond_stays}
use Rattle.exported.specs.Decoded.{decoded_next, decoded_answer}
use Rattle.exported.specs.Run.{Bytes, world_of, fresh_bytes, stepped, run_bytes, narrow_step, LongEnough}
use Rattle.exported.specs.Demands.{Request, Starts, Replies, is_reply, domain_side, guest_side, clear_side, Demand1, ResultsAreDue, Demand3, LengthsOfBytes, BytesProgress, ServedBytes, ZerosAreFresh, ExampleOfBytes}
use Rattle.exported.proofs.Decoding.{access_back}
use Rattle.exported.proofs.ReadBack.{turn_back, due_back, guest_turn_back, guest_due_back}
use Rattle.exported.proofs.Meanings.{act_of, guest_act_of, request_means, guest_means, request_length, guest_length}
use Rattle.exported.proofs.Runs.{runs_long, runs_are_steps}
use Rattle.exported.proofs.Simulation.{Simulates, named_is_due, bounded_from}

-- ---- demand 1

is_reply_lem : (q : Request) → is_reply q ≡ acts.is_reply (act_of q)
is_reply_lem (Starts s t) = refl
is_reply_lem (Replies seen t) = refl

domain_simulates : {n : ℕ} → n ≢ 0 → Simulates (domain_side n) (hypervisor_side n) (λ d. 1024 * pages_at d) array_words (λ r. domain_size ≤ length r) domain_at act_of
unfolding domain_at
domain_simulates {n} some = record {
  fits = λ r f q. rw (request_length n r q) f;
  after = λ r f q. ap (λ (x : Meant). x.domain) (request_means n r f q);
  gives = λ r f q. ap (λ (x : Meant). decoded_next x.next) (request_means n r f q) ∙ turn_back n some (domain_at r) (act_of q);
  replies = is_reply_lem;
  own = λ r q. refl;
  due = λ r f. ap decoded_next ((domain_calls n).due r f) ∙ due_back n (domain_at r);
  under_way = λ r. refl;
  count = λ r. refl;
  words = λ r. refl;
}

is_guest_reply_lem : (act : GuestAct) → is_guest_reply act ≡ is_guest_reply (guest_act_of act)
is_guest_reply_lem Serves = refl
is_guest_reply_lem (ClearsMask p) = refl
is_guest_reply_lem (GuestReplies seen) = refl
is_guest_reply_lem (Tells words) = refl

is_services_lem : (g : Guest) (act : GuestAct) → is_services g act ≡ is_services g (guest_act_of act)
is_services_lem g Serves = refl
is_services_lem g (ClearsMask p) = refl
is_services_lem g (GuestReplies seen) = refl
is_services_lem g (Tells words) = refl

is_clears_lem : (g : Guest) (act : GuestAct) → is_clears g act ≡ is_clears g (guest_act_of act)
is_clears_lem g Serves = refl
is_clears_lem g (ClearsMask p) = refl
is_clears_lem g (GuestReplies seen) = refl
is_clears_lem g (Tells words) = refl

guest_simulates : (n : ℕ) → Simulates (guest_side n) (acts.guest_side n) words_at (λ g. g.words) (λ r. guest_size ≤ length r) guest_at guest_act_of
unfolding guest_at
guest_simulates n = record {
  fits = λ r f act. rw (guest_length n r act) f;
  after = λ r f act. ap (λ (x : MeantGuest). x.guest) (guest_means n r f act);
  gives = λ r f act. ap (λ (x : MeantGuest). decoded_next x.next) (guest_means n r f act) ∙ guest_turn_back n (guest_at r) (guest_act_of act);
  replies = is_guest_reply_lem;
  own = λ r act. is_services_lem (guest_at r) act;
  due = λ r f. ap decoded_next ((guest_calls n).due r f) ∙ guest_due_back n (guest_at r);
  under_way = λ r. refl;
  count = λ r. refl;
  words = λ r. refl;
}

clear_simulates : (n : ℕ) → Simulates (clear_side n) (acts.clear_side n) words_at (λ g. g.words) (λ r. guest_size ≤ length r) guest_at guest_act_of
unfolding guest_at
clear_simulates n = record {
  fits = (guest_simulates n).fits;
  after = (guest_simulates n).after;
  gives = (guest_simulates n).gives;
  replies = is_guest_reply_lem;
  own = λ r act. is_clears_lem (guest_at r) act;
  due = (guest_simulates n).due;
  under_way = λ r. refl;
  count = λ r. refl;
  words = λ r. refl;
}

fresh_length : (r : List ℕ) → domain_size ≤ length r → domain_size ≤ length (fresh_domain_bytes r).record_bytes
fresh_length r h = rw ((beyond_stays 0).fresh_domain_lem r).count h

fresh_guest_length : (r : List ℕ) → guest_size ≤ length r → guest_size ≤ length (fresh_guest_bytes r).record_bytes
fresh_guest_length r h = rw ((beyond_stays 0).fresh_guest_lem r).count h

module _ {n : ℕ} (wide : Width n) where
  some : n ≢ 0
  some e = let l = wide.least in omega arith

  -- an access of a mask is the one made
  abbrev NamesMade : ℕ → Result Made Refused → Type 0
  NamesMade words m = MaskInside words m → (x : Access) → decoded_next (encoded_masking m) ≡ next.Access x → Inside words (place_of x)

  names_made : (p : Port) (words : ℕ) → NamesMade words (mask_of n p words)
  unfolding mask_of encoded_masking encoded_answer code_of decoded_next decoded_answer
  names_made p words =
      choose (NamesMade words) (not (is_port n p.0)) (λ i x e. absurd (no_access e))
      (choose (NamesMade words) (leb words p.0) (λ i x e. absurd (no_access e))
      (λ i x e. subst (λ (z : Access). Inside words (place_of z)) (same_access (sym (access_back (Or (place.Word p) (mask Masked))) ∙ e)) i))

  mask_inside : (p words : ℕ) (x : Access) → decoded_next (mask_bytes n p words) ≡ next.Access x → Inside words (place_of x)
  unfolding mask_bytes
  mask_inside p words x e = names_made (port_at p) words (masks_inside n (port_at p) words) x (rw ((narrow_numbers wide).mask p words) at e)

  pub demand1_bytes : Demand1 n
  demand1_bytes = record {
    calls = λ r h. bounded_from (domain_side n) (hypervisor_side n) _ array_words (domain_simulates some) call_limit (fresh_domain_bytes r).record_bytes (fresh_length r h) (rw ((domain_calls n).fresh r h) (calls_bounded n));
    services = λ r h. bounded_from (guest_side n) (acts.guest_side n) words_at _ (guest_simulates n) service_limit (fresh_guest_bytes r).record_bytes (fresh_guest_length r h) (rw ((guest_calls n).fresh r h) (services_bounded n));
    clears = λ r h. bounded_from (clear_side n) (acts.clear_side n) words_at _ (clear_simulates n) clear_limit (fresh_guest_bytes r).record_bytes (fresh_guest_length r h) (rw ((guest_calls n).fresh r h) (clears_bounded n));
    masks = mask_inside;
  }

  pub results_are_due : ResultsAreDue n
  results_are_due = record {
    calls = named_is_due (domain_side n) (hypervisor_side n) (λ d. 1024 * pages_at d) array_words (domain_simulates some) (names_due n);
    services = named_is_due (guest_side n) (acts.guest_side n) words_at (λ g. g.words) (guest_simulates n) (guest_names_due n);
  }

  -- ---- demand 3

  fresh_is : (r t g lent : List ℕ) → domain_size ≤ length r → guest_size ≤ length g → world_of (fresh_bytes r t g lent) ≡ fresh_world lent (entries t)
  fresh_is r t g lent h k = rw ((domain_calls n).fresh r h, (domain_calls n).fresh_ledger t, (guest_calls n).fresh g k)

  module _ (r t g lent : List ℕ) (h : domain_size ≤ length r) (k : guest_size ≤ length g) where
    fresh_long : LongEnough (fresh_bytes r t g lent)
    fresh_long = record { domain = fresh_length r h; guest = fresh_guest_length g k }

    -- what a run makes of fresh bytes is what the machine makes of a fresh world
    run_is : (steps : List Step) → stepped (run_bytes n (fresh_bytes r t g lent) steps) ≡ exec_all n (fresh_world lent (entries t)) (map narrow_step steps)
    run_is steps = runs_are_steps wide (fresh_bytes r t g lent) steps fresh_long ∙ ap (λ (w : World). exec_all n w (map narrow_step steps)) (fresh_is r t g lent h k)

  pub demand3_bytes : Demand3 n
  unfolding records.Demand3
  demand3_bytes r t g lent steps h k enough rules =
      subst (λ (s : Stepped). Claim n s.world s.events) (sym (run_is r t g lent h k steps)) (demand3 wide lent (entries t) (map narrow_step steps) enough rules)

  -- ---- T-10

  pub lengths_bytes : LengthsOfBytes n
  unfolding LengthsOfCalls
  lengths_bytes r t g lent steps h k enough rules =
      subst (λ (s : Stepped). Lengths s.events) (sym (run_is r t g lent h k steps)) (lengths_of_calls wide lent (entries t) (map narrow_step steps) enough rules)

  -- services have no numbers that C could write wider
  narrow_services : (steps : List Step) → only_services steps ≡ true → map narrow_step steps ≡ steps
  narrow_services [] e = refl
  narrow_services (step.Hypervisor s ∷ ss) e = clash e refl
  narrow_services (step.Guest Service ∷ ss) e = ap (λ (l : List Step). step.Guest Service ∷ l) (narrow_services ss e)
  narrow_services (step.Guest (Mask p) ∷ ss) e = clash e refl
  narrow_services (step.Guest (ClearMask p) ∷ ss) e = clash e refl
  narrow_services (step.Guest (Tell words) ∷ ss) e = clash e refl
  narrow_services (step.Perform side.Hypervisor ∷ ss) e = clash e refl
  narrow_services (step.Perform side.Guest ∷ ss) e = ap (λ (l : List Step). step.Perform side.Guest ∷ l) (narrow_services ss e)
  narrow_services (step.HandBack s word ∷ ss) e = clash e refl

  rounds_only : (k : ℕ) → only_services (rounds k) ≡ true
  rounds_only zero = refl
  rounds_only (suc k) = rounds_only k

  services_are : (b : Bytes) → LongEnough b → (steps : List Step) → only_services steps ≡ true → (run_bytes n b steps).events ≡ (exec_all n (world_of b) steps).events
  services_are b long steps only = ap (λ (s : Stepped). s.events) (runs_are_steps wide b steps long ∙ ap (exec_all n (world_of b)) (narrow_services steps only))

  bytes_progress : (b : Bytes) → LongEnough b → Progress n (world_of b) → BytesProgress n b
  bytes_progress b long p = record {
    lists = p.lists;
    standing = p.standing;
    in_turn = λ steps only. rw (services_are b long steps only) (p.in_turn steps only);
    ends = λ k. rw (services_are b long (rounds k) (rounds_only k)) (p.ends k);
  }

  pub served_bytes_lem : ServedBytes n
  unfolding ServedInTurn
  served_bytes_lem r t g lent steps h k enough rules told idle =
      bytes_progress (run_bytes n (fresh_bytes r t g lent) steps).bytes (runs_long n (fresh_bytes r t g lent) steps (fresh_long r t g lent h k))
      (subst (λ w. Told w → NoGuestCall w → Progress n w) (sym (ap (λ (s : Stepped). s.world) (run_is r t g lent h k steps))) (served_in_turn wide lent (entries t) (map narrow_step steps) enough rules) told idle)

pub zeros_are_fresh : ZerosAreFresh
unfolding fresh_domain_bytes fresh_guest_bytes put_domain put_call put_next put_guest put_service put_clear put_number put_numbers
zeros_are_fresh = record { domain = refl; guest = refl }

pub example_of_bytes : ExampleOfBytes
unfolding narrow
example_of_bytes rest enough =
    demand3_bytes link_bits-width (replicate domain_size 0) (replicate 2062 0) (replicate guest_size 0) (replicate 2048 1 ++ rest) example (lit≤ tt) (lit≤ tt)
    (rw (length-append (replicate 2048 1) rest, length-replicate {A = ℕ} 2048 1) enough)
    (document_rules link_bits (replicate 2048 1 ++ rest) 1031 example (example_holds rest).rules)
