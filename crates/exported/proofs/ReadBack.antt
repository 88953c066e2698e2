-- Whatever a call or reply comes to is read back from its result: only init_control gives link bits, and these are not 0.
-- Assumes nothing.
use Rattle.std.specs.Prelude.{Option, Some, None, Result, Ok, Err}
use Prim.Native.Nat.{ℕ}
use mathlib.Core.Path.{◌≡◌, refl}
use mathlib.Core.Bool.{Bool, not}
use mathlib.Core.List.{List}
use mathlib.Core.Logic.{◌≢◌}
use lib.Dec.{eqb, ltb, leb}
use Rattle.word.specs.declared.Port.{Port}
use Rattle.word.specs.declared.Queue.{Queue}
use Rattle.word.specs.declared.Priority.{Priority}
use Rattle.word.specs.declared.Flag.TheVariants.{Pending, Masked, Linked, Busy}
use Rattle.word.specs.Word.{has, link}
use Rattle.word.specs.Effect.{cas_taken}
use Rattle.word.specs.Ready.{is_ready, merged}
use Rattle.word.specs.Entry.{bound}
use Rattle.calls.specs.declared.types.Place.TheVariants.{Word}
use Rattle.calls.specs.declared.types.Access.TheVariants.{Read}
use Rattle.calls.specs.declared.types.Answer.{Answer}
use Rattle.calls.specs.declared.types.Answer.TheVariants.{Done, LinkBits, NoCall}
use Rattle.calls.specs.declared.types.Next.{Next}
use Rattle.calls.specs.declared.types.Next.TheVariants as next
use Rattle.calls.specs.declared.types.Owner.{Owner}
use Rattle.calls.specs.declared.types.Owner.TheVariants as owner
use Rattle.calls.specs.declared.types.Stage.{Stage}
use Rattle.calls.specs.declared.types.Stage.TheVariants.{First, R2, R3, R4, SetBusy, ClearBusy, R5, R6}
use Rattle.calls.specs.declared.types.Call.{Call}
use Rattle.calls.specs.declared.types.Domain.{Domain}
use Rattle.calls.specs.declared.types.GuestStage.{GuestStage}
use Rattle.calls.specs.declared.types.GuestStage.TheVariants.{None, G0, G1, G2, G3, G4}
use Rattle.calls.specs.declared.types.ClearStage.{ClearStage}
use Rattle.calls.specs.declared.types.ClearStage.TheVariants as clear_stage
use Rattle.calls.specs.declared.types.ClearCall.{ClearCall}
use Rattle.calls.specs.declared.types.GuestCall.{GuestCall}
use Rattle.calls.specs.declared.types.Guest.{Guest}
use Rattle.calls.specs.declared.types.GuestOutcome.{GuestOutcome}
use Rattle.calls.specs.declared.hypervisor.stage.View.{View}
use Rattle.calls.specs.declared.hypervisor.stage.Move.{Move}
use Rattle.calls.specs.declared.guest.GuestMove.{GuestMove}
use Rattle.calls.specs.declared.clear_mask.ClearMove.{ClearMove}
use Rattle.calls.specs.declared.hypervisor.start.Begun.{Begun}
use Rattle.calls.specs.declared.hypervisor.start.Begun.TheVariants as begin
use Rattle.calls.specs.Answers.{code_of}
use Rattle.calls.specs.Records.{is_free, in_array, is_port, page_limit, entry_at, with_call, is_clearing}
use Rattle.calls.specs.Hypervisor.{Turn, is_offset, accept_init, accept_expand, entry_or14, accept_port, bind_entry, begin_bind, close_entry, begin_close, priority_entry, begin_priority, link_entry, begin_link, reply_r1, reply_u1, reply_bind, reply_close, reply_first_of, reply_first, reply_r2, reply_r3, after_first_cas, after_later_cas, reply_r4, reply_set_busy, reply_clear_busy, reply_r5, reply_r6, staged_at, staged, due, next_of, due_of, init_control_of, init_control, expand_array_of, expand_array, started, bind_start, close_start, set_priority, raise_start, unmask_start, view_of, moved, reply_found, reply_of}
use Rattle.calls.specs.Guest.{is_serving, takes_index, reply_g0, reply_g2, reply_g3, reply_g4, guest_staged_at, guest_staged, guest_due, guest_next, with_guest_call, service_start, guest_moved, guest_move, service_reply, tell_of}
use Rattle.calls.specs.ClearMask.{reply_read, reply_cas, clear_staged_at, clear_staged, clear_due, clear_next, clear_mask_start, guest_reply, guest_due_of}
use Rattle.calls.specs.Claims.{Act, Starts, Replies, Start, InitControl, ExpandArray, Bind, Close, Raise, Unmask, SetPriority, turn_of, GuestAct, Serves, ClearsMask, GuestReplies, Tells, guest_turn_of}
use Rattle.calls.proofs.Cases.{choose}
use Rattle.evtchn_fifo.specs.Encoded.{encoded_next, encoded_answer}
use Rattle.exported.specs.Decoded.{decoded_next, decoded_answer}
use Rattle.exported.proofs.Decoding.{access_back, decodes_encoded}

-- `unfolding codes` opens what encodes an answer and what reads it back
unfoldable codes : ℕ
unfolding encoded_next encoded_answer code_of decoded_next decoded_answer
codes = 0

abbrev pub ReadsBack : Next → Type 0
ReadsBack x = decoded_next (encoded_next x) ≡ x

-- an answer that is read back with any count
abbrev Plain : Answer → Type 0
Plain a = (count : ℕ) → ReadsBack (next.Answer a count)

-- ---- what comes next is an answer, or the access that is due

next_back : (n : ℕ) (d : Domain) (a : Answer) (count : ℕ) → Plain a → ReadsBack (next_of n d a count)
unfolding next_of encoded_next
next_back n d a count h = choose ReadsBack (is_free d.call.owner) (h count) (access_back (due n d.call _))

guest_next_back : (n : ℕ) (g : Guest) (a : Answer) (count : ℕ) → Plain a → ReadsBack (guest_next n g a count)
unfolding guest_next encoded_next
guest_next_back n g a count h = choose ReadsBack (not (is_serving g.call.stage)) (h count) (access_back (guest_due n g.call))

-- ---- init_control and expand_array

data Accepts : Result Unit Answer → Type 0 where
  refuses : {a : Answer} → Plain a → Accepts (Err a)
  accepts : Accepts (Ok tt)

accepts_init : (o : Owner) (given : Bool) (vcpu frame frames offset : ℕ) → Accepts (accept_init o given vcpu frame frames offset)
unfolding accept_init codes
accepts_init o given vcpu frame frames offset =
    choose Accepts (not (is_free o)) (refuses (λ k. refl))
    (choose Accepts (not (eqb vcpu 0)) (refuses (λ k. refl))
    (choose Accepts given (refuses (λ k. refl))
    (choose Accepts (leb frames frame) (refuses (λ k. refl))
    (choose Accepts (not (is_offset offset)) (refuses (λ k. refl)) accepts))))

accepts_expand : (n : ℕ) (o : Owner) (given : Bool) (pages frame frames : ℕ) → Accepts (accept_expand n o given pages frame frames)
unfolding accept_expand codes
accepts_expand n o given pages frame frames =
    choose Accepts (not (is_free o)) (refuses (λ k. refl))
    (choose Accepts (not given) (refuses (λ k. refl))
    (choose Accepts (leb (page_limit n) pages) (refuses (λ k. refl))
    (choose Accepts (leb frames frame) (refuses (λ k. refl)) accepts)))

init_back : (n : ℕ) → n ≢ 0 → (d : Domain) {x : Result Unit Answer} → Accepts x → ReadsBack (init_control_of n d x).next
unfolding encoded_next
init_back n some d (refuses h) = h 0
init_back n some d accepts = decodes_encoded.answer (LinkBits n) 0 (λ e. some (cc))

expand_back : (d : Domain) {x : Result Unit Answer} → Accepts x → ReadsBack (expand_array_of d x).next
unfolding codes
expand_back d (refuses h) = h 0
expand_back d accepts = refl

-- ---- the calls on a port

data AcceptsPort : Result ℕ Answer → Type 0 where
  refuses_port : {a : Answer} → Plain a → AcceptsPort (Err a)
  accepts_port : {e : ℕ} → AcceptsPort (Ok e)

data Begins : Result Begun Answer → Type 0 where
  refuses_call : {a : Answer} → Plain a → Begins (Err a)
  begins : {c : Call} → Begins (Ok (begin.UnderWay c))
  settles : {e : ℕ} → Begins (Ok (begin.Settled e))

entry_back : (found : Option ℕ) → AcceptsPort (entry_or14 found)
unfolding codes
entry_back None = refuses_port (λ k. refl)
entry_back (Some e) = accepts_port

accepts_port_lem : (n : ℕ) (o : Owner) (given : Bool) (p : Port) (found : Option ℕ) → AcceptsPort (accept_port n o given p found)
unfolding accept_port codes
accepts_port_lem n o given p found =
    choose AcceptsPort (not (is_free o)) (refuses_port (λ k. refl))
    (choose AcceptsPort (not given) (refuses_port (λ k. refl))
    (choose AcceptsPort (not (is_port n p.0)) (refuses_port (λ k. refl)) (entry_back found)))

module _ (pages : ℕ) (p : Port) where
  begins_bind : {x : Result ℕ Answer} → AcceptsPort x → Begins (bind_entry pages p x)
  unfolding codes
  begins_bind (refuses_port h) = refuses_call h
  begins_bind (accepts_port {e}) = choose Begins (bound e) (refuses_call (λ k. refl)) (choose Begins (in_array pages p.0) begins settles)

  begins_close : {x : Result ℕ Answer} → AcceptsPort x → Begins (close_entry pages p x)
  unfolding codes
  begins_close (refuses_port h) = refuses_call h
  begins_close (accepts_port {e}) = choose Begins (not (bound e)) (refuses_call (λ k. refl)) (choose Begins (in_array pages p.0) begins settles)

  begins_link : (starts : Owner) {x : Result ℕ Answer} → AcceptsPort x → Begins (link_entry starts pages p x)
  unfolding codes
  begins_link starts (refuses_port h) = refuses_call h
  begins_link starts (accepts_port {e}) = choose Begins (not (bound e)) (refuses_call (λ k. refl)) (choose Begins (not (in_array pages p.0)) (refuses_call (λ k. refl)) begins)

begins_priority : (r : Priority) {x : Result ℕ Answer} → AcceptsPort x → Begins (priority_entry r x)
unfolding codes
begins_priority r (refuses_port h) = refuses_call h
begins_priority r accepts_port = choose Begins (ltb 15 r.0) (refuses_call (λ k. refl)) settles

done_back : Plain Done
unfolding codes
done_back count = refl

started_back : (n : ℕ) (d : Domain) (ledger : List ℕ) (p : Port) {b : Result Begun Answer} → Begins b → ReadsBack (started n d ledger p b).outcome.next
unfolding started
started_back n d ledger p (refuses_call h) = h 0
started_back n d ledger p (begins {c}) = next_back n (with_call d c) Done 0 done_back
started_back n d ledger p settles = done_back 0

-- ---- a reply

abbrev Moves : Move → Type 0
Moves m = Plain m.answer

r4_back : (c : Call) (e seen : ℕ) → Moves (reply_r4 c e seen)
unfolding reply_r4 after_first_cas after_later_cas codes
r4_back c e seen =
    choose Moves (cas_taken seen c.word) (λ k. refl)
    (choose Moves (leb c.tries 1) (choose Moves (not (has Linked seen)) (λ k. refl) (λ k. refl))
    (choose Moves (not (has Linked seen)) (λ k. refl) (choose Moves (leb 5 c.tries) (λ k. refl) (λ k. refl))))

first_back : (o : Owner) (c : Call) (e seen : ℕ) → Moves (reply_first_of o c e seen)
unfolding reply_bind reply_close reply_r1 reply_u1 codes
first_back owner.None c e seen = λ k. refl
first_back owner.Bind c e seen = choose Moves (has Linked seen) (λ k. refl) (λ k. refl)
first_back owner.Close c e seen = λ k. refl
first_back owner.Raise c e seen = choose Moves (has Masked seen) (λ k. refl) (choose Moves (has Linked seen) (λ k. refl) (λ k. refl))
first_back owner.Unmask c e seen = choose Moves (not (has Pending seen)) (λ k. refl) (choose Moves (has Linked seen) (λ k. refl) (λ k. refl))

staged_back : (s : Stage) (c : Call) (e : ℕ) (v : View) (seen : ℕ) → Moves (staged_at s c e v seen)
unfolding reply_first reply_r2 reply_r3 reply_set_busy reply_clear_busy reply_r5 reply_r6 codes
staged_back First c e v seen = first_back c.owner c e seen
staged_back R2 c e v seen = choose Moves (has Linked seen) (λ k. refl) (λ k. refl)
staged_back R3 c e v seen = choose Moves (not (has Linked seen)) (λ k. refl) (λ k. refl)
staged_back R4 c e v seen = r4_back c e seen
staged_back SetBusy c e v seen = choose Moves (not (has Linked seen)) (λ k. refl) (λ k. refl)
staged_back ClearBusy c e v seen = choose Moves (has Linked c.word) (λ k. refl) (λ k. refl)
staged_back R5 c e v seen = λ k. refl
staged_back R6 c e v seen = choose Moves (is_ready c.queue.0 seen) (λ k. refl) (λ k. refl)

found_back : (n : ℕ) (d : Domain) (ledger : List ℕ) (seen : ℕ) (f : Option ℕ) → ReadsBack (reply_found n d ledger seen f).outcome.next
unfolding staged codes
found_back n d ledger seen None = refl
found_back n d ledger seen (Some e) = next_back n (moved d _) _ _ (staged_back d.call.stage d.call e (view_of d e) seen)

abbrev Turns : Turn → Type 0
Turns t = ReadsBack t.outcome.next

reply_back : (n : ℕ) (d : Domain) (ledger : List ℕ) (seen : ℕ) → Turns (reply_of n d ledger seen)
unfolding reply_of codes
reply_back n d ledger seen = choose Turns (is_free d.call.owner) refl (found_back n d ledger seen (entry_at ledger d.call.port.0))

-- ---- every turn

start_back : (n : ℕ) → n ≢ 0 → (d : Domain) (ledger : List ℕ) (s : Start) → Turns (turn_of n d (Starts s ledger))
unfolding init_control expand_array bind_start close_start set_priority raise_start unmask_start begin_bind begin_close begin_priority begin_link
start_back n some d ledger (InitControl vcpu frame frames offset) = init_back n some d (accepts_init _ _ vcpu frame frames offset)
start_back n some d ledger (ExpandArray frame frames) = expand_back d (accepts_expand n _ _ _ frame frames)
start_back n some d ledger (Bind p) = started_back n d ledger p (begins_bind _ p (accepts_port_lem n _ _ p _))
start_back n some d ledger (Close p) = started_back n d ledger p (begins_close _ p (accepts_port_lem n _ _ p _))
start_back n some d ledger (Raise p) = started_back n d ledger p (begins_link _ p owner.Raise (accepts_port_lem n _ _ p _))
start_back n some d ledger (Unmask p) = started_back n d ledger p (begins_link _ p owner.Unmask (accepts_port_lem n _ _ p _))
start_back n some d ledger (SetPriority p r) = started_back n d ledger p (begins_priority r (accepts_port_lem n _ _ p _))

pub turn_back : (n : ℕ) → n ≢ 0 → (d : Domain) (act : Act) → ReadsBack (turn_of n d act).outcome.next
turn_back n some d (Starts s ledger) = start_back n some d ledger s
turn_back n some d (Replies seen ledger) = reply_back n d ledger seen

pub due_back : (n : ℕ) (d : Domain) → ReadsBack (due_of n d)
unfolding codes
due_back n d = next_back n d NoCall 0 (λ k. refl)

-- ---- the guest's side

abbrev GuestMoves : GuestMove → Type 0
GuestMoves m = Plain m.answer

index_back : (c : GuestCall) (ready words : ℕ) (q : Queue) (index : ℕ) → GuestMoves (takes_index c ready words q index)
unfolding takes_index codes
index_back c ready words q index = choose GuestMoves (eqb index 0) (λ k. refl) (choose GuestMoves (leb words index) (λ k. refl) (λ k. refl))

guest_staged_back : (n : ℕ) (s : GuestStage) (c : GuestCall) (ready words head seen : ℕ) → GuestMoves (guest_staged_at n s c ready words head seen)
unfolding reply_g0 reply_g2 reply_g3 reply_g4 codes
guest_staged_back n None c ready words head seen = λ k. refl
guest_staged_back n G0 c ready words head seen =
    choose GuestMoves (eqb (merged ready seen) 0) (λ k. refl) (choose GuestMoves (eqb head 0) (λ k. refl) (index_back c (merged ready seen) words _ head))
guest_staged_back n G1 c ready words head seen = index_back c ready words c.queue seen
guest_staged_back n G2 c ready words head seen = choose GuestMoves (eqb (link n seen) 0) (λ k. refl) (λ k. refl)
guest_staged_back n G3 c ready words head seen = choose GuestMoves (not (has Pending seen)) (λ k. refl) (choose GuestMoves (has Masked seen) (λ k. refl) (λ k. refl))
guest_staged_back n G4 c ready words head seen = choose GuestMoves (has Pending seen) (λ k. refl) (λ k. refl)

abbrev GuestTurns : GuestOutcome → Type 0
GuestTurns o = ReadsBack o.next

-- a clear_mask
abbrev ClearMoves : ClearMove → Type 0
ClearMoves m = Plain m.answer

clear_staged_back : (s : ClearStage) (c : ClearCall) (seen : ℕ) → ClearMoves (clear_staged_at s c seen)
unfolding reply_read reply_cas codes
clear_staged_back clear_stage.None c seen = λ k. refl
clear_staged_back clear_stage.Read c seen =
    choose ClearMoves (not (has Masked seen)) (λ k. refl) (choose ClearMoves (has Pending seen) (λ k. refl) (choose ClearMoves (has Busy seen) (λ k. refl) (λ k. refl)))
clear_staged_back clear_stage.Cas c seen = choose ClearMoves (cas_taken seen c.word) (λ k. refl) (λ k. refl)

clear_next_back : (c : ClearCall) (a : Answer) (count : ℕ) → Plain a → ReadsBack (clear_next c a count)
unfolding clear_next encoded_next
clear_next_back c a count h = choose ReadsBack (is_clearing c.stage) (access_back (clear_due c)) (h count)

service_reply_back : (n : ℕ) (g : Guest) (seen : ℕ) → GuestTurns (service_reply n g seen)
unfolding service_reply guest_staged codes
service_reply_back n g seen =
    choose GuestTurns (not (is_serving g.call.stage)) refl
    (guest_next_back n (guest_moved g (guest_move n g seen)) _ _ (guest_staged_back n g.call.stage g.call g.ready g.words _ seen))

read_back : (p : Port) → ReadsBack (next.Access (Read (Word p)))
unfolding encoded_next
read_back p = access_back (Read (Word p))

pub guest_turn_back : (n : ℕ) (g : Guest) (act : GuestAct) → ReadsBack (guest_turn_of n g act).next
unfolding service_start tell_of clear_mask_start guest_reply clear_staged codes
guest_turn_back n g Serves =
    choose GuestTurns (is_clearing g.clear.stage) refl
    (choose GuestTurns (is_serving g.call.stage) refl (guest_next_back n (with_guest_call g _) Done 0 (λ k. refl)))
guest_turn_back n g (ClearsMask p) =
    choose GuestTurns (is_clearing g.clear.stage) refl
    (choose GuestTurns (not (is_port n p.0)) refl (choose GuestTurns (leb g.words p.0) refl (read_back p)))
guest_turn_back n g (GuestReplies seen) =
    choose GuestTurns (is_clearing g.clear.stage) (clear_next_back _ _ _ (clear_staged_back g.clear.stage g.clear seen)) (service_reply_back n g seen)
guest_turn_back n g (Tells words) = choose GuestTurns (ltb g.words words) refl refl

pub guest_due_back : (n : ℕ) (g : Guest) → ReadsBack (guest_due_of n g)
unfolding guest_due_of codes
guest_due_back n g = choose ReadsBack (is_clearing g.clear.stage) (access_back (clear_due g.clear)) (guest_next_back n g NoCall 0 (λ k. refl))
