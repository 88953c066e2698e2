-- What holds of all calls and replies of Hypervisor, Guest and ClearMask: the access named is the one that the record waits for, refusals
-- change nothing, little else changes, and counts are right. The proofs are in proofs/. n is the number of link bits.
-- Assumes nothing.
use Rattle.std.specs.Prelude.{Result, Ok, Err, ℕ, ◌+◌, ◌%◌, min, ◌≡◌, Bool, true, false, cond, not, ◌&&◌, List, [], ◌∷◌, ◌⊎◌, ◌≢◌, length, get_or, set, eqb, leb}
use Rattle.word.specs.declared.Port.{Port}
use Rattle.word.specs.declared.Priority.{Priority}
use Rattle.word.specs.Ready.{is_ready, merged, lowest}
use Rattle.word.specs.Entry.{last_queue}
use Rattle.calls.specs.declared.types.Access.{Access}
use Rattle.calls.specs.declared.types.Answer.{Answer}
use Rattle.calls.specs.declared.types.Answer.TheVariants.{StillLinked, BadIndex}
use Rattle.calls.specs.declared.types.Next.{Next}
use Rattle.calls.specs.declared.types.Next.TheVariants as next
use Rattle.calls.specs.declared.types.Made.{Made}
use Rattle.calls.specs.declared.types.Refused.{Refused}
use Rattle.calls.specs.declared.types.Owner.TheVariants as owner
use Rattle.calls.specs.declared.types.Stage.{Stage}
use Rattle.calls.specs.declared.types.Stage.TheVariants.{First, R2, R3, R4, SetBusy, ClearBusy, R5, R6}
use Rattle.calls.specs.declared.types.Call.{Call}
use Rattle.calls.specs.declared.types.Domain.{Domain}
use Rattle.calls.specs.declared.types.GuestStage.TheVariants.{G0, G1}
use Rattle.calls.specs.declared.types.Guest.{Guest}
use Rattle.calls.specs.declared.types.GuestOutcome.{GuestOutcome}
use Rattle.calls.specs.Answers.{code_of}
use Rattle.calls.specs.Records.{is_free, idle_call, with_call, guest_idle, is_clearing}
use Rattle.calls.specs.Hypervisor.{Turn, turn, answered, due_of, init_control, expand_array, bind_start, close_start, set_priority, raise_start, unmask_start, reply_of}
use Rattle.calls.specs.Guest.{is_serving, guest_answered, service_start, mask_of, tell_of}
use Rattle.calls.specs.ClearMask.{clear_mask_start, guest_reply, guest_due_of}

-- ---- acts: what either side can be asked

-- the start of one of the hypervisor's seven calls
pub data Start : Type 0 where
  InitControl : (vcpu frame frames offset : ℕ) → Start
  ExpandArray : (frame frames : ℕ) → Start
  Bind Close Raise Unmask : Port → Start
  SetPriority : Port → Priority → Start

-- a start, or a reply with the word seen; each with the ledger lent to it
pub data Act : Type 0 where
  Starts : Start → List ℕ → Act
  Replies : ℕ → List ℕ → Act

pub data GuestAct : Type 0 where
  Serves : GuestAct
  ClearsMask : Port → GuestAct
  GuestReplies : ℕ → GuestAct
  Tells : ℕ → GuestAct

abbrev pub start_of : ℕ → Domain → Start → List ℕ → Turn
start_of n d (InitControl vcpu frame frames offset) ledger = turn (init_control n d vcpu frame frames offset) ledger
start_of n d (ExpandArray frame frames) ledger = turn (expand_array n d frame frames) ledger
start_of n d (Bind p) ledger = bind_start n d ledger p
start_of n d (Close p) ledger = close_start n d ledger p
start_of n d (Raise p) ledger = raise_start n d ledger p
start_of n d (Unmask p) ledger = unmask_start n d ledger p
start_of n d (SetPriority p r) ledger = set_priority n d ledger p r

abbrev pub turn_of : ℕ → Domain → Act → Turn
turn_of n d (Starts s ledger) = start_of n d s ledger
turn_of n d (Replies seen ledger) = reply_of n d ledger seen

abbrev pub guest_turn_of : ℕ → Guest → GuestAct → GuestOutcome
guest_turn_of n g Serves = service_start n g
guest_turn_of n g (ClearsMask p) = clear_mask_start n g p
guest_turn_of n g (GuestReplies seen) = guest_reply n g seen
guest_turn_of n g (Tells words) = tell_of g words

abbrev pub lent : Act → List ℕ
lent (Starts s ledger) = ledger
lent (Replies seen ledger) = ledger

abbrev pub is_reply : Act → Bool
is_reply (Starts s ledger) = false
is_reply (Replies seen ledger) = true

abbrev pub is_guest_reply : GuestAct → Bool
is_guest_reply Serves = false
is_guest_reply (ClearsMask p) = false
is_guest_reply (GuestReplies seen) = true
is_guest_reply (Tells words) = false

-- the guest has a service and a clear_mask under way at a time: which acts are about the one, which about the other
abbrev pub is_services : Guest → GuestAct → Bool
is_services g Serves = true
is_services g (ClearsMask p) = false
is_services g (GuestReplies seen) = not (is_clearing g.clear.stage)
is_services g (Tells words) = true

abbrev pub is_clears : Guest → GuestAct → Bool
is_clears g Serves = false
is_clears g (ClearsMask p) = true
is_clears g (GuestReplies seen) = is_clearing g.clear.stage
is_clears g (Tells words) = false

-- ---- both sides as one: what an act leaves of a record and gives, and what the record says of the call under way; `own` are
-- the acts about that call

pub record Side (Record Request : Type 0) : Type 0 where
  pub after : Record → Request → Record
  pub gives : Record → Request → Next
  pub replies : Request → Bool
  pub own : Record → Request → Bool
  pub due : Record → Next
  pub under_way : Record → Bool
  pub count : Record → ℕ

abbrev pub hypervisor_side : ℕ → Side Domain Act
hypervisor_side n =
    record {
      after = λ d act. (turn_of n d act).outcome.domain;
      gives = λ d act. (turn_of n d act).outcome.next;
      replies = is_reply;
      own = λ d act. true;
      due = due_of n;
      under_way = λ d. not (is_free d.call.owner);
      count = λ d. d.call.count;
    }

-- the guest's side, by its service
abbrev pub guest_side : ℕ → Side Guest GuestAct
guest_side n =
    record {
      after = λ g act. (guest_turn_of n g act).guest;
      gives = λ g act. (guest_turn_of n g act).next;
      replies = is_guest_reply;
      own = is_services;
      due = guest_due_of n;
      under_way = λ g. is_serving g.call.stage;
      count = λ g. g.call.count;
    }

-- and by its clear_mask
abbrev pub clear_side : ℕ → Side Guest GuestAct
clear_side n =
    record {
      after = λ g act. (guest_turn_of n g act).guest;
      gives = λ g act. (guest_turn_of n g act).next;
      replies = is_guest_reply;
      own = is_clears;
      due = guest_due_of n;
      under_way = λ g. is_clearing g.clear.stage;
      count = λ g. g.clear.count;
    }

-- ---- due: an access that is named is the one that the record returned waits for

abbrev pub NamesDue : {Record Request : Type 0} → Side Record Request → Type 0
NamesDue {Record} {Request} side = (r : Record) (act : Request) (x : Access) → side.gives r act ≡ next.Access x → side.due (side.after r act) ≡ next.Access x

-- ---- refusals: the answers 3 to 18. A domain has sixteen tails, as its declared type says

abbrev pub is_refusal : Answer → Bool
is_refusal a = leb 3 (code_of a).number && leb (code_of a).number 18

-- but for 7, the record and the ledger stay and 0 is counted
abbrev pub RefusalsKeep : Type 0
RefusalsKeep =
    (n : ℕ) (d : Domain) (act : Act) (a : Answer) (count : ℕ) → (turn_of n d act).outcome.next ≡ next.Answer a count →
    is_refusal a ≡ true → a ≢ StillLinked → turn_of n d act ≡ turn (answered d a) (lent act)

-- 7 ends the bind under way, and no more
abbrev pub StillLinkedEnds : Type 0
StillLinkedEnds =
    (n : ℕ) (d : Domain) (act : Act) (count : ℕ) → length d.tails ≡ 16 → (turn_of n d act).outcome.next ≡ next.Answer StillLinked count →
    (d.call.owner ≡ owner.Bind) × (turn_of n d act ≡ turn (record { domain = with_call d idle_call; next = next.Answer StillLinked count }) (lent act))

-- but for 18, the guest's record stays and 0 is counted
abbrev pub GuestRefusalsKeep : Type 0
GuestRefusalsKeep =
    (n : ℕ) (g : Guest) (act : GuestAct) (a : Answer) (count : ℕ) → (guest_turn_of n g act).next ≡ next.Answer a count →
    is_refusal a ≡ true → a ≢ BadIndex → guest_turn_of n g act ≡ guest_answered g a

-- the service has ended, and of the heads and of the local bits only queue q's is now 0
pub record QueueCleared (g after : Guest) (local q : ℕ) : Type 0 where
  pub call : after.call ≡ guest_idle
  pub clear : after.clear ≡ g.clear
  pub words : after.words ≡ g.words
  pub head : get_or after.heads q 0 ≡ 0
  pub heads : (k : ℕ) → k ≢ q → get_or after.heads k 0 ≡ get_or g.heads k 0
  pub size : length after.heads ≡ length g.heads
  pub bit : is_ready q after.ready ≡ false
  pub bits : (k : ℕ) → k % 16 ≢ q % 16 → is_ready k after.ready ≡ is_ready k local

-- at G0 that queue is the lowest of the local bits with READY's merged in; at G1 it is the service's
abbrev pub ServedQueueCleared : Guest → ℕ → Guest → Type 0
ServedQueueCleared g seen after =
    ((g.call.stage ≡ G0) × QueueCleared g after (merged g.ready seen) (lowest (merged g.ready seen)))
    ⊎ ((g.call.stage ≡ G1) × QueueCleared g after g.ready g.call.queue.0)

-- 18 comes at a reply, and ends the service
abbrev pub BadIndexEnds : Type 0
BadIndexEnds =
    (n : ℕ) (g : Guest) (act : GuestAct) (count : ℕ) → (guest_turn_of n g act).next ≡ next.Answer BadIndex count →
    (seen : ℕ) × (act ≡ GuestReplies seen) × ServedQueueCleared g seen (guest_turn_of n g act).guest

-- ---- frame: at most one tail changes, and at most one entry of the ledger

-- the tails where a reply to the call c changes one; e is the entry of its port. R2 takes the tail of the port's last queue
-- away; R4, R5 and an abandoned link make the port the tail of the call's queue
abbrev pub tails_changed : Stage → Call → ℕ → List ℕ → List ℕ
tails_changed First c e tails = tails
tails_changed R2 c e tails = set tails (last_queue e) 0
tails_changed R3 c e tails = tails
tails_changed R4 c e tails = set tails c.queue.0 c.port.0
tails_changed SetBusy c e tails = tails
tails_changed ClearBusy c e tails = set tails c.queue.0 c.port.0
tails_changed R5 c e tails = set tails c.queue.0 c.port.0
tails_changed R6 c e tails = tails

abbrev pub tails_after : Domain → Act → List ℕ
tails_after d (Starts s ledger) = d.tails
tails_after d (Replies seen ledger) = tails_changed d.call.stage d.call (get_or ledger d.call.port.0 0) d.tails

-- no tail changes, or that one
abbrev pub OneTail : Type 0
OneTail =
    (n : ℕ) (d : Domain) (act : Act) → length d.tails ≡ 16 →
    ((turn_of n d act).outcome.domain.tails ≡ d.tails) ⊎ ((turn_of n d act).outcome.domain.tails ≡ tails_after d act)

-- entry k is that of the port that a start is given
abbrev pub starts_on : Start → ℕ → Bool
starts_on (InitControl vcpu frame frames offset) k = false
starts_on (ExpandArray frame frames) k = false
starts_on (Bind p) k = eqb k p.0
starts_on (Close p) k = eqb k p.0
starts_on (Raise p) k = eqb k p.0
starts_on (Unmask p) k = eqb k p.0
starts_on (SetPriority p r) k = eqb k p.0

-- or, at a reply, of the port of the call under way
abbrev pub is_about : Domain → Act → ℕ → Bool
is_about d (Starts s ledger) k = starts_on s k
is_about d (Replies seen ledger) k = eqb k d.call.port.0

-- two ledgers are equal but for the entries that pass a test
pub record EqualBut (test : ℕ → Bool) (before after : List ℕ) : Type 0 where
  pub size : length after ≡ length before
  pub others : (k : ℕ) → test k ≡ false → get_or after k 0 ≡ get_or before k 0

-- only the entry of the act's port changes
abbrev pub OneEntry : Type 0
OneEntry = (n : ℕ) (d : Domain) (act : Act) → EqualBut (is_about d act) (lent act) (turn_of n d act).ledger

-- ---- counts, over any list of acts

-- a record, and the number of accesses that its call under way has named
pub record Counting (Record : Type 0) : Type 0 where
  pub state : Record
  pub named : ℕ

-- of its own acts, a start that names an access has named one; a reply that does has named one more
abbrev pub named_after : Bool → Next → ℕ → ℕ
named_after reply (next.Answer a count) k = k
named_after false (next.Access x) k = 1
named_after true (next.Access x) k = k + 1

-- the count that is stored of k accesses
abbrev pub saturated : ℕ → ℕ
saturated k = min k 0xFFFFFFFF

module _ {Record Request : Type 0} (side : Side Record Request) where
  abbrev pub run_one : Counting Record → Request → Counting Record
  run_one s act =
      record { state = side.after s.state act; named = cond (side.own s.state act) (named_after (side.replies act) (side.gives s.state act) s.named) s.named }

  abbrev pub run : Counting Record → List Request → Counting Record
  run s [] = s
  run s (act ∷ acts) = run (run_one s act) acts

  -- an act ends the call under way
  abbrev pub ends_call : Record → Request → Bool
  ends_call r act = side.under_way r && not (side.under_way (side.after r act))

  -- the call under way has counted the accesses named, and an answer that ends it gives that count; any other answer to its own acts
  -- gives 0
  pub record Counted (s : Counting Record) : Type 0 where
    pub kept : side.under_way s.state ≡ true → side.count s.state ≡ saturated s.named
    pub given : (act : Request) (a : Answer) (count : ℕ) → side.own s.state act ≡ true → side.gives s.state act ≡ next.Answer a count → count ≡ cond (ends_call s.state act) (saturated s.named) 0

  -- from any record with no call under way, after any acts
  abbrev pub Counts : Type 0
  Counts = (r : Record) (acts : List Request) → side.under_way r ≡ false → Counted (run (record { state = r; named = 0 }) acts)

-- mask gives its access and its answer together, and counts 1; refused, it counts 0
abbrev pub mask_counted : Result Made Refused → Type 0
mask_counted (Ok m) = m.count ≡ 1
mask_counted (Err r) = (is_refusal r.answer ≡ true) × (r.count ≡ 0)

abbrev pub MaskCounts : Type 0
MaskCounts = (n : ℕ) (p : Port) (words : ℕ) → mask_counted (mask_of n p words)
