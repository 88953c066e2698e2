-- Demands 1 and 3 and T-10 of the bytes that C sees, from bytes made fresh; zeroed records are such. n is the number of link bits.
-- Assumes nothing.
use Rattle.std.specs.Prelude.{ℕ, ◌+◌, ◌*◌, ◌^◌, ◌≤◌, ◌<◌, ◌≡◌, Bool, true, false, not, List, ◌++◌, map, length, replicate}
use Rattle.word.specs.Word.{link_bits}
use Rattle.calls.specs.declared.types.Access.{Access}
use Rattle.calls.specs.declared.types.Next.TheVariants as next
use Rattle.calls.specs.Records.{is_free, is_clearing}
use Rattle.calls.specs.Guest.{is_serving}
use Rattle.calls.specs.Claims.{Side, GuestAct, Serves, ClearsMask, GuestReplies, Tells, is_guest_reply, is_services, is_clears}
use Rattle.machine.specs.Memory.{place_of}
use Rattle.machine.specs.declared.types.Start.{Start}
use Rattle.machine.specs.declared.types.Step.{Step}
use Rattle.claims.specs.Reach.{Inside, BoundedFrom, call_limit, service_limit, clear_limit}
use Rattle.interleaving.specs.Fresh.{fresh_world}
use Rattle.interleaving.specs.Rules.{Told, NoGuestCall, KeepsRules}
use Rattle.interleaving.specs.Standing.{Standing}
use Rattle.interleaving.specs.Claim.{Claim}
use Rattle.interleaving.specs.Lengths.{Lengths}
use Rattle.interleaving.specs.Progress.{only_services, services_in, InTurn, rounds}
use Rattle.interleaving.specs.Example.{example}
use Rattle.evtchn_fifo.specs.Encoded.{Wrote, Carried}
use Rattle.evtchn_fifo.specs.Ledger.{entries}
use Rattle.evtchn_fifo.specs.DomainRecord.{domain_size, domain_at, pages_at}
use Rattle.evtchn_fifo.specs.GuestRecord.{guest_size, guest_at, words_at}
use Rattle.evtchn_fifo.specs.Hypervisor.{reply_bytes, due_bytes, fresh_domain_bytes}
use Rattle.evtchn_fifo.specs.Guest.{service_bytes, mask_bytes, tell_bytes, fresh_guest_bytes}
use Rattle.evtchn_fifo.specs.ClearMask.{clear_mask_bytes, guest_reply_bytes, guest_due_bytes}
use Rattle.exported.specs.Decoded.{decoded_next}
use Rattle.exported.specs.Run.{Bytes, world_of, fresh_bytes, start_bytes, run_bytes, narrow_step}

-- ---- demand 1: whatever is asked with any numbers, lent and handed back

-- what C asks of a domain's record, each time with the ledger's bytes that it lends
pub data Request : Type 0 where
  Starts : Start → List ℕ → Request
  Replies : ℕ → List ℕ → Request

abbrev pub is_reply : Request → Bool
is_reply (Starts s t) = false
is_reply (Replies seen t) = true

abbrev pub carried_by : ℕ → List ℕ → Request → Carried
carried_by n r (Starts s t) = start_bytes n r t s
carried_by n r (Replies seen t) = reply_bytes n r t seen

abbrev pub domain_side : ℕ → Side (List ℕ) Request
domain_side n =
    record {
      after = λ r q. (carried_by n r q).record_bytes;
      gives = λ r q. decoded_next (carried_by n r q).next;
      replies = is_reply;
      own = λ r q. true;
      due = λ r. decoded_next (due_bytes n r);
      under_way = λ r. not (is_free (domain_at r).call.owner);
      count = λ r. (domain_at r).call.count;
    }

abbrev pub wrote_by : ℕ → List ℕ → GuestAct → Wrote
wrote_by n r Serves = service_bytes n r
wrote_by n r (ClearsMask p) = clear_mask_bytes n r p.0
wrote_by n r (GuestReplies seen) = guest_reply_bytes n r seen
wrote_by n r (Tells words) = tell_bytes r words

-- by its service
abbrev pub guest_side : ℕ → Side (List ℕ) GuestAct
guest_side n =
    record {
      after = λ r act. (wrote_by n r act).record_bytes;
      gives = λ r act. decoded_next (wrote_by n r act).next;
      replies = is_guest_reply;
      own = λ r act. is_services (guest_at r) act;
      due = λ r. decoded_next (guest_due_bytes n r);
      under_way = λ r. is_serving (guest_at r).call.stage;
      count = λ r. (guest_at r).call.count;
    }

-- and by its clear_mask
abbrev pub clear_side : ℕ → Side (List ℕ) GuestAct
clear_side n =
    record {
      after = λ r act. (wrote_by n r act).record_bytes;
      gives = λ r act. decoded_next (wrote_by n r act).next;
      replies = is_guest_reply;
      own = λ r act. is_clears (guest_at r) act;
      due = λ r. decoded_next (guest_due_bytes n r);
      under_way = λ r. is_clearing (guest_at r).clear.stage;
      count = λ r. (guest_at r).clear.count;
    }

-- every access inside the array, or the guest's words, or the control block; twelve at most a call, five a service, two a clear_mask; a
-- mask's below its words
pub record Demand1 (n : ℕ) : Type 0 where
  pub calls : (r : List ℕ) → domain_size ≤ length r → BoundedFrom (domain_side n) (λ d. 1024 * pages_at d) call_limit (fresh_domain_bytes r).record_bytes
  pub services : (r : List ℕ) → guest_size ≤ length r → BoundedFrom (guest_side n) words_at service_limit (fresh_guest_bytes r).record_bytes
  pub clears : (r : List ℕ) → guest_size ≤ length r → BoundedFrom (clear_side n) words_at clear_limit (fresh_guest_bytes r).record_bytes
  pub masks : (p words : ℕ) (x : Access) → decoded_next (mask_bytes n p words) ≡ next.Access x → Inside words (place_of x)

-- a result that names an access names the one that is due of the bytes left: a host may make it without asking
pub record ResultsAreDue (n : ℕ) : Type 0 where
  pub calls : (r : List ℕ) (q : Request) (x : Access) → domain_size ≤ length r → (domain_side n).gives r q ≡ next.Access x → (domain_side n).due ((domain_side n).after r q) ≡ next.Access x
  pub services : (r : List ℕ) (act : GuestAct) (x : Access) → guest_size ≤ length r → (guest_side n).gives r act ≡ next.Access x → (guest_side n).due ((guest_side n).after r act) ≡ next.Access x

-- ---- demand 3: the claim of the world that the bytes are, after every list of steps that keeps the rules

abbrev pub Demand3 : ℕ → Type 0
Demand3 n =
    (r t g lent : List ℕ) (steps : List Step) → domain_size ≤ length r → guest_size ≤ length g → 2 ^ n ≤ length lent →
    KeepsRules n (fresh_world lent (entries t)) (map narrow_step steps) →
    Claim n (world_of (run_bytes n (fresh_bytes r t g lent) steps).bytes) (run_bytes n (fresh_bytes r t g lent) steps).events

-- ---- T-10: how long a call may take, and how soon a port is served

abbrev pub LengthsOfBytes : ℕ → Type 0
LengthsOfBytes n =
    (r t g lent : List ℕ) (steps : List Step) → domain_size ≤ length r → guest_size ≤ length g → 2 ^ n ≤ length lent →
    KeepsRules n (fresh_world lent (entries t)) (map narrow_step steps) → Lengths (run_bytes n (fresh_bytes r t g lent) steps).events

-- the services are the exported functions' own
pub record BytesProgress (n : ℕ) (b : Bytes) : Type 0 where
  pub lists : ℕ → List ℕ
  pub standing : (q : ℕ) → q < 16 → Standing n (world_of b) q (lists q)
  pub in_turn : (steps : List Step) → only_services steps ≡ true → InTurn (world_of b) lists (services_in 0 (run_bytes n b steps).events)
  pub ends : (k : ℕ) → length (services_in 0 (run_bytes n b (rounds k)).events) ≡ k

abbrev pub ServedBytes : ℕ → Type 0
ServedBytes n =
    (r t g lent : List ℕ) (steps : List Step) → domain_size ≤ length r → guest_size ≤ length g → 2 ^ n ≤ length lent →
    KeepsRules n (fresh_world lent (entries t)) (map narrow_step steps) →
    Told (world_of (run_bytes n (fresh_bytes r t g lent) steps).bytes) → NoGuestCall (world_of (run_bytes n (fresh_bytes r t g lent) steps).bytes) →
    BytesProgress n (run_bytes n (fresh_bytes r t g lent) steps).bytes

-- ---- records of zeros are fresh as they stand

pub record ZerosAreFresh : Type 0 where
  pub domain : (fresh_domain_bytes (replicate domain_size 0)).record_bytes ≡ replicate domain_size 0
  pub guest : (fresh_guest_bytes (replicate guest_size 0)).record_bytes ≡ replicate guest_size 0

-- ---- demand 3's terms can be met: the example of `interleaving`, from zeroed records and a ledger of 1,031 entries

abbrev pub zeroed_bytes : List ℕ → Bytes
zeroed_bytes rest = fresh_bytes (replicate domain_size 0) (replicate 2062 0) (replicate guest_size 0) (replicate 2048 1 ++ rest)

abbrev pub ExampleOfBytes : Type 0
ExampleOfBytes =
    (rest : List ℕ) → 2 ^ link_bits ≤ 2048 + length rest →
    Claim link_bits (world_of (run_bytes link_bits (zeroed_bytes rest) example).bytes) (run_bytes link_bits (zeroed_bytes rest) example).events
