-- What the exported functions mean: on bytes that are long enough each is the call of `calls` on the record and the ledger that
-- the bytes are; on shorter ones, and where document 01 refuses, every byte stays; what lies beyond a record always does. n is the
-- number of link bits. The theorems `domain_calls`, `guest_calls`, `narrow_numbers`, `refusals` and `beyond_stays` of proofs/ prove
-- these records.
-- Assumes nothing.
use Rattle.std.specs.Prelude.{ℕ, ◌*◌, ◌<◌, ◌≤◌, max, ◌≡◌, List, length, drop, replicate, eqb, ltb, leb}
use Rattle.word.specs.declared.Port.{Port}
use Rattle.word.specs.Word.{port_at}
use Rattle.word.specs.Entry.{priority_at, fresh_entry}
use Rattle.calls.specs.declared.types.Domain.{Domain}
use Rattle.calls.specs.declared.types.Answer.TheVariants.{Done}
use Rattle.calls.specs.declared.types.Outcome.{Outcome}
use Rattle.calls.specs.declared.types.Guest.{Guest}
use Rattle.calls.specs.declared.types.GuestOutcome.{GuestOutcome}
use Rattle.calls.specs.Records.{is_port, with_call, fresh_domain, fresh_guest}
use Rattle.calls.specs.Hypervisor.{Turn, is_offset, init_control, expand_array, bind_start, close_start, set_priority, raise_start, unmask_start, reply_of, due_of}
use Rattle.calls.specs.Guest.{service_start, guest_answered, with_guest_call, with_words, mask_of, tell_of}
use Rattle.calls.specs.ClearMask.{with_clear, clear_mask_start, guest_reply, guest_due_of}
use Rattle.evtchn_fifo.specs.Numbers.{narrow}
use Rattle.evtchn_fifo.specs.Encoded.{EncodedNext, Wrote, wrote, Carried, carried, encoded_next, too_short}
use Rattle.evtchn_fifo.specs.Ledger.{entries, ledger_at, fresh_ledger_bytes}
use Rattle.evtchn_fifo.specs.DomainRecord.{domain_size, domain_at, or_idle, put_domain}
use Rattle.evtchn_fifo.specs.GuestRecord.{guest_size, guest_at, or_guest_idle, or_clear_idle, put_guest}
use Rattle.evtchn_fifo.specs.Hypervisor.{PortCall, starts_of, on_port, init_bytes, expand_bytes, bind_bytes, close_bytes, set_priority_bytes, raise_bytes, unmask_bytes, reply_bytes, due_bytes, fresh_domain_bytes}
use Rattle.evtchn_fifo.specs.Guest.{service_bytes, tell_bytes, fresh_guest_bytes}
use Rattle.evtchn_fifo.specs.ClearMask.{clear_mask_bytes, guest_reply_bytes, guest_due_bytes}

-- ---- a call on a domain's record and its ledger

pub record Meant : Type 0 where
  pub next : EncodedNext
  pub domain : Domain
  pub ledger : List ℕ

-- what the bytes after a call are
abbrev pub meant : Carried → Meant
meant c = record { next = c.next; domain = domain_at c.record_bytes; ledger = ledger_at c.ledger_bytes }

-- what a call of `calls` gives
abbrev pub told : Turn → Meant
told u = record { next = encoded_next u.outcome.next; domain = u.outcome.domain; ledger = u.ledger }

pub record IsCall (f : List ℕ → List ℕ → Carried) (g : Domain → List ℕ → Turn) : Type 0 where
  pub means : (r t : List ℕ) → domain_size ≤ length r → meant (f r t) ≡ told (g (domain_at r) (ledger_at t))
  pub short : (r t : List ℕ) → length r < domain_size → f r t ≡ carried too_short r t

-- ---- a call on a domain's record alone

pub record MeantAlone : Type 0 where
  pub next : EncodedNext
  pub domain : Domain

abbrev pub meant_alone : Wrote → MeantAlone
meant_alone w = record { next = w.next; domain = domain_at w.record_bytes }

abbrev pub told_alone : Outcome → MeantAlone
told_alone o = record { next = encoded_next o.next; domain = o.domain }

pub record IsCallAlone (f : List ℕ → Wrote) (g : Domain → Outcome) : Type 0 where
  pub means : (r : List ℕ) → domain_size ≤ length r → meant_alone (f r) ≡ told_alone (g (domain_at r))
  pub short : (r : List ℕ) → length r < domain_size → f r ≡ wrote too_short r

-- ---- a call on a guest's record

pub record MeantGuest : Type 0 where
  pub next : EncodedNext
  pub guest : Guest

abbrev pub meant_guest : Wrote → MeantGuest
meant_guest w = record { next = w.next; guest = guest_at w.record_bytes }

abbrev pub told_guest : GuestOutcome → MeantGuest
told_guest o = record { next = encoded_next o.next; guest = o.guest }

pub record IsGuestCall (f : List ℕ → Wrote) (g : Guest → GuestOutcome) : Type 0 where
  pub means : (r : List ℕ) → guest_size ≤ length r → meant_guest (f r) ≡ told_guest (g (guest_at r))
  pub short : (r : List ℕ) → length r < guest_size → f r ≡ wrote too_short r

-- ---- the claims

pub record DomainCalls (n : ℕ) : Type 0 where
  -- a record written whole is read back; without an owner its call is the idle one
  pub read_back : (r : List ℕ) (d : Domain) → domain_size ≤ length r → length d.tails ≡ 16 → domain_at (put_domain r d) ≡ with_call d (or_idle d.call)
  pub init_control_lem : (vcpu frame frames offset : ℕ) → IsCallAlone (λ r. init_bytes n r vcpu frame frames offset) (λ d. init_control n d (narrow vcpu) frame frames (narrow offset))
  pub expand_array_lem : (frame frames : ℕ) → IsCallAlone (λ r. expand_bytes n r frame frames) (λ d. expand_array n d frame frames)
  pub bind : (p : ℕ) → IsCall (λ r t. bind_bytes n r t p) (λ d l. bind_start n d l (port_at (narrow p)))
  pub close : (p : ℕ) → IsCall (λ r t. close_bytes n r t p) (λ d l. close_start n d l (port_at (narrow p)))
  pub set_priority_lem : (p level : ℕ) → IsCall (λ r t. set_priority_bytes n r t p level) (λ d l. set_priority n d l (port_at (narrow p)) (priority_at (narrow level)))
  pub raise : (p : ℕ) → IsCall (λ r t. raise_bytes n r t p) (λ d l. raise_start n d l (port_at (narrow p)))
  pub unmask : (p : ℕ) → IsCall (λ r t. unmask_bytes n r t p) (λ d l. unmask_start n d l (port_at (narrow p)))
  pub reply : (seen : ℕ) → IsCall (λ r t. reply_bytes n r t seen) (λ d l. reply_of n d l seen)
  pub due : (r : List ℕ) → domain_size ≤ length r → due_bytes n r ≡ encoded_next (due_of n (domain_at r))
  pub fresh : (r : List ℕ) → domain_size ≤ length r → domain_at (fresh_domain_bytes r).record_bytes ≡ fresh_domain
  -- so are bytes of 0
  pub zeros : domain_at (replicate domain_size 0) ≡ fresh_domain
  pub fresh_ledger : (t : List ℕ) → ledger_at (fresh_ledger_bytes t).record_bytes ≡ replicate (entries t) fresh_entry

pub record GuestCalls (n : ℕ) : Type 0 where
  pub read_back : (r : List ℕ) (g : Guest) → guest_size ≤ length r → length g.heads ≡ 16 → guest_at (put_guest r g) ≡ with_clear (with_guest_call g (or_guest_idle g.call)) (or_clear_idle g.clear)
  pub service : IsGuestCall (λ r. service_bytes n r) (λ g. service_start n g)
  pub clear_mask_lem : (p : ℕ) → IsGuestCall (λ r. clear_mask_bytes n r p) (λ g. clear_mask_start n g (port_at (narrow p)))
  pub reply : (seen : ℕ) → IsGuestCall (λ r. guest_reply_bytes n r seen) (λ g. guest_reply n g seen)
  pub due : (r : List ℕ) → guest_size ≤ length r → guest_due_bytes n r ≡ encoded_next (guest_due_of n (guest_at r))
  pub tell : (words : ℕ) → IsGuestCall (λ r. tell_bytes r words) (λ g. tell_of g (narrow words))
  pub fresh : (r : List ℕ) → guest_size ≤ length r → guest_at (fresh_guest_bytes r).record_bytes ≡ fresh_guest
  pub zeros : guest_at (replicate guest_size 0) ≡ fresh_guest

-- a number of 64 bits is refused, or not, as the number of 32 bits that stands for it
pub record NarrowNumbers (n : ℕ) : Type 0 where
  pub port : (p : ℕ) → is_port n (narrow p) ≡ is_port n p
  pub priority : (level : ℕ) → ltb 15 (narrow level) ≡ ltb 15 level
  pub vcpu : (v : ℕ) → eqb (narrow v) 0 ≡ eqb v 0
  pub offset : (o : ℕ) → is_offset (narrow o) ≡ is_offset o
  -- a number of words, which nothing refuses, reaches as far as the one that stands for it, but for the index 2 ^ 32 - 1
  pub words : (words index : ℕ) → index < 0xFFFFFFFF → leb (narrow words) index ≡ leb words index
  pub mask : (p words : ℕ) → mask_of n (port_at (narrow p)) (narrow words) ≡ mask_of n (port_at p) words
  pub clear_mask_lem : (g : Guest) (p : ℕ) → clear_mask_start n g (port_at (narrow p)) ≡ clear_mask_start n g (port_at p)
  -- the larger of old and told
  pub tell : (g : Guest) (old words : ℕ) → tell_of (with_words g (narrow old)) (narrow words) ≡ guest_answered (with_words g (narrow (max old words))) Done

-- ---- refusals keep every byte

-- whatever is answered with a number from k on
abbrev pub KeepsFrom : ℕ → (List ℕ → List ℕ → Carried) → Type 0
KeepsFrom k f = (r t : List ℕ) → k ≤ (f r t).next.code → (f r t).next.code < 0x100 → f r t ≡ carried (f r t).next r t

abbrev pub KeepsAloneFrom : ℕ → (List ℕ → Wrote) → Type 0
KeepsAloneFrom k f = (r : List ℕ) → k ≤ (f r).next.code → (f r).next.code < 0x100 → f r ≡ wrote (f r).next r

-- a start answers 0 or refuses; a reply's refusals are 14, 16 and 64, besides 7, which ends the bind; a guest's reply refuses
-- with 16 and 64, besides 18, which ends the service, and answers 0, 19, 20, 21 or 35 where a call of hers ends
pub record Refusals (n : ℕ) : Type 0 where
  pub port_call_lem : (call : PortCall) (p : Port) → KeepsFrom 1 (λ r t. on_port n (starts_of n call) r t p)
  pub init_control_lem : (vcpu frame frames offset : ℕ) → KeepsAloneFrom 1 (λ r. init_bytes n r vcpu frame frames offset)
  pub expand_array_lem : (frame frames : ℕ) → KeepsAloneFrom 1 (λ r. expand_bytes n r frame frames)
  pub reply : (seen : ℕ) → KeepsFrom 8 (λ r t. reply_bytes n r t seen)
  pub service : KeepsAloneFrom 1 (λ r. service_bytes n r)
  pub clear_mask_lem : (p : ℕ) → KeepsAloneFrom 1 (λ r. clear_mask_bytes n r p)
  pub guest_reply_lem : (seen : ℕ) (r : List ℕ) → 1 ≤ (guest_reply_bytes n r seen).next.code → (guest_reply_bytes n r seen).next.code < 18 → guest_reply_bytes n r seen ≡ wrote (guest_reply_bytes n r seen).next r

-- ---- bytes beyond a record, and beyond a ledger's last whole entry, stay

-- as many bytes as before, and the same from `size` on
pub record Beyond (size : ℕ) (before after : List ℕ) : Type 0 where
  pub count : length after ≡ length before
  pub bytes : drop size after ≡ drop size before

pub record BothBeyond (r t : List ℕ) (c : Carried) : Type 0 where
  pub domain : Beyond domain_size r c.record_bytes
  pub ledger : Beyond (entries t * 2) t c.ledger_bytes

-- whatever a call gives, also on a record that is too short
pub record BeyondStays (n : ℕ) : Type 0 where
  pub port_call_lem : (call : PortCall) (p : Port) (r t : List ℕ) → BothBeyond r t (on_port n (starts_of n call) r t p)
  pub reply : (seen : ℕ) (r t : List ℕ) → BothBeyond r t (reply_bytes n r t seen)
  pub init_control_lem : (vcpu frame frames offset : ℕ) (r : List ℕ) → Beyond domain_size r (init_bytes n r vcpu frame frames offset).record_bytes
  pub expand_array_lem : (frame frames : ℕ) (r : List ℕ) → Beyond domain_size r (expand_bytes n r frame frames).record_bytes
  pub service : (r : List ℕ) → Beyond guest_size r (service_bytes n r).record_bytes
  pub clear_mask_lem : (p : ℕ) (r : List ℕ) → Beyond guest_size r (clear_mask_bytes n r p).record_bytes
  pub guest_reply_lem : (seen : ℕ) (r : List ℕ) → Beyond guest_size r (guest_reply_bytes n r seen).record_bytes
  pub tell : (words : ℕ) (r : List ℕ) → Beyond guest_size r (tell_bytes r words).record_bytes
  pub fresh_domain_lem : (r : List ℕ) → Beyond domain_size r (fresh_domain_bytes r).record_bytes
  pub fresh_guest_lem : (r : List ℕ) → Beyond guest_size r (fresh_guest_bytes r).record_bytes
  pub fresh_ledger : (t : List ℕ) → Beyond (entries t * 2) t (fresh_ledger_bytes t).record_bytes
