-- What C asks of a record is an act of `calls` on the record that the bytes are, and what it gives is read back from the result.
-- Assumes nothing.
use Prim.Native.Nat.{ℕ, ◌≤◌}
use mathlib.Core.Path.{◌≡◌, ap}
use mathlib.Core.List.{List}
use lib.ListN.{length}
use Rattle.word.specs.Word.{port_at}
use Rattle.word.specs.Entry.{priority_at}
use Rattle.calls.specs.Claims as acts
use Rattle.calls.specs.Claims.{Act, turn_of, GuestAct, Serves, ClearsMask, GuestReplies, Tells, guest_turn_of}
use Rattle.machine.specs.declared.types.Start.{Start}
use Rattle.machine.specs.declared.types.Start.TheVariants.{InitControl, ExpandArray, Bind, Close, SetPriority, Raise, Unmask}
use Rattle.evtchn_fifo.specs.Numbers.{narrow}
use Rattle.evtchn_fifo.specs.Ledger.{ledger_at}
use Rattle.evtchn_fifo.specs.Hypervisor as port_call
use Rattle.evtchn_fifo.specs.DomainRecord.{domain_size, domain_at}
use Rattle.evtchn_fifo.specs.GuestRecord.{guest_size, guest_at}
use Rattle.evtchn_fifo.specs.Hypervisor.{PortCall, starts_of, on_port}
use Rattle.evtchn_fifo.specs.Claims.{Meant, meant, told, MeantAlone, meant_guest, told_guest}
use Rattle.evtchn_fifo.proofs.Meaning.{domain_calls}
use Rattle.evtchn_fifo.proofs.GuestMeaning.{guest_calls}
use Rattle.evtchn_fifo.proofs.BeyondBytes.{beyond_stays}
use Rattle.exported.specs.Run.{start_bytes, narrow_start}
use Rattle.exported.specs.Demands.{Request, Starts, Replies, carried_by, wrote_by}

-- ---- the acts

abbrev start_act : Start → acts.Start
start_act (InitControl vcpu frame frames offset) = acts.InitControl vcpu frame frames offset
start_act (ExpandArray frame frames) = acts.ExpandArray frame frames
start_act (Bind p) = acts.Bind p
start_act (Close p) = acts.Close p
start_act (SetPriority p level) = acts.SetPriority p level
start_act (Raise p) = acts.Raise p
start_act (Unmask p) = acts.Unmask p

abbrev pub act_of : Request → Act
act_of (Starts s t) = acts.Starts (start_act (narrow_start s)) (ledger_at t)
act_of (Replies seen t) = acts.Replies seen (ledger_at t)

abbrev pub guest_act_of : GuestAct → GuestAct
guest_act_of Serves = Serves
guest_act_of (ClearsMask p) = ClearsMask (port_at (narrow p.0))
guest_act_of (GuestReplies seen) = GuestReplies seen
guest_act_of (Tells words) = Tells (narrow words)

-- ---- what they mean

-- a call on a record alone, with a ledger beside it
abbrev beside : List ℕ → MeantAlone → Meant
beside t x = record { next = x.next; domain = x.domain; ledger = ledger_at t }

module _ (n : ℕ) (r : List ℕ) (long : domain_size ≤ length r) where
  start_means : (t : List ℕ) (s : Start) → meant (start_bytes n r t s) ≡ told (turn_of n (domain_at r) (act_of (Starts s t)))
  unfolding start_bytes
  start_means t (InitControl vcpu frame frames offset) = ap (beside t) (((domain_calls n).init_control_lem vcpu frame frames offset).means r long)
  start_means t (ExpandArray frame frames) = ap (beside t) (((domain_calls n).expand_array_lem frame frames).means r long)
  start_means t (Bind p) = ((domain_calls n).bind p.0).means r t long
  start_means t (Close p) = ((domain_calls n).close p.0).means r t long
  start_means t (SetPriority p level) = ((domain_calls n).set_priority_lem p.0 level.0).means r t long
  start_means t (Raise p) = ((domain_calls n).raise p.0).means r t long
  start_means t (Unmask p) = ((domain_calls n).unmask p.0).means r t long

  pub request_means : (q : Request) → meant (carried_by n r q) ≡ told (turn_of n (domain_at r) (act_of q))
  request_means (Starts s t) = start_means t s
  request_means (Replies seen t) = ((domain_calls n).reply seen).means r t long

pub guest_means : (n : ℕ) (r : List ℕ) → guest_size ≤ length r → (act : GuestAct) → meant_guest (wrote_by n r act) ≡ told_guest (guest_turn_of n (guest_at r) (guest_act_of act))
guest_means n r long Serves = (guest_calls n).service.means r long
guest_means n r long (ClearsMask p) = ((guest_calls n).clear_mask_lem p.0).means r long
guest_means n r long (GuestReplies seen) = ((guest_calls n).reply seen).means r long
guest_means n r long (Tells words) = ((guest_calls n).tell words).means r long

-- ---- the length of a record stays

module _ (n : ℕ) (r : List ℕ) where
  port_length : (c : PortCall) (t : List ℕ) (p : ℕ) → length (on_port n (starts_of n c) r t (port_at (narrow p))).record_bytes ≡ length r
  port_length c t p = ((beyond_stays n).port_call_lem c (port_at (narrow p)) r t).domain.count

  start_length : (t : List ℕ) (s : Start) → length (start_bytes n r t s).record_bytes ≡ length r
  unfolding start_bytes
  start_length t (InitControl vcpu frame frames offset) = ((beyond_stays n).init_control_lem vcpu frame frames offset r).count
  start_length t (ExpandArray frame frames) = ((beyond_stays n).expand_array_lem frame frames r).count
  start_length t (Bind p) = port_length port_call.Bind t p.0
  start_length t (Close p) = port_length port_call.Close t p.0
  start_length t (SetPriority p level) = port_length (port_call.SetPriority (priority_at (narrow level.0))) t p.0
  start_length t (Raise p) = port_length port_call.Raise t p.0
  start_length t (Unmask p) = port_length port_call.Unmask t p.0

  pub request_length : (q : Request) → length (carried_by n r q).record_bytes ≡ length r
  request_length (Starts s t) = start_length t s
  request_length (Replies seen t) = ((beyond_stays n).reply seen r t).domain.count

  pub guest_length : (act : GuestAct) → length (wrote_by n r act).record_bytes ≡ length r
  guest_length Serves = ((beyond_stays n).service r).count
  guest_length (ClearsMask p) = ((beyond_stays n).clear_mask_lem p.0 r).count
  guest_length (GuestReplies seen) = ((beyond_stays n).guest_reply_lem seen r).count
  guest_length (Tells words) = ((beyond_stays n).tell words r).count
