-- No call writes beyond a record, or beyond a ledger's last whole entry.
-- Assumes nothing.
use Rattle.std.specs.Prelude.{None, Option, Some, Result, Ok, Err}
use Prim.Native.Nat.{ℕ, zero, suc, ◌+◌, ◌*◌, ◌/◌, ◌%◌, ◌≤◌}
use mathlib.Core.Path.{◌≡◌, refl, ◌∙◌}
use mathlib.Core.Bool.{Bool, true, false, cond, not}
use mathlib.Core.List.{List, [], ◌∷◌}
use lib.ListN.{length, set, length-set}
use lib.Seq.{drop-set-lt}
use lib.Dec.{ltb}
use borrow.Author.Tests.{ltb-true}
use native.Mathlib.Omega.{arith}
use Rattle.word.specs.declared.Port.{Port}
use Rattle.word.specs.Word.{port_at}
use Rattle.word.specs.Entry.{fresh_entry}
use Rattle.calls.specs.declared.types.Answer.{Answer}
use Rattle.calls.specs.declared.types.Call.{Call}
use Rattle.calls.specs.declared.types.GuestCall.{GuestCall}
use Rattle.calls.specs.declared.types.ClearCall.{ClearCall}
use Rattle.calls.specs.declared.types.Next.{Next}
use Rattle.calls.specs.declared.types.Next.TheVariants as next
use Rattle.calls.specs.declared.hypervisor.stage.Move.{Move}
use Rattle.calls.specs.declared.guest.GuestMove.{GuestMove}
use Rattle.calls.specs.declared.clear_mask.ClearMove.{ClearMove}
use Rattle.calls.specs.declared.hypervisor.start.Begun.{Begun}
use Rattle.calls.specs.declared.hypervisor.start.Begun.TheVariants as begin
use Rattle.calls.specs.Records.{is_free, guest_idle, is_clearing}
use Rattle.calls.specs.Hypervisor.{accept_init, accept_expand}
use Rattle.calls.specs.Guest.{is_serving, service_start}
use Rattle.calls.specs.ClearMask.{clear_staged, clear_mask_start}
use Rattle.evtchn_fifo.specs.Numbers.{put_number, put_numbers, put_value, narrow}
use Rattle.evtchn_fifo.specs.Encoded.{EncodedNext, Wrote, Carried, carried, Freshened}
use Rattle.evtchn_fifo.specs.Ledger.{entries, entry_in, put_entry, fill_entries, fresh_ledger_bytes}
use Rattle.evtchn_fifo.specs.DomainRecord.{domain_size, call_at, owner_at, given_at, pages_at, put_next, put_call, put_move, put_domain}
use Rattle.evtchn_fifo.specs.GuestRecord.{guest_size, words_at, service_at, clear_call_at, without_heads, put_service, put_guest_move, put_clear, put_clear_move, put_guest}
use Rattle.evtchn_fifo.specs.Hypervisor.{starts_of, on_port, start_bytes, init_bytes, init_bytes_of, expand_bytes, expand_bytes_of, reply_bytes, reply_found_bytes, move_at, move_bytes, fresh_domain_bytes}
use Rattle.evtchn_fifo.specs.Guest.{began_bytes, service_bytes, guest_move_at, guest_move_bytes, tell_bytes, fresh_guest_bytes}
use Rattle.evtchn_fifo.specs.ClearMask.{clear_began_bytes, clear_mask_bytes, clear_move_bytes, guest_reply_bytes}
use Rattle.evtchn_fifo.specs.Claims.{Beyond, BothBeyond, BeyondStays}

-- ---- what is written stays below a size

pub stays : {size : ℕ} {s : List ℕ} → Beyond size s s
stays = record { count = refl; bytes = refl }

pub then : {size : ℕ} {a b c : List ℕ} → Beyond size a b → Beyond size b c → Beyond size a c
then x y = record { count = y.count ∙ x.count; bytes = y.bytes ∙ x.bytes }

module _ (size : ℕ) where
  byte : (s : List ℕ) (i v : ℕ) → i + 1 ≤ size → Beyond size s (set s i v)
  byte s i v h = record { count = length-set s i v; bytes = drop-set-lt size s i v (omega arith) }

  number : (k : ℕ) (s : List ℕ) (i v : ℕ) → i + suc k ≤ size → Beyond size s (put_number k s i v)
  unfolding put_number
  number zero s i v h = byte s i v (omega arith)
  number (suc k) s i v h = then (byte s i (v % 256) (omega arith)) (number k (set s i (v % 256)) (i + 1) (v / 256) (omega arith))

  numbers : (l : List ℕ) (k : ℕ) (s : List ℕ) (i : ℕ) → i + length l * suc k ≤ size → Beyond size s (put_numbers k s i l)
  unfolding put_numbers
  numbers [] k s i h = stays
  numbers (v ∷ l) k s i h = then (number k s i v (omega arith)) (numbers l k (put_number k s i v) (i + suc k) (omega arith))

  value_by : (base : ℕ) (s : List ℕ) (q v : ℕ) (b : Bool) → ltb q 16 ≡ b → base + 64 ≤ size → Beyond size s (put_value base s q v)
  unfolding put_value
  value_by base s q v true e h = let l = ltb-true q 16 e in rw e (number 3 s (base + q * 4) v (omega arith))
  value_by base s q v false e h = rw e stays

  value : (base : ℕ) (s : List ℕ) (q v : ℕ) → base + 64 ≤ size → Beyond size s (put_value base s q v)
  value base s q v h = value_by base s q v (ltb q 16) refl h

pub four : (size : ℕ) (s : List ℕ) (i v : ℕ) → i + 4 ≤ size → Beyond size s (put_number 3 s i v)
four size s i v h = number size 3 s i v h

call : (r : List ℕ) (c : Call) → Beyond domain_size r (put_call r c)
unfolding put_call put_next
call r c =
    then
    (then
    (then
    (then
    (then
    (then (four domain_size r 72 _ (omega arith)) (four domain_size _ 80 _ (omega arith)))
    (four domain_size _ 76 _ (omega arith)))
    (four domain_size _ 84 _ (omega arith)))
    (four domain_size _ 88 _ (omega arith)))
    (four domain_size _ 92 _ (omega arith)))
    (four domain_size _ 96 _ (omega arith))

service : (r : List ℕ) (c : GuestCall) → Beyond guest_size r (put_service r c)
unfolding put_service
service r c =
    then
    (then
    (then (four guest_size r 72 _ (omega arith)) (four guest_size _ 76 _ (omega arith)))
    (four guest_size _ 80 _ (omega arith)))
    (four guest_size _ 84 _ (omega arith))

clear : (r : List ℕ) (c : ClearCall) → Beyond guest_size r (put_clear r c)
unfolding put_clear
clear r c =
    then
    (then
    (then (four guest_size r 88 _ (omega arith)) (four guest_size _ 92 _ (omega arith)))
    (four guest_size _ 96 _ (omega arith)))
    (four guest_size _ 100 _ (omega arith))

-- ---- the ledger

entry_by : (t : List ℕ) (p e : ℕ) (b : Bool) → ltb p (entries t) ≡ b → Beyond (entries t * 2) t (put_entry t p e)
unfolding put_entry
entry_by t p e true h = let l = ltb-true p (entries t) h in rw h (number (entries t * 2) 1 t (p * 2) e (omega arith))
entry_by t p e false h = rw h stays

entry : (t : List ℕ) (p e : ℕ) → Beyond (entries t * 2) t (put_entry t p e)
entry t p e = entry_by t p e (ltb p (entries t)) refl

fills : (size n : ℕ) (t : List ℕ) (e : ℕ) → n * 2 ≤ size → Beyond size t (fill_entries n t e)
unfolding fill_entries
fills size zero t e h = stays
fills size (suc n) t e h = then (fills size n t e (omega arith)) (number size 1 (fill_entries n t e) (n * 2) e (omega arith))

-- ---- the calls

neither : {x : EncodedNext} {r t : List ℕ} → BothBeyond r t (carried x r t)
neither = record { domain = stays; ledger = stays }

both_if : (r t : List ℕ) (b : Bool) (x y : Carried) → BothBeyond r t x → BothBeyond r t y → BothBeyond r t (cond b x y)
both_if r t true x y a b = a
both_if r t false x y a b = b

wrote_if : (size : ℕ) (r : List ℕ) (b : Bool) (x y : Wrote) → Beyond size r x.record_bytes → Beyond size r y.record_bytes → Beyond size r (cond b x y).record_bytes
wrote_if size r true x y a b = a
wrote_if size r false x y a b = b

fresh_if : (size : ℕ) (r : List ℕ) (b : Bool) (x y : Freshened) → Beyond size r x.record_bytes → Beyond size r y.record_bytes → Beyond size r (cond b x y).record_bytes
fresh_if size r true x y a b = a
fresh_if size r false x y a b = b

starts : (n : ℕ) (r t : List ℕ) (p : Port) (b : Result Begun Answer) → BothBeyond r t (start_bytes n r t p b)
unfolding start_bytes
starts n r t p (Err a) = neither
starts n r t p (Ok (begin.UnderWay c)) = record { domain = call r c; ledger = stays }
starts n r t p (Ok (begin.Settled e)) = record { domain = stays; ledger = entry t p.0 e }

bytes_if : (size : ℕ) (r : List ℕ) (b : Bool) (x y : List ℕ) → Beyond size r x → Beyond size r y → Beyond size r (cond b x y)
bytes_if size r true x y a b = a
bytes_if size r false x y a b = b

moves : (r : List ℕ) (m : Move) → Beyond domain_size r (put_move r m)
moves r m =
    let tailed = value domain_size 8 r m.queue.0 m.tail (omega arith) in
    bytes_if domain_size r (is_free m.call.owner) _ _ (then tailed (four domain_size _ 72 0 (omega arith))) (then tailed (call _ m.call))

finds : (n : ℕ) (r t : List ℕ) (seen : ℕ) (f : Option ℕ) → BothBeyond r t (reply_found_bytes n r t seen f)
unfolding move_bytes
finds n r t seen None = neither
finds n r t seen (Some e) = record { domain = moves r (move_at r e seen); ledger = entry t (call_at r).port.0 _ }

inits : (n : ℕ) (r : List ℕ) (a : Result Unit Answer) → Beyond domain_size r (init_bytes_of n r a).record_bytes
inits n r (Err a) = stays
inits n r (Ok tt) = four domain_size r 0 1 (omega arith)

expands : (r : List ℕ) (a : Result Unit Answer) → Beyond domain_size r (expand_bytes_of r a).record_bytes
expands r (Err a) = stays
expands r (Ok tt) = four domain_size r 4 _ (omega arith)

serves : (r : List ℕ) (c : GuestCall) (x : Next) → Beyond guest_size r (began_bytes r c x).record_bytes
serves r c (next.Answer a count) = stays
serves r c (next.Access x) = service r c

guest_moves : (r : List ℕ) (m : GuestMove) → Beyond guest_size r (put_guest_move r m)
guest_moves r m =
    let readied = then (four guest_size r 64 m.ready (omega arith)) (value guest_size 0 _ m.queue.0 m.head (omega arith)) in
    bytes_if guest_size r (is_serving m.call.stage) _ _ (then readied (service _ m.call)) (then readied (four guest_size _ 72 0 (omega arith)))

clears : (r : List ℕ) (c : ClearCall) (x : Next) → Beyond guest_size r (clear_began_bytes r c x).record_bytes
clears r c (next.Answer a count) = stays
clears r c (next.Access x) = clear r c

clear_moves : (r : List ℕ) (m : ClearMove) → Beyond guest_size r (put_clear_move r m)
clear_moves r m = bytes_if guest_size r (is_clearing m.call.stage) _ _ (clear r m.call) (four guest_size r 88 0 (omega arith))

pub beyond_stays : (n : ℕ) → BeyondStays n
unfolding on_port reply_bytes init_bytes expand_bytes service_bytes clear_mask_bytes guest_reply_bytes guest_move_bytes clear_move_bytes tell_bytes fresh_domain_bytes fresh_guest_bytes fresh_ledger_bytes put_domain put_guest
beyond_stays n = record {
  port_call_lem = λ c p r t. both_if r t (ltb (length r) domain_size) _ _ neither (starts n r t p (starts_of n c (owner_at r) (given_at r) (pages_at r) p (entry_in t p.0)));
  reply = λ seen r t. both_if r t (ltb (length r) domain_size) _ _ neither (both_if r t (is_free (call_at r).owner) _ _ neither (finds n r t seen (entry_in t (call_at r).port.0)));
  init_control_lem = λ vcpu frame frames offset r. wrote_if domain_size r (ltb (length r) domain_size) _ _ stays (inits n r (accept_init (owner_at r) (given_at r) (narrow vcpu) frame frames (narrow offset)));
  expand_array_lem = λ frame frames r. wrote_if domain_size r (ltb (length r) domain_size) _ _ stays (expands r (accept_expand n (owner_at r) (given_at r) (pages_at r) frame frames));
  service = λ r. wrote_if guest_size r (ltb (length r) guest_size) _ _ stays (serves r _ (service_start n (without_heads 0 (service_at r) (clear_call_at r))).next);
  clear_mask_lem = λ p r. wrote_if guest_size r (ltb (length r) guest_size) _ _ stays (clears r _ (clear_mask_start n (without_heads (words_at r) guest_idle (clear_call_at r)) (port_at (narrow p))).next);
  guest_reply_lem = λ seen r. wrote_if guest_size r (ltb (length r) guest_size) _ _ stays
      (wrote_if guest_size r (is_clearing (clear_call_at r).stage) _ _ (clear_moves r (clear_staged (clear_call_at r) seen))
      (wrote_if guest_size r (not (is_serving (service_at r).stage)) _ _ stays (guest_moves r (guest_move_at n r seen))));
  tell = λ words r. wrote_if guest_size r (ltb (length r) guest_size) _ _ stays (four guest_size r 68 _ (omega arith));
  fresh_domain_lem = λ r. fresh_if domain_size r (ltb (length r) domain_size) _ _ stays
      (then (then (then (four domain_size r 0 _ (omega arith)) (four domain_size _ 4 _ (omega arith))) (numbers domain_size _ 3 _ 8 (omega arith))) (call _ _));
  fresh_guest_lem = λ r. fresh_if guest_size r (ltb (length r) guest_size) _ _ stays
      (then (then (then (numbers guest_size _ 3 r 0 (omega arith)) (four guest_size _ 64 _ (omega arith))) (four guest_size _ 68 _ (omega arith))) (then (service _ _) (clear _ _)));
  fresh_ledger = λ t. fills (entries t * 2) (entries t) t fresh_entry (omega arith);
}
