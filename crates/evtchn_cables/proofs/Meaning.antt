-- The exported functions are T-01's calls on what the bytes are.
-- Assumes nothing.
use Prim.Native.Nat.{ℕ, ◌+◌, ◌≤◌, ◌<◌}
use mathlib.Core.Path.{◌≡◌, sym, ap, ◌∙◌}
use mathlib.Core.Bool.{true, false, cond}
use mathlib.Core.List.{List}
use mathlib.Core.Logic.{◌≢◌}
use native.Mathlib.Omega.{arith}
use borrow.Author.Tests.{lt-ltb, le-ltb, ne_eqb}
use Rattle.std.proofs.lemmas.Bool.Decides.{nat_tests}
use lib.ListN.{length, replicate, length-replicate, get_or-replicate}
use lib.Seq.{ext_get_or}
use lib.Dec.{eqb, ltb}
use Rattle.word.specs.Word.{port_at}
use Rattle.calls.specs.declared.types.Owner.{Owner}
use Rattle.calls.specs.declared.types.Access.{Access}
use Rattle.calls.specs.declared.types.Call.{Call}
use Rattle.calls.specs.declared.types.Place.{Place}
use Rattle.calls.specs.declared.types.Next.{Next}
use Rattle.calls.specs.Records.{is_free, closing_port}
use Rattle.calls.specs.Hypervisor.{close_start, reply_of}
use Rattle.calls.proofs.Cases.{by_test}
use Rattle.evtchn_fifo.specs.Numbers.{narrow}
use Rattle.evtchn_fifo.specs.Encoded.{encoded_place, encoded_access, encoded_answer, encoded_next, place_code}
use Rattle.evtchn_fifo.specs.Ledger.{ledger_at}
use Rattle.evtchn_fifo.specs.DomainRecord.{domain_size, domain_at, or_idle, closing_in}
use Rattle.evtchn_fifo.specs.Hypervisor.{close_bytes, reply_bytes}
use Rattle.evtchn_fifo.specs.Claims.{Beyond}
use Rattle.evtchn_fifo.proofs.LedgerLaws.{entry_is}
use Rattle.evtchn_fifo.proofs.BeyondBytes.{stays}
use Rattle.evtchn_fifo.proofs.Meaning.{domain_calls}
use Rattle.cables.specs.Table.{Slot, empty, slot_count, end, lowest_free, has_space}
use Rattle.cables.specs.Rules.{port_refusal, join_refusal, lay_refusal, near_refusal, table_laid, table_cut, fallen_at, fallen, table_fallen}
use Rattle.cables.specs.Claims.{fresh}
use Rattle.evtchn_cables.specs.TableBytes.{table_size, table_at}
use Rattle.evtchn_cables.specs.Encoded.{port_refusal_bytes, is_short, lent_refusal, lay_code, lay_did, near_code, LayDid, cut_did, far_found, fall_bytes, CarriedCables, close_cables, reply_cables}
use Rattle.evtchn_cables.specs.Claims.{meant, meant_lay, meant_cut, CableCalls}
use Rattle.evtchn_cables.proofs.SlotLaws.{table_length, slot_at}
use Rattle.evtchn_cables.proofs.TableMeaning.{table_put, table_cut_lem, zero_slot, slot_beyond, cut_beyond}

-- ---- a port's own refusals

long : (size : ℕ) (s : List ℕ) → size ≤ length s → ltb (length s) size ≡ false
long size s h = le-ltb (length s) size h

own_is : (n : ℕ) (r l : List ℕ) (p : ℕ) → domain_size ≤ length r → port_refusal_bytes n r l p ≡ port_refusal n (domain_at r) (ledger_at l) p
unfolding port_refusal_bytes domain_at
own_is n r l p h = rw (long domain_size r h, entry_is l p)

module _ (n : ℕ) (t r l : List ℕ) (d p : ℕ) (space : table_size ≤ length t) (whole : domain_size ≤ length r) where
  not_short : is_short t r ≡ false
  not_short = rw (long table_size t space, long domain_size r whole)

  near_is : near_code n t r l d p ≡ near_refusal d (port_refusal n (domain_at r) (ledger_at l) p) (table_at t) (end d p)
  unfolding lent_refusal
  near_is = rw (not_short, own_is n r l p whole)

  module _ (s m : List ℕ) (e q : ℕ) (far : domain_size ≤ length s) where
    lay_is : lay_code n t r l s m d p e q ≡ lay_refusal d e (port_refusal n (domain_at r) (ledger_at l) p) (port_refusal n (domain_at s) (ledger_at m) q) (table_at t) (end d p) (end e q)
    unfolding lay_code lent_refusal
    lay_is = rw (not_short, long domain_size s far, own_is n r l p whole, own_is n s m q far)

-- ---- the table after a call

-- a lay that answers 0 has room
lay_space : (d e c k : ℕ) (t : List Slot) (a b : ℕ) → eqb (lay_refusal d e c k t a b) 0 ≡ true → has_space t ≡ true
unfolding lay_refusal join_refusal
lay_space d e c k t a b h = grind (arith, nat_tests)

module _ (t : List ℕ) (space : table_size ≤ length t) where
  lay_table : (code a b : ℕ) → (eqb code 0 ≡ true → has_space (table_at t) ≡ true) →
      meant_lay (lay_did code t a b) ≡ meant code (cond (eqb code 0) (lowest_free (table_at t)) 0) (table_laid code (table_at t) a b)
  lay_table code a b free = grind (arith, nat_tests, table_put, table_length, free)

  cut_table : (code e : ℕ) → meant_cut (cut_did code t e) ≡ meant code 0 (table_cut code (table_at t) e)
  cut_table code e = grind (arith, table_cut_lem)

  fall_table : (d p : ℕ) → table_at (fall_bytes t d p) ≡ table_fallen d p (table_at t)
  unfolding fall_bytes
  fall_table d p = grind (arith, table_cut_lem)

-- ---- where a close's ledger change falls

-- an access's code is no answer's 0
place_some : (kind : ℕ) (p : Place) (value old : ℕ) → 0 < kind → eqb (encoded_place kind p value old).code 0 ≡ false
unfolding encoded_place
place_some kind p value old h = ne_eqb (kind + place_code p) 0 (λ e. omega arith)

access_some : (a : Access) → eqb (encoded_access a).code 0 ≡ false
unfolding encoded_access
access_some a = grind (arith, place_some)

fallen_is : (x : Next) (p : ℕ) → fallen_at (encoded_next x).code p ≡ fallen x p
unfolding fallen encoded_next encoded_answer
fallen_is x p = grind (arith, access_some)

-- where no call is under way none closes
free_closes : (o : Owner) (c : Call) → c.owner ≡ o → closing_port (or_idle c) ≡ closing_port c
unfolding or_idle is_free
free_closes o c h = grind arith

closing_is : (r : List ℕ) → domain_size ≤ length r → closing_in r ≡ closing_port (domain_at r).call
unfolding domain_at
closing_is r h = grind (arith, long, free_closes)

-- ---- a fresh table

zeros : table_at (replicate table_size 0) ≡ fresh
zeros =
    ext_get_or empty _ _ (table_length (replicate table_size 0) ∙ sym (length-replicate slot_count empty))
    (λ j h. let k : j < slot_count = omega (arith, table_length) in slot_at (replicate table_size 0) j k ∙ zero_slot j k ∙ sym (get_or-replicate slot_count j empty empty k))

-- ---- the claims

cut_kept : (t : List ℕ) (code e : ℕ) → code ≢ 0 → (cut_did code t e).table ≡ t
cut_kept t code e h = grind (arith, nat_tests)

lay_kept : (t : List ℕ) (code a b : ℕ) → (lay_did code t a b).result.code ≢ 0 → (lay_did code t a b).table ≡ t
lay_kept t code a b h = grind (arith, nat_tests)

module _ (n : ℕ) where
  close_table : (t r l : List ℕ) (d p : ℕ) → table_size ≤ length t → domain_size ≤ length r →
      table_at (close_cables n t r l d p).table ≡ table_fallen d (fallen (close_start n (domain_at r) (ledger_at l) (port_at (narrow p))).outcome.next (narrow p)) (table_at t)
  unfolding close_cables
  close_table t r l d p space h =
      rw (long table_size t space)
      (fall_table t space d (fallen_at (close_bytes n r l p).next.code (narrow p))
      ∙ ap (λ (k : ℕ). table_fallen d k (table_at t))
      (ap (λ x. fallen_at x.code (narrow p)) (ap (λ z. z.next) (((domain_calls n).close p).means r l h)) ∙ fallen_is (close_start n (domain_at r) (ledger_at l) (port_at (narrow p))).outcome.next (narrow p)))

  reply_table : (t r l : List ℕ) (d seen : ℕ) → table_size ≤ length t → domain_size ≤ length r →
      table_at (reply_cables n t r l d seen).table ≡ table_fallen d (fallen (reply_of n (domain_at r) (ledger_at l) seen).outcome.next (closing_port (domain_at r).call)) (table_at t)
  unfolding reply_cables
  reply_table t r l d seen space h =
      rw (long table_size t space)
      (fall_table t space d (fallen_at (reply_bytes n r l seen).next.code (closing_in r))
      ∙ ap (λ (k : ℕ). table_fallen d k (table_at t))
      (ap (λ x. fallen_at x.code (closing_in r)) (ap (λ z. z.next) (((domain_calls n).reply seen).means r l h)) ∙ fallen_is (reply_of n (domain_at r) (ledger_at l) seen).outcome.next (closing_in r)
      ∙ ap (λ (k : ℕ). fallen (reply_of n (domain_at r) (ledger_at l) seen).outcome.next k) (closing_is r h)))

  lay_beyond : (t : List ℕ) (code a b : ℕ) → (eqb code 0 ≡ true → has_space (table_at t) ≡ true) → Beyond table_size t (lay_did code t a b).table
  lay_beyond t code a b free = by_test (λ (x : LayDid). Beyond table_size t x.table) (eqb code 0) (λ h. slot_beyond t (lowest_free (table_at t)) a b (grind (arith, nat_tests, table_length, free h))) (λ h. stays)

  fall_beyond : (t : List ℕ) (d p : ℕ) → Beyond table_size t (fall_bytes t d p)
  unfolding fall_bytes
  fall_beyond t d p = by_test (λ (u : List ℕ). Beyond table_size t u) (eqb p 0) (λ h. stays) (λ h. cut_beyond t (end d p))

  pub cable_calls : CableCalls n
  unfolding lay_code close_cables reply_cables
  cable_calls = record {
    lay = λ t r l s m d p e q space h k.
        let code = lay_is n t r l d (narrow p) space h s m e (narrow q) k in
        lay_table t space (lay_code n t r l s m d (narrow p) e (narrow q)) (end d (narrow p)) (end e (narrow q)) (lay_space d e _ _ (table_at t) (end d (narrow p)) (end e (narrow q)))
        ∙ ap (λ (c : ℕ). meant c (cond (eqb c 0) (lowest_free (table_at t)) 0) (table_laid c (table_at t) (end d (narrow p)) (end e (narrow q)))) code;
    cut = λ t r l d p space h.
        cut_table t space (near_code n t r l d (narrow p)) (end d (narrow p))
        ∙ ap (λ (c : ℕ). meant c 0 (table_cut c (table_at t) (end d (narrow p)))) (near_is n t r l d (narrow p) space h);
    send = λ t r l d p hint space h. ap (λ (c : ℕ). far_found c t hint (end d (narrow p))) (near_is n t r l d (narrow p) space h);
    close = λ t r l d p space. rw (long table_size t space);
    close_table = close_table;
    reply = λ t r l d seen space. rw (long table_size t space);
    reply_table = reply_table;
    zeros = zeros;
    lay_refused = λ t r l s m d p e q h. lay_kept t (lay_code n t r l s m d (narrow p) e (narrow q)) (end d (narrow p)) (end e (narrow q)) h;
    cut_refused = λ t r l d p h. cut_kept t (near_code n t r l d (narrow p)) (end d (narrow p)) h;
    close_short = λ t r l d p h. rw (lt-ltb (length t) table_size h);
    reply_short = λ t r l d seen h. rw (lt-ltb (length t) table_size h);
    lay_beyond = λ t r l s m d p e q.
        lay_beyond t (lay_code n t r l s m d (narrow p) e (narrow q)) (end d (narrow p)) (end e (narrow q)) (lay_space d e _ _ (table_at t) (end d (narrow p)) (end e (narrow q)));
    cut_beyond = λ t r l d p.
        by_test (λ (u : List ℕ). Beyond table_size t u) (eqb (near_code n t r l d (narrow p)) 0) (λ h. cut_beyond t (end d (narrow p))) (λ h. stays);
    close_beyond = λ t r l d p.
        by_test (λ (x : CarriedCables). Beyond table_size t x.table) (ltb (length t) table_size) (λ h. stays) (λ h. fall_beyond t d (fallen_at (close_bytes n r l p).next.code (narrow p)));
    reply_beyond = λ t r l d seen.
        by_test (λ (x : CarriedCables). Beyond table_size t x.table) (ltb (length t) table_size) (λ h. stays) (λ h. fall_beyond t d (fallen_at (reply_bytes n r l seen).next.code (closing_in r)));
  }
