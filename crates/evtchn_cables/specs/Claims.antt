-- What the exported functions mean: on bytes that are long enough each is T-01's call on the records, the ledgers and the table that the
-- bytes are; on shorter ones, and where a call is refused, every byte stays; what lies beyond a table always does. n is the number of link
-- bits. The theorem `cable_calls` of proofs/ proves this record.
-- Assumes nothing.
use Rattle.std.specs.Prelude.{ℕ, ◌≤◌, ◌<◌, ◌≡◌, cond, List, ◌≢◌, length, replicate, eqb}
use Rattle.word.specs.Word.{port_at}
use Rattle.calls.specs.Records.{closing_port}
use Rattle.calls.specs.Hypervisor.{close_start, reply_of}
use Rattle.evtchn_fifo.specs.Numbers.{narrow}
use Rattle.evtchn_fifo.specs.Encoded.{carried, too_short}
use Rattle.evtchn_fifo.specs.Ledger.{ledger_at}
use Rattle.evtchn_fifo.specs.DomainRecord.{domain_size, domain_at}
use Rattle.evtchn_fifo.specs.Hypervisor.{close_bytes, reply_bytes}
use Rattle.evtchn_fifo.specs.Claims.{Beyond}
use Rattle.cables.specs.Table.{Slot, end, lowest_free, find, across}
use Rattle.cables.specs.Rules.{port_refusal, lay_refusal, near_refusal, table_laid, table_cut, fallen, table_fallen}
use Rattle.cables.specs.Claims.{fresh}
use Rattle.evtchn_cables.specs.TableBytes.{table_size, table_at}
use Rattle.evtchn_cables.specs.Encoded.{LayDid, lay_bytes, CutDid, cut_call_bytes, far_bytes, send_bytes, with_table, close_cables, reply_cables}

-- a port's own refusals, by the record and the ledger that the bytes are
abbrev pub own : ℕ → List ℕ → List ℕ → ℕ → ℕ
own n r l p = port_refusal n (domain_at r) (ledger_at l) (narrow p)

abbrev pub lay_code_of : ℕ → List ℕ → List ℕ → List ℕ → List ℕ → List ℕ → ℕ → ℕ → ℕ → ℕ → ℕ
lay_code_of n t r l s m d p e q = lay_refusal d e (own n r l p) (own n s m q) (table_at t) (end d (narrow p)) (end e (narrow q))

abbrev pub near_code_of : ℕ → List ℕ → List ℕ → List ℕ → ℕ → ℕ → ℕ
near_code_of n t r l d p = near_refusal d (own n r l p) (table_at t) (end d (narrow p))

-- ---- what a call gives, and the table that its bytes are afterwards

pub record Meant : Type 0 where
  pub code : ℕ
  pub slot : ℕ
  pub table : List Slot

abbrev pub meant : ℕ → ℕ → List Slot → Meant
meant code i t = record { code = code; slot = i; table = t }

abbrev pub meant_lay : LayDid → Meant
meant_lay x = meant x.result.code x.result.slot (table_at x.table)

abbrev pub meant_cut : CutDid → Meant
meant_cut x = meant x.code 0 (table_at x.table)

pub record CableCalls (n : ℕ) : Type 0 where
  pub lay : (t r l s m : List ℕ) (d p e q : ℕ) → table_size ≤ length t → domain_size ≤ length r → domain_size ≤ length s →
      meant_lay (lay_bytes n t r l s m d p e q)
      ≡ meant (lay_code_of n t r l s m d p e q) (cond (eqb (lay_code_of n t r l s m d p e q) 0) (lowest_free (table_at t)) 0)
      (table_laid (lay_code_of n t r l s m d p e q) (table_at t) (end d (narrow p)) (end e (narrow q)))
  pub cut : (t r l : List ℕ) (d p : ℕ) → table_size ≤ length t → domain_size ≤ length r →
      meant_cut (cut_call_bytes n t r l d p) ≡ meant (near_code_of n t r l d p) 0 (table_cut (near_code_of n t r l d p) (table_at t) (end d (narrow p)))
  pub send : (t r l : List ℕ) (d p hint : ℕ) → table_size ≤ length t → domain_size ≤ length r →
      send_bytes n t r l d p hint
      ≡ cond (eqb (near_code_of n t r l d p) 0) (far_bytes 0 (across (table_at t) hint (end d (narrow p))) (find (table_at t) hint (end d (narrow p))))
      (far_bytes (near_code_of n t r l d p) 0 0)
  -- close and reply are those without cables; the cut is where the ledger change falls
  pub close : (t r l : List ℕ) (d p : ℕ) → table_size ≤ length t → (close_cables n t r l d p).carried ≡ close_bytes n r l p
  pub close_table : (t r l : List ℕ) (d p : ℕ) → table_size ≤ length t → domain_size ≤ length r →
      table_at (close_cables n t r l d p).table
      ≡ table_fallen d (fallen (close_start n (domain_at r) (ledger_at l) (port_at (narrow p))).outcome.next (narrow p)) (table_at t)
  pub reply : (t r l : List ℕ) (d seen : ℕ) → table_size ≤ length t → (reply_cables n t r l d seen).carried ≡ reply_bytes n r l seen
  pub reply_table : (t r l : List ℕ) (d seen : ℕ) → table_size ≤ length t → domain_size ≤ length r →
      table_at (reply_cables n t r l d seen).table
      ≡ table_fallen d (fallen (reply_of n (domain_at r) (ledger_at l) seen).outcome.next (closing_port (domain_at r).call)) (table_at t)
  -- zeros are a fresh table
  pub zeros : table_at (replicate table_size 0) ≡ fresh
  -- a refusal leaves the table, 64 among them; a table that is too short is left by close and reply, with record and ledger
  pub lay_refused : (t r l s m : List ℕ) (d p e q : ℕ) → (lay_bytes n t r l s m d p e q).result.code ≢ 0 → (lay_bytes n t r l s m d p e q).table ≡ t
  pub cut_refused : (t r l : List ℕ) (d p : ℕ) → (cut_call_bytes n t r l d p).code ≢ 0 → (cut_call_bytes n t r l d p).table ≡ t
  pub close_short : (t r l : List ℕ) (d p : ℕ) → length t < table_size → close_cables n t r l d p ≡ with_table (carried too_short r l) t
  pub reply_short : (t r l : List ℕ) (d seen : ℕ) → length t < table_size → reply_cables n t r l d seen ≡ with_table (carried too_short r l) t
  -- what lies beyond a table stays
  pub lay_beyond : (t r l s m : List ℕ) (d p e q : ℕ) → Beyond table_size t (lay_bytes n t r l s m d p e q).table
  pub cut_beyond : (t r l : List ℕ) (d p : ℕ) → Beyond table_size t (cut_call_bytes n t r l d p).table
  pub close_beyond : (t r l : List ℕ) (d p : ℕ) → Beyond table_size t (close_cables n t r l d p).table
  pub reply_beyond : (t r l : List ℕ) (d seen : ℕ) → Beyond table_size t (reply_cables n t r l d seen).table
