-- The calls on bytes: t is the table, r and l a domain's record and ledger, n the number of link bits. 23 and 24 come before 64, since
-- a domain that can't be has no record to lend; then 64, and the rest. A refusal leaves every byte.
-- Assumes nothing.
use Rattle.std.specs.Prelude.{ℕ, Bool, cond, ◌||◌, List, length, eqb, ltb, leb, Result, Ok, Err}
use Rattle.evtchn_fifo.specs.Numbers.{narrow}
use Rattle.evtchn_fifo.specs.Encoded.{Carried, too_short}
use Rattle.evtchn_fifo.specs.Ledger.{entry_in}
use Rattle.evtchn_fifo.specs.DomainRecord.{domain_size, given_in, closing_in}
use Rattle.evtchn_fifo.specs.Hypervisor.{close_bytes, reply_bytes}
use Rattle.evtchn_cables.specs.declared.joining.Laid.{Laid}
use Rattle.evtchn_cables.specs.declared.joining.Far.{Far}
use Rattle.evtchn_cables.specs.declared.refusals.Refusal.{Refusal}
use Rattle.evtchn_cables.specs.declared.refusals.Refusal.TheVariants.{BadPort, NotBound, NotGiven, NoEntry, BadDomain, SameDomain, Taken, NoCable, Full, TooShort}
use Rattle.cables.specs.Table.{domain_limit, end, domain_of, port_of, find, lowest_free, across}
use Rattle.cables.specs.Rules.{refusal_by, lay_refusal, near_refusal, fallen_at}
use Rattle.evtchn_cables.specs.TableBytes.{table_size, table_at, put_slot, cut_bytes}

-- ---- refusals

-- a refusal's number in the C header
abbrev pub refusal_number : Refusal → ℕ
refusal_number BadPort = 3
refusal_number NotBound = 4
refusal_number NotGiven = 10
refusal_number NoEntry = 14
refusal_number BadDomain = 23
refusal_number SameDomain = 24
refusal_number Taken = 25
refusal_number NoCable = 26
refusal_number Full = 34
refusal_number TooShort = 64

-- 0 where nothing is refused
abbrev pub result_code : {T : Type 0} → Result T Refusal → ℕ
result_code (Ok x) = 0
result_code (Err e) = refusal_number e

unfoldable pub port_refusal_bytes : ℕ → List ℕ → List ℕ → ℕ → ℕ
port_refusal_bytes n r l p = refusal_by n (given_in r) p (entry_in l p)

abbrev pub is_short : List ℕ → List ℕ → Bool
is_short t r = ltb (length t) table_size || ltb (length r) domain_size

-- 64, then the port's own
unfoldable pub lent_refusal : Bool → ℕ → ℕ
lent_refusal short c = cond short 64 c

-- the near end's of a cut or a send, all but 26
unfoldable pub near_refusal_bytes : ℕ → List ℕ → List ℕ → List ℕ → ℕ → ℕ → ℕ
near_refusal_bytes n t r l d p = cond (leb domain_limit d) 23 (lent_refusal (is_short t r) (port_refusal_bytes n r l p))

-- ---- lay

pub record LayDid : Type 0 where
  pub result : Laid
  pub table : List ℕ

abbrev pub laid_bytes : Laid → List ℕ → LayDid
laid_bytes x t = record { result = x; table = t }

abbrev pub refused_lay : ℕ → Laid
refused_lay code = record { code = code; slot = 0 }

-- 0 with the new cable's slot, or a refusal's number
abbrev pub laid : Result ℕ Refusal → Laid
laid (Ok i) = record { code = 0; slot = i }
laid (Err e) = refused_lay (refusal_number e)

abbrev pub lay_did : ℕ → List ℕ → ℕ → ℕ → LayDid
lay_did code t a b =
    cond (eqb code 0) (laid_bytes (record { code = 0; slot = lowest_free (table_at t) }) (put_slot t (lowest_free (table_at t)) a b))
    (laid_bytes (refused_lay code) t)

unfoldable pub lay_code : ℕ → List ℕ → List ℕ → List ℕ → List ℕ → List ℕ → ℕ → ℕ → ℕ → ℕ → ℕ
lay_code n t r l s m d p e q =
    lay_refusal d e (lent_refusal (is_short t r || ltb (length s) domain_size) (port_refusal_bytes n r l p)) (port_refusal_bytes n s m q) (table_at t) (end d p) (end e q)

abbrev pub lay_bytes : ℕ → List ℕ → List ℕ → List ℕ → List ℕ → List ℕ → ℕ → ℕ → ℕ → ℕ → LayDid
lay_bytes n t r l s m d p e q = lay_did (lay_code n t r l s m d (narrow p) e (narrow q)) t (end d (narrow p)) (end e (narrow q))

-- ---- cut and send

abbrev pub near_code : ℕ → List ℕ → List ℕ → List ℕ → ℕ → ℕ → ℕ
near_code n t r l d p = near_refusal d (lent_refusal (is_short t r) (port_refusal_bytes n r l p)) (table_at t) (end d p)

pub record CutDid : Type 0 where
  pub code : ℕ
  pub table : List ℕ

abbrev pub was_cut : ℕ → List ℕ → CutDid
was_cut code t = record { code = code; table = t }

abbrev pub cut_did : ℕ → List ℕ → ℕ → CutDid
cut_did code t e = was_cut code (cond (eqb code 0) (cut_bytes t e) t)

abbrev pub cut_call_bytes : ℕ → List ℕ → List ℕ → List ℕ → ℕ → ℕ → CutDid
cut_call_bytes n t r l d p = cut_did (near_code n t r l d (narrow p)) t (end d (narrow p))

-- 0 with the far end f and the slot, or a refusal's number
abbrev pub far_bytes : ℕ → ℕ → ℕ → Far
far_bytes code f i = record { code = code; domain = domain_of f; port = port_of f; slot = i }

abbrev pub sent : Result Far Refusal → Far
sent (Ok x) = x
sent (Err e) = far_bytes (refusal_number e) 0 0

abbrev pub far_found : ℕ → List ℕ → ℕ → ℕ → Far
far_found code t hint e =
    cond (eqb code 0) (far_bytes 0 (across (table_at t) hint e) (find (table_at t) hint e))
    (far_bytes code 0 0)

abbrev pub send_bytes : ℕ → List ℕ → List ℕ → List ℕ → ℕ → ℕ → ℕ → Far
send_bytes n t r l d p hint = far_found (near_code n t r l d (narrow p)) t hint (end d (narrow p))

-- ---- close and reply, as they are without cables, and the cut where a close's ledger change falls

pub record CarriedCables : Type 0 where
  pub carried : Carried
  pub table : List ℕ

abbrev pub with_table : Carried → List ℕ → CarriedCables
with_table c t = record { carried = c; table = t }

-- p falls, or 0
unfoldable pub fall_bytes : List ℕ → ℕ → ℕ → List ℕ
fall_bytes t d p = cond (eqb p 0) t (cut_bytes t (end d p))

abbrev pub carried_on : List ℕ → ℕ → ℕ → Carried → CarriedCables
carried_on t d p c = with_table c (fall_bytes t d (fallen_at c.next.code p))

-- without a table nothing is done
abbrev pub no_table : List ℕ → List ℕ → Carried
no_table r l = record { next = too_short; record_bytes = r; ledger_bytes = l }

unfoldable pub close_cables : ℕ → List ℕ → List ℕ → List ℕ → ℕ → ℕ → CarriedCables
close_cables n t r l d p = cond (ltb (length t) table_size) (with_table (no_table r l) t) (carried_on t d (narrow p) (close_bytes n r l p))

unfoldable pub reply_cables : ℕ → List ℕ → List ℕ → List ℕ → ℕ → ℕ → CarriedCables
reply_cables n t r l d seen = cond (ltb (length t) table_size) (with_table (no_table r l) t) (carried_on t d (closing_in r) (reply_bytes n r l seen))
