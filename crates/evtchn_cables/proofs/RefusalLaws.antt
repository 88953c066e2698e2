-- The refusals of lay, cut and send on bytes, in the order in which the code tests them.
-- Assumes nothing.
use Prim.Native.Nat.{ℕ}
use mathlib.Core.Path.{◌≡◌}
use mathlib.Core.Bool.{false, cond}
use mathlib.Core.List.{List}
use native.Mathlib.Omega.{arith}
use Rattle.std.proofs.lemmas.Bool.Decides.{nat_tests}
use lib.ListN.{length}
use lib.Dec.{eqb, ltb, leb}
use Rattle.evtchn_fifo.specs.DomainRecord.{domain_size}
use Rattle.cables.specs.Table.{domain_limit, end, taken}
use Rattle.cables.specs.Rules.{join_refusal, lay_refusal, near_refusal}
use Rattle.evtchn_cables.specs.declared.refusals.Refusal.{Refusal}
use Rattle.evtchn_cables.specs.TableBytes.{table_at}
use Rattle.evtchn_cables.specs.Encoded.{refusal_number, port_refusal_bytes, lent_refusal, near_refusal_bytes, lay_code, near_code}

-- no refusal's number is 0
pub number_some : (e : Refusal) → eqb (refusal_number e) 0 ≡ false
number_some e = grind arith

pub near_code_is : (n : ℕ) (t r l : List ℕ) (d p : ℕ) →
    near_code n t r l d p ≡ cond (eqb (near_refusal_bytes n t r l d p) 0) (cond (taken (table_at t) (end d p)) 0 26) (near_refusal_bytes n t r l d p)
unfolding near_refusal near_refusal_bytes
near_code_is n t r l d p = grind (arith, nat_tests)

pub lay_code_is : (n : ℕ) (t r l s m : List ℕ) (d p e q : ℕ) →
    lay_code n t r l s m d p e q
    ≡ cond (leb domain_limit d) 23
    (cond (leb domain_limit e) 23
    (cond (eqb d e) 24
    (cond (ltb (length s) domain_size) 64
    (cond (eqb (near_refusal_bytes n t r l d p) 0)
    (cond (eqb (port_refusal_bytes n s m q) 0) (join_refusal (table_at t) (end d p) (end e q)) (port_refusal_bytes n s m q))
    (near_refusal_bytes n t r l d p)))))
unfolding lay_code lay_refusal near_refusal_bytes lent_refusal
lay_code_is n t r l s m d p e q = grind (arith, nat_tests)
