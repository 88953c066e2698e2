-- T-01's rules: the refusals of lay, cut and send in their order, by each port's own refusals and the table; what each call makes of the
-- table; and when a close's ledger change falls, which cuts. n is the number of link bits.
-- Assumes nothing.
use Rattle.std.specs.Prelude.{Option, Result, Ok, Err, ℕ, Bool, cond, not, ◌||◌, List, eqb, leb}
use Rattle.word.specs.Word.{port_at}
use Rattle.word.specs.Entry.{bound}
use Rattle.calls.specs.declared.types.Domain.{Domain}
use Rattle.calls.specs.declared.types.Answer.{Answer}
use Rattle.calls.specs.declared.types.Next.{Next}
use Rattle.calls.specs.declared.types.Next.TheVariants as next
use Rattle.calls.specs.declared.types.Owner.TheVariants as owner
use Rattle.calls.specs.Answers.{code_of}
use Rattle.calls.specs.Records.{entry_at}
use Rattle.calls.specs.Hypervisor.{accept_port}
use Rattle.cables.specs.Table.{Slot, domain_limit, end, taken, has_space, laid_at, cut_at}

-- ---- a port's own refusals: 10, 3, 14, 4; 0 where it passes. A call under way does not matter, so it is as if none were

abbrev pub entry_refusal : Result ℕ Answer → ℕ
entry_refusal (Err a) = (code_of a).number
entry_refusal (Ok e) = cond (bound e) 0 4

unfoldable pub refusal_by : ℕ → Bool → ℕ → Option ℕ → ℕ
refusal_by n given p found = entry_refusal (accept_port n owner.None given (port_at p) found)

abbrev pub port_refusal : ℕ → Domain → List ℕ → ℕ → ℕ
port_refusal n d ledger p = refusal_by n d.given p (entry_at ledger p)

-- ---- lay: 23, 24, each port's own, 25, 34. Domains d and e; c and k are their ports' own refusals, a and b the two ends

unfoldable pub join_refusal : List Slot → ℕ → ℕ → ℕ
join_refusal t a b =
    cond (taken t a || taken t b) 25
    (cond (has_space t) 0 34)

unfoldable pub lay_refusal : ℕ → ℕ → ℕ → ℕ → List Slot → ℕ → ℕ → ℕ
lay_refusal d e c k t a b =
    cond (leb domain_limit d || leb domain_limit e) 23
    (cond (eqb d e) 24
    (cond (not (eqb c 0)) c
    (cond (not (eqb k 0)) k
    (join_refusal t a b))))

-- ---- cut and send: 23, the port's own, 26

unfoldable pub near_refusal : ℕ → ℕ → List Slot → ℕ → ℕ
near_refusal d c t e =
    cond (leb domain_limit d) 23
    (cond (not (eqb c 0)) c
    (cond (taken t e) 0 26))

-- ---- the table afterwards, by the call's answer: refused, it stays

abbrev pub table_laid : ℕ → List Slot → ℕ → ℕ → List Slot
table_laid code t a b = cond (eqb code 0) (laid_at t a b) t

abbrev pub table_cut : ℕ → List Slot → ℕ → List Slot
table_cut code t e = cond (eqb code 0) (cut_at t e) t

-- ---- a close's ledger change falls where the close, or the reply that it waited for, answers 0: p is the port, 0 where none closes

abbrev pub fallen_at : ℕ → ℕ → ℕ
fallen_at code p = cond (eqb code 0) p 0

unfoldable pub fallen : Next → ℕ → ℕ
fallen (next.Access a) p = 0
fallen (next.Answer a count) p = fallen_at (code_of a).number p

-- it cuts
abbrev pub table_fallen : ℕ → ℕ → List Slot → List Slot
table_fallen d p t = cond (eqb p 0) t (cut_at t (end d p))
