-- `evtchn_cables::table::lowest_with` meets its contract. Assumes nothing.
use mathlib.Core.Path.{◌≡◌}
use mathlib.Core.Bool.{true, false}
use Rattle.std.proofs.Common.{rules, arith, tests}
use Rattle.std.proofs.lemmas.Iterator.{first_from_Range}
use Rattle.cables.specs.Table.{has}
use Rattle.evtchn_cables.specs.TableBytes.{slot_in}
use Rattle.evtchn_cables.proofs.SlotLaws.{lowest_found}
use Rattle.evtchn_cables.proofs.table.lowest_with.Goals as goal

pub returns : goal.returns
returns c =
    let t = c.args.table.now in
    lowest_found (λ s. has s c.args.end) t _
    (first_from_Range _ _ _ _ (λ i. has (slot_in t i) c.args.end ≡ true) (λ i. has (slot_in t i) c.args.end ≡ false) c.find.ensures.ran
    (λ x q k. grind (arith, tests))
    (λ x q k. (search rules, grind (arith, tests))))
