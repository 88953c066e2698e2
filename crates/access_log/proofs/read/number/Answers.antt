-- `access_log::read::number` meets its contract. Assumes nothing.
use Rattle.std.proofs.Common.{rules, ◌≡◌, ◌∙◌, ◌+◌, ◌*◌, ◌%◌, ◌^◌}
use Rattle.std.specs.List.{fold}
use Rattle.access_log.specs.Read.{digit_value}
use Rattle.access_log.proofs.ScanLaws.{value_folds}
use Rattle.access_log.proofs.read.number.Goals as goal

pub returns : goal.returns
returns c =
    let e : c.fold.result ≡ fold (λ n d. (n * c.args.base + digit_value d) % 2 ^ 32) 0 c.args.s.now = search rules in
    e ∙ value_folds _ _
