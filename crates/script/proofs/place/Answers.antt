-- `script::place`: what the parts of the list give the search. Assumes nothing.
use Rattle.std.proofs.Common.{rules, tests, ◌≡◌, ◌+◌, ◌∙◌, ap}
use Rattle.std.specs.List.{position, slice_split}
use Rattle.std.specs.Option.{option_map}
use Rattle.std.proofs.lemmas.Iterator.Search.{position_from_yields_List}
use Rattle.std.proofs.lemmas.Iterator.Splits.{YieldsList-from_slice_split}
use Rattle.script.specs.Names.{is_blank, same_name}
use Rattle.script.proofs.place.Goals as goal

pub returns : goal.returns
returns c =
    let found : c.position.result ≡ position (λ name. same_name name c.args.word.now) (slice_split is_blank c.args.list.now) =
    position_from_yields_List (λ name. same_name name c.args.word.now) _ _ _ c.position.ensures.ran
    (YieldsList-from_slice_split _ is_blank c.args.list.now c.split.ensures.rest c.split.ensures.done c.split.ensures.closure (λ x b q k. search (rules, tests)))
    (λ x b q k. search (rules, tests)) in
    let mapped : c.map.result ≡ option_map (λ at. at + 1) c.position.result = search rules in
    mapped ∙ ap (λ at. option_map (λ n. n + 1) at) found
