use Rattle.std.proofs.Common.{◌∙◌, ◌<◌, sym, get_or, length, arith}
use Rattle.std.proofs.lemmas.List.{get_or_default}
use Rattle.board_defs.specs.declared.board.Drive.{Drive}
use Rattle.board_defs.specs.declared.board.Drive.TheVariants.{AlwaysOn}
use Rattle.driver_passes.proofs.PairLemmas.{pair_found, pair_missed}
use Rattle.driver_passes.proofs.paired.first_pair.Goals as goal

pub returns-in-Some-clause-found : goal.returns-in-Some-clause-found
returns-in-Some-clause-found c =
    let drivers = c.tested_drivers-drivers.result.now in
    let i = c.loop-d.d-index in
    let less : i < length drivers = omega arith in
    let d : Drive = get_or drivers i AlwaysOn in
    sym
    (pair_found c.args.board.now drivers c.tested_drivers-others.result.now i d c.in-Some.e
    less (get_or_default drivers i AlwaysOn d less) (sym c.in-Some.ensures.found))
    ∙ c.loop-d.invariant

pub loop-d-preserved : goal.loop-d-preserved
loop-d-preserved c =
    let drivers = c.tested_drivers-drivers.result.now in
    let i = c.loop-d.d-index in
    let less : i < length drivers = omega arith in
    let d : Drive = get_or drivers i AlwaysOn in
    sym
    (pair_missed c.args.board.now drivers c.tested_drivers-others.result.now i d less
    (get_or_default drivers i AlwaysOn d less) (sym c.in_default.ensures.found))
    ∙ c.loop-d.invariant
