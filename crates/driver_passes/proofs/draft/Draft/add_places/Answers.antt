use Rattle.std.proofs.Common.{◌||◌, ◌∙◌, ap, sym, arith}
use Rattle.board_defs.specs.Passes.{useful_controls}
use Rattle.driver_passes.specs.inner.NumberSets.{is_in}
use Rattle.driver_passes.proofs.ChosenLemmas.{chosen_holds}
use Rattle.driver_passes.proofs.draft.Draft.add_places.Goals as goal

pub returns-clause-places : goal.returns-clause-places
returns-clause-places c =
    let held = c.self.inside.held in
    let useful = useful_controls c.self.inside.board.now in
    rw (sym c.self.view_is)
    (λ i e at. c.add_all.ensures.numbers i
    ∙ ap (λ t. t || is_in c.args.places.now i)
    (sym
    (chosen_holds (is_in held) 0 i i useful e
    c.classes-laws.ensures.laws.passes.said.useful_in_order (omega arith) at)))
