use Rattle.std.proofs.Common.{◌∙◌, ap}
use Rattle.board_defs.specs.Passes.{useful_controls}
use Rattle.net_facts.proofs.UsefulLemmas.{useful_cells}
use Rattle.net_classes.proofs.questions.BoardClasses.useful.Goals as goal

pub returns-clause-cells : goal.returns-clause-cells
returns-clause-cells c =
    useful_cells c.args.self.now _
    (c.deref.ensures.value ∙ c.self.invariant.useful_are ∙ ap useful_controls c.self.view_is)
