use Rattle.board_defs.proofs.ControlOrder.{same_order}
use Rattle.board_defs.specs.Passes.{useful_controls}
use Rattle.net_classes.proofs.questions.BoardClasses.place_of.Goals as goal

pub place_in-requires : goal.place_in-requires
place_in-requires c =
    same_order (useful_controls c.args.self.now) c.useful.result.now c.useful.ensures.controls
    c.laws.ensures.passes.said.useful_in_order
