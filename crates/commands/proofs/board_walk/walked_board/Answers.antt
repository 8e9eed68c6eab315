use Rattle.std.proofs.Common.{Ok, subst, sym}
use Rattle.board_defs.specs.declared.board.RawBoard.{RawBoard}
use Rattle.commands.specs.Answers.{IsBoardOf}
use Rattle.commands.proofs.board_walk.walked_board.Goals as goal

pub returns-in_ok-with_walk-in-Ok-clause-denoted : goal.returns-in_ok-with_walk-in-Ok-clause-denoted
returns-in_ok-with_walk-in-Ok-clause-denoted c =
    subst (λ (board : RawBoard). IsBoardOf c.args.texts.now (Ok board)) (sym c.in_ok-with_walk-in-Ok.ensures) c.in-Ok.ensures.denoted
