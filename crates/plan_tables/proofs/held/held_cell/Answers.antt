use Rattle.std.proofs.Common.{arith}
use Rattle.net_pins.proofs.PositionLemmas.{position_within}
use Rattle.plan_tables.proofs.held.held_cell.Goals as goal

pub get-requires : goal.get-requires
get-requires c =
    omega (
      arith,
      position_within c.args.board.now c.args.c.part c.args.c.cell c.requires.cell,
      c.requires.quiet,
      c.cell_position-position.ensures,
    )

pub returns-clause-within : goal.returns-clause-within
returns-clause-within c =
    omega (arith, position_within c.args.board.now c.args.c.part c.args.c.cell c.requires.cell, c.cell_position-position.ensures)
