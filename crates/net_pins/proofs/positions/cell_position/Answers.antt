use Rattle.std.proofs.Common.{◌+◌, ap, arith}
use Rattle.net_pins.proofs.PositionLemmas.{first_is, position_below}
use Rattle.net_pins.proofs.positions.cell_position.Goals as goal

pub bounds-firsts-part : goal.bounds-firsts-part
bounds-firsts-part c = (first_is c.args.board.now c.args.firsts.now c.requires.firsts c.args.part c.args.cell c.requires.cell).0

pub overflow_add-result : goal.overflow_add-result
overflow_add-result c =
    omega (
      arith,
      position_below c.args.board.now c.raw.ensures.rules c.args.part c.args.cell
          c.requires.cell,
      (first_is c.args.board.now c.args.firsts.now c.requires.firsts c.args.part c.args.cell
          c.requires.cell).1,
    )

pub returns : goal.returns
returns c =
    ap (λ n. n + c.args.cell)
    (first_is c.args.board.now c.args.firsts.now c.requires.firsts c.args.part c.args.cell
    c.requires.cell).1
