use Rattle.std.proofs.Common.{Bool, List, true, length, set, sym, ap, ◌∙◌, arith}
use Rattle.board_defs.specs.Pins.{data_bits}
use Rattle.tap_defs.specs.board.BoardScans.{first_row_scan}
use Rattle.scan_planner.proofs.FillLemmas.{shifted_size}
use Rattle.walk_test.specs.inner.Tables.{shifted_in}
use Rattle.walk_test.proofs.FillLemmas.{still_length, driver_there, net_shifted, quiet_shifted}
use Rattle.walk_test.proofs.filling.RowFiller.shift.Goals as goal

pub copy_row-requires : goal.copy_row-requires
copy_row-requires c =
    let board = c.self.inside.board.now in
    omega (
      arith,
      ap length (c.quiet_row.ensures.shifted board c.self.invariant.0.plan),
      shifted_size board first_row_scan,
      ap (λ it. data_bits it.board) c.self.view_is,
      c.requires,
    )

pub copy_row-requires-in-Some : goal.copy_row-requires-in-Some
copy_row-requires-in-Some c =
    omega (
      arith,
      still_length c.self.inside.board.now c.raw-rules.ensures.rules c.self.inside.tables.now c.self.invariant.0 c.self.invariant.1,
      ap (λ it. data_bits it.board) c.self.view_is,
      c.requires,
    )

pub set-requires : goal.set-requires
set-requires c =
    omega (
      arith,
      driver_there c.self.inside.board.now c.raw-rules.ensures.rules c.self.inside.tables.now
          c.self.invariant.0 c.self.invariant.1 c.args.j c.in-Some.cells.now
          (sym c.in-Some.ensures),
      ap (λ (l : List Bool). length l) c.copy_row-in-Some.ensures.bits,
    )

pub returns-in-None-clause-bits : goal.returns-in-None-clause-bits
returns-in-None-clause-bits c =
    let board = c.self.inside.board.now in
    c.copy_row.ensures.bits
    ∙ c.quiet_row.ensures.shifted board c.self.invariant.0.plan
    ∙ quiet_shifted board c.raw-rules.ensures.rules c.self.inside.tables.now c.self.invariant.0
    c.self.invariant.1 c.args.j (sym c.in-None.ensures)
    ∙ ap (λ it. shifted_in it c.args.j) c.self.view_is

pub returns-in-Some-clause-bits : goal.returns-in-Some-clause-bits
returns-in-Some-clause-bits c =
    c.set.ensures.bits
    ∙ ap (λ (l : List Bool). set l c.in-Some.cells.now.driver true) c.copy_row-in-Some.ensures.bits
    ∙ net_shifted c.self.inside.board.now c.raw-rules.ensures.rules c.self.inside.tables.now
    c.self.invariant.0 c.self.invariant.1 c.args.j c.in-Some.cells.now (sym c.in-Some.ensures)
    ∙ ap (λ it. shifted_in it c.args.j) c.self.view_is
