use Rattle.std.proofs.Common.{suc, ◌∙◌, length, ap, arith}
use Rattle.tap_defs.specs.chain.Scan.{tdo_bits}
use Rattle.scan_planner.specs.Plans.{scan_of_pass}
use Rattle.scan_planner.specs.Planned.{PlannedPass, scan_bits_of}
use Rattle.scan_planner.proofs.FillLemmas.{expected_size}
use Rattle.scan_planner.proofs.next.PassWithRows.expect.Goals as goal

pub copy_stacked-requires-clause-number : goal.copy_stacked-requires-clause-number
copy_stacked-requires-clause-number c = omega (arith, rw (← c.self.view_is) at c.requires.row, c.laws.ensures.few)

pub copy_stacked-requires-clause-room : goal.copy_stacked-requires-clause-room
copy_stacked-requires-clause-room c =
    let pass = c.self.inside.pass in
    omega (
      arith,
      ap length (c.self.invariant.expected c.args.j (rw (← c.self.view_is) at c.requires.row)),
      expected_size pass.test.board (scan_of_pass pass.test.board pass.test.plan pass.number (suc c.args.j)),
      rw (← c.self.view_is) at c.requires.room,
    )

pub returns-clause-bits : goal.returns-clause-bits
returns-clause-bits c =
    c.copy_stacked.ensures.bits
    ∙ c.self.invariant.expected c.args.j (rw (← c.self.view_is) at c.requires.row)
    ∙ ap (λ (p : PlannedPass). tdo_bits (scan_bits_of p (suc c.args.j))) c.self.view_is
