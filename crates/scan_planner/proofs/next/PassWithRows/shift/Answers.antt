use Rattle.std.proofs.Common.{◌∙◌, length, ap, arith}
use Rattle.tap_defs.specs.chain.Scan.{tdi_bits}
use Rattle.scan_planner.specs.Plans.{scan_of_pass}
use Rattle.scan_planner.specs.Planned.{PlannedPass, scan_bits_of}
use Rattle.scan_planner.proofs.FillLemmas.{shifted_size}
use Rattle.scan_planner.proofs.next.PassWithRows.shift.Goals as goal

pub copy_stacked-requires-clause-number : goal.copy_stacked-requires-clause-number
copy_stacked-requires-clause-number c = omega (arith, c.if-j-width.true, c.width.ensures, c.laws.ensures.few)

pub copy_stacked-requires-clause-room : goal.copy_stacked-requires-clause-room
copy_stacked-requires-clause-room c =
    let pass = c.self.inside.pass in
    omega (
      arith,
      ap length (c.self.invariant.shifted c.args.j (omega (arith, c.if-j-width.true, c.width.ensures))),
      shifted_size pass.test.board (scan_of_pass pass.test.board pass.test.plan pass.number c.args.j),
      rw (← c.self.view_is) at c.requires,
    )

pub returns-then-j-width-clause-bits : goal.returns-then-j-width-clause-bits
returns-then-j-width-clause-bits c =
    c.copy_stacked.ensures.bits
    ∙ c.self.invariant.shifted c.args.j (omega (arith, c.if-j-width.true, c.width.ensures))
    ∙ ap (λ (p : PlannedPass). tdi_bits (scan_bits_of p c.args.j)) c.self.view_is
