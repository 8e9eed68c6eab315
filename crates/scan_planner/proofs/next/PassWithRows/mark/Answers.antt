use Rattle.std.proofs.Common.{suc, ◌∙◌, length, ap, arith}
use Rattle.tap_defs.specs.chain.Scan.{mask_bits}
use Rattle.scan_planner.specs.Plans.{scan_of_pass}
use Rattle.scan_planner.specs.Planned.{PlannedPass, scan_bits_of}
use Rattle.scan_planner.proofs.FillLemmas.{marked_size}
use Rattle.scan_planner.proofs.next.PassWithRows.mark.Goals as goal

pub copy_row-requires : goal.copy_row-requires
copy_row-requires c =
    let pass = c.self.inside.pass in
    omega (
      arith,
      ap length (c.self.invariant.mask c.args.j (rw (← c.self.view_is) at c.requires.row)),
      marked_size pass.test.board (scan_of_pass pass.test.board pass.test.plan pass.number (suc c.args.j)),
      rw (← c.self.view_is) at c.requires.room,
    )

pub returns-clause-bits : goal.returns-clause-bits
returns-clause-bits c =
    c.copy_row.ensures.bits
    ∙ c.self.invariant.mask c.args.j (rw (← c.self.view_is) at c.requires.row)
    ∙ ap (λ (p : PlannedPass). mask_bits (scan_bits_of p (suc c.args.j))) c.self.view_is
