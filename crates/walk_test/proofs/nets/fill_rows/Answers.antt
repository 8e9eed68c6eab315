use Rattle.std.proofs.Common.{Bool, List, ap, ◌∙◌, arith}
use Rattle.tap_defs.specs.chain.Scan.{mask_bits, tdi_bits}
use Rattle.scan_planner.specs.Planned.{PlannedPass, scan_bits_of}
use Rattle.walk_test.specs.inner.Tables.{cleared}
use Rattle.walk_test.proofs.FillLemmas.{first_marked, first_shifted, some_width}
use Rattle.walk_test.proofs.nets.fill_rows.Goals as goal

pub fill_compared-requires : goal.fill_compared-requires
fill_compared-requires c =
    let test = c.args.test.now in
    rw c.pass-pass.ensures
    (record {
      row = omega (arith, some_width test.board test.plan c.plan.ensures.plan);
      tdo_room =
          c.requires.still;
      mask_room = c.requires.mask;
    })

pub fill_shifted-requires : goal.fill_shifted-requires
fill_shifted-requires c =
    let test = c.args.test.now in
    rw c.pass-pass.ensures
    (record {
      row = omega (arith, some_width test.board test.plan c.plan.ensures.plan);
      room = omega
          (arith, c.requires.still, c.fill_compared.ensures.tdo_kept);
    })

pub returns : goal.returns
returns c =
    let test = c.args.test.now in
    record {
      still = λ some.
          c.clear_drivers.ensures
          ∙ ap (λ (bits : List Bool). cleared bits c.args.cells.now)
          (c.fill_shifted.ensures.bits
          ∙ ap (λ (p : PlannedPass). tdi_bits (scan_bits_of p 0)) c.pass-pass.ensures
          ∙ first_shifted test.board test.plan c.plan.ensures.plan);
      mask =
          λ some. c.fill_compared.ensures.mask
          ∙ ap (λ (p : PlannedPass). mask_bits (scan_bits_of p 1)) c.pass-pass.ensures
          ∙ first_marked test.board test.plan c.plan.ensures.plan;
    }
