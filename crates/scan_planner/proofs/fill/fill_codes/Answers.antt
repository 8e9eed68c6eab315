use Rattle.std.proofs.Common.{◌∙◌}
use Rattle.scan_planner.proofs.fill.fill_codes.Goals as goal

pub returns-clause-bits : goal.returns-clause-bits
returns-clause-bits c bits are = record {
  tdi = c.copy_from.ensures.tdi ∙ are.tdi;
  tdo = c.copy_from.ensures.tdo ∙ are.tdo;
  mask = c.copy_from.ensures.mask ∙ are.mask;
}
