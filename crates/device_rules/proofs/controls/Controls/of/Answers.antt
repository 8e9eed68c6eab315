-- A cell past the end of the register has no entry.
use Rattle.device_rules.proofs.CellLemmas.{controls_known}
use Rattle.device_rules.proofs.controls.Controls.of.Goals as goal

pub invariant_of-result : goal.invariant_of-result
invariant_of-result c = controls_known c.args.boundary c.args.entries.now c.in_ok-flags.flags.items c.requires c.in_ok-flags.ensures
