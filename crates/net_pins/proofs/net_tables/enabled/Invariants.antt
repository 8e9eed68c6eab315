use Rattle.std.proofs.Common.{◌≡◌, drop}
use Rattle.board_defs.specs.Settings.{holds}
use Rattle.net_pins.specs.Enabled.{enabled_in}
use Rattle.net_pins.proofs.net_tables.enabled.Given as goal

abbrev pub invariant-loop-driver : goal.invariant-loop-driver
invariant-loop-driver l = enabled_in (holds l.setting) (drop l.driver-index l.drivers) ≡ enabled_in (holds l.setting) l.drivers
