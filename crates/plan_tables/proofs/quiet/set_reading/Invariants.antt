use Rattle.std.proofs.Common.{◌≡◌, take}
use Rattle.board_defs.specs.DeviceRules.{is_reading}
use Rattle.plan_tables.specs.inner.QuietBits.{safe_value_in, set_by}
use Rattle.plan_tables.proofs.quiet.set_reading.Given as goal

abbrev pub invariant-loop-entry : goal.invariant-loop-entry
invariant-loop-entry l = l.row ≡ set_by (safe_value_in is_reading) l.initial.row (take l.entry-index l.entries)
