use Rattle.std.proofs.Common.{◌≡◌, take}
use Rattle.plan_tables.specs.inner.QuietBits.{disable_value_in, set_by}
use Rattle.plan_tables.proofs.quiet.set_disabled.Given as goal

abbrev pub invariant-loop-entry : goal.invariant-loop-entry
invariant-loop-entry l = l.row ≡ set_by (disable_value_in l.raw l.part) l.initial.row (take l.entry-index l.entries)
