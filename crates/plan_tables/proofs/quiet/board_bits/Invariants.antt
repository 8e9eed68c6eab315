use Rattle.std.proofs.Common.{◌≡◌, drop}
use Rattle.tap_defs.specs.chain.Scan.{joined}
use Rattle.plan_tables.specs.inner.Laid.{parts_laid, quiet_bits}
use Rattle.plan_tables.proofs.quiet.board_bits.Given as goal

abbrev pub invariant-loop-part : goal.invariant-loop-part
invariant-loop-part l = l.quiet.items ≡ joined (parts_laid (quiet_bits l.raw) l.part (drop l.part l.chain))
