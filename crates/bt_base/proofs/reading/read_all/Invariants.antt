use Rattle.std.proofs.Common.{◌≡◌, ◌-◌, ◌≤◌, vec_len}
use Rattle.std.specs.Io.KnownBytes.{Consumes}
use Rattle.bt_base.proofs.reading.read_all.Given as goal

-- The vector has the bytes that the loop has taken from the reader, and no read of the loop has
-- failed.
abbrev pub invariant-loop-into : goal.invariant-loop-into
invariant-loop-into g l =
    (vec_len l.into ≤ l.limit)
    × Consumes (g.R.Read.remaining l.fn.from.from) (g.R.Read.remaining l.from.from) l.into.items
    × (l.from.failed ≡ l.fn.from.failed)

abbrev pub decreases-loop-into : goal.decreases-loop-into
decreases-loop-into g l = l.limit - vec_len l.into
