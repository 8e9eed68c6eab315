use Rattle.std.proofs.Common.{◌≡◌, take}
use Rattle.driver_passes.specs.inner.Shown.{words_at}
use Rattle.driver_passes.proofs.column.words_of.Given as goal

abbrev pub invariant-loop-row : goal.invariant-loop-row
invariant-loop-row l = l.words.items ≡ words_at l.number (take l.row-index l.rows)
