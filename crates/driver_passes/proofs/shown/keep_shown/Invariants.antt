use Rattle.std.proofs.Common.{◌≡◌, ◌<◌, ◌/◌, ℕ, take, length}
use Rattle.std.specs.List.{list_all}
use Rattle.driver_passes.specs.inner.NumberSets.{is_in}
use Rattle.driver_passes.proofs.shown.keep_shown.Given as goal

abbrev pub invariant-loop-row : goal.invariant-loop-row
invariant-loop-row l = record {
  room : length l.always ≡ length l.initial.always;
  nets : (n : ℕ) → n / 64 < length l.initial.always → is_in l.always n ≡ list_all (λ row. is_in row n) (take l.row-index l.rows);
}
