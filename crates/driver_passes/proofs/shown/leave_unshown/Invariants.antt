use Rattle.std.proofs.Common.{◌≡◌, ◌<◌, ◌≤◌, ◌/◌, ℕ, not, take, length}
use Rattle.std.specs.List.{list_any}
use Rattle.driver_passes.specs.inner.NumberSets.{is_in}
use Rattle.driver_passes.specs.inner.Shown.{shows_both}
use Rattle.driver_passes.proofs.shown.leave_unshown.Given as goal

abbrev pub invariant-loop-i : goal.invariant-loop-i
invariant-loop-i l = record {
  room : length l.left ≡ length l.initial.left;
  nets : (n : ℕ) → l.a / 64 ≤ n / 64 → n / 64 < length l.initial.left
      → is_in l.left n ≡ not (list_any (shows_both l.a n) (take l.i l.rows));
}
