use Rattle.std.proofs.Common.{◌≡◌, ◌<◌, ◌-◌, ◌+◌, ◌/◌, ◌||◌, ℕ, true, drop, length}
use Rattle.std.specs.List.{list_any}
use Rattle.board_defs.specs.Passes.{shows, useful_controls}
use Rattle.driver_passes.specs.inner.Drafts.{passing_controls, setting_of}
use Rattle.driver_passes.specs.inner.NumberSets.{is_in}
use Rattle.net_classes.specs.Pairs.{drivers_at}
use Rattle.driver_passes.specs.inner.Tested.{drives}
use Rattle.driver_passes.proofs.tested.TestedNets.shown_by.Given as goal

-- `place` is a place in the list of useful controls, and is in `held` unless it is past the end of the list. The nets in the row, together
-- with the nets that the pass's controls from `place` on test, are the nets that the pass shows.
abbrev pub invariant-loop-place : goal.invariant-loop-place
invariant-loop-place l = record {
  room : length l.row ≡ length l.board.nets / 64 + 1;
  held : l.place < l.places → is_in l.held l.place ≡ true;
  rest : (n : ℕ) → n < length l.board.nets
      → (is_in l.row n
      || list_any (λ c. drives c (drivers_at l.board n))
      (passing_controls (is_in l.held) l.place (drop l.place (useful_controls l.board))))
      ≡ shows (drivers_at l.board n) (setting_of l.board l.held);
}

abbrev pub decreases-loop-place : goal.decreases-loop-place
decreases-loop-place l = l.places - l.place
