use Rattle.std.proofs.Common.{◌≡◌, ◌<◌, ◌-◌, ◌++◌, true, drop, length}
use Rattle.driver_passes.specs.inner.Drafts.{passing_controls}
use Rattle.driver_passes.specs.inner.NumberSets.{is_in}
use Rattle.driver_passes.proofs.draft.controls_at.Given as goal

abbrev pub invariant-loop-place : goal.invariant-loop-place
invariant-loop-place l = record {
  held : l.place < length l.controls → is_in l.places l.place ≡ true;
  rest : l.found.items ++ passing_controls (is_in l.places) l.place (drop l.place l.controls)
      ≡ passing_controls (is_in l.places) 0 l.controls;
}

abbrev pub decreases-loop-place : goal.decreases-loop-place
decreases-loop-place l = length l.controls - l.place
