use Rattle.std.proofs.Common.{◌≡◌, ◌-◌, length}
use Rattle.board_defs.specs.Passes.{useful_controls}
use Rattle.driver_passes.specs.inner.Walks.{first_walked}
use Rattle.driver_passes.proofs.draft.Draft.first_walk.Given as goal

-- the walk from `place` on turns the current draft into the draft that the whole walk makes from the initial draft
abbrev pub invariant-loop-place : goal.invariant-loop-place
invariant-loop-place l =
    (l.self.board ≡ l.initial.self.board)
    × (first_walked l.self l.place l.earlier.passes.items
    ≡ first_walked l.initial.self 0 l.earlier.passes.items)

abbrev pub decreases-loop-place : goal.decreases-loop-place
decreases-loop-place l = length (useful_controls l.initial.self.board) - l.place
