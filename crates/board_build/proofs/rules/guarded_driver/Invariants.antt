use Rattle.std.proofs.Common.{◌≡◌, false, drop}
use Rattle.std.specs.Prelude.{find, slice_index_or}
use Rattle.board_build.proofs.rules.guarded_driver.Given as goal

-- none of the drivers visited so far is on a net that must not have an always-on driver
abbrev pub invariant-loop-word : goal.invariant-loop-word
invariant-loop-word l =
    find (λ w. slice_index_or l.kept w.net false) l.drivers
    ≡ find (λ w. slice_index_or l.kept w.net false) (drop l.word-index l.drivers)
