use Rattle.std.proofs.Common.{◌≡◌, take, not}
use Rattle.std.specs.Prelude.{filter}
use Rattle.board_defs.specs.Settings.{holds}
use Rattle.walk_test.proofs.setting.others.Given as goal

abbrev pub invariant-loop-c : goal.invariant-loop-c
invariant-loop-c l = l.left.items ≡ filter (λ c. not (holds l.set c)) (take l.c-index l.controls)
