use Rattle.std.proofs.Common.{◌≡◌, take}
use Rattle.walk_test.specs.inner.Setting.{all_switching}
use Rattle.walk_test.proofs.setting.switching_of.Given as goal

abbrev pub invariant-loop-n : goal.invariant-loop-n
invariant-loop-n l = l.setting ≡ all_switching l.board (take l.n l.nets)
