use Rattle.std.proofs.Common.{◌≡◌, take}
use Rattle.walk_test.specs.inner.Setting.{with_pins}
use Rattle.walk_test.proofs.setting.add_pins.Given as goal

abbrev pub invariant-loop-pin : goal.invariant-loop-pin
invariant-loop-pin l = l.setting ≡ with_pins l.board l.pull l.fn.setting (take l.pin-index l.pins)
