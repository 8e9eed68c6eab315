use Rattle.std.proofs.Common.{◌≡◌, take}
use Rattle.net_facts.specs.inner.Shared.{controls_of_pins}
use Rattle.net_facts.proofs.shared.controls_of.Given as goal

abbrev pub invariant-loop-pin : goal.invariant-loop-pin
invariant-loop-pin l = l.controls ≡ controls_of_pins (take l.pin-index l.pins)
