use Rattle.std.proofs.Common.{◌≡◌, take}
use Rattle.net_facts.specs.Cells.{table}
use Rattle.net_facts.specs.inner.Switching.{mark_pins}
use Rattle.net_facts.proofs.switching.mark_pins.Given as goal

abbrev pub invariant-loop-pin : goal.invariant-loop-pin
invariant-loop-pin l = table l.rows ≡ mark_pins (table l.initial.rows) (take l.pin-index l.pins)
