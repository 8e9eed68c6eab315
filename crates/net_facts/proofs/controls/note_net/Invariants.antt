use Rattle.std.proofs.Common.{◌≡◌, take}
use Rattle.net_facts.specs.Cells.{table}
use Rattle.net_facts.specs.inner.Rows.{note_pins}
use Rattle.net_facts.proofs.controls.note_net.Given as goal

abbrev pub invariant-loop-pin : goal.invariant-loop-pin
invariant-loop-pin l = table l.rows ≡ note_pins l.net l.closed (table l.initial.rows) (take l.pin-index l.pins)
