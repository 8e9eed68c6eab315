use Rattle.std.proofs.Common.{◌≡◌, take}
use Rattle.board_lines.specs.PinRows.{pins_of_bits}
use Rattle.board_lines.proofs.pin_rows.have_same_pins.Given as goal

-- the first `i` bits of both lists have the same pins
abbrev pub invariant-loop-i : goal.invariant-loop-i
invariant-loop-i l = pins_of_bits (take l.i l.a) ≡ pins_of_bits (take l.i l.b)
