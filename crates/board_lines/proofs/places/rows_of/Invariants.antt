use Rattle.std.proofs.Common.{take}
use Rattle.board_lines.specs.PinRows.{ArePinRows}
use Rattle.board_lines.proofs.places.rows_of.Given as goal

-- the row of each part visited so far has the pins of the part
abbrev pub invariant-loop-part : goal.invariant-loop-part
invariant-loop-part l = ArePinRows l.rows.items l.numbers.items (take l.part-index l.parts)
