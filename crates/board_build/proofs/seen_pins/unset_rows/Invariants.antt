use Rattle.std.proofs.Common.{◌≡◌, false, length, map, take}
use Rattle.std.specs.Prelude.{replicate}
use Rattle.board_lines.specs.PinRows.{pins_of_part}
use Rattle.board_build.proofs.seen_pins.unset_rows.Given as goal

abbrev pub invariant-loop-part : goal.invariant-loop-part
invariant-loop-part l = l.rows.items ≡ map (λ part. replicate (length (pins_of_part part.kind)) false) (take l.part-index l.parts)
