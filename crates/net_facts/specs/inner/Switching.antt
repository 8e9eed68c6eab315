-- The port bits whose pins are on unguarded nets that are pulled to a given value, in a table with a row for each part.
use Rattle.std.specs.Prelude.{◌≡◌, ◌<◌, Bool, true, false, not, ◌&&◌, List, map, fold, replicate, Option, Some, None, cond}
use Rattle.board_defs.specs.declared.board.Part.{Part}
use Rattle.board_defs.specs.declared.board.PinAt.{PinAt}
use Rattle.board_defs.specs.declared.board.RawBoard.{RawBoard}
use Rattle.board_defs.specs.Pins.{described, is_pulled_to}
use Rattle.board_defs.specs.Decided.{bit_count, is_switching, count_port_bits}
use Rattle.net_facts.specs.declared.facts.PinFacts.{PinFacts}
use Rattle.net_facts.specs.declared.facts.NetFacts.{NetFacts}
use Rattle.net_facts.specs.Cells.{put, item_of_cell, at_control, holds_there}

abbrev pub mark_at : Option PinAt → List (List Bool) → List (List Bool)
mark_at None rows = rows
mark_at (Some at) rows = at_control (record { part = at.part; cell = at.bit }) (put true) rows

abbrev pub mark_pins : List (List Bool) → List PinFacts → List (List Bool)
mark_pins rows pins = fold (λ r pin. mark_at pin.at r) rows pins

abbrev pub mark_pulled : Bool → List (List Bool) → NetFacts → List (List Bool)
mark_pulled value rows net = cond (not net.guarded && is_pulled_to value net.pull) (mark_pins rows net.pins) rows

abbrev pub blank_bits : List Part → List (List Bool)
blank_bits chain = map (λ part. replicate (bit_count (described part.kind)) false) chain

abbrev pub pulled_bits : List Part → List NetFacts → Bool → List (List Bool)
pulled_bits chain nets value = fold (mark_pulled value) (blank_bits chain) nets

abbrev pub is_marked : List (List Bool) → PinAt → Bool
is_marked rows at = holds_there (item_of_cell rows (record { part = at.part; cell = at.bit }))

-- the flag of each port bit says whether the bit's pin is on an unguarded net that is pulled to `value`
abbrev pub SaysPulled : RawBoard → List (List Bool) → Bool → Type 0
SaysPulled board rows value = (at : PinAt) → at.bit < count_port_bits board at.part → is_marked rows at ≡ is_switching board at value
