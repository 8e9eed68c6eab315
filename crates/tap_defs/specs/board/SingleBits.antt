-- The bit that a compared cell captures under a single fault. It follows from the row in the latches.
use Rattle.std.specs.Prelude.{ℕ, ◌==◌, Bool, false, cond, ◌&&◌, ◌||◌, Option, Some, None, slice_get, option_and_then, unwrap_or}
use Rattle.board_defs.specs.declared.board.Net.{Net}
use Rattle.board_defs.specs.declared.board.RawBoard.{RawBoard}
use Rattle.board_defs.specs.declared.fault.Kind.{Kind}
use Rattle.board_defs.specs.declared.fault.Kind.TheVariants.{And, Or, First, Second}
use Rattle.board_defs.specs.declared.fault.Single.{Single}
use Rattle.board_defs.specs.declared.fault.Single.TheVariants.{StuckNet, OpenPin, Short}
use Rattle.tap_defs.specs.board.NetBits.{Feeding, Unruled, Undriven, Driven, Contended, bit_or_else, Place}
use Rattle.tap_defs.specs.board.TestRows.{TestRow, first_enabled}
use Rattle.tap_defs.specs.board.RowDriving.{row_feeding}

-- the bit to which a net is driven, or None if not exactly one driver drives it
abbrev pub bit_of_feeding : Feeding → Option Bool
bit_of_feeding Unruled = None
bit_of_feeding Undriven = None
bit_of_feeding (Driven place bit) = Some bit
bit_of_feeding Contended = None

-- The bit to which a net is driven while the row is in the latches. It is None if no driver of the net is enabled, or
-- if the enabled driver is controlled by its own cell and the cell has the disable value.
abbrev pub driven_to : RawBoard → TestRow → Option Net → Option Bool
driven_to board row net = option_and_then (λ n. bit_of_feeding (row_feeding board row n)) net

-- the value to which the net is pulled, if it is pulled
abbrev pub pulled_to : Option Net → Option Bool
pulled_to net = option_and_then (λ n. n.pull) net

-- the combined bit of two shorted nets, according to the kind of the short; if only one net has a bit, the result is
-- that bit
abbrev pub shorted : Kind → Option Bool → Option Bool → Option Bool
shorted kind None second = second
shorted kind (Some first) None = Some first
shorted And (Some first) (Some second) = Some (first && second)
shorted Or (Some first) (Some second) = Some (first || second)
shorted First (Some first) (Some second) = Some first
shorted Second (Some first) (Some second) = Some second

-- The bit of two shorted nets. It is the combination of the bits to which they are driven. If neither is driven, it is
-- the combination of their pulls.
abbrev pub shorted_nets_bit : RawBoard → TestRow → Kind → Option Net → Option Net → Option Bool
shorted_nets_bit board row kind first second =
    bit_or_else (shorted kind (driven_to board row first) (driven_to board row second)) (shorted kind (pulled_to first) (pulled_to second))

-- true if there is a place and it is `place`
abbrev pub is_place : Option ℕ → ℕ → Bool
is_place None place = false
is_place (Some other) place = other == place

-- The bit of a cell on the net of the open pin. A cell that reads the open pin itself has the constant of the pin. For
-- any other cell there are two cases. If the open pin is the enabled driver, the bit is the net's pull, or the constant
-- if the net has no pull. Otherwise it is the expected bit.
abbrev pub open_bit : RawBoard → TestRow → ℕ → Bool → Place → Bool → Bool
open_bit board row opened value at expected =
    cond (at.place == opened) value
    (cond (is_place (first_enabled board row.setting 0 at.net.pins) opened) (unwrap_or at.net.pull value) expected)

-- The bit of a compared cell under a single fault. It is the expected bit unless the fault is on the cell's net.
abbrev pub single_bit : RawBoard → Single → TestRow → Place → Bool → Bool
single_bit board (StuckNet net value) row at expected = cond (at.number == net) value expected
single_bit board (OpenPin pin value) row at expected = cond (at.number == pin.net) (open_bit board row pin.place value at expected) expected
single_bit board (Short a b kind) row at expected =
    cond ((at.number == a) || (at.number == b))
    (unwrap_or (shorted_nets_bit board row kind (slice_get board.nets a) (slice_get board.nets b)) expected)
    expected
