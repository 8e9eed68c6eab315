-- The sections of the coverage list in the form in which the code writes them. A section consists of one text for each net number, joined
-- in order.
use Rattle.std.specs.Prelude.{ℕ, ◌+◌, ◌-◌, Bool, not, ◌&&◌, List, [], length, Option, None, Some, slice_get, cond}
use Rattle.std.specs.List.{flat_map, range_with_len}
use Rattle.board_defs.specs.declared.board.Net.{Net}
use Rattle.board_defs.specs.declared.board.RawBoard.{RawBoard}
use Rattle.board_defs.specs.Decided.{is_covered, are_paired, reason_of}
use Rattle.coverage_list.specs.declared.lines.PinUse.{PinUse}
use Rattle.coverage_list.specs.declared.lines.Section.{Section}
use Rattle.coverage_list.specs.declared.lines.Section.TheVariants.{Reasons, Untested, Pairs}
use Rattle.coverage_list.specs.CoverText.{is_untested, reason_line, reason_lines, pin_line, pin_lines, pair_line, pair_lines}

-- the texts that `text` gives for the numbers `n..count`, joined in order
abbrev pub texts_from : (ℕ → List ℕ) → ℕ → ℕ → List ℕ
texts_from text n count = flat_map text (range_with_len n (count - n))

-- the text of an item, or no text if there is no item
abbrev pub of_item : {X : Type 0} → (X → List ℕ) → Option X → List ℕ
of_item text None = []
of_item text (Some x) = text x

-- the line of the net if it is not covered, or no text if it is covered
abbrev pub net_reason : RawBoard → Net → List ℕ
net_reason board net = reason_line net.name (reason_of board net)

abbrev pub reason_at : RawBoard → ℕ → List ℕ
reason_at board n = of_item (net_reason board) (slice_get board.nets n)

-- the line of the pin at this place of the net if the pin is untested in this role, or no text if not
abbrev pub pin_text_at : RawBoard → PinUse → Net → ℕ → List ℕ
pin_text_at board pin_use net place = cond (is_untested board pin_use net place) (pin_line pin_use (slice_get net.pins place)) []

abbrev pub untested_pin_lines : RawBoard → PinUse → Net → List ℕ
untested_pin_lines board pin_use net = cond (is_covered board net) (texts_from (pin_text_at board pin_use net) 0 (length net.pins)) []

abbrev pub untested_lines_at : RawBoard → PinUse → ℕ → List ℕ
untested_lines_at board pin_use n = of_item (untested_pin_lines board pin_use) (slice_get board.nets n)

-- net `high` is covered and not paired with net `low`
abbrev pub is_unpaired : RawBoard → Net → Net → Bool
is_unpaired board low high = is_covered board high && not (are_paired board low high)

abbrev pub pair_text : RawBoard → Net → Net → List ℕ
pair_text board low high = cond (is_unpaired board low high) (pair_line low high) []

abbrev pub pair_at : RawBoard → Net → ℕ → List ℕ
pair_at board low n = of_item (pair_text board low) (slice_get board.nets n)

abbrev pub net_pairs : RawBoard → ℕ → Net → List ℕ
net_pairs board n low = cond (is_covered board low) (texts_from (pair_at board low) (n + 1) (length board.nets)) []

abbrev pub untested_pair_lines : RawBoard → ℕ → List ℕ
untested_pair_lines board n = of_item (net_pairs board n) (slice_get board.nets n)

-- the lines of a section about the net with this number
abbrev pub section_at : RawBoard → Section → ℕ → List ℕ
section_at board Reasons = reason_at board
section_at board (Untested pin_use) = untested_lines_at board pin_use
section_at board Pairs = untested_pair_lines board

abbrev pub section_lines : RawBoard → Section → List ℕ
section_lines board Reasons = reason_lines board
section_lines board (Untested pin_use) = pin_lines board pin_use
section_lines board Pairs = pair_lines board
