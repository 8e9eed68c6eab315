-- The coverage list of a board. It gives the number of nets and of covered nets, and names each net that is
-- not covered. It names each driver and each receiver of a covered net that no safe setting tests. It also
-- names each pair of covered nets that no safe setting observes together.
use Rattle.std.specs.Prelude.{ℕ, Bool, not, ◌&&◌, List, [], ◌∷◌, ◌++◌, length, codes, decimal, filter, Option, None, Some, is_some, slice_get}
use Rattle.std.specs.List.{flat_map, range_with_len}
use Rattle.line_printer.specs.Prints.{line_of}
use Rattle.board_defs.specs.declared.board.NetPin.{NetPin}
use Rattle.board_defs.specs.declared.board.Net.{Net}
use Rattle.board_defs.specs.declared.board.RawBoard.{RawBoard}
use Rattle.board_defs.specs.declared.coverage.Reason.{Reason}
use Rattle.board_defs.specs.declared.coverage.Reason.TheVariants.{Supply, TestPort, Dark, NoDriver, Blocked, NoReceiver}
use Rattle.board_defs.specs.Pins.{receives_of}
use Rattle.board_defs.specs.Decided.{place_drive, is_tested_driver, is_tested_receiver, is_covered, are_paired, reason_of}
use Rattle.board_defs.specs.Passes.{pairs_within}
use Rattle.coverage_list.specs.declared.lines.PinUse.{PinUse}
use Rattle.coverage_list.specs.declared.lines.PinUse.TheVariants.{Driver, Receiver}

-- the word for each reason
abbrev pub reason_word : Reason → List ℕ
reason_word Supply = codes "SUPPLY"
reason_word TestPort = codes "TESTPORT"
reason_word Dark = codes "DARK"
reason_word NoDriver = codes "NODRIVER"
reason_word Blocked = codes "BLOCKED"
reason_word NoReceiver = codes "NORECEIVER"

abbrev pub use_word : PinUse → List ℕ
use_word Driver = codes "DRIVER "
use_word Receiver = codes "RECEIVER "

-- the covered nets, in net order
abbrev pub covered : RawBoard → List Net
covered board = filter (is_covered board) board.nets

-- the line with the number of nets and the number of covered nets
abbrev pub count_line : RawBoard → List ℕ
count_line board = line_of (codes "NETS " ∷ decimal (length board.nets) ∷ codes " COVERED " ∷ decimal (length (covered board)) ∷ [])

-- the line of a net that is not covered, or no text if there is no reason
abbrev pub reason_line : List ℕ → Option Reason → List ℕ
reason_line name None = []
reason_line name (Some reason) = line_of (codes "NET " ∷ name ∷ codes " " ∷ reason_word reason ∷ [])

abbrev pub reason_lines : RawBoard → List ℕ
reason_lines board = flat_map (λ net. reason_line net.name (reason_of board net)) board.nets

-- the pin at this place of the net has this role, and no safe setting tests the pin in it
abbrev pub is_untested : RawBoard → PinUse → Net → ℕ → Bool
is_untested board Driver net place = is_some (place_drive board net place) && not (is_tested_driver board net place)
is_untested board Receiver net place = receives_of board (slice_get net.pins place) && not (is_tested_receiver board net place)

-- the places of a net's pins that are untested in this role, in pin order
abbrev pub untested : RawBoard → PinUse → Net → List ℕ
untested board pin_use net = filter (is_untested board pin_use net) (range_with_len 0 (length net.pins))

-- the line of an untested pin, or no text if there is no pin
abbrev pub pin_line : PinUse → Option NetPin → List ℕ
pin_line pin_use None = []
pin_line pin_use (Some pin) = line_of (use_word pin_use ∷ pin.part ∷ codes "." ∷ pin.pin ∷ [])

-- the lines of a net's pins that are untested in this role
abbrev pub net_pin_lines : RawBoard → PinUse → Net → List ℕ
net_pin_lines board pin_use net = flat_map (λ place. pin_line pin_use (slice_get net.pins place)) (untested board pin_use net)

-- the lines of all covered nets' pins that are untested in this role
abbrev pub pin_lines : RawBoard → PinUse → List ℕ
pin_lines board pin_use = flat_map (net_pin_lines board pin_use) (covered board)

-- the pairs of covered nets that are not paired, in the order of their first nets and then of their second nets
abbrev pub unpaired : RawBoard → List (Net × Net)
unpaired board = filter (λ pair. not (are_paired board pair.0 pair.1)) (pairs_within (covered board))

abbrev pub pair_line : Net → Net → List ℕ
pair_line low high = line_of (codes "PAIR " ∷ low.name ∷ codes " " ∷ high.name ∷ [])

abbrev pub pair_lines : RawBoard → List ℕ
pair_lines board = flat_map (λ pair. pair_line pair.0 pair.1) (unpaired board)

-- the lines of the list: the counts, the nets that are not covered, the untested drivers, the untested receivers, and the pairs of
-- covered nets that are not paired
unfoldable pub cover_text : RawBoard → List ℕ
cover_text board = count_line board ++ (reason_lines board ++ (pin_lines board Driver ++ (pin_lines board Receiver ++ pair_lines board)))
