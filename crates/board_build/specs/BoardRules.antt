-- The rules on a board's files, in the order in which they are checked. A rule gives a fault, or
-- None if nothing breaks the rule. A part is described if it has a DEVICE line. The place of a pin
-- is the number of its part and the number of its port bit. A driver is always on if its cell has
-- no control.
use Rattle.std.specs.Prelude.{ℕ, ◌==◌, Bool, false, ◌&&◌, ◌||◌, List, filter, find, length, nat_lt, slice_get, sum_by, Option, Some, None, Result, option_map, is_none, if◌then◌else◌}
use Rattle.std.specs.List.{list_any}
use Rattle.board_defs.specs.Limits.{most_bits, most_nets, most_pins}
use Rattle.first_places.specs.Places.{once, first_repeated}
use Rattle.board_files.specs.declared.chain_file.ChainLine.{ChainLine}
use Rattle.board_files.specs.declared.net_file.NetLine.{NetLine}
use Rattle.board_defs.specs.declared.device.RawDevice.{RawDevice}
use Rattle.board_defs.specs.declared.board.Part.{Part}
use Rattle.board_defs.specs.declared.board.Net.{Net}
use Rattle.board_defs.specs.declared.board.RawBoard.{RawBoard}
use Rattle.board_defs.specs.Pins.{data_length, drive, is_test_pin}
use Rattle.board_defs.specs.Decided.{is_always_on}
use Rattle.board_lines.specs.declared.fault.BoardFault.{BoardFault}
use Rattle.board_lines.specs.declared.fault.BoardFault.TheVariants.{Limit, NoPin, PinTwice, GuardedDriver, TwoAlwaysOn}
use Rattle.board_lines.specs.declared.limit.Limit.TheVariants.{BoundaryBits, Nets, Pins}
use Rattle.board_lines.specs.BoardLimits.{limit_number}
use Rattle.board_lines.specs.Faults.{◌then◌, unless}
use Rattle.board_lines.specs.NetWords.{Pin, NetWord, word_net, word_pin, spot_of, have_same_pin, is_among, net_names, standing_words}
use Rattle.board_lines.specs.ChainParts.{PinPlace, chain_parts, pin_places, place_of_pin, described_names}
use Rattle.board_lines.specs.LineRules.{line_fault}
use Rattle.board_build.specs.BoardNets.{NetMarks, marks_of, net_pin, board_with}

-- the fault if a data scan has more than 65,535 bits: a bit for each boundary cell of a described
-- part, and a bit for each part in BYPASS
unfoldable pub data_limit : List Part → Option BoardFault
data_limit parts =
    if nat_lt most_bits (sum_by (λ part. data_length part.kind) parts)
    then Some (Limit (limit_number BoundaryBits)) else None

-- the fault if there are more than 16,382 nets
unfoldable pub net_limit : List (List ℕ) → Option BoardFault
net_limit names = if nat_lt most_nets (length names) then Some (Limit (limit_number Nets)) else None

-- the fault if the nets have more than 65,535 different pins
unfoldable pub pin_limit : List NetWord → Option BoardFault
pin_limit words = if nat_lt most_pins (length (once have_same_pin words)) then Some (Limit (limit_number Pins)) else None

-- the pin's part is described, and the part's pin map does not have the pin
abbrev pub is_unknown : List (List ℕ) → List PinPlace → Pin → Bool
is_unknown described places pin = is_among described pin.0 && is_none (place_of_pin places pin)

-- the fault of the first word that names an unknown pin: a pin that the pin map of its described
-- part does not have
unfoldable pub no_pin : List (List ℕ) → List PinPlace → List NetWord → Option BoardFault
no_pin described places words = option_map (λ word. NoPin (spot_of word)) (find (λ word. is_unknown described places (word_pin word)) words)

-- the fault of the first word whose pin an earlier word names; `standing_words` has no pin of a net
-- twice, so the earlier word is in another net
unfoldable pub pin_twice : List NetWord → Option BoardFault
pin_twice words = option_map (λ word. PinTwice (spot_of word)) (first_repeated have_same_pin words)

-- there is a net, and the pin is an always-on driver of it
abbrev pub drives_always : RawBoard → NetMarks → Pin → Option Net → Bool
drives_always board marks pin None = false
drives_always board marks pin (Some net) = is_always_on (drive board net (net_pin marks pin))

-- the words that name always-on drivers
abbrev pub always_on_words : RawBoard → NetMarks → List NetWord → List NetWord
always_on_words board marks words = filter (λ word. drives_always board marks (word_pin word) (slice_get board.nets (word_net word))) words

-- there is a net, and it must not have an always-on driver because it is a supply net or has a TAP
-- or compliance pin
abbrev pub is_kept : RawBoard → Option Net → Bool
is_kept board None = false
is_kept board (Some net) = net.supply || list_any (is_test_pin board) net.pins

-- the fault of the first always-on driver on a supply net or on a net with a TAP or compliance pin
unfoldable pub guarded_driver : RawBoard → List NetWord → Option BoardFault
guarded_driver board drivers =
    option_map (λ word. GuardedDriver (spot_of word))
    (find (λ word. is_kept board (slice_get board.nets (word_net word))) drivers)

-- the fault of the first always-on driver whose net has an earlier always-on driver
unfoldable pub two_always_on : List NetWord → Option BoardFault
two_always_on drivers = option_map (λ word. TwoAlwaysOn (spot_of word)) (first_repeated (λ a b. word_net a == word_net b) drivers)

-- the fault of the first of three limits that is exceeded: the bits of a data scan, the nets, and
-- the pins
unfoldable pub limit_fault : List Part → List (List ℕ) → List NetWord → Option BoardFault
limit_fault parts names words = data_limit parts then net_limit names then pin_limit words

-- the first fault of the pins that the net file names: an unknown pin, or else a pin in two nets
unfoldable pub pin_fault : List Part → List NetWord → Option BoardFault
pin_fault parts words = no_pin (described_names parts) (pin_places parts) words then pin_twice words

-- the first fault of the always-on drivers
unfoldable pub driver_fault : RawBoard → List NetWord → Option BoardFault
driver_fault board drivers = guarded_driver board drivers then two_always_on drivers

-- the first fault of the files; the rules are checked in the order written here
unfoldable pub board_fault : List ChainLine → List NetLine → List Part → Option BoardFault
board_fault chain nets parts =
    limit_fault parts (net_names nets) (standing_words nets)
    then pin_fault parts (standing_words nets) then line_fault chain (net_names nets)
    then driver_fault (board_with chain nets parts)
    (always_on_words (board_with chain nets parts) (marks_of chain parts) (standing_words nets))

-- the board of these parts and lines, or the first fault
unfoldable pub board_answer : List ChainLine → List NetLine → List Part → Result RawBoard BoardFault
board_answer chain nets parts = unless (board_fault chain nets parts) (board_with chain nets parts)

-- the board that the files and the devices denote, or the first fault
abbrev pub board_of : List ChainLine → List NetLine → List RawDevice → Result RawBoard BoardFault
board_of chain nets devices = board_answer chain nets (chain_parts chain devices)
