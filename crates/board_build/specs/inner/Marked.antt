-- Marked words: the words of a net file, each with facts about the pin that it names. A rule on
-- these words gives a fault, or None if no word breaks the rule. A part is described if it has a
-- DEVICE line, and inert if an INERT line names it. The place of a pin is the number of its part and
-- the number of its port bit. A driver is always on if its entry has no control.
use Rattle.std.specs.Prelude.{◌≡◌, ℕ, ◌+◌, ◌<◌, ◌==◌, Bool, false, ◌&&◌, ◌||◌, List, [], ◌∷◌, ◌++◌, length, map, filter, find, nat_lt, slice_get, slice_index_or, slice_set, Option, Some, None, Result, option_and_then, option_map, is_none, is_some, if◌then◌else◌}
use Rattle.std.proofs.Common.{Bor}
use Rattle.std.specs.Option.{option_to_list}
use Rattle.board_defs.specs.Limits.{most_pins}
use Rattle.board_defs.specs.declared.device.Cell.{Cell}
use Rattle.board_defs.specs.declared.device.RawDevice.{RawDevice}
use Rattle.board_defs.specs.declared.board.Part.{Part}
use Rattle.board_defs.specs.declared.board.PinAt.{PinAt}
use Rattle.board_defs.specs.declared.board.NetPin.{NetPin}
use Rattle.board_defs.specs.declared.board.Net.{Net}
use Rattle.board_defs.specs.declared.spot.Spot.{Spot}
use Rattle.board_defs.specs.DeviceRules.{drives_bit, driving_entry}
use Rattle.board_defs.specs.Pins.{described}
use Rattle.board_files.specs.declared.chain_file.ChainLine.{ChainLine}
use Rattle.board_defs.specs.declared.board.RawBoard.{RawBoard}
use Rattle.first_places.specs.Places.{once, first_repeated}
use Rattle.board_lines.specs.declared.fault.BoardFault.{BoardFault}
use Rattle.board_lines.specs.declared.fault.BoardFault.TheVariants.{Limit, NoPin, PinTwice, GuardedDriver, TwoAlwaysOn}
use Rattle.board_lines.specs.declared.names.Naming.TheVariants.{Supply}
use Rattle.board_lines.specs.declared.limit.Limit.TheVariants.{Pins}
use Rattle.board_lines.specs.BoardLimits.{limit_number}
use Rattle.board_lines.specs.Faults.{◌then◌, unless}
use Rattle.board_lines.specs.Names.{named, names_of}
use Rattle.board_lines.specs.LineRules.{Pulled, pulls_of, pull_of_net, line_fault}
use Rattle.board_build.specs.BoardRules.{data_limit, net_limit, is_kept}
use Rattle.board_build.specs.declared.marked.MarkedWord.{MarkedWord}
use Rattle.board_lines.specs.NetWords.{Pin, NetWord, same_pin, word_net, word_pin, spot_of, is_among}
use Rattle.board_lines.specs.ChainParts.{PinPlace, place_of_pin, described_names}

-- there is an entry, and it has no control
abbrev pub has_no_control : Option Cell → Bool
has_no_control None = false
has_no_control (Some cell) = is_none cell.ctl

-- there is a device, and its port bit has an always-on driver
abbrev pub is_free_bit : Option RawDevice → ℕ → Bool
is_free_bit None bit = false
is_free_bit (Some device) bit = has_no_control (driving_entry device bit)

-- there are `bits` flags. The flag of a port bit is set if and only if some entry in `cells` drives
-- the bit and the first such entry has no control.
pub record AreFlags (cells : List Cell) (bits : ℕ) (flags : List Bool) : Type 0 where
  pub size : length flags ≡ bits
  pub each : (bit : ℕ) → bit < bits → slice_index_or flags bit false ≡ has_no_control (find (drives_bit bit) cells)

abbrev pub device_of_part : List Part → ℕ → Option RawDevice
device_of_part parts n = option_and_then (λ part. described part.kind) (slice_get parts n)

-- the port bit at this place of the chain has an always-on driver
abbrev pub is_free_at : List Part → Option PinAt → Bool
is_free_at parts None = false
is_free_at parts (Some at) = is_free_bit (device_of_part parts at.part) at.bit

-- a word with facts about its pin: whether the pin's part is described, the pin's place, whether
-- the part is inert, and whether the pin is an always-on driver
pub record Marked : Type 0 where
  pub word : NetWord
  pub described : Bool
  pub at : Option PinAt
  pub inert : Bool
  pub always_on : Bool

abbrev pub mark_word : List Part → List PinPlace → List (List ℕ) → NetWord → Marked
mark_word parts places inerts word = record {
  word = word;
  described = is_among (described_names parts) (word_pin word).0;
  at = place_of_pin places (word_pin word);
  inert = is_among inerts (word_pin word).0;
  always_on = is_free_at parts (place_of_pin places (word_pin word));
}

-- converts the Rust record of a marked word to a `Marked`
abbrev pub seen_word : MarkedWord → Marked
seen_word m = record {
  word = ((m.net, (m.part.now, m.pin.now)), m.spot);
  described = m.described;
  at = m.at;
  inert = m.inert;
  always_on = m.always_on;
}

-- the marked word for a borrowed word; the given functions look up the facts about the word's pin;
-- a pin that has a place belongs to a described part
abbrev pub mark_by : List Part → (Bor (List ℕ) → Bool)
    → (Bor (List ℕ) × Bor (List ℕ) → Option PinAt) → (Bor (List ℕ) → Bool)
    → (ℕ × (Bor (List ℕ) × Bor (List ℕ))) × Spot → MarkedWord
mark_by parts described place inert w = record {
  net = w.0.0;
  part = w.0.1.0;
  pin = w.0.1.1;
  spot = w.1;
  described = is_some (place w.0.1) || described w.0.1.0;
  at = place w.0.1;
  inert = inert w.0.1.0;
  always_on = is_free_at parts (place w.0.1);
}

-- the net with this borrowed name and these pins; the given functions say whether it is a supply
-- net and to which value it is pulled
abbrev pub net_by : (Bor (List ℕ) → Bool) → (Bor (List ℕ) → Option Bool) → Bor (List ℕ) × List NetPin → Net
net_by supply pull p = record { name = p.0.now; supply = supply p.0; pull = pull p.0; pins = p.1 }

abbrev pub marked_net : Marked → ℕ
marked_net m = word_net m.word

abbrev pub marked_spot : Marked → Spot
marked_spot m = spot_of m.word

-- the pin of a marked word
abbrev pub pin_with : Marked → NetPin
pin_with m = record { part = (word_pin m.word).0; pin = (word_pin m.word).1; at = m.at; inert = m.inert }

-- the group of net `n`, which is the list of its pins, in the order of the words
abbrev pub marked_group : List Marked → ℕ → List NetPin
marked_group words n = map pin_with (filter (λ m. marked_net m == n) words)

-- the groups after the pin of the word is appended to the group of the word's net; the groups stay
-- the same if there is no word or no such group
abbrev pub groups_after : Option MarkedWord → ℕ → List (List NetPin) → List (List NetPin)
groups_after None count groups = groups
groups_after (Some word) count groups =
    if nat_lt word.net count
    then slice_set groups word.net
    (slice_index_or groups word.net [] ++ pin_with (seen_word word) ∷ []) else groups

-- `nets`, followed by the net with this name and this group; `nets` alone if there is no name or no
-- group
abbrev pub nets_after : {A G N : Type 0} → (A × G → N) → Option A → Option G → List N → List N
nets_after f None group nets = nets
nets_after f (Some name) group nets = nets ++ option_to_list (option_map (λ g. f (name, g)) group)

-- `marks`, followed by the value of `f` for the word; `marks` alone if there is no word
abbrev pub marks_after : {A N : Type 0} → (A → N) → Option A → List N → List N
marks_after f None marks = marks
marks_after f (Some word) marks = marks ++ f word ∷ []

abbrev pub net_with : List (List ℕ) → List Pulled → List Marked → ℕ → List ℕ → Net
net_with supplies pulls words n name =
    record {
      name = name;
      supply = is_among supplies name;
      pull = pull_of_net pulls name;
      pins =
          marked_group words n;
    }

-- the nets with these names, numbered from `n` on
abbrev pub nets_with : List (List ℕ) → List Pulled → List Marked → ℕ → List (List ℕ) → List Net
nets_with supplies pulls words n [] = []
nets_with supplies pulls words n (name ∷ names) = net_with supplies pulls words n name ∷ nets_with supplies pulls words (n + 1) names

-- the board whose nets have the pins of the marked words
abbrev pub board_by : List ChainLine → List Part → List (List ℕ) → List Marked → RawBoard
board_by chain parts names words = record { chain = parts; nets = nets_with (names_of (named Supply chain)) (pulls_of chain) words 0 names }

abbrev pub pin_in : Marked → Pin
pin_in m = word_pin m.word

abbrev pub same_pins : Marked → Marked → Bool
same_pins a b = same_pin (pin_in a) (pin_in b)

-- the fault if the marked words name more than 65,535 different pins
unfoldable pub marked_limit : List Marked → Option BoardFault
marked_limit words = if nat_lt most_pins (length (once same_pins words)) then Some (Limit (limit_number Pins)) else None

-- the fault of the first word that names a pin of a described part, if the pin has no place, since
-- the part's pin map does not have the pin
unfoldable pub marked_unknown : List Marked → Option BoardFault
marked_unknown words = option_map (λ m. NoPin (marked_spot m)) (find (λ m. m.described && is_none m.at) words)

-- the fault of the first word whose pin an earlier word names
unfoldable pub marked_twice : List Marked → Option BoardFault
marked_twice words = option_map (λ m. PinTwice (marked_spot m)) (first_repeated same_pins words)

-- the fault of the first of these drivers on a net that must not have an always-on driver
unfoldable pub marked_guarded : RawBoard → List Marked → Option BoardFault
marked_guarded board drivers =
    option_map (λ m. GuardedDriver (marked_spot m))
    (find (λ m. is_kept board (slice_get board.nets (marked_net m))) drivers)

-- the fault of the first of these drivers whose net has an earlier driver
unfoldable pub marked_two : List Marked → Option BoardFault
marked_two drivers = option_map (λ m. TwoAlwaysOn (marked_spot m)) (first_repeated (λ a b. marked_net a == marked_net b) drivers)

unfoldable pub marked_drivers : RawBoard → List Marked → Option BoardFault
marked_drivers board drivers = marked_guarded board drivers then marked_two drivers

unfoldable pub marked_pins : List Marked → Option BoardFault
marked_pins words = marked_limit words then marked_unknown words then marked_twice words

-- the first fault of the rules that come before the rules on always-on drivers
unfoldable pub file_fault : List ChainLine → List Part → List (List ℕ) → List Marked → Option BoardFault
file_fault chain parts names words = data_limit parts then net_limit names then marked_pins words then line_fault chain names

-- the words that name always-on drivers and whose net has a number below `nets`
abbrev pub always_on : ℕ → List Marked → List Marked
always_on nets words = filter (λ m. nat_lt (marked_net m) nets && m.always_on) words

unfoldable pub marked_fault : List ChainLine → List Part → List (List ℕ) → List Marked → Option BoardFault
marked_fault chain parts names words =
    file_fault chain parts names words
    then marked_drivers (board_by chain parts names words)
    (always_on (length (board_by chain parts names words).nets) words)

unfoldable pub marked_answer : List ChainLine → List Part → List (List ℕ) → List Marked → Result RawBoard BoardFault
marked_answer chain parts names words = unless (marked_fault chain parts names words) (board_by chain parts names words)
