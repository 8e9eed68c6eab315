-- The ports of a device, and the bits of these ports.
use Rattle.std.specs.Prelude.{ℕ, ◌+◌, ◌-◌, List, [], ◌∷◌, ◌++◌, map, Bool, true, false, ◌&&◌, ◌||◌, not, if◌then◌else◌, Option, Some, None, is_none, nat_lt, nat_le, sum_by, find, option_and_then}
use Rattle.std.specs.List.{list_any, position_from}
use Rattle.std.specs.Str.{bytes_eq}
use Rattle.board_defs.specs.Limits.{most_bits}
use Rattle.board_defs.specs.declared.device.Mode.{Mode}
use Rattle.board_defs.specs.DeviceRules.{range_indexes, is_on}
use Rattle.bsdl_parser.specs.declared.entity.Port.{Port}
use Rattle.bsdl_parser.specs.declared.entity.Range.{Range}
use Rattle.bsdl_strings.specs.declared.values.PortWord.{PortWord}
use Rattle.bsdl_strings.specs.declared.values.PortWord.TheVariants.{Star, Plain, Index}
use Rattle.first_places.specs.Items.{first_break}

-- there is no range, or it is in order: `to` with left ≤ right, or `downto` with right ≤ left
abbrev pub range_in_order : Option Range → Bool
range_in_order None = true
range_in_order (Some range) = if range.up then nat_le range.left range.right else nat_le range.right range.left

-- the number of bits of a port with this range; it is 1 if there is no range or if the range is out of order
abbrev pub width : Option Range → ℕ
width None = 1
width (Some range) = (if range.up then range.right - range.left else range.left - range.right) + 1

abbrev pub bit_total : List Port → ℕ
bit_total ports = sum_by (λ port. width port.range) ports

abbrev pub port_named : List ℕ → Port → Bool
port_named name port = bytes_eq port.name name

abbrev pub breaks_port : List Port → Port → Bool
breaks_port before port =
    list_any (port_named port.name) before
    || (not (range_in_order port.range) || nat_lt most_bits (bit_total before + width port.range))

-- V2: port names differ, ranges are in order, and there are at most 65,535 port bits. The result is
-- the number of the first port that breaks the rule, counted from 1.
unfoldable pub v2 : List Port → Option ℕ
v2 ports = first_break breaks_port ports

-- the port with this name, if there is one
abbrev pub port_of : List Port → List ℕ → Option Port
port_of ports name = find (port_named name) ports

abbrev pub port_number : List Port → List ℕ → Option ℕ
port_number ports name = position_from (port_named name) 0 ports

-- A bit of a port: the number and the name of its port, its index if the port is a vector, its
-- place among the bits of the port from left to right, and its mode.
pub record Bit : Type 0 where
  pub port : ℕ
  pub name : List ℕ
  pub index : Option ℕ
  pub place : ℕ
  pub mode : Mode

-- The indexes of a port's bits. A plain port, which is a port without a range, has one bit, without an index. The bits
-- of a vector are in order from left to right.
abbrev pub indexes : Option Range → List (Option ℕ)
indexes None = None ∷ []
indexes (Some range) = map Some (range_indexes range.left range.right)

-- the bits of a port that have these indexes, with places numbered from `place` on
abbrev pub bits_along : ℕ → Port → ℕ → List (Option ℕ) → List Bit
bits_along number port place [] = []
bits_along number port place (index ∷ indexes) =
    record { port = number; name = port.name; index = index; place = place; mode = port.mode }
    ∷ bits_along number port (place + 1) indexes

abbrev pub bits_in_port : ℕ → Port → List Bit
bits_in_port number port = bits_along number port 0 (indexes port.range)

abbrev pub bits_from : ℕ → List Port → List Bit
bits_from number [] = []
bits_from number (port ∷ ports) = bits_in_port number port ++ bits_from (number + 1) ports

-- the bits of all ports, in the order of the ports
abbrev pub all_port_bits : List Port → List Bit
all_port_bits ports = bits_from 0 ports

-- The first index is the index of a word, and the second is the index of a bit. The word can name
-- the bit if both are None or both are the same number.
abbrev pub has_index : Option ℕ → Option ℕ → Bool
has_index None index = is_none index
has_index (Some number) index = is_on number index

abbrev pub is_bit_named : List ℕ → Option ℕ → Bit → Bool
is_bit_named name index bit = bytes_eq bit.name name && has_index index bit.index

-- the word names the bit: `name` names the bit of a plain port, and `name(index)` names a bit of a
-- vector
abbrev pub is_named : PortWord → Bit → Bool
is_named Star bit = false
is_named (Plain name) bit = is_bit_named name None bit
is_named (Index name index) bit = is_bit_named name (Some index) bit

-- the number of the port bit that the word names, counted from 0, if the word names one
abbrev pub bit_number : List Port → PortWord → Option ℕ
bit_number ports word = position_from (is_named word) 0 (all_port_bits ports)

abbrev pub plain_name : PortWord → Option (List ℕ)
plain_name Star = None
plain_name (Plain name) = Some name
plain_name (Index name index) = Some name

-- the port that the word names, if there is such a port
abbrev pub named_port : List Port → PortWord → Option Port
named_port ports word = option_and_then (port_of ports) (plain_name word)
