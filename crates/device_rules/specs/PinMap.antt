-- The rule on the pin map. `v4` returns the number of the first entry that breaks the rule, counted
-- from 1.
use Rattle.std.specs.Prelude.{ℕ, List, [], ◌∷◌, ◌++◌, length, Bool, false, ◌||◌, ◌==◌, not, Option, Some, None, flat_map}
use Rattle.std.specs.List.{list_any}
use Rattle.std.specs.Str.{bytes_eq}
use Rattle.bsdl_parser.specs.declared.entity.Port.{Port}
use Rattle.bsdl_strings.specs.declared.values.MapEntry.{MapEntry}
use Rattle.first_places.specs.Items.{first_break}
use Rattle.device_rules.specs.Ports.{width, port_of}
use Rattle.device_rules.specs.Taps.{is_named_among}

abbrev pub maps_port : List ℕ → MapEntry → Bool
maps_port name entry = bytes_eq entry.port name

-- there is a port, and its range is `count` bits wide
abbrev pub has_width : Option Port → ℕ → Bool
has_width None count = false
has_width (Some port) count = width port.range == count

-- one of `pins` is in `seen` or occurs twice in `pins`
abbrev pub some_repeats : List (List ℕ) → List (List ℕ) → Bool
some_repeats seen [] = false
some_repeats seen (pin ∷ pins) = is_named_among seen pin || some_repeats (seen ++ pin ∷ []) pins

abbrev pub mapped_pins : List MapEntry → List (List ℕ)
mapped_pins entries = flat_map (λ entry. entry.pins) entries

abbrev pub breaks_map : List Port → List MapEntry → MapEntry → Bool
breaks_map ports before entry =
    list_any (maps_port entry.port) before
    || (not (has_width (port_of ports entry.port) (length entry.pins))
    || some_repeats (mapped_pins before) entry.pins)

-- V4: each entry names a port that no earlier entry names, and has as many pins as this port has
-- bits; no pin occurs twice in the map
unfoldable pub v4 : List Port → List MapEntry → Option ℕ
v4 ports entries = first_break (breaks_map ports) entries
