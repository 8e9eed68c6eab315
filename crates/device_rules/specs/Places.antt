-- The rules on the ports of boundary entries. The function of each rule returns the number of the first entry that
-- breaks the rule, counted from 1.
use Rattle.std.specs.Prelude.{ℕ, List, Bool, true, false, ◌&&◌, ◌||◌, not, if◌then◌else◌, Option, Some, None, is_none}
use Rattle.std.specs.List.{list_any}
use Rattle.board_defs.specs.declared.device.Role.{Role}
use Rattle.board_defs.specs.DeviceRules.{is_driving, is_inner, may_drive, is_on}
use Rattle.bsdl_parser.specs.declared.entity.Port.{Port}
use Rattle.bsdl_strings.specs.declared.values.PortWord.{PortWord}
use Rattle.bsdl_strings.specs.declared.values.PortWord.TheVariants.{Star, Plain, Index}
use Rattle.bsdl_strings.specs.declared.values.Entry.{Entry}
use Rattle.device_rules.specs.declared.draft.TapPorts.{TapPorts}
use Rattle.first_places.specs.Items.{first_break}
use Rattle.device_rules.specs.Ports.{bit_number, named_port}
use Rattle.device_rules.specs.Taps.{is_named_among, tap_names}

abbrev pub is_star : PortWord → Bool
is_star Star = true
is_star (Plain name) = false
is_star (Index name index) = false

-- The entry breaks V9. A CONTROL, CONTROLR or INTERNAL entry must have `*` in place of a port, and any other entry must
-- name a port bit.
abbrev pub breaks_place : List Port → Entry → Bool
breaks_place ports entry = if is_inner entry.role then not (is_star entry.port) else is_none (bit_number ports entry.port)

-- V9: each CONTROL, CONTROLR and INTERNAL entry has `*` in place of a port. Each other entry names a port bit, with an
-- index if and only if the port is a vector.
unfoldable pub v9 : List Port → List Entry → Option ℕ
v9 ports entries = first_break (λ before entry. breaks_place ports entry) entries

-- the number of the port bit that the entry drives, if the entry drives one
abbrev pub driven_bit_number : List Port → Entry → Option ℕ
driven_bit_number ports entry = if is_driving entry.role then bit_number ports entry.port else None

abbrev pub is_driven : List Port → List Entry → Option ℕ → Bool
is_driven ports before None = false
is_driven ports before (Some bit) = list_any (λ entry. is_on bit (driven_bit_number ports entry)) before

abbrev pub breaks_driver : List Port → List Entry → Entry → Bool
breaks_driver ports before entry = is_driven ports before (driven_bit_number ports entry)

-- V13: a port bit has at most one driving entry
unfoldable pub v13 : List Port → List Entry → Option ℕ
v13 ports entries = first_break (breaks_driver ports) entries

abbrev pub misfits : TapPorts → Role → Option Port → Bool
misfits taps role None = false
misfits taps role (Some port) = is_named_among (tap_names taps) port.name || (is_driving role && not (may_drive port.mode))

abbrev pub breaks_mode : List Port → TapPorts → Entry → Bool
breaks_mode ports taps entry = misfits taps entry.role (named_port ports entry.port)

-- V14: no driving entry is on a port of mode in or linkage, and no entry is on a TAP port
unfoldable pub v14 : List Port → TapPorts → List Entry → Option ℕ
v14 ports taps entries = first_break (λ before entry. breaks_mode ports taps entry) entries
