-- Samples of the entries of a small part, and of the facts about its port bits that follow. The expected values are worked out by hand.
use Rattle.std.proofs.Common.{◌≡◌, ℕ, Bool, true, false, List, [], ◌∷◌, map, replicate, Option, Some, None, refl}
use Rattle.std.specs.Prelude.{find, option_map}
use Rattle.board_defs.specs.declared.device.Cell.{Cell}
use Rattle.board_defs.specs.declared.device.Mode.{Mode}
use Rattle.board_defs.specs.declared.device.Mode.TheVariants.{Inward, Outward, Both, Linkage}
use Rattle.board_defs.specs.declared.device.PortBit.{PortBit}
use Rattle.board_defs.specs.declared.device.Role.{Role}
use Rattle.board_defs.specs.declared.device.Role.TheVariants.{Input, Control, Output2, Output3}
use Rattle.board_defs.specs.declared.device.Symbol.TheVariants.{Any}
use Rattle.board_defs.specs.DeviceRules.{is_driving}
use Rattle.port_entries.specs.Entries.{entries_at}
use Rattle.port_entries.specs.inner.Rows.{entries_noted, dark_by, receives_with}

abbrev cell : ℕ → Role → Option ℕ → Cell
cell num role bit = record { num = num; role = role; bit = bit; safe = Any; ctl = None }

abbrev port_bit : Mode → Bool → PortBit
port_bit mode tap = record { port = 0; index = None; mode = mode; pin = None; tap = tap; compliance = false }

-- the table's row of a part with two port bits; the entries of cells 1 and 4 belong to neither of them
abbrev row : List (List Cell)
row = entries_noted (replicate 2 [])
    (cell 0 Input (Some 1) ∷ cell 1 Control None ∷ cell 2 Input (Some 0) ∷ cell 3 Output3 (Some 1) ∷ cell 4 Output2 (Some 7) ∷ [])

-- the cell numbers of the entries of a port bit
abbrev numbers : ℕ → ℕ → List ℕ
numbers part bit = map (λ entry. entry.num) (entries_at (row ∷ []) (record { part = part; bit = bit }))

low : numbers 0 0 ≡ 2 ∷ []
low = refl

high : numbers 0 1 ≡ 0 ∷ 3 ∷ []
high = refl

no_bit : numbers 0 7 ≡ []
no_bit = refl

no_part : numbers 1 0 ≡ []
no_part = refl

-- the number of the cell of a port bit's driving entry, if the port bit has one
abbrev driving : ℕ → Option ℕ
driving bit =
    option_map (λ entry. entry.num)
    (find (λ entry. is_driving entry.role) (entries_at (row ∷ []) (record { part = 0; bit = bit })))

none_drives : driving 0 ≡ None
none_drives = refl

third_drives : driving 1 ≡ Some 3
third_drives = refl

abbrev reads : List Cell
reads = cell 0 Input (Some 0) ∷ []

abbrev drives : List Cell
drives = cell 1 Output3 (Some 0) ∷ []

-- the mode and the entries of a port bit decide if it is dark; a port bit of the test access port is never
-- dark
read_input : dark_by (Some (port_bit Inward false)) reads ≡ false
read_input = refl

read_both : dark_by (Some (port_bit Both false)) reads ≡ true
read_both = refl

driven_both : dark_by (Some (port_bit Both false)) drives ≡ false
driven_both = refl

linkage : dark_by (Some (port_bit Linkage false)) reads ≡ true
linkage = refl

unread_input : dark_by (Some (port_bit Inward false)) [] ≡ true
unread_input = refl

test_port : dark_by (Some (port_bit Inward true)) [] ≡ false
test_port = refl

-- the mode and the entries of a port bit decide if it is a receiver
input_receives : receives_with (Some (port_bit Inward false)) reads ≡ true
input_receives = refl

output_receives : receives_with (Some (port_bit Outward false)) reads ≡ false
output_receives = refl

driving_input : receives_with (Some (port_bit Inward false)) drives ≡ false
driving_input = refl
