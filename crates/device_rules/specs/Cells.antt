-- The rules on the cells of the boundary register. `v10` returns the number of the first entry that breaks the rule,
-- counted from 1. `v8`, `v11` and `v12` return a cell number. Each of the four returns None if its rule holds.
use Rattle.std.specs.Prelude.{ℕ, ◌==◌, List, Bool, true, false, ◌&&◌, ◌||◌, not, if◌then◌else◌, Option, Some, None, nat_lt, nat_le, find, option_map, count_by}
use Rattle.std.specs.List.{list_any}
use Rattle.board_defs.specs.declared.device.Role.{Role}
use Rattle.board_defs.specs.declared.device.Role.TheVariants.{Input, Output2, Output3, Control as ControlRole, ControlR, Internal, Clock, Bidir, ObserveOnly}
use Rattle.board_defs.specs.declared.device.Control.{Control}
use Rattle.board_defs.specs.DeviceRules.{is_controlling, is_driving, is_loading, is_writing}
use Rattle.bsdl_strings.specs.declared.values.Entry.{Entry}
use Rattle.first_places.specs.Items.{first_break, least_below, or_else}
use Rattle.instruction_rules.specs.Instructions.{same_bit}

abbrev pub is_entry_of : ℕ → Entry → Bool
is_entry_of cell entry = entry.num == cell

-- the cell number of the first entry whose cell number is at least `boundary`, the length of the register;
-- None if there is no such entry
abbrev pub too_large : ℕ → List Entry → Option ℕ
too_large boundary entries = option_map (λ entry. entry.num) (find (λ entry. nat_le boundary entry.num) entries)

abbrev pub is_missing : List Entry → ℕ → Bool
is_missing entries cell = not (list_any (is_entry_of cell) entries)

-- V8: each entry's cell number is below the length of the register, and each number below this length has an entry.
-- The result is the cell number of the first entry whose number is not below this length, or else the lowest number
-- without an entry.
unfoldable pub v8 : ℕ → List Entry → Option ℕ
v8 boundary entries = or_else (too_large boundary entries) (least_below (is_missing entries) boundary)

-- an entry with this function needs a control: OUTPUT3 or BIDIR
abbrev pub needs_control : Role → Bool
needs_control Output3 = true
needs_control Bidir = true
needs_control Input = false
needs_control Output2 = false
needs_control ControlRole = false
needs_control ControlR = false
needs_control Internal = false
needs_control Clock = false
needs_control ObserveOnly = false

abbrev pub is_entry_of_control : ℕ → Entry → Bool
is_entry_of_control cell entry = (entry.num == cell) && is_controlling entry.role

-- the cell has a CONTROL or CONTROLR entry
abbrev pub has_control_entry : List Entry → ℕ → Bool
has_control_entry entries cell = list_any (is_entry_of_control cell) entries

-- The last argument is the control of the entry, or None if it has none. The entry breaks rule V10 if it lacks a
-- control that it needs, it has a control although it does not drive, or the control cell is neither the entry's own
-- cell nor a cell with a CONTROL or CONTROLR entry.
abbrev pub breaks_control_of : List Entry → Entry → Option Control → Bool
breaks_control_of entries entry None = needs_control entry.role
breaks_control_of entries entry (Some control) =
    if is_driving entry.role
    then not ((control.cell == entry.num) || has_control_entry entries control.cell) else true

abbrev pub breaks_control : List Entry → Entry → Bool
breaks_control entries entry = breaks_control_of entries entry entry.ctl

-- V10: an OUTPUT3 or BIDIR entry has a control, an OUTPUT2 entry may have one, and no other entry has one. A control is the entry's own
-- cell, or a cell with a CONTROL or CONTROLR entry.
unfoldable pub v10 : List Entry → Option ℕ
v10 entries = first_break (λ before entry. breaks_control entries entry) entries

abbrev pub is_disabled_by : Bool → ℕ → Option Control → Bool
is_disabled_by value cell None = false
is_disabled_by value cell (Some control) = (control.cell == cell) && same_bit control.disable value

-- the cell controls the entry with this disable value
abbrev pub controls_entry : Bool → ℕ → Entry → Bool
controls_entry value cell entry = is_disabled_by value cell entry.ctl

abbrev pub has_two_values : List Entry → ℕ → Bool
has_two_values entries cell = list_any (controls_entry true cell) entries && list_any (controls_entry false cell) entries

-- V11: for each cell below `boundary`, all entries that the cell controls have the same disable value. The result is
-- the lowest cell that breaks the rule.
unfoldable pub v11 : ℕ → List Entry → Option ℕ
v11 boundary entries = least_below (has_two_values entries) boundary

-- the entry belongs to the cell and defines what the cell captures: its function is INPUT, CLOCK, OBSERVE_ONLY, BIDIR
-- or INTERNAL
abbrev pub loads_cell : ℕ → Entry → Bool
loads_cell cell entry = is_entry_of cell entry && is_loading entry.role

-- the entry belongs to the cell and takes its value from the cell's update latch: its function is OUTPUT2, OUTPUT3,
-- CONTROL, CONTROLR, BIDIR or INTERNAL
abbrev pub writes_cell : ℕ → Entry → Bool
writes_cell cell entry = is_entry_of cell entry && is_writing entry.role

abbrev pub is_crowded : List Entry → ℕ → Bool
is_crowded entries cell = nat_lt 1 (count_by (loads_cell cell) entries) || nat_lt 1 (count_by (writes_cell cell) entries)

-- V12: each cell below `boundary` has at most one entry that defines what the cell captures, and at most one that takes
-- its value from the cell's update latch. The result is the lowest cell that breaks the rule.
unfoldable pub v12 : ℕ → List Entry → Option ℕ
v12 boundary entries = least_below (is_crowded entries) boundary
