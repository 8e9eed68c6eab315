-- The entries for each of the two stages of a boundary cell. An entry is for the capture stage if it defines what the
-- cell captures. It is for the update latch if it takes its value from the latch.
use Rattle.std.specs.Prelude.{ℕ, Bool, ◌&&◌}
use Rattle.board_defs.specs.declared.device.Role.{Role}
use Rattle.board_defs.specs.DeviceRules.{is_loading, is_writing}
use Rattle.bsdl_strings.specs.declared.values.Entry.{Entry}
use Rattle.device_rules.specs.declared.cells.Stage.{Stage}
use Rattle.device_rules.specs.declared.cells.Stage.TheVariants.{Capture, Update}
use Rattle.device_rules.specs.Cells.{is_entry_of}

-- an entry with this function is for this stage of its cell
abbrev pub is_for : Stage → Role → Bool
is_for Capture role = is_loading role
is_for Update role = is_writing role

-- the entry belongs to the cell and is for this stage
abbrev pub is_for_cell : Stage → ℕ → Entry → Bool
is_for_cell stage cell entry = is_entry_of cell entry && is_for stage entry.role
