-- Port bits in the order of their ports, entries in the order of their cells, and the entries in a place of a table.
use Rattle.std.specs.Prelude.{ℕ, ◌<◌, ◌≤◌, List, [], ◌∷◌}
use Rattle.board_defs.specs.declared.device.Cell.{Cell}
use Rattle.board_defs.specs.declared.device.PortBit.{PortBit}
use Rattle.device_check.specs.declared.listing_table.Entries.{Entries}
use Rattle.device_check.specs.declared.listing_table.Entries.TheVariants.{Nothing, One, Two}

-- the entries of a cell, as a list in the same order
abbrev pub entries_in : Entries → List Cell
entries_in Nothing = []
entries_in (One first) = first ∷ []
entries_in (Two first second) = first ∷ second ∷ []

-- the bits are in the order of their ports, and no port number is below `port`
abbrev pub Rises : ℕ → List PortBit → Type 0
Rises port [] = Unit {0}
Rises port (bit ∷ bits) = (port ≤ bit.port) × Rises bit.port bits

-- the entries are in the order of their cells, and each cell number is in `least..most`
abbrev pub Climbs : ℕ → ℕ → List Cell → Type 0
Climbs least most [] = Unit {0}
Climbs least most (cell ∷ cells) = (least ≤ cell.num) × ((cell.num < most) × Climbs cell.num most cells)
