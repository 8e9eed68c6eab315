-- A data row that is made from a bit for each boundary cell of each described part.
use Rattle.std.specs.Prelude.{ℕ, suc, Bool, false, List, [], ◌∷◌}
use Rattle.board_defs.specs.declared.device.RawDevice.{RawDevice}
use Rattle.board_defs.specs.declared.board.PartKind.{PartKind}
use Rattle.board_defs.specs.declared.board.PartKind.TheVariants.{Described, Bypass}
use Rattle.board_defs.specs.declared.board.Part.{Part}
use Rattle.board_defs.specs.declared.board.RawBoard.{RawBoard}
use Rattle.board_defs.specs.declared.board.Ctl.{Ctl}
use Rattle.tap_defs.specs.chain.ShiftRegister.{filled}
use Rattle.tap_defs.specs.chain.Scan.{joined}
use Rattle.tap_defs.specs.board.TestRows.{steady_bit}

-- a bit for each cell of each described part
abbrev pub CellBits : Type 0
CellBits = ℕ → RawDevice → ℕ → Bool

-- the bits of the cells of a described part, or a single 0 for a part without a description
abbrev pub part_laid : CellBits → ℕ → PartKind → List Bool
part_laid g part (Described device) = filled device.boundary (λ cell. g part device cell)
part_laid g part (Bypass n) = false ∷ []

abbrev pub parts_laid : CellBits → ℕ → List Part → List (List Bool)
parts_laid g part [] = []
parts_laid g part (p ∷ parts) = part_laid g part p.kind ∷ parts_laid g (suc part) parts

-- the bits of all parts, in the order in which they are shifted
abbrev pub bits_of_parts : CellBits → RawBoard → List Bool
bits_of_parts g board = joined (parts_laid g 0 board.chain)

-- the bit of a cell in this setting, if the cell carries no net's bit
abbrev pub steady : RawBoard → (Ctl → Bool) → ℕ → RawDevice → ℕ → Bool
steady board setting part device cell = steady_bit board setting part device cell

-- the bit of a cell in the quiet row, which disables every driver that has a control
abbrev pub quiet_bits : RawBoard → ℕ → RawDevice → ℕ → Bool
quiet_bits board part device cell = steady_bit board (λ c. false) part device cell
