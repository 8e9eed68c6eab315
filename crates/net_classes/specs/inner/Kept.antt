-- Statements about the net with a given number.
use Rattle.std.specs.Prelude.{◌≡◌, ℕ, Some, slice_get}
use Rattle.board_defs.specs.declared.board.Net.{Net}
use Rattle.board_defs.specs.declared.board.RawBoard.{RawBoard}

-- if the board has net number `n`, `P` is true of this net
abbrev pub HoldsOfNet : RawBoard → ℕ → (Net → Type 0) → Type 0
HoldsOfNet board n P = (net : Net) → slice_get board.nets n ≡ Some net → P net
