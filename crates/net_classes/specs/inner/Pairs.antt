-- Definitions that say whether a driver's control is a cell of the board, whether it is useful, and whether
-- one safe setting enables a driver of each of two lists. A control is useful if it is safe alone and enables
-- a tested driver.
use Rattle.std.specs.Prelude.{◌≡◌, Bool, true, List}
use Rattle.std.specs.List.{list_any}
use Rattle.board_defs.specs.declared.board.Ctl.{Ctl}
use Rattle.board_defs.specs.declared.board.RawBoard.{RawBoard}
use Rattle.board_defs.specs.declared.board.Drive.{Drive}
use Rattle.board_defs.specs.declared.board.Drive.TheVariants.{By}
use Rattle.board_defs.specs.Pins.{IsCell}
use Rattle.board_defs.specs.Settings.{holds}
use Rattle.board_defs.specs.Passes.{useful_controls}
use Rattle.net_classes.specs.Pairs.{fits_some}

-- the driver is always on or one-sided, or its control is a cell of the board
abbrev pub IsByCell : RawBoard → Drive → Type 0
IsByCell board d = (c : Ctl) → d ≡ By c → IsCell board c

-- the driver is always on or one-sided, or its control is useful
abbrev pub IsUsefulDriver : RawBoard → Drive → Type 0
IsUsefulDriver board d = (c : Ctl) → d ≡ By c → holds (useful_controls board) c ≡ true

-- one safe setting enables some driver of each list
abbrev pub some_fit : RawBoard → List Drive → List Drive → Bool
some_fit board ds es = list_any (fits_some board es) ds
