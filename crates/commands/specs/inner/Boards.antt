-- A board together with its walking test.
use Rattle.board_defs.specs.declared.board.RawBoard.{RawBoard}
use Rattle.walk_test.specs.declared.tables.WalkTables.{WalkTables}

pub record WalkedBoard : Type 0 where
  pub board : RawBoard
  pub walk : WalkTables

abbrev pub walked_board : RawBoard → WalkTables → WalkedBoard
walked_board board walk = record { board = board; walk = walk }
