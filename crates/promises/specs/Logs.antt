-- When the lines of a text hold a log or a batch, and the promise that the program reads exactly such texts as a log or a batch.
use Rattle.std.specs.Prelude.{◌≡◌, ◌↔◌, Bool, true, List, [], ◌∷◌, map, Some, Ok, codes}
use Rattle.board_defs.specs.declared.board.RawBoard.{RawBoard}
use Rattle.board_defs.specs.Pins.{data_bits}
use Rattle.tap_defs.specs.board.BoardScans.{RowScan, svf_row_scans}
use Rattle.tap_defs.specs.board.Explaining.{HasShape}
use Rattle.text_lines.specs.Words.{is_word, words_of}
use Rattle.response_log.specs.LogRows.{bits_of_line, row_lines}
use Rattle.batch_diag.specs.declared.block.Block.{Block}
use Rattle.batch_diag.specs.OwnTexts.{BlockText, IsCutTo, own_text}
use Rattle.batch_diag.specs.Verdicts.{EachPair}
use Rattle.walk_test.specs.WalkTest.{walk_row_list}
use Rattle.btest_core.specs.BoardRead.{Denotes}
use Rattle.commands.specs.LogRead.{test_blocks, test_log, walk_log}
use Rattle.command_line.specs.Words.{Text}

-- The lines with words are these rows. A row is one word, whose hexadecimal digits have a bit for each position of a data scan. There is a
-- row for each SDR statement of these scans that compares bits, in the order of the statements.
pub record HoldsLog (board : RawBoard) (scans : List RowScan) (text : Text) (rows : List (List Bool)) : Type 0 where
  pub lines : map (bits_of_line (data_bits board)) (row_lines text) ≡ map Some rows
  pub shape : HasShape board scans rows

-- The title is the word BOARD and the block's id, which satisfies the word rule (`is_word`). The lines below
-- the title, as a text of their own, hold a log of the board's test.
pub record HoldsBoardBlock (board : RawBoard) (text : BlockText) (block : Block) : Type 0 where
  pub title : words_of text.title ≡ codes "BOARD" ∷ block.id ∷ []
  pub id : is_word block.id ≡ true
  pub log : HoldsLog board (svf_row_scans board) (own_text text) block.log

-- The text consists of lines without words, followed by these blocks. A block begins with its title and ends before the next title or at
-- the end of the text.
pub record HoldsBoardBlocks (board : RawBoard) (text : Text) (blocks : List Block) : Type 0 where
  pub front : List Text
  pub texts : List BlockText
  pub cut : IsCutTo text front texts
  pub each : EachPair (HoldsBoardBlock board) texts blocks

-- For the board that files denote, a text is read as a log of the board's test, as a log of the board's
-- walking test or as a batch if and only if the lines of the text hold such a log or batch.
pub record LinesAreRead : Type 0 where
  pub test : (chain nets : Text) (texts : List Text) (board : RawBoard) (log : Text)
      (rows : List (List Bool)) → Denotes chain nets texts board
      → (test_log log board ≡ Ok rows) ↔ HoldsLog board (svf_row_scans board) log rows
  pub walk : (chain nets : Text) (texts : List Text) (board : RawBoard) (log : Text)
      (rows : List (List Bool)) → Denotes chain nets texts board
      → (walk_log log board ≡ Ok rows) ↔ HoldsLog board (walk_row_list board) log rows
  pub blocks : (chain nets : Text) (texts : List Text) (board : RawBoard) (logs : Text)
      (blocks : List Block) → Denotes chain nets texts board
      → (test_blocks logs board ≡ Ok blocks) ↔ HoldsBoardBlocks board logs blocks
