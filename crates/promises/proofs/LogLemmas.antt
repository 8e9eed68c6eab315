-- Lemmas which say that a text is read as a log or a batch if and only if its lines hold a log or a batch.
use Rattle.std.proofs.Common.{◌≡◌, ◌↔◌, ℕ, ◌*◌, Bool, List, [], ◌∷◌, length, Ok}
use Rattle.std.specs.Prelude.{All, count_by}
use Rattle.board_defs.specs.declared.board.Ctl.{Ctl}
use Rattle.board_defs.specs.declared.board.RawBoard.{RawBoard}
use Rattle.board_defs.specs.BoardRules.{IsBoard}
use Rattle.board_defs.specs.Passes.{ArePasses, passes_of}
use Rattle.board_defs.specs.Pins.{data_bits}
use Rattle.tap_defs.specs.board.TestRows.{code_row, code_width, observed_count}
use Rattle.tap_defs.specs.board.BoardScans.{RowScan, board_scans, is_walked, row_scans, svf_row_scans, walk_row, walk_row_scans}
use Rattle.tap_defs.specs.board.Explaining.{CompareRows, HasShape, compared_scans, is_compared}
use Rattle.response_log.specs.LogRows.{HasSize, IsLogOf, log_rows, row_lines}
use Rattle.batch_diag.specs.declared.block.Block.{Block}
use Rattle.batch_diag.specs.OwnTexts.{BlockText, BlocksByThemselves, HoldsBlock as HoldsLogRows, HoldsBlocks as HoldsBlockLogs, own_text}
use Rattle.batch_diag.specs.Verdicts.{EachPair}
use Rattle.walk_test.specs.WalkTest.{walk_row_list}
use Rattle.btest_core.specs.BoardRead.{Denotes}
use Rattle.commands.specs.LogRead.{test_log, test_rows, walk_log, walk_rows}
use Rattle.command_line.specs.Words.{Text}
use Rattle.promises.specs.Logs.{HoldsBoardBlock, HoldsBoardBlocks, HoldsLog, LinesAreRead}
use Rattle.promises.proofs.RowLemmas.{rows_many}
use Rattle.promises.proofs.ShapeLemmas.{walk_shaped, walk_sized}

each_implied : {A B : Type 0} (P Q : A → B → Type 0) → ((x : A) (y : B) → P x y → Q x y)
    → (xs : List A) (ys : List B) → EachPair P xs ys → EachPair Q xs ys
each_implied P Q implies [] [] each = tt
each_implied P Q implies [] (y ∷ ys) each = absurd each
each_implied P Q implies (x ∷ xs) [] each = absurd each
each_implied P Q implies (x ∷ xs) (y ∷ ys) (holds, each) = (implies x y holds, each_implied P Q implies xs ys each)

module _
    (are_lines : (text : List ℕ) (rows len : ℕ) (log : List (List Bool))
    → (log_rows text rows len ≡ Ok log) ↔ IsLogOf text rows len log)
    (by_themselves : BlocksByThemselves)
    (rules_of : (chain nets : Text) (texts : List Text) (board : RawBoard)
    → Denotes chain nets texts board → IsBoard board)
    (kept : (board : RawBoard) → IsBoard board → ArePasses board (passes_of board))
    (shape : (board : RawBoard) (passes : List (List Ctl)) (width : ℕ) (log : List (List Bool))
    → IsBoard board → ArePasses board passes
    → HasShape board (row_scans (code_row board passes) width passes) log
    ↔ ((length log ≡ length passes * width) × All (λ row. length row ≡ data_bits board) log))
    (compare : (board : RawBoard) (walk : List Ctl) → IsBoard board
    → CompareRows (walk_row board) (count_by (is_walked board walk) board.nets) (walk ∷ [])
    (compared_scans board (walk_row_scans board walk)))
    (counted : (board : RawBoard) (scans : List RowScan)
    → count_by is_compared (board_scans board scans) ≡ length (compared_scans board scans))
  where
    -- if a text holds a log of `count` rows, `log_rows` returns the rows of this log
    is_read : (board : RawBoard) (scans : List RowScan) (count : ℕ) (log : Text)
        (rows : List (List Bool)) → HoldsLog board scans log rows → length rows ≡ count
        → log_rows log count (data_bits board) ≡ Ok rows
    is_read board scans count log rows holds number =
        (are_lines log count (data_bits board) rows).1
        (record { lines = holds.lines; count = number })

    test_count : (board : RawBoard) → IsBoard board → (rows : List (List Bool))
        → HasShape board (svf_row_scans board) rows → length rows ≡ test_rows board
    test_count board rules rows shaped =
        ((shape board (passes_of board) (code_width (observed_count board (passes_of board))) rows
        rules (kept board rules)).0 shaped).0

    read_test : (board : RawBoard) → IsBoard board → (log : Text) (rows : List (List Bool))
        → HoldsLog board (svf_row_scans board) log rows → test_log log board ≡ Ok rows
    read_test board rules log rows holds =
        is_read board (svf_row_scans board) (test_rows board) log rows holds
        (test_count board rules rows holds.shape)

    read_walk : (board : RawBoard) → IsBoard board → (log : Text) (rows : List (List Bool))
        → HoldsLog board (walk_row_list board) log rows → walk_log log board ≡ Ok rows
    read_walk board rules log rows holds =
        is_read board (walk_row_list board) _ log rows holds
        (walk_sized board (λ walk. compare board walk rules) (counted board) rows holds.shape).rows

    block_read : (board : RawBoard) → IsBoard board → (text : BlockText) (block : Block)
        → HoldsBoardBlock board text block
        → HoldsLogRows (test_rows board) (data_bits board) text block
    block_read board rules text block holds = record {
      words = holds.title;
      id = holds.id;
      log = read_test board rules (own_text text) block.log holds.log;
    }

    blocks_read : (board : RawBoard) → IsBoard board → (logs : Text) (blocks : List Block)
        → HoldsBoardBlocks board logs blocks
        → HoldsBlockLogs logs (test_rows board) (data_bits board) blocks
    blocks_read board rules logs blocks holds =
        record {
          front = holds.front;
          texts = holds.texts;
          cut = holds.cut;
          each = each_implied (HoldsBoardBlock board)
              (HoldsLogRows (test_rows board) (data_bits board)) (block_read board rules)
              holds.texts blocks holds.each;
        }

    -- The converse: if `log_rows` returns rows of the right shape, the text holds the log with these rows.

    is_held : (board : RawBoard) (scans : List RowScan) (count : ℕ) (log : Text)
        (rows : List (List Bool)) → log_rows log count (data_bits board) ≡ Ok rows
        → (HasSize count (data_bits board) rows → HasShape board scans rows)
        → HoldsLog board scans log rows
    is_held board scans count log rows read shaped =
        let is = (are_lines log count (data_bits board) rows).0 read in
        record {
          lines = is.lines;
          shape = shaped
              (record {
                rows = is.count;
                bits = rows_many (data_bits board) (row_lines log) rows
                    is.lines;
              });
        }

    test_shaped : (board : RawBoard) → IsBoard board → (rows : List (List Bool))
        → HasSize (test_rows board) (data_bits board) rows → HasShape board (svf_row_scans board) rows
    test_shaped board rules rows size =
        (shape board (passes_of board) (code_width (observed_count board (passes_of board))) rows
        rules (kept board rules)).1 (size.rows, size.bits)

    held_test : (board : RawBoard) → IsBoard board → (log : Text) (rows : List (List Bool))
        → test_log log board ≡ Ok rows → HoldsLog board (svf_row_scans board) log rows
    held_test board rules log rows read = is_held board (svf_row_scans board) (test_rows board) log rows read (test_shaped board rules rows)

    held_walk : (board : RawBoard) → IsBoard board → (log : Text) (rows : List (List Bool))
        → walk_log log board ≡ Ok rows → HoldsLog board (walk_row_list board) log rows
    held_walk board rules log rows read =
        is_held board (walk_row_list board) (walk_rows board) log rows read
        (walk_shaped board (λ walk. compare board walk rules) (counted board) rows)

    block_held : (board : RawBoard) → IsBoard board → (text : BlockText) (block : Block)
        → HoldsLogRows (test_rows board) (data_bits board) text block
        → HoldsBoardBlock board text block
    block_held board rules text block holds = record {
      title = holds.words;
      id = holds.id;
      log = held_test board rules (own_text text) block.log holds.log;
    }

    blocks_held : (board : RawBoard) → IsBoard board → (logs : Text) (blocks : List Block)
        → HoldsBlockLogs logs (test_rows board) (data_bits board) blocks
        → HoldsBoardBlocks board logs blocks
    blocks_held board rules logs blocks holds =
        record {
          front = holds.front;
          texts = holds.texts;
          cut = holds.cut;
          each = each_implied (HoldsLogRows (test_rows board) (data_bits board))
              (HoldsBoardBlock board) (block_held board rules)
              holds.texts blocks holds.each;
        }

    pub lines_read : LinesAreRead
    lines_read = record {
      test = λ chain nets texts board log rows denotes.
          let rules = rules_of chain nets texts board denotes in
          (held_test board rules log rows, read_test board rules log rows);
      walk = λ chain nets texts board log rows denotes.
          let rules = rules_of chain nets texts board denotes in
          (held_walk board rules log rows, read_walk board rules log rows);
      blocks = λ chain nets texts board logs blocks denotes.
          let rules = rules_of chain nets texts board denotes in
          let own = by_themselves logs (test_rows board) (data_bits board) blocks in
          (λ read. blocks_held board rules logs blocks (own.0 read), λ holds. own.1 (blocks_read board rules logs blocks holds));
    }
