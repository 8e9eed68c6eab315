-- The summary of a generated board, which the command `make` writes.
use Rattle.std.specs.Prelude.{ℕ, [], ◌∷◌, length, codes, decimal, min}
use Rattle.bt_base.specs.Counts.{last_count}
use Rattle.line_printer.specs.Prints.{line_of}
use Rattle.board_defs.specs.declared.board.RawBoard.{RawBoard}
use Rattle.board_defs.specs.Passes.{passes_of}
use Rattle.tap_defs.specs.board.BoardScans.{board_text, svf_scans}
use Rattle.coverage_list.specs.CoverText.{covered}
use Rattle.command_line.specs.Words.{Text}

-- the line with these counts
abbrev pub counts_line : ℕ → ℕ → ℕ → ℕ → ℕ → ℕ → Text
counts_line devices nets covered passes scans bytes =
    line_of
    (codes "DEVICES " ∷ decimal devices ∷ codes " NETS " ∷ decimal nets ∷ codes " COVERED " ∷
    decimal covered ∷ codes " PASSES " ∷ decimal passes
    ∷ codes " SCANS " ∷ decimal scans ∷ codes " BYTES " ∷ decimal bytes ∷ [])

-- The line with the numbers of devices, nets and covered nets of a board, and the numbers of passes, scans
-- and bytes of the board's test. If the number of bytes is too large for 64 bits, the line has the largest
-- 64-bit number instead. A net is covered if the test observes it.
abbrev pub summary_text : RawBoard → Text
summary_text board =
    counts_line (length board.chain) (length board.nets) (length (covered board))
    (length (passes_of board)) (length (svf_scans board))
    (min (length (board_text board)) last_count)
