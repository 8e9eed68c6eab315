-- The rows that all passes of a plan share.
use Rattle.std.specs.Prelude.{◌≡◌, map}
use Rattle.board_defs.specs.declared.board.RawBoard.{RawBoard}
use Rattle.tap_defs.specs.chain.ScanRows.{AreRowsOf}
use Rattle.tap_defs.specs.chain.Codes.{instructs}
use Rattle.tap_defs.specs.board.BoardScans.{preload_code, extest_code}
use Rattle.plan_tables.specs.declared.tables.BoardRows.{BoardRows}
use Rattle.plan_tables.specs.inner.Laid.{bits_of_parts, quiet_bits}

-- the rows are the two instruction scans of the board, and its quiet row, which disables every driver that has a control
pub record AreBoardRows (board : RawBoard) (rows : BoardRows) : Type 0 where
  pub quiet : rows.quiet.bits ≡ bits_of_parts (quiet_bits board) board
  pub preload : AreRowsOf ((instructs (map (λ part. preload_code part.kind) board.chain)).bits) rows.preload
  pub extest : AreRowsOf ((instructs (map (λ part. extest_code part.kind) board.chain)).bits) rows.extest
