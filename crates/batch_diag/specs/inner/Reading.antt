-- The answer for all blocks of a batch or for a range of the blocks: their logs, or the first fault.
use Rattle.std.specs.Prelude.{◌≡◌, ℕ, ◌+◌, List, map, Result, All, IfOk, MatchResult}
use Rattle.answers.specs.Gives.{Gives}
use Rattle.response_log.specs.LogRows.{HasSize}
use Rattle.side_by_side.specs.Pieces.{items_between}
use Rattle.batch_diag.specs.declared.block.Block.{Block}
use Rattle.batch_diag.specs.declared.fault.BatchFault.{BatchFault}
use Rattle.batch_diag.specs.declared.unread.UnreadBlock.{UnreadBlock}
use Rattle.batch_diag.specs.declared.unread.Reading.{Reading}
use Rattle.batch_diag.specs.Batch.{BatchAnswer, BlockLines, IsOfLines, batch_told, logs_from}
use Rattle.batch_diag.specs.inner.Cutting.{rows_from}

-- the id and the lines of a block whose log has yet to be read
abbrev pub lines_of_unread : UnreadBlock → BlockLines
lines_of_unread block = record { id = block.id.now; lines = rows_from (block.line + 1) block.own.now }

-- the answer for the blocks `from..to`: their logs, or the fault of the first block whose lines are not a log
abbrev pub said_between : Reading → ℕ → ℕ → BatchAnswer
said_between r from to = logs_from r.rows r.len (from + 1) (map lines_of_unread (items_between r.unread.items from to))

-- the answer for all blocks: their logs, or the fault of the first block whose lines are not a log
abbrev pub said_of : Reading → BatchAnswer
said_of r = logs_from r.rows r.len 1 (map lines_of_unread r.unread.items)

-- The result is the answer `said`, or lack of memory. All logs in the result have `rows` rows of `len` bits. A block's fault in the result
-- never reports lack of memory.
abbrev pub AreBlocksRead : {V : Type 0} → (V → List Block) → ℕ → ℕ → BatchAnswer → Result V BatchFault → Type 0
AreBlocksRead view rows len said result =
    Gives batch_told view (λ answer. said ≡ answer) result
    × IfOk result (λ v. All (λ block. HasSize rows len block.log) (view v))
    × MatchResult result (λ _. Unit {0}) IsOfLines
