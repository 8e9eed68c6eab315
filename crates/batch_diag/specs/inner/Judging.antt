-- The verdicts on all blocks of a batch or on a range of the blocks.
use Rattle.std.specs.Prelude.{ℕ, List, All}
use Rattle.diagnoser.specs.Diagnosis.{IsFaultOnBoard}
use Rattle.side_by_side.specs.Pieces.{items_between}
use Rattle.batch_diag.specs.declared.block.Block.{Block}
use Rattle.batch_diag.specs.declared.batch.Batch.{Batch}
use Rattle.batch_diag.specs.Verdicts.{EachPair, IsVerdict, Verdict}

-- the verdict is the verdict on the block, and its faults name nets and pins of the board
abbrev pub Judges : Batch → Block → Verdict → Type 0
Judges b block verdict = IsVerdict b.test.now.board block verdict × All (IsFaultOnBoard b.test.now.board) verdict.faults

-- the verdicts are the verdicts on the blocks `from..to`, in order
abbrev pub Judged : Batch → ℕ → ℕ → List Verdict → Type 0
Judged b from to verdicts = EachPair (Judges b) (items_between b.blocks.now from to) verdicts
