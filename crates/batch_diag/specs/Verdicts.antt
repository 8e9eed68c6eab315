-- The verdicts on the blocks of a batch. A verdict is the diagnosis of a block's log.
use Rattle.std.specs.Prelude.{◌*◌, List, [], ◌∷◌, length, All}
use Rattle.board_defs.specs.declared.board.RawBoard.{RawBoard}
use Rattle.board_defs.specs.Pins.{data_bits}
use Rattle.plan_tables.specs.declared.tables.PlanTables.{PlanTables}
use Rattle.response_log.specs.LogRows.{HasSize}
use Rattle.fault_sim.specs.Diagnosis.{IsDiagnosis}
use Rattle.batch_diag.specs.declared.block.Block.{Block}
-- the verdict on a log
pub use Rattle.diagnoser.specs.declared.verdict.Verdict.{Verdict}

-- two lists have the same length, and R holds for the two items at each index
abbrev pub EachPair : {A B : Type 0} → (A → B → Type 0) → List A → List B → Type 0
EachPair R [] [] = Unit {0}
EachPair R [] (y ∷ ys) = ⊥
EachPair R (x ∷ xs) [] = ⊥
EachPair R (x ∷ xs) (y ∷ ys) = R x y × EachPair R xs ys

-- the verdict is the diagnosis of the block's log: whether the log passes, and the single faults that explain it
abbrev pub IsVerdict : RawBoard → Block → Verdict → Type 0
IsVerdict board block verdict = IsDiagnosis board block.log verdict.pass verdict.faults

-- there are as many verdicts as blocks, and verdict `n` is the verdict on block `n`
abbrev pub AreVerdicts : RawBoard → List Block → List Verdict → Type 0
AreVerdicts board blocks verdicts = EachPair (IsVerdict board) blocks verdicts

-- each log has as many rows as the plan's test, and each row is as long as a data scan
abbrev pub AreLogs : RawBoard → PlanTables → List Block → Type 0
AreLogs board plan blocks = All (λ block. HasSize (length plan.passes * plan.width) (data_bits board) block.log) blocks
