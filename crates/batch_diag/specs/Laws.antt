-- Laws of batches: which texts are batches, which fault is reported, and which text the diagnoses make.
use Rattle.std.specs.Prelude.{◌≡◌, ◌↔◌, ℕ, ◌+◌, true, false, List, [], ◌∷◌, ◌++◌, length, All, Ok, Err, codes}
use Rattle.text_lines.specs.Words.{is_word}
use Rattle.response_log.specs.LogRows.{NumberedLine, row_lines, rows_of_lines}
use Rattle.board_defs.specs.declared.board.RawBoard.{RawBoard}
use Rattle.batch_diag.specs.declared.block.Block.{Block}
use Rattle.batch_diag.specs.declared.fault.BatchFault.{BatchFault}
use Rattle.batch_diag.specs.declared.fault.BatchFault.TheVariants.{Start, Title, Inner, Memory}
use Rattle.batch_diag.specs.Batch.{begins_block, is_wrong_title, up_to_title, blocks_of_text}
use Rattle.batch_diag.specs.Verdicts.{AreVerdicts, Verdict}
use Rattle.batch_diag.specs.BatchText.{batch_text, IsBatchText}

-- The title is the word BOARD and the block's id, which satisfies the word rule (`is_word`). None of the lines is a title, and the lines
-- are the block's log.
pub record IsBlockOf (rows len : ℕ) (title : NumberedLine) (lines : List NumberedLine) (block : Block) : Type 0 where
  pub words : title.words ≡ codes "BOARD" ∷ block.id ∷ []
  pub id : is_word block.id ≡ true
  pub inside : All (λ line. begins_block line ≡ false) lines
  pub log : rows_of_lines rows len lines ≡ Ok block.log

-- the lines consist of the lines of each block, in order: the block's title, and then the lines of the
-- block's log
abbrev pub AreBlocksOf : ℕ → ℕ → List NumberedLine → List Block → Type 0
AreBlocksOf rows len lines [] = lines ≡ []
AreBlocksOf rows len lines (block ∷ blocks) =
    (title : NumberedLine) × (own : List NumberedLine) × (later : List NumberedLine)
    × IsBlockOf rows len title own block × AreBlocksOf rows len later blocks
    × (lines ≡ title ∷ (own ++ later))

-- a text is a batch of these blocks if and only if its lines with words are the titles of the blocks, each followed by the lines of the
-- block's log
abbrev pub BlocksAreTheLines : Type 0
BlocksAreTheLines =
    (text : List ℕ) (rows len : ℕ) (blocks : List Block)
    → (blocks_of_text text rows len ≡ Ok blocks) ↔ AreBlocksOf rows len (row_lines text) blocks

-- each title among the lines consists of the word BOARD and an id that satisfies the word rule (`is_word`)
abbrev pub AreRight : List NumberedLine → Type 0
AreRight lines = All (λ line. is_wrong_title line ≡ false) lines

-- The fault is the first fault of the lines. `Start` is the fault of the first line, if this line is not a
-- title. `Title` is the fault of the first wrong title, if the first line is a title. `Inner` is the fault of
-- the first block whose lines are not a log, if the first line is a title and no title is wrong. `Memory` is
-- never the first fault.
abbrev pub IsFirstFault : ℕ → ℕ → List NumberedLine → BatchFault → Type 0
IsFirstFault rows len lines (Start n) =
    (line : NumberedLine) × (later : List NumberedLine) × (begins_block line ≡ false)
    × (line.number ≡ n) × (lines ≡ line ∷ later)
IsFirstFault rows len lines (Title n) =
    (before : List NumberedLine) × (line : NumberedLine) × (later : List NumberedLine)
    × (up_to_title lines ≡ []) × AreRight before × (is_wrong_title line ≡ true)
    × (line.number ≡ n) × (lines ≡ before ++ line ∷ later)
IsFirstFault rows len lines (Inner board fault) =
    (blocks : List Block) × (before : List NumberedLine) × (title : NumberedLine)
    × (own : List NumberedLine) × (later : List NumberedLine) × AreRight lines
    × AreBlocksOf rows len before blocks
    × (begins_block title ≡ true) × All (λ line. begins_block line ≡ false) own
    × (up_to_title later ≡ []) × (rows_of_lines rows len own ≡ Err fault)
    × (board ≡ length blocks + 1) × (lines ≡ before ++ title ∷ (own ++ later))
IsFirstFault rows len lines (Memory e) = ⊥

-- `blocks_of_text` returns this fault for a text if and only if it is the text's first fault
abbrev pub FaultIsTheFirst : Type 0
FaultIsTheFirst =
    (text : List ℕ) (rows len : ℕ) (fault : BatchFault)
    → (blocks_of_text text rows len ≡ Err fault) ↔ IsFirstFault rows len (row_lines text) fault

-- if the verdicts are the verdicts on the blocks, `batch_text` gives the text of the batch's diagnoses
abbrev pub VerdictsMakeText : Type 0
VerdictsMakeText =
    (board : RawBoard) (blocks : List Block) (verdicts : List Verdict)
    → AreVerdicts board blocks verdicts
    → IsBatchText board blocks (batch_text board blocks verdicts)

-- a batch has at most one text of its diagnoses
abbrev pub OneBatchText : Type 0
OneBatchText =
    (board : RawBoard) (blocks : List Block) (text other : List ℕ) → IsBatchText board blocks text
    → IsBatchText board blocks other → text ≡ other
