-- Each block of a batch, read as a text of its own. This text has the lines below the block's title, and it holds the block's log.
use Rattle.std.specs.Prelude.{◌≡◌, ◌↔◌, ℕ, ◌+◌, Bool, true, false, List, [], ◌∷◌, ◌++◌, length, All, Ok, Err, codes}
use Rattle.std.specs.List.{slice_split, join_with_byte, flat_map}
use Rattle.text_lines.specs.Words.{is_newline, is_word, words_of}
use Rattle.response_log.specs.declared.fault.LogFault.{LogFault}
use Rattle.response_log.specs.declared.fault.LogFault.TheVariants.{Digit, Length, Missing, Extra, Memory}
use Rattle.response_log.specs.LogRows.{log_rows}
use Rattle.board_defs.specs.declared.board.RawBoard.{RawBoard}
use Rattle.diagnoser.specs.DiagText.{IsDiagText}
use Rattle.batch_diag.specs.declared.block.Block.{Block}
use Rattle.batch_diag.specs.declared.fault.BatchFault.TheVariants.{Inner}
use Rattle.batch_diag.specs.Batch.{is_title, id_of, blocks_of_text}
use Rattle.batch_diag.specs.BatchText.{title_line, IsBatchText}
use Rattle.batch_diag.specs.Verdicts.{EachPair}

-- a block in a text: its title, and the lines below the title
pub record BlockText : Type 0 where
  pub title : List ℕ
  pub below : List (List ℕ)

abbrev pub lines_of_block : BlockText → List (List ℕ)
lines_of_block block = block.title ∷ block.below

-- the text that consists of the lines below a block's title
abbrev pub own_text : BlockText → List ℕ
own_text block = join_with_byte 10 block.below

abbrev pub IsTitle : List ℕ → Type 0
IsTitle line = is_title (words_of line) ≡ true

abbrev pub IsNoTitle : List ℕ → Type 0
IsNoTitle line = is_title (words_of line) ≡ false

-- The text consists of lines without words, followed by these blocks. Each block ends before the next title.
pub record IsCutTo (text : List ℕ) (front : List (List ℕ)) (blocks : List BlockText) : Type 0 where
  pub lines : slice_split is_newline text ≡ front ++ flat_map lines_of_block blocks
  pub blank : All (λ line. words_of line ≡ []) front
  pub titles : All (λ block. IsTitle block.title) blocks
  pub below : All (λ block. All IsNoTitle block.below) blocks

-- the title has the id of the block, and the block's own text holds its log
pub record HoldsBlock (rows len : ℕ) (text : BlockText) (block : Block) : Type 0 where
  pub words : words_of text.title ≡ codes "BOARD" ∷ block.id ∷ []
  pub id : is_word block.id ≡ true
  pub log : log_rows (own_text text) rows len ≡ Ok block.log

pub record HoldsBlocks (text : List ℕ) (rows len : ℕ) (blocks : List Block) : Type 0 where
  pub front : List (List ℕ)
  pub texts : List BlockText
  pub cut : IsCutTo text front texts
  pub each : EachPair (HoldsBlock rows len) texts blocks

-- A text is a batch of these blocks if and only if it has, for each block in order, a title with the block's id, and the text below this
-- title holds the block's log.
abbrev pub BlocksByThemselves : Type 0
BlocksByThemselves =
    (text : List ℕ) (rows len : ℕ) (blocks : List Block)
    → (blocks_of_text text rows len ≡ Ok blocks) ↔ HoldsBlocks text rows len blocks

-- The fault of a text that is part of a longer text, with the line number in the longer text. In the longer
-- text, `before` lines come before this text. A fault without a line number stays unchanged.
abbrev pub moved_fault : ℕ → LogFault → LogFault
moved_fault before (Digit n) = Digit (before + n)
moved_fault before (Length n) = Length (before + n)
moved_fault before (Missing found) = Missing found
moved_fault before (Extra n) = Extra (before + n)
moved_fault before (Memory e) = Memory e

-- The text consists of lines without words, followed by blocks. Block `board`, counted from 1, is the first
-- block whose own text does not hold a log. `fault` is the fault of this own text, with the line number in
-- the whole text, if the fault has a line number.
pub record FailsInBlock (text : List ℕ) (rows len board : ℕ) (fault : LogFault) : Type 0 where
  pub front : List (List ℕ)
  pub earlier : List BlockText
  pub block : BlockText
  pub later : List BlockText
  pub cut : IsCutTo text front (earlier ++ block ∷ later)
  pub logs : All (λ other. (log : List (List Bool)) × (log_rows (own_text other) rows len ≡ Ok log)) earlier
  pub number : board ≡ length earlier + 1
  pub own : LogFault
  pub fails : log_rows (own_text block) rows len ≡ Err own
  pub line : fault ≡ moved_fault (length (front ++ flat_map lines_of_block earlier) + 1) own

-- if `blocks_of_text` returns the fault of a block, it is the fault of the block's own text, with the line
-- number in the whole text
abbrev pub FaultByItself : Type 0
FaultByItself =
    (text : List ℕ) (rows len board : ℕ) (fault : LogFault)
    → blocks_of_text text rows len ≡ Err (Inner board fault)
    → FailsInBlock text rows len board fault

-- the text holds a log, and `diagnosis` is the diagnosis of this log as a text
pub record IsDiagnosisOf (board : RawBoard) (rows len : ℕ) (text diagnosis : List ℕ) : Type 0 where
  pub log : List (List Bool)
  pub holds : log_rows text rows len ≡ Ok log
  pub is : IsDiagText board log diagnosis

-- `out` consists of each block's title and the diagnosis of the log that the block's own text holds, in the order of the blocks
abbrev pub AreDiagnosesOf : RawBoard → ℕ → ℕ → List BlockText → List ℕ → Type 0
AreDiagnosesOf board rows len [] out = out ≡ []
AreDiagnosesOf board rows len (block ∷ blocks) out =
    (diagnosis : List ℕ) × (later : List ℕ)
    × IsDiagnosisOf board rows len (own_text block) diagnosis
    × AreDiagnosesOf board rows len blocks later
    × (out ≡ title_line (id_of (words_of block.title)) ++ (diagnosis ++ later))

-- the text of a batch's diagnoses has, below each title, the diagnosis of the log that the block's own text holds
abbrev pub DiagnosesByThemselves : Type 0
DiagnosesByThemselves =
    (board : RawBoard) (text : List ℕ) (rows len : ℕ) (blocks : List Block) (out : List ℕ)
    → blocks_of_text text rows len ≡ Ok blocks → IsBatchText board blocks out →
    (front : List (List ℕ)) × (texts : List BlockText) × IsCutTo text front texts × AreDiagnosesOf board rows len texts out
