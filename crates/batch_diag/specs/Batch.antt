-- The blocks of a batch of logs. Each block has the log of one board.
use Rattle.std.specs.Prelude.{ℕ, ◌+◌, Bool, false, not, ◌&&◌, List, [], ◌∷◌, take_while, Option, Some, None, Result, Ok, Err, codes, if◌then◌else◌}
use Rattle.std.specs.Str.{bytes_eq}
use Rattle.text_lines.specs.Words.{Word, is_word}
use Rattle.response_log.specs.declared.fault.LogFault.{LogFault}
use Rattle.response_log.specs.declared.fault.LogFault.TheVariants.{Digit, Length, Missing, Extra, Memory as LogMemory}
use Rattle.response_log.specs.LogRows.{NumberedLine, row_lines, rows_of_lines}
use Rattle.batch_diag.specs.declared.block.Block.{Block}
use Rattle.batch_diag.specs.declared.fault.BatchFault.{BatchFault}
use Rattle.batch_diag.specs.declared.fault.BatchFault.TheVariants.{Start, Title, Inner, Memory}

-- true if the first word of the line is `BOARD`; such a line is a title
abbrev pub is_title : List Word → Bool
is_title [] = false
is_title (word ∷ words) = bytes_eq word (codes "BOARD")

abbrev pub begins_block : NumberedLine → Bool
begins_block line = is_title line.words

abbrev pub first_or_none : List Word → Word
first_or_none [] = []
first_or_none (word ∷ words) = word

-- the second word of a title, which is the id of a board, or no bytes if there is no second word
abbrev pub id_of : List Word → Word
id_of [] = []
id_of (word ∷ words) = first_or_none words

-- True if there is exactly one word and it satisfies the word rule: a word has 1 to 255 bytes, each from 33 to 126.
abbrev pub is_id : List Word → Bool
is_id [] = false
is_id (id ∷ []) = is_word id
is_id (id ∷ other ∷ words) = false

-- true if exactly one word follows the first word, and this second word satisfies the word rule
abbrev pub names_board : List Word → Bool
names_board [] = false
names_board (word ∷ words) = is_id words

abbrev pub is_wrong_title : NumberedLine → Bool
is_wrong_title line = begins_block line && not (names_board line.words)

-- the fault of the first of these lines, if there is a line and the first line is not a title; otherwise
-- `None`
abbrev pub start_fault : List NumberedLine → Option BatchFault
start_fault [] = None
start_fault (line ∷ lines) = if begins_block line then None else Some (Start line.number)

-- The fault of the first wrong title, or `None` if no title is wrong. A title is wrong if it has no id, more
-- than one id, or an id that breaks the word rule.
abbrev pub title_fault : List NumberedLine → Option BatchFault
title_fault [] = None
title_fault (line ∷ lines) = if is_wrong_title line then Some (Title line.number) else title_fault lines

-- the lines before the first title
abbrev pub up_to_title : List NumberedLine → List NumberedLine
up_to_title lines = take_while (λ line. not (begins_block line)) lines

-- a block: the id of its board, and the lines with words below the block's title
pub record BlockLines : Type 0 where
  pub id : Word
  pub lines : List NumberedLine

-- Each title begins a block. The block ends before the next title or, if there is none, at the end of the
-- text. Lines before the first title belong to no block.
abbrev pub blocks_of : List NumberedLine → List BlockLines
blocks_of [] = []
blocks_of (line ∷ lines) =
    if begins_block line
    then record { id = id_of line.words; lines = up_to_title lines } ∷ blocks_of lines
    else blocks_of lines

abbrev pub BatchAnswer : Type 0
BatchAnswer = Result (List Block) BatchFault

abbrev pub onto : Block → BatchAnswer → BatchAnswer
onto block (Ok blocks) = Ok (block ∷ blocks)
onto block (Err fault) = Err fault

-- A block and the later blocks, or the first fault among them. If the block's lines are a log, this is `later` with the block in front.
-- Otherwise it is the block's fault. `board` is the block's number.
abbrev pub block_then : Word → ℕ → Result (List (List Bool)) LogFault → BatchAnswer → BatchAnswer
block_then id board (Ok log) later = onto (record { id = id; log = log }) later
block_then id board (Err fault) later = Err (Inner board fault)

-- The blocks with their logs, or the fault of the first block whose lines are not a log. The first block of the list has the number
-- `board`.
abbrev pub logs_from : ℕ → ℕ → ℕ → List BlockLines → BatchAnswer
logs_from rows len board [] = Ok []
logs_from rows len board (block ∷ blocks) =
    block_then block.id board (rows_of_lines rows len block.lines)
    (logs_from rows len (board + 1) blocks)

abbrev pub unless_wrong : Option BatchFault → BatchAnswer → BatchAnswer
unless_wrong None answer = answer
unless_wrong (Some fault) answer = Err fault

-- The blocks that the lines with words of a text give, or the fault of these lines. If the first line is not a title, this is the fault of
-- the first line. Otherwise, if there is a wrong title, it is the fault of the first wrong title. Otherwise, if the lines of some block are
-- not a log, it is the fault of the first such block. Otherwise it is all blocks. Blocks are counted from 1. A line has its number in the
-- whole text.
abbrev pub blocks_of_lines : ℕ → ℕ → List NumberedLine → BatchAnswer
blocks_of_lines rows len lines =
    unless_wrong (start_fault lines)
    (unless_wrong (title_fault lines) (logs_from rows len 1 (blocks_of lines)))

-- the blocks of a text, each with a log of `rows` rows of `len` bits, or the first fault of the text
abbrev pub blocks_of_text : List ℕ → ℕ → ℕ → BatchAnswer
blocks_of_text text rows len = blocks_of_lines rows len (row_lines text)

-- the fault, or `None` if it is lack of memory; the definitions do not say when memory runs out
abbrev pub batch_told : BatchFault → Option BatchFault
batch_told (Memory e) = None
batch_told fault = Some fault

-- true unless the fault is a block's fault that reports lack of memory; `Memory` reports lack of memory instead
abbrev pub IsOfLines : BatchFault → Type 0
IsOfLines (Start n) = Unit {0}
IsOfLines (Title n) = Unit {0}
IsOfLines (Inner board (Digit n)) = Unit {0}
IsOfLines (Inner board (Length n)) = Unit {0}
IsOfLines (Inner board (Missing found)) = Unit {0}
IsOfLines (Inner board (Extra n)) = Unit {0}
IsOfLines (Inner board (LogMemory e)) = ⊥
IsOfLines (Memory e) = Unit {0}
