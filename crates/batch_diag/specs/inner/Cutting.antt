-- The steps that cut the text of a batch into the texts of its blocks.
use Rattle.std.specs.Prelude.{◌≡◌, ℕ, ◌+◌, ◌≤◌, ◌==◌, Bool, true, false, not, ◌&&◌, List, [], ◌∷◌, ◌++◌, length, filter, All, Option, Some, None, Result, Ok, Err}
use Rattle.std.specs.List.{slice_split}
use Rattle.text_lines.specs.Words.{Word, words_of, is_newline, is_line_blank}
use Rattle.response_log.specs.declared.fault.LogFault.{LogFault}
use Rattle.response_log.specs.declared.fault.LogFault.TheVariants.{Digit, Length, Missing, Extra, Memory as LogMemory}
use Rattle.response_log.specs.LogRows.{NumberedLine, numbered_lines, holds_word, has_words, LogAnswer}
use Rattle.batch_diag.specs.declared.fault.BatchFault.{BatchFault}
use Rattle.batch_diag.specs.declared.fault.BatchFault.TheVariants.{Inner, Memory}
use Rattle.batch_diag.specs.declared.lines.FoundLine.{FoundLine}
use Rattle.batch_diag.specs.declared.lines.LineKind.{LineKind}
use Rattle.batch_diag.specs.declared.lines.LineKind.TheVariants.{WithWords, AnyTitle, WrongTitle}
use Rattle.batch_diag.specs.declared.lines.Title.{Title}
use Rattle.batch_diag.specs.Batch.{BlockLines, blocks_of, is_title, names_board, up_to_title}

-- The lines of a text that have words. The first line of the text has the number `n`.
abbrev pub rows_from : ℕ → List ℕ → List NumberedLine
rows_from n text = filter has_words (numbered_lines n (slice_split is_newline text))

-- true if the first byte of the line is neither `B` nor blank; such a line is not a title
abbrev pub begins_row : List ℕ → Bool
begins_row [] = false
begins_row (b ∷ bs) = not (b == 66) && not (is_line_blank b)

-- true if a line with these words is of this kind
abbrev pub is_of_kind : LineKind → List Word → Bool
is_of_kind WithWords words = holds_word words
is_of_kind AnyTitle words = is_title words
is_of_kind WrongTitle words = is_title words && not (names_board words)

-- none of the lines satisfies `test`
abbrev pub NoneIs : (List Word → Bool) → List NumberedLine → Type 0
NoneIs test lines = All (λ line. test line.words ≡ false) lines

-- `found` is the first line with words that satisfies `test`. The first line of the text has the number `n`. The text before `found` and the
-- text behind it are fixed up to blanks, comments and lines without words. The last three fields bound the lengths and the line numbers, so
-- that counting on from `found` does not overflow.
pub record IsFirstLine (test : List Word → Bool) (n : ℕ) (text : List ℕ) (found : FoundLine) : Type 0 where
  pub all : rows_from n text
      ≡ rows_from n found.before.now
      ++ record { number = found.number; words = words_of found.line.now }
      ∷ rows_from (found.number + 1) found.behind.now
  pub earlier : NoneIs test (rows_from n found.before.now)
  pub here : test (words_of found.line.now) ≡ true
  pub within : length found.before.now ≤ length text
  pub later : n ≤ found.number
  pub place : found.number + length found.behind.now + 1 ≤ n + length text

-- the text, or no bytes if there is no text
abbrev pub or_nothing : Option (List ℕ) → List ℕ
or_nothing None = []
or_nothing (Some text) = text

-- the block of this title and the blocks after it, or no blocks if there is no title
abbrev pub blocks_at : Option Title → List BlockLines
blocks_at None = []
blocks_at (Some title) =
    let behind = rows_from (title.line + 1) title.behind.now in
    record { id = title.id.now; lines = up_to_title behind } ∷ blocks_of behind

-- the log of block `board`, or the fault of this block, given the log or the fault that the block's lines give
abbrev pub in_block : ℕ → LogAnswer → Result (List (List Bool)) BatchFault
in_block board (Ok log) = Ok log
in_block board (Err fault) = Err (Inner board fault)

-- The fault of block `board`, given the fault of the block's own text. `before` lines of the whole text come
-- before the own text. If rows are missing, the fault keeps the number of rows found. Lack of memory becomes
-- `Memory`.
abbrev pub moved_inner : ℕ → ℕ → LogFault → BatchFault
moved_inner board before (Digit n) = Inner board (Digit (before + n))
moved_inner board before (Length n) = Inner board (Length (before + n))
moved_inner board before (Missing found) = Inner board (Missing found)
moved_inner board before (Extra n) = Inner board (Extra (before + n))
moved_inner board before (LogMemory e) = Memory e

-- the fault's line number, if it has one, is at most `last`
abbrev pub IsUpTo : ℕ → LogFault → Type 0
IsUpTo last (Digit n) = n ≤ last
IsUpTo last (Length n) = n ≤ last
IsUpTo last (Missing found) = Unit {0}
IsUpTo last (Extra n) = n ≤ last
IsUpTo last (LogMemory e) = Unit {0}
