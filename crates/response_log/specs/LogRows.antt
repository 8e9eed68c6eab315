-- The rows of a response log.
use Rattle.std.specs.Prelude.{◌≡◌, ℕ, ◌+◌, ◌==◌, Bool, true, false, List, [], ◌∷◌, ◌++◌, length, take, drop, map, filter, filter_map, Option, Some, None, is_some, option_and_then, Result, Ok, Err, nat_lt, slice_get, slice_index_or, All, if◌then◌else◌}
use Rattle.std.specs.List.{slice_split}
use Rattle.bt_bits.specs.Hex.{digit_count, field_bits}
use Rattle.text_lines.specs.Words.{Word, is_newline, words_of}
use Rattle.response_log.specs.declared.fault.LogFault.{LogFault}
use Rattle.response_log.specs.declared.fault.LogFault.TheVariants.{Digit, Length, Missing, Extra, Memory}

-- a line, with its number and its words
pub record NumberedLine : Type 0 where
  pub number : ℕ
  pub words : List Word

-- the line with this number and this first word, followed by the words of `behind`
abbrev pub line_with : ℕ → Word → List ℕ → NumberedLine
line_with n word behind = record { number = n; words = word ∷ words_of behind }

-- these lines with their words, numbered from `n` in order
abbrev pub numbered_lines : ℕ → List (List ℕ) → List NumberedLine
numbered_lines n [] = []
numbered_lines n (line ∷ lines) = record { number = n; words = words_of line } ∷ numbered_lines (n + 1) lines

abbrev pub holds_word : List Word → Bool
holds_word [] = false
holds_word (word ∷ words) = true

abbrev pub has_words : NumberedLine → Bool
has_words line = holds_word line.words

-- The lines of a text that have words. All lines are numbered from 1, including lines without words.
abbrev pub row_lines : List ℕ → List NumberedLine
row_lines text = filter has_words (numbered_lines 1 (slice_split is_newline text))

-- the word of a line that has exactly one word
abbrev pub only_word : List Word → Option Word
only_word [] = None
only_word (word ∷ []) = Some word
only_word (word ∷ other ∷ words) = None

-- The bits of a line that is a row, or None if the line is not a row. A row is one word, the hexadecimal field of `len` bits.
abbrev pub bits_of_line : ℕ → NumberedLine → Option (List Bool)
bits_of_line len line = option_and_then (field_bits len) (only_word line.words)

abbrev pub word_fault : ℕ → ℕ → Option Word → Option LogFault
word_fault len n None = Some (Length n)
word_fault len n (Some word) =
    if length word == digit_count len then (if is_some (field_bits len word) then None else Some (Digit n)) else Some (Length n)

-- The offense of a line that must be a row of `len` bits, or None if it is such a row. It is `Length` if the line is not one word, or if the
-- word does not have one byte for each digit that the bits need. It is `Digit` if the length is right, but a byte is not a digit, or a bit
-- above the `len` bits is 1.
abbrev pub row_fault : ℕ → NumberedLine → Option LogFault
row_fault len line = word_fault len line.number (only_word line.words)

-- The offenses of lines, in order, if `rows` rows are expected. First come the offenses of the first `rows` lines. Then each later line is
-- an offense, whatever it contains.
abbrev pub offenses : ℕ → ℕ → List NumberedLine → List LogFault
offenses rows len lines = filter_map (row_fault len) (take rows lines) ++ map (λ line. Extra line.number) (drop rows lines)

abbrev pub LogAnswer : Type 0
LogAnswer = Result (List (List Bool)) LogFault

-- the rows of lines without an offense, or `Missing` if there are fewer than `rows` lines
abbrev pub wanted_rows : ℕ → ℕ → List NumberedLine → LogAnswer
wanted_rows rows len lines = if nat_lt (length lines) rows then Err (Missing (length lines)) else Ok (filter_map (bits_of_line len) lines)

abbrev pub first_or : LogAnswer → List LogFault → LogAnswer
first_or answer [] = answer
first_or answer (fault ∷ faults) = Err fault

-- the rows of lines, or their first offense
abbrev pub rows_of_lines : ℕ → ℕ → List NumberedLine → LogAnswer
rows_of_lines rows len lines = first_or (wanted_rows rows len lines) (offenses rows len lines)

-- the log of `rows` rows with `len` bits each in a text, or the first offense
abbrev pub log_rows : List ℕ → ℕ → ℕ → LogAnswer
log_rows text rows len = rows_of_lines rows len (row_lines text)

-- `log` is the log in the text: each line with words is a row, and there are `rows` rows
pub record IsLogOf (text : List ℕ) (rows len : ℕ) (log : List (List Bool)) : Type 0 where
  pub lines : map (bits_of_line len) (row_lines text) ≡ map Some log
  pub count : length log ≡ rows

-- the fault, or `None` for lack of memory, which no definition describes
abbrev pub log_told : LogFault → Option LogFault
log_told (Memory e) = None
log_told fault = Some fault

-- the log has `count` rows, and each row has `len` bits
pub record HasSize (count len : ℕ) (log : List (List Bool)) : Type 0 where
  pub rows : length log ≡ count
  pub bits : All (λ row. length row ≡ len) log

-- bit `at` of a row of a log, if there is such a bit
abbrev pub log_bit : List (List Bool) → ℕ → ℕ → Option Bool
log_bit log row at = option_and_then (λ bits. slice_get bits at) (slice_get log row)

-- bit `at` of a row of a log, or false if the log has no such bit
abbrev pub bit_in : List (List Bool) → ℕ → ℕ → Bool
bit_in log row at = slice_index_or (slice_index_or log row []) at false
