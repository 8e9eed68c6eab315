-- The fault that is reported for a text that is not a log.
use Rattle.std.specs.Prelude.{◌≡◌, ◌↔◌, ℕ, ◌<◌, Bool, List, [], ◌∷◌, ◌++◌, length, All, Some, Err}
use Rattle.bt_bits.specs.Hex.{digit_count}
use Rattle.text_lines.specs.Words.{Word}
use Rattle.response_log.specs.declared.fault.LogFault.{LogFault}
use Rattle.response_log.specs.declared.fault.LogFault.TheVariants.{Digit, Length, Missing, Extra, Memory}
use Rattle.response_log.specs.LogRows.{NumberedLine, bits_of_line, row_lines, log_rows, IsLogOf}

-- the line is a row of `len` bits
abbrev pub IsLogRow : ℕ → NumberedLine → Type 0
IsLogRow len line = (bits : List Bool) × (bits_of_line len line ≡ Some bits)

-- the line is one word, and the word has one byte for each digit that `len` bits need
abbrev pub HasDigitCount : ℕ → NumberedLine → Type 0
HasDigitCount len line = (word : Word) × (line.words ≡ word ∷ []) × (length word ≡ digit_count len)

-- the line comes after `found` lines, each of which is a row
pub record StandsBehind (len : ℕ) (lines : List NumberedLine) (line : NumberedLine) (found : ℕ) : Type 0 where
  pub before : List NumberedLine
  pub later : List NumberedLine
  pub place : lines ≡ before ++ line ∷ later
  pub rows : All (IsLogRow len) before
  pub count : length before ≡ found

-- The first offense of lines with words, if `rows` rows of `len` bits are expected. Each of the first `rows` lines must be a row. If one of
-- them is not, the first such line has the fault: `Length` if its length is wrong, and otherwise `Digit`. If the first `rows` lines are
-- rows and another line follows, that line has the fault `Extra`. If every line is a row but there are fewer than `rows` lines, the fault
-- is `Missing`.
abbrev pub IsFirstOffense : ℕ → ℕ → List NumberedLine → LogFault → Type 0
IsFirstOffense rows len lines (Length n) =
    (line : NumberedLine) × (found : ℕ) × StandsBehind len lines line found × (found < rows)
    × (line.number ≡ n) × ¬ HasDigitCount len line
IsFirstOffense rows len lines (Digit n) =
    (line : NumberedLine) × (found : ℕ) × StandsBehind len lines line found × (found < rows)
    × (line.number ≡ n) × HasDigitCount len line × ¬ IsLogRow len line
IsFirstOffense rows len lines (Extra n) = (line : NumberedLine) × StandsBehind len lines line rows × (line.number ≡ n)
IsFirstOffense rows len lines (Missing found) = All (IsLogRow len) lines × (length lines ≡ found) × (found < rows)
IsFirstOffense rows len lines (Memory e) = ⊥

-- the fault that is reported for a text is its first offense
abbrev pub FirstOffenseIsTold : Type 0
FirstOffenseIsTold =
    (text : List ℕ) (rows len : ℕ) (fault : LogFault)
    → (log_rows text rows len ≡ Err fault) ↔ IsFirstOffense rows len (row_lines text) fault

-- the text has exactly one first offense, if `rows` rows of `len` bits are expected
pub record HasOneOffense (text : List ℕ) (rows len : ℕ) : Type 0 where
  pub fault : LogFault
  pub is : IsFirstOffense rows len (row_lines text) fault
  pub one : (other : LogFault) → IsFirstOffense rows len (row_lines text) other → other ≡ fault

-- whatever rows are expected, a text has exactly one first offense if and only if it is not a log of such rows
abbrev pub OneOffenseOrLog : Type 0
OneOffenseOrLog = (text : List ℕ) (rows len : ℕ) → HasOneOffense text rows len ↔ ((log : List (List Bool)) → ¬ IsLogOf text rows len log)
