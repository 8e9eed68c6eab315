-- The form in which a log keeps its rows: the values of the digits of each row, row after row.
use Rattle.std.specs.Prelude.{◌≡◌, ℕ, zero, suc, ◌/◌, ◌%◌, ◌<◌, Bool, false, List, [], ◌∷◌, take, drop, length, slice_index_or, Option, Some, None}
use Rattle.bt_bits.specs.Digits.{digit_bit, digits_of, digit_row}
use Rattle.bt_bits.specs.Hex.{digit_count}

-- the first `rows` rows of `len` bits each in these digits
abbrev pub kept_rows : ℕ → ℕ → List ℕ → List (List Bool)
kept_rows len zero digits = []
kept_rows len (suc rows) digits = digit_row len (take (digit_count len) digits) ∷ kept_rows len rows (drop (digit_count len) digits)

-- the digits of each row have the bits of the row, and 0 in each bit above the row's bits
abbrev pub AreWhole : ℕ → ℕ → List ℕ → Type 0
AreWhole len zero digits = Unit {0}
AreWhole len (suc rows) digits =
    (take (digit_count len) digits ≡ digits_of (digit_row len (take (digit_count len) digits)))
    × AreWhole len rows (drop (digit_count len) digits)

-- `digits` are the values of the hexadecimal digits of the row, and bit `at` of the row is bit `at % 4` of digit `at / 4`
pub record AreRowDigits (row : List Bool) (digits : List ℕ) : Type 0 where
  pub values : digits ≡ digits_of row
  pub count : length digits ≡ digit_count (length row)
  pub bits : (at : ℕ) → at < length row → slice_index_or row at false ≡ digit_bit (slice_index_or digits (at / 4) 0) (at % 4)

-- the text from this place on, if there is a place
abbrev pub text_at : List ℕ → Option ℕ → Option (List ℕ)
text_at text None = None
text_at text (Some from) = Some (drop from text)
