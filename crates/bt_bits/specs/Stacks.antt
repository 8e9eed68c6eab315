-- Sixteen rows of equal length, stored side by side in words.
use Rattle.std.specs.Prelude.{ℕ, ◌*◌, ◌/◌, ◌%◌, ◌^◌, ◌<◌, Bool, List, map, refl}
use Rattle.std.specs.Coded.{Coded, code_by, coded×, coded_ℕ, coded_list}
use Rattle.bt_bits.specs.Digits.{digit_bit, digit_row}
use Rattle.bt_bits.specs.Rows.{AreDigitsOf}
use Rattle.bt_bits.specs.declared.stack.Column.{Column}

-- The words of a stack, the number of bits of each row, and the number of bits for which each row
-- has room. A digit has four bits of a row. Word `i` has 64 bits: digit `i` of each of the 16 rows,
-- with the digit of row 0 in the lowest four bits.
pub record Stack : Type 0 where
  pub words : List ℕ
  pub len : ℕ
  pub room : ℕ

abbrev pub stack_code : Coded Stack
stack_code =
    code_by (List ℕ × (ℕ × ℕ)) (coded× (coded_list coded_ℕ) (coded× coded_ℕ coded_ℕ))
    (λ s. (s.words, (s.len, s.room))) (λ p. record { words = p.0; len = p.1.0; room = p.1.1 })
    (λ _. refl)

-- the digit of row `j` in a word
abbrev pub digit_in : ℕ → ℕ → ℕ
digit_in j word = word / 2 ^ (4 * j) % 16

-- the bits of row `j`
abbrev pub stacked : Stack → ℕ → List Bool
stacked stack j = digit_row stack.len (map (digit_in j) stack.words)

-- the words have the digits of 16 rows of `len` bits each, and the unused bits of the last digits
-- are 0
abbrev pub AreStacked : ℕ → List ℕ → Type 0
AreStacked len words = (j : ℕ) → j < 16 → AreDigitsOf (digit_row len (map (digit_in j) words)) len (map (digit_in j) words)

-- the bit of a column for row `j`: the lowest bit of digit `j`
abbrev pub column_bit : Column → ℕ → Bool
column_bit column j = digit_bit column.word (4 * j)
