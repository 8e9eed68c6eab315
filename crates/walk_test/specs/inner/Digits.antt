-- Rows as the values of their hexadecimal digits. A loop over a row notes the row's number for each compared position that reads 1 in the
-- row.
use Rattle.std.specs.Prelude.{◌≡◌, ℕ, ◌/◌, ◌%◌, ◌<◌, ◌≤◌, Bool, true, false, ◌&&◌, List, length, slice_index_or}
use Rattle.std.specs.Int.Bits.{bit_and, bit_xor}
use Rattle.bt_bits.specs.Digits.{digit_bit}

-- the bit of a row at a position
abbrev pub digit_bit_at : List ℕ → ℕ → Bool
digit_bit_at digits at = digit_bit (slice_index_or digits (at / 4) 0) (at % 4)

-- position `at` is compared and reads 1
abbrev pub is_one : List ℕ → List ℕ → ℕ → Bool
is_one row mask at = digit_bit_at mask at && digit_bit_at row at

-- no position in the digits `from..to` is compared and reads 1
abbrev pub AreClear : List ℕ → List ℕ → ℕ → ℕ → Type 0
AreClear row mask from to = (k : ℕ) → from ≤ k → k < to → bit_and (slice_index_or row k 0) (slice_index_or mask k 0) ≡ 0

-- the compared bits of digit k in which two rows differ
abbrev pub differing : List ℕ → List ℕ → List ℕ → ℕ → ℕ
differing row other mask k = bit_and (bit_xor (slice_index_or row k 0) (slice_index_or other k 0)) (slice_index_or mask k 0)

-- If a position below `end` and within `firsts` is compared and reads 1, it has no row in `firsts` yet.
-- `firsts` has, for each position, the number of the row that the loop has noted, or `none` for no row.
abbrev pub IsFresh : List ℕ → List ℕ → ℕ → List ℕ → ℕ → Type 0
IsFresh row mask none firsts end =
    (at : ℕ) → at < end → at < length firsts → is_one row mask at ≡ true
    → slice_index_or firsts at none ≡ none

-- If a position below `end` and within `old` is compared and reads 1, its item in `new` is j. The items of
-- the other positions below `end` are unchanged. `old` and `new` have, for each position, the number of the
-- row that the loop has noted, or `none`.
pub record IsMarked (row mask : List ℕ) (j none : ℕ) (old new : List ℕ) (end : ℕ) : Type 0 where
  pub marked : (at : ℕ) → at < end → at < length old → is_one row mask at ≡ true → slice_index_or new at none ≡ j
  pub kept : (at : ℕ) → at < end → is_one row mask at ≡ false → slice_index_or new at none ≡ slice_index_or old at none
