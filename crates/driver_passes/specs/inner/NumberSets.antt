-- Sets of numbers, stored as words with one bit for each number. Number `n` has bit `n % 64` of word `n / 64`.
use Rattle.std.specs.Prelude.{◌≡◌, ◌≤◌, ◌<◌, ◌/◌, ◌%◌, ◌==◌, ◌&&◌, ℕ, Bool, true, false, List, slice_index_or}
use Rattle.std.specs.Int.{bit_at}

-- the bit at this place of the word is set
abbrev pub has_bit : ℕ → ℕ → Bool
has_bit word place = bit_at word place == 1

-- the number is in the set
unfoldable pub is_in : List ℕ → ℕ → Bool
is_in words n = has_bit (slice_index_or words (n / 64) 0) (n % 64)

-- number `n` belongs to word number `word`, and the bit of `n` in that word is set in `bits`
abbrev pub is_of_word : ℕ → ℕ → ℕ → Bool
is_of_word word bits n = n / 64 == word && has_bit bits (n % 64)

-- `first` is the first number from `from` on that satisfies the test
pub record IsFirstNumber (passes : ℕ → Bool) (from first : ℕ) : Type 0 where
  pub least : from ≤ first
  pub found : passes first ≡ true
  pub earlier : (n : ℕ) → from ≤ n → n < first → passes n ≡ false
