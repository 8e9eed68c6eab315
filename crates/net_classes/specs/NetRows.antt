-- Rows of bits with one bit for each net, 64 to a word.
use Rattle.std.specs.Prelude.{ℕ, ◌==◌, Bool, List, slice_index}
use Rattle.std.specs.List.{list_any}
use Rattle.net_classes.specs.Pairs.{AreWordBits}

-- bit `n % 64` of word `n / 64` of the row is 1 if and only if `passes` is true of `n`
abbrev pub AreRowBits : (ℕ → Bool) → List ℕ → Type 0
AreRowBits passes row = (w : ℕ) → AreWordBits passes w (slice_index row w)

-- the number `n` is in the list
abbrev pub stands_in : List ℕ → ℕ → Bool
stands_in numbers n = list_any (λ k. k == n) numbers
