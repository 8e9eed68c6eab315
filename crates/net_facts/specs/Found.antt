-- Ascending lists of numbers, and whether two of them have a number in common.
use Rattle.std.specs.Prelude.{◌≡◌, ℕ, ◌<◌, List, length, slice_index}

abbrev pub IsAscending : List ℕ → Type 0
IsAscending xs = (i j : ℕ) → i < j → j < length xs → slice_index xs i < slice_index xs j

-- the two lists have a number in common
abbrev pub Meet : List ℕ → List ℕ → Type 0
Meet xs ys = (i : ℕ) × (j : ℕ) × (i < length xs) × (j < length ys) × (slice_index xs i ≡ slice_index ys j)
