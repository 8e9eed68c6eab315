-- The index of each net's first pair with a later net, in the list of all pairs of nets.
use Rattle.std.specs.Prelude.{◌≡◌, ℕ, zero, suc, ◌+◌, ◌≤◌, List, length, slice_index_or}

-- the number of pairs among `nets` nets that come before the pairs of net a with later nets
abbrev pub pairs_before : ℕ → ℕ → ℕ
pairs_before zero a = 0
pairs_before (suc nets) zero = 0
pairs_before (suc nets) (suc a) = nets + pairs_before nets a

-- item a of `starts` is the index of net a's first pair with a later net; the last item is the count of all pairs
pub record ArePairStarts (nets : ℕ) (starts : List ℕ) : Type 0 where
  pub count : length starts ≡ suc nets
  pub each : (a : ℕ) → a ≤ nets → slice_index_or starts a 0 ≡ pairs_before nets a
