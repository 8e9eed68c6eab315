-- Conditions on the TDI, TDO and MASK rows of a scan that is written.
use Rattle.std.specs.Prelude.{◌≡◌, ℕ, ◌+◌, ◌≤◌, Bool, true, false, List, length, slice_index_or, sum}

-- MASK has a 1 wherever TDO has a 1
abbrev pub IsMasked : List Bool → List Bool → Type 0
IsMasked tdo mask = (i : ℕ) → slice_index_or tdo i false ≡ true → slice_index_or mask i false ≡ true

-- a row with room for `room` bits has room for each of the two scans of the chain test for parts with these instruction
-- lengths
pub record IsChainRoom (lengths : List ℕ) (room : ℕ) : Type 0 where
  pub codes : sum lengths ≤ room
  pub marks : length lengths + 8 ≤ room
