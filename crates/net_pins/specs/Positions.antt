-- The positions of a chain's parts in a data scan.
use Rattle.std.specs.Prelude.{◌≡◌, ℕ, suc, ◌+◌, ◌<◌, List, length, drop, sum_by, slice_index_or}
use Rattle.board_defs.specs.declared.board.Part.{Part}
use Rattle.board_defs.specs.declared.board.RawBoard.{RawBoard}
use Rattle.board_defs.specs.Pins.{data_length}

-- the position of a part's first bit in a data scan; the bits of all later parts have lower positions
abbrev pub first_position : RawBoard → ℕ → ℕ
first_position board part = sum_by (λ p. data_length p.kind) (drop (suc part) board.chain)

-- `firsts` has the position of the first bit of each part of the chain
pub record AreFirsts (chain : List Part) (firsts : List ℕ) : Type 0 where
  pub count : length firsts ≡ length chain
  pub each : (part : ℕ) → part < length chain → slice_index_or firsts part 0 ≡ sum_by (λ p. data_length p.kind) (drop (part + 1) chain)
