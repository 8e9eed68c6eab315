-- Nets whose lists of tested drivers are equal. A driver in such a list is given only by the way in which it is enabled (always, or by
-- which control).
use Rattle.std.specs.Prelude.{◌≡◌, ◌<◌, ℕ, List, length, slice_index_or}
use Rattle.board_defs.specs.declared.board.RawBoard.{RawBoard}
use Rattle.net_classes.specs.Pairs.{drivers_at}

-- for each net below `most`, the table has a net with an equal list of tested drivers: an earlier net or the net itself
pub record AreAlikeBelow (board : RawBoard) (most : ℕ) (likes : List ℕ) : Type 0 where
  pub likes_length : length likes ≡ most
  pub likes_are : (n : ℕ) → n < most → drivers_at board (slice_index_or likes n 0) ≡ drivers_at board n

-- for each net of the board, the table has a net with an equal list of tested drivers: an earlier net or the net itself
abbrev pub AreAlike : RawBoard → List ℕ → Type 0
AreAlike board likes = AreAlikeBelow board (length board.nets) likes
