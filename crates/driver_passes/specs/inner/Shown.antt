-- The nets that each pass shows. A pass shows a net if it enables a tested driver of the net.
use Rattle.std.specs.Prelude.{◌≡◌, ◌<◌, ◌+◌, ◌/◌, ◌&&◌, ℕ, Bool, List, length, map, slice_index_or}
use Rattle.std.specs.List.{AllZip, list_all}
use Rattle.board_defs.specs.declared.board.Ctl.{Ctl}
use Rattle.board_defs.specs.declared.board.RawBoard.{RawBoard}
use Rattle.board_defs.specs.Passes.{shows}
use Rattle.net_classes.specs.Pairs.{drivers_at}
use Rattle.driver_passes.specs.declared.column.Column.{Column}
use Rattle.driver_passes.specs.inner.NumberSets.{is_in}

-- the row is the set of the nets that the pass shows, with room for each net
pub record AreShownBy (board : RawBoard) (pass : List Ctl) (row : List ℕ) : Type 0 where
  pub row_length : length row ≡ length board.nets / 64 + 1
  pub row_are : (n : ℕ) → n < length board.nets → is_in row n ≡ shows (drivers_at board n) pass

-- there is one row for each pass, and row x is the set of the nets that pass x shows
abbrev pub AreShownRows : RawBoard → List (List Ctl) → List (List ℕ) → Type 0
AreShownRows board passes rows = AllZip (AreShownBy board) passes rows

-- the set has the nets that every pass shows, with room for each net
pub record AreShownByAll (board : RawBoard) (passes : List (List Ctl)) (always : List ℕ) : Type 0 where
  pub always_length : length always ≡ length board.nets / 64 + 1
  pub always_are : (n : ℕ) → n < length board.nets → is_in always n ≡ list_all (shows (drivers_at board n)) passes

-- word `number` of each row, or 0 for a row that has no such word
abbrev pub words_at : ℕ → List (List ℕ) → List ℕ
words_at number rows = map (λ row. slice_index_or row number 0) rows

-- the column has word `column.number` of each row
abbrev pub IsColumn : List (List ℕ) → Column → Type 0
IsColumn rows column = column.words.items ≡ words_at column.number rows

-- the row has both nets
abbrev pub shows_both : ℕ → ℕ → List ℕ → Bool
shows_both a b row = is_in row a && is_in row b
