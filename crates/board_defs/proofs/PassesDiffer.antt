-- No two passes are equal in a list of passes that meets the requirements on passes (`ArePasses`).
use Rattle.std.proofs.Common.{◌≡◌, ◌⊎◌, ℕ, zero, suc, ◌<◌, List, [], ◌∷◌, take, Some, inl, inr, arith}
use Rattle.std.specs.Prelude.{slice_get}
use Rattle.board_defs.specs.declared.board.Ctl.{Ctl}
use Rattle.board_defs.specs.declared.board.RawBoard.{RawBoard}
use Rattle.board_defs.specs.Passes.{ArePasses, EnablesNew, ObservesNew}

earlier_at : {A : Type 0} (items : List A) (x y : ℕ) (item : A) → x < y
    → slice_get items x ≡ Some item → slice_get (take y items) x ≡ Some item
earlier_at [] x y item less at = cc at
earlier_at (first ∷ items) x zero item less at = absurd (omega (arith, less))
earlier_at (first ∷ items) zero (suc y) item less at = at
earlier_at (first ∷ items) (suc x) (suc y) item less at = earlier_at items x y item (omega (arith, less)) at

pub passes_differ : (board : RawBoard) (passes : List (List Ctl)) (x y : ℕ) (pass : List Ctl)
    → ArePasses board passes → x < y → slice_get passes x ≡ Some pass
    → slice_get passes y ≡ Some pass → ⊥
passes_differ board passes x y pass are less earlier later = by_need (are.needed y pass later)
  where
    before : slice_get (take y passes) x ≡ Some pass
    before = earlier_at passes x y pass less earlier

    by_need : EnablesNew board (take y passes) pass ⊎ ObservesNew board (take y passes) pass → ⊥
    by_need (inl new) = new.first (x, pass, before, new.enables)
    by_need (inr new) = new.first (x, pass, before, new.observes)
