-- Proofs that the passes have only useful controls. A control is useful if it is safe alone and enables a
-- tested driver.
use Rattle.std.proofs.Common.{◌≡◌, ◌⊎◌, inl, inr, ℕ, zero, suc, true, List, [], ◌∷◌, ◌++◌, Some, sym, ◌∙◌, ap}
use Rattle.std.specs.Prelude.{slice_get}
use Rattle.board_defs.specs.declared.board.Ctl.{Ctl}
use Rattle.board_defs.specs.declared.board.RawBoard.{RawBoard}
use Rattle.board_defs.specs.Coverage.{IsUseful}
use Rattle.board_defs.specs.Settings.{holds}
use Rattle.board_defs.specs.Passes.{useful_controls}
use Rattle.board_defs.specs.Laws.{PassesAre}
use Rattle.driver_passes.specs.inner.Drafts.{setting_of}
use Rattle.driver_passes.specs.inner.NumberSets.{is_in}
use Rattle.driver_passes.specs.Useful.{HoldUseful}
use Rattle.driver_passes.proofs.ChosenLemmas.{chosen_among}

last_or_earlier : (passes : List (List Ctl)) (last pass : List Ctl) (x : ℕ)
    → slice_get (passes ++ last ∷ []) x ≡ Some pass
    → (slice_get passes x ≡ Some pass) ⊎ (last ≡ pass)
last_or_earlier [] last pass zero h = inr (cc h)
last_or_earlier [] last pass (suc x) h = cc h
last_or_earlier (first ∷ passes) last pass zero h = inl h
last_or_earlier (first ∷ passes) last pass (suc x) h = last_or_earlier passes last pass x h

pub useful_more : (board : RawBoard) (passes after : List (List Ctl)) (pass : List Ctl)
    → HoldUseful board passes → ((c : Ctl) → holds pass c ≡ true → IsUseful board c)
    → after ≡ passes ++ pass ∷ [] → HoldUseful board after
useful_more board passes after last hold useful e x pass c h k =
    by_part
    (last_or_earlier passes last pass x (sym (ap (λ (v : List (List Ctl)). slice_get v x) e) ∙ h))
  where
    by_part : (slice_get passes x ≡ Some pass) ⊎ (last ≡ pass) → IsUseful board c
    by_part (inl here) = hold x pass c here k
    by_part (inr same) = useful c (ap (λ (v : List Ctl). holds v c) same ∙ k)

pub chosen_useful : (board : RawBoard) (held : List ℕ) (c : Ctl) → PassesAre board
    → holds (setting_of board held) c ≡ true → IsUseful board c
chosen_useful board held c are h = (are.said.useful c).0 (chosen_among (is_in held) 0 (useful_controls board) c h)
