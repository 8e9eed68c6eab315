-- The two walks over the useful controls, each starting at a given place in the list of useful controls. A walk adds
-- a control to a draft (a pass that is being made) if the control is together with each control of the draft. Two
-- controls are together if the setting with just these two is safe. The first walk adds only controls that are in no
-- earlier pass. A control is useful if it is safe alone and enables a tested driver.
use Rattle.std.specs.Prelude.{ℕ, List, drop}
use Rattle.board_defs.specs.declared.board.Ctl.{Ctl}
use Rattle.board_defs.specs.Passes.{first_walk, second_walk, useful_controls}
use Rattle.driver_passes.specs.inner.Drafts.{Drafted, drafted}

-- the draft after the first walk over the useful controls from this place on
abbrev pub first_walked : Drafted → ℕ → List (List Ctl) → Drafted
first_walked draft from earlier =
    drafted draft.board
    (first_walk draft.board (drop from (useful_controls draft.board)) earlier draft.setting)

-- the draft after the second walk over the useful controls from this place on
abbrev pub second_walked : Drafted → ℕ → Drafted
second_walked draft from = drafted draft.board (second_walk draft.board (drop from (useful_controls draft.board)) draft.setting)
