use Rattle.std.proofs.Common.{◌∙◌, List, ap, sym, subst}
use Rattle.board_defs.specs.declared.board.Ctl.{Ctl}
use Rattle.board_defs.specs.Settings.{holds, IsInControlOrder}
use Rattle.board_defs.specs.Passes.{useful_controls}
use Rattle.driver_passes.specs.inner.Drafts.{passing_controls}
use Rattle.driver_passes.specs.inner.NumberSets.{is_in}
use Rattle.driver_passes.proofs.ChosenLemmas.{chosen_order}
use Rattle.driver_passes.proofs.UsefulLemmas.{chosen_useful}
use Rattle.driver_passes.proofs.draft.Draft.setting.Goals as goal

pub of-requires : goal.of-requires
of-requires c =
    let held = c.self.inside.held in
    let P : List Ctl → Type 0 = λ v. IsInControlOrder v in
    subst P
    (sym
    (c.in_ok-controls.ensures
    ∙ ap (passing_controls (is_in held) 0)
    (c.useful-useful.ensures.controls ∙ ap useful_controls c.classes.ensures.same)))
    (chosen_order (is_in held) 0 (useful_controls c.self.inside.board.now)
    c.classes.ensures.laws.passes.said.useful_in_order)

pub returns-clause-useful : goal.returns-clause-useful
returns-clause-useful c = λ e h.
    let held = c.self.inside.held in
    let made = c.of.ensures ∙ c.in_ok-controls.ensures
    ∙ ap (passing_controls (is_in held) 0)
    (c.useful-useful.ensures.controls ∙ ap useful_controls c.classes.ensures.same) in
    rw (sym c.self.view_is)
    (chosen_useful c.self.inside.board.now held e c.classes.ensures.laws.passes
    (ap (λ v. holds v e) (sym made) ∙ h))
