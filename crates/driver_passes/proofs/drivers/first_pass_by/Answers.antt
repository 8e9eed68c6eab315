use Rattle.std.proofs.Common.{◌∙◌, ◌++◌, ◌∷◌, [], List, ap}
use Rattle.std.specs.Prelude.{slice_get}
use Rattle.board_defs.specs.declared.board.Ctl.{Ctl}
use Rattle.board_defs.specs.declared.board.RawBoard.{RawBoard}
use Rattle.driver_passes.specs.inner.Progress.{drivers_from}
use Rattle.driver_passes.proofs.FirstLemmas.{first_is, none_first}
use Rattle.driver_passes.proofs.drivers.first_pass_by.Goals as goal

pub returns-in-None : goal.returns-in-None
returns-in-None c =
    c.new-passes.ensures.items
    ∙ none_first c.args.board.now
    (c.in-None.ensures.first
    ∙ ap (λ (b : RawBoard). slice_get (drivers_from b 0) 0) c.classes.ensures.same)

pub returns-in_ok-push-in-Some : goal.returns-in_ok-push-in-Some
returns-in_ok-push-in-Some c =
    let pass : List Ctl = c.in_ok-first_pass_for-in-Some.field-0 in
    c.in_ok-push-in-Some.ensures.items
    ∙ ap (λ (v : List (List Ctl)). v ++ pass ∷ []) c.new-passes.ensures.items
    ∙ ap (λ (v : List Ctl). v ∷ []) c.in_ok-first_pass_for-in-Some.ensures
    ∙ first_is c.args.board.now c.in-Some.d
    (c.in-Some.ensures.first
    ∙ ap (λ (b : RawBoard). slice_get (drivers_from b 0) 0) c.classes.ensures.same)
