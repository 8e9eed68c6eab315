use Rattle.std.proofs.Common.{◌≡◌, not, ap, sym, subst, ◌∙◌, List}
use Rattle.std.specs.Prelude.{filter}
use Rattle.board_defs.specs.declared.board.Ctl.{Ctl}
use Rattle.board_defs.specs.Settings.{holds, IsInControlOrder}
use Rattle.walk_test.proofs.SettingLemmas.{left_is, left_order}
use Rattle.walk_test.proofs.setting.without_switching.Goals as goal

pub of-requires : goal.of-requires
of-requires c =
    let set = c.in_ok-switching.switching in
    let left : c.in_ok-left.left.items
    ≡ filter (λ x. not (holds set x)) c.args.pass.now = c.in_ok-left.ensures
    ∙ ap (λ (l : List Ctl). filter (λ x. not (holds set x)) l) c.controls.ensures.value in
    subst (λ (l : List Ctl). IsInControlOrder l) (sym left) (left_order (λ x. not (holds set x)) c.args.pass.now c.controls.ensures.order)

pub returns : goal.returns
returns c =
    let set = c.in_ok-switching.switching in
    c.of.ensures ∙ c.in_ok-left.ensures
    ∙ ap (λ (l : List Ctl). filter (λ x. not (holds set x)) l) c.controls.ensures.value
    ∙ left_is c.args.board.now set c.args.pass.now c.in_ok-switching.ensures
