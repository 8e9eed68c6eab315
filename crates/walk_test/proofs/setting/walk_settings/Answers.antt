use Rattle.std.proofs.Common.{◌≡◌, List, Option, Some, None, ap, sym, subst, ◌∙◌}
use Rattle.std.specs.Prelude.{option_map, slice_get}
use Rattle.std.specs.Option.{option_to_list}
use Rattle.board_defs.specs.declared.board.Ctl.{Ctl}
use Rattle.scan_planner.specs.Plans.{ArePlannable}
use Rattle.walk_test.specs.WalkTest.{without_switching, walk_setting}
use Rattle.walk_test.proofs.SettingLemmas.{setting_plannable, nothing_plannable, only_plannable}
use Rattle.walk_test.proofs.setting.walk_settings.Goals as goal

pub returns-in-None : goal.returns-in-None
returns-in-None c =
    let board = c.args.board.now in
    let first : slice_get c.args.passes.now 0
    ≡ None = sym c.first.ensures.value
    ∙ ap (λ o. Rattle.std.specs.Option.option_copied o) c.in-None.is in
    let none : walk_setting board
    ≡ None = ap (λ (o : Option (List Ctl)). option_map (without_switching board) o)
    (sym c.requires)
    ∙ ap (λ (o : Option (List Ctl)). option_map (without_switching board) o) first in
    record {
      settings = c.new.ensures.items ∙ sym (ap (λ (o : Option (List Ctl)). option_to_list o) none);
      plannable = subst (λ (l : List (List Ctl)). ArePlannable board l) (sym c.new.ensures.items) (nothing_plannable board);
    }

pub returns-in_ok-without_switching-in-Some-clause-plannable : goal.returns-in_ok-without_switching-in-Some-clause-plannable
returns-in_ok-without_switching-in-Some-clause-plannable c =
    let board = c.args.board.now in
    let first : slice_get c.args.passes.now 0
    ≡ Some c.in-Some.pass.now = sym c.first.ensures.value
    ∙ ap (λ o. Rattle.std.specs.Option.option_copied o) c.in-Some.is in
    let is : walk_setting board ≡ Some c.in_ok-without_switching-in-Some.field-0 =
    ap (λ (o : Option (List Ctl)). option_map (without_switching board) o) (sym c.requires)
    ∙ ap (λ (o : Option (List Ctl)). option_map (without_switching board) o) first
    ∙ ap (λ (s : List Ctl). Some s) (sym c.in_ok-without_switching-in-Some.ensures) in
    only_plannable _ c.only.result board _ c.only.ensures
    (setting_plannable board _ is (c.passes_kept.ensures board c.raw-rules.ensures.rules).kept
    (c.useful_planned.ensures board c.raw-rules.ensures.rules))
