use Rattle.std.proofs.Common.{◌∙◌, ◌++◌, ◌∷◌, [], List, ap}
use Rattle.board_defs.specs.declared.board.Ctl.{Ctl}
use Rattle.driver_passes.proofs.ProgressLemmas.{held_more}
use Rattle.driver_passes.proofs.RowLemmas.{rows_more, shown_as}
use Rattle.driver_passes.proofs.UsefulLemmas.{useful_more}
use Rattle.driver_passes.proofs.drivers.Progress.push.Goals as goal

pub returns-clause-progress : goal.returns-clause-progress
returns-clause-progress c =
    let board = c.args.draft.now.board in
    let before = c.args.self.now in
    let pass : List Ctl = c.in_ok-setting.field-0 in
    let passes = c.push.new.self.items in
    let pushed = c.in_ok-push.ensures.items in
    record {
      held =
          held_more board before.passes.items passes c.args.draft.now.setting before.held
          c.add_places.new.places c.requires.held c.add_places.ensures.room
          c.add_places.ensures.places
          (pushed
          ∙ ap (λ (v : List Ctl). before.passes.items ++ v ∷ []) c.in_ok-setting.ensures.value);
      useful = useful_more board before.passes.items passes pass c.requires.useful c.in_ok-setting.ensures.useful pushed;
      rows =
          rows_more board before.passes.items passes before.rows.items c.push-2.new.self.items pass
          c.in_ok-shown.field-0 c.requires.rows
          (shown_as board c.args.draft.now.setting pass c.in_ok-shown.field-0
          c.in_ok-setting.ensures.value c.in_ok-shown.ensures) pushed c.in_ok-push-2.ensures.items;
    }
