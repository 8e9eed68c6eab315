use Rattle.std.proofs.Common.{◌∙◌, List, ap, sym}
use Rattle.board_defs.specs.declared.board.Ctl.{Ctl}
use Rattle.driver_passes.specs.inner.Shown.{words_at}
use Rattle.driver_passes.proofs.RowLemmas.{always_more, left_more, rows_more, shown_as}
use Rattle.driver_passes.proofs.UsefulLemmas.{useful_more}
use Rattle.driver_passes.proofs.EnabledLemmas.{enabled_more}
use Rattle.driver_passes.proofs.pairs.Pairing.push.Goals as goal

pub returns-clause-looks : goal.returns-clause-looks
returns-clause-looks c =
    let board = c.args.draft.now.board in
    let before = c.args.self.now in
    let are = c.requires.are in
    let pass : List Ctl = c.in_ok-pass.pass in
    let row = c.in_ok-row.row in
    let passes = c.push.new.self.items in
    let pushed = c.in_ok-push.ensures.items in
    let shown = shown_as board c.args.draft.now.setting pass row c.in_ok-pass.ensures.value c.in_ok-row.ensures in
    record {
      are = record {
        rows =
            rows_more board before.passes.items passes before.rows.items c.push-2.new.self.items
            pass row are.rows shown pushed c.in_ok-push-2.ensures.items;
        column = c.in_ok-add.ensures before.rows.items are.column ∙ ap (words_at c.add.new.self.number) (sym c.in_ok-push-2.ensures.items);
        tested = enabled_more board before.passes.items passes pass are.tested pushed;
        useful = useful_more board before.passes.items passes pass are.useful c.in_ok-pass.ensures.useful pushed;
        left_length = c.take_shown.ensures.room ∙ are.left_length;
        always =
            always_more board before.passes.items passes pass row before.always c.keep_only.new.self
            are.always shown pushed c.keep_only.ensures.room c.keep_only.ensures.numbers;
      };
      net = c.requires.net;
      left =
          left_more board before.passes.items passes pass row before.left c.take_shown.new.left
          c.args.a c.requires.left shown c.requires.net pushed c.take_shown.ensures.nets;
    }
