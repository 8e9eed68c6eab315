use Rattle.std.proofs.Common.{ℕ, List, Option, ap, ◌∙◌}
use Rattle.std.specs.Prelude.{length}
use Rattle.std.specs.Option.{option_to_list}
use Rattle.board_defs.specs.declared.board.Ctl.{Ctl}
use Rattle.walk_test.specs.WalkTest.{walk_setting}
use Rattle.walk_test.specs.inner.Tables.{nets_by, cells_in_walk}
use Rattle.walk_test.proofs.FillLemmas.{first_setting}
use Rattle.walk_test.proofs.nets.walk_parts.Goals as goal

pub returns-clause-nets : goal.returns-clause-nets
returns-clause-nets c =
    let board = c.args.board.now in
    let settings = c.deref.ensures.value ∙ c.in_ok-settings.ensures.settings ∙ ap (λ b. option_to_list (walk_setting b)) c.of.ensures in
    c.in_ok-nets.ensures
    ∙ ap (λ (o : Option (List Ctl)). nets_by c.args.pins.now o (length board.nets))
    (first_setting c.deref.result.now (walk_setting board) settings)

pub returns-clause-cells : goal.returns-clause-cells
returns-clause-cells c =
    let board = c.args.board.now in
    let settings = c.deref-2.ensures.value ∙ c.in_ok-settings.ensures.settings ∙ ap (λ b. option_to_list (walk_setting b)) c.of.ensures in
    c.in_ok-cells.ensures
    ∙ ap (λ (o : Option (List Ctl)). cells_in_walk c.args.pins.now o c.as_slice.result.now)
    (first_setting c.deref-2.result.now (walk_setting board) settings)
    ∙ ap (λ (l : List ℕ). cells_in_walk c.args.pins.now (walk_setting board) l) c.as_slice.ensures
