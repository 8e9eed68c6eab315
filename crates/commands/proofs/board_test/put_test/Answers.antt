use Rattle.std.proofs.Common.{◌∙◌, subst}
use Rattle.bt_base.specs.Puts.{Puts}
use Rattle.tap_defs.specs.board.BoardScans.{pass_text}
use Rattle.scan_planner.specs.Planned.{PlannedBoard}
use Rattle.command_line.specs.Words.{Text}
use Rattle.commands.proofs.TestLemmas.{plan_text}
use Rattle.commands.proofs.board_test.put_test.Goals as goal

pub write_test-requires : goal.write_test-requires
write_test-requires g c =
    rw (c.board_plan.ensures, c.test-test.ensures.test)
    (record {
      kept = rw (c.board.ensures, c.test-test.ensures.test) at (c.in_ok-rows.ensures.kept c.args.planned.now.plan);
      room = rw (c.board.ensures, c.test-test.ensures.test) at c.in_ok-rows.ensures.room;
    })

pub returns : goal.returns
returns g c =
    let planned = c.args.planned.now in
    let plan = rw c.test-test.ensures.test at c.plan-passes.ensures.plan in
    let passes = rw c.test-test.ensures.test at c.plan-passes.ensures.passes in
    let puts : Text
    → Type 0 = λ text. Puts (g.K.Sink.shown c.args.out.now)
    (g.K.Sink.shown c.write_test.new.out) text c.write_test.result in
    c.answer_by.ensures _ _ _
    (subst puts (plan_text planned.board planned.plan plan passes)
    (subst (λ (p : PlannedBoard). puts (pass_text p.board p.plan.passes p.plan.width))
    (c.board_plan.ensures ∙ c.test-test.ensures.test) c.write_test.ensures))
