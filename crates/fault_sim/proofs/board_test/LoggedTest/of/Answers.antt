use Rattle.std.proofs.Common.{◌∙◌, ap, sym, subst}
use Rattle.fault_sim.specs.Kept.{IsLogOfTest}
use Rattle.fault_sim.specs.Planned.{PlannedBoard, logged_board}
use Rattle.fault_sim.proofs.board_test.LoggedTest.of.Goals as goal

pub with_log-requires : goal.with_log-requires
with_log-requires c = subst (λ (t : PlannedBoard). IsLogOfTest t c.args.log.now) (sym c.of.ensures) c.requires.log

pub returns : goal.returns
returns c = c.with_log.ensures ∙ ap (λ (t : PlannedBoard). logged_board t c.args.log.now) c.of.ensures
