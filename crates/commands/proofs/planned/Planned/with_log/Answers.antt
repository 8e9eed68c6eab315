use Rattle.std.proofs.Common.{◌∙◌, ℕ, ap, subst, sym}
use Rattle.board_defs.specs.Pins.{data_bits}
use Rattle.response_log.specs.LogRows.{HasSize}
use Rattle.fault_sim.specs.Planned.{PlannedBoard, logged_board}
use Rattle.commands.proofs.planned.Planned.with_log.Goals as goal

pub with_log-requires : goal.with_log-requires
with_log-requires c =
    rw c.test.ensures.test
    (subst (λ (n : ℕ). HasSize n (data_bits c.args.self.now.board) c.args.log.now)
    (sym c.test.ensures.rows) c.requires)

pub returns : goal.returns
returns c = c.with_log.ensures ∙ ap (λ (t : PlannedBoard). logged_board t c.args.log.now) c.test.ensures.test
