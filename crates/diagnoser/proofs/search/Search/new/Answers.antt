use Rattle.std.proofs.Common.{◌∙◌, ap}
use Rattle.fault_sim.specs.Planned.{PlannedBoard, logged_board}
use Rattle.diagnoser.proofs.search.Search.new.Goals as goal

pub with_log-requires : goal.with_log-requires
with_log-requires c = rw c.test.ensures c.requires

pub suspects-requires : goal.suspects-requires
suspects-requires c =
    rw (c.in_ok-compared.ensures ∙ c.with_log.ensures ∙ ap (λ (t : PlannedBoard). logged_board t c.args.log.now) c.test.ensures)
    c.universe-universe.ensures

pub invariant_of-result : goal.invariant_of-result
invariant_of-result c =
    record {
      telling_is = c.telling_net-telling.ensures;
      universe_is =
          rw
          (c.in_ok-compared.ensures
          ∙ c.with_log.ensures
          ∙ ap (λ (t : PlannedBoard). logged_board t c.args.log.now) c.test.ensures)
          c.universe-universe.ensures;
      suspects_are = c.in_ok-suspects.ensures;
    }

pub returns : goal.returns
returns c = c.in_ok-compared.ensures ∙ c.with_log.ensures ∙ ap (λ (t : PlannedBoard). logged_board t c.args.log.now) c.test.ensures
