use Rattle.std.proofs.Common.{◌∙◌, ◌<◌, List, ap, sym, subst, arith}
use Rattle.std.specs.Prelude.{All}
use Rattle.board_defs.specs.declared.board.RawBoard.{RawBoard}
use Rattle.board_defs.specs.BoardRules.{IsBoard}
use Rattle.board_defs.specs.Pins.{data_bits}
use Rattle.net_pins.specs.declared.nets.ReaderCell.{ReaderCell}
use Rattle.plan_tables.specs.declared.tables.PlanTables.{PlanTables}
use Rattle.fault_sim.specs.Effects.{plan_readers}
use Rattle.fault_sim.proofs.PassLemmas.{rows_within}
use Rattle.fault_sim.proofs.ShowLemmas.{readers_inside}
use Rattle.fault_sim.proofs.passes.LoggedPass.net_rows.Goals as goal

pub invariant_of-result : goal.invariant_of-result
invariant_of-result c =
    let pass = c.self.inside.pass in
    let test = pass.test in
    let width = c.width.ensures.width ∙ ap (λ (p : PlanTables). p.width) c.plan-plan.ensures.value in
    let rules = subst (λ (b : RawBoard). IsBoard b) c.board.ensures c.raw-rules.ensures.rules in
    let below = readers_inside test.board rules test.plan c.plan-plan.ensures.plan c.args.net in
    let readers = c.readers.ensures ∙ ap (λ (p : PlanTables). plan_readers p c.args.net) c.plan-plan.ensures.value in
    let mine = subst (λ (l : List ReaderCell). All (λ x. x.position < data_bits test.board) l) (sym readers) below in
    record {
      within =
          omega (
            arith,
            c.first_row.ensures.value,
            width,
            rows_within test c.self.inside.log.now pass.number c.self.invariant
                c.first_row.ensures.pass,
          );
      fits = omega (arith, c.first_row.ensures.few, c.width.ensures.few);
      few = omega (arith, c.width.ensures.few);
      at = λ k d less i r within. omega (arith, mine i r within, c.self.invariant.bits k d less);
    }
