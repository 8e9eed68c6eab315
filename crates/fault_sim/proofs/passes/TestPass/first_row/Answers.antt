use Rattle.std.proofs.Common.{◌∙◌, ap, arith}
use Rattle.std.proofs.lemmas.Nat.{mul-le}
use Rattle.plan_tables.specs.declared.tables.PlanTables.{PlanTables}
use Rattle.fault_sim.specs.Planned.{PlannedPass}
use Rattle.fault_sim.proofs.passes.TestPass.first_row.Goals as goal

pub returns : goal.returns
returns c =
    let number = c.number.ensures.value ∙ ap (λ (p : PlannedPass). p.number) c.self.view_is in
    let width = c.width.ensures.width ∙ ap (λ (p : PlanTables). p.width) c.plan.ensures.value in
    record {
      value = cc (c.from.ensures, c.from-2.ensures, number, width);
      pass = rw (← c.self.view_is) (rw c.number.ensures.value at c.number.ensures.within);
      few =
          omega (
            arith,
            mul-le c.from.result c.from-2.result 4294967295 14 (omega (arith, c.from.ensures))
                (omega (arith, c.from-2.ensures, c.width.ensures.few)),
          );
    }
