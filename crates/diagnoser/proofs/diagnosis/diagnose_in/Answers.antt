use Rattle.std.proofs.Common.{List, sym, subst, ◌∙◌}
use Rattle.board_defs.specs.declared.fault.Single.{Single}
use Rattle.diagnoser.specs.Diagnosis.{AreExplaining}
use Rattle.diagnoser.proofs.diagnosis.diagnose_in.Goals as goal

pub returns-clause-diagnosis : goal.returns-clause-diagnosis
returns-clause-diagnosis g c =
    record {
      passes = rw (c.compared.ensures ∙ c.in_ok-search.ensures) at c.none_differs.ensures;
      list =
          subst (λ (l : List Single). AreExplaining c.args.test.now.board c.args.log.now l) (sym c.of.ensures)
          (rw c.in_ok-search.ensures at c.in_ok-faults.ensures.faults);
    }

pub returns-clause-named : goal.returns-clause-named
returns-clause-named g c = rw c.of.ensures (rw c.in_ok-search.ensures at c.in_ok-faults.ensures.named)
