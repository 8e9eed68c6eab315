use Rattle.std.proofs.Common.{subst, ◌∙◌}
use Rattle.std.specs.Prelude.{IfOk}
use Rattle.board_defs.specs.declared.board.RawBoard.{RawBoard}
use Rattle.board_defs.specs.BoardRules.{IsBoard}
use Rattle.diagnoser.specs.Diagnosis.{AreExplaining}
use Rattle.diagnoser.proofs.FaultLemmas.{all_found, all_named}
use Rattle.diagnoser.proofs.diagnosis.explaining.Goals as goal
use Rattle.diagnoser.proofs.diagnosis.explaining.Goals.{After-faults}

rules_of : (g : _) (c : After-faults g) → IsBoard c.args.search.now.logged.test.board
rules_of g c =
    subst (λ (b : RawBoard). IsBoard b) (rw (c.logged.ensures ∙ c.compared.ensures) at c.board.ensures) c.raw-rules.ensures.rules

found : (g : _) (c : After-faults g)
    → IfOk c.faults.result
    (λ faults. AreExplaining c.args.search.now.logged.test.board c.args.search.now.logged.log faults.items)
found g c =
    let search = c.args.search.now in
    all_found search.logged.test.board (rules_of g c) search.logged.test.plan search.universe
    search.logged.log search.suspects c.suspects-suspects.ensures.suspects
    c.suspects_suffice.ensures (λ v. v.items) c.faults.result c.faults.ensures

pub returns-clause-faults : goal.returns-clause-faults
returns-clause-faults g c = found g (goal.at.returns-clause-faults g c).After-faults

pub returns-clause-named : goal.returns-clause-named
returns-clause-named g c =
    all_named c.args.search.now.logged.test.board
    (rules_of g (goal.at.returns-clause-named g c).After-faults)
    c.args.search.now.logged.log (λ v. v.items) c.faults.result
    (found g (goal.at.returns-clause-named g c).After-faults)
