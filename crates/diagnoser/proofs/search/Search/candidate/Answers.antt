use Rattle.std.proofs.Common.{List, sym, subst, ◌∙◌}
use Rattle.board_defs.specs.declared.board.Ctl.{Ctl}
use Rattle.board_defs.specs.declared.board.RawBoard.{RawBoard}
use Rattle.board_defs.specs.BoardRules.{IsBoard}
use Rattle.board_defs.specs.Passes.{ArePasses}
use Rattle.diagnoser.proofs.FoundLemmas.{candidate_single, place_has}
use Rattle.diagnoser.proofs.search.Search.candidate.Goals as goal

pub returns-clause-place : goal.returns-clause-place
returns-clause-place c =
    let board = c.args.self.now.logged.test.board in
    let is = c.logged-logged.ensures ∙ c.compared.ensures in
    let planned = rw is at c.plan-plan.ensures in
    let rules = subst (λ (b : RawBoard). IsBoard b) (rw is at c.board.ensures) c.raw-rules.ensures.rules in
    let kept = subst (λ (l : List (List Ctl)). ArePasses board l) (sym planned.passes) (c.passes_kept.ensures board rules).kept in
    place_has board rules c.args.self.now.logged.test.plan planned.plan kept
    c.universe.result.now c.universe.ensures c.args.place c.candidate.result c.candidate.ensures

pub returns-clause-single : goal.returns-clause-single
returns-clause-single c =
    let board = c.args.self.now.logged.test.board in
    let is = c.logged-logged.ensures ∙ c.compared.ensures in
    let planned = rw is at c.plan-plan.ensures in
    let rules = subst (λ (b : RawBoard). IsBoard b) (rw is at c.board.ensures) c.raw-rules.ensures.rules in
    let kept = subst (λ (l : List (List Ctl)). ArePasses board l) (sym planned.passes) (c.passes_kept.ensures board rules).kept in
    candidate_single board rules c.args.self.now.logged.test.plan planned.plan kept
    c.universe.result.now c.universe.ensures c.args.place c.candidate.result c.candidate.ensures
