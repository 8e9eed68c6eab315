use Rattle.std.proofs.Common.{subst}
use Rattle.std.proofs.lemmas.Bool.{both_ways, not-true}
use Rattle.board_defs.specs.declared.board.RawBoard.{RawBoard}
use Rattle.board_defs.specs.BoardRules.{IsBoard}
use Rattle.board_defs.specs.Passes.{passes_of}
use Rattle.tap_defs.specs.board.TestRows.{code_width, observed_count}
use Rattle.fault_sim.specs.Planned.{net_in_pass}
use Rattle.fault_sim.proofs.MatchLemmas.{explains_is}
use Rattle.fault_sim.proofs.TellingLemmas.{agrees_there}
use Rattle.fault_sim.proofs.telling.TellingNet.rules_out.Goals as goal

pub returns-in-Some : goal.returns-in-Some
returns-in-Some c =
    let pass = c.self.inside.pass in
    let board = pass.logged.test.board in
    let plan = pass.logged.test.plan in
    let log = pass.logged.log in
    let rules = subst (λ (b : RawBoard). IsBoard b) c.board.ensures c.raw-rules.ensures.rules in
    let short = rw (← c.self.view_is) at c.in-Some.ensures in
    let kept = (c.passes_kept.ensures board rules).kept in
    let width = code_width (observed_count board (passes_of board)) in
    rw (← c.self.view_is)
    (λ hidden single explains.
    let law = explains_is board rules plan c.laws.ensures.plan c.laws.ensures.passes log
    c.laws.ensures.log.rows c.laws.ensures.log.bits
    (c.rows_compared.ensures.passes board (passes_of board) width rules kept)
    (c.rows_compared.ensures.shape board (passes_of board) width log rules kept) c.args.fault single
    (c.singles_respond.ensures.own board c.args.fault log rules single) in
    both_ways c.agree_with.result (not-true c.agree_with.result hidden)
    (c.agree_with.ensures.1
    (agrees_there (net_in_pass pass c.self.inside.net) c.args.fault c.self.inside.code
    c.self.inside.fed c.self.inside.shown c.in-Some.word c.self.invariant short single
    c.laws.ensures.pass (law.0 explains))))
