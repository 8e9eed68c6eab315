use Rattle.std.proofs.Common.{refl, sym, subst, arith}
use Rattle.fault_sim.specs.Fits.{ShowsOwnIn}
use Rattle.fault_sim.specs.Planned.{PassOfLog}
use Rattle.fault_sim.proofs.PassLemmas.{passes_more}
use Rattle.fault_sim.proofs.board_test.LoggedTest.shows_own.Goals as goal

pub returns-then-not-shows_own : goal.returns-then-not-shows_own
returns-then-not-shows_own c =
    let shows = λ (p : PassOfLog). ShowsOwnIn p.logged.test.board p.logged.test.plan c.args.fault p.logged.log p.number in (
      λ bad. cc bad,
      λ shown. c.if-not-shows_own.ensures.1
          (subst shows (sym c.pass-pass.ensures)
          (shown c.loop-x.x (omega (arith, c.loop-x-test.true, c.pass_count-x-end.ensures)))),
    )

pub loop-x-preserved : goal.loop-x-preserved
loop-x-preserved c =
    let shows = λ (p : PassOfLog). ShowsOwnIn p.logged.test.board p.logged.test.plan c.args.fault p.logged.log p.number in
    let log = c.args.self.now in
    passes_more (λ k. ShowsOwnIn log.test.board log.test.plan c.args.fault log.log k) c.loop-x.x
    c.loop-x.invariant (subst shows c.pass-pass.ensures (c.if-not-shows_own.ensures.0 refl))
