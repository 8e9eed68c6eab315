use Rattle.std.proofs.Common.{refl, sym, subst, arith}
use Rattle.fault_sim.specs.Fits.{Shows}
use Rattle.fault_sim.specs.Planned.{PassOfLog}
use Rattle.fault_sim.proofs.PassLemmas.{passes_more}
use Rattle.fault_sim.proofs.board_test.LoggedTest.shows_on.Goals as goal

pub returns-then-not-shows : goal.returns-then-not-shows
returns-then-not-shows c =
    let shows = λ (p : PassOfLog). Shows p.logged.test.board p.logged.test.plan c.args.fault p.logged.log p.number c.args.net in (
      λ bad. cc bad,
      λ shown. c.if-not-shows.ensures.1
          (subst shows (sym c.pass-pass.ensures)
          (shown c.loop-x.x (omega (arith, c.loop-x-test.true, c.pass_count-x-end.ensures)))),
    )

pub loop-x-preserved : goal.loop-x-preserved
loop-x-preserved c =
    let shows = λ (p : PassOfLog). Shows p.logged.test.board p.logged.test.plan c.args.fault p.logged.log p.number c.args.net in
    let log = c.args.self.now in
    passes_more (λ k. Shows log.test.board log.test.plan c.args.fault log.log k c.args.net)
    c.loop-x.x c.loop-x.invariant
    (subst shows c.pass-pass.ensures (c.if-not-shows.ensures.0 refl))
