use Rattle.std.proofs.Common.{List, refl, sym, ◌∙◌, ap, subst}
use Rattle.board_defs.specs.declared.board.RawBoard.{RawBoard}
use Rattle.board_defs.specs.BoardRules.{IsBoard}
use Rattle.net_pins.specs.declared.nets.ReaderCell.{ReaderCell}
use Rattle.plan_tables.specs.declared.tables.PlanTables.{PlanTables}
use Rattle.fault_sim.specs.Effects.{plan_readers}
use Rattle.fault_sim.specs.inner.Marks.{are_marked}
use Rattle.fault_sim.proofs.MarkLemmas.{unmarked_shows}
use Rattle.fault_sim.proofs.board_test.LoggedTest.shows_expected.Goals as goal

pub returns-then-not-are_marked : goal.returns-then-not-are_marked
returns-then-not-are_marked c =
    let test = c.args.self.now.test in
    let rules = subst (λ (b : RawBoard). IsBoard b) c.board.ensures c.raw-rules.ensures.rules in
    let readers = c.readers.ensures ∙ ap (λ (p : PlanTables). plan_readers p c.args.n) c.plan.ensures.value in
    let none = sym (ap (λ (l : List ReaderCell). are_marked c.args.marks.now l) readers) ∙ sym c.if-not-are_marked.ensures in (
      λ e. unmarked_shows test.board rules test.plan c.plan.ensures.plan c.args.self.now.log
          c.args.marks.now c.requires c.args.n none,
      λ shown. refl,
    )
