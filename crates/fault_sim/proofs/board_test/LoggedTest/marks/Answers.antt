use Rattle.std.proofs.Common.{◌≡◌, ◌+◌, ℕ, List, length, sym, subst, arith}
use Rattle.std.proofs.lemmas.List.{with_items_is}
use Rattle.bt_bits.specs.Hex.{digit_count}
use Rattle.board_defs.specs.Pins.{data_bits}
use Rattle.fault_sim.specs.Planned.{PassOfLog}
use Rattle.fault_sim.specs.inner.Marks.{AreMarks, HasScanRoom, MarkRows}
use Rattle.fault_sim.proofs.MarkLemmas.{pass_more}
use Rattle.fault_sim.proofs.board_test.LoggedTest.marks.Goals as goal

pub mark-requires-clause-count : goal.mark-requires-clause-count
mark-requires-clause-count c =
    subst
    (λ (p : PassOfLog). length c.deref_mut.result.now
    ≡ digit_count (data_bits p.logged.test.board)) (sym c.pass-pass.ensures)
    (grind (arith, c.deref_mut.ensures.value, c.loop-x.invariant.long))

pub mark-requires-clause-room : goal.mark-requires-clause-room
mark-requires-clause-room c =
    subst (λ (p : PassOfLog). HasScanRoom p.logged.test.board c.loop-x.spare)
    (sym c.pass-pass.ensures) c.loop-x.invariant.room

pub loop-x-preserved : goal.loop-x-preserved
loop-x-preserved c =
    let board = c.args.self.now.test.board in
    let plan = c.args.self.now.test.plan in
    let log = c.args.self.now.log in
    let new = c.mark.new.marks in
    let size : length new ≡ c.loop-x.marks.len = grind (arith, c.mark.auto.marks, c.deref_mut.ensures.len, c.deref_mut.ensures.value) in
    let whole = sym (with_items_is c.loop-x.marks new size) in
    let was : AreMarks board plan log c.loop-x.x c.deref_mut.result.now = subst
    (λ (v : List ℕ). AreMarks board plan log c.loop-x.x v) (sym c.deref_mut.ensures.value)
    c.loop-x.invariant.marks in
    let long : length new
    ≡ digit_count (data_bits board) = grind
    (arith, c.mark.auto.marks, c.deref_mut.ensures.value, c.loop-x.invariant.long) in
    let rows = subst
    (λ (p : PassOfLog). MarkRows p.logged.test.board p.logged.test.plan p.logged.log p.number
    p.logged.test.plan.width c.deref_mut.result.now new) c.pass-pass.ensures
    c.mark.ensures.marks in
    record {
      long = subst (λ (v : List ℕ). length v ≡ digit_count (data_bits board)) whole long;
      room = subst (λ (p : PassOfLog). HasScanRoom p.logged.test.board c.mark.new.spare) c.pass-pass.ensures c.mark.ensures.room;
      marks =
          subst (λ (v : List ℕ). AreMarks board plan log (c.loop-x.x + 1) v) whole
          (pass_more board plan log c.loop-x.x c.deref_mut.result.now new was rows);
    }
