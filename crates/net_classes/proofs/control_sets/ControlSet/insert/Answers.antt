use Rattle.std.proofs.Common.{◌≡◌, length, true, arith, sym, ◌∙◌, ap}
use Rattle.std.proofs.lemmas.List.{with_items_is}
use Rattle.net_facts.specs.Cells.{put, table, at_control}
use Rattle.net_classes.proofs.ControlSetLemmas.{added, had}
use Rattle.net_classes.proofs.control_sets.ControlSet.insert.Goals as goal

pub returns-in_ok-push : goal.returns-in_ok-push
returns-in_ok-push c board passes is =
    let size : length c.put_at.new.rows
    ≡ c.args.self.now.marks.len = grind
    (arith, c.put_at.auto.rows, c.deref_mut.ensures.len, c.deref_mut.ensures.value) in
    added board passes c.args.self.now _ c.args.c is
    (ap table (with_items_is c.args.self.now.marks c.put_at.new.rows size) ∙ c.put_at.ensures
    ∙ ap (λ rows. at_control c.args.c (put true) (table rows)) c.deref_mut.ensures.value)
    c.in_ok-push.ensures.items

pub returns-else-not-has : goal.returns-else-not-has
returns-else-not-has c board passes is = had board passes c.args.self.now c.args.c is (sym c.if-not-has.ensures)
