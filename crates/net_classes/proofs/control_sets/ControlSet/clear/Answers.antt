use Rattle.std.proofs.Common.{◌≡◌, length, false, arith, ◌∙◌, ap}
use Rattle.std.proofs.lemmas.List.{with_items_is}
use Rattle.net_classes.specs.inner.ControlSets.{put_all}
use Rattle.net_facts.specs.Cells.{table}
use Rattle.net_classes.proofs.ControlSetLemmas.{cleared}
use Rattle.net_classes.proofs.control_sets.ControlSet.clear.Goals as goal

pub returns : goal.returns
returns c board passes is =
    let size : length c.unmark.new.marks
    ≡ c.args.self.now.marks.len = grind
    (arith, c.unmark.auto.marks, c.deref_mut.ensures.len, c.deref_mut.ensures.value) in
    cleared board passes c.args.self.now _ is
    (ap table (with_items_is c.args.self.now.marks c.unmark.new.marks size) ∙ c.unmark.ensures
    ∙ ap (λ rows. put_all false (table rows) c.deref.result.now) c.deref_mut.ensures.value
    ∙ ap (put_all false (table c.args.self.now.marks.items)) c.deref.ensures.value)
