use Rattle.std.proofs.Common.{◌≡◌, length, arith, ◌∙◌, ap}
use Rattle.std.proofs.lemmas.List.{with_items_is}
use Rattle.net_facts.specs.Cells.{put, table, at_control}
use Rattle.net_classes.proofs.PutRows.{adds_row}
use Rattle.net_classes.proofs.pair_rows.put_row.Goals as goal

pub returns : goal.returns
returns c =
    let size : length c.put_at.new.rows
    ≡ c.args.pairs.now.numbers.len = grind
    (arith, c.put_at.auto.rows, c.deref_mut.ensures.len, c.deref_mut.ensures.value) in
    adds_row c.args.known.now.board c.args.pairs.now _ c.args.c c.in_ok-number.number c.args.row
    c.requires.pairs c.requires.cell c.requires.row c.in_ok-number.ensures.rows
    c.in_ok-number.ensures.number
    (ap table (with_items_is c.args.pairs.now.numbers c.put_at.new.rows size) ∙ c.put_at.ensures
    ∙ ap (λ rows. at_control c.args.c (put c.in_ok-number.number) (table rows))
    c.deref_mut.ensures.value)
