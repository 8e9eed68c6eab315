use Rattle.std.proofs.lemmas.List.{get_or_default}
use Rattle.net_classes.proofs.PutRows.{each_useful, listed, rows_more}
use Rattle.net_facts.proofs.UsefulLemmas.{useful_cells}
use Rattle.net_classes.proofs.pair_rows.pair_rows.Goals as goal

pub add_control-requires-clause-cell : goal.add_control-requires-clause-cell
add_control-requires-clause-cell c =
    useful_cells c.args.known.now.board c.useful-c-items.result.now c.useful-c-items.ensures
    c.loop-c.c-index _ c.loop-c-test.true

pub add_control-requires-clause-useful : goal.add_control-requires-clause-useful
add_control-requires-clause-useful c =
    each_useful c.args.known.now.board c.useful-c-items.result.now c.loop-c.c-index _
    c.useful-c-items.ensures c.loop-c-test.true

pub loop-c-preserved : goal.loop-c-preserved
loop-c-preserved c = record {
  closed = c.in_ok-add_control.ensures.closed;
  covered = c.in_ok-add_control.ensures.pairs.covered;
  rows =
      λ d has. rows_more c.args.known.now.board c.loop-c.pairs c.add_control.new.pairs
      c.useful-c-items.result.now c.loop-c.c-index _ d c.loop-c-test.true
      (get_or_default c.useful-c-items.result.now c.loop-c.c-index _ _ c.loop-c-test.true)
      c.in_ok-add_control.ensures.pairs c.loop-c.invariant.rows has;
}

pub returns : goal.returns
returns c =
    let board = c.args.known.now.board in
    let said = (c.passes_kept.ensures board c.laws.ensures.rules).said in
    let decides = c.terms_decided.ensures board c.laws.ensures.rules in
    record {
      covered = c.loop-c.invariant.covered.covered;
      each =
          λ d cell useful. (c.loop-c.invariant.rows d
          (listed board c.useful-c-items.result.now c.loop-c.c-index d c.useful-c-items.ensures
          c.loop-c-test.false ((said.useful d).1 ((decides.useful d).0 useful)))).bits;
    }
