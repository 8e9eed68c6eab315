use Rattle.std.proofs.Common.{ℕ, List, ◌∙◌, subst, sym}
use Rattle.std.proofs.lemmas.List.{nil_from_length}
use Rattle.net_classes.specs.Kept.{row_in}
use Rattle.net_facts.specs.Kept.{shared_nets}
use Rattle.net_classes.specs.inner.Closed.{AreClosed}
use Rattle.net_classes.proofs.ClosedRows.{row_free}
use Rattle.net_classes.proofs.pair_rows.add_control.Goals as goal

pub put_row-requires-clause-row : goal.put_row-requires-clause-row
put_row-requires-clause-row c =
    row_free c.args.known.now.board c.args.c (row_in c.args.pairs.now 0) c.requires.useful
    (sym c.shared-shared.ensures
    ∙ nil_from_length c.shared-shared.result.now c.if-shared-eq0.true) c.requires.pairs.covered

pub row_for-requires-clause-closed : goal.row_for-requires-clause-closed
row_for-requires-clause-closed c =
    let board = c.args.known.now.board in
    let P : List ℕ → Type 0 = λ v. AreClosed board v c.in_ok-nets.nets in
    let Q : List ℕ → Type 0 = λ v. AreClosed board (shared_nets board c.args.c) v in
    subst Q (sym c.as_slice.ensures) (subst P c.shared-shared.ensures c.in_ok-nets.ensures.nets)
