use Rattle.std.proofs.Common.{◌≡◌, [], List, ℕ, not, length, sym, ◌∙◌, ap, subst}
use Rattle.std.proofs.lemmas.List.{get_or_default, nil_from_length}
use Rattle.board_defs.specs.declared.board.Drive.TheVariants.{AlwaysOn}
use Rattle.net_facts.specs.Kept.{shared_nets}
use Rattle.net_classes.specs.Kept.{row_in}
use Rattle.net_classes.specs.NetRows.{AreRowBits}
use Rattle.net_classes.specs.Pairs.{fits_at}
use Rattle.net_classes.specs.inner.PairRows.{owns_at}
use Rattle.net_classes.proofs.ClosedRows.{none_fail, room_for, row_made, useful_safe}
use Rattle.net_classes.proofs.pair_rows.row_for.Goals as goal

pub returns-then-as_slice-eq0 : goal.returns-then-as_slice-eq0
returns-then-as_slice-eq0 c =
    let board = c.args.known.now.board in
    let covered : List ℕ = row_in c.args.pairs.now 0 in
    row_made board c.args.c c.args.closed.now c.as_slice.result.now covered
    (useful_safe board c.args.c c.requires.useful) c.requires.closed
    (c.as_slice.ensures ∙ c.in_ok-failing.ensures)
    (none_fail board c.as_slice.result.now covered (nil_from_length c.as_slice.result.now c.if-as_slice-eq0.true) c.requires.pairs.covered)

pub row_without-requires : goal.row_without-requires
row_without-requires c =
    let board = c.args.known.now.board in
    let pairs = c.args.pairs.now in
    let row : List ℕ = c.index.result.now in
    let first : row ≡ row_in pairs 0 = c.index.ensures ∙ get_or_default pairs.rows.items 0 row [] c.requires.pairs.some in
    room_for board (shared_nets board c.args.c) c.args.closed.now c.as_slice-2.result.now
    (λ n. not (owns_at board c.args.c n)) _ c.requires.closed
    (c.as_slice-2.ensures ∙ c.in_ok-failing.ensures) (ap length first ∙ c.requires.pairs.room)

pub returns : goal.returns
returns c =
    let board = c.args.known.now.board in
    let pairs = c.args.pairs.now in
    let row : List ℕ = c.index.result.now in
    let first : row ≡ row_in pairs 0 = c.index.ensures ∙ get_or_default pairs.rows.items 0 row [] c.requires.pairs.some in
    row_made board c.args.c c.args.closed.now c.as_slice-2.result.now c.in_ok-row.row
    (useful_safe board c.args.c c.requires.useful) c.requires.closed
    (c.as_slice-2.ensures ∙ c.in_ok-failing.ensures)
    (c.in_ok-row.ensures (fits_at board AlwaysOn) (subst (AreRowBits (fits_at board AlwaysOn)) (sym first) c.requires.pairs.covered))
