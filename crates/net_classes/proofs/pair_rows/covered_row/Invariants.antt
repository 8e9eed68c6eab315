use Rattle.std.proofs.Common.{◌≡◌, ◌+◌, ◌/◌, ◌&&◌, nat_lt, length}
use Rattle.board_defs.specs.declared.board.Drive.TheVariants.{AlwaysOn}
use Rattle.net_classes.specs.NetRows.{AreRowBits}
use Rattle.net_classes.specs.Pairs.{fits_at}
use Rattle.net_classes.proofs.pair_rows.covered_row.Given as goal

abbrev pub invariant-loop-net : goal.invariant-loop-net
invariant-loop-net l = record {
  size : length l.row ≡ length l.known.board.nets / 64 + 1;
  bits : AreRowBits (λ n. nat_lt n l.net && fits_at l.known.board AlwaysOn n) l.row;
}
