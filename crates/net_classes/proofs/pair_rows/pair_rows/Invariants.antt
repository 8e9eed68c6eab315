use Rattle.std.proofs.Common.{take}
use Rattle.board_defs.specs.declared.board.Ctl.{Ctl}
use Rattle.board_defs.proofs.Members.{Has}
use Rattle.net_classes.specs.inner.Closed.{AreClosedNets}
use Rattle.net_classes.specs.inner.PairRows.{HasCovered, IsRowOf}
use Rattle.net_classes.proofs.pair_rows.pair_rows.Given as goal

abbrev pub invariant-loop-c : goal.invariant-loop-c
invariant-loop-c l = record {
  closed : AreClosedNets l.known.board l.closed;
  covered : HasCovered l.known.board l.pairs;
  rows : (d : Ctl) → Has (take l.c-index l.c-items) d → IsRowOf l.known.board l.pairs d;
}
