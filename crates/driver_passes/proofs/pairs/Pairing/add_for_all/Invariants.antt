use Rattle.std.proofs.Common.{◌≡◌, ◌+◌, ◌*◌, ◌≤◌, length, fold}
use Rattle.board_defs.specs.Limits.{most_nets, most_pins}
use Rattle.board_defs.specs.Passes.{drivers_by_net, pair_passes, useful_controls}
use Rattle.driver_passes.specs.inner.Pairs.{AreDone, ArePairing, observing}
use Rattle.driver_passes.proofs.PairLemmas.{later_pairs}
use Rattle.driver_passes.proofs.pairs.Pairing.add_for_all.Given as goal

abbrev pub invariant-loop-a : goal.invariant-loop-a
invariant-loop-a l = record {
  pairing : ArePairing l.board l.self;
  done : AreDone l.board l.self.passes.items l.a;
  few : length l.self.passes.items ≤ most_pins + most_nets * l.a;
  rest : fold (observing l.board) l.self.passes.items (later_pairs l.board l.a)
      ≡ pair_passes l.board (useful_controls l.board) l.initial.self.passes.items
      (drivers_by_net l.board);
}
