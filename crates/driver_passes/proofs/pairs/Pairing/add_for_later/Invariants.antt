use Rattle.std.proofs.Common.{◌≡◌, ◌+◌, ◌-◌, ◌≤◌, ◌<◌, length, fold}
use Rattle.driver_passes.specs.inner.Pairs.{IsDoneTo, LooksAt, StaysDone, observing, pairs_from}
use Rattle.driver_passes.proofs.pairs.Pairing.add_for_later.Given as goal

abbrev pub invariant-loop-b : goal.invariant-loop-b
invariant-loop-b l = record {
  looks : LooksAt l.board l.self l.a;
  later : l.a < l.b;
  within : l.b ≤ length l.board.nets;
  kept : StaysDone l.board l.initial.self.passes.items l.self.passes.items;
  done : IsDoneTo l.board l.self.passes.items l.a l.b;
  few : length l.self.passes.items ≤ length l.initial.self.passes.items + l.b;
  rest : fold (observing l.board) l.self.passes.items (pairs_from l.board l.a l.b)
      ≡ fold (observing l.board) l.initial.self.passes.items (pairs_from l.board l.a (l.a + 1));
}

abbrev pub decreases-loop-b : goal.decreases-loop-b
decreases-loop-b l = length l.board.nets - l.b
