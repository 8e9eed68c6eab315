use Rattle.std.proofs.Common.{◌≡◌, ◌-◌, ◌≤◌, ◌<◌, ℕ, false, length}
use Rattle.driver_passes.specs.inner.Pairs.{is_wanted}
use Rattle.driver_passes.proofs.paired.next_wanted.Given as goal

abbrev pub invariant-loop-net : goal.invariant-loop-net
invariant-loop-net l = record {
  further : l.from ≤ l.net;
  passed : (n : ℕ) → l.from ≤ n → n < l.net → is_wanted l.board l.left l.a n ≡ false;
}

abbrev pub decreases-loop-net : goal.decreases-loop-net
decreases-loop-net l = length l.board.nets - l.net
