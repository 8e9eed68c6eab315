use Rattle.std.proofs.Common.{◌≡◌, ◌<◌, ◌≤◌, ◌+◌, ◌/◌, ℕ, [], false, length}
use Rattle.board_defs.specs.Passes.{shows}
use Rattle.driver_passes.specs.inner.NumberSets.{is_in}
use Rattle.net_classes.specs.Pairs.{drivers_at}
use Rattle.driver_passes.proofs.tested.steady_nets.Given as goal

abbrev pub invariant-loop-net : goal.invariant-loop-net
invariant-loop-net l = record {
  room : length l.row ≡ length l.board.nets / 64 + 1;
  done : (n : ℕ) → n < l.net → is_in l.row n ≡ shows (drivers_at l.board n) [];
  rest : (n : ℕ) → l.net ≤ n → is_in l.row n ≡ false;
}
