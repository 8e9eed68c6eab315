use Rattle.std.proofs.Common.{◌≡◌, ℕ, Bool, not, ◌&&◌, length, take}
use Rattle.net_classes.specs.NetRows.{AreRowBits, stands_in}
use Rattle.net_classes.proofs.pair_rows.row_without.Given as goal

abbrev pub invariant-loop-net : goal.invariant-loop-net
invariant-loop-net l = record {
  size : length l.less ≡ length l.row;
  bits : (passes : ℕ → Bool) → AreRowBits passes l.row → AreRowBits (λ n. passes n && not (stands_in (take l.net-index l.nets) n)) l.less;
}
