use Rattle.std.proofs.Common.{◌≡◌, not, take}
use Rattle.std.specs.Prelude.{filter}
use Rattle.net_classes.specs.inner.PairRows.{owns_at}
use Rattle.net_classes.proofs.pair_rows.failing_nets.Given as goal

abbrev pub invariant-loop-net : goal.invariant-loop-net
invariant-loop-net l = l.failing ≡ filter (λ n. not (owns_at l.known.board l.c n)) (take l.net-index l.closed)
