use Rattle.std.proofs.Common.{◌≡◌, map, take}
use Rattle.series_parts.specs.inner.Edges.{renamed}
use Rattle.series_parts.specs.Joining.{joined_line}
use Rattle.series_parts.proofs.files.joined_chain.Given as goal

abbrev pub invariant-loop-line : goal.invariant-loop-line
invariant-loop-line l = l.joined.items ≡ map (joined_line (renamed l.names (map (λ n. n.now) l.least))) (take l.line-index l.lines)
