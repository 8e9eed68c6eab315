use Rattle.std.proofs.Common.{◌≡◌, ◌++◌, drop}
use Rattle.series_parts.specs.inner.Edges.{link_edges}
use Rattle.series_parts.proofs.edges.push_link_edges.Given as goal

-- The current edges, followed by the edges of the remaining lines, are the edges before the call,
-- followed by the edges of all lines.
abbrev pub invariant-loop-line : goal.invariant-loop-line
invariant-loop-line l = l.fn.edges.items ++ link_edges l.pins l.lines ≡ l.edges.items ++ link_edges l.pins (drop l.line-index l.lines)
