use Rattle.std.proofs.Common.{◌≡◌, ◌++◌, drop}
use Rattle.series_parts.specs.inner.Edges.{name_edges}
use Rattle.series_parts.proofs.edges.name_edges.Given as goal

-- The edges made so far, followed by the edges of the remaining names, are the edges of all names.
abbrev pub invariant-loop-place : goal.invariant-loop-place
invariant-loop-place l = name_edges l.names 0 l.names ≡ l.edges.items ++ name_edges l.names l.place (drop l.place l.names)
