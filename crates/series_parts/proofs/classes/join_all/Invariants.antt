use Rattle.std.proofs.Common.{◌≡◌, ℕ, vec_len}
use Rattle.series_parts.specs.inner.Roots.{Reflects}
use Rattle.series_parts.proofs.RootLemmas.{AreLow}
use Rattle.series_parts.proofs.classes.join_all.Given as goal

abbrev pub invariant-loop-a : goal.invariant-loop-a
invariant-loop-a l = record {
  count : vec_len l.parents ≡ vec_len l.fn.parents;
  low : AreLow l.parents.items;
  labels : (label : ℕ → ℕ) × Reflects l.edges l.a-index l.parents.items label;
}
