use Rattle.std.proofs.Common.{◌≡◌, ◌<◌, ℕ, vec_len}
use Rattle.series_parts.specs.inner.Roots.{IsLabelling}
use Rattle.series_parts.proofs.RootLemmas.{AreLow}
use Rattle.series_parts.proofs.classes.root.Given as goal

abbrev pub invariant-loop-at : goal.invariant-loop-at
invariant-loop-at l = record {
  count : vec_len l.parents ≡ vec_len l.fn.parents;
  within : l.at < vec_len l.parents;
  low : AreLow l.parents.items;
  labels : (label : ℕ → ℕ) → IsLabelling l.fn.parents.items label → IsLabelling l.parents.items label;
  same : (label : ℕ → ℕ) → IsLabelling l.fn.parents.items label → label l.at ≡ label l.point;
}

abbrev pub decreases-loop-at : goal.decreases-loop-at
decreases-loop-at l = l.at
