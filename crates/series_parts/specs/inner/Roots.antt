-- Classes of points as trees. A class is a set of points that edges join. Each point has a parent.
-- The path along the parents leads from a point to the root of its class, which is its own parent.
use Rattle.std.specs.Prelude.{◌≡◌, ℕ, ◌<◌, ◌≤◌, ◌==◌, ◌||◌, min, List, length, Some, slice_get, slice_index, if◌then◌else◌}
use Rattle.series_parts.specs.inner.Labels.{Edges, Joined}

-- No parent is higher than its point. `label` maps each point to its label, which is not higher
-- than the point, and is equal to the label of the point's parent. A point that is its own parent
-- is its own label.
pub record IsLabelling (parents : List ℕ) (label : ℕ → ℕ) : Type 0 where
  pub low : (x : ℕ) → x < length parents → slice_index parents x ≤ x
  pub least : (x : ℕ) → label x ≤ x
  pub parent : (x : ℕ) → x < length parents → label (slice_index parents x) ≡ label x
  pub root : (x : ℕ) → x < length parents → slice_index parents x ≡ x → label x ≡ x

-- the label `v` after the labels `a` and `b` are both replaced by the lower of them
abbrev pub lowered : ℕ → ℕ → ℕ → ℕ
lowered a b v = if (v == a) || (v == b) then min a b else v

-- the labels after an edge between `a` and `b` is added
abbrev pub merged : (ℕ → ℕ) → ℕ → ℕ → ℕ → ℕ
merged label a b x = lowered (label a) (label b) (label x)

-- `label` is a labelling of these parents, and it reflects the first `n` edges: each point is
-- joined with its label, and the two ends of each of these edges have the same label
pub record Reflects (edges : Edges) (n : ℕ) (parents : List ℕ) (label : ℕ → ℕ) : Type 0 where
  pub labelling : IsLabelling parents label
  pub joined : (x : ℕ) → Joined edges x (label x)
  pub ends : (k a b : ℕ) → k < n → slice_get edges k ≡ Some (a, b) → label a ≡ label b
