-- Lemmas about points that edges join, and about labels when one more edge is added.
use Rattle.std.proofs.Common.{◌≡◌, ◌≢◌, ◌⊎◌, ℕ, ◌+◌, ◌<◌, ◌≤◌, min, List, [], ◌∷◌, ◌++◌, Result, length, get_or, Some, refl, sym, ap, ◌∙◌, arith, subst, inl, inr}
use Rattle.std.specs.Prelude.{slice_get, All, IfOk, Ok, Err}
use Rattle.std.proofs.lemmas.Option.{slice_get_within, get_or_from_slice_get}
use Rattle.std.proofs.lemmas.List.{get_or_push, get_or_append_left}
use Rattle.std.proofs.lemmas.Bool.{cases_eq}
use Rattle.series_parts.specs.inner.Labels.{Edges, Joined, AreLabels}
use Rattle.series_parts.specs.inner.Labels.Joined.{here, along, back}
use Rattle.series_parts.specs.inner.Roots.{IsLabelling, Reflects, lowered, merged}

pub joined_trans : (edges : Edges) (a b c : ℕ) → Joined edges a b → Joined edges b c → Joined edges a c
joined_trans edges a b c here q = q
joined_trans edges a b c (along {b = d} k e p) q = along k e (joined_trans edges d b c p q)
joined_trans edges a b c (back {b = d} k e p) q = back k e (joined_trans edges d b c p q)

pub joined_sym : (edges : Edges) (a b : ℕ) → Joined edges a b → Joined edges b a
joined_sym edges a b here = here
joined_sym edges a b (along {b = d} k e p) = joined_trans edges b d a (joined_sym edges d b p) (back k e here)
joined_sym edges a b (back {b = d} k e p) = joined_trans edges b d a (joined_sym edges d b p) (along k e here)

lowered_at : (a b v : ℕ) → (v ≡ a) ⊎ (v ≡ b) → lowered a b v ≡ min a b
lowered_at a b v (inl e) = grind arith
lowered_at a b v (inr e) = grind arith

lowered_off : (a b v : ℕ) → v ≢ a → v ≢ b → lowered a b v ≡ v
lowered_off a b v na nb = grind arith

min_is : (a b : ℕ) → (min a b ≡ a) ⊎ (min a b ≡ a → ⊥) → (min a b ≡ a) ⊎ (min a b ≡ b)
min_is a b (inl e) = inl e
min_is a b (inr ne) = inr (omega arith)

joined_min : (edges : Edges) (x a b : ℕ) → Joined edges x a → Joined edges x b → (min a b ≡ a) ⊎ (min a b ≡ b) → Joined edges x (min a b)
joined_min edges x a b p q (inl e) = subst (λ (y : ℕ). Joined edges x y) (sym e) p
joined_min edges x a b p q (inr e) = subst (λ (y : ℕ). Joined edges x y) (sym e) q

-- if edges join the labels `a` and `b`, and `x` is joined with its label `v`, then `x` is joined
-- with its new label after the labels `a` and `b` are both replaced by the lower of them
lowered_joined : (edges : Edges) (x a b v : ℕ) → Joined edges x v → Joined edges a b
    → (v ≡ a) ⊎ (v ≡ a → ⊥) → (v ≡ b) ⊎ (v ≡ b → ⊥) → Joined edges x (lowered a b v)
lowered_joined edges x a b v p edge (inl e) other =
    let first : Joined edges x a = subst (λ (y : ℕ). Joined edges x y) e p in
    subst (λ (y : ℕ). Joined edges x y) (sym (lowered_at a b v (inl e)))
    (joined_min edges x a b first (joined_trans edges x a b first edge)
    (min_is a b (cases_eq (min a b) a)))
lowered_joined edges x a b v p edge (inr na) (inl e) =
    let second : Joined edges x b = subst (λ (y : ℕ). Joined edges x y) e p in
    subst (λ (y : ℕ). Joined edges x y) (sym (lowered_at a b v (inr e)))
    (joined_min edges x a b (joined_trans edges x b a second (joined_sym edges a b edge)) second
    (min_is a b (cases_eq (min a b) a)))
lowered_joined edges x a b v p edge (inr na) (inr nb) = subst (λ (y : ℕ). Joined edges x y) (sym (lowered_off a b v na nb)) p

ends_more : (edges : Edges) (i a b k c d : ℕ) (label : ℕ → ℕ) → slice_get edges i ≡ Some (a, b)
    → ((k a b : ℕ) → k < i → slice_get edges k ≡ Some (a, b) → label a ≡ label b) → k < i + 1
    → slice_get edges k ≡ Some (c, d) → (k ≡ i) ⊎ (k ≡ i → ⊥)
    → merged label a b c ≡ merged label a b d
ends_more edges i a b k c d label edge old lt e (inl same) =
    let one : Some (c, d) ≡ Some (a, b) = sym e ∙ ap (slice_get edges) same ∙ edge in
    let pair : (c, d) ≡ (a, b) = cc one in
    let ca : c ≡ a = ap (λ (p : ℕ × ℕ). p.0) pair in
    let db : d ≡ b = ap (λ (p : ℕ × ℕ). p.1) pair in
    ap (merged label a b) ca ∙ lowered_at (label a) (label b) (label a) (inl refl)
    ∙ sym (lowered_at (label a) (label b) (label b) (inr refl)) ∙ ap (merged label a b) (sym db)
ends_more edges i a b k c d label edge old lt e (inr ne) = ap (lowered (label a) (label b)) (old k c d (omega arith) e)

-- one step of the loop: edge `i` joins `a` and `b`, so the labels of these points are both replaced
-- by the lower of them
pub reflects_more : (edges : Edges) (i a b : ℕ) (old new : List ℕ) (label : ℕ → ℕ)
    → slice_get edges i ≡ Some (a, b) → Reflects edges i old label
    → IsLabelling new (merged label a b) → Reflects edges (i + 1) new (merged label a b)
reflects_more edges i a b old new label edge h labelling =
    let between : Joined edges (label a) (label b) = joined_trans edges (label a) a (label b)
    (joined_sym edges a (label a) (h.joined a)) (along i edge (h.joined b)) in
    record {
      labelling = labelling;
      joined =
          λ x. lowered_joined edges x (label a) (label b) (label x) (h.joined x) between
          (cases_eq (label x) (label a)) (cases_eq (label x) (label b));
      ends = λ k c d lt e. ends_more edges i a b k c d label edge h.ends lt e (cases_eq k i);
    }

-- before the first edge, each point is its own label
pub reflects_none : (edges : Edges) (parents : List ℕ)
    → ((x : ℕ) → x < length parents → get_or parents x 0 ≡ x) → Reflects edges 0 parents (λ x. x)
reflects_none edges parents own = record {
  labelling = record {
    low = λ x lt. (let e : get_or parents x 0 ≡ x = own x lt in omega arith);
    least = λ x. omega arith;
    parent = λ x lt. own x lt;
    root = λ x lt e. refl;
  };
  joined = λ x. here;
  ends = λ k a b lt e. absurd (omega arith);
}

-- if a labelling reflects all edges, the list of its values has the labels of the points
pub labels_read : (edges : Edges) (parents labels : List ℕ) (label : ℕ → ℕ)
    → ((k a b : ℕ) → slice_get edges k ≡ Some (a, b) → (a < length labels) × (b < length labels)) →
    ((x : ℕ) → x < length labels → get_or labels x 0 ≡ label x) → Reflects edges (length edges) parents label → AreLabels edges labels
labels_read edges parents labels label ends read h = record {
  least = λ x lt. (let e : get_or labels x 0 ≡ label x = read x lt in let low : label x ≤ x = h.labelling.least x in omega arith);
  joined = λ x lt. subst (λ (y : ℕ). Joined edges x y) (sym (read x lt)) (h.joined x);
  ends = λ k a b e. read a (ends k a b e).0 ∙ h.ends k a b (slice_get_within edges k (a, b) e) e ∙ sym (read b (ends k a b e).1);
}

pushed_at : (xs : List ℕ) (r n x : ℕ) (label : ℕ → ℕ) → length xs ≡ n
    → ((y : ℕ) → y < n → get_or xs y 0 ≡ label y) → r ≡ label n → x < n + 1 → (x ≡ n) ⊎ (x ≡ n → ⊥)
    → get_or (xs ++ r ∷ []) x 0 ≡ label x
pushed_at xs r n x label count old new lt (inl e) = get_or_push xs r 0 x (count ∙ sym e) ∙ new ∙ ap label (sym e)
pushed_at xs r n x label count old new lt (inr ne) =
    let low : x < n = omega arith in get_or_append_left xs (r ∷ []) 0 x (omega arith) ∙ old x low

-- one step of the loop: the label of `n` is appended
pub pushed : (xs : List ℕ) (r n : ℕ) (label : ℕ → ℕ) → length xs ≡ n
    → ((y : ℕ) → y < n → get_or xs y 0 ≡ label y) → r ≡ label n → (x : ℕ) → x < n + 1
    → get_or (xs ++ r ∷ []) x 0 ≡ label x
pushed xs r n label count old new x lt = pushed_at xs r n x label count old new lt (cases_eq x n)

pub if_ok_both : {V E : Type 0} (P Q R : V → Type 0) → ((v : V) → P v → Q v → R v) → (r : Result V E) → IfOk r P → IfOk r Q → IfOk r R
if_ok_both P Q R f (Ok v) p q = f v p q
if_ok_both P Q R f (Err e) p q = tt

pub ends_within : (edges : Edges) (n count : ℕ) → count ≡ n
    → All (λ e. (e.0 < count) × (e.1 < count)) edges → (k a b : ℕ) → slice_get edges k ≡ Some (a, b)
    → (a < n) × (b < n)
ends_within edges n count same all k a b e =
    let read : get_or edges k (a, b) ≡ (a, b) = get_or_from_slice_get edges k (a, b) (a, b) e in
    let both : (a < count)
    × (b < count) = subst (λ (p : ℕ × ℕ). (p.0 < count) × (p.1 < count)) read
    (all k (a, b) (slice_get_within edges k (a, b) e)) in
    (omega (arith, both.0), omega (arith, both.1))
