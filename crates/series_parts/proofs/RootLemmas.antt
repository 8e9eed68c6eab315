-- Lemmas about the labels of points when the parent of a point is replaced.
use Rattle.std.proofs.Common.{◌≡◌, ℕ, ◌<◌, ◌≤◌, ◌≢◌, ◌⊎◌, List, length, get_or, set, sym, ap, ◌∙◌, arith, subst, inl, inr}
use Rattle.std.proofs.lemmas.List.{get_or-set_same, get_or-set_other, length-set}
use Rattle.std.proofs.lemmas.Bool.{cases_eq}
use Rattle.series_parts.specs.inner.Roots.{IsLabelling, lowered, merged}

abbrev pub AreLow : List ℕ → Type 0
AreLow parents = (x : ℕ) → x < length parents → get_or parents x 0 ≤ x

-- item `x` of a list after `above` is written at index `at`: it is `above` if `x` and `at` are
-- equal, and unchanged otherwise
pub data Written (parents : List ℕ) (at above x : ℕ) : Type 0 where
  there : x ≡ at → get_or (set parents at above) x 0 ≡ above → Written parents at above x
  other : x ≢ at → get_or (set parents at above) x 0 ≡ get_or parents x 0 → Written parents at above x

written_by : (parents : List ℕ) (at above x : ℕ) → at < length parents → (x ≡ at) ⊎ (x ≡ at → ⊥) → Written parents at above x
written_by parents at above x within (inl e) =
    there e
    (ap (λ y. get_or (set parents at above) y 0) e ∙ get_or-set_same parents at above 0 within)
written_by parents at above x within (inr ne) = other ne (get_or-set_other parents at x above 0 ne)

pub written : (parents : List ℕ) (at above x : ℕ) → at < length parents → Written parents at above x
written parents at above x within = written_by parents at above x within (cases_eq x at)

pub shorter : (parents : List ℕ) (at above x : ℕ) → x < length (set parents at above) → x < length parents
shorter parents at above x h = let same : length (set parents at above) ≡ length parents = length-set parents at above in omega arith

low_written : (parents : List ℕ) (at above x : ℕ) → above ≤ at → get_or parents x 0 ≤ x
    → Written parents at above x → get_or (set parents at above) x 0 ≤ x
low_written parents at above x le low (there e value) = omega arith
low_written parents at above x le low (other ne value) = omega arith

pub low-set : (parents : List ℕ) (at above : ℕ) → at < length parents → above ≤ at → AreLow parents → AreLow (set parents at above)
low-set parents at above within le low x lt =
    low_written parents at above x le (low x (shorter parents at above x lt))
    (written parents at above x within)

-- making `above` the parent of `at`, which has the same label, keeps the rule that a point has the
-- label of its parent
parent_written : (parents : List ℕ) (at above x : ℕ) (label : ℕ → ℕ) → label above ≡ label at
    → label (get_or parents x 0) ≡ label x → Written parents at above x
    → label (get_or (set parents at above) x 0) ≡ label x
parent_written parents at above x label same h (there e value) = ap label value ∙ same ∙ ap label (sym e)
parent_written parents at above x label same h (other ne value) = ap label value ∙ h

root_written : (parents : List ℕ) (at above x : ℕ) (label : ℕ → ℕ) → (above ≡ at → label at ≡ at)
    → (get_or parents x 0 ≡ x → label x ≡ x) → Written parents at above x
    → get_or (set parents at above) x 0 ≡ x → label x ≡ x
root_written parents at above x label own h (there e value) r = let back : above ≡ at = omega arith in ap label e ∙ own back ∙ sym e
root_written parents at above x label own h (other ne value) r = h (sym value ∙ r)

pub labels-set : (parents : List ℕ) (at above : ℕ) (label : ℕ → ℕ) → at < length parents
    → above ≤ at → label above ≡ label at → (above ≡ at → label at ≡ at) → IsLabelling parents label
    → IsLabelling (set parents at above) label
labels-set parents at above label within le same own h = record {
  low = low-set parents at above within le h.low;
  least = h.least;
  parent =
      λ x lt. parent_written parents at above x label same
      (h.parent x (shorter parents at above x lt)) (written parents at above x within);
  root = λ x lt. root_written parents at above x label own (h.root x (shorter parents at above x lt)) (written parents at above x within);
}

pub same_label : (parents : List ℕ) (at parent above : ℕ) (label : ℕ → ℕ) → at < length parents
    → parent < length parents → parent ≡ get_or parents at 0 → above ≡ get_or parents parent 0
    → IsLabelling parents label → label above ≡ label at
same_label parents at parent above label within inside p a h = ap label a ∙ h.parent parent inside ∙ ap label p ∙ h.parent at within

-- shortening a path keeps the labels: `above`, the grandparent of `at`, becomes the parent of `at`
pub labels-halved : (parents : List ℕ) (at parent above : ℕ) (label : ℕ → ℕ) → at < length parents
    → parent ≡ get_or parents at 0 → above ≡ get_or parents parent 0 → parent ≢ at
    → IsLabelling parents label → IsLabelling (set parents at above) label
labels-halved parents at parent above label within p a ne h =
    let low : get_or parents at 0 ≤ at = h.low at within in
    let below : parent < at = omega arith in
    let inside : parent < length parents = omega arith in
    let lower : get_or parents parent 0 ≤ parent = h.low parent inside in
    let le : above ≤ at = omega arith in
    let lt : above < at = omega arith in
    labels-set parents at above label within le (same_label parents at parent above label within inside p a h) (λ e. absurd (omega arith)) h

-- if a root gets a lower root as its parent, the points that had the higher root as their label get
-- the lower root as their label
pub labels-linked : (parents : List ℕ) (low high : ℕ) (label f : ℕ → ℕ) → high < length parents
    → low < high → label low ≡ low → label high ≡ high → f high ≡ low
    → ((v : ℕ) → v ≢ high → f v ≡ v) → IsLabelling parents label
    → IsLabelling (set parents high low) (λ x. f (label x))
labels-linked parents low high label f within lt own_low own_high lowers keeps h = record {
  low = low-set parents high low within (omega arith) h.low;
  least = λ x. below (label x) x (h.least x) (cases_eq (label x) high);
  parent = λ x inside. parent_linked x (h.parent x (shorter parents high low x inside)) (written parents high low x within);
  root = λ x inside. root_linked x (h.root x (shorter parents high low x inside)) (written parents high low x within);
}
  where
    below : (v x : ℕ) → v ≤ x → (v ≡ high) ⊎ (v ≡ high → ⊥) → f v ≤ x
    below v x le (inl e) = let value : f v ≡ low = ap f e ∙ lowers in omega arith
    below v x le (inr ne) = let value : f v ≡ v = keeps v ne in omega arith

    parent_linked : (x : ℕ) → label (get_or parents x 0) ≡ label x → Written parents high low x
        → f (label (get_or (set parents high low) x 0)) ≡ f (label x)
    parent_linked x same (there e value) =
        ap (λ y. f (label y)) value ∙ ap f own_low ∙ keeps low (λ q. absurd (omega arith))
        ∙ sym lowers ∙ ap f (sym own_high) ∙ ap (λ y. f (label y)) (sym e)
    parent_linked x same (other ne value) = ap (λ y. f (label y)) value ∙ ap f same

    root_linked : (x : ℕ) → (get_or parents x 0 ≡ x → label x ≡ x) → Written parents high low x
        → get_or (set parents high low) x 0 ≡ x → f (label x) ≡ x
    root_linked x own (there e value) r = absurd (omega arith)
    root_linked x own (other ne value) r = ap f (own (sym value ∙ r)) ∙ keeps x ne

pub relabelled : (parents : List ℕ) (label again : ℕ → ℕ) → ((x : ℕ) → again x ≡ label x)
    → IsLabelling parents label → IsLabelling parents again
relabelled parents label again same h = record {
  low = h.low;
  least = λ x. (let low : label x ≤ x = h.least x in let e : again x ≡ label x = same x in omega arith);
  parent = λ x inside. same (get_or parents x 0) ∙ h.parent x inside ∙ sym (same x);
  root = λ x inside r. same x ∙ h.root x inside r;
}

pub lowered_second : (a b : ℕ) → a < b → lowered a b b ≡ a
lowered_second a b lt = grind arith

pub lowered_first : (a b : ℕ) → b < a → lowered a b a ≡ b
lowered_first a b lt = grind arith

pub lowered_keeps_second : (a b v : ℕ) → a < b → v ≢ b → lowered a b v ≡ v
lowered_keeps_second a b v lt ne = grind arith

pub lowered_keeps_first : (a b v : ℕ) → b < a → v ≢ a → lowered a b v ≡ v
lowered_keeps_first a b v lt ne = grind arith

pub lowered_same : (a b v : ℕ) → a ≡ b → lowered a b v ≡ v
lowered_same a b v e = grind arith

-- if the root of `b` is higher and gets the root of `a` as its parent, the labels of `a` and `b`
-- are both replaced by the lower of them
pub joined_second : (parents : List ℕ) (a b low high : ℕ) (label : ℕ → ℕ) → high < length parents
    → low < high → low ≡ label a → high ≡ label b → label low ≡ low → label high ≡ high
    → IsLabelling parents label → IsLabelling (set parents high low) (merged label a b)
joined_second parents a b low high label within lt is_low is_high own_low own_high h =
    subst (λ (v : ℕ). IsLabelling (set parents high low) (λ x. lowered v (label b) (label x))) is_low
    (subst (λ (v : ℕ). IsLabelling (set parents high low) (λ x. lowered low v (label x))) is_high
    (labels-linked parents low high label (lowered low high) within lt own_low own_high
    (lowered_second low high lt) (λ v ne. lowered_keeps_second low high v lt ne) h))

-- if the root of `a` is higher and gets the root of `b` as its parent, the labels of `a` and `b`
-- are both replaced by the lower of them
pub joined_first : (parents : List ℕ) (a b low high : ℕ) (label : ℕ → ℕ) → high < length parents
    → low < high → high ≡ label a → low ≡ label b → label low ≡ low → label high ≡ high
    → IsLabelling parents label → IsLabelling (set parents high low) (merged label a b)
joined_first parents a b low high label within lt is_high is_low own_low own_high h =
    subst (λ (v : ℕ). IsLabelling (set parents high low) (λ x. lowered v (label b) (label x))) is_high
    (subst (λ (v : ℕ). IsLabelling (set parents high low) (λ x. lowered high v (label x))) is_low
    (labels-linked parents low high label (lowered high low) within lt own_low own_high
    (lowered_first high low lt) (λ v ne. lowered_keeps_first high low v lt ne) h))

-- if two points have the same label, an edge between them changes no label
pub joined_same : (parents : List ℕ) (a b : ℕ) (label : ℕ → ℕ) → label a ≡ label b
    → IsLabelling parents label → IsLabelling parents (merged label a b)
joined_same parents a b label e h = relabelled parents label (merged label a b) (λ x. lowered_same (label a) (label b) (label x) e) h
