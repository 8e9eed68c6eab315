-- Lemmas about a table of counts that a loop fills item by item.
use Rattle.std.proofs.Common.{◌≡◌, ◌≢◌, ℕ, ◌+◌, ◌<◌, ◌≤◌, count_by, Bool, true, false, List, length, take, get_or, sym, ◌∙◌, ap, arith, get_or-set_same, get_or-set_other, ◌⊎◌, inl, inr}
use Rattle.std.proofs.Math.ListN.{set, length-set}
use Rattle.std.proofs.lemmas.List.Sums.{count_by_more_no, count_by_more_yes, count_by-le-length}
use Rattle.std.proofs.lemmas.List.{length-take-le}
use Rattle.device_rules.specs.inner.Tables.{Counts}

same_or_not : (m n : ℕ) → (m ≡ n) ⊎ (m ≢ n)
same_or_not m n = grind arith

pub counts_kept : {A : Type 0} (is_of : ℕ → A → Bool) (items : List A) (bound i : ℕ) (item : A)
    (table : List ℕ) → i < length items → get_or items i item ≡ item
    → ((n : ℕ) → n < bound → is_of n item ≡ false) → Counts is_of (take i items) bound table → Counts is_of (take (i + 1) items) bound table
counts_kept is_of items bound i item table lt is none h = record {
  size = h.size;
  each = λ n below. h.each n below ∙ sym (count_by_more_no (is_of n) items i item lt (ap (is_of n) is ∙ none n below));
}

pub counts_more : {A : Type 0} (is_of : ℕ → A → Bool) (items : List A) (bound i : ℕ) (item : A)
    (cell : ℕ) (table : List ℕ) → i < length items → get_or items i item ≡ item → cell < bound
    → is_of cell item ≡ true → ((n : ℕ) → n ≢ cell → is_of n item ≡ false)
    → Counts is_of (take i items) bound table
    → Counts is_of (take (i + 1) items) bound (set table cell (get_or table cell 0 + 1))
counts_more is_of items bound i item cell table lt is below here none h = record {
  size = length-set table cell (get_or table cell 0 + 1) ∙ h.size;
  each = λ n within. at n within (same_or_not n cell);
}
  where
    at : (n : ℕ) → n < bound → (n ≡ cell) ⊎ (n ≢ cell)
        → get_or (set table cell (get_or table cell 0 + 1)) n 0
        ≡ count_by (is_of n) (take (i + 1) items)
    at n within (inl e) =
        let inside : cell < length table = omega (arith, h.size) in
        ap (λ k. get_or (set table cell (get_or table cell 0 + 1)) k 0) e
        ∙ get_or-set_same table cell (get_or table cell 0 + 1) 0 inside
        ∙ ap (λ k. k + 1) (h.each cell below)
        ∙ sym (count_by_more_yes (is_of cell) items i item lt (ap (is_of cell) is ∙ here))
        ∙ ap (λ k. count_by (is_of k) (take (i + 1) items)) (sym e)
    at n within (inr e) =
        get_or-set_other table cell n (get_or table cell 0 + 1) 0 e ∙ h.each n within
        ∙ sym (count_by_more_no (is_of n) items i item lt (ap (is_of n) is ∙ none n e))

pub counts_fit : {A : Type 0} (is_of : ℕ → A → Bool) (items : List A) (bound i cell : ℕ)
    (table : List ℕ) → i < length items → cell < bound → Counts is_of (take i items) bound table
    → get_or table cell 0 < length items
counts_fit is_of items bound i cell table lt below h =
    let some : count_by (is_of cell) (take i items) ≤ length (take i items) = count_by-le-length (is_of cell) (take i items) in
    let len : length (take i items) ≡ i = length-take-le i items (omega arith) in
    omega (arith, some, len, h.each cell below)
