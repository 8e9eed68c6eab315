-- Lemmas about the items of a range `from..to`.
use Rattle.std.proofs.Common.{◌≡◌, ℕ, ◌+◌, ◌-◌, ◌<◌, ◌≤◌, List, [], ◌∷◌, ◌++◌, length, get_or, take, drop, sym, ap, ◌∙◌, arith}
use Rattle.std.proofs.Math.Seq.{take-add, take-length}
use Rattle.std.proofs.lemmas.List.{drop_more, drop-drop}
use Rattle.side_by_side.specs.Pieces.{items_between}

module _ {X : Type 0} (items : List X) where
  pub range_sum : (from middle to : ℕ) → from ≤ middle → middle ≤ to
      → items_between items from to
      ≡ items_between items from middle ++ items_between items middle to
  range_sum from middle to low high =
      let sum : to - from ≡ (middle - from) + (to - middle) = omega arith in
      let start : from + (middle - from) ≡ middle = omega arith in
      ap (λ n. take n (drop from items)) sum
      ∙ take-add (middle - from) (to - middle) (drop from items)
      ∙ ap (λ (l : List X). take (middle - from) (drop from items) ++ take (to - middle) l)
      (drop-drop (middle - from) from items ∙ ap (λ n. drop n items) start)

  pub range_none : (i : ℕ) → items_between items i i ≡ []
  range_none i = let none : i - i ≡ 0 = omega arith in ap (λ n. take n (drop i items)) none

  pub range_one : (i : ℕ) (item : X) → i < length items → item ≡ get_or items i item → items_between items i (i + 1) ≡ item ∷ []
  range_one i item less is =
      let one : i + 1 - i ≡ 1 = omega arith in
      ap (λ n. take n (drop i items)) one ∙ ap (take 1) (drop_more items i item less) ∙ ap (λ (x : X). x ∷ []) (sym is)

  pub range_whole : items_between items 0 (length items) ≡ items
  range_whole = let whole : length items - 0 ≡ length items = omega arith in ap (λ n. take n items) whole ∙ take-length items
