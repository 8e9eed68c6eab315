-- The first item of a list that breaks a rule, and the lowest number that satisfies a predicate.
use Rattle.std.specs.Prelude.{◌≡◌, ℕ, zero, suc, ◌+◌, ◌<◌, List, [], ◌∷◌, ◌++◌, length, Bool, true, false, if◌then◌else◌, Option, Some, None}

-- The number of the first item of `items` that breaks the rule, or None if no item does. Numbers count from 1 and include the items in
-- `before`, which precede `items`. `breaks` gets the items that precede an item, and the item itself.
abbrev pub first_from : {A : Type 0} → (List A → A → Bool) → List A → List A → Option ℕ
first_from breaks before [] = None
first_from breaks before (item ∷ items) =
    if breaks before item then Some (length before + 1)
    else first_from breaks (before ++ item ∷ []) items

abbrev pub first_break : {A : Type 0} → (List A → A → Bool) → List A → Option ℕ
first_break breaks items = first_from breaks [] items

-- no item of the list breaks the rule
abbrev pub KeepsRule : {A : Type 0} → (List A → A → Bool) → List A → Type 0
KeepsRule {A} breaks items = (front : List A) (item : A) (back : List A) → items ≡ front ++ item ∷ back → breaks front item ≡ false

-- item `number`, counted from 1, breaks the rule, and no item before it does
pub record BreaksFirst {A : Type 0} (breaks : List A → A → Bool) (items : List A) (number : ℕ) : Type 0 where
  pub before : List A
  pub item : A
  pub after : List A
  pub split : items ≡ before ++ item ∷ after
  pub place : number ≡ length before + 1
  pub breaks_it : breaks before item ≡ true
  pub held : KeepsRule breaks before

-- `Some number` is the number of the first item that breaks the rule. None means that no item breaks it.
abbrev pub IsFound : {A : Type 0} → (List A → A → Bool) → List A → Option ℕ → Type 0
IsFound breaks items None = KeepsRule breaks items
IsFound breaks items (Some number) = BreaksFirst breaks items number

-- the lowest of the `count` numbers from `from` on that satisfies `is`, or None if none does
abbrev pub least_from : (ℕ → Bool) → ℕ → ℕ → Option ℕ
least_from is from zero = None
least_from is from (suc count) = if is from then Some from else least_from is (suc from) count

abbrev pub least_below : (ℕ → Bool) → ℕ → Option ℕ
least_below is bound = least_from is 0 bound

-- `Some least` is the lowest number below the bound that satisfies `is`. None means that no number below the bound does.
abbrev pub IsLeast : (ℕ → Bool) → ℕ → Option ℕ → Type 0
IsLeast is bound None = (n : ℕ) → n < bound → is n ≡ false
IsLeast is bound (Some least) = (least < bound) × (is least ≡ true) × ((n : ℕ) → n < least → is n ≡ false)

-- the first option if it has an item, or otherwise the second option
abbrev pub or_else : {A : Type 0} → Option A → Option A → Option A
or_else (Some found) other = Some found
or_else None other = other

-- the item if the rule is broken, or None otherwise
abbrev pub broken_by : {A : Type 0} → A → Bool → Option A
broken_by item true = Some item
broken_by item false = None
