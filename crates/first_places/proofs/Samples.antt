-- Samples of the first item that breaks a rule. Each of the first four refutes a wrong item or a wrong number. The last one finds the number.
use Rattle.std.proofs.Common.{◌≡◌, ℕ, ◌+◌, ◌==◌, Bool, true, false, List, [], ◌∷◌, ◌++◌, length, refl, arith}
use Rattle.first_places.specs.Items.{KeepsRule, BreaksFirst}

-- an item breaks the rule if it is 7
abbrev is_seven : List ℕ → ℕ → Bool
is_seven before item = item == 7

-- every item breaks the rule
abbrev always : List ℕ → ℕ → Bool
always before item = true

-- no item breaks the rule
abbrev never : List ℕ → ℕ → Bool
never before item = false

-- an empty list has no item
no_item : BreaksFirst always [] 1 → ⊥
no_item first = parts first.before first.split
  where
    parts : (before : List ℕ) → [] ≡ before ++ first.item ∷ first.after → ⊥
    parts [] split = cc split
    parts (item ∷ before) split = cc split

-- items are numbered from 1
no_number : BreaksFirst always (3 ∷ []) 0 → ⊥
no_number first = let place = first.place in omega (arith, place)

kept_by_all : BreaksFirst never (3 ∷ []) 1 → ⊥
kept_by_all first = let breaks : false ≡ true = first.breaks_it in cc breaks

-- the second 7 is not the first
second_seven : BreaksFirst is_seven (7 ∷ 7 ∷ []) 2 → ⊥
second_seven first = parts first.before first.split first.place first.held
  where
    parts : (before : List ℕ) → 7 ∷ 7 ∷ [] ≡ before ++ first.item ∷ first.after → 2 ≡ length before + 1
        → KeepsRule is_seven before → ⊥
    parts [] split place held = omega (arith, place)
    parts (item ∷ before) split place held =
        let seven : item ≡ 7 = cc split in
        let kept : (item == 7) ≡ false = held [] item before refl in
        let breaks : (item == 7) ≡ true = rw seven refl in
        cc (kept, breaks)

-- the first 7 is item 2
first_seven : (number : ℕ) → BreaksFirst is_seven (3 ∷ 7 ∷ 7 ∷ []) number → number ≡ 2
first_seven number first = parts first.before first.split first.place first.breaks_it first.held
  where
    parts : (before : List ℕ) → 3 ∷ 7 ∷ 7 ∷ [] ≡ before ++ first.item ∷ first.after → number ≡ length before + 1
        → is_seven before first.item ≡ true → KeepsRule is_seven before → number ≡ 2
    parts [] split place breaks held =
        let three : first.item ≡ 3 = cc split in
        let kept : (first.item == 7) ≡ false = rw three refl in
        absurd cc
    parts (item ∷ []) split place breaks held = place
    parts (item ∷ second ∷ before) split place breaks held =
        let seven : second ≡ 7 = cc split in
        let kept : (second == 7) ≡ false = held (item ∷ []) second before refl in
        let broken : (second == 7) ≡ true = rw seven refl in
        absurd cc
