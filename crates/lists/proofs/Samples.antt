-- Samples of a small table of lists, to which items are added.
use Rattle.std.proofs.Common.{◌≡◌, ℕ, List, [], ◌∷◌, Some, None, refl}
use Rattle.lists.specs.Rows.{noted}

-- a table of three lists, of which the second has one item
abbrev rows : List (List ℕ)
rows = [] ∷ (7 ∷ []) ∷ [] ∷ []

at_the_end_of_its_list : noted rows (Some 1) 8 ≡ [] ∷ (7 ∷ 8 ∷ []) ∷ [] ∷ []
at_the_end_of_its_list = refl

past_the_lists : noted rows (Some 3) 8 ≡ rows
past_the_lists = refl

at_no_place : noted rows None 8 ≡ rows
at_no_place = refl
