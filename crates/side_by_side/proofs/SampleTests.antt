-- Samples of pieces, with values computed by hand.
use Rattle.std.proofs.Common.{◌≡◌, ℕ, List, [], ◌∷◌, Result, Ok, Err, refl}
use Rattle.side_by_side.specs.Pieces.{items_between, piece_start, together}

-- ten items in four pieces, which have 2, 3, 2 and 3 items: the first item of each piece, and the
-- number of all items
starts : piece_start 10 4 0 ∷ piece_start 10 4 1 ∷ piece_start 10 4 2 ∷ piece_start 10 4 3
    ∷ piece_start 10 4 4 ∷ [] ≡ 0 ∷ 2 ∷ 5 ∷ 7 ∷ 10 ∷ []
starts = refl

-- the items of the second of these pieces
second : items_between {X = ℕ} (10 ∷ 11 ∷ 12 ∷ 13 ∷ 14 ∷ 15 ∷ 16 ∷ 17 ∷ 18 ∷ 19 ∷ [])
    (piece_start 10 4 1) (piece_start 10 4 2) ≡ 12 ∷ 13 ∷ 14 ∷ []
second = refl

abbrev all_of : List (Result (List ℕ) ℕ) → Result (List ℕ) ℕ
all_of answers = together (λ (l : List ℕ). l) answers

-- the lists of three answers are joined in order
lists : all_of (Ok (1 ∷ []) ∷ Ok [] ∷ Ok (2 ∷ 3 ∷ []) ∷ []) ≡ Ok (1 ∷ 2 ∷ 3 ∷ [])
lists = refl

-- if two answers are faults, the result is the first fault
faults : all_of (Ok (1 ∷ []) ∷ Err 7 ∷ Ok (2 ∷ []) ∷ Err 8 ∷ []) ≡ Err 7
faults = refl

-- if there are no answers, the result is the empty list
none : all_of [] ≡ Ok []
none = refl
