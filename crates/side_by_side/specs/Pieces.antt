-- The pieces of a list of items, each a range of consecutive items, and the joined answers for the pieces. The answer for
-- a piece is the list or the fault that the work on the piece returns.
use Rattle.std.specs.Prelude.{◌≡◌, ℕ, ◌+◌, ◌*◌, ◌/◌, ◌<◌, ◌⊎◌, ◌-◌, List, [], ◌∷◌, ◌++◌, length, take, drop, slice_index_or, Result, Ok, Err}
use Rattle.side_by_side.specs.declared.pieces.Piece.{Piece}

-- The number of the first item of piece `number`. The numbers of items in any two pieces differ by
-- at most one.
abbrev pub piece_start : ℕ → ℕ → ℕ → ℕ
piece_start items pieces number = number * items / pieces

abbrev pub piece_of : ℕ → ℕ → ℕ → Piece
piece_of items pieces number =
    record {
      number = number;
      first = piece_start items pieces number;
      end = piece_start items pieces
          (number + 1);
    }

-- the items `from..to`
abbrev pub items_between : {X : Type 0} → List X → ℕ → ℕ → List X
items_between items from to = take (to - from) (drop from items)

-- `list` followed by the list of the later answer, or the later answer's fault
abbrev pub then_later : {T E : Type 0} → List T → Result (List T) E → Result (List T) E
then_later list (Ok later) = Ok (list ++ later)
then_later list (Err fault) = Err fault

-- the list of the first answer followed by the list of the later answer, or the first fault
abbrev pub said_then : {T E : Type 0} → Result (List T) E → Result (List T) E → Result (List T) E
said_then (Ok list) later = then_later list later
said_then (Err fault) later = Err fault

-- the answer with `view` applied to its Ok value, which gives a list
abbrev pub seen_list : {V T E : Type 0} → (V → List T) → Result V E → Result (List T) E
seen_list view (Ok v) = Ok (view v)
seen_list view (Err fault) = Err fault

-- the lists of the answers, joined in order, or the first fault
abbrev pub together : {V T E : Type 0} → (V → List T) → List (Result V E) → Result (List T) E
together view [] = Ok []
together view (answer ∷ later) = said_then (seen_list view answer) (together view later)

-- each piece has an answer that `Gives` allows, and the joined answers of all pieces are `said`
pub record IsOfPieces {V T E : Type 0} (view : V → List T) (Gives : Piece → Result V E → Type 0)
    (items pieces : ℕ) (said : Result (List T) E) : Type 0 where
  pub answers : List (Result V E)
  pub count : length answers ≡ pieces
  pub each : (number : ℕ) (none : Result V E) → number < pieces → Gives (piece_of items pieces number) (slice_index_or answers number none)
  pub is : together view answers ≡ said

-- The result is the joined answers of all pieces, or the fault of a lack of memory, for which `IsRefusal` is true.
abbrev pub GivesTogether : {V T E : Type 0} → (V → List T) → (Piece → Result V E → Type 0) → (E → Type 0) → ℕ → ℕ → Result V E → Type 0
GivesTogether view Gives IsRefusal items pieces (Ok all) = IsOfPieces view Gives items pieces (Ok (view all))
GivesTogether view Gives IsRefusal items pieces (Err fault) = IsRefusal fault ⊎ IsOfPieces view Gives items pieces (Err fault)
