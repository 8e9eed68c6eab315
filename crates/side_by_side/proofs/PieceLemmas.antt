-- Lemmas about where pieces begin, and about statements on all items that follow from statements on each piece.
use Rattle.std.proofs.Common.{◌≡◌, ℕ, zero, suc, ◌+◌, ◌*◌, ◌/◌, ◌<◌, ◌≤◌, inl, inr, List, [], ◌∷◌, length, Result, Ok, Err, sym, ap, ◌∙◌, refl, append-nil, subst, arith}
use Rattle.std.specs.Prelude.{slice_index_or}
use Rattle.std.proofs.Math.Nat.{div-mul-le_self, mul-div_left, mul-le-mul_right}
use Rattle.std.proofs.lemmas.Nat.{le-div}
use Rattle.side_by_side.specs.declared.pieces.Piece.{Piece}
use Rattle.side_by_side.specs.Pieces.{GivesTogether, IsOfPieces, piece_of, piece_start, said_then, seen_list, together}

times_less : (p q m : ℕ) → p ≤ q → p * m ≤ q * m
times_less p q m less = mul-le-mul_right m less

start_rises : (items pieces p q : ℕ) → 0 < pieces → p ≤ q → piece_start items pieces p ≤ piece_start items pieces q
start_rises items pieces p q some less =
    le-div (p * items / pieces) (q * items) pieces some
    (omega (arith, div-mul-le_self (p * items) pieces, times_less p q items less))

pub start_first : (items pieces : ℕ) → piece_start items pieces 0 ≡ 0
start_first items pieces = grind arith

pub start_end : (items pieces : ℕ) → 0 < pieces → piece_start items pieces pieces ≡ items
start_end items pieces some = grind (arith, mul-div_left)

only_answer : {A : Type 0} (P : ℕ → A → Type 0) (answer : A) (number : ℕ) (none : A) → number < 1
    → P 0 answer → P number (slice_index_or (answer ∷ []) number none)
only_answer P answer zero none less holds = holds
only_answer P answer (suc number) none less holds = absurd (omega (arith, less))

pub of_one_piece : {V T E : Type 0} (view : V → List T) (Gives : Piece → Result V E → Type 0)
    (IsRefusal : E → Type 0) (items : ℕ) (answer : Result V E) →
    Gives (piece_of items 1 0) answer → GivesTogether view Gives IsRefusal items 1 answer
of_one_piece view Gives IsRefusal items (Ok v) gives =
    record {
      answers = Ok v
          ∷ [];
      count = refl;
      each = λ number none less. only_answer
          (λ n answer. Gives (piece_of items 1 n) answer) (Ok v) number none less gives;
      is = ap
          Ok (append-nil (view v));
    }
of_one_piece view Gives IsRefusal items (Err fault) gives =
    inr
    (record {
      answers = Err fault
          ∷ [];
      count = refl;
      each = λ number none less. only_answer
          (λ n answer. Gives (piece_of items 1 n) answer) (Err fault) number none less
          gives;
      is = refl;
    })

-- `Says from to said` is a statement about the answer `said` for the items `from..to`
module _ {T E : Type 0} (items : ℕ) (Says : ℕ → ℕ → Result (List T) E → Type 0) where
  -- The statement holds for an empty range and an empty list. If it holds for two neighboring ranges, it holds for the
  -- joined range and the joined answers.
  pub record IsOfRanges : Type 0 where
    pub nothing : (i : ℕ) → Says i i (Ok [])
    pub both : (from middle to : ℕ) (said later : Result (List T) E) → from ≤ middle → middle ≤ to
        → to ≤ items → Says from middle said → Says middle to later
        → Says from to (said_then said later)

  module _ {V : Type 0} (view : V → List T) (pieces : ℕ) (some : 0 < pieces) (ranges : IsOfRanges) where
    abbrev start : ℕ → ℕ
    start number = piece_start items pieces number

    -- If the statement holds for each piece from piece `k` on, it holds for all their items and their joined answers.
    from_piece : (answers : List (Result V E)) (k : ℕ) → k + length answers ≡ pieces
        → ((i : ℕ) (none : Result V E) → i < length answers
        → Says (start (k + i)) (start (k + i + 1))
        (seen_list view (slice_index_or answers i none)))
        → Says (start k) items (together view answers)
    from_piece [] k count each =
        let last : k ≡ pieces = omega (arith, count) in
        subst (λ (n : ℕ). Says n items (Ok [])) (sym (ap start last ∙ start_end items pieces some)) (ranges.nothing items)
    from_piece (answer ∷ answers) k count each =
        let here : Says (start k) (start (k + 1)) (seen_list view answer) = subst
        (λ (n : ℕ). Says (start n) (start (n + 1)) (seen_list view answer)) (omega arith)
        (each 0 answer (omega arith)) in
        let low : start k ≤ start (k + 1) = start_rises items pieces k (k + 1) some (omega arith) in
        let high : start (k + 1)
        ≤ items = subst (λ (n : ℕ). start (k + 1) ≤ n) (start_end items pieces some)
        (start_rises items pieces (k + 1) pieces some (omega (arith, count))) in
        let behind : Says (start (k + 1)) items (together view answers) =
        from_piece answers (k + 1) (omega (arith, count))
        (λ i none less. subst
        (λ (n : ℕ). Says (start n) (start (n + 1))
        (seen_list view (slice_index_or answers i none))) (omega arith)
        (each (suc i) none (omega (arith, less)))) in
        ranges.both (start k) (start (k + 1)) items (seen_list view answer) (together view answers) low high (omega arith) here behind

    -- If the statement holds for each piece, and for each fault of a lack of memory, it holds for all items and the result.
    pub of_pieces : (Gives : Piece → Result V E → Type 0) (IsRefusal : E → Type 0) (result : Result V E) →
        ((number : ℕ) (answer : Result V E) → number < pieces
        → Gives (piece_of items pieces number) answer
        → Says (start number) (start (number + 1)) (seen_list view answer)) →
        ((fault : E) → IsRefusal fault → Says 0 items (Err fault))
        → GivesTogether view Gives IsRefusal items pieces result
        → Says 0 items (seen_list view result)
    of_pieces Gives IsRefusal result each refused gives = by_result result gives
      where
        all : (said : Result (List T) E) → IsOfPieces view Gives items pieces said → Says 0 items said
        all said of =
            let whole : Says (start 0) items (together view of.answers) =
            from_piece of.answers 0 (omega (arith, of.count))
            (λ i none less. subst
            (λ (n : ℕ). Says (start n) (start (n + 1))
            (seen_list view (slice_index_or of.answers i none))) (omega arith)
            (each i (slice_index_or of.answers i none) (omega (arith, less, of.count))
            (of.each i none (omega (arith, less, of.count))))) in
            subst (λ (s : Result (List T) E). Says 0 items s) of.is
            (subst (λ (n : ℕ). Says n items (together view of.answers))
            (start_first items pieces) whole)

        by_result : (result : Result V E) → GivesTogether view Gives IsRefusal items pieces result → Says 0 items (seen_list view result)
        by_result (Ok v) gives = all (Ok (view v)) gives
        by_result (Err fault) (inl gone) = refused fault gone
        by_result (Err fault) (inr gives) = all (Err fault) gives
