-- Lemmas about the pieces (tokens) at the front of a text, and about the number of pieces.
use Rattle.std.specs.Bool.{if◌then◌else◌}
use Rattle.std.proofs.Common.{suc, ◌≡◌, ℕ, ◌+◌, ◌≤◌, Bool, true, false, ◌&&◌, cond, List, [], ◌∷◌, length, take, drop, refl, sym, ◌∙◌, ap, arith}
use Rattle.std.specs.List.{take_while}
use Rattle.std.proofs.lemmas.List.Sums.{take_while-cons}
use Rattle.std.proofs.lemmas.Bool.Decides.{nat_tests}
use Rattle.bsdl_strings.specs.Pieces.{is_string_blank, is_word_byte, starts_word, starts_blank, is_end, longer, pieces}

-- the list without its longest prefix of items that pass the test
pub dropped : (ℕ → Bool) → List ℕ → List ℕ
dropped p [] = []
dropped p (x ∷ xs) = cond (p x) (dropped p xs) (x ∷ xs)

dropped_step : (p : ℕ → Bool) (x : ℕ) (xs ys : List ℕ) (b : Bool)
    → drop (length ys) xs ≡ dropped p xs
    → drop (length (cond b (x ∷ ys) [])) (x ∷ xs) ≡ cond b (dropped p xs) (x ∷ xs)
dropped_step p x xs ys true e = e
dropped_step p x xs ys false e = refl

pub drop_while : (p : ℕ → Bool) (xs : List ℕ) → drop (length (take_while p xs)) xs ≡ dropped p xs
unfolding dropped
drop_while p [] = refl
drop_while p (x ∷ xs) =
    ap (λ ys. drop (length ys) (x ∷ xs)) (take_while-cons p x xs)
    ∙ dropped_step p x xs (take_while p xs) (p x) (drop_while p xs)

taken : (p : ℕ → Bool) (x : ℕ) (xs ys : List ℕ) (b : Bool) → take (length ys) xs ≡ ys
    → take (length (cond b (x ∷ ys) [])) (x ∷ xs) ≡ cond b (x ∷ ys) []
taken p x xs ys true e = ap (λ zs. x ∷ zs) e
taken p x xs ys false e = refl

pub take_whole : (p : ℕ → Bool) (xs : List ℕ) → take (length (take_while p xs)) xs ≡ take_while p xs
take_whole p [] = refl
take_whole p (x ∷ xs) =
    ap (λ ys. take (length ys) (x ∷ xs)) (take_while-cons p x xs)
    ∙ taken p x xs (take_while p xs) (p x) (take_whole p xs) ∙ sym (take_while-cons p x xs)

pieces_blank : (x : ℕ) (xs : List ℕ) (b : Bool) → is_string_blank x ≡ b
    → pieces (dropped is_string_blank xs) ≡ pieces xs
    → pieces (cond b (dropped is_string_blank xs) (x ∷ xs)) ≡ pieces (x ∷ xs)
unfolding pieces
pieces_blank x xs true is e = e ∙ rw is refl
pieces_blank x xs false is e = refl

pub pieces_dropped : (xs : List ℕ) → pieces (dropped is_string_blank xs) ≡ pieces xs
unfolding dropped
pieces_dropped [] = refl
pieces_dropped (x ∷ xs) = pieces_blank x xs (is_string_blank x) refl (pieces_dropped xs)

no_blank : (x : ℕ) (xs : List ℕ) (b : Bool) → is_string_blank x ≡ b
    → starts_blank (dropped is_string_blank xs) ≡ false
    → starts_blank (cond b (dropped is_string_blank xs) (x ∷ xs)) ≡ false
no_blank x xs true is e = e
no_blank x xs false is e = is

pub starts_dropped : (xs : List ℕ) → starts_blank (dropped is_string_blank xs) ≡ false
unfolding dropped
starts_dropped [] = refl
starts_dropped (x ∷ xs) = no_blank x xs (is_string_blank x) refl (starts_dropped xs)

pub word_is_no_blank : (x : ℕ) → is_word_byte x ≡ true → is_string_blank x ≡ false
word_is_no_blank x h = grind (arith, nat_tests)

pieces_joined : (x : ℕ) (xs : List ℕ) → is_word_byte x ≡ true → starts_word xs ≡ true → pieces (x ∷ xs) ≡ longer x (pieces xs)
unfolding pieces
pieces_joined x xs e f = rw (word_is_no_blank x e, e, f) refl

pieces_last : (x : ℕ) (xs : List ℕ) → is_word_byte x ≡ true → starts_word xs ≡ false → pieces (x ∷ xs) ≡ (x ∷ []) ∷ pieces xs
unfolding pieces
pieces_last x xs e f = rw (word_is_no_blank x e, e, f) refl

dropped_more : (x : ℕ) (xs : List ℕ) → is_word_byte x ≡ true → dropped is_word_byte (x ∷ xs) ≡ dropped is_word_byte xs
unfolding dropped
dropped_more x xs e = rw e refl

taken_more : (x : ℕ) (xs : List ℕ) → is_word_byte x ≡ true → take_while is_word_byte (x ∷ xs) ≡ x ∷ take_while is_word_byte xs
taken_more x xs e = take_while-cons is_word_byte x xs ∙ ap (λ b. cond b (x ∷ take_while is_word_byte xs) []) e

none_taken : (xs : List ℕ) → starts_word xs ≡ false → (take_while is_word_byte xs ≡ []) × (dropped is_word_byte xs ≡ xs)
unfolding dropped
none_taken [] e = (refl, refl)
none_taken (x ∷ xs) e = (take_while-cons is_word_byte x xs ∙ ap (λ b. cond b (x ∷ take_while is_word_byte xs) []) e, rw e refl)

word_step : (x : ℕ) (xs : List ℕ) (b : Bool) → is_word_byte x ≡ true → starts_word xs ≡ b
    → (starts_word xs ≡ true → pieces xs ≡ take_while is_word_byte xs ∷ pieces (dropped is_word_byte xs))
    → pieces (x ∷ xs) ≡ take_while is_word_byte (x ∷ xs) ∷ pieces (dropped is_word_byte (x ∷ xs))
word_step x xs true e f h = rw (pieces_joined x xs e f, h f, taken_more x xs e, dropped_more x xs e) refl
word_step x xs false e f h = let n = none_taken xs f in rw (pieces_last x xs e f, taken_more x xs e, dropped_more x xs e, n.0, n.1) refl

pub word_pieces : (xs : List ℕ) → starts_word xs ≡ true → pieces xs ≡ take_while is_word_byte xs ∷ pieces (dropped is_word_byte xs)
word_pieces [] e = cc
word_pieces (x ∷ xs) e = word_step x xs (starts_word xs) e refl (word_pieces xs)

pub word_is_some : (xs : List ℕ) → starts_word xs ≡ true → is_end (take_while is_word_byte xs) ≡ false
word_is_some [] e = cc
word_is_some (x ∷ xs) e = ap is_end (taken_more x xs e)

sized : (b w : Bool) (x n : ℕ) (ps : List (List ℕ)) → (1 ≤ length ps) × (length ps ≤ n + 1)
    → (1 ≤ length (if b then ps else if w then longer x ps else (x ∷ []) ∷ ps))
    × (length (if b then ps else if w then longer x ps else (x ∷ []) ∷ ps) ≤ suc n + 1)
sized true w x n ps h = (h.0, omega (arith, h.1))
sized false true x n [] h = absurd (omega (arith, h.0))
sized false true x n (p ∷ ps) h = (omega arith, omega (arith, h.1))
sized false false x n ps h = (omega arith, omega (arith, h.1))

pub length_pieces : (xs : List ℕ) → (1 ≤ length (pieces xs)) × (length (pieces xs) ≤ length xs + 1)
unfolding pieces
length_pieces [] = (omega arith, omega arith)
length_pieces (x ∷ xs) = sized (is_string_blank x) (is_word_byte x && starts_word xs) x (length xs) (pieces xs) (length_pieces xs)
