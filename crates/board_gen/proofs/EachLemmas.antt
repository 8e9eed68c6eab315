-- Lemmas about a loop over consecutive numbers that appends a text for each number.
use Rattle.std.proofs.Common.{◌≡◌, ℕ, ◌+◌, ◌-◌, ◌≤◌, suc, zero, List, ◌++◌, sym, ◌∙◌, ap, arith, append_assoc, append-nil, add-zero, Result, Ok, Err, is_ok, cond, OnOk}
use Rattle.board_gen.specs.BoardTexts.{each}

each_more : (f : ℕ → List ℕ) (a n : ℕ) → each f a (n + 1) ≡ each f a n ++ f (a + n)
each_more f a zero = append-nil (f a) ∙ ap f (sym (add-zero a))
each_more f a (suc n) =
    let more : suc n + 1 ≡ suc (n + 1) = omega arith in
    let last : a + 1 + n ≡ a + suc n = omega arith in
    ap (λ m. each f a m) more
    ∙ ap (λ t. f a ++ t) (each_more f (a + 1) n)
    ∙ sym (append_assoc (f a) (each f (a + 1) n) (f (a + 1 + n)))
    ∙ ap (λ m. f a ++ each f (a + 1) n ++ f m) last

-- `now` is `old` with the texts of the numbers `a..i` appended
abbrev pub Appended : List ℕ → List ℕ → (ℕ → List ℕ) → ℕ → ℕ → Type 0
Appended old now f a i = now ≡ old ++ each f a (i - a)

pub appended_none : (old : List ℕ) (f : ℕ → List ℕ) (a i : ℕ) → i ≤ a → Appended old old f a i
appended_none old f a i h =
    let none : 0 ≡ i - a = omega arith in
    sym (append-nil old) ∙ ap (λ n. old ++ each f a n) none

pub appended_more : (old now new : List ℕ) (f : ℕ → List ℕ) (a i : ℕ) → a ≤ i
    → Appended old now f a i → new ≡ now ++ f i → Appended old new f a (i + 1)
appended_more old now new f a i h before step =
    let last : a + (i - a) ≡ i = omega arith in
    let more : i - a + 1 ≡ i + 1 - a = omega arith in
    step
    ∙ ap (λ t. t ++ f i) before
    ∙ append_assoc old (each f a (i - a)) (f i)
    ∙ ap (λ n. old ++ (each f a (i - a) ++ f n)) (sym last)
    ∙ ap (λ t. old ++ t) (sym (each_more f a (i - a)))
    ∙ ap (λ n. old ++ each f a n) more

pub appended_all : (old now : List ℕ) (f : ℕ → List ℕ) (a n i : ℕ) → i ≡ a + n → Appended old now f a i → now ≡ old ++ each f a n
appended_all old now f a n i e h = let all : i - a ≡ n = omega arith in h ∙ ap (λ m. old ++ each f a m) all

pub ends_with : {X E : Type 0} (r : Result X E) (old a b : List ℕ) {now new : List ℕ}
    → now ≡ old ++ a → new ≡ cond (is_ok r) (now ++ b) now → OnOk r (new ≡ old ++ (a ++ b))
ends_with (Ok x) old a b first last = last ∙ ap (λ t. t ++ b) first ∙ append_assoc old a b
ends_with (Err e) old a b first last = tt
