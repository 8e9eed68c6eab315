-- Lemmas about the first index at which a list has an item that passes a test, and about the first
-- such item.
use Rattle.std.proofs.Common.{◌≡◌, ℕ, zero, suc, ◌+◌, ◌<◌, Bool, true, false, cond, List, [], ◌∷◌, length, map, get_or, Option, Some, None, refl, sym, ap, ◌∙◌, arith, true≢false}
use Rattle.std.specs.Prelude.{find, option_map, is_none}
use Rattle.std.specs.List.{position_from}

-- the item at index `place` passes the test
pub record Found {A : Type 0} (p : A → Bool) (xs : List A) (d : A) (place : ℕ) : Type 0 where
  pub within : place < length xs
  pub passes : p (get_or xs place d) ≡ true

found_later : {A : Type 0} (p : A → Bool) (x : A) (xs : List A) (d : A) (i : ℕ) → Found p xs d i → Found p (x ∷ xs) d (suc i)
found_later p x xs d i f = let low : i < length xs = f.within in record { within = omega arith; passes = f.passes }

-- `m` is the number of an item that passes the test, if items are numbered from `n` on
abbrev pub Place : {A : Type 0} → (A → Bool) → ℕ → List A → A → ℕ → Type 0
Place p n xs d m = (i : ℕ) × (m ≡ n + i) × Found p xs d i

place_by : {A : Type 0} (p : A → Bool) (n m : ℕ) (x : A) (xs : List A) (d : A) → (t : Bool)
    → p x ≡ t → (position_from p (n + 1) xs ≡ Some m → Place p (n + 1) xs d m)
    → cond t (Some n) (position_from p (n + 1) xs) ≡ Some m → Place p n (x ∷ xs) d m
place_by p n m x xs d true e ih h = let same : n ≡ m = cc h in (0, omega arith, record { within = omega arith; passes = e })
place_by p n m x xs d false e ih h = let r = ih h in let at : m ≡ n + 1 + r.0 = r.1 in (suc r.0, omega arith, found_later p x xs d r.0 r.2)

pub place_found : {A : Type 0} (p : A → Bool) (n : ℕ) (xs : List A) (d : A) (m : ℕ) → position_from p n xs ≡ Some m → Place p n xs d m
place_found p n [] d m h = cc h
place_found p n (x ∷ xs) d m h = place_by p n m x xs d (p x) refl (place_found p (n + 1) xs d m) h

none_by : {A : Type 0} (p : A → Bool) (n : ℕ) (x : A) (xs : List A) → (t : Bool) → p x ≡ t
    → cond t (Some n) (position_from p (n + 1) xs) ≡ None
    → (p x ≡ false) × (position_from p (n + 1) xs ≡ None)
none_by p n x xs true e h = cc h
none_by p n x xs false e h = (e, h)

pub place_none : {A : Type 0} (p : A → Bool) (n : ℕ) (xs : List A) (d : A) (k : ℕ)
    → position_from p n xs ≡ None → k < length xs → p (get_or xs k d) ≡ false
place_none p n [] d k h lt = absurd (omega arith)
place_none p n (x ∷ xs) d zero h lt = (none_by p n x xs (p x) refl h).0
place_none p n (x ∷ xs) d (suc k) h lt = place_none p (n + 1) xs d k (none_by p n x xs (p x) refl h).1 (omega arith)

some_place : {A : Type 0} (p : A → Bool) (xs : List A) (d : A) (k : ℕ) → k < length xs
    → p (get_or xs k d) ≡ true → (o : Option ℕ) → position_from p 0 xs ≡ o
    → (m : ℕ) × (position_from p 0 xs ≡ Some m) × Found p xs d m
some_place p xs d k lt passes None e = absurd (true≢false (sym passes ∙ place_none p 0 xs d k e lt))
some_place p xs d k lt passes (Some m) e =
    let r = place_found p 0 xs d m e in
    let at : m ≡ 0 + r.0 = r.1 in
    let same : r.0 ≡ m = omega arith in
    (m, e, record { within = ap-lt r.0 m (length xs) same r.2.within; passes = ap (λ i. p (get_or xs i d)) (sym same) ∙ r.2.passes })
  where
    ap-lt : (a b n : ℕ) → a ≡ b → a < n → b < n
    ap-lt a b n e lt = omega arith

pub place_of_item : {A : Type 0} (p : A → Bool) (xs : List A) (d : A) (k : ℕ) → k < length xs
    → p (get_or xs k d) ≡ true → (m : ℕ) × (position_from p 0 xs ≡ Some m) × Found p xs d m
place_of_item p xs d k lt passes = some_place p xs d k lt passes (position_from p 0 xs) refl

pub find_first : {A : Type 0} (p : A → Bool) (xs : List A) (d : A) (j : ℕ) → j < length xs
    → p (get_or xs j d) ≡ true → ((i : ℕ) → i < j → p (get_or xs i d) ≡ false)
    → find p xs ≡ Some (get_or xs j d)
find_first p [] d j lt passes before = absurd (omega arith)
find_first p (x ∷ xs) d zero lt passes before = ap (λ b. cond b (Some x) (find p xs)) passes
find_first p (x ∷ xs) d (suc j) lt passes before =
    ap (λ b. cond b (Some x) (find p xs)) (before 0 (omega arith))
    ∙ find_first p xs d j (omega arith) passes (λ i less. before (suc i) (omega arith))

pub find_missing : {A : Type 0} (p : A → Bool) (xs : List A) (d : A)
    → ((i : ℕ) → i < length xs → p (get_or xs i d) ≡ false) → find p xs ≡ None
find_missing p [] d none = refl
find_missing p (x ∷ xs) d none =
    ap (λ b. cond b (Some x) (find p xs)) (none 0 (omega arith))
    ∙ find_missing p xs d (λ i lt. none (suc i) (omega arith))

shift_by : (b : Bool) (n : ℕ) (rest more : Option ℕ) → more ≡ option_map (λ k. suc k) rest
    → cond b (Some (suc n)) more ≡ option_map (λ k. suc k) (cond b (Some n) rest)
shift_by true n rest more e = refl
shift_by false n rest more e = e

shifted : {A : Type 0} (p : A → Bool) (n : ℕ) (xs : List A) → position_from p (suc n) xs ≡ option_map (λ k. suc k) (position_from p n xs)
shifted p n [] = refl
shifted p n (x ∷ xs) =
    let same : suc n + 1 ≡ suc (n + 1) = omega arith in
    shift_by (p x) n (position_from p (n + 1) xs) (position_from p (suc n + 1) xs)
    (ap (λ k. position_from p k xs) same ∙ shifted p (n + 1) xs)

map_twice : {A B C : Type 0} (f : A → B) (g : B → C) (o : Option A) → option_map g (option_map f o) ≡ option_map (λ a. g (f a)) o
map_twice f g None = refl
map_twice f g (Some a) = refl

find_by : {A B : Type 0} (f : A → B) (p : A → Bool) (x : A) (xs : List A) (d : B) (b : Bool)
    → option_map f (find p xs) ≡ option_map (λ i. get_or (map f xs) i d) (position_from p 0 xs) →
    option_map f (cond b (Some x) (find p xs)) ≡ option_map (λ i. get_or (f x ∷ map f xs) i d) (cond b (Some 0) (position_from p 1 xs))
find_by f p x xs d true ih = refl
find_by f p x xs d false ih =
    ih ∙ sym (map_twice (λ k. suc k) (λ i. get_or (f x ∷ map f xs) i d) (position_from p 0 xs))
    ∙ ap (option_map (λ i. get_or (f x ∷ map f xs) i d)) (sym (shifted p 0 xs))

-- `find` returns the item at the index that `position_from` returns
pub find_place : {A B : Type 0} (f : A → B) (p : A → Bool) (xs : List A) (d : B)
    → option_map f (find p xs) ≡ option_map (λ i. get_or (map f xs) i d) (position_from p 0 xs)
find_place f p [] d = refl
find_place f p (x ∷ xs) d = find_by f p x xs d (p x) (find_place f p xs d)

none_map : {A B : Type 0} (f : A → B) (o : Option A) → is_none (option_map f o) ≡ is_none o
none_map f None = refl
none_map f (Some a) = refl

pub none_found : {A B : Type 0} (f : A → B) (p : A → Bool) (xs : List A) (d : B)
    → is_none (option_map f (find p xs)) ≡ is_none (position_from p 0 xs)
none_found f p xs d = ap is_none (find_place f p xs d) ∙ none_map (λ i. get_or (map f xs) i d) (position_from p 0 xs)
