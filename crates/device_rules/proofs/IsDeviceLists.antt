-- Lemmas about lists: the places of items, items with different keys, and what a rule that holds
-- says about each item.
use Rattle.std.proofs.Common.{◌≡◌, ℕ, zero, suc, ◌+◌, ◌<◌, ◌≤◌, Bool, true, false, cond, List, [], ◌∷◌, ◌++◌, map, length, take, drop, Option, Some, None, refl, sym, ◌∙◌, ap, subst, arith, ◌⊎◌, inl, inr}
use Rattle.std.specs.Prelude.{slice_get, All, AllPairs, count_by, is_some}
use Rattle.std.specs.List.{list_any, position_from}
use Rattle.std.specs.Str.{bytes_eq}
use Rattle.std.proofs.lemmas.Bool.{or_parts, cases_order}
use Rattle.std.proofs.lemmas.List.Sums.{sum_by-cons}
use Rattle.std.proofs.lemmas.Slice.Eq.{bytes_eq-Decides}
use Rattle.board_defs.proofs.Members.{Has, has_at, has_place, has_append}
use Rattle.first_places.specs.Items.{KeepsRule}

pub same_name : (a b : List ℕ) → bytes_eq a b ≡ true → a ≡ b
same_name a b = (bytes_eq-Decides a b).0

pub name_same : (a b : List ℕ) → a ≡ b → bytes_eq a b ≡ true
name_same a b = (bytes_eq-Decides a b).1

pub cut : {X : Type 0} (xs : List X) (j : ℕ) (x : X) → slice_get xs j ≡ Some x → xs ≡ take j xs ++ x ∷ drop (suc j) xs
cut [] j x e = cc e
cut (y ∷ ys) zero x e = let same : y ≡ x = cc e in ap (λ v. v ∷ ys) same
cut (y ∷ ys) (suc j) x e = ap (λ v. y ∷ v) (cut ys j x e)

pub earlier : {X : Type 0} (xs : List X) (i j : ℕ) (x : X) → i < j → slice_get xs i ≡ Some x → Has (take j xs) x
earlier [] i j x less e = cc e
earlier (y ∷ ys) i zero x less e = absurd (omega arith)
earlier (y ∷ ys) zero (suc j) x less e = inl (cc e)
earlier (y ∷ ys) (suc i) (suc j) x less e = inr (earlier ys i j x (omega arith) e)

pub holds_at : {X : Type 0} (breaks : List X → X → Bool) (xs : List X) → KeepsRule breaks xs
    → (j : ℕ) (x : X) → slice_get xs j ≡ Some x → breaks (take j xs) x ≡ false
holds_at breaks xs h j x e = h (take j xs) x (drop (suc j) xs) (cut xs j x e)

pub none_has : {X : Type 0} (p : X → Bool) (xs : List X) (x : X) → list_any p xs ≡ false → Has xs x → p x ≡ false
none_has p [] x e h = absurd h
none_has p (y ∷ ys) x e (inl same) = sym (ap p same) ∙ (or_parts (p y) (list_any p ys) e).0
none_has p (y ∷ ys) x e (inr h) = none_has p ys x (or_parts (p y) (list_any p ys) e).1 h

pub all_alike : {X K : Type 0} (key : X → K) (v : K) (xs : List X) → All (λ x. key x ≡ v) xs → AllPairs (λ a b. key a ≡ key b) xs
all_alike key v xs h = λ i j d less within. h i d (omega arith) ∙ sym (h j d within)

-- no two places have items with the same key
abbrev pub Once : {X K : Type 0} → (X → K) → List X → Type 0
Once {X} key xs = (i j : ℕ) (x y : X) → slice_get xs i ≡ Some x → slice_get xs j ≡ Some y → key x ≡ key y → i ≡ j

pub once_nil : {X K : Type 0} (key : X → K) → Once key []
once_nil key i j x y ex ey e = cc ex

pub once_cons : {X K : Type 0} (key : X → K) (x : X) (xs : List X) → Once key xs
    → ((y : X) → Has xs y → key x ≡ key y → ⊥) → Once key (x ∷ xs)
once_cons key x xs h new zero zero a b ea eb e = refl
once_cons key x xs h new zero (suc j) a b ea eb e = let same : x ≡ a = cc ea in absurd (new b (has_at xs j b eb) (ap key same ∙ e))
once_cons key x xs h new (suc i) zero a b ea eb e = let same : x ≡ b = cc eb in absurd (new a (has_at xs i a ea) (ap key same ∙ sym e))
once_cons key x xs h new (suc i) (suc j) a b ea eb e = ap suc (h i j a b ea eb e)

pub once_tail : {X K : Type 0} (key : X → K) (x : X) (xs : List X) → Once key (x ∷ xs) → Once key xs
once_tail key x xs h i j a b ea eb e = let same : suc i ≡ suc j = h (suc i) (suc j) a b ea eb e in omega arith

pub once_head : {X K : Type 0} (key : X → K) (x : X) (xs : List X) (y : X) → Once key (x ∷ xs) → Has xs y → key x ≡ key y → ⊥
once_head key x xs y h k e =
    let r = has_place xs y k in
    let same : 0 ≡ suc r.0 = h 0 (suc r.0) x y refl r.1 e in
    omega arith

pub once_append : {X K : Type 0} (key : X → K) (xs ys : List X) → Once key xs → Once key ys
    → ((x y : X) → Has xs x → Has ys y → key x ≡ key y → ⊥) → Once key (xs ++ ys)
once_append key [] ys hx hy new = hy
once_append key (x ∷ xs) ys hx hy new =
    once_cons key x (xs ++ ys)
    (once_append key xs ys (once_tail key x xs hx) hy (λ a b ha hb. new a b (inr ha) hb))
    (λ b hb e. by_part b (has_append xs ys b hb) e)
  where
    by_part : (b : _) → Has xs b ⊎ Has ys b → key x ≡ key b → ⊥
    by_part b (inl k) e = once_head key x xs b hx k e
    by_part b (inr k) e = new x b (inl refl) k e

pub once_by_order : {X K : Type 0} (key : X → K) (xs : List X)
    → ((i j : ℕ) (x y : X) → i < j → slice_get xs i ≡ Some x → slice_get xs j ≡ Some y
    → key x ≡ key y → ⊥) → Once key xs
once_by_order key xs later i j x y ex ey e = by_order (cases_order i j)
  where
    by_order : (i ≡ j) ⊎ ((i < j) ⊎ (j < i)) → i ≡ j
    by_order (inl same) = same
    by_order (inr (inl less)) = absurd (later i j x y less ex ey e)
    by_order (inr (inr less)) = absurd (later j i y x less ey ex (sym e))

-- `y` is made from the item `from`, which is item `k` of `xs`
pub record Made {X Y : Type 0} (f : X → Y) (xs : List X) (k : ℕ) (y : Y) : Type 0 where
  pub from : X
  pub at : slice_get xs k ≡ Some from
  pub gives : f from ≡ y

pub made_at : {X Y : Type 0} (f : X → Y) (xs : List X) (k : ℕ) (y : Y) → slice_get (map f xs) k ≡ Some y → Made f xs k y
made_at f [] k y e = cc e
made_at f (x ∷ xs) zero y e = record { from = x; at = refl; gives = cc e }
made_at f (x ∷ xs) (suc k) y e = let r : Made f xs k y = made_at f xs k y e in record { from = r.from; at = r.at; gives = r.gives }

-- if the items are numbered from `n` on, the item with number `k` passes the test
pub record Placed {X : Type 0} (p : X → Bool) (xs : List X) (n k : ℕ) : Type 0 where
  pub place : ℕ
  pub item : X
  pub number : k ≡ n + place
  pub at : slice_get xs place ≡ Some item
  pub passes : p item ≡ true

placed_at : {X : Type 0} (p : X → Bool) (n : ℕ) (xs : List X) (k : ℕ) → position_from p n xs ≡ Some k → Placed p xs n k
placed_at p n [] k e = cc e
placed_at {X} p n (x ∷ xs) k e = by_test (placed_at p (n + 1) xs k) (p x) refl e
  where
    by_test : (position_from p (n + 1) xs ≡ Some k → Placed p xs (n + 1) k) → (b : Bool) → p x ≡ b
        → cond b (Some n) (position_from p (n + 1) xs) ≡ Some k → Placed p (x ∷ xs) n k
    by_test rest true is found = let same : n ≡ k = cc found in record { place = 0; item = x; number = omega arith; at = refl; passes = is }
    by_test rest false is found =
        let r : Placed p xs (n + 1) k = rest found in
        record {
          place = suc r.place;
          item = r.item;
          number = omega (arith, r.number);
          at = r.at;
          passes
              = r.passes;
        }

pub record Found {X : Type 0} (p : X → Bool) (xs : List X) (k : ℕ) : Type 0 where
  pub item : X
  pub at : slice_get xs k ≡ Some item
  pub passes : p item ≡ true

pub found_at : {X : Type 0} (p : X → Bool) (xs : List X) (k : ℕ) → position_from p 0 xs ≡ Some k → Found p xs k
found_at p xs k e =
    let r : Placed p xs 0 k = placed_at p 0 xs k e in
    let same : r.place ≡ k = omega (arith, r.number) in
    record { item = r.item; at = subst (λ m. slice_get xs m ≡ Some r.item) same r.at; passes = r.passes }

pub never_found : {X : Type 0} (n : ℕ) (xs : List X) → position_from (λ x. false) n xs ≡ None
never_found n [] = refl
never_found n (x ∷ xs) = never_found (n + 1) xs

pub counted : {X : Type 0} (p : X → Bool) (xs : List X) (j : ℕ) (y : X) → slice_get xs j ≡ Some y → p y ≡ true → 1 ≤ count_by p xs
counted p [] j y e t = cc e
counted p (x ∷ xs) zero y e t =
    let same : x ≡ y = cc e in
    let here : ◌≡◌ {A = ℕ} (cond (p x) 1 0) 1 = ap (λ b. cond b 1 0) (ap p same ∙ t) in
    omega (arith, sum_by-cons (λ v. cond (p v) 1 0) x xs, here)
counted p (x ∷ xs) (suc j) y e t =
    let rest : 1 ≤ count_by p xs = counted p xs j y e t in
    omega (arith, sum_by-cons (λ v. cond (p v) 1 0) x xs, rest)

pub counted_once : {X : Type 0} (p : X → Bool) (xs : List X) (i j : ℕ) (x y : X) → count_by p xs ≤ 1
    → slice_get xs i ≡ Some x → slice_get xs j ≡ Some y → p x ≡ true → p y ≡ true → i ≡ j
counted_once p [] i j x y most ex ey tx ty = cc ex
counted_once p (z ∷ xs) zero zero x y most ex ey tx ty = refl
counted_once p (z ∷ xs) zero (suc j) x y most ex ey tx ty =
    let same : z ≡ x = cc ex in
    let here : ◌≡◌ {A = ℕ} (cond (p z) 1 0) 1 = ap (λ b. cond b 1 0) (ap p same ∙ tx) in
    let rest : 1 ≤ count_by p xs = counted p xs j y ey ty in
    absurd (omega (arith, sum_by-cons (λ v. cond (p v) 1 0) z xs, here, rest))
counted_once p (z ∷ xs) (suc i) zero x y most ex ey tx ty =
    let same : z ≡ y = cc ey in
    let here : ◌≡◌ {A = ℕ} (cond (p z) 1 0) 1 = ap (λ b. cond b 1 0) (ap p same ∙ ty) in
    let rest : 1 ≤ count_by p xs = counted p xs i x ex tx in
    absurd (omega (arith, sum_by-cons (λ v. cond (p v) 1 0) z xs, here, rest))
counted_once p (z ∷ xs) (suc i) (suc j) x y most ex ey tx ty =
    ap suc (counted_once p xs i j x y (omega (arith, sum_by-cons (λ v. cond (p v) 1 0) z xs)) ex ey tx ty)

pub once_item : {X K : Type 0} (key : X → K) (xs : List X) → Once key xs → (x y : X) → Has xs x → Has xs y → key x ≡ key y → x ≡ y
once_item {X} key xs once x y hx hy e =
    let r = has_place xs x hx in
    let s = has_place xs y hy in
    let same : ◌≡◌ {A = Option X} (Some x) (Some y) = sym r.1 ∙ (ap (slice_get xs) (once r.0 s.0 x y r.1 s.1 e) ∙ s.1) in
    cc same

pub there : {X : Type 0} (xs : List X) (k : ℕ) → k < length xs → is_some (slice_get xs k) ≡ true
there [] k less = absurd (omega arith)
there (x ∷ xs) zero less = refl
there (x ∷ xs) (suc k) less = there xs k (omega arith)
