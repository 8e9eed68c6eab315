-- Lemmas about a loop that looks for the first item that breaks a rule, and about its result.
use Rattle.std.proofs.Common.{◌≡◌, ℕ, ◌+◌, ◌<◌, ◌≤◌, get_or, Bool, true, false, List, [], ◌∷◌, ◌++◌, length, take, drop, Option, Some, None, refl, sym, ◌∙◌, ap, subst, arith, length-append, append_assoc, append-nil}
use Rattle.std.proofs.Math.ListN.{drop_of_length-le}
use Rattle.std.proofs.lemmas.List.{take_more, drop_more, length-take-le}
use Rattle.first_places.specs.Items.{first_from, first_break, IsFound}

pub first_more : {A : Type 0} (breaks : List A → A → Bool) (before : List A) (item : A)
    (items : List A) → breaks before item ≡ false
    → first_from breaks before (item ∷ items) ≡ first_from breaks (before ++ item ∷ []) items
first_more breaks before item items e = rw e refl

pub first_found : {A : Type 0} (breaks : List A → A → Bool) (before : List A) (item : A)
    (items : List A) → breaks before item ≡ true
    → first_from breaks before (item ∷ items) ≡ Some (length before + 1)
first_found breaks before item items e = rw e refl

-- none of `items` breaks the rule, if they follow the items `before`
abbrev HoldsFrom : {A : Type 0} → (List A → A → Bool) → List A → List A → Type 0
HoldsFrom {A} breaks before items =
    (front : List A) (item : A) (back : List A) → items ≡ front ++ item ∷ back
    → breaks (before ++ front) item ≡ false

record BreaksFrom {A : Type 0} (breaks : List A → A → Bool) (before items : List A) (number : ℕ) : Type 0 where
  front : List A
  item : A
  back : List A
  split : items ≡ front ++ item ∷ back
  place : number ≡ length before + length front + 1
  breaks_it : breaks (before ++ front) item ≡ true
  held : HoldsFrom breaks before front

abbrev FoundFrom : {A : Type 0} → (List A → A → Bool) → List A → List A → Option ℕ → Type 0
FoundFrom breaks before items None = HoldsFrom breaks before items
FoundFrom breaks before items (Some number) = BreaksFrom breaks before items number

holds_nil : {A : Type 0} (breaks : List A → A → Bool) (before : List A) → HoldsFrom breaks before []
holds_nil breaks before [] item back e = cc
holds_nil breaks before (x ∷ front) item back e = cc

holds_cons : {A : Type 0} (breaks : List A → A → Bool) (before : List A) (item : A) (items : List A)
    → breaks before item ≡ false → HoldsFrom breaks (before ++ item ∷ []) items
    → HoldsFrom breaks before (item ∷ items)
holds_cons breaks before item items e h [] x back split =
    let same : item ≡ x = cc in
    subst (λ xs. breaks xs x ≡ false) (sym (append-nil before)) (subst (λ y. breaks before y ≡ false) same e)
holds_cons breaks before item items e h (y ∷ front) x back split =
    let same : item ≡ y = cc in
    let rest : items ≡ front ++ x ∷ back = cc in
    subst (λ z. breaks (before ++ z ∷ front) x ≡ false) same
    (subst (λ xs. breaks xs x ≡ false) (append_assoc before (item ∷ []) front)
    (h front x back rest))

found_cons : {A : Type 0} (breaks : List A → A → Bool) (before : List A) (item : A) (items : List A)
    (o : Option ℕ) → breaks before item ≡ false → FoundFrom breaks (before ++ item ∷ []) items o
    → FoundFrom breaks before (item ∷ items) o
found_cons breaks before item items None e h = holds_cons breaks before item items e h
found_cons breaks before item items (Some number) e h = record {
  front = item ∷ h.front;
  item = h.item;
  back = h.back;
  split = ap (λ xs. item ∷ xs) h.split;
  place = h.place ∙ (omega (arith, length-append before (item ∷ [])));
  breaks_it = subst (λ xs. breaks xs h.item ≡ true) (append_assoc before (item ∷ []) h.front) h.breaks_it;
  held = holds_cons breaks before item h.front e h.held;
}

found_here : {A : Type 0} (breaks : List A → A → Bool) (before : List A) (item : A) (items : List A)
    → breaks before item ≡ true → BreaksFrom breaks before (item ∷ items) (length before + 1)
found_here breaks before item items e = record {
  front = [];
  item = item;
  back = items;
  split = refl;
  place = omega arith;
  breaks_it = subst (λ xs. breaks xs item ≡ true) (sym (append-nil before)) e;
  held = holds_nil breaks before;
}

found_step : {A : Type 0} (breaks : List A → A → Bool) (before : List A) (item : A) (items : List A)
    (b : Bool) → breaks before item ≡ b
    → FoundFrom breaks (before ++ item ∷ []) items (first_from breaks (before ++ item ∷ []) items)
    → FoundFrom breaks before (item ∷ items) (first_from breaks before (item ∷ items))
found_step breaks before item items true e h =
    subst (λ o. FoundFrom breaks before (item ∷ items) o)
    (sym (first_found breaks before item items e)) (found_here breaks before item items e)
found_step breaks before item items false e h =
    subst (λ o. FoundFrom breaks before (item ∷ items) o)
    (sym (first_more breaks before item items e))
    (found_cons breaks before item items (first_from breaks (before ++ item ∷ []) items) e h)

found_from : {A : Type 0} (breaks : List A → A → Bool) (items before : List A)
    → FoundFrom breaks before items (first_from breaks before items)
found_from breaks [] before = holds_nil breaks before
found_from breaks (item ∷ items) before =
    found_step breaks before item items (breaks before item) refl
    (found_from breaks items (before ++ item ∷ []))

is_found : {A : Type 0} (breaks : List A → A → Bool) (items : List A) (o : Option ℕ) → FoundFrom breaks [] items o → IsFound breaks items o
is_found breaks items None h = λ front item back e. h front item back e
is_found breaks items (Some number) h = record {
  before = h.front;
  item = h.item;
  after = h.back;
  split = h.split;
  place = h.place ∙ (omega arith);
  breaks_it = h.breaks_it;
  held = λ front item back e. h.held front item back e;
}

pub first_is_found : {A : Type 0} (breaks : List A → A → Bool) (items : List A) → IsFound breaks items (first_break breaks items)
first_is_found breaks items = is_found breaks items (first_break breaks items) (found_from breaks items [])

pub first_step : {A : Type 0} (breaks : List A → A → Bool) (items : List A) (i : ℕ) (item : A)
    (o : Option ℕ) → i < length items → get_or items i item ≡ item
    → breaks (take i items) item ≡ false
    → first_from breaks (take i items) (drop i items) ≡ o → first_from breaks (take (i + 1) items) (drop (i + 1) items) ≡ o
first_step breaks items i item o lt is e so_far =
    let front : take (i + 1) items ≡ take i items ++ item ∷ [] = take_more items i item lt ∙ ap (λ x. take i items ++ x ∷ []) is in
    let back : drop i items ≡ item ∷ drop (i + 1) items = drop_more items i item lt ∙ ap (λ x. x ∷ drop (i + 1) items) is in
    ap (λ xs. first_from breaks xs (drop (i + 1) items)) front ∙ sym (first_more breaks (take i items) item (drop (i + 1) items) e)
    ∙ ap (λ xs. first_from breaks (take i items) xs) (sym back) ∙ so_far

pub first_hit : {A : Type 0} (breaks : List A → A → Bool) (items : List A) (i : ℕ) (item : A)
    (o : Option ℕ) → i < length items → get_or items i item ≡ item
    → breaks (take i items) item ≡ true
    → first_from breaks (take i items) (drop i items) ≡ o → Some (i + 1) ≡ o
first_hit breaks items i item o lt is e so_far =
    let back : drop i items ≡ item ∷ drop (i + 1) items = drop_more items i item lt ∙ ap (λ x. x ∷ drop (i + 1) items) is in
    let len : length (take i items) ≡ i = length-take-le i items (omega arith) in
    ap (λ n. Some (n + 1)) (sym len) ∙ sym (first_found breaks (take i items) item (drop (i + 1) items) e)
    ∙ ap (λ xs. first_from breaks (take i items) xs) (sym back) ∙ so_far

pub first_end : {A : Type 0} (breaks : List A → A → Bool) (items : List A) (i : ℕ) (o : Option ℕ) → length items ≤ i
    → first_from breaks (take i items) (drop i items) ≡ o → None ≡ o
first_end breaks items i o le so_far = ap (λ xs. first_from breaks (take i items) xs) (sym (drop_of_length-le items le)) ∙ so_far
