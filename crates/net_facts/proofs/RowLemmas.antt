-- Lemmas about changes of a list or a table at one place.
use Rattle.std.proofs.Common.{◌≡◌, ℕ, zero, suc, ◌<◌, ◌≤◌, List, [], ◌∷◌, length, map, take, get_or, refl, sym, ◌∙◌, ap, arith, add-one, ◌+◌, ◌++◌, ◌==◌, Bool, true, false, Option, Some}
use Rattle.std.proofs.Math.ListN.{set}
use Rattle.std.specs.Prelude.{slice_get, OnOk, Result, Ok, Err, Vec}
use Rattle.std.specs.declared.alloc.Global.{Global}
use Rattle.net_facts.specs.declared.classes.ControlClass.{ControlClass}
use Rattle.std.proofs.lemmas.List.{map_more}
use Rattle.std.proofs.lemmas.Option.{slice_get-get_or}
use Rattle.std.proofs.lemmas.Bool.{eqb-true}
use Rattle.net_facts.specs.declared.facts.NetFacts.{NetFacts}
use Rattle.net_facts.specs.Cells.{table, update_at}
use Rattle.net_facts.specs.inner.Rows.{copies, note_pins, note_net, note_nets}

pub update_past : {X : Type 0} (i : ℕ) (f : X → X) (xs : List X) → length xs ≤ i → update_at i f xs ≡ xs
update_past i f [] h = refl
update_past zero f (x ∷ xs) h = absurd (omega arith)
update_past (suc i) f (x ∷ xs) h = ap (λ ys. x ∷ ys) (update_past i f xs (omega arith))

pub set_is_update : {X : Type 0} (i : ℕ) (f : X → X) (xs : List X) (x : X) → i < length xs
    → x ≡ get_or xs i x → set xs i (f x) ≡ update_at i f xs
set_is_update i f [] x h e = absurd (omega arith)
set_is_update zero f (y ∷ xs) x h e = ap (λ z. f z ∷ xs) e
set_is_update (suc i) f (y ∷ xs) x h e = ap (λ ys. y ∷ ys) (set_is_update i f xs x (omega arith) e)

pub on_ok_map : {T E : Type 0} (r : Result T E) (P Q : Type 0) → (P → Q) → OnOk r P → OnOk r Q
on_ok_map (Ok x) P Q f h = f h
on_ok_map (Err e) P Q f h = h

pub set_row : {X : Type 0} (rows : List (Vec X Global)) (i : ℕ) (d new : Vec X Global)
    (f : List X → List X) → i < length rows → new.items ≡ f (get_or rows i d).items
    → table (set rows i new) ≡ update_at i f (table rows)
set_row [] i d new f h k = absurd (omega arith)
set_row (y ∷ rows) zero d new f h k = ap (λ z. z ∷ table rows) k
set_row (y ∷ rows) (suc i) d new f h k = ap (λ ys. y.items ∷ ys) (set_row rows i d new f (omega arith) k)

pub length_table : {X : Type 0} (rows : List (Vec X Global)) → length (table rows) ≡ length rows
length_table [] = refl
length_table (y ∷ rows) = ap (λ n. suc n) (length_table rows)

pub note_nets_more : (nets : List NetFacts) (i : ℕ) (x : NetFacts) (rows : List (List ControlClass))
    → i < length nets → x ≡ get_or nets i x
    → note_nets nets (i + 1) rows ≡ note_pins i x.closed (note_nets nets i rows) x.pins
note_nets_more nets i x rows h e =
    let got : slice_get nets i ≡ Some x = slice_get-get_or nets i x h ∙ ap Some (sym e) in
    ap (λ k. note_nets nets k rows) (add-one i)
    ∙ (let F : Option NetFacts
    → List (List ControlClass) = λ w. note_net i w (note_nets nets i rows) in
    ap F got)

get_front : {X : Type 0} (xs : List X) (x : X) (k : ℕ) → k < length xs → slice_get (xs ++ x ∷ []) k ≡ slice_get xs k
get_front [] x k h = absurd (omega arith)
get_front (y ∷ xs) x zero h = refl
get_front (y ∷ xs) x (suc k) h = get_front xs x k (omega arith)

get_end : {X : Type 0} (xs : List X) (x : X) (k : ℕ) → k ≡ length xs → slice_get (xs ++ x ∷ []) k ≡ Some x
get_end [] x zero h = refl
get_end [] x (suc k) h = absurd (omega arith)
get_end (y ∷ xs) x zero h = absurd (omega arith)
get_end (y ∷ xs) x (suc k) h = get_end xs x k (omega arith)

length_end : {X : Type 0} (xs : List X) (x : X) → length (xs ++ x ∷ []) ≡ suc (length xs)
length_end [] x = refl
length_end (y ∷ xs) x = ap suc (length_end xs x)

copies_length : {X : Type 0} (x : X) (n : ℕ) → length (copies x n) ≡ n
copies_length x zero = refl
copies_length x (suc n) = length_end (copies x n) x ∙ ap suc (copies_length x n)

pub copies_get : {X : Type 0} (x : X) (n k : ℕ) → k < n → slice_get (copies x n) k ≡ Some x
copies_get x zero k h = absurd (omega arith)
copies_get x (suc n) k h = by_last (k == n) refl (copies_get x n k)
  where
    by_last : (t : Bool) → (k == n) ≡ t → (k < n → slice_get (copies x n) k ≡ Some x) → slice_get (copies x n ++ x ∷ []) k ≡ Some x
    by_last true e rest = get_end (copies x n) x k (eqb-true k n e ∙ sym (copies_length x n))
    by_last false e rest =
        let less : k < n = grind arith in
        get_front (copies x n) x k (let l = copies_length x n in omega arith) ∙ rest less

pub set_value : {X : Type 0} (i : ℕ) (f : X → X) (xs : List X) (d new : X) → i < length xs
    → new ≡ f (get_or xs i d) → set xs i new ≡ update_at i f xs
set_value i f [] d new h e = absurd (omega arith)
set_value zero f (y ∷ xs) d new h e = ap (λ z. z ∷ xs) e
set_value (suc i) f (y ∷ xs) d new h e = ap (λ ys. y ∷ ys) (set_value i f xs d new (omega arith) e)

table_end : {Y : Type 0} (made : List (Vec Y Global)) (row : Vec Y Global) → table (made ++ row ∷ []) ≡ table made ++ row.items ∷ []
table_end [] row = refl
table_end (first ∷ made) row = ap (λ ys. first.items ∷ ys) (table_end made row)

pub table_more : {X Y : Type 0} (f : X → List Y) (rows : List X) (i : ℕ) (x : X)
    (made after : List (Vec Y Global)) (row : Vec Y Global) → i < length rows → x ≡ get_or rows i x
    → table made ≡ map f (take i rows) → row.items ≡ f x → after ≡ made ++ row ∷ []
    → table after ≡ map f (take (i + 1) rows)
table_more f rows i x made after row less at before is e =
    ap table e ∙ table_end made row ∙ ap (λ ys. ys ++ row.items ∷ []) before
    ∙ ap (λ y. map f (take i rows) ++ y ∷ []) (is ∙ ap f at) ∙ sym (map_more f rows i x less)
