-- Lemmas about a loop that gathers the pins of each net word by word, and about the nets made from
-- the names and these lists of pins. The list of the pins of a net is the group of the net.
use Rattle.std.proofs.Common.{◌≡◌, ◌≢◌, ℕ, zero, suc, ◌+◌, ◌<◌, ◌≤◌, ◌==◌, Bool, true, false, cond, List, [], ◌∷◌, ◌++◌, length, map, take, drop, get_or, set, append_assoc, nat_lt, Option, Some, None, refl, sym, ap, ◌∙◌, arith, Bor}
use Rattle.std.specs.Prelude.{filter, zip, slice_get, option_map}
use Rattle.std.specs.Option.{option_to_list}
use Rattle.std.proofs.lemmas.Bool.{eqb-true}
use Rattle.std.proofs.lemmas.Option.{get_or_from_slice_get}
use Rattle.std.proofs.lemmas.List.{map-append, take_more, drop_more, get_or-set_same, get_or-set_other, append-nil}
use Rattle.std.proofs.lemmas.List.Elements.{filter-append}
use Rattle.lists.proofs.Booleans.{eqb_refl}
use Rattle.board_defs.specs.declared.board.Part.{Part}
use Rattle.board_defs.specs.declared.board.PinAt.{PinAt}
use Rattle.board_defs.specs.declared.board.NetPin.{NetPin}
use Rattle.board_defs.specs.declared.board.Net.{Net}
use Rattle.board_build.specs.declared.marked.MarkedWord.{MarkedWord}
use Rattle.board_lines.specs.NetWords.{NetWord, is_among}
use Rattle.board_lines.specs.LineRules.{Pulled, pull_of_net}
use Rattle.board_build.specs.inner.Marked.{Marked, seen_word, pin_with, marked_group, groups_after, marked_net, net_with, nets_with, nets_after, marks_after, net_by, is_free_at}

one_pin : (m : Marked) (b : Bool) → map pin_with (cond b (m ∷ []) []) ≡ cond b (pin_with m ∷ []) []
one_pin m true = refl
one_pin m false = refl

pub group_more : (words : List MarkedWord) (i : ℕ) (w : MarkedWord) (n : ℕ) → i < length words → get_or words i w ≡ w →
    marked_group (map seen_word (take (i + 1) words)) n
    ≡ marked_group (map seen_word (take i words)) n
    ++ cond (w.net == n) (pin_with (seen_word w) ∷ []) []
group_more words i w n within read =
    let more : take (i + 1) words ≡ take i words ++ w ∷ [] = take_more words i w within ∙ ap (λ v. take i words ++ v ∷ []) read in
    ap (λ v. marked_group (map seen_word v) n) more
    ∙ ap (λ v. marked_group v n) (map-append seen_word (take i words) (w ∷ []))
    ∙ ap (map pin_with) (filter-append (λ m. marked_net m == n) (map seen_word (take i words)) (seen_word w ∷ []))
    ∙ map-append pin_with (filter (λ m. marked_net m == n) (map seen_word (take i words)))
    (filter (λ m. marked_net m == n) (seen_word w ∷ []))
    ∙ ap (λ v. marked_group (map seen_word (take i words)) n ++ v) (one_pin (seen_word w) (w.net == n))

-- one step of the loop if word `i` is in one of the nets: its pin is appended to the group of its
-- net
pub groups_step : (words : List MarkedWord) (i : ℕ) (w : MarkedWord) (count : ℕ)
    (old new : List (List NetPin)) → i < length words → get_or words i w ≡ w → w.net < length old →
    new ≡ set old w.net (get_or old w.net [] ++ pin_with (seen_word w) ∷ [])
    → ((n : ℕ) → n < count → get_or old n [] ≡ marked_group (map seen_word (take i words)) n) →
    (n : ℕ) → n < count → get_or new n [] ≡ marked_group (map seen_word (take (i + 1) words)) n
groups_step words i w count old new within read inside changed was n less = by_test (w.net == n) refl
  where
    by_test : (b : Bool) → (w.net == n) ≡ b → get_or new n [] ≡ marked_group (map seen_word (take (i + 1) words)) n
    by_test true e =
        let same : w.net ≡ n = eqb-true w.net n e in
        let put : get_or new w.net []
        ≡ get_or old w.net []
        ++ pin_with (seen_word w) ∷ [] = ap (λ v. get_or v w.net []) changed
        ∙ get_or-set_same old w.net (get_or old w.net [] ++ pin_with (seen_word w) ∷ []) []
        inside in
        sym (ap (λ k. get_or new k []) same) ∙ put
        ∙ ap (λ k. get_or old k [] ++ pin_with (seen_word w) ∷ []) same
        ∙ ap (λ v. v ++ pin_with (seen_word w) ∷ []) (was n less)
        ∙ sym
        (ap
        (λ t. marked_group (map seen_word (take i words)) n
        ++ cond t (pin_with (seen_word w) ∷ []) []) e)
        ∙ sym (group_more words i w n within read)
    by_test false e =
        let other : n ≢ w.net = (λ same. wrong (sym (eqb_refl n) ∙ ap (λ k. k == n) same ∙ e)) in
        let kept : get_or new n []
        ≡ get_or old n [] = ap (λ v. get_or v n []) changed
        ∙ get_or-set_other old w.net n (get_or old w.net [] ++ pin_with (seen_word w) ∷ []) []
        other in
        kept ∙ was n less ∙ sym (append-nil (marked_group (map seen_word (take i words)) n))
        ∙ sym
        (ap
        (λ t. marked_group (map seen_word (take i words)) n
        ++ cond t (pin_with (seen_word w) ∷ []) []) e)
        ∙ sym (group_more words i w n within read)
      where
        wrong : true ≡ false → ⊥
        wrong h = cc h

-- one step of the loop if word `i` is in none of the nets: no group changes
pub groups_kept : (words : List MarkedWord) (i : ℕ) (w : MarkedWord) (count : ℕ)
    (old : List (List NetPin)) → i < length words → get_or words i w ≡ w → (w.net < count → ⊥) →
    ((n : ℕ) → n < count → get_or old n [] ≡ marked_group (map seen_word (take i words)) n)
    → (n : ℕ) → n < count
    → get_or old n [] ≡ marked_group (map seen_word (take (i + 1) words)) n
groups_kept words i w count old within read outside was n less = by_test (w.net == n) refl
  where
    by_test : (b : Bool) → (w.net == n) ≡ b → get_or old n [] ≡ marked_group (map seen_word (take (i + 1) words)) n
    by_test true e = let same : w.net ≡ n = eqb-true w.net n e in absurd (outside (omega (arith, same, less)))
    by_test false e =
        was n less ∙ sym (append-nil (marked_group (map seen_word (take i words)) n))
        ∙ sym
        (ap
        (λ t. marked_group (map seen_word (take i words)) n
        ++ cond t (pin_with (seen_word w) ∷ []) []) e) ∙ sym (group_more words i w n within read)

net_cong : (name : List ℕ) (s t : Bool) (p q : Option Bool) (as_ bs : List NetPin) → s ≡ t → p ≡ q → as_ ≡ bs →
    ◌≡◌ {A = Net} (record { name = name; supply = s; pull = p; pins = as_ }) (record { name = name; supply = t; pull = q; pins = bs })
net_cong name s t p q as_ bs es ep eb =
    ap (λ (v : Bool). let net : Net = record { name = name; supply = v; pull = p; pins = as_ } in net) es
    ∙ ap (λ (v : Option Bool). let net : Net = record { name = name; supply = t; pull = v; pins = as_ } in net) ep
    ∙ ap (λ (v : List NetPin). let net : Net = record { name = name; supply = t; pull = q; pins = v } in net) eb

-- if group `k` has the pins of net `n + k`, for each `k`, the nets made from the names and groups
-- are the nets of the definition
pub nets_zip : (supply : Bor (List ℕ) → Bool) (pull : Bor (List ℕ) → Option Bool)
    (supplies : List (List ℕ)) (pulls : List Pulled) (words : List Marked) →
    ((q : Bor (List ℕ)) → supply q ≡ is_among supplies q.now) → ((q : Bor (List ℕ)) → pull q ≡ pull_of_net pulls q.now) →
    (names : List (Bor (List ℕ))) (gs : List (List NetPin)) (n : ℕ) → length gs ≡ length names
    → ((k : ℕ) → k < length names → get_or gs k [] ≡ marked_group words (n + k)) →
    map (net_by supply pull) (zip names gs) ≡ nets_with supplies pulls words n (map (λ q. q.now) names)
nets_zip supply pull supplies pulls words hs hp [] gs n count h = refl
nets_zip supply pull supplies pulls words hs hp (q ∷ names) [] n count h = cc count
nets_zip supply pull supplies pulls words hs hp (q ∷ names) (g ∷ gs) n count h =
    let first : g ≡ marked_group words (n + 0) = h 0 (omega arith) in
    let here : n + 0 ≡ n = omega arith in
    let rest : length gs ≡ length names = omega (arith, count) in
    ap (λ (v : Net). v ∷ map (net_by supply pull) (zip names gs))
    (net_cong q.now (supply q) (is_among supplies q.now) (pull q) (pull_of_net pulls q.now) g
    (marked_group words n) (hs q) (hp q) (first ∙ ap (marked_group words) here))
    ∙ ap (λ (v : List Net). net_with supplies pulls words n q.now ∷ v)
    (nets_zip supply pull supplies pulls words hs hp names gs (n + 1) rest
    (λ k less. later k less))
  where
    later : (k : ℕ) → k < length names → get_or gs k [] ≡ marked_group words (n + 1 + k)
    later k less = let there : n + suc k ≡ n + 1 + k = omega arith in h (suc k) (omega (arith, less)) ∙ ap (marked_group words) there

pub mark_cong : (parts : List Part) (word : NetWord) (d e : Bool) (a b : Option PinAt) (i j : Bool) → d ≡ e → a ≡ b → i ≡ j →
    ◌≡◌ {A = Marked}
    (record { word = word; described = d; at = a; inert = i; always_on = is_free_at parts a })
    (record { word = word; described = e; at = b; inert = j; always_on = is_free_at parts b })
mark_cong parts word d e a b i j ed ea ei =
    ap (λ (v : Bool). let m : Marked = record { word = word; described = v; at = a; inert = i; always_on = is_free_at parts a } in m) ed
    ∙ ap
    (λ (v : Option PinAt). let m : Marked = record
    { word = word; described = e; at = v; inert = i; always_on = is_free_at parts v } in
    m) ea
    ∙ ap (λ (v : Bool). let m : Marked = record { word = word; described = e; at = b; inert = v; always_on = is_free_at parts b } in m) ei

pub at_place : {A : Type 0} (P : Option A → Type 0) (xs : List A) (i : ℕ) → i < length xs
    → ((x : A) → get_or xs i x ≡ x → P (Some x)) → P (slice_get xs i)
at_place {A} P xs i within given = by_get (slice_get xs i) refl
  where
    by_get : (o : Option A) → slice_get xs i ≡ o → P o
    by_get None e = absurd (outside xs i within e)
      where
        outside : (ys : List A) (k : ℕ) → k < length ys → slice_get ys k ≡ None → ⊥
        outside [] k h f = absurd (omega (arith, h))
        outside (y ∷ ys) zero h f = cc f
        outside (y ∷ ys) (suc k) h f = outside ys k (omega (arith, h)) f
    by_get (Some x) e = given x (get_or_from_slice_get xs i x x e)

-- combines `groups_step` and `groups_kept`: one step of the loop for any word `i`
pub groups_more : (words : List MarkedWord) (i count len : ℕ) (old new : List (List NetPin))
    → i < length words → len ≡ count → length old ≡ len →
    new ≡ groups_after (slice_get words i) len old
    → ((n : ℕ) → n < count → get_or old n [] ≡ marked_group (map seen_word (take i words)) n) →
    (n : ℕ) → n < count → get_or new n [] ≡ marked_group (map seen_word (take (i + 1) words)) n
groups_more words i count len old new within same size changed was =
    at_place
    (λ o. new ≡ groups_after o len old → (n : ℕ) → n < count
    → get_or new n [] ≡ marked_group (map seen_word (take (i + 1) words)) n) words i within
    (λ w read now. by_test w read (nat_lt w.net len) refl now) changed
  where
    by_test : (w : MarkedWord) → get_or words i w ≡ w → (b : Bool) → nat_lt w.net len ≡ b
        → new ≡ cond b (set old w.net (get_or old w.net [] ++ pin_with (seen_word w) ∷ [])) old
        → (n : ℕ) → n < count
        → get_or new n [] ≡ marked_group (map seen_word (take (i + 1) words)) n
    by_test w read true e now = groups_step words i w count old new within read inside now was
      where
        inside : w.net < length old
        inside = let below : w.net < len = grind arith in omega (arith, below, size)
    by_test w read false e now = λ n less. ap (λ v. get_or v n []) now ∙ groups_kept words i w count old within read outside was n less
      where
        outside : w.net < count → ⊥
        outside h = let above : len ≤ w.net = grind arith in omega (arith, above, same, h)

zip_nil : {A B : Type 0} (xs : List A) → ◌≡◌ {A = List (A × B)} (zip xs []) []
zip_nil [] = refl
zip_nil (x ∷ xs) = refl

-- one step of the loop: the net of name `i` is appended
pub zip_step : {A G N : Type 0} (f : A × G → N) (names : List A) (i : ℕ) (gs rest : List G)
    (nets new all : List N) → i < length names → rest ≡ drop 1 gs →
    new ≡ nets_after f (slice_get names i) (slice_get gs 0) nets
    → all ≡ nets ++ map f (zip (drop i names) gs)
    → all ≡ new ++ map f (zip (drop (i + 1) names) rest)
zip_step {A} {G} {N} f names i gs rest nets new all within er en same =
    at_place
    (λ o. new ≡ nets_after f o (slice_get gs 0) nets
    → all ≡ new ++ map f (zip (drop (i + 1) names) rest)) names i within
    (λ q read now. by_group q read gs er now same) en
  where
    by_group : (q : A) → get_or names i q ≡ q → (hs : List G) → rest ≡ drop 1 hs
        → new ≡ nets ++ option_to_list (option_map (λ g. f (q, g)) (slice_get hs 0))
        → all ≡ nets ++ map f (zip (drop i names) hs)
        → all ≡ new ++ map f (zip (drop (i + 1) names) rest)
    by_group q read [] er now same =
        same
        ∙ ap (λ (v : List (A × G)). nets ++ map f v)
        (zip_nil (drop i names) ∙ sym (zip_nil (drop (i + 1) names)))
        ∙ ap (λ (v : List G). nets ++ map f (zip (drop (i + 1) names) v)) (sym er)
        ∙ ap (λ (v : List N). v ++ map f (zip (drop (i + 1) names) rest)) (sym (append-nil nets) ∙ sym now)
    by_group q read (g ∷ hs) er now same =
        let cut : drop i names ≡ q ∷ drop (i + 1) names = drop_more names i q within ∙ ap (λ (v : A). v ∷ drop (i + 1) names) read in
        same ∙ ap (λ (v : List A). nets ++ map f (zip v (g ∷ hs))) cut
        ∙ sym (append_assoc nets (f (q, g) ∷ []) (map f (zip (drop (i + 1) names) hs)))
        ∙ ap (λ (v : List N). v ++ map f (zip (drop (i + 1) names) hs)) (sym now)
        ∙ ap (λ (v : List G). new ++ map f (zip (drop (i + 1) names) v)) (sym er)

-- one step of the loop: the value of `f` for word `i` is appended
pub mark_step : {A N : Type 0} (f : A → N) (words : List A) (i : ℕ) (done new : List N)
    → i < length words → new ≡ marks_after f (slice_get words i) done → done ≡ map f (take i words)
    → new ≡ map f (take (i + 1) words)
mark_step {A} {N} f words i done new within e was =
    at_place (λ o. new ≡ marks_after f o done → new ≡ map f (take (i + 1) words)) words i within
    (λ w read now. now ∙ ap (λ (v : List N). v ++ f w ∷ []) was
    ∙ sym (map-append f (take i words) (w ∷ []))
    ∙ ap (map f)
    (sym (take_more words i w within ∙ ap (λ (v : A). take i words ++ v ∷ []) read))) e
