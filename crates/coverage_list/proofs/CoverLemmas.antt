-- Lemmas which show that each section of the coverage list consists of one text for each net number, joined in order.
use Rattle.std.proofs.Common.{◌≡◌, ℕ, zero, suc, ◌+◌, ◌-◌, Bool, true, false, not, ◌&&◌, cond, List, [], ◌∷◌, ◌++◌, length, map, filter, drop, Some, refl, sym, ap, ◌∙◌, arith}
use Rattle.std.specs.Prelude.{slice_get}
use Rattle.std.specs.List.{flat_map, range_with_len}
use Rattle.std.proofs.lemmas.Grind.{flat_map-append}
use Rattle.std.proofs.lemmas.List.{length-drop}
use Rattle.std.proofs.lemmas.List.Elements.{filter-append}
use Rattle.board_defs.specs.declared.board.Net.{Net}
use Rattle.board_defs.specs.declared.board.RawBoard.{RawBoard}
use Rattle.board_defs.specs.Decided.{is_covered, are_paired}
use Rattle.board_defs.specs.Passes.{pairs_within}
use Rattle.coverage_list.specs.declared.lines.PinUse.{PinUse}
use Rattle.coverage_list.specs.declared.lines.Section.{Section}
use Rattle.coverage_list.specs.declared.lines.Section.TheVariants.{Reasons, Untested, Pairs}
use Rattle.coverage_list.specs.CoverText.{is_untested, reason_lines, pin_line, net_pin_lines, pin_lines, pair_line, pair_lines}
use Rattle.coverage_list.specs.inner.CoverForms.{of_item, texts_from, net_reason, reason_at, pin_text_at, untested_pin_lines, untested_lines_at, pair_text, net_pairs, untested_pair_lines, section_at, section_lines}

flat_map_same : {X : Type 0} (f g : X → List ℕ) → ((x : X) → f x ≡ g x) → (xs : List X) → flat_map f xs ≡ flat_map g xs
flat_map_same f g h [] = refl
flat_map_same f g h (x ∷ xs) = ap (λ t. t ++ flat_map f xs) (h x) ∙ ap (λ t. g x ++ t) (flat_map_same f g h xs)

texts_where : {X : Type 0} (p : X → Bool) (f : X → List ℕ) (xs : List X) → flat_map (λ x. cond (p x) (f x) []) xs ≡ flat_map f (filter p xs)
texts_where p f [] = refl
texts_where {X} p f (x ∷ xs) = by (p x) (texts_where p f xs)
  where
    by : (t : Bool) → flat_map (λ (y : X). cond (p y) (f y) []) xs ≡ flat_map f (filter p xs)
        → cond t (f x) [] ++ flat_map (λ (y : X). cond (p y) (f y) []) xs
        ≡ flat_map f (cond t (x ∷ filter p xs) (filter p xs))
    by true rest = ap (λ t. f x ++ t) rest
    by false rest = rest

-- the texts of all items, joined in order; the text of an item may depend on the items after it
tails : {X : Type 0} → (X → List X → List ℕ) → List X → List ℕ
tails f [] = []
tails f (x ∷ xs) = f x xs ++ tails f xs

numbers_are : {X : Type 0} (f : X → List X → List ℕ) (h : ℕ → List ℕ) (a : ℕ) (xs : List X)
    → ((i : ℕ) (x : X) → slice_get xs i ≡ Some x → h (a + i) ≡ f x (drop (suc i) xs))
    → flat_map h (range_with_len a (length xs)) ≡ tails f xs
unfolding tails
numbers_are f h a [] each = refl
numbers_are {X} f h a (x ∷ xs) each =
    let here : a ≡ a + 0 = omega arith in
    let next : (i : ℕ) (y : X) → slice_get xs i ≡ Some y
    → h (a + 1 + i) ≡ f y (drop (suc i) xs) = λ i y e. let at : a + 1 + i
    ≡ a + suc i = omega arith in
    ap h at ∙ each (suc i) y e in
    ap (λ t. t ++ flat_map h (range_with_len (a + 1) (length xs))) (ap h here ∙ each zero x refl)
    ∙ ap (λ t. f x xs ++ t) (numbers_are f h (a + 1) xs next)

tails_alone : {X : Type 0} (f : X → List ℕ) (xs : List X) → tails (λ x later. f x) xs ≡ flat_map f xs
unfolding tails
tails_alone f [] = refl
tails_alone f (x ∷ xs) = ap (λ t. f x ++ t) (tails_alone f xs)

slice_get-drop : {X : Type 0} (xs : List X) (k i : ℕ) → slice_get xs (k + i) ≡ slice_get (drop k xs) i
slice_get-drop xs zero i = let e : 0 + i ≡ i = omega arith in ap (slice_get xs) e
slice_get-drop [] (suc k) i = refl
slice_get-drop (x ∷ xs) (suc k) i = let e : suc k + i ≡ suc (k + i) = omega arith in ap (slice_get (x ∷ xs)) e ∙ slice_get-drop xs k i

from_are : {X : Type 0} (f : X → List ℕ) (xs : List X) (k : ℕ)
    → texts_from (λ n. of_item f (slice_get xs n)) k (length xs) ≡ flat_map f (drop k xs)
from_are {X} f xs k =
    let h : ℕ → List ℕ = λ n. of_item f (slice_get xs n) in
    ap (λ n. flat_map h (range_with_len k n)) (sym (length-drop k xs))
    ∙ numbers_are (λ x later. f x) h k (drop k xs) (λ i x e. ap (of_item f) (slice_get-drop xs k i ∙ e))
    ∙ tails_alone f (drop k xs)

all_are : {X : Type 0} (f : X → List ℕ) (xs : List X) → texts_from (λ n. of_item f (slice_get xs n)) 0 (length xs) ≡ flat_map f xs
all_are f xs = from_are f xs 0

reasons_are : (board : RawBoard) → texts_from (reason_at board) 0 (length board.nets) ≡ reason_lines board
reasons_are board = all_are (net_reason board) board.nets

net_pins_are : (board : RawBoard) (pin_use : PinUse) (net : Net)
    → untested_pin_lines board pin_use net
    ≡ cond (is_covered board net) (net_pin_lines board pin_use net) []
net_pins_are board pin_use net =
    let n : length net.pins - 0 ≡ length net.pins = omega arith in
    ap (λ t. cond (is_covered board net) t []) (ap (λ k. flat_map (pin_text_at board pin_use net) (range_with_len 0 k)) n
    ∙ texts_where (is_untested board pin_use net)
    (λ place. pin_line pin_use (slice_get net.pins place)) (range_with_len 0 (length net.pins)))

pins_are : (board : RawBoard) (pin_use : PinUse)
    → texts_from (untested_lines_at board pin_use) 0 (length board.nets) ≡ pin_lines board pin_use
pins_are board pin_use =
    all_are (untested_pin_lines board pin_use) board.nets
    ∙ flat_map_same (untested_pin_lines board pin_use)
    (λ net. cond (is_covered board net) (net_pin_lines board pin_use net) [])
    (net_pins_are board pin_use) board.nets
    ∙ texts_where (is_covered board) (net_pin_lines board pin_use) board.nets

later_pairs : {X : Type 0} (p : X → Bool) (fit : X → X → Bool) (f : X → X → List ℕ) (x : X) (ys : List X)
    → flat_map (λ y. cond (p y && not (fit x y)) (f x y) []) ys
    ≡ flat_map (λ (pair : X × X). f pair.0 pair.1)
    (filter (λ (pair : X × X). not (fit pair.0 pair.1)) (map (λ y. (x, y)) (filter p ys)))
later_pairs p fit f x [] = refl
later_pairs {X} p fit f x (y ∷ ys) = by_pass (p y) (later_pairs p fit f x ys)
  where
    text : X × X → List ℕ
    text pair = f pair.0 pair.1

    parted : X × X → Bool
    parted pair = not (fit pair.0 pair.1)

    with_x : X → X × X
    with_x z = (x, z)

    rest : List ℕ
    rest = flat_map (λ (z : X). cond (p z && not (fit x z)) (f x z) []) ys

    left : List (X × X)
    left = filter parted (map with_x (filter p ys))

    by_fit : (t : Bool) → rest ≡ flat_map text left → cond (not t) (f x y) [] ++ rest ≡ flat_map text (cond (not t) ((x, y) ∷ left) left)
    by_fit true same = same
    by_fit false same = ap (λ t. f x y ++ t) same

    by_pass : (t : Bool) → rest ≡ flat_map text left
        → cond (t && not (fit x y)) (f x y) [] ++ rest
        ≡ flat_map text (filter parted (map with_x (cond t (y ∷ filter p ys) (filter p ys))))
    by_pass true same = by_fit (fit x y) same
    by_pass false same = same

all_pairs : {X : Type 0} (p : X → Bool) (fit : X → X → Bool) (f : X → X → List ℕ) (xs : List X)
    → tails
    (λ x later. cond (p x) (flat_map (λ y. cond (p y && not (fit x y)) (f x y) []) later) [])
    xs
    ≡ flat_map (λ (pair : X × X). f pair.0 pair.1)
    (filter (λ (pair : X × X). not (fit pair.0 pair.1)) (pairs_within (filter p xs)))
unfolding tails
all_pairs p fit f [] = refl
all_pairs {X} p fit f (x ∷ xs) = by_pass (p x) (all_pairs p fit f xs)
  where
    text : X × X → List ℕ
    text pair = f pair.0 pair.1

    parted : X × X → Bool
    parted pair = not (fit pair.0 pair.1)

    with_x : X → X × X
    with_x z = (x, z)

    of_one : X → List X → List ℕ
    of_one z later = cond (p z) (flat_map (λ (y : X). cond (p y && not (fit z y)) (f z y) []) later) []

    later : List (X × X)
    later = map with_x (filter p xs)

    by_pass : (t : Bool)
        → tails of_one xs ≡ flat_map text (filter parted (pairs_within (filter p xs)))
        → cond t (flat_map (λ (y : X). cond (p y && not (fit x y)) (f x y) []) xs) []
        ++ tails of_one xs
        ≡ flat_map text (filter parted (pairs_within (cond t (x ∷ filter p xs) (filter p xs))))
    by_pass true same =
        ap (λ t. t ++ tails of_one xs) (later_pairs p fit f x xs)
        ∙ ap (λ t. flat_map text (filter parted later) ++ t) same
        ∙ sym (flat_map-append text (filter parted later) (filter parted (pairs_within (filter p xs))))
        ∙ ap (flat_map text) (sym (filter-append parted later (pairs_within (filter p xs))))
    by_pass false same = same

net_pairs_are : (board : RawBoard) (n : ℕ) (low : Net)
    → net_pairs board n low
    ≡ cond (is_covered board low) (flat_map (pair_text board low) (drop (suc n) board.nets)) []
net_pairs_are board n low =
    let next : n + 1 ≡ suc n = omega arith in
    ap (λ t. cond (is_covered board low) t [])
    (from_are (pair_text board low) board.nets (n + 1)
    ∙ ap (λ k. flat_map (pair_text board low) (drop k board.nets)) next)

pairs_are : (board : RawBoard) → texts_from (untested_pair_lines board) 0 (length board.nets) ≡ pair_lines board
pairs_are board =
    let nets : List Net = board.nets in
    let n : length nets - 0 ≡ length nets = omega arith in
    let of_one : Net → List Net → List ℕ = λ low later. cond (is_covered board low) (flat_map (pair_text board low) later) [] in
    ap (λ k. flat_map (untested_pair_lines board) (range_with_len 0 k)) n
    ∙ numbers_are of_one (untested_pair_lines board) 0 nets
    (λ i low e. let at : 0 + i ≡ i = omega arith in
    ap (untested_pair_lines board) at ∙ ap (of_item (net_pairs board i)) e
    ∙ net_pairs_are board i low)
    ∙ all_pairs (is_covered board) (are_paired board) pair_line nets

pub section_is : (board : RawBoard) (section : Section)
    → texts_from (section_at board section) 0 (length board.nets) ≡ section_lines board section
section_is board Reasons = reasons_are board
section_is board (Untested pin_use) = pins_are board pin_use
section_is board Pairs = pairs_are board
