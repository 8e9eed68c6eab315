-- The nets of a board, and the words from which the pins of the nets are made.
use Rattle.std.proofs.Common.{◌≡◌, ◌≢◌, ℕ, zero, suc, ◌+◌, ◌≤◌, ◌==◌, Bool, true, false, cond, List, [], ◌∷◌, length, map, Some, refl, sym, ap, subst, ◌∙◌, arith, nat_le}
use Rattle.std.specs.Prelude.{slice_get, filter, sum_by, AllPairs}
use Rattle.std.specs.Cmp.Lexicographic.{other_text}
use Rattle.std.proofs.lemmas.Bool.{eqb-true, eq-eqb, and_from}
use Rattle.std.proofs.lemmas.List.Sums.{sum_by-cons}
use Rattle.std.proofs.lemmas.List.{length-map}
use Rattle.std.proofs.lemmas.List.Kept.{AllPairs-filter}
use Rattle.lists.proofs.Booleans.{clash}
use Rattle.board_defs.specs.declared.board.NetPin.{NetPin}
use Rattle.board_defs.specs.declared.board.Net.{Net}
use Rattle.board_files.specs.Names.{same_word}
use Rattle.board_lines.specs.NetWords.{Pin, NetWord, same_pin, word_net, word_pin, pins_on_net, have_same_pin}
use Rattle.board_build.specs.BoardNets.{NetMarks, net_pin, board_net, nets_from, board_nets}
use Rattle.board_lines.proofs.ApartLemmas.{Apart, apart_pairs, apart_map, apart_weaker, one_place, Passing, passing, mapped}

-- the words that name pins of net `n`
abbrev pub words_on : List NetWord → ℕ → List NetWord
words_on words n = filter (λ word. word_net word == n) words

-- the net has the number `first + n`, and its name is at index `n` of the list
pub record NetAt (marks : NetMarks) (words : List NetWord) (first : ℕ) (names : List (List ℕ)) (n : ℕ) (net : Net) : Type 0 where
  pub name : List ℕ
  pub named : slice_get names n ≡ Some name
  pub is : net ≡ board_net marks words (first + n) name

pub net_at : (marks : NetMarks) (words : List NetWord) (first : ℕ) (names : List (List ℕ)) (n : ℕ)
    (net : Net) → slice_get (nets_from marks words first names) n ≡ Some net
    → NetAt marks words first names n net
net_at marks words first [] n net e = cc e
net_at marks words first (name ∷ names) zero net e =
    let same : board_net marks words first name ≡ net = cc e in
    let number : first ≡ first + 0 = omega arith in
    record { name = name; named = refl; is = sym same ∙ ap (λ k. board_net marks words k name) number }
net_at marks words first (name ∷ names) (suc n) net e =
    let r : NetAt marks words (first + 1) names n net = net_at marks words (first + 1) names n net e in
    let number : first + 1 + n ≡ first + suc n = omega arith in
    record { name = r.name; named = r.named; is = r.is ∙ ap (λ k. board_net marks words k r.name) number }

pub count_nets : (marks : NetMarks) (words : List NetWord) (first : ℕ) (names : List (List ℕ))
    → length (nets_from marks words first names) ≡ length names
count_nets marks words first [] = refl
count_nets marks words first (name ∷ names) = ap suc (count_nets marks words (first + 1) names)

pub names_of_nets : (marks : NetMarks) (words : List NetWord) (first : ℕ) (names : List (List ℕ))
    → map (λ net. net.name) (nets_from marks words first names) ≡ names
names_of_nets marks words first [] = refl
names_of_nets marks words first (name ∷ names) = ap (λ (v : List (List ℕ)). name ∷ v) (names_of_nets marks words (first + 1) names)

pub nets_differ : (marks : NetMarks) (words : List NetWord) (names : List (List ℕ))
    → Apart (λ a b. same_word a b ≡ false) names
    → AllPairs (λ (a b : Net). a.name ≢ b.name) (board_nets marks words names)
nets_differ marks words names h =
    let P : List (List ℕ) → Type 0 = λ v. Apart (λ a b. a ≢ b) v in
    apart_pairs _ _
    (apart_map (λ (net : Net). net.name) (λ a b. a ≢ b) (board_nets marks words names)
    (subst P (sym (names_of_nets marks words 0 names))
    (apart_weaker _ _ (λ a b e. other_text a b (sym e)) names h)))

-- the pin at index `place` of net `n` is made from the word at the same index among the net's words
pub record PinAtWord (marks : NetMarks) (words : List NetWord) (n place : ℕ) (pin : NetPin) : Type 0 where
  pub word : NetWord
  pub stands : slice_get (words_on words n) place ≡ Some word
  pub is : pin ≡ net_pin marks (word_pin word)

pub pin_at_word : (marks : NetMarks) (words : List NetWord) (names : List (List ℕ)) (n : ℕ) (net : Net) (place : ℕ) (pin : NetPin) →
    slice_get (board_nets marks words names) n ≡ Some net → slice_get net.pins place ≡ Some pin → PinAtWord marks words n place pin
pin_at_word marks words names n net place pin at e =
    let r : NetAt marks words 0 names n net = net_at marks words 0 names n net at in
    let number : 0 + n ≡ n = omega arith in
    let pins : net.pins
    ≡ map (net_pin marks) (map word_pin (words_on words n)) = ap (λ (v : Net). v.pins) r.is
    ∙ ap (λ k. map (net_pin marks) (pins_on_net words k)) number in
    let one = mapped (net_pin marks) (map word_pin (words_on words n)) place pin (sym (ap (λ v. slice_get v place) pins) ∙ e) in
    let two = mapped word_pin (words_on words n) place one.0 one.1 in
    record { word = two.0; stands = two.1; is = sym one.2 ∙ ap (net_pin marks) (sym two.2) }

same_name_refl : (a : List ℕ) → same_word a a ≡ true
same_name_refl [] = refl
same_name_refl (x ∷ xs) = and_from (x == x) (same_word xs xs) (eq-eqb x x refl) (same_name_refl xs)

pub same_pin_of : (a b : Pin) → a.0 ≡ b.0 → a.1 ≡ b.1 → same_pin a b ≡ true
same_pin_of a b e f =
    and_from (same_word a.0 b.0) (same_word a.1 b.1)
    (sym (ap (same_word a.0) e) ∙ same_name_refl a.0)
    (sym (ap (same_word a.1) f) ∙ same_name_refl a.1)

not_apart : (a b : NetWord) → (word_pin a).0 ≡ (word_pin b).0 → (word_pin a).1 ≡ (word_pin b).1 → have_same_pin a b ≡ false → ⊥
not_apart a b e f h = clash (have_same_pin a b) (same_pin_of (word_pin a) (word_pin b) e f) h

-- the nets `m` and `n` are the same, and so are the indices `i` and `j`
pub record SameWord (m n i j : ℕ) : Type 0 where
  pub net : m ≡ n
  pub place : i ≡ j

-- If no two words name the same pin, a pin determines which word names it: it determines the number
-- of the word's net, and the index of the word among the words of this net.
pub one_word : (words : List NetWord) → Apart (λ a b. have_same_pin a b ≡ false) words
    → (m n i j : ℕ) (a b : NetWord) → slice_get (words_on words m) i ≡ Some a
    → slice_get (words_on words n) j ≡ Some b →
    (word_pin a).0 ≡ (word_pin b).0 → (word_pin a).1 ≡ (word_pin b).1 → SameWord m n i j
one_word words apart m n i j a b ea eb e f =
    let at_a : Passing (λ word. word_net word == m) words a = passing (λ word. word_net word == m) words i a ea in
    let at_b : Passing (λ word. word_net word == n) words b = passing (λ word. word_net word == n) words j b eb in
    let pairs : AllPairs (λ a b. have_same_pin a b ≡ false) words = apart_pairs _ words apart in
    let place : at_a.place
    ≡ at_b.place = one_place (λ a b. have_same_pin a b ≡ false) words pairs at_a.place
    at_b.place a b at_a.stands at_b.stands (not_apart a b e f) (not_apart b a (sym e) (sym f))
    in
    let both : slice_get words at_b.place ≡ Some a = sym (ap (slice_get words) place) ∙ at_a.stands in
    let one : a ≡ b = cc (sym both ∙ at_b.stands) in
    let net : m ≡ n = sym (eqb-true (word_net a) m at_a.passes) ∙ ap word_net one ∙ eqb-true (word_net b) n at_b.passes in
    let here : slice_get (words_on words m) j ≡ Some b = ap (λ k. slice_get (words_on words k) j) net ∙ eb in
    record {
      net = net;
      place =
          one_place (λ a b. have_same_pin a b ≡ false) (words_on words m) (pairs_on words m pairs) i
          j a b ea here (not_apart a b e f) (not_apart b a (sym e) (sym f));
    }
  where
    pairs_on : (ws : List NetWord) (k : ℕ) → AllPairs (λ a b. have_same_pin a b ≡ false) ws
        → AllPairs (λ a b. have_same_pin a b ≡ false) (words_on ws k)
    pairs_on ws k h = AllPairs-filter (λ a b. have_same_pin a b ≡ false) (λ word. word_net word == k) ws h

-- 1 for true, and 0 for false
abbrev count_of : Bool → ℕ
count_of true = 1
count_of false = 0

-- if no item passes both `p` and `q`, and each item that passes one of them passes `r`, the numbers
-- of items that pass `p` and `q` add up to at most the number of items that pass `r`
cut_count : {X : Type 0} (p q r : X → Bool)
    → ((x : X) → count_of (p x) + count_of (q x) ≤ count_of (r x)) → (xs : List X)
    → length (filter p xs) + length (filter q xs) ≤ length (filter r xs)
cut_count p q r h [] = omega arith
cut_count {X} p q r h (x ∷ xs) = by_test (p x) (q x) (r x) (h x) (cut_count p q r h xs)
  where
    by_test : (a b c : Bool) → count_of a + count_of b ≤ count_of c → length (filter p xs) + length (filter q xs) ≤ length (filter r xs) →
        length (cond a (x ∷ filter p xs) (filter p xs)) + length
        (cond b (x ∷ filter q xs) (filter q xs))
        ≤ length (cond c (x ∷ filter r xs) (filter r xs))
    by_test true true true k ih = absurd (omega (arith, k))
    by_test true true false k ih = absurd (omega (arith, k))
    by_test true false true k ih = omega (arith, ih)
    by_test true false false k ih = absurd (omega (arith, k))
    by_test false true true k ih = omega (arith, ih)
    by_test false true false k ih = absurd (omega (arith, k))
    by_test false false true k ih = omega (arith, ih)
    by_test false false false k ih = ih

level : (k n : ℕ) → count_of (n == k) + count_of (nat_le (k + 1) n) ≤ count_of (nat_le k n)
level k n = by_test (n == k) (nat_le (k + 1) n) (nat_le k n) refl refl refl
  where
    by_test : (a b c : Bool) → (n == k) ≡ a → nat_le (k + 1) n ≡ b → nat_le k n ≡ c → count_of a + count_of b ≤ count_of c
    by_test true true c ea eb ec = absurd (both (eqb-true n k ea) eb)
      where
        both : n ≡ k → nat_le (k + 1) n ≡ true → ⊥
        both e f = grind arith
    by_test true false true ea eb ec = omega arith
    by_test true false false ea eb ec = absurd (low (eqb-true n k ea) ec)
      where
        low : n ≡ k → nat_le k n ≡ false → ⊥
        low e f = grind arith
    by_test false true true ea eb ec = omega arith
    by_test false true false ea eb ec = absurd (high eb ec)
      where
        high : nat_le (k + 1) n ≡ true → nat_le k n ≡ false → ⊥
        high e f = grind arith
    by_test false false true ea eb ec = omega arith
    by_test false false false ea eb ec = omega arith

count_filter : {X : Type 0} (p : X → Bool) (xs : List X) → length (filter p xs) ≤ length xs
count_filter p [] = omega arith
count_filter {X} p (x ∷ xs) = by_test (p x) (count_filter p xs)
  where
    by_test : (b : Bool) → length (filter p xs) ≤ length xs → length (cond b (x ∷ filter p xs) (filter p xs)) ≤ suc (length xs)
    by_test true h = omega (arith, h)
    by_test false h = omega (arith, h)

pins_from : (marks : NetMarks) (words : List NetWord) (first : ℕ) (names : List (List ℕ))
    → sum_by (λ (net : Net). length net.pins) (nets_from marks words first names)
    ≤ length (filter (λ word. nat_le first (word_net word)) words)
pins_from marks words first [] = omega arith
pins_from marks words first (name ∷ names) =
    let step : sum_by (λ (net : Net). length net.pins) (nets_from marks words first (name ∷ names))
    ≡ length (map (net_pin marks) (map word_pin (words_on words first))) + sum_by
    (λ (net : Net). length net.pins) (nets_from marks words (first + 1) names) = sum_by-cons
    (λ (net : Net). length net.pins) (board_net marks words first name)
    (nets_from marks words (first + 1) names) in
    let count : length (map (net_pin marks) (map word_pin (words_on words first)))
    ≡ length (words_on words first) = length-map (map word_pin (words_on words first))
    (net_pin marks) ∙ length-map (words_on words first) word_pin in
    let rest = pins_from marks words (first + 1) names in
    let cut = cut_count (λ word. word_net word == first)
    (λ word. nat_le (first + 1) (word_net word)) (λ word. nat_le first (word_net word))
    (λ word. level first (word_net word)) words in
    omega (arith, step, count, rest, cut)

pub pins_fit : (marks : NetMarks) (words : List NetWord) (names : List (List ℕ))
    → sum_by (λ (net : Net). length net.pins) (board_nets marks words names) ≤ length words
pins_fit marks words names =
    let few = pins_from marks words 0 names in
    let most = count_filter (λ word. nat_le 0 (word_net word)) words in
    omega (arith, few, most)
