-- Lemmas about the walk nets, their places and their number.
use Rattle.std.proofs.Common.{◌≡◌, ℕ, zero, suc, ◌+◌, ◌<◌, ◌==◌, Bool, true, false, cond, List, [], ◌∷◌, length, take, Option, Some, None, refl, sym, ◌∙◌, ap, subst, arith}
use Rattle.std.specs.Prelude.{slice_get, filter, count_by, is_some, Contains}
use Rattle.std.specs.List.{range_with_len}
use Rattle.std.specs.Cmp.{both_ways as same_answer}
use Rattle.std.proofs.lemmas.Bool.{eqb-true, eq-eqb}
use Rattle.std.proofs.lemmas.List.Sums.{sum_by-cons}
use Rattle.board_defs.specs.declared.board.Net.{Net}
use Rattle.board_defs.specs.declared.board.RawBoard.{RawBoard}
use Rattle.board_defs.specs.declared.board.Ctl.{Ctl}
use Rattle.board_defs.specs.Settings.{holds}
use Rattle.board_defs.proofs.Members.{has_place, contains_has}
use Rattle.board_defs.proofs.Ordered.{order_filter, order_range}
use Rattle.tap_defs.specs.board.TestRows.{observing_driver}
use Rattle.tap_defs.specs.board.BoardScans.{is_walked}
use Rattle.tap_defs.proofs.chain.ListLemmas.{Rises}
use Rattle.walk_test.specs.WalkTest.{is_walk_net, walk_setting, walk_nets}
use Rattle.walk_test.proofs.CellLemmas.{WalkedBy}

count_cons : {X : Type 0} (p : X → Bool) (x : X) (xs : List X) → count_by p (x ∷ xs) ≡ cond (p x) 1 0 + count_by p xs
count_cons p x xs = sum_by-cons (λ y. cond (p y) 1 0) x xs

-- The items of a list are numbered from `k` on. `q` returns for an item's number what `p` returns for the item. `kept` lists the numbers of
-- the items that satisfy the test `p`.
module _ {X : Type 0} (p : X → Bool) (q : ℕ → Bool) where
  abbrev Tests : ℕ → List X → Type 0
  Tests k xs = (i : ℕ) (x : X) → slice_get xs i ≡ Some x → q (k + i) ≡ p x

  abbrev kept : ℕ → List X → List ℕ
  kept k xs = filter q (range_with_len k (length xs))

  next_tests : (k : ℕ) (y : X) (xs : List X) → Tests k (y ∷ xs) → Tests (k + 1) xs
  next_tests k y xs tests i x e = let z : k + 1 + i ≡ k + suc i = omega arith in ap q z ∙ tests (suc i) x e

  first_tests : (k : ℕ) (y : X) (xs : List X) → Tests k (y ∷ xs) → q k ≡ p y
  first_tests k y xs tests = let z : k ≡ k + 0 = omega arith in ap q z ∙ tests 0 y refl

  pub kept_length : (k : ℕ) (xs : List X) → Tests k xs → length (kept k xs) ≡ count_by p xs
  kept_length k [] tests = refl
  kept_length k (y ∷ xs) tests =
      by_test (p y) (first_tests k y xs tests) (kept_length (k + 1) xs (next_tests k y xs tests))
      ∙ sym (count_cons p y xs)
    where
      by_test : (b : Bool) → q k ≡ b → length (kept (k + 1) xs) ≡ count_by p xs
          → length (cond (q k) (k ∷ kept (k + 1) xs) (kept (k + 1) xs)) ≡ cond b 1 0 + count_by p xs
      by_test true e rest = ap (λ (b : Bool). length (cond b (k ∷ kept (k + 1) xs) (kept (k + 1) xs))) e ∙ omega (arith, rest)
      by_test false e rest = ap (λ (b : Bool). length (cond b (k ∷ kept (k + 1) xs) (kept (k + 1) xs))) e ∙ omega (arith, rest)

  -- the number at place `i` of the kept numbers is `n`, and the item with this number satisfies the test
  pub record KeptAt (k : ℕ) (xs : List X) (i n : ℕ) : Type 0 where
    pub place : ℕ
    pub item : X
    pub number_is : n ≡ k + place
    pub stands : slice_get xs place ≡ Some item
    pub passes : p item ≡ true
    pub counted : count_by p (take place xs) ≡ i

  pub kept_at : (k : ℕ) (xs : List X) → Tests k xs → (i n : ℕ) → slice_get (kept k xs) i ≡ Some n → KeptAt k xs i n
  kept_at k [] tests i n e = cc e
  kept_at k (y ∷ xs) tests i n e = by_test (q k) (first_tests k y xs tests) (kept_at (k + 1) xs (next_tests k y xs tests)) i e
    where
      later : (i : ℕ) (b : Bool) → p y ≡ b → KeptAt (k + 1) xs i n → KeptAt k (y ∷ xs) (cond b 1 0 + i) n
      later i b e r = record {
        place = suc r.place;
        item = r.item;
        number_is = omega (arith, r.number_is);
        stands = r.stands;
        passes = r.passes;
        counted =
            count_cons p y (take r.place xs)
            ∙ ap (λ (t : Bool). cond t 1 0 + count_by p (take r.place xs)) e
            ∙ ap (λ (m : ℕ). cond b 1 0 + m) r.counted;
      }

      by_place : q k ≡ p y → q k ≡ true
          → ((i n : ℕ) → slice_get (kept (k + 1) xs) i ≡ Some n → KeptAt (k + 1) xs i n) → (i : ℕ)
          → slice_get (k ∷ kept (k + 1) xs) i ≡ Some n → KeptAt k (y ∷ xs) i n
      by_place t on ih zero g =
          let same : k ≡ n = cc g in
          record { place = 0; item = y; number_is = omega (arith, same); stands = refl; passes = sym t ∙ on; counted = refl }
      by_place t on ih (suc i) g =
          let z : 1 + i ≡ suc i = omega arith in
          subst (λ (m : ℕ). KeptAt k (y ∷ xs) m n) z (later i true (sym t ∙ on) (ih i n g))

      by_test : (b : Bool) → b ≡ p y
          → ((i n : ℕ) → slice_get (kept (k + 1) xs) i ≡ Some n → KeptAt (k + 1) xs i n) → (i : ℕ)
          → slice_get (cond b (k ∷ kept (k + 1) xs) (kept (k + 1) xs)) i ≡ Some n
          → KeptAt k (y ∷ xs) i n
      by_test true t ih i g = by_place (first_tests k y xs tests) (first_tests k y xs tests ∙ sym t) ih i g
      by_test false t ih i g =
          let z : 0 + i ≡ i = omega arith in
          subst (λ (m : ℕ). KeptAt k (y ∷ xs) m n) z (later i false (sym t) (ih i n g))

  pub at_kept : (k : ℕ) (xs : List X) → Tests k xs → (place : ℕ) (x : X)
      → slice_get xs place ≡ Some x → p x ≡ true
      → slice_get (kept k xs) (count_by p (take place xs)) ≡ Some (k + place)
  at_kept k [] tests place x e passes = cc e
  at_kept k (y ∷ xs) tests zero x e passes =
      let same : y ≡ x = cc e in
      let z : k ≡ k + 0 = omega arith in
      ap (λ (b : Bool). slice_get (cond b (k ∷ kept (k + 1) xs) (kept (k + 1) xs)) 0)
      (first_tests k y xs tests ∙ ap p same ∙ passes) ∙ ap (λ (m : ℕ). Some m) z
  at_kept k (y ∷ xs) tests (suc place) x e passes =
      let z : k + 1 + place ≡ k + suc place = omega arith in
      ap (λ (m : ℕ). slice_get (cond (q k) (k ∷ kept (k + 1) xs) (kept (k + 1) xs)) m) (count_cons p y (take place xs))
      ∙ by_test (p y) (first_tests k y xs tests)
      ∙ at_kept (k + 1) xs (next_tests k y xs tests) place x e passes ∙ ap (λ (m : ℕ). Some m) z
    where
      by_test : (b : Bool) → q k ≡ b
          → slice_get (cond (q k) (k ∷ kept (k + 1) xs) (kept (k + 1) xs))
          (cond b 1 0 + count_by p (take place xs))
          ≡ slice_get (kept (k + 1) xs) (count_by p (take place xs))
      by_test true t =
          let z : 1 + count_by p (take place xs) ≡ suc (count_by p (take place xs)) = omega arith in
          ap
          (λ (b : Bool). slice_get (cond b (k ∷ kept (k + 1) xs) (kept (k + 1) xs))
          (1 + count_by p (take place xs))) t
          ∙ ap (λ (m : ℕ). slice_get (k ∷ kept (k + 1) xs) m) z
      by_test false t =
          let z : 0 + count_by p (take place xs) ≡ count_by p (take place xs) = omega arith in
          ap
          (λ (b : Bool). slice_get (cond b (k ∷ kept (k + 1) xs) (kept (k + 1) xs))
          (0 + count_by p (take place xs))) t ∙ ap (λ (m : ℕ). slice_get (kept (k + 1) xs) m) z

pub nets_rise : (board : RawBoard) → Rises (walk_nets board)
nets_rise board =
    order_filter (λ a b. a < b)
    (λ n. is_walk_net board (walk_setting board) (slice_get board.nets n))
    (range_with_len 0 (length board.nets)) (order_range 0 (length board.nets))

pub no_nets : (board : RawBoard) → walk_setting board ≡ None → walk_nets board ≡ []
no_nets board none = drop_all' (range_with_len 0 (length board.nets))
  where
    drop_all' : (xs : List ℕ) → filter (λ n. is_walk_net board (walk_setting board) (slice_get board.nets n)) xs ≡ []
    drop_all' [] = refl
    drop_all' (n ∷ xs) =
        ap
        (λ (o : Option (List Ctl)). cond (is_walk_net board o (slice_get board.nets n))
        (n
        ∷ filter (λ m. is_walk_net board (walk_setting board) (slice_get board.nets m))
        xs)
        (filter (λ m. is_walk_net board (walk_setting board) (slice_get board.nets m)) xs)) none
        ∙ drop_all' xs

module _ (board : RawBoard) (walk : List Ctl) (is : walk_setting board ≡ Some walk) where
  abbrev test : ℕ → Bool
  test n = is_walk_net board (walk_setting board) (slice_get board.nets n)

  tests : Tests (is_walked board walk) test 0 board.nets
  tests i net e =
      let z : 0 + i ≡ i = omega arith in
      ap (λ (m : ℕ). test m) z
      ∙ ap (λ (o : Option (List Ctl)). is_walk_net board o (slice_get board.nets i)) is
      ∙ ap (λ (o : Option Net). is_walk_net board (Some walk) o) e

  pub count_is : length (walk_nets board) ≡ count_by (is_walked board walk) board.nets
  count_is = kept_length (is_walked board walk) test 0 board.nets tests

  walked_by : (n : ℕ) (net : Net) → slice_get board.nets n ≡ Some net → is_walked board walk net ≡ true → WalkedBy board walk n
  walked_by n net e on = by_driver (observing_driver board (holds walk) net) refl on
    where
      by_driver : (o : Option ℕ) → observing_driver board (holds walk) net ≡ o → is_some o ≡ true → WalkedBy board walk n
      by_driver None q h = cc h
      by_driver (Some d) q h = record { net = net; is_net = e; driver = d; observing = q }

  pub record WalkAt (i n : ℕ) : Type 0 where
    pub by : WalkedBy board walk n
    pub counted : count_by (is_walked board walk) (take n board.nets) ≡ i

  pub walk_at : (i n : ℕ) → slice_get (walk_nets board) i ≡ Some n → WalkAt i n
  walk_at i n e =
      let r = kept_at (is_walked board walk) test 0 board.nets tests i n e in
      let z : n ≡ r.place = omega (arith, r.number_is) in
      record {
        by = walked_by n r.item (ap (λ (m : ℕ). slice_get board.nets m) z ∙ r.stands) r.passes;
        counted = ap (λ (m : ℕ). count_by (is_walked board walk) (take m board.nets)) z ∙ r.counted;
      }

  pub walk_has : (n : ℕ) → Contains (walk_nets board) n → WalkedBy board walk n
  walk_has n has = let at = has_place (walk_nets board) n (contains_has (walk_nets board) n has) in (walk_at at.0 n at.1).by

  pub place_of_walk : (n : ℕ) → WalkedBy board walk n
      → slice_get (walk_nets board) (count_by (is_walked board walk) (take n board.nets)) ≡ Some n
  place_of_walk n w =
      let z : 0 + n ≡ n = omega arith in
      at_kept (is_walked board walk) test 0 board.nets tests n w.net w.is_net
      (ap (λ (o : Option ℕ). is_some o) w.observing) ∙ ap (λ (m : ℕ). Some m) z

  -- in row `j`, the walk net at place `j` carries 1, and no other walk net does
  pub marked_is : (j one : ℕ) → slice_get (walk_nets board) j ≡ Some one → (n : ℕ)
      → WalkedBy board walk n
      → (count_by (is_walked board walk) (take n board.nets) == j) ≡ (n == one)
  marked_is j one at n w =
      same_answer (count_by (is_walked board walk) (take n board.nets) == j) (n == one)
      (λ e.
      let two : Some n
      ≡ Some one = sym (place_of_walk n w)
      ∙ ap (λ (i : ℕ). slice_get (walk_nets board) i)
      (eqb-true (count_by (is_walked board walk) (take n board.nets)) j e) ∙ at in
      let same : n ≡ one = cc two in
      eq-eqb n one same)
      (λ e. eq-eqb (count_by (is_walked board walk) (take n board.nets)) j
      (ap (λ (m : ℕ). count_by (is_walked board walk) (take m board.nets)) (eqb-true n one e)
      ∙ (walk_at j one at).counted))
