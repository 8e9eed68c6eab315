-- Lemmas which say that a log of the walking test has a row for each compared SDR statement of the test.
use Rattle.std.proofs.Common.{◌≡◌, ◌∙◌, ℕ, suc, ◌+◌, Bool, true, false, cond, List, [], ◌∷◌, length, Option, Some, None, refl, ap, sym, arith}
use Rattle.std.specs.Prelude.{count_by, filter, slice_get}
use Rattle.std.specs.List.{range_with_len}
use Rattle.std.proofs.lemmas.List.Sums.{sum_by-cons}
use Rattle.std.proofs.Math.Nat.{one-mul}
use Rattle.board_defs.specs.declared.board.Ctl.{Ctl}
use Rattle.board_defs.specs.declared.board.Net.{Net}
use Rattle.board_defs.specs.declared.board.RawBoard.{RawBoard}
use Rattle.board_defs.specs.Pins.{data_bits}
use Rattle.tap_defs.specs.board.BoardScans.{RowScan, board_scans, is_walked, walk_row, walk_row_scans}
use Rattle.tap_defs.specs.board.Explaining.{CompareRows, HasShape, compared_scans, is_compared}
use Rattle.response_log.specs.LogRows.{HasSize}
use Rattle.walk_test.specs.WalkTest.{is_walk_net, scans_by, walk_row_list, walk_setting}
use Rattle.commands.specs.LogRead.{walk_rows}

none_kept : (q : ℕ → Bool) (numbers : List ℕ) → ((n : ℕ) → q n ≡ false) → filter q numbers ≡ []
none_kept q [] none = refl
none_kept q (n ∷ numbers) none = ap (λ (b : Bool). cond b (n ∷ filter q numbers) (filter q numbers)) (none n) ∙ none_kept q numbers none

-- Test `q` on the numbers from `k` on agrees with test `p` on the items of a list. So `q` accepts as many of these numbers as `p` accepts
-- items.
module _ {X : Type 0} (p : X → Bool) (q : ℕ → Bool) where
  kept_count : (k : ℕ) (xs : List X) → ((i : ℕ) (x : X) → slice_get xs i ≡ Some x → q (k + i) ≡ p x)
      → length (filter q (range_with_len k (length xs))) ≡ count_by p xs
  kept_count k [] tests = refl
  kept_count k (x ∷ xs) tests = by_test (p x) first (kept_count (k + 1) xs later) ∙ sym (sum_by-cons (λ y. cond (p y) 1 0) x xs)
    where
      first : q k ≡ p x
      first = let same : k ≡ k + 0 = omega arith in ap q same ∙ tests 0 x refl

      later : (i : ℕ) (y : X) → slice_get xs i ≡ Some y → q (k + 1 + i) ≡ p y
      later i y at = let same : k + 1 + i ≡ k + suc i = omega arith in ap q same ∙ tests (suc i) y at

      rest : List ℕ
      rest = filter q (range_with_len (k + 1) (length xs))

      by_test : (b : Bool) → q k ≡ b → length rest ≡ count_by p xs → length (cond (q k) (k ∷ rest) rest) ≡ cond b 1 0 + count_by p xs
      by_test true e counted = ap (λ (b : Bool). length (cond b (k ∷ rest) rest)) e ∙ omega (arith, counted)
      by_test false e counted = ap (λ (b : Bool). length (cond b (k ∷ rest) rest)) e ∙ omega (arith, counted)

module _ (board : RawBoard)
    (compare : (walk : List Ctl)
    → CompareRows (walk_row board) (count_by (is_walked board walk) board.nets) (walk ∷ [])
    (compared_scans board (walk_row_scans board walk)))
    (counted : (rows : List RowScan) → count_by is_compared (board_scans board rows) ≡ length (compared_scans board rows)) where
  -- a log of the walking test has as many rows as the test has compared SDR statements
  pub walk_rows_compared : walk_rows board ≡ count_by is_compared (board_scans board (walk_row_list board))
  walk_rows_compared = by_setting (walk_setting board) refl
    where
      tests : (walk : List Ctl) → walk_setting board ≡ Some walk → (i : ℕ) (net : Net)
          → slice_get board.nets i ≡ Some net
          → is_walk_net board (walk_setting board) (slice_get board.nets (0 + i))
          ≡ is_walked board walk net
      tests walk is i net at =
          let same : 0 + i ≡ i = omega arith in
          ap (λ (m : ℕ). is_walk_net board (walk_setting board) (slice_get board.nets m)) same
          ∙ ap (λ (o : Option (List Ctl)). is_walk_net board o (slice_get board.nets i)) is
          ∙ ap (λ (o : Option Net). is_walk_net board (Some walk) o) at

      by_setting : (o : Option (List Ctl)) → walk_setting board ≡ o
          → walk_rows board ≡ count_by is_compared (board_scans board (walk_row_list board))
      by_setting None is =
          ap (λ (nets : List ℕ). length nets)
          (none_kept (λ n. is_walk_net board (walk_setting board) (slice_get board.nets n))
          (range_with_len 0 (length board.nets))
          (λ n. ap (λ (o : Option (List Ctl)). is_walk_net board o (slice_get board.nets n))
          is))
          ∙ sym (counted []) ∙ ap (λ (o : Option (List Ctl)). count_by is_compared (board_scans board (scans_by board o))) (sym is)
      by_setting (Some walk) is =
          kept_count (is_walked board walk)
          (λ n. is_walk_net board (walk_setting board) (slice_get board.nets n)) 0 board.nets
          (tests walk is)
          ∙ sym (one-mul (count_by (is_walked board walk) board.nets))
          ∙ sym (compare walk).count
          ∙ sym (counted (walk_row_scans board walk))
          ∙ ap (λ (o : Option (List Ctl)). count_by is_compared (board_scans board (scans_by board o))) (sym is)

  pub walk_shaped : (log : List (List Bool)) → HasSize (walk_rows board) (data_bits board) log → HasShape board (walk_row_list board) log
  walk_shaped log size = record { rows = size.rows ∙ walk_rows_compared; bits = size.bits }

  pub walk_sized : (log : List (List Bool)) → HasShape board (walk_row_list board) log → HasSize (walk_rows board) (data_bits board) log
  walk_sized log shape = record { rows = shape.rows ∙ sym walk_rows_compared; bits = shape.bits }
