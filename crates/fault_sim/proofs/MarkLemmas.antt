-- Lemmas about marks of the hexadecimal digits of a log's rows. A digit is marked if, in some row, a compared bit of this digit is not the
-- expected bit. A net has the expected bits if none of the digits of its cells is marked.
use Rattle.std.proofs.Common.{◌≡◌, ◌⊎◌, inl, inr, ℕ, suc, ◌+◌, ◌*◌, ◌/◌, ◌%◌, ◌<◌, ◌≤◌, ◌==◌, Bool, true, false, not, ◌||◌, List, [], length, get_or, set, min, max, Option, Some, None, is_some, unwrap_or, refl, sym, ap, ◌∙◌, subst, arith}
use Rattle.std.specs.Prelude.{slice_get}
use Rattle.std.specs.List.{list_all}
use Rattle.std.specs.Int.{bit_at}
use Rattle.std.specs.Int.Bits.{bit_and, bit_or, bit_xor}
use Rattle.std.proofs.lemmas.Bool.{eqb-true, both_ways, cases_eq, cases_lt}
use Rattle.std.proofs.lemmas.Nat.{mul-add-lt}
use Rattle.std.proofs.lemmas.Nat.Bits.{bit_at-zero, bit_at-lt, bit_at_and, bit_at_or, bit_at_xor, same_from_bits}
use Rattle.std.proofs.lemmas.List.{get_or_past, get_or-set_same, get_or-set_other}
use Rattle.std.proofs.lemmas.Option.{get_or_from_slice_get}
use Rattle.bt_bits.specs.Digits.{digit_bit, digits_of}
use Rattle.bt_bits.proofs.DigitLemmas.{digits_of-get}
use Rattle.lists.proofs.ListLemmas.{item_there}
use Rattle.board_defs.specs.declared.board.Net.{Net}
use Rattle.board_defs.specs.declared.board.RawBoard.{RawBoard}
use Rattle.board_defs.specs.declared.board.Ctl.{Ctl}
use Rattle.board_defs.specs.BoardRules.{IsBoard}
use Rattle.board_defs.specs.Pins.{data_bits, is_same}
use Rattle.board_defs.proofs.Members.{Has, has_at, has_any}
use Rattle.board_defs.proofs.Places.{all_from}
use Rattle.board_defs.proofs.SameBits.{is_same_of_same}
use Rattle.tap_defs.specs.board.TestRows.{code_row, code_bit, net_code_bit, expect_bit}
use Rattle.response_log.specs.Kept.{AreRowDigits}
use Rattle.net_pins.specs.declared.nets.NetDriver.{NetDriver}
use Rattle.net_pins.specs.declared.nets.ReaderCell.{ReaderCell}
use Rattle.plan_tables.specs.declared.tables.PlanTables.{PlanTables}
use Rattle.plan_tables.specs.Tables.{first_position}
use Rattle.scan_planner.specs.Plans.{IsPlanOf, scan_of_pass}
use Rattle.plan_tables.proofs.LaidLemmas.{laid_at, length-laid, tdo_laid, mask_laid}
use Rattle.response_log.specs.LogRows.{bit_in}
use Rattle.fault_sim.specs.declared.effect.Effect.TheVariants.{Plain}
use Rattle.fault_sim.specs.Effects.{plan_readers, code_in, driver_in, place_of_driver}
use Rattle.fault_sim.specs.Fits.{cell_shows, ShowBy, NetShows, ShowsOn}
use Rattle.fault_sim.specs.Kept.{compared_in, expected_in}
use Rattle.fault_sim.specs.inner.Marks.{HasExpected, MarkRows, AreMarks, are_marked}
use Rattle.fault_sim.proofs.ShowLemmas.{ComparedCell, compared_cell}

-- if two digits agree under a mask, they agree at each bit at which the mask has a 1
masked_same : (a b mask k : ℕ) → bit_and (bit_xor a b) mask ≡ 0 → digit_bit mask k ≡ true → digit_bit a k ≡ digit_bit b k
masked_same a b mask k none on =
    let one : bit_at mask k ≡ 1 = eqb-true (bit_at mask k) 1 on in
    let zero_bit : min (bit_at (bit_xor a b) k) (bit_at mask k)
    ≡ 0 = sym (bit_at_and (bit_xor a b) mask k) ∙ ap (λ (n : ℕ). bit_at n k) none
    ∙ bit_at-zero k in
    let even : bit_at (bit_xor a b) k ≡ 0 = omega (arith, zero_bit, one) in
    let sum : (bit_at a k + bit_at b k) % 2 ≡ 0 = sym (bit_at_xor a b k) ∙ even in
    let same : bit_at a k ≡ bit_at b k = omega (arith, sum, bit_at-lt a k, bit_at-lt b k) in
    ap (λ (n : ℕ). n == 1) same

pub or_zeros : (a b : ℕ) → bit_or a b ≡ 0 → (a ≡ 0) × (b ≡ 0)
or_zeros a b none = (
  same_from_bits a 0 (λ i. omega (arith, union i, bit_at-zero i)),
  same_from_bits b 0 (λ i. omega (arith, union i, bit_at-zero i)),
)
  where
    union : (i : ℕ) → max (bit_at a i) (bit_at b i) ≡ 0
    union i = sym (bit_at_or a b i) ∙ ap (λ (n : ℕ). bit_at n i) none ∙ bit_at-zero i

-- A loop over the digits has checked the first k digits and now checks digit k. Then each unmarked digit among the first k + 1 digits was
-- unmarked at the start and has no wrong bit.
module _ (start marks : List ℕ) (wrong : ℕ → ℕ) (k : ℕ) (left : (i : ℕ) → k ≤ i → get_or marks i 0 ≡ get_or start i 0) where
  pub marked_more : k < length marks
      → ((i : ℕ) → i < k → get_or marks i 0 ≡ 0 → (get_or start i 0 ≡ 0) × (wrong i ≡ 0)) → (i : ℕ)
      → i < k + 1 → get_or (set marks k (bit_or (get_or marks k 0) (wrong k))) i 0 ≡ 0 →
      (get_or start i 0 ≡ 0) × (wrong i ≡ 0)
  marked_more within done i less none = by_place (cases_eq i k)
    where
      by_place : (i ≡ k) ⊎ (i ≡ k → ⊥) → (get_or start i 0 ≡ 0) × (wrong i ≡ 0)
      by_place (inl same) =
          let is : get_or (set marks k (bit_or (get_or marks k 0) (wrong k))) k 0
          ≡ bit_or (get_or marks k 0) (wrong k) = get_or-set_same marks k
          (bit_or (get_or marks k 0) (wrong k)) 0 within in
          let zeros = or_zeros (get_or marks k 0) (wrong k)
          (sym is
          ∙ sym
          (ap (λ (n : ℕ). get_or (set marks k (bit_or (get_or marks k 0) (wrong k))) n 0)
          same) ∙ none) in
          (ap (λ (n : ℕ). get_or start n 0) same ∙ sym (left k (omega arith)) ∙ zeros.0, ap wrong same ∙ zeros.1)
      by_place (inr differ) = done i (lower differ) (sym (get_or-set_other marks k i (bit_or (get_or marks k 0) (wrong k)) 0 differ) ∙ none)
        where
          lower : (i ≡ k → ⊥) → i < k
          lower ne = grind arith

  pub unmarked_left : (mark i : ℕ) → k + 1 ≤ i → get_or (set marks k mark) i 0 ≡ get_or start i 0
  unmarked_left mark i le = get_or-set_other marks k i mark 0 (λ same. omega (arith, le, same)) ∙ left i (omega (arith, le))

pub row_there : (passes width x j rows : ℕ) → rows ≡ passes * width → x < passes → j < width → x * width + j < rows
row_there passes width x j rows count x_less j_less = omega (arith, mul-add-lt x width j passes x_less j_less, commute width passes, count)
  where
    commute : (a b : ℕ) → a * b ≡ b * a
    commute a b = grind arith

module _ (board : RawBoard) (plan : PlanTables) where
  pub length-expected : (x j : ℕ) → length (expected_in board plan x j) ≡ data_bits board
  length-expected x j = ap length (tdo_laid board (scan_of_pass board plan x (suc j))) ∙ length-laid _ board

  pub length-compared : (x j : ℕ) → length (compared_in board plan x j) ≡ data_bits board
  length-compared x j = ap length (mask_laid board (scan_of_pass board plan x (suc j))) ∙ length-laid _ board

  -- If the digit of position `at` has no wrong compared bit in row j of pass x, and the test compares this row at the position, the log has
  -- the expected bit there.
  pub digit_expected : (log : List (List Bool)) (x j at : ℕ) (tdo mask : List Bool)
      (digits : List ℕ) → tdo ≡ expected_in board plan x j → mask ≡ compared_in board plan x j
      → AreRowDigits (get_or log (x * plan.width + j) []) digits → at < data_bits board →
      length (get_or log (x * plan.width + j) []) ≡ data_bits board →
      bit_and (bit_xor (get_or digits (at / 4) 0) (get_or (digits_of tdo) (at / 4) 0))
      (get_or (digits_of mask) (at / 4) 0) ≡ 0 → HasExpected board plan log x j at
  digit_expected log x j at tdo mask digits tdo_is mask_is are within long none on =
      are.bits at (omega (arith, within, long))
      ∙ masked_same (get_or digits (at / 4) 0) (get_or (digits_of tdo) (at / 4) 0) (get_or (digits_of mask) (at / 4) 0) (at % 4) none
      (digits_of-get mask at (omega (arith, within, ap length mask_is, length-compared x j))
      ∙ ap (λ (l : List Bool). get_or l at false) mask_is ∙ on)
      ∙ digits_of-get tdo at (omega (arith, within, ap length tdo_is, length-expected x j))
      ∙ ap (λ (l : List Bool). get_or l at false) tdo_is

module _ (board : RawBoard) (rules : IsBoard board) (plan : PlanTables) (p : IsPlanOf board plan)
    (log : List (List Bool)) (marks : List ℕ)
    (are : AreMarks board plan log (length plan.passes) marks) where
  -- if none of the digits of net n's cells is marked, each cell of the net that row j of pass x compares has bit j of the net's code
  module _ (n : ℕ) (unmarked : are_marked marks (plan_readers plan n) ≡ false) (x : ℕ)
      (less : x < length plan.passes) (net : Net) (is_net : slice_get board.nets n ≡ Some net)
      (pass : List Ctl) (stands : slice_get plan.passes x ≡ Some pass) (d : NetDriver)
      (enabled : driver_in plan pass n ≡ Some d) (j : ℕ) (j_less : j < plan.width) where
    module _ (reader : ReaderCell) (has : Has (plan_readers plan n) reader) (differs : (reader.place == d.place) ≡ false) where
      c : ComparedCell board plan pass j n net reader
      c = compared_cell board rules plan p x pass stands j n net is_net d enabled reader has differs

      expects : expect_bit board (scan_of_pass board plan x (suc j)).before c.part c.device c.cell
          ≡ Some (net_code_bit board plan.passes j n)
      expects =
          ap
          (λ (q : List Ctl). expect_bit board (code_row board plan.passes q j) c.part c.device
          c.cell) (get_or_from_slice_get plan.passes x pass [] stands) ∙ c.compared.expects

      inside : reader.position < data_bits board
      inside = omega (arith, c.position_is, (laid_at (λ q e b. false) board c.part c.device c.cell c.compared.is_device c.compared.below).0)

      compares : get_or (compared_in board plan x j) reader.position false ≡ true
      compares =
          ap (λ (i : ℕ). get_or (compared_in board plan x j) i false) c.position_is
          ∙ ap (λ (l : List Bool). get_or l (first_position board c.part + c.cell) false)
          (mask_laid board (scan_of_pass board plan x (suc j)))
          ∙ (laid_at
          (λ q e b. is_some
          (expect_bit board (scan_of_pass board plan x (suc j)).before q e b)) board c.part
          c.device c.cell c.compared.is_device c.compared.below).1
          ∙ ap (λ (o : Option Bool). is_some o) expects

      wants : get_or (expected_in board plan x j) reader.position false ≡ net_code_bit board plan.passes j n
      wants =
          ap (λ (i : ℕ). get_or (expected_in board plan x j) i false) c.position_is
          ∙ ap (λ (l : List Bool). get_or l (first_position board c.part + c.cell) false)
          (tdo_laid board (scan_of_pass board plan x (suc j)))
          ∙ (laid_at
          (λ q e b. unwrap_or
          (expect_bit board (scan_of_pass board plan x (suc j)).before q e b) false) board
          c.part c.device c.cell c.compared.is_device c.compared.below).1
          ∙ ap (λ (o : Option Bool). unwrap_or o false) expects

      clear : get_or marks (reader.position / 4) 0 ≡ 0
      clear = by_mark (get_or marks (reader.position / 4) 0 == 0) refl
        where
          by_mark : (b : Bool) → (get_or marks (reader.position / 4) 0 == 0) ≡ b → get_or marks (reader.position / 4) 0 ≡ 0
          by_mark true e = eqb-true (get_or marks (reader.position / 4) 0) 0 e
          by_mark false e =
              absurd
              (both_ways (are_marked marks (plan_readers plan n)) unmarked
              (has_any (λ (r : ReaderCell). not (get_or marks (r.position / 4) 0 == 0))
              (plan_readers plan n) reader has (ap not e)))

      bit_is : bit_in log (x * plan.width + j) reader.position ≡ code_bit (code_in plan n) j
      bit_is = are reader.position inside clear x less j j_less compares ∙ wants ∙ sym (ap (λ (k : ℕ). code_bit k j) c.code_is)

    cells_expected : list_all
        (cell_shows log (x * plan.width + j) d.place Plain j (code_bit (code_in plan n) j))
        (plan_readers plan n) ≡ true
    cells_expected =
        all_from (cell_shows log (x * plan.width + j) d.place Plain j (code_bit (code_in plan n) j)) (plan_readers plan n)
        (λ i y e. by_place y (has_at (plan_readers plan n) i y e) (y.place == d.place) refl)
      where
        by_place : (reader : ReaderCell) → Has (plan_readers plan n) reader → (b : Bool) → (reader.place == d.place) ≡ b →
            (b || is_same (bit_in log (x * plan.width + j) reader.position) (code_bit (code_in plan n) j)) ≡ true
        by_place y has true e = refl
        by_place y has false e = is_same_of_same (bit_in log (x * plan.width + j) y.position) (code_bit (code_in plan n) j) (bit_is y has e)

  unmarked_within : (n : ℕ) → n < length board.nets → are_marked marks (plan_readers plan n) ≡ false → ShowsOn board plan None log n
  unmarked_within n within unmarked x less =
      let net = item_there board.nets n within in
      let pass = item_there plan.passes x less in
      subst (λ (q : List Ctl). NetShows board plan None log (x * plan.width) q n)
      (sym (get_or_from_slice_get plan.passes x pass.0 [] pass.1))
      (by_driver net.0 net.1 pass.0 pass.1 (driver_in plan pass.0 n) refl)
    where
      by_driver : (net : Net) → slice_get board.nets n ≡ Some net → (pass : List Ctl)
          → slice_get plan.passes x ≡ Some pass → (o : Option NetDriver) → driver_in plan pass n ≡ o
          →
          ShowBy log (x * plan.width) plan.width (code_in plan n) (plan_readers plan n) Plain (place_of_driver o)
      by_driver net is_net pass stands None e = tt
      by_driver net is_net pass stands (Some d) e = λ j j_less. cells_expected n unmarked x less net is_net pass stands d e j j_less

  -- like `unmarked_within`, but without the condition that net n is on the board
  pub unmarked_shows : (n : ℕ) → are_marked marks (plan_readers plan n) ≡ false → ShowsOn board plan None log n
  unmarked_shows n unmarked = by_side (cases_lt n (length board.nets))
    where
      by_side : (n < length board.nets) ⊎ (length board.nets ≤ n) → ShowsOn board plan None log n
      by_side (inl within) x less = unmarked_within n within unmarked x less
      by_side (inr past) x less =
          let none : plan_readers plan n ≡ [] = get_or_past plan.nets.readers n [] (omega (arith, past, p.tables.readers_length)) in
          subst
          (λ (l : List ReaderCell). ShowBy log (x * plan.width) plan.width (code_in plan n) l
          Plain (place_of_driver (driver_in plan (get_or plan.passes x []) n))) (sym none)
          (by_driver x (place_of_driver (driver_in plan (get_or plan.passes x []) n)))
        where
          by_driver : (x : ℕ) (o : Option ℕ) → ShowBy log (x * plan.width) plan.width (code_in plan n) [] Plain o
          by_driver x None = tt
          by_driver x (Some d) = λ j less. refl

pub pass_more : (board : RawBoard) (plan : PlanTables) (log : List (List Bool)) (x : ℕ)
    (old new : List ℕ) → AreMarks board plan log x old
    → MarkRows board plan log x plan.width old new → AreMarks board plan log (x + 1) new
pass_more board plan log x old new are more at within unmarked pass less = by_pass (cases_eq pass x)
  where
    by_pass : (pass ≡ x) ⊎ (pass ≡ x → ⊥) → (j : ℕ) → j < plan.width → HasExpected board plan log pass j at
    by_pass (inl same) j below = subst (λ (i : ℕ). HasExpected board plan log i j at) (sym same) ((more at within unmarked).1 j below)
    by_pass (inr differ) j below = are at within ((more at within unmarked).0) pass (lower differ) j below
      where
        lower : (pass ≡ x → ⊥) → pass < x
        lower ne = grind arith
