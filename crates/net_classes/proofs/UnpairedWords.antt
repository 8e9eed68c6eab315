-- Lemmas about words whose bits say which covered nets are not paired with a given net.
use Rattle.std.proofs.Common.{◌≡◌, ℕ, ◌+◌, ◌*◌, ◌/◌, ◌%◌, ◌-◌, ◌^◌, ◌<◌, Bool, true, false, not, ◌&&◌, List, get_or, length, min, Option, Some, None, refl, sym, ◌∙◌, ap, subst, arith, cond}
use Rattle.std.specs.Prelude.{slice_get}
use Rattle.std.specs.List.{list_any}
use Rattle.std.specs.Int.{bit_at, bit_not, w64}
use Rattle.std.specs.Int.Bits.{bit_and}
use Rattle.std.proofs.Math.Bool.{and-false}
use Rattle.std.proofs.lemmas.Nat.Bits.{bit_at_and, bit_at_not}
use Rattle.std.proofs.lemmas.Option.{slice_get-get_or}
use Rattle.lists.proofs.Booleans.{same_truth}
use Rattle.board_defs.specs.declared.board.Net.{Net}
use Rattle.board_defs.specs.declared.board.RawBoard.{RawBoard}
use Rattle.board_defs.specs.declared.board.Drive.{Drive}
use Rattle.board_defs.specs.declared.board.Drive.TheVariants.{AlwaysOn}
use Rattle.board_defs.specs.BoardRules.{IsBoard}
use Rattle.board_defs.specs.Decided.{is_covered, is_tested_driver}
use Rattle.board_defs.specs.Passes.{tested_drivers}
use Rattle.board_defs.proofs.Covered.{tested_below}
use Rattle.board_defs.proofs.Members.{Has, any_has, has_any, has_at}
use Rattle.board_defs.proofs.PassesKept.{Tested, has_tested, tested_can_drive, tested_drives, tested_has}
use Rattle.board_defs.proofs.Places.{FoundBelow, below_at, below_place}
use Rattle.net_classes.specs.declared.pair_rows.PairRows.{PairRows}
use Rattle.net_classes.specs.Kept.{ArePairRows}
use Rattle.net_classes.specs.Pairs.{AreWordBits, covered_there, drivers_at, drivers_there, fit, fits_at, fits_some, pairs_with, unpaired_with}
use Rattle.net_classes.specs.inner.PairRows.{drive_word}
use Rattle.net_classes.proofs.DriverPairs.{there_are}
use Rattle.net_classes.proofs.PairWords.{driver_word}

-- a net is covered if and only if it has a tested driver
covered_fits : (board : RawBoard) (net : Net) → is_covered board net ≡ list_any (fit board AlwaysOn) (tested_drivers board net)
covered_fits board net = same_truth (is_covered board net) (list_any (fit board AlwaysOn) (tested_drivers board net)) there back
  where
    there : is_covered board net ≡ true → list_any (fit board AlwaysOn) (tested_drivers board net) ≡ true
    there h =
        let r : FoundBelow (length net.pins) (is_tested_driver board net) = below_place (length net.pins) (is_tested_driver board net) h in
        let d : (d : Drive) × (_) = tested_drives board net r.number r.passes in
        let has : Has (tested_drivers board net) d.0 = has_tested board net r.number d.0 r.passes d.1 in
        has_any (fit board AlwaysOn) (tested_drivers board net) d.0 has (tested_can_drive board net d.0 (tested_has board net d.0 has))

    back : list_any (fit board AlwaysOn) (tested_drivers board net) ≡ true → is_covered board net ≡ true
    back h =
        let x : (d : Drive) × Has (tested_drivers board net) d
        × (fit board AlwaysOn d ≡ true) = any_has (fit board AlwaysOn)
        (tested_drivers board net) h in
        let s : Tested board net x.0 = tested_has board net x.0 x.1 in
        below_at (length net.pins) (is_tested_driver board net) s.place (tested_below board net s.place s.tested) s.tested

covered_says : (board : RawBoard) (n : ℕ) → fits_at board AlwaysOn n ≡ covered_there board (slice_get board.nets n)
covered_says board n = by_net (slice_get board.nets n)
  where
    by_net : (net : Option Net) → list_any (fit board AlwaysOn) (drivers_there board net) ≡ covered_there board net
    by_net None = refl
    by_net (Some net) = sym (covered_fits board net)

-- The word of the covered nets, with the bits of the nets that are paired with net `n` cleared, has the covered nets that are not paired
-- with net `n`.
pub unpaired_bits : (board : RawBoard) (pairs : PairRows) (n w word other : ℕ)
    → ArePairRows board pairs → word ≡ drive_word pairs AlwaysOn w → other < 2 ^ 64
    → AreWordBits (pairs_with board n) w other
    → AreWordBits (unpaired_with board n) w (bit_and word (bit_not w64 other))
unpaired_bits board pairs n w word other are e within paired i less =
    let m : ℕ = 64 * w + i in
    let covered : bit_at word i
    ≡ cond (covered_there board (slice_get board.nets m)) 1 0 = ap (λ v. bit_at v i) e
    ∙ are.covered w i less ∙ ap (λ t. cond t 1 0) (covered_says board m) in
    let unset : bit_at (bit_not w64 other) i
    ≡ 1 - cond (pairs_with board n m) 1 0 = bit_at_not w64 other i within less
    ∙ ap (λ b. 1 - b) (paired i less) in
    bit_at_and word (bit_not w64 other) i ∙ ap (λ b. min b (bit_at (bit_not w64 other) i)) covered
    ∙ ap (min (cond (covered_there board (slice_get board.nets m)) 1 0)) unset
    ∙ by_bits (covered_there board (slice_get board.nets m)) (pairs_with board n m)
  where
    by_bits : (s t : Bool) → min (cond s 1 0) (1 - cond t 1 0) ≡ cond (s && not t) 1 0
    by_bits true true = refl
    by_bits true false = refl
    by_bits false true = refl
    by_bits false false = refl

-- if the row of a tested driver of net `n` is the row of the covered nets, every covered net is paired with net `n`
pub all_paired : (board : RawBoard) (pairs : PairRows) (n : ℕ) (ds : List Drive) (i : ℕ) (d : Drive)
    → IsBoard board → ArePairRows board pairs → ds ≡ drivers_at board n → i < length ds
    → d ≡ get_or ds i d →
    ((w : ℕ) → drive_word pairs d w ≡ drive_word pairs AlwaysOn w) → (other : ℕ) → unpaired_with board n other ≡ false
all_paired board pairs n ds i d rules are e less this same m = by_covered (covered_there board (slice_get board.nets m)) refl
  where
    P : List Drive → Type 0
    P v = Has v d

    has : Has (drivers_at board n) d
    has = subst P e (has_at ds i d (slice_get-get_or ds i d less ∙ ap Some (sym this)))

    here : 64 * (m / 64) + m % 64 ≡ m
    here = omega arith

    bits : ◌≡◌ {A = ℕ} (cond (fits_at board d m) 1 0) (cond (fits_at board AlwaysOn m) 1 0)
    bits =
        ap (λ k. cond (fits_at board d k) 1 0) (sym here)
        ∙ sym (driver_word board pairs n (m / 64) d rules are has (m % 64) (omega arith)) ∙
        ap (λ v. bit_at v (m % 64)) (same (m / 64)) ∙ are.covered (m / 64) (m % 64) (omega arith)
        ∙ ap (λ k. cond (fits_at board AlwaysOn k) 1 0) here

    from_bits : (s t : Bool) → ◌≡◌ {A = ℕ} (cond s 1 0) (cond t 1 0) → t ≡ true → s ≡ true
    from_bits true t f h = refl
    from_bits false true f h = cc f
    from_bits false false f h = cc h

    by_covered : (t : Bool) → covered_there board (slice_get board.nets m) ≡ t → unpaired_with board n m ≡ false
    by_covered false f = ap (λ t. t && not (pairs_with board n m)) f
    by_covered true f =
        let fits : fits_at board d m ≡ true = from_bits (fits_at board d m) (fits_at board AlwaysOn m) bits (covered_says board m ∙ f) in
        let paired : pairs_with board n m ≡ true =
        there_are board (slice_get board.nets n) (slice_get board.nets m) ∙
        has_any (fits_some board (drivers_at board m)) (drivers_at board n) d has fits in
        ap (λ t. covered_there board (slice_get board.nets m) && not t) paired ∙ and-false (covered_there board (slice_get board.nets m))
