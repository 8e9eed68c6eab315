-- Lemmas about rows of bits that say which nets are paired.
use Rattle.std.proofs.Common.{◌≡◌, ◌≢◌, inl, ℕ, suc, ◌+◌, ◌<◌, ◌≤◌, ◌==◌, Bool, true, false, not, ◌&&◌, ◌||◌, List, [], ◌∷◌, length, get_or, nat_lt, take, Option, Some, None, refl, sym, ◌∙◌, ap, subst, arith}
use Rattle.std.specs.Prelude.{slice_get}
use Rattle.std.specs.List.{list_any}
use Rattle.std.proofs.Math.Bool.{and-false, and-true}
use Rattle.std.proofs.lemmas.List.{take_more}
use Rattle.std.proofs.lemmas.Option.{slice_get_within}
use Rattle.std.proofs.lemmas.Bool.{eqb-true, false_from_ne_true}
use Rattle.std.proofs.lemmas.List.Folds.{list_any-append}
use Rattle.lists.proofs.Booleans.{and_right, eqb_refl, same_truth}
use Rattle.board_defs.specs.declared.board.Net.{Net}
use Rattle.board_defs.specs.declared.board.RawBoard.{RawBoard}
use Rattle.board_defs.specs.declared.board.Drive.{Drive}
use Rattle.board_defs.specs.declared.board.Drive.TheVariants.{AlwaysOn}
use Rattle.board_defs.specs.Decided.{can_enable}
use Rattle.board_defs.specs.Passes.{tested_drivers}
use Rattle.board_defs.proofs.Members.{Has}
use Rattle.board_defs.proofs.PassesKept.{tested_can_drive, tested_has}
use Rattle.net_classes.specs.Pairs.{drivers_at, drivers_there, fits_at, fit}
use Rattle.net_classes.specs.NetRows.{AreRowBits, stands_in}
use Rattle.net_classes.proofs.WordLemmas.{same_row}

pub nothing_out : (passes : ℕ → Bool) (row less : List ℕ) → less ≡ row → AreRowBits passes row
    → AreRowBits (λ n. passes n && not (stands_in [] n)) less
nothing_out passes row less e are =
    same_row passes (λ n. passes n && not (stands_in [] n)) (λ n. sym (and-true (passes n))) less
    (subst (AreRowBits passes) (sym e) are)

stands_more : (nets : List ℕ) (i n : ℕ) → i < length nets
    → stands_in (take (i + 1) nets) n
    ≡ (stands_in (take i nets) n || ((get_or nets i 0 == n) || false))
stands_more nets i n less =
    ap (list_any (λ k. k == n)) (take_more nets i 0 less)
    ∙ list_any-append (λ k. k == n) (take i nets) (get_or nets i 0 ∷ [])

or_right_true : (s : Bool) → (s || (true || false)) ≡ true
or_right_true true = refl
or_right_true false = refl

or_right_false : (s : Bool) → (s || (false || false)) ≡ s
or_right_false true = refl
or_right_false false = refl

pub out_now : (passes : ℕ → Bool) (nets : List ℕ) (i : ℕ) → i < length nets
    → (passes (get_or nets i 0) && not (stands_in (take (i + 1) nets) (get_or nets i 0))) ≡ false
out_now passes nets i less =
    let net : ℕ = get_or nets i 0 in
    ap (λ t. passes net && not t)
    (stands_more nets i net less
    ∙ ap (λ t. stands_in (take i nets) net || (t || false)) (eqb_refl net)
    ∙ or_right_true (stands_in (take i nets) net)) ∙ and-false (passes net)

pub out_still : (passes : ℕ → Bool) (nets : List ℕ) (i : ℕ) → i < length nets → (n : ℕ)
    → n ≢ get_or nets i 0
    → (passes n && not (stands_in (take (i + 1) nets) n))
    ≡ (passes n && not (stands_in (take i nets) n))
out_still passes nets i less n other =
    ap (λ t. passes n && not t)
    (stands_more nets i n less
    ∙ ap (λ t. stands_in (take i nets) n || (t || false))
    (false_from_ne_true (get_or nets i 0 == n)
    (λ h. other (sym (eqb-true (get_or nets i 0) n h))))
    ∙ or_right_false (stands_in (take i nets) n))

-- a net is covered if and only if it has a tested driver
pub covered_bit : (board : RawBoard) (n : ℕ) → nat_lt 0 (length (drivers_at board n)) ≡ fits_at board AlwaysOn n
covered_bit board n = by_net (slice_get board.nets n)
  where
    by_drivers : (net : Net) (ds : List Drive) → tested_drivers board net ≡ ds → nat_lt 0 (length ds) ≡ list_any (fit board AlwaysOn) ds
    by_drivers net [] e = refl
    by_drivers net (d ∷ ds) e =
        let P : List Drive → Type 0 = λ v. Has v d in
        let enabled : can_enable board (Some d)
        ≡ true = tested_can_drive board net d
        (tested_has board net d (subst P (sym e) (inl refl))) in
        let some : nat_lt 0 (suc (length ds)) ≡ true = grind arith in
        some ∙ sym (ap (λ t. t || list_any (fit board AlwaysOn) ds) enabled)

    by_net : (net : Option Net) → nat_lt 0 (length (drivers_there board net)) ≡ list_any (fit board AlwaysOn) (drivers_there board net)
    by_net None = refl
    by_net (Some net) = by_drivers net (tested_drivers board net) refl

pub none_below : (passes : ℕ → Bool) (n : ℕ) → false ≡ (nat_lt n 0 && passes n)
none_below passes n = let least : nat_lt n 0 ≡ false = grind arith in sym (ap (λ t. t && passes n) least)

pub below_now : (passes : ℕ → Bool) (k : ℕ) (on : Bool) → on ≡ passes k → (nat_lt k (k + 1) && passes k) ≡ on
below_now passes k on e = let less : nat_lt k (k + 1) ≡ true = grind arith in ap (λ t. t && passes k) less ∙ sym e

pub below_still : (passes : ℕ → Bool) (k n : ℕ) → n ≢ k → (nat_lt n (k + 1) && passes n) ≡ (nat_lt n k && passes n)
below_still passes k n other = let same : nat_lt n (k + 1) ≡ nat_lt n k = grind arith in ap (λ t. t && passes n) same

fits_there : (board : RawBoard) (d : Drive) (n : ℕ) → fits_at board d n ≡ true → n < length board.nets
fits_there board d n h = by_net (slice_get board.nets n) refl h
  where
    by_net : (net : Option Net) → slice_get board.nets n ≡ net
        → list_any (fit board d) (drivers_there board net) ≡ true → n < length board.nets
    by_net None e k = cc k
    by_net (Some net) e k = slice_get_within board.nets n net e

pub all_below : (board : RawBoard) (d : Drive) (count n : ℕ) → length board.nets ≤ count
    → (nat_lt n count && fits_at board d n) ≡ fits_at board d n
all_below board d count n most =
    same_truth (nat_lt n count && fits_at board d n) (fits_at board d n)
    (and_right (nat_lt n count) (fits_at board d n)) back
  where
    back : fits_at board d n ≡ true → (nat_lt n count && fits_at board d n) ≡ true
    back h =
        let less : n < length board.nets = fits_there board d n h in
        let below : nat_lt n count ≡ true = grind arith in
        ap (λ t. t && fits_at board d n) below ∙ h
