-- Lemmas about the rows of a net's tested drivers. Together, their words say which nets are paired with the net.
use Rattle.std.proofs.Common.{◌≡◌, ℕ, ◌+◌, ◌<◌, ◌≤◌, true, false, ◌||◌, List, [], ◌∷◌, ◌++◌, length, take, get_or, Option, None, Some, refl, sym, ◌∙◌, ap, subst}
use Rattle.std.specs.Prelude.{slice_get}
use Rattle.std.specs.List.{list_any}
use Rattle.std.specs.Int.Bits.{bit_or}
use Rattle.std.proofs.Math.Bool.{or-false}
use Rattle.std.proofs.lemmas.List.{take_all, take_more}
use Rattle.std.proofs.lemmas.Option.{slice_get-get_or}
use Rattle.std.proofs.lemmas.List.Folds.{list_any-append}
use Rattle.board_defs.specs.declared.board.Ctl.{Ctl}
use Rattle.board_defs.specs.declared.board.Net.{Net}
use Rattle.board_defs.specs.declared.board.RawBoard.{RawBoard}
use Rattle.board_defs.specs.declared.board.Drive.{Drive}
use Rattle.board_defs.specs.declared.board.Drive.TheVariants.{AlwaysOn, OneSided, By}
use Rattle.board_defs.specs.BoardRules.{IsBoard}
use Rattle.board_defs.specs.Decided.{is_by, is_useful}
use Rattle.board_defs.specs.Passes.{tested_drivers}
use Rattle.board_defs.proofs.ControlOrder.{same_refl}
use Rattle.board_defs.proofs.Members.{Has, has_any, has_at}
use Rattle.board_defs.proofs.PassesKept.{tested_can_drive, tested_has}
use Rattle.board_defs.proofs.Places.{any_at}
use Rattle.net_classes.specs.declared.pair_rows.PairRows.{PairRows}
use Rattle.net_classes.specs.Kept.{ArePairRows}
use Rattle.net_classes.specs.inner.PairRows.{drive_word}
use Rattle.net_classes.specs.Pairs.{AreWordBits, drivers_at, drivers_there, fits_at, pairs_with}
use Rattle.net_classes.proofs.DriverPairs.{there_are}
use Rattle.net_facts.proofs.Marks.{useful_is}
use Rattle.net_classes.proofs.Paired.{has_cells}
use Rattle.net_classes.proofs.WordLemmas.{either_word, same_word}

tested_useful : (board : RawBoard) (n : ℕ) (net : Net) (c : Ctl) → slice_get board.nets n ≡ Some net
    → Has (tested_drivers board net) (By c) → is_useful board c ≡ true
tested_useful board n net c at has =
    sym (useful_is board c)
    ∙ any_at (λ (other : Net). list_any (λ d. is_by c (Some d)) (tested_drivers board other))
    board.nets n net at
    (has_any (λ d. is_by c (Some d)) (tested_drivers board net) (By c) has (same_refl c))

pub driver_word : (board : RawBoard) (pairs : PairRows) (n w : ℕ) (d : Drive) → IsBoard board
    → ArePairRows board pairs → Has (drivers_at board n) d
    → AreWordBits (fits_at board d) w (drive_word pairs d w)
driver_word board pairs n w d rules are has = by_net (slice_get board.nets n) refl d has
  where
    by_net : (net : Option Net) → slice_get board.nets n ≡ net → (d : Drive)
        → Has (drivers_there board net) d → AreWordBits (fits_at board d) w (drive_word pairs d w)
    by_net None at d has = absurd has
    by_net (Some net) at AlwaysOn has = are.covered w
    by_net (Some net) at OneSided has =
        let wrong : false
        ≡ true = tested_can_drive board net OneSided (tested_has board net OneSided has) in
        cc wrong
    by_net (Some net) at (By c) has = are.each c (has_cells board net (By c) rules has c refl) (tested_useful board n net c at has) w

pub word_more : (board : RawBoard) (pairs : PairRows) (n w : ℕ) (ds : List Drive) (i : ℕ)
    (d : Drive) (bits word : ℕ) → IsBoard board → ArePairRows board pairs → ds ≡ drivers_at board n
    → i < length ds → d ≡ get_or ds i d → word ≡ drive_word pairs d w →
    AreWordBits (λ m. list_any (λ e. fits_at board e m) (take i ds)) w bits
    → AreWordBits (λ m. list_any (λ e. fits_at board e m) (take (i + 1) ds)) w
    (bit_or bits word)
word_more board pairs n w ds i d bits word rules are e less this is before =
    let P : List Drive → Type 0 = λ v. Has v d in
    let Q : ℕ → Type 0 = λ v. AreWordBits (fits_at board d) w v in
    let has : Has (drivers_at board n) d = subst P e (has_at ds i d (slice_get-get_or ds i d less ∙ ap Some (sym this))) in
    same_word (λ m. list_any (λ x. fits_at board x m) (take i ds) || fits_at board d m)
    (λ m. list_any (λ x. fits_at board x m) (take (i + 1) ds)) same w (bit_or bits word)
    (either_word (λ m. list_any (λ x. fits_at board x m) (take i ds)) (fits_at board d) w bits word
    before (subst Q (sym is) (driver_word board pairs n w d rules are has)))
  where
    same : (m : ℕ)
        → (list_any (λ x. fits_at board x m) (take i ds) || fits_at board d m)
        ≡ list_any (λ x. fits_at board x m) (take (i + 1) ds)
    same m =
        ap (λ t. list_any (λ x. fits_at board x m) (take i ds) || t)
        (sym (or-false (fits_at board d m)))
        ∙ sym (list_any-append (λ x. fits_at board x m) (take i ds) (d ∷ [])) ∙
        ap (list_any (λ x. fits_at board x m)) (ap (λ x. take i ds ++ x ∷ []) this ∙ sym (take_more ds i d less))

pub word_whole : (board : RawBoard) (n w : ℕ) (ds : List Drive) (i bits : ℕ)
    → ds ≡ drivers_at board n → length ds ≤ i
    → AreWordBits (λ m. list_any (λ e. fits_at board e m) (take i ds)) w bits
    → AreWordBits (pairs_with board n) w bits
word_whole board n w ds i bits e most is =
    same_word (λ m. list_any (λ x. fits_at board x m) (take i ds)) (pairs_with board n) same w bits
    is
  where
    same : (m : ℕ) → list_any (λ x. fits_at board x m) (take i ds) ≡ pairs_with board n m
    same m =
        ap (list_any (λ x. fits_at board x m)) (take_all i ds most ∙ e)
        ∙ sym (there_are board (slice_get board.nets n) (slice_get board.nets m))
