-- Lemmas about the nets that each useful control tests, that is, the nets with a tested driver of this
-- control, and about the nets that a pass shows by these controls. A control is useful if it is safe alone
-- and enables a tested driver.
use Rattle.std.proofs.Common.{◌≡◌, ◌⊎◌, inl, inr, ℕ, zero, suc, ◌+◌, ◌/◌, ◌≤◌, ◌<◌, Bool, true, false, ◌&&◌, ◌||◌, List, [], ◌∷◌, ◌++◌, length, get_or, set, take, drop, Some, refl, sym, ◌∙◌, ap, arith, ltb}
use Rattle.std.specs.Prelude.{◌==◌, slice_get, All}
use Rattle.std.specs.List.{list_any}
use Rattle.std.proofs.Math.Bool.{and-false, and-true, or-false, or_comm}
use Rattle.std.proofs.lemmas.Bool.{and_parts, cases_eq, eq-eqb, lt-ltb, ltb-true, or_left, or_parts}
use Rattle.std.proofs.lemmas.List.{get_or-set_same, get_or-set_other, take_more}
use Rattle.std.proofs.lemmas.Option.{slice_get_within, get_or_from_slice_get}
use Rattle.std.proofs.lemmas.List.Elements.{All-cons, All-nil}
use Rattle.std.proofs.lemmas.List.Folds.{list_any-append}
use Rattle.lists.proofs.Booleans.{or_swap}
use Rattle.lists.proofs.ListLemmas.{item_there}
use Rattle.board_defs.specs.declared.board.Ctl.{Ctl}
use Rattle.board_defs.specs.declared.board.RawBoard.{RawBoard}
use Rattle.board_defs.specs.declared.board.Drive.{Drive}
use Rattle.board_defs.specs.declared.board.Drive.TheVariants.{AlwaysOn, OneSided, By}
use Rattle.board_defs.specs.Decided.{is_by}
use Rattle.board_defs.specs.Settings.{holds, same_ctl, IsInControlOrder}
use Rattle.board_defs.specs.Passes.{is_enabled, shows, useful_controls}
use Rattle.board_defs.proofs.ControlOrder.{same_refl}
use Rattle.driver_passes.specs.inner.Drafts.{passing_controls, has_number}
use Rattle.driver_passes.specs.inner.Tested.{AreListed, AreNoted, drives}
use Rattle.driver_passes.specs.inner.NumberSets.{is_in}
use Rattle.net_classes.specs.Pairs.{drivers_at}
use Rattle.driver_passes.proofs.BlockLemmas.{below_more, same_place}
use Rattle.driver_passes.proofs.ChosenLemmas.{chosen_next, chosen_skip}
use Rattle.driver_passes.proofs.ControlLemmas.{other_place}

enabled_with : (c : Ctl) (setting : List Ctl) (d : Drive) → is_enabled (c ∷ setting) d ≡ (is_by c (Some d) || is_enabled setting d)
enabled_with c setting AlwaysOn = refl
enabled_with c setting OneSided = refl
enabled_with c setting (By e) = refl

regroup : (a b x y : Bool) → ((a || b) || (x || y)) ≡ ((a || x) || (b || y))
regroup true b x y = refl
regroup false true true y = refl
regroup false true false y = refl
regroup false false true y = refl
regroup false false false y = refl

shows_with : (c : Ctl) (setting : List Ctl) (drivers : List Drive)
    → shows drivers (c ∷ setting) ≡ (drives c drivers || shows drivers setting)
shows_with c setting [] = refl
shows_with c setting (d ∷ drivers) =
    ap (λ t. t || shows drivers (c ∷ setting)) (enabled_with c setting d)
    ∙ ap (λ t. (is_by c (Some d) || is_enabled setting d) || t) (shows_with c setting drivers) ∙
    regroup (is_by c (Some d)) (is_enabled setting d) (drives c drivers) (shows drivers setting)

pub shows_split : (drivers : List Drive) (setting : List Ctl)
    → shows drivers setting ≡ (shows drivers [] || list_any (λ c. drives c drivers) setting)
shows_split drivers [] = sym (or-false (shows drivers []))
shows_split drivers (c ∷ setting) =
    shows_with c setting drivers ∙ ap (λ t. drives c drivers || t) (shows_split drivers setting)
    ∙ or_swap (drives c drivers) (shows drivers []) (list_any (λ e. drives e drivers) setting)

number_end : (numbers : List ℕ) (m n : ℕ) → has_number (numbers ++ m ∷ []) n ≡ (n == m || has_number numbers n)
number_end numbers m n =
    list_any-append (λ k. k == n) numbers (m ∷ [])
    ∙ ap (λ t. has_number numbers n || t) (or-false (m == n))
    ∙ or_comm (has_number numbers n) (m == n)
    ∙ ap (λ t. t || has_number numbers n) (same_place m n)

pub numbers_all : (numbers : List ℕ) (P : ℕ → Type 0) → ((n : ℕ) → has_number numbers n ≡ true → P n) → All P numbers
numbers_all [] P each = All-nil P
numbers_all (m ∷ numbers) P each =
    All-cons P m numbers (each m (or_left (m == m) (has_number numbers m) (eq-eqb m m refl)))
    (numbers_all numbers P (λ n h. each n (by_test (m == n) h)))
  where
    by_test : {x : Bool} (t : Bool) → x ≡ true → (t || x) ≡ true
    by_test true h = refl
    by_test false h = h

pub not_held : (controls : List Ctl) (p : ℕ) (c e : Ctl) → holds controls e ≡ false → slice_get controls p ≡ Some c → same_ctl e c ≡ false
not_held [] p c e none at = cc at
not_held (d ∷ controls) zero c e none at =
    let same : d ≡ c = cc at in
    sym (ap (same_ctl e) same) ∙ (or_parts (same_ctl e d) (holds controls e) none).0
not_held (d ∷ controls) (suc p) c e none at = not_held controls p c e (or_parts (same_ctl e d) (holds controls e) none).1 at

pub not_noted : (board : RawBoard) (lists : List (List ℕ)) (net : ℕ) (by : Ctl → Bool)
    → ((place : ℕ) (c : Ctl) → slice_get (useful_controls board) place ≡ Some c → by c ≡ false)
    → AreNoted board net by lists lists
not_noted board lists net by none place c at n =
    ap (λ t. t || has_number (get_or lists place []) n)
    (sym (and-false (n == net)) ∙ ap (λ t. n == net && t) (sym (none place c at)))

pub noted : (board : RawBoard) (lists : List (List ℕ)) (net q : ℕ) (e : Ctl) (list : List ℕ)
    → IsInControlOrder (useful_controls board) → length lists ≡ length (useful_controls board)
    → slice_get (useful_controls board) q ≡ Some e → list ≡ get_or lists q [] ++ net ∷ [] →
    AreNoted board net (λ c. is_by c (Some (By e))) lists (set lists q list)
noted board lists net q e list order size at' is place c at n = by_place (cases_eq place q)
  where
    within : q < length lists
    within = omega (arith, size, slice_get_within (useful_controls board) q e at')

    by_place : (place ≡ q) ⊎ (place ≡ q → ⊥)
        → has_number (get_or (set lists q list) place []) n
        ≡ ((n == net && same_ctl e c) || has_number (get_or lists place []) n)
    by_place (inl same) =
        let one : Some e ≡ Some c = sym at' ∙ sym (ap (slice_get (useful_controls board)) same) ∙ at in
        let control : e ≡ c = cc one in
        ap (λ k. has_number (get_or (set lists q list) k []) n) same
        ∙ ap (λ v. has_number v n) (get_or-set_same lists q list [] within ∙ is)
        ∙ number_end (get_or lists q []) net n ∙
        ap (λ t. t || has_number (get_or lists q []) n)
        (sym (and-true (n == net))
        ∙ ap (λ t. n == net && t) (sym (sym (ap (same_ctl e) control) ∙ same_refl e)))
        ∙ ap (λ k. (n == net && same_ctl e c) || has_number (get_or lists k []) n) (sym same)
    by_place (inr differ) =
        ap (λ v. has_number v n) (get_or-set_other lists q place list [] differ)
        ∙ ap (λ t. t || has_number (get_or lists place []) n)
        (sym (and-false (n == net))
        ∙ ap (λ t. n == net && t)
        (sym (other_place (useful_controls board) place q c e order at at' differ)))

pub noted_more : (board : RawBoard) (start before after : List (List ℕ)) (net : ℕ)
    (by more : Ctl → Bool) → AreNoted board net by start before
    → AreNoted board net more before after → AreNoted board net (λ c. by c || more c) start after
noted_more board start before after net by more one two place c at n =
    two place c at n ∙ ap (λ t. (n == net && more c) || t) (one place c at n)
    ∙ by_test (n == net) (by c) (more c) (has_number (get_or start place []) n)
  where
    by_test : (t a b x : Bool) → ((t && b) || ((t && a) || x)) ≡ ((t && (a || b)) || x)
    by_test true true true x = refl
    by_test true true false x = refl
    by_test true false b x = refl
    by_test false a b x = refl

-- The iteration of the loop for net `net` adds this net to the list of each useful control that tests it.
pub listed_more : (board : RawBoard) (net : ℕ) (before after : List (List ℕ)) (drivers : List Drive)
    → AreListed board net before → length after ≡ length before → drivers ≡ drivers_at board net
    → AreNoted board net (λ c. drives c drivers) before after → AreListed board (net + 1) after
listed_more board net before after drivers are size e noted = record {
  lists_length = size ∙ are.lists_length;
  lists_are =
      λ place c at n. noted place c at n
      ∙ ap (λ t. (n == net && drives c drivers) || t) (are.lists_are place c at n)
      ∙ ap (λ v. (n == net && drives c v) || (ltb n net && drives c (drivers_at board n))) e
      ∙ below_more (λ m. drives c (drivers_at board m)) net n;
}

-- The iteration of the loop for driver `i` of a net adds the net to the list of this driver's control.
pub noted_next : (board : RawBoard) (drivers : List Drive) (i net : ℕ)
    (start before after : List (List ℕ)) → i < length drivers
    → AreNoted board net (λ c. drives c (take i drivers)) start before
    → AreNoted board net (λ c. is_by c (Some (get_or drivers i AlwaysOn))) before after →
    AreNoted board net (λ c. drives c (take (i + 1) drivers)) start after
noted_next board drivers i net start before after less one two place c at n =
    noted_more board start before after net (λ d. drives d (take i drivers))
    (λ d. is_by d (Some (get_or drivers i AlwaysOn))) one two place c at n
    ∙ ap (λ t. (n == net && t) || has_number (get_or start place []) n) (sym (both c))
  where
    both : (d : Ctl) → drives d (take (i + 1) drivers) ≡ (drives d (take i drivers) || is_by d (Some (get_or drivers i AlwaysOn)))
    both d =
        ap (drives d) (take_more drivers i AlwaysOn less)
        ∙ list_any-append (λ e. is_by d (Some e)) (take i drivers)
        (get_or drivers i AlwaysOn ∷ [])
        ∙ ap (λ t. drives d (take i drivers) || t)
        (or-false (is_by d (Some (get_or drivers i AlwaysOn))))

-- The lemmas from here to the end of the file are about the row of a pass. A loop adds to the row the nets that each control of the pass
-- tests.

-- some control of the pass, at this place or later, controls a tested driver of the net
abbrev pub left_from : RawBoard → List ℕ → ℕ → ℕ → Bool
left_from board held place n =
    list_any (λ c. drives c (drivers_at board n))
    (passing_controls (is_in held) place (drop place (useful_controls board)))

pub left_skip : (board : RawBoard) (held : List ℕ) (place next n : ℕ) → place ≤ next
    → ((m : ℕ) → place ≤ m → m < next → is_in held m ≡ false)
    → left_from board held place n ≡ left_from board held next n
left_skip board held place next n least none =
    ap (list_any (λ c. drives c (drivers_at board n)))
    (chosen_skip (is_in held) (useful_controls board) place next least none)

list_is : (board : RawBoard) (lists : List (List ℕ)) (place : ℕ) (list : List ℕ)
    → AreListed board (length board.nets) lists → place < length (useful_controls board)
    → list ≡ get_or lists place [] →
    (c : Ctl) × (slice_get (useful_controls board) place ≡ Some c)
    × ((n : ℕ)
    → has_number list n ≡ (ltb n (length board.nets) && drives c (drivers_at board n)))
list_is board lists place list are less e =
    let there : (c : Ctl) × (slice_get (useful_controls board) place ≡ Some c) = item_there (useful_controls board) place less in
    (there.0, there.1, λ n. ap (λ v. has_number v n) e ∙ are.lists_are place there.0 there.1 n)

pub list_within : (board : RawBoard) (lists : List (List ℕ)) (place : ℕ) (list row : List ℕ)
    → AreListed board (length board.nets) lists → place < length (useful_controls board)
    → list ≡ get_or lists place [] → length row ≡ length board.nets / 64 + 1
    → All (λ n. n / 64 < length row) list
list_within board lists place list row are less e room =
    let found = list_is board lists place list are less e in
    numbers_all list (λ n. n / 64 < length row) (λ n h.
    let within : n
    < length board.nets = ltb-true n (length board.nets)
    (and_parts (ltb n (length board.nets)) (drives found.0 (drivers_at board n))
    (sym (found.2 n) ∙ h)).0 in
    omega (arith, within, room))

pub row_step : (board : RawBoard) (lists : List (List ℕ)) (held : List ℕ) (place next : ℕ)
    (list row after : List ℕ) (whole : ℕ → Bool) → AreListed board (length board.nets) lists
    → place < length (useful_controls board) → is_in held place ≡ true → place + 1 ≤ next
    → ((m : ℕ) → place + 1 ≤ m → m < next → is_in held m ≡ false) → list ≡ get_or lists place [] →
    ((n : ℕ) → is_in after n ≡ (has_number list n || is_in row n))
    → ((n : ℕ) → n < length board.nets → (is_in row n || left_from board held place n) ≡ whole n)
    →
    (n : ℕ) → n < length board.nets → (is_in after n || left_from board held next n) ≡ whole n
row_step board lists held place next list row after whole are less here least none e more rest n within =
    ap (λ t. t || later) (more n ∙ ap (λ t. t || is_in row n) number)
    ∙ turn (drives found.0 (drivers_at board n)) (is_in row n) later
    ∙ ap (λ t. is_in row n || t) (sym split) ∙ rest n within
  where
    later : Bool
    later = left_from board held next n

    found : (c : Ctl) × (slice_get (useful_controls board) place ≡ Some c)
        × ((m : ℕ)
        → has_number list m ≡ (ltb m (length board.nets) && drives c (drivers_at board m)))
    found = list_is board lists place list are less e

    number : has_number list n ≡ drives found.0 (drivers_at board n)
    number = found.2 n ∙ ap (λ t. t && drives found.0 (drivers_at board n)) (lt-ltb n (length board.nets) within)

    split : left_from board held place n ≡ (drives found.0 (drivers_at board n) || later)
    split =
        ap (list_any (λ c. drives c (drivers_at board n)))
        (chosen_next (is_in held) (useful_controls board) place next found.0 less here least
        none) ∙
        ap (λ c. drives c (drivers_at board n) || later) (get_or_from_slice_get (useful_controls board) place found.0 found.0 found.1)

    turn : (a r x : Bool) → ((a || r) || x) ≡ (r || (a || x))
    turn true true x = refl
    turn true false x = refl
    turn false r x = refl
