-- Lemmas about the row of a control, that is, the nets that some safe setting with the control observes. The shared nets of a control are
-- the nets with a driver of this control and a driver of another control. A list of nets closes a covered net if each tested driver of this
-- net has a control with a driver on a net in the list. If control `c` is safe alone, the row of `c` has each covered net, except the nets
-- that the shared nets of `c` close and on which `c` has no tested driver.
use Rattle.std.proofs.Common.{◌≡◌, inl, inr, ℕ, ◌+◌, ◌/◌, ◌<◌, ◌==◌, Bool, true, false, not, ◌&&◌, ◌||◌, List, [], ◌∷◌, Contains, Decides, length, slice_index_or, nat_lt, Option, Some, None, refl, sym, ◌∙◌, ap, subst, arith, All}
use Rattle.std.specs.Prelude.{slice_get, filter}
use Rattle.std.specs.List.{list_any, list_all}
use Rattle.std.proofs.Math.Bool.{and-true}
use Rattle.std.proofs.lemmas.Option.{slice_get-get_or, slice_get_within}
use Rattle.std.proofs.lemmas.Bool.{and_from, eqb-true}
use Rattle.lists.proofs.Booleans.{and_left, and_right, clash, eqb_refl, same_truth}
use Rattle.board_defs.specs.declared.board.Ctl.{Ctl}
use Rattle.board_defs.specs.declared.board.Net.{Net}
use Rattle.board_defs.specs.declared.board.RawBoard.{RawBoard}
use Rattle.board_defs.specs.declared.board.Drive.{Drive}
use Rattle.board_defs.specs.declared.board.Drive.TheVariants.{AlwaysOn, OneSided, By}
use Rattle.board_defs.specs.Settings.{same_ctl}
use Rattle.board_defs.specs.Decided.{can_enable, drives_net, is_by, is_safe_alone, is_useful, share_net, tests_by}
use Rattle.board_defs.proofs.ControlOrder.{same_equal, same_refl}
use Rattle.board_defs.proofs.Members.{Has, any_has, contains_has, filter_has, has_any, has_at, has_contains, has_filter}
use Rattle.board_defs.proofs.PassesKept.{tested_can_drive, tested_has}
use Rattle.board_defs.proofs.Places.{any_at}
use Rattle.net_classes.specs.inner.Closed.{AreClosed, are_by_some, drives_some, is_by_one, is_closed_by}
use Rattle.net_classes.specs.Pairs.{drivers_at, drivers_there, fits_at, fit}
use Rattle.net_facts.specs.Kept.{drives_there, is_contended, shared_nets}
use Rattle.net_classes.specs.NetRows.{AreRowBits, stands_in}
use Rattle.net_classes.specs.inner.PairRows.{owns_at}
use Rattle.net_classes.proofs.ClosedLemmas.{nothing_closed}
use Rattle.net_classes.proofs.ContendedLemmas.{has_shares, share_has}
use Rattle.net_classes.proofs.PairRowLemmas.{covered_bit}
use Rattle.net_classes.proofs.WordLemmas.{same_row}

shares : (board : RawBoard) (c d : Ctl) → same_ctl c d ≡ false → drives_some board (shared_nets board c) d ≡ share_net board c d
shares board c d differ = same_truth (drives_some board (shared_nets board c) d) (share_net board c d) there back
  where
    drives : ℕ → Bool
    drives n = drives_there board d (slice_get board.nets n)

    there : list_any drives (shared_nets board c) ≡ true → share_net board c d ≡ true
    there h =
        let r : (n : ℕ) × Has (shared_nets board c) n × (drives n ≡ true) = any_has drives (shared_nets board c) h in
        let s : (net : Net) × (slice_get board.nets r.0 ≡ Some net) × (is_contended board c net ≡ true) = has_shares board c r.0 r.1 in
        any_at (λ (net : Net). drives_net board c net && drives_net board d net) board.nets r.0 s.0 s.1
        (and_from (drives_net board c s.0) (drives_net board d s.0)
        (and_left (drives_net board c s.0) _ s.2) (sym (ap (drives_there board d) s.1) ∙ r.2))

    back : share_net board c d ≡ true → list_any drives (shared_nets board c) ≡ true
    back h =
        let r : (n : ℕ) × Has (shared_nets board c) n × Has (shared_nets board d) n = share_has board c d differ h in
        let s : (net : Net) × (slice_get board.nets r.0 ≡ Some net) × (is_contended board d net ≡ true) = has_shares board d r.0 r.2 in
        has_any drives (shared_nets board c) r.0 r.1 (ap (drives_there board d) s.1 ∙ and_left (drives_net board d s.0) _ s.2)

-- control `c` enables the driver, or the driver has no control with a driver on a net that `c` shares with another control
abbrev may_fit : RawBoard → Ctl → Drive → Bool
may_fit board c d = is_by c (Some d) || not (is_by_one (drives_some board (shared_nets board c)) d)

fit_is : (board : RawBoard) (c : Ctl) (d : Drive) → is_safe_alone board c ≡ true
    → can_enable board (Some d) ≡ true → fit board (By c) d ≡ may_fit board c d
fit_is board c AlwaysOn safe h = safe
fit_is board c OneSided safe h = cc h
fit_is board c (By d) safe h =
    ap (λ t. t && is_safe_alone board d && (same_ctl c d || not (share_net board c d))) safe
    ∙ ap (λ t. t && (same_ctl c d || not (share_net board c d))) h
    ∙ by_same (same_ctl c d) refl (same_ctl d c) refl
  where
    some : Bool
    some = drives_some board (shared_nets board c) d

    by_same : (s : Bool) → same_ctl c d ≡ s → (t : Bool) → same_ctl d c ≡ t → (s || not (share_net board c d)) ≡ (t || not some)
    by_same true e true f = refl
    by_same false e false f = ap not (sym (shares board c d e))
    by_same true e false f = absurd (clash (same_ctl d c) (ap (same_ctl d) (same_equal c d e) ∙ same_refl d) f)
    by_same false e true f = absurd (clash (same_ctl c d) (ap (same_ctl c) (same_equal d c f) ∙ same_refl c) e)

any_on : {X : Type 0} (p q : X → Bool) (xs : List X) → ((x : X) → Has xs x → p x ≡ q x) → list_any p xs ≡ list_any q xs
any_on p q [] h = refl
any_on p q (x ∷ xs) h = ap (λ t. t || list_any p xs) (h x (inl refl)) ∙ ap (λ t. q x || t) (any_on p q xs (λ y k. h y (inr k)))

each_kept : (own one : Drive → Bool) (ds : List Drive)
    → list_any (λ d. own d || not (one d)) ds ≡ not (list_all one ds && not (list_any own ds))
each_kept own one [] = refl
each_kept own one (d ∷ ds) = by_driver (own d) (one d) (each_kept own one ds)
  where
    none : (s : Bool) → true ≡ not (s && false)
    none true = refl
    none false = refl

    by_driver : (s t : Bool)
        → list_any (λ d. own d || not (one d)) ds ≡ not (list_all one ds && not (list_any own ds))
        → ((s || not t) || list_any (λ d. own d || not (one d)) ds)
        ≡ not ((t && list_all one ds) && not (s || list_any own ds))
    by_driver true t rest = none (t && list_all one ds)
    by_driver false true rest = rest
    by_driver false false rest = refl

kept : (own one : Drive → Bool) → (Ctl → Bool) → (ds : List Drive) → Bool
kept own one p [] = false
kept own one p (d ∷ ds) = not (list_all one (d ∷ ds) && not (list_any own (d ∷ ds)))

all_kept : (own : Drive → Bool) (p : Ctl → Bool) (ds : List Drive)
    → list_any (λ d. own d || not (is_by_one p d)) ds
    ≡ (nat_lt 0 (length ds) && not (are_by_some p ds && not (list_any own ds)))
all_kept own p [] =
    let least : nat_lt 0 0 ≡ false = grind arith in
    sym (ap (λ t. t && not (are_by_some p [] && not (list_any own []))) least)
all_kept own p (d ∷ ds) =
    let some : nat_lt 0 (length (d ∷ ds)) ≡ true = grind arith in
    each_kept own (is_by_one p) (d ∷ ds) ∙ sym (ap (λ t. t && not (are_by_some p (d ∷ ds) && not (list_any own (d ∷ ds)))) some)

stands_filter : (q : ℕ → Bool) (xs : List ℕ) (n : ℕ) → stands_in (filter q xs) n ≡ (stands_in xs n && q n)
stands_filter q xs n = same_truth (stands_in (filter q xs) n) (stands_in xs n && q n) there back
  where
    there : stands_in (filter q xs) n ≡ true → (stands_in xs n && q n) ≡ true
    there h =
        let r : (k : ℕ) × Has (filter q xs) k × ((k == n) ≡ true) = any_has (λ k. k == n) (filter q xs) h in
        let s : Has xs r.0 × (q r.0 ≡ true) = filter_has q xs r.0 r.1 in
        and_from (stands_in xs n) (q n) (has_any (λ k. k == n) xs r.0 s.0 r.2) (sym (ap q (eqb-true r.0 n r.2)) ∙ s.1)

    back : (stands_in xs n && q n) ≡ true → stands_in (filter q xs) n ≡ true
    back h =
        let r : (k : ℕ) × Has xs k × ((k == n) ≡ true) = any_has (λ k. k == n) xs (and_left (stands_in xs n) (q n) h) in
        has_any (λ k. k == n) (filter q xs) r.0
        (has_filter q xs r.0 r.1
        (ap q (eqb-true r.0 n r.2) ∙ and_right (stands_in xs n) (q n) h)) r.2

stands_contains : (xs : List ℕ) (n : ℕ) (b : Bool) → Decides b (Contains xs n) → stands_in xs n ≡ b
stands_contains xs n b d = same_truth (stands_in xs n) b there back
  where
    there : stands_in xs n ≡ true → b ≡ true
    there h =
        let r : (k : ℕ) × Has xs k × ((k == n) ≡ true) = any_has (λ k. k == n) xs h in
        let P : ℕ → Type 0 = λ v. Has xs v in
        d.1 (has_contains xs n (subst P (eqb-true r.0 n r.2) r.1))

    back : b ≡ true → stands_in xs n ≡ true
    back h = has_any (λ k. k == n) xs n (contains_has xs n (d.0 h)) (eqb_refl n)

can_there : (board : RawBoard) (net : Option Net) (d : Drive) → Has (drivers_there board net) d → can_enable board (Some d) ≡ true
can_there board None d has = absurd has
can_there board (Some net) d has = tested_can_drive board net d (tested_has board net d has)

-- Let control `c` be safe alone, and let `closed` be the nets that the shared nets of `c` close. The nets that safe settings with `c`
-- observe are the covered nets, except those in `closed` on which `c` has no tested driver.
row_fits : (board : RawBoard) (c : Ctl) (closed : List ℕ) (n : ℕ) → is_safe_alone board c ≡ true
    → AreClosed board (shared_nets board c) closed →
    (fits_at board AlwaysOn n && not (stands_in (filter (λ n. not (owns_at board c n)) closed) n)) ≡ fits_at board (By c) n
row_fits board c closed n safe are =
    let ds : List Drive = drivers_at board n in
    let own : Drive → Bool = λ d. is_by c (Some d) in
    let p : Ctl → Bool = drives_some board (shared_nets board c) in
    ap (λ t. fits_at board AlwaysOn n && not t)
    (stands_filter (λ k. not (owns_at board c k)) closed n
    ∙ ap (λ t. t && not (owns_at board c n))
    (stands_contains closed n (is_closed_by board (shared_nets board c) n) (are n))) ∙
    ap (λ t. t && not (are_by_some p ds && not (list_any own ds))) (sym (covered_bit board n)) ∙ sym (all_kept own p ds) ∙
    sym (any_on (fit board (By c)) (may_fit board c) ds (λ d has. fit_is board c d safe (can_there board (slice_get board.nets n) d has)))

pub row_made : (board : RawBoard) (c : Ctl) (closed failing row : List ℕ)
    → is_safe_alone board c ≡ true → AreClosed board (shared_nets board c) closed
    → failing ≡ filter (λ n. not (owns_at board c n)) closed
    → AreRowBits (λ n. fits_at board AlwaysOn n && not (stands_in failing n)) row
    → AreRowBits (fits_at board (By c)) row
row_made board c closed failing row safe are e bits =
    same_row (λ n. fits_at board AlwaysOn n && not (stands_in failing n)) (fits_at board (By c))
    (λ n. ap (λ v. fits_at board AlwaysOn n && not (stands_in v n)) e
    ∙ row_fits board c closed n safe are) row bits

pub none_fail : (board : RawBoard) (failing row : List ℕ) → failing ≡ []
    → AreRowBits (fits_at board AlwaysOn) row
    → AreRowBits (λ n. fits_at board AlwaysOn n && not (stands_in failing n)) row
none_fail board failing row e bits =
    same_row (fits_at board AlwaysOn) (λ n. fits_at board AlwaysOn n && not (stands_in failing n))
    (λ n. sym (and-true (fits_at board AlwaysOn n))
    ∙ sym (ap (λ v. fits_at board AlwaysOn n && not (stands_in v n)) e)) row bits

closed_within : (board : RawBoard) (nets : List ℕ) (n : ℕ) → is_closed_by board nets n ≡ true → n < length board.nets
closed_within board nets n h = by_net (slice_get board.nets n) refl h
  where
    by_net : (net : Option Net) → slice_get board.nets n ≡ net
        → are_by_some (drives_some board nets) (drivers_there board net) ≡ true
        → n < length board.nets
    by_net None e k = cc k
    by_net (Some net) e k = slice_get_within board.nets n net e

pub room_for : (board : RawBoard) (nets closed failing : List ℕ) (q : ℕ → Bool) (size : ℕ)
    → AreClosed board nets closed → failing ≡ filter q closed → size ≡ length board.nets / 64 + 1
    → All (λ n. n / 64 < size) failing
room_for board nets closed failing q size are e room k d less =
    let n : ℕ = slice_index_or failing k d in
    let P : List ℕ → Type 0 = λ v. Has v n in
    let has : Has failing n = has_at failing k n (slice_get-get_or failing k d less) in
    let within : n
    < length board.nets = closed_within board nets n
    ((are n).1 (has_contains closed n (filter_has q closed n (subst P e has)).0)) in
    omega (arith, within, room)

pub useful_safe : (board : RawBoard) (c : Ctl) → is_useful board c ≡ true → is_safe_alone board c ≡ true
useful_safe board c h = and_left (is_safe_alone board c) (list_any (tests_by board c) board.nets) h

-- if a useful control shares no net with another control, its row is the row of the covered nets
pub row_free : (board : RawBoard) (c : Ctl) (row : List ℕ) → is_useful board c ≡ true
    → shared_nets board c ≡ [] → AreRowBits (fits_at board AlwaysOn) row
    → AreRowBits (fits_at board (By c)) row
row_free board c row useful e bits =
    let P : List ℕ → Type 0 = λ v. AreClosed board v [] in
    row_made board c [] [] row (useful_safe board c useful) (subst P (sym e) (nothing_closed board)) refl (none_fail board [] row refl bits)
