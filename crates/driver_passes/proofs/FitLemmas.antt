-- Lemmas about the controls that can be added to a draft, that is, to a pass that is being made.
use Rattle.std.proofs.Common.{◌≡◌, ◌⊎◌, inl, inr, ℕ, zero, suc, ◌<◌, ◌==◌, Bool, true, false, not, ◌&&◌, ◌||◌, List, [], ◌∷◌, length, get_or, Some, refl, sym, ◌∙◌, ap, arith, cond}
use Rattle.std.specs.Prelude.{slice_get, Contains}
use Rattle.std.specs.List.{list_any}
use Rattle.std.specs.Bool.{Decides, one_answer}
use Rattle.std.proofs.lemmas.Bool.{and_parts, cases_eq, or_left, or_right, or_cases, eqb-true, eq-eqb, ne_eqb}
use Rattle.board_defs.specs.declared.board.Ctl.{Ctl}
use Rattle.board_defs.specs.declared.board.RawBoard.{RawBoard}
use Rattle.board_defs.specs.Settings.{same_ctl, holds, inserted}
use Rattle.board_defs.specs.Decided.{is_safe_alone, share_net, are_together}
use Rattle.board_defs.specs.Passes.{useful_controls, joins_setting}
use Rattle.board_defs.specs.Coverage.{IsUseful}
use Rattle.board_defs.specs.Laws.{PassesAre, DecidesTerms}
use Rattle.board_defs.proofs.ControlOrder.{same_refl}
use Rattle.net_facts.specs.Kept.{shared_nets}
use Rattle.net_classes.specs.Laws.{HaveCommon, NetsAreShared, SaysShared}
use Rattle.driver_passes.specs.inner.Drafts.{has_number, setting_of, IsDraft}
use Rattle.driver_passes.specs.inner.NumberSets.{is_in}
use Rattle.driver_passes.proofs.ChosenLemmas.{chosen_set}

has_contains : (xs : List ℕ) (n : ℕ) → has_number xs n ≡ true → Contains xs n
has_contains [] n h = cc h
has_contains (x ∷ xs) n h = by_part (has_contains xs n) (or_cases (x == n) (has_number xs n) h)
  where
    by_part : (has_number xs n ≡ true → Contains xs n) → ((x == n) ≡ true) ⊎ (has_number xs n ≡ true) → Contains (x ∷ xs) n
    by_part rest (inl e) = (0, omega arith, eqb-true x n e)
    by_part rest (inr e) = let r : Contains xs n = rest e in (suc r.0, omega (arith, r.1), r.2)

contains_has : (xs : List ℕ) (n i : ℕ) → i < length xs → get_or xs i n ≡ n → has_number xs n ≡ true
contains_has [] n i less e = absurd (omega arith)
contains_has (x ∷ xs) n zero less e = or_left (x == n) (has_number xs n) (eq-eqb x n e)
contains_has (x ∷ xs) n (suc i) less e = or_right (x == n) (has_number xs n) (contains_has xs n i (omega arith) e)

any_number : (p : ℕ → Bool) (xs : List ℕ) (n i : ℕ) → i < length xs → get_or xs i n ≡ n → p n ≡ true → list_any p xs ≡ true
any_number p [] n i less e h = absurd (omega arith)
any_number p (x ∷ xs) n zero less e h = or_left (p x) (list_any p xs) (ap p e ∙ h)
any_number p (x ∷ xs) n (suc i) less e h = or_right (p x) (list_any p xs) (any_number p xs n i (omega arith) e h)

number_any : (p : ℕ → Bool) (xs : List ℕ) → list_any p xs ≡ true → (n : ℕ) × Contains xs n × (p n ≡ true)
number_any p [] h = cc h
number_any p (x ∷ xs) h = by_part (number_any p xs) (or_cases (p x) (list_any p xs) h)
  where
    by_part : (list_any p xs ≡ true → (n : ℕ) × Contains xs n × (p n ≡ true))
        → (p x ≡ true) ⊎ (list_any p xs ≡ true) → (n : ℕ) × Contains (x ∷ xs) n × (p n ≡ true)
    by_part rest (inl e) = (x, (0, omega arith, refl), e)
    by_part rest (inr e) = let r : (n : ℕ) × Contains xs n × (p n ≡ true) = rest e in (r.0, (suc r.1.0, omega (arith, r.1.1), r.1.2), r.2)

common_decided : (xs ys : List ℕ) → Decides (list_any (has_number ys) xs) (HaveCommon xs ys)
common_decided xs ys = (there, back)
  where
    there : list_any (has_number ys) xs ≡ true → HaveCommon xs ys
    there h =
        let r : (n : ℕ) × Contains xs n
        × (has_number ys n ≡ true) = number_any (has_number ys) xs h in
        (r.0, r.1, has_contains ys r.0 r.2)

    back : HaveCommon xs ys → list_any (has_number ys) xs ≡ true
    back (n, (i, less, e), (j, below, f)) = any_number (has_number ys) xs n i less e (contains_has ys n j below f)

share_is : (board : RawBoard) (c d : Ctl) → NetsAreShared → same_ctl c d ≡ false
    → share_net board c d ≡ list_any (has_number (shared_nets board d)) (shared_nets board c)
share_is board c d shared other =
    let says : SaysShared board c d = shared board c d in
    one_answer (share_net board c d)
    (list_any (has_number (shared_nets board d)) (shared_nets board c)) (says.by_shared other)
    (common_decided (shared_nets board c) (shared_nets board d))

pub common_swap : (xs ys : List ℕ) → list_any (has_number ys) xs ≡ list_any (has_number xs) ys
common_swap xs ys = one_answer (list_any (has_number ys) xs) (list_any (has_number xs) ys) (common_decided xs ys) (there, back)
  where
    there : list_any (has_number xs) ys ≡ true → HaveCommon xs ys
    there h = let r : HaveCommon ys xs = (common_decided ys xs).0 h in (r.0, r.2, r.1)

    back : HaveCommon xs ys → list_any (has_number xs) ys ≡ true
    back (n, one, two) = (common_decided ys xs).1 (n, two, one)

-- two different controls that are safe alone are together if and only if they share no net
pub together_is : (board : RawBoard) (c d : Ctl) → NetsAreShared → is_safe_alone board c ≡ true
    → is_safe_alone board d ≡ true → same_ctl c d ≡ false
    → are_together board c d
    ≡ not (list_any (has_number (shared_nets board d)) (shared_nets board c))
together_is board c d shared safe also other =
    ap (λ v. v && is_safe_alone board d && (same_ctl c d || not (share_net board c d))) safe
    ∙ ap (λ v. v && (same_ctl c d || not (share_net board c d))) also
    ∙ ap (λ v. v || not (share_net board c d)) other ∙ ap not (share_is board c d shared other)

pub holds_at : (controls : List Ctl) (i : ℕ) (c : Ctl) → slice_get controls i ≡ Some c → holds controls c ≡ true
holds_at [] i c e = cc e
holds_at (d ∷ controls) zero c e = let same : d ≡ c = cc e in or_left (same_ctl c d) (holds controls c) (ap (same_ctl c) same ∙ same_refl c)
holds_at (d ∷ controls) (suc i) c e = or_right (same_ctl c d) (holds controls c) (holds_at controls i c e)

pub useful_safe : (board : RawBoard) (c : Ctl) → PassesAre board → DecidesTerms board
    → holds (useful_controls board) c ≡ true → is_safe_alone board c ≡ true
useful_safe board c are decides h = let is : IsUseful board c = (are.said.useful c).0 h in (decides.safe c).1 is.0

pub held_nothing : (board : RawBoard) (held : List ℕ) (place : ℕ) (c : Ctl) (t : Bool)
    → PassesAre board → slice_get (useful_controls board) place ≡ Some c → is_in held place ≡ true
    → setting_of board held ≡ cond t (inserted c (setting_of board held)) (setting_of board held)
held_nothing board held place c true are stands h =
    chosen_set (is_in held) (is_in held) 0 place place (useful_controls board) c
    are.said.useful_in_order (omega arith) (λ n. same n (cases_eq n place)) stands
  where
    same : (n : ℕ) → (n ≡ place) ⊎ (n ≡ place → ⊥) → is_in held n ≡ (n == place || is_in held n)
    same n (inl one) = ap (is_in held) one ∙ h ∙ sym (or_left (n == place) (is_in held n) (eq-eqb n place one))
    same n (inr differ) = sym (ap (λ t. t || is_in held n) (ne_eqb n place differ))
held_nothing board held place c false are stands h = refl

-- A control whose place is not in `free` is in the draft already, or it is not together with all controls of
-- the draft. So the step over this control leaves the setting unchanged.
pub closed_nothing : (board : RawBoard) (held free : List ℕ) (place : ℕ) (c : Ctl) (t : Bool)
    → PassesAre board → IsDraft board held free → slice_get (useful_controls board) place ≡ Some c
    → is_in free place ≡ false → (joins_setting board (setting_of board held) c ≡ false → t ≡ false)
    →
    setting_of board held ≡ cond t (inserted c (setting_of board held)) (setting_of board held)
closed_nothing board held free place c t are is stands closed only = by_test (is_in held place) refl
  where
    s : List Ctl
    s = setting_of board held

    by_test : (h : Bool) → is_in held place ≡ h → s ≡ cond t (inserted c s) s
    by_test true e = held_nothing board held place c t are stands e
    by_test false e =
        sym
        (ap (λ u. cond u (inserted c s) s)
        (only
        (ap (λ h. not h && joins_setting board s c) (sym e)
        ∙ sym (is.free_are place c stands) ∙ closed)))

pub free_fits : (board : RawBoard) (held free : List ℕ) (place : ℕ) (c : Ctl)
    → IsDraft board held free → slice_get (useful_controls board) place ≡ Some c
    → is_in free place ≡ true → joins_setting board (setting_of board held) c ≡ true
free_fits board held free place c is stands can =
    (and_parts (not (is_in held place)) (joins_setting board (setting_of board held) c)
    (sym (is.free_are place c stands) ∙ can)).1
