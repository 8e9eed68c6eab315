-- Lemmas about the controls that have a driver on a net of a given list. Two sets contain them: one has the controls with a driver on one
-- chosen net of the list, and the other has the rest.
use Rattle.std.proofs.Common.{◌≡◌, ◌⊎◌, inl, inr, ℕ, ◌+◌, ◌<◌, Bool, true, false, not, ◌&&◌, ◌||◌, List, [], ◌∷◌, ◌++◌, Contains, length, get_or, nat_lt, take, Option, Some, None, refl, sym, ◌∙◌, ap, subst, arith}
use Rattle.std.specs.Prelude.{slice_get}
use Rattle.std.specs.List.{flat_map, list_all, list_any}
use Rattle.std.proofs.lemmas.List.{take_more}
use Rattle.std.proofs.lemmas.Bool.{and_from, or_cases, or_left, or_right}
use Rattle.std.proofs.lemmas.List.Folds.{list_any-append}
use Rattle.std.proofs.Math.Bool.{and-false}
use Rattle.lists.proofs.Booleans.{and_left, and_right, clash, true_of_or_false}
use Rattle.board_defs.specs.declared.board.Ctl.{Ctl}
use Rattle.board_defs.specs.declared.board.Net.{Net}
use Rattle.board_defs.specs.declared.board.RawBoard.{RawBoard}
use Rattle.board_defs.specs.declared.board.Drive.{Drive}
use Rattle.board_defs.specs.declared.board.Drive.TheVariants.{AlwaysOn, OneSided, By}
use Rattle.board_defs.specs.Pins.{IsCell}
use Rattle.board_defs.specs.Settings.{same_ctl}
use Rattle.board_defs.specs.Decided.{is_by}
use Rattle.board_defs.proofs.ControlOrder.{same_equal}
use Rattle.board_defs.proofs.Members.{Has, all_has, contains_has, filter_has, flat_map_has, has_any, has_append, has_contains, has_filter, has_flat_map, has_left, has_right}
use Rattle.net_classes.specs.declared.control_sets.ControlSet.{ControlSet}
use Rattle.net_facts.specs.declared.facts.PinFacts.{PinFacts}
use Rattle.net_facts.specs.Kept.{drives_there}
use Rattle.net_classes.specs.Pairs.{drivers_at, drivers_there}
use Rattle.net_classes.specs.inner.Closed.{AreClosed, AreOthers, are_by_some, closed_beside, closes_beside, drives_some, has_either, is_by_one, is_closed_by}
use Rattle.net_classes.specs.inner.Known.{IsKnown, KnownBoard, driven_in, nets_of, pins_there}
use Rattle.net_classes.specs.inner.ControlSets.{IsSet, has_control}
use Rattle.net_classes.specs.inner.Pairs.{IsByCell}
use Rattle.net_facts.specs.Cells.{holds_there}
use Rattle.net_classes.proofs.ClosedLemmas.{all_on, cells_there, pins_drive, tested_in}
use Rattle.net_classes.proofs.ControlSetLemmas.{same_set}
use Rattle.net_classes.proofs.SharedLemmas.{driven_has}

same_outside : (set : ControlSet) (c d : Ctl) (t : Bool) → has_control set c ≡ t
    → (same_ctl c d && not t) ≡ (same_ctl c d && not (has_control set d))
same_outside set c d t e = by (same_ctl c d) refl
  where
    by : (s : Bool) → same_ctl c d ≡ s → (s && not t) ≡ (s && not (has_control set d))
    by true f = ap not (sym e ∙ ap (has_control set) (same_equal c d f))
    by false f = refl

pub inside : (board : RawBoard) (passes : Ctl → Bool) (others set : ControlSet) (c : Ctl)
    → has_control set c ≡ true → IsSet board passes others
    → IsSet board (λ d. passes d || (same_ctl c d && not (has_control set d))) others
inside board passes others set c e is = same_set board passes (λ d. passes d || (same_ctl c d && not (has_control set d))) others same is
  where
    nothing : (s t : Bool) → s ≡ (s || (t && not true))
    nothing true t = refl
    nothing false true = refl
    nothing false false = refl

    same : (d : Ctl) → passes d ≡ (passes d || (same_ctl c d && not (has_control set d)))
    same d = nothing (passes d) (same_ctl c d) ∙ ap (λ t. passes d || t) (same_outside set c d true e)

pub outside : (board : RawBoard) (passes : Ctl → Bool) (after set : ControlSet) (c : Ctl)
    → has_control set c ≡ false → IsSet board (λ d. passes d || same_ctl c d) after
    → IsSet board (λ d. passes d || (same_ctl c d && not (has_control set d))) after
outside board passes after set c e is =
    same_set board (λ d. passes d || same_ctl c d)
    (λ d. passes d || (same_ctl c d && not (has_control set d))) after same is
  where
    whole : (t : Bool) → t ≡ (t && not false)
    whole true = refl
    whole false = refl

    same : (d : Ctl) → (passes d || same_ctl c d) ≡ (passes d || (same_ctl c d && not (has_control set d)))
    same d = ap (λ t. passes d || t) (whole (same_ctl c d) ∙ same_outside set c d false e)

pub no_others : (board : RawBoard) (set others : ControlSet) → IsSet board (λ c. false) others → AreOthers board set [] others
no_others board set others is = record { passes = λ c. false; are_set = is; drive = λ c h. cc h; all = λ c cell h unset. cc h }

drives_more : (board : RawBoard) (nets : List ℕ) (i n : ℕ) (c : Ctl) → i < length nets
    → n ≡ get_or nets i n
    → drives_some board (take (i + 1) nets) c
    ≡ (drives_some board (take i nets) c
    || (drives_there board c (slice_get board.nets n) || false))
drives_more board nets i n c less at =
    let drives : ℕ → Bool = λ k. drives_there board c (slice_get board.nets k) in
    ap (list_any drives) (take_more nets i n less ∙ ap (λ k. take i nets ++ k ∷ []) (sym at))
    ∙ list_any-append drives (take i nets) (n ∷ [])

pub core_again : (board : RawBoard) (set others : ControlSet) (nets : List ℕ) (i n core : ℕ)
    → i < length nets → n ≡ get_or nets i n → n ≡ core
    → IsSet board (drives_some board (core ∷ [])) set → AreOthers board set (take i nets) others
    → AreOthers board set (take (i + 1) nets) others
core_again board set others nets i n core less at e is are = record {
  passes = are.passes;
  are_set = are.are_set;
  drive =
      λ c h. drives_more board nets i n c less at
      ∙ or_left (drives_some board (take i nets) c)
      (drives_there board c (slice_get board.nets n) || false) (are.drive c h);
  all =
      λ c cell h unset. by c cell unset
      (or_cases (drives_some board (take i nets) c)
      (drives_there board c (slice_get board.nets n) || false)
      (sym (drives_more board nets i n c less at) ∙ h));
}
  where
    by : (c : Ctl) → IsCell board c → has_control set c ≡ false
        → (drives_some board (take i nets) c ≡ true)
        ⊎ ((drives_there board c (slice_get board.nets n) || false) ≡ true) → are.passes c ≡ true
    by c cell unset (inl h) = are.all c cell h unset
    by c cell unset (inr h) =
        absurd
        (clash (has_control set c)
        (ap holds_there (is.marks_are c cell)
        ∙ sym (ap (λ k. drives_there board c (slice_get board.nets k) || false) e) ∙ h) unset)

any_and : (p : PinFacts → Bool) (t : Bool) (pins : List PinFacts) → list_any (λ pin. p pin && t) pins ≡ (list_any p pins && t)
any_and p t [] = refl
any_and p t (pin ∷ pins) = step (p pin) t (list_any (λ x. p x && t) pins) (list_any p pins) (any_and p t pins)
  where
    step : (s t l r : Bool) → l ≡ (r && t) → ((s && t) || l) ≡ ((s || r) && t)
    step true true l r e = refl
    step true false l r e = e ∙ and-false r
    step false t l r e = e

pub others_more : (board : RawBoard) (set others after : ControlSet) (nets : List ℕ) (i n : ℕ)
    (pins : List PinFacts) → i < length nets → n ≡ get_or nets i n
    → pins ≡ pins_there board (slice_get board.nets n)
    → (are : AreOthers board set (take i nets) others) →
    IsSet board
    (λ c. are.passes c || list_any (λ pin. is_by c pin.drive && not (has_control set c)) pins)
    after → AreOthers board set (take (i + 1) nets) after
others_more board set others after nets i n pins less at e are is = record {
  passes = λ c. are.passes c || list_any (λ pin. is_by c pin.drive && not (has_control set c)) pins;
  are_set = is;
  drive =
      λ c h. drives_more board nets i n c less at
      ∙ by_pass c
      (or_cases (are.passes c)
      (list_any (λ pin. is_by c pin.drive && not (has_control set c)) pins) h);
  all =
      λ c cell h unset. by_net c cell unset
      (or_cases (drives_some board (take i nets) c) (there c || false)
      (sym (drives_more board nets i n c less at) ∙ h));
}
  where
    there : Ctl → Bool
    there c = drives_there board c (slice_get board.nets n)

    pins_are : (c : Ctl) → list_any (λ pin. is_by c pin.drive && not (has_control set c)) pins ≡ (there c && not (has_control set c))
    pins_are c =
        any_and (λ pin. is_by c pin.drive) (not (has_control set c)) pins
        ∙ ap (λ t. t && not (has_control set c))
        (ap (list_any (λ (pin : PinFacts). is_by c pin.drive)) e
        ∙ pins_drive board c (slice_get board.nets n))

    or_false : (s t : Bool) → (s && t) ≡ true → (s || false) ≡ true
    or_false true t h = refl
    or_false false t h = cc h

    by_pass : (c : Ctl)
        → (are.passes c ≡ true)
        ⊎ (list_any (λ pin. is_by c pin.drive && not (has_control set c)) pins ≡ true)
        → (drives_some board (take i nets) c || (there c || false)) ≡ true
    by_pass c (inl h) = or_left (drives_some board (take i nets) c) (there c || false) (are.drive c h)
    by_pass c (inr h) =
        or_right (drives_some board (take i nets) c) (there c || false)
        (or_false (there c) (not (has_control set c)) (sym (pins_are c) ∙ h))

    by_net : (c : Ctl) → IsCell board c → has_control set c ≡ false
        → (drives_some board (take i nets) c ≡ true) ⊎ ((there c || false) ≡ true)
        → (are.passes c || list_any (λ pin. is_by c pin.drive && not (has_control set c)) pins)
        ≡ true
    by_net c cell unset (inl h) =
        or_left (are.passes c) (list_any (λ pin. is_by c pin.drive && not (has_control set c)) pins)
        (are.all c cell h unset)
    by_net c cell unset (inr h) =
        or_right (are.passes c) (list_any (λ pin. is_by c pin.drive && not (has_control set c)) pins)
        (pins_are c ∙ and_from (there c) (not (has_control set c)) (true_of_or_false (there c) h) (ap not unset))

some_fails : (p : Drive → Bool) (ds : List Drive) → list_all p ds ≡ false → (d : Drive) × Has ds d × (p d ≡ false)
some_fails p [] h = cc h
some_fails p (d ∷ ds) h = by (some_fails p ds) (p d) refl
  where
    by : (list_all p ds ≡ false → (x : Drive) × Has ds x × (p x ≡ false)) → (t : Bool) → p d ≡ t
        → (x : Drive) × Has (d ∷ ds) x × (p x ≡ false)
    by later false e = (d, inl refl, e)
    by later true e =
        let r : (x : Drive) × Has ds x
        × (p x ≡ false) = later (sym (ap (λ t. t && list_all p ds) e) ∙ h) in
        (r.0, inr r.1, r.2)

pub both_close : (known : KnownBoard) (set others : ControlSet) (core : ℕ)
    (nets base closed : List ℕ) → IsKnown known
    → IsSet known.board (drives_some known.board (core ∷ [])) set
    → AreClosed known.board (core ∷ []) base → AreOthers known.board set nets others
    → Contains nets core →
    closed ≡ base ++ flat_map (closed_beside known set others) others.members.items → AreClosed known.board nets closed
both_close known set others core nets base closed is in_set base_are are has_core e n = (there, back)
  where
    board : RawBoard
    board = known.board

    drives : Ctl → Bool
    drives = drives_some board nets

    of_core : Ctl → Bool
    of_core = drives_some board (core ∷ [])

    drivers : List Drive
    drivers = drivers_at board n

    cells : (d : Drive) → Has drivers d → IsByCell board d
    cells d has = cells_there board (slice_get board.nets n) d is.rules has

    wider : (c : Ctl) → of_core c ≡ true → drives c ≡ true
    wider c h =
        has_any (λ k. drives_there board c (slice_get board.nets k)) nets core
        (contains_has nets core has_core)
        (true_of_or_false (drives_there board c (slice_get board.nets core)) h)

    in_either : (c : Ctl) → IsCell board c → drives c ≡ true → has_either set others c ≡ true
    in_either c cell h = by (has_control set c) refl
      where
        by : (t : Bool) → has_control set c ≡ t → (t || has_control others c) ≡ true
        by true f = refl
        by false f = ap holds_there (are.are_set.marks_are c cell) ∙ are.all c cell h f

    from_either : (c : Ctl) → IsCell board c → has_either set others c ≡ true → drives c ≡ true
    from_either c cell h = by (or_cases (has_control set c) (has_control others c) h)
      where
        by : (has_control set c ≡ true) ⊎ (has_control others c ≡ true) → drives c ≡ true
        by (inl f) = wider c (sym (ap holds_there (in_set.marks_are c cell)) ∙ f)
        by (inr f) = are.drive c (sym (ap holds_there (are.are_set.marks_are c cell)) ∙ f)

    by_either : (d : Drive) → IsByCell board d → is_by_one drives d ≡ true → is_by_one (has_either set others) d ≡ true
    by_either AlwaysOn cell h = h
    by_either OneSided cell h = h
    by_either (By c) cell h = in_either c (cell c refl) h

    by_drives : (d : Drive) → IsByCell board d → is_by_one (has_either set others) d ≡ true → is_by_one drives d ≡ true
    by_drives AlwaysOn cell h = h
    by_drives OneSided cell h = h
    by_drives (By c) cell h = from_either c (cell c refl) h

    by_wider : (d : Drive) → is_by_one of_core d ≡ true → is_by_one drives d ≡ true
    by_wider AlwaysOn h = h
    by_wider OneSided h = h
    by_wider (By c) h = wider c h

    all_some : (p : Ctl → Bool) (ds : List Drive) → nat_lt 0 (length ds) ≡ true → list_all (is_by_one p) ds ≡ true → are_by_some p ds ≡ true
    all_some p [] some h = let none : nat_lt 0 0 ≡ false = grind arith in cc (none, some)
    all_some p (d ∷ ds) some h = h

    some_all : (p : Ctl → Bool) (ds : List Drive) → are_by_some p ds ≡ true
        → (nat_lt 0 (length ds) ≡ true) × (list_all (is_by_one p) ds ≡ true)
    some_all p [] h = cc h
    some_all p (d ∷ ds) h = let some : nat_lt 0 (length (d ∷ ds)) ≡ true = grind arith in (some, h)

    in_base : Has base n → is_closed_by board nets n ≡ true
    in_base has =
        let r : (nat_lt 0 (length drivers) ≡ true)
        × (list_all (is_by_one of_core) drivers ≡ true) = some_all of_core drivers
        ((base_are n).1 (has_contains base n has)) in
        all_some drives drivers r.0 (all_on (is_by_one of_core) (is_by_one drives) drivers (λ d has h. by_wider d h) r.1)

    in_found : Has (flat_map (closed_beside known set others) others.members.items) n → is_closed_by board nets n ≡ true
    in_found has =
        let r : (c : Ctl) × Has others.members.items c
        × Has (closed_beside known set others c) n = flat_map_has
        (closed_beside known set others) others.members.items n has in
        let passes : closes_beside board set others n
        ≡ true = (filter_has (closes_beside board set others) (driven_in known r.0) n r.2).1 in
        all_some drives drivers (and_left (nat_lt 0 (length drivers)) (list_all (is_by_one (has_either set others)) drivers) passes)
        (all_on (is_by_one (has_either set others)) (is_by_one drives) drivers
        (λ d has h. by_drives d (cells d has) h)
        (and_right (nat_lt 0 (length drivers))
        (list_all (is_by_one (has_either set others)) drivers) passes))

    back : Contains closed n → is_closed_by board nets n ≡ true
    back h =
        let P : List ℕ → Type 0 = λ v. Has v n in
        by
        (has_append base (flat_map (closed_beside known set others) others.members.items) n
        (subst P e (contains_has closed n h)))
      where
        by : Has base n ⊎ Has (flat_map (closed_beside known set others) others.members.items) n → is_closed_by board nets n ≡ true
        by (inl has) = in_base has
        by (inr has) = in_found has

    is_driven : (c : Ctl) (net : Option Net) → slice_get board.nets n ≡ net → IsCell board c
        → Has (drivers_there board net) (By c) → Has (driven_in known c) n
    is_driven c None at cell has = absurd has
    is_driven c (Some net) at cell has =
        let P : List ℕ → Type 0 = λ v. Has v n in
        subst P (sym (ap nets_of (is.controls_are c cell)))
        (driven_has board c n net at (tested_in board net c has))

    by_other : (d : Drive) → Has drivers d → is_by_one drives d ≡ true → is_by_one of_core d ≡ false
        → closes_beside board set others n ≡ true
        → Has (flat_map (closed_beside known set others) others.members.items) n
    by_other AlwaysOn has h f passes = cc h
    by_other OneSided has h f passes = cc h
    by_other (By c) has h f passes =
        let cell : IsCell board c = cells (By c) has c refl in
        let member : Has others.members.items c = contains_has others.members.items c
        (are.are_set.members_are c cell
        (are.all c cell h (ap holds_there (in_set.marks_are c cell) ∙ f))) in
        has_flat_map (closed_beside known set others) others.members.items c n member
        (has_filter (closes_beside board set others) (driven_in known c) n
        (is_driven c (slice_get board.nets n) refl cell has) passes)

    found : is_closed_by board nets n ≡ true → (t : Bool) → list_all (is_by_one of_core) drivers ≡ t
        → Has (base ++ flat_map (closed_beside known set others) others.members.items) n
    found h true f =
        let r : (nat_lt 0 (length drivers) ≡ true) × (list_all (is_by_one drives) drivers ≡ true) = some_all drives drivers h in
        has_left base (flat_map (closed_beside known set others) others.members.items) n
        (contains_has base n ((base_are n).0 (all_some of_core drivers r.0 f)))
    found h false f =
        let r : (nat_lt 0 (length drivers) ≡ true) × (list_all (is_by_one drives) drivers ≡ true) = some_all drives drivers h in
        let s : (d : Drive) × Has drivers d × (is_by_one of_core d ≡ false) = some_fails (is_by_one of_core) drivers f in
        let passes : closes_beside board set others n
        ≡ true = and_from (nat_lt 0 (length drivers))
        (list_all (is_by_one (has_either set others)) drivers) r.0
        (all_on (is_by_one drives) (is_by_one (has_either set others)) drivers
        (λ d has k. by_either d (cells d has) k) r.1) in
        has_right base (flat_map (closed_beside known set others) others.members.items) n
        (by_other s.0 s.1 (all_has (is_by_one drives) drivers s.0 r.1 s.1) s.2 passes)

    there : is_closed_by board nets n ≡ true → Contains closed n
    there h =
        let P : List ℕ → Type 0 = λ v. Has v n in
        has_contains closed n
        (subst P (sym e) (found h (list_all (is_by_one of_core) drivers) refl))
