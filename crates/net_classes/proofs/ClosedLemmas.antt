-- Lemmas about the nets that a list of nets closes. A list closes a covered net if each tested driver of the net has a control that also
-- has a driver on some net in the list.
use Rattle.std.proofs.Common.{◌≡◌, inl, inr, ℕ, ◌+◌, ◌<◌, Bool, true, false, ◌&&◌, ◌||◌, List, [], ◌∷◌, ◌++◌, Contains, length, get_or, take, Option, Some, None, refl, sym, ◌∙◌, ap, subst}
use Rattle.std.specs.Prelude.{slice_get, filter}
use Rattle.std.specs.List.{list_any, list_all}
use Rattle.std.proofs.Math.Bool.{or-false}
use Rattle.std.proofs.lemmas.List.{take_more}
use Rattle.std.proofs.lemmas.Bool.{and_from}
use Rattle.std.proofs.lemmas.List.Folds.{list_any-append}
use Rattle.lists.proofs.Booleans.{and_left, and_right}
use Rattle.lists.proofs.ListLemmas.{list_any-map}
use Rattle.board_defs.specs.declared.board.Ctl.{Ctl}
use Rattle.board_defs.specs.declared.board.Net.{Net}
use Rattle.board_defs.specs.declared.board.NetPin.{NetPin}
use Rattle.board_defs.specs.declared.board.RawBoard.{RawBoard}
use Rattle.board_defs.specs.declared.board.Drive.{Drive}
use Rattle.board_defs.specs.declared.board.Drive.TheVariants.{AlwaysOn, OneSided, By}
use Rattle.board_defs.specs.BoardRules.{IsBoard}
use Rattle.board_defs.specs.Pins.{IsCell, drive}
use Rattle.board_defs.specs.Decided.{drive_in, drives_net, is_by}
use Rattle.board_defs.specs.Passes.{tested_drivers}
use Rattle.board_defs.proofs.ControlOrder.{same_refl}
use Rattle.board_defs.proofs.Driving.{is_by_drive}
use Rattle.board_defs.proofs.Members.{Has, contains_has, filter_has, flat_map_has, has_contains, has_filter, has_flat_map}
use Rattle.board_defs.proofs.PassesKept.{Tested, tested_has}
use Rattle.board_defs.proofs.Places.{any_at}
use Rattle.net_classes.specs.declared.closed_nets.ClosedNets.{ClosedNets}
use Rattle.net_classes.specs.declared.control_sets.ControlSet.{ControlSet}
use Rattle.net_facts.specs.declared.facts.PinFacts.{PinFacts}
use Rattle.net_classes.specs.inner.Closed.{AreClosed, AreClosedNets, are_by_some, closed_in, closes, drives_some, is_by_one, is_closed_by}
use Rattle.net_classes.specs.inner.Known.{IsKnown, KnownBoard, driven_in, nets_of, pins_there}
use Rattle.net_classes.specs.Pairs.{drivers_at, drivers_there}
use Rattle.net_classes.specs.inner.ControlSets.{IsSet, has_control}
use Rattle.net_facts.specs.Facts.{pin_facts_of}
use Rattle.net_facts.specs.Cells.{holds_there}
use Rattle.net_facts.specs.Kept.{drives_there}
use Rattle.net_classes.specs.inner.Pairs.{IsByCell}
use Rattle.net_classes.proofs.ControlSetLemmas.{same_set}
use Rattle.net_classes.proofs.Paired.{has_cells}
use Rattle.net_classes.proofs.SharedLemmas.{driven_has}

pub pins_drive : (board : RawBoard) (c : Ctl) (net : Option Net)
    → list_any (λ (pin : PinFacts). is_by c pin.drive) (pins_there board net)
    ≡ drives_there board c net
pins_drive board c None = refl
pins_drive board c (Some net) = list_any-map (pin_facts_of board net) (λ (pin : PinFacts). is_by c pin.drive) net.pins

pub set_more : (board : RawBoard) (nets : List ℕ) (i n : ℕ) (pins : List PinFacts)
    (set : ControlSet) → i < length nets → n ≡ get_or nets i n
    → pins ≡ pins_there board (slice_get board.nets n)
    → IsSet board
    (λ c. drives_some board (take i nets) c || list_any (λ pin. is_by c pin.drive) pins) set
    → IsSet board (drives_some board (take (i + 1) nets)) set
set_more board nets i n pins set less at e is = same_set board _ (drives_some board (take (i + 1) nets)) set same is
  where
    same : (c : Ctl)
        → (drives_some board (take i nets) c
        || list_any (λ (pin : PinFacts). is_by c pin.drive) pins)
        ≡ drives_some board (take (i + 1) nets) c
    same c =
        let drives : ℕ → Bool = λ k. drives_there board c (slice_get board.nets k) in
        ap (λ v. drives_some board (take i nets) c || v)
        (ap (list_any (λ (pin : PinFacts). is_by c pin.drive)) e
        ∙ pins_drive board c (slice_get board.nets n) ∙ sym (or-false (drives n))) ∙
        sym (list_any-append drives (take i nets) (n ∷ []))
        ∙ ap (list_any drives)
        (ap (λ k. take i nets ++ k ∷ []) at ∙ sym (take_more nets i n less))

pub tested_in : (board : RawBoard) (net : Net) (c : Ctl) → Has (tested_drivers board net) (By c) → drives_net board c net ≡ true
tested_in board net c has =
    let t : Tested board net (By c) = tested_has board net (By c) has in
    by_pin t.place (slice_get net.pins t.place) refl t.drives
  where
    by_pin : (place : ℕ) (pin : Option NetPin) → slice_get net.pins place ≡ pin
        → drive_in board net pin ≡ Some (By c) → drives_net board c net ≡ true
    by_pin place None e h = cc h
    by_pin place (Some p) e h =
        any_at (λ (p : NetPin). is_by c (drive board net p)) net.pins place p e
        (is_by_drive c (drive board net p) h)

pub all_on : {X : Type 0} (p q : X → Bool) (xs : List X)
    → ((x : X) → Has xs x → p x ≡ true → q x ≡ true) → list_all p xs ≡ true → list_all q xs ≡ true
all_on p q [] f h = refl
all_on p q (x ∷ xs) f h =
    and_from (q x) (list_all q xs) (f x (inl refl) (and_left (p x) (list_all p xs) h))
    (all_on p q xs (λ y k. f y (inr k)) (and_right (p x) (list_all p xs) h))

pub cells_there : (board : RawBoard) (net : Option Net) (d : Drive) → IsBoard board → Has (drivers_there board net) d → IsByCell board d
cells_there board None d rules h = absurd h
cells_there board (Some net) d rules h = has_cells board net d rules h

pub closed_are : (known : KnownBoard) (set : ControlSet) (nets closed : List ℕ) → IsKnown known
    → IsSet known.board (drives_some known.board nets) set
    → closed ≡ closed_in known set set.members.items → AreClosed known.board nets closed
closed_are known set nets closed is in_set e n = (there, back)
  where
    board : RawBoard
    board = known.board

    drives : Ctl → Bool
    drives = drives_some board nets

    found : Ctl → List ℕ
    found c = filter (closes board set c) (driven_in known c)

    by_mark : (c : Ctl) → IsCell board c → has_control set c ≡ drives c
    by_mark c cell = ap holds_there (in_set.marks_are c cell)

    to_set : (d : Drive) → IsByCell board d → is_by_one drives d ≡ true → is_by_one (has_control set) d ≡ true
    to_set AlwaysOn cell h = h
    to_set OneSided cell h = h
    to_set (By c) cell h = by_mark c (cell c refl) ∙ h

    from_set : (d : Drive) → IsByCell board d → is_by_one (has_control set) d ≡ true → is_by_one drives d ≡ true
    from_set AlwaysOn cell h = h
    from_set OneSided cell h = h
    from_set (By c) cell h = sym (by_mark c (cell c refl)) ∙ h

    some_closed : (c : Ctl) (ds : List Drive) → ((d : Drive) → Has ds d → IsByCell board d)
        → (is_by c (slice_get ds 0) && list_all (is_by_one (has_control set)) ds) ≡ true
        → are_by_some drives ds ≡ true
    some_closed c [] cells h = cc h
    some_closed c (d ∷ ds) cells h =
        all_on (is_by_one (has_control set)) (is_by_one drives) (d ∷ ds)
        (λ x has. from_set x (cells x has))
        (and_right (is_by c (Some d)) (list_all (is_by_one (has_control set)) (d ∷ ds)) h)

    back : Contains closed n → is_closed_by board nets n ≡ true
    back h =
        let P : List ℕ → Type 0 = λ v. Has v n in
        let r : (c : Ctl) × Has set.members.items c
        × Has (found c) n = flat_map_has found set.members.items n
        (subst P e (contains_has closed n h)) in
        some_closed r.0 (drivers_at board n)
        (λ d has. cells_there board (slice_get board.nets n) d is.rules has)
        (filter_has (closes board set r.0) (driven_in known r.0) n r.2).1

    is_driven : (c : Ctl) (net : Net) → IsCell board c → slice_get board.nets n ≡ Some net
        → Has (tested_drivers board net) (By c) → Has (driven_in known c) n
    is_driven c net cell at has =
        let P : List ℕ → Type 0 = λ v. Has v n in
        subst P (sym (ap nets_of (is.controls_are c cell))) (driven_has board c n net at (tested_in board net c has))

    by_first : (net : Net) → slice_get board.nets n ≡ Some net → (d : Drive) (ds : List Drive)
        → tested_drivers board net ≡ d ∷ ds → drivers_at board n ≡ d ∷ ds → IsByCell board d
        → list_all (is_by_one drives) (d ∷ ds) ≡ true
        → list_all (is_by_one (has_control set)) (d ∷ ds) ≡ true → Has closed n
    by_first net at AlwaysOn ds f g cell h k = cc h
    by_first net at OneSided ds f g cell h k = cc h
    by_first net at (By c) ds f g cell h k =
        let P : List ℕ → Type 0 = λ v. Has v n in
        let Q : List Drive → Type 0 = λ v. Has v (By c) in
        let R : List Drive → Type 0 = λ v. (is_by c (slice_get v 0) && list_all (is_by_one (has_control set)) v) ≡ true in
        let member : Has set.members.items c = contains_has set.members.items c
        (in_set.members_are c (cell c refl)
        (and_left (drives c) (list_all (is_by_one drives) ds) h)) in
        let passes : closes board set c n
        ≡ true = subst R (sym g)
        (and_from (same c) (list_all (is_by_one (has_control set)) (By c ∷ ds)) (same_refl c)
        k) in
        subst P (sym e)
        (has_flat_map found set.members.items c n member
        (has_filter (closes board set c) (driven_in known c) n
        (is_driven c net (cell c refl) at (subst Q (sym f) (inl refl))) passes))
      where
        same : Ctl → Bool
        same c = is_by c (Some (By c))

    by_drivers : (net : Net) → slice_get board.nets n ≡ Some net → (ds : List Drive)
        → tested_drivers board net ≡ ds → drivers_at board n ≡ ds → are_by_some drives ds ≡ true
        → Has closed n
    by_drivers net at [] f g h = cc h
    by_drivers net at (d ∷ ds) f g h =
        let P : List Drive → Type 0 = λ v. (x : Drive) → Has v x → IsByCell board x in
        let cells : (x : Drive) → Has (d ∷ ds) x → IsByCell board x = subst P f (λ x has. has_cells board net x is.rules has) in
        by_first net at d ds f g (cells d (inl refl)) h
        (all_on (is_by_one drives) (is_by_one (has_control set)) (d ∷ ds)
        (λ x has. to_set x (cells x has)) h)

    by_net : (net : Option Net) → slice_get board.nets n ≡ net → are_by_some drives (drivers_there board net) ≡ true → Has closed n
    by_net None at h = cc h
    by_net (Some net) at h = by_drivers net at (tested_drivers board net) refl (ap (drivers_there board) at) h

    there : is_closed_by board nets n ≡ true → Contains closed n
    there h = has_contains closed n (by_net (slice_get board.nets n) refl h)

nobody : (ds : List Drive) → are_by_some (λ c. false) ds ≡ true → ⊥
nobody [] h = cc h
nobody (AlwaysOn ∷ ds) h = cc h
nobody (OneSided ∷ ds) h = cc h
nobody (By c ∷ ds) h = cc h

pub nothing_closed : (board : RawBoard) → AreClosed board [] []
nothing_closed board n = (λ h. absurd (nobody (drivers_at board n) h), λ h. absurd (contains_has {X = ℕ} [] n h))

pub no_closed_nets : (board : RawBoard) (closed : ClosedNets) → closed.by ≡ [] → closed.nets ≡ []
    → IsSet board (λ c. false) closed.set → IsSet board (λ c. false) closed.others
    → AreClosedNets board closed
no_closed_nets board closed e f is others = record {
  others_are = record { passes = λ c. false; is_set = others };
  set_is = let P : List ℕ → Type 0 = λ v. IsSet board (drives_some board v) closed.set in subst P (sym e) is;
  nets_are =
      let P : List ℕ → Type 0 = λ v. AreClosed board v closed.nets in
      let Q : List ℕ → Type 0 = λ v. AreClosed board [] v in
      subst P (sym e) (subst Q (sym f) (nothing_closed board));
}
