-- Lemmas about the class of a net, which the code computes from the facts about the net and from the table of controls. It is the class
-- that `net_class_of` defines.
use Rattle.std.proofs.Common.{◌≡◌, ℕ, ◌==◌, Bool, true, false, not, ◌&&◌, List, [], ◌∷◌, map, length, Option, Some, None, refl, sym, ◌∙◌, ap, subst, cond, inl}
use Rattle.std.specs.Prelude.{slice_get, option_map, filter_map, is_some}
use Rattle.std.specs.List.{list_any, range_with_len, cons_option}
use Rattle.std.proofs.lemmas.List.{length-map}
use Rattle.std.proofs.lemmas.Option.{slice_get-map}
use Rattle.std.proofs.lemmas.Bool.{false_from_ne_true}
use Rattle.lists.proofs.ListLemmas.{list_any-map, list_any_same, map-map}
use Rattle.lists.proofs.Booleans.{suc-eqb_zero}
use Rattle.board_defs.specs.declared.board.NetPin.{NetPin}
use Rattle.board_defs.specs.declared.board.Net.{Net}
use Rattle.board_defs.specs.declared.board.Ctl.{Ctl}
use Rattle.board_defs.specs.declared.board.RawBoard.{RawBoard}
use Rattle.board_defs.specs.declared.board.Drive.{Drive}
use Rattle.board_defs.specs.declared.board.Drive.TheVariants.{AlwaysOn, OneSided, By}
use Rattle.board_defs.specs.declared.coverage.Reason.{Reason}
use Rattle.board_defs.specs.declared.coverage.Reason.TheVariants.{Supply, TestPort, Dark, NoDriver, Blocked, NoReceiver}
use Rattle.board_defs.specs.BoardRules.{IsBoard}
use Rattle.board_defs.specs.Pins.{drive, receives, receives_of, guarded, is_test_pin, is_dark, IsCell}
use Rattle.board_defs.specs.Decided.{any_other, is_safe_alone, can_enable, place_drive, drive_in, is_tested_driver, is_tested_receiver, is_covered, first_reason, reason_of}
use Rattle.board_defs.specs.Passes.{tested_drive, tested_drivers}
use Rattle.board_defs.proofs.BoardLemmas.{control_is_cell}
use Rattle.board_defs.proofs.Members.{Has}
use Rattle.board_defs.proofs.Places.{FoundBelow, below_place, below_at}
use Rattle.board_defs.proofs.Covered.{tested_below}
use Rattle.board_defs.proofs.PassesKept.{Tested, tested_has, has_tested, tested_drives}
use Rattle.net_facts.specs.declared.classes.PinClass.{PinClass}
use Rattle.net_facts.specs.declared.classes.NetClass.{NetClass}
use Rattle.net_facts.specs.declared.classes.ControlClass.{ControlClass}
use Rattle.net_facts.specs.declared.facts.PinFacts.{PinFacts}
use Rattle.net_facts.specs.Facts.{pin_facts_of, net_facts_of}
use Rattle.net_facts.specs.inner.Found.{is_elsewhere_of, found_below}
use Rattle.net_facts.specs.Kept.{pin_class_of, net_class_of}
use Rattle.net_facts.specs.inner.Answers.{safe_in, may_be_enabled, drive_of_pin, drive_of, reads_in, reads_at, enables_at_place, receiver_places, enablers_of, tested_in, reader_tested_in, pin_class_in, tested_drive_in, tested_drives_in, first_reason_in, reason_in, class_in}
use Rattle.net_facts.proofs.FoundLemmas.{elsewhere_is, passes_in}

-- the table says for each control whether it is safe alone, that is, whether the setting with this control alone is safe
abbrev pub SaysSafe : RawBoard → List (List ControlClass) → Type 0
SaysSafe board rows = (c : Ctl) → IsCell board c → safe_in rows c ≡ is_safe_alone board c

enabled_is : (board : RawBoard) (rows : List (List ControlClass)) (net : Net) (pin : NetPin)
    → IsBoard board → SaysSafe board rows
    → may_be_enabled rows (drive board net pin) ≡ can_enable board (drive board net pin)
enabled_is board rows net pin rules says = by_drive (drive board net pin) refl
  where
    by_drive : (d : Option Drive) → drive board net pin ≡ d → may_be_enabled rows d ≡ can_enable board d
    by_drive None e = refl
    by_drive (Some AlwaysOn) e = refl
    by_drive (Some OneSided) e = refl
    by_drive (Some (By c)) e = says c (control_is_cell board net pin c rules e)

drive_is : (board : RawBoard) (net : Net) (place : ℕ) → drive_of (map (pin_facts_of board net) net.pins) place ≡ place_drive board net place
drive_is board net place = ap drive_of_pin (slice_get-map (pin_facts_of board net) net.pins place) ∙ by_pin (slice_get net.pins place)
  where
    by_pin : (pin : Option NetPin) → drive_of_pin (option_map (pin_facts_of board net) pin) ≡ drive_in board net pin
    by_pin None = refl
    by_pin (Some p) = refl

enables_is : (board : RawBoard) (rows : List (List ControlClass)) (net : Net) (place : ℕ)
    → IsBoard board → SaysSafe board rows
    → enables_at_place rows (map (pin_facts_of board net) net.pins) place
    ≡ can_enable board (place_drive board net place)
enables_is board rows net place rules says = ap (may_be_enabled rows) (drive_is board net place) ∙ by_pin (slice_get net.pins place)
  where
    by_pin : (pin : Option NetPin) → may_be_enabled rows (drive_in board net pin) ≡ can_enable board (drive_in board net pin)
    by_pin None = refl
    by_pin (Some p) = enabled_is board rows net p rules says

reads_is : (board : RawBoard) (net : Net) (place : ℕ)
    → reads_at (map (pin_facts_of board net) net.pins) place
    ≡ receives_of board (slice_get net.pins place)
reads_is board net place = ap reads_in (slice_get-map (pin_facts_of board net) net.pins place) ∙ by_pin (slice_get net.pins place)
  where
    by_pin : (pin : Option NetPin) → reads_in (option_map (pin_facts_of board net) pin) ≡ receives_of board pin
    by_pin None = refl
    by_pin (Some p) = refl

readers_is : (board : RawBoard) (net : Net) (place : ℕ)
    → is_elsewhere_of (receiver_places (map (pin_facts_of board net) net.pins)) place
    ≡ any_other (receives board) place net.pins
readers_is board net place =
    ap (λ n. is_elsewhere_of (found_below test n) place)
    (length-map net.pins (pin_facts_of board net))
    ∙ elsewhere_is (receives board) test net.pins place
    (λ k. reads_is board net k ∙ by_pin (slice_get net.pins k))
  where
    test : ℕ → Bool
    test = reads_at (map (pin_facts_of board net) net.pins)

    by_pin : (pin : Option NetPin) → receives_of board pin ≡ passes_in (receives board) pin
    by_pin None = refl
    by_pin (Some p) = refl

enablers_is : (board : RawBoard) (rows : List (List ControlClass)) (net : Net) (place : ℕ)
    → IsBoard board → SaysSafe board rows
    → is_elsewhere_of (enablers_of rows (map (pin_facts_of board net) net.pins)) place
    ≡ any_other (λ p. can_enable board (drive board net p)) place net.pins
enablers_is board rows net place rules says =
    ap (λ n. is_elsewhere_of (found_below test n) place)
    (length-map net.pins (pin_facts_of board net))
    ∙ elsewhere_is (λ p. can_enable board (drive board net p)) test net.pins place
    (λ k. enables_is board rows net k rules says ∙ by_pin (slice_get net.pins k))
  where
    test : ℕ → Bool
    test = enables_at_place rows (map (pin_facts_of board net) net.pins)

    by_pin : (pin : Option NetPin) → can_enable board (drive_in board net pin) ≡ passes_in (λ p. can_enable board (drive board net p)) pin
    by_pin None = refl
    by_pin (Some p) = refl

pub tested_is : (board : RawBoard) (rows : List (List ControlClass)) (net : Net) (place : ℕ)
    → IsBoard board → SaysSafe board rows
    → tested_in rows (net_facts_of board net) place ≡ is_tested_driver board net place
tested_is board rows net place rules says =
    ap
    (λ t. not (guarded board net) && t
    && is_elsewhere_of (receiver_places (map (pin_facts_of board net) net.pins)) place)
    (enables_is board rows net place rules says) ∙
    ap (λ t. not (guarded board net) && can_enable board (place_drive board net place) && t) (readers_is board net place)

reader_is : (board : RawBoard) (rows : List (List ControlClass)) (net : Net) (place : ℕ)
    → IsBoard board → SaysSafe board rows
    → reader_tested_in rows (net_facts_of board net) place ≡ is_tested_receiver board net place
reader_is board rows net place rules says =
    ap
    (λ t. not (guarded board net) && t
    && is_elsewhere_of (enablers_of rows (map (pin_facts_of board net) net.pins)) place)
    (reads_is board net place) ∙
    ap (λ t. not (guarded board net) && receives_of board (slice_get net.pins place) && t) (enablers_is board rows net place rules says)

pin_is : (board : RawBoard) (rows : List (List ControlClass)) (net : Net) (place : ℕ)
    → IsBoard board → SaysSafe board rows
    → pin_class_in rows (net_facts_of board net) place ≡ pin_class_of board net place
pin_is board rows net place rules says =
    same _ _ _ _ _ _ _ _ (tested_is board rows net place rules says)
    (reader_is board rows net place rules says) (ap is_some (drive_is board net place))
    (reads_is board net place)
  where
    same : (a b c d e f g h : Bool) → a ≡ b → c ≡ d → e ≡ f → g ≡ h → let x : PinClass =
        record { driver_tested = a; receiver_tested = c; drives = e; receives = g } in
        let y : PinClass = record
        { driver_tested = b; receiver_tested = d; drives = f; receives = h } in
        x ≡ y
    same a b c d e f g h i j k l = cc

pub map_same : {X Y : Type 0} (f g : X → Y) → ((x : X) → f x ≡ g x) → (xs : List X) → map f xs ≡ map g xs
map_same f g h [] = refl
map_same f g h (x ∷ xs) = ap (λ y. y ∷ map f xs) (h x) ∙ ap (λ ys. g x ∷ ys) (map_same f g h xs)

filter_map_same : {X Y : Type 0} (f g : X → Option Y) → ((x : X) → f x ≡ g x) → (xs : List X) → filter_map f xs ≡ filter_map g xs
filter_map_same f g h [] = refl
filter_map_same f g h (x ∷ xs) =
    ap (λ o. cons_option o (filter_map f xs)) (h x)
    ∙ ap (λ ys. cons_option (g x) ys) (filter_map_same f g h xs)

drive_tested_is : (board : RawBoard) (rows : List (List ControlClass)) (net : Net) (place : ℕ)
    → IsBoard board → SaysSafe board rows
    → tested_drive_in rows (net_facts_of board net) place ≡ tested_drive board net place
drive_tested_is board rows net place rules says =
    ap (λ t. cond t (drive_of (map (pin_facts_of board net) net.pins) place) None) (tested_is board rows net place rules says) ∙
    ap (λ d. cond (is_tested_driver board net place) d None) (drive_is board net place)

pub drivers_is : (board : RawBoard) (rows : List (List ControlClass)) (net : Net) → IsBoard board
    → SaysSafe board rows
    → tested_drives_in rows (net_facts_of board net) ≡ tested_drivers board net
drivers_is board rows net rules says =
    ap (λ n. filter_map (tested_drive_in rows (net_facts_of board net)) (range_with_len 0 n))
    (length-map net.pins (pin_facts_of board net)) ∙
    filter_map_same (tested_drive_in rows (net_facts_of board net)) (tested_drive board net)
    (λ k. drive_tested_is board rows net k rules says) (range_with_len 0 (length net.pins))

pub covered_is : (board : RawBoard) (net : Net) → (length (tested_drivers board net) == 0) ≡ not (is_covered board net)
covered_is board net = by_list (tested_drivers board net) refl
  where
    by_list : (ds : List Drive) → tested_drivers board net ≡ ds → (length ds == 0) ≡ not (is_covered board net)
    by_list [] e = ap not (sym (false_from_ne_true (is_covered board net) (λ h.
        let r : FoundBelow (length net.pins) (is_tested_driver board net) = below_place (length net.pins) (is_tested_driver board net) h in
        let d : (d : Drive) × (place_drive board net r.number ≡ Some d) = tested_drives board net r.number r.passes in
        let P : List Drive → Type 0 = λ v. Has v d.0 in
        subst P e (has_tested board net r.number d.0 r.passes d.1))))
    by_list (d ∷ ds) e =
        let P : List Drive → Type 0 = λ v. Has v d in
        let t : Tested board net d = tested_has board net d (subst P (sym e) (inl refl)) in
        suc-eqb_zero (length ds)
        ∙ ap not
        (sym
        (below_at (length net.pins) (is_tested_driver board net) t.place
        (tested_below board net t.place t.tested) t.tested))

first_is : (board : RawBoard) (rows : List (List ControlClass)) (net : Net) → IsBoard board
    → SaysSafe board rows → first_reason_in rows (net_facts_of board net) ≡ first_reason board net
first_is board rows net rules says =
    ap
    (λ t. last t
    (list_any (λ (pin : PinFacts). may_be_enabled rows pin.drive)
    (map (pin_facts_of board net) net.pins)))
    (list_any-map (pin_facts_of board net) (λ (pin : PinFacts). is_some pin.drive) net.pins) ∙
    ap (λ t. last (list_any (λ (p : NetPin). is_some (drive board net p)) net.pins) t)
    (list_any-map (pin_facts_of board net) (λ (pin : PinFacts). may_be_enabled rows pin.drive)
    net.pins
    ∙ list_any_same (λ (p : NetPin). may_be_enabled rows (drive board net p))
    (λ (p : NetPin). can_enable board (drive board net p))
    (λ p. enabled_is board rows net p rules says) net.pins)
  where
    last : Bool → Bool → Reason
    last driven enabled =
        cond net.supply Supply
        (cond (list_any (is_test_pin board) net.pins) TestPort
        (cond (list_any (is_dark board) net.pins) Dark
        (cond (not driven) NoDriver (cond (not enabled) Blocked NoReceiver))))

reason_is : (board : RawBoard) (rows : List (List ControlClass)) (net : Net) → IsBoard board
    → SaysSafe board rows → reason_in rows (net_facts_of board net) ≡ reason_of board net
reason_is board rows net rules says =
    ap
    (λ (ds : List Drive). cond (length ds == 0)
    (Some (first_reason_in rows (net_facts_of board net))) None)
    (drivers_is board rows net rules says) ∙
    ap (λ t. cond t (Some (first_reason_in rows (net_facts_of board net))) None) (covered_is board net) ∙
    ap (λ r. cond (not (is_covered board net)) (Some r) None) (first_is board rows net rules says) ∙
    by_covered (is_covered board net)
  where
    by_covered : (t : Bool) → cond (not t) (Some (first_reason board net)) None ≡ cond t None (Some (first_reason board net))
    by_covered true = refl
    by_covered false = refl

class_is : (board : RawBoard) (rows : List (List ControlClass)) (net : Net) → IsBoard board
    → SaysSafe board rows → class_in rows (net_facts_of board net) ≡ net_class_of board net
class_is board rows net rules says =
    same _ _ _ _ _ _ (reason_is board rows net rules says) (drivers_is board rows net rules says)
    (ap (λ n. map (pin_class_in rows (net_facts_of board net)) (range_with_len 0 n)) (length-map net.pins (pin_facts_of board net)) ∙
    map_same (pin_class_in rows (net_facts_of board net)) (pin_class_of board net)
    (λ k. pin_is board rows net k rules says) (range_with_len 0 (length net.pins)))
  where
    same : (r s : Option Reason) (ds es : List Drive) (ps qs : List PinClass) → r ≡ s → ds ≡ es
        → ps ≡ qs → let x : NetClass =
        record { reason = r; drivers = ds; pins = ps } in
        let y : NetClass = record { reason = s; drivers = es; pins = qs } in
        x ≡ y
    same r s ds es ps qs e f g = cc

pub classes_are : (board : RawBoard) (rows : List (List ControlClass)) → IsBoard board
    → SaysSafe board rows
    → map (class_in rows) (map (net_facts_of board) board.nets)
    ≡ map (net_class_of board) board.nets
classes_are board rows rules says =
    map-map (net_facts_of board) (class_in rows) board.nets
    ∙ map_same (λ net. class_in rows (net_facts_of board net)) (net_class_of board)
    (λ net. class_is board rows net rules says) board.nets
