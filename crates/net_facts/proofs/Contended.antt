-- Lemmas about the nets that a control shares with another control.
use Rattle.std.proofs.Common.{◌≡◌, ℕ, Bool, true, false, not, ◌&&◌, ◌||◌, List, [], ◌∷◌, map, length, Option, Some, None, refl, sym, ◌∙◌, ap, cond}
use Rattle.std.specs.Prelude.{slice_get, slice_index_or, option_map, option_and_then, filter}
use Rattle.std.specs.Option.{unwrap_or}
use Rattle.std.specs.List.{list_any, range_with_len}
use Rattle.std.proofs.lemmas.Option.{slice_get-map, unwrap_or-slice_get}
use Rattle.std.proofs.lemmas.Bool.{false_from_ne_true, not_from_false}
use Rattle.lists.proofs.ListLemmas.{list_any-map}
use Rattle.lists.proofs.Booleans.{clash}
use Rattle.board_defs.specs.declared.board.Net.{Net}
use Rattle.board_defs.specs.declared.board.Ctl.{Ctl}
use Rattle.board_defs.specs.declared.board.RawBoard.{RawBoard}
use Rattle.board_defs.specs.declared.board.Drive.{Drive}
use Rattle.board_defs.specs.declared.board.Drive.TheVariants.{AlwaysOn, OneSided, By}
use Rattle.board_defs.specs.Pins.{drive, IsCell}
use Rattle.board_defs.specs.Settings.{same_ctl}
use Rattle.board_defs.specs.Decided.{is_by, drives_net}
use Rattle.board_defs.proofs.ControlOrder.{same_equal, same_refl}
use Rattle.board_defs.proofs.Driving.{by_true}
use Rattle.board_defs.proofs.Places.{Found, any_place, any_at}
use Rattle.net_facts.specs.declared.facts.PinFacts.{PinFacts}
use Rattle.net_facts.specs.declared.facts.NetFacts.{NetFacts}
use Rattle.net_facts.specs.declared.classes.ControlClass.{ControlClass}
use Rattle.net_facts.specs.declared.shared.Controls.TheVariants.{Nobody, One, Several}
use Rattle.net_facts.specs.Facts.{pin_facts_of, net_facts_of}
use Rattle.net_facts.specs.Cells.{item_of_cell}
use Rattle.net_facts.specs.Kept.{drives_there, driven_nets, is_by_other, is_contended, contends_there, shared_nets, control_class_of}
use Rattle.net_facts.specs.inner.Shared.{with_drive, controls_from, is_several, contended_in, flags_of, shared_in}

abbrev other_pin : Ctl → PinFacts → Bool
other_pin c pin = is_by_other c pin.drive

abbrev by_pin : Ctl → PinFacts → Bool
by_pin c pin = is_by c pin.drive

several_stays : (pins : List PinFacts) → controls_from Several pins ≡ Several
several_stays [] = refl
several_stays (pin ∷ pins) = ap (λ s. controls_from s pins) (step pin.drive) ∙ several_stays pins
  where
    step : (d : Option Drive) → with_drive Several d ≡ Several
    step None = refl
    step (Some AlwaysOn) = refl
    step (Some OneSided) = refl
    step (Some (By c)) = refl

-- Starting from control `d` alone, the pins give several controls if and only if one of them has a driver of another control.
one_is : (d : Ctl) (pins : List PinFacts) → is_several (controls_from (One d) pins) ≡ list_any (other_pin d) pins
one_is d [] = refl
one_is d (pin ∷ pins) = by_drive pin.drive (one_is d pins)
  where
    by_same : (e : Ctl) (t : Bool) → same_ctl e d ≡ t → (u : Bool) → same_ctl d e ≡ u
        → is_several (controls_from (One d) pins) ≡ list_any (other_pin d) pins
        → is_several (controls_from (cond u (One d) Several) pins)
        ≡ (not t || list_any (other_pin d) pins)
    by_same e true p true q rest = rest
    by_same e false p false q rest = ap is_several (several_stays pins)
    by_same e true p false q rest = absurd (clash (same_ctl d e) (ap (same_ctl d) (same_equal e d p) ∙ same_refl d) q)
    by_same e false p true q rest = absurd (clash (same_ctl e d) (ap (same_ctl e) (same_equal d e q) ∙ same_refl e) p)

    by_drive : (w : Option Drive)
        → is_several (controls_from (One d) pins) ≡ list_any (other_pin d) pins
        → is_several (controls_from (with_drive (One d) w) pins)
        ≡ (is_by_other d w || list_any (other_pin d) pins)
    by_drive None rest = rest
    by_drive (Some AlwaysOn) rest = rest
    by_drive (Some OneSided) rest = rest
    by_drive (Some (By e)) rest = by_same e (same_ctl e d) refl (same_ctl d e) refl rest

pub differ_back : (c e : Ctl) → same_ctl e c ≡ false → same_ctl c e ≡ false
differ_back c e h = false_from_ne_true (same_ctl c e) (λ k. clash (same_ctl e c) (ap (same_ctl e) (same_equal c e k) ∙ same_refl e) h)

other_drives : (c e : Ctl) (pins : List PinFacts) → same_ctl e c ≡ false
    → list_any (by_pin c) pins ≡ true → list_any (other_pin e) pins ≡ true
other_drives c e pins h k =
    let r : Found (by_pin c) pins = any_place (by_pin c) pins k in
    any_at (other_pin e) pins r.place r.item r.stands
    (ap (is_by_other e) (by_true c r.item.drive r.passes)
    ∙ not_from_false (same_ctl c e) (differ_back c e h))

nobody_is : (c : Ctl) (pins : List PinFacts) → list_any (by_pin c) pins ≡ true → contended_in pins ≡ list_any (other_pin c) pins
nobody_is c [] h = cc h
nobody_is c (pin ∷ pins) h = by_drive pin.drive h (nobody_is c pins)
  where
    by_same : (e : Ctl) (t : Bool) → same_ctl e c ≡ t → (t || list_any (by_pin c) pins) ≡ true
        → is_several (controls_from (One e) pins) ≡ (not t || list_any (other_pin c) pins)
    by_same e true p g = one_is e pins ∙ ap (λ (v : Ctl). list_any (other_pin v) pins) (same_equal e c p)
    by_same e false p g = one_is e pins ∙ other_drives c e pins p g

    by_drive : (w : Option Drive) → (is_by c w || list_any (by_pin c) pins) ≡ true
        → (list_any (by_pin c) pins ≡ true → contended_in pins ≡ list_any (other_pin c) pins)
        → is_several (controls_from (with_drive Nobody w) pins)
        ≡ (is_by_other c w || list_any (other_pin c) pins)
    by_drive None g rest = rest g
    by_drive (Some AlwaysOn) g rest = rest g
    by_drive (Some OneSided) g rest = rest g
    by_drive (Some (By e)) g rest = by_same e (same_ctl e c) refl g

net_is : (board : RawBoard) (c : Ctl) (net : Net)
    → (drives_net board c net && contended_in (map (pin_facts_of board net) net.pins))
    ≡ is_contended board c net
net_is board c net = by_drives (drives_net board c net) refl
  where
    by_drives : (t : Bool) → drives_net board c net ≡ t
        → (t && contended_in (map (pin_facts_of board net) net.pins))
        ≡ (t && list_any (λ p. is_by_other c (drive board net p)) net.pins)
    by_drives false e = refl
    by_drives true e =
        nobody_is c (map (pin_facts_of board net) net.pins)
        (list_any-map (pin_facts_of board net) (by_pin c) net.pins ∙ e)
        ∙ list_any-map (pin_facts_of board net) (other_pin c) net.pins

filter_both : (p q : ℕ → Bool) (xs : List ℕ) → filter p (filter q xs) ≡ filter (λ n. q n && p n) xs
filter_both p q [] = refl
filter_both p q (x ∷ xs) = by_head (q x) (filter_both p q xs)
  where
    by_kept : (t : Bool) → filter p (filter q xs) ≡ filter (λ n. q n && p n) xs
        → cond t (x ∷ filter p (filter q xs)) (filter p (filter q xs))
        ≡ cond t (x ∷ filter (λ n. q n && p n) xs) (filter (λ n. q n && p n) xs)
    by_kept true rest = ap (λ ys. x ∷ ys) rest
    by_kept false rest = rest

    by_head : (t : Bool) → filter p (filter q xs) ≡ filter (λ n. q n && p n) xs
        → filter p (cond t (x ∷ filter q xs) (filter q xs))
        ≡ cond (t && p x) (x ∷ filter (λ n. q n && p n) xs) (filter (λ n. q n && p n) xs)
    by_head true rest = by_kept (p x) rest
    by_head false rest = rest

filter_same : (p q : ℕ → Bool) → ((n : ℕ) → p n ≡ q n) → (xs : List ℕ) → filter p xs ≡ filter q xs
filter_same p q h [] = refl
filter_same p q h (x ∷ xs) =
    ap (λ t. cond t (x ∷ filter p xs) (filter p xs)) (h x)
    ∙ ap (λ ys. cond (q x) (x ∷ ys) ys) (filter_same p q h xs)

-- the nets of control `c` whose flag is set are the nets that `c` shares with another control
pub shared_are : (board : RawBoard) (c : Ctl)
    → filter (λ n. slice_index_or (flags_of (map (net_facts_of board) board.nets)) n false)
    (driven_nets board c) ≡ shared_nets board c
shared_are board c =
    filter_both flagged driven (range_with_len 0 (length board.nets))
    ∙ filter_same (λ n. driven n && flagged n)
    (λ n. contends_there board c (slice_get board.nets n)) each
    (range_with_len 0 (length board.nets))
  where
    flagged : ℕ → Bool
    flagged n = slice_index_or (flags_of (map (net_facts_of board) board.nets)) n false

    driven : ℕ → Bool
    driven n = drives_there board c (slice_get board.nets n)

    by_net : (net : Option Net)
        → (drives_there board c net
        && unwrap_or
        (option_map (λ (f : NetFacts). contended_in f.pins)
        (option_map (net_facts_of board) net)) false) ≡ contends_there board c net
    by_net None = refl
    by_net (Some net) = net_is board c net

    each : (n : ℕ) → (driven n && flagged n) ≡ contends_there board c (slice_get board.nets n)
    each n =
        ap (λ t. drives_there board c (slice_get board.nets n) && t)
        (sym (unwrap_or-slice_get (flags_of (map (net_facts_of board) board.nets)) n false)) ∙
        ap (λ o. drives_there board c (slice_get board.nets n) && unwrap_or o false)
        (slice_get-map (λ (f : NetFacts). contended_in f.pins)
        (map (net_facts_of board) board.nets) n
        ∙ ap (option_map (λ (f : NetFacts). contended_in f.pins))
        (slice_get-map (net_facts_of board) board.nets n)) ∙
        by_net (slice_get board.nets n)

map_item : (f : ControlClass → List ℕ) (rows : List (List ControlClass)) (c : Ctl)
    → item_of_cell (map (λ row. map f row) rows) c ≡ option_map f (item_of_cell rows c)
map_item f rows c =
    ap (option_and_then (λ row. slice_get row c.cell))
    (slice_get-map (λ (row : List ControlClass). map f row) rows c.part)
    ∙ by_row (slice_get rows c.part)
  where
    by_row : (row : Option (List ControlClass))
        → option_and_then (λ r. slice_get r c.cell)
        (option_map (λ (r : List ControlClass). map f r) row)
        ≡ option_map f (option_and_then (λ r. slice_get r c.cell) row)
    by_row None = refl
    by_row (Some r) = slice_get-map f r c.cell

pub shared_rows : (board : RawBoard) (facts : List NetFacts) (flags : List Bool)
    (rows : List (List ControlClass)) (shared : List (List (List ℕ)))
    → facts ≡ map (net_facts_of board) board.nets → flags ≡ flags_of facts
    → ((c : Ctl) → IsCell board c → item_of_cell rows c ≡ Some (control_class_of board c)) →
    shared ≡ map (λ row. map (shared_in flags) row) rows → (c : Ctl) → IsCell board c → item_of_cell shared c ≡ Some (shared_nets board c)
shared_rows board facts flags rows shared e f says g c is =
    ap (λ t. item_of_cell t c) g ∙ map_item (shared_in flags) rows c ∙ ap (option_map (shared_in flags)) (says c is) ∙
    ap (λ (v : List Bool). Some (filter (λ n. slice_index_or v n false) (driven_nets board c)))
    (f ∙ ap flags_of e) ∙ ap Some (shared_are board c)
