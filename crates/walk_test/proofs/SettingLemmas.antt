-- Lemmas about the walk setting. It is safe, all its controls are useful, and it holds no control of a
-- switching driver. A control is useful if it is safe alone and enables a tested driver.
use Rattle.std.proofs.Common.{◌≡◌, ◌⊎◌, inl, inr, Result, Ok, Err, ℕ, zero, suc, ◌+◌, ◌<◌, ◌==◌, Bool, true, false, cond, not, ◌&&◌, ◌||◌, List, [], ◌∷◌, ◌++◌, length, get_or, take, fold, map, Option, Some, None, refl, sym, ◌∙◌, ap, subst}
use Rattle.std.specs.Prelude.{slice_get, filter, option_map, option_and_then, IfOk}
use Rattle.std.specs.List.{list_any, flat_map}
use Rattle.std.specs.Cmp.{both_ways as same_answer}
use Rattle.std.proofs.lemmas.Bool.{and_from, and_parts, or_cases, not-true}
use Rattle.std.proofs.Math.Bool.{and-false, or-false}
use Rattle.std.proofs.lemmas.List.{take_more}
use Rattle.std.proofs.lemmas.List.Elements.{filter_agree}
use Rattle.std.proofs.lemmas.List.Sums.{fold-append}
use Rattle.std.proofs.lemmas.Option.{slice_get_within, slice_get-get_or}
use Rattle.lists.proofs.ListLemmas.{list_any_same}
use Rattle.board_defs.specs.declared.device.Control.{Control}
use Rattle.board_defs.specs.declared.device.Cell.{Cell}
use Rattle.board_defs.specs.declared.board.PinAt.{PinAt}
use Rattle.board_defs.specs.declared.board.NetPin.{NetPin}
use Rattle.board_defs.specs.declared.board.Net.{Net}
use Rattle.board_defs.specs.declared.board.RawBoard.{RawBoard}
use Rattle.board_defs.specs.declared.board.Ctl.{Ctl}
use Rattle.board_defs.specs.declared.board.Drive.{Drive}
use Rattle.board_defs.specs.declared.board.Drive.TheVariants.{AlwaysOn, OneSided, By}
use Rattle.board_defs.specs.Pins.{drive, entry_at, guarded, guarded_at, guarded_of, is_pulled_to, drive_by, switches_by, drive_where, switches_entry}
use Rattle.board_defs.specs.Settings.{holds, same_ctl, inserted, precedes, IsInControlOrder, IsSafe}
use Rattle.board_defs.specs.Decided.{is_by, is_useful, is_safe_alone, tests_by, tests_by_at, are_compatible}
use Rattle.board_defs.specs.Passes.{all_cells, useful_controls, tested_drivers, drivers_by_net, with_driver, joins_setting, is_new, walk, first_walk, driver_pass, add_for_driver, driver_passes, are_shown, pairs_of, pairs_within, first_pair, pair_pass, with_pair, add_for_nets, passes_of, ArePasses}
use Rattle.board_defs.proofs.ControlOrder.{same_equal, same_refl}
use Rattle.board_defs.proofs.Members.{Has, has_at, has_append, has_any, filter_has, flat_map_has, map_has, find_has, Apart as PairApart, pairs_within_has}
use Rattle.board_defs.proofs.Ordered.{order_filter, order_pairs, pairs_order}
use Rattle.board_defs.proofs.Pairwise.{safe_within}
use Rattle.board_defs.proofs.PassSettings.{holds_inserted}
use Rattle.board_defs.proofs.PassesKept.{Tested, tested_has, tested_can_drive, fold_keeps}
use Rattle.board_defs.proofs.Places.{below_at}
use Rattle.scan_planner.specs.Laws.{PlansUseful}
use Rattle.scan_planner.specs.Plans.{ArePlannable}
use Rattle.walk_test.specs.WalkTest.{is_switched_by, switches_some, without_switching, walk_setting}
use Rattle.walk_test.specs.inner.Setting.{own_switch, entry_switch, pin_switch, with_some, with_pins, with_net, all_switching}

-- the option has the control `c`
abbrev is_ctl : Option Ctl → Ctl → Bool
is_ctl None c = false
is_ctl (Some d) c = same_ctl d c

same_swap : (a b : Ctl) → same_ctl a b ≡ same_ctl b a
same_swap a b = same_answer (same_ctl a b) (same_ctl b a) (turned a b) (turned b a)
  where
    turned : (a b : Ctl) → same_ctl a b ≡ true → same_ctl b a ≡ true
    turned a b e = subst (λ (x : Ctl). same_ctl b x ≡ true) (sym (same_equal a b e)) (same_refl b)

some_held : (s : List Ctl) (o : Option Ctl) (c : Ctl) → holds (with_some s o) c ≡ (is_ctl o c || holds s c)
some_held s None c = refl
some_held s (Some d) c = holds_inserted d c s ∙ ap (λ (b : Bool). b || holds s c) (same_swap c d)

regroup : (a b c : Bool) → (b || (a || c)) ≡ ((a || b) || c)
regroup true true c = refl
regroup true false c = refl
regroup false b c = refl

pins_held : (board : RawBoard) (pull : Option Bool) (s : List Ctl) (pins : List NetPin) (c : Ctl) →
    holds (with_pins board pull s pins) c ≡ (list_any (λ pin. is_ctl (pin_switch board pull pin.at) c) pins || holds s c)
pins_held board pull s [] c = refl
pins_held board pull s (pin ∷ pins) c =
    let rest : Bool = list_any (λ p. is_ctl (pin_switch board pull p.at) c) pins in
    pins_held board pull (with_some s (pin_switch board pull pin.at)) pins c
    ∙ ap (λ (b : Bool). rest || b) (some_held s (pin_switch board pull pin.at) c)
    ∙ regroup (is_ctl (pin_switch board pull pin.at) c) rest (holds s c)

pin_switched : (board : RawBoard) (net : Net) (pin : NetPin) (c : Ctl) → guarded board net ≡ false
    → is_ctl (pin_switch board net.pull pin.at) c ≡ is_switched_by board c net pin
pin_switched board net pin c open_net = by_at pin.at
  where
    by_pull : (control : Control) (part : ℕ) (cell : Cell) (own pulled : Bool) →
        is_ctl (cond (own && pulled) (Some (record { part = part; cell = control.cell })) None) c
        ≡ ((own && (true && pulled))
        && is_by c
        (Some
        (cond own
        (cond (true && pulled) (By (record { part = part; cell = control.cell }))
        OneSided) (By (record { part = part; cell = control.cell })))))
    by_pull control part cell true true = refl
    by_pull control part cell true false = refl
    by_pull control part cell false pulled = refl

    by_control : (part : ℕ) (cell : Cell) (o : Option Control) →
        is_ctl (own_switch part cell.num net.pull o) c ≡ (switches_by board net cell o && is_by c (Some (drive_by board net part cell o)))
    by_control part cell None = refl
    by_control part cell (Some control) =
        by_pull control part cell (control.cell == cell.num) (is_pulled_to control.disable net.pull)
        ∙ ap (λ (g : Bool). ((control.cell == cell.num) && (not g && is_pulled_to control.disable net.pull))
        && is_by c
        (Some
        (cond (control.cell == cell.num)
        (cond (not g && is_pulled_to control.disable net.pull)
        (By (record { part = part; cell = control.cell })) OneSided)
        (By (record { part = part; cell = control.cell })))))
        (sym open_net)

    by_entry : (at : PinAt) (o : Option Cell) →
        is_ctl (entry_switch at.part net.pull o) c
        ≡ (switches_entry board net o
        && is_by c (option_map (λ cell. drive_by board net at.part cell cell.ctl) o))
    by_entry at None = refl
    by_entry at (Some cell) = by_control at.part cell cell.ctl

    by_at : (o : Option PinAt)
        → is_ctl (pin_switch board net.pull o) c
        ≡ (switches_entry board net (option_and_then (entry_at board) o)
        && is_by c (drive_where board net o))
    by_at None = refl
    by_at (Some at) = by_entry at (entry_at board at)

none_switched : (board : RawBoard) (net : Net) (c : Ctl) → guarded board net ≡ true
    → (pins : List NetPin) → list_any (is_switched_by board c net) pins ≡ false
none_switched board net c closed [] = refl
none_switched board net c closed (pin ∷ pins) =
    ap (λ (b : Bool). b || list_any (is_switched_by board c net) pins)
    (by_entry (option_and_then (entry_at board) pin.at)) ∙ none_switched board net c closed pins
  where
    by_control : (cell : Cell) (o : Option Control) → (switches_by board net cell o && is_by c (drive board net pin)) ≡ false
    by_control cell None = refl
    by_control cell (Some control) =
        ap
        (λ (g : Bool). ((control.cell == cell.num)
        && (not g && is_pulled_to control.disable net.pull))
        && is_by c (drive board net pin)) closed
        ∙ ap (λ (b : Bool). b && is_by c (drive board net pin)) (and-false (control.cell == cell.num))

    by_entry : (o : Option Cell) → (switches_entry board net o && is_by c (drive board net pin)) ≡ false
    by_entry None = refl
    by_entry (Some cell) = by_control cell cell.ctl

net_held : (board : RawBoard) (s : List Ctl) (net : Net) (c : Ctl)
    → holds (with_net board s net) c ≡ (list_any (is_switched_by board c net) net.pins || holds s c)
net_held board s net c = by_guard (guarded board net) refl
  where
    by_guard : (g : Bool) → guarded board net ≡ g
        → holds (cond g s (with_pins board net.pull s net.pins)) c
        ≡ (list_any (is_switched_by board c net) net.pins || holds s c)
    by_guard true e = sym (ap (λ (b : Bool). b || holds s c) (none_switched board net c e net.pins))
    by_guard false e =
        pins_held board net.pull s net.pins c
        ∙ ap (λ (b : Bool). b || holds s c)
        (list_any_same (λ pin. is_ctl (pin_switch board net.pull pin.at) c)
        (is_switched_by board c net) (λ pin. pin_switched board net pin c e) net.pins)

nets_held : (board : RawBoard) (s : List Ctl) (nets : List Net) (c : Ctl) →
    holds (fold (with_net board) s nets) c ≡ (list_any (λ net. list_any (is_switched_by board c net) net.pins) nets || holds s c)
nets_held board s [] c = refl
nets_held board s (net ∷ nets) c =
    let rest : Bool = list_any (λ n. list_any (is_switched_by board c n) n.pins) nets in
    nets_held board (with_net board s net) nets c
    ∙ ap (λ (b : Bool). rest || b) (net_held board s net c)
    ∙ regroup (list_any (is_switched_by board c net) net.pins) rest (holds s c)

pub switching_is : (board : RawBoard) (c : Ctl) → holds (all_switching board board.nets) c ≡ switches_some board c
switching_is board c = nets_held board [] board.nets c ∙ or-false (switches_some board c)

-- One iteration of the loop over the nets, for net `n`.
pub net_more : (board : RawBoard) (nets : List Net) (n : ℕ) (net : Net) (old new : List Ctl)
    → nets ≡ board.nets → n < length nets → net ≡ get_or nets n net
    → old ≡ all_switching board (take n nets) →
    new ≡ cond (guarded_at board n) old (with_pins board net.pull old net.pins) → new ≡ all_switching board (take (n + 1) nets)
net_more board nets n net old new are less net_is old_is new_is =
    let at : slice_get board.nets n
    ≡ Some net = ap (λ (l : List Net). slice_get l n) (sym are)
    ∙ slice_get-get_or nets n net less ∙ ap (λ (x : Net). Some x) (sym net_is) in
    new_is
    ∙ ap (λ (o : Option Net). cond (guarded_of board o) old (with_pins board net.pull old net.pins)) at
    ∙ ap (λ (s : List Ctl). with_net board s net) old_is
    ∙ ap (λ (x : Net). with_net board (all_switching board (take n nets)) x) net_is
    ∙ sym
    (ap (λ (l : List Net). all_switching board l) (take_more nets n net less)
    ∙ fold-append (with_net board) [] (take n nets) (get_or nets n net ∷ []))

pub left_is : (board : RawBoard) (set pass : List Ctl) → set ≡ all_switching board board.nets
    → filter (λ c. not (holds set c)) pass ≡ without_switching board pass
left_is board set pass is =
    filter_agree (λ c. not (holds set c)) (λ c. not (switches_some board c))
    (λ c. ap (λ (s : List Ctl). not (holds s c)) is ∙ ap not (switching_is board c)) pass

pub left_order : (p : Ctl → Bool) (pass : List Ctl) → IsInControlOrder pass → IsInControlOrder (filter p pass)
left_order p pass order =
    let R : Ctl → Ctl → Type 0 = λ a b. Rattle.std.specs.Prelude.IsTrue (precedes a b) in
    order_pairs R (filter p pass) (order_filter R p pass (pairs_order R pass order))

held_left : (p : Ctl → Bool) (pass : List Ctl) (c : Ctl) → holds (filter p pass) c ≡ (holds pass c && p c)
held_left p [] c = refl
held_left p (d ∷ pass) c = by_tests (p d) (same_ctl c d) refl refl (held_left p pass c)
  where
    by_tests : (kept same : Bool) → p d ≡ kept → same_ctl c d ≡ same
        → holds (filter p pass) c ≡ (holds pass c && p c)
        → holds (cond kept (d ∷ filter p pass) (filter p pass)) c ≡ ((same || holds pass c) && p c)
    by_tests true true e f rest = ap (λ (b : Bool). b || holds (filter p pass) c) f ∙ sym (ap p (same_equal c d f) ∙ e)
    by_tests true false e f rest = ap (λ (b : Bool). b || holds (filter p pass) c) f ∙ rest
    by_tests false true e f rest =
        let off : p c ≡ false = ap p (same_equal c d f) ∙ e in
        rest ∙ ap (λ (b : Bool). holds pass c && b) off ∙ and-false (holds pass c) ∙ sym off
    by_tests false false e f rest = rest

pub setting_held : (board : RawBoard) (pass : List Ctl) (c : Ctl)
    → holds (without_switching board pass) c ≡ true
    → (holds pass c ≡ true) × (switches_some board c ≡ false)
setting_held board pass c h =
    let r = and_parts (holds pass c) (not (switches_some board c)) (sym (held_left (λ d. not (switches_some board d)) pass c) ∙ h) in
    (r.0, not-true (switches_some board c) r.1)

pub setting_kept : (board : RawBoard) (pass setting : List Ctl) (c : Ctl)
    → slice_get (passes_of board) 0 ≡ Some pass → walk_setting board ≡ Some setting
    → holds setting c ≡ (holds pass c && not (switches_some board c))
setting_kept board pass setting c first is =
    let made : Some (without_switching board pass)
    ≡ Some setting = ap (λ (o : Option (List Ctl)). option_map (without_switching board) o)
    (sym first) ∙ is in
    let same : without_switching board pass ≡ setting = cc made in
    ap (λ (s : List Ctl). holds s c) (sym same) ∙ held_left (λ d. not (switches_some board d)) pass c

-- the walk setting is the first pass without the controls of switching drivers
pub record FirstPass (board : RawBoard) (setting : List Ctl) : Type 0 where
  pub pass : List Ctl
  pub stands : slice_get (passes_of board) 0 ≡ Some pass
  pub setting_is : without_switching board pass ≡ setting

pub first_pass : (board : RawBoard) (setting : List Ctl) → walk_setting board ≡ Some setting → FirstPass board setting
first_pass board setting e = by_first (slice_get (passes_of board) 0) refl e
  where
    by_first : (o : Option (List Ctl)) → slice_get (passes_of board) 0 ≡ o
        → option_map (without_switching board) o ≡ Some setting → FirstPass board setting
    by_first None at f = cc f
    by_first (Some pass) at f = record { pass = pass; stands = at; setting_is = cc f }

module _ (board : RawBoard) (setting : List Ctl) (is : walk_setting board ≡ Some setting) where
  abbrev first : FirstPass board setting
  first = first_pass board setting is

  held_in : (c : Ctl) → holds setting c ≡ true → (holds first.pass c ≡ true) × (switches_some board c ≡ false)
  held_in c h = setting_held board first.pass c (ap (λ (s : List Ctl). holds s c) first.setting_is ∙ h)

  pub none_switches : (c : Ctl) → holds setting c ≡ true → switches_some board c ≡ false
  none_switches c h = (held_in c h).1

  pub setting_safe : ArePasses board (passes_of board) → IsSafe board (holds setting)
  setting_safe kept = safe_within board (holds setting) (holds first.pass) (λ c h. (held_in c h).0) (kept.safe 0 first.pass first.stands)

-- each control that the setting holds is useful
abbrev HasUseful : RawBoard → List Ctl → Type 0
HasUseful board s = (c : Ctl) → holds s c ≡ true → is_useful board c ≡ true

insert_useful : (board : RawBoard) (c : Ctl) (s : List Ctl) → is_useful board c ≡ true → HasUseful board s → HasUseful board (inserted c s)
insert_useful board c s useful all d h = by_case (or_cases (same_ctl d c) (holds s d) (sym (holds_inserted c d s) ∙ h))
  where
    by_case : (same_ctl d c ≡ true) ⊎ (holds s d ≡ true) → is_useful board d ≡ true
    by_case (inl e) = ap (is_useful board) (same_equal d c e) ∙ useful
    by_case (inr k) = all d k

walk_useful : (board : RawBoard) (accepts : List Ctl → Ctl → Bool) (controls s : List Ctl)
    → ((c : Ctl) → Has controls c → is_useful board c ≡ true) → HasUseful board s
    → HasUseful board (walk accepts controls s)
walk_useful board accepts [] s useful all = all
walk_useful board accepts (c ∷ controls) s useful all =
    walk_useful board accepts controls (cond (accepts s c) (inserted c s) s)
    (λ d h. useful d (inr h)) (by_test (accepts s c))
  where
    by_test : (b : Bool) → HasUseful board (cond b (inserted c s) s)
    by_test true = insert_useful board c s (useful c (inl refl)) all
    by_test false = all

useful_listed : (board : RawBoard) (c : Ctl) → Has (useful_controls board) c → is_useful board c ≡ true
useful_listed board c h = (filter_has (is_useful board) (all_cells board) c h).1

-- the driver is a tested driver of a net of the board
abbrev OfBoard : RawBoard → Drive → Type 0
OfBoard board d = (net : Net) × Has board.nets net × Tested board net d

driver_useful : (board : RawBoard) (c : Ctl) → OfBoard board (By c) → is_useful board c ≡ true
driver_useful board c (net, has, t) =
    and_from (is_safe_alone board c) (list_any (tests_by board c) board.nets) (tested_can_drive board net (By c) t)
    (has_any (tests_by board c) board.nets net has (below_at (length net.pins) (tests_by_at board c net) t.place below here))
  where
    here : tests_by_at board c net t.place ≡ true
    here =
        and_from (is_by c (Rattle.board_defs.specs.Decided.place_drive board net t.place)) _
        (ap (is_by c) t.drives ∙ same_refl c) t.tested

    below : t.place < length net.pins
    below = by_pin (slice_get net.pins t.place) refl t.drives
      where
        by_pin : (o : Option NetPin) → slice_get net.pins t.place ≡ o
            → Rattle.board_defs.specs.Decided.drive_in board net o ≡ Some (By c)
            → t.place < length net.pins
        by_pin None e d = cc d
        by_pin (Some pin) e d = slice_get_within net.pins t.place pin e

with_useful : (board : RawBoard) (s : List Ctl) (d : Drive) → OfBoard board d → HasUseful board s → HasUseful board (with_driver s d)
with_useful board s AlwaysOn of all = all
with_useful board s OneSided of all = all
with_useful board s (By c) of all = insert_useful board c s (driver_useful board c of) all

none_useful : (board : RawBoard) → HasUseful board []
none_useful board c h = cc h

abbrev AllUseful : RawBoard → List (List Ctl) → Type 0
AllUseful board passes = (pass : List Ctl) → Has passes pass → HasUseful board pass

more_useful : (board : RawBoard) (passes : List (List Ctl)) (pass : List Ctl)
    → AllUseful board passes → HasUseful board pass → AllUseful board (passes ++ pass ∷ [])
more_useful board passes pass all one q h = by_part (has_append passes (pass ∷ []) q h)
  where
    by_part : Has passes q ⊎ Has (pass ∷ []) q → HasUseful board q
    by_part (inl k) = all q k
    by_part (inr (inl e)) = subst (λ (s : List Ctl). HasUseful board s) e one
    by_part (inr (inr k)) = absurd k

add_driver_useful : (board : RawBoard) (passes : List (List Ctl)) (d : Drive)
    → AllUseful board passes → OfBoard board d
    → AllUseful board (add_for_driver board (useful_controls board) passes d)
add_driver_useful board passes d all of = by_test (list_any (λ pass. Rattle.board_defs.specs.Passes.is_enabled pass d) passes)
  where
    useful : List Ctl
    useful = useful_controls board

    by_test : (b : Bool) → AllUseful board (cond b passes (passes ++ driver_pass board (useful_controls board) passes d ∷ []))
    by_test true = all
    by_test false =
        more_useful board passes (driver_pass board (useful_controls board) passes d) all
        (walk_useful board (joins_setting board) (useful_controls board)
        (first_walk board (useful_controls board) passes (with_driver [] d))
        (useful_listed board)
        (walk_useful board (λ s c. is_new passes c && joins_setting board s c)
        (useful_controls board) (with_driver [] d) (useful_listed board)
        (with_useful board [] d of (none_useful board))))

-- each of these drivers is a tested driver of a net of the board
abbrev OfBoardAll : RawBoard → List Drive → Type 0
OfBoardAll board drivers = (d : Drive) → Has drivers d → OfBoard board d

add_nets_useful : (board : RawBoard) (passes : List (List Ctl)) (nets : List Drive × List Drive)
    → AllUseful board passes → OfBoardAll board nets.0 × OfBoardAll board nets.1
    → AllUseful board (add_for_nets board (useful_controls board) passes nets)
add_nets_useful board passes nets all of = by_test (are_shown passes nets.0 nets.1)
  where
    by_pair : (o : Option (Drive × Drive)) → first_pair board nets.0 nets.1 ≡ o
        → AllUseful board (with_pair board (useful_controls board) passes o)
    by_pair None e = all
    by_pair (Some pair) e =
        let f = find_has (λ (p : Drive × Drive). are_compatible board (Some p.0) (Some p.1)) (pairs_of nets.0 nets.1) pair e in
        let s = pairs_of_has' f.0 in
        more_useful board passes (pair_pass board (useful_controls board) pair) all
        (walk_useful board (joins_setting board) (useful_controls board) (with_driver (with_driver [] pair.0) pair.1) (useful_listed board)
        (with_useful board (with_driver [] pair.0) pair.1 (of.1 pair.1 s.1)
        (with_useful board [] pair.0 (of.0 pair.0 s.0) (none_useful board))))
      where
        pairs_of_has' : Has (pairs_of nets.0 nets.1) pair → Has nets.0 pair.0 × Has nets.1 pair.1
        pairs_of_has' h =
            let r = flat_map_has (λ (a : Drive). map (λ (b : Drive). let q : Drive × Drive = (a, b) in q) nets.1) nets.0 pair h in
            let s = map_has (λ (b : Drive). let q : Drive × Drive = (r.0, b) in q) nets.1 pair r.2 in (
              subst (λ (v : Drive). Has nets.0 v) (ap (λ (q : Drive × Drive). q.0) s.2) r.1,
              subst (λ (v : Drive). Has nets.1 v) (ap (λ (q : Drive × Drive). q.1) s.2) s.1,
            )

    by_test : (b : Bool) → AllUseful board (cond b passes (with_pair board (useful_controls board) passes (first_pair board nets.0 nets.1)))
    by_test true = all
    by_test false = by_pair (first_pair board nets.0 nets.1) refl

by_net_tested : (board : RawBoard) (drivers : List Drive) → Has (drivers_by_net board) drivers → OfBoardAll board drivers
by_net_tested board drivers h d k =
    let r = map_has (tested_drivers board) board.nets drivers h in
    (r.0, r.1, tested_has board r.0 d (subst (λ (l : List Drive). Has l d) (sym r.2) k))

pub passes_useful : (board : RawBoard) → AllUseful board (passes_of board)
passes_useful board =
    fold_keeps (AllUseful board)
    (λ (nets : List Drive × List Drive). OfBoardAll board nets.0 × OfBoardAll board nets.1)
    (add_for_nets board (useful_controls board))
    (λ passes nets all of. add_nets_useful board passes nets all of) (pairs_within (drivers_by_net board))
    (driver_passes board (useful_controls board) (flat_map (λ drivers. drivers) (drivers_by_net board)))
    (λ nets h.
    let a : PairApart (drivers_by_net board) nets = pairs_within_has (drivers_by_net board) nets h in (
      by_net_tested board nets.0 (has_at (drivers_by_net board) a.low nets.0 a.at_low),
      by_net_tested
          board nets.1 (has_at (drivers_by_net board) a.high nets.1 a.at_high),
    ))
    (fold_keeps (AllUseful board) (OfBoard board) (add_for_driver board (useful_controls board))
    (λ passes d all of. add_driver_useful board passes d all of)
    (flat_map (λ drivers. drivers) (drivers_by_net board)) []
    (λ d h. let r = flat_map_has (λ (drivers : List Drive). drivers) (drivers_by_net board) d h in by_net_tested board r.0 r.1 d r.2)
    (λ pass none. absurd none))

pub setting_plannable : (board : RawBoard) (setting : List Ctl) → walk_setting board ≡ Some setting
    → ArePasses board (passes_of board) → PlansUseful board → ArePlannable board (setting ∷ [])
setting_plannable board setting is kept plans =
    plans.passes (setting ∷ [])
    (λ x pass e. by_place x pass e (λ s. IsSafe board (holds s)) (setting_safe board setting is kept))
    (λ x pass c e h. by_place x pass e (λ s. holds s c ≡ true → is_useful board c ≡ true) (λ k.
    let f = first_pass board setting is in
    passes_useful board f.pass (has_at (passes_of board) 0 f.pass f.stands) c
    (setting_held board f.pass c (ap (λ (s : List Ctl). holds s c) f.setting_is ∙ k)).0) h)
  where
    by_place : (x : ℕ) (pass : List Ctl) → slice_get (setting ∷ []) x ≡ Some pass → (P : List Ctl → Type 0) → P setting → P pass
    by_place zero pass e P p = let same : setting ≡ pass = cc e in subst P same p
    by_place (suc x) pass e P p = cc e

pub nothing_plannable : (board : RawBoard) → ArePlannable board []
nothing_plannable board = record { safe = λ x pass e. cc e; controls = λ x pass c e. cc e }

pub only_plannable : {V E : Type 0} (view : V → List (List Ctl)) (result : Result V E)
    (board : RawBoard) (setting : List Ctl) → IfOk result (λ v. view v ≡ setting ∷ [])
    → ArePlannable board (setting ∷ []) → IfOk result (λ v. ArePlannable board (view v))
only_plannable view (Err e) board setting is plans = tt
only_plannable view (Ok v) board setting is plans = subst (λ (l : List (List Ctl)). ArePlannable board l) (sym is) plans
