-- The passes of a board meet the requirements on passes.
use Rattle.std.proofs.Common.{◌≡◌, ◌≢◌, ℕ, zero, suc, ◌<◌, Bool, true, false, ◌&&◌, List, [], ◌∷◌, ◌++◌, length, take, Option, Some, None, refl, sym, ◌∙◌, ap, subst, arith, cond, append_assoc, ◌⊎◌, inl, inr}
use Rattle.std.specs.Prelude.{slice_get, option_map, fold}
use Rattle.std.specs.List.{list_any, flat_map, range_with_len}
use Rattle.std.proofs.lemmas.Bool.{both_ways, and_parts, and_from}
use Rattle.std.proofs.lemmas.Option.{slice_get-map}
use Rattle.board_defs.specs.declared.board.Net.{Net}
use Rattle.board_defs.specs.declared.board.Ctl.{Ctl}
use Rattle.board_defs.specs.declared.board.RawBoard.{RawBoard}
use Rattle.board_defs.specs.declared.board.Drive.{Drive}
use Rattle.board_defs.specs.declared.board.Drive.TheVariants.{AlwaysOn, OneSided, By}
use Rattle.board_defs.specs.BoardRules.{IsBoard}
use Rattle.board_defs.specs.Pins.{drive}
use Rattle.board_defs.specs.Settings.{holds, IsSafe, ObservesBy, Observes, ObservesNet}
use Rattle.board_defs.specs.Coverage.{TestsDriver}
use Rattle.board_defs.specs.Decided.{any_below, is_useful, is_safe_alone, can_enable, are_compatible, are_paired, are_paired_at, is_tested_driver, place_drive, drive_in, tests_by}
use Rattle.board_defs.specs.Passes.{all_cells, useful_controls, tested_drive, tested_drivers, drivers_by_net, is_enabled, driver_pass, add_for_driver, driver_passes, shows, are_shown, pairs_of, pairs_within, first_pair, pair_pass, with_pair, add_for_nets, passes_of, SomePass, EnablesNew, ObservesNew}
use Rattle.board_defs.proofs.Members.{Has, has_at, has_place, has_append, has_flat_map, flat_map_has, filter_has, has_filter_map, filter_map_has, has_range, pairs_of_has, Apart, pairs_within_has, any_has, has_any, find_has}
use Rattle.board_defs.proofs.ControlOrder.{same_equal}
use Rattle.board_defs.proofs.Places.{below_at}
use Rattle.board_defs.proofs.Driving.{by_enables}
use Rattle.board_defs.proofs.Covered.{needed, net_same, tested_can, tested_below, tested_driver_of, tested_driver_is, observes_of, paired_is}
use Rattle.board_defs.proofs.PassSettings.{AllTogether, AllSafe, safe_setting, driver_pass_together, pair_pass_together, driver_pass_enables, pair_pass_enables}

-- `d` is the way in which a tested driver of the net is enabled
pub record Tested (board : RawBoard) (net : Net) (d : Drive) : Type 0 where
  pub place : ℕ
  pub tested : is_tested_driver board net place ≡ true
  pub drives : place_drive board net place ≡ Some d

pub tested_has : (board : RawBoard) (net : Net) (d : Drive) → Has (tested_drivers board net) d → Tested board net d
tested_has board net d h =
    let r = filter_map_has (tested_drive board net) (range_with_len 0 (length net.pins)) d h in
    by_test r.0 (is_tested_driver board net r.0) refl r.2
  where
    by_test : (place : ℕ) (t : Bool) → is_tested_driver board net place ≡ t
        → cond t (place_drive board net place) None ≡ Some d → Tested board net d
    by_test place true e k = record { place = place; tested = e; drives = k }
    by_test place false e k = cc k

pub has_tested : (board : RawBoard) (net : Net) (place : ℕ) (d : Drive)
    → is_tested_driver board net place ≡ true → place_drive board net place ≡ Some d
    → Has (tested_drivers board net) d
has_tested board net place d t e =
    let below : place < length net.pins = tested_below board net place t in
    has_filter_map (tested_drive board net) (range_with_len 0 (length net.pins)) place d
    (has_range 0 (length net.pins) place (omega arith) (omega arith))
    (ap (λ b. cond b (place_drive board net place) None) t ∙ e)

pub tested_drives : (board : RawBoard) (net : Net) (place : ℕ)
    → is_tested_driver board net place ≡ true → (d : Drive) × (place_drive board net place ≡ Some d)
tested_drives board net place t = by_drive (place_drive board net place) refl (tested_can board net place t)
  where
    by_drive : (w : Option Drive) → place_drive board net place ≡ w → can_enable board w ≡ true → (d : Drive) × (w ≡ Some d)
    by_drive None e h = cc h
    by_drive (Some d) e h = (d, refl)

pub tested_can_drive : (board : RawBoard) (net : Net) (d : Drive) → Tested board net d → can_enable board (Some d) ≡ true
tested_can_drive board net d t = ap (can_enable board) (sym t.drives) ∙ tested_can board net t.place t.tested

pub enabled_needs : (pass : List Ctl) (w : Option Drive) (d : Drive) → w ≡ Some d
    → is_enabled pass d ≡ true → (c : Ctl) → needed w c ≡ true → holds pass c ≡ true
enabled_needs pass w d e h c k = by_drive d h (sym (ap (λ (v : Option Drive). needed v c) e) ∙ k)
  where
    by_drive : (d : Drive) → is_enabled pass d ≡ true → needed (Some d) c ≡ true → holds pass c ≡ true
    by_drive AlwaysOn h k = cc k
    by_drive OneSided h k = cc k
    by_drive (By b) h k = ap (holds pass) (same_equal c b k) ∙ h

pub enabled_observes : (board : RawBoard) (net : Net) (place : ℕ) (d : Drive) (pass : List Ctl)
    → is_tested_driver board net place ≡ true → place_drive board net place ≡ Some d
    → is_enabled pass d ≡ true → ObservesBy board (holds pass) net place
enabled_observes board net place d pass t e h =
    observes_of board (holds pass) net place t
    (enabled_needs pass (place_drive board net place) d e h)

observes_enabled : (board : RawBoard) (net : Net) (place : ℕ) (d : Drive) (pass : List Ctl)
    → can_enable board (Some d) ≡ true → place_drive board net place ≡ Some d
    → ObservesBy board (holds pass) net place → is_enabled pass d ≡ true
observes_enabled board net place AlwaysOn pass can e o = refl
observes_enabled board net place OneSided pass can e o = can
observes_enabled board net place (By c) pass can e o =
    let drives : drive board net o.pin ≡ Some (By c) = sym (ap (drive_in board net) o.stands) ∙ e in
    sym (by_enables board net o.pin c drives (holds pass)) ∙ o.enabled

pub shows_observes : (board : RawBoard) (net : Net) (pass : List Ctl)
    → shows (tested_drivers board net) pass ≡ true → Observes board (holds pass) net
shows_observes board net pass h =
    let r = any_has (is_enabled pass) (tested_drivers board net) h in
    let t : Tested board net r.0 = tested_has board net r.0 r.1 in
    (t.place, enabled_observes board net t.place r.0 pass t.tested t.drives r.2)

pub observes_shows : (board : RawBoard) (n : ℕ) (net : Net) (pass : List Ctl) → IsBoard board
    → IsSafe board (holds pass) → slice_get board.nets n ≡ Some net
    → ObservesNet board (holds pass) n → shows (tested_drivers board net) pass ≡ true
observes_shows board n net pass rules safe en (other, eo, (place, o)) =
    let same : other ≡ net = net_same board n net other en eo in
    let P : Net → Type 0 = λ v. ObservesBy board (holds pass) v place in
    let here : ObservesBy board (holds pass) net place = subst P same o in
    let t : is_tested_driver board net place ≡ true = (tested_driver_of board (holds pass) n net place rules safe en here).0 in
    let d = tested_drives board net place t in
    has_any (is_enabled pass) (tested_drivers board net) d.0 (has_tested board net place d.0 t d.1)
    (observes_enabled board net place d.0 pass (ap (can_enable board) (sym d.1) ∙ tested_can board net place t) d.1 here)

-- Why a pass is needed: it observes a net by some tested driver, or two paired nets together, for the first
-- time.
abbrev Reason : RawBoard → List (List Ctl) → List Ctl → Type 0
Reason board earlier pass = EnablesNew board earlier pass ⊎ ObservesNew board earlier pass

abbrev Reasons : RawBoard → List (List Ctl) → List (List Ctl) → Type 0
Reasons board earlier [] = Unit {0}
Reasons board earlier (pass ∷ passes) = Reason board earlier pass × Reasons board (earlier ++ pass ∷ []) passes

append_none : (xs : List (List Ctl)) → xs ++ [] ≡ xs
append_none [] = refl
append_none (x ∷ xs) = ap (λ (v : List (List Ctl)). x ∷ v) (append_none xs)

reasons_end : (board : RawBoard) (earlier passes : List (List Ctl)) (pass : List Ctl)
    → Reasons board earlier passes → Reason board (earlier ++ passes) pass
    → Reasons board earlier (passes ++ pass ∷ [])
reasons_end board earlier [] pass h r = let P : List (List Ctl) → Type 0 = λ v. Reason board v pass in (subst P (append_none earlier) r, tt)
reasons_end board earlier (q ∷ passes) pass h r =
    let P : List (List Ctl) → Type 0 = λ v. Reason board v pass in (
      h.0,
      reasons_end board (earlier ++ q ∷ []) passes pass h.1
          (subst P (sym (append_assoc earlier (q ∷ []) passes)) r),
    )

pub reason_at : (board : RawBoard) (earlier passes : List (List Ctl)) (x : ℕ) (pass : List Ctl)
    → Reasons board earlier passes → slice_get passes x ≡ Some pass
    → Reason board (earlier ++ take x passes) pass
reason_at board earlier [] x pass h e = cc e
reason_at board earlier (q ∷ passes) zero pass h e =
    let same : q ≡ pass = cc e in
    let P : List (List Ctl) → Type 0 = λ v. Reason board v pass in
    let Q : List Ctl → Type 0 = λ v. Reason board earlier v in
    subst P (sym (append_none earlier)) (subst Q same h.0)
reason_at board earlier (q ∷ passes) (suc x) pass h e =
    let P : List (List Ctl) → Type 0 = λ v. Reason board v pass in
    subst P (append_assoc earlier (q ∷ []) (take x passes))
    (reason_at board (earlier ++ q ∷ []) passes x pass h.1 e)

-- Properties of a list of passes that adding a pass preserves: for every two controls of a pass, the setting with just these two is safe,
-- and each pass is needed.
pub record Good (board : RawBoard) (passes : List (List Ctl)) : Type 0 where
  pub together : (pass : List Ctl) → Has passes pass → AllTogether board pass
  pub reasons : Reasons board [] passes

good_none : (board : RawBoard) → Good board []
good_none board = record { together = λ pass h. absurd h; reasons = tt }

good_end : (board : RawBoard) (passes : List (List Ctl)) (pass : List Ctl) → Good board passes
    → AllTogether board pass → Reason board passes pass → Good board (passes ++ pass ∷ [])
good_end board passes pass good all reason =
    record {
      together = λ q h. by_part q (has_append passes (pass ∷ []) q h);
      reasons = reasons_end board
          [] passes pass good.reasons reason;
    }
  where
    by_part : (q : List Ctl) → Has passes q ⊎ Has (pass ∷ []) q → AllTogether board q
    by_part q (inl h) = good.together q h
    by_part q (inr (inl e)) = let P : List Ctl → Type 0 = λ v. AllTogether board v in subst P e all
    by_part q (inr (inr h)) = absurd h

good_safe : (board : RawBoard) (passes : List (List Ctl)) (pass : List Ctl) → IsBoard board
    → Good board passes → Has passes pass → IsSafe board (holds pass)
good_safe board passes pass rules good h = safe_setting board pass rules (good.together pass h)

pub fold_keeps : {X Y : Type 0} (P : Y → Type 0) (Q : X → Type 0) (f : Y → X → Y)
    → ((y : Y) (x : X) → P y → Q x → P (f y x)) → (xs : List X) (y : Y) → ((x : X) → Has xs x → Q x)
    → P y → P (fold f y xs)
fold_keeps P Q f step [] y all h = h
fold_keeps P Q f step (x ∷ xs) y all h = fold_keeps P Q f step xs (f y x) (λ z k. all z (inr k)) (step y x h (all x (inl refl)))

pub fold_makes : {X Y : Type 0} (P : Y → Type 0) (f : Y → X → Y)
    → ((y : Y) (x : X) → P y → P (f y x)) → (xs : List X) (y : Y) (x : X) → Has xs x
    → ((y : Y) → P (f y x)) → P (fold f y xs)
fold_makes P f keeps [] y x h makes = absurd h
fold_makes {X} {Y} P f keeps (z ∷ xs) y x (inl e) makes =
    let R : X → Type 0 = λ v. P (f y v) in
    fold_keeps P (λ v. Unit {0}) f (λ w v k u. keeps w v k) xs (f y z) (λ v k. tt) (subst R (sym e) (makes y))
fold_makes P f keeps (z ∷ xs) y x (inr h) makes = fold_makes P f keeps xs (f y z) x h makes

useful_safe : (board : RawBoard) → AllSafe board (useful_controls board)
useful_safe board c h =
    (and_parts (is_safe_alone board c) (list_any (tests_by board c) board.nets)
    (filter_has (is_useful board) (all_cells board) c h).1).0

-- `drivers` lists the ways in which the tested drivers of net `n` are enabled
pub record OfNet (board : RawBoard) (n : ℕ) (drivers : List Drive) : Type 0 where
  pub net : Net
  pub on_board : slice_get board.nets n ≡ Some net
  pub drivers_are : tested_drivers board net ≡ drivers

of_net : (board : RawBoard) (n : ℕ) (drivers : List Drive) → slice_get (drivers_by_net board) n ≡ Some drivers → OfNet board n drivers
of_net board n drivers e = by_net (slice_get board.nets n) refl (sym (slice_get-map (tested_drivers board) board.nets n) ∙ e)
  where
    by_net : (w : Option Net) → slice_get board.nets n ≡ w → option_map (tested_drivers board) w ≡ Some drivers → OfNet board n drivers
    by_net None k h = cc h
    by_net (Some net) k h = record { net = net; on_board = k; drivers_are = cc h }

pub in_nets : (board : RawBoard) (n : ℕ) (net : Net) → slice_get board.nets n ≡ Some net
    → slice_get (drivers_by_net board) n ≡ Some (tested_drivers board net)
in_nets board n net e = slice_get-map (tested_drivers board) board.nets n ∙ ap (option_map (tested_drivers board)) e

-- `d` is the way in which some tested driver of the board is enabled
pub record OnBoard (board : RawBoard) (d : Drive) : Type 0 where
  pub n : ℕ
  pub net : Net
  pub on_board : slice_get board.nets n ≡ Some net
  pub tested : Tested board net d

abbrev pub all_drivers : RawBoard → List Drive
all_drivers board = flat_map (λ drivers. drivers) (drivers_by_net board)

driver_on_board : (board : RawBoard) (d : Drive) → Has (all_drivers board) d → OnBoard board d
driver_on_board board d h =
    let r = flat_map_has (λ (drivers : List Drive). drivers) (drivers_by_net board) d h in
    let p = has_place (drivers_by_net board) r.0 r.1 in
    let o : OfNet board p.0 r.0 = of_net board p.0 r.0 p.1 in
    let P : List Drive → Type 0 = λ v. Has v d in
    record { n = p.0; net = o.net; on_board = o.on_board; tested = tested_has board o.net d (subst P (sym o.drivers_are) r.2) }

pub on_board_driver : (board : RawBoard) (n : ℕ) (net : Net) (d : Drive)
    → slice_get board.nets n ≡ Some net → Has (tested_drivers board net) d
    → Has (all_drivers board) d
on_board_driver board n net d en h =
    has_flat_map (λ (drivers : List Drive). drivers) (drivers_by_net board)
    (tested_drivers board net) d
    (has_at (drivers_by_net board) n (tested_drivers board net) (in_nets board n net en)) h

driver_reason : (board : RawBoard) (useful : List Ctl) (passes : List (List Ctl)) (d : Drive)
    → IsBoard board → OnBoard board d → list_any (λ pass. is_enabled pass d) passes ≡ false
    → EnablesNew board passes (driver_pass board useful passes d)
driver_reason board useful passes d rules o none = record {
  net = o.n;
  place = o.tested.place;
  tested = tested_driver_is board o.n o.net o.tested.place rules o.on_board o.tested.tested;
  enables = (
    o.net,
    o.on_board,
    enabled_observes board o.net o.tested.place d (driver_pass board useful passes d)
        o.tested.tested o.tested.drives
        (driver_pass_enables board useful passes d (tested_can_drive board o.net d o.tested)),
  );
  first = λ some. earlier some;
}
  where
    earlier : SomePass passes (λ setting. TestsDriver board setting o.n o.tested.place) → ⊥
    earlier (x, pass, e, (net, en, by)) =
        let P : Net → Type 0 = λ v. ObservesBy board (holds pass) v o.tested.place in
        let here : ObservesBy board (holds pass) o.net o.tested.place = subst P (net_same board o.n o.net net o.on_board en) by in
        both_ways (list_any (λ (q : List Ctl). is_enabled q d) passes) none
        (has_any (λ (q : List Ctl). is_enabled q d) passes pass (has_at passes x pass e)
        (observes_enabled board o.net o.tested.place d pass
        (tested_can_drive board o.net d o.tested) o.tested.drives here))

good_driver : (board : RawBoard) (useful : List Ctl) (passes : List (List Ctl)) (d : Drive)
    → IsBoard board → AllSafe board useful → Good board passes → OnBoard board d
    → Good board (add_for_driver board useful passes d)
good_driver board useful passes d rules safe good o = by_test (list_any (λ pass. is_enabled pass d) passes) refl
  where
    by_test : (t : Bool) → list_any (λ pass. is_enabled pass d) passes ≡ t
        → Good board (cond t passes (passes ++ driver_pass board useful passes d ∷ []))
    by_test true e = good
    by_test false e =
        good_end board passes (driver_pass board useful passes d) good
        (driver_pass_together board useful passes d rules safe
        (tested_can_drive board o.net d o.tested))
        (inl (driver_reason board useful passes d rules o e))

good_drivers : (board : RawBoard) → IsBoard board → Good board (driver_passes board (useful_controls board) (all_drivers board))
good_drivers board rules =
    fold_keeps (Good board) (OnBoard board) (add_for_driver board (useful_controls board))
    (λ passes d good o. good_driver board (useful_controls board) passes d rules
    (useful_safe board) good o) (all_drivers board) [] (driver_on_board board) (good_none board)

-- the two lists have the ways in which the tested drivers of two nets are enabled, and the first net has the lower
-- number
pub record OfNets (board : RawBoard) (nets : List Drive × List Drive) : Type 0 where
  pub low : ℕ
  pub high : ℕ
  pub below : low < high
  pub first : OfNet board low nets.0
  pub second : OfNet board high nets.1

of_nets : (board : RawBoard) (nets : List Drive × List Drive) → Has (pairs_within (drivers_by_net board)) nets → OfNets board nets
of_nets board nets h =
    let a : Apart (drivers_by_net board) nets = pairs_within_has (drivers_by_net board) nets h in
    record {
      low = a.low;
      high = a.high;
      below = a.below;
      first = of_net board a.low nets.0 a.at_low;
      second = of_net board a.high nets.1 a.at_high;
    }

-- two tested drivers, one of each net, that one safe setting enables together
pub record Compatible (board : RawBoard) (a b : Net) (pair : Drive × Drive) : Type 0 where
  pub first : Tested board a pair.0
  pub second : Tested board b pair.1
  pub compatible : are_compatible board (Some pair.0) (Some pair.1) ≡ true

found_compatible : (board : RawBoard) (nets : List Drive × List Drive) (o : OfNets board nets)
    (pair : Drive × Drive) → first_pair board nets.0 nets.1 ≡ Some pair
    → Compatible board o.first.net o.second.net pair
found_compatible board nets o pair e =
    let r = find_has (λ (p : Drive × Drive). are_compatible board (Some p.0) (Some p.1)) (pairs_of nets.0 nets.1) pair e in
    let s = pairs_of_has nets.0 nets.1 pair r.0 in
    let P : List Drive → Type 0 = λ v. Has v pair.0 in
    let Q : List Drive → Type 0 = λ v. Has v pair.1 in
    record {
      first = tested_has board o.first.net pair.0 (subst P (sym o.first.drivers_are) s.0);
      second = tested_has board o.second.net pair.1 (subst Q (sym o.second.drivers_are) s.1);
      compatible = r.1;
    }

compatible_paired : (board : RawBoard) (a b : Net) (pair : Drive × Drive) → Compatible board a b pair → are_paired board a b ≡ true
compatible_paired board a b pair c =
    let here : are_paired_at board a b c.first.place c.second.place ≡ true =
    and_from (is_tested_driver board a c.first.place && is_tested_driver board b c.second.place)
    (are_compatible board (place_drive board a c.first.place)
    (place_drive board b c.second.place))
    (and_from (is_tested_driver board a c.first.place) (is_tested_driver board b c.second.place) c.first.tested c.second.tested)
    (ap (λ (w : Option Drive). are_compatible board w (place_drive board b c.second.place))
    c.first.drives ∙ ap (are_compatible board (Some pair.0)) c.second.drives ∙ c.compatible)
    in
    below_at (length a.pins) (λ i. any_below (length b.pins) (are_paired_at board a b i))
    c.first.place (tested_below board a c.first.place c.first.tested)
    (below_at (length b.pins) (are_paired_at board a b c.first.place) c.second.place
    (tested_below board b c.second.place c.second.tested) here)

pub pair_shows : (board : RawBoard) (useful : List Ctl) (a b : Net) (pair : Drive × Drive)
    → first_pair board (tested_drivers board a) (tested_drivers board b) ≡ Some pair
    → (shows (tested_drivers board a) (pair_pass board useful pair)
    && shows (tested_drivers board b) (pair_pass board useful pair)) ≡ true
pair_shows board useful a b pair e =
    let r = find_has (λ (p : Drive × Drive). are_compatible board (Some p.0) (Some p.1))
    (pairs_of (tested_drivers board a) (tested_drivers board b)) pair e in
    let s = pairs_of_has (tested_drivers board a) (tested_drivers board b) pair r.0 in
    let on = pair_pass_enables board useful pair
    (tested_can_drive board a pair.0 (tested_has board a pair.0 s.0))
    (tested_can_drive board b pair.1 (tested_has board b pair.1 s.1)) in
    and_from (shows (tested_drivers board a) (pair_pass board useful pair)) (shows (tested_drivers board b) (pair_pass board useful pair))
    (has_any (is_enabled (pair_pass board useful pair)) (tested_drivers board a) pair.0 s.0 on.0)
    (has_any (is_enabled (pair_pass board useful pair)) (tested_drivers board b) pair.1 s.1 on.1)

pair_observes : (board : RawBoard) (useful : List Ctl) (a b : Net) (pair : Drive × Drive)
    → Compatible board a b pair
    → Observes board (holds (pair_pass board useful pair)) a
    × Observes board (holds (pair_pass board useful pair)) b
pair_observes board useful a b pair c =
    let on = pair_pass_enables board useful pair (tested_can_drive board a pair.0 c.first) (tested_can_drive board b pair.1 c.second) in (
      (c.first.place, enabled_observes board a c.first.place pair.0 (pair_pass board useful pair) c.first.tested c.first.drives on.0),
      (c.second.place, enabled_observes board b c.second.place pair.1 (pair_pass board useful pair) c.second.tested c.second.drives on.1),
    )

shown_by : (passes : List (List Ctl)) (a b : List Drive) (pass : List Ctl) → Has passes pass
    → shows a pass ≡ true → shows b pass ≡ true → are_shown passes a b ≡ true
shown_by passes a b pass h sa sb =
    has_any (λ (q : List Ctl). shows a q && shows b q) passes pass h
    (and_from (shows a pass) (shows b pass) sa sb)

less_differ : (m n : ℕ) → m < n → m ≢ n
less_differ m n less e = omega arith

pair_reason : (board : RawBoard) (useful : List Ctl) (passes : List (List Ctl))
    (nets : List Drive × List Drive) (pair : Drive × Drive) → IsBoard board → Good board passes
    → (o : OfNets board nets) → Compatible board o.first.net o.second.net pair
    → are_shown passes nets.0 nets.1 ≡ false
    → ObservesNew board passes (pair_pass board useful pair)
pair_reason board useful passes nets pair rules good o c none =
    let seen = pair_observes board useful o.first.net o.second.net pair c in
    record {
      low = o.low;
      high = o.high;
      paired =
          paired_is board o.low o.high o.first.net o.second.net rules o.first.on_board
          o.second.on_board (less_differ o.low o.high o.below)
          (compatible_paired board o.first.net o.second.net pair c);
      observes = ((o.first.net, o.first.on_board, seen.0), (o.second.net, o.second.on_board, seen.1));
      first = λ some. earlier some;
    }
  where
    earlier : SomePass passes (λ setting. ObservesNet board setting o.low × ObservesNet board setting o.high) → ⊥
    earlier (x, pass, e, (first, second)) =
        let h : Has passes pass = has_at passes x pass e in
        let safe : IsSafe board (holds pass) = good_safe board passes pass rules good h in
        both_ways (are_shown passes nets.0 nets.1) none
        (shown_by passes nets.0 nets.1 pass h
        (ap (λ (v : List Drive). shows v pass) (sym o.first.drivers_are)
        ∙ observes_shows board o.low o.first.net pass rules safe o.first.on_board first)
        (ap (λ (v : List Drive). shows v pass) (sym o.second.drivers_are) ∙ observes_shows board
        o.high o.second.net pass rules safe o.second.on_board second))

good_nets : (board : RawBoard) (useful : List Ctl) (passes : List (List Ctl))
    (nets : List Drive × List Drive) → IsBoard board → AllSafe board useful → Good board passes
    → OfNets board nets → Good board (add_for_nets board useful passes nets)
good_nets board useful passes nets rules safe good o = by_test (are_shown passes nets.0 nets.1) refl
  where
    by_pair : are_shown passes nets.0 nets.1 ≡ false → (found : Option (Drive × Drive))
        → first_pair board nets.0 nets.1 ≡ found → Good board (with_pair board useful passes found)
    by_pair none None e = good
    by_pair none (Some pair) e =
        let c : Compatible board o.first.net o.second.net pair = found_compatible board nets o pair e in
        good_end board passes (pair_pass board useful pair) good
        (pair_pass_together board useful pair rules safe c.compatible)
        (inr (pair_reason board useful passes nets pair rules good o c none))

    by_test : (t : Bool) → are_shown passes nets.0 nets.1 ≡ t
        → Good board
        (cond t passes (with_pair board useful passes (first_pair board nets.0 nets.1)))
    by_test true e = good
    by_test false e = by_pair e (first_pair board nets.0 nets.1) refl

pub good_passes : (board : RawBoard) → IsBoard board → Good board (passes_of board)
good_passes board rules =
    fold_keeps (Good board) (OfNets board) (add_for_nets board (useful_controls board))
    (λ passes nets good o. good_nets board (useful_controls board) passes nets rules
    (useful_safe board) good o)
    (pairs_within (drivers_by_net board))
    (driver_passes board (useful_controls board) (all_drivers board)) (of_nets board)
    (good_drivers board rules)
