-- If some safe setting observes a net or two paired nets, or tests a driver or a receiver, some pass of the board does the same.
use Rattle.std.proofs.Common.{◌≡◌, ℕ, ◌<◌, Bool, true, false, ◌&&◌, List, [], ◌∷◌, ◌++◌, length, Option, Some, None, refl, sym, ◌∙◌, ap, subst, cond, ◌⊎◌, inl, inr}
use Rattle.std.specs.Prelude.{slice_get}
use Rattle.std.specs.List.{list_any}
use Rattle.std.proofs.lemmas.Bool.{both_ways, and_parts, cases_order}
use Rattle.lists.proofs.ListLemmas.{list_any_before, list_any_last}
use Rattle.board_defs.specs.declared.board.Net.{Net}
use Rattle.board_defs.specs.declared.board.Ctl.{Ctl}
use Rattle.board_defs.specs.declared.board.RawBoard.{RawBoard}
use Rattle.board_defs.specs.declared.board.Drive.{Drive}
use Rattle.board_defs.specs.BoardRules.{IsBoard}
use Rattle.board_defs.specs.Settings.{holds, ObservesBy, ObservesNet}
use Rattle.board_defs.specs.Coverage.{IsCovered, ArePaired, IsTestedDriver, IsTestedReceiver, TestsDriver, TestsReceiver}
use Rattle.board_defs.specs.Decided.{any_below, can_enable, are_compatible, are_paired, are_paired_at, is_tested_driver, place_drive}
use Rattle.board_defs.specs.Passes.{useful_controls, tested_drivers, drivers_by_net, is_enabled, driver_pass, add_for_driver, driver_passes, shows, are_shown, pairs_of, pairs_within, first_pair, pair_pass, with_pair, add_for_nets, passes_of, SomePass, ArePasses}
use Rattle.board_defs.proofs.Members.{Has, has_at, has_place, has_pairs_of, has_pairs_within, any_has, find_none}
use Rattle.board_defs.proofs.Places.{FoundBelow, below_place}
use Rattle.board_defs.proofs.Covered.{net_same, tested_can, tested_driver_of, paired_true}
use Rattle.board_defs.proofs.PassSettings.{driver_pass_enables, safe_setting}
use Rattle.board_defs.proofs.PassesKept.{Good, good_passes, reason_at, fold_keeps, fold_makes, all_drivers, on_board_driver, has_tested, tested_drives, in_nets, enabled_observes, shows_observes, Compatible, pair_shows}

-- some pass enables the driver
abbrev pub Enabled : Drive → List (List Ctl) → Type 0
Enabled d passes = list_any (λ pass. is_enabled pass d) passes ≡ true

abbrev Shown : List Drive → List Drive → List (List Ctl) → Type 0
Shown a b passes = are_shown passes a b ≡ true

pub driver_keeps : (p : List Ctl → Bool) (board : RawBoard) (useful : List Ctl)
    (passes : List (List Ctl)) (d : Drive) → list_any p passes ≡ true
    → list_any p (add_for_driver board useful passes d) ≡ true
driver_keeps p board useful passes d h = by_test (list_any (λ pass. is_enabled pass d) passes)
  where
    by_test : (t : Bool) → list_any p (cond t passes (passes ++ driver_pass board useful passes d ∷ [])) ≡ true
    by_test true = h
    by_test false = list_any_before p passes (driver_pass board useful passes d) h

nets_keep : (p : List Ctl → Bool) (board : RawBoard) (useful : List Ctl) (passes : List (List Ctl))
    (nets : List Drive × List Drive) → list_any p passes ≡ true
    → list_any p (add_for_nets board useful passes nets) ≡ true
nets_keep p board useful passes nets h = by_test (are_shown passes nets.0 nets.1)
  where
    by_pair : (found : Option (Drive × Drive)) → list_any p (with_pair board useful passes found) ≡ true
    by_pair None = h
    by_pair (Some pair) = list_any_before p passes (pair_pass board useful pair) h

    by_test : (t : Bool) → list_any p (cond t passes (with_pair board useful passes (first_pair board nets.0 nets.1))) ≡ true
    by_test true = h
    by_test false = by_pair (first_pair board nets.0 nets.1)

pub driver_enabled : (board : RawBoard) (useful : List Ctl) (passes : List (List Ctl)) (d : Drive)
    → can_enable board (Some d) ≡ true → Enabled d (add_for_driver board useful passes d)
driver_enabled board useful passes d can = by_test (list_any (λ pass. is_enabled pass d) passes) refl
  where
    by_test : (t : Bool) → list_any (λ pass. is_enabled pass d) passes ≡ t
        → Enabled d (cond t passes (passes ++ driver_pass board useful passes d ∷ []))
    by_test true e = e
    by_test false e =
        list_any_last (λ pass. is_enabled pass d) passes (driver_pass board useful passes d)
        (driver_pass_enables board useful passes d can)

all_enabled : (board : RawBoard) (n : ℕ) (net : Net) (d : Drive) → slice_get board.nets n ≡ Some net
    → Has (tested_drivers board net) d → can_enable board (Some d) ≡ true
    → Enabled d (passes_of board)
all_enabled board n net d en h can =
    let useful : List Ctl = useful_controls board in
    fold_keeps (Enabled d) (λ nets. Unit {0}) (add_for_nets board useful)
    (λ passes nets k u. nets_keep (λ pass. is_enabled pass d) board useful passes nets k)
    (pairs_within (drivers_by_net board)) (driver_passes board useful (all_drivers board))
    (λ nets k. tt)
    (fold_makes (Enabled d) (add_for_driver board useful)
    (λ passes e k. driver_keeps (λ pass. is_enabled pass d) board useful passes e k)
    (all_drivers board) [] d (on_board_driver board n net d en h)
    (λ passes. driver_enabled board useful passes d can))

drivers_tested : (board : RawBoard) → IsBoard board → (n place : ℕ) → IsTestedDriver board n place
    → SomePass (passes_of board) (λ setting. TestsDriver board setting n place)
drivers_tested board rules n place (s, safe, (net, en, o)) =
    let t : is_tested_driver board net place ≡ true = (tested_driver_of board s n net place rules safe en o).0 in
    let d = tested_drives board net place t in
    let can : can_enable board (Some d.0) ≡ true = ap (can_enable board) (sym d.1) ∙ tested_can board net place t in
    let r = any_has (λ (pass : List Ctl). is_enabled pass d.0) (passes_of board)
    (all_enabled board n net d.0 en (has_tested board net place d.0 t d.1) can) in
    let p = has_place (passes_of board) r.0 r.1 in
    (p.0, r.0, p.1, (net, en, enabled_observes board net place d.0 r.0 t d.1 r.2))

paired_compatible : (board : RawBoard) (a b : Net) → are_paired board a b ≡ true → (pair : Drive × Drive) × Compatible board a b pair
paired_compatible board a b h =
    let r : FoundBelow (length a.pins) (λ i. any_below (length b.pins) (are_paired_at board a b i))
    = below_place (length a.pins) (λ i. any_below (length b.pins) (are_paired_at board a b i)) h
    in
    let t : FoundBelow (length b.pins) (are_paired_at board a b r.number) = below_place
    (length b.pins) (are_paired_at board a b r.number) r.passes in
    let both : (is_tested_driver board a r.number && is_tested_driver board b t.number)
    ≡ true =
    (and_parts (is_tested_driver board a r.number && is_tested_driver board b t.number)
    (are_compatible board (place_drive board a r.number) (place_drive board b t.number))
    t.passes).0 in
    let go : are_compatible board (place_drive board a r.number) (place_drive board b t.number)
    ≡ true =
    (and_parts (is_tested_driver board a r.number && is_tested_driver board b t.number)
    (are_compatible board (place_drive board a r.number) (place_drive board b t.number))
    t.passes).1 in
    let first : is_tested_driver board a r.number
    ≡ true =
    (and_parts (is_tested_driver board a r.number) (is_tested_driver board b t.number) both).0
    in
    let second : is_tested_driver board b t.number
    ≡ true =
    (and_parts (is_tested_driver board a r.number) (is_tested_driver board b t.number) both).1
    in
    let d = tested_drives board a r.number first in
    let e = tested_drives board b t.number second in (
      (d.0, e.0),
      record {
        first = record { place = r.number; tested = first; drives = d.1 };
        second = record { place = t.number; tested = second; drives = e.1 };
        compatible =
            sym (ap (λ (w : Option Drive). are_compatible board w (Some e.0)) d.1)
            ∙ sym (ap (are_compatible board (place_drive board a r.number)) e.1) ∙ go;
      },
    )

nets_shown : (board : RawBoard) (useful : List Ctl) (a b : Net) (passes : List (List Ctl))
    → are_paired board a b ≡ true
    → Shown (tested_drivers board a) (tested_drivers board b)
    (add_for_nets board useful passes (tested_drivers board a, tested_drivers board b))
nets_shown board useful a b passes paired = by_test (are_shown passes (tested_drivers board a) (tested_drivers board b)) refl
  where
    found : (pair : Drive × Drive) × Compatible board a b pair
    found = paired_compatible board a b paired

    by_pair : (w : Option (Drive × Drive))
        → first_pair board (tested_drivers board a) (tested_drivers board b) ≡ w
        → Shown (tested_drivers board a) (tested_drivers board b) (with_pair board useful passes w)
    by_pair None e =
        absurd (both_ways (are_compatible board (Some found.0.0) (Some found.0.1))
        (find_none (λ (p : Drive × Drive). are_compatible board (Some p.0) (Some p.1))
        (pairs_of (tested_drivers board a) (tested_drivers board b)) found.0 e
        (has_pairs_of (tested_drivers board a) (tested_drivers board b) found.0.0 found.0.1
        (has_tested board a found.1.first.place found.0.0 found.1.first.tested found.1.first.drives)
        (has_tested board b found.1.second.place found.0.1 found.1.second.tested found.1.second.drives)))
        found.1.compatible)
    by_pair (Some pair) e =
        list_any_last
        (λ pass. shows (tested_drivers board a) pass && shows (tested_drivers board b) pass)
        passes (pair_pass board useful pair) (pair_shows board useful a b pair e)

    by_test : (t : Bool) → are_shown passes (tested_drivers board a) (tested_drivers board b) ≡ t
        → Shown (tested_drivers board a) (tested_drivers board b)
        (cond t passes
        (with_pair board useful passes
        (first_pair board (tested_drivers board a) (tested_drivers board b))))
    by_test true e = e
    by_test false e = by_pair (first_pair board (tested_drivers board a) (tested_drivers board b)) refl

all_shown : (board : RawBoard) (m n : ℕ) (a b : Net) → m < n → slice_get board.nets m ≡ Some a
    → slice_get board.nets n ≡ Some b → are_paired board a b ≡ true
    → Shown (tested_drivers board a) (tested_drivers board b) (passes_of board)
all_shown board m n a b less ea eb paired =
    let useful : List Ctl = useful_controls board in
    fold_makes (Shown (tested_drivers board a) (tested_drivers board b)) (add_for_nets board useful)
    (λ passes nets k. nets_keep
    (λ pass. shows (tested_drivers board a) pass && shows (tested_drivers board b) pass) board
    useful passes nets k)
    (pairs_within (drivers_by_net board)) (driver_passes board useful (all_drivers board)) (tested_drivers board a, tested_drivers board b)
    (has_pairs_within (drivers_by_net board) m n (tested_drivers board a) (tested_drivers board b)
    less (in_nets board m a ea) (in_nets board n b eb))
    (λ passes. nets_shown board useful a b passes paired)

lower_first : (board : RawBoard) → IsBoard board → (m n : ℕ) → m < n → ArePaired board m n
    → SomePass (passes_of board)
    (λ setting. ObservesNet board setting m × ObservesNet board setting n)
lower_first board rules m n less (ne, (s, safe, ((a, ea, oa), (b, eb, ob)))) =
    let paired : are_paired board a b ≡ true = paired_true board m n a b rules ea eb (ne, (s, safe, ((a, ea, oa), (b, eb, ob)))) in
    let r = any_has
    (λ (pass : List Ctl). shows (tested_drivers board a) pass
    && shows (tested_drivers board b) pass) (passes_of board)
    (all_shown board m n a b less ea eb paired) in
    let p = has_place (passes_of board) r.0 r.1 in
    let both = and_parts (shows (tested_drivers board a) r.0) (shows (tested_drivers board b) r.0) r.2 in
    (p.0, r.0, p.1, ((a, ea, shows_observes board a r.0 both.0), (b, eb, shows_observes board b r.0 both.1)))

pairs_observed : (board : RawBoard) → IsBoard board → (m n : ℕ) → ArePaired board m n
    → SomePass (passes_of board)
    (λ setting. ObservesNet board setting m × ObservesNet board setting n)
pairs_observed board rules m n (ne, (s, safe, (om, on))) = by_order (cases_order m n)
  where
    by_order : (m ≡ n) ⊎ ((m < n) ⊎ (n < m))
        → SomePass (passes_of board)
        (λ setting. ObservesNet board setting m × ObservesNet board setting n)
    by_order (inl e) = absurd (ne e)
    by_order (inr (inl less)) = lower_first board rules m n less (ne, (s, safe, (om, on)))
    by_order (inr (inr less)) = turned (lower_first board rules n m less (λ e. ne (sym e), (s, safe, (on, om))))
      where
        turned : SomePass (passes_of board)
            (λ setting. ObservesNet board setting n × ObservesNet board setting m)
            → SomePass (passes_of board)
            (λ setting. ObservesNet board setting m × ObservesNet board setting n)
        turned (x, pass, e, (second, first)) = (x, pass, e, (first, second))

nets_observed : (board : RawBoard) → IsBoard board → (n : ℕ) → IsCovered board n
    → SomePass (passes_of board) (λ setting. ObservesNet board setting n)
nets_observed board rules n (s, safe, (net, en, (place, o))) = weaker (drivers_tested board rules n place (s, safe, (net, en, o)))
  where
    weaker : SomePass (passes_of board) (λ setting. TestsDriver board setting n place)
        → SomePass (passes_of board) (λ setting. ObservesNet board setting n)
    weaker (x, pass, e, (other, eo, by)) = (x, pass, e, (other, eo, (place, by)))

receivers_tested : (board : RawBoard) → IsBoard board → (n place : ℕ)
    → IsTestedReceiver board n place
    → SomePass (passes_of board) (λ setting. TestsReceiver board setting n place)
receivers_tested board rules n place (s, safe, (net, pin, driver, en, ep, reads, ne, o)) =
    read_there (drivers_tested board rules n driver (s, safe, (net, en, o)))
  where
    read_there : SomePass (passes_of board) (λ setting. TestsDriver board setting n driver)
        → SomePass (passes_of board) (λ setting. TestsReceiver board setting n place)
    read_there (x, pass, e, (other, eo, by)) =
        let P : Net → Type 0 = λ v. ObservesBy board (holds pass) v driver in
        (x, pass, e, (net, pin, driver, en, ep, reads, ne, subst P (net_same board n net other en eo) by))

pub passes_kept : (board : RawBoard) → IsBoard board → ArePasses board (passes_of board)
passes_kept board rules =
    let good : Good board (passes_of board) = good_passes board rules in
    record {
      safe = λ x pass e. safe_setting board pass rules (good.together pass (has_at (passes_of board) x pass e));
      nets = nets_observed board rules;
      pairs = pairs_observed board rules;
      drivers = drivers_tested board rules;
      receivers = receivers_tested board rules;
      needed = λ x pass e. reason_at board [] (passes_of board) x pass good.reasons e;
    }
