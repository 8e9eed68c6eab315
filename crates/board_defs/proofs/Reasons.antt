-- `first_reason` gives the first reason that applies to a net that is not covered.
use Rattle.std.proofs.Common.{◌≡◌, ℕ, ◌<◌, ◌≤◌, Bool, true, false, not, Option, Some, None, refl, ap, arith, cond}
use Rattle.std.specs.Prelude.{slice_get, is_some, MatchOption}
use Rattle.std.specs.List.{list_any}
use Rattle.std.proofs.lemmas.Bool.{both_ways, not-true, not-false, false_from_ne_true}
use Rattle.board_defs.specs.declared.board.NetPin.{NetPin}
use Rattle.board_defs.specs.declared.board.Net.{Net}
use Rattle.board_defs.specs.declared.board.RawBoard.{RawBoard}
use Rattle.board_defs.specs.declared.board.Drive.{Drive}
use Rattle.board_defs.specs.declared.coverage.Reason.{Reason}
use Rattle.board_defs.specs.declared.coverage.Reason.TheVariants.{Supply, TestPort, Dark, NoDriver, Blocked, NoReceiver}
use Rattle.board_defs.specs.Pins.{drive, is_test_pin, is_dark}
use Rattle.board_defs.specs.BoardRules.{IsBoard}
use Rattle.board_defs.specs.Settings.{enables}
use Rattle.board_defs.specs.Coverage.{IsCovered, HasNoDriver, IsBlocked, ReasonHolds, reason_rank, IsReason}
use Rattle.board_defs.specs.Decided.{can_enable, is_covered, first_reason, reason_of}
use Rattle.board_defs.proofs.Places.{Found, any_place, any_at}
use Rattle.board_defs.proofs.Covered.{needed, needed_safe, needed_enables, can_enable_of, covered_is, covered_true}

none_is : (d : Option Drive) → is_some d ≡ false → d ≡ None
none_is None h = refl
none_is (Some d) h = cc h

no_driver : (board : RawBoard) (n : ℕ) (net : Net)
    → not (list_any (λ p. is_some (drive board net p)) net.pins) ≡ true → HasNoDriver board n net
no_driver board n net h place pin st =
    none_is (drive board net pin) (false_from_ne_true (is_some (drive board net pin)) (λ some.
    both_ways (list_any (λ (p : NetPin). is_some (drive board net p)) net.pins)
    (not-true (list_any (λ (p : NetPin). is_some (drive board net p)) net.pins) h)
    (any_at (λ (p : NetPin). is_some (drive board net p)) net.pins place pin st.in_net some)))

some_driver : (board : RawBoard) (n : ℕ) (net : Net) → slice_get board.nets n ≡ Some net
    → not (list_any (λ p. is_some (drive board net p)) net.pins) ≡ false → HasNoDriver board n net
    → ⊥
some_driver board n net en h none =
    let r : Found (λ (p : NetPin). is_some (drive board net p)) net.pins = any_place
    (λ (p : NetPin). is_some (drive board net p)) net.pins
    (not-false (list_any (λ (p : NetPin). is_some (drive board net p)) net.pins) h) in
    both_ways (is_some (drive board net r.item)) (ap is_some (none r.place r.item (record { on_board = en; in_net = r.stands }))) r.passes

blocked : (board : RawBoard) (n : ℕ) (net : Net) → IsBoard board
    → not (list_any (λ p. can_enable board (drive board net p)) net.pins) ≡ true
    → IsBlocked board n net
blocked board n net rules h setting place pin safe st =
    false_from_ne_true (enables board setting pin) (λ on.
    both_ways (list_any (λ (p : NetPin). can_enable board (drive board net p)) net.pins)
    (not-true (list_any (λ (p : NetPin). can_enable board (drive board net p)) net.pins) h)
    (any_at (λ (p : NetPin). can_enable board (drive board net p)) net.pins place pin st.in_net
    (can_enable_of board setting n net place pin rules safe st.on_board st.in_net on).0))

some_can : (board : RawBoard) (n : ℕ) (net : Net) → IsBoard board
    → slice_get board.nets n ≡ Some net
    → not (list_any (λ p. can_enable board (drive board net p)) net.pins) ≡ false
    → IsBlocked board n net → ⊥
some_can board n net rules en h blocks =
    let r : Found (λ (p : NetPin). can_enable board (drive board net p)) net.pins = any_place
    (λ (p : NetPin). can_enable board (drive board net p)) net.pins
    (not-false (list_any (λ (p : NetPin). can_enable board (drive board net p)) net.pins) h) in
    let d : Option Drive = drive board net r.item in
    both_ways (enables board (needed d) r.item)
    (blocks (needed d) r.place r.item (needed_safe board d rules r.passes) (record { on_board = en; in_net = r.stands }))
    (needed_enables board net r.item (needed d) r.passes (λ c k. k))

none_below : (board : RawBoard) (n : ℕ) (net : Net) (limit : ℕ) → limit ≤ 5 →
    (0 < limit → net.supply ≡ false) → (1 < limit → list_any (is_test_pin board) net.pins ≡ false)
    → (2 < limit → list_any (is_dark board) net.pins ≡ false) →
    (3 < limit → HasNoDriver board n net → ⊥) → (4 < limit → IsBlocked board n net → ⊥) →
    (other : Reason) → reason_rank other < limit → ReasonHolds board n net other → ⊥
none_below board n net limit most supply test dark driver can Supply less h = both_ways net.supply (supply less) h
none_below board n net limit most supply test dark driver can TestPort less h =
    both_ways (list_any (is_test_pin board) net.pins) (test less) h
none_below board n net limit most supply test dark driver can Dark less h = both_ways (list_any (is_dark board) net.pins) (dark less) h
none_below board n net limit most supply test dark driver can NoDriver less h = driver less h
none_below board n net limit most supply test dark driver can Blocked less h = can less h
none_below board n net limit most supply test dark driver can NoReceiver less h = absurd (omega arith)

first_is : (board : RawBoard) (n : ℕ) (net : Net) → IsBoard board
    → slice_get board.nets n ≡ Some net → (IsCovered board n → ⊥)
    → IsReason board n net (first_reason board net)
first_is board n net rules en uncovered =
    by_supply net.supply refl (list_any (is_test_pin board) net.pins) refl (list_any (is_dark board) net.pins) refl
    (not (list_any (λ (p : NetPin). is_some (drive board net p)) net.pins)) refl
    (not (list_any (λ (p : NetPin). can_enable board (drive board net p)) net.pins)) refl
  where
    reason : (r : Reason) → ReasonHolds board n net r
        → ((other : Reason) → reason_rank other < reason_rank r → ReasonHolds board n net other → ⊥)
        → IsReason board n net r
    reason r h f = record { uncovered = uncovered; holds = h; first = f }

    by_supply : (s : Bool) → net.supply ≡ s → (t : Bool) → list_any (is_test_pin board) net.pins ≡ t
        → (d : Bool) → list_any (is_dark board) net.pins ≡ d →
        (v : Bool) → not (list_any (λ (p : NetPin). is_some (drive board net p)) net.pins) ≡ v
        → (b : Bool)
        → not (list_any (λ (p : NetPin). can_enable board (drive board net p)) net.pins) ≡ b →
        IsReason board n net (cond s Supply (cond t TestPort (cond d Dark (cond v NoDriver (cond b Blocked NoReceiver)))))
    by_supply true es t et d ed v ev b eb =
        reason Supply es
        (none_below board n net 0 (omega arith) (λ l. absurd (omega arith))
        (λ l. absurd (omega arith)) (λ l. absurd (omega arith)) (λ l. absurd (omega arith))
        (λ l. absurd (omega arith)))
    by_supply false es true et d ed v ev b eb =
        reason TestPort et
        (none_below board n net 1 (omega arith) (λ l. es) (λ l. absurd (omega arith))
        (λ l. absurd (omega arith)) (λ l. absurd (omega arith)) (λ l. absurd (omega arith)))
    by_supply false es false et true ed v ev b eb =
        reason Dark ed
        (none_below board n net 2 (omega arith) (λ l. es) (λ l. et) (λ l. absurd (omega arith))
        (λ l. absurd (omega arith)) (λ l. absurd (omega arith)))
    by_supply false es false et false ed true ev b eb =
        reason NoDriver (no_driver board n net ev)
        (none_below board n net 3 (omega arith) (λ l. es) (λ l. et) (λ l. ed)
        (λ l. absurd (omega arith)) (λ l. absurd (omega arith)))
    by_supply false es false et false ed false ev true eb =
        reason Blocked (blocked board n net rules eb)
        (none_below board n net 4 (omega arith) (λ l. es) (λ l. et) (λ l. ed)
        (λ l. some_driver board n net en ev) (λ l. absurd (omega arith)))
    by_supply false es false et false ed false ev false eb =
        reason NoReceiver tt
        (none_below board n net 5 (omega arith) (λ l. es) (λ l. et) (λ l. ed)
        (λ l. some_driver board n net en ev) (λ l. some_can board n net rules en eb))

pub reason_is : (board : RawBoard) (n : ℕ) (net : Net) → IsBoard board
    → slice_get board.nets n ≡ Some net
    → MatchOption (reason_of board net) (IsCovered board n) (λ r. IsReason board n net r)
reason_is board n net rules en = by_covered (is_covered board net) refl
  where
    by_covered : (t : Bool) → is_covered board net ≡ t
        → MatchOption (cond t None (Some (first_reason board net))) (IsCovered board n)
        (λ r. IsReason board n net r)
    by_covered true e = covered_is board n net rules en e
    by_covered false e = first_is board n net rules en (λ c. both_ways (is_covered board net) e (covered_true board n net rules en c))
