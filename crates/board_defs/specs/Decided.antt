-- Boolean tests for the terms that `Settings.antt` and `Coverage.antt` define. They do not list settings: they look only at single
-- controls and at pairs of controls. A law in `Laws.antt` says that the tests agree with the terms. `Pins.antt` defines guarded nets, and
-- says how a driver is enabled: it is always on, or one-sided, or a control enables it.
use Rattle.std.specs.Prelude.{ℕ, zero, suc, ◌==◌, Bool, true, false, not, ◌&&◌, ◌||◌, List, [], ◌∷◌, length, Option, Some, None, slice_get, is_some, option_and_then, cond}
use Rattle.std.specs.List.{list_any, list_all}
use Rattle.board_defs.specs.declared.device.Control.{Control}
use Rattle.board_defs.specs.declared.device.Cell.{Cell}
use Rattle.board_defs.specs.declared.device.RawDevice.{RawDevice}
use Rattle.board_defs.specs.declared.board.PinAt.{PinAt}
use Rattle.board_defs.specs.declared.board.NetPin.{NetPin}
use Rattle.board_defs.specs.declared.board.Net.{Net}
use Rattle.board_defs.specs.declared.board.RawBoard.{RawBoard}
use Rattle.board_defs.specs.declared.board.Ctl.{Ctl}
use Rattle.board_defs.specs.declared.board.Drive.{Drive}
use Rattle.board_defs.specs.declared.board.Drive.TheVariants.{AlwaysOn, OneSided, By}
use Rattle.board_defs.specs.declared.coverage.Reason.{Reason}
use Rattle.board_defs.specs.declared.coverage.Reason.TheVariants.{Supply, TestPort, Dark, NoDriver, Blocked, NoReceiver}
use Rattle.board_defs.specs.Pins.{drive, receives, receives_of, guarded, device_at, entry_at, is_pinned, is_test_pin, is_dark, lets_switch}
use Rattle.board_defs.specs.Settings.{same_ctl}

-- `p` is true of some number below `n`
abbrev pub any_below : ℕ → (ℕ → Bool) → Bool
any_below zero p = false
any_below (suc n) p = p n || any_below n p

-- `p` is true of at most one item of the list
abbrev pub at_most_one : {X : Type 0} → (X → Bool) → List X → Bool
at_most_one p [] = true
at_most_one p (x ∷ xs) = cond (p x) (not (list_any p xs)) (at_most_one p xs)

-- `p` is true of some item at a place other than `i`
abbrev pub any_other : {X : Type 0} → (X → Bool) → ℕ → List X → Bool
any_other p i [] = false
any_other p zero (x ∷ xs) = list_any p xs
any_other p (suc i) (x ∷ xs) = p x || any_other p i xs

-- there is a driver, and it is always on
abbrev pub is_always_on : Option Drive → Bool
is_always_on None = false
is_always_on (Some AlwaysOn) = true
is_always_on (Some OneSided) = false
is_always_on (Some (By c)) = false

-- there is a driver that is neither always on nor one-sided, and control `c` enables it
abbrev pub is_by : Ctl → Option Drive → Bool
is_by c None = false
is_by c (Some AlwaysOn) = false
is_by c (Some OneSided) = false
is_by c (Some (By d)) = same_ctl d c

-- the control enables a driver of the net that is not one-sided
abbrev pub drives_net : RawBoard → Ctl → Net → Bool
drives_net board c net = list_any (λ p. is_by c (drive board net p)) net.pins

-- no control may enable a driver of the net, because the net is guarded or has a driver that is always on
abbrev pub is_closed : RawBoard → Net → Bool
is_closed board net = guarded board net || list_any (λ p. is_always_on (drive board net p)) net.pins

-- As far as this net is concerned, a safe setting may have the control: the control enables at most one driver of the net, and none if
-- the net is closed. One-sided drivers do not count here: `is_safe_alone` tests them for the whole board.
abbrev pub admits : RawBoard → Ctl → Net → Bool
admits board c net = at_most_one (λ p. is_by c (drive board net p)) net.pins && not (drives_net board c net && is_closed board net)

-- there is a place in the chain, and it is `at`
abbrev pub is_at : PinAt → Option PinAt → Bool
is_at at None = false
is_at at (Some b) = (b.part == at.part) && (b.bit == at.bit)

-- the net is unguarded and pulled to `value`, and the pin at `at` is one of its pins
abbrev pub is_switched : RawBoard → PinAt → Bool → Net → Bool
is_switched board at value net = lets_switch board net value && list_any (λ p. is_at at p.at) net.pins

-- the pin at `at` is on some unguarded net that is pulled to `value`
abbrev pub is_switching : RawBoard → PinAt → Bool → Bool
is_switching board at value = list_any (is_switched board at value) board.nets

-- the control, if it is the entry's own cell
abbrev pub own_where : Cell → Option Control → Option Control
own_where cell None = None
own_where cell (Some control) = cond (control.cell == cell.num) (Some control) None

-- the control of the driving entry at `at`, if the control is the entry's own cell
abbrev pub own_control : RawBoard → PinAt → Option Control
own_control board at = option_and_then (λ cell. own_where cell cell.ctl) (entry_at board at)

-- The driver at `at` is one-sided, and its control is cell number `cell`. The last argument is the driver's control
-- if that control is the driver's own cell, and None otherwise (for example if there is no driver at `at`).
abbrev pub is_one_sided_by : RawBoard → ℕ → PinAt → Option Control → Bool
is_one_sided_by board cell at None = false
is_one_sided_by board cell at (Some control) = (control.cell == cell) && is_pinned board at && not (is_switching board at control.disable)

-- the number of port bits of a device, or 0 without a device
abbrev pub bit_count : Option RawDevice → ℕ
bit_count None = 0
bit_count (Some device) = length device.bits

-- the number of port bits of part number `part`, or 0 if the part is not described
abbrev pub count_port_bits : RawBoard → ℕ → ℕ
count_port_bits board part = bit_count (device_at board part)

-- the control enables a one-sided driver, whether or not the driver is on a net
abbrev pub enables_one_sided : RawBoard → Ctl → Bool
enables_one_sided board c =
    any_below (count_port_bits board c.part)
    (λ bit. let at : PinAt = record { part = c.part; bit = bit } in
    is_one_sided_by board c.cell at (own_control board at))

-- the setting with this control alone is safe
abbrev pub is_safe_alone : RawBoard → Ctl → Bool
is_safe_alone board c = list_all (admits board c) board.nets && not (enables_one_sided board c)

-- the two controls enable drivers of one net, and these drivers are not one-sided
abbrev pub share_net : RawBoard → Ctl → Ctl → Bool
share_net board a b = list_any (λ net. drives_net board a net && drives_net board b net) board.nets

-- the two controls are together: the setting with these two controls is safe
abbrev pub are_together : RawBoard → Ctl → Ctl → Bool
are_together board a b = is_safe_alone board a && is_safe_alone board b && (same_ctl a b || not (share_net board a b))

-- there is a driver, and some safe setting enables it
abbrev pub can_enable : RawBoard → Option Drive → Bool
can_enable board None = false
can_enable board (Some AlwaysOn) = true
can_enable board (Some OneSided) = false
can_enable board (Some (By c)) = is_safe_alone board c

-- the way in which the pin's driver is enabled on the net, or None if there is no pin or the pin is not a driver
abbrev pub drive_in : RawBoard → Net → Option NetPin → Option Drive
drive_in board net pin = option_and_then (λ p. drive board net p) pin

-- the way in which the driver at `place` of the net is enabled, or None if no driver is at that place
abbrev pub place_drive : RawBoard → Net → ℕ → Option Drive
place_drive board net place = drive_in board net (slice_get net.pins place)

-- the driver at `place` of the net is tested
abbrev pub is_tested_driver : RawBoard → Net → ℕ → Bool
is_tested_driver board net place =
    not (guarded board net) && can_enable board (place_drive board net place)
    && any_other (receives board) place net.pins

-- the receiver at `place` of the net is tested
abbrev pub is_tested_receiver : RawBoard → Net → ℕ → Bool
is_tested_receiver board net place =
    not (guarded board net) && receives_of board (slice_get net.pins place)
    && any_other (λ p. can_enable board (drive board net p)) place net.pins

-- the net is covered
abbrev pub is_covered : RawBoard → Net → Bool
is_covered board net = any_below (length net.pins) (is_tested_driver board net)

-- there are two drivers, and one safe setting enables both
abbrev pub are_compatible : RawBoard → Option Drive → Option Drive → Bool
are_compatible board None e = false
are_compatible board (Some OneSided) e = false
are_compatible board (Some AlwaysOn) e = can_enable board e
are_compatible board (Some (By c)) None = false
are_compatible board (Some (By c)) (Some OneSided) = false
are_compatible board (Some (By c)) (Some AlwaysOn) = is_safe_alone board c
are_compatible board (Some (By c)) (Some (By d)) = are_together board c d

-- net `a`'s driver at place `i` and net `b`'s driver at place `j` are tested, and one safe setting enables both
abbrev pub are_paired_at : RawBoard → Net → Net → ℕ → ℕ → Bool
are_paired_at board a b i j =
    is_tested_driver board a i && is_tested_driver board b j
    && are_compatible board (place_drive board a i) (place_drive board b j)

-- one safe setting observes both nets
abbrev pub are_paired : RawBoard → Net → Net → Bool
are_paired board a b = any_below (length a.pins) (λ i. any_below (length b.pins) (are_paired_at board a b i))

-- the control enables the driver at `place` of the net, and this driver is tested
abbrev pub tests_by_at : RawBoard → Ctl → Net → ℕ → Bool
tests_by_at board c net place = is_by c (place_drive board net place) && is_tested_driver board net place

-- the control enables some tested driver of the net
abbrev pub tests_by : RawBoard → Ctl → Net → Bool
tests_by board c net = any_below (length net.pins) (tests_by_at board c net)

-- the control is useful: it is safe alone and enables a tested driver
abbrev pub is_useful : RawBoard → Ctl → Bool
is_useful board c = is_safe_alone board c && list_any (tests_by board c) board.nets

-- The first reason that applies to the net. The net must not be covered.
abbrev pub first_reason : RawBoard → Net → Reason
first_reason board net =
    cond net.supply Supply
    (cond (list_any (is_test_pin board) net.pins) TestPort
    (cond (list_any (is_dark board) net.pins) Dark
    (cond (not (list_any (λ p. is_some (drive board net p)) net.pins)) NoDriver
    (cond (not (list_any (λ p. can_enable board (drive board net p)) net.pins)) Blocked NoReceiver))))

-- the reason why the net is not covered, or None if it is covered
abbrev pub reason_of : RawBoard → Net → Option Reason
reason_of board net = cond (is_covered board net) None (Some (first_reason board net))
