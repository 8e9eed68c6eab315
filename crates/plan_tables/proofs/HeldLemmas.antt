-- Lemmas about the quiet row, which disables every driver that has a control, and about the cells of the passes' controls.
use Rattle.std.proofs.Common.{◌≡◌, ℕ, ◌<◌, ◌==◌, Bool, true, false, ◌&&◌, Option, Some, None, unwrap_or, refl, sym, ap, ◌∙◌, subst}
use Rattle.std.specs.Prelude.{option_and_then, option_map}
use Rattle.std.specs.List.{list_any}
use Rattle.std.proofs.lemmas.Bool.{and_parts}
use Rattle.board_defs.specs.declared.device.Cell.{Cell}
use Rattle.board_defs.specs.declared.device.RawDevice.{RawDevice}
use Rattle.board_defs.specs.declared.board.RawBoard.{RawBoard}
use Rattle.board_defs.specs.declared.board.Ctl.{Ctl}
use Rattle.board_defs.specs.BoardRules.{IsBoard}
use Rattle.board_defs.specs.DeviceRules.{is_control_of, is_driving}
use Rattle.board_defs.specs.Pins.{device_at, cell_count, is_pinned}
use Rattle.tap_defs.specs.board.NetBits.{Place, place_of}
use Rattle.tap_defs.specs.board.Quiet.{controls_driver}
use Rattle.tap_defs.specs.board.TestRows.{quiet_row, driving_cell, data_bit, data_pin, data_place, data_observed, observing_driver, steady_bit, row_bit}
use Rattle.tap_defs.proofs.board.ReadingLemmas.{any_is}
use Rattle.tap_defs.proofs.board.QuietLemmas.{control_is}
use Rattle.tap_defs.proofs.board.EntryLemmas.{only_if-None}
use Rattle.plan_tables.specs.Plans.{controls_driver_in, controls_some}
use Rattle.plan_tables.specs.inner.Laid.{steady}
use Rattle.plan_tables.proofs.PinLemmas.{wired_at}

quiet_data : (board : RawBoard) (part : ℕ) (device : RawDevice) (cell : ℕ) → data_bit board quiet_row part device cell ≡ None
quiet_data board part device cell = by_cell (driving_cell device cell)
  where
    by_driver : (p : Place) (o : Option ℕ) → data_observed None p.place o ≡ None
    by_driver p None = refl
    by_driver p (Some driver) = only_if-None (driver == p.place)

    by_place : (o : Option Place) → data_place board quiet_row o ≡ None
    by_place None = refl
    by_place (Some p) = by_driver p (observing_driver board (λ c. false) p.net)

    by_bit : (o : Option ℕ) → data_pin board quiet_row part o ≡ None
    by_bit None = refl
    by_bit (Some b) = by_place (place_of (record { part = part; bit = b }) 0 board.nets)

    by_cell : (o : Option Cell) → option_and_then (λ e. data_pin board quiet_row part e.bit) o ≡ None
    by_cell None = refl
    by_cell (Some e) = by_bit e.bit

pub quiet_steady : (board : RawBoard) (part : ℕ) (device : RawDevice) (cell : ℕ)
    → row_bit board quiet_row part device cell ≡ steady board (λ c. false) part device cell
quiet_steady board part device cell =
    ap (λ (o : Option Bool). unwrap_or o (steady_bit board (λ c. false) part device cell)) (quiet_data board part device cell)

pub control_below : (board : RawBoard) → IsBoard board → (c : Ctl) (device : RawDevice) → device_at board c.part ≡ Some device →
    list_any (controls_driver board c.part c.cell) device.cells ≡ true → c.cell < device.boundary
control_below board rules c device e any =
    let x = any_is (controls_driver board c.part c.cell) device.cells any in
    let driver = and_parts (is_control_of c.cell x.1.ctl && is_driving x.1.role)
    (unwrap_or
    (option_map (λ bit. is_pinned board (record { part = c.part; bit = bit })) x.1.bit)
    false) x.3 in
    let k = control_is c.cell x.1.ctl (and_parts (is_control_of c.cell x.1.ctl) (is_driving x.1.role) driver.0).0 in
    subst (λ (n : ℕ). n < device.boundary) k.2 ((wired_at board rules c.part device e).below x.0 x.1 k.0 x.2 k.1)

pub controls_any : (board : RawBoard) (c : Ctl) (device : RawDevice) → device_at board c.part ≡ Some device → controls_some board c ≡ true →
    list_any (controls_driver board c.part c.cell) device.cells ≡ true
controls_any board c device e controls = sym (ap (λ (o : Option RawDevice). controls_driver_in board c o) e) ∙ controls

pub control_cells : (board : RawBoard) → IsBoard board → (c : Ctl) → controls_some board c ≡ true
    → c.cell < cell_count (device_at board c.part)
control_cells board rules c controls = by_device (device_at board c.part) refl controls
  where
    by_device : (o : Option RawDevice) → device_at board c.part ≡ o → controls_driver_in board c o ≡ true → c.cell < cell_count o
    by_device None e h = cc h
    by_device (Some device) e h = control_below board rules c device e h
