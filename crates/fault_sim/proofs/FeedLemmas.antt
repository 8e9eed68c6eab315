-- Lemmas which say that the tables of a plan determine the bit to which a pass drives a net.
use Rattle.std.proofs.Common.{◌≡◌, ℕ, ◌+◌, ◌==◌, Bool, true, false, cond, not, ◌&&◌, List, [], get_or, Option, Some, None, is_some, unwrap_or, refl, sym, ap, ◌∙◌, subst}
use Rattle.std.specs.Prelude.{slice_get, option_map, option_and_then}
use Rattle.std.specs.List.{list_any}
use Rattle.std.proofs.lemmas.Bool.{eq-eqb, eqb-true}
use Rattle.board_defs.specs.declared.device.Control.{Control}
use Rattle.board_defs.specs.declared.device.Cell.{Cell}
use Rattle.board_defs.specs.declared.device.RawDevice.{RawDevice}
use Rattle.board_defs.specs.declared.board.PinAt.{PinAt}
use Rattle.board_defs.specs.declared.board.NetPin.{NetPin}
use Rattle.board_defs.specs.declared.board.Net.{Net}
use Rattle.board_defs.specs.declared.board.RawBoard.{RawBoard}
use Rattle.board_defs.specs.declared.board.Ctl.{Ctl}
use Rattle.board_defs.specs.BoardRules.{IsBoard}
use Rattle.board_defs.specs.DeviceRules.{disable_of}
use Rattle.board_defs.specs.Pins.{guarded, is_same, is_pinned}
use Rattle.board_defs.specs.Settings.{holds, same_ctl, IsSafe}
use Rattle.board_defs.proofs.Members.{Has, find_has}
use Rattle.board_defs.proofs.Places.{any_at}
use Rattle.tap_defs.specs.board.NetBits.{Place, Undriven, Driven}
use Rattle.tap_defs.specs.board.Quiet.{controls_driver, safe_bit}
use Rattle.tap_defs.specs.board.TestRows.{TestRow, quiet_row, code_row, code_of_net, code_bit, is_observed, observing_driver, observing_driver_by, first_enabled, only_if, data_observed, data_place, data_pin, data_bit, steady_bit, row_bit}
use Rattle.tap_defs.specs.board.BoardScans.{first_row_scan}
use Rattle.tap_defs.specs.board.RowDriving.{cell_bit, is_switched_off, entry_feeds, at_feeds, pin_feeds, driver_feeds, row_feeding}
use Rattle.tap_defs.specs.board.SingleBits.{bit_of_feeding, driven_to}
use Rattle.tap_defs.proofs.board.FeedingLemmas.{PinRules, apart, placed}
use Rattle.tap_defs.proofs.board.NetRuleLemmas.{board_rules}
use Rattle.net_pins.specs.declared.nets.NetDriver.{NetDriver}
use Rattle.net_pins.specs.declared.nets.ReaderCell.{ReaderCell}
use Rattle.net_pins.specs.NetCells.{drivers_of, drivers_of_pins, readers_of}
use Rattle.net_pins.specs.Enabled.{is_driver_on, enabled_in, is_read_beside, drivers_on}
use Rattle.net_pins.proofs.NetTableLemmas.{drivers_on_is, readers_on_is}
use Rattle.plan_tables.specs.declared.tables.PlanTables.{PlanTables}
use Rattle.plan_tables.specs.Tables.{first_position}
use Rattle.plan_tables.specs.inner.Laid.{bits_of_parts, steady}
use Rattle.scan_planner.specs.Plans.{IsPlanOf}
use Rattle.plan_tables.proofs.LaidLemmas.{tdi_laid, laid_at, laid_same}
use Rattle.plan_tables.proofs.HeldLemmas.{quiet_steady, controls_any}
use Rattle.plan_tables.proofs.PinLemmas.{Standing, standing, Drives, drives_by, entry_on, driving_cell_is}
use Rattle.plan_tables.proofs.TableLemmas.{FirstOn, first_on, beside_is}
use Rattle.plan_tables.proofs.ObserverLemmas.{DriverOn, driver_on}
use Rattle.fault_sim.specs.declared.feed.Source.TheVariants.{Code, Fixed}
use Rattle.fault_sim.specs.Effects.{source_bit, unless_off, feed_bit, is_own, plan_readers, code_in, driver_in, steady_in, source_in, feed_by, pull_in, net_feed}

module _ (board : RawBoard) (rules : IsBoard board) (plan : PlanTables) (p : IsPlanOf board plan)
    (n : ℕ) (net : Net) (is_net : slice_get board.nets n ≡ Some net) where
  pub drivers_are : drivers_on plan.nets n ≡ drivers_of board net
  drivers_are = drivers_on_is board plan.nets p.nets_are n net is_net

  pub readers_are : plan_readers plan n ≡ readers_of board net.pins
  readers_are = readers_on_is board plan.nets p.nets_are n net is_net

  pub code_is : (x : ℕ) (pass : List Ctl) (place : ℕ) → slice_get plan.passes x ≡ Some pass
      → observing_driver board (holds pass) net ≡ Some place →
      code_in plan n ≡ code_of_net board plan.passes n
  code_is x pass place stands observing =
      let observed : is_observed board plan.passes net
      ≡ true = any_at (λ (q : List Ctl). is_some (observing_driver board (holds q) net))
      plan.passes x pass stands (ap (λ (o : Option ℕ). is_some o) observing) in
      p.codes_are n net is_net ∙ ap (λ (b : Bool). cond b (code_of_net board plan.passes n) 0) observed

  module _ (x : ℕ) (pass : List Ctl) (stands : slice_get plan.passes x ≡ Some pass) (unguarded : guarded board net ≡ false) where
    safe : IsSafe board (holds pass)
    safe = p.plannable.safe x pass stands

    pins_are : drivers_of board net ≡ drivers_of_pins board net.pins
    pins_are = ap (λ (b : Bool). cond b [] (drivers_of_pins board net.pins)) unguarded

    pub first_is : FirstOn board (holds pass) 0 net.pins (driver_in plan pass n)
    first_is =
        subst (λ (l : List NetDriver). FirstOn board (holds pass) 0 net.pins (enabled_in (holds pass) l)) (sym (drivers_are ∙ pins_are))
        (first_on board (holds pass) 0 net.pins)

    -- the driver that the pass enables on the net
    module _ (d : NetDriver) (enabled : driver_in plan pass n ≡ Some d) where
      pub first_place : first_enabled board (holds pass) 0 net.pins ≡ Some d.place
      first_place = (subst (λ (o : Option NetDriver). FirstOn board (holds pass) 0 net.pins o) enabled first_is).0

      found : Has (drivers_on plan.nets n) d × (is_driver_on (holds pass) d.ctl ≡ true)
      found = find_has (λ (y : NetDriver). is_driver_on (holds pass) y.ctl) (drivers_on plan.nets n) d enabled

      pub on : DriverOn board net d
      on = driver_on board net d (subst (λ (l : List NetDriver). Has l d) drivers_are found.0)

      abbrev at : PinAt
      at = on.at

      abbrev entry : Cell
      entry = on.entry

      pub t : Standing board n net d.place at
      t = standing board rules n net d.place on.pin at is_net on.is_pin on.is_at

      drives : Drives t.device at.bit entry
      drives = drives_by t.device at.bit entry (sym (entry_on board at t.device t.is_device) ∙ on.is_entry)

      own_is : d.own ≡ (let c : Ctl = record { part = at.part; cell = entry.num } in c)
      own_is = sym (ap (λ (y : NetDriver). y.own) on.driver_is)

      position_is : d.position ≡ first_position board at.part + entry.num
      position_is = sym (ap (λ (y : NetDriver). y.position) on.driver_is)

      ctl_is : d.ctl ≡ option_map (λ (control : Control). let c : Ctl = record { part = at.part; cell = control.cell } in c) entry.ctl
      ctl_is = sym (ap (λ (y : NetDriver). y.ctl) on.driver_is)

      -- the pass observes the net if and only if a pin other than the driver's pin has a compared cell
      pub observing_is : observing_driver board (holds pass) net ≡ cond (is_read_beside (plan_readers plan n) d) (Some d.place) None
      observing_is =
          ap (λ (b : Bool). cond b None (observing_driver_by board net (first_enabled board (holds pass) 0 net.pins))) unguarded
          ∙ ap (λ (o : Option ℕ). observing_driver_by board net o) first_place
          ∙ ap (λ (b : Bool). cond b (Some d.place) None)
          (sym
          (ap (λ (l : List ReaderCell). is_read_beside l d) readers_are
          ∙ beside_is board d.place 0 net.pins))

      module _ (j : ℕ) where
        abbrev row : TestRow
        row = code_row board plan.passes pass j

        abbrev bit : Bool
        bit = row_bit board row at.part t.device entry.num

        abbrev off : Bool
        off = unwrap_or (disable_of t.device entry.num) false

        abbrev controls : Bool
        controls = list_any (controls_driver board at.part entry.num) t.device.cells

        abbrev safe_value : Bool
        safe_value = unwrap_or (safe_bit t.device entry.num) false

        -- In the quiet row, every controlled driver is off: the driver's cell has the disable value of a driver that it controls, or the
        -- cell's safe value if it controls no driver.
        quiet_is : get_or plan.quiet.bits d.position false ≡ cond controls off safe_value
        quiet_is =
            ap (λ (l : List Bool). get_or l d.position false)
            (p.tables.quiet ∙ tdi_laid board first_row_scan
            ∙ laid_same board (λ part device cell. row_bit board quiet_row part device cell)
            (steady board (λ c. false)) (quiet_steady board))
            ∙ ap (λ (m : ℕ). get_or (bits_of_parts (steady board (λ c. false)) board) m false) position_is
            ∙ (laid_at (steady board (λ c. false)) board at.part t.device entry.num t.is_device
            (t.wired.num_below drives.index entry drives.stands)).1

        steady_is : steady_bit board (holds pass) at.part t.device entry.num ≡ steady_in plan pass d
        steady_is = by_held (holds pass d.own) refl
          where
            held_own : holds pass (record { part = at.part; cell = entry.num }) ≡ holds pass d.own
            held_own = sym (ap (λ (c : Ctl). holds pass c) own_is)

            by_held : (b : Bool) → holds pass d.own ≡ b →
                cond controls (cond (holds pass (record { part = at.part; cell = entry.num })) (not off) off) safe_value
                ≡ cond b (not (get_or plan.quiet.bits d.position false)) (get_or plan.quiet.bits d.position false)
            by_held true e =
                let here : holds pass (record { part = at.part; cell = entry.num }) ≡ true = held_own ∙ e in
                let any : controls ≡ true =
                controls_any board (record { part = at.part; cell = entry.num }) t.device
                t.is_device
                (p.plannable.controls x pass (record { part = at.part; cell = entry.num })
                stands here) in
                ap (λ (b : Bool). cond b (cond (holds pass (record { part = at.part; cell = entry.num })) (not off) off) safe_value) any
                ∙ ap (λ (b : Bool). cond b (not off) off) here
                ∙ sym (ap not (quiet_is ∙ ap (λ (b : Bool). cond b off safe_value) any))
            by_held false e =
                ap (λ (b : Bool). cond controls (cond b (not off) off) safe_value) (held_own ∙ e)
                ∙ sym quiet_is

        -- In a row, the driver's cell carries the row's bit of the net's code if and only if the pass observes the net by this driver.
        data_is : data_bit board row at.part t.device entry.num
            ≡ data_observed (row.carried n) d.place (observing_driver board (holds pass) net)
        data_is =
            ap (λ (o : Option Cell). option_and_then (λ e. data_pin board row at.part e.bit) o)
            (driving_cell_is t.device t.wired at.bit entry drives)
            ∙ ap (λ (o : Option ℕ). data_pin board row at.part o) drives.bit_is
            ∙ ap (λ (o : Option Place). data_place board row o) t.is_place

        bit_is : bit ≡ source_bit (source_in plan pass n d) j
        bit_is =
            ap
            (λ (o : Option Bool). unwrap_or o
            (steady_bit board (holds pass) at.part t.device entry.num)) data_is
            ∙ by_beside (is_read_beside (plan_readers plan n) d) observing_is
          where
            by_beside : (b : Bool) → observing_driver board (holds pass) net ≡ cond b (Some d.place) None →
                unwrap_or
                (data_observed (row.carried n) d.place (observing_driver board (holds pass) net))
                (steady_bit board (holds pass) at.part t.device entry.num)
                ≡ source_bit (cond b (Code (code_in plan n)) (Fixed (steady_in plan pass d))) j
            by_beside true e =
                ap
                (λ (o : Option ℕ). unwrap_or (data_observed (row.carried n) d.place o)
                (steady_bit board (holds pass) at.part t.device entry.num)) e
                ∙ ap
                (λ (b : Bool). unwrap_or (only_if b (row.carried n))
                (steady_bit board (holds pass) at.part t.device entry.num))
                (eq-eqb d.place d.place refl)
                ∙ sym (ap (λ (c : ℕ). code_bit c j) (code_is x pass d.place stands e))
            by_beside false e =
                ap
                (λ (o : Option ℕ). unwrap_or (data_observed (row.carried n) d.place o)
                (steady_bit board (holds pass) at.part t.device entry.num)) e
                ∙ steady_is

        -- if the pass enables the driver and the driver's own cell controls it, the net is pulled to the driver's disable value
        pull_is : (control : Control) → entry.ctl ≡ Some control → control.cell ≡ entry.num → net.pull ≡ Some control.disable
        pull_is control e same = by_rules (((board_rules board rules).nets n net is_net).pins d.place on.pin on.is_pin)
          where
            held : holds pass (record { part = at.part; cell = control.cell }) ≡ true
            held =
                sym
                (ap
                (λ (o : Option Control). is_driver_on (holds pass)
                (option_map
                (λ (y : Control). let c : Ctl = record
                { part = at.part; cell = y.cell } in
                c) o)) e)
                ∙ sym (ap (λ (o : Option Ctl). is_driver_on (holds pass) o) ctl_is)
                ∙ found.1

            by_rules : PinRules board n net d.place on.pin → net.pull ≡ Some control.disable
            by_rules (apart a) = let bad : None ≡ Some at = sym a ∙ on.is_at in cc bad
            by_rules (placed other part device a ek ed wired pinned is_place) =
                let two : Some other ≡ Some at = sym a ∙ on.is_at in
                let there : other ≡ at = cc two in
                ((board_rules board rules).nets n net is_net).alone d.place on.pin at control.disable on.is_pin on.is_at
                (safe.own at entry control (subst (λ (y : PinAt). is_pinned board y ≡ true) there pinned) on.is_entry e same held)

        feeds_is : bit_of_feeding
            (cond (is_switched_off bit entry entry.ctl) Undriven (Driven d.place bit))
            ≡ unless_off (cond (is_own d.own d.ctl) net.pull None) bit
        feeds_is =
            by_control entry.ctl refl
            ∙ sym (ap (λ (c : Ctl). unless_off (cond (is_own c d.ctl) net.pull None) bit) own_is
            ∙ ap (λ (o : Option Ctl). unless_off (cond (is_own (record { part = at.part; cell = entry.num }) o) net.pull None) bit) ctl_is)
          where
            by_off : (b : Bool) → bit_of_feeding (cond b Undriven (Driven d.place bit)) ≡ cond b None (Some bit)
            by_off true = refl
            by_off false = refl

            by_own : (control : Control) → entry.ctl ≡ Some control → (b : Bool) → (control.cell == entry.num) ≡ b →
                bit_of_feeding
                (cond (b && is_same bit control.disable) Undriven (Driven d.place bit))
                ≡ unless_off (cond b net.pull None) bit
            by_own control e true q =
                by_off (is_same bit control.disable)
                ∙ sym (ap (λ (o : Option Bool). unless_off o bit) (pull_is control e (eqb-true control.cell entry.num q)))
            by_own control e false q = refl

            own_part : (control : Control)
                → same_ctl (record { part = at.part; cell = control.cell })
                (record { part = at.part; cell = entry.num }) ≡ (control.cell == entry.num)
            own_part control = ap (λ (b : Bool). b && (control.cell == entry.num)) (eq-eqb at.part at.part refl)

            by_control : (o : Option Control) → entry.ctl ≡ o →
                bit_of_feeding (cond (is_switched_off bit entry o) Undriven (Driven d.place bit))
                ≡ unless_off
                (cond
                (is_own (record { part = at.part; cell = entry.num })
                (option_map
                (λ (control : Control). let c : Ctl = record
                { part = at.part; cell = control.cell } in
                c) o)) net.pull None) bit
            by_control None e = refl
            by_control (Some control) e =
                by_own control e (control.cell == entry.num) refl
                ∙ sym (ap (λ (b : Bool). unless_off (cond b net.pull None) bit) (own_part control))

        driven_by : bit_of_feeding (driver_feeds board row net (Some d.place)) ≡ feed_bit (Some (feed_by plan pass n net.pull d)) j
        driven_by =
            ap (λ (o : Option NetPin). bit_of_feeding (pin_feeds board row d.place o)) on.is_pin
            ∙ ap (λ (o : Option PinAt). bit_of_feeding (at_feeds board row d.place o)) on.is_at
            ∙ ap (λ (o : Option Cell). bit_of_feeding (entry_feeds board row at d.place o)) on.is_entry
            ∙ ap
            (λ (o : Option RawDevice). bit_of_feeding
            (cond (is_switched_off (cell_bit board row at.part o entry.num) entry entry.ctl)
            Undriven (Driven d.place (cell_bit board row at.part o entry.num)))) t.is_device
            ∙ feeds_is
            ∙ ap (λ (b : Bool). unless_off (cond (is_own d.own d.ctl) net.pull None) b) bit_is

    -- In row j, the pass drives the net to bit j of the net's feed. The feed has the bits that the enabled driver gives the net in the rows
    -- of the pass.
    pub driven_is : (j : ℕ) → driven_to board (code_row board plan.passes pass j) (Some net) ≡ feed_bit (net_feed board plan pass n) j
    driven_is j =
        by_driver (driver_in plan pass n) refl first_is
        ∙ sym (ap (λ (pull : Option Bool). feed_bit (option_map (feed_by plan pass n pull) (driver_in plan pass n)) j) pull_here)
      where
        pull_here : pull_in board n ≡ net.pull
        pull_here = ap (λ (o : Option Net). Rattle.tap_defs.specs.board.SingleBits.pulled_to o) is_net

        by_driver : (o : Option NetDriver) → driver_in plan pass n ≡ o → FirstOn board (holds pass) 0 net.pins o →
            bit_of_feeding (row_feeding board (code_row board plan.passes pass j) net)
            ≡ feed_bit (option_map (feed_by plan pass n net.pull) (driver_in plan pass n)) j
        by_driver None e f =
            ap (λ (o : Option ℕ). bit_of_feeding (driver_feeds board (code_row board plan.passes pass j) net o)) f
            ∙ sym (ap (λ (o : Option NetDriver). feed_bit (option_map (feed_by plan pass n net.pull) o) j) e)
        by_driver (Some d) e f =
            ap (λ (o : Option ℕ). bit_of_feeding (driver_feeds board (code_row board plan.passes pass j) net o)) f.0
            ∙ driven_by d e j
            ∙ sym (ap (λ (o : Option NetDriver). feed_bit (option_map (feed_by plan pass n net.pull) o) j) e)
