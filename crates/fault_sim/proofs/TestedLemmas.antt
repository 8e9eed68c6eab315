-- Lemmas which say that the passes of a plan observe exactly the nets that some safe setting observes, and test exactly the pins that some
-- safe setting tests. A setting is a set of enabled controls. A safe setting enables at most one driver of each net, among other rules.
use Rattle.std.proofs.Common.{◌≡◌, ◌≢◌, ◌⊎◌, inl, inr, ℕ, zero, suc, ◌+◌, ◌<◌, ◌≤◌, Bool, true, false, cond, ◌&&◌, List, [], ◌∷◌, ◌++◌, length, map, get_or, set, replicate, Option, Some, None, refl, sym, ap, ◌∙◌, subst, arith, length-append}
use Rattle.std.specs.Prelude.{slice_get, sum_by, filter, fold, nat_lt}
use Rattle.std.specs.List.{list_all, list_any, flat_map, enumerate_from, range_with_len}
use Rattle.std.proofs.lemmas.Bool.{lt-ltb, and_parts, and_from, or_cases, or_left, or_right, cases_eq}
use Rattle.std.proofs.lemmas.List.{length-map, length-replicate, get_or-replicate}
use Rattle.std.proofs.lemmas.Option.{slice_get_within, get_or_from_slice_get}
use Rattle.std.proofs.lemmas.List.Sums.{sum_by-cons}
use Rattle.plan_tables.proofs.PlanLemmas.{pins_most}
use Rattle.fault_sim.proofs.RangeLemmas.{filter_most}
use Rattle.board_defs.specs.declared.device.PortBit.{PortBit}
use Rattle.board_defs.specs.declared.device.RawDevice.{RawDevice}
use Rattle.board_defs.specs.declared.board.PinAt.{PinAt}
use Rattle.board_defs.specs.declared.board.PinRef.{PinRef}
use Rattle.board_defs.specs.declared.board.NetPin.{NetPin}
use Rattle.board_defs.specs.declared.board.Net.{Net}
use Rattle.board_defs.specs.declared.board.RawBoard.{RawBoard}
use Rattle.board_defs.specs.declared.board.Ctl.{Ctl}
use Rattle.board_defs.specs.BoardRules.{IsBoard}
use Rattle.board_defs.specs.Limits.{most_pins}
use Rattle.board_defs.specs.Decided.{is_covered, are_paired, is_tested_driver, is_tested_receiver}
use Rattle.board_defs.specs.DeviceRules.{reads_bit, may_receive}
use Rattle.board_defs.specs.Faults.{Numbered, is_tested_pin, tested_pins_in, tested_pins, covered_nets}
use Rattle.board_defs.specs.Passes.{ArePasses}
use Rattle.board_defs.specs.Pins.{device_at, guarded, receives, receives_where, receives_in, receives_bit}
use Rattle.board_defs.specs.Settings.{holds, ObservesBy, ObservesNet}
use Rattle.board_defs.proofs.Members.{Has, has_at, has_place, has_contains, has_flat_map, flat_map_has, has_map, map_has}
use Rattle.board_defs.proofs.Places.{any_place, any_at}
use Rattle.board_defs.proofs.Covered.{tested_driver_true, tested_driver_is, tested_receiver_true, tested_receiver_is, paired_true, paired_is, net_same}
use Rattle.tap_defs.specs.board.TestRows.{observing_driver, observing_driver_by, first_enabled, is_observed}
use Rattle.tap_defs.proofs.board.PlanLemmas.{observing_is, observed_by}
use Rattle.net_pins.specs.declared.nets.NetDriver.{NetDriver}
use Rattle.net_pins.specs.declared.nets.ReaderCell.{ReaderCell}
use Rattle.net_pins.specs.NetCells.{drivers_of_pins}
use Rattle.net_pins.specs.Enabled.{enabled_in, is_read_beside}
use Rattle.plan_tables.specs.declared.tables.PlanTables.{PlanTables}
use Rattle.plan_tables.specs.Assigned.{assigned}
use Rattle.plan_tables.specs.Tables.{first_position}
use Rattle.scan_planner.specs.Plans.{IsPlanOf}
use Rattle.plan_tables.proofs.AssignLemmas.{assigned_groups, has_mark, mark_has, length-assigned}
use Rattle.plan_tables.proofs.TableLemmas.{FirstOn, reader_is, is_reader}
use Rattle.fault_sim.specs.Effects.{driver_in, plan_readers, code_in}
use Rattle.fault_sim.specs.inner.Tested.{coded_nets, observes_by, observes_in, paired_in, marked_readers, marked_by, marked_in, tested_flags, flagged_pins, pin_count_of, pin_count, tested_pins_of, all_pins}
use Rattle.fault_sim.proofs.FeedLemmas.{drivers_are, readers_are, first_is, observing_is as observing_here}

module _ (plan : PlanTables) (n : ℕ) where
  -- the places of the pins that a pass tests, which are the pins whose flags `marked_by` sets
  abbrev marks_by : Option NetDriver → List ℕ
  marks_by None = []
  marks_by (Some d) = cond (is_read_beside (plan_readers plan n) d) (d.place ∷ map (λ (r : ReaderCell). r.place) (plan_readers plan n)) []

  abbrev marks : List Ctl → List ℕ
  marks pass = marks_by (driver_in plan pass n)

  over_map : (readers : List ReaderCell) (flags : List Bool)
      → marked_readers flags readers
      ≡ assigned (λ (i : ℕ). i) (λ i. true) flags (map (λ (r : ReaderCell). r.place) readers)
  over_map [] flags = refl
  over_map (r ∷ readers) flags = over_map readers (set flags r.place true)

  marked_is : (flags : List Bool) (pass : List Ctl) → marked_in plan n flags pass ≡ assigned (λ (i : ℕ). i) (λ i. true) flags (marks pass)
  marked_is flags pass = by_driver (driver_in plan pass n)
    where
      by_test : (d : NetDriver) (b : Bool) → cond b (marked_readers (set flags d.place true) (plan_readers plan n)) flags
          ≡ assigned (λ (i : ℕ). i) (λ i. true) flags (cond b (d.place ∷ map (λ (r : ReaderCell). r.place) (plan_readers plan n)) [])
      by_test d true = over_map (plan_readers plan n) (set flags d.place true)
      by_test d false = refl

      by_driver : (o : Option NetDriver) → marked_by o (plan_readers plan n) flags ≡ assigned (λ (i : ℕ). i) (λ i. true) flags (marks_by o)
      by_driver None = refl
      by_driver (Some d) = by_test d (is_read_beside (plan_readers plan n) d)

  all_marked : (passes : List (List Ctl)) (flags : List Bool)
      → fold (marked_in plan n) flags passes
      ≡ assigned (λ (i : ℕ). i) (λ i. true) flags (flat_map marks passes)
  all_marked passes flags = each passes flags ∙ assigned_groups (λ (i : ℕ). i) (λ i. true) marks passes flags
    where
      each : (passes : List (List Ctl)) (flags : List Bool)
          → fold (marked_in plan n) flags passes
          ≡ fold (λ done pass. assigned (λ (i : ℕ). i) (λ i. true) done (marks pass)) flags passes
      each [] flags = refl
      each (pass ∷ passes) flags =
          each passes (marked_in plan n flags pass)
          ∙ ap (λ (l : List Bool). fold (λ done q. assigned (λ (i : ℕ). i) (λ i. true) done (marks q)) l passes) (marked_is flags pass)

  pub length-flags : (count : ℕ) → length (tested_flags plan count n) ≡ count
  length-flags count =
      ap (λ (l : List Bool). length l) (all_marked plan.passes (replicate count false))
      ∙ length-assigned (λ (i : ℕ). i) (λ i. true) (replicate count false) (flat_map marks plan.passes)
      ∙ length-replicate count false

module _ (board : RawBoard) (rules : IsBoard board) (plan : PlanTables) (p : IsPlanOf board plan)
    (n : ℕ) (net : Net) (is_net : slice_get board.nets n ≡ Some net) where
  pub unguarded_by : (pass : List Ctl) (d : NetDriver) → driver_in plan pass n ≡ Some d → guarded board net ≡ false
  unguarded_by pass d enabled = by_guard (guarded board net) refl
    where
      by_guard : (b : Bool) → guarded board net ≡ b → b ≡ false
      by_guard false e = refl
      by_guard true e =
          let bad : None ≡ Some d =
          sym
          (ap (λ (l : List NetDriver). enabled_in (holds pass) l)
          (drivers_are board rules plan p n net is_net
          ∙ ap (λ (b : Bool). cond b [] (drivers_of_pins board net.pins)) e)) ∙ enabled in
          cc bad

  module _ (x : ℕ) (pass : List Ctl) (stands : slice_get plan.passes x ≡ Some pass) where
    -- the pass enables the driver of the pin at this place, and another pin of the net has a compared cell
    pub record ObservedBy (place : ℕ) : Type 0 where
      pub driver : NetDriver
      pub enabled : driver_in plan pass n ≡ Some driver
      pub place_is : driver.place ≡ place
      pub beside : is_read_beside (plan_readers plan n) driver ≡ true

    pub observed_place : (d : NetDriver) → driver_in plan pass n ≡ Some d
        → is_read_beside (plan_readers plan n) d ≡ true → ObservesBy board (holds pass) net d.place
    observed_place d enabled beside =
        observed_by board (holds pass) net d.place
        (observing_here board rules plan p n net is_net x pass stands (unguarded_by pass d enabled)
        d enabled ∙ ap (λ (b : Bool). cond b (Some d.place) None) beside)

    pub driver_there : (place : ℕ) → ObservesBy board (holds pass) net place → ObservedBy place
    driver_there place o = by_driver (driver_in plan pass n) refl (first_is board rules plan p n net is_net x pass stands o.open_net)
      where
        observing : observing_driver board (holds pass) net ≡ Some place
        observing = observing_is board (holds pass) (p.plannable.safe x pass stands) n net place is_net o

        by_test : (d : NetDriver) → driver_in plan pass n ≡ Some d → (b : Bool)
            → is_read_beside (plan_readers plan n) d ≡ b → cond b (Some d.place) None ≡ Some place
            → ObservedBy place
        by_test d e true b q =
            record {
              driver = d;
              enabled = e;
              place_is =
                  (let two : Some d.place ≡ Some place = q in cc two);
              beside = b;
            }
        by_test d e false b q = cc q

        by_driver : (o : Option NetDriver) → driver_in plan pass n ≡ o → FirstOn board (holds pass) 0 net.pins o → ObservedBy place
        by_driver None e f =
            let bad : None ≡ Some place =
            sym (ap (λ (b : Bool). cond b None (observing_driver_by board net (first_enabled board (holds pass) 0 net.pins))) o.open_net
            ∙ ap (λ (q : Option ℕ). observing_driver_by board net q) f) ∙ observing in
            cc bad
        by_driver (Some d) e f =
            by_test d e (is_read_beside (plan_readers plan n) d) refl
            (sym (observing_here board rules plan p n net is_net x pass stands o.open_net d e)
            ∙ observing)

    pub observes_is : observes_in plan pass n ≡ true → ObservesNet board (holds pass) n
    observes_is e = by_driver (driver_in plan pass n) refl e
      where
        by_driver : (o : Option NetDriver) → driver_in plan pass n ≡ o
            → observes_by o (plan_readers plan n) ≡ true → ObservesNet board (holds pass) n
        by_driver None q e = cc e
        by_driver (Some d) q e = (net, is_net, (d.place, observed_place d q e))

    pub is_observing : (place : ℕ) → ObservesBy board (holds pass) net place → observes_in plan pass n ≡ true
    is_observing place o =
        let d = driver_there place o in
        ap (λ (w : Option NetDriver). observes_by w (plan_readers plan n)) d.enabled ∙ d.beside

  pub reader_there : (place : ℕ) (pin : NetPin) → slice_get net.pins place ≡ Some pin
      → receives board pin ≡ true
      → (r : ReaderCell) × Has (plan_readers plan n) r × (r.place ≡ place)
  reader_there place pin stands rec = by_at pin.at refl rec
    where
      entries : (at : PinAt) (device : RawDevice) (o : Option PortBit)
          → receives_bit device at.bit o ≡ true → list_any (reads_bit at.bit) device.cells ≡ true
      entries at device None e = cc e
      entries at device (Some bit) e = (and_parts (may_receive bit.mode) (list_any (reads_bit at.bit) device.cells) e).1

      by_device : (at : PinAt) → pin.at ≡ Some at → receives_where board (Some at) ≡ true
          → (o : Option RawDevice) → device_at board at.part ≡ o → receives_in o at.bit ≡ true →
          (r : ReaderCell) × Has (plan_readers plan n) r × (r.place ≡ place)
      by_device at a rec None d e = cc e
      by_device at a rec (Some device) d e =
          let f = any_place (reads_bit at.bit) device.cells (entries at device (slice_get device.bits at.bit) e) in
          let r : ReaderCell = record { place = place; position = first_position board at.part + f.item.num } in (
            r,
            subst (λ (l : List ReaderCell). Has l r) (sym (readers_are board rules plan p n net is_net))
                (is_reader board net r (record {
                  pin = pin;
                  is_pin = stands;
                  at = at;
                  is_at = a;
                  receives = rec;
                  device = device;
                  is_device = d;
                  entry = f.item;
                  is_entry = has_contains device.cells f.item (has_at device.cells f.place f.item f.stands);
                  reads = f.passes;
                  position_is = refl;
                })),
            refl,
          )

      by_at : (o : Option PinAt) → pin.at ≡ o → receives_where board o ≡ true
          → (r : ReaderCell) × Has (plan_readers plan n) r × (r.place ≡ place)
      by_at None a e = cc e
      by_at (Some at) a e = by_device at a e (device_at board at.part) refl e

  -- the flag of a pin is set if and only if the pin is tested
  module _ (are : ArePasses board plan.passes) (place : ℕ) (within : place < length net.pins) where
    abbrev flags : List Bool
    flags = tested_flags plan (length net.pins) n

    flags_are : flags ≡ assigned (λ (i : ℕ). i) (λ i. true) (replicate (length net.pins) false) (flat_map (marks plan n) plan.passes)
    flags_are = all_marked plan n plan.passes (replicate (length net.pins) false)

    mark_tested : (x : ℕ) (pass : List Ctl) → slice_get plan.passes x ≡ Some pass
        → Has (marks plan n pass) place → is_tested_pin board net place ≡ true
    mark_tested x pass stands h = by_driver (driver_in plan pass n) refl h
      where
        driver_tested : (d : NetDriver) → driver_in plan pass n ≡ Some d
            → is_read_beside (plan_readers plan n) d ≡ true → d.place ≡ place
            → is_tested_pin board net place ≡ true
        driver_tested d e beside same =
            or_left (is_tested_driver board net place) (is_tested_receiver board net place)
            (tested_driver_true board n net place rules is_net (
              holds pass,
              p.plannable.safe x pass stands,
              (
                net,
                is_net,
                subst (λ (i : ℕ). ObservesBy board (holds pass) net i) same
                    (observed_place x pass stands d e beside),
              ),
            ))

        reader_tested : (d : NetDriver) → driver_in plan pass n ≡ Some d
            → is_read_beside (plan_readers plan n) d ≡ true → (r : ReaderCell)
            → Has (plan_readers plan n) r → r.place ≡ place → (d.place ≡ place → ⊥) →
            is_tested_pin board net place ≡ true
        reader_tested d e beside r has same other =
            let q = reader_is board net r (subst (λ (l : List ReaderCell). Has l r) (readers_are board rules plan p n net is_net) has) in
            let pin_is : slice_get net.pins place ≡ Some q.pin = subst (λ (i : ℕ). slice_get net.pins i ≡ Some q.pin) same q.is_pin in
            let rec : receives board q.pin ≡ true = ap (λ (o : Option PinAt). receives_where board o) q.is_at ∙ q.receives in
            or_right (is_tested_driver board net place) (is_tested_receiver board net place)
            (tested_receiver_true board n net place rules is_net (
              holds pass,
              p.plannable.safe x pass stands,
              (
                net,
                q.pin,
                d.place,
                is_net,
                pin_is,
                rec,
                other,
                observed_place x pass stands d e
                    beside,
              ),
            ))

        by_mark : (d : NetDriver) → driver_in plan pass n ≡ Some d
            → is_read_beside (plan_readers plan n) d ≡ true
            → Has (d.place ∷ map (λ (r : ReaderCell). r.place) (plan_readers plan n)) place
            → is_tested_pin board net place ≡ true
        by_mark d e beside (inl same) = driver_tested d e beside same
        by_mark d e beside (inr h) =
            let r = map_has (λ (r : ReaderCell). r.place) (plan_readers plan n) place h in
            by_place r.0 r.1 r.2 (cases_eq d.place place)
          where
            by_place : (r : ReaderCell) → Has (plan_readers plan n) r → r.place ≡ place
                → (d.place ≡ place) ⊎ (d.place ≡ place → ⊥) → is_tested_pin board net place ≡ true
            by_place r has same (inl own) = driver_tested d e beside own
            by_place r has same (inr other) = reader_tested d e beside r has same other

        by_test : (d : NetDriver) → driver_in plan pass n ≡ Some d → (b : Bool)
            → is_read_beside (plan_readers plan n) d ≡ b
            → Has (cond b (d.place ∷ map (λ (r : ReaderCell). r.place) (plan_readers plan n)) [])
            place →
            is_tested_pin board net place ≡ true
        by_test d e true b h = by_mark d e b h
        by_test d e false b h = absurd h

        by_driver : (o : Option NetDriver) → driver_in plan pass n ≡ o
            → Has (marks_by plan n o) place → is_tested_pin board net place ≡ true
        by_driver None e h = absurd h
        by_driver (Some d) e h = by_test d e (is_read_beside (plan_readers plan n) d) refl h

    flag_tested : get_or flags place false ≡ true → is_tested_pin board net place ≡ true
    flag_tested e =
        by_mark
        (mark_has (λ (i : ℕ). i) (flat_map (marks plan n) plan.passes)
        (replicate (length net.pins) false) place
        (sym (ap (λ (l : List Bool). get_or l place false) flags_are) ∙ e))
      where
        by_mark : (get_or (replicate (length net.pins) false) place false ≡ true)
            ⊎ ((i : ℕ) × Has (flat_map (marks plan n) plan.passes) i × (i ≡ place))
            → is_tested_pin board net place ≡ true
        by_mark (inl k) = let bad : false ≡ true = sym (get_or-replicate (length net.pins) place false false within) ∙ k in cc bad
        by_mark (inr (i, h, same)) =
            let m = flat_map_has (marks plan n) plan.passes i h in
            let at = has_place plan.passes (m.0) m.1 in
            mark_tested at.0 (m.0) at.1 (subst (λ (k : ℕ). Has (marks plan n (m.0)) k) same m.2)

    flag_by : (x : ℕ) (pass : List Ctl) → slice_get plan.passes x ≡ Some pass
        → Has (marks plan n pass) place → get_or flags place false ≡ true
    flag_by x pass stands h =
        ap (λ (l : List Bool). get_or l place false) flags_are
        ∙ has_mark (λ (i : ℕ). i) (flat_map (marks plan n) plan.passes) (replicate (length net.pins) false) place
        (has_flat_map (marks plan n) plan.passes pass place (has_at plan.passes x pass stands) h)
        (omega (arith, within, length-replicate (length net.pins) false))

    marks_are : (pass : List Ctl) (d : NetDriver) → driver_in plan pass n ≡ Some d
        → is_read_beside (plan_readers plan n) d ≡ true
        → marks plan n pass ≡ d.place ∷ map (λ (r : ReaderCell). r.place) (plan_readers plan n)
    marks_are pass d e beside =
        ap (λ (o : Option NetDriver). marks_by plan n o) e
        ∙ ap (λ (b : Bool). cond b (d.place ∷ map (λ (r : ReaderCell). r.place) (plan_readers plan n)) []) beside

    tested_flag : is_tested_pin board net place ≡ true → get_or flags place false ≡ true
    tested_flag e = by_case (or_cases (is_tested_driver board net place) (is_tested_receiver board net place) e)
      where
        same_net : (v : Net) → slice_get board.nets n ≡ Some v → v ≡ net
        same_net v e = net_same board n net v is_net e

        by_case : (is_tested_driver board net place ≡ true) ⊎ (is_tested_receiver board net place ≡ true) → get_or flags place false ≡ true
        by_case (inl t) =
            let s = are.drivers n place (tested_driver_is board n net place rules is_net t) in
            let o : ObservesBy board (holds (s.1)) net place = subst
            (λ (v : Net). ObservesBy board (holds (s.1)) v place) (same_net (s.3.0) s.3.1) s.3.2
            in
            let d = driver_there s.0 (s.1) s.2 place o in
            flag_by s.0 (s.1) s.2 (subst (λ (l : List ℕ). Has l place) (sym (marks_are (s.1) d.driver d.enabled d.beside)) (inl d.place_is))
        by_case (inr t) =
            let s = are.receivers n place (tested_receiver_is board n net place rules is_net t) in
            by_receiver s.0 (s.1) s.2 (s.3.0) (s.3.1) (s.3.2) s.3.3 s.3.4 s.3.5 s.3.7
          where
            by_receiver : (x : ℕ) (pass : List Ctl) → slice_get plan.passes x ≡ Some pass
                → (v : Net) (pin : NetPin) (driver : ℕ) → slice_get board.nets n ≡ Some v
                → slice_get v.pins place ≡ Some pin →
                receives board pin ≡ true → ObservesBy board (holds pass) v driver → get_or flags place false ≡ true
            by_receiver x pass stands v pin driver ev ep rec o =
                let same : v ≡ net = same_net v ev in
                let d = driver_there x pass stands driver (subst (λ (w : Net). ObservesBy board (holds pass) w driver) same o) in
                let r = reader_there place pin (subst (λ (w : Net). slice_get w.pins place ≡ Some pin) same ep) rec in
                flag_by x pass stands
                (subst (λ (l : List ℕ). Has l place) (sym (marks_are pass d.driver d.enabled d.beside))
                (inr
                (subst
                (λ (i : ℕ). Has (map (λ (r : ReaderCell). r.place) (plan_readers plan n)) i) r.2
                (has_map (λ (r : ReaderCell). r.place) (plan_readers plan n) (r.0) r.1))))

    pub flag_is : get_or flags place false ≡ is_tested_pin board net place
    flag_is = Rattle.std.specs.Cmp.both_ways (get_or flags place false) (is_tested_pin board net place) flag_tested tested_flag

pub pin_count_most : (board : RawBoard) → IsBoard board → (n : ℕ) → pin_count board n ≤ most_pins
pin_count_most board rules n = by_net (slice_get board.nets n) refl
  where
    by_net : (o : Option Net) → slice_get board.nets n ≡ o → pin_count_of o ≤ most_pins
    by_net None e = omega arith
    by_net (Some net) e =
        let most = pins_most board rules n net (slice_get_within board.nets n net e) in
        subst (λ (v : Net). length v.pins ≤ most_pins) (get_or_from_slice_get board.nets n net net e) most

pins_few : (board : RawBoard) (a : ℕ) (nets : List Net)
    → length (flat_map (tested_pins_in board) (enumerate_from a nets))
    ≤ sum_by (λ net. length net.pins) nets
pins_few board a [] = omega arith
pins_few board a (net ∷ nets) =
    omega (
      arith,
      length-append (tested_pins_in board (a, net)) (flat_map (tested_pins_in board) (enumerate_from (a + 1) nets)),
      length-map (filter (is_tested_pin board net) (range_with_len 0 (length net.pins)))
          (λ place. let q : PinRef = record { net = a; place = place } in q),
      filter_most (is_tested_pin board net) 0 (length net.pins),
      pins_few board (a + 1) nets,
      sum_by-cons (λ (v : Net). length v.pins) net nets,
    )

pub tested_few : (board : RawBoard) → IsBoard board → length (tested_pins board) ≤ most_pins
tested_few board rules = omega (arith, pins_few board 0 board.nets, rules.pins_most)

filter_range : (p q : ℕ → Bool) (a n : ℕ) → ((k : ℕ) → a ≤ k → k < a + n → p k ≡ q k)
    → filter p (range_with_len a n) ≡ filter q (range_with_len a n)
filter_range p q a zero same = refl
filter_range p q a (suc n) same =
    ap
    (λ (b : Bool). cond b (a ∷ filter p (range_with_len (a + 1) n))
    (filter p (range_with_len (a + 1) n))) (same a (omega arith) (omega arith))
    ∙ ap (λ (l : List ℕ). cond (q a) (a ∷ l) l)
    (filter_range p q (a + 1) n
    (λ k low high. same k (omega (arith, low)) (omega (arith, high))))

flat_numbers : {Y : Type 0} (f : ℕ → List Y) (g : Numbered → List Y) (a : ℕ) (nets : List Net)
    → ((k : ℕ) (net : Net) → slice_get nets k ≡ Some net → f (a + k) ≡ g (a + k, net)) →
    flat_map f (range_with_len a (length nets)) ≡ flat_map g (enumerate_from a nets)
flat_numbers f g a [] same = refl
flat_numbers {Y} f g a (net ∷ nets) same =
    let here : a + 0 ≡ a = omega arith in
    ap (λ (l : List Y). l ++ flat_map f (range_with_len (a + 1) (length nets))) (subst (λ (i : ℕ). f i ≡ g (i, net)) here (same 0 net refl))
    ∙ ap (λ (l : List Y). g (a, net) ++ l)
    (flat_numbers f g (a + 1) nets
    (λ k v e. let next : a + suc k ≡ a + 1 + k = omega arith in
    subst (λ (i : ℕ). f i ≡ g (i, v)) next (same (suc k) v e)))

pub filter_numbers : (f : ℕ → Bool) (g : Net → Bool) (a : ℕ) (nets : List Net)
    → ((k : ℕ) (net : Net) → slice_get nets k ≡ Some net → f (a + k) ≡ g net) →
    filter f (range_with_len a (length nets)) ≡ map (λ (m : Numbered). m.0) (filter (λ (m : Numbered). g m.1) (enumerate_from a nets))
filter_numbers f g a [] same = refl
filter_numbers f g a (net ∷ nets) same =
    let here : a + 0 ≡ a = omega arith in
    ap
    (λ (b : Bool). cond b (a ∷ filter f (range_with_len (a + 1) (length nets)))
    (filter f (range_with_len (a + 1) (length nets))))
    (subst (λ (i : ℕ). f i ≡ g net) here (same 0 net refl))
    ∙ ap (λ (l : List ℕ). cond (g net) (a ∷ l) l)
    (filter_numbers f g (a + 1) nets
    (λ k v e. let next : a + suc k ≡ a + 1 + k = omega arith in
    subst (λ (i : ℕ). f i ≡ g v) next (same (suc k) v e)))
    ∙ by_test (g net)
  where
    rest : List Numbered
    rest = filter (λ (m : Numbered). g m.1) (enumerate_from (a + 1) nets)

    by_test : (b : Bool)
        → cond b (a ∷ map (λ (m : Numbered). m.0) rest) (map (λ (m : Numbered). m.0) rest)
        ≡ map (λ (m : Numbered). m.0) (cond b ((a, net) ∷ rest) rest)
    by_test true = refl
    by_test false = refl

module _ (board : RawBoard) (rules : IsBoard board) (plan : PlanTables) (p : IsPlanOf board plan) (are : ArePasses board plan.passes) where
  pub pins_are : all_pins board plan (length board.nets) ≡ tested_pins board
  pins_are =
      flat_numbers (tested_pins_of board plan) (tested_pins_in board) 0 board.nets
      (λ k net e. let z : 0 + k ≡ k = omega arith in
      subst (λ (i : ℕ). tested_pins_of board plan i ≡ tested_pins_in board (i, net)) (sym z)
      (each k net e))
    where
      each : (n : ℕ) (net : Net) → slice_get board.nets n ≡ Some net → tested_pins_of board plan n ≡ tested_pins_in board (n, net)
      each n net is_net =
          let count : pin_count board n ≡ length net.pins = ap pin_count_of is_net in
          let flags : List Bool = tested_flags plan (length net.pins) n in
          ap (λ (c : ℕ). flagged_pins n (tested_flags plan c n)) count
          ∙ ap (λ (l : List ℕ). map (λ place. let q : PinRef = record { net = n; place = place } in q) l)
          (ap (λ (c : ℕ). filter (λ place. get_or flags place false) (range_with_len 0 c)) (length-flags plan n (length net.pins))
          ∙ filter_range (λ place. get_or flags place false) (is_tested_pin board net) 0 (length net.pins)
          (λ place low high. flag_is board rules plan p n net is_net are place (omega (arith, high))))

  -- the nets that have a code are the covered nets of the board
  module _
      (observed : (n : ℕ) (net : Net) → slice_get board.nets n ≡ Some net
      → is_observed board plan.passes net ≡ is_covered board net) where
    pub nets_are : coded_nets plan (length board.nets) ≡ map (λ (m : Numbered). m.0) (covered_nets board)
    nets_are =
        filter_numbers (λ n. nat_lt 0 (code_in plan n)) (is_covered board) 0 board.nets
        (λ k net e. let z : 0 + k ≡ k = omega arith in
        subst (λ (i : ℕ). nat_lt 0 (code_in plan i) ≡ is_covered board net) (sym z)
        (each k net e))
      where
        above : (b : Bool) (k : ℕ) → nat_lt 0 (cond b (suc k) 0) ≡ b
        above true k = lt-ltb 0 (suc k) (omega arith)
        above false k = refl

        each : (n : ℕ) (net : Net) → slice_get board.nets n ≡ Some net → nat_lt 0 (code_in plan n) ≡ is_covered board net
        each n net e = ap (λ (k : ℕ). nat_lt 0 k) (p.codes_are n net e) ∙ above (is_observed board plan.passes net) _ ∙ observed n net e

  -- two different nets are paired if and only if some pass of the plan observes both
  pub paired_in_is : (a b : ℕ) (one two : Net) → slice_get board.nets a ≡ Some one
      → slice_get board.nets b ≡ Some two → a ≢ b → paired_in plan a b ≡ are_paired board one two
  paired_in_is a b one two ea eb differ = Rattle.std.specs.Cmp.both_ways (paired_in plan a b) (are_paired board one two) to from
    where
      to : paired_in plan a b ≡ true → are_paired board one two ≡ true
      to e =
          let f = any_place (λ pass. observes_in plan pass a && observes_in plan pass b) plan.passes e in
          let parts = and_parts (observes_in plan f.item a) (observes_in plan f.item b) f.passes in
          paired_true board a b one two rules ea eb (
            differ,
            (
              holds f.item,
              p.plannable.safe f.place f.item f.stands,
              (
                observes_is board rules plan p a one ea f.place f.item f.stands parts.0,
                observes_is board rules plan p b two eb f.place f.item f.stands parts.1,
              ),
            ),
          )

      from : are_paired board one two ≡ true → paired_in plan a b ≡ true
      from e =
          let s = are.pairs a b (paired_is board a b one two rules ea eb differ e) in
          by_pass s.0 (s.1) s.2 s.3.0 s.3.1
        where
          by_pass : (x : ℕ) (pass : List Ctl) → slice_get plan.passes x ≡ Some pass
              → ObservesNet board (holds pass) a → ObservesNet board (holds pass) b
              → paired_in plan a b ≡ true
          by_pass x pass stands (v, ev, (i, o)) (w, ew, (j, q)) =
              any_at (λ r. observes_in plan r a && observes_in plan r b) plan.passes x pass stands
              (and_from (observes_in plan pass a) (observes_in plan pass b)
              (is_observing board rules plan p a one ea x pass stands i
              (subst (λ (u : Net). ObservesBy board (holds pass) u i)
              (net_same board a one v ea ev) o))
              (is_observing board rules plan p b two eb x pass stands j
              (subst (λ (u : Net). ObservesBy board (holds pass) u j)
              (net_same board b two w eb ew) q)))

set_kept : (flags : List Bool) (i : ℕ) → list_all (λ flag. flag) flags ≡ true → set flags i true ≡ flags
set_kept [] i all = refl
set_kept (true ∷ flags) zero all = refl
set_kept (true ∷ flags) (suc i) all = ap (λ (l : List Bool). true ∷ l) (set_kept flags i all)
set_kept (false ∷ flags) i all = cc all

readers_kept : (readers : List ReaderCell) (flags : List Bool) → list_all (λ flag. flag) flags ≡ true → marked_readers flags readers ≡ flags
readers_kept [] flags all = refl
readers_kept (r ∷ readers) flags all =
    ap (λ (l : List Bool). marked_readers l readers) (set_kept flags r.place all)
    ∙ readers_kept readers flags all

pass_kept : (plan : PlanTables) (n : ℕ) (flags : List Bool) (pass : List Ctl)
    → list_all (λ flag. flag) flags ≡ true → marked_in plan n flags pass ≡ flags
pass_kept plan n flags pass all = by_driver (driver_in plan pass n)
  where
    by_test : (d : NetDriver) (b : Bool) → cond b (marked_readers (set flags d.place true) (plan_readers plan n)) flags ≡ flags
    by_test d true =
        ap (λ (l : List Bool). marked_readers l (plan_readers plan n)) (set_kept flags d.place all)
        ∙ readers_kept (plan_readers plan n) flags all
    by_test d false = refl

    by_driver : (o : Option NetDriver) → marked_by o (plan_readers plan n) flags ≡ flags
    by_driver None = refl
    by_driver (Some d) = by_test d (is_read_beside (plan_readers plan n) d)

pub passes_kept : (plan : PlanTables) (n : ℕ) (passes : List (List Ctl)) (flags : List Bool)
    → list_all (λ flag. flag) flags ≡ true → fold (marked_in plan n) flags passes ≡ flags
passes_kept plan n [] flags all = refl
passes_kept plan n (pass ∷ passes) flags all =
    ap (λ (l : List Bool). fold (marked_in plan n) l passes) (pass_kept plan n flags pass all)
    ∙ passes_kept plan n passes flags all
