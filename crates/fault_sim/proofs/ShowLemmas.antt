-- Lemmas which say that a log shows the effects of a fault if and only if each compared cell has the bit that the fault gives it.
use Rattle.std.proofs.Common.{◌≡◌, ◌≢◌, ◌⊎◌, inl, inr, ℕ, zero, suc, ◌+◌, ◌-◌, ◌*◌, ◌<◌, ◌≤◌, ◌==◌, Bool, true, false, cond, not, ◌&&◌, ◌||◌, List, [], length, get_or, Option, Some, None, refl, sym, ap, ◌∙◌, subst, arith}
use Rattle.std.specs.Prelude.{slice_get, option_and_then, All}
use Rattle.std.specs.List.{list_all}
use Rattle.std.proofs.lemmas.Bool.{eq-eqb, and_parts, both_ways, cases_lt}
use Rattle.std.proofs.lemmas.List.{get_or_past}
use Rattle.std.proofs.lemmas.List.Elements.{All-nil}
use Rattle.std.proofs.lemmas.Nat.{mul-add-lt}
use Rattle.std.proofs.lemmas.Option.{get_or_from_slice_get, slice_get-get_or, slice_get_within}
use Rattle.std.proofs.Math.Nat.{suc-mul}
use Rattle.lists.proofs.ListLemmas.{item_there}
use Rattle.lists.proofs.Booleans.{eqb_swap}
use Rattle.board_defs.specs.declared.device.Cell.{Cell}
use Rattle.board_defs.specs.declared.device.RawDevice.{RawDevice}
use Rattle.board_defs.specs.declared.board.PinAt.{PinAt}
use Rattle.board_defs.specs.declared.board.Net.{Net}
use Rattle.board_defs.specs.declared.board.RawBoard.{RawBoard}
use Rattle.board_defs.specs.declared.board.Ctl.{Ctl}
use Rattle.board_defs.specs.declared.fault.Single.{Single}
use Rattle.board_defs.specs.BoardRules.{IsBoard}
use Rattle.board_defs.specs.DeviceRules.{is_on, is_receiving, reading_entry}
use Rattle.board_defs.specs.Pins.{device_at, guarded, data_bits, is_same}
use Rattle.board_defs.specs.Settings.{holds}
use Rattle.board_defs.proofs.Members.{Has, has_at, has_place, has_any, all_has, contains_has, has_contains}
use Rattle.board_defs.proofs.Places.{all_from, all_stands}
use Rattle.board_defs.proofs.CellLemmas.{on_is}
use Rattle.board_defs.proofs.SameBits.{same_of_is_same, is_same_of_same}
use Rattle.tap_defs.specs.board.NetBits.{Place, place_of}
use Rattle.tap_defs.specs.board.TestRows.{TestRow, code_row, code_bit, code_of_net, net_code_bit, observing_driver, only_if, expect_entry, expect_pin, expect_place, expect_observed}
use Rattle.tap_defs.specs.board.BoardScans.{RowScan, row_now}
use Rattle.tap_defs.specs.board.Explaining.{CompareRows, IsCompared, ShowsBits, compared_scans, cell_position}
use Rattle.tap_defs.proofs.board.FeedingLemmas.{Observing, observing_at}
use Rattle.tap_defs.proofs.board.PassingLemmas.{stands_at}
use Rattle.tap_defs.proofs.board.SingleBitLemmas.{ReadsPlace, reads_place}
use Rattle.net_pins.specs.declared.nets.NetDriver.{NetDriver}
use Rattle.net_pins.specs.declared.nets.ReaderCell.{ReaderCell}
use Rattle.net_pins.specs.NetCells.{drivers_of_pins}
use Rattle.net_pins.specs.Enabled.{is_read_beside, enabled_in}
use Rattle.plan_tables.specs.declared.tables.PlanTables.{PlanTables}
use Rattle.plan_tables.specs.Tables.{first_position, IsReaderCell}
use Rattle.scan_planner.specs.Plans.{IsPlanOf}
use Rattle.scan_planner.proofs.FillLemmas.{readers_within}
use Rattle.plan_tables.proofs.LaidLemmas.{laid_at}
use Rattle.plan_tables.proofs.PinLemmas.{Standing, standing, on_self, reading_entry_is, Reads, reads_by}
use Rattle.plan_tables.proofs.TableLemmas.{FirstOn, reader_is, is_reader}
use Rattle.response_log.specs.LogRows.{bit_in}
use Rattle.fault_sim.specs.Effects.{plan_readers, code_in, driver_in, place_of_driver, effect_in, effect_bit}
use Rattle.fault_sim.specs.inner.Effects.{fault_bit}
use Rattle.fault_sim.specs.Fits.{cell_shows, ShowBy, NetShows, Shows, ShowsAll}
use Rattle.fault_sim.proofs.FeedLemmas.{drivers_are, readers_are, code_is, first_is, observing_is}
use Rattle.fault_sim.proofs.EffectLemmas.{IsFault, effect_is}

-- row y of the log is row `bit` of pass `pass`
pub record RowOf (passes width y : ℕ) : Type 0 where
  pub pass : ℕ
  pub bit : ℕ
  pub pass_below : pass < passes
  pub bit_below : bit < width
  pub row_is : y ≡ pass * width + bit

pub row_of : (passes width y : ℕ) → y < passes * width → RowOf passes width y
row_of zero width y less = absurd (grind (arith, less))
row_of (suc passes) width y less = by_side (cases_lt y (passes * width)) (row_of passes width y)
  where
    by_side : (y < passes * width) ⊎ (passes * width ≤ y) → (y < passes * width → RowOf passes width y) → RowOf (suc passes) width y
    by_side (inl below) ih =
        let r = ih below in
        record { pass = r.pass; bit = r.bit; pass_below = omega (arith, r.pass_below); bit_below = r.bit_below; row_is = r.row_is }
    by_side (inr above) ih = record {
      pass = passes;
      bit = y - passes * width;
      pass_below = omega arith;
      bit_below = omega (arith, less, above, suc-mul passes width);
      row_is = omega (arith, above);
    }

-- `reader` is a compared cell of the net on a pin other than the enabled driver's pin. Row j of the pass compares this cell with the bit of
-- the net's code.
pub record ComparedCell (board : RawBoard) (plan : PlanTables) (pass : List Ctl) (j n : ℕ) (net : Net) (reader : ReaderCell) : Type 0 where
  pub part : ℕ
  pub device : RawDevice
  pub cell : ℕ
  pub position_is : reader.position ≡ first_position board part + cell
  pub compared : IsCompared board (code_row board plan.passes pass j) part device cell
      (record { number = n; net = net; place = reader.place }) (net_code_bit board plan.passes j n)
  pub code_is : code_in plan n ≡ code_of_net board plan.passes n

module _ (board : RawBoard) (rules : IsBoard board) (plan : PlanTables) (p : IsPlanOf board plan) where
  enabled_unguarded : (pass : List Ctl) (n : ℕ) (net : Net) → slice_get board.nets n ≡ Some net
      → (d : NetDriver) → driver_in plan pass n ≡ Some d → guarded board net ≡ false
  enabled_unguarded pass n net is_net d enabled = by_guard (guarded board net) refl
    where
      by_guard : (b : Bool) → guarded board net ≡ b → b ≡ false
      by_guard false e = refl
      by_guard true e =
          let bad : None ≡ Some d =
          sym
          (ap (λ (l : List NetDriver). enabled_in (holds pass) l)
          (drivers_are board rules plan p n net is_net
          ∙ ap (λ (b : Bool). cond b [] (drivers_of_pins board net.pins)) e)) ∙ enabled in
          cc bad

  module _ (x : ℕ) (pass : List Ctl) (stands : slice_get plan.passes x ≡ Some pass) (j : ℕ) (n : ℕ)
      (net : Net) (is_net : slice_get board.nets n ≡ Some net) (d : NetDriver)
      (enabled : driver_in plan pass n ≡ Some d)
      (reader : ReaderCell) (has : Has (plan_readers plan n) reader) (differs : (reader.place == d.place) ≡ false) where
    q : IsReaderCell board net reader
    q = reader_is board net reader (subst (λ (l : List ReaderCell). Has l reader) (readers_are board rules plan p n net is_net) has)

    t : Standing board n net reader.place q.at
    t = standing board rules n net reader.place q.pin q.at is_net q.is_pin q.is_at

    beside : is_read_beside (plan_readers plan n) d ≡ true
    beside = has_any (λ (y : ReaderCell). not (y.place == d.place)) (plan_readers plan n) reader has (ap not differs)

    observing : observing_driver board (holds pass) net ≡ Some d.place
    observing =
        observing_is board rules plan p n net is_net x pass stands
        (enabled_unguarded pass n net is_net d enabled) d enabled
        ∙ ap (λ (b : Bool). cond b (Some d.place) None) beside

    same_device : q.device ≡ t.device
    same_device = let two : Some q.device ≡ Some t.device = sym q.is_device ∙ t.is_device in cc two

    stands_in : (i : ℕ) × (slice_get q.device.cells i ≡ Some q.entry)
    stands_in = has_place q.device.cells q.entry (contains_has q.device.cells q.entry q.is_entry)

    entry_at : slice_get t.device.cells stands_in.0 ≡ Some q.entry
    entry_at = subst (λ (v : RawDevice). slice_get v.cells stands_in.0 ≡ Some q.entry) same_device stands_in.1

    parts : (is_on q.at.bit q.entry.bit ≡ true) × (is_receiving q.entry.role ≡ true)
    parts = and_parts (is_on q.at.bit q.entry.bit) (is_receiving q.entry.role) q.reads

    entry_is : reading_entry t.device q.entry.num ≡ Some q.entry
    entry_is = reading_entry_is t.device t.read stands_in.0 q.entry entry_at parts.1

    compared_is : IsCompared board (code_row board plan.passes pass j) q.at.part t.device
        q.entry.num (record { number = n; net = net; place = reader.place })
        (net_code_bit board plan.passes j n)
    compared_is = record {
      is_device = t.is_device;
      below = t.read.num_below stands_in.0 q.entry entry_at;
      reads =
          ap
          (λ (o : Option Cell). option_and_then
          (λ e. option_and_then
          (λ b. place_of (record { part = q.at.part; bit = b }) 0 board.nets) e.bit) o) entry_is
          ∙ ap
          (λ (o : Option ℕ). option_and_then
          (λ b. place_of (record { part = q.at.part; bit = b }) 0 board.nets) o)
          (on_is q.at.bit q.entry.bit parts.0)
          ∙ t.is_place;
      expects =
          ap (λ (o : Option Cell). expect_entry board (code_row board plan.passes pass j) q.at.part o) entry_is
          ∙ ap (λ (b : Bool). cond b (expect_pin board (code_row board plan.passes pass j) q.at.part q.entry.bit) None) parts.1
          ∙ ap (λ (o : Option ℕ). expect_pin board (code_row board plan.passes pass j) q.at.part o) (on_is q.at.bit q.entry.bit parts.0)
          ∙ ap (λ (b : Bool). cond b (expect_place board (code_row board plan.passes pass j) (place_of q.at 0 board.nets)) None) q.receives
          ∙ ap (λ (o : Option Place). expect_place board (code_row board plan.passes pass j) o) t.is_place
          ∙ ap (λ (o : Option ℕ). expect_observed (Some (net_code_bit board plan.passes j n)) reader.place o) observing
          ∙ ap (λ (b : Bool). only_if (not b) (Some (net_code_bit board plan.passes j n))) (eqb_swap reader.place d.place differs);
    }

    pub compared_cell : ComparedCell board plan pass j n net reader
    compared_cell = record {
      part = q.at.part;
      device = t.device;
      cell = q.entry.num;
      position_is = q.position_is;
      compared = compared_is;
      code_is = code_is board rules plan p n net is_net x pass d.place stands observing;
    }

module _ (board : RawBoard) (rules : IsBoard board) (plan : PlanTables) (p : IsPlanOf board plan)
    (fault : Option Single) (is_fault : IsFault board fault) (log : List (List Bool))
    (rows : length log ≡ length plan.passes * plan.width) (bits : All (λ row. length row ≡ data_bits board) log)
    (scans : List RowScan) (compare : CompareRows (code_row board plan.passes) plan.width plan.passes (compared_scans board scans)) where
  -- row j of pass x
  module _ (x : ℕ) (pass : List Ctl) (stands : slice_get plan.passes x ≡ Some pass) (j : ℕ) (less : j < plan.width) where
    abbrev row : TestRow
    row = code_row board plan.passes pass j

    abbrev number : ℕ
    number = x * plan.width + j

    abbrev scan_here : RowScan
    scan_here = record { now = row_now (code_row board plan.passes pass) plan.width (suc j); before = row }

    scan_is : slice_get (compared_scans board scans) number ≡ Some scan_here
    scan_is = compare.each x pass j stands less

    row_there : number < length log
    row_there =
        omega (
          arith,
          mul-add-lt x plan.width j (length plan.passes)
              (slice_get_within plan.passes x pass stands) less,
          rows,
          grind-times plan.width (length plan.passes),
        )
      where
        grind-times : (a b : ℕ) → a * b ≡ b * a
        grind-times a b = grind arith

    -- a cell of a part, and its position in this row of the log
    module _ (logged : List Bool) (is_logged : slice_get log number ≡ Some logged) (part : ℕ)
        (device : RawDevice) (cell : ℕ) (is_device : device_at board part ≡ Some device)
        (below : cell < device.boundary) where
      abbrev position : ℕ
      position = first_position board part + cell

      within : position < length logged
      within =
          omega (
            arith,
            (laid_at (λ q e c. false) board part device cell is_device below).0,
            all_stands (λ (l : List Bool). length l ≡ data_bits board) log number logged is_logged
                bits,
          )

      logged_is : slice_get logged position ≡ Some (bit_in log number position)
      logged_is =
          slice_get-get_or logged position false within
          ∙ ap (λ (l : List Bool). Some (get_or l position false)) (sym (get_or_from_slice_get log number logged [] is_logged))

    -- net n and the driver that the pass enables on it
    module _ (n : ℕ) (net : Net) (is_net : slice_get board.nets n ≡ Some net)
        (unguarded : guarded board net ≡ false) (d : NetDriver)
        (enabled : driver_in plan pass n ≡ Some d) where
      module _ (place : ℕ) (other : place ≢ d.place) (expected : Bool) where
        value_is : effect_bit (effect_in board plan pass fault n) j place expected
            ≡ fault_bit board fault row (record { number = n; net = net; place = place }) expected
        value_is = effect_is board rules plan p x pass stands n net is_net unguarded d enabled place other j expected fault is_fault

    -- if the log shows the fault on every net, each compared cell has the bit that the fault gives it
    module _ (show : (n : ℕ) → n < length board.nets → Shows board plan fault log x n)
        (logged : List Bool) (is_logged : slice_get log number ≡ Some logged) (part : ℕ)
        (device : RawDevice) (cell : ℕ) (place : Place) (expected : Bool)
        (c : IsCompared board row part device cell place expected) where
      r : ReadsPlace board row part device cell place expected
      r = reads_place board row part device cell place expected c

      abbrev at : PinAt
      at = record { part = part; bit = r.bit }

      abbrev n : ℕ
      n = place.number

      abbrev net : Net
      net = place.net

      is_net : slice_get board.nets n ≡ Some net
      is_net =
          let s = stands_at board at place 0 board.nets r.stands in
          let z : s.index ≡ n = omega (arith, s.number_is) in
          subst (λ (i : ℕ). slice_get board.nets i ≡ Some net) z s.net_is

      o : Observing board (holds pass) net r.driver
      o = observing_at board (holds pass) net r.driver r.observing

      abbrev reader : ReaderCell
      reader = record { place = place.place; position = first_position board part + cell }

      has_reader : Has (plan_readers plan n) reader
      has_reader =
          let s = stands_at board at place 0 board.nets r.stands in
          let reads : Reads device cell r.entry = reads_by device cell r.entry r.reads in
          subst (λ (l : List ReaderCell). Has l reader) (sym (readers_are board rules plan p n net is_net))
          (is_reader board net reader (record {
            pin = s.pin;
            is_pin = s.pin_is;
            at = at;
            is_at = s.at_is;
            receives = r.receives_is;
            device = device;
            is_device = c.is_device;
            entry = r.entry;
            is_entry = has_contains device.cells r.entry (has_at device.cells reads.index r.entry reads.stands);
            reads = ap (λ (t : Bool). t && is_receiving r.entry.role) (on_self r.bit r.entry.bit r.bit_is) ∙ r.receiving;
            position_is = ap (λ (i : ℕ). first_position board part + i) (sym reads.num_is);
          }))

      expected_is : code_bit (code_in plan n) j ≡ expected
      expected_is =
          let two : Some (net_code_bit board plan.passes j n) ≡ Some expected = r.carried in
          let same : net_code_bit board plan.passes j n ≡ expected = cc two in
          ap (λ (k : ℕ). code_bit k j) (code_is board rules plan p n net is_net x pass r.driver stands r.observing) ∙ same

      by_enabled : (d : Option NetDriver) → driver_in plan pass n ≡ d
          → ShowBy log (x * plan.width) plan.width (code_in plan n) (plan_readers plan n)
          (effect_in board plan pass fault n) (place_of_driver d) →
          slice_get logged (cell_position board part cell) ≡ Some (fault_bit board fault row place expected)
      by_enabled None e shown =
          let none = first_is board rules plan p n net is_net x pass stands o.unguarded in
          absurd (no_driver (subst (λ (q : Option NetDriver). FirstOn board (holds pass) 0 net.pins q) e none))
        where
          no_driver : Rattle.tap_defs.specs.board.TestRows.first_enabled board (holds pass) 0 net.pins ≡ None → ⊥
          no_driver z =
              let bad : None ≡ Some r.driver =
              sym
              (ap
              (λ (b : Bool). cond b None
              (Rattle.tap_defs.specs.board.TestRows.observing_driver_by board net
              (Rattle.tap_defs.specs.board.TestRows.first_enabled board (holds pass) 0
              net.pins))) o.unguarded
              ∙ ap (λ (q : Option ℕ). Rattle.tap_defs.specs.board.TestRows.observing_driver_by board net q) z) ∙ r.observing in
              cc bad
      by_enabled (Some d) e shown =
          let place_is : r.driver ≡ d.place = driver_place in
          let differs : (place.place == d.place)
          ≡ false = eqb_swap d.place place.place
          (sym (ap (λ (i : ℕ). i == place.place) place_is) ∙ r.other) in
          let other : place.place ≢ d.place = λ q. both_ways (place.place == d.place) differs (eq-eqb place.place d.place q) in
          let cell_is : cell_shows log number d.place (effect_in board plan pass fault n) j (code_bit (code_in plan n) j) reader ≡ true =
          all_has
          (cell_shows log number d.place (effect_in board plan pass fault n) j
          (code_bit (code_in plan n) j)) (plan_readers plan n) reader (shown j less) has_reader
          in
          logged_is logged is_logged part device cell c.is_device c.below
          ∙ ap Some
          (same_of_is_same (bit_in log number (first_position board part + cell))
          (effect_bit (effect_in board plan pass fault n) j place.place
          (code_bit (code_in plan n) j))
          (sym
          (ap
          (λ (t : Bool). t
          || is_same (bit_in log number (first_position board part + cell))
          (effect_bit (effect_in board plan pass fault n) j place.place
          (code_bit (code_in plan n) j))) differs) ∙ cell_is)
          ∙ ap (λ (v : Bool). effect_bit (effect_in board plan pass fault n) j place.place v) expected_is
          ∙ value_is n net is_net o.unguarded d e place.place other expected)
        where
          some_same : (t : Bool) → cond t (Some d.place) None ≡ Some r.driver → d.place ≡ r.driver
          some_same true q = cc q
          some_same false q = cc q

          driver_place : r.driver ≡ d.place
          driver_place =
              sym
              (some_same (is_read_beside (plan_readers plan n) d)
              (sym
              (observing_is board rules plan p n net is_net x pass stands o.unguarded
              d e) ∙ r.observing))

      pub compared_bit : slice_get logged (cell_position board part cell) ≡ Some (fault_bit board fault row place expected)
      compared_bit =
          by_enabled (driver_in plan pass n) refl
          (subst (λ (q : List Ctl). NetShows board plan fault log (x * plan.width) q n)
          (get_or_from_slice_get plan.passes x pass [] stands)
          (show n (slice_get_within board.nets n net is_net)))

    -- if each compared cell has the bit that the fault gives it, the log shows the fault on every net
    module _ (shows : ShowsBits board scans (fault_bit board fault) log) (n : ℕ) (net : Net)
        (is_net : slice_get board.nets n ≡ Some net) (d : NetDriver)
        (enabled : driver_in plan pass n ≡ Some d) where
      module _ (reader : ReaderCell) (has : Has (plan_readers plan n) reader) (differs : (reader.place == d.place) ≡ false) where
        abbrev expected : Bool
        expected = net_code_bit board plan.passes j n

        bit_is : bit_in log number reader.position
            ≡ effect_bit (effect_in board plan pass fault n) j reader.place
            (code_bit (code_in plan n) j)
        bit_is =
            let c : ComparedCell board plan pass j n net reader = compared_cell board rules plan p x
            pass stands j n net is_net d enabled reader has differs in
            let logged = item_there log number row_there in
            let shown = shows number scan_here logged.0 c.part c.device c.cell
            (record { number = n; net = net; place = reader.place }) expected scan_is logged.1
            c.compared in
            let there = logged_is logged.0 logged.1 c.part c.device c.cell c.compared.is_device c.compared.below in
            let two : Some (bit_in log number (first_position board c.part + c.cell))
            ≡ Some
            (fault_bit board fault row
            (record { number = n; net = net; place = reader.place }) expected) = sym there
            ∙ shown in
            let same : bit_in log number (first_position board c.part + c.cell)
            ≡ fault_bit board fault row (record { number = n; net = net; place = reader.place })
            expected = cc two in
            let other : reader.place ≢ d.place = λ e. both_ways (reader.place == d.place) differs (eq-eqb reader.place d.place e) in
            ap (λ (i : ℕ). bit_in log number i) c.position_is ∙ same
            ∙ sym
            (value_is n net is_net
            (enabled_unguarded board rules plan p pass n net is_net d enabled) d enabled
            reader.place other expected)
            ∙ sym (ap (λ (k : ℕ). effect_bit (effect_in board plan pass fault n) j reader.place (code_bit k j)) c.code_is)

      pub cells_are_shown : list_all
          (cell_shows log number d.place (effect_in board plan pass fault n) j
          (code_bit (code_in plan n) j)) (plan_readers plan n) ≡ true
      cells_are_shown =
          all_from (cell_shows log number d.place (effect_in board plan pass fault n) j (code_bit (code_in plan n) j)) (plan_readers plan n)
          (λ i y e. by_place y (has_at (plan_readers plan n) i y e) (y.place == d.place) refl)
        where
          by_place : (reader : ReaderCell) → Has (plan_readers plan n) reader → (b : Bool) → (reader.place == d.place) ≡ b →
              (b
              || is_same (bit_in log number reader.position)
              (effect_bit (effect_in board plan pass fault n) j reader.place
              (code_bit (code_in plan n) j))) ≡ true
          by_place y has true e = refl
          by_place y has false e =
              is_same_of_same (bit_in log number y.position)
              (effect_bit (effect_in board plan pass fault n) j y.place
              (code_bit (code_in plan n) j)) (bit_is y has e)

  pub bits_shown : ShowsAll board plan fault log → ShowsBits board scans (fault_bit board fault) log
  bits_shown show y scan logged part device cell place expected at_scan at_log c =
      let within : y
      < length plan.passes * plan.width = omega
      (arith, slice_get_within (compared_scans board scans) y scan at_scan, compare.count) in
      let r : RowOf (length plan.passes) plan.width y = row_of (length plan.passes) plan.width y within in
      let pass = item_there plan.passes r.pass r.pass_below in
      let two : Some scan ≡ Some (scan_here r.pass (pass.0) pass.1 r.bit r.bit_below) =
      sym at_scan ∙ ap (λ (i : ℕ). slice_get (compared_scans board scans) i) r.row_is ∙ scan_is r.pass (pass.0) pass.1 r.bit r.bit_below in
      let same : scan ≡ scan_here r.pass (pass.0) pass.1 r.bit r.bit_below = cc two in
      let compared = subst (λ (s : RowScan). IsCompared board s.before part device cell place expected) same c in
      compared_bit r.pass (pass.0) pass.1 r.bit r.bit_below (show r.pass r.pass_below) logged
      (ap (λ (i : ℕ). slice_get log i) (sym r.row_is) ∙ at_log) part device cell place expected
      compared
      ∙ sym (ap (λ (s : RowScan). Some (fault_bit board fault s.before place expected)) same)

  pub all_shown : ShowsBits board scans (fault_bit board fault) log → ShowsAll board plan fault log
  all_shown shows x x_less n n_less =
      let pass = item_there plan.passes x x_less in
      let net = item_there board.nets n n_less in
      subst (λ (q : List Ctl). NetShows board plan fault log (x * plan.width) q n)
      (sym (get_or_from_slice_get plan.passes x (pass.0) [] pass.1))
      (by_driver (pass.0) pass.1 (net.0) net.1 (driver_in plan (pass.0) n) refl)
    where
      by_driver : (pass : List Ctl) → slice_get plan.passes x ≡ Some pass → (net : Net)
          → slice_get board.nets n ≡ Some net → (o : Option NetDriver) → driver_in plan pass n ≡ o →
          ShowBy log (x * plan.width) plan.width (code_in plan n) (plan_readers plan n)
          (effect_in board plan pass fault n) (place_of_driver o)
      by_driver pass stands v is_v None e = tt
      by_driver pass stands v is_v (Some d) e = λ j less. cells_are_shown x pass stands j less shows n v is_v d e

-- The position of each compared cell of net n is within a data scan. If the board has no net n, there is no such cell.
pub readers_inside : (board : RawBoard) → IsBoard board → (plan : PlanTables) → IsPlanOf board plan
    → (n : ℕ) → All (λ r. r.position < data_bits board) (plan_readers plan n)
readers_inside board rules plan p n = by_side (cases_lt n (length plan.nets.readers))
  where
    by_side : (n < length plan.nets.readers) ⊎ (length plan.nets.readers ≤ n)
        → All (λ r. r.position < data_bits board) (plan_readers plan n)
    by_side (inl within) = readers_within board rules plan p n [] within
    by_side (inr past) =
        subst (λ (l : List ReaderCell). All (λ r. r.position < data_bits board) l)
        (sym (get_or_past plan.nets.readers n [] past))
        (All-nil (λ r. r.position < data_bits board))
