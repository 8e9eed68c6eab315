-- Lemmas about the rows that a walk stores for all its scans, and about the rows that it fills with one scan.
use Rattle.std.proofs.Common.{◌≡◌, ◌⊎◌, inl, inr, ℕ, zero, suc, ◌+◌, ◌<◌, ◌≤◌, ◌==◌, ◌^◌, Bool, true, false, cond, List, [], ◌∷◌, length, take, map, get_or, set, replicate, Option, Some, None, is_some, unwrap_or, refl, sym, ◌∙◌, ap, subst, arith}
use Rattle.std.specs.Prelude.{slice_get, filter, count_by, nat_lt, option_map}
use Rattle.std.specs.Option.{option_to_list}
use Rattle.std.specs.List.{list_any, range_with_len}
use Rattle.std.proofs.lemmas.Bool.{cases_lt, lt-ltb, le-ltb, eq-eqb}
use Rattle.std.proofs.lemmas.List.{length-map, length-replicate, get_or-replicate}
use Rattle.std.proofs.lemmas.Option.{none-some, slice_get_within, slice_get-get_or, slice_get-map}
use Rattle.lists.proofs.ListLemmas.{item_there, none_of_zeros}
use Rattle.board_defs.specs.declared.board.Net.{Net}
use Rattle.board_defs.specs.declared.board.RawBoard.{RawBoard}
use Rattle.board_defs.specs.declared.board.Ctl.{Ctl}
use Rattle.board_defs.specs.BoardRules.{IsBoard}
use Rattle.board_defs.specs.Pins.{data_bits}
use Rattle.board_defs.specs.Settings.{holds}
use Rattle.board_defs.proofs.Members.{Has, has_at, has_place, contains_has, has_contains}
use Rattle.board_defs.proofs.Places.{any_at}
use Rattle.tap_defs.specs.declared.scan.Shape.{Shape}
use Rattle.tap_defs.specs.chain.Scan.{ScanBit, joined, tdi_bits, tdo_bits, mask_bits, scan_bits}
use Rattle.tap_defs.specs.chain.ScanRows.{AreBitsOf}
use Rattle.tap_defs.specs.board.TestRows.{TestRow, quiet_row, code_row, net_code_bit, observing_driver, observed_count, code_width}
use Rattle.tap_defs.specs.board.BoardScans.{RowScan, row_bits, scan_of_row, board_scans, row_scans, pass_scans, row_now, row_before, is_walked, walk_row, walk_row_scans}
use Rattle.tap_defs.proofs.chain.ScanRowLemmas.{rows_make, shifted_length, expected_same, marks_same, rows_masked}
use Rattle.tap_defs.proofs.board.ScanPlaceLemmas.{front_at, length-pass_scans, pass_scan_at}
use Rattle.tap_defs.proofs.board.WidthLemmas.{width_is}
use Rattle.net_pins.specs.declared.nets.NetDriver.{NetDriver}
use Rattle.plan_tables.specs.declared.tables.DriverCell.{DriverCell}
use Rattle.net_pins.specs.declared.nets.ReaderCell.{ReaderCell}
use Rattle.net_pins.specs.declared.pins.NetPins.{NetPins}
use Rattle.net_pins.specs.Tables.{AreNetPins}
use Rattle.net_pins.specs.NetCells.{drivers_of, readers_of}
use Rattle.net_pins.specs.Enabled.{observing_of, readers_on, observer_on}
use Rattle.net_pins.proofs.NetTableLemmas.{drivers_on_is, readers_on_is}
use Rattle.plan_tables.specs.declared.tables.PlanTables.{PlanTables}
use Rattle.plan_tables.specs.Assigned.{assigned}
use Rattle.scan_planner.specs.Plans.{IsPlanOf, FillsScan, scan_of_pass}
use Rattle.plan_tables.specs.Tables.{IsDriverCell, IsReaderCell}
use Rattle.scan_planner.proofs.FillLemmas.{row_sized, quiet_tdo, quiet_mask}
use Rattle.plan_tables.proofs.LaidLemmas.{mask_laid, tdo_laid, tdi_laid, length-laid}
use Rattle.plan_tables.proofs.AssignLemmas.{assigned_is}
use Rattle.plan_tables.proofs.TableLemmas.{Observed, DriverAt, observed, reader_is, is_reader}
use Rattle.walk_test.specs.declared.tables.NetCells.{NetCells}
use Rattle.walk_test.specs.declared.tables.WalkTables.{WalkTables}
use Rattle.walk_test.specs.WalkTest.{is_walk_net, walk_setting, walk_nets, scans_by, walk_row_list, walk_scans}
use Rattle.walk_test.specs.Tables.{tdi_of, mask_of, still_row, AreNetCells, AreWalkTables, IsWalkOf}
use Rattle.walk_test.specs.inner.Tables.{tdo_of, positions_beside, cells_by, cells_in, nets_in, nets_by, cells_in_walk, AreMade, board_walk, cells_before, walk_mask, walk_expected, first_row, shifted_in, walk_controls, walk_row_of, now_of, before_of}
use Rattle.walk_test.specs.Scans.{FillsWalk}
use Rattle.walk_test.proofs.CellLemmas.{WalkedBy}
use Rattle.walk_test.proofs.NetLemmas.{walk_at, place_of_walk, count_is, marked_is, no_nets}
use Rattle.walk_test.proofs.RowLemmas.{CellsOf, cells_of_plan, one_driver, length-tdi, marked_row, cleared_row, mask_same, one_at, tdo_here, laid_here, net_cells}

pub some_width : (board : RawBoard) (plan : PlanTables) → IsPlanOf board plan → 1 ≤ plan.width
some_width board plan p = by_width plan.width p.width_is
  where
    by_width : (w : ℕ) → w ≡ code_width (observed_count board plan.passes) → 1 ≤ w
    by_width zero e =
        let enough : observed_count board plan.passes + 2
        ≤ 2 ^ code_width (observed_count board plan.passes) =
        (width_is (observed_count board plan.passes)).enough in
        let none : 2 ^ code_width (observed_count board plan.passes) ≡ 1 = ap (λ (n : ℕ). 2 ^ n) (sym e) in
        absurd (omega (arith, enough, none))
    by_width (suc w) e = omega arith

pub first_setting : {X : Type 0} (settings : List X) (o : Option X) → settings ≡ option_to_list o → slice_get settings 0 ≡ o
first_setting settings o are = ap (λ l. slice_get l 0) are ∙ by_setting o
  where
    by_setting : {X : Type 0} (o : Option X) → slice_get (option_to_list o) 0 ≡ o
    by_setting None = refl
    by_setting (Some x) = refl

-- the rows of a plan from which a walk makes its rows
module _ (board : RawBoard) (plan : PlanTables) (p : IsPlanOf board plan) where
  pub first_shifted : tdi_bits (joined (row_bits board (scan_of_pass board plan 0 0))) ≡ tdi_of board (first_row board plan)
  first_shifted =
      ap (λ (b : Bool). tdi_of board (cond b (first_row board plan) quiet_row))
      (lt-ltb 0 plan.width (omega (arith, some_width board plan p)))

  pub first_marked : mask_bits (joined (row_bits board (scan_of_pass board plan 0 1))) ≡ mask_of board (first_row board plan)
  first_marked =
      mask_laid board (scan_of_pass board plan 0 1)
      ∙ sym (mask_laid board (record { now = quiet_row; before = first_row board plan }))

-- The nets of a walk and their cells. The code finds them in the tables of the board's pins.
module _ (board : RawBoard) (rules : IsBoard board) (pins : NetPins) (p : AreNetPins board pins) (walk : List Ctl) where
  pub observer_is : (n : ℕ) (net : Net) → slice_get board.nets n ≡ Some net
      → Observed board (holds walk) net (observer_on pins.nets (holds walk) n)
  observer_is n net e =
      subst
      (λ (l : List NetDriver). Observed board (holds walk) net
      (observing_of (holds walk) l (readers_on pins.nets n)))
      (sym (drivers_on_is board pins.nets p.nets_are n net e))
      (subst
      (λ (l : List ReaderCell). Observed board (holds walk) net
      (observing_of (holds walk) (drivers_of board net) l))
      (sym (readers_on_is board pins.nets p.nets_are n net e))
      (observed board (holds walk) net))

  observes_is : (n : ℕ) (net : Net) → slice_get board.nets n ≡ Some net
      → is_some (observer_on pins.nets (holds walk) n) ≡ is_walked board walk net
  observes_is n net e = by_observer (observer_on pins.nets (holds walk) n) (observer_is n net e)
    where
      by_observer : (o : Option NetDriver) → Observed board (holds walk) net o
          → is_some o ≡ is_some (observing_driver board (holds walk) net)
      by_observer None h = sym (ap (λ (x : Option ℕ). is_some x) h)
      by_observer (Some d) h = sym (ap (λ (x : Option ℕ). is_some x) h.0)

  pub nets_are : walk_setting board ≡ Some walk → nets_in pins walk (length board.nets) ≡ walk_nets board
  nets_are is = same 0 board.nets (λ i net e. let z : 0 + i ≡ i = omega arith in ap (λ (k : ℕ). slice_get board.nets k) z ∙ e)
    where
      test : (n : ℕ) (net : Net) → slice_get board.nets n ≡ Some net
          → is_some (observer_on pins.nets (holds walk) n)
          ≡ is_walk_net board (walk_setting board) (slice_get board.nets n)
      test n net e =
          observes_is n net e
          ∙ sym
          (ap (λ (o : Option (List Ctl)). is_walk_net board o (slice_get board.nets n)) is
          ∙ ap (λ (o : Option Net). is_walk_net board (Some walk) o) e)

      same : (k : ℕ) (xs : List Net) → ((i : ℕ) (net : Net) → slice_get xs i ≡ Some net → slice_get board.nets (k + i) ≡ Some net) →
          filter (λ n. is_some (observer_on pins.nets (holds walk) n))
          (range_with_len k (length xs))
          ≡ filter (λ n. is_walk_net board (walk_setting board) (slice_get board.nets n))
          (range_with_len k (length xs))
      same k [] at = refl
      same k (net ∷ xs) at =
          let z : k + 0 ≡ k = omega arith in
          let e : slice_get board.nets k ≡ Some net = sym (ap (λ (i : ℕ). slice_get board.nets i) z) ∙ at 0 net refl in
          ap
          (λ (b : Bool). cond b
          (k
          ∷ filter (λ n. is_some (observer_on pins.nets (holds walk) n))
          (range_with_len (k + 1) (length xs)))
          (filter (λ n. is_some (observer_on pins.nets (holds walk) n))
          (range_with_len (k + 1) (length xs)))) (test k net e)
          ∙ ap (λ (l : List ℕ). cond (is_walk_net board (walk_setting board) (slice_get board.nets k)) (k ∷ l) l)
          (same (k + 1) xs
          (λ i x f. let y : k + 1 + i ≡ k + suc i = omega arith in
          ap (λ (j : ℕ). slice_get board.nets j) y ∙ at (suc i) x f))

  pub cells_are : (n : ℕ) → WalkedBy board walk n → AreNetCells board walk n (cells_in pins walk n)
  cells_are n w = by_observer (observer_on pins.nets (holds walk) n) (observer_is n w.net w.is_net)
    where
      position_is : (d : NetDriver) → DriverAt board 0 w.net.pins d → d.place ≡ w.driver
          → (e : DriverCell) → IsDriverCell board walk e → e.net ≡ n → d.position ≡ e.position
      position_is d a place e s of_net =
          let nets : Some w.net ≡ Some s.net = sym w.is_net ∙ ap (λ (i : ℕ). slice_get board.nets i) (sym of_net) ∙ s.is_net in
          let net : w.net ≡ s.net = cc nets in
          let drivers : Some w.driver
          ≡ Some e.place = sym w.observing
          ∙ ap (λ (x : Net). observing_driver board (holds walk) x) net ∙ s.observing in
          let driver : w.driver ≡ e.place = cc drivers in
          let index : a.index ≡ e.place = omega (arith, a.place_is, place, driver) in
          let pins : Some a.pin
          ≡ Some s.pin = sym a.stands ∙ ap (λ (x : Net). slice_get x.pins a.index) net
          ∙ ap (λ (i : ℕ). slice_get s.net.pins i) index ∙ s.is_pin in
          let pin : a.pin ≡ s.pin = cc pins in
          let ats : Some a.at
          ≡ Some s.at = sym a.is_at
          ∙ ap (λ (x : Rattle.board_defs.specs.declared.board.NetPin.NetPin). x.at) pin
          ∙ s.is_at in
          let at : a.at ≡ s.at = cc ats in
          let entries : Some a.entry
          ≡ Some s.entry = sym a.is_entry
          ∙ ap
          (λ (x : Rattle.board_defs.specs.declared.board.PinAt.PinAt). Rattle.board_defs.specs.Pins.entry_at
          board x) at ∙ s.is_entry in
          let entry : a.entry ≡ s.entry = cc entries in
          a.position_is
          ∙ ap
          (λ (x : Rattle.board_defs.specs.declared.board.PinAt.PinAt). Rattle.plan_tables.specs.Tables.first_position
          board x.part + a.entry.num) at
          ∙ ap
          (λ (x : Rattle.board_defs.specs.declared.device.Cell.Cell). Rattle.plan_tables.specs.Tables.first_position
          board s.at.part + x.num) entry ∙ sym s.position_is

      by_observer : (o : Option NetDriver) → Observed board (holds walk) w.net o → AreNetCells board walk n (cells_by pins n o)
      by_observer None h = absurd (none-some w.driver (sym h ∙ w.observing))
      by_observer (Some d) h =
          let places : Some d.place ≡ Some w.driver = sym h.0 ∙ w.observing in
          let place : d.place ≡ w.driver = cc places in
          let made : AreNetCells board walk n
          (record {
            driver = d.position;
            compared = positions_beside w.driver
                (readers_of board w.net.pins);
          }) =
          net_cells board walk n w d.position (readers_of board w.net.pins)
          (λ r k. reader_is board w.net r k) (λ r q. is_reader board w.net r q)
          (position_is d h.1 place) in
          subst
          (λ (l : List ReaderCell). let c : NetCells = record
          { driver = d.position; compared = positions_beside d.place l } in
          AreNetCells board walk n c)
          (sym (readers_on_is board pins.nets p.nets_are n w.net w.is_net))
          (subst
          (λ (i : ℕ). let c : NetCells = record {
            driver = d.position;
            compared = positions_beside i
                (readers_of board w.net.pins);
          } in
          AreNetCells board walk n c) (sym place) made)

-- if tables are built from the parts that `walk_parts` returns, they are the tables of a walk
module _ (board : RawBoard) (rules : IsBoard board) (plan : PlanTables) (p : IsPlanOf board plan)
    (passes : plan.passes ≡ option_to_list (walk_setting board)) (t : WalkTables)
    (is_plan : t.plan ≡ plan) (pins : NetPins) (q : AreNetPins board pins)
    (nets : t.nets ≡ nets_by pins (walk_setting board) (length board.nets))
    (cells : t.cells ≡ cells_in_walk pins (walk_setting board) t.nets)
    (rows_made : AreMade board plan t.cells t.rows) where
  plan_is : IsPlanOf board t.plan
  plan_is = subst (λ (q : PlanTables). IsPlanOf board q) (sym is_plan) p

  passes_are : t.plan.passes ≡ option_to_list (walk_setting board)
  passes_are = ap (λ (q : PlanTables). q.passes) is_plan ∙ passes

  module _ (walk : List Ctl) (is : walk_setting board ≡ Some walk) where
    one_pass : plan.passes ≡ walk ∷ []
    one_pass = passes ∙ ap (λ (o : Option (List Ctl)). option_to_list o) is

    first_is : get_or plan.passes 0 [] ≡ walk
    first_is = ap (λ (l : List (List Ctl)). get_or l 0 []) one_pass

    some : 0 < length plan.passes
    some = omega (arith, ap (λ (l : List (List Ctl)). length l) one_pass)

    walk_nets_are : t.nets ≡ walk_nets board
    walk_nets_are = nets ∙ ap (λ (o : Option (List Ctl)). nets_by pins o (length board.nets)) is ∙ nets_are board rules pins q walk is

    cells_all : t.cells ≡ map (cells_in pins walk) t.nets
    cells_all = cells ∙ ap (λ (o : Option (List Ctl)). cells_in_walk pins o t.nets) is

    walk_cells : CellsOf board walk
    walk_cells = cells_of_plan board plan walk p one_pass

    at_place : (i n : ℕ) → slice_get t.nets i ≡ Some n → WalkedBy board walk n
    at_place i n e = (walk_at board walk is i n (sym (ap (λ (l : List ℕ). slice_get l i) walk_nets_are) ∙ e)).by

    cells_there : (i n : ℕ) → slice_get t.nets i ≡ Some n → slice_get t.cells i ≡ Some (cells_in pins walk n)
    cells_there i n e =
        ap (λ (l : List NetCells). slice_get l i) cells_all
        ∙ slice_get-map (cells_in pins walk) t.nets i
        ∙ ap (λ (o : Option ℕ). option_map (cells_in pins walk) o) e

    each : (i n : ℕ) (c : NetCells) → slice_get t.nets i ≡ Some n → slice_get t.cells i ≡ Some c → AreNetCells board walk n c
    each i n c e f =
        let two : Some (cells_in pins walk n) ≡ Some c = sym (cells_there i n e) ∙ f in
        let same : cells_in pins walk n ≡ c = cc two in
        subst (λ (x : NetCells). AreNetCells board walk n x) same (cells_are board rules pins q walk n (at_place i n e))

    count : length t.cells ≡ length t.nets
    count = ap (λ (l : List NetCells). length l) cells_all ∙ length-map t.nets (cells_in pins walk)

    bits : ℕ → Bool
    bits n = net_code_bit board plan.passes 0 n

    right : (c : NetCells) → Has t.cells c → (d : DriverCell) × IsDriverCell board walk d × (c.driver ≡ d.position)
    right c has =
        let at = has_place t.cells c has in
        let within : at.0 < length t.nets = omega (arith, slice_get_within t.cells at.0 c at.1, count) in
        let a = each at.0 (get_or t.nets at.0 0) c (slice_get-get_or t.nets at.0 0 within) at.1 in
        (a.driver, a.is_driver, a.driver_is)

    cover : (d : DriverCell) → IsDriverCell board walk d → (c : NetCells) × Has t.cells c × (c.driver ≡ d.position)
    cover d s =
        let place : ℕ = count_by (is_walked board walk) (take d.net board.nets) in
        let net = ap (λ (l : List ℕ). slice_get l place) walk_nets_are
        ∙ place_of_walk board walk is d.net
        (record { net = s.net; is_net = s.is_net; driver = d.place; observing = s.observing })
        in
        let c : NetCells = cells_in pins walk d.net in
        let a = each place d.net c net (cells_there place d.net net) in
        (c, has_at t.cells place c (cells_there place d.net net), a.driver_is ∙ (one_driver board walk a.driver d a.is_driver s a.of_net).1)

    tables_are : AreWalkTables board walk t
    tables_are = record {
      count = count;
      cells = each;
      still = rows_made.still some
          ∙ ap (λ (w : List Ctl). assigned (λ c. c.driver) (λ c. false) (tdi_of board (code_row board plan.passes w 0)) t.cells) first_is
          ∙ cleared_row board rules walk walk_cells (λ (c : NetCells). c.driver) t.cells
          (λ n. net_code_bit board plan.passes 0 n) right cover;
      mask = rows_made.mask some
          ∙ ap (λ (w : List Ctl). mask_of board (code_row board plan.passes w 0)) first_is
          ∙ mask_same board rules walk walk_cells (λ n. net_code_bit board plan.passes 0 n) (λ n. false);
    }

  pub walk_made : IsWalkOf board t
  walk_made = by_setting (walk_setting board) refl
    where
      by_setting : (o : Option (List Ctl)) → walk_setting board ≡ o → IsWalkOf board t
      by_setting None e = record {
        plan = plan_is;
        passes = passes_are;
        nets = nets ∙ ap (λ (o : Option (List Ctl)). nets_by pins o (length board.nets)) e ∙ sym (no_nets board e);
        tables = λ walk is. absurd (none-some walk (sym e ∙ is));
      }
      by_setting (Some walk) e = record {
        plan = plan_is;
        passes = passes_are;
        nets = walk_nets_are walk e;
        tables = λ other f.
            let two : Some walk ≡ Some other = sym e ∙ f in
            let same : walk ≡ other = cc two in
            subst (λ (w : List Ctl). AreWalkTables board w t) same (tables_are walk e);
      }

early_same : (board : RawBoard) (ts us : List RowScan) (k : ℕ) → k < 3
    → slice_get (board_scans board ts) k ≡ slice_get (board_scans board us) k
early_same board ts us zero less = refl
early_same board ts us (suc zero) less = refl
early_same board ts us (suc (suc zero)) less = refl
early_same board ts us (suc (suc (suc k))) less = absurd (omega (arith, less))

pub early_filled : (board : RawBoard) (passes : List (List Ctl)) (width k : ℕ) (shape : Shape)
    (tdi tdo mask : List Bool) → k < 3 → FillsScan board passes width k shape tdi tdo mask
    → FillsWalk board k shape tdi tdo mask
early_filled board passes width k shape tdi tdo mask less f = record {
  scan = early_same board (walk_row_list board) (row_scans (code_row board passes) width passes) k less ∙ f.scan;
  some = f.some;
  most = f.most;
  tdo_length = f.tdo_length;
  mask_length = f.mask_length;
  compare = f.compare;
  masked = f.masked;
}

module _ (board : RawBoard) (rules : IsBoard board) (t : WalkTables) (w : IsWalkOf board t) where
  module _ (walk : List Ctl) (is : walk_setting board ≡ Some walk) where
    abbrev tables : AreWalkTables board walk t
    tables = w.tables walk is

    cells : CellsOf board walk
    cells = cells_of_plan board t.plan walk w.plan (w.passes ∙ ap (λ (o : Option (List Ctl)). option_to_list o) is)

    net_at : (j n : ℕ) → slice_get t.nets j ≡ Some n → slice_get (walk_nets board) j ≡ Some n
    net_at j n e = sym (ap (λ (l : List ℕ). slice_get l j) w.nets) ∙ e

    abbrev marks : ℕ → ℕ → Bool
    marks j n = count_by (is_walked board walk) (take n board.nets) == j

    module _ (j n : ℕ) (e : slice_get t.nets j ≡ Some n) (c : NetCells) (f : slice_get t.cells j ≡ Some c) where
      a : AreNetCells board walk n c
      a = tables.cells j n c e f

      driver_marked : marks j a.driver.net ≡ true
      driver_marked =
          ap (λ (m : ℕ). marks j m) a.of_net
          ∙ eq-eqb (count_by (is_walked board walk) (take n board.nets)) j
          (walk_at board walk is j n (net_at j n e)).counted

      only_marked : (m : ℕ) → WalkedBy board walk m → marks j m ≡ true → m ≡ n
      only_marked m x on = Rattle.std.proofs.lemmas.Bool.eqb-true m n (sym (marked_is board walk is j n (net_at j n e) m x) ∙ on)

      pub shifted_row : set t.rows.still.bits c.driver true ≡ tdi_of board (walk_row board walk j)
      shifted_row =
          ap (λ (l : List Bool). set l c.driver true) tables.still
          ∙ ap (λ (i : ℕ). set (tdi_of board (still_row walk)) i true) a.driver_is
          ∙ marked_row board rules walk cells (marks j) a.driver a.is_driver driver_marked (λ m x on. only_marked m x on ∙ sym a.of_net)

      reader_in : (position : ℕ) → Has c.compared position
          → (get_or (tdo_of board (walk_row board walk j)) position false ≡ true)
          × (position < data_bits board)
      reader_in position has =
          let r = (a.compared position).0 (has_contains c.compared position has) in
          let observing : observing_driver board (holds walk) a.net ≡ Some a.driver.place =
          (let two : Some a.is_driver.net ≡ Some a.net = sym a.is_driver.is_net ∙ ap
          (λ (i : ℕ). slice_get board.nets i) a.of_net ∙ a.is_net in
          let same : a.is_driver.net ≡ a.net = cc two in
          sym (ap (λ (x : Net). observing_driver board (holds walk) x) same) ∙ a.is_driver.observing) in
          let at = laid_here board rules walk n a.net a.is_net a.driver.place observing r.0 r.1 r.2 (λ part device cell. false) in (
            ap (λ (i : ℕ). get_or (tdo_of board (walk_row board walk j)) i false) (sym r.3)
                ∙ tdo_here board rules walk n a.net a.is_net a.driver.place observing r.0 r.1 r.2 (marks j)
                ∙ eq-eqb (count_by (is_walked board walk) (take n board.nets)) j (walk_at board walk is j n (net_at j n e)).counted,
            omega (arith, at.0, r.3),
          )

      pub compared_row : assigned (λ (position : ℕ). position) (λ position. true)
          (replicate (data_bits board) false) c.compared ≡ tdo_of board (walk_row board walk j)
      compared_row =
          assigned_is (λ (position : ℕ). position) (λ position. true) c.compared
          (replicate (data_bits board) false) (tdo_of board (walk_row board walk j))
          (length-replicate (data_bits board) false ∙ sym long)
          (λ position has. let r = reader_in position has in (omega (arith, r.1, long), r.0))
          (λ i less. by_bit i less (get_or (tdo_of board (walk_row board walk j)) i false) refl)
        where
          long : length (tdo_of board (walk_row board walk j)) ≡ data_bits board
          long =
              ap (λ (l : List Bool). length l)
              (tdo_laid board (record { now = quiet_row; before = walk_row board walk j }))
              ∙ length-laid
              (λ part device cell. unwrap_or
              (Rattle.tap_defs.specs.board.TestRows.expect_bit board (walk_row board walk j)
              part device cell) false) board

          by_bit : (i : ℕ) → i < length (tdo_of board (walk_row board walk j)) → (b : Bool)
              → get_or (tdo_of board (walk_row board walk j)) i false ≡ b →
              (get_or (replicate (data_bits board) false) i false
              ≡ get_or (tdo_of board (walk_row board walk j)) i false)
              ⊎ ((position : ℕ) × Has c.compared position × (position ≡ i))
          by_bit i less false g = inl (get_or-replicate (data_bits board) i false false (omega (arith, less, long)) ∙ sym g)
          by_bit i less true g =
              let o = one_at board rules walk cells (marks j) i g in
              let x = o.0 in
              let same : x.driver.net
              ≡ n = only_marked x.driver.net
              (record {
                net = x.is_driver.net;
                is_net = x.is_driver.is_net;
                driver =
                    x.driver.place;
                observing = x.is_driver.observing;
              }) o.1 in
              let drivers = one_driver board walk x.driver a.driver x.is_driver a.is_driver (same ∙ sym a.of_net) in
              let two : Some x.is_driver.net
              ≡ Some a.net = sym x.is_driver.is_net
              ∙ ap (λ (k : ℕ). slice_get board.nets k) same ∙ a.is_net in
              let net : x.is_driver.net ≡ a.net = cc two in
              inr (
                i,
                contains_has c.compared i
                    ((a.compared i).1 (
                      x.reader,
                      subst (λ (k : Net). IsReaderCell board k x.reader) net x.is_reader,
                      sym (ap (λ (k : ℕ). x.reader.place == k) drivers.0) ∙ x.other,
                      x.position_is,
                    )),
                refl,
              )

      pub some_masked : list_any (λ bit. bit) (mask_of board (walk_row board walk j)) ≡ true
      some_masked =
          let first : ℕ = get_or c.compared 0 0 in
          let has : Has c.compared first = has_at c.compared 0 first (slice_get-get_or c.compared 0 0 a.some) in
          let r = reader_in first has in
          let bits : List ScanBit = joined (row_bits board (record { now = quiet_row; before = walk_row board walk j })) in
          let are : AreBitsOf bits (tdi_bits bits) (tdo_bits bits) (mask_bits bits) = record { tdi = refl; tdo = refl; mask = refl } in
          let masked : get_or (mask_of board (walk_row board walk j)) first false ≡ true = rows_masked are first r.0 in
          let long : length (mask_of board (walk_row board walk j))
          ≡ data_bits board = ap (λ (l : List Bool). length l)
          (mask_laid board (record { now = quiet_row; before = walk_row board walk j }))
          ∙ length-laid
          (λ part device cell. is_some
          (Rattle.tap_defs.specs.board.TestRows.expect_bit board (walk_row board walk j)
          part device cell)) board in
          any_at (λ (bit : Bool). bit) (mask_of board (walk_row board walk j)) first true
          (slice_get-get_or (mask_of board (walk_row board walk j)) first false
          (omega (arith, r.1, long)) ∙ ap (λ (b : Bool). Some b) masked) refl

    pub mask_row : (j : ℕ) → t.rows.mask.bits ≡ mask_of board (walk_row board walk j)
    mask_row j = tables.mask ∙ mask_same board rules walk cells (λ n. false) (marks j)

    pub length-still : length t.rows.still.bits ≡ data_bits board
    length-still = ap (λ (l : List Bool). length l) tables.still ∙ length-tdi board rules walk cells (still_row walk)

  pub setting_there : 0 < length t.plan.passes → (walk : List Ctl) × (walk_setting board ≡ Some walk)
  setting_there some = by_setting (walk_setting board) refl
    where
      by_setting : (o : Option (List Ctl)) → walk_setting board ≡ o → (walk : List Ctl) × (walk_setting board ≡ Some walk)
      by_setting None e =
          let none : length t.plan.passes
          ≡ 0 = ap (λ (l : List (List Ctl)). length l)
          (w.passes ∙ ap (λ (o : Option (List Ctl)). option_to_list o) e) in
          absurd (omega (arith, some, none))
      by_setting (Some walk) e = (walk, e)

  -- Scan `3 + j` of the walking test, counted from 0. The scan with `j = 0` is the first one after the EXTEST codes.
  abbrev scan_of : ℕ → RowScan
  scan_of j = record { now = now_of board (length t.nets) j; before = before_of board j }

  row_placed : 0 < length t.plan.passes → (j : ℕ) → j ≤ length t.nets
      → slice_get (walk_scans board) (3 + j) ≡ Some (scan_of_row board (scan_of j))
  row_placed some j le = by_setting (setting_there some).0 (setting_there some).1
    where
      three : 3 + j ≡ suc (suc (suc j))
      three = omega arith

      by_setting : (walk : List Ctl) → walk_setting board ≡ Some walk
          → slice_get (walk_scans board) (3 + j) ≡ Some (scan_of_row board (scan_of j))
      by_setting walk is =
          let rows : ℕ → TestRow = walk_row board walk in
          let m : ℕ = count_by (is_walked board walk) board.nets in
          let same_count : m ≡ length t.nets = sym (ap (λ (l : List ℕ). length l) w.nets ∙ count_is board walk is) in
          let within : j < length (pass_scans rows m 0 quiet_row) = omega (arith, length-pass_scans rows m 0 quiet_row, same_count, le) in
          let index : j ≡ 0 + j = omega arith in
          let width : m ≡ 0 + m = omega arith in
          ap (λ (i : ℕ). slice_get (walk_scans board) i) three
          ∙ ap (λ (o : Option (List Ctl)). slice_get (map (scan_of_row board) (scans_by board o)) j) is
          ∙ slice_get-map (scan_of_row board) (walk_row_scans board walk) j
          ∙ ap (λ (o : Option RowScan). option_map (scan_of_row board) o)
          (front_at (pass_scans rows m 0 quiet_row) [] j within
          ∙ pass_scan_at rows m m 0 j j quiet_row refl width index
          (omega (arith, same_count, le)))
          ∙ ap (λ (k : ℕ). Some (scan_of_row board (record { now = row_now rows k j; before = row_before rows j }))) same_count
          ∙ sym
          (ap
          (λ (o : Option (List Ctl)). Some
          (scan_of_row board
          (record {
            now = row_now (λ i. walk_row board (walk_controls o) i)
                (length t.nets) j;
            before = row_before
                (λ i. walk_row board (walk_controls o) i) j;
          }))) is)

  pub row_filled : 0 < length t.plan.passes → (j : ℕ) → j ≤ length t.nets
      → (shape : Shape) (tdi tdo mask : List Bool)
      → tdi ≡ tdi_of board (now_of board (length t.nets) j) → tdo ≡ tdo_of board (before_of board j)
      → mask ≡ mask_of board (before_of board j) →
      shape.ir ≡ false → shape.compare ≡ list_any (λ bit. bit) mask → FillsWalk board (3 + j) shape tdi tdo mask
  row_filled some j le shape tdi tdo mask is_tdi is_tdo is_mask is_ir compare =
      let scan : RowScan = scan_of j in
      let bits : List ScanBit = joined (row_bits board scan) in
      let s = row_sized board rules scan in
      let are : AreBitsOf bits tdi tdo mask = record {
        tdi = is_tdi ∙ tdi_laid board (record { now = scan.now; before = quiet_row }) ∙ sym (tdi_laid board scan);
        tdo = is_tdo ∙ tdo_laid board (record { now = quiet_row; before = scan.before }) ∙ sym (tdo_laid board scan);
        mask = is_mask ∙ mask_laid board (record { now = quiet_row; before = scan.before }) ∙ sym (mask_laid board scan);
      } in
      record {
        scan =
            row_placed some j le
            ∙ sym
            (ap (λ (b : Bool). Some (record { ir = b; bits = scan_bits tdi tdo mask })) is_ir
            ∙ ap (λ (l : List ScanBit). Some (record { ir = false; bits = l }))
            (rows_make are));
        some = omega (arith, s.some, shifted_length are);
        most = omega (arith, s.most, shifted_length are);
        tdo_length = expected_same are;
        mask_length = marks_same are;
        compare = compare;
        masked = rows_masked are;
      }

-- row `j`, in which the net at place `j` carries 1
module _ (board : RawBoard) (rules : IsBoard board) (t : WalkTables) (w : IsWalkOf board t)
    (some : 0 < length t.plan.passes) (j : ℕ) (less : j < length t.nets) (c : NetCells)
    (at : slice_get t.cells j ≡ Some c) where
  abbrev walk : List Ctl
  walk = (setting_there board rules t w some).0

  abbrev is : walk_setting board ≡ Some walk
  is = (setting_there board rules t w some).1

  net_is : slice_get t.nets j ≡ Some (get_or t.nets j 0)
  net_is = slice_get-get_or t.nets j 0 less

  row_of_walk : walk_row_of board j ≡ walk_row board walk j
  row_of_walk = ap (λ (o : Option (List Ctl)). walk_row board (walk_controls o) j) is

  row_shifted : set t.rows.still.bits c.driver true ≡ tdi_of board (now_of board (length t.nets) j)
  row_shifted =
      shifted_row board rules t w walk is j (get_or t.nets j 0) net_is c at
      ∙ sym
      (ap (λ (b : Bool). tdi_of board (cond b (walk_row_of board j) quiet_row))
      (lt-ltb j (length t.nets) less) ∙ ap (λ (r : TestRow). tdi_of board r) row_of_walk)

  driver_below : c.driver < length t.rows.still.bits
  driver_below =
      let a = (w.tables walk is).cells j (get_or t.nets j 0) c net_is at in
      let d = (driver_is_within a.driver a.is_driver) in
      omega (arith, d, a.driver_is, length-still board rules t w walk is)
    where
      driver_is_within : (d : DriverCell) → IsDriverCell board walk d → d.position < data_bits board
      driver_is_within d s = Rattle.walk_test.proofs.RowLemmas.driver_within board rules walk d s

  row_compared : assigned (λ (position : ℕ). position) (λ position. true)
      (replicate (data_bits board) false) c.compared ≡ tdo_of board (before_of board (suc j))
  row_compared =
      compared_row board rules t w walk is j (get_or t.nets j 0) net_is c at
      ∙ sym (ap (λ (r : TestRow). tdo_of board r) row_of_walk)

  row_masked : t.rows.mask.bits ≡ mask_of board (before_of board (suc j))
  row_masked = mask_row board rules t w walk is j ∙ sym (ap (λ (r : TestRow). mask_of board r) row_of_walk)

  pub row_has_one : list_any (λ bit. bit) (mask_of board (before_of board (suc j))) ≡ true
  row_has_one =
      ap (λ (r : TestRow). list_any (λ bit. bit) (mask_of board r)) row_of_walk
      ∙ some_masked board rules t w walk is j (get_or t.nets j 0) net_is c at

pub cells_count : (board : RawBoard) (rules : IsBoard board) (t : WalkTables) (w : IsWalkOf board t)
    → 0 < length t.plan.passes → length t.cells ≡ length t.nets
cells_count board rules t w some = let s = setting_there board rules t w some in (w.tables s.0 s.1).count

pub mask_length : (board : RawBoard) (rules : IsBoard board) (t : WalkTables) (w : IsWalkOf board t)
    → 0 < length t.plan.passes → length t.rows.mask.bits ≡ data_bits board
mask_length board rules t w some =
    let s = setting_there board rules t w some in
    ap (λ (l : List Bool). length l) ((w.tables s.0 s.1).mask ∙ mask_laid board (record { now = quiet_row; before = still_row s.0 }))
    ∙ length-laid
    (λ part device cell. is_some
    (Rattle.tap_defs.specs.board.TestRows.expect_bit board (still_row s.0) part device cell))
    board

pub still_length : (board : RawBoard) (rules : IsBoard board) (t : WalkTables)
    (w : IsWalkOf board t) → 0 < length t.plan.passes → length t.rows.still.bits ≡ data_bits board
still_length board rules t w some = let s = setting_there board rules t w some in length-still board rules t w s.0 s.1

pub first_tdo : (board : RawBoard) → replicate (data_bits board) false ≡ tdo_of board quiet_row
first_tdo board = quiet_tdo board (record { now = quiet_row; before = quiet_row }) refl

pub first_mask : (board : RawBoard) → replicate (data_bits board) false ≡ mask_of board quiet_row
first_mask board = quiet_mask board (record { now = quiet_row; before = quiet_row }) refl

pub compare_is : (board : RawBoard) (rules : IsBoard board) (t : WalkTables) (w : IsWalkOf board t)
    → 0 < length t.plan.passes → (j : ℕ) → j ≤ length t.nets → (mask : List Bool)
    → mask ≡ mask_of board (before_of board j) → nat_lt 0 j ≡ list_any (λ bit. bit) mask
compare_is board rules t w some zero le mask is =
    sym (ap (λ (l : List Bool). list_any (λ bit. bit) l) (is ∙ sym (first_mask board)) ∙ none_of_zeros (data_bits board))
compare_is board rules t w some (suc j) le mask is =
    let within : j < length t.cells = omega (arith, le, cells_count board rules t w some) in
    let c = item_there t.cells j within in
    let less : nat_lt 0 (suc j) ≡ true = lt-ltb 0 (suc j) (omega arith) in
    less ∙ sym (ap (λ (l : List Bool). list_any (λ bit. bit) l) is ∙ row_has_one board rules t w some j (omega (arith, le)) c.0 c.1)

pub past_codes : (t : WalkTables) (k : ℕ) → 3 ≤ k → k < Rattle.walk_test.specs.Tables.count_walk_scans t
    → (0 < length t.plan.passes) × (k ≤ 3 + length t.nets)
past_codes t k past less = by_passes t.plan.passes less
  where
    by_passes : (passes : List (List Ctl))
        → k < 3 + Rattle.walk_test.specs.Tables.rows_count passes t.nets
        → (0 < length passes) × (k ≤ 3 + length t.nets)
    by_passes [] h = absurd (omega (arith, past, h))
    by_passes (pass ∷ passes) h = (omega arith, omega (arith, h))

pub nets_few : (board : RawBoard) → length (walk_nets board) ≤ length board.nets
nets_few board = at_most (λ n. is_walk_net board (walk_setting board) (slice_get board.nets n)) 0 (length board.nets)
  where
    at_most : (p : ℕ → Bool) (a n : ℕ) → length (filter p (range_with_len a n)) ≤ n
    at_most p a zero = omega arith
    at_most p a (suc n) = by_test (p a) (at_most p (a + 1) n)
      where
        by_test : (b : Bool) → length (filter p (range_with_len (a + 1) n)) ≤ n
            → length
            (cond b (a ∷ filter p (range_with_len (a + 1) n))
            (filter p (range_with_len (a + 1) n))) ≤ suc n
        by_test true h = omega (arith, h)
        by_test false h = omega (arith, h)

-- The rows that scan j after the EXTEST codes shifts in and compares, if the walk has a pass. The first of these scans is scan 0. The rows
-- depend on whether the list of walk nets has an item j and an item j - 1.
module _ (board : RawBoard) (rules : IsBoard board) (t : WalkTables) (w : IsWalkOf board t) (some : 0 < length t.plan.passes) where
  net_there : (j : ℕ) (c : NetCells) → slice_get t.cells j ≡ Some c → j < length t.nets
  net_there j c at = omega (arith, slice_get_within t.cells j c at, cells_count board rules t w some)

  none_there : (j : ℕ) → slice_get t.cells j ≡ None → length t.nets ≤ j
  none_there j none = by_side (cases_lt j (length t.cells))
    where
      by_side : (j < length t.cells) ⊎ (length t.cells ≤ j) → length t.nets ≤ j
      by_side (inl less) = let c = item_there t.cells j less in absurd (none-some c.0 (sym none ∙ c.1))
      by_side (inr past) = omega (arith, past, cells_count board rules t w some)

  pub driver_there : (j : ℕ) (c : NetCells) → slice_get t.cells j ≡ Some c → c.driver < length t.rows.still.bits
  driver_there j c at = driver_below board rules t w some j (net_there j c at) c at

  pub net_shifted : (j : ℕ) (c : NetCells) → slice_get t.cells j ≡ Some c
      → set t.rows.still.bits c.driver true ≡ shifted_in (board_walk board t) j
  net_shifted j c at = row_shifted board rules t w some j (net_there j c at) c at

  pub quiet_shifted : (j : ℕ) → slice_get t.cells j ≡ None → tdi_of board quiet_row ≡ shifted_in (board_walk board t) j
  quiet_shifted j none =
      sym
      (ap (λ (b : Bool). tdi_of board (cond b (walk_row_of board j) quiet_row))
      (le-ltb j (length t.nets) (none_there j none)))

  pub net_expected : (j : ℕ) (c : NetCells) → cells_before t.cells j ≡ Some c
      → assigned (λ (position : ℕ). position) (λ position. true) (replicate (data_bits board) false)
      c.compared ≡ walk_expected (board_walk board t) j
  net_expected zero c at = cc at
  net_expected (suc j) c at = row_compared board rules t w some j (net_there j c at) c at

  pub net_compared : (j : ℕ) (c : NetCells) → cells_before t.cells j ≡ Some c → t.rows.mask.bits ≡ walk_mask (board_walk board t) j
  net_compared zero c at = cc at
  net_compared (suc j) c at = row_masked board rules t w some j (net_there j c at) c at

  pub nothing_expected : (j : ℕ) → j ≤ length t.nets → cells_before t.cells j ≡ None
      → replicate (data_bits board) false ≡ walk_expected (board_walk board t) j
  nothing_expected zero le none = first_tdo board
  nothing_expected (suc j) le none = absurd (omega (arith, le, none_there j none))

  pub nothing_compared : (j : ℕ) → j ≤ length t.nets → cells_before t.cells j ≡ None
      → replicate (data_bits board) false ≡ walk_mask (board_walk board t) j
  nothing_compared zero le none = first_mask board
  nothing_compared (suc j) le none = absurd (omega (arith, le, none_there j none))
