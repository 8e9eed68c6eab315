-- Proofs that the tables that the code makes are a plan of the board.
use Rattle.std.proofs.Common.{◌≡◌, ℕ, zero, suc, ◌+◌, ◌^◌, ◌<◌, ◌≤◌, Bool, true, false, not, cond, List, [], ◌∷◌, length, map, take, drop, get_or, Option, Some, None, unwrap_or, refl, sym, ap, ◌∙◌, subst, arith, ◌⊎◌, inl, inr}
use Rattle.std.specs.Prelude.{slice_get, option_map, count_by}
use Rattle.std.proofs.lemmas.Bool.{cases_lt}
use Rattle.std.proofs.lemmas.List.{length-map}
use Rattle.std.proofs.Math.Seq.{take-length}
use Rattle.std.proofs.lemmas.List.Sums.{sum_by-cons, count_by-le-length, sum_by-take-drop, sum_by-drop_more}
use Rattle.std.proofs.lemmas.Option.{slice_get-map, get_or_from_slice_get, slice_get_within}
use Rattle.board_defs.specs.Limits.{most_nets, most_pins}
use Rattle.board_defs.specs.declared.device.RawDevice.{RawDevice}
use Rattle.board_defs.specs.declared.board.Net.{Net}
use Rattle.board_defs.specs.declared.board.RawBoard.{RawBoard}
use Rattle.board_defs.specs.declared.board.Ctl.{Ctl}
use Rattle.board_defs.specs.BoardRules.{IsBoard}
use Rattle.board_defs.specs.DeviceRules.{disable_of}
use Rattle.board_defs.specs.Pins.{device_at}
use Rattle.board_defs.specs.Settings.{holds}
use Rattle.board_defs.proofs.Members.{Has, has_contains, contains_has, has_map, map_has}
use Rattle.tap_defs.specs.board.Quiet.{safe_bit}
use Rattle.tap_defs.specs.chain.Codes.{instructs}
use Rattle.tap_defs.specs.board.TestRows.{is_observed, observed_count, code_width, row_bit, quiet_row}
use Rattle.tap_defs.specs.board.BoardScans.{first_row_scan, preload_code, extest_code}
use Rattle.tap_defs.proofs.board.WidthLemmas.{width_is}
use Rattle.plan_tables.specs.declared.codes.NetCodes.{NetCodes}
use Rattle.plan_tables.specs.declared.tables.HeldCell.{HeldCell}
use Rattle.net_pins.specs.declared.nets.ReaderCell.{ReaderCell}
use Rattle.net_pins.specs.NetCells.{readers_of, all_readers}
use Rattle.net_pins.specs.Tables.{AreNetTables}
use Rattle.tap_defs.specs.chain.ScanRows.{AreRowsOf}
use Rattle.plan_tables.specs.Tables.{first_position, AreFirsts, IsHeldCell, held_cell, pass_cells_of}
use Rattle.plan_tables.specs.declared.tables.DriverCell.{DriverCell}
use Rattle.plan_tables.specs.declared.controls.DriverTable.{DriverTable}
use Rattle.plan_tables.specs.declared.tables.PlanTables.{PlanTables}
use Rattle.plan_tables.specs.inner.Laid.{bits_of_parts, quiet_bits}
use Rattle.plan_tables.specs.inner.Codes.{AreCodes, seen_in}
use Rattle.plan_tables.specs.inner.Steady.{ArePassTables}
use Rattle.plan_tables.specs.Plans.{controls_driver_in, controls_some, ArePlannable, code_or_zero, IsPlanOf, most_rows}
use Rattle.plan_tables.proofs.LaidLemmas.{laid_at, laid_same, tdi_laid}
use Rattle.plan_tables.proofs.HeldLemmas.{quiet_steady, control_below}
use Rattle.plan_tables.proofs.TableLemmas.{reader_is, is_reader}
use Rattle.plan_tables.proofs.ReaderTableLemmas.{ReadersOf}
use Rattle.plan_tables.proofs.SeenLemmas.{length-seen_in}
use Rattle.plan_tables.proofs.ObserverLemmas.{holds_has, has_holds}

readers_at : (board : RawBoard) (n : ℕ) (net : Net) → slice_get board.nets n ≡ Some net
    → slice_get (all_readers board) n ≡ Some (readers_of board net.pins)
readers_at board n net e =
    slice_get-map (λ (x : Net). readers_of board x.pins) board.nets n
    ∙ ap (λ (o : Option Net). option_map (λ (x : Net). readers_of board x.pins) o) e

pub readers_are : (board : RawBoard) → ReadersOf board (all_readers board)
readers_are board n net e =
    let same : get_or (all_readers board) n [] ≡ readers_of board net.pins = get_or_from_slice_get
    (all_readers board) n (readers_of board net.pins) [] (readers_at board n net e) in (
      λ r h. reader_is board net r (subst (λ (l : List ReaderCell). Has l r) same h),
      λ r is. subst (λ (l : List ReaderCell). Has l r) (sym same) (is_reader board net r is),
    )

module _ (board : RawBoard) (rules : IsBoard board) where
  pub record Controlled (c : Ctl) : Type 0 where
    pub device : RawDevice
    pub is_device : device_at board c.part ≡ Some device
    pub quiet : quiet_bits board c.part device c.cell ≡ unwrap_or (disable_of device c.cell) false
    pub below : c.cell < device.boundary

  controlled : (c : Ctl) → controls_some board c ≡ true → Controlled c
  controlled c h = by_device (device_at board c.part) refl h
    where
      by_device : (o : Option RawDevice) → device_at board c.part ≡ o → controls_driver_in board c o ≡ true → Controlled c
      by_device None e h = cc h
      by_device (Some device) e h =
          let off : Bool = unwrap_or (disable_of device c.cell) false in
          record {
            device = device;
            is_device = e;
            quiet = ap (λ (b : Bool). cond b (cond false (not off) off) (unwrap_or (safe_bit device c.cell) false)) h;
            below = control_below board rules c device e h;
          }

  held_bit : (quiet : List Bool) → quiet ≡ bits_of_parts (quiet_bits board) board → (c : Ctl) (k : Controlled c) →
      not (get_or quiet (first_position board c.part + c.cell) false) ≡ not (unwrap_or (disable_of k.device c.cell) false)
  held_bit quiet q c k =
      ap (λ (l : List Bool). not (get_or l (first_position board c.part + c.cell) false)) q
      ∙ ap (λ (b : Bool). not b) ((laid_at (quiet_bits board) board c.part k.device c.cell k.is_device k.below).1 ∙ k.quiet)

  pub held_only : (quiet : List Bool) → quiet ≡ bits_of_parts (quiet_bits board) board
      → (pass : List Ctl) → ((c : Ctl) → holds pass c ≡ true → controls_some board c ≡ true) →
      (h : HeldCell) → Has (map (held_cell board quiet) pass) h → IsHeldCell board pass h
  held_only quiet q pass controls h has =
      let m = map_has (held_cell board quiet) pass h has in
      let on : holds pass (m.0) ≡ true = has_holds pass (m.0) m.1 in
      let k = controlled (m.0) (controls (m.0) on) in
      record {
        control = m.0;
        is_held = on;
        device = k.device;
        is_device = k.is_device;
        position_is = sym (ap (λ (x : HeldCell). x.position) m.2);
        bit_is = sym (ap (λ (x : HeldCell). x.bit) m.2) ∙ held_bit quiet q (m.0) k;
      }

  pub is_held_cell : (quiet : List Bool) → quiet ≡ bits_of_parts (quiet_bits board) board
      → (pass : List Ctl) → ((c : Ctl) → holds pass c ≡ true → controls_some board c ≡ true) →
      (h : HeldCell) → IsHeldCell board pass h → Has (map (held_cell board quiet) pass) h
  is_held_cell quiet q pass controls h s =
      subst (λ (x : HeldCell). Has (map (held_cell board quiet) pass) x) same
      (has_map (held_cell board quiet) pass s.control (holds_has pass s.control s.is_held))
    where
      k : Controlled s.control
      k = controlled s.control (controls s.control s.is_held)

      device : k.device ≡ s.device
      device = let two : Some k.device ≡ Some s.device = sym k.is_device ∙ s.is_device in cc two

      bit : not (get_or quiet (first_position board s.control.part + s.control.cell) false) ≡ h.bit
      bit = held_bit quiet q s.control k ∙ ap (λ (d : RawDevice). not (unwrap_or (disable_of d s.control.cell) false)) device ∙ sym s.bit_is

      same : held_cell board quiet s.control ≡ h
      same =
          ap (λ (b : Bool). let x : HeldCell = record { position = first_position board s.control.part + s.control.cell; bit = b } in x) bit
          ∙ ap (λ (m : ℕ). let x : HeldCell = record { position = m; bit = h.bit } in x) (sym s.position_is)

count_map : {X : Type 0} (p : X → Bool) (xs : List X) (n : ℕ) → count_by (λ b. b) (take n (map p xs)) ≡ count_by p (take n xs)
count_map p xs zero = refl
count_map p [] (suc n) = refl
count_map {X} p (x ∷ xs) (suc n) =
    sum_by-cons (λ (b : Bool). cond b 1 0) (p x) (take n (map p xs))
    ∙ ap (λ (c : ℕ). cond (p x) 1 0 + c) (count_map p xs n)
    ∙ sym (sum_by-cons (λ (y : X). cond (p y) 1 0) x (take n xs))

pub code_width_is : (n width : ℕ) → n + 2 ≤ 2 ^ width → ((less : ℕ) → less < width → 2 ^ less < n + 2) → width ≡ code_width n
code_width_is n width enough least = by_order (cases_lt width (code_width n)) (cases_lt (code_width n) width)
  where
    by_order : (width < code_width n) ⊎ (code_width n ≤ width) → (code_width n < width) ⊎ (width ≤ code_width n) → width ≡ code_width n
    by_order (inl less) r = absurd (omega (arith, (width_is n).least width less, enough))
    by_order (inr le) (inl less) = absurd (omega (arith, least (code_width n) less, (width_is n).enough))
    by_order (inr le) (inr ge) = omega (arith, le, ge)

pub width_most : (n width : ℕ) → n ≤ most_nets → ((less : ℕ) → less < width → 2 ^ less < n + 2) → width ≤ most_rows
width_most n width few least = by_order (cases_lt most_rows width)
  where
    by_order : (most_rows < width) ⊎ (width ≤ most_rows) → width ≤ most_rows
    by_order (inl more) = let h : most_nets + 2 < n + 2 = least most_rows more in absurd (omega (arith, h, few))
    by_order (inr most) = most

pub pins_most : (board : RawBoard) → IsBoard board → (k : ℕ) (d : Net) → k < length board.nets
    → length (get_or board.nets k d).pins ≤ most_pins
pins_most board rules k d less =
    let f : Net → ℕ = λ net. length net.pins in
    omega (arith, rules.pins_most, sum_by-take-drop f board.nets k, sum_by-drop_more f board.nets k d less)

pub is_plan : (board : RawBoard) → IsBoard board → (plan : PlanTables)
    → ArePlannable board plan.passes → plan.quiet.bits ≡ bits_of_parts (quiet_bits board) board →
    AreNetTables board plan.nets → AreFirsts board.chain plan.firsts
    → ArePassTables board plan.passes plan.steady
    (pass_cells_of board plan.quiet.bits plan.by_control) →
    (seen : List Bool)
    → seen ≡ seen_in board (length board.nets) plan.steady plan.by_control plan.passes
    → (codes : NetCodes) → AreCodes seen codes → plan.codes ≡ codes.codes →
    codes.count + 2 ≤ 2 ^ plan.width → ((less : ℕ) → less < plan.width → 2 ^ less < codes.count + 2) →
    AreRowsOf ((instructs (map (λ part. preload_code part.kind) board.chain)).bits) plan.preload →
    AreRowsOf ((instructs (map (λ part. extest_code part.kind) board.chain)).bits) plan.extest → IsPlanOf board plan
is_plan board rules plan plannable quiet nets_are firsts tables seen seen_is codes are_codes codes_are enough least preload extest =
    record {
      plannable = plannable;
      width_is = code_width_is codes.count plan.width enough least ∙ ap code_width (are_codes.count_is ∙ count_is);
      codes_are = code_is;
      nets_are = nets_are;
      codes_length =
          ap (λ (l : List ℕ). length l) codes_are ∙ are_codes.length_is
          ∙ ap (λ (l : List Bool). length l) seen_are
          ∙ length-map board.nets (is_observed board plan.passes);
      tables = record {
        preload = preload;
        extest = extest;
        quiet =
            quiet
            ∙ sym
            (tdi_laid board first_row_scan
            ∙ laid_same board (λ part device cell. row_bit board quiet_row part device cell)
            (quiet_bits board) (quiet_steady board));
        firsts = firsts;
        cells = λ x pass e. (pass_cells_of board plan.quiet.bits plan.by_control pass, refl, tables.each x pass e);
        readers = λ n net e. (
          readers_of board net.pins,
          ap (λ (l : List (List ReaderCell)). slice_get l n) nets_are.readers_are ∙ readers_at board n net e,
          λ r. (
            (λ h. reader_is board net r (contains_has (readers_of board net.pins) r h)),
            λ s. has_contains (readers_of board net.pins) r (is_reader board net r s),
          ),
        );
        readers_length =
            ap (λ (l : List (List ReaderCell)). length l) nets_are.readers_are
            ∙ length-map board.nets (λ (net : Net). readers_of board net.pins);
      };
    }
  where
    seen_are : seen ≡ map (is_observed board plan.passes) board.nets
    seen_are = seen_is ∙ Rattle.plan_tables.proofs.SeenLemmas.seen_are board plan.quiet.bits plan.passes plan.steady plan.by_control tables

    count_is : count_by (λ b. b) seen ≡ observed_count board plan.passes
    count_is =
        let p : Net → Bool = is_observed board plan.passes in
        let n : ℕ = length board.nets in
        let whole : take n (map p board.nets)
        ≡ map p board.nets = Rattle.std.proofs.Common.subst
        (λ (m : ℕ). take m (map p board.nets) ≡ map p board.nets) (length-map board.nets p)
        (take-length (map p board.nets)) in
        ap (λ (l : List Bool). count_by (λ b. b) l) (seen_are ∙ sym whole)
        ∙ count_map p board.nets n
        ∙ ap (λ (l : List Net). count_by p l) (take-length board.nets)

    code_is : (n : ℕ) (net : Net) → slice_get board.nets n ≡ Some net → get_or plan.codes n 0 ≡ code_or_zero board plan.passes n net
    code_is n net e =
        let p : Net → Bool = is_observed board plan.passes in
        let within : n
        < length seen = omega (
          arith,
          slice_get_within board.nets n net e,
          ap (λ (l : List Bool). length l) seen_are,
          length-map board.nets p,
        ) in
        let here : get_or seen n false ≡ p net = ap (λ (l : List Bool). get_or l n false) seen_are
        ∙ get_or_from_slice_get (map p board.nets) n (p net) false
        (slice_get-map p board.nets n ∙ ap (λ (o : Option Net). option_map p o) e) in
        let before : count_by (λ b. b) (take n seen)
        ≡ count_by p (take n board.nets) = ap (λ (l : List Bool). count_by (λ b. b) (take n l))
        seen_are ∙ count_map p board.nets n in
        ap (λ (l : List ℕ). get_or l n 0) codes_are ∙ are_codes.each n within
        ∙ ap (λ (b : Bool). cond b (suc (count_by (λ b. b) (take n seen))) 0) here
        ∙ ap (λ (k : ℕ). cond (p net) (suc k) 0) before

pub count_most : (board : RawBoard) → IsBoard board
    → (steady : List DriverCell) (table : DriverTable) (passes : List (List Ctl)) (codes : NetCodes)
    →
    AreCodes (seen_in board (length board.nets) steady table passes) codes → codes.count ≤ most_nets
count_most board rules steady table passes codes are =
    let seen : List Bool = seen_in board (length board.nets) steady table passes in
    omega (
      arith,
      are.count_is,
      count_by-le-length (λ b. b) seen,
      length-seen_in board (length board.nets) steady table passes,
      rules.nets_most,
    )
