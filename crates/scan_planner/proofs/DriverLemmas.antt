-- Proof that the row of a pass can be made in two steps. The first step makes the row of the pass's setting in which no cell carries a
-- net's bit. The second step sets the cell of each driver by which the pass observes a net to the bit of that net.
use Rattle.std.proofs.Common.{◌≡◌, ℕ, ◌+◌, ◌==◌, Bool, true, false, List, Option, Some, None, unwrap_or, refl, sym, ap, ◌∙◌, subst, arith, ◌⊎◌, inl, inr}
use Rattle.std.specs.Prelude.{slice_get, option_and_then}
use Rattle.std.proofs.lemmas.Bool.{eq-eqb, eqb-true}
use Rattle.board_defs.specs.declared.device.Cell.{Cell}
use Rattle.board_defs.specs.declared.device.RawDevice.{RawDevice}
use Rattle.board_defs.specs.declared.board.PinAt.{PinAt}
use Rattle.board_defs.specs.declared.board.RawBoard.{RawBoard}
use Rattle.board_defs.specs.declared.board.Ctl.{Ctl}
use Rattle.board_defs.specs.BoardRules.{IsBoard}
use Rattle.board_defs.specs.Settings.{holds}
use Rattle.board_defs.proofs.Members.{Has}
use Rattle.tap_defs.specs.board.NetBits.{Place, place_of}
use Rattle.tap_defs.specs.board.TestRows.{TestRow, driving_cell, data_pin, data_place, data_observed, only_if, observing_driver, row_bit, steady_bit}
use Rattle.tap_defs.proofs.board.PassingLemmas.{stands_at}
use Rattle.plan_tables.specs.declared.tables.DriverCell.{DriverCell}
use Rattle.plan_tables.specs.Tables.{first_position, IsDriverCell}
use Rattle.plan_tables.specs.inner.Laid.{bits_of_parts, steady}
use Rattle.plan_tables.specs.Assigned.{assigned}
use Rattle.plan_tables.proofs.LaidLemmas.{CellOf, Sets, assigned_laid}
use Rattle.plan_tables.proofs.PinLemmas.{Standing, standing, wired_at, Drives, drives_by, entry_on, driving_cell_is, driving_entry_is}

-- a row of a pass in which the nets carry these bits
abbrev pub pass_row : List Ctl → (ℕ → Option Bool) → TestRow
pass_row pass carried = record { setting = holds pass; carried = carried }

-- the bit that a row has for a cell of a part
abbrev pub row_cells : RawBoard → TestRow → ℕ → RawDevice → ℕ → Bool
row_cells board row part device cell = row_bit board row part device cell

pub drivers_laid : (board : RawBoard) → IsBoard board → (pass : List Ctl) (carried : ℕ → Option Bool) (bit : DriverCell → Bool) →
    (cells : List DriverCell) → ((d : DriverCell) → Has cells d → IsDriverCell board pass d)
    → ((d : DriverCell) → IsDriverCell board pass d → Has cells d) →
    ((d : DriverCell) → Has cells d → carried d.net ≡ Some (bit d)) →
    assigned (λ d. d.position) bit (bits_of_parts (steady board (holds pass)) board) cells
    ≡ bits_of_parts (row_cells board (pass_row pass carried)) board
drivers_laid board rules pass carried bit cells only every carries =
    assigned_laid (λ d. d.position) bit cells board (steady board (holds pass)) (row_cells board row) right cover
  where
    row : TestRow
    row = pass_row pass carried

    right : (d : DriverCell) → Has cells d → Sets board (row_cells board row) d.position (bit d)
    right d has =
        let s = only d has in
        let at : PinAt = s.at in
        let t : Standing board d.net s.net d.place at = standing board rules d.net s.net d.place s.pin at s.is_net s.is_pin s.is_at in
        let drives : Drives t.device at.bit s.entry = drives_by t.device at.bit s.entry
        (sym (entry_on board at t.device t.is_device) ∙ s.is_entry) in
        record {
          part = at.part;
          device = t.device;
          cell = s.entry.num;
          is_cell = record { is_device = t.is_device; below = t.wired.num_below drives.index s.entry drives.stands };
          place_is = s.position_is;
          bit_is =
              ap
              (λ (o : Option Cell). unwrap_or
              (option_and_then (λ e. data_pin board row at.part e.bit) o)
              (steady_bit board (holds pass) at.part t.device s.entry.num))
              (driving_cell_is t.device t.wired at.bit s.entry drives)
              ∙ ap
              (λ (o : Option ℕ). unwrap_or (data_pin board row at.part o)
              (steady_bit board (holds pass) at.part t.device s.entry.num)) drives.bit_is
              ∙ ap
              (λ (o : Option Place). unwrap_or (data_place board row o)
              (steady_bit board (holds pass) at.part t.device s.entry.num)) t.is_place
              ∙ ap
              (λ (o : Option ℕ). unwrap_or (data_observed (carried d.net) d.place o)
              (steady_bit board (holds pass) at.part t.device s.entry.num)) s.observing
              ∙ ap
              (λ (b : Bool). unwrap_or (only_if b (carried d.net))
              (steady_bit board (holds pass) at.part t.device s.entry.num))
              (eq-eqb d.place d.place refl)
              ∙ ap (λ (o : Option Bool). unwrap_or o (steady_bit board (holds pass) at.part t.device s.entry.num)) (carries d has);
        }

    cover : (part : ℕ) (device : RawDevice) (cell : ℕ) → CellOf board part device cell →
        (steady board (holds pass) part device cell ≡ row_cells board row part device cell)
        ⊎ ((d : DriverCell) × Has cells d × (d.position ≡ first_position board part + cell))
    cover part device cell c = by_cell (driving_cell device cell) refl
      where
        off : Bool
        off = steady_bit board (holds pass) part device cell

        Covered : Option Bool → Type 0
        Covered o = (off ≡ unwrap_or o off) ⊎ ((d : DriverCell) × Has cells d × (d.position ≡ first_position board part + cell))

        by_test : (e : Cell) (b : ℕ) (p : Place) (driver : ℕ) → driving_cell device cell ≡ Some e
            → e.bit ≡ Some b → place_of (record { part = part; bit = b }) 0 board.nets ≡ Some p →
            observing_driver board (holds pass) p.net ≡ Some driver → (t : Bool)
            → (driver == p.place) ≡ t
            → (off ≡ unwrap_or (only_if t (carried p.number)) off)
            ⊎ ((d : DriverCell) × Has cells d
            × (d.position ≡ first_position board part + cell))
        by_test e b p driver ec eb ep eo false t = inl refl
        by_test e b p driver ec eb ep eo true t =
            let at : PinAt = record { part = part; bit = b } in
            let s = stands_at board at p 0 board.nets ep in
            let n : s.index ≡ p.number = omega (arith, s.number_is) in
            let same : driver ≡ p.place = eqb-true driver p.place t in
            let r = driving_entry_is device (wired_at board rules part device c.is_device) cell e b ec eb in
            let d : DriverCell = record { net = p.number; place = p.place; position = first_position board part + cell } in
            inr (
              d,
              every d (record {
                net = p.net;
                is_net = subst (λ (i : ℕ). slice_get board.nets i ≡ Some p.net) n s.net_is;
                observing = eo ∙ ap (λ (i : ℕ). Some i) same;
                pin = s.pin;
                is_pin = s.pin_is;
                at = at;
                is_at = s.at_is;
                entry = e;
                is_entry = entry_on board at device c.is_device ∙ r.0;
                position_is = ap (λ (i : ℕ). first_position board part + i) (sym r.1);
              }),
              refl,
            )

        by_driver : (e : Cell) (b : ℕ) (p : Place) → driving_cell device cell ≡ Some e
            → e.bit ≡ Some b → place_of (record { part = part; bit = b }) 0 board.nets ≡ Some p →
            (o : Option ℕ) → observing_driver board (holds pass) p.net ≡ o
            → (off ≡ unwrap_or (data_observed (carried p.number) p.place o) off)
            ⊎ ((d : DriverCell) × Has cells d
            × (d.position ≡ first_position board part + cell))
        by_driver e b p ec eb ep None eo = inl refl
        by_driver e b p ec eb ep (Some driver) eo = by_test e b p driver ec eb ep eo (driver == p.place) refl

        by_place : (e : Cell) (b : ℕ) → driving_cell device cell ≡ Some e → e.bit ≡ Some b
            → (o : Option Place) → place_of (record { part = part; bit = b }) 0 board.nets ≡ o →
            (off ≡ unwrap_or (data_place board row o) off)
            ⊎ ((d : DriverCell) × Has cells d × (d.position ≡ first_position board part + cell))
        by_place e b ec eb None ep = inl refl
        by_place e b ec eb (Some p) ep = by_driver e b p ec eb ep (observing_driver board (holds pass) p.net) refl

        by_bit : (e : Cell) → driving_cell device cell ≡ Some e → (o : Option ℕ) → e.bit ≡ o →
            (off ≡ unwrap_or (data_pin board row part o) off)
            ⊎ ((d : DriverCell) × Has cells d × (d.position ≡ first_position board part + cell))
        by_bit e ec None eb = inl refl
        by_bit e ec (Some b) eb = by_place e b ec eb (place_of (record { part = part; bit = b }) 0 board.nets) refl

        by_cell : (o : Option Cell) → driving_cell device cell ≡ o →
            (off ≡ unwrap_or (option_and_then (λ e. data_pin board row part e.bit) o) off)
            ⊎ ((d : DriverCell) × Has cells d × (d.position ≡ first_position board part + cell))
        by_cell None ec = inl refl
        by_cell (Some e) ec = by_bit e ec e.bit refl
