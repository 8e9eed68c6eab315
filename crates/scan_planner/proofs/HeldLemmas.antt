-- The quiet row disables every driver that has a control. Set the cell of each control of a pass in the quiet row to the bit that enables
-- the control's drivers. The result is the row of the pass in which no cell carries a net's bit.
use Rattle.std.proofs.Common.{◌≡◌, ℕ, ◌+◌, Bool, true, false, not, cond, List, unwrap_or, refl, sym, ap, ◌∙◌, ◌⊎◌, inl, inr}
use Rattle.std.specs.List.{list_any}
use Rattle.board_defs.specs.declared.device.RawDevice.{RawDevice}
use Rattle.board_defs.specs.declared.board.RawBoard.{RawBoard}
use Rattle.board_defs.specs.declared.board.Ctl.{Ctl}
use Rattle.board_defs.specs.BoardRules.{IsBoard}
use Rattle.board_defs.specs.DeviceRules.{disable_of}
use Rattle.board_defs.specs.Settings.{holds}
use Rattle.board_defs.proofs.Members.{Has}
use Rattle.tap_defs.specs.board.Quiet.{controls_driver, safe_bit}
use Rattle.plan_tables.specs.declared.tables.HeldCell.{HeldCell}
use Rattle.plan_tables.specs.Plans.{controls_some}
use Rattle.plan_tables.specs.Tables.{first_position, IsHeldCell}
use Rattle.plan_tables.specs.inner.Laid.{bits_of_parts, steady}
use Rattle.plan_tables.specs.Assigned.{assigned}
use Rattle.plan_tables.proofs.LaidLemmas.{CellOf, Sets, assigned_laid}
use Rattle.plan_tables.proofs.HeldLemmas.{controls_any, control_below}

pub held_laid : (board : RawBoard) → IsBoard board → (pass : List Ctl) → ((c : Ctl) → holds pass c ≡ true → controls_some board c ≡ true) →
    (cells : List HeldCell) → ((h : HeldCell) → Has cells h → IsHeldCell board pass h)
    → ((h : HeldCell) → IsHeldCell board pass h → Has cells h) →
    assigned (λ h. h.position) (λ h. h.bit) (bits_of_parts (steady board (λ c. false)) board) cells
    ≡ bits_of_parts (steady board (holds pass)) board
held_laid board rules pass controls cells only every =
    assigned_laid (λ h. h.position) (λ h. h.bit) cells board (steady board (λ c. false)) (steady board (holds pass)) right cover
  where
    right : (h : HeldCell) → Has cells h → Sets board (steady board (holds pass)) h.position h.bit
    right h has =
        let s = only h has in
        let any : list_any (controls_driver board s.control.part s.control.cell) s.device.cells ≡ true =
        controls_any board s.control s.device s.is_device (controls s.control s.is_held) in
        let off : Bool = unwrap_or (disable_of s.device s.control.cell) false in
        record {
          part = s.control.part;
          device = s.device;
          cell = s.control.cell;
          is_cell = record { is_device = s.is_device; below = control_below board rules s.control s.device s.is_device any };
          place_is = s.position_is;
          bit_is =
              ap
              (λ (b : Bool). cond b (cond (holds pass s.control) (not off) off)
              (unwrap_or (safe_bit s.device s.control.cell) false)) any
              ∙ ap (λ (b : Bool). cond b (not off) off) s.is_held
              ∙ sym s.bit_is;
        }

    cover : (part : ℕ) (device : RawDevice) (cell : ℕ) → CellOf board part device cell →
        (steady board (λ c. false) part device cell ≡ steady board (holds pass) part device cell)
        ⊎ ((h : HeldCell) × Has cells h × (h.position ≡ first_position board part + cell))
    cover part device cell c = by_test (holds pass (record { part = part; cell = cell })) refl
      where
        off : Bool
        off = unwrap_or (disable_of device cell) false

        by_test : (b : Bool) → holds pass (record { part = part; cell = cell }) ≡ b →
            (steady board (λ c. false) part device cell ≡ steady board (holds pass) part device cell)
            ⊎ ((h : HeldCell) × Has cells h × (h.position ≡ first_position board part + cell))
        by_test true e =
            let h : HeldCell = record { position = first_position board part + cell; bit = not off } in
            inr (
              h,
              every h
                  (record {
                    control = record { part = part; cell = cell };
                    is_held = e;
                    device =
                        device;
                    is_device = c.is_device;
                    position_is = refl;
                    bit_is = refl;
                  }),
              refl,
            )
        by_test false e =
            inl
            (ap
            (λ (b : Bool). cond (list_any (controls_driver board part cell) device.cells)
            (cond b (not off) off) (unwrap_or (safe_bit device cell) false)) (sym e))
