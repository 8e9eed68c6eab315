-- A fold over the driver cells of a pass is a fold over the always-on driver cells, and then, for each control of the pass in turn, over
-- the driver cells of this control.
use Rattle.std.proofs.Common.{◌≡◌, Bool, List, [], ◌++◌, fold, get_or, sym, ap, ◌∙◌}
use Rattle.std.specs.List.{flat_map}
use Rattle.std.proofs.lemmas.List.Folds.{flat_map-map}
use Rattle.std.proofs.lemmas.List.Sums.{fold-append}
use Rattle.board_defs.specs.declared.board.RawBoard.{RawBoard}
use Rattle.board_defs.specs.declared.board.Ctl.{Ctl}
use Rattle.plan_tables.specs.declared.tables.HeldCell.{HeldCell}
use Rattle.plan_tables.specs.declared.tables.DriverCell.{DriverCell}
use Rattle.plan_tables.specs.declared.controls.DriverTable.{DriverTable}
use Rattle.plan_tables.specs.Tables.{held_cell, pass_cells_of, controlled}
use Rattle.plan_tables.proofs.AssignLemmas.{fold_groups}

module _ (board : RawBoard) (quiet : List Bool) (table : DriverTable) (pass : List Ctl) where
  abbrev drivers : List DriverCell
  drivers = (pass_cells_of board quiet table pass).drivers

  pub fold_on : {S : Type 0} (step : S → DriverCell → S) (start : S)
      → fold (λ done c. fold step done (controlled board table.rows c))
      (fold step start table.always) pass ≡ fold step start drivers
  fold_on step start =
      fold_groups step (controlled board table.rows) pass (fold step start table.always)
      ∙ sym (fold-append step start table.always (flat_map (controlled board table.rows) pass))
      ∙ ap (λ (l : List DriverCell). fold step start (table.always ++ l))
      (sym
      (flat_map-map (λ (h : HeldCell). get_or table.rows h.position [])
      (held_cell board quiet) pass))
