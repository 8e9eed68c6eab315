-- The cells of the passes' controls, and the driver cells that are the same in all passes. An observer is a driver by which its net can be
-- observed.
use Rattle.std.specs.Prelude.{◌≡◌, ℕ, suc, ◌<◌, ◌==◌, nat_lt, Bool, true, false, not, ◌&&◌, cond, List, [], length, map, filter, fold, replicate, Option, Some, None, slice_get, slice_index_or, slice_set, Contains}
use Rattle.board_defs.specs.declared.board.RawBoard.{RawBoard}
use Rattle.board_defs.specs.declared.board.Ctl.{Ctl}
use Rattle.board_defs.specs.Pins.{data_bits}
use Rattle.plan_tables.specs.declared.tables.HeldCell.{HeldCell}
use Rattle.plan_tables.specs.declared.tables.DriverCell.{DriverCell}
use Rattle.plan_tables.specs.declared.observers.Observer.{Observer}
use Rattle.plan_tables.specs.declared.uses.Uses.{Uses}
use Rattle.plan_tables.specs.Assigned.{assigned}
use Rattle.plan_tables.specs.Tables.{PassCells, held_cell, ArePassCells}

-- sets the flags at the positions of these cells
abbrev pub marked_held : List Bool → List HeldCell → List Bool
marked_held flags held = assigned (λ h. h.position) (λ h. true) flags held

-- The run of a position is the largest number `r` for which each of the first `r` passes has a control with its cell there. These are the
-- runs after pass `k`, which has such a control for this position. The run of the position grows by one if it is `k`, that is, if every
-- earlier pass has such a control.
abbrev pub run_at : ℕ → List ℕ → ℕ → List ℕ
run_at k runs position = cond (slice_index_or runs position 0 == k) (slice_set runs position (suc k)) runs

abbrev pub all_run : ℕ → List ℕ → List HeldCell → List ℕ
all_run k runs held = fold (λ done h. run_at k done h.position) runs held

-- one of these cells is at the position
abbrev pub HoldsAt : List HeldCell → ℕ → Type 0
HoldsAt held position = (h : HeldCell) × Contains held h × (h.position ≡ position)

-- the cells of the controls of each pass
abbrev pub held_by : RawBoard → List Bool → List (List Ctl) → List (List HeldCell)
held_by board quiet passes = map (λ pass. map (held_cell board quiet) pass) passes

-- sets the flags of the cells of every pass's controls
abbrev pub all_marked : RawBoard → List Bool → List Bool → List (List Ctl) → List Bool
all_marked board quiet flags passes = fold (λ done pass. marked_held done (map (held_cell board quiet) pass)) flags passes

-- if `runs` has `r` at a position, each of the first `r` passes has a control with its cell at that position
abbrev pub AreRuns : List (List HeldCell) → List ℕ → Type 0
AreRuns passes runs = (position x : ℕ) → x < slice_index_or runs position 0 → HoldsAt (slice_index_or passes x []) position

-- The flag of a position is set if and only if some pass has a control with its cell there. If the run of a position is `r`, each of the
-- first `r` passes has such a control.
pub record AreUses (board : RawBoard) (quiet : List Bool) (passes : List (List Ctl)) (uses : Uses) : Type 0 where
  pub flags : uses.held ≡ all_marked board quiet (replicate (length quiet) false) passes
  pub runs : AreRuns (held_by board quiet passes) uses.runs

-- There is no control, or the run of this position is `passes`. If there are `passes` passes, each of them then has a control with its cell
-- there.
abbrev pub is_common : Uses → ℕ → Option ℕ → Bool
is_common uses passes None = true
is_common uses passes (Some control) = slice_index_or uses.runs control 0 == passes

-- The observer is steady: `passes` is not 0, no pass has the observer's own cell as a control, and the observer has no control or the run
-- of its control's position is `passes`. If `passes` is the number of passes, every pass then enables the observer.
abbrev pub is_steady : Uses → ℕ → Observer → Bool
is_steady uses passes x = nat_lt 0 passes && (not (slice_index_or uses.held x.cell.position false) && is_common uses passes x.control)

abbrev pub steady_cells : Uses → ℕ → List Observer → List DriverCell
steady_cells uses passes observers = map (λ x. x.cell) (filter (is_steady uses passes) observers)

-- the observers that are not steady
abbrev pub moving : Uses → ℕ → List Observer → List Observer
moving uses passes observers = filter (λ x. not (is_steady uses passes x)) observers

-- For each pass, `cells` returns the cells of its controls and its driver cells that are not steady. Each steady cell belongs to a net of
-- the board and has a position in data scans. If there are no passes, no cell is steady.
pub record ArePassTables (board : RawBoard) (passes : List (List Ctl)) (steady : List DriverCell)
    (cells : List Ctl → PassCells) : Type 0 where
  pub each : (x : ℕ) (pass : List Ctl) → slice_get passes x ≡ Some pass → ArePassCells board steady pass (cells pass)
  pub some : (d : DriverCell) → Contains steady d → 0 < length passes
  pub nets : (d : DriverCell) → Contains steady d → d.net < length board.nets
  pub within : (d : DriverCell) → Contains steady d → d.position < data_bits board
