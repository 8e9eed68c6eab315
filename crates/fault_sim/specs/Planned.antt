-- Models that pair a board with its plan, a log with its test, and a pass with its plan or its log.
use Rattle.std.specs.Prelude.{◌≡◌, ℕ, Bool, List, [], slice_index_or}
use Rattle.board_defs.specs.declared.board.Ctl.{Ctl}
use Rattle.board_defs.specs.Passes.{passes_of}
use Rattle.plan_tables.specs.declared.tables.PlanTables.{PlanTables}
use Rattle.scan_planner.specs.Plans.{IsPlanOf}
-- a board with its plan, and a pass of a board's plan, which is given by the number of the pass
pub use Rattle.scan_planner.specs.Planned.{PlannedBoard, planned_board, PlannedPass, planned_pass}

-- the plan is built from the board's passes
pub record IsPlanned (test : PlannedBoard) : Type 0 where
  pub plan : IsPlanOf test.board test.plan
  pub passes : test.plan.passes ≡ passes_of test.board

-- a plan with one of its passes, given by the controls that the pass holds
pub record PlanPass : Type 0 where
  pub plan : PlanTables
  pub pass : List Ctl

abbrev pub plan_pass : PlanTables → List Ctl → PlanPass
plan_pass plan pass = record { plan = plan; pass = pass }

-- a log with the board and the plan of its test
pub record LoggedBoard : Type 0 where
  pub test : PlannedBoard
  pub log : List (List Bool)

abbrev pub logged_board : PlannedBoard → List (List Bool) → LoggedBoard
logged_board test log = record { test = test; log = log }

-- the controls that the pass holds, or none if the plan has no pass with this number
abbrev pub controls_of : PlannedPass → List Ctl
controls_of pass = slice_index_or pass.test.plan.passes pass.number []

-- a pass of a log, given by the number of the pass
pub record PassOfLog : Type 0 where
  pub logged : LoggedBoard
  pub number : ℕ

abbrev pub pass_of_log : LoggedBoard → ℕ → PassOfLog
pass_of_log logged number = record { logged = logged; number = number }

-- the controls that the pass of the log holds, or none if the plan has no pass with this number
abbrev pub held_controls : PassOfLog → List Ctl
held_controls pass = slice_index_or pass.logged.test.plan.passes pass.number []

-- a net in a pass of a log
pub record NetInPass : Type 0 where
  pub pass : PassOfLog
  pub net : ℕ

abbrev pub net_in_pass : PassOfLog → ℕ → NetInPass
net_in_pass pass net = record { pass = pass; net = net }
