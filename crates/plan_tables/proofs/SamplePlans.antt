-- Samples of tables that are not those of a plan of a bus with two drivers and a receiver. The board has one net, and its data scans have
-- six bits.
use Rattle.std.proofs.Common.{◌≡◌, ℕ, List, [], ◌∷◌, length, refl, arith}
use Rattle.board_defs.specs.declared.board.Ctl.{Ctl}
use Rattle.board_defs.proofs.Samples.{bus}
use Rattle.plan_tables.specs.declared.tables.PlanTables.{PlanTables}
use Rattle.plan_tables.specs.Plans.{IsPlanOf}
use Rattle.plan_tables.specs.Tables.{PassCells}
use Rattle.plan_tables.specs.inner.Steady.{ArePassTables}

-- a plan has one code for each net, so no plan of this board has two codes
two_codes : (plan : PlanTables) → length plan.codes ≡ 2 → IsPlanOf bus plan → ⊥
two_codes plan two rules = let one = rules.codes_length in omega (arith, two, one)

-- the tables of these passes have one steady cell, which belongs to this net and has this position
abbrev HasSteady : ℕ → ℕ → List (List Ctl) → (List Ctl → PassCells) → Type 0
HasSteady net position passes cells = ArePassTables bus passes (record { net = net; place = 0; position = position } ∷ []) cells

-- there is no net 1
no_net : (passes : List (List Ctl)) (cells : List Ctl → PassCells) → HasSteady 1 3 passes cells → ⊥
no_net passes cells tables =
    let below = tables.nets (record { net = 1; place = 0; position = 3 }) (0, omega arith, refl) in omega (arith, below)

-- the last position is 5
no_position : (passes : List (List Ctl)) (cells : List Ctl → PassCells) → HasSteady 0 6 passes cells → ⊥
no_position passes cells tables =
    let below = tables.within (record { net = 0; place = 0; position = 6 }) (0, omega arith, refl) in omega (arith, below)
