-- Samples of the rows that all passes share, for a bus with two drivers and a receiver. The plan has one
-- steady driver, by which every pass observes the bus, or none. The expected values are worked out by hand.
use Rattle.std.proofs.Common.{◌≡◌, Bool, true, false, List, [], ◌∷◌, map, replicate, refl}
use Rattle.bt_bits.specs.Rows.{BitRow}
use Rattle.tap_defs.specs.declared.scan.StoredRows.{StoredRows}
use Rattle.plan_tables.specs.declared.tables.DriverCell.{DriverCell}
use Rattle.plan_tables.specs.declared.tables.PlanTables.{PlanTables}
use Rattle.plan_tables.specs.Assigned.{code_bit_of_driver}
use Rattle.scan_planner.specs.PassRows.{steady_compared, steady_shifted}

abbrev row : List Bool → BitRow
row bits = record { bits = bits; room = 5 }

abbrev no_rows : StoredRows
no_rows = record { tdi = row []; tdo = row []; mask = row [] }

-- the quiet row, in which the control cells of both drivers of the bus have the disable value 1
abbrev quiet : List Bool
quiet = false ∷ false ∷ true ∷ false ∷ true ∷ []

-- A plan with one net and these steady drivers. The net's code is 2. The net's compared cells are at position 3, on its first pin, and at
-- position 0, on its third pin.
abbrev plan : List DriverCell → PlanTables
plan steady = record {
  passes = [] ∷ [];
  width = 2;
  codes = 2 ∷ [];
  preload = no_rows;
  extest = no_rows;
  quiet = row quiet;
  steady = steady;
  firsts = 0 ∷ [];
  by_control = record { always = []; rows = [] };
  nets = record { drivers = [] ∷ []; readers = (record { place = 0; position = 3 } ∷ record { place = 2; position = 0 } ∷ []) ∷ [] };
}

abbrev enabled : List DriverCell
enabled = record { net = 0; place = 0; position = 3 } ∷ []

-- the driver's cell has bit 0 of the code in row 0, and bit 1 in row 1
shifted : map (steady_shifted (plan enabled)) (0 ∷ 1 ∷ [])
    ≡ (false ∷ false ∷ true ∷ false ∷ true ∷ []) ∷ (false ∷ false ∷ true ∷ true ∷ true ∷ []) ∷ []
shifted = refl

-- the bits of the code are expected at the cell on the other pin, but not at the cell on the driver's own pin
expected : map (λ j. steady_compared (plan enabled) (code_bit_of_driver (2 ∷ []) j)) (0 ∷ 1 ∷ [])
    ≡ replicate 5 false ∷ (true ∷ false ∷ false ∷ false ∷ false ∷ []) ∷ []
expected = refl

mask : steady_compared (plan enabled) (λ d. true) ≡ true ∷ false ∷ false ∷ false ∷ false ∷ []
mask = refl

-- if there is no steady driver, the row that all passes share is the quiet row, and nothing is compared
none_shifted : steady_shifted (plan []) 0 ≡ quiet
none_shifted = refl

none_compared : steady_compared (plan []) (λ d. true) ≡ replicate 5 false
none_compared = refl
