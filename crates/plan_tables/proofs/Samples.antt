-- Samples of the rows of a bus with two drivers and a receiver, of codes, and of the cells of controls. The expected values are worked out
-- by hand.
use Rattle.std.proofs.Common.{◌≡◌, ℕ, zero, suc, ◌<◌, Bool, true, false, List, [], ◌∷◌, map, take, replicate, Option, Some, None, refl, arith}
use Rattle.std.specs.Prelude.{cond, count_by, slice_index_or, slice_set}
use Rattle.std.specs.List.{list_any}
use Rattle.plan_tables.specs.declared.tables.DriverCell.{DriverCell}
use Rattle.net_pins.specs.declared.nets.ReaderCell.{ReaderCell}
use Rattle.plan_tables.specs.declared.observers.Observer.{Observer}
use Rattle.plan_tables.specs.declared.uses.Uses.{Uses}
use Rattle.plan_tables.specs.Assigned.{assigned, code_bit_of_driver, set_compared}
use Rattle.plan_tables.specs.inner.Building.{table_of}
use Rattle.plan_tables.specs.inner.Codes.{AreCodes}
use Rattle.plan_tables.specs.inner.Steady.{steady_cells, moving}

-- the quiet row, in which the control cells of both drivers of the bus have the disable value 1
abbrev quiet : List Bool
quiet = false ∷ false ∷ true ∷ false ∷ true ∷ []

-- the cell of a driver that a pass enables with a 0 at position 4
abbrev enabled : DriverCell
enabled = record { net = 0; place = 0; position = 3 }

-- the cell that reads the driver's own pin, and the cell that reads another pin
abbrev readers : List ReaderCell
readers = record { place = 0; position = 3 } ∷ record { place = 2; position = 0 } ∷ []

-- the cell of the enabled driver has the bit of the code
driven : assigned (λ d. d.position) (code_bit_of_driver (1 ∷ []) 0) (slice_set quiet 4 false)
    (enabled ∷ []) ≡ false ∷ false ∷ true ∷ true ∷ false ∷ []
driven = refl

-- The bits that `set_compared` sets for the enabled driver. These are the expected bits or the mask. The cell that reads the driver's own
-- pin keeps its 0, since it is not compared.
abbrev compared : (DriverCell → Bool) → List Bool
compared bit = set_compared bit (readers ∷ []) (replicate 5 false) (enabled ∷ [])

expected : compared (code_bit_of_driver (1 ∷ []) 0) ≡ true ∷ false ∷ false ∷ false ∷ false ∷ []
expected = refl

mask : compared (λ d. true) ≡ true ∷ false ∷ false ∷ false ∷ false ∷ []
mask = refl

have_one : map (list_any (λ bit. bit)) (replicate 5 false ∷ compared (λ d. true) ∷ []) ≡ false ∷ true ∷ []
have_one = refl

-- the flags of five nets: some pass observes nets 0, 2 and 3, and no pass observes nets 1 and 4
abbrev seen : List Bool
seen = true ∷ false ∷ true ∷ true ∷ false ∷ []

codes : AreCodes seen (record { codes = 1 ∷ 0 ∷ 2 ∷ 3 ∷ 0 ∷ []; count = 3 })
codes = record {
  count_is = refl;
  length_is = refl;
  each = each;
}
  where
    each : (n : ℕ) → n < 5
        → slice_index_or (1 ∷ 0 ∷ 2 ∷ 3 ∷ 0 ∷ []) n 0
        ≡ cond (slice_index_or seen n false) (suc (count_by (λ b. b) (take n seen))) 0
    each zero less = refl
    each (suc zero) less = refl
    each (suc (suc zero)) less = refl
    each (suc (suc (suc zero))) less = refl
    each (suc (suc (suc (suc zero)))) less = refl
    each (suc (suc (suc (suc (suc n))))) less = absurd (omega (arith, less))

-- A driver by which net number `net` can be observed (an observer). `control` is the position of its control, if it has one. The position
-- of the driver's own cell is the number of the net.
abbrev driver : ℕ → Option ℕ → Observer
driver net control = record { control = control; cell = record { net = net; place = 0; position = net } }

abbrev cell : ℕ → DriverCell
cell net = record { net = net; place = 0; position = net }

-- the row of each control has the cells of its drivers
table : table_of (driver 0 (Some 4) ∷ driver 1 None ∷ driver 2 (Some 5) ∷ driver 3 (Some 4) ∷ []) 6
    ≡ record { always = cell 1 ∷ []; rows = [] ∷ [] ∷ [] ∷ [] ∷ (cell 0 ∷ cell 3 ∷ []) ∷ (cell 2 ∷ []) ∷ [] }
table = refl

-- Each of two passes has a control with its cell at position 4. Only pass 0 has one at position 1, and only pass 1 has one at position 5.
-- The cell of driver 1 is at position 1 too.
abbrev uses : Uses
uses = record { held = false ∷ true ∷ false ∷ false ∷ true ∷ true ∷ []; runs = 0 ∷ 1 ∷ 0 ∷ 0 ∷ 2 ∷ 0 ∷ [] }

abbrev drivers : List Observer
drivers = driver 0 (Some 4) ∷ driver 1 (Some 4) ∷ driver 2 (Some 5) ∷ driver 3 None ∷ []

-- The drivers that both passes enable are steady, except the driver with its cell at position 1. This cell is a control of pass 0.
steady : steady_cells uses 2 drivers ≡ cell 0 ∷ cell 3 ∷ []
steady = refl

others : moving uses 2 drivers ≡ driver 1 (Some 4) ∷ driver 2 (Some 5) ∷ []
others = refl
