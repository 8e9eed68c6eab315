-- Rows that are made by setting one bit after another.
use Rattle.std.specs.Prelude.{ℕ, ◌==◌, Bool, cond, List, [], fold, slice_index_or, slice_set}
use Rattle.tap_defs.specs.board.TestRows.{code_bit}
use Rattle.plan_tables.specs.declared.tables.DriverCell.{DriverCell}
use Rattle.net_pins.specs.declared.nets.ReaderCell.{ReaderCell}

-- the bits `start`, after each item `x` in turn has set the bit at `place x` to `bit x`
abbrev pub assigned : {X : Type 0} → (X → ℕ) → (X → Bool) → List Bool → List X → List Bool
assigned place bit start xs = fold (λ bits x. slice_set bits (place x) (bit x)) start xs

-- bit `j` of the code of the driver's net
abbrev pub code_bit_of_driver : List ℕ → ℕ → DriverCell → Bool
code_bit_of_driver codes j d = code_bit (slice_index_or codes d.net 0) j

-- writes `bit` at each of these cells, except the cells that read the pin at `place`, which is the driver's pin
abbrev pub set_readers : ℕ → Bool → List Bool → List ReaderCell → List Bool
set_readers place bit bits readers = fold (λ done r. cond (r.place == place) done (slice_set done r.position bit)) bits readers

-- for each driver in turn, writes the driver's bit at each cell that reads the driver's net on another pin
abbrev pub set_compared : (DriverCell → Bool) → List (List ReaderCell) → List Bool → List DriverCell → List Bool
set_compared bit readers bits drivers = fold (λ done d. set_readers d.place (bit d) done (slice_index_or readers d.net [])) bits drivers
