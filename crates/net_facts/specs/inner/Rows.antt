-- The table of controls while the code fills it.
use Rattle.std.specs.Prelude.{ℕ, zero, suc, ◌==◌, ◌-◌, length, Bool, true, false, not, ◌&&◌, List, [], ◌∷◌, ◌++◌, map, Option, Some, None, slice_get, cond, fold}
use Rattle.board_defs.specs.declared.board.Part.{Part}
use Rattle.board_defs.specs.declared.board.PinAt.{PinAt}
use Rattle.board_defs.specs.declared.board.RawBoard.{RawBoard}
use Rattle.board_defs.specs.declared.device.Control.{Control}
use Rattle.board_defs.specs.declared.board.Drive.{Drive}
use Rattle.board_defs.specs.declared.board.Drive.TheVariants.{AlwaysOn, OneSided, By}
use Rattle.board_defs.specs.Pins.{described, cell_count, is_pinned}
use Rattle.board_defs.specs.Decided.{own_control, is_switching, count_port_bits}
use Rattle.net_facts.specs.Cells.{at_control}
use Rattle.net_facts.specs.declared.facts.PinFacts.{PinFacts}
use Rattle.net_facts.specs.declared.facts.NetFacts.{NetFacts}
use Rattle.net_facts.specs.declared.classes.ControlClass.{ControlClass}
use Rattle.net_facts.specs.declared.classes.NetClass.{NetClass}

abbrev pub is_net_number : ℕ → Option ℕ → Bool
is_net_number n None = false
is_net_number n (Some x) = x == n

abbrev pub ends_with : List ℕ → ℕ → Bool
ends_with nets n = is_net_number n (slice_get nets (length nets - 1))

-- The control with one more driver, on net `n`. The control becomes unsafe if it already has a driver on net `n`, or if `closed` is true,
-- that is, no control may enable a driver of the net. Drivers are added in net order, so only the last net of the control can be `n`.
abbrev pub with_one_driver : ℕ → Bool → ControlClass → ControlClass
with_one_driver n closed row =
    cond (ends_with row.nets n) (record row { safe = false })
    (record row { nets = row.nets ++ n ∷ []; safe = row.safe && not closed })

-- the control, marked as unsafe because it enables a one-sided driver
abbrev pub unsafe_too : ControlClass → ControlClass
unsafe_too row = record row { safe = false }

-- the control, marked as useful because it enables a tested driver
abbrev pub useful_too : ControlClass → ControlClass
useful_too row = record row { useful = true }

-- The table with a driver on net `n` added at the driver's control. The table stays the same if there is no driver, or if the driver is
-- always on or one-sided.
abbrev pub note_drive : ℕ → Bool → Option Drive → List (List ControlClass) → List (List ControlClass)
note_drive n closed None rows = rows
note_drive n closed (Some AlwaysOn) rows = rows
note_drive n closed (Some OneSided) rows = rows
note_drive n closed (Some (By c)) rows = at_control c (with_one_driver n closed) rows

abbrev pub note_pins : ℕ → Bool → List (List ControlClass) → List PinFacts → List (List ControlClass)
note_pins n closed rows pins = fold (λ r pin. note_drive n closed pin.drive r) rows pins

abbrev pub note_net : ℕ → Option NetFacts → List (List ControlClass) → List (List ControlClass)
note_net n None rows = rows
note_net n (Some net) rows = note_pins n net.closed rows net.pins

-- the table with the drivers of the first `k` nets added
abbrev pub note_nets : List NetFacts → ℕ → List (List ControlClass) → List (List ControlClass)
note_nets nets zero rows = rows
note_nets nets (suc k) rows = note_net k (slice_get nets k) (note_nets nets k rows)

-- a control without drivers
abbrev pub fresh : ControlClass
fresh = record { nets = []; safe = true; useful = false }

-- `n` copies of an item
abbrev pub copies : {X : Type 0} → X → ℕ → List X
copies x zero = []
copies x (suc n) = copies x n ++ x ∷ []

abbrev pub fresh_rows : List Part → List (List ControlClass)
fresh_rows chain = map (λ part. copies fresh (cell_count (described part.kind))) chain

-- the table with the control of the driver at `at` marked as unsafe, if that driver is one-sided
abbrev pub block_where : RawBoard → PinAt → Option Control → List (List ControlClass) → List (List ControlClass)
block_where board at None rows = rows
block_where board at (Some control) rows =
    cond (is_pinned board at && not (is_switching board at control.disable))
    (at_control (record { part = at.part; cell = control.cell }) unsafe_too rows) rows

abbrev pub block_bit : RawBoard → PinAt → List (List ControlClass) → List (List ControlClass)
block_bit board at rows = block_where board at (own_control board at) rows

abbrev pub block_bits : RawBoard → ℕ → ℕ → List (List ControlClass) → List (List ControlClass)
block_bits board part zero rows = rows
block_bits board part (suc k) rows = block_bit board (record { part = part; bit = k }) (block_bits board part k rows)

abbrev pub block_parts : RawBoard → ℕ → List (List ControlClass) → List (List ControlClass)
block_parts board zero rows = rows
block_parts board (suc k) rows = block_bits board k (count_port_bits board k) (block_parts board k rows)

-- the table with the drivers of all nets added, and the controls of all one-sided drivers marked as unsafe
abbrev pub made_rows : RawBoard → List NetFacts → List (List ControlClass)
made_rows board nets = block_parts board (length board.chain) (note_nets nets (length nets) (fresh_rows board.chain))

-- the table with the control of a tested driver marked as useful
abbrev pub mark_drive : List (List ControlClass) → Drive → List (List ControlClass)
mark_drive rows AlwaysOn = rows
mark_drive rows OneSided = rows
mark_drive rows (By c) = at_control c useful_too rows

abbrev pub mark_nets : List (List ControlClass) → List NetClass → List (List ControlClass)
mark_nets rows nets = fold (λ r net. fold mark_drive r net.drivers) rows nets
