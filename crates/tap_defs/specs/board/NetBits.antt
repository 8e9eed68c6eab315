-- The bits of a board's nets at one moment, under any faults, and the bits that the boundary cells capture at that
-- moment.
use Rattle.std.specs.Prelude.{ℕ, suc, ◌==◌, Bool, true, false, cond, not, ◌&&◌, List, [], ◌∷◌, Option, Some, None, slice_get, unwrap_or, option_and_then, option_map}
use Rattle.std.specs.List.{list_any, list_all, filter_map}
use Rattle.board_defs.specs.declared.device.Control.{Control}
use Rattle.board_defs.specs.declared.device.Cell.{Cell}
use Rattle.board_defs.specs.declared.board.PartKind.{PartKind}
use Rattle.board_defs.specs.declared.board.PartKind.TheVariants.{Described, Bypass as WithoutDescription}
use Rattle.board_defs.specs.declared.board.PinAt.{PinAt}
use Rattle.board_defs.specs.declared.board.NetPin.{NetPin}
use Rattle.board_defs.specs.declared.board.Net.{Net}
use Rattle.board_defs.specs.declared.board.RawBoard.{RawBoard}
use Rattle.board_defs.specs.DeviceRules.{is_receiving, reading_entry}
use Rattle.board_defs.specs.Pins.{entry_at, guarded, receives_where, is_same}
use Rattle.board_defs.specs.Decided.{is_at}
use Rattle.tap_defs.specs.chain.TestLogic.{Instruction, Extest, Sample, Bypass, Idcode, Other}
use Rattle.tap_defs.specs.chain.Part.{PinState, FreeBits}
use Rattle.tap_defs.specs.chain.ShiftRegister.{filled}
use Rattle.tap_defs.specs.board.FaultSet.{ShortKind, And, Or, Dominant, FaultSet}

-- true if the instruction is Extest
abbrev pub is_extest : Instruction → Bool
is_extest Extest = true
is_extest Sample = false
is_extest Bypass = false
is_extest Idcode = false
is_extest Other = false

-- true if the part has the instruction Extest
abbrev pub in_extest : List PinState → ℕ → Bool
in_extest states part = unwrap_or (option_map (λ state. is_extest state.current) (slice_get states part)) false

-- the update latch of a cell, or 0 if there is no such cell
abbrev pub latch : List PinState → ℕ → ℕ → Bool
latch states part cell = unwrap_or (option_and_then (λ state. slice_get state.latches cell) (slice_get states part)) false

-- A driver is on if it has no control, or if the latch of its control cell differs from the disable value.
abbrev pub is_on_by : List PinState → ℕ → Option Control → Bool
is_on_by states part None = true
is_on_by states part (Some control) = not (is_same (latch states part control.cell) control.disable)

-- A driver is live if its part has the instruction Extest and the driver is on. The driver is given by its driving
-- entry.
abbrev pub live_entry : List PinState → ℕ → Option Cell → Bool
live_entry states part None = false
live_entry states part (Some cell) = in_extest states part && is_on_by states part cell.ctl

-- True if the pin at this port bit is a live driver. In the model, a pin of a part without a description is not a
-- driver.
abbrev pub live_where : RawBoard → List PinState → Option PinAt → Bool
live_where board states None = false
live_where board states (Some at) = live_entry states at.part (entry_at board at)

-- true if the pin is a live driver
abbrev pub live : RawBoard → List PinState → NetPin → Bool
live board states pin = live_where board states pin.at

-- the bit of a driver: the update latch of its driving cell, or 0 if the pin has no driving cell
abbrev pub driver_bit : RawBoard → List PinState → Option PinAt → Bool
driver_bit board states None = false
driver_bit board states (Some at) = unwrap_or (option_map (λ cell. latch states at.part cell.num) (entry_at board at)) false

-- true if the part of the pin has the instruction Extest or is not described
abbrev pub extest_where : List PinState → Option PinAt → Bool
extest_where states None = true
extest_where states (Some at) = in_extest states at.part

-- A net is ruled if the model says what drives it: the net is not guarded, and every described part with a
-- pin on it has the instruction Extest. A net is guarded if it carries a supply, or has a pin of a test
-- access port, a pin that compliance patterns name, or a dark pin.
abbrev pub ruled : RawBoard → List PinState → Net → Bool
ruled board states net = not (guarded board net) && list_all (λ pin. extest_where states pin.at) net.pins

-- The feeding of a net says what drives it: unknown, because the net is not ruled; no driver; one live
-- driver, with its place (its index among the pins of the net) and its bit; or several live drivers.
pub data Feeding : Type 0 where
  Unruled : Feeding
  Undriven : Feeding
  Driven : ℕ → Bool → Feeding
  Contended : Feeding

-- the feeding of a net after one more pin is taken into account; a pin that is not live changes nothing
abbrev pub with_pin : Bool → ℕ → Bool → Feeding → Feeding
with_pin false place bit feeding = feeding
with_pin true place bit Undriven = Driven place bit
with_pin true place bit Unruled = Unruled
with_pin true place bit (Driven other value) = Contended
with_pin true place bit Contended = Contended

-- the feeding of a ruled net with these pins, the first of which has index `place` in the net
abbrev pub feeding_from : RawBoard → List PinState → ℕ → List NetPin → Feeding
feeding_from board states place [] = Undriven
feeding_from board states place (pin ∷ pins) =
    with_pin (live board states pin) place (driver_bit board states pin.at)
    (feeding_from board states (suc place) pins)

-- the feeding of the net
abbrev pub feeding : RawBoard → List PinState → Net → Feeding
feeding board states net = cond (ruled board states net) (feeding_from board states 0 net.pins) Unruled

-- the bit of a driver, or None if its pin is open
abbrev pub fed_unless : Option Bool → Bool → Option Bool
fed_unless None bit = Some bit
fed_unless (Some constant) bit = None

-- the bit that a net is fed: the bit of its only live driver, if the pin of this driver is not open
abbrev pub fed : FaultSet → ℕ → Feeding → Option Bool
fed faults n Unruled = None
fed faults n Undriven = None
fed faults n (Driven place bit) = fed_unless (faults.opened n place) bit
fed faults n Contended = None

-- the pull if the only live driver is open, otherwise None
abbrev pub held_if : Option Bool → Option Bool → Option Bool
held_if None pull = None
held_if (Some constant) pull = pull

-- the pull that holds the net; it holds a ruled net that has no live driver, or whose only live driver is open
abbrev pub held : FaultSet → ℕ → Option Bool → Feeding → Option Bool
held faults n pull Unruled = None
held faults n pull Undriven = pull
held faults n pull (Driven place bit) = held_if (faults.opened n place) pull
held faults n pull Contended = None

-- the constant of the net's only live driver, if this driver is open
abbrev pub cut : FaultSet → ℕ → Feeding → Option Bool
cut faults n Unruled = None
cut faults n Undriven = None
cut faults n (Driven place bit) = faults.opened n place
cut faults n Contended = None

-- the first bit if there is one, otherwise the second
abbrev pub bit_or_else : Option Bool → Option Bool → Option Bool
bit_or_else None second = second
bit_or_else (Some first) second = Some first

-- The bit of a net that is neither stuck nor shorted: the bit that it is fed, else the pull that holds it, else the constant of its open
-- driver.
abbrev pub unshorted_bit : FaultSet → ℕ → Option Bool → Feeding → Option Bool
unshorted_bit faults n pull feeding = bit_or_else (fed faults n feeding) (bit_or_else (held faults n pull feeding) (cut faults n feeding))

-- a value that belongs to a net, together with the net's number
abbrev pub OfNet : Type 0 → Type 0
OfNet A = ℕ × A

-- the And of the bits of some nets
abbrev pub all_bits : List (OfNet Bool) → Bool
all_bits bits = list_all (λ bit. bit.1) bits

-- the bit of net `d` in the list, or None if the list has no bit of this net
abbrev pub bit_at_net : ℕ → List (OfNet Bool) → Option Bool
bit_at_net d [] = None
bit_at_net d (bit ∷ bits) = cond (bit.0 == d) (Some bit.1) (bit_at_net d bits)

-- The combined bit of some nets, according to the kind of their short. If the dominant net is not among them, the
-- result is the And of their bits.
abbrev pub combined : ShortKind → List (OfNet Bool) → Bool
combined And bits = all_bits bits
combined Or bits = list_any (λ bit. bit.1) bits
combined (Dominant d) bits = unwrap_or (bit_at_net d bits) (all_bits bits)

-- true if the net is in short `k`
abbrev pub is_in_short : Option ℕ → ℕ → Bool
is_in_short None k = false
is_in_short (Some j) k = j == k

-- the nets of short `k` among these nets, the first of which has number `n`
abbrev pub shorted_nets : FaultSet → ℕ → ℕ → List Net → List (OfNet Net)
shorted_nets faults k n [] = []
shorted_nets faults k n (net ∷ nets) =
    cond (is_in_short (faults.short n) k) ((n, net) ∷ shorted_nets faults k (suc n) nets) (shorted_nets faults k (suc n) nets)

-- true if the net is ruled and has at most one live driver
abbrev pub is_decided : Feeding → Bool
is_decided Unruled = false
is_decided Undriven = true
is_decided (Driven place bit) = true
is_decided Contended = false

-- the value with the number of its net, if there is a value
abbrev pub numbered_value : {A : Type 0} → ℕ → Option A → Option (ℕ × A)
numbered_value n None = None
numbered_value n (Some a) = Some (n, a)

-- the bits of the fed nets among these nets
abbrev pub bits_fed : RawBoard → FaultSet → List PinState → List (OfNet Net) → List (OfNet Bool)
bits_fed board faults states nets = filter_map (λ net. numbered_value net.0 (fed faults net.0 (feeding board states net.1))) nets

-- the pulls of the held nets among these nets
abbrev pub bits_held : RawBoard → FaultSet → List PinState → List (OfNet Net) → List (OfNet Bool)
bits_held board faults states nets =
    filter_map
    (λ net. numbered_value net.0 (held faults net.0 net.1.pull (feeding board states net.1))) nets

-- the combined bits of the nets that are fed; if there are none, the combined pulls of the nets that are held; if there
-- are none either, a free bit
abbrev pub first_combined : ShortKind → List (OfNet Bool) → List (OfNet Bool) → Bool → Bool
first_combined kind [] [] free = free
first_combined kind [] (pull ∷ pulls) free = combined kind (pull ∷ pulls)
first_combined kind (bit ∷ bits) pulls free = combined kind (bit ∷ bits)

-- The bit of short `k`. It is free if one of its nets is not ruled or has several live drivers, or if none of its nets
-- is fed or held.
abbrev pub short_bit : RawBoard → FaultSet → List PinState → Bool → ℕ → Bool
short_bit board faults states free k =
    let nets : List (OfNet Net) = shorted_nets faults k 0 board.nets in
    cond (list_all (λ net. is_decided (feeding board states net.1)) nets)
    (first_combined (faults.kind k) (bits_fed board faults states nets) (bits_held board faults states nets) free)
    free

-- the bit of a net that is stuck at `constant`, or in short `k`, or neither; a stuck net has its constant even if it is
-- in a short
abbrev pub net_bit_by : RawBoard → FaultSet → List PinState → (ℕ → Bool) → ℕ → Net → Option Bool → Option ℕ → Option Bool
net_bit_by board faults states shorts n net (Some constant) short = Some constant
net_bit_by board faults states shorts n net None (Some k) = Some (short_bit board faults states (shorts k) k)
net_bit_by board faults states shorts n net None None = unshorted_bit faults n net.pull (feeding board states net)

-- The bit of net `n`: its constant if it is stuck, else the bit of its short if it is in one, else the bit that its driver
-- and its pull give. None means that each cell that reads the net captures a free bit. `shorts k` is the bit of short
-- `k` if nothing decides that bit.
abbrev pub net_bit : RawBoard → FaultSet → List PinState → (ℕ → Bool) → ℕ → Net → Option Bool
net_bit board faults states shorts n net = net_bit_by board faults states shorts n net (faults.stuck n) (faults.short n)

-- the place of a pin among these pins, the first of which has place `place`; None if the pin is not among them
abbrev pub place_in : PinAt → ℕ → List NetPin → Option ℕ
place_in at place [] = None
place_in at place (pin ∷ pins) = cond (is_at at pin.at) (Some place) (place_in at (suc place) pins)

-- The place of a pin in the nets: the number of its net, the net, and the pin's position in the net.
pub record Place : Type 0 where
  pub number : ℕ
  pub net : Net
  pub place : ℕ

-- the given place in net `n` if there is one, otherwise `next`
abbrev pub or_next : ℕ → Net → Option ℕ → Option Place → Option Place
or_next n net None next = next
or_next n net (Some place) next = Some (record { number = n; net = net; place = place })

-- the place of a pin in these nets, the first of which has number `n`; None if the pin is in none of them
abbrev pub place_of : PinAt → ℕ → List Net → Option Place
place_of at n [] = None
place_of at n (net ∷ nets) = or_next n net (place_in at 0 net.pins) (place_of at (suc n) nets)

-- the bit that a cell captures from the pin at this place: the constant of the pin if it is open, else the bit of the
-- net, else a free bit
abbrev pub read_at : RawBoard → FaultSet → List PinState → (ℕ → Bool) → Bool → Option Place → Bool
read_at board faults states shorts free None = free
read_at board faults states shorts free (Some p) =
    unwrap_or (faults.opened p.number p.place) (unwrap_or (net_bit board faults states shorts p.number p.net) free)

-- true if the pin is a receiver and not a live driver
abbrev pub reads_pin : RawBoard → List PinState → PinAt → Bool
reads_pin board states at = receives_where board (Some at) && not (live_where board states (Some at))

-- the bit that a cell captures from the pin at this port bit of the part; a free bit if the pin is not a receiver, is a
-- live driver, or is on no net
abbrev pub read_bit : RawBoard → FaultSet → List PinState → (ℕ → Bool) → Bool → ℕ → Option ℕ → Bool
read_bit board faults states shorts free part None = free
read_bit board faults states shorts free part (Some b) =
    let at : PinAt = record { part = part; bit = b } in
    cond (reads_pin board states at) (read_at board faults states shorts free (place_of at 0 board.nets)) free

-- The bit that a cell with this reading entry captures. An INPUT, CLOCK or BIDIR entry reads its pin. In the
-- model, any other cell captures a free bit. This includes an OBSERVE_ONLY cell, which reads its net in a real part, but which no test
-- compares.
abbrev pub read_entry : RawBoard → FaultSet → List PinState → (ℕ → Bool) → Bool → ℕ → Option Cell → Bool
read_entry board faults states shorts free part None = free
read_entry board faults states shorts free part (Some cell) =
    cond (is_receiving cell.role) (read_bit board faults states shorts free part cell.bit) free

-- The bits that the cells of a part of this kind capture. A part without a description has no boundary cells.
abbrev pub captured_by : RawBoard → FaultSet → List PinState → (ℕ → Bool) → (ℕ → Bool) → ℕ → PartKind → List Bool
captured_by board faults states shorts free part (WithoutDescription n) = []
captured_by board faults states shorts free part (Described device) =
    filled device.boundary (λ cell. read_entry board faults states shorts (free cell) part (reading_entry device cell))

-- the bits that the boundary cells of a part capture under Extest
abbrev pub captured : RawBoard → FaultSet → List PinState → (ℕ → Bool) → (ℕ → FreeBits) → ℕ → List Bool
captured board faults states shorts free part =
    unwrap_or (option_map (λ p. captured_by board faults states shorts (free part).cells part p.kind) (slice_get board.chain part)) []
