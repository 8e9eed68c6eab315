-- The single faults of a board and their order. `Coverage.antt` defines covered nets, paired nets, tested drivers and tested receivers. The
-- place of a pin is its index in the net's list of pins.
use Rattle.std.specs.Prelude.{◌≡◌, ◌<◌, ◌⊎◌, ℕ, Bool, true, false, ◌||◌, List, [], ◌∷◌, ◌++◌, map, filter, length}
use Rattle.std.specs.List.{flat_map, enumerate_from, range_with_len}
use Rattle.board_defs.specs.declared.board.Net.{Net}
use Rattle.board_defs.specs.declared.board.PinRef.{PinRef}
use Rattle.board_defs.specs.declared.board.RawBoard.{RawBoard}
use Rattle.board_defs.specs.declared.fault.Kind.{Kind}
use Rattle.board_defs.specs.declared.fault.Kind.TheVariants.{And, Or, First, Second}
use Rattle.board_defs.specs.declared.fault.Single.{Single}
use Rattle.board_defs.specs.declared.fault.Single.TheVariants.{StuckNet, OpenPin, Short}
use Rattle.board_defs.specs.Coverage.{IsCovered, ArePaired, IsTestedDriver, IsTestedReceiver}
use Rattle.board_defs.specs.Decided.{is_covered, are_paired, is_tested_driver, is_tested_receiver}
use Rattle.board_defs.specs.Passes.{pairs_within}

-- a net with its number
abbrev pub Numbered : Type 0
Numbered = ℕ × Net

-- the nets with their numbers, in net order
abbrev pub numbered_nets : RawBoard → List Numbered
numbered_nets board = enumerate_from 0 board.nets

-- the covered nets with their numbers, in net order
abbrev pub covered_nets : RawBoard → List Numbered
covered_nets board = filter (λ net. is_covered board net.1) (numbered_nets board)

-- the pin at `place` of the net is tested as a driver or as a receiver
abbrev pub is_tested_pin : RawBoard → Net → ℕ → Bool
is_tested_pin board net place = is_tested_driver board net place || is_tested_receiver board net place

-- the tested pins of a net, in pin order
abbrev pub tested_pins_in : RawBoard → Numbered → List PinRef
tested_pins_in board net =
    map (λ place. record { net = net.0; place = place })
    (filter (is_tested_pin board net.1) (range_with_len 0 (length net.1.pins)))

-- the tested pins of the board, in pin order
abbrev pub tested_pins : RawBoard → List PinRef
tested_pins board = flat_map (tested_pins_in board) (numbered_nets board)

-- the pairs of paired nets, ordered by the first net and then by the second
abbrev pub paired_nets : RawBoard → List (Numbered × Numbered)
paired_nets board = filter (λ pair. are_paired board pair.0.1 pair.1.1) (pairs_within (numbered_nets board))

-- the two faults in which the net is stuck, one at 0 and one at 1
abbrev pub stuck_faults : ℕ → List Single
stuck_faults net = StuckNet net false ∷ StuckNet net true ∷ []

-- the two faults in which the pin is open, one with the value 0 and one with the value 1
abbrev pub open_faults : PinRef → List Single
open_faults pin = OpenPin pin false ∷ OpenPin pin true ∷ []

-- the four shorts of the two nets, one of each kind
abbrev pub short_faults : ℕ → ℕ → List Single
short_faults a b = Short a b And ∷ Short a b Or ∷ Short a b First ∷ Short a b Second ∷ []

-- the list of the board's single faults, in the order of single faults (`SinglePrecedes`)
abbrev pub singles : RawBoard → List Single
singles board =
    flat_map (λ net. stuck_faults net.0) (covered_nets board)
    ++ flat_map open_faults (tested_pins board)
    ++ flat_map (λ pair. short_faults pair.0.0 pair.1.0) (paired_nets board)

-- The fault is a single fault of the board: a covered net that is stuck, a tested pin that is open, or a short of two paired nets. The
-- first net of a short has the lower number.
abbrev pub IsSingle : RawBoard → Single → Type 0
IsSingle board (StuckNet net value) = IsCovered board net
IsSingle board (OpenPin pin value) = IsTestedDriver board pin.net pin.place ⊎ IsTestedReceiver board pin.net pin.place
IsSingle board (Short a b kind) = (a < b) × ArePaired board a b

-- pin order: by net, then by place
abbrev pub PinPrecedes : PinRef → PinRef → Type 0
PinPrecedes p q = (p.net < q.net) ⊎ ((p.net ≡ q.net) × (p.place < q.place))

-- the rank of a kind of short in the order of kinds
abbrev pub kind_rank : Kind → ℕ
kind_rank And = 0
kind_rank Or = 1
kind_rank First = 2
kind_rank Second = 3

-- The order of single faults: stuck nets in net order, then open pins in pin order, then shorts by their first net and then by their
-- second. For one net or pin, the value 0 comes before 1. For one pair of nets, shorts are ordered by kind.
abbrev pub SinglePrecedes : Single → Single → Type 0
SinglePrecedes (StuckNet n v) (StuckNet m w) = (n < m) ⊎ ((n ≡ m) × (v ≡ false) × (w ≡ true))
SinglePrecedes (StuckNet n v) (OpenPin q w) = Unit {0}
SinglePrecedes (StuckNet n v) (Short c d l) = Unit {0}
SinglePrecedes (OpenPin p v) (StuckNet m w) = ⊥
SinglePrecedes (OpenPin p v) (OpenPin q w) = PinPrecedes p q ⊎ ((p ≡ q) × (v ≡ false) × (w ≡ true))
SinglePrecedes (OpenPin p v) (Short c d l) = Unit {0}
SinglePrecedes (Short a b k) (StuckNet m w) = ⊥
SinglePrecedes (Short a b k) (OpenPin q w) = ⊥
SinglePrecedes (Short a b k) (Short c d l) = (a < c) ⊎ (((a ≡ c) × (b < d)) ⊎ ((a ≡ c) × (b ≡ d) × (kind_rank k < kind_rank l)))
