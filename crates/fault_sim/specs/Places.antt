-- The places of a board, which number the possible single faults: stuck nets, open pins and shorts. Each
-- place has one single fault, but the four places of two covered nets that are not paired have no fault. A
-- net is covered if some safe setting observes it, and two nets are paired if one safe setting observes both.
-- A safe setting is a set of controls that the test may enable together.
use Rattle.std.specs.Prelude.{◌≡◌, ℕ, ◌+◌, ◌*◌, Bool, true, List, [], ◌∷◌, ◌++◌, map, cond, length, slice_get, Option, Some, None, option_and_then}
use Rattle.std.specs.List.{flat_map}
use Rattle.board_defs.specs.declared.board.RawBoard.{RawBoard}
use Rattle.board_defs.specs.declared.fault.Single.{Single}
use Rattle.board_defs.specs.declared.fault.Single.TheVariants.{StuckNet, OpenPin, Short}
use Rattle.board_defs.specs.Decided.{are_paired}
use Rattle.board_defs.specs.Faults.{Numbered, covered_nets, tested_pins, stuck_faults, open_faults, short_faults}
use Rattle.board_defs.specs.Passes.{pairs_within}
use Rattle.plan_tables.specs.declared.tables.PlanTables.{PlanTables}
use Rattle.fault_sim.specs.declared.fault_lists.FaultLists.{FaultLists}
use Rattle.fault_sim.specs.Starts.{pairs_before}
use Rattle.fault_sim.specs.inner.Tested.{paired_in}

-- the places of a list of faults: one place for each fault, in the order of the list
abbrev pub as_places : List Single → List (Option Single)
as_places faults = map (λ fault. Some fault) faults

-- the four places of two covered nets: the shorts of the nets if the nets are paired, and otherwise no fault
abbrev pub pair_places : RawBoard → Numbered × Numbered → List (Option Single)
pair_places board pair =
    cond (are_paired board pair.0.1 pair.1.1) (as_places (short_faults pair.0.0 pair.1.0))
    (None ∷ None ∷ None ∷ None ∷ [])

-- the places of stuck nets
abbrev pub stuck_places : RawBoard → List (Option Single)
stuck_places board = as_places (flat_map (λ net. stuck_faults net.0) (covered_nets board))

-- the places of open pins
abbrev pub open_places : RawBoard → List (Option Single)
open_places board = as_places (flat_map open_faults (tested_pins board))

-- the places of shorts
abbrev pub short_places : RawBoard → List (Option Single)
short_places board = flat_map (pair_places board) (pairs_within (covered_nets board))

-- the places of a board: those of stuck nets, then those of open pins, then those of shorts
abbrev pub places_of : RawBoard → List (Option Single)
places_of board = stuck_places board ++ (open_places board ++ short_places board)

-- the fault at place i of these places, if there is one
abbrev pub listed_at : List (Option Single) → ℕ → Option Single
listed_at places i = option_and_then (λ place. place) (slice_get places i)

-- the fault at place i of a board, if there is one
abbrev pub fault_at : RawBoard → ℕ → Option Single
fault_at board i = listed_at (places_of board) i

-- `lists` has the covered nets and the tested pins of the board
pub record IsUniverse (board : RawBoard) (lists : FaultLists) : Type 0 where
  pub nets : lists.nets ≡ map (λ net. net.0) (covered_nets board)
  pub pins : lists.pins ≡ tested_pins board

-- The four places of two nets. They have the shorts of the nets if some pass of the plan observes both nets, and otherwise no fault.
abbrev pub number_places : PlanTables → ℕ × ℕ → List (Option Single)
number_places plan pair = cond (paired_in plan pair.0 pair.1) (as_places (short_faults pair.0 pair.1)) (None ∷ None ∷ None ∷ None ∷ [])

-- the places that follow from the lists of covered nets and tested pins, and from the plan
abbrev pub listed_places : PlanTables → FaultLists → List (Option Single)
listed_places plan lists =
    as_places (flat_map stuck_faults lists.nets)
    ++ (as_places (flat_map open_faults lists.pins)
    ++ flat_map (number_places plan) (pairs_within lists.nets))

-- True if some pass observes all nets of a fault at a place. For a short, one pass must observe both nets. The result is true for any other
-- fault, since such a fault is on one covered net, and some pass observes each covered net.
abbrev pub observes_fault : PlanTables → Single → Bool
observes_fault plan (StuckNet net value) = true
observes_fault plan (OpenPin pin value) = true
observes_fault plan (Short a b kind) = paired_in plan a b

-- the fault if there is one and `observes_fault` is true of it, and otherwise `None`
abbrev pub where_observed : PlanTables → Option Single → Option Single
where_observed plan None = None
where_observed plan (Some fault) = cond (observes_fault plan fault) (Some fault) None

-- the number of places: two for each covered net, two for each tested pin and four for each pair of covered nets
abbrev pub place_count : FaultLists → ℕ
place_count lists = 2 * length lists.nets + (2 * length lists.pins + 4 * pairs_before (length lists.nets) (length lists.nets))
