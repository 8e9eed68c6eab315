-- Laws of the places of a board and of the suspects of a log. A place is the number of a possible single
-- fault. The suspects are the places whose faults may explain the log. A net is covered if the test observes
-- the net. A pin is tested if the test uses it as the driver or as a receiver of an observed net.
use Rattle.std.specs.Prelude.{◌≡◌, ℕ, ◌<◌, Bool, true, List, filter, filter_map, length, All}
use Rattle.board_defs.specs.declared.board.RawBoard.{RawBoard}
use Rattle.board_defs.specs.declared.fault.Single.{Single}
use Rattle.board_defs.specs.BoardRules.{IsBoard}
use Rattle.board_defs.specs.Faults.{singles, IsSingle, SinglePrecedes}
use Rattle.tap_defs.specs.board.Explaining.{Explains}
use Rattle.plan_tables.specs.declared.tables.PlanTables.{PlanTables}
use Rattle.fault_sim.specs.declared.fault_lists.FaultLists.{FaultLists}
use Rattle.fault_sim.specs.Places.{places_of, fault_at, IsUniverse, place_count}
use Rattle.fault_sim.specs.Suspects.{AreSuspects}

-- the faults at the places, in the order of the places, are the list of the board's single faults
abbrev pub PlacesAre : Type 0
PlacesAre = (board : RawBoard) → filter_map (λ place. place) (places_of board) ≡ singles board

-- if `lists` has the covered nets and the tested pins of the board, `place_count lists` is the number of the board's places
abbrev pub PlacesCounted : Type 0
PlacesCounted = (board : RawBoard) (lists : FaultLists) → IsUniverse board lists → length (places_of board) ≡ place_count lists

-- Let `suspects` be the suspects of a log, and let `test` be true only of faults that explain the log. Filtering the faults at the suspects
-- by `test` then gives the same list as filtering all single faults of the board by `test`.
abbrev pub SuspectsSuffice : Type 0
SuspectsSuffice =
    (board : RawBoard) (plan : PlanTables) (lists : FaultLists) (log : List (List Bool))
    (suspects : List ℕ) → IsBoard board → AreSuspects board plan lists log suspects →
    (test : Single → Bool) → ((single : Single) → IsSingle board single → test single ≡ true → Explains board single log) →
    filter test (singles board) ≡ filter test (filter_map (fault_at board) suspects)

-- each suspect is a place of the board
abbrev pub SuspectsArePlaces : Type 0
SuspectsArePlaces =
    (board : RawBoard) (plan : PlanTables) (lists : FaultLists) (log : List (List Bool))
    (suspects : List ℕ) → IsUniverse board lists → AreSuspects board plan lists log suspects →
    All (λ i. i < length (places_of board)) suspects

-- If single fault A comes before single fault B, then B does not come before A. So there is only one way to list given faults in order.
abbrev pub OneOrder : Type 0
OneOrder = (one other : Single) → SinglePrecedes one other → SinglePrecedes other one → ⊥
