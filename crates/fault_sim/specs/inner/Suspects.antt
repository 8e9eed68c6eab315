-- The suspects of a log, as a list that is computed from the nets that differ in the log. A suspect is a
-- place whose fault may explain the log. A net is covered if some safe setting observes it. A safe setting is
-- a set of controls that the test may enable together.
use Rattle.std.specs.Prelude.{ℕ, suc, ◌+◌, ◌-◌, ◌*◌, ◌==◌, Bool, false, cond, List, [], ◌∷◌, ◌++◌, length, slice_index_or, slice_get, Option, Some, None}
use Rattle.std.specs.List.{flat_map, range_with_len}
use Rattle.board_defs.specs.declared.board.PinRef.{PinRef}
use Rattle.plan_tables.specs.declared.tables.PlanTables.{PlanTables}
use Rattle.fault_sim.specs.declared.fault_lists.FaultLists.{FaultLists}
use Rattle.fault_sim.specs.Effects.{code_in}

-- the two places of the faults of a stuck net or of an open pin; `place` is the lower place
abbrev pub two_from : ℕ → List ℕ
two_from place = place ∷ (place + 1) ∷ []

-- the four places of the shorts of two nets; `place` is the lowest place
abbrev pub four_from : ℕ → List ℕ
four_from place = place ∷ (place + 1) ∷ (place + 2) ∷ (place + 3) ∷ []

-- the place of the first open fault
abbrev pub first_open : FaultLists → ℕ
first_open lists = 2 * length lists.nets

-- the place of the first short
abbrev pub first_short : FaultLists → ℕ
first_short lists = 2 * length lists.nets + 2 * length lists.pins

-- the index of the pair of items a and b of `lists.nets` in the list of all pairs of covered nets, if a is less than b
abbrev pub pair_number : FaultLists → ℕ → ℕ → ℕ
pair_number lists a b = slice_index_or lists.starts a 0 + (b - suc a)

-- the places of the shorts of the covered nets that are items a and b of `lists.nets`
abbrev pub pair_suspects : FaultLists → ℕ → ℕ → List ℕ
pair_suspects lists a b = four_from (first_short lists + 4 * pair_number lists a b)

-- the net of a pin, if there is a pin
abbrev pub pin_net : Option PinRef → Option ℕ
pin_net None = None
pin_net (Some pin) = Some pin.net

abbrev pub is_net : ℕ → Option ℕ → Bool
is_net n None = false
is_net n (Some net) = net == n

-- the places of item i of `lists.pins`, which has the tested pins, if this pin is on net n, and otherwise
-- none
abbrev pub pin_suspects : FaultLists → ℕ → ℕ → List ℕ
pin_suspects lists n i = cond (is_net n (pin_net (slice_get lists.pins i))) (two_from (first_open lists + 2 * i)) []

-- the places of all faults of net n, which is item k of `lists.nets`
abbrev pub net_suspects : FaultLists → ℕ → ℕ → List ℕ
net_suspects lists n k =
    two_from (2 * k)
    ++ (flat_map (pin_suspects lists n) (range_with_len 0 (length lists.pins))
    ++ (flat_map (λ a. pair_suspects lists a k) (range_with_len 0 k)
    ++ flat_map (λ b. pair_suspects lists k b) (range_with_len (suc k) (length lists.nets - suc k))))

-- the index of net n in the list of covered nets, or 0 if the net has no code; the codes number the covered nets from 1
abbrev pub covered_place : PlanTables → ℕ → ℕ
covered_place plan n = code_in plan n - 1

-- the suspects of a log in which these nets differ
abbrev pub suspects_of : PlanTables → FaultLists → List ℕ → List ℕ
suspects_of plan lists [] = []
suspects_of plan lists (n ∷ []) = net_suspects lists n (covered_place plan n)
suspects_of plan lists (m ∷ n ∷ []) = pair_suspects lists (covered_place plan m) (covered_place plan n)
suspects_of plan lists (m ∷ n ∷ o ∷ nets) = []
