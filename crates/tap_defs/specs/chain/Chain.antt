-- One TCK cycle of a chain. All parts have the same TMS. The TDO of each part is the TDI of the next part in the same cycle
-- (IEEE 1149.1-1990, section 3, the interconnection of components).
use Rattle.std.specs.Prelude.{◌≡◌, ℕ, suc, Bool, List, [], ◌∷◌, map}
use Rattle.tap_defs.specs.chain.TestLogic.{TestLogic}
use Rattle.tap_defs.specs.chain.Part.{PartState, PinState, pin_state, FreeBits, part_after, part_tdo, IsStateOf}

-- A part of a chain, with its state. A chain is a list of parts in the order from TDI to TDO.
pub record ChainPart : Type 0 where
  pub logic : TestLogic
  pub state : PartState

-- the visible state of each part: the instruction and the latches, on which the pins depend
abbrev pub pin_states : List ChainPart → List PinState
pin_states parts = map (λ p. pin_state p.state) parts

-- The chain after a cycle. `pins k` has the bits that the pins of part `k` give its boundary cells. `free k` has the
-- bits that the standard leaves open in part `k`.
abbrev pub chain_after : List ChainPart → (ℕ → List Bool) → (ℕ → FreeBits) → Bool → Bool → List ChainPart
chain_after [] pins free tms tdi = []
chain_after (p ∷ parts) pins free tms tdi =
    record p { state = part_after p.logic (pins 0) (free 0) tms tdi p.state }
    ∷ chain_after parts (λ k. pins (suc k)) (λ k. free (suc k)) tms (part_tdo (free 0) tdi p.state)

-- TDO of the chain in the cycle, which is TDO of its last part, or TDI if the chain has no parts
abbrev pub chain_tdo : List ChainPart → (ℕ → FreeBits) → Bool → Bool
chain_tdo [] free tdi = tdi
chain_tdo (p ∷ parts) free tdi = chain_tdo parts (λ k. free (suc k)) (part_tdo (free 0) tdi p.state)

abbrev pub logics : List ChainPart → List TestLogic
logics parts = map (λ p. p.logic) parts

-- in each state, the registers and the list of the latches have the lengths that the part's test logic gives
abbrev pub AllAreStates : List ChainPart → Type 0
AllAreStates [] = Unit {0}
AllAreStates (p ∷ parts) = IsStateOf p.logic p.state × AllAreStates parts

-- `chain` is a possible state of a chain of these parts; the parts may be in different TAP states
pub record IsChainOf (parts : List TestLogic) (chain : List ChainPart) : Type 0 where
  pub logics_are : logics chain ≡ parts
  pub states_are : AllAreStates chain
