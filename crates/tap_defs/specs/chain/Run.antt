-- Running a list of clocks on a chain.
use Rattle.std.specs.Prelude.{◌≡◌, ℕ, suc, Bool, true, false, ◌&&◌, List, [], ◌∷◌, Option, Some, None, unwrap_or}
use Rattle.std.specs.Bool.{beq}
use Rattle.tap_defs.specs.chain.TestLogic.{TestLogic}
use Rattle.tap_defs.specs.chain.Part.{PinState, FreeBits}
use Rattle.tap_defs.specs.chain.Chain.{ChainPart, pin_states, chain_after, chain_tdo, IsChainOf}

-- A clock: TMS, TDI if the clock gives it, and the expected bit at TDO if the clock compares TDO.
pub record Clock : Type 0 where
  pub tms : Bool
  pub tdi : Option Bool
  pub expect : Option Bool

-- the choices that one cycle of a chain leaves open: the free bits of each part, the undecided bits of shorted nets, and a
-- TDI that is not given
pub record Choice : Type 0 where
  pub parts : ℕ → FreeBits
  pub shorts : ℕ → Bool
  pub tdi : Bool

-- the choice of each cycle of a run
abbrev pub Choices : Type 0
Choices = ℕ → Choice

-- The board around a chain. It gives the bits that the boundary cells of part `k` capture under Extest. These bits may
-- depend on the visible states of all parts and on the choice of the cycle.
abbrev pub Wiring : Type 0
Wiring = List PinState → Choice → ℕ → List Bool

-- TDI in a clock: the given bit, or the bit of the choice if the clock gives none
abbrev pub clock_tdi : Clock → Choice → Bool
clock_tdi c choice = unwrap_or c.tdi choice.tdi

-- the chain after one clock
abbrev pub clock_after : Wiring → Clock → Choice → List ChainPart → List ChainPart
clock_after wiring c choice parts = chain_after parts (wiring (pin_states parts) choice) choice.parts c.tms (clock_tdi c choice)

-- TDO of the chain in the clock
abbrev pub clock_tdo : Clock → Choice → List ChainPart → Bool
clock_tdo c choice parts = chain_tdo parts choice.parts (clock_tdi c choice)

-- the choices from the next cycle on
abbrev pub later : Choices → Choices
later choices k = choices (suc k)

-- the choices that remain after these clocks
abbrev pub choices_after : List Clock → Choices → Choices
choices_after [] choices = choices
choices_after (c ∷ clocks) choices = choices_after clocks (later choices)

-- the chain after these clocks
unfoldable pub run : Wiring → List Clock → Choices → List ChainPart → List ChainPart
run wiring [] choices parts = parts
run wiring (c ∷ clocks) choices parts = run wiring clocks (later choices) (clock_after wiring c (choices 0) parts)

-- TDO of the chain in each of these clocks
unfoldable pub tdos : Wiring → List Clock → Choices → List ChainPart → List Bool
tdos wiring [] choices parts = []
tdos wiring (c ∷ clocks) choices parts =
    clock_tdo c (choices 0) parts ∷ tdos wiring clocks (later choices) (clock_after wiring c (choices 0) parts)

-- the visible states of the parts after each of these clocks
unfoldable pub shown : Wiring → List Clock → Choices → List ChainPart → List (List PinState)
shown wiring [] choices parts = []
shown wiring (c ∷ clocks) choices parts =
    pin_states (clock_after wiring c (choices 0) parts) ∷ shown wiring clocks (later choices) (clock_after wiring c (choices 0) parts)

-- true if the bit is not compared or is the expected one
abbrev pub bit_passes : Option Bool → Bool → Bool
bit_passes None bit = true
bit_passes (Some expected) bit = beq expected bit

-- true if these bits at TDO are the expected ones wherever the clocks compare TDO
abbrev pub run_passes : List Clock → List Bool → Bool
run_passes [] bits = true
run_passes (c ∷ clocks) [] = true
run_passes (c ∷ clocks) (b ∷ bits) = bit_passes c.expect b && run_passes clocks bits

-- in every run, from any state and with any choices, every compared bit is as expected
abbrev pub PassesOn : Wiring → List TestLogic → List Clock → Type 0
PassesOn wiring parts clocks =
    (chain : List ChainPart) (choices : Choices) → IsChainOf parts chain → run_passes clocks (tdos wiring clocks choices chain) ≡ true

-- in every run, from any state and with any choices, some compared bit is not as expected
abbrev pub FailsOn : Wiring → List TestLogic → List Clock → Type 0
FailsOn wiring parts clocks =
    (chain : List ChainPart) (choices : Choices) → IsChainOf parts chain → run_passes clocks (tdos wiring clocks choices chain) ≡ false
