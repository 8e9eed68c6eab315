-- Described parts with identification codes (IEEE 1149.1-1990, section 11), and codes that fit a pattern.
use Rattle.std.specs.Prelude.{◌≡◌, ℕ, suc, Bool, true, not, ◌&&◌, List, [], ◌∷◌, length, Option, Some, None}
use Rattle.board_defs.specs.declared.device.Symbol.{Symbol}
use Rattle.board_defs.specs.declared.device.Symbol.TheVariants.{Zero, One, Any}
use Rattle.board_defs.specs.declared.board.PartKind.TheVariants.{Described}
use Rattle.board_defs.specs.declared.device.RawDevice.{RawDevice}
use Rattle.tap_defs.specs.chain.TestLogic.{TestLogic, Bypass, Idcode}
use Rattle.tap_defs.specs.board.OnBoard.{test_logic}

-- A part with a pattern is coded if it selects IDCODE in Test-Logic-Reset and its identification code has 32 bits. A
-- part without a pattern is coded if it selects BYPASS there.
abbrev pub IsCoded : Option (List Symbol) → TestLogic → Type 0
IsCoded (Some pattern) part = (part.at_reset ≡ Some Idcode) × (length part.idcode ≡ 32)
IsCoded None part = part.at_reset ≡ Some Bypass

-- There are as many parts as patterns, and each part is coded (`IsCoded`) for the pattern with the same
-- index.
abbrev pub AreCoded : List (Option (List Symbol)) → List TestLogic → Type 0
AreCoded [] [] = Unit {0}
AreCoded [] (part ∷ parts) = ⊥
AreCoded (pattern ∷ patterns) [] = ⊥
AreCoded (pattern ∷ patterns) (part ∷ parts) = IsCoded pattern part × AreCoded patterns parts

-- true if the bit fits the symbol; each bit fits X
abbrev pub symbol_fits : Symbol → Bool → Bool
symbol_fits Zero bit = not bit
symbol_fits One bit = bit
symbol_fits Any bit = true

-- True if each bit of the code fits its symbol. The first bit and the first symbol are nearest TDO. Bits or symbols past
-- the end of the shorter list are ignored.
abbrev pub code_fits : List Symbol → List Bool → Bool
code_fits (symbol ∷ pattern) (bit ∷ code) = symbol_fits symbol bit && code_fits pattern code
code_fits _ _ = true

-- true if the part has no pattern, or its code fits the pattern
abbrev pub part_fits : Option (List Symbol) → TestLogic → Bool
part_fits (Some pattern) part = code_fits pattern part.idcode
part_fits None part = true

-- true if the code of each part fits the part's pattern
abbrev pub all_fit : List (Option (List Symbol)) → List TestLogic → Bool
all_fit (pattern ∷ patterns) (part ∷ parts) = part_fits pattern part && all_fit patterns parts
all_fit _ _ = true

-- The part with this code. If there is a pattern, the part selects IDCODE in Test-Logic-Reset and
-- has this code. Otherwise the part is unchanged.
abbrev pub coded_by : Option (List Symbol) → List Bool → TestLogic → TestLogic
coded_by (Some pattern) code part = record part { at_reset = Some Idcode; idcode = code }
coded_by None code part = part

-- the parts of a chain of described devices; if device `k` has a pattern, part `k` has code `k`
abbrev pub coded_parts : List RawDevice → (ℕ → List Bool) → List TestLogic
coded_parts [] codes = []
coded_parts (device ∷ devices) codes =
    coded_by device.idcode (codes 0) (test_logic (Described device))
    ∷ coded_parts devices (λ k. codes (suc k))

-- The part has the register lengths and the instruction codes of the device. If the device has a
-- pattern, the part has this code.
pub record HasCode (device : RawDevice) (code : List Bool) (part : TestLogic) : Type 0 where
  pub ir_length : part.ir_length ≡ (test_logic (Described device)).ir_length
  pub boundary_length : part.boundary_length ≡ (test_logic (Described device)).boundary_length
  pub extest : part.extest ≡ (test_logic (Described device)).extest
  pub preload : part.preload ≡ (test_logic (Described device)).preload
  pub code_is : (pattern : List Symbol) → device.idcode ≡ Some pattern → part.idcode ≡ code
