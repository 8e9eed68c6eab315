-- Shift registers. Bits move from TDI towards TDO, and the first bit of a list is nearest TDO (IEEE 1149.1-1990, section
-- 8).
use Rattle.std.specs.Prelude.{ℕ, zero, suc, Bool, true, false, List, [], ◌∷◌, ◌++◌, length}

-- the bit that leaves a register in one shift
abbrev pub shifted_out : List Bool → Bool → Bool
shifted_out [] tdi = tdi
shifted_out (b ∷ bits) tdi = b

-- the bits of a register after one shift
abbrev pub shifted : List Bool → Bool → List Bool
shifted [] tdi = []
shifted (b ∷ bits) tdi = bits ++ tdi ∷ []

-- the list of `f 0` to `f (n - 1)`
abbrev pub filled : {A : Type 0} → ℕ → (ℕ → A) → List A
filled zero f = []
filled (suc n) f = f 0 ∷ filled n (λ k. f (suc k))

-- the bits that Capture-IR loads into an instruction register: 1 nearest TDO, 0 in the next place, and any bits above
-- them (IEEE 1149.1-1990, section 6)
abbrev pub captured_ir : List Bool → (ℕ → Bool) → List Bool
captured_ir [] free = []
captured_ir (a ∷ []) free = true ∷ []
captured_ir (a ∷ b ∷ bits) free = true ∷ false ∷ filled (length bits) free
