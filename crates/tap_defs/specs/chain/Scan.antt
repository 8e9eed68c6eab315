-- A scan: the bits that one SIR or SDR statement shifts through the chain (SVF Revision E, SIR and SDR).
use Rattle.std.specs.Prelude.{Bool, false, List, [], ◌∷◌, ◌++◌, map, cond, Option, Some, None, is_some, unwrap_or}
use Rattle.std.specs.List.{list_any}

-- A bit of a scan: the bit that is shifted in, and the expected bit at TDO if it is compared.
pub record ScanBit : Type 0 where
  pub tdi : Bool
  pub expect : Option Bool

-- A scan of instructions (SIR) or of data (SDR). The bit at position 0, nearest TDO, is the first of the list and is
-- shifted first.
pub record Scan : Type 0 where
  pub ir : Bool
  pub bits : List ScanBit

abbrev pub tdi_bits : List ScanBit → List Bool
tdi_bits bits = map (λ b. b.tdi) bits

-- the expected bits at TDO, with 0 for each bit that is not compared
abbrev pub tdo_bits : List ScanBit → List Bool
tdo_bits bits = map (λ b. unwrap_or b.expect false) bits

abbrev pub mask_bits : List ScanBit → List Bool
mask_bits bits = map (λ b. is_some b.expect) bits

-- true if some bit of the scan is compared
abbrev pub compares : List ScanBit → Bool
compares bits = list_any (λ b. is_some b.expect) bits

-- The bits of a scan with these bits in TDI, TDO and MASK. A 1 in MASK means that the bit at TDO is compared.
abbrev pub scan_bits : List Bool → List Bool → List Bool → List ScanBit
scan_bits (i ∷ is) (o ∷ os) (m ∷ ms) = record { tdi = i; expect = cond m (Some o) None } ∷ scan_bits is os ms
scan_bits _ _ _ = []

-- The registers of parts, joined into one register. The parts are in the order from TDI to TDO, and the last part has the lowest positions.
abbrev pub joined : {A : Type 0} → List (List A) → List A
joined [] = []
joined (r ∷ rs) = joined rs ++ r
