-- The TDI, TDO and MASK rows of a scan of three bits. The first bit shifts in 1 and expects 0, the second shifts in 0 and
-- expects 1, and the third shifts in 1 and is not compared.
use Rattle.std.proofs.Common.{Bool, true, false, [], ◌∷◌, Option, Some, None, refl}
use Rattle.tap_defs.specs.chain.Scan.{ScanBit}
use Rattle.tap_defs.specs.chain.ScanRows.{AreBitsOf}

abbrev pub bit : Bool → Option Bool → ScanBit
bit tdi expect = record { tdi = tdi; expect = expect }

pub three_bits : AreBitsOf (bit true (Some false) ∷ bit false (Some true) ∷ bit true None ∷ [])
    (true ∷ false ∷ true ∷ []) (false ∷ true ∷ false ∷ []) (true ∷ true ∷ false ∷ [])
three_bits = record { tdi = refl; tdo = refl; mask = refl }
