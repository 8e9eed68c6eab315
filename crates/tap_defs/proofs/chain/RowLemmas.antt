-- The TDI, TDO and MASK rows of a scan, and the scan that is made from such rows.
use Rattle.std.proofs.Common.{◌≡◌, ℕ, zero, suc, Bool, true, false, cond, List, [], ◌∷◌, length, map, get_or, replicate, Option, Some, None, is_some, unwrap_or, refl, arith}
use Rattle.tap_defs.specs.chain.TestLogic.{all_ones}
use Rattle.tap_defs.specs.chain.Scan.{ScanBit, tdi_bits, tdo_bits, mask_bits, scan_bits}
use Rattle.tap_defs.specs.chain.Codes.{sent, code_bits}
use Rattle.tap_defs.specs.chain.ChainScans.{compared_with}
use Rattle.tap_defs.proofs.chain.ListLemmas.{cons_path}

pub tdi_bits-sent : (code : List Bool) → tdi_bits (map sent code) ≡ code
tdi_bits-sent [] = refl
tdi_bits-sent (b ∷ code) = cons_path refl (tdi_bits-sent code)

pub tdi_bits-code_bits : (code : List Bool) → tdi_bits (code_bits code) ≡ code
tdi_bits-code_bits [] = refl
tdi_bits-code_bits (a ∷ []) = refl
tdi_bits-code_bits (a ∷ b ∷ code) = cons_path refl (cons_path refl (tdi_bits-sent code))

pub tdi_bits-compared : (ins out : List Bool) → length ins ≡ length out → tdi_bits (compared_with ins out) ≡ ins
tdi_bits-compared [] out h = refl
tdi_bits-compared (i ∷ ins) [] h = absurd (omega (arith, h))
tdi_bits-compared (i ∷ ins) (o ∷ out) h = cons_path refl (tdi_bits-compared ins out (omega (arith, h)))

pub all_ones-replicate : (n : ℕ) → all_ones (replicate n true) ≡ true
all_ones-replicate zero = refl
all_ones-replicate (suc n) = all_ones-replicate n

-- A scan that is made from its own rows is the same scan.
bit_is : (tdi : Bool) (expect : Option Bool) →
    ◌≡◌ {A = ScanBit}
    (record { tdi = tdi; expect = cond (is_some expect) (Some (unwrap_or expect false)) None })
    (record { tdi = tdi; expect = expect })
bit_is tdi None = refl
bit_is tdi (Some e) = refl

pub scan_bits-rows : (bits : List ScanBit) → scan_bits (tdi_bits bits) (tdo_bits bits) (mask_bits bits) ≡ bits
scan_bits-rows [] = refl
scan_bits-rows (b ∷ bits) = cons_path (bit_is b.tdi b.expect) (scan_bits-rows bits)

pub one_masked : (bits : List ScanBit) (i : ℕ) → get_or (tdo_bits bits) i false ≡ true → get_or (mask_bits bits) i false ≡ true
one_masked [] i one = one
one_masked (b ∷ bits) zero one = by_expect b.expect one
  where
    by_expect : (expect : Option Bool) → unwrap_or expect false ≡ true → is_some expect ≡ true
    by_expect None e = e
    by_expect (Some o) e = refl
one_masked (b ∷ bits) (suc i) one = one_masked bits i one

-- A scan that is made from three rows has the given row of MASK.
is_compared : (o m : Bool) → is_some (cond m (Some o) None) ≡ m
is_compared o true = refl
is_compared o false = refl

pub mask_bits-scan_bits : (tdi tdo mask : List Bool) → length tdo ≡ length tdi
    → length mask ≡ length tdi → mask_bits (scan_bits tdi tdo mask) ≡ mask
mask_bits-scan_bits [] tdo [] o m = refl
mask_bits-scan_bits [] tdo (m' ∷ ms) o m = absurd (omega (arith, m))
mask_bits-scan_bits (i ∷ is) [] mask o m = absurd (omega (arith, o))
mask_bits-scan_bits (i ∷ is) (o' ∷ os) [] o m = absurd (omega (arith, m))
mask_bits-scan_bits (i ∷ is) (o' ∷ os) (m' ∷ ms) o m =
    cons_path (is_compared o' m')
    (mask_bits-scan_bits is os ms (omega (arith, o)) (omega (arith, m)))
