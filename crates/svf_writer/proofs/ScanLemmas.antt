-- Lemmas about scans and the rows of their bits.
use Rattle.std.proofs.Common.{◌≡◌, ℕ, ◌+◌, ◌<◌, ◌≤◌, suc, Bool, true, false, cond, ltb, List, [], ◌∷◌, ◌++◌, length, get_or, None, Some, is_some, unwrap_or, refl, sym, ap, subst, inl, inr, ◌∙◌, append_assoc, length-append, arith}
use Rattle.std.proofs.lemmas.List.{length-map}
use Rattle.std.proofs.lemmas.Bool.{lt-ltb, le-ltb, cases_lt}
use Rattle.std.specs.Prelude.{decimal, ◌||◌, codes}
use Rattle.std.specs.List.{list_any}
use Rattle.bt_bits.specs.Hex.{hex_text, digit_count}
use Rattle.bt_bits.proofs.HexLemmas.{length-hex_text}
use Rattle.tap_defs.specs.chain.Scan.{ScanBit, Scan, scan_bits, tdi_bits, tdo_bits, mask_bits, compares}
use Rattle.tap_defs.specs.chain.Text.{command_word, form, scan_text, gap, laid, compare_text}
use Rattle.tap_defs.proofs.chain.RowLemmas.{mask_bits-scan_bits, scan_bits-rows, one_masked}
use Rattle.svf_writer.specs.inner.Fields.{command_text, rest_text, fields_text, fields_length, fields_lines}
use Rattle.svf_writer.specs.Rows.{IsMasked}

masked_bit : (o m : Bool) → (o ≡ true → m ≡ true) → unwrap_or (cond m (Some o) None) false ≡ o
masked_bit o true masked = refl
masked_bit false false masked = refl
masked_bit true false masked = let bad : false ≡ true = masked refl in absurd cc

pub tdi_bits-scan_bits : (tdi tdo mask : List Bool) → length tdo ≡ length tdi
    → length mask ≡ length tdi → tdi_bits (scan_bits tdi tdo mask) ≡ tdi
tdi_bits-scan_bits [] tdo mask o m = refl
tdi_bits-scan_bits (i ∷ is) [] mask o m = absurd (omega arith)
tdi_bits-scan_bits (i ∷ is) (o' ∷ os) [] o m = absurd (omega arith)
tdi_bits-scan_bits (i ∷ is) (o' ∷ os) (m' ∷ ms) o m = ap (λ t. i ∷ t) (tdi_bits-scan_bits is os ms (omega arith) (omega arith))

pub tdo_bits-scan_bits : (tdi tdo mask : List Bool) → length tdo ≡ length tdi
    → length mask ≡ length tdi → IsMasked tdo mask → tdo_bits (scan_bits tdi tdo mask) ≡ tdo
tdo_bits-scan_bits [] [] mask o m masked = refl
tdo_bits-scan_bits [] (o' ∷ os) mask o m masked = absurd (omega arith)
tdo_bits-scan_bits (i ∷ is) [] mask o m masked = absurd (omega arith)
tdo_bits-scan_bits (i ∷ is) (o' ∷ os) [] o m masked = absurd (omega arith)
tdo_bits-scan_bits (i ∷ is) (o' ∷ os) (m' ∷ ms) o m masked =
    ap (λ b. b ∷ tdo_bits (scan_bits is os ms)) (masked_bit o' m' (masked 0))
    ∙ ap (λ t. o' ∷ t) (tdo_bits-scan_bits is os ms (omega arith) (omega arith) (λ k. masked (suc k)))

pub list_any-mask_bits : (bits : List ScanBit) → list_any (λ bit. bit) (mask_bits bits) ≡ compares bits
list_any-mask_bits [] = refl
list_any-mask_bits (b ∷ bits) = ap (λ t. is_some b.expect || t) (list_any-mask_bits bits)

pub IsMasked-rows : (bits : List ScanBit) → IsMasked (tdo_bits bits) (mask_bits bits)
IsMasked-rows bits = one_masked bits

pub compares-scan_bits : (tdi tdo mask : List Bool) → length tdo ≡ length tdi
    → length mask ≡ length tdi → compares (scan_bits tdi tdo mask) ≡ list_any (λ bit. bit) mask
compares-scan_bits tdi tdo mask o m =
    sym (list_any-mask_bits (scan_bits tdi tdo mask))
    ∙ ap (list_any (λ bit. bit)) (mask_bits-scan_bits tdi tdo mask o m)

pub length-scan_bits : (tdi tdo mask : List Bool) → length tdo ≡ length tdi
    → length mask ≡ length tdi → length (scan_bits tdi tdo mask) ≡ length tdi
length-scan_bits tdi tdo mask o m = sym (length-map (scan_bits tdi tdo mask) (λ b. b.tdi)) ∙ ap length (tdi_bits-scan_bits tdi tdo mask o m)

-- The conditions on the TDI, TDO and MASK rows of a scan that is written. They have equal lengths, MASK has a 1 wherever TDO has a 1, and
-- `compare` says whether MASK has a 1.
pub record Written (tdi tdo mask : List Bool) (compare : Bool) : Type 0 where
  pub same_tdo : length tdo ≡ length tdi
  pub same_mask : length mask ≡ length tdi
  pub compared : compare ≡ list_any (λ bit. bit) mask
  pub masked : IsMasked tdo mask

compare_text-rows : (long : Bool) (tdi tdo mask : List Bool) (compare : Bool)
    → Written tdi tdo mask compare
    → compare_text long (scan_bits tdi tdo mask) compare ≡ rest_text long tdo mask compare
compare_text-rows long tdi tdo mask false w = refl
compare_text-rows long tdi tdo mask true w =
    ap
    (λ t. 41 ∷ gap long ∷ codes "TDO ("
    ++ (laid long (hex_text t)
    ++ (41 ∷ gap long ∷ codes "MASK ("
    ++ (laid long (hex_text (mask_bits (scan_bits tdi tdo mask))) ++ codes ");"))))
    (tdo_bits-scan_bits tdi tdo mask w.same_tdo w.same_mask w.masked)
    ∙ ap
    (λ t. 41 ∷ gap long ∷ codes "TDO ("
    ++ (laid long (hex_text tdo)
    ++ (41 ∷ gap long ∷ codes "MASK (" ++ (laid long (hex_text t) ++ codes ");"))))
    (mask_bits-scan_bits tdi tdo mask w.same_tdo w.same_mask)

-- the scan that has these rows
abbrev pub scan_of : Bool → List Bool → List Bool → List Bool → Scan
scan_of ir tdi tdo mask = record { ir = ir; bits = scan_bits tdi tdo mask }

form-rows : (long ir : Bool) (tdi tdo mask : List Bool) (compare : Bool)
    → Written tdi tdo mask compare
    → form long (scan_of ir tdi tdo mask)
    ≡ command_text ir tdi ++ fields_text long tdi tdo mask compare
form-rows long ir tdi tdo mask compare w =
    let bits = scan_bits tdi tdo mask in
    ap
    (λ n. command_word ir
    ++ (32 ∷ decimal n
    ++ (gap long ∷ codes "TDI ("
    ++ (laid long (hex_text (tdi_bits bits))
    ++ compare_text long bits (compares bits)))))
    (length-scan_bits tdi tdo mask w.same_tdo w.same_mask)
    ∙ ap
    (λ t. command_word ir
    ++ (32 ∷ decimal (length tdi)
    ++ (gap long ∷ codes "TDI ("
    ++ (laid long (hex_text t) ++ compare_text long bits (compares bits)))))
    (tdi_bits-scan_bits tdi tdo mask w.same_tdo w.same_mask)
    ∙ ap
    (λ c. command_word ir
    ++ (32 ∷ decimal (length tdi)
    ++ (gap long ∷ codes "TDI ("
    ++ (laid long (hex_text tdi) ++ compare_text long bits c))))
    (compares-scan_bits tdi tdo mask w.same_tdo w.same_mask ∙ sym w.compared)
    ∙ ap
    (λ t. command_word ir
    ++ (32 ∷ decimal (length tdi)
    ++ (gap long ∷ codes "TDI (" ++ (laid long (hex_text tdi) ++ t))))
    (compare_text-rows long tdi tdo mask compare w)
    ∙ sym (append_assoc (command_word ir) (32 ∷ decimal (length tdi)) (fields_text long tdi tdo mask compare))

length-fields_text : (tdi tdo mask : List Bool) (compare : Bool) → Written tdi tdo mask compare
    → length (fields_text false tdi tdo mask compare)
    ≡ fields_length compare (digit_count (length tdi))
length-fields_text tdi tdo mask true w =
    simp length-append
    (omega (
      arith,
      length-hex_text tdi,
      length-hex_text tdo,
      length-hex_text mask,
      ap digit_count w.same_tdo,
      ap digit_count w.same_mask,
    ))
length-fields_text tdi tdo mask false w = simp length-append (omega (arith, length-hex_text tdi))

length-form : (ir : Bool) (tdi tdo mask : List Bool) (compare : Bool) → Written tdi tdo mask compare
    → length (form false (scan_of ir tdi tdo mask))
    ≡ length (command_text ir tdi) + fields_length compare (digit_count (length tdi))
length-form ir tdi tdo mask compare w =
    ap length (form-rows false ir tdi tdo mask compare w) ∙ length-append (command_text ir tdi) (fields_text false tdi tdo mask compare)
    ∙ ap (λ n. length (command_text ir tdi) + n) (length-fields_text tdi tdo mask compare w)

fields_text-lines : (tdi tdo mask : List Bool) (compare : Bool)
    → fields_text true tdi tdo mask compare ++ 10 ∷ [] ≡ 10 ∷ fields_lines tdi tdo mask compare
fields_text-lines tdi tdo mask true = simp append_assoc
fields_text-lines tdi tdo mask false = simp append_assoc

pub scan_text-short : (ir : Bool) (tdi tdo mask : List Bool) (compare : Bool)
    → Written tdi tdo mask compare
    → length (command_text ir tdi) + fields_length compare (digit_count (length tdi)) ≤ 80
    → scan_text (scan_of ir tdi tdo mask)
    ≡ command_text ir tdi ++ (fields_text false tdi tdo mask compare ++ 10 ∷ [])
scan_text-short ir tdi tdo mask compare w short =
    let fits : ltb 80 (length (form false (scan_of ir tdi tdo mask))) ≡ false =
    ap (ltb 80) (length-form ir tdi tdo mask compare w)
    ∙ le-ltb 80
    (length (command_text ir tdi) + fields_length compare (digit_count (length tdi))) short in
    ap (λ long. form long (scan_of ir tdi tdo mask) ++ 10 ∷ []) fits
    ∙ ap (λ t. t ++ 10 ∷ []) (form-rows false ir tdi tdo mask compare w)
    ∙ append_assoc (command_text ir tdi) (fields_text false tdi tdo mask compare) (10 ∷ [])

pub scan_text-long : (ir : Bool) (tdi tdo mask : List Bool) (compare : Bool)
    → Written tdi tdo mask compare
    → 80 < length (command_text ir tdi) + fields_length compare (digit_count (length tdi))
    → scan_text (scan_of ir tdi tdo mask)
    ≡ (command_text ir tdi ++ 10 ∷ []) ++ fields_lines tdi tdo mask compare
scan_text-long ir tdi tdo mask compare w more =
    let long : ltb 80 (length (form false (scan_of ir tdi tdo mask))) ≡ true =
    ap (ltb 80) (length-form ir tdi tdo mask compare w)
    ∙ lt-ltb 80
    (length (command_text ir tdi) + fields_length compare (digit_count (length tdi))) more in
    ap (λ long. form long (scan_of ir tdi tdo mask) ++ 10 ∷ []) long
    ∙ ap (λ t. t ++ 10 ∷ []) (form-rows true ir tdi tdo mask compare w)
    ∙ append_assoc (command_text ir tdi) (fields_text true tdi tdo mask compare) (10 ∷ [])
    ∙ ap (λ t. command_text ir tdi ++ t) (fields_text-lines tdi tdo mask compare)
    ∙ sym (append_assoc (command_text ir tdi) (10 ∷ []) (fields_lines tdi tdo mask compare))

pub line_short : (ir : Bool) (tdi tdo mask : List Bool) (compare : Bool) (line : List ℕ)
    → Written tdi tdo mask compare → line ≡ command_text ir tdi
    → length line + fields_length compare (digit_count (length tdi)) ≤ 80
    → line ++ (fields_text false tdi tdo mask compare ++ 10 ∷ [])
    ≡ scan_text (scan_of ir tdi tdo mask)
line_short ir tdi tdo mask compare line w begun short =
    ap (λ t. t ++ (fields_text false tdi tdo mask compare ++ 10 ∷ [])) begun
    ∙ sym
    (scan_text-short ir tdi tdo mask compare w
    (subst (λ t. length t + fields_length compare (digit_count (length tdi)) ≤ 80) begun
    short))

not_short : (n : ℕ) → (n ≤ 80 → false ≡ true) → 80 < n
not_short n refused = elim (cases_lt 80 n) [ inl more ↦ more | inr short ↦ (let bad : false ≡ true = refused short in absurd cc) ]

pub line_long : (ir : Bool) (tdi tdo mask : List Bool) (compare : Bool) (line : List ℕ)
    → Written tdi tdo mask compare → line ≡ command_text ir tdi
    → (length line + fields_length compare (digit_count (length tdi)) ≤ 80 → false ≡ true)
    → (line ++ 10 ∷ []) ++ fields_lines tdi tdo mask compare ≡ scan_text (scan_of ir tdi tdo mask)
line_long ir tdi tdo mask compare line w begun refused =
    ap (λ t. (t ++ 10 ∷ []) ++ fields_lines tdi tdo mask compare) begun
    ∙ sym (scan_text-long ir tdi tdo mask compare w
    (subst (λ t. 80 < length t + fields_length compare (digit_count (length tdi))) begun
    (not_short (length line + fields_length compare (digit_count (length tdi))) refused)))

pub scan_of_rows : (bits : List ScanBit) (tdi tdo mask : List Bool) → tdi ≡ tdi_bits bits
    → tdo ≡ tdo_bits bits → mask ≡ mask_bits bits → scan_bits tdi tdo mask ≡ bits
scan_of_rows bits tdi tdo mask is_tdi is_tdo is_mask =
    ap (λ t. scan_bits t tdo mask) is_tdi ∙ ap (λ t. scan_bits (tdi_bits bits) t mask) is_tdo
    ∙ ap (scan_bits (tdi_bits bits) (tdo_bits bits)) is_mask
    ∙ scan_bits-rows bits

pub masked_rows : (bits : List ScanBit) (tdo mask : List Bool) → tdo ≡ tdo_bits bits → mask ≡ mask_bits bits → IsMasked tdo mask
masked_rows bits tdo mask is_tdo is_mask i one =
    ap (λ t. get_or t i false) is_mask ∙ IsMasked-rows bits i (sym (ap (λ t. get_or t i false) is_tdo) ∙ one)

pub scan_text-rows : (ir : Bool) (bits : List ScanBit) (tdi tdo mask : List Bool)
    → tdi ≡ tdi_bits bits → tdo ≡ tdo_bits bits → mask ≡ mask_bits bits
    → scan_text (scan_of ir tdi tdo mask) ≡ scan_text (record { ir = ir; bits = bits })
scan_text-rows ir bits tdi tdo mask is_tdi is_tdo is_mask =
    ap
    (λ (bits : List ScanBit). let scan : Scan = record { ir = ir; bits = bits } in
    scan_text scan) (scan_of_rows bits tdi tdo mask is_tdi is_tdo is_mask)
