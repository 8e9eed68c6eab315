-- Facts about TDI, TDO and MASK rows that have the bits of a scan.
use Rattle.std.proofs.Common.{◌≡◌, ℕ, ◌≤◌, Bool, true, false, List, length, get_or, is_some, unwrap_or, sym, ap, ◌∙◌, arith}
use Rattle.std.proofs.lemmas.List.{length-map}
use Rattle.tap_defs.specs.declared.scan.ScanRows.{ScanRows}
use Rattle.tap_defs.specs.declared.scan.StoredRows.{StoredRows}
use Rattle.tap_defs.specs.chain.Scan.{ScanBit, scan_bits, tdi_bits, tdo_bits}
use Rattle.tap_defs.specs.chain.ScanRows.{AreBitsOf, AreRowsOf, EachHasRoom, HaveRoomFor}
use Rattle.tap_defs.proofs.chain.RowLemmas.{one_masked, scan_bits-rows}

module _ {bits : List ScanBit} {shifted expected marks : List Bool} (are : AreBitsOf bits shifted expected marks) where
  pub rows_make : scan_bits shifted expected marks ≡ bits
  rows_make =
      ap (λ (l : List Bool). scan_bits l expected marks) are.tdi
      ∙ ap (λ (l : List Bool). scan_bits (tdi_bits bits) l marks) are.tdo
      ∙ ap (λ (l : List Bool). scan_bits (tdi_bits bits) (tdo_bits bits) l) are.mask
      ∙ scan_bits-rows bits

  pub shifted_length : length shifted ≡ length bits
  shifted_length = ap (λ (l : List Bool). length l) are.tdi ∙ length-map bits (λ b. b.tdi)

  pub expected_length : length expected ≡ length bits
  expected_length = ap (λ (l : List Bool). length l) are.tdo ∙ length-map bits (λ b. unwrap_or b.expect false)

  pub marks_length : length marks ≡ length bits
  marks_length = ap (λ (l : List Bool). length l) are.mask ∙ length-map bits (λ b. is_some b.expect)

  pub expected_same : length expected ≡ length shifted
  expected_same = expected_length ∙ sym shifted_length

  pub marks_same : length marks ≡ length shifted
  marks_same = marks_length ∙ sym shifted_length

  pub rows_masked : (i : ℕ) → get_or expected i false ≡ true → get_or marks i false ≡ true
  rows_masked i one =
      ap (λ (l : List Bool). get_or l i false) are.mask
      ∙ one_masked bits i (sym (ap (λ (l : List Bool). get_or l i false) are.tdo) ∙ one)

pub each_room : {Fits Holds : ℕ → Type 0} {rows : ScanRows} → ((room : ℕ) → Fits room → Holds room)
    → EachHasRoom Fits rows → EachHasRoom Holds rows
each_room {Fits} {Holds} {rows} holds each = record {
  tdi = holds rows.tdi.now.room each.tdi;
  tdo = holds rows.tdo.now.room each.tdo;
  mask = holds rows.mask.now.room each.mask;
}

pub room_for : (bits : List ScanBit) (stored : StoredRows) (rows : ScanRows) → AreRowsOf bits stored
    → EachHasRoom (λ room. length bits ≤ room) rows → HaveRoomFor stored rows
room_for bits stored rows are each = record {
  tdi = omega (arith, shifted_length are, each.tdi);
  tdo = omega (arith, expected_length are, each.tdo);
  mask = omega (arith, marks_length are, each.mask);
}
