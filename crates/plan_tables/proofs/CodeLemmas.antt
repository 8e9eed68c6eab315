-- Lemmas for the loop that makes the rows of an instruction scan.
use Rattle.std.proofs.Common.{◌≡◌, ℕ, suc, ◌+◌, ◌-◌, ◌<◌, ◌≤◌, Bool, true, false, List, [], ◌∷◌, ◌++◌, length, map, drop, get_or, replicate, is_some, unwrap_or, refl, ap, ◌∙◌, arith}
use Rattle.std.proofs.lemmas.List.{map-append, drop_more, length-map, length-replicate}
use Rattle.board_defs.specs.Limits.{most_bits}
use Rattle.board_defs.specs.declared.board.Part.{Part}
use Rattle.board_defs.specs.declared.board.RawBoard.{RawBoard}
use Rattle.board_defs.specs.BoardRules.{IsBoard, IsPart}
use Rattle.board_defs.specs.declared.board.PartKind.{PartKind}
use Rattle.board_defs.specs.declared.board.PartKind.TheVariants.{Described, Bypass}
use Rattle.board_defs.specs.Pins.{instruction_length}
use Rattle.tap_defs.specs.chain.Scan.{ScanBit, tdi_bits, tdo_bits, mask_bits}
use Rattle.tap_defs.specs.chain.Codes.{sent, code_bits, instructs}
use Rattle.tap_defs.proofs.chain.RowLemmas.{tdi_bits-code_bits}
use Rattle.plan_tables.specs.declared.instructions.Instruction.{Instruction}
use Rattle.plan_tables.specs.declared.instructions.Instruction.TheVariants.{Preload, Extest}
use Rattle.plan_tables.specs.inner.Codes.{code_for, HasCodeFor, HaveCodes, captured_bits, compared_code_bits}

sent_tdo : (code : List Bool) → tdo_bits (map sent code) ≡ replicate (length code) false
sent_tdo [] = refl
sent_tdo (a ∷ code) = ap (λ t. false ∷ t) (sent_tdo code)

sent_mask : (code : List Bool) → mask_bits (map sent code) ≡ replicate (length code) false
sent_mask [] = refl
sent_mask (a ∷ code) = ap (λ t. false ∷ t) (sent_mask code)

code_tdo : (code : List Bool) (n : ℕ) → length code ≡ n → 2 ≤ n → tdo_bits (code_bits code) ≡ captured_bits n
code_tdo [] n e long = absurd (omega (arith, e, long))
code_tdo (a ∷ []) n e long = absurd (omega (arith, e, long))
code_tdo (a ∷ b ∷ code) n e long =
    let rest : suc (length code) ≡ n - 1 = omega (arith, e) in
    ap (λ t. true ∷ false ∷ t) (sent_tdo code) ∙ ap (λ k. true ∷ replicate k false) rest

code_mask : (code : List Bool) (n : ℕ) → length code ≡ n → 2 ≤ n → mask_bits (code_bits code) ≡ compared_code_bits n
code_mask [] n e long = absurd (omega (arith, e, long))
code_mask (a ∷ []) n e long = absurd (omega (arith, e, long))
code_mask (a ∷ b ∷ code) n e long =
    let rest : length code ≡ n - 2 = omega (arith, e) in
    ap (λ t. true ∷ true ∷ t) (sent_mask code) ∙ ap (λ k. true ∷ true ∷ replicate k false) rest

-- the bits of these parts in an instruction scan
abbrev pub bits_of : Instruction → List Part → List ScanBit
bits_of instruction parts = (instructs (map (λ part. code_for instruction part.kind) parts)).bits

-- At the end of the loop, `i` is 0, so the row has the bits of all parts. They fit in a row.
pub few_left : (instruction : Instruction) (chain : List Part)
    → length (bits_of instruction chain) ≤ most_bits → (i : ℕ) → i ≡ 0 → (row : ScanBit → Bool) →
    length (map row (bits_of instruction (drop i chain))) ≤ most_bits
few_left instruction chain few i none row =
    let bits : List ScanBit = bits_of instruction (drop i chain) in
    omega (arith, length-map bits row, ap (λ n. length (bits_of instruction (drop n chain))) none, few)

pub part_before : (chain : List Part) (i : ℕ) (d : Part) → 0 < i → i ≤ length chain
    → drop (i - 1) chain ≡ get_or chain (i - 1) d ∷ drop i chain
part_before chain i d some within =
    let next : i - 1 + 1 ≡ i = omega (arith, some) in
    drop_more chain (i - 1) d (omega (arith, some, within)) ∙ ap (λ k. get_or chain (i - 1) d ∷ drop k chain) next

module _ (instruction : Instruction) (chain : List Part) (coded : HaveCodes instruction chain)
    (i : ℕ) (d : Part) (some : 0 < i) (within : i ≤ length chain) where
  abbrev part : Part
  part = get_or chain (i - 1) d

  rest : List ScanBit
  rest = bits_of instruction (drop i chain)

  is_coded : HasCodeFor instruction part.kind
  is_coded = coded (i - 1) d (omega (arith, some, within))

  pub step_tdi : tdi_bits (bits_of instruction (drop (i - 1) chain))
      ≡ tdi_bits (bits_of instruction (drop i chain))
      ++ code_for instruction (get_or chain (i - 1) d).kind
  step_tdi =
      ap (λ (l : List Part). tdi_bits (bits_of instruction l)) (part_before chain i d some within)
      ∙ map-append (λ b. b.tdi) (bits_of instruction (drop i chain)) (code_bits (code_for instruction part.kind))
      ∙ ap (λ t. tdi_bits (bits_of instruction (drop i chain)) ++ t) (tdi_bits-code_bits (code_for instruction part.kind))

  pub step_tdo : tdo_bits (bits_of instruction (drop (i - 1) chain))
      ≡ tdo_bits (bits_of instruction (drop i chain))
      ++ captured_bits (instruction_length (get_or chain (i - 1) d).kind)
  step_tdo =
      ap (λ (l : List Part). tdo_bits (bits_of instruction l)) (part_before chain i d some within)
      ∙ map-append (λ b. unwrap_or b.expect false) (bits_of instruction (drop i chain)) (code_bits (code_for instruction part.kind))
      ∙ ap (λ t. tdo_bits (bits_of instruction (drop i chain)) ++ t)
      (code_tdo (code_for instruction part.kind) (instruction_length part.kind)
      is_coded.length_is is_coded.least)

  pub step_mask : mask_bits (bits_of instruction (drop (i - 1) chain))
      ≡ mask_bits (bits_of instruction (drop i chain))
      ++ compared_code_bits (instruction_length (get_or chain (i - 1) d).kind)
  step_mask =
      ap (λ (l : List Part). mask_bits (bits_of instruction l)) (part_before chain i d some within)
      ∙ map-append (λ b. is_some b.expect) (bits_of instruction (drop i chain)) (code_bits (code_for instruction part.kind))
      ∙ ap (λ t. mask_bits (bits_of instruction (drop i chain)) ++ t)
      (code_mask (code_for instruction part.kind) (instruction_length part.kind)
      is_coded.length_is is_coded.least)

kind_coded : (instruction : Instruction) (kind : PartKind) → IsPart kind → HasCodeFor instruction kind
kind_coded Preload (Described device) r = record { least = r.ir_least; length_is = length-map device.sample _ ∙ r.codes.sample_length }
kind_coded Extest (Described device) r = record { least = r.ir_least; length_is = length-map device.extest _ ∙ r.codes.extest_length }
kind_coded Preload (Bypass n) r = record { least = r.0; length_is = length-replicate n true }
kind_coded Extest (Bypass n) r = record { least = r.0; length_is = length-replicate n true }

pub board_coded : (instruction : Instruction) (board : RawBoard) → IsBoard board → HaveCodes instruction board.chain
board_coded instruction board rules k d less = kind_coded instruction (get_or board.chain k d).kind (rules.parts k d less)
