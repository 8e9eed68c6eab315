-- An instruction scan gives each part the instruction of its code.
use Rattle.std.proofs.Common.{◌≡◌, ℕ, suc, ◌≤◌, Bool, true, ◌&&◌, List, [], ◌∷◌, ◌++◌, length, map, refl, sym, ◌∙◌, ap, arith}
use Rattle.std.proofs.lemmas.List.{map-append, length-map}
use Rattle.tap_defs.specs.chain.ShiftRegister.{filled, captured_ir}
use Rattle.tap_defs.specs.chain.Part.{FreeBits}
use Rattle.tap_defs.specs.chain.Chain.{ChainPart}
use Rattle.tap_defs.specs.chain.Scan.{tdi_bits, joined}
use Rattle.tap_defs.specs.chain.Codes.{sent, code_bits}
use Rattle.tap_defs.specs.chain.ChainRegisters.{ir_registers, ir_captures}
use Rattle.tap_defs.specs.chain.Transport.{scan_passes}
use Rattle.tap_defs.proofs.chain.ListLemmas.{cons_path, length-joined}
use Rattle.tap_defs.proofs.chain.RunLemmas.{scan_passes-append}
use Rattle.tap_defs.proofs.chain.CodeLemmas.{lengths-ir_captures}
use Rattle.tap_defs.proofs.chain.RowLemmas.{tdi_bits-code_bits}

sent_passes : (code out : List Bool) → scan_passes (map sent code) out ≡ true
sent_passes [] out = refl
sent_passes (b ∷ code) [] = refl
sent_passes (b ∷ code) (o ∷ out) = sent_passes code out

length-code_bits : (code : List Bool) → length (code_bits code) ≡ length code
length-code_bits [] = refl
length-code_bits (a ∷ []) = refl
length-code_bits (a ∷ b ∷ code) = ap (λ (n : ℕ). suc (suc n)) (length-map code sent)

lengths-code_bits : (codes : List (List Bool)) → map length (map code_bits codes) ≡ map length codes
lengths-code_bits [] = refl
lengths-code_bits (c ∷ codes) = cons_path (length-code_bits c) (lengths-code_bits codes)

pub length-instructs : (codes : List (List Bool)) → length (joined (map code_bits codes)) ≡ length (joined codes)
length-instructs codes = length-joined (map code_bits codes) codes (lengths-code_bits codes)

pub tdi_bits-instructs : (codes : List (List Bool)) → tdi_bits (joined (map code_bits codes)) ≡ joined codes
tdi_bits-instructs [] = refl
tdi_bits-instructs (c ∷ codes) =
    map-append (λ b. b.tdi) (joined (map code_bits codes)) (code_bits c)
    ∙ ap (λ (r : List Bool). r ++ tdi_bits (code_bits c)) (tdi_bits-instructs codes)
    ∙ ap (λ (r : List Bool). joined codes ++ r) (tdi_bits-code_bits c)

-- The scan bits of a part's code pass, because they compare only the lowest two captured bits, which are 01.
code_passes : (code ir : List Bool) (free : ℕ → Bool) → length code ≡ length ir → 2 ≤ length ir →
    scan_passes (code_bits code) (captured_ir ir free) ≡ true
code_passes code [] free e h = absurd (omega (arith, h))
code_passes code (x ∷ []) free e h = absurd (omega (arith, h))
code_passes [] (x ∷ y ∷ ir) free e h = absurd (omega (arith, e))
code_passes (a ∷ []) (x ∷ y ∷ ir) free e h = absurd (omega (arith, e))
code_passes (a ∷ b ∷ code) (x ∷ y ∷ ir) free e h = sent_passes code (filled (length ir) free)

-- each of these lengths of instruction registers is at least 2
abbrev pub AllRoom : List ℕ → Type 0
AllRoom [] = Unit {0}
AllRoom (n ∷ lengths) = (2 ≤ n) × AllRoom lengths

pub instructs_pass : (codes : List (List Bool)) (ps : List ChainPart) (free : ℕ → FreeBits) →
    map length codes ≡ map length (ir_registers ps) →
    AllRoom (map length (ir_registers ps)) → scan_passes (joined (map code_bits codes)) (joined (ir_captures free ps)) ≡ true
instructs_pass [] ps free e room = refl
instructs_pass (c ∷ codes) [] free e room = cc e
instructs_pass (c ∷ codes) (p ∷ ps) free e room =
    let head : length c ≡ length p.state.ir = cc e in
    let tail : map length codes ≡ map length (ir_registers ps) = cc e in
    let rest : List (List Bool) = ir_captures (λ k. free (suc k)) ps in
    let captured : List Bool = captured_ir p.state.ir (free 0).ir in
    let fits : length (joined (map code_bits codes)) ≡ length (joined rest) =
    length-joined (map code_bits codes) rest (lengths-code_bits codes ∙ tail ∙ sym (lengths-ir_captures ps (λ k. free (suc k)))) in
    scan_passes-append (joined (map code_bits codes)) (code_bits c) (joined rest) captured fits
    ∙ ap (λ (b : Bool). b && scan_passes (code_bits c) captured) (instructs_pass codes ps (λ k. free (suc k)) tail room.1)
    ∙ code_passes c p.state.ir (free 0).ir head room.0
