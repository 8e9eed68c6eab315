-- Lemmas about bits as hexadecimal text.
use Rattle.std.proofs.Common.{◌≡◌, ℕ, ◌+◌, ◌<◌, zero, suc, Option, None, Some, Bool, false, cond, eq-eqb, option_and_then, List, [], ◌∷◌, ◌++◌, length, take, get_or, refl, ap, ◌∙◌, append_assoc, length-append, arith}
use Rattle.std.proofs.lemmas.List.{take_more}
use Rattle.bt_bits.specs.Hex.{hex_digit, hex_text, digit_count, digit_bits, text_bits, joined_bits, cut_to, field_bits}

pub length-hex_text : (bits : List Bool) → length (hex_text bits) ≡ digit_count (length bits)
length-hex_text [] = refl
length-hex_text (a ∷ []) = refl
length-hex_text (a ∷ b ∷ []) = refl
length-hex_text (a ∷ b ∷ c ∷ []) = refl
length-hex_text (a ∷ b ∷ c ∷ d ∷ bits) =
    length-append (hex_text bits) (hex_digit a b c d ∷ []) ∙ omega (arith, length-hex_text bits)

pub take_four : (bits : List Bool) (i : ℕ) → i + 3 < length bits
    → take (i + 4) bits
    ≡ take i bits
    ++ get_or bits i false ∷ get_or bits (i + 1) false ∷ get_or bits (i + 2) false
    ∷ get_or bits (i + 3) false ∷ []
take_four bits i within = grind (arith, take_more {X = Bool}, append_assoc {A = Bool})

joined_bits-none : (bits : Option (List Bool)) → joined_bits bits None ≡ None
joined_bits-none None = refl
joined_bits-none (Some bits) = refl

pub text_bits-none : (text : List ℕ) (i : ℕ) → i < length text → digit_bits (get_or text i 0) ≡ None → text_bits text ≡ None
text_bits-none [] i within bad = absurd (omega arith)
text_bits-none (c ∷ cs) zero within bad = ap (joined_bits (text_bits cs)) bad ∙ joined_bits-none (text_bits cs)
text_bits-none (c ∷ cs) (suc i) within bad = ap (λ o. joined_bits o (digit_bits c)) (text_bits-none cs i (omega arith) bad)

pub field_bits-sized : (len : ℕ) (text : List ℕ) → length text ≡ digit_count len
    → field_bits len text ≡ option_and_then (cut_to len) (text_bits text)
field_bits-sized len text sized =
    ap (λ b. cond b (option_and_then (cut_to len) (text_bits text)) None) (eq-eqb (length text) (digit_count len) sized)
