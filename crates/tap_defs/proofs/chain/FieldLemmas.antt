-- Proof that reading the hexadecimal digits of bits as a field gives the same bits.
use Rattle.std.proofs.Common.{◌≡◌, ℕ, Bool, true, false, cond, not, List, [], ◌∷◌, ◌++◌, length, take, Option, Some, None, refl, sym, ◌∙◌, ap}
use Rattle.std.proofs.Common.{append_assoc, eq-eqb}
use Rattle.std.proofs.lemmas.List.{append-nil}
use Rattle.std.proofs.Math.Seq.{take-append_seam, drop-append_seam}
use Rattle.std.specs.Prelude.{option_and_then}
use Rattle.std.specs.List.{list_all}
use Rattle.bt_bits.specs.Hex.{hex_digit, hex_text, digit_count, digit_bits, joined_bits, text_bits, cut_to, field_bits}
use Rattle.bt_bits.proofs.HexLemmas.{length-hex_text}

digit_bits-hex_digit : (a b c d : Bool) → digit_bits (hex_digit a b c d) ≡ Some (a ∷ b ∷ c ∷ d ∷ [])
digit_bits-hex_digit false false false false = refl
digit_bits-hex_digit true false false false = refl
digit_bits-hex_digit false true false false = refl
digit_bits-hex_digit true true false false = refl
digit_bits-hex_digit false false true false = refl
digit_bits-hex_digit true false true false = refl
digit_bits-hex_digit false true true false = refl
digit_bits-hex_digit true true true false = refl
digit_bits-hex_digit false false false true = refl
digit_bits-hex_digit true false false true = refl
digit_bits-hex_digit false true false true = refl
digit_bits-hex_digit true true false true = refl
digit_bits-hex_digit false false true true = refl
digit_bits-hex_digit true false true true = refl
digit_bits-hex_digit false true true true = refl
digit_bits-hex_digit true true true true = refl

joined_assoc : (a b c : Option (List Bool)) → joined_bits (joined_bits a b) c ≡ joined_bits a (joined_bits b c)
joined_assoc None b c = refl
joined_assoc (Some a) None c = refl
joined_assoc (Some a) (Some b) None = refl
joined_assoc (Some a) (Some b) (Some c) = ap (λ (r : List Bool). Some r) (append_assoc a b c)

joined_nothing : (a : Option (List Bool)) → joined_bits (Some []) a ≡ joined_bits a (Some [])
joined_nothing None = refl
joined_nothing (Some a) = ap (λ (r : List Bool). Some r) (sym (append-nil a))

text_bits_last : (digits : List ℕ) (c : ℕ) → text_bits (digits ++ c ∷ []) ≡ joined_bits (digit_bits c) (text_bits digits)
text_bits_last [] c = joined_nothing (digit_bits c)
text_bits_last (x ∷ digits) c =
    ap (λ (r : Option (List Bool)). joined_bits r (digit_bits x)) (text_bits_last digits c)
    ∙ joined_assoc (digit_bits c) (text_bits digits) (digit_bits x)

-- `read` is `bits`, followed by zeros in the higher positions
record Padded (bits : List Bool) (read : Option (List Bool)) : Type 0 where
  zeros : List Bool
  are_zero : list_all not zeros ≡ true
  read_is : read ≡ Some (bits ++ zeros)

padded : (bits : List Bool) → Padded bits (text_bits (hex_text bits))
padded [] = record { zeros = []; are_zero = refl; read_is = refl }
padded (a ∷ []) = record {
  zeros = false ∷ false ∷ false ∷ [];
  are_zero = refl;
  read_is = ap (λ (r : Option (List Bool)). joined_bits (Some []) r) (digit_bits-hex_digit a false false false);
}
padded (a ∷ b ∷ []) = record {
  zeros = false ∷ false ∷ [];
  are_zero = refl;
  read_is = ap (λ (r : Option (List Bool)). joined_bits (Some []) r) (digit_bits-hex_digit a b false false);
}
padded (a ∷ b ∷ c ∷ []) = record {
  zeros = false ∷ [];
  are_zero = refl;
  read_is = ap (λ (r : Option (List Bool)). joined_bits (Some []) r) (digit_bits-hex_digit a b c false);
}
padded (a ∷ b ∷ c ∷ d ∷ bits) =
    let ih = padded bits in
    record {
      zeros = ih.zeros;
      are_zero = ih.are_zero;
      read_is =
          text_bits_last (hex_text bits) (hex_digit a b c d)
          ∙ ap (λ (r : Option (List Bool)). joined_bits r (text_bits (hex_text bits))) (digit_bits-hex_digit a b c d)
          ∙ ap (λ (r : Option (List Bool)). joined_bits (Some (a ∷ b ∷ c ∷ d ∷ [])) r) ih.read_is;
    }

pub field_bits-hex_text : (bits : List Bool) → field_bits (length bits) (hex_text bits) ≡ Some bits
field_bits-hex_text bits =
    let p = padded bits in
    let n : ℕ = length bits in
    ap (λ (b : Bool). cond b (option_and_then (cut_to n) (text_bits (hex_text bits))) None)
    (eq-eqb (length (hex_text bits)) (digit_count n) (length-hex_text bits))
    ∙ ap (λ (r : Option (List Bool)). option_and_then (cut_to n) r) p.read_is
    ∙ ap (λ (r : List Bool). cond (list_all not r) (Some (take n (bits ++ p.zeros))) None) (drop-append_seam bits p.zeros)
    ∙ ap (λ (b : Bool). cond b (Some (take n (bits ++ p.zeros))) None) p.are_zero
    ∙ ap (λ (r : List Bool). Some r) (take-append_seam bits p.zeros)
