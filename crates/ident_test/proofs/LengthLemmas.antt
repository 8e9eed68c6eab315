-- The number of bits of the identity test's scan.
use Rattle.std.proofs.Common.{◌≡◌, ℕ, suc, ◌+◌, ◌*◌, ◌<◌, ◌≤◌, List, [], ◌∷◌, length, map, Option, Some, None, All, IfSome, ap, ◌∙◌, length-append, arith}
use Rattle.std.proofs.lemmas.List.{length-map}
use Rattle.board_defs.specs.declared.device.Symbol.{Symbol}
use Rattle.ident_test.specs.Patterns.{symbol_bit, register_pattern, ident_bits}

-- each item that is a pattern has 32 symbols
abbrev pub AllWhole : List (Option (List Symbol)) → Type 0
AllWhole [] = Unit {0}
AllWhole (None ∷ patterns) = AllWhole patterns
AllWhole (Some pattern ∷ patterns) = (length pattern ≡ 32) × AllWhole patterns

pub whole_by : (patterns : List (Option (List Symbol)))
    → All (λ pattern. IfSome pattern (λ code. length code ≡ 32)) patterns → AllWhole patterns
whole_by [] h = tt
whole_by (None ∷ patterns) h = whole_by patterns (λ k d lt. h (suc k) d (omega (arith, lt)))
whole_by (Some pattern ∷ patterns) h = (h 0 None (omega arith), whole_by patterns (λ k d lt. h (suc k) d (omega (arith, lt))))

pub length-ident_bits : (part : Option (List Symbol)) (patterns : List (Option (List Symbol))) →
    length (ident_bits (part ∷ patterns)) ≡ length (ident_bits patterns) + length (register_pattern part)
length-ident_bits part patterns =
    length-append (ident_bits patterns) (map symbol_bit (register_pattern part))
    ∙ ap (λ (n : ℕ). length (ident_bits patterns) + n) (length-map (register_pattern part) symbol_bit)

pub bits_least : (patterns : List (Option (List Symbol))) → AllWhole patterns → length patterns ≤ length (ident_bits patterns)
bits_least [] h = omega arith
bits_least (None ∷ patterns) h = omega (arith, length-ident_bits None patterns, bits_least patterns h)
bits_least (Some pattern ∷ patterns) h = omega (arith, length-ident_bits (Some pattern) patterns, h.0, bits_least patterns h.1)

pub bits_most : (patterns : List (Option (List Symbol))) → AllWhole patterns → length (ident_bits patterns) ≤ length patterns * 32
bits_most [] h = omega arith
bits_most (None ∷ patterns) h = omega (arith, length-ident_bits None patterns, bits_most patterns h)
bits_most (Some pattern ∷ patterns) h = omega (arith, length-ident_bits (Some pattern) patterns, h.0, bits_most patterns h.1)

pub room_of : (patterns : List (Option (List Symbol)))
    → All (λ pattern. IfSome pattern (λ code. length code ≡ 32)) patterns → length patterns ≤ 255 →
    length (ident_bits patterns) ≤ 8160
room_of patterns each few = omega (arith, bits_most patterns (whole_by patterns each), few)

pub some_of : (patterns : List (Option (List Symbol)))
    → All (λ pattern. IfSome pattern (λ code. length code ≡ 32)) patterns → 0 < length patterns →
    0 < length (ident_bits patterns)
some_of patterns each some = omega (arith, bits_least patterns (whole_by patterns each), some)
