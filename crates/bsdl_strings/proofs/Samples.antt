-- Samples of strings that have a value. Each refutes that its string has none.
use Rattle.std.proofs.Common.{ℕ, [], ◌∷◌, refl}
use Rattle.std.specs.Prelude.{codes}
use Rattle.board_defs.specs.declared.device.Symbol.TheVariants.{Zero, One}
use Rattle.grammars.specs.Lists.{list_turn}
use Rattle.grammars.specs.inner.Reader.{turns}
use Rattle.bsdl_strings.specs.declared.values.PortWord.TheVariants.{Plain}
use Rattle.bsdl_strings.specs.declared.values.Compliance.{Compliance}
use Rattle.bsdl_strings.specs.Pieces.{pieces}
use Rattle.bsdl_strings.specs.Strings.{bit, bit_turn, first_parenthesis, second_parenthesis, IsNoPattern, IsCompliance, IsNoCompliance}
use Rattle.bsdl_strings.proofs.ComplianceLemmas.{is_compliance}

-- the string `01` is a pattern
pattern_01 : (number : ℕ) → IsNoPattern (codes "01") number → ⊥
pattern_01 number wrong = wrong.no_value (One ∷ Zero ∷ []) (refl, refl)

-- one compliance bit, which is port A, and the pattern `1`
abbrev one_bit : Compliance
one_bit = record { ports = Plain (codes "A") ∷ []; patterns = (One ∷ []) ∷ [] }

is_one_bit : IsCompliance (codes "(A)(1)") one_bit
unfolding pieces bit bit_turn first_parenthesis second_parenthesis list_turn turns
is_one_bit =
    is_compliance (codes "(A)(1)") (codes "(" ∷ codes "1" ∷ codes ")" ∷ [] ∷ []) (Plain (codes "A") ∷ [])
    ((One ∷ []) ∷ []) refl refl

compliance_bit : (number : ℕ) → IsNoCompliance (codes "(A)(1)") number → ⊥
compliance_bit number wrong = wrong.no_value one_bit is_one_bit
