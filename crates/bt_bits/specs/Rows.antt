-- The value of a row of bits, as contracts see it.
use Rattle.std.specs.Prelude.{◌≡◌, ℕ, List, Bool, length, refl}
use Rattle.std.specs.Coded.{Coded, code_by, coded×, coded_ℕ, coded_list, coded_bool}
use Rattle.bt_bits.specs.Digits.{digits_of}

-- The bits of a row, and the number of bits for which the row has room. Bit 0 is shifted first.
pub record BitRow : Type 0 where
  pub bits : List Bool
  pub room : ℕ

abbrev pub row_code : Coded BitRow
row_code =
    code_by (List Bool × ℕ) (coded× (coded_list coded_bool) coded_ℕ) (λ r. (r.bits, r.room))
    (λ p. record { bits = p.0; room = p.1 }) (λ _. refl)

-- the list has `len` bits, and `digits` are its digits
pub record AreDigitsOf (bits : List Bool) (len : ℕ) (digits : List ℕ) : Type 0 where
  pub count : length bits ≡ len
  pub values : digits ≡ digits_of bits
