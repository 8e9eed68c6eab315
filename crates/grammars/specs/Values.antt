-- The meaning of a token's bytes. The case of letters does not matter.
use Rattle.std.specs.Prelude.{ℕ, ◌+◌, ◌-◌, ◌*◌, List, length, map, fold, Bool, true, false, ◌&&◌, Option, Some, None, nat_le, nat_lt}
use Rattle.std.specs.List.{list_all}
use Rattle.std.specs.Char.{is_ascii_digit, to_ascii_uppercase}

-- the value if the test holds, or None otherwise
abbrev pub some_if : {A : Type 0} → Bool → A → Option A
some_if true a = Some a
some_if false a = None

-- the bytes in upper case
abbrev pub upper : List ℕ → List ℕ
upper bytes = map to_ascii_uppercase bytes

-- the bytes are 1 to 9 decimal digits
abbrev pub is_integer : List ℕ → Bool
is_integer bytes = nat_lt 0 (length bytes) && (nat_le (length bytes) 9 && list_all is_ascii_digit bytes)

-- the number that decimal digits spell
abbrev pub digits_value : List ℕ → ℕ
digits_value digits = fold (λ number digit. 10 * number + (digit - 48)) 0 digits
