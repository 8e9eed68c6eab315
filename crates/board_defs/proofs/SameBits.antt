-- Lemmas about the test whether two bits are equal.
use Rattle.std.proofs.Common.{◌≡◌, Bool, true, false, refl}
use Rattle.board_defs.specs.Pins.{is_same}

pub is_same_refl : (b : Bool) → is_same b b ≡ true
is_same_refl true = refl
is_same_refl false = refl

pub is_same_of_same : (a b : Bool) → a ≡ b → is_same a b ≡ true
is_same_of_same true true h = refl
is_same_of_same true false h = cc h
is_same_of_same false true h = cc h
is_same_of_same false false h = refl

pub same_of_is_same : (a b : Bool) → is_same a b ≡ true → a ≡ b
same_of_is_same true true h = refl
same_of_is_same true false h = cc h
same_of_is_same false true h = cc h
same_of_is_same false false h = refl
