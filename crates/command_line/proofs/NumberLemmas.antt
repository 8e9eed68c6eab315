-- Lemmas about the number that a word denotes.
use Rattle.std.proofs.Common.{◌≡◌, ◌<◌, ◌^◌, ℕ, Bool, true, false, length, Some, None, Err, refl, arith, rules}
use Rattle.std.specs.Prelude.{◌&&◌, if◌then◌else◌}
use Rattle.std.specs.Char.{is_ascii_digit}
use Rattle.std.specs.List.{list_all}
use Rattle.std.specs.Str.Parse.{digits_value, ParsesUnsigned}
use Rattle.std.proofs.lemmas.Grind.{common_steps}
use Rattle.std.proofs.lemmas.Str.Parse.{IsNumeralModel, numerals_by_value, parse_digits}
use Rattle.command_line.specs.Words.{Text, number_of, is_within}

-- the word has only decimal digits
abbrev pub Digits : Text → Type 0
Digits word = list_all is_ascii_digit word ≡ true

numerals : IsNumeralModel Digits (digits_value 10)
numerals = numerals_by_value Digits (search rules)

-- A word of `len` bytes with this value denotes a number from 1 to `most`: it has 1 to 20 bytes, and only
-- digits. `digits` says whether it has only digits.
abbrev is_number : Bool → ℕ → ℕ → ℕ → Bool
is_number digits most len value = digits && is_within 1 20 len && is_within 1 most value

unread_by : (digits : Bool) (most len value : ℕ) (b : Bool) → is_number digits most len value ≡ b
    → most < 2 ^ 32 → ¬ ((0 < len) × (value < 2 ^ 32)) → None ≡ (if b then Some value else None)
unread_by true most len value true test fits unread = grind (arith, common_steps)
unread_by false most len value true test fits unread = absurd cc
unread_by digits most len value false test fits unread = refl

-- if `parse` returns an error for a word of decimal digits, the word denotes no number from 1 to `most`
pub unread_number : {E : Type 0} (most : ℕ) (word : Text) (error : E)
    → ParsesUnsigned 32 10 word (Err error) → Digits word → most < 2 ^ 32
    → None ≡ number_of most word
unread_number {E} most word error parses plain fits =
    let digits : Bool = list_all is_ascii_digit word in
    unread_by digits most (length word) (digits_value 10 word)
    (is_number digits most (length word) (digits_value 10 word)) refl fits
    (parse_digits numerals 32 word (Err error) parses plain)
