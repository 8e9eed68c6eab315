-- Samples of the logs and faults that the definition gives for small texts, worked out by hand.
use Rattle.std.proofs.Common.{◌≡◌, true, false, Ok, Err, [], ◌∷◌, refl}
use Rattle.std.specs.Prelude.{codes}
use Rattle.text_lines.specs.Words.{words_of}
use Rattle.response_log.specs.declared.fault.LogFault.TheVariants.{Digit, Length, Missing, Extra}
use Rattle.response_log.specs.LogRows.{log_rows}

-- a text with a comment, a row, a line without words, and a row followed by a comment
two_rows : log_rows (codes "# 0\n02\n \r\n\t1a # 3\n") 2 5
    ≡ Ok
    ((false ∷ true ∷ false ∷ false ∷ false ∷ []) ∷ (false ∷ true ∷ false ∷ true ∷ true ∷ []) ∷ [])
unfolding words_of
two_rows = refl

no_rows : log_rows (codes "#\n") 0 5 ≡ Ok []
unfolding words_of
no_rows = refl

-- a row needs five bits, and a bit of its digits above these is 1
high_digit : log_rows (codes "#\n20\n2") 2 5 ≡ Err (Digit 2)
unfolding words_of
high_digit = refl

long_row : log_rows (codes "02\n002\n2G") 3 5 ≡ Err (Length 2)
unfolding words_of
long_row = refl

two_words : log_rows (codes "0G 02\n") 2 5 ≡ Err (Length 1)
unfolding words_of
two_words = refl

too_few : log_rows (codes "02\n# 02") 2 5 ≡ Err (Missing 1)
unfolding words_of
too_few = refl

-- a line after the last expected row is a fault, whatever it contains
too_many : log_rows (codes "02\n\n0G 02") 1 5 ≡ Err (Extra 3)
unfolding words_of
too_many = refl

-- one digit instead of two is a wrong length, whatever the digit is
pub short_wrong_digit : log_rows (codes "G") 1 5 ≡ Err (Length 1)
unfolding words_of
short_wrong_digit = refl

-- the fault of a wrong row comes before the fault of an extra row
wrong_and_too_many : log_rows (codes "#\n0G\n02\n") 1 5 ≡ Err (Digit 2)
unfolding words_of
wrong_and_too_many = refl
