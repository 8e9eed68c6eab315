-- The first quote, line feed or carriage return after the opening quote ends the bytes of a string.
use Rattle.std.proofs.Common.{◌≡◌, ℕ, ◌||◌, ◌∙◌, Bool, true, false, List, length, refl, ap, arith, not, get_or}
use Rattle.std.specs.Prelude.{◌==◌}
use Rattle.std.specs.List.{prefix_len}
use Rattle.std.proofs.lemmas.List.Sums.{prefix_len_is}
use Rattle.std.proofs.lemmas.Bool.{not_from_false, false_from_ne_true}
use Rattle.memchr.specs.Find.{Nowhere, NoneBefore, Passes, is_byte3}
use Rattle.bsdl_lexer.specs.Forms.{is_text_byte}

none_of_three : (a b c : Bool) → not (a || (b || c)) ≡ not ((a || b) || c)
none_of_three true b c = refl
none_of_three false b c = refl

-- a byte may be in a string if and only if it is not a quote, a line feed or a carriage return
ends : (x : ℕ) → is_text_byte x ≡ not (is_byte3 34 10 13 x)
ends x = none_of_three (x == 34) (x == 10) (x == 13)

pub no_end : (xs : List ℕ) → Nowhere (Passes (is_byte3 34 10 13) xs) 0 (length xs) → prefix_len is_text_byte xs ≡ length xs
no_end xs nowhere =
    prefix_len_is is_text_byte xs (length xs) 0 (omega arith)
    (λ k within. ends (get_or xs k 0)
    ∙ not_from_false (is_byte3 34 10 13 (get_or xs k 0))
    (false_from_ne_true (is_byte3 34 10 13 (get_or xs k 0))
    (nowhere k (omega arith) within))) (λ within. absurd (omega arith))

pub first_end : (xs : List ℕ) (k : ℕ) → NoneBefore (Passes (is_byte3 34 10 13) xs) 0 (length xs) k
    → Passes (is_byte3 34 10 13) xs k → prefix_len is_text_byte xs ≡ k
first_end xs k before passes =
    prefix_len_is is_text_byte xs k 0 (omega (arith, before.high))
    (λ j within. ends (get_or xs j 0)
    ∙ not_from_false (is_byte3 34 10 13 (get_or xs j 0))
    (false_from_ne_true (is_byte3 34 10 13 (get_or xs j 0))
    (before.before j (omega arith) within))) (λ within. ends (get_or xs k 0) ∙ ap not passes)
