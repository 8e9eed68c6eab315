-- A code consists of one or more symbols (0, 1 and X). A text that is not a code is empty or has a byte that is not a
-- symbol. So if the text has fewer than 2^32 bytes, fewer than 2^32 - 1 symbols are at its front.
use Rattle.std.proofs.Common.{◌≡◌, ℕ, ◌<◌, ◌^◌, Bool, true, false, ◌&&◌, cond, List, [], ◌∷◌, length, nat_lt, refl, ap, ◌∙◌, sym, arith}
use Rattle.std.specs.List.{take_while, list_all}
use Rattle.std.proofs.lemmas.List.Sums.{take_while-cons}
use Rattle.std.proofs.lemmas.Bool.Decides.{nat_tests}
use Rattle.bsdl_strings.specs.Places.{is_symbol, is_code_piece}

shorter_step : (p : ℕ → Bool) (x : ℕ) (xs : List ℕ) (b : Bool) → p x ≡ b
    → (list_all p xs ≡ false → length (take_while p xs) < length xs) → list_all p (x ∷ xs) ≡ false
    → length (cond b (x ∷ take_while p xs) []) < length (x ∷ xs)
shorter_step p x xs true is h e =
    let rest : list_all p xs ≡ false = sym (ap (λ b. b && list_all p xs) is) ∙ e in
    let k = h rest in
    omega (arith, k)
shorter_step p x xs false is h e = omega arith

fewer_pass : (p : ℕ → Bool) (xs : List ℕ) → list_all p xs ≡ false → length (take_while p xs) < length xs
fewer_pass p [] e = cc
fewer_pass p (x ∷ xs) e =
    let k = shorter_step p x xs (p x) refl (fewer_pass p xs) e in
    let same = ap length (take_while-cons p x xs) in
    omega (arith, k, same)

pub few_symbols : (text : List ℕ) → is_code_piece text ≡ false → length text < 2 ^ 32 → length (take_while is_symbol text) < 4294967295
few_symbols [] e short = omega arith
few_symbols (x ∷ xs) e short =
    let some : nat_lt 0 (length (x ∷ xs)) ≡ true = grind (arith, nat_tests) in
    let fails : list_all is_symbol (x ∷ xs) ≡ false = sym (ap (λ b. b && list_all is_symbol (x ∷ xs)) some) ∙ e in
    let k = fewer_pass is_symbol (x ∷ xs) fails in
    omega (arith, k)
