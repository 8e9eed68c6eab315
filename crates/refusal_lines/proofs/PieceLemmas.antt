-- Lemmas about texts that are written in pieces.
use Rattle.std.proofs.Common.{◌≡◌, ℕ, ◌<◌, List, [], ◌++◌, length, take, drop, map, Result, Ok, sym, ap, ◌∙◌, subst, append_assoc, append-nil, Bor, get_or, ◌+◌}
use Rattle.bt_base.specs.Puts.{Puts, Shown}
use Rattle.line_printer.proofs.PrintLemmas.{whole-split}
use Rattle.refusal_lines.specs.Refusals.{Text}
use Rattle.line_printer.specs.Prints.{whole}

-- if writing the first piece succeeds, the sink took this piece and nothing else
pub puts_first : {E : Type 0} {old mid : Shown} {first : Text} {r : Result (Unit {0}) E}
    {x : Unit {0}} → Puts old mid first r → r ≡ Ok x
    → Puts {T = Unit {0}} {E = E} old mid (first ++ []) (Ok tt)
puts_first {E} {old} {mid} {first} {r} {x} put ok =
    subst (λ (t : Text). Puts {T = Unit {0}} {E = E} old mid t (Ok tt)) (sym (append-nil first))
    (subst (λ (q : Result (Unit {0}) E). Puts old mid first q) ok put)

-- The whole text is the first piece, the other pieces before index `i`, piece `i`, and the pieces
-- after it.
pub whole-from : (first : Text) (others : List (Bor Text)) (i : ℕ) (d : Bor Text) → i < length others
    → first ++ whole (map (λ p. p.now) others)
    ≡ (first ++ whole (map (λ p. p.now) (take i others)))
    ++ ((get_or others i d).now ++ whole (map (λ p. p.now) (drop (i + 1) others)))
whole-from first others i d within =
    ap (λ t. first ++ t) (sym (whole-split others i d within))
    ∙ sym
    (append_assoc first (whole (map (λ p. p.now) (take i others)))
    ((get_or others i d).now ++ whole (map (λ p. p.now) (drop (i + 1) others))))
