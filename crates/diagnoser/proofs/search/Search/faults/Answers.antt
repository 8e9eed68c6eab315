use Rattle.std.proofs.Common.{List, ℕ, length, ◌∙◌, ap, arith, rules}
use Rattle.diagnoser.proofs.FoundLemmas.{found_pieces}
use Rattle.diagnoser.proofs.search.Search.faults.Goals as goal

pub returns : goal.returns
returns g c =
    found_pieces c.args.self.now c.count-count.result c.number.result
    (omega (arith, c.number.ensures.some))
    (c.count-count.ensures ∙ ap (λ (l : List ℕ). length l) c.suspects.ensures.value)
    (λ v. v.items) _ _ c.in_pieces.result c.in_pieces.ensures (λ number answer gives. search rules)
