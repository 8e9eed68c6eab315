use Rattle.std.proofs.Common.{◌∙◌, ◌++◌, ◌∷◌, [], List, ℕ, ap, sym, get_or}
use Rattle.std.proofs.lemmas.List.{map-append}
use Rattle.driver_passes.specs.inner.Shown.{words_at}
use Rattle.driver_passes.proofs.column.Column.add.Goals as goal

pub returns : goal.returns
returns c = λ rows are.
    let number = c.args.self.now.number in
    let row : List ℕ = c.args.row.now in
    c.in_ok-push.ensures.items ∙ ap (λ v. v ++ c.word.result ∷ []) are
    ∙ ap (λ w. words_at number rows ++ w ∷ []) c.word.ensures.word
    ∙ sym (map-append (λ (r : List ℕ). get_or r number 0) rows (row ∷ []))
