use Rattle.std.proofs.Common.{[], ◌∷◌, length, ap, ◌∙◌}
use Rattle.std.specs.Prelude.{codes, decimal}
use Rattle.line_printer.specs.Prints.{line_of}
use Rattle.line_printer.proofs.PrintLemmas.{prints_same}
use Rattle.coverage_list.proofs.listing.put_count.Goals as goal

pub returns : goal.returns
returns g c =
    prints_same
    (ap
    (λ n. line_of
    (codes "NETS " ∷ decimal n ∷ codes " COVERED " ∷ decimal c.covered_count.result ∷ []))
    c.net_count.ensures.value
    ∙ ap
    (λ n. line_of
    (codes "NETS " ∷ decimal (length c.args.board.now.nets) ∷ codes " COVERED " ∷ decimal n ∷
    [])) c.covered_count.ensures) c.put_counts.ensures
