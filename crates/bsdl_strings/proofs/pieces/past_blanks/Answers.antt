use Rattle.std.proofs.Common.{drop, ◌∙◌, ap}
use Rattle.bsdl_strings.specs.Pieces.{is_string_blank, starts_blank, pieces}
use Rattle.bsdl_strings.proofs.PieceLemmas.{drop_while, pieces_dropped, starts_dropped}
use Rattle.bsdl_strings.proofs.pieces.past_blanks.Goals as goal

pub returns-clause-same : goal.returns-clause-same
returns-clause-same c =
    ap pieces
    (c.split_at.ensures.back ∙ ap (λ n. drop n c.args.text.now) c.blanks.ensures.count
    ∙ drop_while is_string_blank c.args.text.now) ∙ pieces_dropped c.args.text.now

pub returns-clause-no_blank : goal.returns-clause-no_blank
returns-clause-no_blank c =
    ap starts_blank
    (c.split_at.ensures.back ∙ ap (λ n. drop n c.args.text.now) c.blanks.ensures.count
    ∙ drop_while is_string_blank c.args.text.now) ∙ starts_dropped c.args.text.now
