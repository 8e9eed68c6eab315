-- A line ends at the first newline.
use Rattle.std.proofs.Common.{◌≡◌, ◌∷◌}
use Rattle.std.specs.List.{slice_split, before_first, after_first}
use Rattle.std.proofs.lemmas.List.Splits.{slice_split_first}
use Rattle.text_lines.specs.Words.{is_newline}
use Rattle.text_lines.proofs.LineLemmas.{split_whole}
use Rattle.text_lines.proofs.first_line.Goals as goal

pub returns-in-Some-clause-lines : goal.returns-in-Some-clause-lines
returns-in-Some-clause-lines c =
    let split : slice_split is_newline c.args.text.now
    ≡ before_first is_newline c.args.text.now
    ∷ slice_split is_newline (after_first is_newline c.args.text.now) = slice_split_first
    is_newline c.args.text.now 0 c.in-Some.ensures.0 in
    rw (c.in-Some.ensures.1, c.in-Some.ensures.2) split

pub returns-in-None-clause-lines : goal.returns-in-None-clause-lines
returns-in-None-clause-lines c = split_whole is_newline c.args.text.now c.in-None.ensures
