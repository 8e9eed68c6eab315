use Rattle.std.proofs.Common.{◌≡◌, ◌∷◌, ◌∙◌, ◌-◌, [], ap, sym, length, take, drop, arith}
use Rattle.std.specs.List.{slice_split, before_first, after_first}
use Rattle.std.proofs.lemmas.List.{drop_all}
use Rattle.std.proofs.Math.Seq.{take-nil}
use Rattle.std.proofs.lemmas.List.Splits.{slice_split_first}
use Rattle.text_lines.specs.Words.{words_of, is_line_blank}
use Rattle.text_lines.proofs.LineLemmas.{words_of-cons, words_of-whole, begins_word-before, cut_within}
use Rattle.text_lines.proofs.cut_word.Goals as goal

pub returns-in-Some-clause-words : goal.returns-in-Some-clause-words
returns-in-Some-clause-words c =
    let split : slice_split is_line_blank c.args.text.now
    ≡ before_first is_line_blank c.args.text.now
    ∷ slice_split is_line_blank (after_first is_line_blank c.args.text.now) =
    slice_split_first is_line_blank c.args.text.now 0 c.in-Some.ensures.0 in
    let words = words_of-cons c.args.text.now (before_first is_line_blank c.args.text.now)
    (after_first is_line_blank c.args.text.now) split
    (begins_word-before c.args.text.now c.requires.first c.requires.word) in
    rw (c.in-Some.ensures.1, c.in-Some.ensures.2) words

pub returns-in-Some-clause-within : goal.returns-in-Some-clause-within
returns-in-Some-clause-within c = cut_within is_line_blank c.args.text.now _ _ c.in-Some.ensures

pub returns-in-None-clause-words : goal.returns-in-None-clause-words
returns-in-None-clause-words c =
    let text = c.args.text.now in
    let none : take (length text - length text) (drop (length text) text)
    ≡ [] = ap (take (length text - length text)) (drop_all (length text) text (omega arith))
    ∙ take-nil (length text - length text) in
    words_of-whole text c.in-None.ensures c.requires.word ∙ ap (λ t. text ∷ words_of t) (sym none)
