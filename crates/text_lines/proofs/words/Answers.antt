-- The chain of iterators yields the words of the line.
use Rattle.std.proofs.Common.{rules, tests}
use Rattle.std.proofs.lemmas.Iterator.Consumers.{map_from_collect, YieldsList-from_filter}
use Rattle.std.proofs.lemmas.Iterator.Search.{YieldsList-from_take_while}
use Rattle.std.proofs.lemmas.Iterator.Splits.{YieldsList-from_slice_split}
use Rattle.text_lines.specs.Words.{words_of, is_line_blank, is_filled, begins_no_comment}
use Rattle.text_lines.proofs.words.Goals as goal

pub returns : goal.returns
unfolding words_of
returns c =
    map_from_collect _ c.collect.ensures.ran
    (YieldsList-from_take_while _ begins_no_comment
    (YieldsList-from_filter _ is_filled
    (YieldsList-from_slice_split _ is_line_blank c.args.line.now (cc) (cc) c.split.ensures.closure (λ x b q k. search (rules, tests)))
    c.filter.ensures.closure (λ x b q k. search (rules, tests)))
    c.take_while.ensures.closure c.take_while.ensures.done (λ x b q k. search (rules, tests)))
