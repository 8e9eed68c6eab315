-- Each step of the loop appends the words of one more line.
use Rattle.std.proofs.Common.{◌∙◌, ◌++◌, map, ap, sym}
use Rattle.std.specs.Prelude.{slice_get, unwrap_or}
use Rattle.board_lines.specs.NetWords.{lent_word, line_words, net_names, net_words}
use Rattle.board_lines.proofs.DifferLemmas.{words_step}
use Rattle.board_lines.proofs.words.net_words.Goals as goal

pub loop-i-preserved : goal.loop-i-preserved
loop-i-preserved c =
    let lines = c.args.lines.now in
    let line = c.index-lines-i.result in
    let done = map lent_word c.loop-i.words.items in
    words_step (net_names lines) lines c.loop-i.i line c.args.numbers.now done
    (map lent_word c.push_line.new.words.items) (net_words lines) c.loop-i-test.true
    (sym c.index-lines-i.is) c.requires.numbers
    (c.in_ok-push_line.ensures
    ∙ ap (λ n. done ++ line_words n line.line 3 c.as_slice.result.now) c.number_at-net.ensures
    ∙ ap
    (λ v. done
    ++ line_words (unwrap_or (slice_get c.args.numbers.now c.loop-i.i) 0) line.line 3 v)
    c.as_slice.ensures)
    c.loop-i.invariant
