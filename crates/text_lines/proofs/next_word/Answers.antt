use Rattle.std.proofs.Common.{◌∙◌, sym}
use Rattle.text_lines.proofs.LineLemmas.{words_of-comment}
use Rattle.text_lines.proofs.next_word.Goals as goal

pub returns-else-begins_word-clause-words : goal.returns-else-begins_word-clause-words
returns-else-begins_word-clause-words c =
    sym c.behind_blanks-text.ensures.words
    ∙ words_of-comment c.behind_blanks-text.result.now c.behind_blanks-text.ensures.first
    (sym c.if-begins_word.ensures)
