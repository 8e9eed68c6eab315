use Rattle.std.proofs.Common.{◌≡◌, drop, take, ◌∙◌, ap}
use Rattle.std.specs.List.{take_while}
use Rattle.bsdl_strings.specs.Pieces.{is_word_byte, is_end}
use Rattle.bsdl_strings.proofs.PieceLemmas.{dropped, drop_while, take_whole, word_pieces, word_is_some}
use Rattle.bsdl_strings.proofs.pieces.word_piece.Goals as goal

pub returns-clause-pieces : goal.returns-clause-pieces
returns-clause-pieces c =
    let text = c.args.text.now in
    let front : c.split_at.result.0.now
    ≡ take_while is_word_byte text = c.split_at.ensures.front
    ∙ ap (λ n. take n text) c.word_bytes.ensures.count ∙ take_whole is_word_byte text in
    let back : c.split_at.result.1.now
    ≡ dropped is_word_byte text = c.split_at.ensures.back
    ∙ ap (λ n. drop n text) c.word_bytes.ensures.count ∙ drop_while is_word_byte text in
    cc (word_pieces text c.requires, front, back)

pub returns-clause-some : goal.returns-clause-some
returns-clause-some c =
    let text = c.args.text.now in
    ap is_end
    (c.split_at.ensures.front ∙ ap (λ n. take n text) c.word_bytes.ensures.count
    ∙ take_whole is_word_byte text) ∙ word_is_some text c.requires
