-- The maps and the definitions give the same facts about each word.
use Rattle.std.proofs.Common.{map, ap, sym, ◌∙◌}
use Rattle.std.specs.Prelude.{is_some}
use Rattle.std.proofs.lemmas.Result.{IfOk-weaker}
use Rattle.lists.proofs.ListLemmas.{map-map}
use Rattle.board_lines.specs.declared.names.Naming.TheVariants.{Inert}
use Rattle.board_lines.specs.Names.{named, names_of}
use Rattle.board_lines.specs.NetWords.{lent_word, lent_pin}
use Rattle.board_lines.specs.ChainParts.{pin_places, place_of_pin}
use Rattle.board_build.specs.inner.Marked.{mark_word, seen_word}
use Rattle.board_lines.proofs.MapLemmas.{map_seen}
use Rattle.board_build.proofs.GroupLemmas.{mark_cong}
use Rattle.board_build.proofs.KnownLemmas.{known_same}
use Rattle.board_build.proofs.marked.mark_known.Goals as goal

pub returns : goal.returns
returns c =
    let chain = c.args.chain.now in
    let lines = c.lines-lines.result.now in
    let parts = c.parts-parts.result.now in
    let words = c.args.words.now in
    IfOk-weaker c.mark_all.result _ _
    (λ marked e. ap (map seen_word) e ∙ map-map _ seen_word words ∙ map_seen _ lent_word
    (mark_word parts (pin_places parts) (names_of (named Inert lines)))
    (λ w.
    let place = ap (λ v. place_of_pin (pin_places v) (lent_pin w.0.1)) (c.requires ∙ sym c.parts-parts.ensures.parts) in
    mark_cong parts (lent_word w) _ _ _ _ _ _
    (known_same parts (lent_pin w.0.1) _ _ (ap is_some (c.in_ok-described.ensures w.0.1.0))
    place) place (ap is_some (c.in_ok-inerts.ensures w.0.1.0)))
    words
    ∙ ap (λ v. map (mark_word v (pin_places v) (names_of (named Inert lines))) (map lent_word words)) c.parts-parts.ensures.parts
    ∙ ap
    (λ v. map (mark_word chain.parts (pin_places chain.parts) (names_of (named Inert v)))
    (map lent_word words)) c.lines-lines.ensures.lines)
    c.mark_all.ensures
