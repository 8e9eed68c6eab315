-- If no two words name the same pin, no word is left out.
use Rattle.std.proofs.Common.{◌≡◌, map, sym, ap, ◌∙◌}
use Rattle.first_places.specs.Places.{first_repeated}
use Rattle.board_lines.specs.declared.names.Naming.TheVariants.{Inert}
use Rattle.board_lines.specs.Names.{named, names_of}
use Rattle.board_lines.specs.NetWords.{lent_word, net_words}
use Rattle.board_lines.specs.ChainParts.{pin_places}
use Rattle.board_build.specs.inner.Marked.{mark_word, seen_word}
use Rattle.board_build.specs.inner.SeenPins.{are_one}
use Rattle.board_build.proofs.PlaceLemmas.{all_stand_apart}
use Rattle.board_build.proofs.standing.standing_words.Goals as goal

pub returns-then-branch : goal.returns-then-branch
returns-then-branch c =
    let marks = mark_word c.args.chain.now.parts (pin_places c.args.chain.now.parts) (names_of (named Inert c.args.chain.now.lines)) in
    let marked : map seen_word c.in_ok-marked.marked.items
    ≡ map marks (net_words c.args.nets.now) = c.in_ok-marked.ensures
    ∙ ap (λ v. map marks (map lent_word v)) c.deref.ensures.value
    ∙ ap (map marks) c.in_ok-words.ensures in
    let lent = ap (map seen_word) c.deref-2.ensures.value in
    let none = ap (first_repeated are_one) (sym lent) ∙ c.in_ok-pins_differ.ensures c.if-branch.true in
    (all_stand_apart c.args.chain.now.lines c.args.chain.now.parts c.args.nets.now
    (map seen_word c.in_ok-marked.marked.items) marked none).0

pub invariant_of-result : goal.invariant_of-result
invariant_of-result c =
    let marks = mark_word c.args.chain.now.parts (pin_places c.args.chain.now.parts) (names_of (named Inert c.args.chain.now.lines)) in
    let marked : map seen_word c.in_ok-marked.marked.items
    ≡ map marks (net_words c.args.nets.now) = c.in_ok-marked.ensures
    ∙ ap (λ v. map marks (map lent_word v)) c.deref.ensures.value
    ∙ ap (map marks) c.in_ok-words.ensures in
    let lent = ap (map seen_word) c.deref-2.ensures.value in
    let none = ap (first_repeated are_one) (sym lent) ∙ c.in_ok-pins_differ.ensures c.if-branch.true in
    λ _. (all_stand_apart c.args.chain.now.lines c.args.chain.now.parts c.args.nets.now
    (map seen_word c.in_ok-marked.marked.items) marked none).1
