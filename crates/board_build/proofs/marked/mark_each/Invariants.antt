use Rattle.std.proofs.Common.{◌≡◌, map, take}
use Rattle.std.specs.Prelude.{is_some}
use Rattle.indexmap.specs.IndexMap.{get_by}
use Rattle.board_files.specs.Names.{same_word}
use Rattle.board_lines.specs.NetWords.{lent_pin}
use Rattle.board_lines.specs.ChainParts.{pin_places, place_of_pin}
use Rattle.board_build.specs.inner.Marked.{mark_by}
use Rattle.board_build.proofs.marked.mark_each.Given as goal

-- the list has the first `i` words, each with the facts about its pin
abbrev pub invariant-loop-i : goal.invariant-loop-i
invariant-loop-i l =
    l.marked.items
    ≡ map
    (mark_by l.parts (λ q. is_some (get_by (λ n. same_word q.now n.now) l.described))
    (λ q. place_of_pin (pin_places l.places) (lent_pin q))
    (λ q. is_some (get_by (λ n. same_word q.now n.now) l.inerts))) (take l.i l.words)
