use Rattle.std.proofs.Common.{◌≡◌, ◌&&◌, drop}
use Rattle.std.specs.Prelude.{find, is_none}
use Rattle.board_build.proofs.rules.unknown_pin.Given as goal

-- none of the words visited so far names an unknown pin, that is, a pin of a described part that
-- has no place
abbrev pub invariant-loop-word : goal.invariant-loop-word
invariant-loop-word l =
    find (λ w. w.described && is_none w.at) l.words
    ≡ find (λ w. w.described && is_none w.at) (drop l.word-index l.words)
