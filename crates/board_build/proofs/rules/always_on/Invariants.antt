use Rattle.std.proofs.Common.{◌≡◌, ◌&&◌, ◌++◌, drop, nat_lt}
use Rattle.std.specs.Prelude.{filter}
use Rattle.board_build.proofs.rules.always_on.Given as goal

-- The always-on drivers found so far, followed by those among the remaining words, are the
-- always-on drivers among all words.
abbrev pub invariant-loop-word : goal.invariant-loop-word
invariant-loop-word l =
    filter (λ w. nat_lt w.net l.nets && w.always_on) l.words
    ≡ l.drivers.items
    ++ filter (λ w. nat_lt w.net l.nets && w.always_on) (drop l.word-index l.words)
