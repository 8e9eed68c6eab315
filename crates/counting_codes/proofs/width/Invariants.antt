use Rattle.std.proofs.Common.{◌≡◌, ℕ, ◌+◌, ◌-◌, ◌^◌, ◌<◌}
use Rattle.counting_codes.proofs.width.Given as goal

-- `words` is 2 to the power of `width`, and 2 to the power of any smaller width is less than `n + 2`
abbrev pub invariant-loop-words : goal.invariant-loop-words
invariant-loop-words l = record {
  words : l.words ≡ 2 ^ l.width;
  few : l.width < l.words;
  least : (less : ℕ) → less < l.width → 2 ^ less < l.n + 2;
}

abbrev pub decreases-loop-words : goal.decreases-loop-words
decreases-loop-words l = l.n + 2 - l.words
