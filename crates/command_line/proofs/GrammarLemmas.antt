-- Lemmas about a loop that adds an argument for each word to a command.
use Rattle.std.proofs.Common.{◌≡◌, ◌<◌, ◌+◌, ℕ, suc, List, [], ◌∷◌, ◌∙◌, length, map, take, slice_index_or, sym, ap, arith}
use Rattle.std.specs.Borrow.{Bor}
use Rattle.std.proofs.Math.Seq.{take-suc}
use Rattle.std.proofs.lemmas.List.{map-append}
use Rattle.std.proofs.lemmas.List.Sums.{fold-append}
use Rattle.clap.specs.Simple.{new_app}
use Rattle.command_line.specs.inner.App.{with_word, worded_app}
use Rattle.command_line.specs.Words.{Text}

abbrev pub now_of : Bor Text → Text
now_of word = word.now

-- one step of the loop: the argument for word `k` is added
pub one_more : (name : Text) (words : List (Bor Text)) (k : ℕ) (d : Bor Text) → k < length words
    → with_word (worded_app name (map now_of (take k words))) (now_of (slice_index_or words k d))
    ≡ worded_app name (map now_of (take (k + 1) words))
one_more name words k d within =
    let next : suc k ≡ k + 1 = omega arith in
    sym (fold-append with_word (new_app name) (map now_of (take k words)) (now_of (slice_index_or words k d) ∷ []))
    ∙ ap (worded_app name)
    (sym (map-append now_of (take k words) (slice_index_or words k d ∷ []))
    ∙ ap (map now_of) (sym (take-suc words k d within)))
    ∙ ap (λ (n : ℕ). worded_app name (map now_of (take n words))) next
