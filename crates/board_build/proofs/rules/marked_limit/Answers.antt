-- If there are at most 65,535 words, they name at most 65,535 pins.
use Rattle.std.proofs.Common.{◌≡◌, ◌∙◌, length, map, [], ap, sym, arith, Some, None}
use Rattle.std.specs.Prelude.{nat_lt, false, if◌then◌else◌}
use Rattle.std.proofs.lemmas.List.{length-map}
use Rattle.std.proofs.lemmas.Result.{IfOk-weaker}
use Rattle.board_defs.specs.Limits.{most_pins}
use Rattle.first_places.specs.Places.{once}
use Rattle.first_places.proofs.OnceLemmas.{once_few}
use Rattle.board_lines.specs.declared.fault.BoardFault.TheVariants.{Limit}
use Rattle.board_lines.specs.declared.limit.Limit.TheVariants.{Pins}
use Rattle.board_lines.specs.BoardLimits.{limit_number}
use Rattle.board_build.specs.inner.Marked.{marked_limit, same_pins, seen_word}
use Rattle.board_lines.proofs.DifferLemmas.{same_lent}
use Rattle.board_build.proofs.SeenLemmas.{pins_counted}
use Rattle.board_build.proofs.rules.marked_limit.Goals as goal

pub returns-then-words-le-MOST_PINS : goal.returns-then-words-le-MOST_PINS
unfolding marked_limit
returns-then-words-le-MOST_PINS c =
    let few = once_few same_pins [] (map seen_word c.args.words.now) in
    let count = length-map c.args.words.now seen_word in
    let past : nat_lt most_pins (length (once same_pins (map seen_word c.args.words.now)))
    ≡ false = grind (arith, few, count, c.if-words-le-MOST_PINS.true) in
    ap (λ b. if b then Some (Limit (limit_number Pins)) else None) (sym past)

pub returns : goal.returns
unfolding marked_limit
returns c =
    IfOk-weaker c.pin_limit.result _ _
    (λ fault e. e
    ∙ ap (λ n. if nat_lt most_pins n then Some (Limit (limit_number Pins)) else None)
    (ap (λ v. length (once same_lent v)) (c.deref.ensures.value ∙ c.in_ok-pins.ensures)
    ∙ pins_counted c.args.words.now)) c.pin_limit.ensures
