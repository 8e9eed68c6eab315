-- Each step of the loop reads one more line. A line without words gives no value.
use Rattle.std.proofs.Common.{◌≡◌, ◌+◌, ◌<◌, ◌≤◌, ◌^◌, ◌++◌, ◌∷◌, [], length, map, ap, ◌∙◌, sym, Ok, rules, arith}
use Rattle.std.specs.Prelude.{option_copied}
use Rattle.std.proofs.lemmas.List.{length-map, length_push}
use Rattle.text_lines.specs.Words.{lines_of}
use Rattle.board_files.specs.Reading.{◌>>=◌, lines_from, lines_of_text}
use Rattle.board_files.proofs.LineLemmas.{front, at_line, at_words, at_blank, front_step, fails_first}
use Rattle.text_lines.proofs.LineLemmas.{count_at, count_more, count_same, at_some, next_place, line_within, has_bytes}
use Rattle.board_files.proofs.lines.read_lines.Goals as goal
use Rattle.board_files.proofs.lines.read_lines.Goals.{then-not-is_empty+in_ok-from_words+in_ok-push, else-not-is_empty}

pub overflow_cast-number : goal.overflow_cast-number
overflow_cast-number g c =
    let filled : 0 < length c.in_ok-words.words.items = search rules in
    let bytes = has_bytes (λ w. w.now) c.in_ok-words.words.items c.first_line.result.0.now c.in_ok-words.ensures filled in
    let within = line_within (λ rest. rest.now) c.first_line.result.1 c.first_line.result.0.now
    c.in-Some.left.now c.first_line.ensures.shorter c.first_line.ensures.whole in
    let place : c.loop-rest.number + length c.in-Some.left.now
    ≤ 1 + length c.args.text.items.now = at_some
    (λ text. c.loop-rest.number + length text.now ≤ 1 + length c.args.text.items.now)
    c.loop-rest.rest c.in-Some.left c.in-Some.is c.loop-rest.invariant.place in
    let small : c.loop-rest.number < 2 ^ 32 = omega (arith, bytes, within, place, c.args.text.short) in
    search (rules, small)

pub loop-rest-preserved : goal.loop-rest-preserved
loop-rest-preserved g c =
    let here = at_line g.L.FileLine.read c.loop-rest.number c.loop-rest.lines.items
    (lines_of_text g.L.FileLine.read c.args.text.items.now) (option_copied c.loop-rest.rest)
    c.in-Some.left.now c.first_line.result.0.now
    (lines_of (option_copied c.first_line.result.1))
    (map (λ w. w.now) c.in_ok-words.words.items) c.loop-rest.invariant.read
    (ap option_copied c.in-Some.is) c.first_line.ensures.lines c.in_ok-words.ensures in
    record {
      read =
          elim c.if-not-is_empty.branch [
            | then-not-is_empty+in_ok-from_words+in_ok-push w ↦
                let filled : 0 < length (map (λ w. w.now) c.in_ok-words.words.items) = rw length-map (search rules) in
                let pushed = front_step c.loop-rest.lines.items w.in_ok-from_words.field-0
                (g.L.FileLine.read c.loop-rest.number (map (λ w. w.now) c.in_ok-words.words.items))
                (lines_from g.L.FileLine.read (c.loop-rest.number + 1)
                (lines_of (option_copied c.first_line.result.1)))
                (lines_of_text g.L.FileLine.read c.args.text.items.now)
                (at_words g.L.FileLine.read c.loop-rest.number c.loop-rest.lines.items
                (lines_of_text g.L.FileLine.read c.args.text.items.now)
                (lines_from g.L.FileLine.read (c.loop-rest.number + 1)
                (lines_of (option_copied c.first_line.result.1)))
                (map (λ w. w.now) c.in_ok-words.words.items) here filled)
                (rw w.deref.ensures.value at w.in_ok-from_words.ensures) in
                let items : c.if-not-is_empty.lines.items ≡ c.loop-rest.lines.items ++ w.in_ok-from_words.field-0 ∷ [] = search rules in
                pushed
                ∙ sym
                (ap
                (λ values. front values
                (lines_from g.L.FileLine.read (c.loop-rest.number + 1)
                (lines_of (option_copied c.first_line.result.1)))) items)
            | else-not-is_empty w ↦
                let none : length (map (λ w. w.now) c.in_ok-words.words.items) ≡ 0 = rw length-map (search rules) in
                let same = at_blank g.L.FileLine.read c.loop-rest.number c.loop-rest.lines.items
                (lines_of_text g.L.FileLine.read c.args.text.items.now)
                (lines_from g.L.FileLine.read (c.loop-rest.number + 1)
                (lines_of (option_copied c.first_line.result.1)))
                (map (λ w. w.now) c.in_ok-words.words.items) here none in
                let items : c.if-not-is_empty.lines.items ≡ c.loop-rest.lines.items = search rules in
                same
                ∙ sym
                (ap
                (λ values. front values
                (lines_from g.L.FileLine.read (c.loop-rest.number + 1)
                (lines_of (option_copied c.first_line.result.1)))) items)
          ];
      count =
          let within = count_at (option_copied c.loop-rest.rest) c.in-Some.left.now
          (length c.loop-rest.lines.items) (length c.args.text.items.now)
          (ap option_copied c.in-Some.is) c.loop-rest.invariant.count in
          elim c.if-not-is_empty.branch [
            | then-not-is_empty+in_ok-from_words+in_ok-push w ↦
                let some : 0 < length c.in_ok-words.words.items = search rules in
                let filled = has_bytes (λ w. w.now) c.in_ok-words.words.items c.first_line.result.0.now c.in_ok-words.ensures some in
                let items : c.if-not-is_empty.lines.items ≡ c.loop-rest.lines.items ++ w.in_ok-from_words.field-0 ∷ [] = search rules in
                rw (items, length_push)
                (count_more (λ rest. rest.now) c.first_line.result.1 c.first_line.result.0.now
                c.in-Some.left.now (length c.loop-rest.lines.items)
                (length c.args.text.items.now) c.first_line.ensures.shorter
                c.first_line.ensures.whole filled within)
            | else-not-is_empty w ↦
                let items : c.if-not-is_empty.lines.items ≡ c.loop-rest.lines.items = search rules in
                rw items
                (count_same (λ rest. rest.now) c.first_line.result.1 c.first_line.result.0.now
                c.in-Some.left.now (length c.loop-rest.lines.items)
                (length c.args.text.items.now) c.first_line.ensures.shorter within)
          ];
      place =
          next_place (λ rest. rest.now) c.first_line.result.1 c.first_line.result.0.now
          c.in-Some.left.now c.loop-rest.number (length c.args.text.items.now)
          c.first_line.ensures.shorter
          (at_some (λ text. c.loop-rest.number + length text.now ≤ 1 + length c.args.text.items.now)
          c.loop-rest.rest c.in-Some.left c.in-Some.is c.loop-rest.invariant.place);
    }

pub returns-in_err-from_words-clause-read : goal.returns-in_err-from_words-clause-read
returns-in_err-from_words-clause-read g c =
    let here = at_line g.L.FileLine.read c.loop-rest.number c.loop-rest.lines.items
    (lines_of_text g.L.FileLine.read c.args.text.items.now) (option_copied c.loop-rest.rest)
    c.in-Some.left.now c.first_line.result.0.now
    (lines_of (option_copied c.first_line.result.1))
    (map (λ w. w.now) c.in_ok-words.words.items) c.loop-rest.invariant.read
    (ap option_copied c.in-Some.is) c.first_line.ensures.lines c.in_ok-words.ensures in
    let filled : 0 < length (map (λ w. w.now) c.in_ok-words.words.items) = rw length-map (search rules) in
    let all = at_words g.L.FileLine.read c.loop-rest.number c.loop-rest.lines.items
    (lines_of_text g.L.FileLine.read c.args.text.items.now)
    (lines_from g.L.FileLine.read (c.loop-rest.number + 1)
    (lines_of (option_copied c.first_line.result.1)))
    (map (λ w. w.now) c.in_ok-words.words.items) here filled in
    let fails = fails_first c.in_err-from_words.field-0.0 c.loop-rest.lines.items
    (g.L.FileLine.read c.loop-rest.number (map (λ w. w.now) c.in_ok-words.words.items))
    (λ v. lines_from g.L.FileLine.read (c.loop-rest.number + 1)
    (lines_of (option_copied c.first_line.result.1)) >>= (λ vs. Ok (v ∷ vs)))
    (lines_of_text g.L.FileLine.read c.args.text.items.now) all
    (rw c.deref.ensures.value at c.in_err-from_words.ensures) in
    search (rules, fails)
