-- A step of the lexer finds the next token, the end of the text, or the first fault.
use Rattle.std.proofs.Common.{◌≡◌, ℕ, ◌+◌, ◌-◌, ◌<◌, ◌≤◌, List, [], ◌∷◌, ◌++◌, length, take, drop, Bool, true, false, cond, Option, Some, None, Result, Ok, Err, refl, sym, ◌∙◌, ap, subst, arith, length-drop, nat_eq}
use Rattle.std.proofs.Math.Seq.{take-add, drop-length}
use Rattle.std.proofs.lemmas.Bool.Decides.{nat_tests}
use Rattle.std.proofs.lemmas.List.{take-append-drop}
use Rattle.std.specs.List.{slice_range}
use Rattle.bsdl_lexer.specs.declared.token.Token.{Token}
use Rattle.bsdl_lexer.specs.declared.token.TokenKind.{TokenKind}
use Rattle.bsdl_lexer.specs.declared.token.LexFault.{LexFault}
use Rattle.bsdl_lexer.specs.declared.token.LexFault.TheVariants.{Byte, OpenString}
use Rattle.bsdl_lexer.specs.Forms.{begins_comment, begins_gap, quote}
use Rattle.bsdl_lexer.specs.Tokens.{line_feeds, line_of_place, Separates, IsToken}
use Rattle.bsdl_lexer.specs.Answer.{BeginsToken, BeginsOpenText, BeginsNothing}
use Rattle.bsdl_lexer.specs.inner.Lengths.{gap_len, token_at}
use Rattle.bsdl_lexer.specs.inner.Steps.{bad_byte, token_of, step_with, step_at, step}
use Rattle.bsdl_lexer.proofs.Longest.{IsWithin, within}
use Rattle.bsdl_lexer.proofs.Found.{IsFront, found_front, some_token}
use Rattle.bsdl_lexer.proofs.Gaps.{ends_gap}
use Rattle.bsdl_lexer.proofs.OpenTexts.{begins_open, open_no_token, open_no_gap}
use Rattle.bsdl_lexer.proofs.LineFeeds.{line_feeds-append, no_line_feeds}
use Rattle.bsdl_lexer.proofs.Places.{drop-sum, separates_found, separates_to, no_gap, some_bytes, token_is_found, found_is_token}

pub line_past : (text : List ℕ) (place n line : ℕ) → line ≡ line_of_place text place
    → line + line_feeds (take n (drop place text)) ≡ line_of_place text (place + n)
line_past text place n line e =
    let whole : line_feeds (take (place + n) text)
    ≡ line_feeds (take place text ++ take n (drop place text)) = ap line_feeds
    (take-add place n text) in
    let sum : line_feeds (take place text ++ take n (drop place text))
    ≡ line_feeds (take place text) + line_feeds (take n (drop place text)) = line_feeds-append
    (take place text) (take n (drop place text)) in
    let here : line ≡ 1 + line_feeds (take place text) = e in
    let there : line_of_place text (place + n) ≡ 1 + line_feeds (take (place + n) text) = refl in
    omega (arith, whole, sum, here, there)

-- a token contains no line feed, so it ends on the line on which it starts
pub line_behind : (text : List ℕ) (token : Token) → IsToken text token → token.line ≡ line_of_place text token.«end»
line_behind text token h =
    let some : token.start < token.«end» = some_bytes text token.start token.«end» token.kind h.form in
    let none : line_feeds (take (token.«end» - token.start) (drop token.start text))
    ≡ 0 = no_line_feeds token.kind (slice_range text token.start token.«end») h.form in
    let on : token.line + line_feeds (take (token.«end» - token.start) (drop token.start text))
    ≡ line_of_place text (token.start + (token.«end» - token.start)) = line_past text
    token.start (token.«end» - token.start) token.line h.line in
    let same : token.start + (token.«end» - token.start) ≡ token.«end» = omega arith in
    let here : token.line + line_feeds (take (token.«end» - token.start) (drop token.start text))
    ≡ line_of_place text token.«end» = on ∙ ap (line_of_place text) same in
    omega (arith, none, here)

pub begins_found : (rest : List ℕ) (h : BeginsToken rest) → IsWithin rest h.kind (length (take h.len rest))
begins_found rest h =
    let split : take h.len rest ++ drop h.len rest ≡ rest = take-append-drop h.len rest in
    subst (λ xs. IsWithin xs h.kind (length (take h.len rest))) split
    (within h.kind (take h.len rest) (drop h.len rest) h.form
    (subst (λ xs. begins_comment xs ≡ false) (sym split) h.no_comment))

pub found_begins : (rest : List ℕ) (kind : TokenKind) (len : ℕ) → token_at rest ≡ some_token kind len → BeginsToken rest
found_begins rest kind len e =
    let f : IsFront rest kind len = found_front rest kind len e in
    record { kind = kind; len = len; form = f.form; no_comment = f.no_comment }

none_begins : (rest : List ℕ) → token_at rest ≡ None → BeginsToken rest → ⊥
none_begins rest e h = let w = begins_found rest h in let z : None ≡ some_token h.kind w.len = sym e ∙ w.found in cc

none_found : (rest : List ℕ) → (BeginsToken rest → ⊥) → (o : Option (TokenKind × ℕ)) → token_at rest ≡ o → token_at rest ≡ None
none_found rest n None e = e
none_found rest n (Some t) e = absurd (n (found_begins rest t.0 t.1 e))

-- the bytes after the gap that `gap_len` finds at `place`
abbrev rest_at : List ℕ → ℕ → List ℕ
rest_at text place = drop (place + gap_len false (drop place text)) text

abbrev line_at : List ℕ → ℕ → ℕ → ℕ
line_at text place line = line + line_feeds (take (gap_len false (drop place text)) (drop place text))

no_gap_behind : (text : List ℕ) (place : ℕ) → begins_gap (rest_at text place) ≡ false
no_gap_behind text place = ap begins_gap (drop-sum place (gap_len false (drop place text)) text) ∙ ends_gap (drop place text)

-- the step from `place` has the right result: the next token, the end of the text, an open string,
-- or a byte at which nothing begins
pub data Found (text : List ℕ) (place line : ℕ) : Result (Option Token) LexFault → Type 0 where
  next : (token : Token) → Separates text place token.start → IsToken text token → Found text place line (Ok (Some token))
  at_end : Separates text place (length text) → Found text place line (Ok None)
  open_text : (at : ℕ) → Separates text place at → BeginsOpenText (drop at text)
      → Found text place line (Err (OpenString (line_of_place text at)))
  no_token : (at : ℕ) → Separates text place at → BeginsNothing (drop at text) → Found text place line (Err (Byte (line_of_place text at)))

end_reached : (text : List ℕ) (at : ℕ) → at ≤ length text → drop at text ≡ [] → at ≡ length text
end_reached text at le e = let none : length (drop at text) ≡ 0 = ap length e in omega (arith, none, length-drop at text)

found_bad : (text : List ℕ) (place at line first : ℕ) (others : List ℕ) → Separates text place at
    → drop at text ≡ first ∷ others → begins_gap (drop at text) ≡ false
    → token_at (drop at text) ≡ None
    → Found text place line (Err (bad_byte first (line_of_place text at)))
found_bad text place at line first others s e n none = go (nat_eq first quote) refl
  where
    go : (b : Bool) → nat_eq first quote ≡ b
        → Found text place line
        (Err (cond b (OpenString (line_of_place text at)) (Byte (line_of_place text at))))
    go true q =
        let starts : drop at text ≡ quote ∷ others = e ∙ ap (λ x. x ∷ others) (grind (arith, nat_tests)) in
        open_text at s (subst BeginsOpenText (sym starts) (begins_open others (sym (ap token_at starts) ∙ none)))
    go false q =
        no_token at s
        (record {
          first = first;
          others = others;
          parts = e;
          no_gap = n;
          no_token = none_begins
              (drop at text) none;
          no_text = λ same.
              (let z : nat_eq quote quote ≡ false = ap (λ x. nat_eq x quote) (sym same) ∙ q in cc);
        })

pub step_finds : (text : List ℕ) (place line : ℕ) → place ≤ length text
    → line ≡ line_of_place text place → Found text place line (step text place line)
step_finds text place line le l = by_rest (rest_at text place) refl
  where
    at : ℕ
    at = place + gap_len false (drop place text)

    s : Separates text place at
    s = separates_found text place le

    here : line_at text place line ≡ line_of_place text at
    here = line_past text place (gap_len false (drop place text)) line l

    by_token : (first : ℕ) (others : List ℕ) → rest_at text place ≡ first ∷ others
        → (o : Option (TokenKind × ℕ)) → token_at (first ∷ others) ≡ o
        → Found text place line (step_with at (line_at text place line) first o)
    by_token first others e None t =
        subst (λ n. Found text place line (Err (bad_byte first n))) (sym here)
        (found_bad text place at line first others s e (no_gap_behind text place)
        (ap token_at e ∙ t))
    by_token first others e (Some found) t =
        next (token_of at (line_at text place line) found) s
        (found_is_token text at (line_at text place line) found.0 found.1 s.within
        (ap token_at e ∙ t) here)

    by_rest : (rest : List ℕ) → rest_at text place ≡ rest → Found text place line (step_at at (line_at text place line) rest)
    by_rest [] e = at_end (subst (Separates text place) (end_reached text at s.within e) s)
    by_rest (first ∷ others) e = by_token first others e (token_at (first ∷ others)) refl

step_from : (text : List ℕ) (place at line : ℕ) (rest : List ℕ) → Separates text place at
    → begins_gap (drop at text) ≡ false → line ≡ line_of_place text place → drop at text ≡ rest
    → step text place line ≡ step_at at (line_of_place text at) rest
step_from text place at line rest s none l e =
    let same : place + gap_len false (drop place text) ≡ at = separates_to text place at s none in
    let here : line_at text place line
    ≡ line_of_place text at = line_past text place (gap_len false (drop place text)) line l
    ∙ ap (line_of_place text) same in
    ap (λ n. step_at n (line_at text place line) (drop n text)) same
    ∙ ap (λ n. step_at at n (drop at text)) here ∙ ap (step_at at (line_of_place text at)) e

pub step_to_token : (text : List ℕ) (place line : ℕ) (token : Token)
    → Separates text place token.start → IsToken text token → line ≡ line_of_place text place
    → step text place line ≡ Ok (Some token)
step_to_token text place line token s h l = by_rest (drop token.start text) refl
  where
    none : begins_gap (drop token.start text) ≡ false
    none = no_gap token.kind (token.«end» - token.start) (drop token.start text) h.form h.no_comment

    found : token_at (drop token.start text) ≡ some_token token.kind (token.«end» - token.start)
    found = token_is_found text token h

    same : token_of token.start (line_of_place text token.start) (token.kind, token.«end» - token.start) ≡ token
    same =
        let some : token.start < token.«end» = some_bytes text token.start token.«end» token.kind h.form in
        let ends : token.start + (token.«end» - token.start) ≡ token.«end» = omega arith in
        ap (λ n. record { kind = token.kind; start = token.start; «end» = n; line = line_of_place text token.start }) ends
        ∙ ap (λ n. record { kind = token.kind; start = token.start; «end» = token.«end»; line = n }) (sym h.line)

    by_rest : (rest : List ℕ) → drop token.start text ≡ rest → step text place line ≡ Ok (Some token)
    by_rest [] e = let z : None ≡ some_token token.kind (token.«end» - token.start) = sym (ap token_at e) ∙ found in cc
    by_rest (first ∷ others) e =
        step_from text place token.start line (first ∷ others) s none l e
        ∙ ap (step_with token.start (line_of_place text token.start) first) (sym (ap token_at e) ∙ found)
        ∙ ap (λ t. Ok (Some t)) same

pub step_to_begin : (text : List ℕ) (place at line : ℕ) → Separates text place at
    → (b : BeginsToken (drop at text)) → line ≡ line_of_place text place
    → step text place line ≡ Ok (Some (token_of at (line_of_place text at) (b.kind, (begins_found (drop at text) b).len)))
step_to_begin text place at line s b l = by_rest (drop at text) refl
  where
    found : token_at (drop at text) ≡ some_token b.kind (begins_found (drop at text) b).len
    found = (begins_found (drop at text) b).found

    by_rest : (rest : List ℕ) → drop at text ≡ rest
        → step text place line
        ≡ Ok
        (Some
        (token_of at (line_of_place text at) (b.kind, (begins_found (drop at text) b).len)))
    by_rest [] e = let z : None ≡ some_token b.kind (begins_found (drop at text) b).len = sym (ap token_at e) ∙ found in cc
    by_rest (first ∷ others) e =
        step_from text place at line (first ∷ others) s (no_gap b.kind b.len (drop at text) b.form b.no_comment) l e
        ∙ ap (step_with at (line_of_place text at) first) (sym (ap token_at e) ∙ found)

pub step_to_end : (text : List ℕ) (place line : ℕ) → Separates text place (length text)
    → line ≡ line_of_place text place → step text place line ≡ Ok None
step_to_end text place line s l =
    let none : drop (length text) text ≡ [] = drop-length text in
    step_from text place (length text) line [] s (ap begins_gap none) l none

step_bad : (text : List ℕ) (place at line first : ℕ) (others : List ℕ) → Separates text place at
    → begins_gap (drop at text) ≡ false → line ≡ line_of_place text place
    → drop at text ≡ first ∷ others → token_at (drop at text) ≡ None
    → step text place line ≡ Err (bad_byte first (line_of_place text at))
step_bad text place at line first others s none l e t =
    step_from text place at line (first ∷ others) s none l e ∙ ap (step_with at (line_of_place text at) first) (sym (ap token_at e) ∙ t)

pub step_to_open_text : (text : List ℕ) (place at line : ℕ) → Separates text place at
    → BeginsOpenText (drop at text) → line ≡ line_of_place text place
    → step text place line ≡ Err (OpenString (line_of_place text at))
step_to_open_text text place at line s h l =
    step_bad text place at line quote (h.inner ++ h.more) s (open_no_gap (drop at text) h) l h.parts
    (open_no_token (drop at text) h)

pub step_to_byte : (text : List ℕ) (place at line : ℕ) → Separates text place at
    → BeginsNothing (drop at text) → line ≡ line_of_place text place
    → step text place line ≡ Err (Byte (line_of_place text at))
step_to_byte text place at line s h l =
    step_bad text place at line h.first h.others s h.no_gap l h.parts (none_found (drop at text) h.no_token (token_at (drop at text)) refl)
    ∙ ap (λ b. Err (cond b (OpenString (line_of_place text at)) (Byte (line_of_place text at)))) (not_quote h.first h.no_text)
  where
    not_quote : (first : ℕ) → (first ≡ quote → ⊥) → nat_eq first quote ≡ false
    not_quote first n = grind (arith, nat_tests)
