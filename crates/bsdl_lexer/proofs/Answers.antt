-- A text has exactly one answer, and reading the text in steps finds it. The answer is all tokens of the text, or its first fault and the
-- tokens before it.
use Rattle.std.proofs.Common.{◌≡◌, ℕ, zero, suc, ◌+◌, ◌-◌, ◌<◌, ◌≤◌, List, [], ◌∷◌, ◌++◌, length, take, drop, Option, Some, None, Result, Ok, Err, ◌⊎◌, inl, inr, refl, sym, ◌∙◌, ap, subst, arith, append_assoc, append-nil, length-append, nat_eq}
use Rattle.std.specs.Prelude.{IfSome}
use Rattle.std.proofs.lemmas.Bool.{cases_lt}
use Rattle.std.proofs.lemmas.Option.{IfSome_then}
use Rattle.answers.specs.Gives.{Gives}
use Rattle.std.proofs.lemmas.List.{length-take-le}
use Rattle.std.proofs.lemmas.List.Sums.{count_by-le-length}
use Rattle.bsdl_lexer.specs.declared.token.Token.{Token}
use Rattle.bsdl_lexer.specs.declared.token.LexFault.{LexFault}
use Rattle.bsdl_lexer.specs.declared.token.LexFault.TheVariants.{Byte, OpenString, TooMany, Memory}
use Rattle.bsdl_lexer.specs.Forms.{line_feed}
use Rattle.bsdl_lexer.specs.Tokens.{line_feeds, line_of_place, Separates, IsToken, Stand, token_limit}
use Rattle.bsdl_lexer.specs.Answer.{BeginsToken, StopsAt, IsLexAnswer, AreFirst, lex_told}
use Rattle.bsdl_lexer.specs.inner.Steps.{token_of, step}
use Rattle.bsdl_lexer.proofs.Places.{some_bytes}
use Rattle.bsdl_lexer.proofs.Steps.{Found, next, at_end, open_text, no_token, line_behind, begins_found, step_finds, step_to_token, step_to_begin, step_to_end, step_to_open_text, step_to_byte}

-- a walk: the lexer's steps that begin at `place` on `line` find these tokens, and end at `to` on `last_line`
abbrev pub Walk : List ℕ → ℕ → ℕ → List Token → ℕ → ℕ → Type 0
Walk text place line [] to last_line = (place ≡ to) × (line ≡ last_line)
Walk text place line (token ∷ tokens) to last_line =
    (step text place line ≡ Ok (Some token)) × Walk text token.«end» token.line tokens to last_line

-- How a walk ends that has found these tokens. The first argument is the result of the next step. If the step
-- reaches the end of the text, the answer is `Ok`. If it finds a fault, the answer is this fault. If it finds
-- another token, the walk must have found `token_limit` tokens, and the answer is `TooMany` with the line of the
-- other token.
abbrev pub Ends : Result (Option Token) LexFault → List Token → Result (Unit {0}) LexFault → Type 0
Ends (Ok None) tokens answer = answer ≡ Ok tt
Ends (Ok (Some token)) tokens answer = (length tokens ≡ token_limit) × (answer ≡ Err (TooMany token.line))
Ends (Err fault) tokens answer = answer ≡ Err fault

-- the lexer's steps from the front of the text find these tokens and end with this answer
pub record Lexed (text : List ℕ) (tokens : List Token) (answer : Result (Unit {0}) LexFault) : Type 0 where
  pub to : ℕ
  pub line : ℕ
  pub walk : Walk text 0 1 tokens to line
  pub limit : length tokens ≤ token_limit
  pub ends : Ends (step text to line) tokens answer

-- the place is in the text and on this line
pub record OnLine (text : List ℕ) (place line : ℕ) : Type 0 where
  pub within : place ≤ length text
  pub line_is : line ≡ line_of_place text place

pub at_start : (text : List ℕ) → OnLine text 0 1
at_start text = record { within = omega arith; line_is = refl }

-- The token is the first token of the text at or after `place`. It ends in the text, on the line where it
-- begins, and after `place`.
pub record IsNext (text : List ℕ) (place : ℕ) (token : Token) : Type 0 where
  pub gap : Separates text place token.start
  pub is : IsToken text token
  pub after : OnLine text token.«end» token.line
  pub further : place < token.«end»

found_next : (text : List ℕ) (place line : ℕ) (token : Token) → Separates text place token.start
    → IsToken text token → IsNext text place token
found_next text place line token s h = record {
  gap = s;
  is = h;
  after = record { within = h.within; line_is = line_behind text token h };
  further =
      (let some : token.start
      < token.«end» = some_bytes text token.start token.«end» token.kind h.form in
      let order : place ≤ token.start = s.order in
      omega arith);
}

pub is_next : (text : List ℕ) (place line : ℕ) (token : Token) → OnLine text place line
    → step text place line ≡ Ok (Some token) → IsNext text place token
is_next text place line token on e = go (step text place line) e (step_finds text place line on.within on.line_is)
  where
    go : (r : Result (Option Token) LexFault) → r ≡ Ok (Some token) → Found text place line r → IsNext text place token
    go _ e (next t s h) = let same : t ≡ token = cc in subst (IsNext text place) same (found_next text place line t s h)
    go _ e (at_end s) = cc
    go _ e (open_text at s h) = cc
    go _ e (no_token at s h) = cc

pub walk_line : (text : List ℕ) (tokens : List Token) (place line to last_line : ℕ)
    → OnLine text place line → Walk text place line tokens to last_line → OnLine text to last_line
walk_line text [] place line to last_line on w = subst (λ n. OnLine text to n) w.1 (subst (λ n. OnLine text n line) w.0 on)
walk_line text (token ∷ tokens) place line to last_line on w =
    walk_line text tokens token.«end» token.line to last_line
    (is_next text place line token on w.0).after w.1

walk_stands : (text : List ℕ) (tokens : List Token) (place line to last_line stop : ℕ)
    → OnLine text place line → Walk text place line tokens to last_line → Separates text to stop
    → Stand text place tokens stop
walk_stands text [] place line to last_line stop on w s = subst (λ n. Separates text n stop) (sym w.0) s
walk_stands text (token ∷ tokens) place line to last_line stop on w s =
    let n : IsNext text place token = is_next text place line token on w.0 in (
      n.gap,
      n.is,
      walk_stands text tokens token.«end» token.line to last_line stop n.after w.1 s,
    )

pub walk_on : (text : List ℕ) (tokens : List Token) (place line to last_line : ℕ) (token : Token)
    → Walk text place line tokens to last_line → step text to last_line ≡ Ok (Some token)
    → Walk text place line (tokens ++ token ∷ []) token.«end» token.line
walk_on text [] place line to last_line token w e = (ap (λ n. step text n line) w.0 ∙ ap (step text to) w.1 ∙ e, (refl, refl))
walk_on text (first ∷ tokens) place line to last_line token w e = (w.0, walk_on text tokens first.«end» first.line to last_line token w.1 e)

-- A walk from `place` on `line` finds these tokens and ends at `to`, on line `last_line`, which is the line
-- of `to`. There is only a gap (blanks and comments) between `to` and `stop`.
record Walked (text : List ℕ) (place line : ℕ) (tokens : List Token) (stop : ℕ) : Type 0 where
  to : ℕ
  last_line : ℕ
  walk : Walk text place line tokens to last_line
  gap : Separates text to stop
  line_is : last_line ≡ line_of_place text to

walked : (text : List ℕ) (tokens : List Token) (place line stop : ℕ)
    → line ≡ line_of_place text place → Stand text place tokens stop
    → Walked text place line tokens stop
walked text [] place line stop l h = record { to = place; last_line = line; walk = (refl, refl); gap = h; line_is = l }
walked text (token ∷ tokens) place line stop l h =
    let k : Walked text token.«end» token.line tokens stop = walked text tokens token.«end»
    token.line stop (line_behind text token h.1) h.2 in
    record {
      to = k.to;
      last_line = k.last_line;
      walk =
          (step_to_token text place line token h.0 h.1 l, k.walk);
      gap = k.gap;
      line_is =
          k.line_is;
    }

pub lexed_answer : (text : List ℕ) (tokens : List Token) (answer : Result (Unit {0}) LexFault)
    → Lexed text tokens answer → IsLexAnswer text tokens answer
lexed_answer text tokens answer h = go (step text h.to h.line) (step_finds text h.to h.line on.within on.line_is) h.ends
  where
    on : OnLine text h.to h.line
    on = walk_line text tokens 0 1 h.to h.line (at_start text) h.walk

    stops : (at : ℕ) → Separates text h.to at → StopsAt text tokens at (line_of_place text at)
    stops at s = record { before = walk_stands text tokens 0 1 h.to h.line at (at_start text) h.walk s; limit = h.limit; line_is = refl }

    go : (r : Result (Option Token) LexFault) → Found text h.to h.line r → Ends r tokens answer → IsLexAnswer text tokens answer
    go _ (next token s k) e =
        let begins : BeginsToken (drop token.start text) = record {
          kind = token.kind;
          len = token.«end» - token.start;
          form = k.form;
          no_comment =
              k.no_comment;
        } in
        let P : ℕ → Type 0 = λ n. IsLexAnswer text tokens (Err (TooMany n)) in
        subst (IsLexAnswer text tokens) (sym e.1) (subst P (sym k.line) (token.start, stops token.start s, begins, e.0))
    go _ (at_end s) e =
        subst (IsLexAnswer text tokens) (sym e)
        (record {
          whole = walk_stands text tokens 0 1 h.to h.line (length text) (at_start text) h.walk
              s;
          limit = h.limit;
        })
    go _ (open_text at s k) e = subst (IsLexAnswer text tokens) (sym e) (at, stops at s, k)
    go _ (no_token at s k) e = subst (IsLexAnswer text tokens) (sym e) (at, stops at s, k)

ends_with : (text : List ℕ) (tokens : List Token) (answer : Result (Unit {0}) LexFault) (stop : ℕ)
    → length tokens ≤ token_limit → (w : Walked text 0 1 tokens stop)
    → (r : Result (Option Token) LexFault) → step text w.to w.last_line ≡ r → Ends r tokens answer
    → Lexed text tokens answer
ends_with text tokens answer stop limit w r e ends =
    record {
      to = w.to;
      line = w.last_line;
      walk = w.walk;
      limit = limit;
      ends = subst
          (λ r. Ends r tokens answer) (sym e) ends;
    }

from_start : (text : List ℕ) (tokens : List Token) (stop : ℕ) → Stand text 0 tokens stop → Walked text 0 1 tokens stop
from_start text tokens stop h = walked text tokens 0 1 stop refl h

pub answer_lexed : (text : List ℕ) (tokens : List Token) (answer : Result (Unit {0}) LexFault)
    → IsLexAnswer text tokens answer → Lexed text tokens answer
answer_lexed text tokens (Ok done) h =
    let w : Walked text 0 1 tokens (length text) = from_start text tokens (length text) h.whole in
    ends_with text tokens (Ok done) (length text) h.limit w (Ok None) (step_to_end text w.to w.last_line w.gap w.line_is) refl
answer_lexed text tokens (Err (Byte line)) (at, s, b) =
    let w : Walked text 0 1 tokens at = from_start text tokens at s.before in
    ends_with text tokens (Err (Byte line)) at s.limit w (Err (Byte (line_of_place text at)))
    (step_to_byte text w.to at w.last_line w.gap b w.line_is) (ap (λ n. Err (Byte n)) s.line_is)
answer_lexed text tokens (Err (OpenString line)) (at, s, b) =
    let w : Walked text 0 1 tokens at = from_start text tokens at s.before in
    ends_with text tokens (Err (OpenString line)) at s.limit w
    (Err (OpenString (line_of_place text at)))
    (step_to_open_text text w.to at w.last_line w.gap b w.line_is)
    (ap (λ n. Err (OpenString n)) s.line_is)
answer_lexed text tokens (Err (TooMany line)) (at, s, b, full) =
    let w : Walked text 0 1 tokens at = from_start text tokens at s.before in
    ends_with text tokens (Err (TooMany line)) at s.limit w
    (Ok
    (Some
    (token_of at (line_of_place text at) (b.kind, (begins_found (drop at text) b).len))))
    (step_to_begin text w.to at w.last_line w.gap b w.line_is)
    (full, ap (λ n. Err (TooMany n)) s.line_is)
answer_lexed text tokens (Err (Memory error)) h = absurd h

-- Two walks from the same place are equal, or one of them has fewer tokens. The walk with fewer tokens stops at a place
-- from which the next step finds a token.
data Compared (text : List ℕ) (tokens others : List Token) (to line to' line' : ℕ) : Type 0 where
  same : tokens ≡ others → to ≡ to' → line ≡ line' → Compared text tokens others to line to' line'
  first_stops : (token : Token) → step text to line ≡ Ok (Some token)
      → length tokens < length others → Compared text tokens others to line to' line'
  second_stops : (token : Token) → step text to' line' ≡ Ok (Some token)
      → length others < length tokens → Compared text tokens others to line to' line'

longer : (text : List ℕ) (token token' : Token) (tokens others : List Token) (to line to' line' : ℕ)
    → token ≡ token' → Compared text tokens others to line to' line'
    → Compared text (token ∷ tokens) (token' ∷ others) to line to' line'
longer text token token' tokens others to line to' line' e (same t p l) = same (cc) p l
longer text token token' tokens others to line to' line' e (first_stops more s l) = first_stops more s (omega arith)
longer text token token' tokens others to line to' line' e (second_stops more s l) = second_stops more s (omega arith)

compared : (text : List ℕ) (tokens others : List Token) (place start_line to line to' line' : ℕ)
    → Walk text place start_line tokens to line → Walk text place start_line others to' line'
    → Compared text tokens others to line to' line'
compared text [] [] place start_line to line to' line' w w' = same refl (sym w.0 ∙ w'.0) (sym w.1 ∙ w'.1)
compared text [] (t ∷ ts) place start_line to line to' line' w w' =
    first_stops t (ap (λ n. step text n line) (sym w.0) ∙ ap (step text place) (sym w.1) ∙ w'.0)
    (omega arith)
compared text (t ∷ ts) [] place start_line to line to' line' w w' =
    second_stops t (ap (λ n. step text n line') (sym w'.0) ∙ ap (step text place) (sym w'.1) ∙ w.0)
    (omega arith)
compared text (t ∷ ts) (t' ∷ ts') place start_line to line to' line' w w' =
    let both : ◌≡◌ {A = Result (Option Token) LexFault} (Ok (Some t)) (Ok (Some t')) = sym w.0 ∙ w'.0 in
    let is : t ≡ t' = cc in
    let others : Walk text t.«end» t.line ts' to' line' = subst (λ (x : Token). Walk text x.«end» x.line ts' to' line') (sym is) w'.1 in
    longer text t t' ts ts' to line to' line' is (compared text ts ts' t.«end» t.line to line to' line' w.1 others)

-- if a token follows the tokens of an answer, the answer has `token_limit` tokens
full_there : (tokens : List Token) (answer : Result (Unit {0}) LexFault) (token : Token)
    (r : Result (Option Token) LexFault) → r ≡ Ok (Some token) → Ends r tokens answer
    → length tokens ≡ token_limit
full_there tokens answer token r e h = (subst (λ r. Ends r tokens answer) e h).0

one_end : (r : Result (Option Token) LexFault) (tokens : List Token)
    (answer answer' : Result (Unit {0}) LexFault) → Ends r tokens answer → Ends r tokens answer'
    → answer ≡ answer'
one_end (Ok None) tokens answer answer' h h' = h ∙ sym h'
one_end (Ok (Some token)) tokens answer answer' h h' = h.1 ∙ sym h'.1
one_end (Err fault) tokens answer answer' h h' = h ∙ sym h'

one_lexed : (text : List ℕ) (tokens others : List Token)
    (answer answer' : Result (Unit {0}) LexFault) (h : Lexed text tokens answer)
    (h' : Lexed text others answer') → Compared text tokens others h.to h.line h'.to h'.line
    → (tokens ≡ others) × (answer ≡ answer')
one_lexed text tokens others answer answer' h h' (same t p l) =
    let e : step text h'.to h'.line ≡ step text h.to h.line = ap (λ n. step text n h'.line) (sym p) ∙ ap (step text h.to) (sym l) in (
      t,
      one_end (step text h.to h.line) others answer answer'
          (subst (λ ts. Ends (step text h.to h.line) ts answer) t h.ends)
          (subst (λ r. Ends r others answer') e h'.ends),
    )
one_lexed text tokens others answer answer' h h' (first_stops token s l) =
    absurd
    (let full : length tokens
    ≡ token_limit = full_there tokens answer token (step text h.to h.line) s h.ends in
    let limit : length others ≤ token_limit = h'.limit in
    omega arith)
one_lexed text tokens others answer answer' h h' (second_stops token s l) =
    absurd
    (let full : length others
    ≡ token_limit = full_there others answer' token (step text h'.to h'.line) s h'.ends in
    let limit : length tokens ≤ token_limit = h.limit in
    omega arith)

pub one_answer : (text : List ℕ) (tokens others : List Token)
    (answer other : Result (Unit {0}) LexFault) → IsLexAnswer text tokens answer
    → IsLexAnswer text others other → (tokens ≡ others) × (answer ≡ other)
one_answer text tokens others answer other h h' =
    let k : Lexed text tokens answer = answer_lexed text tokens answer h in
    let k' : Lexed text others other = answer_lexed text others other h' in
    one_lexed text tokens others answer other k k' (compared text tokens others 0 1 k.to k.line k'.to k'.line k.walk k'.walk)

-- a walk from the front of the text finds these tokens, of which there are at most `token_limit`
pub record WalksTo (text : List ℕ) (tokens : List Token) (to line : ℕ) : Type 0 where
  pub walk : Walk text 0 1 tokens to line
  pub limit : length tokens ≤ token_limit

-- the lexer's steps find an answer whose tokens begin with these tokens
abbrev Completed : List ℕ → List Token → Type 0
Completed text tokens = (more : List Token) × (answer : Result (Unit {0}) LexFault) × Lexed text (tokens ++ more) answer

ends_here : (text : List ℕ) (tokens : List Token) (to line : ℕ)
    (answer : Result (Unit {0}) LexFault) (r : Result (Option Token) LexFault)
    → WalksTo text tokens to line → step text to line ≡ r → Ends r tokens answer
    → Completed text tokens
ends_here text tokens to line answer r w e ends =
    let h : Lexed text tokens answer = record {
      to = to;
      line = line;
      walk = w.walk;
      limit = w.limit;
      ends = subst
          (λ r. Ends r tokens answer) (sym e) ends;
    } in
    ([], answer, subst (λ ts. Lexed text ts answer) (sym (append-nil tokens)) h)

one_more : (text : List ℕ) (tokens : List Token) (token : Token) → Completed text (tokens ++ token ∷ []) → Completed text tokens
one_more text tokens token (more, answer, h) = (
  token ∷ more,
  answer,
  subst (λ ts. Lexed text ts answer) (append_assoc tokens (token ∷ []) more) h,
)

pub walks_on : (text : List ℕ) (tokens : List Token) (to line : ℕ) (token : Token)
    → WalksTo text tokens to line → step text to line ≡ Ok (Some token)
    → length tokens < token_limit → WalksTo text (tokens ++ token ∷ []) token.«end» token.line
walks_on text tokens to line token w e below =
    record {
      walk = walk_on text tokens 0 1 to line token w.walk e;
      limit = omega
          (arith, length-append tokens (token ∷ []));
    }

completed : (fuel : ℕ) (text : List ℕ) (tokens : List Token) (to line : ℕ)
    → WalksTo text tokens to line → OnLine text to line → length text < to + fuel
    → Completed text tokens
completed zero text tokens to line w on enough = absurd (let within : to ≤ length text = on.within in omega arith)
completed (suc fuel) text tokens to line w on enough = go (step text to line) refl (completed fuel text)
  where
    go : (r : Result (Option Token) LexFault) → step text to line ≡ r
        → ((tokens : List Token) (to line : ℕ) → WalksTo text tokens to line → OnLine text to line
        → length text < to + fuel → Completed text tokens) → Completed text tokens
    go (Ok None) e others = ends_here text tokens to line (Ok tt) (Ok None) w e refl
    go (Err fault) e others = ends_here text tokens to line (Err fault) (Err fault) w e refl
    go (Ok (Some token)) e others = by_room (cases_lt (length tokens) token_limit)
      where
        n : IsNext text to token
        n = is_next text to line token on e

        by_room : (length tokens < token_limit) ⊎ (token_limit ≤ length tokens) → Completed text tokens
        by_room (inl below) =
            one_more text tokens token
            (others (tokens ++ token ∷ []) token.«end» token.line
            (walks_on text tokens to line token w e below) n.after
            (let further : to < token.«end» = n.further in omega arith))
        by_room (inr full) =
            let limit : length tokens ≤ token_limit = w.limit in
            ends_here text tokens to line (Err (TooMany token.line)) (Ok (Some token)) w e
            (omega arith, refl)

pub are_first : (text : List ℕ) (tokens : List Token) (to line : ℕ) → WalksTo text tokens to line → AreFirst text tokens
are_first text tokens to line w =
    let on : OnLine text to line = walk_line text tokens 0 1 to line (at_start text) w.walk in
    let k = completed (suc (length text)) text tokens to line w on (omega arith) in
    record { more = k.0; answer = k.1; whole = lexed_answer text (tokens ++ k.0) k.1 k.2 }

pub some_answer : (text : List ℕ) → (tokens : List Token) × (answer : Result (Unit {0}) LexFault) × IsLexAnswer text tokens answer
some_answer text = let k = are_first text [] 0 1 (record { walk = (refl, refl); limit = omega arith }) in (k.more, k.answer, k.whole)

ended : (text : List ℕ) (tokens : List Token) (to line : ℕ) (answer : Result (Unit {0}) LexFault)
    (r : Result (Option Token) LexFault) → WalksTo text tokens to line → step text to line ≡ r
    → Ends r tokens answer → IsLexAnswer text tokens answer
ended text tokens to line answer r w e ends =
    lexed_answer text tokens answer
    (record {
      to = to;
      line = line;
      walk = w.walk;
      limit = w.limit;
      ends = subst
          (λ r. Ends r tokens answer) (sym e) ends;
    })

if_told : (P : LexFault → Type 0) (fault : LexFault) → P fault → IfSome (lex_told fault) P
if_told P (Memory error) p = tt
if_told P (Byte line) p = p
if_told P (OpenString line) p = p
if_told P (TooMany line) p = p

pub ends_at_fault : (text : List ℕ) (tokens : List Token) (to line : ℕ) (fault : LexFault)
    → WalksTo text tokens to line → Err fault ≡ step text to line
    → IfSome (lex_told fault) (λ f. IsLexAnswer text tokens (Err f))
ends_at_fault text tokens to line fault w e =
    if_told (λ f. IsLexAnswer text tokens (Err f)) fault
    (ended text tokens to line (Err fault) (Err fault) w (sym e) refl)

pub ends_full : (text : List ℕ) (tokens : List Token) (to line : ℕ) (token : Token)
    → WalksTo text tokens to line → Ok (Some token) ≡ step text to line
    → length tokens ≡ token_limit → IsLexAnswer text tokens (Err (TooMany token.line))
ends_full text tokens to line token w e full = ended text tokens to line (Err (TooMany token.line)) (Ok (Some token)) w (sym e) (full, refl)

pub ends_whole : (text : List ℕ) (tokens : List Token) (to line : ℕ) → WalksTo text tokens to line
    → Ok None ≡ step text to line → IsLexAnswer text tokens (Ok tt)
ends_whole text tokens to line w e = ended text tokens to line (Ok tt) (Ok None) w (sym e) refl

pub only_answer : (text : List ℕ) (tokens : List Token) (result : Result (Unit {0}) LexFault)
    → Gives lex_told (λ done. done) (IsLexAnswer text tokens) result
    → Gives lex_told (λ done. done)
    (λ answer. (others : List Token) (other : Result (Unit {0}) LexFault)
    → IsLexAnswer text others other → (others ≡ tokens) × (other ≡ answer)) result
only_answer text tokens (Err fault) h =
    IfSome_then (lex_told fault) h
    (λ f is others other k. one_answer text others tokens other (Err f) k is)
only_answer text tokens (Ok done) h = λ others other k. one_answer text others tokens other (Ok done) k h

pub few_lines : (text : List ℕ) (place line : ℕ) → OnLine text place line → line ≤ 1 + place
few_lines text place line on =
    let count : line_feeds (take place text)
    ≤ length (take place text) = count_by-le-length (λ byte. nat_eq byte line_feed)
    (take place text) in
    let len : length (take place text) ≡ place = length-take-le place text on.within in
    let here : line ≡ 1 + line_feeds (take place text) = on.line_is in
    omega arith

pub next_of_walk : (text : List ℕ) (tokens : List Token) (to line : ℕ) (token : Token)
    → WalksTo text tokens to line → Ok (Some token) ≡ step text to line → IsNext text to token
next_of_walk text tokens to line token w e = is_next text to line token (walk_line text tokens 0 1 to line (at_start text) w.walk) (sym e)

pub room_left : (n : ℕ) → n ≤ token_limit → (n ≡ token_limit → ⊥) → n < token_limit
room_left n le other = omega arith
