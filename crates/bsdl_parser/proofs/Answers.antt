-- The answer to a text, which is its entity or its first fault, computed from the result of the grammar's reader.
use Rattle.std.proofs.Common.{◌≡◌, ℕ, ◌+◌, ◌^◌, ◌<◌, Bool, true, false, List, [], ◌∷◌, ◌++◌, length, inl, inr, Result, Ok, Err, refl, sym, ◌∙◌, ap, subst, arith, append-nil, length-append, ◌&&◌, nat_eq}
use Rattle.std.proofs.lemmas.Bool.Decides.{nat_tests}
use Rattle.std.proofs.lemmas.Option.{IfSome_then}
use Rattle.answers.specs.Gives.{Gives}
use Rattle.std.specs.Result.{IfOk}
use Rattle.std.proofs.lemmas.Bool.{and_parts}
use Rattle.bsdl_lexer.specs.declared.token.Token.{Token}
use Rattle.bsdl_lexer.specs.Tokens.{AreTokens}
use Rattle.bsdl_parser.specs.declared.fault.ParseFault.{ParseFault}
use Rattle.bsdl_parser.specs.declared.fault.ParseFault.TheVariants.{Expected, Package, Memory}
use Rattle.bsdl_parser.specs.Lexeme.{Lexeme, lexemes}
use Rattle.bsdl_parser.specs.Entity.{HaveKinds, IsSmall}
use Rattle.grammars.specs.Grammar.{reader_of_grammar}
use Rattle.grammars.specs.inner.Reader.{Outcome, Reader, found, refused}
use Rattle.bsdl_parser.specs.declared.entity.Entity.{Entity}
use Rattle.bsdl_parser.specs.Bsdl.{file}
use Rattle.bsdl_parser.specs.Answer.{Derives, IsStray, StartsPackage, IsUnfinished, last_line, IsParserFault, IsParseAnswer, parse_told}
use Rattle.bsdl_parser.specs.inner.Judged.{is_package, fault_on_line, judged}
use Rattle.grammars.proofs.Exact.{RunsOut, Reads, Refuses, IsLocalAt, reads_on}
use Rattle.bsdl_parser.proofs.Decided.{decides_file}
use Rattle.bsdl_parser.proofs.AttributeKinds.{have_kinds}
use Rattle.bsdl_parser.proofs.Sizes.{is_small}

-- `xs` is `ys` followed by `middle`, and `rest` is `middle` followed by `token`
pub record Halves (xs ys : List Lexeme) (token : Lexeme) (rest : List Lexeme) : Type 0 where
  pub middle : List Lexeme
  pub front : xs ≡ ys ++ middle
  pub back : rest ≡ middle ++ token ∷ []

halves : (xs ys : List Lexeme) (token r : Lexeme) (rest : List Lexeme) → xs ++ token ∷ [] ≡ ys ++ r ∷ rest → Halves xs ys token (r ∷ rest)
halves xs [] token r rest e = record { middle = xs; front = refl; back = sym e }
halves [] (y ∷ []) token r rest e = cc
halves [] (y ∷ z ∷ ys) token r rest e = cc
halves (x ∷ xs) (y ∷ ys) token r rest e =
    let h : Halves xs ys token (r ∷ rest) = halves xs ys token r rest cc in
    record { middle = h.middle; front = (let same : x ≡ y = cc in let f : xs ≡ ys ++ h.middle = h.front in cc); back = h.back }

abbrev read : Reader Lexeme Entity
read = reader_of_grammar file

-- If `before` is a prefix of a file but not a whole file, and `before` followed by `token` is not a
-- prefix of a file, the reader stops at `token`.
stops_at : (before : List Lexeme) (token : Lexeme) (after : List Lexeme) → read before ≡ refused []
    → (o : Outcome Lexeme Entity) → read (before ++ token ∷ []) ≡ o → (RunsOut o → ⊥)
    → IsLocalAt read (before ++ token ∷ []) o → read (before ++ token ∷ after) ≡ refused (token ∷ after)
stops_at before token after e (found entity []) is more h = absurd (more refl)
stops_at before token after e (refused []) is more h = absurd (more refl)
stops_at before token after e (found entity (r ∷ rest)) is more h =
    let k : Halves before h.front token (r ∷ rest) = halves before h.front token r rest h.split in
    let again : read before ≡ found entity k.middle = ap read k.front ∙ h.again k.middle in
    cc
stops_at before token after e (refused (r ∷ rest)) is more h =
    let k : Halves before h.front token (r ∷ rest) = halves before h.front token r rest h.split in
    stops_there k.middle k.front k.back
  where
    stops_there : (middle : List Lexeme) → before ≡ h.front ++ middle
        → r ∷ rest ≡ middle ++ token ∷ [] → read (before ++ token ∷ after) ≡ refused (token ∷ after)
    stops_there [] f b =
        let same : r ≡ token = cc in
        let front : before ≡ h.front = f ∙ append-nil h.front in
        ap (λ ts. read (ts ++ token ∷ after)) front ∙ h.again token rest after (ap (λ t. t ∷ rest) same)
    stops_there (m ∷ middle) f b =
        let same : r ≡ m = cc in
        let again : read before ≡ refused (m ∷ middle) = ap read f ∙ h.again m rest middle (ap (λ t. t ∷ rest) same) in
        cc

-- The two results that the reader can have if `token` is the first token that cannot continue a file. It
-- refuses `token` inside a file, or it finds an entity in the tokens before `token`.
pub data StrayRead (before : List Lexeme) (token : Lexeme) (after : List Lexeme) (o : Outcome Lexeme Entity) : Type 0 where
  inside : o ≡ refused (token ∷ after) → read before ≡ refused [] → StrayRead before token after o
  behind : (entity : Entity) → o ≡ found entity (token ∷ after) → read before ≡ found entity [] → StrayRead before token after o

stray_read : (tokens before : List Lexeme) (token : Lexeme) (after : List Lexeme)
    → IsStray tokens before token after → (o : Outcome Lexeme Entity) → read before ≡ o → RunsOut o
    → StrayRead before token after (read tokens)
stray_read tokens before token after h (found entity rest) is out =
    let whole : read before ≡ found entity [] = is ∙ ap (λ ts. found entity ts) out in
    behind entity (ap read h.split ∙ reads_on decides_file before entity whole (token ∷ after)) whole
stray_read tokens before token after h (refused rest) is out =
    let cut : read before ≡ refused [] = is ∙ ap refused out in
    inside
    (ap read h.split
    ∙ stops_at before token after cut (read (before ++ token ∷ [])) refl
    (λ k. h.stray (decides_file.is_cut (before ++ token ∷ []) k))
    (decides_file.local (before ++ token ∷ []))) cut

pub is_stray_read : (tokens before : List Lexeme) (token : Lexeme) (after : List Lexeme)
    → IsStray tokens before token after → StrayRead before token after (read tokens)
is_stray_read tokens before token after h = stray_read tokens before token after h (read before) refl (decides_file.cut before h.begins)

stray_behind : (tokens : List Lexeme) (entity : Entity) (token : Lexeme) (after : List Lexeme)
    (h : Reads read tokens entity (token ∷ after)) → IsStray tokens h.front token after
stray_behind tokens entity token after h =
    let whole : read h.front ≡ found entity [] = ap read (sym (append-nil h.front)) ∙ h.again [] in
    record {
      split = h.split;
      begins = decides_file.is_cut h.front (subst RunsOut (sym whole) refl);
      stray = λ k. let out : token ∷ [] ≡ [] = subst RunsOut (h.again (token ∷ [])) (decides_file.cut (h.front ++ token ∷ []) k) in cc;
    }

stray_inside : (tokens : List Lexeme) (token : Lexeme) (after : List Lexeme)
    (h : Refuses read tokens (token ∷ after)) → IsStray tokens h.front token after
stray_inside tokens token after h = record {
  split = h.split;
  begins = decides_file.is_cut h.front (subst RunsOut (sym h.before) refl);
  stray = λ k. let out : token ∷ [] ≡ [] = subst RunsOut (h.again token after [] refl) (decides_file.cut (h.front ++ token ∷ []) k) in cc;
}

fault_is : (text : List ℕ) (tokens before : List Lexeme) (token : Lexeme) (after : List Lexeme)
    → IsStray tokens before token after → (b : Bool) → (b ≡ true → StartsPackage before token)
    → (StartsPackage before token → b ≡ true)
    → IsParserFault text tokens (fault_on_line b token.line)
fault_is text tokens before token after h true is starts =
    record
    { before = before; token = token; after = after; stray = h; line_is = refl; such = is refl }
fault_is text tokens before token after h false is starts =
    inl
    (record {
      before = before;
      token = token;
      after = after;
      stray = h;
      line_is = refl;
      such = λ k. let
          e : false ≡ true = starts k in
          cc;
    })

starts_behind : (before : List Lexeme) (token : Lexeme) (entity : Entity)
    → read before ≡ found entity [] → is_package token ≡ true → StartsPackage before token
starts_behind before token entity e word = record { word = word; place = inr (entity, decides_file.is_whole before entity e) }

no_front : (before after tokens : List Lexeme) (token : Lexeme) → tokens ≡ before ++ token ∷ after
    → nat_eq (length (token ∷ after)) (length tokens) ≡ true → before ≡ []
no_front [] after tokens token e h = refl
no_front (t ∷ before) after tokens token e h =
    let len : length tokens ≡ length ((t ∷ before) ++ token ∷ after) = ap length e in
    let more : length ((t ∷ before) ++ token ∷ after)
    ≡ length (t ∷ before) + length (token ∷ after) = length-append (t ∷ before) (token ∷ after)
    in
    absurd (grind (arith, nat_tests))

starts_inside : (before after tokens : List Lexeme) (token : Lexeme)
    → tokens ≡ before ++ token ∷ after
    → (is_package token && nat_eq (length (token ∷ after)) (length tokens)) ≡ true
    → StartsPackage before token
starts_inside before after tokens token e h =
    let k = and_parts (is_package token) (nat_eq (length (token ∷ after)) (length tokens)) h in
    record { word = k.0; place = inl (no_front before after tokens token e k.1) }

whole_front : (tokens : List Lexeme) (token : Lexeme) (after : List Lexeme) → tokens ≡ token ∷ after
    → nat_eq (length (token ∷ after)) (length tokens) ≡ true
whole_front tokens token after e = rw e (grind (arith, nat_tests))

is_start_inside : (before after tokens : List Lexeme) (token : Lexeme)
    → tokens ≡ before ++ token ∷ after → read before ≡ refused [] → StartsPackage before token
    → (is_package token && nat_eq (length (token ∷ after)) (length tokens)) ≡ true
is_start_inside before after tokens token e cut h = elim h.place [
  | inl first ↦ rw h.word (whole_front tokens token after (e ∙ ap (λ ts. ts ++ token ∷ after) first))
  | inr whole ↦ (let k : read before ≡ found whole.0 [] = decides_file.whole before whole.0 whole.1 in cc)
]

judged_is : (text : List ℕ) (tokens : List Lexeme) (o : Outcome Lexeme Entity) → read tokens ≡ o
    → IsLocalAt read tokens o → IsParseAnswer text tokens (judged text tokens o)
judged_is text tokens (found entity []) is h = decides_file.is_whole tokens entity is
judged_is text tokens (found entity (token ∷ after)) is h =
    fault_is text tokens h.front token after (stray_behind tokens entity token after h) (is_package token)
    (starts_behind h.front token entity (ap read (sym (append-nil h.front)) ∙ h.again [])) (λ k. k.word)
judged_is text tokens (refused []) is h = inr (
  record {
    begins = decides_file.is_cut tokens (subst RunsOut (sym is) refl);
    no_entity = λ entity d. let k : read tokens ≡ found entity [] = decides_file.whole tokens entity d in cc;
  },
  refl,
)
judged_is text tokens (refused (token ∷ after)) is h =
    fault_is text tokens h.front token after (stray_inside tokens token after h)
    (is_package token && nat_eq (length (token ∷ after)) (length tokens))
    (starts_inside h.front after tokens token h.split) (is_start_inside h.front after tokens token h.split h.before)

pub is_answer : (text : List ℕ) (tokens : List Lexeme) → IsParseAnswer text tokens (judged text tokens (reader_of_grammar file tokens))
is_answer text tokens = judged_is text tokens (read tokens) refl (decides_file.local tokens)

unfinished : (text : List ℕ) (tokens : List Lexeme) (o : Outcome Lexeme Entity) → read tokens ≡ o
    → RunsOut o → IsUnfinished tokens → Err (Expected (last_line text)) ≡ judged text tokens o
unfinished text tokens (found entity rest) is out h =
    absurd (h.no_entity entity (decides_file.is_whole tokens entity (is ∙ ap (found entity) out)))
unfinished text tokens (refused rest) is out h = ap (λ ts. judged text tokens (refused ts)) (sym out)

agree : (a b : Bool) → (a ≡ true → b ≡ true) → (b ≡ true → a ≡ true) → a ≡ b
agree true b f g = sym (f refl)
agree false true f g = g refl
agree false false f g = refl

stray_is : (text : List ℕ) (tokens before : List Lexeme) (token : Lexeme) (after : List Lexeme)
    → IsStray tokens before token after → (o : Outcome Lexeme Entity)
    → StrayRead before token after o → (b : Bool)
    → (StartsPackage before token → b ≡ true) → (b ≡ true → StartsPackage before token)
    → Err (fault_on_line b token.line) ≡ judged text tokens o
stray_is text tokens before token after h o (inside e cut) b starts is =
    let same : b
    ≡ (is_package token && nat_eq (length (token ∷ after)) (length tokens)) = agree b
    (is_package token && nat_eq (length (token ∷ after)) (length tokens))
    (λ k. is_start_inside before after tokens token h.split cut (is k)) (λ k. starts (starts_inside before after tokens token h.split k)) in
    ap (λ b. Err (fault_on_line b token.line)) same ∙ ap (judged text tokens) (sym e)
stray_is text tokens before token after h o (behind entity e whole) b starts is =
    let same : b
    ≡ is_package token = agree b (is_package token) (λ k. (is k).word)
    (λ k. starts (starts_behind before token entity whole k)) in
    ap (λ b. Err (fault_on_line b token.line)) same ∙ ap (judged text tokens) (sym e)

pub one_answer : (text : List ℕ) (tokens : List Lexeme) (other : Result Entity ParseFault)
    → IsParseAnswer text tokens other → other ≡ judged text tokens (reader_of_grammar file tokens)
one_answer text tokens (Ok entity) h = ap (judged text tokens) (sym (decides_file.whole tokens entity h))
one_answer text tokens (Err (Expected line)) (inl h) =
    ap (λ n. Err (Expected n)) h.line_is
    ∙ stray_is text tokens h.before h.token h.after h.stray (read tokens)
    (is_stray_read tokens h.before h.token h.after h.stray) false (λ k. absurd (h.such k))
    (λ e. cc)
one_answer text tokens (Err (Expected line)) (inr h) =
    ap (λ n. Err (Expected n)) h.1 ∙ unfinished text tokens (read tokens) refl (decides_file.cut tokens h.0.begins) h.0
one_answer text tokens (Err (Package line)) h =
    ap (λ n. Err (Package n)) h.line_is
    ∙ stray_is text tokens h.before h.token h.after h.stray (read tokens)
    (is_stray_read tokens h.before h.token h.after h.stray) true (λ k. refl) (λ e. h.such)
one_answer text tokens (Err (Memory error)) h = absurd h

pub answer_holds : (text : List ℕ) (tokens : List Lexeme) (result : Result Entity ParseFault)
    → Gives parse_told (λ entity. entity)
    (λ said. judged text tokens (reader_of_grammar file tokens) ≡ said) result
    → Gives parse_told (λ entity. entity) (IsParseAnswer text tokens) result
answer_holds text tokens (Ok entity) e = subst (IsParseAnswer text tokens) e (is_answer text tokens)
answer_holds text tokens (Err fault) e =
    IfSome_then (parse_told fault) e
    (λ f is. subst (IsParseAnswer text tokens) is (is_answer text tokens))

pub only_answer : (text : List ℕ) (tokens : List Lexeme) (result : Result Entity ParseFault)
    → Gives parse_told (λ entity. entity)
    (λ said. judged text tokens (reader_of_grammar file tokens) ≡ said) result
    → Gives parse_told (λ entity. entity)
    (λ answer. (other : Result Entity ParseFault) → IsParseAnswer text tokens other
    → other ≡ answer) result
only_answer text tokens (Ok entity) e = λ other h. one_answer text tokens other h ∙ e
only_answer text tokens (Err fault) e = IfSome_then (parse_told fault) e (λ f is other h. one_answer text tokens other h ∙ is)

pub one_entity : (tokens : List Lexeme) (entity other : Entity) → Derives tokens entity → Derives tokens other → entity ≡ other
one_entity tokens entity other h k =
    let both : ◌≡◌ {A = Outcome Lexeme Entity} (found entity []) (found other []) = sym
    (decides_file.whole tokens entity h) ∙ decides_file.whole tokens other k in
    cc

pub kinds_hold : (text : List ℕ) (tokens : List Lexeme) (result : Result Entity ParseFault)
    → Gives parse_told (λ entity. entity)
    (λ said. judged text tokens (reader_of_grammar file tokens) ≡ said) result
    → IfOk result HaveKinds
kinds_hold text tokens (Ok entity) e = have_kinds tokens entity (answer_holds text tokens (Ok entity) e)
kinds_hold text tokens (Err fault) e = tt

pub small_holds : (text : List ℕ) (tokens : List Token) (result : Result Entity ParseFault) → length text < 2 ^ 32 → AreTokens text tokens
    → Gives parse_told (λ entity. entity)
    (λ said. judged text (lexemes text tokens) (reader_of_grammar file (lexemes text tokens))
    ≡ said) result → IfOk result IsSmall
small_holds text tokens (Ok entity) short h e = is_small text tokens entity short h (answer_holds text (lexemes text tokens) (Ok entity) e)
small_holds text tokens (Err fault) short h e = tt
