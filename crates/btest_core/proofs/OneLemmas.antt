-- Texts have at most one answer of each kind. An answer is a value or the first fault.
use Rattle.std.proofs.Common.{◌≡◌, ℕ, List, [], ◌∷◌, Option, Some, None, Result, Ok, Err, ap, sym, ◌∙◌, subst, inl, inr}
use Rattle.bsdl_lexer.specs.declared.token.Token.{Token}
use Rattle.bsdl_lexer.specs.declared.token.LexFault.{LexFault}
use Rattle.bsdl_lexer.specs.Answer as lexer
use Rattle.bsdl_parser.specs.declared.entity.Entity.{Entity}
use Rattle.bsdl_parser.specs.declared.fault.ParseFault.{ParseFault}
use Rattle.bsdl_parser.specs.Lexeme.{Lexeme, lexemes}
use Rattle.bsdl_parser.specs.Answer as parser
use Rattle.board_defs.specs.declared.device.RawDevice.{RawDevice}
use Rattle.device_check.specs.declared.fault.DeviceFault.{DeviceFault}
use Rattle.device_check.specs.SoundDevice as check
use Rattle.btest_core.specs.declared.fault.InputFault.{InputFault}
use Rattle.btest_core.specs.declared.fault.InputFault.TheVariants.{Chain, Nets, Lex, Parse, Board, Device, Link, NoIdent, Memory}
use Rattle.btest_core.specs.Answers.{IsAnswerOfSteps, Is, EachOf}
use Rattle.btest_core.specs.TextsRead.{IsEntityOf, IsEntityOfText}
use Rattle.btest_core.specs.DevicesRead.{Chosen, IsDeviceIn, IsDeviceOf, IsDeviceText}
use Rattle.btest_core.specs.BoardRead.{AreChainLengths, IsBoardRead}
use Rattle.btest_core.specs.IdentsRead.{AreIdents}

-- `IsAnswer` holds for at most one answer
abbrev pub AtMostOne : {A : Type 0} → (Result A InputFault → Type 0) → Type 0
AtMostOne {A} IsAnswer = (a b : Result A InputFault) → IsAnswer a → IsAnswer b → a ≡ b

is_one : {A : Type 0} (this : Result A InputFault) → AtMostOne (Is this)
is_one this a b is_a is_b = is_a ∙ sym is_b

pub same_ok : {A : Type 0} (x y : A) → ◌≡◌ {A = Result A InputFault} (Ok x) (Ok y) → x ≡ y
same_ok x y e = cc

same_err : {A : Type 0} (f g : InputFault) → ◌≡◌ {A = Result A InputFault} (Err f) (Err g) → f ≡ g
same_err f g e = cc

clash : {A P : Type 0} (x : A) (f : InputFault) → ◌≡◌ {A = Result A InputFault} (Ok x) (Err f) → P
clash x f e = absurd cc

follows_one : {A B : Type 0} (first : Result A InputFault → Type 0)
    (next : A → Result B InputFault → Type 0) → AtMostOne first
    → ((value : A) → AtMostOne (next value)) → AtMostOne (IsAnswerOfSteps first next)
follows_one first next one ones a b (inl (x, is_x, is_a)) (inl (y, is_y, is_b)) =
    let same : y ≡ x = sym (same_ok x y (one (Ok x) (Ok y) is_x is_y)) in
    ones x a b is_a (subst (λ v. next v b) same is_b)
follows_one first next one ones a b (inl (x, is_x, is_a)) (inr (g, is_g, is_b)) = clash x g (one (Ok x) (Err g) is_x is_g)
follows_one first next one ones a b (inr (f, is_f, is_a)) (inl (y, is_y, is_b)) = clash y f (one (Ok y) (Err f) is_y is_f)
follows_one first next one ones a b (inr (f, is_f, is_a)) (inr (g, is_g, is_b)) =
    is_a ∙ ap Err (same_err f g (one (Err f) (Err g) is_f is_g)) ∙ sym is_b

each_one : {A B : Type 0} (IsOf : A → Result B InputFault → Type 0)
    → ((item : A) → AtMostOne (IsOf item)) → (items : List A) → AtMostOne (EachOf IsOf items)
each_one IsOf ones [] = is_one (Ok [])
each_one IsOf ones (item ∷ items) =
    follows_one (IsOf item) _ (ones item)
    (λ value. follows_one (EachOf IsOf items) _ (each_one IsOf ones items)
    (λ values. is_one (Ok (value ∷ values))))

-- A law of the lexer, which these proofs take as an argument: a text has at most one list of tokens
-- and one lexer answer.
abbrev pub OneLexed : Type 0
OneLexed =
    (text : List ℕ) (tokens others : List Token) (answer other : Result (Unit {0}) LexFault)
    → lexer.IsLexAnswer text tokens answer → lexer.IsLexAnswer text others other
    → (tokens ≡ others) × (answer ≡ other)

-- a law of the parser: the tokens of a text have at most one parser answer
abbrev pub OneParsed : Type 0
OneParsed =
    (text : List ℕ) (tokens : List Lexeme) (answer other : Result Entity ParseFault)
    → parser.IsParseAnswer text tokens answer → parser.IsParseAnswer text tokens other
    → answer ≡ other

-- a law of the device check: an entity has at most one answer for each package
abbrev pub OneChecked : Type 0
OneChecked =
    (entity : Entity) (given : Option (List ℕ)) (answer other : Result RawDevice DeviceFault)
    → check.IsDeviceAnswer entity given answer → check.IsDeviceAnswer entity given other
    → answer ≡ other

ok_tokens : (a b : Unit {0}) (fault : LexFault) {P : Type 0} → ◌≡◌ {A = Result (Unit {0}) LexFault} (Ok a) (Err fault) → P
ok_tokens a b fault e = absurd cc

same_parse : (lexed : OneLexed) (parsed : OneParsed) (text : List ℕ) (tokens others : List Token)
    (a b : Result Entity ParseFault) → lexer.IsLexAnswer text tokens (Ok tt)
    → lexer.IsLexAnswer text others (Ok tt) → parser.IsParseAnswer text (lexemes text tokens) a
    → parser.IsParseAnswer text (lexemes text others) b → a ≡ b
same_parse lexed parsed text tokens others a b are other_are is_a is_b =
    let same = (lexed text tokens others (Ok tt) (Ok tt) are other_are).0 in
    parsed text (lexemes text tokens) a b is_a (subst (λ ts. parser.IsParseAnswer text (lexemes text ts) b) (sym same) is_b)

pub entity_one : OneLexed → OneParsed → (text : List ℕ) (n : ℕ) → AtMostOne (IsEntityOf text n)
entity_one lexed parsed text n (Ok e) (Ok d) a b =
    let same = same_parse lexed parsed text a.tokens b.tokens (Ok e) (Ok d) a.are b.are a.derives b.derives in
    let one : e ≡ d = cc in
    ap Ok one
entity_one lexed parsed text n (Ok e) (Err (Lex k f)) a (same, b) =
    let no = (lexed text a.tokens b.tokens (Ok tt) (Err f) a.are b.stops).1 in absurd cc
entity_one lexed parsed text n (Ok e) (Err (Parse k f)) a (same, b) =
    let no = same_parse lexed parsed text a.tokens b.tokens (Ok e) (Err f) a.are b.are a.derives
    b.stops in
    absurd cc
entity_one lexed parsed text n (Err (Lex k f)) (Ok e) (same, a) b =
    let no = (lexed text a.tokens b.tokens (Err f) (Ok tt) a.stops b.are).1 in absurd cc
entity_one lexed parsed text n (Err (Parse k f)) (Ok e) (same, a) b =
    let no = same_parse lexed parsed text a.tokens b.tokens (Err f) (Ok e) a.are b.are a.stops
    b.derives in
    absurd cc
entity_one lexed parsed text n (Err (Lex k f)) (Err (Lex l g)) (k_is, a) (l_is, b) =
    let same = (lexed text a.tokens b.tokens (Err f) (Err g) a.stops b.stops).1 in
    let one : f ≡ g = cc in
    let numbers : k ≡ l = k_is ∙ sym l_is in
    ap (λ x. Err (Lex x f)) numbers ∙ ap (λ x. Err (Lex l x)) one
entity_one lexed parsed text n (Err (Lex k f)) (Err (Parse l g)) (k_is, a) (l_is, b) =
    let no = (lexed text a.tokens b.tokens (Err f) (Ok tt) a.stops b.are).1 in absurd cc
entity_one lexed parsed text n (Err (Parse k f)) (Err (Lex l g)) (k_is, a) (l_is, b) =
    let no = (lexed text a.tokens b.tokens (Ok tt) (Err g) a.are b.stops).1 in absurd cc
entity_one lexed parsed text n (Err (Parse k f)) (Err (Parse l g)) (k_is, a) (l_is, b) =
    let same = same_parse lexed parsed text a.tokens b.tokens (Err f) (Err g) a.are b.are a.stops b.stops in
    let one : f ≡ g = cc in
    let numbers : k ≡ l = k_is ∙ sym l_is in
    ap (λ x. Err (Parse x f)) numbers ∙ ap (λ x. Err (Parse l x)) one
entity_one lexed parsed text n (Err (Chain f)) b is_a is_b = absurd is_a
entity_one lexed parsed text n (Err (Nets f)) b is_a is_b = absurd is_a
entity_one lexed parsed text n (Err (Board f)) b is_a is_b = absurd is_a
entity_one lexed parsed text n (Err (Device k f)) b is_a is_b = absurd is_a
entity_one lexed parsed text n (Err (Link f)) b is_a is_b = absurd is_a
entity_one lexed parsed text n (Err (NoIdent l)) b is_a is_b = absurd is_a
entity_one lexed parsed text n (Err (Memory e)) b is_a is_b = absurd is_a
entity_one lexed parsed text n a (Err (Chain f)) is_a is_b = absurd is_b
entity_one lexed parsed text n a (Err (Nets f)) is_a is_b = absurd is_b
entity_one lexed parsed text n a (Err (Board f)) is_a is_b = absurd is_b
entity_one lexed parsed text n a (Err (Device k f)) is_a is_b = absurd is_b
entity_one lexed parsed text n a (Err (Link f)) is_a is_b = absurd is_b
entity_one lexed parsed text n a (Err (NoIdent l)) is_a is_b = absurd is_b
entity_one lexed parsed text n a (Err (Memory e)) is_a is_b = absurd is_b

device_in_one : OneChecked → (entity : Entity) (choice : Chosen) → AtMostOne (IsDeviceIn entity choice)
device_in_one checked entity choice (Ok d) (Ok e) a b =
    let same = checked entity choice.1 (Ok d) (Ok e) a b in
    let one : d ≡ e = cc in
    ap Ok one
device_in_one checked entity choice (Ok d) (Err (Device k f)) a (k_is, b) = let no = checked entity choice.1 (Ok d) (Err f) a b in absurd cc
device_in_one checked entity choice (Err (Device k f)) (Ok d) (k_is, a) b = let no = checked entity choice.1 (Err f) (Ok d) a b in absurd cc
device_in_one checked entity choice (Err (Device k f)) (Err (Device l g)) (k_is, a) (l_is, b) =
    let same = checked entity choice.1 (Err f) (Err g) a b in
    let one : f ≡ g = cc in
    let numbers : k ≡ l = k_is ∙ sym l_is in
    ap (λ x. Err (Device x f)) numbers ∙ ap (λ x. Err (Device l x)) one
device_in_one checked entity choice (Err (Chain f)) b is_a is_b = absurd is_a
device_in_one checked entity choice (Err (Nets f)) b is_a is_b = absurd is_a
device_in_one checked entity choice (Err (Lex k f)) b is_a is_b = absurd is_a
device_in_one checked entity choice (Err (Parse k f)) b is_a is_b = absurd is_a
device_in_one checked entity choice (Err (Board f)) b is_a is_b = absurd is_a
device_in_one checked entity choice (Err (Link f)) b is_a is_b = absurd is_a
device_in_one checked entity choice (Err (NoIdent l)) b is_a is_b = absurd is_a
device_in_one checked entity choice (Err (Memory e)) b is_a is_b = absurd is_a
device_in_one checked entity choice a (Err (Chain f)) is_a is_b = absurd is_b
device_in_one checked entity choice a (Err (Nets f)) is_a is_b = absurd is_b
device_in_one checked entity choice a (Err (Lex k f)) is_a is_b = absurd is_b
device_in_one checked entity choice a (Err (Parse k f)) is_a is_b = absurd is_b
device_in_one checked entity choice a (Err (Board f)) is_a is_b = absurd is_b
device_in_one checked entity choice a (Err (Link f)) is_a is_b = absurd is_b
device_in_one checked entity choice a (Err (NoIdent l)) is_a is_b = absurd is_b
device_in_one checked entity choice a (Err (Memory e)) is_a is_b = absurd is_b

device_of_one : OneChecked → (entities : List Entity) (choice : Chosen) → AtMostOne (IsDeviceOf entities choice)
device_of_one checked entities choice a b (e, e_is, is_a) (d, d_is, is_b) =
    let same : ◌≡◌ {A = Option Entity} (Some d) (Some e) = sym d_is ∙ e_is in
    let one : d ≡ e = cc in
    device_in_one checked e choice a b is_a (subst (λ x. IsDeviceIn x choice b) one is_b)

devices_one : OneLexed → OneParsed → OneChecked → (lines : List _) (texts : List (List ℕ))
    → AtMostOne (Rattle.btest_core.specs.DevicesRead.AreDevices lines texts)
devices_one lexed parsed checked lines texts =
    follows_one _ _ (each_one IsEntityOfText (λ numbered. entity_one lexed parsed numbered.1 numbered.0) _)
    (λ entities. follows_one _ _ (is_one _) (λ numbers. each_one (IsDeviceOf entities) (device_of_one checked entities) _))

pub device_text_one : OneLexed → OneParsed → OneChecked → (text : List ℕ) → AtMostOne (IsDeviceText text)
device_text_one lexed parsed checked text =
    follows_one (IsEntityOf text 0) _ (entity_one lexed parsed text 0)
    (λ entity. device_in_one checked entity (0, None))

pub chain_one : OneLexed → OneParsed → OneChecked → (chain : List ℕ) (texts : List (List ℕ)) → AtMostOne (AreChainLengths chain texts)
chain_one lexed parsed checked chain texts =
    follows_one _ _ (is_one _)
    (λ lines. follows_one _ _ (devices_one lexed parsed checked lines texts) (λ devices. is_one _))

pub idents_one : OneLexed → OneParsed → OneChecked → (chain : List ℕ) (texts : List (List ℕ)) → AtMostOne (AreIdents chain texts)
idents_one lexed parsed checked chain texts =
    follows_one _ _ (is_one _)
    (λ lines. follows_one _ _ (devices_one lexed parsed checked lines texts) (λ devices. is_one _))

pub board_one : OneLexed → OneParsed → OneChecked → (chain nets : List ℕ) (texts : List (List ℕ)) → AtMostOne (IsBoardRead chain nets texts)
board_one lexed parsed checked chain nets texts =
    follows_one _ _ (is_one _)
    (λ lines. follows_one _ _ (is_one _)
    (λ net_lines. follows_one _ _ (devices_one lexed parsed checked lines texts)
    (λ devices. follows_one _ _ (is_one _) (λ joined. is_one _))))
