-- Texts have at least one answer of each kind. An answer is a value or the first fault.
use Rattle.std.proofs.Common.{◌≡◌, ◌<◌, ℕ, zero, suc, arith, List, [], ◌∷◌, length, Option, Some, None, slice_get, Result, Ok, Err, refl, inl, inr}
use Rattle.std.specs.Prelude.{All}
use Rattle.std.specs.List.{AllByRecursion, enumerate_from, filter_map}
use Rattle.std.proofs.lemmas.List.Elements.{recursion_from_All}
use Rattle.bsdl_lexer.specs.declared.token.Token.{Token}
use Rattle.bsdl_lexer.specs.declared.token.LexFault.{LexFault}
use Rattle.bsdl_lexer.specs.Answer as lexer
use Rattle.bsdl_parser.specs.declared.entity.Entity.{Entity}
use Rattle.bsdl_parser.specs.declared.fault.ParseFault.{ParseFault}
use Rattle.bsdl_parser.specs.Lexeme.{Lexeme, lexemes}
use Rattle.bsdl_parser.specs.Answer as parser
use Rattle.board_defs.specs.declared.device.RawDevice.{RawDevice}
use Rattle.device_check.specs.declared.fault.DeviceFault.{DeviceFault}
use Rattle.device_check.specs.SoundDevice as check
use Rattle.board_files.specs.declared.chain_file.ChainLine.{ChainLine}
use Rattle.board_lines.specs.declared.fault.BoardFault.{BoardFault}
use Rattle.board_lines.specs.Selection.{selection}
use Rattle.btest_core.specs.declared.fault.InputFault.{InputFault}
use Rattle.btest_core.specs.declared.fault.InputFault.TheVariants.{Lex, Parse, Device}
use Rattle.btest_core.specs.Answers.{IsAnswerOfSteps, Is, EachOf}
use Rattle.btest_core.specs.InputFaults.{in_board}
use Rattle.btest_core.specs.TextsRead.{IsEntityOf, IsEntityOfText, AreEntities}
use Rattle.btest_core.specs.DevicesRead.{Chosen, chosen_texts, package_in, IsDeviceIn, IsDeviceOf, IsDeviceText, AreSelected, AreDevices}
use Rattle.btest_core.specs.BoardRead.{AreChainLengths, IsBoardRead}
use Rattle.btest_core.specs.IdentsRead.{AreIdents}
use Rattle.btest_core.proofs.ChoiceLemmas.{zip_firsts}

-- `IsAnswer` holds for some answer
abbrev pub HasAnswer : {A : Type 0} → (Result A InputFault → Type 0) → Type 0
HasAnswer {A} IsAnswer = (answer : Result A InputFault) × IsAnswer answer

some_is : {A : Type 0} (this : Result A InputFault) → HasAnswer (Is this)
some_is this = (this, refl)

by_first : {A B : Type 0} (first : Result A InputFault → Type 0)
    (next : A → Result B InputFault → Type 0) (answer : Result A InputFault) → first answer
    → ((value : A) → first (Ok value) → HasAnswer (next value))
    → HasAnswer (IsAnswerOfSteps first next)
by_first first next (Ok value) is more = let answer = more value is in (answer.0, inl (value, is, answer.1))
by_first first next (Err fault) is more = (Err fault, inr (fault, is, refl))

some_follows : {A B : Type 0} (first : Result A InputFault → Type 0)
    (next : A → Result B InputFault → Type 0) → HasAnswer first
    → ((value : A) → first (Ok value) → HasAnswer (next value))
    → HasAnswer (IsAnswerOfSteps first next)
some_follows first next some more = by_first first next some.0 some.1 more

some_each : {A B : Type 0} (IsOf : A → Result B InputFault → Type 0) (items : List A)
    → AllByRecursion (λ item. HasAnswer (IsOf item)) items → HasAnswer (EachOf IsOf items)
some_each IsOf [] some = some_is (Ok [])
some_each IsOf (item ∷ items) some =
    some_follows (IsOf item) _ some.0
    (λ value is. some_follows (EachOf IsOf items) _ (some_each IsOf items some.1)
    (λ values are. some_is (Ok (value ∷ values))))

each_is : {A : Type 0} (P : A → Type 0) → ((item : A) → P item) → (items : List A) → AllByRecursion P items
each_is P is [] = tt
each_is P is (item ∷ items) = (is item, each_is P is items)

each_more : {A : Type 0} (P Q : A → Type 0) → ((item : A) → P item → Q item) → (items : List A)
    → AllByRecursion P items → AllByRecursion Q items
each_more P Q more [] all = tt
each_more P Q more (item ∷ items) all = (more item all.0, each_more P Q more items all.1)

-- A law of the lexer, which these proofs take as an argument: each text has tokens and a lexer
-- answer.
abbrev pub SomeLexed : Type 0
SomeLexed = (text : List ℕ) → (tokens : List Token) × (answer : Result (Unit {0}) LexFault) × lexer.IsLexAnswer text tokens answer

-- a law of the parser: the tokens of each text have a parser answer
abbrev pub SomeParsed : Type 0
SomeParsed = (text : List ℕ) (tokens : List Lexeme) → (answer : Result Entity ParseFault) × parser.IsParseAnswer text tokens answer

-- a law of the device check: each entity has an answer for each package
abbrev pub SomeChecked : Type 0
SomeChecked =
    (entity : Entity) (given : Option (List ℕ))
    → (answer : Result RawDevice DeviceFault) × check.IsDeviceAnswer entity given answer

-- a law of the selection: each number that it returns is the index of an entity
abbrev pub SelectsWithin : Type 0
SelectsWithin =
    (lines : List ChainLine) (entities : List Entity) (numbers : List ℕ)
    → selection lines entities ≡ Ok numbers → All (λ number. number < length entities) numbers

parsed_entity : (text : List ℕ) (n : ℕ) (tokens : List Token) (answer : Result Entity ParseFault)
    → lexer.IsLexAnswer text tokens (Ok tt) → parser.IsParseAnswer text (lexemes text tokens) answer
    → HasAnswer (IsEntityOf text n)
parsed_entity text n tokens (Ok entity) are is = (Ok entity, record { tokens = tokens; are = are; derives = is })
parsed_entity text n tokens (Err fault) are is = (Err (Parse n fault), (refl, record { tokens = tokens; are = are; stops = is }))

lexed_entity : SomeParsed
    → (text : List ℕ) (n : ℕ) (tokens : List Token) (answer : Result (Unit {0}) LexFault)
    → lexer.IsLexAnswer text tokens answer → HasAnswer (IsEntityOf text n)
lexed_entity parsed text n tokens (Ok done) is =
    let answer = parsed text (lexemes text tokens) in
    parsed_entity text n tokens answer.0 is answer.1
lexed_entity parsed text n tokens (Err fault) is = (Err (Lex n fault), (refl, record { tokens = tokens; stops = is }))

some_entity : SomeLexed → SomeParsed → (text : List ℕ) (n : ℕ) → HasAnswer (IsEntityOf text n)
some_entity lexed parsed text n = let found = lexed text in lexed_entity parsed text n found.0 found.1 found.2

checked_device : (entity : Entity) (choice : Chosen) (answer : Result RawDevice DeviceFault)
    → check.IsDeviceAnswer entity choice.1 answer → HasAnswer (IsDeviceIn entity choice)
checked_device entity choice (Ok device) is = (Ok device, is)
checked_device entity choice (Err fault) is = (Err (Device choice.0 fault), (refl, is))

some_device_in : SomeChecked → (entity : Entity) (choice : Chosen) → HasAnswer (IsDeviceIn entity choice)
some_device_in checked entity choice = let answer = checked entity choice.1 in checked_device entity choice answer.0 answer.1

some_device_of : SomeChecked → (entities : List Entity) (choice : Chosen)
    → choice.0 < length entities → HasAnswer (IsDeviceOf entities choice)
some_device_of checked entities choice within =
    let there = entity_at entities choice.0 within in
    let answer = some_device_in checked there.0 choice in
    (answer.0, (there.0, there.1, answer.1))
  where
    entity_at : (entities : List Entity) (n : ℕ) → n < length entities → (entity : Entity) × (slice_get entities n ≡ Some entity)
    entity_at [] n within = absurd (omega arith)
    entity_at (e ∷ entities) zero within = (e, refl)
    entity_at (e ∷ entities) (suc n) within = entity_at entities n (omega arith)

pub selected : {A : Type 0} (answer : Result A BoardFault) (value : A)
    → ◌≡◌ {A = Result A InputFault} (Ok value) (in_board answer) → answer ≡ Ok value
selected (Ok v) value same = cc
selected (Err fault) value same = absurd cc

some_selected : SomeChecked → SelectsWithin → (lines : List ChainLine) (entities : List Entity) → HasAnswer (AreSelected lines entities)
some_selected checked selects lines entities =
    some_follows (Is (in_board (selection lines entities))) _ (some_is (in_board (selection lines entities))) (λ numbers is.
    let within = recursion_from_All (λ number. number < length entities) numbers
    (selects lines entities numbers (selected (selection lines entities) numbers is)) in
    some_each (IsDeviceOf entities) (chosen_texts lines numbers)
    (each_more (λ choice. choice.0 < length entities) _ (some_device_of checked entities)
    (chosen_texts lines numbers)
    (zip_firsts (length entities) numbers (filter_map (λ line. package_in line.statement) lines) within)))

some_devices : SomeLexed → SomeParsed → SomeChecked → SelectsWithin
    → (lines : List ChainLine) (texts : List (List ℕ)) → HasAnswer (AreDevices lines texts)
some_devices lexed parsed checked selects lines texts =
    some_follows (AreEntities texts) _
    (some_each IsEntityOfText (enumerate_from 0 texts)
    (each_is _ (λ numbered. some_entity lexed parsed numbered.1 numbered.0)
    (enumerate_from 0 texts)))
    (λ entities are. some_selected checked selects lines entities)

pub some_device : SomeLexed → SomeParsed → SomeChecked → (text : List ℕ) → HasAnswer (IsDeviceText text)
some_device lexed parsed checked text =
    some_follows (IsEntityOf text 0) _ (some_entity lexed parsed text 0)
    (λ entity is. some_device_in checked entity (0, None))

pub some_chain : SomeLexed → SomeParsed → SomeChecked → SelectsWithin
    → (chain : List ℕ) (texts : List (List ℕ)) → HasAnswer (AreChainLengths chain texts)
some_chain lexed parsed checked selects chain texts =
    some_follows _ _ (some_is _)
    (λ lines is. some_follows _ _ (some_devices lexed parsed checked selects lines texts)
    (λ devices are. some_is _))

pub some_idents : SomeLexed → SomeParsed → SomeChecked → SelectsWithin
    → (chain : List ℕ) (texts : List (List ℕ)) → HasAnswer (AreIdents chain texts)
some_idents lexed parsed checked selects chain texts =
    some_follows _ _ (some_is _)
    (λ lines is. some_follows _ _ (some_devices lexed parsed checked selects lines texts)
    (λ devices are. some_is _))

pub some_board : SomeLexed → SomeParsed → SomeChecked → SelectsWithin
    → (chain nets : List ℕ) (texts : List (List ℕ)) → HasAnswer (IsBoardRead chain nets texts)
some_board lexed parsed checked selects chain nets texts =
    some_follows _ _ (some_is _)
    (λ lines is. some_follows _ _ (some_is _)
    (λ net_lines nets_are. some_follows _ _
    (some_devices lexed parsed checked selects lines texts)
    (λ devices are. some_follows _ _ (some_is _) (λ joined joins. some_is _))))
