-- Lemmas which say that the grammar makes a command of words if and only if the words ask for this command.
use Rattle.std.proofs.Common.{◌≡◌, ◌∙◌, ◌≤◌, ℕ, Bool, true, false, List, [], ◌∷◌, ◌++◌, append_assoc, length, Option, Some, None, refl, sym, ap, subst, arith}
use Rattle.std.specs.Prelude.{nat_le, codes, option_map, option_and_then, if◌then◌else◌, IfSome}
use Rattle.std.specs.List.{list_all}
use Rattle.std.specs.Str.{bytes_eq}
use Rattle.std.proofs.lemmas.Grind.{common_steps}
use Rattle.std.proofs.lemmas.Slice.Eq.{bytes_eq-Decides}
use Rattle.command_line.specs.declared.command.Command.TheVariants.{Chain, Ident, Device, Cover, Svf, Walk, Make, Diagnose, Groups, Batch}
use Rattle.command_line.specs.Words.{Text, ChainNames, BoardNames, LogNames, Command, batch_of, board_called, board_names_of, chain_of, command_of, device_of, diagnose_of, is_plain, log_called, log_names_of, make_of, number_of, parsed, with_names, worked_of}
use Rattle.promises.specs.Runs.{AreWords, HasWordsOf, AsksNothing, Run, ThenBoard, ThenChain, ThenLog}

allowed : (n : ℕ) (b : Bool) → nat_le n 255 ≡ b → n ≤ 255 → b ≡ true
allowed n true test few = refl
allowed n false test few = grind (arith, common_steps)

named : {A : Type 0} (names : List Text) (value : A) → length names ≤ 255 → with_names names value ≡ Some value
named names value few = ap (λ (b : Bool). if b then Some value else None) (allowed (length names) (nat_le (length names) 255) refl few)

abbrev with_log : Text → BoardNames → LogNames
with_log log board = record { log = log; board = board }

-- if there are at most 255 BSDL files, the words of these names give the names
named_log : (names : LogNames) → length names.board.bsdl ≤ 255
    → option_map (with_log names.log) (with_names names.board.bsdl names.board) ≡ Some names
named_log names few = ap (option_map (with_log names.log)) (named names.board.bsdl names.board few)

parsed_is : (command : Command) (words : List Text) → AreWords command words → parsed words ≡ Some command
unfolding board_called log_called
parsed_is (Chain names) words (are, few) = ap parsed are ∙ ap (option_map Chain) (named names.bsdl names few)
parsed_is (Ident names) words (are, few) = ap parsed are ∙ ap (option_map Ident) (named names.bsdl names few)
parsed_is (Device name) words are = ap parsed are
parsed_is (Cover names) words (are, few) = ap parsed are ∙ ap (option_map Cover) (named names.bsdl names few)
parsed_is (Svf names) words (are, few) = ap parsed are ∙ ap (option_map Svf) (named names.bsdl names few)
parsed_is (Walk names) words (are, few) = ap parsed are ∙ ap (option_map Walk) (named names.bsdl names few)
parsed_is (Make parts) words (number, is, are) = ap parsed are ∙ ap (option_map Make) is
parsed_is (Diagnose workers names) words (number, is, (are, few)) =
    ap parsed are
    ∙ ap
    (option_and_then
    (λ (files : LogNames). option_map (λ (n : ℕ). Diagnose n files)
    (number_of 64 number))) (named_log names few)
    ∙ ap (option_map (λ (n : ℕ). Diagnose n names)) is
parsed_is (Groups names) words (are, few) = ap parsed are ∙ ap (option_map Groups) (named_log names few)
parsed_is (Batch workers names) words (number, is, (are, few)) =
    ap parsed are
    ∙ ap
    (option_and_then
    (λ (files : LogNames). option_map (λ (n : ℕ). Batch n files)
    (number_of 64 number))) (named_log names few)
    ∙ ap (option_map (λ (n : ℕ). Batch n names)) is

pub command_is : (run : Run) (command : Command) → HasWordsOf run command → command_of run.words ≡ Some command
command_is run command (are, plain) = ap (λ (b : Bool). if b then parsed run.words else None) plain ∙ parsed_is command run.words are

-- The lemmas from here on prove the converse: if the grammar makes a command of words, the words ask for this command.

few : (n : ℕ) → nat_le n 255 ≡ true → n ≤ 255
few n test = grind (arith, common_steps)

then_chain : (front words : List Text) → IfSome (chain_of words) (λ names. ThenChain front names (front ++ words))
then_chain front [] = tt
then_chain front (chain ∷ names) = by_count (nat_le (length names) 255) refl
  where
    by_count : (b : Bool) → nat_le (length names) 255 ≡ b
        → IfSome (if b then Some (record { chain = chain; bsdl = names }) else None)
        (λ (n : ChainNames). ThenChain front n (front ++ chain ∷ names))
    by_count true test = (refl, few (length names) test)
    by_count false test = tt

then_board : (front words : List Text) → IfSome (board_names_of words) (λ names. ThenBoard front names (front ++ words))
then_board front [] = tt
then_board front (chain ∷ []) = tt
then_board front (chain ∷ nets ∷ names) = by_count (nat_le (length names) 255) refl
  where
    by_count : (b : Bool) → nat_le (length names) 255 ≡ b
        → IfSome (if b then Some (record { chain = chain; nets = nets; bsdl = names }) else None)
        (λ (n : BoardNames). ThenBoard front n (front ++ chain ∷ nets ∷ names))
    by_count true test = (refl, few (length names) test)
    by_count false test = tt

then_log : (front words : List Text) → IfSome (log_names_of words) (λ names. ThenLog front names (front ++ words))
then_log front [] = tt
then_log front (log ∷ words) = by_board (board_names_of words) (then_board (front ++ log ∷ []) words)
  where
    by_board : (board : Option BoardNames)
        → IfSome board (λ b. ThenBoard (front ++ log ∷ []) b ((front ++ log ∷ []) ++ words))
        → IfSome (option_map (with_log log) board) (λ names. ThenLog front names (front ++ log ∷ words))
    by_board None behind = tt
    by_board (Some board) (are, few) = (sym (append_assoc front (log ∷ []) words) ∙ are, few)

-- if there is a command, `words` are its words
abbrev AreOf : List Text → Option Command → Type 0
AreOf words command = IfSome command (λ c. AreWords c words)

of_names : {A : Type 0} (command : A → Command) (P : A → Type 0) (words : List Text)
    → ((names : A) → P names → AreWords (command names) words) → (names : Option A) → IfSome names P
    → AreOf words (option_map command names)
of_names command P words are None is = tt
of_names command P words are (Some names) is = are names is

of_device : (words : List Text) → AreOf (codes "device" ∷ words) (device_of words)
of_device [] = tt
of_device (name ∷ []) = refl
of_device (name ∷ other ∷ others) = tt

of_make : (words : List Text) → AreOf (codes "make" ∷ words) (make_of words)
of_make [] = tt
of_make (number ∷ []) = by_number (number_of 255 number) refl
  where
    by_number : (n : Option ℕ) → number_of 255 number ≡ n → AreOf (codes "make" ∷ number ∷ []) (option_map Make n)
    by_number None is = tt
    by_number (Some parts) is = (number, is, refl)
of_make (number ∷ other ∷ others) = tt

-- `command workers names` has the words `name`, a number of workers, and the names of a file of response logs
-- and of the files of its board
abbrev AreWorked : (ℕ → LogNames → Command) → Text → Type 0
AreWorked command name =
    (number : Text) (words : List Text) (workers : ℕ) (names : LogNames)
    → number_of 64 number ≡ Some workers
    → ThenLog (name ∷ number ∷ []) names (name ∷ number ∷ words)
    → AreWords (command workers names) (name ∷ number ∷ words)

of_work : (command : ℕ → LogNames → Command) (name : Text) → AreWorked command name
    → (words : List Text) → AreOf (name ∷ words) (worked_of command words)
of_work command name are [] = tt
of_work command name are (number ∷ words) = by_names (log_names_of words) (then_log (name ∷ number ∷ []) words)
  where
    by_number : (names : LogNames)
        → ThenLog (name ∷ number ∷ []) names (name ∷ number ∷ words) → (n : Option ℕ)
        → number_of 64 number ≡ n
        → AreOf (name ∷ number ∷ words) (option_map (λ workers. command workers names) n)
    by_number names behind None is = tt
    by_number names behind (Some workers) is = are number words workers names is behind

    by_names : (names : Option LogNames)
        → IfSome names (λ n. ThenLog (name ∷ number ∷ []) n (name ∷ number ∷ words))
        → AreOf (name ∷ number ∷ words)
        (option_and_then
        (λ files. option_map (λ workers. command workers files) (number_of 64 number))
        names)
    by_names None behind = tt
    by_names (Some names) behind = by_number names behind (number_of 64 number) refl

of_groups : (words : List Text) → AreOf (codes "groups" ∷ words) (option_map Groups (log_names_of words))
of_groups words =
    of_names Groups (λ names. ThenLog (codes "groups" ∷ []) names (codes "groups" ∷ words))
    (codes "groups" ∷ words) (λ names is. is) (log_names_of words)
    (then_log (codes "groups" ∷ []) words)

of_board : (command : BoardNames → Command) (name : Text) (words : List Text)
    → ((names : BoardNames) → ThenBoard (name ∷ []) names (name ∷ words)
    → AreWords (command names) (name ∷ words))
    → AreOf (name ∷ words) (option_map command (board_names_of words))
of_board command name words are =
    of_names command (λ names. ThenBoard (name ∷ []) names (name ∷ words)) (name ∷ words) are
    (board_names_of words) (then_board (name ∷ []) words)

of_chain : (command : ChainNames → Command) (name : Text) (words : List Text)
    → ((names : ChainNames) → ThenChain (name ∷ []) names (name ∷ words)
    → AreWords (command names) (name ∷ words))
    → AreOf (name ∷ words) (option_map command (chain_of words))
of_chain command name words are =
    of_names command (λ names. ThenChain (name ∷ []) names (name ∷ words)) (name ∷ words) are
    (chain_of words) (then_chain (name ∷ []) words)

-- if the first word is `name`, the words can ask only for the command that is called `name`
module _ (word : Text) (rest : List Text) where
  by_word : (name : Text) (one other : Option Command) → AreOf (name ∷ rest) one
      → AreOf (word ∷ rest) other → AreOf (word ∷ rest) (if bytes_eq name word then one else other)
  by_word name one other named later = by_test (bytes_eq name word) refl
    where
      by_test : (b : Bool) → bytes_eq name word ≡ b → AreOf (word ∷ rest) (if b then one else other)
      by_test true test = subst (λ (w : Text). AreOf (w ∷ rest) one) ((bytes_eq-Decides name word).0 test) named
      by_test false test = later

  log_words : AreOf (word ∷ rest) (log_called word rest)
  unfolding log_called
  log_words =
      let batch : Option Command = if bytes_eq (codes "batch") word then batch_of rest else None in
      let groups : Option Command = if bytes_eq (codes "groups") word then option_map Groups (log_names_of rest) else batch in
      by_word (codes "diagnose") (diagnose_of rest) groups
      (of_work Diagnose (codes "diagnose")
      (λ number words workers names is behind. (number, is, behind)) rest)
      (by_word (codes "groups") (option_map Groups (log_names_of rest)) batch (of_groups rest)
      (by_word (codes "batch") (batch_of rest) None
      (of_work Batch (codes "batch")
      (λ number words workers names is behind. (number, is, behind)) rest) tt))

  board_words : AreOf (word ∷ rest) (board_called word rest)
  unfolding board_called
  board_words =
      let make : Option Command = if bytes_eq (codes "make") word then make_of rest else log_called word rest in
      let walk : Option Command = if bytes_eq (codes "walk") word then option_map Walk (board_names_of rest) else make in
      let svf : Option Command = if bytes_eq (codes "svf") word then option_map Svf (board_names_of rest) else walk in
      by_word (codes "cover") (option_map Cover (board_names_of rest)) svf (of_board Cover (codes "cover") rest (λ names is. is))
      (by_word (codes "svf") (option_map Svf (board_names_of rest)) walk (of_board Svf (codes "svf") rest (λ names is. is))
      (by_word (codes "walk") (option_map Walk (board_names_of rest)) make
      (of_board Walk (codes "walk") rest (λ names is. is))
      (by_word (codes "make") (make_of rest) (log_called word rest) (of_make rest) log_words)))

parsed_words : (words : List Text) → AreOf words (parsed words)
parsed_words [] = tt
parsed_words (word ∷ rest) =
    let device : Option Command = if bytes_eq (codes "device") word then device_of rest else board_called word rest in
    let ident : Option Command = if bytes_eq (codes "ident") word then option_map Ident (chain_of rest) else device in
    by_word word rest (codes "chain") (option_map Chain (chain_of rest)) ident (of_chain Chain (codes "chain") rest (λ names is. is))
    (by_word word rest (codes "ident") (option_map Ident (chain_of rest)) device (of_chain Ident (codes "ident") rest (λ names is. is))
    (by_word word rest (codes "device") (device_of rest) (board_called word rest) (of_device rest) (board_words word rest)))

pub asks_for : (run : Run) (command : Command) → command_of run.words ≡ Some command → HasWordsOf run command
asks_for run command is = by_plain (list_all is_plain run.words) refl is
  where
    by_plain : (b : Bool) → list_all is_plain run.words ≡ b → (if b then parsed run.words else None) ≡ Some command → HasWordsOf run command
    by_plain true plain is = (subst (AreOf run.words) is (parsed_words run.words), plain)
    by_plain false plain is = absurd cc

pub none_asked : (run : Run) → command_of run.words ≡ None → AsksNothing run
none_asked run none command asks =
    let bad : ◌≡◌ {A = Option Command} None (Some command) = sym none ∙ command_is run command asks in
    absurd cc

pub no_command : (run : Run) → AsksNothing run → command_of run.words ≡ None
no_command run nothing = by_command (command_of run.words) refl
  where
    by_command : (o : Option Command) → command_of run.words ≡ o → o ≡ None
    by_command None is = refl
    by_command (Some command) is = absurd (nothing command (asks_for run command is))
