-- Lemmas which say what follows from each status other than Done.
use Rattle.std.proofs.Common.{◌≡◌, ◌≢◌, ◌⊎◌, ◌∙◌, ℕ, List, [], ◌∷◌, ◌++◌, map, Option, Some, None, Result, Ok, Err, refl, sym, subst, inl, inr}
use Rattle.std.specs.Prelude.{take}
use Rattle.command_line.specs.Words.{Text, Command, command_of, names_in_command}
use Rattle.refusal_lines.specs.Refusals.{usage_line, long_line, read_line, write_line, memory_line}
use Rattle.btest_cli.specs.declared.status.Status.{Status}
use Rattle.btest_cli.specs.declared.status.Status.TheVariants.{Done, Refused, Usage, ReadFault, WriteFault, NoMemory}
use Rattle.btest_cli.specs.Texts.{Wanted, Reading, Read, TooLong, AsksFor as AskedFor, IsRead, known_reading, wanted_of}
use Rattle.commands.specs.Requests.{Request}
use Rattle.btest_cli.specs.Refusals.{roles_of}
use Rattle.btest_cli.specs.Outcome.{AsksSome, IsGiven, IsNotRead, IsOutcome, IsReadAs}
use Rattle.btest_cli.proofs.RunLemmas.{all_asked, one_reading, rose_among}
use Rattle.promises.specs.Runs.{HasWordsOf, AskedInTurn, EndsWith, HoldsEach, IsTooLong, NoReadFailed, Notes, PutsOut, PutsNothing, Run, files_of}
use Rattle.promises.specs.Gives.{GivesOutcome}
use Rattle.promises.specs.Promises.{FilesGive, FindsOutcome, RestsOnFiles, TellsUsage, TellsFault, TellsLong, TellsUnread, TellsUnwritten, TellsMemory}
use Rattle.promises.specs.inner.Facts.{IsRun, SayOne, notes_of}
use Rattle.promises.proofs.WordLemmas.{asks_for, no_command, none_asked}
use Rattle.promises.proofs.ReadLemmas.{Tells, files_are, long_cut, read_holds, read_long, reads_long}
use Rattle.promises.proofs.GiveLemmas.{gives_is, is_gives}
use Rattle.promises.proofs.RunLemmas.{cut_here, done_here, ends_refused, here, known, none_rose, not_cut, not_done, noted, nothing_put, out_taken, refused_here, texts_are}

untouched : (run : Run) → IsRun run → (status : Status) → run.status ≡ status → status ≢ Done → status ≢ WriteFault → PutsNothing run
untouched run is status e not_done not_cut = nothing_put run (is.untouched (λ d. not_done (sym e ∙ d)) (λ w. not_cut (sym e ∙ w)))

pub tells_usage : (run : Run) → IsRun run → TellsUsage run
tells_usage run is = (
  λ e. (none_asked run (is.usage e), untouched run is Usage e (λ d. cc) (λ w. cc), noted run usage_line (is.usage_noted e)),
  λ nothing. let none = no_command run nothing in (is.words none, is.asked none, is.unread none, is.held none),
)

pub tells_fault : (run : Run) → IsRun run → SayOne → TellsFault run
tells_fault run is one = (
  λ e. untouched run is Refused e (λ d. cc) (λ w. cc),
  λ command texts on. (refused command texts on.0 on.1, only command texts on.0 on.1),
)
  where
    refused : (command : Command) (texts : List Text) → HasWordsOf run command
        → HoldsEach run.old.held (files_of command) texts → run.status ≡ Refused
        → AskedInTurn run (names_in_command command)
        × ((line : Text) × GivesOutcome command texts (Err line) × Notes run line)
    refused command texts asks each e =
        let told = refused_here run is command asks e in
        let same = one_reading run.old.held (wanted_of command) (Read texts) told.reading
        (known run is command asks texts each) told.read in
        let asked = subst (λ (r : Reading). AskedFor run.old.held (wanted_of command) r run.old.asked run.new.asked) same told.asks in
        let gives = subst (λ (r : Reading). IsOutcome command r (Err told.line)) same told.gives in (
          all_asked command run.old.asked run.new.asked asked,
          (
            told.line,
            is_gives command texts (Err told.line) gives,
            noted run told.line told.noted,
          ),
        )

    only : (command : Command) (texts : List Text) → HasWordsOf run command → HoldsEach run.old.held (files_of command) texts → (line : Text) → GivesOutcome command texts (Err line) → (run.status ≢ Done) × (run.status ≢ WriteFault) × EndsWith run command Refused
    only command texts asks each line gives =
        let reads = known run is command asks texts each in
        let fault = gives_is command texts (Err line) gives in
        (not_done run is command asks one (Read texts) line reads fault, not_cut run is command asks one (Read texts) line reads fault, ends_refused run is command asks one (Read texts) line reads fault)

pub tells_long : (run : Run) → IsRun run → SayOne → TellsLong run
tells_long run is one command file asks long = (
  λ e. refused e,
  not_done run is command asks one (TooLong file) line reads refl,
  not_cut run is command asks one (TooLong file) line reads refl,
  ends_refused run is command asks one (TooLong file) line reads refl,
)
  where
    line : Text
    line = long_line file.name file.limit

    wanted : wanted_of command ≡ long.before ++ file ∷ long.after
    wanted = sym (files_are command) ∙ long.are

    reads : known_reading run.old.held (wanted_of command) ≡ Some (TooLong file)
    reads =
        subst (λ (w : List Wanted). known_reading run.old.held w ≡ Some (TooLong file)) (sym wanted)
        (reads_long run.old.held long.before file long.after long.texts long.text long.each
        long.holds long.long)

    refused : run.status ≡ Refused → AskedInTurn run (map (λ f. f.name) long.before ++ file.name ∷ []) × Notes run line
    refused e =
        let told = refused_here run is command asks e in
        let same = one_reading run.old.held (wanted_of command) (TooLong file) told.reading reads told.read in
        let asked = subst (λ (r : Reading). AskedFor run.old.held (wanted_of command) r run.old.asked run.new.asked) same told.asks in
        let gives = subst (λ (r : Reading). IsOutcome command r (Err told.line)) same told.gives in
        let line_is : told.line ≡ line = cc in
        let cut = long_cut run.old.held long.before asked.before long.after asked.after file
        long.texts asked.found long.text long.holds long.long long.each asked.read
        (sym wanted ∙ asked.are) in
        (subst (λ (l : List Wanted). AskedInTurn run (map (λ f. f.name) l ++ file.name ∷ [])) cut asked.asked, subst (λ (t : Text). Notes run t) line_is (noted run told.line told.noted))

some_asked : (run : Run) → IsRun run → (status : Status) → run.status ≡ status → status ≢ Usage
    → status ≢ NoMemory → (command : Command) × HasWordsOf run command
some_asked run is status e not_usage not_memory = by_command (command_of run.words) refl
  where
    by_end : (run.status ≡ Usage) ⊎ (run.status ≡ NoMemory) → ⊥
    by_end (inl usage) = not_usage (sym e ∙ usage)
    by_end (inr memory) = not_memory (sym e ∙ memory)

    by_command : (o : Option Command) → command_of run.words ≡ o → (command : Command) × HasWordsOf run command
    by_command None none = absurd (by_end (is.words none))
    by_command (Some command) some = (command, asks_for run command some)

unread_of : (run : Run) → IsRun run → (command : Command) → HasWordsOf run command → TellsUnread run
unread_of run is command asks e =
    let told = here run is command asks
    (λ c. IsNotRead run.old.held c run.old.unread run.new.unread run.old.asked run.new.asked
    (notes_of run.old) (notes_of run.new)) (is.read e) in
    let up_to = told.asks in (
      untouched run is ReadFault e (λ d. cc) (λ w. cc),
      command,
      asks,
      up_to.before,
      up_to.after,
      told.last,
      files_are command ∙ up_to.are,
      told.rose,
      up_to.asked,
      noted run (read_line told.last.name) told.noted,
      λ held tells. (up_to.found, read_holds run.old.held (held, tells) up_to.before up_to.found up_to.read),
    )

pub tells_unread : (run : Run) → IsRun run → TellsUnread run
tells_unread run is e = let asked = some_asked run is ReadFault e (λ u. cc) (λ m. cc) in unread_of run is asked.0 asked.1 e

pub tells_unwritten : (run : Run) → IsRun run → TellsUnwritten run
tells_unwritten run is e = (is.write e, noted run write_line (is.write_noted e), λ command texts on. unwritten command texts on.0 on.1)
  where
    unwritten : (command : Command) (texts : List Text) → HasWordsOf run command
        → HoldsEach run.old.held (files_of command) texts
        → AskedInTurn run (names_in_command command)
        × ((text : Text) × GivesOutcome command texts (Ok text) × (count : ℕ)
        × PutsOut run (take count text))
    unwritten command texts asks each =
        let told = cut_here run is command asks e in
        let same = texts_are run is command asks texts each told.read.texts told.read.read in
        let gives = subst (λ (l : List Text). IsOutcome command (Read l) (Ok told.text)) same
        (told.request, told.read.made, told.gives) in (
          told.read.asks,
          (
            told.text,
            is_gives command texts (Ok told.text) gives,
            told.bytes,
            out_taken run (take told.bytes told.text) told.takes,
          ),
        )

pub tells_memory : (run : Run) → IsRun run → TellsMemory run
tells_memory run is e = (
  untouched run is NoMemory e (λ d. cc) (λ w. cc),
  noted run memory_line (is.memory_noted e),
  λ command asks. here run is command asks (λ c. AsksSome c run.old.asked run.new.asked) (is.memory_asks e),
)

-- A run ends as Done, WriteFault or Refused only if the files give what this status needs.
module _ (run : Run) (is : IsRun run) (tells : Tells run.old.held) where
  held_texts : (command : Command) (texts : List Text)
      → IsRead run.old.held (wanted_of command) (Read texts)
      → HoldsEach run.old.held (files_of command) texts
  held_texts command texts read =
      subst (λ (files : List Wanted). HoldsEach run.old.held files texts) (sym (files_are command))
      (read_holds run.old.held tells (wanted_of command) texts read)

  give_text : (command : Command) (request : Request) (text : Text)
      → IsReadAs run.old.held command run.old.asked run.new.asked request
      → IsGiven (roles_of command) request (Ok text) → FilesGive run command (Ok text)
  give_text command request text read gives =
      inl (
        read.texts,
        held_texts command read.texts read.read,
        is_gives command read.texts (Ok text) (request, read.made, gives),
      )

  give_line : (command : Command) (reading : Reading) (line : Text)
      → IsRead run.old.held (wanted_of command) reading → IsOutcome command reading (Err line)
      → FilesGive run command (Err line)
  give_line command (Read texts) line read gives = inl (texts, held_texts command texts read, is_gives command texts (Err line) gives)
  give_line command (TooLong file) line read gives =
      inr (
        file,
        subst (λ (files : List Wanted). IsTooLong run.old.held files file)
            (sym (files_are command))
            (read_long run.old.held tells (wanted_of command) file read),
        gives,
      )

  pub rests_on_files : RestsOnFiles run
  rests_on_files = (λ e. done e, λ e. cut e, λ e. refused e)
    where
      done : run.status ≡ Done → (command : Command) × HasWordsOf run command × (text : Text) × FilesGive run command (Ok text) × PutsOut run text
      done e =
          let asked = some_asked run is Done e (λ u. cc) (λ m. cc) in
          let told = done_here run is asked.0 asked.1 e in
          (asked.0, asked.1, told.text, give_text asked.0 told.request told.text told.read told.gives, out_taken run told.text told.takes)

      cut : run.status ≡ WriteFault
          → (command : Command) × HasWordsOf run command × (text : Text)
          × FilesGive run command (Ok text) × (count : ℕ) × PutsOut run (take count text)
      cut e =
          let asked = some_asked run is WriteFault e (λ u. cc) (λ m. cc) in
          let told = cut_here run is asked.0 asked.1 e in (
            asked.0,
            asked.1,
            told.text,
            give_text asked.0 told.request told.text told.read told.gives,
            told.bytes,
            out_taken run (take told.bytes told.text) told.takes,
          )

      refused : run.status ≡ Refused
          → (command : Command) × HasWordsOf run command × (line : Text)
          × FilesGive run command (Err line) × Notes run line
      refused e =
          let asked = some_asked run is Refused e (λ u. cc) (λ m. cc) in
          let told = refused_here run is asked.0 asked.1 e in
          (asked.0, asked.1, told.line, give_line asked.0 told.reading told.line told.read told.gives, noted run told.line told.noted)

  pub finds_outcome : SayOne → FindsOutcome run
  finds_outcome one = (λ command asks calm memory. by_status command asks calm memory run.status refl, λ command texts on. held command texts on.0 on.1)
    where
      by_status : (command : Command) → HasWordsOf run command → NoReadFailed run command
          → run.status ≢ NoMemory → (status : Status) → run.status ≡ status
          → (outcome : Result Text Text) × FilesGive run command outcome
      by_status command asks calm memory Done e =
          let told = done_here run is command asks e in
          (Ok told.text, give_text command told.request told.text told.read told.gives)
      by_status command asks calm memory Refused e =
          let told = refused_here run is command asks e in
          (Err told.line, give_line command told.reading told.line told.read told.gives)
      by_status command asks calm memory Usage e = absurd (none_asked run (is.usage e) command asks)
      by_status command asks calm memory ReadFault e =
          let told = here run is command asks
          (λ c. IsNotRead run.old.held c run.old.unread run.new.unread run.old.asked
          run.new.asked (notes_of run.old) (notes_of run.new)) (is.read e) in
          absurd
          (none_rose run is command asks calm
          (rose_among command run.old.held run.old.unread run.new.unread run.old.asked
          run.new.asked told.last told.asks told.rose))
      by_status command asks calm memory WriteFault e =
          let told = cut_here run is command asks e in
          (Ok told.text, give_text command told.request told.text told.read told.gives)
      by_status command asks calm memory NoMemory e = absurd (memory e)

      held : (command : Command) (texts : List Text) → HasWordsOf run command
          → HoldsEach run.old.held (files_of command) texts
          → (outcome : Result Text Text) × GivesOutcome command texts outcome
      held command texts asks each =
          let told = one.some_outcome command run.old.held (Read texts) (known run is command asks texts each) in
          (told.0, is_gives command texts told.0 told.1)
