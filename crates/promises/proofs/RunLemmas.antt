-- Lemmas which turn the contract of `run` (`IsRun`) into facts about a run of one command.
use Rattle.std.proofs.Common.{◌≡◌, ◌≢◌, ◌⊎◌, ◌∙◌, List, Option, Some, Result, Ok, Err, sym, ap, subst, inl, inr}
use Rattle.std.specs.Prelude.{IfSome}
use Rattle.bt_base.specs.Counts.{Rose}
use Rattle.bt_base.specs.Puts.{Shown, Takes}
use Rattle.command_line.specs.Words.{Text, Command, command_of, names_in_command}
use Rattle.commands.specs.Requests.{Request, request_of}
use Rattle.commands.specs.Worth.{IsWorthFor}
use Rattle.btest_cli.specs.declared.status.Status.{Status}
use Rattle.btest_cli.specs.declared.status.Status.TheVariants.{Done, Refused, WriteFault, NoMemory}
use Rattle.btest_cli.specs.Texts.{Wanted, Reading, Read, IsRead, known_reading, wanted_of}
use Rattle.btest_cli.specs.Refusals.{roles_of}
use Rattle.btest_cli.specs.Outcome.{IsComplete, IsCutShort, IsDone, IsGiven, IsOutcome, IsReadAs, IsRefused, Settles, SomeRose, TookOrCut}
use Rattle.btest_cli.proofs.RequestLemmas.{same_request}
use Rattle.btest_cli.proofs.RunLemmas.{one_reading}
use Rattle.promises.specs.Runs.{HasWordsOf, EndsWith, HoldsEach, NoReadFailed, Notes, PrintsText, PutsOut, PutsNothing, Run, files_of}
use Rattle.promises.specs.Gives.{GivesOutcome}
use Rattle.promises.specs.inner.Facts.{IsRun, SayOne, notes_of, out_of}
use Rattle.promises.proofs.WordLemmas.{command_is}
use Rattle.promises.proofs.ReadLemmas.{files_are, reads, some_rose}
use Rattle.promises.proofs.GiveLemmas.{is_gives, not_both}

pub same_some : {x y : Text} → ◌≡◌ {A = Option Text} (Some x) (Some y) → x ≡ y
same_some e = cc

-- if the sink in memory takes the bytes, the output of the run takes the same bytes
pub out_taken : (run : Run) (bytes : Text) → Takes (out_of run.old) (out_of run.new) bytes → PutsOut run bytes
out_taken run bytes takes = same_some takes.taken

pub noted : (run : Run) (line : Text) → TookOrCut (notes_of run.old) (notes_of run.new) line → Notes run line
noted run line (inl takes) = inl (same_some takes.taken)
noted run line (inr (rose, (count, takes))) = inr (rose, (count, same_some takes.taken))

pub nothing_put : (run : Run) → out_of run.new ≡ out_of run.old → PutsNothing run
nothing_put run same = same_some (ap (λ (shown : Shown). shown.taken) same)

nothing_noted : (run : Run) → notes_of run.new ≡ notes_of run.old → run.new.notes ≡ run.old.notes
nothing_noted run same = same_some (ap (λ (shown : Shown). shown.taken) same)

pub apart : {s : Status} (a b : Status) → s ≡ a → s ≡ b → (a ≡ b → ⊥) → ⊥
apart a b one other differ = differ (sym one ∙ other)

module _ (run : Run) (is : IsRun run) (command : Command) (asks : HasWordsOf run command) where
  -- `command` is the command that the words of the run form, so what holds for that command holds for `command`
  pub here : (P : Command → Type 0) → IfSome (command_of run.words) P → P command
  here P all = subst (λ (c : Option Command). IfSome c P) (command_is run command asks) all

  pub none_rose : NoReadFailed run command → SomeRose run.old.unread run.new.unread (names_in_command command) → ⊥
  none_rose calm rose = let one = some_rose run.old.unread run.new.unread (names_in_command command) rose in calm one.0 one.1 one.2

  -- if the reading of the command's texts is known and no read failed, the reading has an outcome, and this
  -- outcome determines the status, unless memory ran out
  pub settled : (reading : Reading) → known_reading run.old.held (wanted_of command) ≡ Some reading
      → NoReadFailed run command
      → (outcome : Result Text Text) × IsOutcome command reading outcome
      × Settles (Rose run.old.unwritten run.new.unwritten) outcome run.status
  settled reading known calm =
      here
      (λ c. IsComplete run.old.held c (SomeRose run.old.unread run.new.unread (names_in_command c))
      (Rose run.old.unwritten run.new.unwritten) run.status) is.complete reading known
      (none_rose calm)

  pub done_here : run.status ≡ Done → IsDone run.old.held command run.old.asked run.new.asked (out_of run.old) (out_of run.new)
  done_here e = here (λ c. IsDone run.old.held c run.old.asked run.new.asked (out_of run.old) (out_of run.new)) (is.done e)

  pub refused_here : run.status ≡ Refused → IsRefused run.old.held command run.old.asked run.new.asked (notes_of run.old) (notes_of run.new)
  refused_here e = here (λ c. IsRefused run.old.held c run.old.asked run.new.asked (notes_of run.old) (notes_of run.new)) (is.refused e)

  pub cut_here : run.status ≡ WriteFault → IsCutShort run.old.held command run.old.asked run.new.asked (out_of run.old) (out_of run.new)
  cut_here e = here (λ c. IsCutShort run.old.held c run.old.asked run.new.asked (out_of run.old) (out_of run.new)) (is.cut e)

  -- if the reading of the command's texts is known and gives the line of a fault, the run ends as Refused,
  -- unless a read failed or memory ran out
  pub ends_refused : SayOne → (reading : Reading) (line : Text)
      → known_reading run.old.held (wanted_of command) ≡ Some reading
      → IsOutcome command reading (Err line) → EndsWith run command Refused
  ends_refused one reading line known fault calm = let told = settled reading known calm in by_outcome told.0 told.1 told.2
    where
      by_outcome : (outcome : Result Text Text) → IsOutcome command reading outcome
          → Settles (Rose run.old.unwritten run.new.unwritten) outcome run.status
          → (run.status ≡ Refused) ⊎ (run.status ≡ NoMemory)
      by_outcome (Ok text) given settles = absurd (not_both (one.outcome command reading (Ok text) (Err line) given fault))
      by_outcome (Err other) given settles = settles

  pub not_done : SayOne → (reading : Reading) (line : Text)
      → known_reading run.old.held (wanted_of command) ≡ Some reading
      → IsOutcome command reading (Err line) → run.status ≢ Done
  not_done one reading line known fault e =
      let told = done_here e in
      let same = one_reading run.old.held (wanted_of command) reading (Read told.read.texts) known told.read.read in
      not_both
      (one.outcome command reading (Ok told.text) (Err line)
      (subst (λ (r : Reading). IsOutcome command r (Ok told.text)) same
      (told.request, told.read.made, told.gives)) fault)

  pub not_cut : SayOne → (reading : Reading) (line : Text)
      → known_reading run.old.held (wanted_of command) ≡ Some reading
      → IsOutcome command reading (Err line) → run.status ≢ WriteFault
  not_cut one reading line known fault e =
      let told = cut_here e in
      let same = one_reading run.old.held (wanted_of command) reading (Read told.read.texts) known told.read.read in
      not_both
      (one.outcome command reading (Ok told.text) (Err line)
      (subst (λ (r : Reading). IsOutcome command r (Ok told.text)) same
      (told.request, told.read.made, told.gives)) fault)

  module _ (texts : List Text) (each : HoldsEach run.old.held (files_of command) texts) where
    pub known : known_reading run.old.held (wanted_of command) ≡ Some (Read texts)
    known =
        subst (λ (files : List Wanted). known_reading run.old.held files ≡ Some (Read texts))
        (files_are command) (reads run.old.held (files_of command) texts each)

    pub texts_are : (others : List Text) → IsRead run.old.held (wanted_of command) (Read others) → others ≡ texts
    texts_are others read =
        let same = one_reading run.old.held (wanted_of command) (Read texts) (Read others) known read in
        cc

    given : (request : Request) (text : Text)
        → IsReadAs run.old.held command run.old.asked run.new.asked request
        → IsGiven (roles_of command) request (Ok text) → GivesOutcome command texts (Ok text)
    given request text read gives =
        let made = subst (λ (l : List Text). request_of command l ≡ Some request) (texts_are read.texts read.read) read.made in
        is_gives command texts (Ok text) (request, made, gives)

    -- if the status is Done or WriteFault, the texts of the files give a text
    pub gives_text : (run.status ≡ Done) ⊎ (run.status ≡ WriteFault) → (text : Text) × GivesOutcome command texts (Ok text)
    gives_text (inl e) = let told = done_here e in (told.text, given told.request told.text told.read told.gives)
    gives_text (inr e) = let told = cut_here e in (told.text, given told.request told.text told.read told.gives)

    -- if the files give no fault, and each text that they give and that satisfies `IsWorthFor` has the
    -- property P, the run keeps the promise to print a text with P
    pub prints : (request : Request) → request_of command texts ≡ Some request → (P : Text → Type 0)
        → ((line : Text) → GivesOutcome command texts (Err line) → ⊥)
        → ((text : Text) → GivesOutcome command texts (Ok text) → IsWorthFor request text → P text)
        → PrintsText run command P
    prints request made P sound worth = record {
      asks = λ e. (done_here e).read.asks;
      puts = λ e.
          let told = done_here e in
          let same = texts_are told.read.texts told.read.read in
          let made_here = subst (λ (l : List Text). request_of command l ≡ Some told.request) same told.read.made in
          let gives = is_gives command texts (Ok told.text) (told.request, made_here, told.gives) in
          let is_worth = subst (λ (r : Request). IsWorthFor r told.text) (same_request (sym made_here ∙ made)) told.worth in
          (told.text, out_taken run told.text told.takes, worth told.text gives is_worth);
      silent = λ e. nothing_noted run (is.silent e);
      ends = λ calm unread. let told = settled (Read texts) known unread in by_outcome calm told.0 told.1 told.2;
    }
      where
        by_outcome : (Rose run.old.unwritten run.new.unwritten → ⊥) → (outcome : Result Text Text)
            → IsOutcome command (Read texts) outcome
            → Settles (Rose run.old.unwritten run.new.unwritten) outcome run.status
            → (run.status ≡ Done) ⊎ (run.status ≡ NoMemory)
        by_outcome calm (Ok text) given settles = settles calm
        by_outcome calm (Err line) given settles = absurd (sound line (is_gives command texts (Err line) given))
