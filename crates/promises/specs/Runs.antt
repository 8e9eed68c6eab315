-- One run of the program: its words, its status, and the state of its ends before and after it. The ends are the store, the output and the
-- notes.
use Rattle.std.specs.Prelude.{◌≡◌, ◌⊎◌, ℕ, ◌<◌, ◌≤◌, true, List, [], ◌∷◌, ◌++◌, length, map, take, codes, Some, None, Contains, String, string_bytes}
use Rattle.std.specs.List.{list_all}
use Rattle.std.specs.declared.alloc.Global.{Global}
use Rattle.bt_base.specs.declared.memory.MemSink.{MemSink}
use Rattle.bt_base.specs.Counts.{Rose}
use Rattle.bt_base.specs.Memory.{asked_of, held_text, faults_of as read_faults}
use Rattle.bt_base.specs.MemSink.{faults_of, taken_of}
use Rattle.command_line.specs.declared.command.Command.TheVariants.{Chain, Ident, Device, Cover, Svf, Walk, Make, Diagnose, Groups, Batch}
use Rattle.command_line.specs.Limits.{most_made}
use Rattle.command_line.specs.Words.{Text, ChainNames, BoardNames, LogNames, Command, is_plain, number_of, names_in_command, board_names}
use Rattle.btest_cli.specs.Texts.{Held, Wanted}
use Rattle.btest_cli.specs.declared.status.Status.{Status}
use Rattle.btest_cli.specs.declared.status.Status.TheVariants.{Done, NoMemory}
use Rattle.promises.specs.declared.desk.Desk.{Desk}

-- The ends of a run at one time. `held` is the text under each name, if the store's texts are known. `asked`
-- has the names for which the store was asked, and `unread` is the number of failed reads of each name. `out`
-- and `notes` are the bytes that the output and the notes took, and `unwritten` and `unnoted` are the numbers
-- of failed writes to them.
pub record Ends : Type 0 where
  pub held : Held
  pub asked : List Text
  pub unread : Text → ℕ
  pub out : Text
  pub unwritten : ℕ
  pub notes : Text
  pub unnoted : ℕ

-- the words of the command line, the ends before and after the run, and the status
pub record Run : Type 0 where
  pub words : List Text
  pub old : Ends
  pub new : Ends
  pub status : Status

abbrev pub run_of : List (String Global) → Ends → Ends → Status → Run
run_of words old new status = record { words = map string_bytes words; old = old; new = new; status = status }

-- the ends of a run whose output and notes are in memory; the store has these texts, was asked for these
-- names, and has these numbers of failed reads
abbrev pub ends_of : Held → List Text → (Text → ℕ) → MemSink → MemSink → Ends
ends_of held asked unread out notes =
    record {
      held = held;
      asked = asked;
      unread = unread;
      out = taken_of out;
      unwritten = faults_of out;
      notes = taken_of notes;
      unnoted = faults_of notes;
    }

abbrev pub desk_ends : Desk → Ends
desk_ends desk = ends_of (Some (held_text desk.store)) (asked_of desk.store) (λ name. read_faults desk.store) desk.out desk.notes

abbrev pub desk_run : List (String Global) → Desk → Desk → Status → Run
desk_run words old new status = run_of words (desk_ends old) (desk_ends new) status

-- The limits on BSDL files and on workers are numbers here, although the reader of the words has names for them. The limits are promises of
-- the program, so changing a limit only in the reader breaks a proof here. The limit on the parts of a generated board is the name
-- `most_made` here, and samples fix it at 255.

-- the words are `front`, then the names of a chain file and of at most 255 BSDL files
abbrev pub ThenChain : List Text → ChainNames → List Text → Type 0
ThenChain front names words = (words ≡ front ++ names.chain ∷ names.bsdl) × (length names.bsdl ≤ 255)

-- the words are `front`, then the names of a chain file, of a net file and of at most 255 BSDL files
abbrev pub ThenBoard : List Text → BoardNames → List Text → Type 0
ThenBoard front names words = (words ≡ front ++ names.chain ∷ names.nets ∷ names.bsdl) × (length names.bsdl ≤ 255)

-- the words are `front`, then the names of a file of response logs, of a chain file, of a net file and of at most 255 BSDL files
abbrev pub ThenLog : List Text → LogNames → List Text → Type 0
ThenLog front names words = ThenBoard (front ++ names.log ∷ []) names.board words

-- The words of each command. A generated board has 1 to 255 parts, and there are 1 to 64 workers.
abbrev pub AreWords : Command → List Text → Type 0
AreWords (Chain names) words = ThenChain (codes "chain" ∷ []) names words
AreWords (Ident names) words = ThenChain (codes "ident" ∷ []) names words
AreWords (Device name) words = words ≡ codes "device" ∷ name ∷ []
AreWords (Cover names) words = ThenBoard (codes "cover" ∷ []) names words
AreWords (Svf names) words = ThenBoard (codes "svf" ∷ []) names words
AreWords (Walk names) words = ThenBoard (codes "walk" ∷ []) names words
AreWords (Make parts) words = (number : Text) × (number_of most_made number ≡ Some parts) × (words ≡ codes "make" ∷ number ∷ [])
AreWords (Diagnose workers names) words =
    (number : Text) × (number_of 64 number ≡ Some workers)
    × ThenLog (codes "diagnose" ∷ number ∷ []) names words
AreWords (Groups names) words = ThenLog (codes "groups" ∷ []) names words
AreWords (Batch workers names) words =
    (number : Text) × (number_of 64 number ≡ Some workers)
    × ThenLog (codes "batch" ∷ number ∷ []) names words

-- the run has the words of this command, and no word is empty or begins with a dash
abbrev pub HasWordsOf : Run → Command → Type 0
HasWordsOf run command = AreWords command run.words × (list_all is_plain run.words ≡ true)

-- the run has the words of no command
abbrev pub AsksNothing : Run → Type 0
AsksNothing run = (command : Command) → HasWordsOf run command → ⊥

-- files with these names, each with at most 4 MiB
abbrev pub texts_called : List Text → List Wanted
texts_called names = map (λ name. record { name = name; limit = 4194304 }) names

-- the file of response logs, with at most 64 MiB, and then the files of its board
abbrev pub logs_called : LogNames → List Wanted
logs_called names = record { name = names.log; limit = 67108864 } ∷ texts_called (board_names names.board)

-- the files of a command, in order
abbrev pub files_of : Command → List Wanted
files_of (Diagnose workers names) = logs_called names
files_of (Groups names) = logs_called names
files_of (Batch workers names) = logs_called names
files_of command = texts_called (names_in_command command)

-- the texts of the store are known, and the store holds this text under the name
abbrev pub Holds : Held → Text → Text → Type 0
Holds None name text = ⊥
Holds (Some held) name text = held name ≡ Some text

-- `texts` are the texts that the store holds for these files, in the order of the files, and no text is too
-- long
abbrev pub HoldsEach : Held → List Wanted → List Text → Type 0
HoldsEach held [] [] = Unit {0}
HoldsEach held [] (text ∷ texts) = ⊥
HoldsEach held (file ∷ files) [] = ⊥
HoldsEach held (file ∷ files) (text ∷ texts) = Holds held file.name text × (length text ≤ file.limit) × HoldsEach held files texts

-- `file` is the first of these files that is too long, and the store holds the files before it
pub record IsTooLong (held : Held) (files : List Wanted) (file : Wanted) : Type 0 where
  pub before : List Wanted
  pub after : List Wanted
  pub are : files ≡ before ++ file ∷ after
  pub texts : List Text
  pub each : HoldsEach held before texts
  pub text : Text
  pub holds : Holds held file.name text
  pub long : file.limit < length text

-- the words ask for the command, and the store holds these texts for its files
abbrev pub RunsOn : Run → Command → List Text → Type 0
RunsOn run command texts = HasWordsOf run command × HoldsEach run.old.held (files_of command) texts

-- no read of a file of the command failed
abbrev pub NoReadFailed : Run → Command → Type 0
NoReadFailed run command = (name : Text) → Contains (names_in_command command) name → Rose (run.old.unread name) (run.new.unread name) → ⊥

-- if no read of a file of the command failed, the run returns this status or `NoMemory`
abbrev pub EndsWith : Run → Command → Status → Type 0
EndsWith run command status = NoReadFailed run command → (run.status ≡ status) ⊎ (run.status ≡ NoMemory)

-- the run asked the store for these names in turn, and for no other name
abbrev pub AskedInTurn : Run → List Text → Type 0
AskedInTurn run names = run.new.asked ≡ run.old.asked ++ names

-- the output took these bytes
abbrev pub PutsOut : Run → Text → Type 0
PutsOut run bytes = run.new.out ≡ run.old.out ++ bytes

-- the output took nothing
abbrev pub PutsNothing : Run → Type 0
PutsNothing run = run.new.out ≡ run.old.out

-- the notes took this line, or a prefix of the line if a write to the notes failed
abbrev pub Notes : Run → Text → Type 0
Notes run line = (run.new.notes ≡ run.old.notes ++ line) ⊎ (Rose run.old.unnoted run.new.unnoted × ((count : ℕ) × (run.new.notes ≡ run.old.notes ++ take count line)))

-- At Done, the run asked for each file once and in order, the output took exactly a text for which P holds, and the notes took nothing. The
-- status is Done, unless a read of a file failed, a write of the output failed, or memory ran out.
pub record PrintsText (run : Run) (command : Command) (P : Text → Type 0) : Type 0 where
  pub asks : run.status ≡ Done → AskedInTurn run (names_in_command command)
  pub puts : run.status ≡ Done → (text : Text) × PutsOut run text × P text
  pub silent : run.status ≡ Done → run.new.notes ≡ run.old.notes
  pub ends : (Rose run.old.unwritten run.new.unwritten → ⊥) → EndsWith run command Done
