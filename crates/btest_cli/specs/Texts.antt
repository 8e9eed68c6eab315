-- The texts that a command reads.
use Rattle.std.specs.Prelude.{◌≡◌, ℕ, ◌<◌, List, [], ◌∷◌, ◌++◌, length, map, Option, Some, None, nat_lt, if◌then◌else◌}
use Rattle.command_line.specs.declared.command.Command.TheVariants.{Diagnose, Groups, Batch}
use Rattle.command_line.specs.Words.{Text, LogNames, Command, board_names, names_in_command}

-- a text to read: its name, and the largest number of bytes that it may have
pub record Wanted : Type 0 where
  pub name : Text
  pub limit : ℕ

-- a chain file, a net file or a BSDL text with this name, with the limit of 4 MiB
abbrev pub text_called : Text → Wanted
text_called name = record { name = name; limit = 4194304 }

-- a response log or a batch of logs with this name, with the limit of 64 MiB
abbrev pub wanted_log : Text → Wanted
wanted_log name = record { name = name; limit = 67108864 }

-- the file of one or more response logs, and then the files of its board
abbrev pub logs_wanted : LogNames → List Wanted
logs_wanted names = wanted_log names.log ∷ map text_called (board_names names.board)

-- the texts that a command reads, in the order in which it reads them
abbrev pub wanted_of : Command → List Wanted
wanted_of (Diagnose workers names) = logs_wanted names
wanted_of (Groups names) = logs_wanted names
wanted_of (Batch workers names) = logs_wanted names
wanted_of command = map text_called (names_in_command command)

abbrev pub names_in : List Wanted → List Text
names_in texts = map (λ text. text.name) texts

-- The text that a store holds under each name, if these texts are known. They are known for a store in memory.
abbrev pub Held : Type 0
Held = Option (Text → Option Text)

-- the result of reading texts: all texts, or the first text that is too long
pub data Reading : Type 0 where
  Read : List Text → Reading
  TooLong : Wanted → Reading

abbrev pub and_text : Text → Option Reading → Option Reading
and_text text None = None
and_text text (Some (Read texts)) = Some (Read (text ∷ texts))
and_text text (Some (TooLong wanted)) = Some (TooLong wanted)

abbrev pub read_first : Wanted → Option Text → Option Reading → Option Reading
read_first wanted None rest = None
read_first wanted (Some text) rest = if nat_lt wanted.limit (length text) then Some (TooLong wanted) else and_text text rest

-- The result of reading these texts in order. It is `None` if the store does not hold a text that is read.
abbrev pub reading_of : (Text → Option Text) → List Wanted → Option Reading
reading_of held [] = Some (Read [])
reading_of held (wanted ∷ others) = read_first wanted (held wanted.name) (reading_of held others)

-- The result of reading these texts in order, if `found` has the texts that the store gives for them. It is
-- `None` if `found` ends before a text that is read.
abbrev pub reading_in : List Wanted → List Text → Option Reading
reading_in [] found = Some (Read [])
reading_in (wanted ∷ others) [] = None
reading_in (wanted ∷ others) (text ∷ found) = read_first wanted (Some text) (reading_in others found)

-- `reading` is the result of reading the texts. If the store's texts are known, these are the texts
-- that are read. Otherwise `reading` is the result for some texts.
abbrev pub IsRead : Held → List Wanted → Reading → Type 0
IsRead None texts reading = (found : List Text) × (reading_in texts found ≡ Some reading)
IsRead (Some held) texts reading = reading_of held texts ≡ Some reading

-- The result of reading these texts, if it is known. It is known if the store's texts are known or if there is no text to read.
abbrev pub known_reading : Held → List Wanted → Option Reading
known_reading held [] = Some (Read [])
known_reading None (wanted ∷ others) = None
known_reading (Some held) (wanted ∷ others) = reading_of held (wanted ∷ others)

-- if the store's texts are known, the store holds this text under the name
abbrev pub IsText : Held → Text → Text → Type 0
IsText None name text = Unit {0}
IsText (Some held) name text = held name ≡ Some text

-- Some text has more bytes than the limit of `wanted`. If the store's texts are known, the store holds this text under the name in
-- `wanted`.
abbrev pub IsLong : Held → Wanted → Type 0
IsLong None wanted = (text : Text) × (wanted.limit < length text)
IsLong (Some held) wanted = (text : Text) × (held wanted.name ≡ Some text) × (wanted.limit < length text)

-- between the two states, the run asked the store for these names in turn, and for no others
abbrev pub Asks : List Text → List Text → List Text → Type 0
Asks old new names = new ≡ old ++ names

-- the run read the texts before `last`, then asked the store for `last`, and asked for no later text
pub record IsReadUpTo (held : Held) (texts : List Wanted) (last : Wanted) (old new : List Text) : Type 0 where
  pub before : List Wanted
  pub after : List Wanted
  pub are : texts ≡ before ++ last ∷ after
  pub found : List Text
  pub read : IsRead held before (Read found)
  pub asked : Asks old new (names_in before ++ last.name ∷ [])

-- The run asked the store for the names that this reading needs: all names, or the names up to the first text that is too long.
abbrev pub AsksFor : Held → List Wanted → Reading → List Text → List Text → Type 0
AsksFor held texts (Read found) old new = Asks old new (names_in texts)
AsksFor held texts (TooLong last) old new = IsReadUpTo held texts last old new
