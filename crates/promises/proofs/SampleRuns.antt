-- Samples of runs that break a promise, worked out by hand. For each fact that a promise states, there is a run in which only this fact is
-- false. In other runs, only the read of another name or a write to the notes failed, and the promise still covers these runs. Some runs
-- break nothing. The samples hold for any files with the stated properties.
use Rattle.std.proofs.Common.{◌≡◌, ◌⊎◌, ◌∙◌, ℕ, zero, suc, ◌+◌, ◌<◌, ◌≤◌, Bool, true, false, List, [], ◌∷◌, ◌++◌, length, map, cond, Option, Some, None, Result, Ok, Err, refl, sym, ap, subst, inl, inr, length-append, arith}
use Rattle.std.specs.Prelude.{Contains, codes, take}
use Rattle.std.specs.Str.{bytes_eq}
use Rattle.bt_base.specs.Counts.{Rose}
use Rattle.board_defs.specs.declared.device.RawDevice.{RawDevice}
use Rattle.device_check.specs.DeviceText.{device_text}
use Rattle.btest_core.specs.DevicesRead.{IsDeviceText}
use Rattle.refusal_lines.specs.Refusals.{usage_line, long_line, read_line, write_line, memory_line}
use Rattle.command_line.specs.declared.command.Command.TheVariants.{Chain, Device, Svf}
use Rattle.command_line.specs.Words.{Text, Command}
use Rattle.btest_cli.specs.Texts.{Held, Wanted}
use Rattle.btest_cli.specs.declared.status.Status.{Status}
use Rattle.btest_cli.specs.declared.status.Status.TheVariants.{Done, Refused, Usage, ReadFault, WriteFault, NoMemory}
use Rattle.promises.specs.Runs.{HasWordsOf, AsksNothing, Ends, HoldsEach, IsTooLong, NoReadFailed, Notes, PrintsText, Run, RunsOn, files_of}
use Rattle.promises.specs.Gives.{GivesOutcome}
use Rattle.promises.specs.Promises.{FilesGive, FindsOutcome, RestsOnFiles, TellsFault, TellsLong, TellsMemory, TellsUnread, TellsUnwritten, TellsUsage}
use Rattle.promises.proofs.WordLemmas.{command_is, none_asked}
use Rattle.promises.proofs.RunLemmas.{same_some}

-- The state after a run in which no read and no write failed: what the store holds, the names asked for, the output and the notes.
abbrev pub ends : Held → List Text → Text → Text → Ends
ends held asked out notes = record { held = held; asked = asked; unread = λ name. 0; out = out; unwritten = 0; notes = notes; unnoted = 0 }

-- A run of these words. Before it, nobody had asked the store for a name, and the output and the notes were empty. The run asked the store
-- for the names `asked`, and wrote `out` and `notes`.
abbrev pub run_of : List Text → Held → Status → List Text → Text → Text → Run
run_of words held status asked out notes =
    record
    { words = words; old = ends held [] [] []; new = ends held asked out notes; status = status }

-- the words of `device`
abbrev pub device_words : List Text
device_words = codes "device" ∷ codes "b" ∷ []

abbrev pub device : Command
device = Device (codes "b")

abbrev b_file : Wanted
b_file = record { name = codes "b"; limit = 4194304 }

abbrev pub chain_words : List Text
chain_words = codes "chain" ∷ codes "c" ∷ codes "b" ∷ []

abbrev pub chain : Command
chain = Chain (record { chain = codes "c"; bsdl = codes "b" ∷ [] })

abbrev c_file : Wanted
c_file = record { name = codes "c"; limit = 4194304 }

abbrev pub svf_words : List Text
svf_words = codes "svf" ∷ codes "c" ∷ codes "n" ∷ codes "b" ∷ []

abbrev pub svf : Command
svf = Svf (record { chain = codes "c"; nets = codes "n"; bsdl = codes "b" ∷ [] })

abbrev b_asked : List Text
b_asked = codes "b" ∷ []

-- a store that is known to hold no file
abbrev empty : Held
empty = Some (λ name. None)

calm : Rose 0 0 → ⊥
calm (inl less) = omega (arith, less)
calm (inr last) = omega (arith, last)

-- two texts of which `bytes_eq` is false are not equal
apart : (one other : Text) → bytes_eq one one ≡ true → bytes_eq one other ≡ false → one ≡ other → ⊥
apart one other same differ is =
    let z : true ≡ false = sym same ∙ ap (bytes_eq one) is ∙ differ in
    cc z

-- if `bytes_eq` is false for `one` and every beginning of `line`, `line` does not begin with `one`
no_front : (one line : Text) → bytes_eq one one ≡ true → bytes_eq one [] ≡ false
    → ((count : ℕ) → bytes_eq one (take (suc count) line) ≡ false) → (count : ℕ)
    → one ≡ take count line → ⊥
no_front one line same some differ zero is = apart one [] same some is
no_front one line same some differ (suc count) is = apart one (take (suc count) line) same (differ count) is

-- if nothing was written to the notes and `line` is not empty, the notes did not take `line`
none_noted : (words : List Text) (held : Held) (status : Status) (asked : List Text)
    (out line : Text) → bytes_eq [] line ≡ false
    → Notes (run_of words held status asked out []) line → ⊥
none_noted words held status asked out line some (inl is) = apart [] line refl some is
none_noted words held status asked out line some (inr (rose, cut)) = calm rose

neither : (status one other : Status) → (status ≡ one → ⊥) → (status ≡ other → ⊥) → (status ≡ one) ⊎ (status ≡ other) → ⊥
neither status one other first second (inl is) = first is
neither status one other first second (inr is) = second is

-- The run `run`, but with one failed write to the notes.

abbrev unnoted : Run → Run
unnoted run = record run { new = record run.new { unnoted = 1 } }

abbrev noting : Text → Run
noting notes = run_of [] empty Usage [] [] notes

noted_whole : (line : Text) → Notes (noting line) line
noted_whole line = inl refl

noted_in_part : (line : Text) (count : ℕ) → Notes (unnoted (noting (take count line))) line
noted_in_part line count = inr (inl (omega arith), (count, refl))

-- if no write failed, the notes must not have only a part of the line
noted_in_part_alone : Notes (noting (codes "us")) usage_line → ⊥
noted_in_part_alone (inl is) = apart (codes "us") usage_line refl refl is
noted_in_part_alone (inr (rose, cut)) = calm rose

-- even if a write failed, the notes must not have bytes with which the line does not begin
noted_other : Notes (unnoted (noting (codes "x"))) usage_line → ⊥
noted_other (inl is) = apart (codes "x") usage_line refl refl is
noted_other (inr (rose, (count, is))) = no_front (codes "x") usage_line refl refl (λ n. refl) count is

-- the run keeps the promise that `device` prints the text that is the single byte 1
abbrev PrintsOne : Run → Type 0
PrintsOne run = PrintsText run device (λ text. text ≡ 1 ∷ [])

prints_unasked : PrintsOne (run_of device_words empty Done [] (1 ∷ []) []) → ⊥
prints_unasked prints = let count : 0 ≡ 1 = ap length (prints.asks refl) in absurd (omega (arith, count))

prints_asked_twice : PrintsOne (run_of device_words empty Done (codes "b" ∷ codes "b" ∷ []) (1 ∷ []) []) → ⊥
prints_asked_twice prints = let count : 2 ≡ 1 = ap length (prints.asks refl) in absurd (omega (arith, count))

prints_nothing : PrintsOne (run_of device_words empty Done b_asked [] []) → ⊥
prints_nothing prints =
    let told = prints.puts refl in
    let count : 0 ≡ 1 = ap length (told.1 ∙ told.2) in
    absurd (omega (arith, count))

prints_more : PrintsOne (run_of device_words empty Done b_asked (1 ∷ 1 ∷ []) []) → ⊥
prints_more prints =
    let told = prints.puts refl in
    let count : 2 ≡ 1 = ap length (told.1 ∙ told.2) in
    absurd (omega (arith, count))

prints_with_note : PrintsOne (run_of device_words empty Done b_asked (1 ∷ []) (1 ∷ [])) → ⊥
prints_with_note prints = let count : 1 ≡ 0 = ap length (prints.silent refl) in absurd (omega (arith, count))

-- a run that prints its text must not write a part of a line to the notes, even if a write to the notes failed
prints_with_part : PrintsOne (unnoted (run_of device_words empty Done b_asked (1 ∷ []) (codes "us"))) → ⊥
prints_with_part prints = let count : 2 ≡ 0 = ap length (prints.silent refl) in absurd (omega (arith, count))

prints_refused : PrintsOne (run_of device_words empty Refused b_asked [] []) → ⊥
prints_refused prints = neither Refused Done NoMemory (λ e. cc) (λ e. cc) (prints.ends calm (λ name among rose. calm rose))

-- the status must not be WriteFault if no write of the output and no read of the file failed
prints_unwritten : PrintsOne (run_of device_words empty WriteFault b_asked [] []) → ⊥
prints_unwritten prints = neither WriteFault Done NoMemory (λ e. cc) (λ e. cc) (prints.ends calm (λ name among rose. calm rose))

-- the status must not be WriteFault if only a write to the notes failed
prints_unnoted : PrintsOne (unnoted (run_of device_words empty WriteFault b_asked [] [])) → ⊥
prints_unnoted prints = neither WriteFault Done NoMemory (λ e. cc) (λ e. cc) (prints.ends calm (λ name among rose. calm rose))

-- The run `run`, but with one failed read of the file `name`.

abbrev failing : Text → Run → Run
failing name run = record run { new = record run.new { unread = λ other. cond (bytes_eq name other) 1 0 } }

only_name : (name : Text) → Contains (codes "b" ∷ []) name → name ≡ codes "b"
only_name name (zero, below, is) = sym is
only_name name (suc k, below, is) = absurd (omega (arith, below))

-- if only the read of the file `name` failed, no read of another file failed
was_read : (name other : Text) → bytes_eq name other ≡ false → (file : Text) → file ≡ other → Rose 0 (cond (bytes_eq name file) 1 0) → ⊥
was_read name other differ file is rose =
    let same : cond (bytes_eq name file) 1 0
    ≡ 0 = ap (λ (n : Text). cond (bytes_eq name n) 1 0) is
    ∙ ap (λ (b : Bool). cond b 1 0) differ in
    calm (subst (λ (n : ℕ). Rose 0 n) same rose)

b_read : (words asked : List Text) (held : Held) (status : Status) (out notes : Text)
    → NoReadFailed (failing (codes "x") (run_of words held status asked out notes)) device
b_read words asked held status out notes name among rose = was_read (codes "x") (codes "b") refl name (only_name name among) rose

other_read_failed : PrintsOne (failing (codes "x") (run_of device_words empty ReadFault [] [] (read_line (codes "x")))) → ⊥
other_read_failed prints =
    neither ReadFault Done NoMemory (λ e. cc) (λ e. cc)
    (prints.ends calm (b_read device_words [] empty ReadFault [] (read_line (codes "x"))))

-- An empty list of words asks for no command.

nothing_asked : (held : Held) (status : Status) (asked : List Text) (out notes : Text) → AsksNothing (run_of [] held status asked out notes)
nothing_asked held status asked out notes = none_asked (run_of [] held status asked out notes) refl

usage_of_command : TellsUsage (run_of device_words empty Usage [] [] usage_line) → ⊥
usage_of_command tells = (tells.0 refl).0 device (refl, refl)

usage_with_text : TellsUsage (run_of [] empty Usage [] (1 ∷ []) usage_line) → ⊥
usage_with_text tells = let count : 1 ≡ 0 = ap length (tells.0 refl).1 in absurd (omega (arith, count))

usage_without_note : TellsUsage (run_of [] empty Usage [] [] []) → ⊥
usage_without_note tells = none_noted [] empty Usage [] [] usage_line refl (tells.0 refl).2

done_without_command : TellsUsage (run_of [] empty Done [] [] []) → ⊥
done_without_command tells = neither Done Usage NoMemory (λ e. cc) (λ e. cc) (tells.1 (nothing_asked empty Done [] [] [])).0

usage_that_asked : TellsUsage (run_of [] empty Usage b_asked [] usage_line) → ⊥
usage_that_asked tells =
    let count : 1 ≡ 0 = ap length (tells.1 (nothing_asked empty Usage b_asked [] usage_line)).1 in
    absurd (omega (arith, count))

usage_that_read : TellsUsage (failing (codes "b") (run_of [] empty Usage [] [] usage_line)) → ⊥
usage_that_read tells =
    let nothing : AsksNothing (failing (codes "b") (run_of [] empty Usage [] [] usage_line)) =
    none_asked (failing (codes "b") (run_of [] empty Usage [] [] usage_line)) refl in
    let count : 1 ≡ 0 = ap (λ (unread : Text → ℕ). unread (codes "b")) (tells.1 nothing).2 in
    absurd (omega (arith, count))

-- The store is known to hold no file before this run. After the run it is not known what the store holds.
abbrev forgotten : Run
forgotten = let run = run_of [] empty Usage [] [] usage_line in record run { new = record run.new { held = None } }

usage_that_forgot : TellsUsage forgotten → ⊥
usage_that_forgot tells =
    let same : ◌≡◌ {A = Held} None empty = (tells.1 (none_asked forgotten refl)).3 in
    cc same

is_device : (run : Run) (command : Command) → HasWordsOf run device → HasWordsOf run command → command ≡ device
is_device run command one other =
    let same : ◌≡◌ {A = Option Command} (Some command) (Some device) = sym (command_is run command other) ∙ command_is run device one in
    cc

-- A listing is not empty.
some_listing : (described : RawDevice) → ◌≡◌ {A = Text} [] (device_text described) → ⊥
unfolding device_text
some_listing described is = apart [] (device_text described) refl refl is

no_listing : (described : RawDevice) (count : ℕ) → codes "x" ≡ take count (device_text described) → ⊥
unfolding device_text
no_listing described count is = no_front (codes "x") (device_text described) refl refl (λ n. refl) count is

-- A store that holds `text` under each name.
module _ (text : Text) (short : length text ≤ 4194304) where
  abbrev holding : Held
  holding = Some (λ name. Some text)

  on_text : (status : Status) (asked : List Text) (out notes : Text)
      → RunsOn (run_of device_words holding status asked out notes) device (text ∷ [])
  on_text status asked out notes = ((refl, refl), (refl, short, tt))

  -- if the store holds `texts` for the files of `device`, `texts` is the list with only `text`
  only_text : (texts : List Text) → HoldsEach holding (files_of device) texts → text ∷ [] ≡ texts
  only_text [] each = absurd each
  only_text (one ∷ []) each = ap (λ (t : Text). t ∷ []) (same_some each.0)
  only_text (one ∷ other ∷ others) each = absurd each.2

  none_long : (file : Wanted) → IsTooLong holding (files_of device) file → ⊥
  none_long file long =
      let same : text ≡ long.text = same_some long.holds in
      let more : file.limit < length text = subst (λ (t : Text). file.limit < length t) (sym same) long.long in
      let limit : 4194304 ≡ file.limit = by_before long.before long.after file long.are in
      omega (arith, more, limit, short)
    where
      first_limit : List Wanted → ℕ
      first_limit [] = 0
      first_limit (first ∷ others) = first.limit

      by_before : (before after : List Wanted) (file : Wanted) → b_file ∷ [] ≡ before ++ file ∷ after → 4194304 ≡ file.limit
      by_before [] after file are = ap first_limit are
      by_before (first ∷ before) after file are =
          let count : 1 ≡ suc (length (before ++ file ∷ after)) = ap length are in
          let more : length (before ++ file ∷ after) ≡ length before + suc (length after) = length-append before (file ∷ after) in
          absurd (omega (arith, count, more))

  given_text : (outcome : Result Text Text)
      → ((texts : List Text) × HoldsEach holding (files_of device) texts
      × GivesOutcome device texts outcome)
      ⊎ ((file : Wanted) × IsTooLong holding (files_of device) file
      × (outcome ≡ Err (long_line file.name file.limit))) → GivesOutcome device (text ∷ []) outcome
  given_text outcome (inl (texts, each, gives)) =
      subst (λ (l : List Text). GivesOutcome device l outcome) (sym (only_text texts each)) gives
  given_text outcome (inr (file, long, is)) = absurd (none_long file long)

  device_gives : (status : Status) (asked : List Text) (out notes : Text) (command : Command)
      → HasWordsOf (run_of device_words holding status asked out notes) command
      → (outcome : Result Text Text)
      → FilesGive (run_of device_words holding status asked out notes) command outcome
      → GivesOutcome device (text ∷ []) outcome
  device_gives status asked out notes command asks outcome gives =
      given_text outcome
      (subst
      (λ (c : Command). FilesGive (run_of device_words holding status asked out notes) c
      outcome)
      (is_device (run_of device_words holding status asked out notes) command (refl, refl)
      asks) gives)

  -- Samples of refusals. If the file has no fault, the status must not be Refused. If it has a first fault, whose line
  -- is not empty, the run must be refused with this line.

  refused_without_fault : ((line : Text) → GivesOutcome device (text ∷ []) (Err line) → ⊥)
      → TellsFault (run_of device_words holding Refused b_asked [] (1 ∷ [])) → ⊥
  refused_without_fault sound tells =
      let told = ((tells.1 device (text ∷ []) (on_text Refused b_asked [] (1 ∷ []))).0 refl).1 in
      sound told.0 told.1

  module _ (some : GivesOutcome device (text ∷ []) (Err []) → ⊥) where
    some_line : (line : Text) → GivesOutcome device (text ∷ []) (Err line)
        → Notes (run_of device_words holding Refused b_asked [] []) line → ⊥
    some_line line gives (inl is) = some (subst (λ (l : Text). GivesOutcome device (text ∷ []) (Err l)) (sym is) gives)
    some_line line gives (inr (rose, cut)) = calm rose

    refused_without_note : TellsFault (run_of device_words holding Refused b_asked [] []) → ⊥
    refused_without_note tells =
        let told = ((tells.1 device (text ∷ []) (on_text Refused b_asked [] [])).0 refl).1 in
        some_line told.0 told.1 told.2

    refused_without_line : RestsOnFiles (run_of device_words holding Refused b_asked [] []) → ⊥
    refused_without_line rests =
        let told = rests.2 refl in
        some_line told.2 (device_gives Refused b_asked [] [] told.0 told.1 (Err told.2) told.3)
        told.4

  module _ (line : Text) (gives : GivesOutcome device (text ∷ []) (Err line)) where
    refused_with_text : TellsFault (run_of device_words holding Refused b_asked (1 ∷ []) line) → ⊥
    refused_with_text tells = let count : 1 ≡ 0 = ap length (tells.0 refl) in absurd (omega (arith, count))

    refused_unasked : TellsFault (run_of device_words holding Refused [] [] line) → ⊥
    refused_unasked tells =
        let count : 0
        ≡ 1 = ap length ((tells.1 device (text ∷ []) (on_text Refused [] [] line)).0 refl).0 in
        absurd (omega (arith, count))

    -- if a read of the file failed, the status must still not be Done
    fault_done : TellsFault (failing (codes "b") (run_of device_words holding Done b_asked [] [])) → ⊥
    fault_done tells = ((tells.1 device (text ∷ []) ((refl, refl), (refl, short, tt))).1 line gives).0 refl

    fault_unwritten : TellsFault (failing (codes "b") (run_of device_words holding WriteFault b_asked [] [])) → ⊥
    fault_unwritten tells = ((tells.1 device (text ∷ []) ((refl, refl), (refl, short, tt))).1 line gives).1 refl

    fault_as_usage : TellsFault (run_of device_words holding Usage b_asked [] []) → ⊥
    fault_as_usage tells =
        neither Usage Refused NoMemory (λ e. cc) (λ e. cc)
        (((tells.1 device (text ∷ []) (on_text Usage b_asked [] [])).1 line gives).2
        (λ name among rose. calm rose))

    -- if only the read of another name failed, the status must not be ReadFault
    fault_as_unread : TellsFault (failing (codes "x") (run_of device_words holding ReadFault [] [] (read_line (codes "x")))) → ⊥
    fault_as_unread tells =
        neither ReadFault Refused NoMemory (λ e. cc) (λ e. cc)
        (((tells.1 device (text ∷ []) ((refl, refl), (refl, short, tt))).1 line gives).2
        (b_read device_words [] holding ReadFault [] (read_line (codes "x"))))

    refused_as_told : RestsOnFiles (run_of device_words holding Refused b_asked [] line)
    refused_as_told = (
      λ e. absurd cc,
      λ e. absurd cc,
      λ e. (device, (refl, refl), line, inl (text ∷ [], (refl, short, tt), gives), inl refl),
    )

    -- if the words ask for no command, the status must not be Refused
    refused_without_words : RestsOnFiles (run_of [] holding Refused b_asked [] line) → ⊥
    refused_without_words rests = let told = rests.2 refl in nothing_asked holding Refused b_asked [] line told.0 told.1

  -- The file describes a device. The run must print the listing of this device, or a part of it if a write of the output failed. In these
  -- samples the output took nothing, or bytes with which no listing begins.

  -- a run in which a write of the output failed
  abbrev cut_after : List Text → Text → Text → Run
  cut_after asked out notes =
      let run = run_of device_words holding WriteFault asked out notes in
      record run { new = record run.new { unwritten = 1 } }

  on_cut : (asked : List Text) (out notes : Text) → RunsOn (cut_after asked out notes) device (text ∷ [])
  on_cut asked out notes = ((refl, refl), (refl, short, tt))

  unwritten_without_fault : TellsUnwritten (run_of device_words holding WriteFault b_asked [] write_line) → ⊥
  unwritten_without_fault tells = calm (tells refl).0

  -- if only a write to the notes failed, the status must not be WriteFault
  unwritten_as_unnoted : TellsUnwritten (unnoted (run_of device_words holding WriteFault b_asked [] write_line)) → ⊥
  unwritten_as_unnoted tells = calm (tells refl).0

  unwritten_without_note : TellsUnwritten (cut_after b_asked [] []) → ⊥
  unwritten_without_note tells = by_note (tells refl).1
    where
      by_note : Notes (cut_after b_asked [] []) write_line → ⊥
      by_note (inl is) = apart [] write_line refl refl is
      by_note (inr (rose, cut)) = calm rose

  unwritten_unasked : TellsUnwritten (cut_after [] [] write_line) → ⊥
  unwritten_unasked tells =
      let count : 0
      ≡ 1 = ap length ((tells refl).2 device (text ∷ []) (on_cut [] [] write_line)).0 in
      absurd (omega (arith, count))

  unwritten_of_no_text : ((other : Text) → GivesOutcome device (text ∷ []) (Ok other) → ⊥)
      → TellsUnwritten (cut_after b_asked [] write_line) → ⊥
  unwritten_of_no_text none tells = let told = ((tells refl).2 device (text ∷ []) (on_cut b_asked [] write_line)).1 in none told.0 told.1

  other_bytes : TellsUnwritten (cut_after b_asked (codes "x") write_line) → ⊥
  other_bytes tells =
      let told = ((tells refl).2 device (text ∷ []) (on_cut b_asked (codes "x") write_line)).1 in
      no_listing told.1.0 told.2 (told.3 ∙ ap (take told.2) told.1.2)

  done_without_text : RestsOnFiles (run_of device_words holding Done b_asked [] []) → ⊥
  done_without_text rests =
      let told = rests.0 refl in
      let gives = device_gives Done b_asked [] [] told.0 told.1 (Ok told.2) told.3 in
      some_listing gives.0 (told.4 ∙ gives.2)

  unwritten_past_text : RestsOnFiles (run_of device_words holding WriteFault b_asked (codes "x") []) → ⊥
  unwritten_past_text rests =
      let told = rests.1 refl in
      let gives = device_gives WriteFault b_asked (codes "x") [] told.0 told.1 (Ok told.2) told.3 in
      no_listing gives.0 told.4 (told.5 ∙ ap (take told.4) gives.2)

  module _ (described : RawDevice) (is : IsDeviceText text (Ok described)) where
    done_as_told : RestsOnFiles (run_of device_words holding Done b_asked (device_text described) [])
    done_as_told = (
      λ e. (
        device,
        (refl, refl),
        device_text described,
        inl (text ∷ [], (refl, short, tt), (described, is, refl)),
        refl,
      ),
      λ e. absurd cc,
      λ e. absurd cc,
    )

    unwritten_as_told : RestsOnFiles (run_of device_words holding WriteFault b_asked (take 3 (device_text described)) [])
    unwritten_as_told = (
      λ e. absurd cc,
      λ e. (
        device,
        (refl, refl),
        device_text described,
        inl (text ∷ [], (refl, short, tt), (described, is, refl)),
        3,
        refl,
      ),
      λ e. absurd cc,
    )

    -- if the words ask for no command, the status must not be Done
    done_without_words : RestsOnFiles (run_of [] holding Done b_asked (device_text described) []) → ⊥
    done_without_words rests = let told = rests.0 refl in nothing_asked holding Done b_asked (device_text described) [] told.0 told.1

    unwritten_without_words : RestsOnFiles (run_of [] holding WriteFault b_asked [] []) → ⊥
    unwritten_without_words rests = let told = rests.1 refl in nothing_asked holding WriteFault b_asked [] [] told.0 told.1

    -- if the text describes only one device, the output must not be the device's listing followed by a newline
    done_past_text : ((other : RawDevice) → IsDeviceText text (Ok other) → other ≡ described)
        → RestsOnFiles
        (run_of device_words holding Done b_asked (device_text described ++ 10 ∷ []) []) → ⊥
    done_past_text only rests =
        let told = rests.0 refl in
        let gives = device_gives Done b_asked (device_text described ++ 10 ∷ []) [] told.0 told.1 (Ok told.2) told.3 in
        let same : device_text described ++ 10 ∷ [] ≡ device_text described = told.4 ∙ gives.2 ∙ ap device_text (only gives.0 gives.1) in
        let more : length (device_text described ++ 10 ∷ [])
        ≡ length (device_text described) + 1 = length-append (device_text described) (10 ∷ [])
        in
        let count : length (device_text described ++ 10 ∷ []) ≡ length (device_text described) = ap length same in
        absurd (omega (arith, more, count))

  -- Even if memory ran out, the text of the file gives an outcome.
  something_given : FindsOutcome (run_of device_words holding NoMemory [] [] [])
      → (outcome : Result Text Text) × GivesOutcome device (text ∷ []) outcome
  something_given finds = finds.1 device (text ∷ []) (on_text NoMemory [] [] [])

-- If a file is too long, the run must be refused with the line for this file.
module _ (text : Text) (over : 4194304 < length text) where
  abbrev too_long : Held
  too_long = Some (λ name. Some text)

  abbrev long_b : IsTooLong too_long (files_of device) b_file
  long_b = record { before = []; after = []; are = refl; texts = []; each = tt; text = text; holds = refl; long = over }

  abbrev long_c : IsTooLong too_long (files_of chain) c_file
  long_c = record { before = []; after = b_file ∷ []; are = refl; texts = []; each = tt; text = text; holds = refl; long = over }

  -- if the first file is too long, the run must not ask for the second file
  long_and_next : TellsLong (run_of chain_words too_long Refused (codes "c" ∷ codes "b" ∷ []) [] (long_line (codes "c") 4194304)) → ⊥
  long_and_next tells =
      let count : 2
      ≡ 1 = ap length ((tells chain c_file ((refl, omega arith), refl) long_c).0 refl).0 in
      absurd (omega (arith, count))

  long_unasked : TellsLong (run_of device_words too_long Refused [] [] (long_line (codes "b") 4194304)) → ⊥
  long_unasked tells = let count : 0 ≡ 1 = ap length ((tells device b_file (refl, refl) long_b).0 refl).0 in absurd (omega (arith, count))

  long_without_note : TellsLong (run_of device_words too_long Refused b_asked [] []) → ⊥
  long_without_note tells =
      none_noted device_words too_long Refused b_asked [] (long_line (codes "b") 4194304) refl
      ((tells device b_file (refl, refl) long_b).0 refl).1

  -- if a read of the file failed, the status must still not be Done
  long_done : TellsLong (failing (codes "b") (run_of device_words too_long Done b_asked [] [])) → ⊥
  long_done tells = (tells device b_file (refl, refl) long_b).1 refl

  long_unwritten : TellsLong (failing (codes "b") (run_of device_words too_long WriteFault b_asked [] [])) → ⊥
  long_unwritten tells = (tells device b_file (refl, refl) long_b).2 refl

  long_as_usage : TellsLong (run_of device_words too_long Usage [] [] []) → ⊥
  long_as_usage tells =
      neither Usage Refused NoMemory (λ e. cc) (λ e. cc)
      ((tells device b_file (refl, refl) long_b).3 (λ name among rose. calm rose))

  long_as_unread : TellsLong (failing (codes "x") (run_of device_words too_long ReadFault [] [] (read_line (codes "x")))) → ⊥
  long_as_unread tells =
      neither ReadFault Refused NoMemory (λ e. cc) (λ e. cc)
      ((tells device b_file (refl, refl) long_b).3
      (b_read device_words [] too_long ReadFault [] (read_line (codes "x"))))

-- If a store holds no file, the files of `device` give nothing.

no_file_given : (run : Run) → run.old.held ≡ empty → (outcome : Result Text Text) → FilesGive run device outcome → ⊥
no_file_given run none outcome (inl (texts, each, gives)) =
    by_texts texts (subst (λ (held : Held). HoldsEach held (files_of device) texts) none each)
  where
    by_texts : (texts : List Text) → HoldsEach empty (files_of device) texts → ⊥
    by_texts [] each = each
    by_texts (text ∷ texts) each = cc each.0
no_file_given run none outcome (inr (file, long, is)) =
    let holds = subst (λ (held : Held). IsTooLong held (files_of device) file) none long in
    let bad : ◌≡◌ {A = Option Text} None (Some holds.text) = holds.holds in
    cc bad

rests_on_no_file : (run : Run) → run.old.held ≡ empty → HasWordsOf run device → (command : Command)
    → HasWordsOf run command → (outcome : Result Text Text) → FilesGive run command outcome → ⊥
rests_on_no_file run none device_asked command asked outcome gives =
    no_file_given run none outcome (subst (λ (c : Command). FilesGive run c outcome) (is_device run command device_asked asked) gives)

done_on_no_file : RestsOnFiles (run_of device_words empty Done b_asked [] []) → ⊥
done_on_no_file rests =
    let told = rests.0 refl in
    rests_on_no_file (run_of device_words empty Done b_asked [] []) refl (refl, refl) told.0 told.1 (Ok told.2) told.3

unwritten_on_no_file : RestsOnFiles (run_of device_words empty WriteFault b_asked [] []) → ⊥
unwritten_on_no_file rests =
    let told = rests.1 refl in
    rests_on_no_file (run_of device_words empty WriteFault b_asked [] []) refl (refl, refl) told.0 told.1 (Ok told.2) told.3

refused_on_no_file : RestsOnFiles (run_of device_words empty Refused b_asked [] []) → ⊥
refused_on_no_file rests =
    let told = rests.2 refl in
    rests_on_no_file (run_of device_words empty Refused b_asked [] []) refl (refl, refl) told.0 told.1 (Err told.2) told.3

-- if the store holds no file and no read failed, the status must be NoMemory
nothing_found : (status : Status) → (status ≡ NoMemory → ⊥) → FindsOutcome (run_of device_words empty status b_asked [] []) → ⊥
nothing_found status other finds =
    let told = finds.0 device (refl, refl) (λ name among rose. calm rose) other in
    no_file_given (run_of device_words empty status b_asked [] []) refl told.0 told.1

nothing_found_otherwise : FindsOutcome (failing (codes "x") (run_of device_words empty ReadFault b_asked [] [])) → ⊥
nothing_found_otherwise finds =
    let told = finds.0 device (refl, refl) (b_read device_words b_asked empty ReadFault [] []) (λ e. cc) in
    no_file_given (failing (codes "x") (run_of device_words empty ReadFault b_asked [] [])) refl told.0 told.1

-- Samples of runs in which memory ran out.

memory_with_text : TellsMemory (run_of device_words empty NoMemory [] (1 ∷ []) memory_line) → ⊥
memory_with_text tells = let count : 1 ≡ 0 = ap length (tells refl).0 in absurd (omega (arith, count))

memory_without_note : TellsMemory (run_of device_words empty NoMemory [] [] []) → ⊥
memory_without_note tells = none_noted device_words empty NoMemory [] [] memory_line refl (tells refl).1

-- the run must not ask for the second file before it asks for the first
memory_out_of_order : TellsMemory (run_of svf_words empty NoMemory (codes "n" ∷ []) [] memory_line) → ⊥
memory_out_of_order tells = let told = (tells refl).2 svf ((refl, omega arith), refl) in by_count told.0 told.1
  where
    by_count : (count : ℕ) → codes "n" ∷ [] ≡ take count (codes "c" ∷ codes "n" ∷ codes "b" ∷ []) → ⊥
    by_count zero is = let none : 1 ≡ 0 = ap length is in absurd (omega (arith, none))
    by_count (suc count) is = apart (codes "n") (codes "c") refl refl (ap (first_of (codes "x")) is)
      where
        first_of : Text → List Text → Text
        first_of default [] = default
        first_of default (name ∷ names) = name

-- The last name in the list of `first` and `names`.

abbrev last_of : Text → List Text → Text
last_of first [] = first
last_of first (name ∷ names) = last_of name names

last_is : (first : Text) (before : List Text) (name : Text) → last_of first (before ++ name ∷ []) ≡ name
last_is first [] name = refl
last_is first (other ∷ before) name = last_is other before name

-- if the last name for which the run asked is the name of the file, `last_of` returns this name
last_named : (first : Text) (others : List Text) (before : List Wanted) (file : Wanted)
    → first ∷ others ≡ map (λ f. f.name) before ++ file.name ∷ [] → file.name ≡ last_of first others
last_named first others before file asked = sym (last_is first (map (λ f. f.name) before) file.name) ∙ sym (ap (last_of first) asked)

-- a run in which the read of each name failed
abbrev none_read : Held → List Text → List Text → Text → Text → Run
none_read held words asked out notes =
    let run = run_of words held ReadFault asked out notes in
    record run { new = record run.new { unread = λ name. 1 } }

abbrev unread : List Text → List Text → Text → Text → Run
unread words asked out notes = none_read empty words asked out notes

unread_with_text : TellsUnread (unread device_words b_asked (1 ∷ []) (read_line (codes "b"))) → ⊥
unread_with_text tells = let count : 1 ≡ 0 = ap length (tells refl).0 in absurd (omega (arith, count))

unread_without_words : TellsUnread (unread [] b_asked [] (read_line (codes "b"))) → ⊥
unread_without_words tells = let told = tells refl in none_asked (unread [] b_asked [] (read_line (codes "b"))) refl told.1 told.2

unread_without_fault : TellsUnread (run_of device_words empty ReadFault b_asked [] (read_line (codes "b"))) → ⊥
unread_without_fault tells = calm (tells refl).7

-- if only the read of another name failed, the notes must not name this file
unread_otherwise : TellsUnread (failing (codes "x") (run_of device_words empty ReadFault b_asked [] (read_line (codes "b")))) → ⊥
unread_otherwise tells =
    let told = tells refl in
    was_read (codes "x") (codes "b") refl told.5.name
    (last_named (codes "b") [] told.3 told.5 told.8) told.7

unread_behind : TellsUnread (failing (codes "n") (run_of svf_words empty ReadFault (codes "c" ∷ []) [] (read_line (codes "c")))) → ⊥
unread_behind tells =
    let told = tells refl in
    was_read (codes "n") (codes "c") refl told.5.name
    (last_named (codes "c") [] told.3 told.5 told.8) told.7

unread_unasked : TellsUnread (unread device_words [] [] (read_line (codes "b"))) → ⊥
unread_unasked tells = let told = tells refl in by_before told.3 told.5 told.8
  where
    by_before : (before : List Wanted) (file : Wanted) → ◌≡◌ {A = List Text} [] (map (λ f. f.name) before ++ file.name ∷ []) → ⊥
    by_before [] file asked = let count : 0 ≡ 1 = ap length asked in absurd (omega (arith, count))
    by_before (first ∷ before) file asked =
        let count : 0
        ≡ suc (length (map (λ f. f.name) before ++ file.name ∷ [])) = ap length asked in
        absurd (omega (arith, count))

unread_without_note : TellsUnread (unread device_words b_asked [] []) → ⊥
unread_without_note tells = let told = tells refl in by_note (read_line told.5.name) refl told.9
  where
    by_note : (line : Text) → bytes_eq [] line ≡ false → Notes (unread device_words b_asked [] []) line → ⊥
    by_note line some (inl is) = apart [] line refl some is
    by_note line some (inr (rose, cut)) = calm rose

-- a run that asked for the second file last, although the notes name the first file, which the store holds
abbrev first_for_second : Run
first_for_second = none_read (Some (λ name. Some [])) svf_words (codes "c" ∷ codes "n" ∷ []) [] (read_line (codes "c"))

first_named : TellsUnread first_for_second → ⊥
first_named tells = let told = tells refl in by_note told.5.name (last_named (codes "c") (codes "n" ∷ []) told.3 told.5 told.8) told.9
  where
    by_note : (name : Text) → name ≡ codes "n" → Notes first_for_second (read_line name) → ⊥
    by_note name same (inl is) = apart (read_line (codes "c")) (read_line (codes "n")) refl refl (is ∙ ap read_line same)
    by_note name same (inr (rose, cut)) = calm rose

-- the notes must not name a file that the command does not ask for
other_file : TellsUnread (unread device_words (codes "x" ∷ []) [] (read_line (codes "x"))) → ⊥
other_file tells =
    let told = tells refl in
    let same = is_device (unread device_words (codes "x" ∷ []) [] (read_line (codes "x"))) told.1 (refl, refl) told.2 in
    by_before told.3 told.4 told.5 (sym (ap files_of same) ∙ told.6) told.8
  where
    by_before : (before after : List Wanted) (file : Wanted) → b_file ∷ [] ≡ before ++ file ∷ after
        → codes "x" ∷ [] ≡ map (λ f. f.name) before ++ file.name ∷ [] → ⊥
    by_before [] after file are asked =
        let name : codes "b" ≡ file.name = ap (λ (files : List Wanted). last_of (codes "y") (map (λ f. f.name) (take 1 files))) are in
        let last : codes "x" ≡ file.name = ap (last_of (codes "y")) asked in
        apart (codes "b") (codes "x") refl refl (name ∙ sym last)
    by_before (first ∷ before) after file are asked =
        let count : 1 ≡ suc (length (before ++ file ∷ after)) = ap length are in
        let more : length (before ++ file ∷ after) ≡ length before + suc (length after) = length-append before (file ∷ after) in
        absurd (omega (arith, count, more))

-- if the store does not hold the first file, the run must not ask for the second file
first_not_held : TellsUnread (unread svf_words (codes "c" ∷ codes "n" ∷ []) [] (read_line (codes "n"))) → ⊥
first_not_held tells = let told = tells refl in by_before told.3 told.5 told.8 (told.10 (λ name. None) refl)
  where
    by_texts : (first : Wanted) (before : List Wanted) (texts : List Text) → HoldsEach empty (first ∷ before) texts → ⊥
    by_texts first before [] each = each
    by_texts first before (text ∷ texts) each = cc each.0

    by_before : (before : List Wanted) (file : Wanted)
        → codes "c" ∷ codes "n" ∷ [] ≡ map (λ f. f.name) before ++ file.name ∷ []
        → (texts : List Text) × HoldsEach empty before texts → ⊥
    by_before [] file asked held = let count : 2 ≡ 1 = ap length asked in absurd (omega (arith, count))
    by_before (first ∷ before) file asked held = by_texts first before held.0 held.1
