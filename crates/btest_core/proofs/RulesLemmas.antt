-- The devices that texts denote keep the rules of a device, and the board keeps the rules of a board.
-- The list of the identification codes' patterns has 1 to 255 items, and each pattern has 32 symbols.
use Rattle.std.proofs.Common.{◌≡◌, ◌<◌, ◌≤◌, ℕ, List, [], ◌∷◌, length, Option, Some, None, Result, Ok, Err, ap, sym, ◌∙◌, subst, refl, inl, inr, arith}
use Rattle.std.specs.Prelude.{All}
use Rattle.std.specs.List.{AllByRecursion}
use Rattle.board_defs.specs.Limits.{most_parts}
use Rattle.board_defs.specs.declared.board.RawBoard.{RawBoard}
use Rattle.board_defs.specs.declared.device.RawDevice.{RawDevice}
use Rattle.board_defs.specs.BoardRules.{IsBoard}
use Rattle.board_defs.specs.DeviceRules.{IsDevice}
use Rattle.board_files.specs.declared.fault.LineFault.{LineFault}
use Rattle.board_files.specs.declared.chain_file.ChainLine.{ChainLine}
use Rattle.board_files.specs.declared.net_file.NetLine.{NetLine}
use Rattle.board_files.specs.ChainLines.{HasBypassLength, chain_lines}
use Rattle.board_files.specs.NetLines.{net_lines}
use Rattle.board_build.specs.BoardRules.{board_of}
use Rattle.board_lines.specs.ChainParts.{IsChain}
use Rattle.board_lines.specs.Names.{named}
use Rattle.board_lines.specs.declared.names.Naming.TheVariants.{Entity as EntityName}
use Rattle.board_lines.specs.Selection.{selection}
use Rattle.bsdl_parser.specs.declared.entity.Entity.{Entity}
use Rattle.device_check.specs.SoundDevice.{IsSound}
use Rattle.series_parts.specs.declared.fault.LinkFault.{LinkFault}
use Rattle.series_parts.specs.declared.joining.Joined.{Joined}
use Rattle.series_parts.specs.Joining.{joined_files}
use Rattle.btest_core.specs.declared.fault.InputFault.{InputFault}
use Rattle.btest_core.specs.declared.fault.InputFault.TheVariants.{Chain, Nets}
use Rattle.btest_core.specs.Answers.{IsAnswerOfSteps, Is, EachOf}
use Rattle.btest_core.specs.InputFaults.{in_file, in_link, in_board}
use Rattle.btest_core.specs.TextsRead.{IsEntityOf, AreEntities}
use Rattle.btest_core.specs.DevicesRead.{Chosen, chosen_texts, IsDeviceIn, IsDeviceOf, IsDeviceText, AreSelected, AreDevices}
use Rattle.btest_core.specs.BoardRead.{IsJoinedBoard, IsFilesBoard, Denotes}
use Rattle.btest_core.specs.IdentsRead.{Ident, first_bypass, idents_unless, AreFileIdents, AreIdents}
use Rattle.btest_core.proofs.ChoiceLemmas.{count_chosen}
use Rattle.btest_core.proofs.IdentLemmas.{IsWhole, idents_of, count_idents, whole_idents}
use Rattle.btest_core.proofs.JoinLemmas.{kept}
use Rattle.btest_core.proofs.OneLemmas.{same_ok}
use Rattle.btest_core.proofs.SomeLemmas.{selected}

-- A law of the device check, which these proofs take as an argument: a sound device keeps the rules
-- of a device.
abbrev pub SoundKeep : Type 0
SoundKeep = (entity : Entity) (given : Option (List ℕ)) (device : RawDevice) → IsSound entity given device → IsDevice device

-- a law of the selection: if it succeeds, the chain has 1 to 255 parts with different names
abbrev pub SelectChains : Type 0
SelectChains = (lines : List ChainLine) (entities : List Entity) (numbers : List ℕ) → selection lines entities ≡ Ok numbers → IsChain lines

-- a law of the selection: it returns a number for each DEVICE line
abbrev pub SelectEach : Type 0
SelectEach =
    (lines : List ChainLine) (entities : List Entity) (numbers : List ℕ)
    → selection lines entities ≡ Ok numbers → length numbers ≡ length (named EntityName lines)

-- a law of chain files: the lengths on the BYPASS lines are in range
abbrev pub HaveLengths : Type 0
HaveLengths =
    (text : List ℕ) (lines : List ChainLine) → chain_lines text ≡ Ok lines
    → AllByRecursion (λ line. HasBypassLength line.statement) lines

-- a law of boards: the board that files and devices denote keeps the rules of a board
abbrev pub BoardsKeep : Type 0
BoardsKeep = (chain : List ChainLine) (nets : List NetLine) (devices : List RawDevice) (board : RawBoard)
    → IsChain chain → AllByRecursion (λ line. HasBypassLength line.statement) chain
    → AllByRecursion IsDevice devices → length devices ≡ length (named EntityName chain)
    → board_of chain nets devices ≡ Ok board → IsBoard board

-- if the answer of two steps is a value, the first step returned a value, and the next step
-- returned the answer for this value
follows_ok : {A B : Type 0} (first : Result A InputFault → Type 0)
    (next : A → Result B InputFault → Type 0) (value : B) → IsAnswerOfSteps first next (Ok value)
    → (found : A) × first (Ok found) × next found (Ok value)
follows_ok first next value (inl (found, is, answers)) = (found, is, answers)
follows_ok first next value (inr (fault, is, answers)) = absurd cc

in_file_ok : {A : Type 0} (of_file : LineFault → InputFault) (answer : Result A LineFault)
    (value : A) → ◌≡◌ {A = Result A InputFault} (Ok value) (in_file of_file answer)
    → answer ≡ Ok value
in_file_ok of_file (Ok v) value same = cc
in_file_ok of_file (Err fault) value same = absurd cc

in_link_ok : (answer : Result Joined LinkFault) (value : Joined)
    → ◌≡◌ {A = Result Joined InputFault} (Ok value) (in_link answer) → answer ≡ Ok value
in_link_ok (Ok v) value same = cc
in_link_ok (Err fault) value same = absurd cc

pub device_keeps : SoundKeep → (text : List ℕ) (device : RawDevice) → IsDeviceText text (Ok device) → IsDevice device
device_keeps sound text device is =
    let step = follows_ok (IsEntityOf text 0) (λ entity. IsDeviceIn entity (0, None)) device is in
    sound step.0 None device step.2

-- there are `count` devices, and each keeps the rules of a device
record AreKept (count : ℕ) (devices : List RawDevice) : Type 0 where
  each : AllByRecursion IsDevice devices
  number : length devices ≡ count

chosen_keep : SoundKeep
    → (entities : List Entity) (choices : List Chosen) (devices : List RawDevice)
    → EachOf (IsDeviceOf entities) choices (Ok devices) → AreKept (length choices) devices
chosen_keep sound entities [] devices are =
    let same = same_ok devices [] are in
    subst (AreKept 0) (sym same) (record { each = tt; number = refl })
chosen_keep sound entities (choice ∷ choices) devices are =
    let first = follows_ok (IsDeviceOf entities choice)
    (λ device. IsAnswerOfSteps (EachOf (IsDeviceOf entities) choices)
    (λ rest. Is (Ok (device ∷ rest)))) devices are in
    let others = follows_ok (EachOf (IsDeviceOf entities) choices) (λ rest. Is (Ok (first.0 ∷ rest))) devices first.2 in
    let keep = chosen_keep sound entities choices others.0 others.1 in
    let same = same_ok devices (first.0 ∷ others.0) others.2 in
    subst (AreKept (length (choice ∷ choices))) (sym same) (record {
      each = (sound first.1.0 choice.1 first.0 first.1.2, keep.each);
      number = omega (arith, keep.number);
    })

-- the chain has 1 to 255 parts with different names; there is a device for each DEVICE line, and
-- each device keeps the rules of a device
record IsKeptChain (lines : List ChainLine) (devices : List RawDevice) : Type 0 where
  chain : IsChain lines
  kept : AreKept (length (named EntityName lines)) devices

selected_keep : SoundKeep → SelectChains → SelectEach
    → (lines : List ChainLine) (entities : List Entity) (devices : List RawDevice)
    → AreSelected lines entities (Ok devices) → IsKeptChain lines devices
selected_keep sound chains counts lines entities devices are =
    let step = follows_ok (Is (in_board (selection lines entities)))
    (λ numbers. EachOf (IsDeviceOf entities) (chosen_texts lines numbers)) devices are in
    let numbers = selected (selection lines entities) step.0 step.1 in
    let keep = chosen_keep sound entities (chosen_texts lines step.0) devices step.2 in
    record {
      chain = chains lines entities step.0 numbers;
      kept = subst (λ (n : ℕ). AreKept n devices) (count_chosen lines step.0 (counts lines entities step.0 numbers)) keep;
    }

devices_keep : SoundKeep → SelectChains → SelectEach
    → (lines : List ChainLine) (texts : List (List ℕ)) (devices : List RawDevice)
    → AreDevices lines texts (Ok devices) → IsKeptChain lines devices
devices_keep sound chains counts lines texts devices are =
    let step = follows_ok (AreEntities texts) (AreSelected lines) devices are in
    selected_keep sound chains counts lines step.0 devices step.2

board_keeps_joined : BoardsKeep
    → (lines : List ChainLine) (nets : List NetLine) (devices : List RawDevice) (board : RawBoard)
    → AllByRecursion (λ line. HasBypassLength line.statement) lines → IsKeptChain lines devices
    → IsJoinedBoard lines nets devices (Ok board) → IsBoard board
board_keeps_joined boards lines nets devices board lengths keep is =
    let step = follows_ok (Is (in_link (joined_files lines nets)))
    (λ joined. Is (in_board (board_of joined.chain joined.nets devices))) board is in
    let joins = kept lines nets step.0 (in_link_ok (joined_files lines nets) step.0 step.1) in
    boards step.0.chain step.0.nets devices board (joins.is_chain keep.chain)
    (joins.lengths lengths) keep.kept.each (keep.kept.number ∙ sym (ap length joins.entities))
    (selected (board_of step.0.chain step.0.nets devices) board step.2)

pub board_keeps : SoundKeep → SelectChains → SelectEach → HaveLengths → BoardsKeep
    → (chain nets : List ℕ) (texts : List (List ℕ)) (board : RawBoard)
    → Denotes chain nets texts board → IsBoard board
board_keeps sound chains counts lengths boards chain nets texts board is =
    let of_chain = follows_ok (Is (in_file Chain (chain_lines chain)))
    (λ lines. IsAnswerOfSteps (Is (in_file Nets (net_lines nets)))
    (λ net_lines. IsFilesBoard lines net_lines texts)) board is in
    let of_nets = follows_ok (Is (in_file Nets (net_lines nets))) (λ net_lines. IsFilesBoard of_chain.0 net_lines texts) board of_chain.2 in
    let of_texts = follows_ok (AreDevices of_chain.0 texts) (IsJoinedBoard of_chain.0 of_nets.0) board of_nets.2 in
    board_keeps_joined boards of_chain.0 of_nets.0 of_texts.0 board
    (lengths chain of_chain.0 (in_file_ok Chain (chain_lines chain) of_chain.0 of_chain.1))
    (devices_keep sound chains counts of_chain.0 texts of_texts.0 of_texts.1) of_texts.2

-- there is no BYPASS line, and `idents` are the patterns of the devices
record ArePatternsOf (bypass : Option ℕ) (devices : List RawDevice) (idents : List Ident) : Type 0 where
  none : bypass ≡ None
  are : idents ≡ idents_of devices

idents_ok : (bypass : Option ℕ) (devices : List RawDevice) (idents : List Ident)
    → ◌≡◌ {A = Result (List Ident) InputFault} (Ok idents) (idents_unless bypass devices)
    → ArePatternsOf bypass devices idents
idents_ok None devices idents same = record { none = refl; are = same_ok idents (idents_of devices) same }
idents_ok (Some line) devices idents same = absurd cc

-- there are 1 to 255 items, and each item that is a pattern has 32 symbols
abbrev AreWhole : List Ident → Type 0
AreWhole idents = (0 < length idents) × (length idents ≤ most_parts) × All IsWhole idents

pub idents_keep : SoundKeep → SelectChains → SelectEach
    → (chain : List ℕ) (texts : List (List ℕ)) (idents : List Ident)
    → AreIdents chain texts (Ok idents)
    → (0 < length idents) × (length idents ≤ most_parts) × All IsWhole idents
idents_keep sound chains counts chain texts idents are =
    let of_chain = follows_ok (Is (in_file Chain (chain_lines chain))) (λ lines. AreFileIdents lines texts) idents are in
    let of_texts = follows_ok (AreDevices of_chain.0 texts)
    (λ devices. Is (idents_unless (first_bypass of_chain.0) devices)) idents of_chain.2 in
    let keep = devices_keep sound chains counts of_chain.0 texts of_texts.0 of_texts.1 in
    let patterns = idents_ok (first_bypass of_chain.0) of_texts.0 idents of_texts.2 in
    let count = count_idents of_chain.0 of_texts.0 keep.chain keep.kept.number patterns.none in
    subst AreWhole (sym patterns.are) (count.0, count.1, whole_idents of_texts.0 keep.kept.each)
