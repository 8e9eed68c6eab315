-- If the devices keep the rules of a device, and the lengths of BYPASS lines are in range, the
-- board of the files keeps the rules of a board.
use Rattle.std.proofs.Common.{◌≡◌, List, [], ◌∷◌, length, Option, Some, None, Ok, refl, subst}
use Rattle.std.specs.Prelude.{All}
use Rattle.std.specs.List.{AllByRecursion, cons_option}
use Rattle.std.proofs.lemmas.List.Elements.{All-from_recursion}
use Rattle.board_defs.specs.declared.board.Part.{Part}
use Rattle.board_defs.specs.declared.board.RawBoard.{RawBoard}
use Rattle.board_defs.specs.declared.device.RawDevice.{RawDevice}
use Rattle.board_defs.specs.BoardRules.{IsBoard, IsPart}
use Rattle.board_defs.specs.DeviceRules.{IsDevice}
use Rattle.board_files.specs.declared.chain_file.ChainLine.{ChainLine}
use Rattle.board_files.specs.declared.chain_file.ChainStatement.{ChainStatement}
use Rattle.board_files.specs.declared.chain_file.ChainStatement.TheVariants.{Device, Bypass, Inert, Supply, Pull, Link}
use Rattle.board_files.specs.declared.net_file.NetLine.{NetLine}
use Rattle.board_files.specs.ChainLines.{HasBypassLength}
use Rattle.board_lines.specs.declared.fault.BoardFault.{BoardFault}
use Rattle.board_lines.specs.declared.names.Naming.TheVariants.{Entity as EntityName}
use Rattle.board_lines.specs.Faults.{unless}
use Rattle.board_lines.specs.Names.{named}
use Rattle.board_lines.specs.ChainParts.{IsChain, chain_parts, devices_after, part_of_line}
use Rattle.board_build.specs.BoardNets.{board_with}
use Rattle.board_build.specs.BoardRules.{board_answer, board_fault, board_of}
use Rattle.board_build.proofs.PartLemmas.{parts_named}
use Rattle.board_build.proofs.LawLemmas.{is_board}

abbrev AreParts : List Part → Type 0
AreParts parts = AllByRecursion (λ part. IsPart part.kind) parts

-- one step of the induction over the lines: `rest` has the parts of the later lines
line_kinds : (statement : ChainStatement) (devices : List RawDevice) (rest : List Part)
    → HasBypassLength statement → AllByRecursion IsDevice devices
    → (AllByRecursion IsDevice (devices_after statement devices) → AreParts rest)
    → AreParts (cons_option (part_of_line statement devices) rest)
line_kinds (Device part entity pack) [] rest has are next = next tt
line_kinds (Device part entity pack) (device ∷ devices) rest has are next = (are.0, next are.1)
line_kinds (Bypass part bits) devices rest has are next = (has, next are)
line_kinds (Inert part) devices rest has are next = next are
line_kinds (Supply net) devices rest has are next = next are
line_kinds (Pull net value) devices rest has are next = next are
line_kinds (Link part first second) devices rest has are next = next are

part_kinds : (lines : List ChainLine) (devices : List RawDevice)
    → AllByRecursion (λ line. HasBypassLength line.statement) lines
    → AllByRecursion IsDevice devices → AreParts (chain_parts lines devices)
part_kinds [] devices has are = tt
part_kinds (line ∷ lines) devices has are =
    line_kinds line.statement devices (chain_parts lines (devices_after line.statement devices))
    has.0 are (λ after. part_kinds lines (devices_after line.statement devices) has.1 after)

unless_none : (fault : Option BoardFault) (whole board : RawBoard) → unless fault whole ≡ Ok board → (fault ≡ None) × (whole ≡ board)
unless_none None whole board is = (refl, cc)
unless_none (Some fault) whole board is = absurd cc

pub board_is : (chain : List ChainLine) (nets : List NetLine) (devices : List RawDevice)
    (board : RawBoard) → IsChain chain
    → AllByRecursion (λ line. HasBypassLength line.statement) chain
    → AllByRecursion IsDevice devices → length devices ≡ length (named EntityName chain)
    → board_of chain nets devices ≡ Ok board → IsBoard board
unfolding board_answer
board_is chain nets devices board selected has are count is =
    let parts = chain_parts chain devices in
    let made = unless_none (board_fault chain nets parts) (board_with chain nets parts) board is in
    let kinds : All (λ part. IsPart part.kind) parts = All-from_recursion (λ part. IsPart part.kind)
    parts (part_kinds chain devices has are) in
    subst IsBoard made.1 (is_board chain nets parts selected (parts_named chain devices count) kinds made.0)
