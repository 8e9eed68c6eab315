-- The patterns of the identification codes of a chain without BYPASS lines.
use Rattle.std.proofs.Common.{◌≡◌, ◌<◌, ◌≤◌, ℕ, List, [], ◌∷◌, map, length, None, refl, arith}
use Rattle.std.specs.Prelude.{All, IfSome}
use Rattle.std.specs.List.{AllByRecursion}
use Rattle.std.proofs.lemmas.List.{length-map}
use Rattle.std.proofs.lemmas.List.Elements.{All-from_recursion}
use Rattle.board_defs.specs.Limits.{most_parts}
use Rattle.board_defs.specs.declared.device.RawDevice.{RawDevice}
use Rattle.board_defs.specs.DeviceRules.{IsDevice}
use Rattle.board_files.specs.declared.chain_file.ChainLine.{ChainLine}
use Rattle.board_files.specs.declared.chain_file.ChainStatement.{ChainStatement}
use Rattle.board_files.specs.declared.chain_file.ChainStatement.TheVariants.{Device, Bypass, Inert, Supply, Pull, Link}
use Rattle.board_lines.specs.ChainParts.{IsChain}
use Rattle.board_lines.specs.Names.{named}
use Rattle.board_lines.specs.declared.names.Naming.TheVariants.{Part as PartName, Entity as EntityName}
use Rattle.btest_core.specs.IdentsRead.{Ident, first_bypass}

-- if there is no BYPASS line, there are as many DEVICE lines as parts
abbrev AreDescribed : List ChainLine → Type 0
AreDescribed lines = first_bypass lines ≡ None → length (named EntityName lines) ≡ length (named PartName lines)

described_more : (n : ℕ) (statement : ChainStatement) (lines : List ChainLine) → AreDescribed lines
    → AreDescribed (record { line = n; statement = statement } ∷ lines)
described_more n (Device part entity pack) lines others none = omega (arith, others none)
described_more n (Bypass part bits) lines others none = absurd cc
described_more n (Inert part) lines others none = others none
described_more n (Supply net) lines others none = others none
described_more n (Pull net value) lines others none = others none
described_more n (Link part first second) lines others none = others none

described : (lines : List ChainLine) → AreDescribed lines
described [] none = refl
described (line ∷ lines) none = described_more line.line line.statement lines (described lines) none

abbrev pub idents_of : List RawDevice → List Ident
idents_of devices = map (λ device. device.idcode) devices

-- If a chain has 1 to 255 parts with different names, a device for each DEVICE line and no BYPASS
-- line, the list of its devices' patterns has 1 to 255 items. The item of a device without a pattern
-- is None.
pub count_idents : (lines : List ChainLine) (devices : List RawDevice) → IsChain lines
    → length devices ≡ length (named EntityName lines) → first_bypass lines ≡ None
    → (0 < length (idents_of devices)) × (length (idents_of devices) ≤ most_parts)
count_idents lines devices chain number none =
    let same : length (idents_of devices) ≡ length devices = length-map devices (λ (device : RawDevice). device.idcode) in
    let parts = described lines none in
    (omega (arith, same, number, parts, chain.some), omega (arith, same, number, parts, chain.most))

abbrev pub IsWhole : Ident → Type 0
IsWhole ident = IfSome ident (λ code. length code ≡ 32)

each_whole : (devices : List RawDevice) → AllByRecursion IsDevice devices → AllByRecursion IsWhole (idents_of devices)
each_whole [] all = tt
each_whole (device ∷ devices) all = (all.0.codes.idcode_length, each_whole devices all.1)

pub whole_idents : (devices : List RawDevice) → AllByRecursion IsDevice devices → All IsWhole (idents_of devices)
whole_idents devices all = All-from_recursion IsWhole (idents_of devices) (each_whole devices all)
