-- A chain of 1 to 255 parts with different names has 1 to 255 instruction lengths, each of 2 to 255 bits.
use Rattle.std.proofs.Common.{◌≡◌, ℕ, ◌≤◌, List, [], ◌∷◌, length, map, ap, arith}
use Rattle.std.specs.List.{All, AllByRecursion}
use Rattle.std.proofs.lemmas.List.{length-map}
use Rattle.std.proofs.lemmas.List.Elements.{All-from_recursion, recursion_from_All}
use Rattle.board_defs.specs.Limits.{IsInstructionLength}
use Rattle.board_defs.specs.declared.board.Part.{Part}
use Rattle.board_defs.specs.declared.board.PartKind.{PartKind}
use Rattle.board_defs.specs.declared.board.PartKind.TheVariants.{Described, Bypass}
use Rattle.board_defs.specs.BoardRules.{IsPart}
use Rattle.board_defs.specs.Pins.{instruction_length}
use Rattle.board_files.specs.declared.chain_file.ChainLine.{ChainLine}
use Rattle.board_lines.specs.ChainParts.{IsChain}
use Rattle.board_lines.specs.Names.{Named, named, names_of}
use Rattle.board_lines.specs.declared.names.Naming.TheVariants.{Part as PartName}
use Rattle.btest_core.specs.BoardRead.{AreLengths}

abbrev InBounds : ℕ → Type 0
InBounds n = IsInstructionLength n

in_bounds : (kind : PartKind) → IsPart kind → InBounds (instruction_length kind)
in_bounds (Described device) is = (is.ir_least, is.ir_most)
in_bounds (Bypass n) is = is

each_length : (parts : List Part) → AllByRecursion (λ part. IsPart part.kind) parts
    → AllByRecursion InBounds (map (λ part. instruction_length part.kind) parts)
each_length [] all = tt
each_length (part ∷ parts) all = (in_bounds part.kind all.0, each_length parts all.1)

pub lengths_in_bounds : (lines : List ChainLine) (parts : List Part) → IsChain lines
    → map (λ part. part.name) parts ≡ names_of (named PartName lines)
    → All (λ part. IsPart part.kind) parts
    → AreLengths (map (λ part. instruction_length part.kind) parts)
lengths_in_bounds lines parts chain names kinds =
    let lengths : length (map (λ (part : Part). instruction_length part.kind) parts)
    ≡ length parts = length-map parts (λ (part : Part). instruction_length part.kind) in
    let named_parts : length (map (λ (part : Part). part.name) parts) ≡ length parts = length-map parts (λ (part : Part). part.name) in
    let named_lines : length (names_of (named PartName lines))
    ≡ length (named PartName lines) = length-map (named PartName lines) (λ (n : Named). n.1) in
    let same : length (map (λ (part : Part). part.name) parts) ≡ length (names_of (named PartName lines)) = ap length names in
    record {
      some = omega (arith, lengths, named_parts, named_lines, same, chain.some);
      most = omega (arith, lengths, named_parts, named_lines, same, chain.most);
      each = All-from_recursion InBounds _ (each_length parts (recursion_from_All (λ part. IsPart part.kind) parts kinds));
    }
