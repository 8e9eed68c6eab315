-- The properties of a chain file that the joined chain file also has. In joined files, all nets
-- that LINK lines connected have the same name.
use Rattle.std.proofs.Common.{◌≡◌, ℕ, List, [], ◌∷◌, map, Option, Some, None, Ok, refl, ap, subst}
use Rattle.board_defs.specs.declared.spot.Spot.{Spot}
use Rattle.board_files.specs.declared.chain_file.ChainLine.{ChainLine}
use Rattle.board_files.specs.declared.chain_file.ChainStatement.{ChainStatement}
use Rattle.board_files.specs.declared.chain_file.ChainStatement.TheVariants.{Device, Bypass, Inert, Supply, Pull, Link}
use Rattle.board_files.specs.declared.net_file.NetLine.{NetLine}
use Rattle.board_lines.specs.ChainParts.{IsChain}
use Rattle.board_lines.specs.Names.{named}
use Rattle.board_lines.specs.declared.names.Naming.TheVariants.{Part as PartName, Entity as EntityName}
use Rattle.series_parts.specs.declared.joining.Joined.{Joined}
use Rattle.btest_core.specs.inner.Kept.{Kept}
use Rattle.series_parts.specs.Nets.{Word}
use Rattle.series_parts.proofs.FileLemmas.{same_lengths}
use Rattle.series_parts.specs.Joining.{joined_line, joined_net, renaming, joined_chain, joined_nets, joined_files, unless_missing}

-- the lines with the new names of nets, and with an INERT line in place of each LINK line
abbrev renamed : (Word → Word) → List ChainLine → List ChainLine
renamed rename lines = map (joined_line rename) lines

abbrev at : ℕ → ChainStatement → ChainLine
at n statement = record { line = n; statement = statement }

parts_more : (rename : Word → Word) (n : ℕ) (statement : ChainStatement) (lines : List ChainLine)
    → named PartName (renamed rename lines) ≡ named PartName lines
    → named PartName (renamed rename (at n statement ∷ lines))
    ≡ named PartName (at n statement ∷ lines)
parts_more rename n (Device part entity pack) lines same = ap (λ names. (n, part) ∷ names) same
parts_more rename n (Bypass part bits) lines same = ap (λ names. (n, part) ∷ names) same
parts_more rename n (Inert part) lines same = same
parts_more rename n (Supply net) lines same = same
parts_more rename n (Pull net value) lines same = same
parts_more rename n (Link part first second) lines same = same

same_parts : (rename : Word → Word) (lines : List ChainLine) → named PartName (renamed rename lines) ≡ named PartName lines
same_parts rename [] = refl
same_parts rename (line ∷ lines) = parts_more rename line.line line.statement lines (same_parts rename lines)

entities_more : (rename : Word → Word) (n : ℕ) (statement : ChainStatement) (lines : List ChainLine)
    → named EntityName (renamed rename lines) ≡ named EntityName lines
    → named EntityName (renamed rename (at n statement ∷ lines))
    ≡ named EntityName (at n statement ∷ lines)
entities_more rename n (Device part entity pack) lines same = ap (λ names. (n, entity) ∷ names) same
entities_more rename n (Bypass part bits) lines same = same
entities_more rename n (Inert part) lines same = same
entities_more rename n (Supply net) lines same = same
entities_more rename n (Pull net value) lines same = same
entities_more rename n (Link part first second) lines same = same

same_entities : (rename : Word → Word) (lines : List ChainLine) → named EntityName (renamed rename lines) ≡ named EntityName lines
same_entities rename [] = refl
same_entities rename (line ∷ lines) = entities_more rename line.line line.statement lines (same_entities rename lines)

same_chain : (lines others : List ChainLine) → named PartName others ≡ named PartName lines → IsChain lines → IsChain others
same_chain lines others same chain = record {
  some = rw same chain.some;
  most = rw same chain.most;
  differ = rw same chain.differ;
}

kept_joined : (chain : List ChainLine) (nets : List NetLine)
    → Kept chain nets (record { chain = joined_chain chain nets; nets = joined_nets chain nets })
kept_joined chain nets =
    record {
      is_chain = same_chain chain (renamed (renaming chain nets) chain) (same_parts (renaming chain nets) chain);
      lengths = same_lengths (renaming chain nets) chain;
      entities = same_entities (renaming chain nets) chain;
    }

kept_unless : (chain : List ChainLine) (nets : List NetLine) (missing : Option Spot)
    (whole joined : Joined) → Kept chain nets whole → unless_missing missing whole ≡ Ok joined
    → Kept chain nets joined
kept_unless chain nets None whole joined kept is =
    let same : whole ≡ joined = cc in
    subst (Kept chain nets) same kept
kept_unless chain nets (Some spot) whole joined kept is = absurd cc

pub kept : (chain : List ChainLine) (nets : List NetLine) (joined : Joined) → joined_files chain nets ≡ Ok joined → Kept chain nets joined
kept chain nets joined is = kept_unless chain nets _ _ joined (kept_joined chain nets) is
