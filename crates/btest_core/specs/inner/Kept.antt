-- The properties of a chain file that the joined chain file also has. In joined files, all nets
-- that LINK lines connected have the same name.
use Rattle.std.specs.Prelude.{◌≡◌, List}
use Rattle.std.specs.List.{AllByRecursion}
use Rattle.board_files.specs.declared.chain_file.ChainLine.{ChainLine}
use Rattle.board_files.specs.declared.net_file.NetLine.{NetLine}
use Rattle.board_files.specs.ChainLines.{HasBypassLength}
use Rattle.board_lines.specs.ChainParts.{IsChain}
use Rattle.board_lines.specs.Names.{named}
use Rattle.board_lines.specs.declared.names.Naming.TheVariants.{Entity as EntityName}
use Rattle.series_parts.specs.declared.joining.Joined.{Joined}

-- If the chain file has 1 to 255 parts with different names, so has the joined chain file. If the
-- lengths on the BYPASS lines are in range, so are those of the joined chain file. Both files name
-- the same entities, on the same lines.
pub record Kept (chain : List ChainLine) (nets : List NetLine) (joined : Joined) : Type 0 where
  pub is_chain : IsChain chain → IsChain joined.chain
  pub lengths : AllByRecursion (λ line. HasBypassLength line.statement) chain
      → AllByRecursion (λ line. HasBypassLength line.statement) joined.chain
  pub entities : named EntityName joined.chain ≡ named EntityName chain
