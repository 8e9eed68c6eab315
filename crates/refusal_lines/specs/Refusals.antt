-- The lines that btest writes to standard error.
use Rattle.std.specs.Prelude.{ℕ, List, [], ◌∷◌, codes, decimal, slice_get, unwrap_or}
use Rattle.line_printer.specs.Prints.{whole}
use Rattle.board_defs.specs.declared.spot.Spot.{Spot}
use Rattle.board_files.specs.declared.fault.LineFault.{LineFault}
use Rattle.board_files.specs.declared.fault.LineFault.TheVariants as line
use Rattle.board_lines.specs.declared.fault.BoardFault.{BoardFault}
use Rattle.board_lines.specs.declared.fault.BoardFault.TheVariants as board
use Rattle.board_lines.specs.BoardLimits.{limit_name}
use Rattle.bsdl_lexer.specs.declared.token.LexFault.{LexFault}
use Rattle.bsdl_lexer.specs.declared.token.LexFault.TheVariants as lex
use Rattle.bsdl_parser.specs.declared.fault.ParseFault.{ParseFault}
use Rattle.bsdl_parser.specs.declared.fault.ParseFault.TheVariants as parse
use Rattle.device_check.specs.declared.fault.DeviceFault.{DeviceFault}
use Rattle.device_check.specs.declared.fault.DeviceFault.TheVariants as device
use Rattle.device_check.specs.Sources.{string_name}
use Rattle.series_parts.specs.declared.fault.LinkFault.{LinkFault}
use Rattle.series_parts.specs.declared.fault.LinkFault.TheVariants as link
use Rattle.btest_core.specs.declared.fault.InputFault.{InputFault}
use Rattle.btest_core.specs.declared.fault.InputFault.TheVariants as input
use Rattle.response_log.specs.declared.fault.LogFault.{LogFault}
use Rattle.response_log.specs.declared.fault.LogFault.TheVariants as log
use Rattle.batch_diag.specs.declared.fault.BatchFault.{BatchFault}
use Rattle.batch_diag.specs.declared.fault.BatchFault.TheVariants as batch

abbrev pub Text : Type 0
Text = List ℕ

abbrev pub usage_line : Text
usage_line = codes "usage: btest chain, device, cover, svf, diagnose, make, ident, walk, groups or batch\n"

abbrev pub read_line : Text → Text
read_line name = whole (codes "cannot read " ∷ name ∷ codes "\n" ∷ [])

abbrev pub write_line : Text
write_line = codes "cannot write\n"

abbrev pub memory_line : Text
memory_line = codes "out of memory\n"

-- the name of a text, followed by what is wrong with the text
abbrev pub about : Text → Text → Text
about name wrong = whole (name ∷ wrong ∷ [])

-- the line for a text with more bytes than the limit
abbrev pub long_line : Text → ℕ → Text
long_line name limit = whole (name ∷ codes ": longer than " ∷ decimal limit ∷ codes " bytes\n" ∷ [])

-- the name of a text, the number of a line, and what is wrong with the line
abbrev pub at_line : Text → ℕ → Text → Text
at_line name n wrong = whole (name ∷ codes " line " ∷ decimal n ∷ wrong ∷ [])

-- the name of a text, the numbers of a line and a word, and what is wrong with the word
abbrev pub at_spot : Text → Spot → Text → Text
at_spot name spot wrong = whole (name ∷ codes " line " ∷ decimal spot.line ∷ codes " word " ∷ decimal spot.word ∷ wrong ∷ [])

-- the line for a faulty line of a chain or net file
abbrev pub line_fault_line : Text → LineFault → Text
line_fault_line name (line.Statement n) = at_line name n (codes ": no statement\n")
line_fault_line name (line.Word n) = at_line name n (codes ": word not allowed\n")
line_fault_line name (line.Number n) = at_line name n (codes ": number not allowed\n")
line_fault_line name (line.Memory e) = memory_line

-- the names of the texts of a command
pub record Names : Type 0 where
  pub log : Text
  pub chain : Text
  pub nets : Text
  pub bsdl : List Text

-- the name of BSDL text n, counted from 0, or an empty name if there is no such text
abbrev pub text_name : List Text → ℕ → Text
text_name names n = unwrap_or (slice_get names n) []

-- the line for a board that exceeds the limit with this number
abbrev pub limit_line : ℕ → Text
limit_line which = whole (codes "limit: " ∷ limit_name which ∷ codes "\n" ∷ [])

-- the line for a board rule that fails
abbrev pub board_fault_line : Names → BoardFault → Text
board_fault_line names board.NoChain = about names.chain (codes ": no part in the chain\n")
board_fault_line names (board.PartTwice spot) = at_line names.chain spot.line (codes ": part twice\n")
board_fault_line names (board.NoEntity spot) = at_line names.chain spot.line (codes ": entity not given\n")
board_fault_line names (board.EntityTwice text) = about (text_name names.bsdl text) (codes ": entity given twice\n")
board_fault_line names (board.NoPin spot) = at_spot names.nets spot (codes ": no such pin\n")
board_fault_line names (board.PinTwice spot) = at_spot names.nets spot (codes ": pin in two nets\n")
board_fault_line names (board.InertInChain spot) = at_line names.chain spot.line (codes ": inert part in the chain\n")
board_fault_line names (board.NoSupplyNet spot) = at_line names.chain spot.line (codes ": supply net not there\n")
board_fault_line names (board.GuardedDriver spot) = at_spot names.nets spot (codes ": driver on a guarded net\n")
board_fault_line names (board.TwoAlwaysOn spot) = at_spot names.nets spot (codes ": two drivers always on\n")
board_fault_line names (board.Limit which) = limit_line which
board_fault_line names (board.NoPullNet spot) = at_line names.chain spot.line (codes ": pulled net not there\n")
board_fault_line names (board.PullTwice spot) = at_line names.chain spot.line (codes ": net pulled twice\n")
board_fault_line names (board.Memory e) = memory_line

-- the line for the point of a BSDL text at which the lexer stops
abbrev pub lex_fault_line : Text → LexFault → Text
lex_fault_line name (lex.Byte n) = at_line name n (codes ": byte not allowed\n")
lex_fault_line name (lex.OpenString n) = at_line name n (codes ": string not closed\n")
lex_fault_line name (lex.TooMany n) = at_line name n (codes ": too many tokens\n")
lex_fault_line name (lex.Memory e) = memory_line

-- the line for the first point at which a BSDL text does not fit the grammar, or at which it has a
-- package instead of an entity
abbrev pub parse_fault_line : Text → ParseFault → Text
parse_fault_line name (parse.Expected n) = at_line name n (codes ": not in the grammar\n")
parse_fault_line name (parse.Package n) = at_line name n (codes ": package text\n")
parse_fault_line name (parse.Memory e) = memory_line

-- the line for a device rule that fails, with the first item that breaks the rule
abbrev pub rule_line : Text → ℕ → ℕ → Text
rule_line name number item = whole (name ∷ codes ": rule V" ∷ decimal number ∷ codes " item " ∷ decimal item ∷ codes "\n" ∷ [])

-- the line for a string of a device, with the first entry that does not fit the string's grammar
abbrev pub string_line : Text → ℕ → ℕ → Text
string_line name attribute entry = whole (name ∷ codes ": " ∷ string_name attribute ∷ codes " entry " ∷ decimal entry ∷ codes "\n" ∷ [])

-- the line for the first rule that a device breaks, or for the first of the device's strings that
-- does not fit the string's grammar
abbrev pub device_fault_line : Text → DeviceFault → Text
device_fault_line name (device.Rule number item) = rule_line name number item
device_fault_line name (device.Text attribute entry) = string_line name attribute entry
device_fault_line name (device.Memory e) = memory_line

-- the line for the first LINK pin that is in no net
abbrev pub link_fault_line : Text → LinkFault → Text
link_fault_line name (link.NoLinkPin spot) = at_spot name spot (codes ": link pin not in a net\n")
link_fault_line name (link.Memory e) = memory_line

-- the line for the first fault of the texts
abbrev pub input_fault_line : Names → InputFault → Text
input_fault_line names (input.Chain fault) = line_fault_line names.chain fault
input_fault_line names (input.Nets fault) = line_fault_line names.nets fault
input_fault_line names (input.Lex text fault) = lex_fault_line (text_name names.bsdl text) fault
input_fault_line names (input.Parse text fault) = parse_fault_line (text_name names.bsdl text) fault
input_fault_line names (input.Board fault) = board_fault_line names fault
input_fault_line names (input.Device text fault) = device_fault_line (text_name names.bsdl text) fault
input_fault_line names (input.Link fault) = link_fault_line names.chain fault
input_fault_line names (input.NoIdent line) = at_line names.chain line (codes ": part without a description\n")
input_fault_line names (input.Memory e) = memory_line

-- the line for a text that is not a log of `rows` rows
abbrev pub log_fault_line : Text → ℕ → LogFault → Text
log_fault_line name rows (log.Digit n) = at_line name n (codes ": digit not allowed\n")
log_fault_line name rows (log.Length n) = at_line name n (codes ": wrong length\n")
log_fault_line name rows (log.Extra n) = at_line name n (codes ": row too many\n")
log_fault_line name rows (log.Missing found) =
    whole (name ∷ codes ": " ∷ decimal found ∷ codes " rows of " ∷ decimal rows ∷ codes "\n" ∷ [])
log_fault_line name rows (log.Memory e) = memory_line

-- The line for a block of a batch that is not a log of `rows` rows. A block has the lines of one
-- board. This block is block `board`, counted from 1.
abbrev pub block_fault_line : Text → ℕ → ℕ → LogFault → Text
block_fault_line name rows board (log.Digit n) = log_fault_line name rows (log.Digit n)
block_fault_line name rows board (log.Length n) = log_fault_line name rows (log.Length n)
block_fault_line name rows board (log.Extra n) = log_fault_line name rows (log.Extra n)
block_fault_line name rows board (log.Missing found) =
    whole
    (name ∷ codes " board " ∷ decimal board ∷ codes ": " ∷ decimal found ∷ codes " rows of "
    ∷ decimal rows ∷ codes "\n" ∷ [])
block_fault_line name rows board (log.Memory e) = memory_line

-- the line for a text that is not a batch of logs with `rows` rows each
abbrev pub batch_fault_line : Text → ℕ → BatchFault → Text
batch_fault_line name rows (batch.Start n) = at_line name n (codes ": no board yet\n")
batch_fault_line name rows (batch.Title n) = at_line name n (codes ": board not allowed\n")
batch_fault_line name rows (batch.Inner board fault) = block_fault_line name rows board fault
batch_fault_line name rows (batch.Memory e) = memory_line
