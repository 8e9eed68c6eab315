-- The meaning of an SVF text (SVF Revision E): the clocks that the text runs, if it has a meaning in this model.
use Rattle.std.specs.Prelude.{ℕ, Bool, true, false, ◌&&◌, List, [], ◌∷◌, ◌++◌, Option, Some, None, option_map, option_and_then, if◌then◌else◌}
use Rattle.tap_defs.specs.chain.Run.{Clock}
use Rattle.tap_defs.specs.chain.Clocks.{scan_clocks, reset_clocks, head_clocks}
use Rattle.tap_defs.specs.chain.SvfTokens.{without_comments, tokens_from, pieces_from}
use Rattle.tap_defs.specs.chain.SvfStatements.{Statement, TrstOff, EndIrIdle, EndDrIdle, StateReset, StateIdle, ScanOf, statements_of}

-- the state that earlier statements established: whether the controllers are in Run-Test/Idle, and whether
-- ENDIR IDLE and ENDDR IDLE have been given
pub record Standing : Type 0 where
  pub idle : Bool
  pub ends_ir : Bool
  pub ends_dr : Bool

-- True if an SIR (`true`) or SDR (`false`) statement may come next. The controllers must be in Run-Test/Idle, and ENDIR
-- IDLE or ENDDR IDLE must have been given for scans of this kind.
abbrev pub may_scan : Standing → Bool → Bool
may_scan standing true = standing.idle && standing.ends_ir
may_scan standing false = standing.idle && standing.ends_dr

-- these clocks followed by the clocks of the rest, or None if the rest has no meaning
abbrev pub followed_by : List Clock → Option (List Clock) → Option (List Clock)
followed_by clocks more = option_map (λ cs. clocks ++ cs) more

-- The clocks of statements, or None if they have no meaning. STATE IDLE must come right after STATE RESET.
abbrev pub clocks_of : Standing → List Statement → Option (List Clock)
clocks_of standing [] = Some []
clocks_of standing (TrstOff ∷ more) = clocks_of standing more
clocks_of standing (EndIrIdle ∷ more) = clocks_of (record standing { ends_ir = true }) more
clocks_of standing (EndDrIdle ∷ more) = clocks_of (record standing { ends_dr = true }) more
clocks_of standing (StateReset ∷ StateIdle ∷ more) = followed_by head_clocks (clocks_of (record standing { idle = true }) more)
clocks_of standing (StateReset ∷ more) = followed_by reset_clocks (clocks_of (record standing { idle = false }) more)
clocks_of standing (StateIdle ∷ more) = None
clocks_of standing (ScanOf scan ∷ more) =
    if may_scan standing scan.ir then followed_by (scan_clocks scan) (clocks_of standing more) else None

-- the state before the text, in which nothing is established
abbrev pub at_start : Standing
at_start = record { idle = false; ends_ir = false; ends_dr = false }

-- the statements of a text, or None if the text is not a list of these statements
unfoldable pub text_statements : List ℕ → Option (List Statement)
text_statements text = option_and_then statements_of (pieces_from [] (tokens_from [] (without_comments false text)))

-- the clocks that the text means, or None if it has no meaning
unfoldable pub meaning : List ℕ → Option (List Clock)
meaning text = option_and_then (clocks_of at_start) (text_statements text)
