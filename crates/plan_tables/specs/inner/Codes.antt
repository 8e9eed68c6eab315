-- The codes of nets, and the instruction codes in scans.
use Rattle.std.specs.Prelude.{◌≡◌, ℕ, suc, ◌-◌, ◌<◌, ◌≤◌, Bool, true, false, cond, List, ◌∷◌, All, length, fold, replicate, take, count_by, slice_index_or}
use Rattle.board_defs.specs.declared.board.PartKind.{PartKind}
use Rattle.board_defs.specs.declared.board.Part.{Part}
use Rattle.board_defs.specs.declared.board.RawBoard.{RawBoard}
use Rattle.board_defs.specs.declared.board.Ctl.{Ctl}
use Rattle.board_defs.specs.Pins.{instruction_length}
use Rattle.tap_defs.specs.board.BoardScans.{preload_code, extest_code}
use Rattle.plan_tables.specs.declared.codes.NetCodes.{NetCodes}
use Rattle.plan_tables.specs.declared.tables.DriverCell.{DriverCell}
use Rattle.plan_tables.specs.declared.controls.DriverTable.{DriverTable}
use Rattle.plan_tables.specs.Assigned.{assigned}
use Rattle.plan_tables.specs.Tables.{controlled}
use Rattle.plan_tables.specs.declared.instructions.Instruction.{Instruction}
use Rattle.plan_tables.specs.declared.instructions.Instruction.TheVariants.{Preload, Extest}

-- the code that loads the instruction into a part of this kind
abbrev pub code_for : Instruction → PartKind → List Bool
code_for Preload kind = preload_code kind
code_for Extest kind = extest_code kind

-- the code has the length of the part's instruction register, which is at least 2
pub record HasCodeFor (instruction : Instruction) (kind : PartKind) : Type 0 where
  pub least : 2 ≤ instruction_length kind
  pub length_is : length (code_for instruction kind) ≡ instruction_length kind

abbrev pub HaveCodes : Instruction → List Part → Type 0
HaveCodes instruction chain = All (λ part. HasCodeFor instruction part.kind) chain

-- the expected bits of an instruction register of this length: the bits nearest TDO are 1 and 0, in this order, and the bits that are not
-- compared are 0
abbrev pub captured_bits : ℕ → List Bool
captured_bits length = true ∷ replicate (length - 1) false

-- the mask of an instruction register of this length: only the two bits nearest TDO are compared
abbrev pub compared_code_bits : ℕ → List Bool
compared_code_bits length = true ∷ true ∷ replicate (length - 2) false

-- sets the flag of each cell's net
abbrev pub with_nets_marked : List Bool → List DriverCell → List Bool
with_nets_marked flags cells = assigned (λ d. d.net) (λ d. true) flags cells

-- sets the flags of the nets of a pass's driver cells
abbrev pub marked_on : RawBoard → DriverTable → List Bool → List Ctl → List Bool
marked_on board table flags pass =
    fold (λ done c. with_nets_marked done (controlled board table.rows c))
    (with_nets_marked flags table.always) pass

-- for each of the first `nets` nets, whether the net has a cell in `steady`, or a driver cell that `table` gives for one of these passes
abbrev pub seen_in : RawBoard → ℕ → List DriverCell → DriverTable → List (List Ctl) → List Bool
seen_in board nets steady table passes = fold (marked_on board table) (with_nets_marked (replicate nets false) steady) passes

-- The nets whose flag in `seen` is true have the codes 1, 2 and so on in net order, and the other nets have the code 0. `codes.count` is
-- the number of flags that are true.
pub record AreCodes (seen : List Bool) (codes : NetCodes) : Type 0 where
  pub count_is : codes.count ≡ count_by (λ b. b) seen
  pub length_is : length codes.codes ≡ length seen
  pub each : (n : ℕ) → n < length seen
      → slice_index_or codes.codes n 0
      ≡ cond (slice_index_or seen n false) (suc (count_by (λ b. b) (take n seen))) 0
