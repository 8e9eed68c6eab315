-- Lemmas about the lengths of the instruction scans.
use Rattle.std.proofs.Common.{◌≡◌, ℕ, ◌<◌, ◌≤◌, Bool, List, [], ◌∷◌, length, map, refl, ◌∙◌, arith, length-append}
use Rattle.std.specs.Prelude.{sum_by}
use Rattle.std.proofs.lemmas.List.Sums.{sum_by-cons}
use Rattle.board_defs.specs.Limits.{most_bits}
use Rattle.board_defs.specs.declared.board.PartKind.{PartKind}
use Rattle.board_defs.specs.declared.board.PartKind.TheVariants.{Described, Bypass}
use Rattle.board_defs.specs.declared.board.Part.{Part}
use Rattle.board_defs.specs.declared.board.RawBoard.{RawBoard}
use Rattle.board_defs.specs.BoardRules.{IsBoard}
use Rattle.board_defs.specs.Pins.{instruction_length, instruction_bits}
use Rattle.board_defs.proofs.BoardLemmas.{chain_length}
use Rattle.tap_defs.specs.board.OnBoard.{test_logic}
use Rattle.tap_defs.specs.chain.Scan.{ScanBit, joined}
use Rattle.tap_defs.specs.chain.Codes.{instructs}
use Rattle.tap_defs.specs.board.BoardScans.{preload_code, extest_code}
use Rattle.tap_defs.proofs.chain.InstructLemmas.{length-instructs}
use Rattle.tap_defs.proofs.board.EntryLemmas.{CodesFit, parts_of, preload_fits, extest_fits, codes_total}
use Rattle.plan_tables.specs.declared.instructions.Instruction.{Instruction}
use Rattle.plan_tables.specs.declared.instructions.Instruction.TheVariants.{Preload, Extest}
use Rattle.plan_tables.specs.inner.Codes.{code_for}

ir_length_is : (kind : PartKind) → (test_logic kind).ir_length ≡ instruction_length kind
ir_length_is (Described device) = refl
ir_length_is (Bypass n) = refl

codes_bits : (code : PartKind → List Bool) (parts : List Part) → CodesFit code parts
    → length (joined (map (λ p. code p.kind) parts)) ≡ sum_by (λ p. instruction_length p.kind) parts
codes_bits code [] fit = refl
codes_bits code (p ∷ parts) fit =
    omega (
      arith,
      length-append (joined (map (λ q. code q.kind) parts)) (code p.kind),
      codes_bits code parts fit.1,
      fit.0,
      ir_length_is p.kind,
      sum_by-cons (λ (q : Part). instruction_length q.kind) p parts,
    )

pub record IsSized (bits : List ScanBit) (size : ℕ) : Type 0 where
  pub some : 0 < length bits
  pub most : length bits ≤ most_bits
  pub size_is : length bits ≡ size

code_sized : (board : RawBoard) → IsBoard board → (code : PartKind → List Bool)
    → CodesFit code board.chain
    → IsSized ((instructs (map (λ p. code p.kind) board.chain)).bits) (instruction_bits board)
code_sized board rules code fit =
    let size : length ((instructs (map (λ p. code p.kind) board.chain)).bits)
    ≡ instruction_bits board = length-instructs (map (λ p. code p.kind) board.chain)
    ∙ codes_bits code board.chain fit in
    record {
      some =
          omega (
            arith,
            length-instructs (map (λ p. code p.kind) board.chain),
            codes_total code board.chain fit (parts_of board rules),
            rules.chain_some,
          );
      most = omega (arith, size, chain_length board.chain rules.parts, rules.chain_most);
      size_is = size;
    }

pub preload_sized : (board : RawBoard) → IsBoard board
    → IsSized ((instructs (map (λ p. preload_code p.kind) board.chain)).bits)
    (instruction_bits board)
preload_sized board rules = code_sized board rules preload_code (preload_fits board.chain (parts_of board rules))

pub extest_sized : (board : RawBoard) → IsBoard board
    → IsSized ((instructs (map (λ p. extest_code p.kind) board.chain)).bits)
    (instruction_bits board)
extest_sized board rules = code_sized board rules extest_code (extest_fits board.chain (parts_of board rules))

pub few_bits : (instruction : Instruction) (board : RawBoard) → IsBoard board
    → length ((instructs (map (λ part. code_for instruction part.kind) board.chain)).bits)
    ≤ most_bits
few_bits Preload board rules = (preload_sized board rules).most
few_bits Extest board rules = (extest_sized board rules).most
