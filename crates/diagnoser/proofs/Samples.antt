-- Samples of the lines of a diagnosis, worked by hand.
use Rattle.std.proofs.Common.{◌≡◌, ℕ, List, [], ◌∷◌, ◌++◌, codes, None, refl, true, false}
use Rattle.std.specs.Fmt.{digits}
use Rattle.board_defs.specs.declared.board.RawBoard.{RawBoard}
use Rattle.board_defs.specs.declared.fault.Kind.TheVariants.{And, Or, First, Second}
use Rattle.board_defs.specs.declared.fault.Single.TheVariants.{StuckNet, OpenPin, Short}
use Rattle.diagnoser.specs.DiagText.{diag_text, fault_line}

-- a board with net A, which has the pins U1.7 and U2.3, and net B, which has no pins
abbrev board : RawBoard
board = record {
  chain = [];
  nets =
      record {
        name = codes "A";
        pins = record
            { part = codes "U1"; pin = codes "7"; at = None; inert = true }
            ∷ record { part = codes "U2"; pin = codes "3"; at = None; inert = true }
            ∷ [];
        supply = false;
        pull = None;
      }
      ∷ record { name = codes "B"; pins = []; supply = false; pull = None } ∷ [];
}

abbrev line : List ℕ → List ℕ
line text = text ++ 10 ∷ []

stuck : fault_line board (StuckNet 1 true) ≡ line (codes "stuck B 1")
stuck = refl

opened : fault_line board (OpenPin (record { net = 0; place = 1 }) false) ≡ line (codes "open U2.3 0")
opened = refl

and_short : fault_line board (Short 0 1 And) ≡ line (codes "short AND A B")
and_short = refl

or_short : fault_line board (Short 0 1 Or) ≡ line (codes "short OR A B")
or_short = refl

-- the name of the net that dominates comes first
first_dominates : fault_line board (Short 0 1 First) ≡ line (codes "short DOM A B")
first_dominates = refl

second_dominates : fault_line board (Short 0 1 Second) ≡ line (codes "short DOM B A")
second_dominates = refl

passing : diag_text board true [] ≡ line (codes "PASS")
unfolding diag_text
passing = refl

unexplained : diag_text board false [] ≡ line (codes "FAIL 0")
unfolding diag_text digits
unexplained = refl

explained : diag_text board false (StuckNet 0 false ∷ Short 0 1 And ∷ [])
    ≡ line (codes "FAIL 2") ++ (line (codes "stuck A 0") ++ line (codes "short AND A B"))
unfolding diag_text digits
explained = refl
