-- The nets that LINK lines join, and the joined files of a chain file and a net file. In joined
-- files, all joined nets have the same name, and an INERT line replaces each LINK line.
use Rattle.std.specs.Prelude.{◌≡◌, ℕ, ◌≤◌, List, [], ◌∷◌, Some, slice_get, Contains}
use Rattle.board_files.specs.declared.chain_file.ChainLine.{ChainLine}
use Rattle.board_files.specs.declared.chain_file.ChainStatement.{ChainStatement}
use Rattle.board_files.specs.declared.chain_file.ChainStatement.TheVariants.{Device, Bypass, Inert, Supply, Pull, Link}
use Rattle.board_files.specs.declared.net_file.NetLine.{NetLine}
use Rattle.board_files.specs.Names.{line_names}
use Rattle.series_parts.specs.Nets.{Word, net_of_pin}

-- on some LINK line, the first pin is in net `a` and the second pin is in net `b`
pub record IsLink (chain : List ChainLine) (nets : List NetLine) (a b : Word) : Type 0 where
  pub place : ℕ
  pub line : ℕ
  pub part : Word
  pub first : Word
  pub second : Word
  pub stands : slice_get chain place ≡ Some (record { line = line; statement = Link part first second })
  pub of_first : net_of_pin nets part first ≡ Some a
  pub of_second : net_of_pin nets part second ≡ Some b

-- a path of LINK lines leads from one net to the other; the path may take each line in either
-- direction, and the empty path leads from a net to itself
pub data AreJoined (chain : List ChainLine) (nets : List NetLine) : Word → Word → Type 0 where
  itself : {a : Word} → AreJoined chain nets a a
  along : {a b c : Word} → IsLink chain nets a b → AreJoined chain nets b c → AreJoined chain nets a c
  back : {a b c : Word} → IsLink chain nets b a → AreJoined chain nets b c → AreJoined chain nets a c

-- `least` is the first net on the lines of the net file that is joined with `net`
pub record IsLeastJoined (chain : List ChainLine) (nets : List NetLine) (net least : Word) : Type 0 where
  pub joined : AreJoined chain nets net least
  pub place : ℕ
  pub stands : slice_get (line_names nets) place ≡ Some least
  pub first : (k : ℕ) (other : Word) → slice_get (line_names nets) k ≡ Some other → AreJoined chain nets net other → place ≤ k

-- The new name of a net on a line is the name of the first net on the lines of the net file that is
-- joined with this net. A net that is on no line keeps its name.
pub record IsReplaced (chain : List ChainLine) (nets : List NetLine) (old new : Word) : Type 0 where
  pub there : Contains (line_names nets) old → IsLeastJoined chain nets old new
  pub missing : (Contains (line_names nets) old → ⊥) → new ≡ old

abbrev pub IsJoinedStatement : List ChainLine → List NetLine → ChainStatement → ChainStatement → Type 0
IsJoinedStatement chain nets (Link part first second) new = new ≡ Inert part
IsJoinedStatement chain nets (Supply net) new = (other : Word) × IsReplaced chain nets net other × (new ≡ Supply other)
IsJoinedStatement chain nets (Pull net value) new = (other : Word) × IsReplaced chain nets net other × (new ≡ Pull other value)
IsJoinedStatement chain nets (Device part entity pack) new = new ≡ Device part entity pack
IsJoinedStatement chain nets (Bypass part bits) new = new ≡ Bypass part bits
IsJoinedStatement chain nets (Inert part) new = new ≡ Inert part

pub record IsJoinedLine (chain : List ChainLine) (nets : List NetLine) (old new : ChainLine) : Type 0 where
  pub line : new.line ≡ old.line
  pub statement : IsJoinedStatement chain nets old.statement new.statement

pub record IsJoinedNet (chain : List ChainLine) (nets : List NetLine) (old new : NetLine) : Type 0 where
  pub line : new.line ≡ old.line
  pub pins : new.pins ≡ old.pins
  pub name : IsReplaced chain nets old.name new.name

-- the two lists have the same length, and `R` relates the items at each index
abbrev pub Each : {A : Type 0} → (A → A → Type 0) → List A → List A → Type 0
Each R [] [] = Unit {0}
Each R (x ∷ xs) [] = ⊥
Each R [] (y ∷ ys) = ⊥
Each R (x ∷ xs) (y ∷ ys) = R x y × Each R xs ys

-- the new files are the joined files of the chain file and the net file
pub record AreJoinedFiles (chain : List ChainLine) (nets : List NetLine)
    (new_chain : List ChainLine) (new_nets : List NetLine) : Type 0 where
  pub chain_lines : Each (IsJoinedLine chain nets) chain new_chain
  pub net_lines : Each (IsJoinedNet chain nets) nets new_nets
