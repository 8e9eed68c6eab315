-- Lemmas about the command that the name and the rows of a subcommand give. A row has the values that `clap`
-- found for one argument.
use Rattle.std.proofs.Common.{◌≡◌, refl, sym, ap, ◌∙◌, Bool, true, false, List, codes, Option, Some, None}
use Rattle.std.specs.Prelude.{option_map, if◌then◌else◌}
use Rattle.std.specs.Str.{bytes_eq}
use Rattle.clap.specs.Walk.{Row, Text}
use Rattle.command_line.specs.inner.Found.{board_found, called_found, command_in, log_found}

if_not : {X : Type 0} (x y : X) (b : Bool) → b ≡ false → (if b then x else y) ≡ y
if_not x y true is = absurd cc
if_not x y false is = refl

pub log_other : (name : Text) (rows : List Row) → bytes_eq (codes "diagnose") name ≡ false
    → bytes_eq (codes "groups") name ≡ false → bytes_eq (codes "batch") name ≡ false
    → None ≡ log_found name rows
unfolding log_found
log_other name rows diagnose groups batch = sym (if_not _ _ _ diagnose ∙ if_not _ _ _ groups ∙ if_not _ _ _ batch)

pub board_other : (name : Text) (rows : List Row) → bytes_eq (codes "cover") name ≡ false
    → bytes_eq (codes "svf") name ≡ false → bytes_eq (codes "walk") name ≡ false
    → bytes_eq (codes "make") name ≡ false → log_found name rows ≡ board_found name rows
unfolding board_found
board_other name rows cover svf walk make = sym (if_not _ _ _ cover ∙ if_not _ _ _ svf ∙ if_not _ _ _ walk ∙ if_not _ _ _ make)

pub called_other : (name : Text) (rows : List Row) → bytes_eq (codes "chain") name ≡ false
    → bytes_eq (codes "ident") name ≡ false → bytes_eq (codes "device") name ≡ false
    → board_found name rows ≡ called_found name rows
called_other name rows chain ident device = sym (if_not _ _ _ chain ∙ if_not _ _ _ ident ∙ if_not _ _ _ device)

-- if `found` has this name and these rows, the command in `found` is the command that they give
pub called_by : {S : Type 0} (of : S → Text × List Row) (found : Option S) (name : Text)
    (rows : List Row) → Some name ≡ option_map (λ s. (of s).0) found
    → Some rows ≡ option_map (λ p. p.1) (option_map of found)
    → called_found name rows ≡ command_in (option_map of found)
called_by of None name rows named with_rows = absurd cc
called_by of (Some s) name rows named with_rows =
    let same_name : name ≡ (of s).0 = cc in
    let same_rows : rows ≡ (of s).1 = cc in
    ap (λ n. called_found n rows) same_name ∙ ap (called_found (of s).0) same_rows
