-- If no rule finds a fault, the board made from the marked words keeps the rules of a board. A
-- marked word is a word of a net file with facts about the pin that it names.
use Rattle.std.proofs.Common.{◌≡◌, ℕ, List, [], map, None, sym, subst, ◌∙◌, ap}
use Rattle.std.specs.Prelude.{option_map}
use Rattle.first_places.specs.Places.{first_repeated}
use Rattle.board_files.specs.declared.chain_file.ChainLine.{ChainLine}
use Rattle.board_files.specs.declared.net_file.NetLine.{NetLine}
use Rattle.board_defs.specs.declared.board.Part.{Part}
use Rattle.board_defs.specs.BoardRules.{IsBoard}
use Rattle.board_lines.specs.declared.names.Naming.TheVariants.{Inert}
use Rattle.board_lines.specs.Names.{named, names_of}
use Rattle.board_lines.specs.NetWords.{NetWord, net_names, standing_words, spot_of, have_same_pin}
use Rattle.board_lines.specs.ChainParts.{pin_places}
use Rattle.board_lines.specs.declared.fault.BoardFault.TheVariants.{PinTwice}
use Rattle.board_build.specs.BoardRules.{board_answer, pin_twice}
use Rattle.board_build.specs.inner.Marked.{Marked, mark_word, board_by, marked_fault, marked_answer, marked_twice}
use Rattle.board_build.specs.inner.Selected.{ChainWithParts, IsSelected}
use Rattle.board_build.proofs.MarkLemmas.{board_same, fault_same, answer_same, twice_same}
use Rattle.board_build.proofs.LawLemmas.{is_board}

pub sound_by : (chain : ChainWithParts) (nets : List NetLine) (names : List (List ℕ)) (words : List Marked) → IsSelected chain →
    names ≡ net_names nets
    → words
    ≡ map
    (mark_word chain.parts (pin_places chain.parts) (names_of (named Inert chain.lines)))
    (standing_words nets) →
    marked_fault chain.lines chain.parts names words ≡ None → IsBoard (board_by chain.lines chain.parts names words)
sound_by chain nets names words is en ew =
    let lines : List ChainLine = chain.lines in
    let parts : List Part = chain.parts in
    let P : List (List ℕ) → Type 0 = λ v. marked_fault lines parts v words ≡ None → IsBoard (board_by lines parts v words) in
    let Q : List Marked → Type 0 = λ v. marked_fault lines parts (net_names nets) v ≡ None
    → IsBoard (board_by lines parts (net_names nets) v) in
    subst P (sym en)
    (subst Q (sym ew)
    (λ e. subst IsBoard
    (sym (board_same lines parts (net_names nets) (standing_words nets)))
    (is_board lines nets parts is.selected is.names is.kinds
    (sym (fault_same lines nets parts) ∙ e))))

pub answer_by : (chain : List ChainLine) (nets : List NetLine) (parts : List Part) (names : List (List ℕ)) (words : List Marked) →
    names ≡ net_names nets
    → words
    ≡ map (mark_word parts (pin_places parts) (names_of (named Inert chain)))
    (standing_words nets)
    → marked_answer chain parts names words ≡ board_answer chain nets parts
answer_by chain nets parts names words en ew =
    ap (λ v. marked_answer chain parts v words) en ∙ ap (marked_answer chain parts (net_names nets)) ew ∙ answer_same chain nets parts

no_twice : (words : List NetWord) → first_repeated have_same_pin words ≡ None → pin_twice words ≡ None
unfolding pin_twice
no_twice words e = ap (option_map (λ (w : NetWord). PinTwice (spot_of w))) e

pub twice_none : (chain : List ChainLine) (parts : List Part) (words : List NetWord) → first_repeated have_same_pin words ≡ None →
    marked_twice (map (mark_word parts (pin_places parts) (names_of (named Inert chain))) words) ≡ None
twice_none chain parts words e = twice_same chain parts [] words ∙ no_twice words e
