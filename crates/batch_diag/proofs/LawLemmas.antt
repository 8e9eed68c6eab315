-- Lemmas from which the laws of batches follow. The laws say which lines are a batch, and which fault is the first.
use Rattle.std.proofs.Common.{◌≡◌, ℕ, ◌+◌, Bool, true, false, cond, not, Option, Some, None, Ok, Err, List, [], ◌∷◌, ◌++◌, length, suc, refl, sym, ap, ◌∙◌, subst, arith, append_assoc}
use Rattle.std.specs.Prelude.{All, codes, ◌&&◌}
use Rattle.std.proofs.lemmas.List.Elements.{All-nil, All-cons}
use Rattle.std.proofs.lemmas.Slice.Eq.{bytes_eq-Decides}
use Rattle.text_lines.specs.Words.{Word, is_word}
use Rattle.response_log.specs.declared.fault.LogFault.{LogFault}
use Rattle.response_log.specs.LogRows.{NumberedLine, row_lines, rows_of_lines, LogAnswer}
use Rattle.batch_diag.specs.declared.block.Block.{Block}
use Rattle.batch_diag.specs.declared.fault.BatchFault.{BatchFault}
use Rattle.batch_diag.specs.declared.fault.BatchFault.TheVariants.{Start, Title, Inner, Memory}
use Rattle.batch_diag.specs.Batch.{BatchAnswer, BlockLines, is_title, begins_block, id_of, names_board, is_wrong_title, start_fault, title_fault, up_to_title, blocks_of, onto, block_then, logs_from, unless_wrong, blocks_of_lines}
use Rattle.batch_diag.proofs.RowLemmas.{IsRow, IsRight, named, right_before, none_wrong, rows_right, rows_blocks, up_to_row, up_to_first, rows_up_to}
use Rattle.batch_diag.specs.Laws.{IsBlockOf, AreBlocksOf, BlocksAreTheLines, IsFirstFault, FaultIsTheFirst}

-- if a title names a board, its two words are `BOARD` and the id
pub title_words : (words : List Word) → is_title words ≡ true → names_board words ≡ true
    → (words ≡ codes "BOARD" ∷ id_of words ∷ []) × (is_word (id_of words) ≡ true)
title_words [] title names = absurd cc
title_words (word ∷ []) title names = absurd cc
title_words (word ∷ id ∷ []) title names = (ap (λ (w : Word). w ∷ id ∷ []) ((bytes_eq-Decides word (codes "BOARD")).0 title), names)
title_words (word ∷ id ∷ other ∷ words) title names = absurd cc

is_title_of : (words : List Word) (id : Word) → words ≡ codes "BOARD" ∷ id ∷ [] → is_title words ≡ true
is_title_of words id is = ap is_title is ∙ (bytes_eq-Decides (codes "BOARD") (codes "BOARD")).1 refl

not_wrong : (line : NumberedLine) (id : Word) → line.words ≡ codes "BOARD" ∷ id ∷ [] → is_word id ≡ true → is_wrong_title line ≡ false
not_wrong line id is word =
    ap (λ (b : Bool). b && not (names_board line.words)) (is_title_of line.words id is)
    ∙ ap (λ (ws : List Word). not (names_board ws)) is ∙ ap not word

-- `blocks_of_lines` returns a list of blocks if and only if the lines are the lines of these blocks.
module _ (rows len : ℕ) where
  block_title : (title : NumberedLine) (own : List NumberedLine) (block : Block)
      → IsBlockOf rows len title own block → begins_block title ≡ true
  block_title title own block is = is_title_of title.words block.id is.words

  started : (lines : List NumberedLine) (blocks : List Block) → AreBlocksOf rows len lines blocks → start_fault lines ≡ None
  started lines [] are = ap start_fault are
  started lines (block ∷ blocks) (title, own, later, is, more, all) =
      ap start_fault all ∙ ap (λ (b : Bool). cond b None (Some (Start title.number))) (block_title title own block is)

  none_before : (lines : List NumberedLine) (blocks : List Block) → AreBlocksOf rows len lines blocks → up_to_title lines ≡ []
  none_before lines [] are = ap up_to_title are
  none_before lines (block ∷ blocks) (title, own, later, is, more, all) =
      ap up_to_title all ∙ up_to_first title (own ++ later) (block_title title own block is)

  right : (lines : List NumberedLine) (blocks : List Block) → AreBlocksOf rows len lines blocks → title_fault lines ≡ None
  right lines [] are = ap title_fault are
  right lines (block ∷ blocks) (title, own, later, is, more, all) =
      ap title_fault all
      ∙ ap (λ (b : Bool). cond b (Some (Title title.number)) (title_fault (own ++ later)))
      (not_wrong title block.id is.words is.id)
      ∙ rows_right own later is.inside ∙ right later blocks more

  said : (n : ℕ) (lines : List NumberedLine) (blocks : List Block)
      → AreBlocksOf rows len lines blocks → logs_from rows len n (blocks_of lines) ≡ Ok blocks
  said n lines [] are = ap (λ (ls : List NumberedLine). logs_from rows len n (blocks_of ls)) are
  said n lines (block ∷ blocks) (title, own, later, is, more, all) =
      let front = λ (id : Word) (mine : List NumberedLine) (rest : List BlockLines). block_then id n
      (rows_of_lines rows len mine) (logs_from rows len (n + 1) rest) in
      ap (λ (ls : List NumberedLine). logs_from rows len n (blocks_of ls)) all
      ∙ ap
      (λ (b : Bool). logs_from rows len n
      (cond b
      (record { id = id_of title.words; lines = up_to_title (own ++ later) }
      ∷ blocks_of (own ++ later)) (blocks_of (own ++ later)))) (block_title title own block is)
      ∙ ap (λ (ls : List NumberedLine). front (id_of title.words) ls (blocks_of (own ++ later)))
      (rows_up_to own later is.inside (none_before later blocks more))
      ∙ ap (λ (bs : List BlockLines). front (id_of title.words) own bs) (rows_blocks own later is.inside)
      ∙ ap (λ (ws : List Word). front (id_of ws) own (blocks_of later)) is.words
      ∙ ap (λ (log : LogAnswer). block_then block.id n log (logs_from rows len (n + 1) (blocks_of later))) is.log
      ∙ ap (onto block) (said (n + 1) later blocks more)

  -- The lines consist of lines that are not titles, followed by the lines of `blocks`.
  record Split (lines : List NumberedLine) (blocks : List Block) : Type 0 where
    own : List NumberedLine
    later : List NumberedLine
    all : lines ≡ own ++ later
    inside : All IsRow own
    first : up_to_title lines ≡ own
    are : AreBlocksOf rows len later blocks

  nothing : (blocks : List Block) → ◌≡◌ {A = BatchAnswer} (Ok []) (Ok blocks) → Split [] blocks
  nothing [] is = record { own = []; later = []; all = refl; inside = All-nil IsRow; first = refl; are = refl }
  nothing (block ∷ blocks) is = absurd cc

  row_more : (line : NumberedLine) (lines : List NumberedLine) (blocks : List Block)
      → begins_block line ≡ false → Split lines blocks → Split (line ∷ lines) blocks
  row_more line lines blocks row split = record {
    own = line ∷ split.own;
    later = split.later;
    all = ap (λ (ls : List NumberedLine). line ∷ ls) split.all;
    inside = All-cons IsRow line split.own row split.inside;
    first = up_to_row line lines row ∙ ap (λ (ls : List NumberedLine). line ∷ ls) split.first;
    are = split.are;
  }

  -- the blocks are one block with this id, whose log is in the lines `own`, followed by the blocks of `rest`
  record Behind (id : Word) (own : List NumberedLine) (rest : BatchAnswer) (blocks : List Block) : Type 0 where
    log : List (List Bool)
    more : List Block
    log_is : rows_of_lines rows len own ≡ Ok log
    rest_is : rest ≡ Ok more
    blocks_are : blocks ≡ record { id = id; log = log } ∷ more

  behind : (id : Word) (n : ℕ) (own : List NumberedLine) (answer : LogAnswer) (rest : BatchAnswer)
      (blocks : List Block) → rows_of_lines rows len own ≡ answer
      → block_then id n answer rest ≡ Ok blocks → Behind id own rest blocks
  behind id n own (Ok log) (Ok more) blocks log_is is =
      record {
        log = log;
        more = more;
        log_is = log_is;
        rest_is = refl;
        blocks_are = let same : record
            { id = id; log = log } ∷ more ≡ blocks = cc in
            sym same;
      }
  behind id n own (Ok log) (Err fault) blocks log_is is = absurd cc
  behind id n own (Err fault) rest blocks log_is is = absurd cc

  title_more : (line : NumberedLine) (lines : List NumberedLine) (blocks : List Block)
      (rest : BatchAnswer) → begins_block line ≡ true → names_board line.words ≡ true
      → (b : Behind (id_of line.words) (up_to_title lines) rest blocks) → Split lines b.more
      → Split (line ∷ lines) blocks
  title_more line lines blocks rest title names b split =
      let words = title_words line.words title names in
      let block : Block = record { id = id_of line.words; log = b.log } in
      record {
        own = [];
        later = line ∷ lines;
        all = refl;
        inside = All-nil IsRow;
        first = up_to_first line lines title;
        are = subst (AreBlocksOf rows len (line ∷ lines)) (sym b.blocks_are) (
          line,
          split.own,
          split.later,
          record {
            words = words.0;
            id = words.1;
            inside = split.inside;
            log = ap
                (rows_of_lines rows len) (sym split.first) ∙ b.log_is;
          },
          split.are,
          ap (λ (ls : List NumberedLine). line ∷ ls) split.all,
        );
      }

  right_behind : (line : NumberedLine) (lines : List NumberedLine) (wrong : Bool)
      → is_wrong_title line ≡ wrong
      → cond wrong (Some (Title line.number)) (title_fault lines) ≡ None
      → (is_wrong_title line ≡ false) × (title_fault lines ≡ None)
  right_behind line lines true is none = absurd cc
  right_behind line lines false is none = (is, none)

  split_line : (n : ℕ) (line : NumberedLine) (lines : List NumberedLine) (blocks : List Block)
      (title : Bool) → begins_block line ≡ title → is_wrong_title line ≡ false →
      logs_from rows len n
      (cond title
      (record { id = id_of line.words; lines = up_to_title lines } ∷ blocks_of lines)
      (blocks_of lines)) ≡ Ok blocks →
      ((m : ℕ) (later : List Block) → logs_from rows len m (blocks_of lines) ≡ Ok later → Split lines later) → Split (line ∷ lines) blocks
  split_line n line lines blocks true title right is below =
      let b = behind (id_of line.words) n (up_to_title lines)
      (rows_of_lines rows len (up_to_title lines))
      (logs_from rows len (n + 1) (blocks_of lines)) blocks refl is in
      title_more line lines blocks (logs_from rows len (n + 1) (blocks_of lines)) title
      (let names : names_board line.words
      ≡ true = named line.words (names_board line.words) refl title right in
      names) b (below (n + 1) b.more b.rest_is)
  split_line n line lines blocks false title right is below = row_more line lines blocks title (below n blocks is)

  split : (n : ℕ) (lines : List NumberedLine) (blocks : List Block) → title_fault lines ≡ None
      → logs_from rows len n (blocks_of lines) ≡ Ok blocks → Split lines blocks
  split n [] blocks none is = nothing blocks is
  split n (line ∷ lines) blocks none is =
      let faults = right_behind line lines (is_wrong_title line) refl none in
      split_line n line lines blocks (begins_block line) refl faults.0 is (λ m later said. split m lines later faults.1 said)

  from_start : (lines : List NumberedLine) (blocks : List Block) → start_fault lines ≡ None
      → Split lines blocks → AreBlocksOf rows len lines blocks
  from_start lines blocks none split =
      subst (λ (ls : List NumberedLine). AreBlocksOf rows len ls blocks)
      (sym
      (split.all
      ∙ ap (λ (ls : List NumberedLine). ls ++ split.later)
      (sym split.first ∙ by_lines lines none))) split.are
    where
      by_line : (line : NumberedLine) (lines : List NumberedLine) (title : Bool)
          → begins_block line ≡ title → cond title None (Some (Start line.number)) ≡ None
          → up_to_title (line ∷ lines) ≡ []
      by_line line lines true is none = up_to_first line lines is
      by_line line lines false is none = absurd cc

      by_lines : (lines : List NumberedLine) → start_fault lines ≡ None → up_to_title lines ≡ []
      by_lines [] none = refl
      by_lines (line ∷ lines) none = by_line line lines (begins_block line) refl none

  -- no line is before the first title, no title is wrong, and the lines of the blocks give the logs of `blocks`
  pub record NoFault (lines : List NumberedLine) (blocks : List Block) : Type 0 where
    pub start : start_fault lines ≡ None
    pub titles : title_fault lines ≡ None
    pub logs : logs_from rows len 1 (blocks_of lines) ≡ Ok blocks

  pub no_fault : (lines : List NumberedLine) (blocks : List Block) (start title : Option BatchFault)
      → start_fault lines ≡ start → title_fault lines ≡ title
      → unless_wrong start (unless_wrong title (logs_from rows len 1 (blocks_of lines))) ≡ Ok blocks
      → NoFault lines blocks
  no_fault lines blocks None None start title is = record { start = start; titles = title; logs = is }
  no_fault lines blocks None (Some fault) start title is = absurd cc
  no_fault lines blocks (Some fault) title start title_is is = absurd cc

  to_blocks : (lines : List NumberedLine) (blocks : List Block)
      → blocks_of_lines rows len lines ≡ Ok blocks → AreBlocksOf rows len lines blocks
  to_blocks lines blocks is =
      let none = no_fault lines blocks (start_fault lines) (title_fault lines) refl refl is in
      from_start lines blocks none.start (split 1 lines blocks none.titles none.logs)

  from_blocks : (lines : List NumberedLine) (blocks : List Block)
      → AreBlocksOf rows len lines blocks → blocks_of_lines rows len lines ≡ Ok blocks
  from_blocks lines blocks are =
      let answer = logs_from rows len 1 (blocks_of lines) in
      ap (λ (o : Option BatchFault). unless_wrong o (unless_wrong (title_fault lines) answer))
      (started lines blocks are)
      ∙ ap (λ (o : Option BatchFault). unless_wrong o answer) (right lines blocks are)
      ∙ said 1 lines blocks are

pub blocks_are_the_lines : BlocksAreTheLines
blocks_are_the_lines text rows len blocks = (to_blocks rows len (row_lines text) blocks, from_blocks rows len (row_lines text) blocks)

-- the lines consist of the lines before the first title, followed by `behind`, the lines from the first title on
record Front (lines : List NumberedLine) : Type 0 where
  behind : List NumberedLine
  all : lines ≡ up_to_title lines ++ behind
  rows : All IsRow (up_to_title lines)
  none : up_to_title behind ≡ []

front : (lines : List NumberedLine) → Front lines
front [] = record { behind = []; all = refl; rows = All-nil IsRow; none = refl }
front (line ∷ lines) = by_title (begins_block line) refl (front lines)
  where
    by_title : (title : Bool) → begins_block line ≡ title → Front lines → Front (line ∷ lines)
    by_title true is later =
        let first = up_to_first line lines is in
        record {
          behind = line
              ∷ lines;
          all = ap (λ (ls : List NumberedLine). ls ++ line ∷ lines) (sym first);
          rows
              = subst (All IsRow) (sym first) (All-nil IsRow);
          none = first;
        }
    by_title false is later =
        let first = up_to_row line lines is in
        record {
          behind = later.behind;
          all = ap (λ (ls : List NumberedLine). line ∷ ls) later.all ∙ ap (λ (ls : List NumberedLine). ls ++ later.behind) (sym first);
          rows = subst (All IsRow) (sym first) (All-cons IsRow line (up_to_title lines) is later.rows);
          none = later.none;
        }

all_right : (lines : List NumberedLine) → title_fault lines ≡ None → All IsRight lines
all_right [] none = All-nil IsRight
all_right (line ∷ lines) none = by_wrong (is_wrong_title line) refl none (all_right lines)
  where
    by_wrong : (wrong : Bool) → is_wrong_title line ≡ wrong
        → cond wrong (Some (Title line.number)) (title_fault lines) ≡ None
        → (title_fault lines ≡ None → All IsRight lines) → All IsRight (line ∷ lines)
    by_wrong true is none below = absurd cc
    by_wrong false is none below = All-cons IsRight line lines is (below none)

-- `fault` is the fault of the first wrong title, which is after the lines `before` and in front of the lines `later`
record Wrong (lines : List NumberedLine) (fault : BatchFault) : Type 0 where
  before : List NumberedLine
  line : NumberedLine
  later : List NumberedLine
  right : All IsRight before
  wrong : is_wrong_title line ≡ true
  fault_is : fault ≡ Title line.number
  all : lines ≡ before ++ line ∷ later

wrong_title : (lines : List NumberedLine) (fault : BatchFault) → title_fault lines ≡ Some fault → Wrong lines fault
wrong_title [] fault is = absurd cc
wrong_title (line ∷ lines) fault is = by_wrong (is_wrong_title line) refl is (wrong_title lines fault)
  where
    by_wrong : (wrong : Bool) → is_wrong_title line ≡ wrong
        → cond wrong (Some (Title line.number)) (title_fault lines) ≡ Some fault
        → (title_fault lines ≡ Some fault → Wrong lines fault) → Wrong (line ∷ lines) fault
    by_wrong true wrong is below =
        record {
          before = [];
          line = line;
          later = lines;
          right = All-nil IsRight;
          wrong = wrong;
          fault_is
              = let same : Title line.number ≡ fault = cc in
              sym same;
          all = refl;
        }
    by_wrong false right is below =
        let later = below is in
        record {
          before = line
              ∷ later.before;
          line = later.line;
          later = later.later;
          right = All-cons IsRight
              line later.before right later.right;
          wrong = later.wrong;
          fault_is =
              later.fault_is;
          all = ap (λ (ls : List NumberedLine). line ∷ ls) later.all;
        }

none_before_start : (lines : List NumberedLine) → start_fault lines ≡ None → up_to_title lines ≡ []
none_before_start [] none = refl
none_before_start (line ∷ lines) none = by_title (begins_block line) refl none
  where
    by_title : (title : Bool) → begins_block line ≡ title
        → cond title None (Some (Start line.number)) ≡ None → up_to_title (line ∷ lines) ≡ []
    by_title true is none = up_to_first line lines is
    by_title false is none = absurd cc

module _ (rows len : ℕ) where
  -- `fault` is the fault of the first block whose lines are not a log. The blocks are numbered from `n` on.
  record NoLog (n : ℕ) (lines : List NumberedLine) (fault : BatchFault) : Type 0 where
    front : List NumberedLine
    blocks : List Block
    before : List NumberedLine
    title : NumberedLine
    own : List NumberedLine
    later : List NumberedLine
    why : LogFault
    rows_first : All IsRow front
    first : up_to_title lines ≡ front
    are : AreBlocksOf rows len before blocks
    begins : begins_block title ≡ true
    inside : All IsRow own
    none : up_to_title later ≡ []
    says : rows_of_lines rows len own ≡ Err why
    fault_is : fault ≡ Inner (length blocks + n) why
    all : lines ≡ front ++ (before ++ title ∷ (own ++ later))

  no_log_row : (n : ℕ) (line : NumberedLine) (lines : List NumberedLine) (fault : BatchFault)
      → begins_block line ≡ false → NoLog n lines fault → NoLog n (line ∷ lines) fault
  no_log_row n line lines fault row found = record {
    front = line ∷ found.front;
    blocks = found.blocks;
    before = found.before;
    title = found.title;
    own = found.own;
    later = found.later;
    why = found.why;
    rows_first = All-cons IsRow line found.front row found.rows_first;
    first = up_to_row line lines row ∙ ap (λ (ls : List NumberedLine). line ∷ ls) found.first;
    are = found.are;
    begins = found.begins;
    inside = found.inside;
    none = found.none;
    says = found.says;
    fault_is = found.fault_is;
    all = ap (λ (ls : List NumberedLine). line ∷ ls) found.all;
  }

  no_log_here : (n : ℕ) (line : NumberedLine) (lines : List NumberedLine) (why : LogFault)
      → begins_block line ≡ true → rows_of_lines rows len (up_to_title lines) ≡ Err why
      → NoLog n (line ∷ lines) (Inner n why)
  no_log_here n line lines why title says =
      let f = front lines in
      let count : n ≡ 0 + n = omega arith in
      record {
        front = [];
        blocks = [];
        before = [];
        title = line;
        own = up_to_title lines;
        later = f.behind;
        why = why;
        rows_first = All-nil IsRow;
        first = up_to_first line lines title;
        are = refl;
        begins = title;
        inside = f.rows;
        none = f.none;
        says = says;
        fault_is = ap (λ (m : ℕ). Inner m why) count;
        all = ap (λ (ls : List NumberedLine). line ∷ ls) f.all;
      }

  no_log_later : (n : ℕ) (line : NumberedLine) (lines : List NumberedLine) (fault : BatchFault)
      (log : List (List Bool)) → begins_block line ≡ true → names_board line.words ≡ true
      → rows_of_lines rows len (up_to_title lines) ≡ Ok log → NoLog (n + 1) lines fault
      → NoLog n (line ∷ lines) fault
  no_log_later n line lines fault log title names says found =
      let words = title_words line.words title names in
      let block : Block = record { id = id_of line.words; log = log } in
      let count : length found.blocks + (n + 1) ≡ suc (length found.blocks) + n = omega arith in
      record {
        front = [];
        blocks = block ∷ found.blocks;
        before = line ∷ (found.front ++ found.before);
        title = found.title;
        own = found.own;
        later = found.later;
        why = found.why;
        rows_first = All-nil IsRow;
        first = up_to_first line lines title;
        are = (
          line,
          found.front,
          found.before,
          record {
            words = words.0;
            id = words.1;
            inside = found.rows_first;
            log = ap
                (rows_of_lines rows len) (sym found.first) ∙ says;
          },
          found.are,
          refl,
        );
        begins = found.begins;
        inside = found.inside;
        none = found.none;
        says = found.says;
        fault_is = found.fault_is ∙ ap (λ (m : ℕ). Inner m found.why) count;
        all =
            ap (λ (ls : List NumberedLine). line ∷ ls)
            (found.all
            ∙ sym
            (append_assoc found.front found.before (found.title ∷ (found.own ++ found.later))));
      }

  after_log : (n : ℕ) (line : NumberedLine) (lines : List NumberedLine) (fault : BatchFault)
      (answer : LogAnswer) (rest : BatchAnswer) → begins_block line ≡ true
      → names_board line.words ≡ true → rows_of_lines rows len (up_to_title lines) ≡ answer →
      block_then (id_of line.words) n answer rest ≡ Err fault
      → (rest ≡ Err fault → NoLog (n + 1) lines fault) → NoLog n (line ∷ lines) fault
  after_log n line lines fault (Err why) rest title names says is below =
      let same : Inner n why ≡ fault = cc in
      subst (NoLog n (line ∷ lines)) same (no_log_here n line lines why title says)
  after_log n line lines fault (Ok log) (Ok blocks) title names says is below = absurd cc
  after_log n line lines fault (Ok log) (Err other) title names says is below =
      no_log_later n line lines fault log title names says
      (below (let same : other ≡ fault = cc in ap Err same))

  no_log_line : (n : ℕ) (line : NumberedLine) (lines : List NumberedLine) (fault : BatchFault)
      (title : Bool) → begins_block line ≡ title → is_wrong_title line ≡ false →
      logs_from rows len n
      (cond title
      (record { id = id_of line.words; lines = up_to_title lines } ∷ blocks_of lines)
      (blocks_of lines)) ≡ Err fault →
      ((m : ℕ) → logs_from rows len m (blocks_of lines) ≡ Err fault → NoLog m lines fault) → NoLog n (line ∷ lines) fault
  no_log_line n line lines fault true title right is below =
      after_log n line lines fault (rows_of_lines rows len (up_to_title lines))
      (logs_from rows len (n + 1) (blocks_of lines)) title
      (named line.words (names_board line.words) refl title right) refl is (below (n + 1))
  no_log_line n line lines fault false title right is below = no_log_row n line lines fault title (below n is)

  no_log : (n : ℕ) (lines : List NumberedLine) (fault : BatchFault) → title_fault lines ≡ None
      → logs_from rows len n (blocks_of lines) ≡ Err fault → NoLog n lines fault
  no_log n [] fault none is = absurd cc
  no_log n (line ∷ lines) fault none is =
      let faults = right_behind rows len line lines (is_wrong_title line) refl none in
      no_log_line n line lines fault (begins_block line) refl faults.0 is (λ m said. no_log m lines fault faults.1 said)

  start_first : (lines : List NumberedLine) (fault : BatchFault) → start_fault lines ≡ Some fault → IsFirstFault rows len lines fault
  start_first [] fault is = absurd cc
  start_first (line ∷ lines) fault is = by_title (begins_block line) refl is
    where
      by_title : (title : Bool) → begins_block line ≡ title
          → cond title None (Some (Start line.number)) ≡ Some fault
          → IsFirstFault rows len (line ∷ lines) fault
      by_title true title is = absurd cc
      by_title false row is =
          let same : Start line.number ≡ fault = cc in
          subst (IsFirstFault rows len (line ∷ lines)) same (line, lines, row, refl, refl)

  title_first : (lines : List NumberedLine) (fault : BatchFault) → start_fault lines ≡ None
      → title_fault lines ≡ Some fault → IsFirstFault rows len lines fault
  title_first lines fault none is =
      let w = wrong_title lines fault is in
      subst (IsFirstFault rows len lines) (sym w.fault_is)
      (w.before, w.line, w.later, none_before_start lines none, w.right, w.wrong, refl, w.all)

  inner_first : (lines : List NumberedLine) (fault : BatchFault) → start_fault lines ≡ None
      → title_fault lines ≡ None → logs_from rows len 1 (blocks_of lines) ≡ Err fault
      → IsFirstFault rows len lines fault
  inner_first lines fault started right is =
      let found = no_log 1 lines fault right is in
      let none : found.front ≡ [] = sym found.first ∙ none_before_start lines started in
      subst (IsFirstFault rows len lines) (sym found.fault_is) (
        found.blocks,
        found.before,
        found.title,
        found.own,
        found.later,
        all_right lines right,
        found.are,
        found.begins,
        found.inside,
        found.none,
        found.says,
        refl,
        found.all
            ∙ ap
            (λ (ls : List NumberedLine). ls
            ++ (found.before ++ found.title ∷ (found.own ++ found.later))) none,
      )

  first_fault : (lines : List NumberedLine) (fault : BatchFault) (start title : Option BatchFault)
      → start_fault lines ≡ start → title_fault lines ≡ title
      → unless_wrong start (unless_wrong title (logs_from rows len 1 (blocks_of lines))) ≡ Err fault
      → IsFirstFault rows len lines fault
  first_fault lines fault None None start title is = inner_first lines fault start title is
  first_fault lines fault None (Some other) start title is =
      let same : other ≡ fault = cc in title_first lines fault start (title ∙ ap Some same)
  first_fault lines fault (Some other) title start title_is is =
      let same : other ≡ fault = cc in start_first lines fault (start ∙ ap Some same)

  -- The lemmas from here on prove the converse: if a fault is the first fault, `blocks_of_lines` returns it.
  starts : (lines : List NumberedLine) → up_to_title lines ≡ [] → start_fault lines ≡ None
  starts [] none = refl
  starts (line ∷ lines) none = by_title (begins_block line) refl
    where
      by_title : (title : Bool) → begins_block line ≡ title → start_fault (line ∷ lines) ≡ None
      by_title true is = ap (λ (b : Bool). cond b None (Some (Start line.number))) is
      by_title false is = let clash : line ∷ up_to_title lines ≡ [] = sym (up_to_row line lines is) ∙ none in absurd cc

  -- if `rest` is empty or begins with a title, then the lines of some blocks followed by `rest` are empty or begin with a title
  titles_first : (before : List NumberedLine) (blocks : List Block) (rest : List NumberedLine)
      → AreBlocksOf rows len before blocks → up_to_title rest ≡ []
      → up_to_title (before ++ rest) ≡ []
  titles_first before [] rest are first = ap (λ (ls : List NumberedLine). up_to_title (ls ++ rest)) are ∙ first
  titles_first before (block ∷ blocks) rest (title, own, later, is, more, all) first =
      ap (λ (ls : List NumberedLine). up_to_title (ls ++ rest)) all
      ∙ up_to_first title ((own ++ later) ++ rest) (block_title rows len title own block is)

  fails_behind : (n : ℕ) (before : List NumberedLine) (blocks : List Block)
      (rest : List NumberedLine) (fault : BatchFault) → AreBlocksOf rows len before blocks
      → up_to_title rest ≡ [] →
      logs_from rows len (length blocks + n) (blocks_of rest) ≡ Err fault → logs_from rows len n (blocks_of (before ++ rest)) ≡ Err fault
  fails_behind n before [] rest fault are first says =
      let count : n ≡ 0 + n = omega arith in
      ap (λ (ls : List NumberedLine). logs_from rows len n (blocks_of (ls ++ rest))) are
      ∙ ap (λ (m : ℕ). logs_from rows len m (blocks_of rest)) count ∙ says
  fails_behind n before (block ∷ blocks) rest fault (title, own, later, is, more, all) first says =
      let count : length blocks + (n + 1) ≡ suc (length blocks) + n = omega arith in
      let whole : before ++ rest
      ≡ title ∷ (own ++ (later ++ rest)) = ap (λ (ls : List NumberedLine). ls ++ rest) all
      ∙ ap (λ (ls : List NumberedLine). title ∷ ls) (append_assoc own later rest) in
      let front = λ (id : Word) (mine : List NumberedLine) (behind : List BlockLines). block_then id
      n (rows_of_lines rows len mine) (logs_from rows len (n + 1) behind) in
      ap (λ (ls : List NumberedLine). logs_from rows len n (blocks_of ls)) whole
      ∙ ap
      (λ (b : Bool). logs_from rows len n
      (cond b
      (record { id = id_of title.words; lines = up_to_title (own ++ (later ++ rest)) }
      ∷ blocks_of (own ++ (later ++ rest))) (blocks_of (own ++ (later ++ rest)))))
      (block_title rows len title own block is)
      ∙ ap
      (λ (ls : List NumberedLine). front (id_of title.words) ls
      (blocks_of (own ++ (later ++ rest))))
      (rows_up_to own (later ++ rest) is.inside (titles_first later blocks rest more first))
      ∙ ap (λ (bs : List BlockLines). front (id_of title.words) own bs) (rows_blocks own (later ++ rest) is.inside)
      ∙ ap (λ (log : LogAnswer). block_then (id_of title.words) n log (logs_from rows len (n + 1) (blocks_of (later ++ rest)))) is.log
      ∙ ap (onto (record { id = id_of title.words; log = block.log }))
      (fails_behind (n + 1) later blocks rest fault more first
      (ap (λ (m : ℕ). logs_from rows len m (blocks_of rest)) count ∙ says))

  block_fails : (board : ℕ) (title : NumberedLine) (own later : List NumberedLine)
      (fault : LogFault) → begins_block title ≡ true → All IsRow own → up_to_title later ≡ []
      → rows_of_lines rows len own ≡ Err fault →
      logs_from rows len board (blocks_of (title ∷ (own ++ later))) ≡ Err (Inner board fault)
  block_fails board title own later fault begins inside none says =
      ap
      (λ (b : Bool). logs_from rows len board
      (cond b
      (record { id = id_of title.words; lines = up_to_title (own ++ later) }
      ∷ blocks_of (own ++ later)) (blocks_of (own ++ later)))) begins
      ∙ ap
      (λ (ls : List NumberedLine). block_then (id_of title.words) board
      (rows_of_lines rows len ls)
      (logs_from rows len (board + 1) (blocks_of (own ++ later))))
      (rows_up_to own later inside none)
      ∙ ap (λ (log : LogAnswer). block_then (id_of title.words) board log (logs_from rows len (board + 1) (blocks_of (own ++ later)))) says

  told : (lines : List NumberedLine) (fault : BatchFault) → IsFirstFault rows len lines fault → blocks_of_lines rows len lines ≡ Err fault
  told lines (Start n) (line, later, row, number, all) =
      let start : start_fault lines
      ≡ Some (Start n) = ap start_fault all
      ∙ ap (λ (b : Bool). cond b None (Some (Start line.number))) row
      ∙ ap (λ (m : ℕ). Some (Start m)) number in
      ap (λ (o : Option BatchFault). unless_wrong o (unless_wrong (title_fault lines) (logs_from rows len 1 (blocks_of lines)))) start
  told lines (Title n) (before, line, later, first, right, wrong, number, all) =
      let title : title_fault lines
      ≡ Some (Title n) = ap title_fault all ∙ right_before before (line ∷ later) right
      ∙ ap (λ (b : Bool). cond b (Some (Title line.number)) (title_fault later)) wrong
      ∙ ap (λ (m : ℕ). Some (Title m)) number in
      ap
      (λ (o : Option BatchFault). unless_wrong o
      (unless_wrong (title_fault lines) (logs_from rows len 1 (blocks_of lines))))
      (starts lines first)
      ∙ ap (λ (o : Option BatchFault). unless_wrong o (logs_from rows len 1 (blocks_of lines))) title
  told lines (Inner board fault) (blocks, before, title, own, later, right, are, begins, inside, none, says, number, all) =
      let rest : List NumberedLine = title ∷ (own ++ later) in
      let first : up_to_title rest ≡ [] = up_to_first title (own ++ later) begins in
      let start : start_fault lines ≡ None = starts lines (ap up_to_title all ∙ titles_first before blocks rest are first) in
      let here : logs_from rows len (length blocks + 1) (blocks_of rest)
      ≡ Err (Inner board fault) = ap (λ (m : ℕ). logs_from rows len m (blocks_of rest))
      (sym number) ∙ block_fails board title own later fault begins inside none says in
      ap (λ (o : Option BatchFault). unless_wrong o (unless_wrong (title_fault lines) (logs_from rows len 1 (blocks_of lines)))) start
      ∙ ap (λ (o : Option BatchFault). unless_wrong o (logs_from rows len 1 (blocks_of lines))) (none_wrong lines right)
      ∙ ap (λ (ls : List NumberedLine). logs_from rows len 1 (blocks_of ls)) all
      ∙ fails_behind 1 before blocks rest (Inner board fault) are first here
  told lines (Memory e) is = absurd is

pub fault_is_the_first : FaultIsTheFirst
fault_is_the_first text rows len fault = (
  first_fault rows len (row_lines text) fault (start_fault (row_lines text)) (title_fault (row_lines text)) refl refl,
  told rows len (row_lines text) fault,
)
