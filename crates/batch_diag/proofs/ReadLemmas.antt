-- Lemmas about blocks that are read in turn or in pieces. The answer for blocks is the blocks with their logs, or the first fault.
use Rattle.std.proofs.Common.{◌≡◌, ℕ, ◌+◌, ◌-◌, ◌<◌, ◌≤◌, Bool, true, false, cond, Option, Some, None, Result, Ok, Err, List, [], ◌∷◌, ◌++◌, length, length-drop, suc, map, take, drop, refl, sym, ap, ◌∙◌, subst, arith, append_assoc, append-nil}
use Rattle.std.specs.Prelude.{IfSome, alloc_error, slice_get}
use Rattle.std.proofs.lemmas.List.{length-map, length-take-le, length_push, map-append}
use Rattle.std.proofs.lemmas.List.Elements.{All-nil, All-append}
use Rattle.std.proofs.lemmas.Option.{IfSome_then, get_or_from_slice_get, slice_get_within}
use Rattle.answers.specs.Gives.{Gives}
use Rattle.text_lines.specs.Words.{Word}
use Rattle.response_log.specs.LogRows.{HasSize, NumberedLine, rows_of_lines, LogAnswer}
use Rattle.batch_diag.specs.declared.block.Block.{Block}
use Rattle.batch_diag.specs.declared.fault.BatchFault.{BatchFault}
use Rattle.batch_diag.specs.declared.fault.BatchFault.TheVariants.{Start, Title as WrongTitle, Inner, Memory}
use Rattle.batch_diag.specs.declared.lines.Title.{Title}
use Rattle.batch_diag.specs.declared.unread.UnreadBlock.{UnreadBlock}
use Rattle.batch_diag.specs.declared.unread.Reading.{Reading}
use Rattle.batch_diag.specs.Batch.{BatchAnswer, BlockLines, begins_block, is_wrong_title, start_fault, title_fault, IsOfLines, block_then, blocks_of, logs_from, onto, unless_wrong, up_to_title, batch_told}
use Rattle.batch_diag.specs.inner.Cutting.{rows_from, blocks_at, in_block}
use Rattle.batch_diag.specs.inner.Reading.{AreBlocksRead, lines_of_unread, said_between, said_of}
use Rattle.side_by_side.specs.declared.pieces.Piece.{Piece}
use Rattle.side_by_side.specs.Pieces.{GivesTogether, then_later, items_between, piece_of, piece_start, said_then, seen_list}
use Rattle.side_by_side.proofs.PieceLemmas.{IsOfRanges, of_pieces}
use Rattle.side_by_side.proofs.RangeLemmas.{range_sum, range_none, range_one, range_whole}

after_none : (answer : BatchAnswer) → then_later [] answer ≡ answer
after_none (Ok blocks) = refl
after_none (Err fault) = refl

after_onto : (blocks : List Block) (block : Block) (later : BatchAnswer)
    → then_later blocks (onto block later) ≡ then_later (blocks ++ block ∷ []) later
after_onto blocks block (Ok later) = ap Ok (sym (append_assoc blocks (block ∷ []) later))
after_onto blocks block (Err fault) = refl

-- The measure of the loop over the titles. It is 0 if there is no next title, and it gets smaller in each step.
abbrev pub titles_left : Option Title → ℕ
titles_left None = 0
titles_left (Some title) = 1 + length title.behind.now

block_holds : (id : Word) (board n : ℕ) (said : LogAnswer) (log : List (List Bool))
    (later : BatchAnswer) → in_block n said ≡ Ok log
    → block_then id board said later ≡ onto (record { id = id; log = log }) later
block_holds id board n (Ok here) log later is =
    let same : here ≡ log = cc in
    ap (λ (l : List (List Bool)). onto (record { id = id; log = l }) later) same
block_holds id board n (Err fault) log later is = absurd cc

block_fails : (id : Word) (board : ℕ) (said : LogAnswer) (fault : BatchFault) (later : BatchAnswer)
    → in_block board said ≡ Err fault → block_then id board said later ≡ Err fault
block_fails id board (Ok log) fault later is = absurd cc
block_fails id board (Err inner) fault later is = cc

then_onto : (block : Block) (said later : BatchAnswer) → onto block (said_then said later) ≡ said_then (onto block said) later
then_onto block (Ok blocks) (Ok later) = refl
then_onto block (Ok blocks) (Err fault) = refl
then_onto block (Err fault) later = refl

then_block : (id : Word) (board : ℕ) (log : LogAnswer) (said later : BatchAnswer)
    → block_then id board log (said_then said later)
    ≡ said_then (block_then id board log said) later
then_block id board (Ok log) said later = then_onto (record { id = id; log = log }) said later
then_block id board (Err fault) said later = refl

logs_append : (rows len n : ℕ) (xs ys : List BlockLines)
    → logs_from rows len n (xs ++ ys)
    ≡ said_then (logs_from rows len n xs) (logs_from rows len (n + length xs) ys)
logs_append rows len n [] ys = sym (after_none (logs_from rows len (n + 0) ys) ∙ ap (λ (k : ℕ). logs_from rows len k ys) (omega arith))
logs_append rows len n (x ∷ xs) ys =
    let number : n + 1 + length xs ≡ n + suc (length xs) = omega arith in
    ap (λ (said : BatchAnswer). block_then x.id n (rows_of_lines rows len x.lines) said) (logs_append rows len (n + 1) xs ys)
    ∙ then_block x.id n (rows_of_lines rows len x.lines) (logs_from rows len (n + 1) xs) (logs_from rows len (n + 1 + length xs) ys)
    ∙ ap
    (λ (k : ℕ). said_then
    (block_then x.id n (rows_of_lines rows len x.lines) (logs_from rows len (n + 1) xs))
    (logs_from rows len k ys)) number

-- Lemmas which say that the answer for all blocks follows from the answers for a first and a later part of the blocks.
module _ {V : Type 0} (view : V → List Block) (rows len : ℕ) (said later : BatchAnswer) where
  pub read_first : (fault : BatchFault) → IfSome (batch_told fault) (λ f. said ≡ Err f)
      → IfSome (batch_told fault) (λ f. said_then said later ≡ Err f)
  read_first fault fails = IfSome_then (batch_told fault) fails (λ f is. ap (λ (s : BatchAnswer). said_then s later) is)

  pub read_later : (blocks : List Block) (fault : BatchFault) → said ≡ Ok blocks
      → IfSome (batch_told fault) (λ f. later ≡ Err f)
      → IfSome (batch_told fault) (λ f. said_then said later ≡ Err f)
  read_later blocks fault is fails =
      IfSome_then (batch_told fault) fails
      (λ f bad. ap (λ (s : BatchAnswer). said_then s later) is ∙ ap (then_later blocks) bad)

  pub read_whole : (blocks more all : List Block) → said ≡ Ok blocks → later ≡ Ok more
      → all ≡ blocks ++ more → said_then said later ≡ Ok all
  read_whole blocks more all is is_more sum =
      ap (λ (s : BatchAnswer). said_then s later) is ∙ ap (then_later blocks) is_more
      ∙ ap Ok (sym sum)

-- Lemmas about the answers for ranges of the blocks of a reading.
module _ (r : Reading) where
  said_number : (from middle to : ℕ) → from ≤ middle → middle ≤ to → to ≤ length r.unread.items
      → said_between r from to ≡ said_then (said_between r from middle) (said_between r middle to)
  said_number from middle to low high within =
      let first = map lines_of_unread (items_between r.unread.items from middle) in
      let second = map lines_of_unread (items_between r.unread.items middle to) in
      let count : length first ≡ middle - from =
      length-map (take (middle - from) (drop from r.unread.items)) lines_of_unread
      ∙ length-take-le (middle - from) (drop from r.unread.items)
      (omega (arith, length-drop from r.unread.items)) in
      let number : from + 1 + length first ≡ middle + 1 = omega (arith, count) in
      ap (λ (l : List BlockLines). logs_from r.rows r.len (from + 1) l)
      (ap (map lines_of_unread) (range_sum r.unread.items from middle to low high)
      ∙ map-append lines_of_unread (items_between r.unread.items from middle)
      (items_between r.unread.items middle to))
      ∙ logs_append r.rows r.len (from + 1) first second
      ∙ ap (λ (n : ℕ). said_then (said_between r from middle) (logs_from r.rows r.len n second)) number

  said_nothing : (i : ℕ) → said_between r i i ≡ Ok []
  said_nothing i = ap (λ (l : List UnreadBlock). logs_from r.rows r.len (i + 1) (map lines_of_unread l)) (range_none r.unread.items i)

  pub read_start : (from : ℕ) (none : List Block) → none ≡ [] → said_between r from from ≡ Ok none
  read_start from none is = said_nothing from ∙ ap Ok (sym is)

  module _ (i : ℕ) (block : UnreadBlock) (at : slice_get r.unread.items i ≡ Some block) where
    less : i < length r.unread.items
    less = slice_get_within r.unread.items i block at

    abbrev own : LogAnswer
    own = rows_of_lines r.rows r.len (rows_from (block.line + 1) block.own.now)

    said_one : said_between r i (i + 1) ≡ block_then block.id.now (i + 1) own (Ok [])
    said_one =
        ap (λ (l : List UnreadBlock). logs_from r.rows r.len (i + 1) (map lines_of_unread l))
        (range_one r.unread.items i block less
        (sym (get_or_from_slice_get r.unread.items i block block at)))

    pub read_more : (from board : ℕ) (found more : List Block) (read : Block) → from ≤ i
        → said_between r from i ≡ Ok found → read.id ≡ block.id.now
        → in_block board own ≡ Ok read.log → more ≡ found ++ read ∷ []
        → said_between r from (i + 1) ≡ Ok more
    read_more from board found more read low said id log sum =
        said_number from i (i + 1) low (omega arith) (omega (arith, less))
        ∙ read_whole (λ (l : List Block). l) r.rows r.len (said_between r from i) (said_between r i (i + 1)) found (read ∷ []) more said
        (said_one ∙ block_holds block.id.now (i + 1) board own read.log (Ok []) log
        ∙ ap (λ (word : Word). Ok (record { id = word; log = read.log } ∷ [])) (sym id)) sum

    -- if blocks `from..i` are read without a fault, and block `i` holds no log, the answer for blocks `from..to` is the fault of block `i`
    pub read_none : (from to : ℕ) (found : List Block) (fault : BatchFault) → from ≤ i → i < to
        → to ≤ length r.unread.items → said_between r from i ≡ Ok found
        → IfSome (batch_told fault) (λ f. in_block (i + 1) own ≡ Err f)
        → IfSome (batch_told fault) (λ f. said_between r from to ≡ Err f)
    read_none from to found fault low high within said fails =
        IfSome_then (batch_told fault) fails (λ f bad.
        said_number from i to low (omega (arith, high)) within
        ∙ ap (λ (s : BatchAnswer). said_then s (said_between r i to)) said
        ∙ ap (then_later found) (said_number i (i + 1) to (omega arith) (omega (arith, high)) within
        ∙ ap (λ (s : BatchAnswer). said_then s (said_between r (i + 1) to))
        (said_one ∙ block_fails block.id.now (i + 1) own f (Ok []) bad)))

  pub read_end : (from i end : ℕ) (found : List Block) → i ≡ end → said_between r from i ≡ Ok found → said_between r from end ≡ Ok found
  read_end from i end found same said = ap (λ (n : ℕ). said_between r from n) (sym same) ∙ said

  -- `said` is a correct result of reading blocks `from..to`
  abbrev ReadBetween : ℕ → ℕ → BatchAnswer → Type 0
  ReadBetween from to said = AreBlocksRead (λ (l : List Block). l) r.rows r.len (said_between r from to) said

  abbrev Sized : Block → Type 0
  Sized block = HasSize r.rows r.len block.log

  read_ranges : IsOfRanges (length r.unread.items) ReadBetween
  read_ranges = record {
    nothing = λ i. (said_nothing i, All-nil Sized, tt);
    both = λ from middle to said later low high within first second.
        subst
        (λ (s : BatchAnswer). AreBlocksRead (λ (l : List Block). l) r.rows r.len s
        (said_then said later)) (sym (said_number from middle to low high within))
        (both from middle to said later first second);
  }
    where
      both : (from middle to : ℕ) (said later : BatchAnswer) → ReadBetween from middle said
          → ReadBetween middle to later
          → AreBlocksRead (λ (l : List Block). l) r.rows r.len
          (said_then (said_between r from middle) (said_between r middle to))
          (said_then said later)
      both from middle to (Ok blocks) (Ok more) first second = (
        read_whole (λ (l : List Block). l) r.rows r.len (said_between r from middle)
            (said_between r middle to) blocks more (blocks ++ more) first.0 second.0 refl,
        All-append Sized blocks more first.1 second.1,
        tt,
      )
      both from middle to (Ok blocks) (Err fault) first second = (
        read_later (λ (l : List Block). l) r.rows r.len (said_between r from middle)
            (said_between r middle to) blocks fault first.0 second.0,
        tt,
        second.2,
      )
      both from middle to (Err fault) later first second = (
        read_first (λ (l : List Block). l) r.rows r.len (said_between r from middle)
            (said_between r middle to) fault first.0,
        tt,
        first.2,
      )

  read_refused : (from to : ℕ) (fault : BatchFault) → fault ≡ Memory alloc_error → ReadBetween from to (Err fault)
  read_refused from to fault is = subst (λ (f : BatchFault). ReadBetween from to (Err f)) (sym is) (tt, tt, tt)

  module _ {V : Type 0} (view : V → List Block) where
    read_seen : (from to : ℕ) (answer : Result V BatchFault)
        → AreBlocksRead view r.rows r.len (said_between r from to) answer
        → ReadBetween from to (seen_list view answer)
    read_seen from to (Ok v) read = read
    read_seen from to (Err fault) read = read

    seen_read : (answer : Result V BatchFault)
        → AreBlocksRead (λ (l : List Block). l) r.rows r.len (said_of r) (seen_list view answer)
        → AreBlocksRead view r.rows r.len (said_of r) answer
    seen_read (Ok v) read = read
    seen_read (Err fault) read = read

    all_said : said_between r 0 (length r.unread.items) ≡ said_of r
    all_said = ap (λ (l : List UnreadBlock). logs_from r.rows r.len 1 (map lines_of_unread l)) (range_whole r.unread.items)

    read_all : (answer : Result V BatchFault)
        → ReadBetween 0 (length r.unread.items) (seen_list view answer)
        → AreBlocksRead view r.rows r.len (said_of r) answer
    read_all answer read =
        seen_read answer
        (subst
        (λ (s : BatchAnswer). AreBlocksRead (λ (l : List Block). l) r.rows r.len s
        (seen_list view answer)) all_said read)

    -- if the result of each piece is correct for the piece's blocks, the joined result is correct for the reading
    pub read_of_pieces : (items pieces : ℕ) → 0 < pieces → items ≡ length r.unread.items
        → (Gives : Piece → Result V BatchFault → Type 0) (result : Result V BatchFault)
        → GivesTogether view Gives (λ fault. fault ≡ Memory alloc_error) items pieces result →
        ((number : ℕ) (answer : Result V BatchFault) → Gives (piece_of items pieces number) answer
        → AreBlocksRead view r.rows r.len
        (said_between r (piece_start items pieces number)
        (piece_start items pieces (number + 1))) answer) →
        AreBlocksRead view r.rows r.len (said_of r) result
    read_of_pieces items pieces some count Gives result gives each =
        read_all result
        (subst (λ (n : ℕ). ReadBetween 0 n (seen_list view result)) count
        (of_pieces items ReadBetween view pieces some
        (subst (λ (n : ℕ). IsOfRanges n ReadBetween) (sym count) read_ranges) Gives
        (λ fault. fault ≡ Memory alloc_error) result
        (λ number answer within read. read_seen (piece_start items pieces number)
        (piece_start items pieces (number + 1)) answer (each number answer read))
        (λ fault refused. read_refused 0 items fault refused) gives))

    pub read_end_all : (end : ℕ) (answer : Result V BatchFault) → end ≡ length r.unread.items
        → AreBlocksRead view r.rows r.len (said_between r 0 end) answer
        → AreBlocksRead view r.rows r.len (said_of r) answer
    read_end_all end answer is read =
        subst (λ (s : BatchAnswer). AreBlocksRead view r.rows r.len s answer) (ap (λ (n : ℕ). said_between r 0 n) is ∙ all_said) read

    pub read_text : (rows len : ℕ) (said : BatchAnswer) (answer : Result V BatchFault)
        → said ≡ said_of r → r.rows ≡ rows → r.len ≡ len
        → AreBlocksRead view r.rows r.len (said_of r) answer
        → AreBlocksRead view rows len said answer
    read_text rows len said answer is same_rows same_len read =
        subst (λ (n : ℕ). AreBlocksRead view rows n said answer) same_len
        (subst (λ (n : ℕ). AreBlocksRead view n r.len said answer) same_rows
        (subst (λ (s : BatchAnswer). AreBlocksRead view r.rows r.len s answer) (sym is) read))

-- One step of the loop over the titles: the block of the title `next` is appended to `unread`. The blocks of the text are still those in
-- `unread`, followed by the blocks from the next title on.
pub cut_more : (lines : List BlockLines) (unread : List UnreadBlock) (next following : Option Title)
    (title : Title) (own : List ℕ) (block : UnreadBlock) → next ≡ Some title
    → lines ≡ map lines_of_unread unread ++ blocks_at next →
    up_to_title (rows_from (title.line + 1) title.behind.now) ≡ rows_from (title.line + 1) own
    → blocks_of (rows_from (title.line + 1) title.behind.now) ≡ blocks_at following →
    lines_of_unread block ≡ record { id = title.id.now; lines = rows_from (title.line + 1) own }
    → lines ≡ map lines_of_unread (unread ++ block ∷ []) ++ blocks_at following
cut_more lines unread next following title own block is now here later same =
    now ∙ ap (λ (o : Option Title). map lines_of_unread unread ++ blocks_at o) is
    ∙ ap
    (λ (ls : List NumberedLine). map lines_of_unread unread
    ++ block_and title.id.now ls (blocks_of (rows_from (title.line + 1) title.behind.now))) here
    ∙ ap (λ (bs : List BlockLines). map lines_of_unread unread ++ block_and title.id.now (rows_from (title.line + 1) own) bs) later
    ∙ ap (λ (b : BlockLines). map lines_of_unread unread ++ (b ∷ blocks_at following)) (sym same)
    ∙ sym (append_assoc (map lines_of_unread unread) (lines_of_unread block ∷ []) (blocks_at following))
    ∙ ap (λ (l : List BlockLines). l ++ blocks_at following) (sym (map-append lines_of_unread unread (block ∷ [])))
  where
    block_and : Word → List NumberedLine → List BlockLines → List BlockLines
    block_and id ls bs = record { id = id; lines = ls } ∷ bs

pub cut_all : (lines : List BlockLines) (unread : List UnreadBlock) (next : Option Title)
    → next ≡ None → lines ≡ map lines_of_unread unread ++ blocks_at next
    → lines ≡ map lines_of_unread unread
cut_all lines unread next is now =
    now ∙ ap (λ (o : Option Title). map lines_of_unread unread ++ blocks_at o) is
    ∙ append-nil (map lines_of_unread unread)

pub start_of_lines : (lines : List NumberedLine) (fault : BatchFault) → start_fault lines ≡ Some fault → IsOfLines fault
start_of_lines [] fault is = absurd cc
start_of_lines (line ∷ lines) fault is = by_test (begins_block line) is
  where
    by_test : (t : Bool) → cond t None (Some (Start line.number)) ≡ Some fault → IsOfLines fault
    by_test true is = absurd cc
    by_test false is = let same : Start line.number ≡ fault = cc in subst IsOfLines same tt

title_here : (t : Bool) (n : ℕ) (later : Option BatchFault) (fault : BatchFault)
    → cond t (Some (WrongTitle n)) later ≡ Some fault → (later ≡ Some fault → IsOfLines fault)
    → IsOfLines fault
title_here true n later fault is below = let same : WrongTitle n ≡ fault = cc in subst IsOfLines same tt
title_here false n later fault is below = below is

pub title_of_lines : (lines : List NumberedLine) (fault : BatchFault) → title_fault lines ≡ Some fault → IsOfLines fault
title_of_lines [] fault is = absurd cc
title_of_lines (line ∷ lines) fault is =
    title_here (is_wrong_title line) line.number (title_fault lines) fault is
    (title_of_lines lines fault)

pub unless_start : (start title : Option BatchFault) (said : BatchAnswer) (fault : BatchFault)
    → start ≡ Some fault
    → IfSome (batch_told fault) (λ f. unless_wrong start (unless_wrong title said) ≡ Err f)
unless_start start title said (Start n) is = ap (λ (o : Option BatchFault). unless_wrong o (unless_wrong title said)) is
unless_start start title said (WrongTitle n) is = ap (λ (o : Option BatchFault). unless_wrong o (unless_wrong title said)) is
unless_start start title said (Inner board fault) is = ap (λ (o : Option BatchFault). unless_wrong o (unless_wrong title said)) is
unless_start start title said (Memory e) is = tt

pub unless_title : (start title : Option BatchFault) (said : BatchAnswer) (fault : BatchFault)
    → start ≡ None → title ≡ Some fault
    → IfSome (batch_told fault) (λ f. unless_wrong start (unless_wrong title said) ≡ Err f)
unless_title start title said fault none is =
    IfSome_then (batch_told fault) (unless_start title None said fault is)
    (λ f fails. ap (λ (o : Option BatchFault). unless_wrong o (unless_wrong title said)) none
    ∙ fails)

pub unless_none : {V : Type 0} (view : V → List Block) (result : Result V BatchFault)
    (start title : Option BatchFault) (said : BatchAnswer) → start ≡ None → title ≡ None
    → Gives batch_told view (λ answer. said ≡ answer) result
    → Gives batch_told view (λ answer. unless_wrong start (unless_wrong title said) ≡ answer) result
unless_none view result start title said no_start no_title gives =
    let same : unless_wrong start (unless_wrong title said)
    ≡ said = ap (λ (o : Option BatchFault). unless_wrong o (unless_wrong title said)) no_start
    ∙ ap (λ (o : Option BatchFault). unless_wrong o said) no_title in
    subst (λ (s : BatchAnswer). Gives batch_told view (λ answer. s ≡ answer) result) (sym same) gives

pub unread_said : (rows len : ℕ) (start title : Option BatchFault) (lines blocks : List BlockLines)
    → start ≡ None → title ≡ None → lines ≡ blocks
    → unless_wrong start (unless_wrong title (logs_from rows len 1 lines))
    ≡ logs_from rows len 1 blocks
unread_said rows len start title lines blocks no_start no_title same =
    ap (λ (o : Option BatchFault). unless_wrong o (unless_wrong title (logs_from rows len 1 lines)))
    no_start
    ∙ ap (λ (o : Option BatchFault). unless_wrong o (logs_from rows len 1 lines)) no_title
    ∙ ap (logs_from rows len 1) same

-- one step of the loop over the titles: the number of blocks stays below the line number of the next title
pub next_count : (following : Option Title) (blocks : List UnreadBlock) (block : UnreadBlock)
    (line : ℕ) → length blocks < line → IfSome following (λ title. line + 1 ≤ title.line)
    → IfSome following (λ title. length (blocks ++ block ∷ []) < title.line)
next_count None blocks block line less later = tt
next_count (Some title) blocks block line less later = omega (arith, less, later, length_push blocks block)

pub next_place : (following : Option Title) (line behind all : ℕ) → line + behind ≤ all
    → IfSome following (λ title. title.line + length title.behind.now + 1 ≤ line + 1 + behind)
    → IfSome following (λ title. title.line + length title.behind.now ≤ all)
next_place None line behind all within place = tt
next_place (Some title) line behind all within place = omega arith
