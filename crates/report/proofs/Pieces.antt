-- A file read in pieces: what stands after a batch of lines of a piece, that a piece after another is
-- one piece, and that the page of all of them is the report of the file. Assumes nothing.
use Rattle.std.proofs.Common.{None, Option, Some, Err, Ok, MatchOption}
use Rattle.std.specs.Bool.{⊤}
use mathlib.Core.Path.{◌≡◌, refl, sym, ap, subst, ◌∙◌}
use mathlib.Core.Bool.{true}
use mathlib.Core.List.{List, [], ◌∷◌, ◌++◌, append-nil, append_assoc}
use Prim.Native.Nat.{ℕ, suc, ◌+◌, ◌*◌, ◌-◌, ◌/◌, ◌≤◌, ◌<◌}
use native.Mathlib.Omega.{arith}
use lib.ListN.{length, get_or, replicate, take, drop, length-append, length-drop, get_or-replicate}
use lib.Seq.{sets-eq, take_all, take_at, take-add}
use Rattle.decimal.specs.Lines.{closed}
use Rattle.table.specs.declared.Mode.{Mode}
use Rattle.table.specs.declared.Mode.TheVariants.{N, D1, D2}
use Rattle.table.specs.declared.Table.{Table}
use Rattle.table.specs.Rows.{mode_value}
use Rattle.events.specs.Answers.{charged, finished_by, cut_by}
use Rattle.table.specs.Rules.{table_keeps}
use Rattle.table.specs.Inner.{Sized}
use Rattle.table.proofs.Rules.{table_rules}
use Rattle.text.specs.Read.{read, shown}
use Rattle.text.proofs.RoundTrip.{read_keeps, read_sized}
use Rattle.events.specs.Boxes.{after_lines_in}
use Rattle.run.specs.declared.Run.{Run}
use Rattle.run.specs.declared.Finding.{Finding}
use Rattle.events.specs.declared.Event.{Event}
use Rattle.run.specs.Sound.{sound}
use Rattle.run.specs.Release.{fresh_run}
use Rattle.run.specs.Events.{after, event_of, the_box}
use Rattle.events.specs.Values.{lines_said, all_line_values}
use Rattle.run.specs.Found.{TakenTick, taken_ticks, all_found, all_told}
use Rattle.run.specs.Many.{after_lines, ticks_among, LentBoth, taken_finding, find_of}
use Rattle.run.proofs.Shape.{RunShaped, fresh_run_shaped, event_table}
use Rattle.run.proofs.Kept.{fresh_keeps}
use Rattle.events.proofs.Values.{lines_back, line_values_length}
use Rattle.run.proofs.Found.{all_told_length, all_found_length}
use Rattle.events.proofs.Boxes.{after_append}
use Rattle.run.proofs.ManyLines.{lines_keep, find_taken}
use Rattle.lines.specs.declared.Held.{Held}
use Rattle.lines.specs.declared.Cut.{Cut}
use Rattle.lines.specs.HeldLine.{line_in, held_of}
use Rattle.lines.specs.Cutting.{lines_in, left_in, last_line, taken_for, cutting, CutInto, cut_done, cut_first, cut_of}
use Rattle.lines.specs.EventLine.{event_lines}
use Rattle.lines.specs.AnswerLine.{printed, refused_fields}
use Rattle.lines.proofs.HeldLine.{held_again}
use Rattle.lines.proofs.Cutting.{lines_append, left_append, alike_lines, alike_left, cut_few, cut_long, file_lines, taken_within}
use Rattle.morning.specs.Numbers.{events_in, empty_turn, in_this_mode, longest_row, server_numbers, task_numbers, mode_number}
use Rattle.morning.specs.Page.{report_lines, morning_lines, report}
use Rattle.morning.specs.Inner.{AllFit, over_ticks, row_to}
use Rattle.morning.proofs.Numbers.{taken_append, events_append, after_lines_lem, ticks_among_lem, ticks_most}
use Rattle.morning.proofs.Numbers.{over_answers, over_lefts, discarded_taken}
use Rattle.morning.proofs.Inner.{all_fit}
use Rattle.morning.proofs.Page.{page_same}
use Rattle.report.specs.declared.count.Counts.{Counts}
use Rattle.report.specs.Inner.Count.{Counted, no_counts, TicksHanded, SomeTicks, CountedAfter}
use Rattle.report.specs.Inner.Page.{server_in, task_in, mode_in, page_in}
use Rattle.report.specs.declared.Morning.{Morning}
use Rattle.files.specs.declared.How.{How}
use Rattle.files.specs.declared.How.TheVariants.{On, End, Failed}
use borrow.Author.Rules.{rules}
use Rattle.report.specs.Pieces.{Stand, start_with, After, AfterSome, Reads, ReadsSome, ReadsAll, joined, PageOf, standing, whole}
use Rattle.text.specs.declared.ReadError.TheVariants.{Equal, Refused}
use Rattle.text.specs.TableText.{Reading}

-- the taken ticks among more lines come after those before them
ticks_join : (r : Run) (ks ls : List (Option Event)) →
    taken_ticks r (events_in (ks ++ ls)) ≡ taken_ticks r (events_in ks) ++ ticks_among (after_lines r ks) ls
ticks_join r ks ls =
    let before = taken_ticks r (events_in ks) in
    ap (taken_ticks r) (events_append ks ls) ∙ taken_append r (events_in ks) (events_in ls) ∙
    ap (λ (z : Run). before ++ taken_ticks z (events_in ls)) (sym (after_lines_lem r ks)) ∙
    ap (λ (ms : List TakenTick). before ++ ms) (sym (ticks_among_lem (after_lines r ks) ls))

-- no line changes the table
lines_table : (r : Run) (ls : List (Option Event)) → (after_lines r ls).table ≡ r.table
unfolding after_lines_in
lines_table r [] = refl
lines_table r (Some e ∷ ls) = lines_table (event_of r e).run ls ∙ event_table r e
lines_table r (None ∷ ls) = lines_table r ls

-- of some bytes, room for a line takes one at least
taken_some : (k : ℕ) (bs : List ℕ) → 0 < length bs → 0 < taken_for (suc k) bs
unfolding taken_for
taken_some k [] h = absurd (omega arith)
taken_some k (b ∷ bs) h = omega arith

-- What stands after some bytes: a sound run of the table that it began with.
module _ (t : Table) (bytes : List ℕ) (s : Stand) (a : After t bytes s) where
  after_table : s.run.table ≡ t
  after_table = ap (λ (r : Run). r.table) a.run ∙ lines_table (fresh_run t) (lines_in [] bytes)

  pub after_few : (s.run.table.nservers ≤ 32) × (s.run.table.ntasks ≤ 64)
  after_few =
      let r = table_rules t a.sized a.keeps in
      rw after_table (r.servers_high, r.tasks_high)

  after_keeps : RunShaped s.run × (sound s.run ≡ true)
  after_keeps =
      rw a.run
      (lines_keep (fresh_run t) (lines_in [] bytes) (fresh_run_shaped t a.sized) (fresh_keeps t a.sized a.keeps))

-- Pieces after pieces.
pub reads_none : (s : Stand) → Reads [] s s
reads_none s t bytes a = rw (append-nil bytes) a

pub reads_then : (p q : List ℕ) {s m z : Stand} → Reads p s m → Reads q m z → Reads (p ++ q) s z
reads_then p q f g t bytes a = rw (← append_assoc bytes p q) (g t (bytes ++ p) (f t bytes a))

pub some_then : (s m : Stand) {z : Stand} {q : List ℕ} → ReadsSome s m → Reads q m z → ReadsSome s z
some_then s m {q = q} f g = (f.0 ++ q, reads_then f.0 q f.1 g)

-- what is handed on of a file whose last read ended so
pub whole_then : (s : Stand) (how : How) (m : Morning) (counts : Counts) → ReadsSome s (standing m counts) →
    MatchOption (whole how m) ⊤ (λ x. ReadsSome s (standing x counts))
whole_then s On m counts p = search rules
whole_then s End m counts p = p
whole_then s Failed m counts p = search rules

pub some_after : (s : Stand) {z : Stand} → AfterSome s → ReadsSome s z → AfterSome z
some_after s a f = (a.0, a.1 ++ f.0, f.1 a.0 a.1 a.2)

-- Before byte `at` of a piece: the bytes before it are counted. The rooms for lines, and for what is told
-- and found of their ticks, keep their lengths.
pub record Going (s : Stand) (bytes : List ℕ) (at : ℕ) (z : Stand) (values told found : List ℕ) : Type 0 where
  pub within : at ≤ length bytes
  pub reads : Reads (take at bytes) s z
  pub table : z.run.table ≡ s.run.table
  pub lines_long : length values ≡ 2048
  pub told_long : length told ≡ 9216
  pub found_long : length found ≡ 98304

pub going_start : (s : Stand) (bytes values told found : List ℕ) → length values ≡ 2048 → length told ≡ 9216 →
    length found ≡ 98304 → Going s bytes 0 s values told found
going_start s bytes values told found lv lt lf =
    record {
      within = omega arith;
      reads = reads_none s;
      table = refl;
      lines_long = lv;
      told_long = lt;
      found_long = lf;
    }

pub going_done : {s : Stand} {bytes : List ℕ} {at : ℕ} {z : Stand} {values told found : List ℕ} →
    Going s bytes at z values told found → length bytes ≤ at → Reads bytes s z
going_done {s = s} {bytes = bytes} {at = at} {z = z} g l =
    subst (λ p. Reads p s z) (take_all at bytes l) g.reads

-- A batch: up to 1,024 lines are cut from the rest of the piece.
abbrev pub rest_of : List ℕ → ℕ → List ℕ
rest_of bytes at = take (length bytes - at) (drop at bytes)

pub record Batch (s : Stand) (bytes : List ℕ) (at : ℕ) (z : Stand) (values told found : List ℕ) (c : Cut)
    (left : List ℕ) : Type 0 where
  pub start : AfterSome s
  pub going : Going s bytes at z values told found
  pub more : at < length bytes
  pub cuts : record { cut = c; room = left } ≡ cut_of z.held (rest_of bytes at) values

module _ {s : Stand} {bytes : List ℕ} {at : ℕ} {z : Stand} {values told found : List ℕ} {c : Cut} {left : List ℕ}
    (b : Batch s bytes at z values told found c left) where
  abbrev rest : List ℕ
  rest = rest_of bytes at

  rest_is : rest ≡ drop at bytes
  rest_is = take_all (length bytes - at) (drop at bytes) (omega (arith, length-drop at bytes))

  -- the bytes that are taken, the lines that they close, and the ticks taken among these
  abbrev some : List ℕ
  some = take (taken_for 1024 rest) rest

  abbrev lines : List (Option Event)
  lines = lines_in (line_in z.held) some

  abbrev new : List TakenTick
  new = ticks_among z.run lines

  cut_is : record { cut = c; room = left } ≡ cut_done (cutting 1024 (line_in z.held) rest) values
  unfolding cut_first
  cut_is =
      let long = b.going.lines_long in
      let half : length values / 2 ≡ 1024 = omega arith in
      b.cuts ∙ sym (cut_long z.held rest values (omega arith)) ∙
      ap (λ n. cut_done (cutting n (line_in z.held) rest) values) half

  cut_eaten : c.eaten ≡ taken_for 1024 rest
  unfolding cutting
  cut_eaten = ap (λ (x : CutInto). x.cut.eaten) cut_is

  cut_held : c.held ≡ held_of (left_in (line_in z.held) some)
  unfolding cutting
  cut_held = ap (λ (x : CutInto). x.cut.held) cut_is

  cut_many : c.many ≡ length lines
  unfolding cutting
  cut_many = ap (λ (x : CutInto). x.cut.many) cut_is

  lines_few : length lines ≤ 1024
  unfolding cutting
  lines_few = cut_few 1024 (line_in z.held) rest

  cut_front : take (2 * c.many) left ≡ all_line_values lines
  unfolding cutting
  cut_front =
      let vs = all_line_values lines in
      let size = line_values_length lines in
      let fits : 0 + length vs ≤ length values = omega (arith, size, lines_few, b.going.lines_long) in
      let whole : left ≡ vs ++ drop (0 + length vs) values =
      ap (λ (x : CutInto). x.room) cut_is ∙ sets-eq vs values 0 fits in
      rw whole (take_at vs (drop (0 + length vs) values) (2 * c.many) (omega (arith, size, cut_many)))

  -- some of the bytes are taken, and no more than there are; as many lines as there is room for
  pub batch_eaten : (0 < c.eaten) × (at + c.eaten ≤ length bytes)
  batch_eaten =
      let size : length rest ≡ length bytes - at = ap length rest_is ∙ length-drop at bytes in
      let more = b.more in (
        omega (arith, cut_eaten, taken_some 1023 rest (omega (arith, size))),
        omega (arith, cut_eaten, taken_within 1024 rest, size),
      )

  pub batch_few : c.many ≤ 1024
  batch_few = omega (arith, cut_many, lines_few)

  -- the run is sound
  keeps_now : RunShaped z.run × (sound z.run ≡ true)
  keeps_now =
      let x = b.start in
      after_keeps x.0 (x.1 ++ take at bytes) z (b.going.reads x.0 x.1 x.2)

  module _ {f : Finding} {told' found' : List ℕ}
      (finds : record { finding = f; told = told'; found = found' }
      ≡ find_of z.run (take (2 * c.many) left) told found)
    where
      found_is : record { finding = f; told = told'; found = found' } ≡ taken_finding z.run lines told found
      found_is =
          let said : lines_said (take (2 * c.many) left) ≡ lines = ap lines_said cut_front ∙ lines_back lines in
          let few : length (lines_said (take (2 * c.many) left)) ≤ 1024 = rw said lines_few in
          finds ∙
          find_taken z.run (take (2 * c.many) left) told found (
            keeps_now.1,
            omega (arith, b.going.told_long),
            omega (arith, b.going.found_long),
          ) ∙
          ap (λ (ls : List (Option Event)). taken_finding z.run ls told found) said

      -- the ticks that were taken, as they are handed to the counting
      handed : (t : Table) (ahead : List ℕ) → After t ahead z →
          TicksHanded t (taken_ticks (fresh_run t) (events_in (lines_in [] ahead))) new s.run.table.nservers
          s.run.table.ntasks f.ticks told' found' z.counts
      handed t ahead a =
          let before = lines_in [] ahead in
          let old = taken_ticks (fresh_run t) (events_in before) in
          let table = sym b.going.table ∙ after_table t ahead z a in
          let few = table_rules t a.sized a.keeps in
          let now = after_table t ahead z a in
          let many : f.ticks ≡ length new = ap (λ (x : LentBoth). x.finding.ticks) found_is in
          let more-told = drop (9 * length new) told in
          let more-found = drop (96 * length new) found in
          let tells : told' ≡ all_told new ++ more-told = ap (λ (x : LentBoth). x.told) found_is in
          let shows : found' ≡ all_found t new ++ more-found =
          ap (λ (x : LentBoth). x.found) found_is ∙ ap (λ (x : Table). all_found x new ++ more-found) now in
          let told-size = all_told_length new in
          let found-size = all_found_length t new in
          let all : taken_ticks (fresh_run t) (events_in (before ++ lines)) ≡ old ++ new =
          ticks_join (fresh_run t) before lines ∙ ap (λ (r : Run). old ++ ticks_among r lines) (sym a.run) in
          record {
            rows = (ap (λ (x : Table). x.nservers) table, ap (λ (x : Table). x.ntasks) table);
            few = rw table (few.servers_high, few.tasks_high);
            many = many;
            tells = rw tells (take_at (all_told new) more-told (9 * f.ticks) (omega (arith, told-size, many)));
            told_long = rw (tells, length-append (all_told new) more-told) (omega (arith, told-size, many));
            finds = rw shows (take_at (all_found t new) more-found (96 * f.ticks) (omega (arith, found-size, many)));
            found_long = rw (shows, length-append (all_found t new) more-found) (omega (arith, found-size, many));
            fits =
                rw (ticks_among_lem z.run lines)
                (subst (λ (x : Table). AllFit x (taken_ticks z.run (events_in lines))) now
                (all_fit z.run (events_in lines) keeps_now.0 keeps_now.1));
            counted = a.counted;
            within = omega (arith, ticks_most t (events_in (before ++ lines)), ap length all, length-append old new);
          }

      pub batch_handed : SomeTicks s.run.table.nservers s.run.table.ntasks f.ticks told' found'
          z.counts
      batch_handed =
          let x = b.start in
          let ahead = x.1 ++ take at bytes in (
            x.0,
            taken_ticks (fresh_run x.0) (events_in (lines_in [] ahead)),
            new,
            handed x.0 ahead (b.going.reads x.0 x.1 x.2),
          )

      -- what stands when they are counted
      module _ {d : Counts}
          (counts : CountedAfter s.run.table.nservers s.run.table.ntasks f.ticks told' found'
          z.counts d)
        where
          abbrev stands : Stand
          stands = record { run = f.run; held = c.held; counts = d }

          batch_reads : Reads (take c.eaten rest) z stands
          batch_reads t ahead a =
              let before = lines_in [] ahead in
              let first = left_in [] ahead in
              let same : held_of first ≡ held_of (line_in z.held) =
              sym (ap (λ (h : Held). held_of (line_in h)) a.held ∙ held_again first) in
              let all : lines_in [] (ahead ++ some) ≡ before ++ lines =
              lines_append [] ahead some ∙ ap (λ x. before ++ x) (alike_lines first (line_in z.held) some same) in
              rw cut_eaten
              (record {
                run =
                    ap (λ (x : LentBoth). x.finding.run) found_is ∙
                    ap (λ (r : Run). after_lines r lines) a.run ∙ sym (after_append the_box (fresh_run t) before lines) ∙
                    sym (ap (after_lines (fresh_run t)) all);
                held =
                    cut_held ∙ sym (alike_left first (line_in z.held) some same) ∙
                    sym (ap held_of (left_append [] ahead some));
                counted =
                    rw (all, ticks_join (fresh_run t) before lines, ← a.run)
                    (counts t (taken_ticks (fresh_run t) (events_in before)) new (handed t ahead a));
                keeps = a.keeps;
                sized = a.sized;
              })

          pub batch_next : {left' told'' found'' : List ℕ} → length left' ≡ length values →
              length told'' ≡ length told → length found'' ≡ length found →
              Going s bytes (at + c.eaten) stands left' told'' found''
          batch_next lv lt lf =
              let all : take at bytes ++ take c.eaten rest ≡ take (at + c.eaten) bytes =
              ap (λ x. take at bytes ++ take c.eaten x) rest_is ∙ sym (take-add at c.eaten bytes) in
              record {
                within = batch_eaten.1;
                reads =
                    subst (λ p. Reads p s stands) all
                    (reads_then (take at bytes) (take c.eaten rest) b.going.reads batch_reads);
                table =
                    ap (λ (x : LentBoth). x.finding.run.table) found_is ∙ lines_table z.run lines ∙
                    b.going.table;
                lines_long = lv ∙ b.going.lines_long;
                told_long = lt ∙ b.going.told_long;
                found_long = lf ∙ b.going.found_long;
              }

-- Columns that hold the numbers of a night's taken ticks give the page of the night.
module _ (r : Run) (es : List Event) (c : Counts) (k : Counted r.table (taken_ticks r es) c) where
  server_same : (i : ℕ) → i < r.table.nservers → server_in c i ≡ server_numbers r es i
  server_same i l =
      rw (
        k.charged i l,
        k.empty i l,
        k.longest i l,
        over_answers (λ a. charged a.turn i) r es,
        over_answers (λ a. empty_turn a.turn i) r es,
      )

  task_same : (i : ℕ) → i < r.table.ntasks → task_in c (after r es).state.waiting i ≡ task_numbers r es i
  task_same i l =
      rw (
        k.finished i l,
        k.cut i l,
        k.discarded i l,
        over_lefts (λ x. finished_by x i) r es,
        over_lefts (λ x. cut_by x i) r es,
        discarded_taken r es i,
      )

  mode_same : (m : Mode) → mode_in c.modes m ≡ mode_number r es m
  mode_same m = k.modes m ∙ sym (over_answers (λ a. in_this_mode m a.mode) r es)

counted_page : (t : Table) (r : Run) (es : List Event) (c : Counts) (waiting : List ℕ) →
    Counted t (taken_ticks r es) c → r.table ≡ t → waiting ≡ (after r es).state.waiting →
    page_in t.nservers t.ntasks c waiting ≡ report_lines r es
counted_page t r es c waiting k e w = rw (← e, w) (same (rw (← e) at k))
  where
    same : Counted r.table (taken_ticks r es) c →
        page_in r.table.nservers r.table.ntasks c (after r es).state.waiting ≡ report_lines r es
    same k =
        page_same
        r.table.nservers
        r.table.ntasks
        (server_in c)
        (server_numbers r es)
        (task_in c (after r es).state.waiting)
        (task_numbers r es)
        (mode_in c.modes)
        (mode_number r es)
        (server_same r es c k)
        (task_same r es c k)
        (mode_same r es c k)

-- Columns of zeros hold the numbers of no tick.
counted_none : (t : Table) → t.nservers ≤ 32 → t.ntasks ≤ 64 → Counted t [] no_counts
unfolding over_ticks row_to longest_row
counted_none t few many =
    record {
      columns =
          record {
            charged = refl;
            empty = refl;
            row = refl;
            longest = refl;
            finished = refl;
            cut = refl;
            discarded = refl;
            modes = refl;
          };
      charged = λ i l. get_or-replicate {A = ℕ} 32 i 0 0 (omega arith);
      empty = λ i l. get_or-replicate {A = ℕ} 32 i 0 0 (omega arith);
      row = λ i l. get_or-replicate {A = ℕ} 32 i 0 0 (omega arith);
      longest = λ i l. get_or-replicate {A = ℕ} 32 i 0 0 (omega arith);
      finished = λ k l. get_or-replicate {A = ℕ} 64 k 0 0 (omega arith);
      cut = λ k l. get_or-replicate {A = ℕ} 64 k 0 0 (omega arith);
      discarded = λ k l. get_or-replicate {A = ℕ} 64 k 0 0 (omega arith);
      small = λ k l. omega (arith, get_or-replicate {A = ℕ} 64 k 0 0 (omega arith));
      modes = none;
    }
  where
    none : (m : Mode) → get_or {A = ℕ} (replicate 3 0) (mode_value m) 0 ≡ 0
    none N = refl
    none D1 = refl
    none D2 = refl

-- The page of what stands: an unclosed last line is no event.
last_none : (l : List ℕ) → events_in (last_line l) ≡ []
unfolding events_in
last_none [] = refl
last_none (b ∷ l) = refl

file_events : (file : List ℕ) → events_in (lines_in [] file) ≡ events_in (event_lines file)
file_events file =
    let ls = lines_in [] file in
    let last = last_line (left_in [] file) in
    sym (append-nil (events_in ls)) ∙ ap (λ (es : List Event). events_in ls ++ es) (sym (last_none (left_in [] file))) ∙
    sym (events_append ls last) ∙ ap events_in (file_lines file)

pub page_of : (s : Stand) (text : List ℕ) →
    text
    ≡ closed (page_in s.run.table.nservers s.run.table.ntasks s.counts s.run.state.waiting) →
    PageOf s text
page_of s text e t file a =
    let es = events_in (lines_in [] file) in
    let waits = ap (λ (r : Run). r.state.waiting) (a.run ∙ after_lines_lem (fresh_run t) (lines_in [] file)) in
    e ∙
    ap
    (λ (x : Table).
    closed (page_in x.nservers x.ntasks s.counts s.run.state.waiting))
    (after_table t file s a) ∙
    ap closed
    (counted_page t (fresh_run t) es s.counts s.run.state.waiting a.counted refl waits) ∙
    ap (λ (x : List Event). closed (report_lines (fresh_run t) x)) (file_events file)

-- A file read in any pieces: the page is the report of the file.
pub start_after : (t : Table) → Sized t → table_keeps t ≡ true → After t [] (start_with t)
unfolding lines_in left_in after_lines_in taken_ticks events_in
start_after t z k =
    let r = table_rules t z k in
    record {
      run = refl;
      held = refl;
      counted = counted_none t r.servers_high r.tasks_high;
      keeps = k;
      sized = z;
    }

reads_all : (ps : List (List ℕ)) (s z : Stand) → ReadsAll ps s z → Reads (joined ps) s z
unfolding ReadsAll joined
reads_all [] s z e = subst (Reads [] s) e (reads_none s)
reads_all (p ∷ ps) s z (m, (f, g)) = reads_then p (joined ps) f (reads_all ps m z g)

pub pieces_report : (table : List ℕ) (ps : List (List ℕ)) (z : Stand) (text : List ℕ) →
    (shown (read table)).answer ≡ Ok tt → ReadsAll ps (start_with (shown (read table)).table) z → PageOf z text →
    text ≡ report table (joined ps)
unfolding report morning_lines
pieces_report table ps z text e r p =
    let t = (shown (read table)).table in
    let a = start_after t (read_sized table e) (read_keeps table e) in
    rw e (p t (joined ps) (reads_all ps (start_with t) z r t [] a))

-- a table that is refused prints its one line
pub refused_report : (table events : List ℕ) (a : Reading) → (shown (read table)).answer ≡ a → (a ≡ Ok tt → ⊥) →
    report table events ≡ closed (printed (refused_fields a) ∷ [])
unfolding report morning_lines
refused_report table events (Ok tt) e n = absurd (n refl)
refused_report table events (Err (Refused why line field)) e n = rw e
refused_report table events (Err (Equal first second)) e n = rw e
