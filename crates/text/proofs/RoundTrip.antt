-- 01, Tables: "Writing then reading gives the same table. Reading then writing gives the same text
-- exactly when each task time was whole ticks." 02, No. 7: it "also asks that no phase 0 was
-- written". Text and lines are inverse, and so are lines and rows, but for task times that are
-- rounded up and a phase 0 that is left out. The statements to quote stand at the end. Assumes
-- nothing.
use Rattle.std.proofs.Common.{Ok}
use mathlib.Core.Path.{◌≡◌, refl, sym, ap, subst, ◌∙◌}
use mathlib.Core.Bool.{Bool, true}
use mathlib.Core.List.{List, [], ◌∷◌, ◌++◌, map, append_cancel_right}
use mathlib.Core.Logic.{◌↔◌}
use Prim.Native.Nat.{ℕ, suc, ◌+◌, ◌-◌, ◌≤◌, ◌<◌}
use native.Mathlib.Omega.{arith}
use lib.ListN.{length, replicate, length-append, length-map, length-replicate}
use lib.Seq.{take-append_seam}
use borrow.Author.Tests.{le-leb}
use Rattle.std.proofs.lemmas.Bool.{and_from}
use Rattle.std.specs.Cmp.{first_so, second_so}
use Rattle.laws.proofs.Choice.{is_within}
use Rattle.decimal.specs.Lines.{line_feed, split, closed, same}
use Rattle.decimal.proofs.Lines.{AllUpTo, closed_length, lacks, all_lack, split_closed, closed_split}
use Rattle.table.specs.declared.Table.{Table}
use Rattle.table.specs.Rows.{Rows, rows_of, padded, table_of, no_server, no_task}
use Rattle.table.specs.Rules.{keeps, table_keeps}
use Rattle.table.specs.Inner.{Sized}
use Rattle.table.proofs.Rules.{rows_keep as table-rows-keep}
use Rattle.text.specs.declared.Line.{Line}
use Rattle.text.specs.declared.Line.TheVariants.{OfTick, OfServer, OfTask, Malformed}
use Rattle.text.specs.Words.{tick_word, server_word, task_word}
use Rattle.text.specs.Line.{no_line, read_line, write_line}
use Rattle.text.specs.Read.{taken, read, shown}
use Rattle.text.specs.Allowed.{Allowed}
use Rattle.text.specs.Write.{wrote, written, server_back, task_back, server_lines, task_lines, lines_of, write, task_times_whole, all_lines, times_whole, phase_not_zero, no_phase_zero}
use Rattle.text.proofs.Lines.{Writable, Formed, no_fields_lem, line_lacks, read_write_line, write_read_line, line_length}
use Rattle.text.proofs.Ticks.{rounded, whole_stays, stays_whole, stays_phase}
use Rattle.text.proofs.Allowed.{AllWritable, Told, told, RowsKeep, good_keeps, keeps_rows, lines_taken, lines_grown}
use Rattle.text.proofs.Allowed.{allowed_taken, taken_allowed}

-- all lines at once
lines_lack : (xs : List Line) → all_lack line_feed (map write_line xs) ≡ true
unfolding all_lack
lines_lack [] = refl
lines_lack (x ∷ xs) =
    and_from (lacks line_feed (write_line x)) (all_lack line_feed (map write_line xs)) (line_lacks x) (lines_lack xs)

read_written : (xs : List Line) → AllWritable xs → map read_line (map write_line xs) ≡ xs
read_written [] w = refl
read_written (x ∷ xs) w = rw (read_write_line x w.0, read_written xs w.1)

lines_length : (xs : List Line) → AllWritable xs → AllUpTo 108 (map write_line xs)
lines_length [] w = tt
lines_length (x ∷ xs) w = (line_length x w.0, lines_length xs w.1)

formed : (l : Line) → Writable l → Formed l
formed (OfTick t) w = tt
formed (OfServer s) w = tt
formed (OfTask k) w = tt
formed (Malformed word field) w = w

written_read : (ls : List (List ℕ)) → AllWritable (map read_line ls) → map write_line (map read_line ls) ≡ ls
written_read [] w = refl
written_read (l ∷ ls) w = rw (write_read_line l (formed (read_line l) w.0), written_read ls w.1)

-- Rows that keep the rules: what is known of their lines.
lines_told : (a : Rows) → RowsKeep a → Told (lines_of a)
lines_told a k =
    told (lines_of a) (lines_taken a k) (rw (lines_grown a k) k.tasks_low)

lines_many : (a : Rows) → length (lines_of a) ≡ suc (length a.servers + length a.tasks)
unfolding lines_of server_lines task_lines
lines_many a =
    rw (
      length-append (server_lines a.tick.0 a.servers) (task_lines a.tick.0 a.tasks),
      length-map a.servers (λ s. OfServer (server_back a.tick.0 s)),
      length-map a.tasks (λ k. OfTask (task_back a.tick.0 k)),
    )

pub rows_fit : (a : Rows) → keeps a ≡ true → length (write a) ≤ 10573
unfolding write
rows_fit a e =
    let k = keeps_rows a e in
    omega (
      arith,
      closed_length 108 (map write_line (lines_of a)) (lines_length (lines_of a) (lines_told a k).writable),
      length-map (lines_of a) write_line,
      lines_many a,
      k.good.servers_high,
      k.good.tasks_high,
    )

pub rows_back : (a : Rows) → keeps a ≡ true → read (write a) ≡ taken a
unfolding write
rows_back a e =
    let k = keeps_rows a e in
    let r = read_written (lines_of a) (lines_told a k).writable in
    allowed_taken (write a) a
    (record {
      short = omega (arith, rows_fit a e);
      lines = map write_line (lines_of a);
      closes = split_closed (map write_line (lines_of a)) (lines_lack (lines_of a));
      kept = rw r (lines_taken a k);
      rows = rw r (lines_grown a k);
      task = k.tasks_low;
      servers_differ = k.servers_differ;
      tasks_differ = k.tasks_differ;
    })

pub rows_keep : (text : List ℕ) → (read text).answer ≡ Ok tt → keeps (read text).rows ≡ true
rows_keep text e =
    let w = taken_allowed text e in
    let d = told (map read_line w.lines) w.kept (rw w.rows w.task) in
    good_keeps (read text).rows (rw w.rows at d.good) w.task w.servers_differ w.tasks_differ

-- Which lines stay as they stand: those whose task times are whole ticks, and without a phase 0.
-- Nothing stands after the last line feed.
pub nothing_said : read_line [] ≡ no_line
unfolding read_line split same tick_word server_word task_word
nothing_said = no_fields_lem []

whole_stay : (t : ℕ) → 0 < t → (ls : List (List ℕ)) → all_lines (task_times_whole t) (ls ++ ([] ∷ [])) ≡ true →
    all_lines phase_not_zero (ls ++ ([] ∷ [])) ≡ true → map (rounded t) (map read_line ls) ≡ map read_line ls
unfolding all_lines
whole_stay t h [] e z = refl
whole_stay t h (l ∷ ls) e z =
    let p = task_times_whole t (read_line l) in
    let ps = all_lines (task_times_whole t) (ls ++ ([] ∷ [])) in
    let q = phase_not_zero (read_line l) in
    let qs = all_lines phase_not_zero (ls ++ ([] ∷ [])) in
    rw (
      whole_stays t h (read_line l) (first_so p ps e) (first_so q qs z),
      whole_stay t h ls (second_so p ps e) (second_so q qs z),
    )

-- what is so of each line that stays as it stands, and of none
stay_all : (p : Line → Bool) (t : ℕ) → p no_line ≡ true → ((l : Line) → rounded t l ≡ l → p l ≡ true) →
    (ls : List (List ℕ)) → map (rounded t) (map read_line ls) ≡ map read_line ls → all_lines p (ls ++ ([] ∷ [])) ≡ true
unfolding all_lines
stay_all p t none each [] e = rw (nothing_said, none)
stay_all p t none each (l ∷ ls) e =
    let q : rounded t (read_line l) ≡ read_line l = cc in
    let r : map (rounded t) (map read_line ls) ≡ map read_line ls = cc in
    and_from (p (read_line l)) (all_lines p (ls ++ ([] ∷ []))) (each (read_line l) q) (stay_all p t none each ls r)

-- two texts of lines are equal exactly if the lines are
same_lines : (xs ys : List Line) → AllWritable xs → AllWritable ys →
    closed (map write_line xs) ≡ closed (map write_line ys) → xs ≡ ys
same_lines xs ys v w e =
    let p = split_closed (map write_line xs) (lines_lack xs) in
    let q = split_closed (map write_line ys) (lines_lack ys) in
    let s = append_cancel_right (map write_line xs) (map write_line ys) ([] ∷ []) (sym p ∙ ap (split line_feed) e ∙ q) in
    sym (read_written xs v) ∙ ap (map read_line) s ∙ read_written ys w

allowed_text : (text : List ℕ) (a : Rows) → Allowed text a →
    (write a ≡ text) ↔ ((times_whole a.tick.0 text ≡ true) × (no_phase_zero text ≡ true))
unfolding write
allowed_text text a w = (there, back)
  where
    xs : List Line
    xs = map read_line w.lines

    ys : List Line
    ys = map (rounded a.tick.0) xs

    d : Told xs
    d = told xs w.kept (rw w.rows w.task)

    good : 1 ≤ a.tick.0
    good = subst (λ b. 1 ≤ b.tick.0) w.rows d.good.low

    short : AllWritable ys
    short = subst (λ b. AllWritable (map (rounded b.tick.0) xs)) w.rows d.rounded_writable

    made : write a ≡ closed (map write_line ys)
    made =
        ap (λ ls. closed (map write_line ls)) (subst (λ b. lines_of b ≡ map (rounded b.tick.0) xs) w.rows d.lines)

    stood : closed (map write_line xs) ≡ text
    stood = ap closed (written_read w.lines d.writable) ∙ closed_split text w.lines w.closes

    there : write a ≡ text → (times_whole a.tick.0 text ≡ true) × (no_phase_zero text ≡ true)
    there p =
        let s = same_lines ys xs short d.writable (sym made ∙ p ∙ sym stood) in
        let t = a.tick.0 in (
          rw w.closes (stay_all (task_times_whole t) t refl (stays_whole t) w.lines s),
          rw w.closes (stay_all phase_not_zero t refl (stays_phase t) w.lines s),
        )

    back : (times_whole a.tick.0 text ≡ true) × (no_phase_zero text ≡ true) → write a ≡ text
    back p =
        made ∙ ap (λ ls. closed (map write_line ls))
        (whole_stay a.tick.0 good w.lines (rw w.closes at p.0) (rw w.closes at p.1)) ∙ stood

-- a table that holds the rows in use and nothing else
pub table_rows : (a : Rows) → rows_of (table_of a) ≡ a
unfolding table_of
table_rows a =
    rw (
      take-append_seam a.servers (replicate (32 - length a.servers) no_server),
      take-append_seam a.tasks (replicate (64 - length a.tasks) no_task),
    )

rows_table : (a : Rows) → keeps a ≡ true → table_keeps (table_of a) ≡ true
unfolding table_keeps table_of
rows_table a e =
    let k = keeps_rows a e in
    let p = is_within 1 32 (length a.servers) k.servers_low k.good.servers_high in
    let q = is_within 1 64 (length a.tasks) k.tasks_low k.good.tasks_high in
    rw (p, q, table_rows a) e

-- and has the length of its arrays, where these rows are not too many
pub table_sized : (a : Rows) → length a.servers ≤ 32 → length a.tasks ≤ 64 → Sized (table_of a)
unfolding table_of
table_sized a h g =
    record { servers = long a.servers 32 no_server h; tasks = long a.tasks 64 no_task g }
  where
    long : {A : Type 0} (xs : List A) (n : ℕ) (z : A) → length xs ≤ n → length (padded n z xs) ≡ n
    long xs n z l =
        omega (arith, length-append xs (replicate (n - length xs) z), length-replicate (n - length xs) z)

-- The statements to quote. `shown (read text)` is what the reader answers, and `write (rows_of t)`
-- is the text that the writer writes of t.

-- "Writing then reading gives the same table", on the rows in use.
pub write_then_read : (t : Table) → table_keeps t ≡ true →
    ((shown (read (write (rows_of t)))).answer ≡ Ok tt) × (rows_of (shown (read (write (rows_of t)))).table ≡ rows_of t)
unfolding shown
write_then_read t e =
    let b = rows_back (rows_of t) (table-rows-keep t e) in
    (ap (λ r. r.answer) b, table_rows (read (write (rows_of t))).rows ∙ ap (λ r. r.rows) b)

-- "Reading then writing gives the same text exactly when each task time was whole ticks." 02, No. 7:
-- "01's rule on reading then writing also asks that no phase 0 was written".
pub read_then_write : (text : List ℕ) → (shown (read text)).answer ≡ Ok tt →
    (write (rows_of (shown (read text)).table) ≡ text) ↔
    ((times_whole (shown (read text)).table.tick.0 text ≡ true) × (no_phase_zero text ≡ true))
unfolding shown table_of
read_then_write text e = rw (table_rows (read text).rows) (allowed_text text (read text).rows (taken_allowed text e))

-- What is read keeps the rules of the page.
pub read_keeps : (text : List ℕ) → (shown (read text)).answer ≡ Ok tt → table_keeps (shown (read text)).table ≡ true
unfolding shown
read_keeps text e = rows_table (read text).rows (rows_keep text e)

pub read_sized : (text : List ℕ) → (shown (read text)).answer ≡ Ok tt → Sized (shown (read text)).table
unfolding shown
read_sized text e =
    let k = keeps_rows (read text).rows (rows_keep text e) in
    table_sized (read text).rows k.good.servers_high k.good.tasks_high

-- "The text is at most 16,384 bytes": so is every text that is written.
pub written_fits : (t : Table) → table_keeps t ≡ true → length (write (rows_of t)) ≤ 16384
written_fits t e = omega (arith, rows_fit (rows_of t) (table-rows-keep t e))

-- So room of 16,384 bytes is enough for every table.
pub room_enough : (t : Table) (room : List ℕ) → table_keeps t ≡ true → 16384 ≤ length room →
    wrote t room ≡ written (write (rows_of t)) room
unfolding wrote
room_enough t room e h = rw (e, le-leb (length (write (rows_of t))) (length room) (omega (arith, written_fits t e)))

-- A text is taken exactly if it has no fault.
pub taken_exactly : (text : List ℕ) (a : Rows) → (read text ≡ taken a) ↔ Allowed text a
taken_exactly text a = (
  λ e. subst (Allowed text) (ap (λ r. r.rows) e) (taken_allowed text (ap (λ r. r.answer) e)),
  allowed_taken text a,
)
