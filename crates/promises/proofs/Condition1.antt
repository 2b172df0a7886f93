-- The statements of specs/Condition1.antt, proved: each cites the law that says it. Why the
-- reader's cases hold: Reading.antt; why a line's numbers and fields are these: Asked.antt; why the
-- rules are these inequalities: Rules.antt. Assumes nothing.
use Rattle.std.proofs.Common.{None, Option, Some}
use mathlib.Core.Path.{◌≡◌, refl, sym, ap, subst, ◌∙◌}
use mathlib.Core.Bool.{Bool, true, false, not, ◌&&◌, ◌||◌}
use mathlib.Core.List.{[], ◌∷◌}
use mathlib.Core.Logic.{◌⊎◌, inl, inr}
use Prim.Native.Nat.{ℕ, ◌≤◌, ◌<◌}
use native.Mathlib.Omega.{arith}
use lib.Dec.{ltb}
use Rattle.laws.specs.Choice.{unless◌say◌else◌}
use Rattle.std.proofs.lemmas.Bool.{cases_Bool}
use Rattle.laws.proofs.Choice.{le_or_lt}
use Rattle.table.specs.declared.Mode.{Mode}
use Rattle.table.specs.declared.Table.{Table}
use Rattle.table.specs.declared.Refusal.TheVariants.{NoTask, LowInD2, QueueFull, NoJobRan}
use Rattle.table.specs.declared.Refusal.TheVariants.{CountSpent}
use Rattle.table.specs.Rows.{table_of, task_at, is_low, is_d2}
use Rattle.table.specs.Rules.{table_keeps}
use Rattle.text.specs.Read.{reading_number, reading_values, taken as takenRows, read, shown}
use Rattle.text.proofs.RoundTrip.{table_rows, write_then_read, read_then_write, read_keeps}
use Rattle.text.proofs.RoundTrip.{written_fits, taken_exactly}
use Rattle.text.proofs.Refused.{wrote_0, wrote_12, wrote_13, text_written, room_as_it_was}
use Rattle.text.proofs.Refused.{beyond_as_it_was}
use Rattle.verdict.specs.Verdict.{response_at, told, verdict_of}
use Rattle.verdict.proofs.Verdicts.{verdict_unsound, verdict_absent, verdict_told}
use Rattle.run.specs.declared.Run.{Run}
use Rattle.events.specs.declared.Answer.{Answer}
use Rattle.events.specs.declared.Answer.TheVariants.{Released, Ticked, No}
use Rattle.run.specs.State.{waiting_at, with_counts}
use Rattle.events.specs.Answers.{no_of}
use Rattle.run.specs.Release.{refused, with_job, start_of, release_of}
use Rattle.queues.specs.Queues.{ran_job}
use Rattle.run.specs.Tick.{Stepped, tick_taken, ticked, tick_of}
use Rattle.run.specs.Events.{event_of}
use Rattle.run.specs.Many.{Lent, LentBoth}
use Rattle.events.specs.Answers.{taking_number}
use Rattle.run.proofs.Refused.{refused_as_it_was, ReleaseCase, release_number_lem, release_6}
use Rattle.events.proofs.Answers.{Given}
use Rattle.run.proofs.Refused.{release_7, release_8, release_10}
use Rattle.run.proofs.Refused.{release_13, release_taken_lem, TickCase, tick_number_lem, tick_9, tick_10}
use Rattle.run.proofs.Refused.{tick_13, tick_taken_lem}
use Rattle.run.proofs.Refused.{start_13, start_run}
use Rattle.run.proofs.ManyLines.{ManyCase, many_number, many_12, many_13, many_taken}
use Rattle.run.proofs.ManyLines.{many_as_it_was, many-beyond}
use Rattle.run.proofs.ManyLines.{FindCase, find_number_lem, find_12, find_13, find_taken}
use Rattle.run.proofs.ManyLines.{find_as_it_was, find_beyond}
use Rattle.lines.specs.Print.{longest_answer}
use Rattle.lines.proofs.Cutting.{cut_12, cut_0, cut_as_it_was, cut_beyond}
use Rattle.lines.proofs.Print.{print_12, print_0, print_as_it_was, print-beyond}
use Rattle.promises.specs.Condition1.{read_as, NoTableBack, NoTableKeepsNone, ReadKeeps, RowsRead, EachHandedBack, EachHandedNumber}
use Rattle.promises.specs.Condition1.{EachLine, EachFault, EachStart, EachRelease, EachTick}
use Rattle.promises.specs.Condition1.{counting, NeitherCount}
use Rattle.promises.specs.Condition1.{RefusedChangesNothing, EachMany, EachFind, EachWrite, RoomEnough}
use Rattle.promises.specs.Condition1.{WriteThenRead, ReadThenWrite, verdict_number}
use Rattle.promises.specs.Condition1.{EachVerdict}
use Rattle.promises.specs.Condition1.{EachCut, EachPrint, AnswerLines, TableLines}
use Rattle.promises.specs.Condition1.{DegradedLines, PairLines}
use Rattle.promises.proofs.Opened.{opened}
use Rattle.promises.proofs.Reading.{is_taken_lem, refused_rows, each_read}
use Rattle.promises.proofs.Tests.{◌and◌}
use Rattle.promises.proofs.Asked.{line_told_lem, faults}
use Rattle.promises.proofs.Rules.{times_whole_lem, no_phase_zero_lem}
use Rattle.text.specs.TableText.{Reading}
use Rattle.text.proofs.TableText.{handed_back}

-- The reader: each-read of Reading.antt, and
pub no_table_back : NoTableBack
unfolding shown
no_table_back text n = ap table_of (refused_rows text n)

pub no_table_keeps_none : NoTableKeepsNone
unfolding opened
no_table_keeps_none = refl

pub reading_keeps : ReadKeeps
unfolding shown
reading_keeps text e = read_keeps text (is_taken_lem text e)

pub rows_read : RowsRead
unfolding shown
rows_read text a = (
  λ p.
      (taken_exactly text a).0
      (ap (λ (x : Reading). record { answer = x; rows = (read text).rows }) (is_taken_lem text p.0.0)
      ∙ ap takenRows (sym (table_rows (read text).rows) ∙ p.1)),
  λ w. let e = (taken_exactly text a).1 w in rw e ((refl, refl), table_rows a),
)

pub each_handed_back : EachHandedBack
each_handed_back text = handed_back (read_as text)

pub each_handed_number : EachHandedNumber
each_handed_number text k told = rw (handed_back (read_as text)).answer (each_read text k told)

-- A line, and 41 to 45.
pub each_line : EachLine
each_line n a line = (line_told_lem n a line).exactly

pub each_fault : EachFault
each_fault = faults

-- A start, and events.
pub each_start : EachStart
unfolding start_of
each_start t =
    record {
      no_13 = start_13 t;
      taken = (
        λ e.
            elim (cases_Bool (table_keeps t)) [
              | inl k ↦ k
              | inr k ↦ let q = (start_13 t).1 k in absurd (omega arith)
            ],
        λ k. rw k,
      );
      as_it_was = start_run t;
    }

pub each_release : EachRelease
each_release r k =
    record {
      no_13 = release_13 r k;
      no_6 = release_6 r k;
      no_7 = release_7 r k;
      no_8 = release_8 r k;
      no_10 = release_10 r k;
      taken = (
        λ e. subst (ReleaseCase r k) e (release_number_lem r k),
        λ p. ap no_of ((release_taken_lem r k).1 p),
      );
    }

pub each_tick : EachTick
each_tick r mark =
    record {
      no_13 = tick_13 r mark;
      no_9 = tick_9 r mark;
      no_10 = tick_10 r mark;
      taken = (
        λ e. subst (TickCase r mark) e (tick_number_lem r mark),
        λ p. ap no_of ((tick_taken_lem r mark).1 p),
      );
    }

-- the same tests, of two runs, give the same number
same_release : (r s x y : Run) (k : ℕ) (a b c d : Bool) →
    no_of (unless a say refused r NoTask else unless b say refused r LowInD2
    else unless c say refused r QueueFull else unless d say refused r CountSpent
    else record { answer = Released k; run = x }).answer ≡
    no_of (unless a say refused s NoTask else unless b say refused s LowInD2
    else unless c say refused s QueueFull else unless d say refused s CountSpent
    else record { answer = Released k; run = y }).answer
same_release r s x y k false b c d = refl
same_release r s x y k true false c d = refl
same_release r s x y k true true false d = refl
same_release r s x y k true true true false = refl
same_release r s x y k true true true true = refl

same_tick : (r s : Run) (x y : Stepped) (a b : Bool) →
    no_of (unless a say refused r NoJobRan else unless b say refused r CountSpent
    else ticked r x).answer ≡
    no_of (unless a say refused s NoJobRan else unless b say refused s CountSpent
    else ticked s y).answer
same_tick r s x y false b = refl
same_tick r s x y true false = refl
same_tick r s x y true true = refl

pub neither_count : NeitherCount
unfolding release_of tick_of
neither_count r q k mark ticks accepted e f =
    let t = r.table in
    let s = r.state in (
      λ z.
          let p = counting r ticks s.accepted in
          let x : Run = record { table = t; state = with_job p.state k } in
          let y : Run = record { table = t; state = with_job s k } in
          rw (e, f)
          (rw z
          (same_release p r x y k
          (ltb k t.ntasks) (not (is_d2 s.mode && is_low (task_at t k).level))
          (ltb (waiting_at s k) 16) (ltb s.accepted 4000000000))),
      λ z.
          let x = with_counts s s.ticks accepted in
          rw (e, f)
          (rw z
          (same_tick (counting r s.ticks accepted) r (tick_taken t x mark) (tick_taken t s mark)
          (not mark || ran_job s.last) (ltb s.ticks.0 4000000000))),
    )

pub refused_changes_nothing : RefusedChangesNothing
refused_changes_nothing r e n = go (event_of r e).answer refl
  where
    go : (a : Answer) → (event_of r e).answer ≡ a → (event_of r e).run ≡ r
    go (Released k) q = absurd (n (ap no_of q))
    go (Ticked a) q = absurd (n (ap no_of q))
    go (No why) q = refused_as_it_was r e why q

-- Many event lines, the writer, and what is read and written back.
pub each_many : EachMany
each_many r values room =
    record {
      no_13 = many_13 r values room;
      no_12 = many_12 r values room;
      taken = (
        λ e. subst (ManyCase r values room) e (many_number r values room),
        λ p. ap (λ (l : Lent). taking_number l.many.answer) (many_taken r values room p),
      );
      as_it_was = many_as_it_was r values room;
      beyond = many-beyond r values room;
    }

pub each_find : EachFind
each_find r values told found =
    record {
      no_13 = find_13 r values told found;
      no_12 = find_12 r values told found;
      taken = (
        λ e. subst (FindCase r values told found) e (find_number_lem r values told found),
        λ p. ap (λ (l : LentBoth). taking_number l.finding.answer) (find_taken r values told found p),
      );
      as_it_was = find_as_it_was r values told found;
      beyond = find_beyond r values told found;
    }

pub each_write : EachWrite
each_write t room =
    record {
      no_13 = wrote_13 t room;
      no_12 = wrote_12 t room;
      taken = wrote_0 t room;
      stands = text_written t room;
      as_it_was = room_as_it_was t room;
      beyond = beyond_as_it_was t room;
    }

pub room_is_enough : RoomEnough
room_is_enough = written_fits

pub writing_then_reading : WriteThenRead
writing_then_reading t e =
    let p = write_then_read t e in
    ((ap reading_number p.0, ap reading_values p.0), p.1)

pub reading_then_writing : ReadThenWrite
unfolding shown
reading_then_writing text e =
    let f = read_then_write text (is_taken_lem text e.0) in
    let g = times_whole_lem (table_of (read text).rows).tick.0 text in
    let z = no_phase_zero_lem text in
    (λ p. let w = f.0 p in (g.0 w.0, z.0 w.1), λ q. f.1 (g.1 q.0, z.1 q.1))

-- Verdicts: the number in each of the three ways to one.
module _ (t : Table) (m : Mode) (i : ℕ) where
  abbrev VerdictCase : ℕ → Type 0
  VerdictCase =
      Given
      ((13, table_keeps t ≡ false)
      ∷ (11, (table_keeps t ≡ true) × (t.nservers ≤ i))
      ∷ (0, (table_keeps t ≡ true) × (i < t.nservers))
      ∷ [])

  told_0 : (f : Option ℕ) → verdict_number (told f) ≡ 0
  told_0 (Some r) = refl
  told_0 None = refl

  served_0 : table_keeps t ≡ true → i < t.nservers → verdict_number (verdict_of t i m) ≡ 0
  served_0 e h = ap verdict_number (verdict_told t m i e h) ∙ told_0 (response_at t m i)

  verdict_case : VerdictCase (verdict_number (verdict_of t i m))
  verdict_case = go (cases_Bool (table_keeps t)) (le_or_lt t.nservers i)
    where
      go : (table_keeps t ≡ true) ⊎ (table_keeps t ≡ false) → (t.nservers ≤ i) ⊎ (i < t.nservers) →
          VerdictCase (verdict_number (verdict_of t i m))
      go (inr e) l = rw (verdict_unsound t m i e) e
      go (inl e) (inl l) = rw (verdict_absent t m i e l) (e, l)
      go (inl e) (inr l) = rw (served_0 e l) (e, l)

pub each_verdict : EachVerdict
each_verdict t m i =
    let case = verdict_case t m i in
    record {
      no_13 = (
        λ e. subst (VerdictCase t m i) e case,
        λ p. ap verdict_number (verdict_unsound t m i p),
      );
      no_11 = (
        λ e. subst (VerdictCase t m i) e case,
        λ p. ap verdict_number (verdict_absent t m i p.0 p.1),
      );
      given = (λ e. subst (VerdictCase t m i) e case, λ p. served_0 t m i p.0 p.1);
    }

-- Cutting and printing.
pub each_cut : EachCut
each_cut h input room =
    record {
      no_12 = cut_12 h input room;
      taken = cut_0 h input room;
      as_it_was = cut_as_it_was h input room;
      beyond = cut_beyond h input room;
    }

pub each_print : EachPrint
unfolding longest_answer
each_print values told room =
    record {
      no_12 = print_12 values told room;
      taken = print_0 values told room;
      as_it_was = print_as_it_was values told room;
      beyond = print-beyond values told room;
    }

-- What is computed.
pub answer_lines_lem : AnswerLines
unfolding opened
answer_lines_lem = refl

pub table_lines : TableLines
unfolding opened
table_lines =
    refl and refl and refl and refl and refl and refl and refl and refl and refl and refl and refl
    and refl and refl and refl and refl and refl and refl and refl and refl and refl and tt

pub degraded_lines : DegradedLines
unfolding opened
degraded_lines = refl and refl and refl and tt

pub pair_lines : PairLines
unfolding opened
pair_lines = refl
