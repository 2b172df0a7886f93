-- The text of a frame box's table: a line told from its leading word and the one pass over its
-- fields, how it stands by the count of the rows above it, and the table that holds those rows.
-- Assumes nothing.
use Rattle.std.specs.Prelude.{if◌then◌else◌, None, Some, Ok}
use mathlib.Core.Path.{◌≡◌, refl, sym, ap, subst, ◌∙◌}
use mathlib.Core.Bool.{Bool, true, false}
use mathlib.Core.List.{List, [], ◌∷◌}
use Prim.Native.Nat.{ℕ, ◌+◌, ◌-◌, ◌≤◌, ◌<◌}
use native.Mathlib.Omega.{arith}
use lib.Dec.{eqb}
use lib.ListN.{length, get_or, set, replicate, length-append}
use lib.Seq.{take-append_seam}
use borrow.Author.Tests.{ltb-true}
use Rattle.laws.specs.Choice.{every}
use Rattle.laws.specs.Search.{least, first_failed}
use Rattle.laws.specs.RoundUp.{up}
use Rattle.std.specs.Cmp.{first_so}
use Rattle.laws.proofs.Choice.{every_at, within_low, within_high}
use Rattle.units.specs.declared.Micros.{Micros}
use Rattle.decimal.specs.Inner.Fields.{first_line, fields_from, first_field, field_end}
use Rattle.decimal.proofs.Lines.{high}
use Rattle.decimal.proofs.Inner.Fields.{field_more, field_last}
use Rattle.table.specs.declared.Refusal.TheVariants.{Malformed as MalformedWhy}
use Rattle.table.specs.Rules.{tick_keeps}
use Rattle.text.specs.declared.Word.{Word}
use Rattle.text.specs.declared.Word.TheVariants.{ATick, AServer, ATask, Unknown}
use Rattle.text.specs.Words.{tick_word, task_word, server_word}
use Rattle.decimal.specs.Lines.{same}
use Rattle.text.specs.Line.{tick_form, field_tests, form_tests, micros_at, leading}
use Rattle.text.specs.Standing.{is_nil}
use Rattle.text.specs.TableText.{refused_beside, equal_beside, read_lines, Read}
use Rattle.frametable.specs.declared.FrameTask.{FrameTask}
use Rattle.frametable.specs.declared.FrameTaskLine.{FrameTaskLine}
use Rattle.frametable.specs.declared.FrameLine.{FrameLine}
use Rattle.frametable.specs.declared.FrameLine.TheVariants.{OfTick, OfTask, Malformed}
use Rattle.frametable.specs.declared.FrameTable.{FrameTable}
use Rattle.frametable.specs.Rows.{FrameRows, no_frame_rows, no_frame_task, frame_rows_of, frame_table_of}
use Rattle.frametable.specs.Rules.{frame_task_keeps, equal_frame_tasks}
use Rattle.frametable.specs.Line.{frame_task_form, frame_task_said, frame_line_by, frame_line_of, read_frame_line}
use Rattle.frametable.specs.Text.{frame_task_of, frame_placed, frame_bounds, frame_standing, frame_grown, frame_ended, frame_text, frame_shown}
use Rattle.frametable.proofs.Text.{frame_line_keeps, frame_task_room, frame_task_keeps_lem, frame_no_form}
use Rattle.reader.specs.declared.fields.Fields.{Fields}
use Rattle.reader.specs.declared.forms.LineRead.{LineRead}
use Rattle.reader.specs.Inner.Lines.{first_word}
use Rattle.reader.specs.Inner.Frame.{FrameAbove, frame_behind, first_frame_read, frame_standing_by}
use Rattle.reader.proofs.Inner.{padded_more, nil_is}
use Rattle.reader.proofs.Line.{ReadAs, form_wrong, form_right, value_read, led_by, parts, other_word}

-- what a line says, from the one pass over its fields
module _ (text : List ℕ) (from : ℕ) (r : Fields) where
  pub frame_tick_wrong : ReadAs tick_form text from r → (field : ℕ) → r.wrong ≡ Some field →
      Malformed ATick field ≡ frame_line_by ATick (fields_from text from)
  unfolding frame_line_by
  frame_tick_wrong e field w =
      form_wrong tick_form text from r e (Malformed ATick) (OfTick (micros_at (fields_from text from) 1)) field w

  pub frame_tick_read : ReadAs tick_form text from r → r.wrong ≡ None →
      OfTick (record { 0 = get_or r.values 0 0 }) ≡ frame_line_by ATick (fields_from text from)
  unfolding frame_line_by tick_form
  frame_tick_read e w =
      rw (value_read tick_form text from r e w (omega arith) 0 (omega arith))
      (form_right tick_form text from r e w (Malformed ATick) (OfTick (micros_at (fields_from text from) 1)))

  pub frame_task_wrong : ReadAs frame_task_form text from r → (field : ℕ) → r.wrong ≡ Some field →
      Malformed ATask field ≡ frame_line_by ATask (fields_from text from)
  unfolding frame_line_by
  frame_task_wrong e field w =
      form_wrong frame_task_form text from r e (Malformed ATask) (OfTask (frame_task_said (fields_from text from))) field w

  pub frame_task_read : ReadAs frame_task_form text from r → r.wrong ≡ None →
      OfTask (record {
        partition = get_or r.values 0 0;
        priority = get_or r.values 1 0;
        limit = record { 0 = get_or r.values 2 0 };
      }) ≡ frame_line_by ATask (fields_from text from)
  unfolding frame_line_by frame_task_form
  frame_task_read e w =
      let v = value_read frame_task_form text from r e w (omega arith) in
      rw (v 0 (omega arith), v 1 (omega arith), v 2 (omega arith))
      (form_right frame_task_form text from r e w (Malformed ATask) (OfTask (frame_task_said (fields_from text from))))

-- the word that a text begins with, and its tab, tell the form
pub frame_led : (text w : List ℕ) → high w ≡ true → led_by w text ≡ true → (word : Word) → word ≡ leading w →
    frame_behind word text (length w + 1) ≡ first_frame_read text
unfolding read_frame_line frame_line_of
frame_led text w h s word e = let p = parts text w h s in rw (e, p.0, p.1)

-- a word alone has no form, nor has one that is neither `tick` nor `task`
none_formed : (word : Word) → frame_line_by word [] ≡ Malformed word 0
unfolding frame_line_by tick_form frame_task_form form_tests field_tests first_failed least
none_formed ATick = refl
none_formed AServer = refl
none_formed ATask = refl
none_formed Unknown = refl

other_formed : (b : Bool) (fs : List (List ℕ)) →
    Malformed (if b then AServer else Unknown) 0 ≡ frame_line_by (if b then AServer else Unknown) fs
unfolding frame_line_by
other_formed true fs = refl
other_formed false fs = refl

module _ (text : List ℕ) (task : led_by task_word text ≡ false) (tick : led_by tick_word text ≡ false) where
  neither : Malformed (leading (first_field text 0)) 0 ≡ read_frame_line (first_line text)
  unfolding read_frame_line frame_line_of
  neither = go (field_end text 0).more refl
    where
      go : (b : Bool) → (field_end text 0).more ≡ b →
          Malformed (leading (first_field text 0)) 0 ≡ read_frame_line (first_line text)
      go true e =
          rw ((field_more text 0 e).0, other_word text tick_word tick e, other_word text task_word task e)
          (other_formed (same (first_field text 0) server_word) _)
      go false e = sym (ap frame_line_of (field_last text 0 e).0 ∙ none_formed (leading (first_field text 0)))

  pub frame_no_form_read : (w : LineRead Word) → w ≡ first_word text →
      record { said = Malformed w.said 0; end = w.end } ≡ first_frame_read text
  frame_no_form_read w e = rw (e, neither)

-- a table that holds its rows and nothing else: its count is theirs
pub frame_table_rows : (a : FrameRows) → frame_rows_of (frame_table_of a) ≡ a
unfolding frame_table_of
frame_table_rows a = rw (take-append_seam a.tasks (replicate (64 - length a.tasks) no_frame_task))

module _ (t : FrameTable) (whole : t ≡ frame_table_of (frame_rows_of t)) where
  pub frame_count : length (frame_rows_of t).tasks ≡ t.ntasks
  unfolding frame_table_of
  frame_count = sym (ap (λ (x : FrameTable). x.ntasks) whole)

  pub frame_nil : is_nil (frame_rows_of t).tasks ≡ eqb t.ntasks 0
  frame_nil = rw (nil_is (frame_rows_of t).tasks, frame_count)

  -- what is asked of the rows above is the tick and how many there are
  pub frame_standing_by_lem : (n : ℕ) (l : FrameLine) →
      frame_standing_by n t.tick.0 t.ntasks l ≡ frame_standing n (frame_rows_of t) l
  unfolding frame_standing frame_bounds
  frame_standing_by_lem n (OfTick u) = refl
  frame_standing_by_lem n (OfTask k) = rw frame_count
  frame_standing_by_lem n (Malformed word field) = refl

-- the `tick` line stands above wherever a `task` line is placed
pub frame_task_below : (n : ℕ) → frame_placed n ATask ≡ true → 1 < n
unfolding frame_placed
frame_task_below n e = ltb-true 1 n e

-- a line's row put into the table
module _ (t : FrameTable) (a : FrameRows) (whole : t ≡ frame_table_of a) (l : FrameLine) where
  pub frame_put_tick : (u : Micros) → l ≡ OfTick u →
      (record { tick = u; ntasks = t.ntasks; tasks = t.tasks }) ≡ frame_table_of (frame_grown a l)
  unfolding frame_table_of frame_grown
  frame_put_tick u told = rw (told, whole)

  pub frame_put_task : (k : FrameTaskLine) (row : FrameTask) → l ≡ OfTask k → t.ntasks < 64 →
      row ≡ frame_task_of t.tick.0 k →
      (record { tick = t.tick; ntasks = t.ntasks + 1; tasks = set t.tasks t.ntasks row })
      ≡ frame_table_of (frame_grown a l)
  unfolding frame_table_of frame_grown
  frame_put_task k row told h e =
      rw (told, e, whole)
      (rw (
        padded_more 64 no_frame_task (frame_task_of a.tick.0 k) a.tasks (rw whole at h),
        length-append a.tasks (frame_task_of a.tick.0 k ∷ []),
      ))

  pub frame_put_none : (word : Word) (field : ℕ) → l ≡ Malformed word field → t ≡ frame_table_of (frame_grown a l)
  unfolding frame_grown
  frame_put_none word field told = rw told whole

-- a line that is kept has room for its row, and its numbers in the row
pub record FrameTaskGrows (t : FrameTable) (k : FrameTaskLine) : Type 0 where
  pub tick : 0 < t.tick.0
  pub keeps : every (frame_task_keeps (frame_task_of t.tick.0 k)) ≡ true
  pub room : t.ntasks < 64

module _ (n : ℕ) (t : FrameTable) (r : FrameAbove n t) where
  pub frame_task_grows : (k : FrameTaskLine) → frame_standing n (frame_rows_of t) (OfTask k) ≡ Ok tt → FrameTaskGrows t k
  unfolding frame_bounds
  frame_task_grows k e =
      let p = frame_line_keeps n (frame_rows_of t) (OfTask k) e in
      let b = rw (frame_count t r.whole) at p.bounded in
      record {
        tick = within_low 1 10000 t.tick.0 (r.below (frame_task_below n p.stands));
        keeps = frame_task_keeps_lem t.ntasks t.tick.0 k b;
        room = frame_task_room t.ntasks t.tick.0 k b;
      }

-- and the table with it stands before the next line
above_rows : (n : ℕ) (a : FrameRows) → length a.tasks ≤ 64 → (1 < n → tick_keeps a.tick.0 ≡ true) →
    FrameAbove n (frame_table_of a)
unfolding frame_table_of
above_rows n a k b = record { whole = ap frame_table_of (sym (frame_table_rows a)); few = k; below = b }

pub frame_starts : (t : FrameTable) → t ≡ frame_table_of no_frame_rows → FrameAbove 1 t
frame_starts t e =
    subst (FrameAbove 1) (sym e) (above_rows 1 no_frame_rows (omega arith) (λ h. absurd (omega arith)))

pub frame_starts_from : (t : FrameTable) (ls : List (List ℕ)) → t ≡ frame_table_of no_frame_rows →
    read_lines frame_text 1 no_frame_rows ls ≡ read_lines frame_text 1 (frame_rows_of t) ls
frame_starts_from t ls e =
    ap (λ x. read_lines frame_text 1 x ls) (sym (ap frame_rows_of e ∙ frame_table_rows no_frame_rows))

pub frame_above_next : (n : ℕ) (t : FrameTable) (l : FrameLine) → FrameAbove n t →
    frame_standing n (frame_rows_of t) l ≡ Ok tt → FrameAbove (n + 1) (frame_table_of (frame_grown (frame_rows_of t) l))
unfolding frame_placed frame_bounds frame_grown every
frame_above_next n t (OfTick u) r e =
    let p = frame_line_keeps n (frame_rows_of t) (OfTick u) e in
    above_rows (n + 1) (frame_grown (frame_rows_of t) (OfTick u))
    (omega (arith, frame_count t r.whole, r.few))
    (λ h. first_so (tick_keeps u.0) true p.bounded)
frame_above_next n t (OfTask k) r e =
    let p = frame_line_keeps n (frame_rows_of t) (OfTask k) e in
    let room = frame_task_room (length (frame_rows_of t).tasks) t.tick.0 k p.bounded in
    above_rows (n + 1) (frame_grown (frame_rows_of t) (OfTask k))
    (omega (arith, length-append (frame_rows_of t).tasks (frame_task_of t.tick.0 k ∷ [])))
    (λ h. r.below (frame_task_below n p.stands))
frame_above_next n t (Malformed word field) r e =
    absurd
    (frame_no_form n (frame_rows_of t) word field (frame_line_keeps n (frame_rows_of t) (Malformed word field) e))

-- the end: without a task a line is missing; else the first pair is told, or the table taken
pub frame_ended_none : (n : ℕ) (a : FrameRows) → is_nil a.tasks ≡ true →
    refused_beside no_frame_rows MalformedWhy n 0 ≡ frame_ended n a
unfolding frame_ended
frame_ended_none n a e = rw e

module _ (n : ℕ) (a : FrameRows) (some : is_nil a.tasks ≡ false) where
  pub frame_ended_pair : {i j : ℕ} → equal_frame_tasks a.tasks ≡ Some (i, j) →
      equal_beside no_frame_rows (2 + i) (2 + j) ≡ frame_ended n a
  unfolding frame_ended
  frame_ended_pair e = rw (some, e)

  pub frame_ended_taken : (t : FrameTable) → a ≡ frame_rows_of t → t ≡ frame_table_of (frame_rows_of t) →
      equal_frame_tasks a.tasks ≡ None →
      ◌≡◌ {A = Read FrameTable} (record { answer = Ok tt; table = t }) (frame_shown (frame_ended n a))
  unfolding frame_ended frame_shown
  frame_ended_taken t r w f = rw (some, f, r) (ap (λ (x : FrameTable). record { answer = Ok tt; table = x }) w)

-- what the rule of a row says of its numbers
pub record FrameTaskFits (t : ℕ) (k : FrameTaskLine) : Type 0 where
  pub partition : k.partition ≤ 2
  pub priority : k.priority ≤ 255
  pub limit : up k.limit.0 t ≤ 100000

pub frame_task_fits : (t : ℕ) (k : FrameTaskLine) → every (frame_task_keeps (frame_task_of t k)) ≡ true → FrameTaskFits t k
unfolding frame_task_keeps
frame_task_fits t k e =
    let b = every_at (frame_task_keeps (frame_task_of t k)) e in
    record {
      partition = within_high 0 2 k.partition (b 0);
      priority = within_high 1 255 k.priority (b 1);
      limit = within_high 1 100000 (up k.limit.0 t) (b 2);
    }
