-- 02, No. 6: what the text of a frame box's table is answered with. A text is taken exactly if it is
-- allowed, its rows then keep the rules, and a text that is refused has none. Line by line it goes
-- as with every table (crate text, proofs/TableText.antt): here is what is this table's own. The
-- statements to quote stand at the end; the cases of each number are in TextExactly.antt. Assumes
-- nothing.
use Rattle.std.proofs.Common.{None, Option, Some, Err, Ok}
use mathlib.Core.Path.{◌≡◌, refl, sym, ap, subst, ◌∙◌}
use mathlib.Core.Bool.{true, false, not}
use mathlib.Core.List.{List, [], ◌∷◌, map}
use mathlib.Core.Logic.{◌↔◌, ◌⊎◌, inl, inr}
use Prim.Native.Nat.{ℕ, ◌+◌, ◌≤◌, ◌<◌}
use native.Mathlib.Omega.{arith}
use lib.Dec.{ltb}
use lib.ListN.{length, get_or, length-append}
use borrow.Author.Tests.{ltb-true, eqb-true}
use Rattle.laws.specs.Choice.{every}
use Rattle.laws.specs.Search.{first_failed}
use Rattle.std.specs.Cmp.{first_so, second_so}
use Rattle.laws.proofs.Choice.{clash, if_ind, every_at, within_low, within_high, is_within}
use Rattle.laws.proofs.Rows.{all_build}
use Rattle.laws.proofs.Search.{failed_none}
use Rattle.units.specs.declared.Micros.{Micros}
use Rattle.table.specs.declared.Refusal.{Refusal}
use Rattle.table.specs.declared.Refusal.TheVariants.{Malformed, OutOfBounds}
use Rattle.table.specs.Refusals.{standing_number, breaks, Standing}
use Rattle.table.specs.Rules.{differ}
use Rattle.table.proofs.Pairs.{differ_pair, pair_differ}
use Rattle.text.specs.declared.Word.{Word}
use Rattle.text.specs.Standing.{is_nil, tell◌at◌or◌}
use Rattle.text.specs.TableText.{ReadOf, taken, pair_told, LinesKeep, rows_grown, Reading}
use Rattle.text.specs.Read.{reading_number}
use Rattle.text.proofs.Standing.{unless_kept, tell_kept, each_more, not_nil}
use Rattle.text.proofs.Allowed.{some}
use Rattle.text.proofs.TableText.{NotRefused, taken_not, unless_not, pair_taken, TextKept, kept_ends, not_refused_kept, text_ind, taken_or_none}
use Rattle.frametable.specs.declared.FrameTaskLine.{FrameTaskLine}
use Rattle.frametable.specs.declared.FrameLine.{FrameLine}
use Rattle.frametable.specs.declared.FrameLine.TheVariants.{OfTick, OfTask, Malformed as MalformedLine}
use Rattle.frametable.specs.Rows.{FrameRows, no_frame_rows, no_frame_task, no_frame_table, frame_table_of}
use Rattle.frametable.specs.Rules.{frame_task_keeps, equal_frame_tasks, frame_keeps}
use Rattle.frametable.specs.Line.{frame_word_of, frame_malformed_at, read_frame_line}
use Rattle.frametable.specs.Text.{frame_task_of, frame_placed, frame_task_bounds, frame_bounds, frame_standing, frame_grown, frame_ended, frame_text, frame_read, frame_shown, FrameAllowed}
use Rattle.text.specs.declared.ReadError.TheVariants.{Refused}

-- A line that keeps the rules, by each of them.
pub record FrameLineKeeps (n : ℕ) (a : FrameRows) (l : FrameLine) : Type 0 where
  pub stands : frame_placed n (frame_word_of l) ≡ true
  pub formed : frame_malformed_at l ≡ None
  pub bounded : every (frame_bounds a l) ≡ true

pub frame_line_keeps : (n : ℕ) (a : FrameRows) (l : FrameLine) → frame_standing n a l ≡ Ok tt → FrameLineKeeps n a l
unfolding frame_standing
frame_line_keeps n a l e =
    let p = unless_kept (frame_placed n (frame_word_of l)) Malformed 0 _ e in
    let f = tell_kept (frame_malformed_at l) Malformed _ p.1 in
    let q = tell_kept (first_failed (frame_bounds a l)) OutOfBounds _ f.1 in
    record { stands = p.0; formed = f.0; bounded = (failed_none (frame_bounds a l)).0 q.0 }

-- the bounds of a task's line are its room and the rule of its row
pub frame_task_room : (rows t : ℕ) (k : FrameTaskLine) → every (frame_task_bounds rows t k) ≡ true → rows < 64
unfolding frame_task_bounds every
frame_task_room rows t k e = ltb-true rows 64 (first_so (ltb rows 64) (every (frame_task_keeps (frame_task_of t k))) e)

pub frame_task_keeps_lem : (rows t : ℕ) (k : FrameTaskLine) → every (frame_task_bounds rows t k) ≡ true →
    every (frame_task_keeps (frame_task_of t k)) ≡ true
unfolding frame_task_bounds every
frame_task_keeps_lem rows t k e = second_so (ltb rows 64) (every (frame_task_keeps (frame_task_of t k))) e

-- a `tick` line's time, as a bound
pub frame_tick_within : (a : FrameRows) (u : Micros) → every (frame_bounds a (OfTick u)) ≡ true →
    (1 ≤ u.0) × (u.0 ≤ 10000)
unfolding frame_bounds
frame_tick_within a u e =
    let b = every_at (frame_bounds a (OfTick u)) e 1 in
    (within_low 1 10000 u.0 b, within_high 1 10000 u.0 b)

-- a malformed line stands nowhere
pub frame_no_form : (n : ℕ) (a : FrameRows) (word : Word) (field : ℕ) →
    FrameLineKeeps n a (MalformedLine word field) → ⊥
frame_no_form n a word field k =
    let e : Some field ≡ None = k.formed in let c : ◌≡◌ {A = ℕ} 0 1 = cc in omega arith

-- Rows that keep the rules so far, as lines are read: what `frame_keeps` says of the tick and of each
-- row, but not yet that there is one, nor that priorities differ.
pub record FrameGood (a : FrameRows) : Type 0 where
  pub low : 1 ≤ a.tick.0
  pub high : a.tick.0 ≤ 10000
  pub few : length a.tasks ≤ 64
  pub each : (k : ℕ) → k < length a.tasks → every (frame_task_keeps (get_or a.tasks k no_frame_task)) ≡ true

frame_tick_good : (n : ℕ) (u : Micros) → FrameLineKeeps n no_frame_rows (OfTick u) →
    FrameGood (frame_grown no_frame_rows (OfTick u))
unfolding frame_grown
frame_tick_good n u k =
    let b = frame_tick_within no_frame_rows u k.bounded in
    record { low = b.0; high = b.1; few = omega arith; each = λ i h. absurd (omega arith) }

frame_task_good : (n : ℕ) (a : FrameRows) (x : FrameTaskLine) → FrameGood a → FrameLineKeeps n a (OfTask x) →
    FrameGood (frame_grown a (OfTask x))
unfolding frame_bounds frame_grown
frame_task_good n a x g k =
    let t = a.tick.0 in
    let room = frame_task_room (length a.tasks) t x k.bounded in
    record {
      low = g.low;
      high = g.high;
      few = omega (arith, length-append a.tasks (frame_task_of t x ∷ []));
      each =
          each_more (λ y. every (frame_task_keeps y) ≡ true) a.tasks (frame_task_of t x) no_frame_task g.each
          (frame_task_keeps_lem (length a.tasks) t x k.bounded);
    }

-- the lines after the first are `task` lines
no_later_tick : (n : ℕ) (a : FrameRows) (u : Micros) → 1 < n → FrameLineKeeps n a (OfTick u) → ⊥
unfolding frame_placed
no_later_tick n a u h k = let e : n ≡ 1 = eqb-true n 1 k.stands in omega arith

later_good : (n : ℕ) (a : FrameRows) (l : FrameLine) → 1 < n → FrameGood a → FrameLineKeeps n a l →
    FrameGood (frame_grown a l)
later_good n a (OfTick u) h g k = absurd (no_later_tick n a u h k)
later_good n a (OfTask x) h g k = frame_task_good n a x g k
later_good n a (MalformedLine word field) h g k = absurd (frame_no_form n a word field k)

all_good : (n : ℕ) (a : FrameRows) (ls : List FrameLine) → 1 < n → FrameGood a → LinesKeep frame_text n a ls →
    FrameGood (rows_grown frame_text a ls)
unfolding rows_grown
all_good n a [] h g k = g
all_good n a (l ∷ ls) h g k =
    all_good (n + 1) (frame_grown a l) ls (omega arith)
    (later_good n a l h g (frame_line_keeps n a l k.0)) k.1

-- the `tick` line stands first, and no other does
first_good : (l : FrameLine) → FrameLineKeeps 1 no_frame_rows l → FrameGood (frame_grown no_frame_rows l)
unfolding frame_placed
first_good (OfTick u) k = frame_tick_good 1 u k
first_good (OfTask x) k = absurd (clash false k.stands refl)
first_good (MalformedLine word field) k = absurd (frame_no_form 1 no_frame_rows word field k)

lines_good : (ls : List FrameLine) → LinesKeep frame_text 1 no_frame_rows ls →
    1 ≤ length (rows_grown frame_text no_frame_rows ls).tasks → FrameGood (rows_grown frame_text no_frame_rows ls)
unfolding rows_grown
lines_good [] k h = absurd (omega arith)
lines_good (l ∷ ls) k h =
    all_good 2 (frame_grown no_frame_rows l) ls (omega arith)
    (first_good l (frame_line_keeps 1 no_frame_rows l k.0)) k.1

good_keeps : (a : FrameRows) → FrameGood a → 1 ≤ length a.tasks →
    differ (length a.tasks) (λ k. (get_or a.tasks k no_frame_task).priority) ≡ true → frame_keeps a ≡ true
unfolding frame_keeps every
good_keeps a g h p =
    let ks = a.tasks in
    rw (
      is_within 1 10000 a.tick.0 g.low g.high,
      is_within 1 64 (length ks) h g.few,
      all_build (λ k. every (frame_task_keeps (get_or ks k no_frame_task))) (length ks) g.each,
      p,
    )

-- The end of the text: there is a task, and then the first pair of equal priorities is told.
ended_pair : (n : ℕ) (a : FrameRows) → NotRefused (frame_ended n a).answer →
    (1 ≤ length a.tasks) × (frame_ended n a ≡ pair_told no_frame_rows 2 (equal_frame_tasks a.tasks) (taken a))
unfolding frame_ended
ended_pair n a e =
    let p = unless_not no_frame_rows (not (is_nil a.tasks)) Malformed n _ e in (some a.tasks p.0, p.1)

pub pair_ended : (n : ℕ) (a : FrameRows) → 1 ≤ length a.tasks →
    frame_ended n a ≡ pair_told no_frame_rows 2 (equal_frame_tasks a.tasks) (taken a)
unfolding frame_ended
pair_ended n a h = rw (not_nil a.tasks h)

-- a text that is not refused is answered by the pairs of its rows
record Judged (text : List ℕ) : Type 0 where
  text_kept : TextKept frame_text text
  rows : FrameRows
  grown : rows_grown frame_text no_frame_rows (map read_frame_line text_kept.lines) ≡ rows
  task : 1 ≤ length rows.tasks
  answered : frame_read text ≡ pair_told no_frame_rows 2 (equal_frame_tasks rows.tasks) (taken rows)

judged : (text : List ℕ) → NotRefused (frame_read text).answer → Judged text
unfolding frame_read
judged text e =
    let w = not_refused_kept frame_text text e in
    let a = rows_grown frame_text no_frame_rows (map read_frame_line w.lines) in
    let n = 1 + length w.lines in
    let q = kept_ends frame_text text w in
    let p = ended_pair n a (subst (λ (x : ReadOf FrameRows). NotRefused x.answer) q e) in
    record { text_kept = w; rows = a; grown = refl; task = p.0; answered = q ∙ p.1 }

allowed_taken : (text : List ℕ) (a : FrameRows) → FrameAllowed text a → frame_read text ≡ taken a
unfolding frame_read
allowed_taken text a w =
    kept_ends frame_text text
    (record { short = w.short; lines = w.lines; closes = w.closes; kept = w.kept })
    ∙ rw w.rows
    (pair_ended (1 + length w.lines) a w.task
    ∙ rw (differ_pair (length a.tasks) (λ k. (get_or a.tasks k no_frame_task).priority) w.differing))

taken_allowed : (text : List ℕ) → (frame_read text).answer ≡ Ok tt → FrameAllowed text (frame_read text).rows
taken_allowed text e =
    let j = judged text (taken_not e) in
    let a = j.rows in
    let w = j.text_kept in
    let p =
    pair_taken no_frame_rows 2 (equal_frame_tasks a.tasks) (taken a)
    (ap (λ (x : ReadOf FrameRows). x.answer) (sym j.answered) ∙ e) in
    let z : frame_read text ≡ taken a =
    j.answered ∙ ap (λ x. pair_told no_frame_rows 2 x (taken a)) p.0 in
    subst (FrameAllowed text) (ap (λ (x : ReadOf FrameRows). x.rows) (sym z))
    (record {
      short = w.short;
      lines = w.lines;
      closes = w.closes;
      kept = w.kept;
      rows = j.grown;
      task = j.task;
      differing = pair_differ (length a.tasks) (λ k. (get_or a.tasks k no_frame_task).priority) p.0;
    })

-- which numbers there are
abbrev Numbered : Reading → Type 0
Numbered r = (reading_number r ≡ 0) ⊎ (reading_number r ≡ 1) ⊎ (reading_number r ≡ 2) ⊎ (reading_number r ≡ 5)

abbrev StandingNumbered : Standing → Type 0
StandingNumbered s = (standing_number s ≡ 0) ⊎ (standing_number s ≡ 1) ⊎ (standing_number s ≡ 2)

standing_numbered : (n : ℕ) (a : FrameRows) (l : FrameLine) → StandingNumbered (frame_standing n a l)
unfolding frame_standing
standing_numbered n a l =
    if_ind StandingNumbered (frame_placed n (frame_word_of l))
    (λ e. told (frame_malformed_at l) (first_failed (frame_bounds a l))) (λ e. inr (inl refl))
  where
    told : (x y : Option ℕ) → StandingNumbered (tell Malformed at x or tell OutOfBounds at y or (Ok tt))
    told (Some field) y = inr (inl refl)
    told None (Some field) = inr (inr refl)
    told None None = inl refl

broken_numbered : (n : ℕ) (a : FrameRows) (l : FrameLine) (why : Refusal) (field : ℕ) →
    frame_standing n a l ≡ breaks why field → Numbered (Err (Refused why n field))
broken_numbered n a l why field e = go (subst StandingNumbered e (standing_numbered n a l))
  where
    go : StandingNumbered (breaks why field) → Numbered (Err (Refused why n field))
    go (inl z) = inl z
    go (inr (inl z)) = inr (inl z)
    go (inr (inr z)) = inr (inr (inl z))

ended_numbered : (n : ℕ) (a : FrameRows) → Numbered (frame_ended n a).answer
unfolding frame_ended
ended_numbered n a =
    if_ind (λ (r : ReadOf FrameRows). Numbered r.answer) (not (is_nil a.tasks))
    (λ e. told (equal_frame_tasks a.tasks)) (λ e. inr (inl refl))
  where
    told : (p : Option (ℕ × ℕ)) → Numbered (pair_told no_frame_rows 2 p (taken a)).answer
    told (Some (i, j)) = inr (inr (inr refl))
    told None = inl refl

ended_none : (n : ℕ) (a : FrameRows) → ((frame_ended n a).answer ≡ Ok tt) ⊎ ((frame_ended n a).rows ≡ no_frame_rows)
unfolding frame_ended
ended_none n a =
    if_ind (λ (r : ReadOf FrameRows). (r.answer ≡ Ok tt) ⊎ (r.rows ≡ no_frame_rows)) (not (is_nil a.tasks))
    (λ e. told (equal_frame_tasks a.tasks)) (λ e. inr refl)
  where
    told : (p : Option (ℕ × ℕ)) →
        let r = pair_told no_frame_rows 2 p (taken a) in (r.answer ≡ Ok tt) ⊎ (r.rows ≡ no_frame_rows)
    told (Some (i, j)) = inr refl
    told None = inl refl

-- The statements to quote. `frame_shown (frame_read text)` is what the reader answers.
module _ (text : List ℕ) where
  -- A text is taken exactly if it has no fault: every line keeps the rules where it stands, there is
  -- a task, and priorities differ.
  pub frame_taken_exactly : (a : FrameRows) → (frame_read text ≡ taken a) ↔ FrameAllowed text a
  frame_taken_exactly a = (
    λ e.
        subst (FrameAllowed text) (ap (λ (x : ReadOf FrameRows). x.rows) e)
        (taken_allowed text (ap (λ (x : ReadOf FrameRows). x.answer) e)),
    allowed_taken text a,
  )

  -- What is read keeps the rules.
  pub frame_rows_keep : (frame_read text).answer ≡ Ok tt → frame_keeps (frame_read text).rows ≡ true
  frame_rows_keep e =
      let w = taken_allowed text e in
      let g = lines_good (map read_frame_line w.lines) w.kept (rw w.rows w.task) in
      good_keeps (frame_read text).rows (subst FrameGood w.rows g) w.task w.differing

  -- "a refused read hands back no table"
  pub frame_refused_none : ((frame_read text).answer ≡ Ok tt → ⊥) → (frame_read text).rows ≡ no_frame_rows
  unfolding frame_read
  frame_refused_none f =
      elim (taken_or_none frame_text ended_none text) [ inl e ↦ absurd (f e) | inr e ↦ e ]

  pub frame_refused_no_table : ((frame_read text).answer ≡ Ok tt → ⊥) →
      (frame_shown (frame_read text)).table ≡ no_frame_table
  unfolding frame_shown
  frame_refused_no_table f = ap frame_table_of (frame_refused_none f)

  -- No number is given but 1, 2 and 5, and 0 where the text is taken.
  pub frame_numbers : Numbered (frame_read text).answer
  unfolding frame_read
  frame_numbers =
      text_ind frame_text (λ r. Numbered r.answer) broken_numbered (λ n. inr (inl refl)) ended_numbered
      (inr (inr (inl refl))) text
