-- 02, No. 2, "Tell us which field", changed number 4 and added the field. Here stand the reading of
-- a table text as it was before that request, its names beginning with `old`, and the statement
-- that nothing else moved. Two things are put in another way than they were: a refusal is its
-- number, and the leading words are asked by name, since a form no longer holds its word. But for
-- the forms so shortened, what is imported for the old reading is what the request left alone. The
-- phase of No. 7 stands in both readings: it came later, and has no number of its own.
-- proofs/OldReading.antt proves the statement.
use Rattle.std.specs.Prelude.{◌≡◌, Bool, true, false, not, ◌&&◌, List, [], ◌∷◌, ◌++◌, ℕ, ◌+◌, ◌*◌, leb, ltb, eqb, length, if◌then◌else◌, None, Option, Some, Err, Ok}
use Rattle.laws.specs.Choice.{unless◌say◌else◌, every, within}
use Rattle.laws.specs.RoundUp.{up}
use Rattle.decimal.specs.Lines.{tab, line_feed, split, same}
use Rattle.units.specs.declared.Micros.{Micros}
use Rattle.table.specs.declared.ByMode.{ByMode}
use Rattle.table.specs.declared.Server.{Server}
use Rattle.table.specs.Rows.{Rows, no_rows}
use Rattle.table.specs.Rules.{tick_keeps, same_partition, degraded_timed, timed_at_home}
use Rattle.table.specs.Pairs.{equal_servers, equal_tasks}
use Rattle.text.specs.declared.ServerLine.{ServerLine}
use Rattle.text.specs.declared.TaskLine.{TaskLine}
use Rattle.text.specs.Words.{tick_word, server_word, task_word}
use Rattle.text.specs.Line.{Expected, fits, Form, tick_form, server_form, task_form}
use Rattle.text.specs.Line.{micros_at, server_said, task_said}
use Rattle.text.specs.Standing.{is_nil, phase_said, server_of, limits_of, task_of, whole}
use Rattle.text.specs.Read.{reading_number, ReadRows, read}
use Rattle.units.specs.declared.Ticks.{Ticks}
use Rattle.text.specs.declared.ReadError.TheVariants.{Equal, Refused}
use Rattle.text.specs.TableText.{Reading}

-- What a line said: of one that is malformed neither the leading word nor a field.
pub data OldLine : Type 0 where
  old_tick : Micros → OldLine
  old_server : ServerLine → OldLine
  old_task : TaskLine → OldLine
  old_malformed : OldLine

-- each field is what is expected there, and there is none beyond
unfoldable pub old_all_fit : List Expected → List (List ℕ) → Bool
old_all_fit es [] = true
old_all_fit [] (f ∷ fs) = false
old_all_fit (e ∷ es) (f ∷ fs) = fits e f && old_all_fit es fs

-- there are enough fields, and each is as the form expects
unfoldable pub old_has : Form → List (List ℕ) → Bool
old_has form fs = leb form.least (length fs) && old_all_fit form.fields fs

-- what a line says whose fields have the form
abbrev pub old_formed : Form → List (List ℕ) → OldLine → OldLine
old_formed form fs said = if old_has form fs then said else old_malformed

-- The leading word tells which form the fields after it must have.
unfoldable pub old_line_of : List (List ℕ) → OldLine
old_line_of [] = old_malformed
old_line_of (w ∷ fs) =
    if same w tick_word then old_formed tick_form fs (old_tick (micros_at fs 1))
    else if same w server_word then old_formed server_form fs (old_server (server_said fs))
    else if same w task_word then old_formed task_form fs (old_task (task_said fs))
    else old_malformed

-- "lines parted by tabs"
unfoldable pub old_read_line : List ℕ → OldLine
old_read_line l = old_line_of (split tab l)

-- 1, "malformed, missing or misplaced line": where each line may stand, n being its number and a
-- the rows above it. "one `tick` line, then 1 to 32 `server` lines, then 1 to 64 `task` lines"
unfoldable pub old_placed : ℕ → Rows → OldLine → Bool
old_placed n a (old_tick t) = eqb n 1
old_placed n a (old_server s) = ltb 1 n && is_nil a.tasks
old_placed n a (old_task k) = not (is_nil a.servers)
old_placed n a old_malformed = false

-- 2, "a number or row count out of bounds". "A 33rd server or 65th task is 2 at its line."
-- "partition 0 to 15; kind; priority 1 to 255, greater first; period; capacities in N, D1, D2.
-- Period 1 to 1,000,000 ticks, capacity 0 to the period, all whole ticks. These bounds are compared
-- in microseconds." No. 7: "a phase above the period less one tick, in microseconds, is 2".
unfoldable pub old_server_bounds : ℕ → ℕ → ServerLine → List Bool
old_server_bounds rows t s =
    ltb rows 32
    ∷ within 0 15 s.partition
    ∷ within 1 255 s.priority
    ∷ within t (1000000 * t) s.period.0
    ∷ leb s.capacity.n.0 s.period.0
    ∷ leb s.capacity.d1.0 s.period.0
    ∷ leb s.capacity.d2.0 s.period.0
    ∷ leb ((phase_said s.phase).0 + t) s.period.0
    ∷ []

-- "priority 1 to 255, greater first; level; limits for N, D1, D2, each rounded up to a tick, then 1
-- to 100,000"
unfoldable pub old_task_bounds : ℕ → ℕ → TaskLine → List Bool
old_task_bounds rows t k =
    ltb rows 64
    ∷ within 1 255 k.priority
    ∷ within 1 100000 (up k.limit.n.0 t)
    ∷ within 1 100000 (up k.limit.d1.0 t)
    ∷ within 1 100000 (up k.limit.d2.0 t)
    ∷ []

unfoldable pub old_bounds : Rows → OldLine → List Bool
old_bounds a (old_tick t) = tick_keeps t.0 ∷ []
old_bounds a (old_server s) = old_server_bounds (length a.servers) a.tick.0 s
old_bounds a (old_task k) = old_task_bounds (length a.tasks) a.tick.0 k
old_bounds a old_malformed = []

-- 3, "period or capacity not whole ticks"; No. 7, of a phase: "not whole ticks is 3"
unfoldable pub old_server_whole : ℕ → ServerLine → List Bool
old_server_whole t s =
    whole t s.period
    ∷ whole t s.capacity.n
    ∷ whole t s.capacity.d1
    ∷ whole t s.capacity.d2
    ∷ whole t (phase_said s.phase)
    ∷ []

unfoldable pub old_wholes : Rows → OldLine → List Bool
old_wholes a (old_tick t) = []
old_wholes a (old_server s) = old_server_whole a.tick.0 s
old_wholes a (old_task k) = []
old_wholes a old_malformed = []

-- "home server; degraded server": rows of the table
abbrev pub old_rows_there : List Server → ℕ → ℕ → Bool
old_rows_there ss home degraded = ltb home (length ss) && ltb degraded (length ss)

-- "and not falling"
abbrev pub old_rising : ByMode Ticks → Bool
old_rising x = leb x.n.0 x.d1.0 && leb x.d1.0 x.d2.0

-- 4, "server row absent (however great its number), wrong degraded server, falling limits": the
-- first that applies. Each of the five had the number 4, and 0 is that none does.
unfoldable pub old_task_fault : List Server → ℕ → ℕ → ByMode Ticks → ℕ
old_task_fault ss home degraded limit =
    unless old_rows_there ss home degraded say 4
    else unless same_partition ss home degraded say 4
    else unless degraded_timed ss degraded say 4
    else unless timed_at_home ss home degraded say 4
    else unless old_rising limit say 4
    else 0

unfoldable pub old_fault : Rows → OldLine → ℕ
old_fault a (old_tick t) = 0
old_fault a (old_server s) = 0
old_fault a (old_task k) =
    old_task_fault a.servers k.home k.degraded (limits_of a.tick.0 k.limit)
old_fault a old_malformed = 0

-- "line by line 1, 2, 3, 4": the number of a line, 0 where it keeps the rules
unfoldable pub old_standing : ℕ → Rows → OldLine → ℕ
old_standing n a l =
    unless old_placed n a l say 1
    else unless every (old_bounds a l) say 2
    else unless every (old_wholes a l) say 3
    else old_fault a l

-- the rows with those of one more line, which keeps the rules there
unfoldable pub old_grown : Rows → OldLine → Rows
old_grown a (old_tick t) = record { tick = t; servers = a.servers; tasks = a.tasks }
old_grown a (old_server s) =
    record {
      tick = a.tick;
      servers = a.servers ++ (server_of a.tick.0 s ∷ []);
      tasks = a.tasks;
    }
old_grown a (old_task k) =
    record {
      tick = a.tick;
      servers = a.servers;
      tasks = a.tasks ++ (task_of a.tick.0 k ∷ []);
    }
old_grown a old_malformed = a

-- What was told of a text: the number, 0 where it is taken; what came back with it, "line", "both
-- lines"; and the rows of a text that is taken.
pub record OldAnswer : Type 0 where
  pub number : ℕ
  pub lines : List ℕ
  pub rows : Rows

abbrev pub old_taken : Rows → OldAnswer
old_taken a = record { number = 0; lines = []; rows = a }

abbrev pub old_refused : ℕ → ℕ → OldAnswer
old_refused number line = record { number = number; lines = line ∷ []; rows = no_rows }

abbrev pub old_equal : ℕ → ℕ → OldAnswer
old_equal first second = record { number = 5; lines = first ∷ second ∷ []; rows = no_rows }

-- 5, "equal priorities", "both lines". "Rows count from 0 within their kind, lines from 1": row 0
-- stands on line `top`. Where no two are equal, r is said.
abbrev pub old_pair_said : ℕ → Option (ℕ × ℕ) → OldAnswer → OldAnswer
old_pair_said top (Some (i, j)) r = old_equal (top + i) (top + j)
old_pair_said top None r = r

-- Servers stand below the `tick` line, tasks below the servers. "then the same for tasks"
unfoldable pub old_compared : Rows → OldAnswer
old_compared a =
    old_pair_said 2 (equal_servers a.servers)
    (old_pair_said (2 + length a.servers) (equal_tasks a.tasks) (old_taken a))

-- The text ends before line n. "Empty text is 1 at line 1, a missing line 1 at the line after the
-- last": the last line is a `task` line.
unfoldable pub old_ended : ℕ → Rows → OldAnswer
old_ended n a = unless not (is_nil a.tasks) say old_refused 1 n else old_compared a

-- The first line that breaks a rule is told. Where line n keeps them, r is said.
abbrev pub old_line_said : ℕ → ℕ → OldAnswer → OldAnswer
old_line_said n number r = unless eqb number 0 say old_refused number n else r

-- From line n on, a being the rows above it. "an unclosed last line 1 at itself": the last part is
-- what stands after the last line feed. (There is always a part.)
unfoldable pub old_read_from : ℕ → Rows → List (List ℕ) → OldAnswer
old_read_from n a [] = old_refused 1 n
old_read_from n a (l ∷ []) = unless is_nil l say old_refused 1 n else old_ended n a
old_read_from n a (l ∷ (m ∷ ms)) =
    old_line_said n (old_standing n a (old_read_line l))
    (old_read_from (n + 1) (old_grown a (old_read_line l)) (m ∷ ms))

-- "length first": "The text is at most 16,384 bytes"; "text too long (line 0)"
unfoldable pub old_read : List ℕ → OldAnswer
old_read text =
    unless leb (length text) 16384 say old_refused 2 0
    else old_read_from 1 no_rows (split line_feed text)

-- The present answer as it was told before: "41 to 45 stand in its place", so each of them is 4,
-- and the field is left out.
abbrev pub number_before : ℕ → ℕ
number_before number = if within 41 45 number then 4 else number

abbrev pub lines_before : Reading → List ℕ
lines_before (Ok tt) = []
lines_before (Err (Refused why line field)) = line ∷ []
lines_before (Err (Equal first second)) = first ∷ second ∷ []

abbrev pub as_before : ReadRows → OldAnswer
as_before r =
    record {
      number = number_before (reading_number r.answer);
      lines = lines_before r.answer;
      rows = r.rows;
    }

-- a text is taken exactly when it was before, with the same rows; it is refused at the same line;
-- and the number is the same but for 4
abbrev pub NothingElseMoved : Type 0
NothingElseMoved = (text : List ℕ) → as_before (read text) ≡ old_read text
