-- Condition 1: "Any table, event or state may be handed in, in any order, and is taken or refused
-- by number. A refused event takes no tick and changes nothing; a refused read hands back no table;
-- a refused write leaves the lent bytes as they were." 01, Numbers for no: "Each is given exactly
-- in its case." No public function has a `requires`, and each answers as these definitions say, so
-- a statement of every text, table, run and room is one of all that may be handed in.
--
-- The statements, in this order, the words of each above it: of the reader EachRead, NoTableBack,
-- NoTableKeepsNone, ReadKeeps, RowsRead, EachHandedBack, EachHandedNumber; of a line EachLine, EachFault; of what is handed in
-- TableExactly, SoundExactly; of the run EachStart, EachRelease, EachTick, NeitherCount,
-- RefusedChangesNothing, EachMany, EachFind; of the writer EachWrite, RoomEnough, WriteThenRead,
-- ReadThenWrite; EachVerdict, EachCut, EachPrint; and on texts worked out by hand AnswerLines,
-- TableLines, DegradedLines, PairLines.
-- proofs/Condition1.antt proves them, with Reading, Asked and Rules beside it.
use Rattle.std.specs.Prelude.{◌≡◌, Bool, true, false, List, [], ◌∷◌, ◌++◌, map, ◌⊎◌, ◌↔◌, ℕ, ◌+◌, ◌*◌, ◌-◌, ◌%◌, ◌≤◌, ◌<◌, length, get_or, take, drop, None, Some}
use Prim.Native.String.{String}
use Rattle.laws.specs.Quoted.{bytes, lined}
use Rattle.laws.specs.Rows.{sum_below}
use Rattle.units.specs.declared.Ticks.{Ticks}
use Rattle.decimal.specs.Number.{is_number, worth}
use Rattle.decimal.specs.Lines.{tab, line_feed, split}
use Rattle.table.specs.declared.Level.TheVariants.{LO}
use Rattle.table.specs.declared.Kind.{Kind}
use Rattle.table.specs.declared.Kind.TheVariants.{Event as EventKind, Timed}
use Rattle.table.specs.declared.ByMode.{ByMode}
use Rattle.table.specs.declared.Mode.{Mode}
use Rattle.table.specs.declared.Mode.TheVariants.{D2}
use Rattle.table.specs.declared.Server.{Server}
use Rattle.table.specs.declared.Task.{Task}
use Rattle.table.specs.declared.Table.{Table}
use Rattle.table.specs.Refusals.{number_of, standing_number, standing_field, Standing}
use Rattle.table.specs.Rows.{Rows, rows_of, no_rows, no_table, no_server, no_task, server_at, task_at}
use Rattle.table.specs.Rows.{period_at, phase_at, limit_at, largest}
use Rattle.table.specs.Rules.{task_fault, table_keeps}
use Rattle.text.specs.declared.Word.{Word}
use Rattle.text.specs.declared.Word.TheVariants.{ATick, AServer, ATask, Unknown}
use Rattle.text.specs.declared.ServerLine.{ServerLine}
use Rattle.text.specs.declared.TaskLine.{TaskLine}
use Rattle.text.specs.declared.Line.{Line}
use Rattle.text.specs.declared.Line.TheVariants.{OfTick, OfServer, OfTask, Malformed}
use Rattle.text.specs.Line.{field_at, server_said, task_said, leading, read_line}
use Rattle.text.specs.Standing.{phase_said, limits_of, standing}
use Rattle.text.specs.Read.{reading_number, reading_values, read, shown}
use Rattle.text.specs.Allowed.{grown_by, Allowed}
use Rattle.text.specs.Write.{Wrote, write, writing_number, writing_values, wrote}
use Rattle.verdict.specs.declared.Verdict.{Verdict}
use Rattle.verdict.specs.declared.Verdict.TheVariants.{Response, Misses, No}
use Rattle.verdict.specs.Verdict.{verdict_of}
use Rattle.run.specs.declared.State.{State}
use Rattle.run.specs.declared.Run.{Run}
use Rattle.events.specs.declared.Begun.{Begun}
use Rattle.events.specs.declared.Event.{Event}
use Rattle.events.specs.declared.Event.TheVariants.{Release, Tick}
use Rattle.run.specs.State.{used_at, elapsed_at, waiting_at, runs_at, with_counts}
use Rattle.run.specs.Sound.{sound}
use Rattle.events.specs.Answers.{no_of}
use Rattle.events.specs.Answers.{starting_number}
use Rattle.run.specs.Release.{fresh_run, start_of}
use Rattle.run.specs.Events.{event_of}
use Rattle.events.specs.Values.{lines_said}
use Rattle.events.specs.Answers.{taking_number}
use Rattle.run.specs.Many.{Lent, many_of, LentBoth, find_of}
use Rattle.lines.specs.declared.Held.{Held}
use Rattle.lines.specs.Cutting.{CutInto, cut_of}
use Rattle.lines.specs.Print.{lines_lent, PrintedInto, print_of}
use Rattle.lines.specs.Night.{night}
use Rattle.text.specs.TableText.{Read, handed, answer_in, HandsBack}

-- THE READER, numbers 1, 2, 3, 41 to 45 and 5. What is read of a text: the number, and the line and
-- the field, for 5 both lines; and the table.
abbrev pub read_as : List ℕ → Read Table
read_as text = shown (read text)

abbrev pub Reads : List ℕ → ℕ → List ℕ → Type 0
Reads text k told =
    (reading_number (read_as text).answer ≡ k) × (reading_values (read_as text).answer ≡ told)

-- "Rows count from 0 within their kind, lines from 1." How many lines are closed by a line feed;
-- the bytes of line n; and what they say.
abbrev pub closed_lines : List ℕ → ℕ
closed_lines text = length (split line_feed text) - 1

abbrev pub bytes_at : List ℕ → ℕ → List ℕ
bytes_at text n = get_or (split line_feed text) (n - 1) []

abbrev pub line_at : List ℕ → ℕ → Line
line_at text n = read_line (bytes_at text n)

-- the line after the last closed one: nothing stands there where the last line is closed
abbrev pub end_line : List ℕ → ℕ
end_line text = closed_lines text + 1

-- the rows of the lines above line n
abbrev pub rows_above : List ℕ → ℕ → Rows
rows_above text n = grown_by no_rows (map read_line (take (n - 1) (split line_feed text)))

-- the number of line n where it stands, 0 if it keeps the rules there, and its field: `EachLine`
-- says which
abbrev pub standing_of : List ℕ → ℕ → Standing
standing_of text n = standing n (rows_above text n) (line_at text n)

abbrev pub fault_at : List ℕ → ℕ → ℕ
fault_at text n = standing_number (standing_of text n)

abbrev pub fault_field : List ℕ → ℕ → ℕ
fault_field text n = standing_field (standing_of text n)

abbrev pub StandAbove : List ℕ → ℕ → Type 0
StandAbove text n = (m : ℕ) → 1 ≤ m → m < n → fault_at text m ≡ 0

-- every line stands, the last is closed, and there is a task
pub record Complete (text : List ℕ) : Type 0 where
  pub short : length text ≤ 16384
  pub stand : StandAbove text (end_line text)
  pub closes : length (bytes_at text (end_line text)) ≡ 0
  pub task : 1 ≤ length (rows_above text (end_line text)).tasks

-- Pairs of `server` lines, and of `task` lines, of equal priority.
abbrev pub is_server : Line → Bool
is_server (OfTick t) = false
is_server (OfServer s) = true
is_server (OfTask k) = false
is_server (Malformed word field) = false

abbrev pub is_task : Line → Bool
is_task (OfTick t) = false
is_task (OfServer s) = false
is_task (OfTask k) = true
is_task (Malformed word field) = false

abbrev pub priority_in : Line → ℕ
priority_in (OfTick t) = 0
priority_in (OfServer s) = s.priority
priority_in (OfTask k) = k.priority
priority_in (Malformed word field) = 0

pub record EqualLines (of : Line → Bool) (text : List ℕ) (x y : ℕ) : Type 0 where
  pub counted : 1 ≤ x
  pub ordered : x < y
  pub smaller : of (line_at text x) ≡ true
  pub larger : of (line_at text y) ≡ true
  pub equal : priority_in (line_at text x) ≡ priority_in (line_at text y)

abbrev pub NoneEqual : (Line → Bool) → List ℕ → Type 0
NoneEqual of text = (x y : ℕ) → EqualLines of text x y → ⊥

-- "pairs ordered by it, then by the larger row"
abbrev pub Before : ℕ → ℕ → ℕ → ℕ → Type 0
Before v w x y = (v < x) ⊎ ((v ≡ x) × (w < y))

pub record FirstEqual (of : Line → Bool) (text : List ℕ) (x y : ℕ) : Type 0 where
  pub pair : EqualLines of text x y
  pub first : (v w : ℕ) → Before v w x y → EqualLines of text v w → ⊥

-- The cases of the reader, in the page's order, each with its number and what comes back: the line,
-- and "the field, counted from 1 after the leading word, or 0 for the line itself".
pub data ReadCase (text : List ℕ) : ℕ → List ℕ → Type 0 where
  -- "Reading: length first"; 2, "text too long (line 0)"
  too_long : 16384 < length text → ReadCase text 2 (0 ∷ 0 ∷ [])
  -- "then line by line": the first line that does not stand, its number and its field
  first_fault : (n : ℕ) → length text ≤ 16384 → 1 ≤ n → n ≤ closed_lines text → StandAbove text n →
      1 ≤ fault_at text n → ReadCase text (fault_at text n) (n ∷ fault_field text n ∷ [])
  -- "an unclosed last line 1 at itself"
  unclosed : length text ≤ 16384 → StandAbove text (end_line text) →
      1 ≤ length (bytes_at text (end_line text)) → ReadCase text 1 (end_line text ∷ 0 ∷ [])
  -- "Empty text is 1 at line 1, a missing line 1 at the line after the last"
  missing : length text ≤ 16384 → StandAbove text (end_line text) →
      length (bytes_at text (end_line text)) ≡ 0 → length (rows_above text (end_line text)).tasks ≡ 0 →
      ReadCase text 1 (end_line text ∷ 0 ∷ [])
  -- "then 5 for the first pair of server rows with equal priority, smaller row first"
  equal_servers : (x y : ℕ) → Complete text → FirstEqual is_server text x y →
      ReadCase text 5 (x ∷ y ∷ [])
  -- "then the same for tasks"
  equal_tasks : (x y : ℕ) → Complete text → NoneEqual is_server text → FirstEqual is_task text x y →
      ReadCase text 5 (x ∷ y ∷ [])
  -- else the text is taken
  taken : Complete text → NoneEqual is_server text → NoneEqual is_task text → ReadCase text 0 []

abbrev pub EachRead : Type 0
EachRead =
    (text : List ℕ) (k : ℕ) (told : List ℕ) → Reads text k told ↔ ReadCase text k told

-- "a refused read hands back no table": what stands beside a refusal keeps no rule, and what is
-- taken keeps them all
abbrev pub NoTableBack : Type 0
NoTableBack =
    (text : List ℕ) → (reading_number (read_as text).answer ≡ 0 → ⊥) → (read_as text).table ≡ no_table

abbrev pub NoTableKeepsNone : Type 0
NoTableKeepsNone = table_keeps no_table ≡ false

abbrev pub ReadKeeps : Type 0
ReadKeeps =
    (text : List ℕ) → reading_number (read_as text).answer ≡ 0 →
    table_keeps (read_as text).table ≡ true

-- the rows that are read are those that the text says
abbrev pub RowsRead : Type 0
RowsRead =
    (text : List ℕ) (a : Rows) →
    (Reads text 0 [] × (rows_of (read_as text).table ≡ a)) ↔ Allowed text a

-- What `reader::read_table` hands back, the table or why there is none, says all this and no more: so
-- what is stated of `read_as` is so of it. A refusal has no place for a table.
abbrev pub EachHandedBack : Type 0
EachHandedBack = (text : List ℕ) → HandsBack (read_as text)

abbrev pub EachHandedNumber : Type 0
EachHandedNumber =
    (text : List ℕ) (k : ℕ) (told : List ℕ) →
    let a = answer_in (handed (read_as text)) in
    ((reading_number a ≡ k) × (reading_values a ≡ told)) ↔ ReadCase text k told

-- all of these hold
abbrev pub All : List {1} (Type 0) → Type 0
All [] = Unit {0}
All (P ∷ Ps) = P × All Ps

abbrev pub Within : ℕ → ℕ → ℕ → Type 0
Within low high x = (low ≤ x) × (x ≤ high)

-- A LINE, numbers 1, 2, 3 and 41 to 45: line n below the rows a. What is asked of it, and the
-- number and the field that are told where that does not hold.
pub record Asked : Type 1 where
  pub number : ℕ
  pub field : ℕ
  pub holds : Type 0

infix 4 no◌at◌unless◌
abbrev pub no◌at◌unless◌ : ℕ → ℕ → Type 0 → Asked
no number at field unless P = record { number = number; field = field; holds = P }

-- "the first that applies being told"; where all hold, number and field are 0
abbrev pub Tells : List {1} Asked → ℕ → ℕ → Type 0
Tells [] number field = (number ≡ 0) × (field ≡ 0)
Tells (q ∷ qs) number field =
    ((q.holds → ⊥) × (number ≡ q.number) × (field ≡ q.field))
    ⊎ (q.holds × Tells qs number field)

-- all that is asked holds
abbrev pub AllHold : List {1} Asked → Type 0
AllHold [] = Unit {0}
AllHold (q ∷ qs) = q.holds × AllHold qs

-- 1, "malformed": what a field is expected to be
abbrev pub IsNumber : List ℕ → Type 0
IsNumber f = is_number f ≡ true

abbrev pub IsKind : List ℕ → Type 0
IsKind f = (f ≡ bytes "event") ⊎ (f ≡ bytes "timed")

abbrev pub IsLevel : List ℕ → Type 0
IsLevel f = (f ≡ bytes "LO") ⊎ ((f ≡ bytes "MI") ⊎ (f ≡ bytes "HI"))

-- 1, "malformed, missing or misplaced line, or unknown word": "one `tick` line, then 1 to 32
-- `server` lines, then 1 to 64 `task` lines". "a wrong leading word or count of fields in 1, and a
-- row too many in 2, is told first, as 0": a misplaced line has the wrong leading word there.
--
-- The first line. "`tick`: microseconds in a tick, 1 to 10,000."
abbrev pub tick_asked : ℕ → List (List ℕ) → List {1} Asked
tick_asked n fs =
    (no 1 at 0 unless (n ≡ 1))
    ∷ (no 1 at 0 unless (length fs ≡ 1))
    ∷ (no 1 at 1 unless IsNumber (field_at fs 1))
    ∷ (no 2 at 1 unless Within 1 10000 (worth (field_at fs 1)))
    ∷ []

-- A line below the first and above all `task` lines. 2, "a number or row count out of bounds". "A
-- 33rd server or 65th task is 2 at its line." "partition 0 to 15; kind; priority 1 to 255, greater
-- first; period; capacities in N, D1, D2. Period 1 to 1,000,000 ticks, capacity 0 to the period,
-- all whole ticks. These bounds are compared in microseconds." Of a capacity and the period "the
-- later where two fields disagree". 3, "period or capacity not whole ticks". No. 7: a phase "as a
-- last field", which may be absent; "a phase above the period less one tick, in microseconds, is 2,
-- not whole ticks is 3".
abbrev pub server_asked : ℕ → Rows → List (List ℕ) → List {1} Asked
server_asked n a fs =
    let s = server_said fs in
    let t = a.tick.0 in
    let phase = (phase_said s.phase).0 in
    (no 1 at 0 unless ((2 ≤ n) × (length a.tasks ≡ 0)))
    ∷ (no 1 at 0 unless Within 7 8 (length fs))
    ∷ (no 1 at 1 unless IsNumber (field_at fs 1))
    ∷ (no 1 at 2 unless IsKind (field_at fs 2))
    ∷ (no 1 at 3 unless IsNumber (field_at fs 3))
    ∷ (no 1 at 4 unless IsNumber (field_at fs 4))
    ∷ (no 1 at 5 unless IsNumber (field_at fs 5))
    ∷ (no 1 at 6 unless IsNumber (field_at fs 6))
    ∷ (no 1 at 7 unless IsNumber (field_at fs 7))
    ∷ (no 1 at 8 unless (8 ≤ length fs → IsNumber (field_at fs 8)))
    ∷ (no 2 at 0 unless (length a.servers < 32))
    ∷ (no 2 at 1 unless Within 0 15 s.partition)
    ∷ (no 2 at 3 unless Within 1 255 s.priority)
    ∷ (no 2 at 4 unless Within t (1000000 * t) s.period.0)
    ∷ (no 2 at 5 unless (s.capacity.n.0 ≤ s.period.0))
    ∷ (no 2 at 6 unless (s.capacity.d1.0 ≤ s.period.0))
    ∷ (no 2 at 7 unless (s.capacity.d2.0 ≤ s.period.0))
    ∷ (no 2 at 8 unless (phase + t ≤ s.period.0))
    ∷ (no 3 at 4 unless (s.period.0 % t ≡ 0))
    ∷ (no 3 at 5 unless (s.capacity.n.0 % t ≡ 0))
    ∷ (no 3 at 6 unless (s.capacity.d1.0 % t ≡ 0))
    ∷ (no 3 at 7 unless (s.capacity.d2.0 % t ≡ 0))
    ∷ (no 3 at 8 unless (phase % t ≡ 0))
    ∷ []

-- the kind and the partition of server row i
abbrev pub kind_at : List Server → ℕ → Kind
kind_at ss i = (get_or ss i no_server).kind

abbrev pub partition_at : List Server → ℕ → ℕ
partition_at ss i = (get_or ss i no_server).partition

-- 41 to 45, "absent server row, degraded server of another partition, degraded server not timed,
-- timed home with another degraded server, falling limits": "in the order given here, the first
-- that applies being told, leftmost field concerned, the later where two fields disagree".
--
-- 41 to 44. "The degraded server is timed and of the home's partition; for a timed home it is the
-- home."
abbrev pub rows_asked : List Server → ℕ → ℕ → List {1} Asked
rows_asked ss home degraded =
    (no 41 at 1 unless (home < length ss))
    ∷ (no 41 at 2 unless (degraded < length ss))
    ∷ (no 42 at 2 unless (partition_at ss degraded ≡ partition_at ss home))
    ∷ (no 43 at 2 unless (kind_at ss degraded ≡ Timed))
    ∷ (no 44 at 2 unless (kind_at ss home ≡ Timed → degraded ≡ home))
    ∷ []

-- 45. "limits for N, D1, D2, each rounded up to a tick, then 1 to 100,000 and not falling"
abbrev pub limits_asked : ByMode Ticks → List {1} Asked
limits_asked limit =
    (no 45 at 6 unless (limit.n.0 ≤ limit.d1.0))
    ∷ (no 45 at 7 unless (limit.d1.0 ≤ limit.d2.0))
    ∷ []

abbrev pub fault_asked : List Server → ℕ → ℕ → ByMode Ticks → List {1} Asked
fault_asked ss home degraded limit = rows_asked ss home degraded ++ limits_asked limit

-- the server rows that a task names are right: 45 is told only then
abbrev pub RowsFit : List Server → ℕ → ℕ → Type 0
RowsFit ss home degraded = AllHold (rows_asked ss home degraded)

-- a task has none of these faults: 13 asks it of a task's row by the same questions
abbrev pub TaskFits : List Server → ℕ → ℕ → ByMode Ticks → Type 0
TaskFits ss home degraded limit = AllHold (fault_asked ss home degraded limit)

-- A line below a `server` line. "priority 1 to 255, greater first; level; limits for N, D1, D2,
-- each rounded up to a tick, then 1 to 100,000 and not falling."
abbrev pub task_asked : Rows → List (List ℕ) → List {1} Asked
task_asked a fs =
    let k = task_said fs in
    let limit = limits_of a.tick.0 k.limit in
    (no 1 at 0 unless (1 ≤ length a.servers))
    ∷ (no 1 at 0 unless (length fs ≡ 7))
    ∷ (no 1 at 1 unless IsNumber (field_at fs 1))
    ∷ (no 1 at 2 unless IsNumber (field_at fs 2))
    ∷ (no 1 at 3 unless IsNumber (field_at fs 3))
    ∷ (no 1 at 4 unless IsLevel (field_at fs 4))
    ∷ (no 1 at 5 unless IsNumber (field_at fs 5))
    ∷ (no 1 at 6 unless IsNumber (field_at fs 6))
    ∷ (no 1 at 7 unless IsNumber (field_at fs 7))
    ∷ (no 2 at 0 unless (length a.tasks < 64))
    ∷ (no 2 at 3 unless Within 1 255 k.priority)
    ∷ (no 2 at 5 unless Within 1 100000 limit.n.0)
    ∷ (no 2 at 6 unless Within 1 100000 limit.d1.0)
    ∷ (no 2 at 7 unless Within 1 100000 limit.d2.0)
    ∷ fault_asked a.servers k.home k.degraded limit

-- by the leading word; an "unknown word" stands nowhere
abbrev pub asked_by : Word → ℕ → Rows → List (List ℕ) → List {1} Asked
asked_by ATick n a fs = tick_asked n fs
asked_by AServer n a fs = server_asked n a fs
asked_by ATask n a fs = task_asked a fs
asked_by Unknown n a fs = (no 1 at 0 unless ⊥) ∷ []

abbrev pub line_asked : ℕ → Rows → List (List ℕ) → List {1} Asked
line_asked n a [] = (no 1 at 0 unless ⊥) ∷ []
line_asked n a (w ∷ fs) = asked_by (leading w) n a fs

-- the number and the field that a line's standing gives
abbrev pub Gives : Standing → ℕ → ℕ → Type 0
Gives s number field = (standing_number s ≡ number) × (standing_field s ≡ field)

-- "lines parted by tabs": each number and field exactly in its case
abbrev pub EachLine : Type 0
EachLine =
    (n : ℕ) (a : Rows) (line : List ℕ) (number field : ℕ) →
    Gives (standing n a (read_line line)) number field ↔
    Tells (line_asked n a (split tab line)) number field

-- 41 to 45 one by one, of the rows that a task names and of its limits
pub record FaultNumbers (ss : List Server) (home degraded : ℕ) (limit : ByMode Ticks) (s : Standing) :
    Type 0 where
  -- "absent server row": of the home, else of the degraded server
  pub no_41_home : Gives s 41 1 ↔ (length ss ≤ home)
  pub no_41_degraded : Gives s 41 2 ↔ ((home < length ss) × (length ss ≤ degraded))
  -- "degraded server of another partition"
  pub no_42 : Gives s 42 2 ↔
      ((home < length ss)
      × (degraded < length ss)
      × (partition_at ss degraded ≡ partition_at ss home → ⊥))
  -- "degraded server not timed"
  pub no_43 : Gives s 43 2 ↔
      ((home < length ss)
      × (degraded < length ss)
      × (partition_at ss degraded ≡ partition_at ss home)
      × (kind_at ss degraded ≡ EventKind))
  -- "timed home with another degraded server"
  pub no_44 : Gives s 44 2 ↔
      ((home < length ss)
      × (degraded < length ss)
      × (partition_at ss degraded ≡ partition_at ss home)
      × (kind_at ss degraded ≡ Timed)
      × (kind_at ss home ≡ Timed)
      × (degraded ≡ home → ⊥))
  -- "falling limits": D1's below N's, else D2's below D1's, of rows that are right
  pub no_45_d1 : Gives s 45 6 ↔ (RowsFit ss home degraded × (limit.d1.0 < limit.n.0))
  pub no_45_d2 : Gives s 45 7 ↔
      (RowsFit ss home degraded × (limit.n.0 ≤ limit.d1.0) × (limit.d2.0 < limit.d1.0))
  -- none applies
  pub none : Gives s 0 0 ↔ TaskFits ss home degraded limit

abbrev pub EachFault : Type 0
EachFault =
    (ss : List Server) (home degraded : ℕ) (limit : ByMode Ticks) →
    FaultNumbers ss home degraded limit (task_fault ss home degraded limit)

-- A TABLE AND A STATE THAT ARE HANDED IN, number 13: "a table or state handed in breaks the rules
-- of this page". The rules of 01, Tables, in ticks, of the rows in use; No. 7: "a phase, 0 to period
-- less 1".
abbrev pub ServerRow : Server → Type 0
ServerRow s =
    All
    (Within 0 15 s.partition
    ∷ Within 1 255 s.priority
    ∷ Within 1 1000000 s.period.0
    ∷ (s.capacity.n.0 ≤ s.period.0)
    ∷ (s.capacity.d1.0 ≤ s.period.0)
    ∷ (s.capacity.d2.0 ≤ s.period.0)
    ∷ (s.phase.0 < s.period.0)
    ∷ [])

abbrev pub TaskRow : List Server → Task → Type 0
TaskRow ss k =
    All
    (Within 1 255 k.priority
    ∷ Within 1 100000 k.limit.n.0
    ∷ Within 1 100000 k.limit.d1.0
    ∷ Within 1 100000 k.limit.d2.0
    ∷ [])
    × TaskFits ss k.home k.degraded k.limit

-- "Server priorities differ from one another; so do task priorities."
abbrev pub Differ : ℕ → (ℕ → ℕ) → Type 0
Differ n priority = (i j : ℕ) → i < j → j < n → priority i ≡ priority j → ⊥

abbrev pub RowsKept : Rows → Type 0
RowsKept a =
    All
    (Within 1 10000 a.tick.0
    ∷ Within 1 32 (length a.servers)
    ∷ Within 1 64 (length a.tasks)
    ∷ ((i : ℕ) → i < length a.servers → ServerRow (get_or a.servers i no_server))
    ∷ ((k : ℕ) → k < length a.tasks → TaskRow a.servers (get_or a.tasks k no_task))
    ∷ Differ (length a.servers) (λ i. (get_or a.servers i no_server).priority)
    ∷ Differ (length a.tasks) (λ k. (get_or a.tasks k no_task).priority)
    ∷ [])

abbrev pub TableExactly : Type 0
TableExactly =
    (t : Table) →
    (table_keeps t ≡ true) ↔
    (Within 1 32 t.nservers × Within 1 64 t.ntasks × RowsKept (rows_of t))

-- "each server's elapsed count is at most its period, and its used count at most elapsed and at
-- most its largest capacity". 02, No. 7: "a server before its phase has used 0 and elapsed 0".
abbrev pub SoundServer : Table → State → ℕ → Type 0
SoundServer t s i =
    All
    ((elapsed_at s i ≤ period_at t i)
    ∷ (used_at s i ≤ elapsed_at s i)
    ∷ (used_at s i ≤ (largest (server_at t i).capacity).0)
    ∷ (s.ticks.0 < phase_at t i → (used_at s i ≡ 0) × (elapsed_at s i ≡ 0))
    ∷ [])

-- "each task has at most 16 waiting; the front job's run count is 0 if none waits and else below
-- the limit of the present mode, or equal to it for the last-run job; .. no LO job waits in D2"
abbrev pub SoundTask : Table → State → ℕ → Type 0
SoundTask t s k =
    All
    ((waiting_at s k ≤ 16)
    ∷ (waiting_at s k ≡ 0 → runs_at s k ≡ 0)
    ∷ (1 ≤ waiting_at s k →
    (runs_at s k < limit_at t s.mode k)
    ⊎ ((s.last ≡ Some k) × (runs_at s k ≡ limit_at t s.mode k)))
    ∷ (s.mode ≡ D2 → (task_at t k).level ≡ LO → waiting_at s k ≡ 0)
    ∷ [])

-- "the last-run task, if any, has a waiting job with run count at least 1, and a tick has been
-- taken"
abbrev pub SoundLast : Table → State → Type 0
SoundLast t s =
    (k : ℕ) → s.last ≡ Some k →
    All ((k < t.ntasks) ∷ (1 ≤ waiting_at s k) ∷ (1 ≤ runs_at s k) ∷ (1 ≤ s.ticks.0) ∷ [])

-- "A state is sound (else 13) if its table keeps the rules; ..; the counts of taken ticks and
-- accepted releases are within 10's bounds, the latter not below the jobs waiting."
abbrev pub SoundExactly : Type 0
SoundExactly =
    (r : Run) →
    let t = r.table in
    let s = r.state in
    (sound r ≡ true) ↔
    All
    ((table_keeps t ≡ true)
    ∷ ((i : ℕ) → i < t.nservers → SoundServer t s i)
    ∷ ((k : ℕ) → k < t.ntasks → SoundTask t s k)
    ∷ SoundLast t s
    ∷ (s.ticks.0 ≤ 4000000000)
    ∷ (s.accepted ≤ 4000000000)
    ∷ (sum_below t.ntasks (waiting_at s) ≤ s.accepted)
    ∷ [])

-- A START, number 13. What comes back is the table as it was, beside a fresh state.
pub record StartNumbers (t : Table) (b : Begun Run) : Type 0 where
  pub no_13 : (starting_number b.answer ≡ 13) ↔ (table_keeps t ≡ false)
  pub taken : (starting_number b.answer ≡ 0) ↔ (table_keeps t ≡ true)
  pub as_it_was : b.run ≡ fresh_run t

abbrev pub EachStart : Type 0
EachStart = (t : Table) → StartNumbers t (start_of t)

-- A RELEASE of task k. "Others: 13 first; release 6, 7, 8, 10"
abbrev pub LowInD2 : Run → ℕ → Type 0
LowInD2 r k = (r.state.mode ≡ D2) × ((task_at r.table k).level ≡ LO)

pub record ReleaseNumbers (r : Run) (k number : ℕ) : Type 0 where
  -- "a table or state handed in breaks the rules of this page"
  pub no_13 : (number ≡ 13) ↔ (sound r ≡ false)
  -- "no such task"
  pub no_6 : (number ≡ 6) ↔ ((sound r ≡ true) × (r.table.ntasks ≤ k))
  -- "LO release in D2"
  pub no_7 : (number ≡ 7) ↔ ((sound r ≡ true) × (k < r.table.ntasks) × LowInD2 r k)
  -- "16 jobs of this task already wait"
  pub no_8 : (number ≡ 8) ↔
      ((sound r ≡ true) × (k < r.table.ntasks) × (LowInD2 r k → ⊥)
      × (waiting_at r.state k ≡ 16))
  -- "a release when as many are accepted"
  pub no_10 : (number ≡ 10) ↔
      ((sound r ≡ true) × (k < r.table.ntasks) × (LowInD2 r k → ⊥)
      × (waiting_at r.state k < 16) × (r.state.accepted ≡ 4000000000))
  pub taken : (number ≡ 0) ↔
      ((sound r ≡ true) × (k < r.table.ntasks) × (LowInD2 r k → ⊥)
      × (waiting_at r.state k < 16) × (r.state.accepted < 4000000000))

abbrev pub release_number : Run → ℕ → ℕ
release_number r k = no_of (event_of r (Release k)).answer

abbrev pub EachRelease : Type 0
EachRelease = (r : Run) (k : ℕ) → ReleaseNumbers r k (release_number r k)

-- A TICK. "tick 9, 10"
abbrev pub NoJobRan : Run → Bool → Type 0
NoJobRan r mark = (mark ≡ true) × (r.state.last ≡ None)

pub record TickNumbers (r : Run) (mark : Bool) (number : ℕ) : Type 0 where
  pub no_13 : (number ≡ 13) ↔ (sound r ≡ false)
  -- "mark 1, but no tick was taken yet or the last one ran no job"
  pub no_9 : (number ≡ 9) ↔ ((sound r ≡ true) × NoJobRan r mark)
  -- "a tick when 4,000,000,000 are taken"
  pub no_10 : (number ≡ 10) ↔
      ((sound r ≡ true) × (NoJobRan r mark → ⊥) × (r.state.ticks.0 ≡ 4000000000))
  pub taken : (number ≡ 0) ↔
      ((sound r ≡ true) × (NoJobRan r mark → ⊥) × (r.state.ticks.0 < 4000000000))

abbrev pub tick_number : Run → Bool → ℕ
tick_number r mark = no_of (event_of r (Tick mark)).answer

abbrev pub EachTick : Type 0
EachTick = (r : Run) (mark : Bool) → TickNumbers r mark (tick_number r mark)

-- "neither count refuses the other event": a sound run with another count of ticks gives a release
-- the same number, and one with another count of releases gives it a tick.
abbrev pub counting : Run → Ticks → ℕ → Run
counting r ticks accepted =
    record { table = r.table; state = with_counts r.state ticks accepted }

abbrev pub NeitherCount : Type 0
NeitherCount =
    (r q : Run) (k : ℕ) (mark : Bool) (ticks : Ticks) (accepted : ℕ) → sound r ≡ true →
    sound q ≡ true →
    (q ≡ counting r ticks r.state.accepted → release_number q k ≡ release_number r k)
    × (q ≡ counting r r.state.ticks accepted → tick_number q mark ≡ tick_number r mark)

-- "A refused event takes no tick and changes nothing"
abbrev pub RefusedChangesNothing : Type 0
RefusedChangesNothing =
    (r : Run) (e : Event) → (no_of (event_of r e).answer ≡ 0 → ⊥) → (event_of r e).run ≡ r

-- MANY EVENT LINES at once: 13, then 12. Of `values` each line takes two, of the room nine.
pub record ManyNumbers (r : Run) (many : ℕ) (room : List ℕ) (x : Lent) : Type 0 where
  pub no_13 : (taking_number x.many.answer ≡ 13) ↔ (sound r ≡ false)
  -- "lent room shorter than the text"
  pub no_12 : (taking_number x.many.answer ≡ 12) ↔
      ((sound r ≡ true) × (length room < 9 * many))
  pub taken : (taking_number x.many.answer ≡ 0) ↔
      ((sound r ≡ true) × (9 * many ≤ length room))
  -- "state as it was", "room as it was"
  pub as_it_was : (taking_number x.many.answer ≡ 0 → ⊥) →
      (x.many.run ≡ r) × (x.room ≡ room)
  pub beyond : drop (9 * many) x.room ≡ drop (9 * many) room

abbrev pub EachMany : Type 0
EachMany =
    (r : Run) (values room : List ℕ) →
    ManyNumbers r (length (lines_said values)) room (many_of r values room)

-- The same where of the taken ticks among the lines is handed out what is told, nine numbers a tick,
-- and what steps 5 and 2 find, 96 numbers a tick: each line may be one of them.
pub record FindNumbers (r : Run) (many : ℕ) (told found : List ℕ) (x : LentBoth) : Type 0 where
  pub no_13 : (taking_number x.finding.answer ≡ 13) ↔ (sound r ≡ false)
  -- "lent room shorter than the text"
  pub no_12 : (taking_number x.finding.answer ≡ 12) ↔
      ((sound r ≡ true) × ((length told < 9 * many) ⊎ (length found < 96 * many)))
  pub taken : (taking_number x.finding.answer ≡ 0) ↔
      ((sound r ≡ true) × (9 * many ≤ length told) × (96 * many ≤ length found))
  -- "state as it was", "room as it was"
  pub as_it_was : (taking_number x.finding.answer ≡ 0 → ⊥) →
      (x.finding.run ≡ r) × (x.finding.ticks ≡ 0) × (x.told ≡ told) × (x.found ≡ found)
  pub beyond : let ticks = x.finding.ticks in
      (drop (9 * ticks) x.told ≡ drop (9 * ticks) told)
      × (drop (96 * ticks) x.found ≡ drop (96 * ticks) found)

abbrev pub EachFind : Type 0
EachFind =
    (r : Run) (values told found : List ℕ) →
    FindNumbers r (length (lines_said values)) told found (find_of r values told found)

-- THE WRITER: 13, then 12.
pub record WriteNumbers (t : Table) (text room : List ℕ) (w : Wrote) : Type 0 where
  pub no_13 : (writing_number w.answer ≡ 13) ↔ (table_keeps t ≡ false)
  -- "lent room shorter than the text"
  pub no_12 : (writing_number w.answer ≡ 12) ↔
      ((table_keeps t ≡ true) × (length room < length text))
  pub taken : (writing_number w.answer ≡ 0) ↔
      ((table_keeps t ≡ true) × (length text ≤ length room))
  -- then the text stands in the room, and its length comes back
  pub stands : writing_number w.answer ≡ 0 →
      (writing_values w.answer ≡ length text ∷ []) × (take (length text) w.room ≡ text)
  -- "a refused write leaves the lent bytes as they were"
  pub as_it_was : (writing_number w.answer ≡ 0 → ⊥) → w.room ≡ room
  -- "A writer changes nothing beyond the text."
  pub beyond : drop (length text) w.room ≡ drop (length text) room

abbrev pub text_of : Table → List ℕ
text_of t = write (rows_of t)

abbrev pub EachWrite : Type 0
EachWrite = (t : Table) (room : List ℕ) → WriteNumbers t (text_of t) room (wrote t room)

-- so room of 16,384 bytes is never too short
abbrev pub RoomEnough : Type 0
RoomEnough = (t : Table) → table_keeps t ≡ true → length (text_of t) ≤ 16384

-- "Writing then reading gives the same table", "compared on the rows in use".
abbrev pub WriteThenRead : Type 0
WriteThenRead =
    (t : Table) → table_keeps t ≡ true →
    Reads (text_of t) 0 [] × (rows_of (read_as (text_of t)).table ≡ rows_of t)

-- "each task time was whole ticks", of t microseconds
abbrev pub TimesWhole : ℕ → List ℕ → Type 0
TimesWhole t text =
    (n : ℕ) (k : TaskLine) → 1 ≤ n → line_at text n ≡ OfTask k →
    All
    ((k.limit.n.0 % t ≡ 0) ∷ (k.limit.d1.0 % t ≡ 0) ∷ (k.limit.d2.0 % t ≡ 0) ∷ [])

-- "no phase 0 was written"
abbrev pub NoPhaseZero : List ℕ → Type 0
NoPhaseZero text =
    (n : ℕ) (s : ServerLine) → 1 ≤ n → line_at text n ≡ OfServer s → s.phase ≡ Some (record { 0 = 0 }) → ⊥

-- "Reading then writing gives the same text exactly when each task time was whole ticks." No. 7:
-- "01's rule on reading then writing also asks that no phase 0 was written".
abbrev pub ReadThenWrite : Type 0
ReadThenWrite =
    (text : List ℕ) → Reads text 0 [] →
    (text_of (read_as text).table ≡ text) ↔
    (TimesWhole (read_as text).table.tick.0 text × NoPhaseZero text)

-- VERDICTS: 13, then 11; 0 where one is given.
abbrev pub verdict_number : Verdict → ℕ
verdict_number (Response r) = 0
verdict_number Misses = 0
verdict_number (No why) = number_of why

pub record VerdictNumbers (t : Table) (i number : ℕ) : Type 0 where
  pub no_13 : (number ≡ 13) ↔ (table_keeps t ≡ false)
  -- "no such server row"
  pub no_11 : (number ≡ 11) ↔ ((table_keeps t ≡ true) × (t.nservers ≤ i))
  pub given : (number ≡ 0) ↔ ((table_keeps t ≡ true) × (i < t.nservers))

abbrev pub EachVerdict : Type 0
EachVerdict =
    (t : Table) (m : Mode) (i : ℕ) → VerdictNumbers t i (verdict_number (verdict_of t i m))

-- CUTTING an event file into lines, of which each takes two numbers of the room: 12, "lent room
-- shorter than the text", where a byte is there to take and no line has room.
pub record CutNumbers (h : Held) (input room : List ℕ) (x : CutInto) : Type 0 where
  pub no_12 : (taking_number x.cut.answer ≡ 12) ↔ ((1 ≤ length input) × (length room < 2))
  pub taken : (taking_number x.cut.answer ≡ 0) ↔ ((1 ≤ length input) × (length room < 2) → ⊥)
  pub as_it_was : (taking_number x.cut.answer ≡ 0 → ⊥) →
      (x.room ≡ room) × (x.cut.held ≡ h) × (x.cut.eaten ≡ 0)
  pub beyond : drop (2 * x.cut.many) x.room ≡ drop (2 * x.cut.many) room

abbrev pub EachCut : Type 0
EachCut = (h : Held) (input room : List ℕ) → CutNumbers h input room (cut_of h input room)

-- PRINTING answers, of which each takes at most 140 bytes: 12 where there is a line to print and no
-- room for one.
pub record PrintNumbers (lent : ℕ) (room : List ℕ) (x : PrintedInto) : Type 0 where
  pub no_12 : (taking_number x.printed.answer ≡ 12) ↔ ((1 ≤ lent) × (length room < 140))
  pub taken : (taking_number x.printed.answer ≡ 0) ↔ ((1 ≤ lent) × (length room < 140) → ⊥)
  pub as_it_was : (taking_number x.printed.answer ≡ 0 → ⊥) →
      (x.room ≡ room) × (x.printed.put ≡ 0)
  pub beyond : drop x.printed.put x.room ≡ drop x.printed.put room

abbrev pub EachPrint : Type 0
EachPrint =
    (values told room : List ℕ) →
    PrintNumbers (lines_lent values told) room (print_of values told room)

-- WHAT ONLY A DEFINITION SAYS, shown on texts worked out by hand from the page's words.
-- A table of one server that is charged every other tick, and one task.
abbrev pub small_text : List String
small_text =
    "tick\t1000"
    ∷ "server\t0\ttimed\t1\t2000\t1000\t1000\t1000"
    ∷ "task\t0\t0\t1\tLO\t1000\t1000\t1000"
    ∷ []

-- every word of an answer line that the night of document 01 has not; "another line, a mark above 1
-- included, or an unclosed last one, answers `?⇥no⇥1`"; "numbers as in tables": "1 to 11 digits, no
-- sign, no leading zero but in `0`"
abbrev pub AnswerLines : Type 0
AnswerLines =
    night
    (lined small_text)
    (lined
    ("T\t0"
    ∷ "T\t0"
    ∷ "T\t2"
    ∷ "R\t12345678901"
    ∷ "R\t123456789012"
    ∷ "R\t00"
    ∷ "R\t-1"
    ∷ "R"
    ∷ "r\t0"
    ∷ ""
    ∷ [])
    ++ bytes "T\t0")
    ≡ lined
    ("T\t0\tN\tempty\t0\t-\t-\t-\t0"
    ∷ "T\t1\tN\tidle\t-\t-\t-\t-\t0"
    ∷ "?\tno\t1"
    ∷ "R\t12345678901\tno\t6"
    ∷ "?\tno\t1"
    ∷ "?\tno\t1"
    ∷ "?\tno\t1"
    ∷ "?\tno\t1"
    ∷ "?\tno\t1"
    ∷ "?\tno\t1"
    ∷ "?\tno\t1"
    ∷ [])

-- "A refused table prints only `table⇥no⇥number⇥line`", and the field after it, "for 5 with the
-- second line after it"
abbrev pub Refuses : List ℕ → String → Type 0
Refuses text answer = night text (lined ("T\t0" ∷ [])) ≡ lined (answer ∷ [])

abbrev pub below : List String → String → List ℕ
below above line = lined (above ++ (line ∷ []))

abbrev pub TableLines : Type 0
TableLines =
    let tick : List String = "tick\t1000" ∷ [] in
    All
    (Refuses [] "table\tno\t1\t1\t0"
    ∷ Refuses (bytes "tick\t1000") "table\tno\t1\t1\t0"
    ∷ Refuses (lined tick) "table\tno\t1\t2\t0"
    ∷ Refuses (lined ("tick\t123456789012" ∷ [])) "table\tno\t1\t1\t1"
    ∷ Refuses (lined ("tick\t0" ∷ "server" ∷ [])) "table\tno\t2\t1\t1"
    ∷ Refuses (below tick "server\t0\tlate\t1\t2000\t1000\t1000\t1000") "table\tno\t1\t2\t2"
    ∷ Refuses (below tick "server\t0\tlate\t1\t2000\t1000\t1000") "table\tno\t1\t2\t0"
    ∷ Refuses (below tick "task\t0\tlate\t1\tLO\t1000\t1000\t1000") "table\tno\t1\t2\t0"
    ∷ Refuses (below tick "server\t16\ttimed\t0\t2000\t1000\t1000\t1000") "table\tno\t2\t2\t1"
    ∷ Refuses (below tick "server\t0\ttimed\t1\t2000\t1000\t3000\t1000") "table\tno\t2\t2\t6"
    ∷ Refuses (below tick "server\t0\ttimed\t1\t2500\t1000\t1000\t1500") "table\tno\t3\t2\t4"
    ∷ Refuses (below tick "server\t0\ttimed\t1\t2000\t1000\t1000\t1000\t") "table\tno\t1\t2\t8"
    ∷ Refuses (below tick "server\t0\ttimed\t1\t2000\t1000\t1000\t1000\t\t") "table\tno\t1\t2\t0"
    ∷ Refuses (below tick "server\t0\ttimed\t1\t2000\t1000\t1000\t1000\t2000") "table\tno\t2\t2\t8"
    ∷ Refuses (below tick "server\t0\ttimed\t1\t2000\t1000\t1000\t1000\t500") "table\tno\t3\t2\t8"
    ∷ Refuses (below small_text "task\t1\t1\t2\tLO\t1000\t1000\t1000") "table\tno\t41\t4\t1"
    ∷ Refuses (below small_text "task\t0\t1\t2\tLO\t1000\t1000\t1000") "table\tno\t41\t4\t2"
    ∷ Refuses (below small_text "task\t0\t0\t2\tLO\t3000\t2000\t1000") "table\tno\t45\t4\t6"
    ∷ Refuses (below small_text "task\t0\t0\t2\tLO\t1001\t2000\t1000") "table\tno\t45\t4\t7"
    ∷ Refuses (below small_text "task\t0\t0\t1\tMI\t1000\t1000\t1000") "table\tno\t5\t3\t4"
    ∷ [])

-- 42 to 44 want more servers: rows 0 and 1 are of partition 0, event and timed, rows 2 and 3 of
-- partition 1, both timed
abbrev pub four_servers : List String
four_servers =
    "tick\t1000"
    ∷ "server\t0\tevent\t4\t2000\t1000\t1000\t1000"
    ∷ "server\t0\ttimed\t3\t2000\t1000\t1000\t1000"
    ∷ "server\t1\ttimed\t2\t2000\t1000\t1000\t1000"
    ∷ "server\t1\ttimed\t1\t2000\t1000\t1000\t1000"
    ∷ []

abbrev pub DegradedLines : Type 0
DegradedLines =
    All
    (Refuses (below four_servers "task\t2\t0\t1\tLO\t1000\t1000\t1000") "table\tno\t42\t6\t2"
    ∷ Refuses (below four_servers "task\t0\t0\t1\tLO\t1000\t1000\t1000") "table\tno\t43\t6\t2"
    ∷ Refuses (below four_servers "task\t2\t3\t1\tLO\t3000\t2000\t1000") "table\tno\t44\t6\t2"
    ∷ [])

-- "the first pair of server rows with equal priority, smaller row first (pairs ordered by it, then
-- by the larger row), then the same for tasks": rows 0, 4 and 5 are equal, and so are 1 and 3
abbrev pub PairLines : Type 0
PairLines =
    Refuses
    (lined
    ("tick\t1000"
    ∷ "server\t0\ttimed\t5\t2000\t1000\t1000\t1000"
    ∷ "server\t0\ttimed\t6\t2000\t1000\t1000\t1000"
    ∷ "server\t0\ttimed\t7\t2000\t1000\t1000\t1000"
    ∷ "server\t0\ttimed\t6\t2000\t1000\t1000\t1000"
    ∷ "server\t0\ttimed\t5\t2000\t1000\t1000\t1000"
    ∷ "server\t0\ttimed\t5\t2000\t1000\t1000\t1000"
    ∷ "task\t0\t0\t1\tLO\t1000\t1000\t1000"
    ∷ "task\t0\t0\t1\tLO\t1000\t1000\t1000"
    ∷ []))
    "table\tno\t5\t2\t6"
