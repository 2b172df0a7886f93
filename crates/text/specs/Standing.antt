-- 01, Numbers for no: whether a line keeps the rules where it stands, "line by line 1, 2, 3, 4". 02,
-- No. 2: "4 goes; 41 to 45 stand in its place", and which field is told, "counted from 1 after the
-- leading word, or 0 for the line itself". A rule on the fields is a list of tests, one for the
-- line itself and one for each field: the place of the first that fails is the field told.
use Rattle.std.specs.Prelude.{Bool, true, false, not, ◌&&◌, List, [], ◌∷◌, ◌++◌, ℕ, ◌+◌, ◌*◌, ◌/◌, ◌%◌, leb, ltb, eqb, length, None, Option, Some, Ok}
use Rattle.laws.specs.Choice.{unless◌say◌else◌, within}
use Rattle.laws.specs.Search.{first_failed}
use Rattle.laws.specs.RoundUp.{up}
use Rattle.units.specs.declared.Ticks.{Ticks}
use Rattle.units.specs.declared.Micros.{Micros}
use Rattle.table.specs.declared.ByMode.{ByMode}
use Rattle.table.specs.declared.Server.{Server}
use Rattle.table.specs.declared.Task.{Task}
use Rattle.table.specs.declared.Refusal.{Refusal}
use Rattle.table.specs.declared.Refusal.TheVariants.{Malformed, OutOfBounds, NotWhole}
use Rattle.table.specs.Rows.{Rows}
use Rattle.table.specs.Rules.{tick_keeps, priority_keeps, limit_keeps, task_fault}
use Rattle.text.specs.declared.ServerLine.{ServerLine}
use Rattle.text.specs.declared.TaskLine.{TaskLine}
use Rattle.text.specs.declared.Word.{Word}
use Rattle.text.specs.declared.Word.TheVariants.{ATick, AServer, ATask, Unknown}
use Rattle.text.specs.declared.Line.{Line}
use Rattle.text.specs.declared.Line.TheVariants.{OfTick, OfServer, OfTask, Malformed as MalformedLine}
use Rattle.text.specs.Line.{word_of, malformed_at}
use Rattle.table.specs.Refusals.{breaks, Standing}

-- no row
abbrev pub is_nil : {A : Type 0} → List A → Bool
is_nil [] = true
is_nil (x ∷ xs) = false

-- From microseconds to ticks, in a table whose tick is t microseconds.
-- period and capacities: "all whole ticks"
abbrev pub in_ticks : ℕ → Micros → Ticks
in_ticks t u = record { 0 = u.0 / t }

-- 02, No. 7: "A row without the field has phase 0"
abbrev pub phase_said : Option Micros → Micros
phase_said None = record { 0 = 0 }
phase_said (Some u) = u

abbrev pub server_of : ℕ → ServerLine → Server
server_of t s =
    record {
      partition = s.partition;
      kind = s.kind;
      priority = s.priority;
      period = in_ticks t s.period;
      capacity = record { n = in_ticks t s.capacity.n; d1 = in_ticks t s.capacity.d1; d2 = in_ticks t s.capacity.d2 };
      phase = in_ticks t (phase_said s.phase);
    }

-- "limits for N, D1, D2, each rounded up to a tick"
abbrev pub rounded_up : ℕ → Micros → Ticks
rounded_up t u = record { 0 = up u.0 t }

abbrev pub limits_of : ℕ → ByMode Micros → ByMode Ticks
limits_of t x = record { n = rounded_up t x.n; d1 = rounded_up t x.d1; d2 = rounded_up t x.d2 }

abbrev pub task_of : ℕ → TaskLine → Task
task_of t k =
    record {
      home = k.home;
      degraded = k.degraded;
      priority = k.priority;
      level = k.level;
      limit = limits_of t k.limit;
    }

-- the page asks nothing of this field here
abbrev pub anything : Bool
anything = true

-- 1, "malformed, missing or misplaced line, or unknown word": where a line may stand by its leading
-- word, n being its number and a the rows above it. "one `tick` line, then 1 to 32 `server` lines,
-- then 1 to 64 `task` lines"
unfoldable pub placed : ℕ → Rows → Word → Bool
placed n a ATick = eqb n 1
placed n a AServer = ltb 1 n && is_nil a.tasks
placed n a ATask = not (is_nil a.servers)
placed n a Unknown = false

-- 2, "a number or row count out of bounds". "A 33rd server or 65th task is 2 at its line", "and a
-- row too many in 2, is told first, as 0". "partition 0 to 15; kind; priority 1 to 255, greater
-- first; period; capacities in N, D1, D2. Period 1 to 1,000,000 ticks, capacity 0 to the period,
-- all whole ticks. These bounds are compared in microseconds." A capacity above the period is told
-- at the capacity: "the later where two fields disagree". 02, No. 7: "a phase above the period less
-- one tick, in microseconds, is 2".
unfoldable pub server_bounds : ℕ → ℕ → ServerLine → List Bool
server_bounds rows t s =
    ltb rows 32
    ∷ within 0 15 s.partition
    ∷ anything
    ∷ priority_keeps s.priority
    ∷ within t (1000000 * t) s.period.0
    ∷ leb s.capacity.n.0 s.period.0
    ∷ leb s.capacity.d1.0 s.period.0
    ∷ leb s.capacity.d2.0 s.period.0
    ∷ leb ((phase_said s.phase).0 + t) s.period.0
    ∷ []

-- "priority 1 to 255, greater first; level; limits for N, D1, D2, each rounded up to a tick, then 1
-- to 100,000". Home and degraded server have no bounds: a row is there or absent.
unfoldable pub task_bounds : ℕ → ℕ → TaskLine → List Bool
task_bounds rows t k =
    ltb rows 64
    ∷ anything
    ∷ anything
    ∷ priority_keeps k.priority
    ∷ anything
    ∷ limit_keeps (limits_of t k.limit).n.0
    ∷ limit_keeps (limits_of t k.limit).d1.0
    ∷ limit_keeps (limits_of t k.limit).d2.0
    ∷ []

unfoldable pub bounds : Rows → Line → List Bool
bounds a (OfTick t) = anything ∷ tick_keeps t.0 ∷ []
bounds a (OfServer s) = server_bounds (length a.servers) a.tick.0 s
bounds a (OfTask k) = task_bounds (length a.tasks) a.tick.0 k
bounds a (MalformedLine word field) = []

-- 3, "period or capacity not whole ticks"; 02, No. 7, of a phase: "not whole ticks is 3"
abbrev pub whole : ℕ → Micros → Bool
whole t u = eqb (u.0 % t) 0

unfoldable pub server_whole : ℕ → ServerLine → List Bool
server_whole t s =
    anything
    ∷ anything
    ∷ anything
    ∷ anything
    ∷ whole t s.period
    ∷ whole t s.capacity.n
    ∷ whole t s.capacity.d1
    ∷ whole t s.capacity.d2
    ∷ whole t (phase_said s.phase)
    ∷ []

unfoldable pub wholes : Rows → Line → List Bool
wholes a (OfTick t) = []
wholes a (OfServer s) = server_whole a.tick.0 s
wholes a (OfTask k) = []
wholes a (MalformedLine word field) = []

-- 41 to 45, "absent server row, degraded server of another partition, degraded server not timed,
-- timed home with another degraded server, falling limits": table's own rule, for a row "however
-- great its number" and for the limits as they are rounded up
unfoldable pub fault : Rows → Line → Standing
fault a (OfTick t) = Ok tt
fault a (OfServer s) = Ok tt
fault a (OfTask k) = task_fault a.servers k.home k.degraded (limits_of a.tick.0 k.limit)
fault a (MalformedLine word field) = Ok tt

-- the field at which a test fails is told with its reason; where none does, r is said
infixr 5 tell◌at◌or◌
abbrev pub tell◌at◌or◌ : Refusal → Option ℕ → Standing → Standing
tell◌at◌or◌ why (Some field) r = breaks why field
tell◌at◌or◌ why None r = r

-- All of 1, then all of 2, all of 3, then 41 to 45. A line that is misplaced has the wrong leading
-- word for its place: "told first, as 0".
unfoldable pub standing : ℕ → Rows → Line → Standing
standing n a l =
    unless placed n a (word_of l) say breaks Malformed 0
    else tell Malformed at malformed_at l
    or tell OutOfBounds at first_failed (bounds a l)
    or tell NotWhole at first_failed (wholes a l)
    or fault a l

-- the rows with those of one more line, which keeps the rules there
unfoldable pub grown : Rows → Line → Rows
grown a (OfTick t) = record { tick = t; servers = a.servers; tasks = a.tasks }
grown a (OfServer s) = record { tick = a.tick; servers = a.servers ++ (server_of a.tick.0 s ∷ []); tasks = a.tasks }
grown a (OfTask k) = record { tick = a.tick; servers = a.servers; tasks = a.tasks ++ (task_of a.tick.0 k ∷ []) }
grown a (MalformedLine word field) = a
