-- What an answer says: the paper's number for each case, and what it tells of servers and jobs. The
-- promises count with these.
use Rattle.std.specs.Prelude.{ℕ, eqb, if◌then◌else◌, Err, Ok, Result}
use Rattle.table.specs.Refusals.{number_of}
use Rattle.events.specs.declared.Turn.{Turn}
use Rattle.events.specs.declared.Turn.TheVariants.{Run as Ran, Empty, Idle}
use Rattle.events.specs.declared.Left.{Left}
use Rattle.events.specs.declared.Left.TheVariants.{Nobody, Done, Cut}
use Rattle.events.specs.declared.Answer.{Answer}
use Rattle.events.specs.declared.Answer.TheVariants.{Released, Ticked, No}
use Rattle.table.specs.declared.Refusal.{Refusal}

-- the paper's number for no, and 0 for what is taken
abbrev pub no_of : Answer → ℕ
no_of (Released k) = 0
no_of (Ticked a) = 0
no_of (No why) = number_of why

-- of a start: 0 where it is made
abbrev pub starting_number : Result (Unit {0}) Refusal → ℕ
starting_number (Ok tt) = 0
starting_number (Err why) = number_of why

-- of many event lines: 0 where the lines are taken
abbrev pub taking_number : Result (Unit {0}) Refusal → ℕ
taking_number (Ok tt) = 0
taking_number (Err why) = number_of why

-- 1 where the two rows are one, else 0
abbrev pub one : ℕ → ℕ → ℕ
one i j = if eqb i j then 1 else 0

-- 1 if server i is charged in the tick, else 0
abbrev pub charged : Turn → ℕ → ℕ
charged (Ran j k) i = one j i
charged (Empty j) i = one j i
charged Idle i = 0

-- 1 if a job of task k is run in the tick, else 0
abbrev pub ran : Turn → ℕ → ℕ
ran (Ran i j) k = one j k
ran (Empty i) k = 0
ran Idle k = 0

-- 1 if a job of task k left finished; left cut
abbrev pub finished_by : Left → ℕ → ℕ
finished_by Nobody k = 0
finished_by (Done j) k = one j k
finished_by (Cut j) k = 0

abbrev pub cut_by : Left → ℕ → ℕ
cut_by Nobody k = 0
cut_by (Done j) k = 0
cut_by (Cut j) k = one j k
