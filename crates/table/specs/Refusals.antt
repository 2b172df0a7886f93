-- 01, Numbers for no: the paper's number of each reason. 02, No. 2: "4 goes; 41 to 45 stand in its
-- place in the order given here".
use Rattle.std.specs.Prelude.{Bool, true, false, ℕ, Ok, Err, Result}
use Rattle.table.specs.declared.Refusal.{Refusal}
use Rattle.table.specs.declared.Refusal.TheVariants.{Malformed, OutOfBounds, NotWhole, AbsentRow, OtherPartition, NotTimed, OtherServer, Falling, EqualPriorities, NoTask, LowInD2, QueueFull, NoJobRan, CountSpent, NoServer, RoomShort, Unsound}
use Rattle.table.specs.declared.Fault.{Fault}

abbrev pub number_of : Refusal → ℕ
-- malformed, missing or misplaced line, or unknown word
number_of Malformed = 1
-- a number or row count out of bounds; text too long
number_of OutOfBounds = 2
-- period or capacity not whole ticks; 02, No. 7: nor a phase
number_of NotWhole = 3
-- absent server row
number_of AbsentRow = 41
-- degraded server of another partition
number_of OtherPartition = 42
-- degraded server not timed
number_of NotTimed = 43
-- timed home with another degraded server
number_of OtherServer = 44
-- falling limits
number_of Falling = 45
-- equal priorities
number_of EqualPriorities = 5
-- no such task
number_of NoTask = 6
-- LO release in D2
number_of LowInD2 = 7
-- 16 jobs of this task already wait
number_of QueueFull = 8
-- mark 1, but no tick was taken yet or the last one ran no job
number_of NoJobRan = 9
-- a tick when 4,000,000,000 are taken, or a release when as many are accepted
number_of CountSpent = 10
-- no such server row
number_of NoServer = 11
-- lent room shorter than the text
number_of RoomShort = 12
-- a table or state handed in breaks the rules of this page
number_of Unsound = 13

-- Whether a line or a row keeps the rules where it stands, or which it breaks, and at which field.
abbrev pub Standing : Type 0
Standing = Result (Unit {0}) Fault

abbrev pub breaks : Refusal → ℕ → Standing
breaks why field = Err (record { why = why; field = field })

-- The paper's number of a standing, 0 where the rules are kept, and the field that is told with it:
-- "counted from 1 after the leading word, or 0 for the line itself".
abbrev pub standing_number : Standing → ℕ
standing_number (Ok tt) = 0
standing_number (Err f) = number_of f.why

abbrev pub standing_field : Standing → ℕ
standing_field (Ok tt) = 0
standing_field (Err f) = f.field

abbrev pub is_kept : Standing → Bool
is_kept (Ok tt) = true
is_kept (Err f) = false
