-- Event lines and what is told to them, as plain numbers: "a definition gives this paper's number
-- and values for each of its cases." A line is two numbers, and what is told to it nine, so that
-- many can be lent at once.
use Rattle.std.specs.Prelude.{Bool, not, List, [], ◌∷◌, ◌++◌, ℕ, zero, suc, ◌+◌, leb, eqb, length, get_or, if◌then◌else◌, None, Option, Some}
use Rattle.std.proofs.Math.Seq.{paste}
use Rattle.table.specs.Rows.{mode_value, mode_said}
use Rattle.table.specs.Refusals.{number_of}
use Rattle.events.specs.declared.Turn.{Turn}
use Rattle.events.specs.declared.Turn.TheVariants.{Run as Ran, Empty, Idle}
use Rattle.events.specs.declared.Left.{Left}
use Rattle.events.specs.declared.Left.TheVariants.{Nobody, Done, Cut}
use Rattle.events.specs.declared.Event.TheVariants.{Release, Tick}
use Rattle.events.specs.declared.Answer.{Answer}
use Rattle.events.specs.declared.Answer.TheVariants.{Released, Ticked, No}
use Rattle.events.specs.declared.Told.{Told}
use Rattle.events.specs.declared.Told.TheVariants.{No as ToldNo, Released as ToldReleased, Ticked as ToldTicked}
use Rattle.events.specs.declared.Event.{Event}

-- what an answer tells
abbrev pub told_of : Answer → Told
told_of (Released k) = ToldReleased k
told_of (Ticked a) = ToldTicked a
told_of (No why) = ToldNo (number_of why)

-- An event line: 0 for another line, 1 for a tick, 2 for a release; then the mark or the task.
abbrev pub mark_value : Bool → ℕ
mark_value mark = if mark then 1 else 0

abbrev pub line_values : Option Event → List ℕ
line_values None = 0 ∷ 0 ∷ []
line_values (Some (Tick mark)) = 1 ∷ mark_value mark ∷ []
line_values (Some (Release k)) = 2 ∷ k ∷ []

-- the numbers of some lines
unfoldable pub all_line_values : List (Option Event) → List ℕ
all_line_values [] = []
all_line_values (l ∷ ls) = line_values l ++ all_line_values ls

-- the line that two numbers say: any two say one
abbrev pub line_said : ℕ → ℕ → Option Event
line_said zero v = None
line_said (suc zero) v = Some (Tick (not (eqb v 0)))
line_said (suc (suc x)) v = Some (Release v)

-- the lines that some numbers say, two each
unfoldable pub lines_said : List ℕ → List (Option Event)
lines_said [] = []
lines_said (x ∷ []) = []
lines_said (x ∷ (v ∷ xs)) = line_said x v ∷ lines_said xs

-- what a taken tick says: 0 idle, 1 empty, 2 run; then server and task
abbrev pub turn_values : Turn → List ℕ
turn_values Idle = 0 ∷ 0 ∷ 0 ∷ []
turn_values (Empty i) = 1 ∷ i ∷ 0 ∷ []
turn_values (Ran i k) = 2 ∷ i ∷ k ∷ []

abbrev pub turn_said : ℕ → ℕ → ℕ → Turn
turn_said zero i k = Idle
turn_said (suc zero) i k = Empty i
turn_said (suc (suc x)) i k = Ran i k

-- how a job left: 0 nobody did, 1 finished, 2 cut; then its task
abbrev pub left_values : Left → List ℕ
left_values Nobody = 0 ∷ 0 ∷ []
left_values (Done k) = 1 ∷ k ∷ []
left_values (Cut k) = 2 ∷ k ∷ []

abbrev pub left_said : ℕ → ℕ → Left
left_said zero k = Nobody
left_said (suc zero) k = Done k
left_said (suc (suc x)) k = Cut k

-- What is told: 0 and the paper's number for no, 1 and the task of a release, 2 and the tick's
-- number with what goes with it.
unfoldable pub told_values : Told → List ℕ
told_values (ToldNo number) = 0 ∷ number ∷ 0 ∷ 0 ∷ 0 ∷ 0 ∷ 0 ∷ 0 ∷ 0 ∷ []
told_values (ToldReleased k) = 1 ∷ k ∷ 0 ∷ 0 ∷ 0 ∷ 0 ∷ 0 ∷ 0 ∷ 0 ∷ []
told_values (ToldTicked a) =
    2 ∷ a.tick.0 ∷ mode_value a.mode ∷ (turn_values a.turn ++ (left_values a.left ++ (a.discarded ∷ [])))

-- what nine numbers tell: any nine tell something
unfoldable pub told_said : ℕ → ℕ → ℕ → ℕ → ℕ → ℕ → ℕ → ℕ → ℕ → Told
told_said zero x m w i k h j d = ToldNo x
told_said (suc zero) x m w i k h j d = ToldReleased x
told_said (suc (suc y)) x m w i k h j d =
    ToldTicked
    (record { tick = record { 0 = x }; mode = mode_said m; turn = turn_said w i k; left = left_said h j; discarded = d })

-- what the nine numbers from place `at` on tell
abbrev pub told_at : List ℕ → ℕ → Told
told_at xs at =
    told_said
    (get_or xs at 0)
    (get_or xs (at + 1) 0)
    (get_or xs (at + 2) 0)
    (get_or xs (at + 3) 0)
    (get_or xs (at + 4) 0)
    (get_or xs (at + 5) 0)
    (get_or xs (at + 6) 0)
    (get_or xs (at + 7) 0)
    (get_or xs (at + 8) 0)

-- what is told to some lines, one after the other
unfoldable pub all_values : List Told → List ℕ
all_values [] = []
all_values (x ∷ xs) = told_values x ++ all_values xs

-- what is told, written into a lent room from place `at` on, where the room has nine places there
abbrev pub told_put : List ℕ → ℕ → Told → List ℕ
told_put room at x = if leb (at + 9) (length room) then paste room at (told_values x) 9 else room
