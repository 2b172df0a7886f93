-- 01, Marked figures: P1 to P11, one table under one statement, `AllHold figures`. Its proof is proofs/Figures.antt.
use Rattle.std.specs.Prelude.{◌≡◌, true, false, List, [], ◌∷◌, ◌++◌, map, ℕ, replicate}
use Prim.Native.String.{String}
use Rattle.laws.specs.Quoted.{lined}
use Rattle.table.specs.declared.Kind.TheVariants.{Event as EventServer, Timed}
use Rattle.table.specs.declared.Mode.{Mode}
use Rattle.table.specs.declared.Mode.TheVariants.{N, D1, D2}
use Rattle.table.specs.declared.Table.{Table}
use Rattle.verdict.specs.declared.Verdict.{Verdict}
use Rattle.verdict.specs.declared.Verdict.TheVariants.{Response, Misses}
use Rattle.verdict.specs.Verdict.{verdict_of}
use Rattle.events.specs.declared.Event.{Event}
use Rattle.events.specs.declared.Event.TheVariants.{Release, Tick}
use Rattle.events.specs.Answers.{no_of}
use Rattle.run.specs.Release.{fresh_run}
use Rattle.run.specs.Events.{answers}
use Rattle.lines.specs.Night.{night}
use Rattle.table.specs.Example.{example}
use Rattle.promises.specs.Example.{example_text, two}

pub data Figure : Type 0 where
  -- the verdict for a row in a mode
  verdict : Table → ℕ → Mode → Verdict → Figure
  -- the lines of a table file and of an event file, and the whole output
  output : List String → List String → List String → Figure
  -- a fresh start, some events, and the numbers of their answers: 0 is taken
  numbers : Table → List Event → List ℕ → Figure

abbrev pub Holds : Figure → Type 0
Holds (verdict t i m v) = verdict_of t i m ≡ v
Holds (output table events out) = night (lined table) (lined events) ≡ lined out
Holds (numbers t es ns) = map no_of (answers (fresh_run t) es) ≡ ns

abbrev pub AllHold : List Figure → Type 0
AllHold [] = Unit {0}
AllHold (f ∷ fs) = Holds f × AllHold fs

-- The night's two columns: the events, and the whole output.
abbrev pub night_events : List String
night_events = "R\t0" ∷ "R\t0" ∷ "T\t0" ∷ "T\t1" ∷ "T\t0" ∷ "T\t0" ∷ "T\t0" ∷ "T\t1" ∷ "R\t9" ∷ []

abbrev pub night_output : List String
night_output =
    "R\t0\tok"
    ∷ "R\t0\tok"
    ∷ "T\t0\tN\trun\t0\t0\t-\t-\t0"
    ∷ "T\t1\tN\trun\t0\t0\tdone\t0\t0"
    ∷ "T\t2\tD1\trun\t1\t0\t-\t-\t0"
    ∷ "T\t3\tD2\trun\t1\t0\t-\t-\t0"
    ∷ "T\t4\tN\tempty\t1\t-\tcut\t0\t0"
    ∷ "T\tno\t9"
    ∷ "R\t9\tno\t6"
    ∷ []

abbrev pub ticks : ℕ → Verdict
ticks r = Response (record { 0 = r })

unfoldable pub figures : List Figure
figures =
    -- "P1 to P3: rows 0, 1, 2 in N: 2, 9, 19. P4: row 2 in D1: 15. P5: row 2 in D2: 11."
    verdict example 0 N (ticks 2)
    ∷ verdict example 1 N (ticks 9)
    ∷ verdict example 2 N (ticks 19)
    ∷ verdict example 2 D1 (ticks 15)
    ∷ verdict example 2 D2 (ticks 11)
    -- "For two timed servers, the higher of period 4 and capacity 3: P6 the lower 6 and 2 misses; P7 the lower 4 and 1 gives 4; P8 the
    -- lower 3 and 1 misses."
    ∷ verdict (two Timed 4 3 6 2) 1 N Misses
    ∷ verdict (two Timed 4 3 4 1) 1 N (ticks 4)
    ∷ verdict (two Timed 4 3 3 1) 1 N Misses
    -- "P9: event 4 and 2 above timed 8 and 2 gives 6."
    ∷ verdict (two EventServer 4 2 8 2) 1 N (ticks 6)
    -- "P10: the night above."
    ∷ output example_text night_events night_output
    -- "P11: 17 releases of task 2 before any tick: the last is refused 8; after six ticks with mark 0 and one with mark 1, a release is
    -- taken."
    ∷ numbers
    example
    (replicate 17 (Release 2) ++ (replicate 6 (Tick false) ++ (Tick true ∷ Release 2 ∷ [])))
    (replicate 16 0 ++ (8 ∷ (replicate 6 0 ++ (0 ∷ 0 ∷ []))))
    ∷ []
