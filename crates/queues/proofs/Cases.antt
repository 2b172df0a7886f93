-- The definitions on small queues, computed: a slip in a definition shows here as an equation that
-- fails. The laws say more than these. Assumes nothing.
use Rattle.std.proofs.Common.{None, Some}
use mathlib.Core.Path.{◌≡◌, refl}
use mathlib.Core.Bool.{true, false}
use mathlib.Core.List.{[], ◌∷◌}
use Rattle.laws.specs.Choice.{every}
use Rattle.laws.specs.Rows.{anew}
use Rattle.events.specs.declared.Turn.TheVariants.{Run as Ran}
use Rattle.queues.specs.Queues.{Queues, joined, front_gone, front_ran}
use Rattle.queues.specs.Sound.{front_sound, last_sound}

-- three tasks: two jobs of task 1 wait, and its front job has run 4 ticks
abbrev some : Queues
some = record { waiting = 0 ∷ 2 ∷ 1 ∷ []; runs = 0 ∷ 4 ∷ 0 ∷ [] }

-- a release adds a job, and a second one another
two_join : joined (joined some 0) 0 ≡ record { waiting = 2 ∷ 2 ∷ 1 ∷ []; runs = 0 ∷ 4 ∷ 0 ∷ [] }
two_join = refl

-- "the front job's count starts at 0"
next_starts_at_0 : front_gone some 1 ≡ record { waiting = 0 ∷ 1 ∷ 1 ∷ []; runs = 0 ∷ 0 ∷ 0 ∷ [] }
next_starts_at_0 = refl

one_runs : front_ran 3 some (Ran 7 2) ≡ record { waiting = 0 ∷ 2 ∷ 1 ∷ []; runs = 0 ∷ 4 ∷ 1 ∷ [] }
unfolding anew
one_runs = refl

-- "0 if none waits and else below the limit .., or equal to it for the last-run job"
fronts :
    front_sound 3 0 0 false ∷ front_sound 3 0 1 false ∷ front_sound 3 1 2 false ∷ front_sound 3 1 3 false
    ∷ front_sound 3 1 3 true ∷ front_sound 3 1 4 true ∷ []
    ≡ true ∷ false ∷ true ∷ false ∷ true ∷ false ∷ []
fronts = refl

-- the last-run job: none; waiting and run; not run; not waiting; no tick taken; no such task
lasts :
    last_sound 3 some 9 None ∷ last_sound 3 some 9 (Some 1) ∷ last_sound 3 some 9 (Some 2) ∷ last_sound 3 some 9 (Some 0)
    ∷ last_sound 3 some 0 (Some 1) ∷ last_sound 1 some 9 (Some 1) ∷ []
    ≡ true ∷ true ∷ false ∷ false ∷ false ∷ false ∷ []
unfolding every
lasts = refl
