-- 01, Numbers for no: "A state is sound (else 13) if ..", the clauses that concern tasks, the last-run
-- job and the counts. They are the same in every box.
use Rattle.std.specs.Prelude.{Bool, true, ◌&&◌, ◌||◌, List, [], ◌∷◌, ℕ, leb, ltb, eqb, if◌then◌else◌, None, Option, Some}
use Rattle.laws.specs.Choice.{every}
use Rattle.laws.specs.Rows.{sum_below}
use Rattle.queues.specs.Queues.{Queues, runs_in, waits_in}

-- "the front job's run count is 0 if none waits and else below the limit of the present mode, or
-- equal to it for the last-run job"
abbrev pub front_sound : ℕ → ℕ → ℕ → Bool → Bool
front_sound limit waiting runs last =
    if ltb 0 waiting then ltb runs limit || last && eqb runs limit else eqb runs 0

-- "each task has at most 16 waiting; the front job's run count .."
abbrev pub queue_sound : ℕ → ℕ → ℕ → Bool → List Bool
queue_sound limit waiting runs last = leb waiting 16 ∷ front_sound limit waiting runs last ∷ []

-- "the last-run task, if any, has a waiting job with run count at least 1, and a tick has been
-- taken": of n tasks
abbrev pub last_sound : ℕ → Queues → ℕ → Option ℕ → Bool
last_sound n q ticks None = true
last_sound n q ticks (Some k) = every (ltb k n ∷ waits_in q k ∷ leb 1 (runs_in q k) ∷ leb 1 ticks ∷ [])

-- "the counts of taken ticks and accepted releases are within 10's bounds, the latter not below the
-- jobs waiting": of n tasks
abbrev pub counts_sound : ℕ → (ℕ → ℕ) → ℕ → ℕ → List Bool
counts_sound n waiting ticks accepted =
    leb ticks 4000000000 ∷ leb accepted 4000000000 ∷ leb (sum_below n waiting) accepted ∷ []
