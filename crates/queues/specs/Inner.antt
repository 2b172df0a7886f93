-- Only contracts of the code cite this file; a buyer need not read it. It says what a step makes of
-- one of the arrays, for any row and any count, also where no step would ask.
use Rattle.std.specs.Prelude.{List, ℕ, ◌+◌, ◌-◌, ltb, get_or, set, if◌then◌else◌}

-- what is made of a list at row k, where an array of 64 rows has that row
abbrev pub at_row : ℕ → List ℕ → List ℕ → List ℕ
at_row k xs ys = if ltb k 64 then ys else xs

-- one job more of task k waits, unless its queue is full
abbrev pub joined_waiting : List ℕ → ℕ → List ℕ
joined_waiting w k = at_row k w (if ltb (get_or w k 0) 16 then set w k (get_or w k 0 + 1) else w)

-- one job fewer of task k waits, and the next one's count starts at 0
abbrev pub left_waiting : List ℕ → ℕ → List ℕ
left_waiting w k = at_row k w (set w k (get_or w k 0 - 1))

abbrev pub left_runs : List ℕ → ℕ → List ℕ
left_runs c k = at_row k c (set c k 0)

-- the front job of task k has run one tick more, unless 32 bits no longer hold its count
abbrev pub ran_once : List ℕ → ℕ → List ℕ
ran_once c k = at_row k c (if ltb (get_or c k 0) 4294967295 then set c k (get_or c k 0 + 1) else c)
