-- 01, Numbers for no: "5 for the first pair of server rows with equal priority, smaller row first
-- (pairs ordered by it, then by the larger row), then the same for tasks".
use Rattle.std.specs.Prelude.{List, ℕ, suc, ◌-◌, eqb, length, get_or, slice_index, None, Option, Some}
use Rattle.laws.specs.Search.{least, first_of}
use Rattle.table.specs.declared.Server.{Server}
use Rattle.table.specs.declared.Task.{Task}
use Rattle.table.specs.Rows.{no_server, no_task}

-- the first row after i, below n, whose priority equals that of row i
unfoldable pub later_equal : ℕ → (ℕ → ℕ) → ℕ → Option ℕ
later_equal n priority i = least (λ j. eqb (priority i) (priority j)) (suc i) (n - suc i)

-- the first row that a later one equals, with the first that does
unfoldable pub first_pair : ℕ → (ℕ → ℕ) → Option (ℕ × ℕ)
first_pair n priority = first_of (λ i j. Some (i, j)) None (later_equal n priority) n

-- of rows by their priorities, in their order
abbrev pub equal_rows : List ℕ → Option (ℕ × ℕ)
equal_rows ps = first_pair (length ps) (slice_index ps)

abbrev pub equal_servers : List Server → Option (ℕ × ℕ)
equal_servers ss = first_pair (length ss) (λ i. (get_or ss i no_server).priority)

abbrev pub equal_tasks : List Task → Option (ℕ × ℕ)
equal_tasks ks = first_pair (length ks) (λ k. (get_or ks k no_task).priority)
