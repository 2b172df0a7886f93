-- What is found at taken ticks, as plain numbers: 96 of each tick, beside nine of what is told of it.
-- Assumes nothing.
use mathlib.Core.Path.{◌≡◌, refl, sym, ap, ◌∙◌}
use mathlib.Core.List.{List, [], ◌∷◌, ◌++◌}
use Prim.Native.Nat.{ℕ, ◌+◌, ◌*◌, ◌<◌}
use native.Mathlib.Omega.{arith}
use lib.ListN.{length, get_or, length-append, length-replicate, replicate}
use lib.Seq.{get_or-take, take-append_seam, get_or-append-add}
use Rattle.laws.specs.Rows.{anew}
use Rattle.laws.proofs.Anew.{length_anew, anew_at}
use Rattle.table.specs.declared.Table.{Table}
use Rattle.events.specs.declared.Told.TheVariants.{Ticked}
use Rattle.run.specs.Found.{TakenTick, top_priority, found_values, all_found, all_told}
use Rattle.events.specs.Values.{told_values}
use Rattle.events.proofs.Values.{told_length}

-- 32 numbers of servers, then 64 of tasks
module _ (t : Table) (m : TakenTick) where
  abbrev servers : List ℕ
  servers = anew 32 (λ i x. top_priority t m.found i) (replicate 32 0)

  abbrev tasks : List ℕ
  tasks = anew t.ntasks (λ k x. m.discarded k) (replicate 64 0)

  servers_length : length servers ≡ 32
  servers_length = length_anew 32 (λ i x. top_priority t m.found i) (replicate 32 0) ∙ length-replicate {A = ℕ} 32 0

  tasks_length : length tasks ≡ 64
  tasks_length = length_anew t.ntasks (λ k x. m.discarded k) (replicate 64 0) ∙ length-replicate {A = ℕ} 64 0

  pub found_length : length (found_values t m) ≡ 96
  unfolding found_values
  found_length = omega (arith, length-append servers tasks, servers_length, tasks_length)

  -- of a server the highest priority that waits, of a task in use what is discarded
  pub found_server : (i : ℕ) → i < 32 → get_or (found_values t m) i 0 ≡ top_priority t m.found i
  unfolding found_values
  found_server i l =
      sym (get_or-take (length servers) (servers ++ tasks) i 0 (omega (arith, servers_length)))
      ∙ ap (λ (xs : List ℕ). get_or xs i 0) (take-append_seam servers tasks)
      ∙ anew_at 32 (λ j x. top_priority t m.found j) (replicate 32 0) i 0 l
      (omega (arith, length-replicate {A = ℕ} 32 0))

  pub found_task : (k : ℕ) → k < t.ntasks → k < 64 → get_or (found_values t m) (32 + k) 0 ≡ m.discarded k
  unfolding found_values
  found_task k l h =
      ap (λ (n : ℕ). get_or (servers ++ tasks) (n + k) 0) (sym servers_length)
      ∙ get_or-append-add servers tasks k 0
      ∙ anew_at t.ntasks (λ j x. m.discarded j) (replicate 64 0) k 0 l
      (omega (arith, length-replicate {A = ℕ} 64 0))

pub all_found_length : (t : Table) (ms : List TakenTick) → length (all_found t ms) ≡ 96 * length ms
unfolding all_found
all_found_length t [] = refl
all_found_length t (m ∷ ms) =
    omega (arith, length-append (found_values t m) (all_found t ms), found_length t m, all_found_length t ms)

pub all_told_length : (ms : List TakenTick) → length (all_told ms) ≡ 9 * length ms
unfolding all_told
all_told_length [] = refl
all_told_length (m ∷ ms) =
    omega (
      arith,
      length-append (told_values (Ticked m.answer)) (all_told ms),
      told_length (Ticked m.answer),
      all_told_length ms,
    )
