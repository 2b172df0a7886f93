-- The numbers of some taken ticks with one tick more at their end, as counting goes on. Each follows
-- by induction over the ticks; for the longest row, it is the best of the rows that were met on the
-- way. And each tick that a sound run takes fits the table's rows: who is charged is able, who left
-- was the last-run job, and priorities are at least 1. Assumes nothing.
use Rattle.std.specs.Prelude.{if◌then◌else◌, None, Option, Some}
use mathlib.Core.Path.{◌≡◌, refl, ap, sym, subst, ◌∙◌}
use mathlib.Core.Bool.{Bool, true, false}
use mathlib.Core.List.{List, [], ◌∷◌, ◌++◌}
use Prim.Native.Nat.{ℕ, suc, ◌+◌, ◌≤◌}
use native.Mathlib.Omega.{arith}
use lib.Dec.{ltb}
use lib.ListN.{length}
use borrow.Author.Tests.{lt-ltb}
use Rattle.laws.specs.Choice.{larger}
use Rattle.laws.proofs.Choice.{if_ind, larger_left, larger_right}
use Rattle.laws.proofs.Rows.{any_at, none_build}
use Rattle.laws.proofs.Highest.{highest_at, highest_none}
use Rattle.table.specs.declared.Table.{Table}
use Rattle.table.specs.Rows.{task_priority_at}
use Rattle.table.proofs.Rules.{TableRules, table_rules}
use Rattle.run.specs.declared.State.{State}
use Rattle.run.specs.declared.Run.{Run}
use Rattle.events.specs.declared.Turn.{Turn}
use Rattle.events.specs.declared.Turn.TheVariants.{Run as Ran, Empty, Idle}
use Rattle.events.specs.declared.Left.{Left}
use Rattle.events.specs.declared.Left.TheVariants.{Nobody, Done, Cut}
use Rattle.events.specs.declared.Event.{Event}
use Rattle.events.specs.declared.Event.TheVariants.{Release, Tick}
use Rattle.events.specs.declared.Answered.{Answered}
use Rattle.run.specs.State.{waits, waits_for}
use Rattle.run.specs.Sound.{sound}
use Rattle.events.specs.Answers.{charged}
use Rattle.run.specs.Tick.{settle, highest_task, choose, tick_taken}
use Rattle.run.specs.Events.{event_of}
use Rattle.run.specs.Found.{TakenTick, tick_taken_so, taken_by, taken_ticks, priority_found, top_priority}
use Rattle.run.proofs.Taken.{tick_ind}
use Rattle.run.proofs.Shape.{RunShaped, event_table, event_run_shaped}
use Rattle.run.proofs.Tick.{charged_able}
use Rattle.events.proofs.Answers.{one_same}
use Rattle.run.proofs.Sound.{sound_table, sound_state_lem}
use Rattle.events.proofs.Count.{LeftBelow}
use Rattle.run.proofs.Count.{left_below}
use Rattle.run.proofs.Kept.{event_keeps}
use Rattle.morning.specs.Numbers.{row_from, longest_row}
use Rattle.morning.specs.Inner.{over_ticks, row_to, ServerBelow, TaskBelow, TickFits, AllFit}

-- counts
pub over_append : (f : TakenTick → ℕ) (ms ns : List TakenTick) →
    over_ticks f (ms ++ ns) ≡ over_ticks f ms + over_ticks f ns
unfolding over_ticks
over_append f [] ns = omega arith
over_append f (m ∷ ms) ns = omega (arith, over_append f ms ns)

pub over_next : (f : TakenTick → ℕ) (ms : List TakenTick) (m : TakenTick) →
    over_ticks f (ms ++ (m ∷ [])) ≡ over_ticks f ms + f m
unfolding over_ticks
over_next f ms m = omega (arith, over_append f ms (m ∷ []))

pub over_most : (f : TakenTick → ℕ) (ms : List TakenTick) → ((m : TakenTick) → f m ≤ 1) → over_ticks f ms ≤ length ms
unfolding over_ticks
over_most f [] h = omega arith
over_most f (m ∷ ms) h = omega (arith, h m, over_most f ms h)

-- the row that is not over
pub row_next : (such : TakenTick → Bool) (c : ℕ) (ms : List TakenTick) (m : TakenTick) →
    row_to such c (ms ++ (m ∷ [])) ≡ (if such m then suc (row_to such c ms) else 0)
unfolding row_to
row_next such c [] m = refl
row_next such c (x ∷ ms) m = row_next such (if such x then suc c else 0) ms m

row_most_from : (such : TakenTick → Bool) (c : ℕ) (ms : List TakenTick) → row_to such c ms ≤ c + length ms
unfolding row_to
row_most_from such c [] = omega arith
row_most_from such c (m ∷ ms) =
    if_ind (λ (d : ℕ). row_to such d ms ≤ c + suc (length ms)) (such m)
    (λ e. omega (arith, row_most_from such (suc c) ms))
    (λ e. omega (arith, row_most_from such 0 ms))

pub row_most : (such : TakenTick → Bool) (ms : List TakenTick) → row_to such 0 ms ≤ length ms
row_most such ms = omega (arith, row_most_from such 0 ms)

-- the larger of two is the least that neither passes
pub larger_least : (a b c : ℕ) → a ≤ c → b ≤ c → larger a b ≤ c
larger_least a b c h g = if_ind (λ (n : ℕ). n ≤ c) (ltb a b) (λ e. g) (λ e. h)

-- The longest row as it is found on the way: b is the longest so far, c the row that is not over.
unfoldable best_of : (TakenTick → Bool) → ℕ → ℕ → List TakenTick → ℕ
best_of such b c [] = b
best_of such b c (m ∷ ms) =
    best_of such (larger b (if such m then suc c else 0)) (if such m then suc c else 0) ms

best_next : (such : TakenTick → Bool) (b c : ℕ) (ms : List TakenTick) (m : TakenTick) →
    best_of such b c (ms ++ (m ∷ [])) ≡ larger (best_of such b c ms) (row_to such c (ms ++ (m ∷ [])))
unfolding best_of row_to
best_next such b c [] m = refl
best_next such b c (x ∷ ms) m =
    best_next such (larger b (if such x then suc c else 0)) (if such x then suc c else 0) ms m

pub first_within : (such : TakenTick → Bool) (ms : List TakenTick) → row_from such ms ≤ longest_row such ms
unfolding row_from longest_row
first_within such [] = omega arith
first_within such (m ∷ ms) = larger_left (row_from such (m ∷ ms)) (longest_row such ms)

-- x is the largest of three
record Largest (a b c x : ℕ) : Type 0 where
  first : a ≤ x
  second : b ≤ x
  third : c ≤ x
  least : (d : ℕ) → a ≤ d → b ≤ d → c ≤ d → x ≤ d

-- of the longest so far, of the row that is not over with the ticks that go on with it, and of the
-- longest of these ticks
best_is : (such : TakenTick → Bool) (b c : ℕ) (ms : List TakenTick) → c ≤ b →
    Largest b (c + row_from such ms) (longest_row such ms) (best_of such b c ms)
unfolding best_of row_from longest_row
best_is such b c [] h = record { first = omega arith; second = omega arith; third = omega arith; least = λ d p q r. p }
best_is such b c (m ∷ ms) h =
    go (such m)
    (best_is such (larger b (suc c)) (suc c) ms (larger_right b (suc c)))
    (best_is such (larger b 0) 0 ms (omega arith))
  where
    row : ℕ
    row = row_from such ms

    long : ℕ
    long = longest_row such ms

    go : (t : Bool) →
        Largest (larger b (suc c)) (suc c + row) long (best_of such (larger b (suc c)) (suc c) ms) →
        Largest (larger b 0) (0 + row) long (best_of such (larger b 0) 0 ms) →
        Largest b (c + (if t then suc row else 0)) (larger (if t then suc row else 0) long)
        (best_of such (larger b (if t then suc c else 0)) (if t then suc c else 0) ms)
    go true x y =
        record {
          first = omega (arith, x.first, larger_left b (suc c));
          second = omega (arith, x.second);
          third = larger_least (suc row) long _ (omega (arith, x.second)) x.third;
          least =
              λ d p q r.
              x.least d (larger_least b (suc c) d p (omega arith)) (omega arith)
              (omega (arith, larger_right (suc row) long));
        }
    go false x y =
        record {
          first = omega (arith, y.first, larger_left b 0);
          second = omega (arith, y.first, larger_left b 0);
          third = larger_least 0 long _ (omega arith) y.third;
          least =
              λ d p q r.
              y.least d (larger_least b 0 d p (omega arith)) (omega (arith, larger_right 0 long, first_within such ms))
              (omega (arith, larger_right 0 long));
        }

pub longest_next : (such : TakenTick → Bool) (ms : List TakenTick) (m : TakenTick) →
    longest_row such (ms ++ (m ∷ [])) ≡ larger (longest_row such ms) (row_to such 0 (ms ++ (m ∷ [])))
longest_next such ms m = rw (longest_is such (ms ++ (m ∷ [])), longest_is such ms) (best_next such 0 0 ms m)
  where
    longest_is : (such : TakenTick → Bool) (ms : List TakenTick) → longest_row such ms ≡ best_of such 0 0 ms
    longest_is such ms =
        let x = best_is such 0 0 ms (omega arith) in
        let f : 0 + row_from such ms ≤ longest_row such ms = omega (arith, first_within such ms) in
        omega (arith, x.third, x.least (longest_row such ms) (omega arith) f (omega arith))

-- What is true of each tick that a sound run takes.
server_below : (t : Table) (z : State) (u : Turn) → choose t z ≡ u → ServerBelow t.nservers u
server_below t z (Ran i k) e = (charged_able t z i (ap (λ u. charged u i) e ∙ one_same i)).0
server_below t z (Empty i) e = (charged_able t z i (ap (λ u. charged u i) e ∙ one_same i)).0
server_below t z Idle e = tt

task_below : (n : ℕ) (l : Left) → LeftBelow n l → TaskBelow n l
task_below n Nobody b = tt
task_below n (Done k) b = b
task_below n (Cut k) b = b

-- the highest priority of a waiting job is 0 exactly if none waits
pub found_waits : (t : Table) → TableRules t → (z : State) (i : ℕ) → ltb 0 (top_priority t z i) ≡ waits t z i
unfolding top_priority highest_task waits
found_waits t rules z i = go (highest_task t z i) refl
  where
    go : (a : Option ℕ) → highest_task t z i ≡ a → ltb 0 (priority_found t a) ≡ waits t z i
    go (Some k) e =
        let h = highest_at (waits_for t z i) (task_priority_at t) t.ntasks k e in
        lt-ltb 0 (task_priority_at t k) (omega (arith, (rules.task k h.below).priority_low)) ∙
        sym (any_at (waits_for t z i) t.ntasks k h.below h.is)
    go None e =
        sym (none_build (waits_for t z i) t.ntasks (highest_none (waits_for t z i) (task_priority_at t) t.ntasks e))

tick_fits : (r : Run) (mark : Bool) → RunShaped r → sound r ≡ true →
    TickFits r.table
    (tick_taken_so (settle r.table r.state mark) (tick_taken r.table r.state mark).answer)
unfolding tick_taken settle
tick_fits r mark h q =
    let t = r.table in
    let s = r.state in
    let z = (settle t s mark).state in
    record {
      server = server_below t z (choose t z) refl;
      task = task_below t.ntasks (settle t s mark).left (left_below t s mark s.last (sound_state_lem r q).last);
      waits = λ i l. found_waits t (table_rules t h.table (sound_table r q)) z i;
      counted = refl;
    }

pub all_fit : (r : Run) (es : List Event) → RunShaped r → sound r ≡ true → AllFit r.table (taken_ticks r es)
unfolding taken_ticks
all_fit r [] h q = tt
all_fit r (e ∷ es) h q =
    now e
    (subst (λ t. AllFit t (taken_ticks (event_of r e).run es)) (event_table r e)
    (all_fit (event_of r e).run es (event_run_shaped r e h) (event_keeps r e h q)))
  where
    now : (e : Event) → AllFit r.table (taken_ticks (event_of r e).run es) →
        AllFit r.table (taken_by r e (event_of r e).answer ++ taken_ticks (event_of r e).run es)
    now (Release k) rest = rest
    now (Tick mark) rest =
        tick_ind
        (λ (a : Answered Run).
        AllFit r.table (taken_ticks a.run es) →
        AllFit r.table (taken_by r (Tick mark) a.answer ++ taken_ticks a.run es))
        r
        mark
        (λ why x. x)
        (λ y x. (tick_fits r mark h q, x))
        rest
