-- Condition 2, and what requests No. 4 and No. 5 come to, with one of its words changed is false,
-- each time by a run or an answer that is computed. Assumes nothing.
use Rattle.std.proofs.Common.{Some}
use mathlib.Core.Path.{◌≡◌, refl, ap}
use mathlib.Core.Bool.{Bool, true, false}
use mathlib.Core.List.{List, [], ◌∷◌}
use mathlib.Core.Logic.{◌⊎◌, inl, inr}
use Prim.Native.Nat.{ℕ, ◌+◌, ◌≤◌, ◌<◌}
use native.Mathlib.Omega.{arith}
use borrow.Author.Count.{below_more}
use Rattle.laws.specs.Rows.{sum_below, listed}
use Rattle.table.specs.declared.Kind.TheVariants.{Timed}
use Rattle.table.specs.declared.Mode.{Mode}
use Rattle.table.specs.declared.Level.TheVariants.{MI}
use Rattle.table.specs.declared.Mode.TheVariants.{N, D1, D2}
use Rattle.table.specs.declared.Table.{Table}
use Rattle.table.specs.Inner.{Sized}
use Rattle.table.specs.Rows.{task_at, limit_at, capacity_at}
use Rattle.table.specs.Rules.{table_keeps}
use Rattle.verdict.specs.declared.Verdict.TheVariants.{Response, Misses}
use Rattle.verdict.specs.declared.Fits.TheVariants.{Yes, Miss}
use Rattle.verdict.specs.Verdict.{interference, verdict_of}
use Rattle.verdict.specs.Fits.{verdicts_of, is_miss, least_row, from_verdicts, fits_of}
use Rattle.verdict.proofs.Cases.{three}
use Rattle.run.specs.declared.Run.{Run}
use Rattle.events.specs.declared.Turn.TheVariants.{Run as Ran}
use Rattle.events.specs.declared.Left.TheVariants.{Nobody, Done, Cut}
use Rattle.events.specs.declared.Event.{Event}
use Rattle.events.specs.declared.Event.TheVariants.{Release, Tick}
use Rattle.events.specs.declared.TickAnswer.{TickAnswer}
use Rattle.events.specs.declared.Answer.{Answer}
use Rattle.events.specs.declared.Answer.TheVariants.{Ticked}
use Rattle.run.specs.State.{waiting_at, runs_at}
use Rattle.run.specs.Release.{fresh_run}
use Rattle.run.specs.Tick.{tick_of}
use Rattle.run.specs.Events.{after, answers}
use Rattle.run.specs.Found.{taken_ticks}
use Rattle.events.specs.Count.{over_all, released_in, finished_in, cut_in}
use Rattle.table.specs.Example.{by_mode, example}
use Rattle.run.proofs.Shape.{fresh_run_shaped}
use Rattle.run.proofs.Cases.{tight, levels}
use Rattle.promises.specs.Example.{two}
use Rattle.promises.specs.Condition2.{RunSized, LiesAbove}
use Rattle.promises.specs.AlarmMode.{mode_height, left_as}
use Rattle.promises.specs.Bounds.{normal, charges, waits_until}
use Rattle.promises.specs.Fits.{EachServed}
use Rattle.promises.proofs.Opened.{opened}
use Rattle.promises.proofs.FromTheText.{reached_held}

unfoldable computed : Unit {0}
unfolding opened over_all tight levels listed verdicts_of least_row from_verdicts fits_of three
computed = tt

-- every tick that is taken, on a run that code holds
abbrev pub OfTicks : (Run → Bool → TickAnswer → Type 0) → Type 0
OfTicks P = (r : Run) (mark : Bool) (a : TickAnswer) → RunSized r → (tick_of r mark).answer ≡ Ticked a → P r mark a

sized : Sized example
unfolding computed
sized = record { servers = refl; tasks = refl }

-- "In N a task belongs to its home": in every mode it does not. Tick 1 of the example is in D1, and
-- the degraded server of task 0 runs it.
pub needs_the_degraded : OfTicks (λ r mark a. (i k : ℕ) → a.turn ≡ Ran i k → (task_at r.table k).home ≡ i) → ⊥
unfolding computed
needs_the_degraded f =
    let es = Release 0 ∷ Tick false ∷ [] in
    let held = reached_held (fresh_run example) es (fresh_run_shaped example sized) in
    let n : ◌≡◌ {A = ℕ} 0 1 = f (after (fresh_run example) es) false _ held refl 1 0 refl in
    omega arith

-- "After a rise, judge again at the new limit": else a job at its limit in N would stay.
pub needs_judging_again :
    OfTicks
    (λ r mark a.
    (k : ℕ) → mark ≡ false → r.state.last ≡ Some k → r.state.mode ≡ N →
    runs_at r.state k ≡ limit_at r.table N k → a.left ≡ Nobody) →
    ⊥
unfolding computed
needs_judging_again f =
    let es = Release 0 ∷ Tick false ∷ [] in
    let n =
    f (after (fresh_run tight) es) false _
    (reached_held (fresh_run tight) es (fresh_run_shaped tight (record { servers = refl; tasks = refl })))
    refl 0 refl refl refl refl in
    let z : ◌≡◌ {A = ℕ} 0 1 = cc in
    omega arith

-- "jobs released = finished + cut + discarded + waiting": without what is discarded, of two jobs
-- one would be missing.
pub needs_the_discarded :
    ((t : Table) (es : List Event) → Sized t → table_keeps t ≡ true →
    released_in (answers (fresh_run t) es) ≡
    finished_in (answers (fresh_run t) es) + cut_in (answers (fresh_run t) es) +
    sum_below t.ntasks (waiting_at (after (fresh_run t) es).state)) →
    ⊥
unfolding computed
needs_the_discarded f =
    let es = Release 0 ∷ Release 2 ∷ Tick false ∷ Tick false ∷ Tick false ∷ [] in
    let n : ◌≡◌ {A = ℕ} 2 1 = f example es sized refl in
    omega (arith, n)

-- "C + I(R) <= R": with less, P7 would miss.
pub needs_at_most :
    ((t : Table) (i : ℕ) (m : Mode) (R : ℕ) → table_keeps t ≡ true → i < t.nservers → 1 ≤ capacity_at t m i →
    verdict_of t i m ≡ Response (record { 0 = R }) → capacity_at t m i + interference t m i R < R) →
    ⊥
unfolding computed
needs_at_most f =
    let n : 4 < 4 = f (two Timed 4 3 4 1) 1 N 4 refl (omega arith) (omega arith) refl in
    omega (arith, n)

-- Request No. 4, on a table with a task of each level.
levels_sized : Sized levels
unfolding computed
levels_sized = record { servers = refl; tasks = refl }

-- "only if its level lies above the present one": by the rule before it a job at its limit in N, and
-- not in D1, would stay. The LO job is cut.
pub needs_the_level :
    OfTicks
    (λ r mark a.
    (k : ℕ) → mark ≡ false → r.state.last ≡ Some k → r.state.mode ≡ N →
    runs_at r.state k ≡ limit_at r.table N k → (runs_at r.state k ≡ limit_at r.table D1 k → ⊥) →
    a.left ≡ Nobody) →
    ⊥
unfolding computed
needs_the_level f =
    let es = Release 2 ∷ Tick false ∷ [] in
    let n =
    f (after (fresh_run levels) es) false _
    (reached_held (fresh_run levels) es (fresh_run_shaped levels levels_sized))
    refl 2 refl refl refl refl (λ e. let one : ◌≡◌ {A = ℕ} 1 2 = e in omega (arith, one)) in
    let z : ◌≡◌ {A = ℕ} 0 1 = cc in
    omega arith

-- "a LO job never changes the mode": a MI job does. It raises N to D1.
pub needs_a_low_job :
    OfTicks
    (λ r mark a.
    (k : ℕ) → r.state.last ≡ Some k → (task_at r.table k).level ≡ MI →
    (a.mode ≡ r.state.mode) ⊎ (a.mode ≡ N)) →
    ⊥
unfolding computed
needs_a_low_job f =
    let es = Release 1 ∷ Release 2 ∷ Tick false ∷ [] in
    let n : (D1 ≡ N) ⊎ (D1 ≡ N) =
    f (after (fresh_run levels) es) false _
    (reached_held (fresh_run levels) es (fresh_run_shaped levels levels_sized))
    refl 1 refl refl in
    elim n [ inl e ↦ stays e | inr e ↦ stays e ]
  where
    stays : D1 ≡ N → ⊥
    stays e = let z : ◌≡◌ {A = ℕ} 1 0 = ap mode_height e in omega (arith, z)

-- "costs one cut": of a job whose level lies above the mode it costs none. The HI job at its limit
-- in N stays.
pub needs_a_level_not_above :
    ((r : Run) (k : ℕ) (a : Answer) → r.state.last ≡ Some k →
    runs_at r.state k ≡ limit_at r.table r.state.mode k → LiesAbove r.table k r.state.mode →
    (tick_of r false).answer ≡ a → a ≡ left_as (Cut k) a) →
    ⊥
unfolding computed
needs_a_level_not_above f =
    let es = Release 0 ∷ Tick false ∷ [] in
    let n = f (after (fresh_run levels) es) 0 _ refl refl (omega arith) refl in
    let z : ◌≡◌ {A = ℕ} 0 1 = ap (λ (b : Answer). cut_in (b ∷ [])) n in
    omega (arith, z)

-- and it is told as cut, not as finished
pub needs_cut_told :
    ((r : Run) (k : ℕ) (a : Answer) → r.state.last ≡ Some k →
    runs_at r.state k ≡ limit_at r.table r.state.mode k → (LiesAbove r.table k r.state.mode → ⊥) →
    (tick_of r false).answer ≡ a → a ≡ left_as (Done k) a) →
    ⊥
unfolding computed
needs_cut_told f =
    let es = Release 2 ∷ Tick false ∷ [] in
    let n = f (after (fresh_run levels) es) 2 _ refl refl (λ u. let low : 0 < 0 = u in omega (arith, low)) refl in
    let z : ◌≡◌ {A = ℕ} 1 0 = ap (λ (b : Answer). cut_in (b ∷ [])) n in
    omega (arith, z)

-- Request No. 5. "the least row": of two rows that miss in a mode the later one is not named.
pub needs_the_least_row :
    ((t : Table) (m : Mode) (i j : ℕ) → fits_of t ≡ Miss m i → i < j → verdict_of t j m ≡ Misses → ⊥) → ⊥
unfolding computed
needs_the_least_row f =
    f (three Timed (by_mode 1 2 2) (by_mode 1 3 3) (by_mode 1 1 1)) D1 1 2 refl (omega arith) refl

-- "in any of the three modes": a table that misses in D2 alone does not fit.
pub needs_every_mode :
    ((t : Table) → table_keeps t ≡ true → ((i : ℕ) → i < t.nservers → is_miss (verdict_of t i N) ≡ false) → fits_of t ≡ Yes) →
    ⊥
unfolding computed
needs_every_mode f =
    let t = three Timed (by_mode 1 1 2) (by_mode 1 1 1) (by_mode 1 1 2) in
    let n : Miss D2 2 ≡ Yes =
    f t refl (below_more (λ i. is_miss (verdict_of t i N) ≡ false) 2
    (below_more (λ i. is_miss (verdict_of t i N) ≡ false) 1
    (below_more (λ i. is_miss (verdict_of t i N) ≡ false) 0 (λ i h. absurd (omega arith)) refl) refl) refl) in
    let z : ◌≡◌ {A = ℕ} 0 1 = cc in
    omega arith

-- "if it fits": of P6's table row 1 is charged once in its first period of 6 ticks, and its capacity
-- is 2.
pub needs_a_table_that_fits :
    ((t : Table) (es : List Event) → table_keeps t ≡ true → EachServed t (taken_ticks (fresh_run t) es)) → ⊥
unfolding computed normal charges waits_until taken_ticks
needs_a_table_that_fits f =
    let t = two Timed 4 3 6 2 in
    let es = Tick false ∷ Tick false ∷ Tick false ∷ Tick false ∷ Tick false ∷ Tick false ∷ [] in
    let n : ◌≡◌ {A = ℕ} 1 2 = (f t es refl 1 0 6 2 (omega arith) refl refl (omega arith) refl refl refl).0 in
    omega (arith, n)
