-- The slips that document 01 warns of, and others that its reader would ask about, are not
-- made, each by a few lines from the laws. Assumes nothing.
use Rattle.std.specs.Prelude.{if◌then◌else◌, None, Option, Some}
use mathlib.Core.Path.{◌≡◌, refl, ap, ◌∙◌}
use mathlib.Core.List.{List}
use mathlib.Core.Bool.{Bool, true, false}
use Prim.Native.Nat.{ℕ, ◌+◌, ◌≤◌, ◌<◌}
use native.Mathlib.Omega.{arith}
use lib.Dec.{eqb}
use lib.ListN.{length}
use borrow.Author.Tests.{eqb-true, eqb-false, eq-eqb, ne_eqb, ltb-true, lt-ltb}
use Rattle.laws.proofs.Choice.{clash, if_ind}
use Rattle.laws.proofs.Rows.{any_at, any_found}
use Rattle.table.specs.declared.Level.TheVariants.{MI, HI}
use Rattle.table.specs.declared.Mode.{Mode}
use Rattle.table.specs.declared.Mode.TheVariants.{N, D1, D2}
use Rattle.table.specs.declared.Task.{Task}
use Rattle.table.specs.declared.Table.{Table}
use Rattle.table.specs.Rows.{task_at, period_at, limit_at, in_mode, is_low}
use Rattle.table.specs.Inner.{Sized}
use Rattle.table.specs.Rules.{table_keeps}
use Rattle.table.proofs.Rules.{TableRules}
use Rattle.events.specs.declared.Left.{Left}
use Rattle.events.specs.declared.Left.TheVariants.{Nobody, Done, Cut}
use Rattle.run.specs.declared.State.{State}
use Rattle.run.specs.declared.Run.{Run}
use Rattle.events.specs.declared.Event.{Event}
use Rattle.events.specs.declared.Event.TheVariants.{Release, Tick}
use Rattle.events.specs.declared.Answer.TheVariants.{Released}
use Rattle.events.specs.declared.Answered.{Answered}
use Rattle.run.specs.State.{used_at, elapsed_at, waiting_at, runs_at, task_waits, some_waits, with_mode}
use Rattle.run.specs.Sound.{sound}
use Rattle.events.specs.Answers.{no_of, finished_by, cut_by}
use Rattle.run.specs.Release.{fresh_run, release_of}
use Rattle.run.specs.declared.Judged.{Judged}
use Rattle.run.specs.Tick.{raises, judge, without_front, Marked, judged, step1, drops, discards, step2, step3}
use Rattle.run.specs.Tick.{step4, Settled, settle, choose, advance, tick_answer, Stepped, tick_taken}
use Rattle.run.specs.Events.{event_of, after}
use Rattle.run.proofs.Judge.{below_limit, raises_mode, is_cut}
use Rattle.run.proofs.Taken.{release_ind}
use Rattle.run.proofs.Shape.{Shaped, RunShaped, alike_shaped, mode_alike, step1_alike, event_run_shaped}
use Rattle.run.proofs.Tick.{used_settled}
use Rattle.events.proofs.Answers.{one_same, one_eq}
use Rattle.queues.proofs.Queues.{set_at}
use Rattle.run.proofs.Steps.{step2_mode, step2_runs, step2_counted, step3_runs}
use Rattle.run.proofs.Kept.{waiting_taken, reached_sound}
use Rattle.run.proofs.Count.{discards_low}
use Rattle.run.proofs.Refused.{release_13, tick_13}

-- "releases are never merged": each that is taken adds one job, so two of one task add two. The
-- front jobs and their run counts stay, for the new job is at the back.
pub release_adds : (r : Run) (k : ℕ) → RunShaped r → (release_of r k).answer ≡ Released k →
    (waiting_at (release_of r k).run.state k ≡ waiting_at r.state k + 1) ×
    ((release_of r k).run.state.runs ≡ r.state.runs)
release_adds r k h =
    release_ind
    (λ (a : Answered Run).
    a.answer ≡ Released k →
    (waiting_at a.run.state k ≡ waiting_at r.state k + 1) × (a.run.state.runs ≡ r.state.runs))
    r
    k
    (λ why e. let z : ◌≡◌ {A = ℕ} 0 1 = cc in absurd (omega arith))
    (λ y e. (omega (arith, waiting_taken r k k h y, one_same k), refl))

pub release_twice : (r : Run) (k : ℕ) → RunShaped r → (release_of r k).answer ≡ Released k →
    (release_of (release_of r k).run k).answer ≡ Released k →
    waiting_at (release_of (release_of r k).run k).run.state k ≡ waiting_at r.state k + 2
release_twice r k h e d =
    omega (
      arith,
      (release_adds r k h e).0,
      (release_adds (release_of r k).run k (event_run_shaped r (Release k) h) d).0,
    )

-- First in, first out. A queue is a number of waiting jobs and the run count of the front one: a
-- release leaves that run count alone (above), only the job that was last run leaves with a mark or
-- a cut, and the one behind it starts at 0.
pub mark_finishes : (t : Table) (s : State) (k : ℕ) → s.last ≡ Some k → (settle t s true).left ≡ Done k
unfolding settle step1
mark_finishes t s k e = ap (λ (l : Option ℕ). (step1 t s true l).left) e

-- the job that left by step 1, finished or cut, was the last-run one; the next starts at 0
gone_anew : (t : Table) (s : State) (mark : Bool) (l : Option ℕ) (k : ℕ) → k < length s.runs →
    finished_by (step1 t s mark l).left k + cut_by (step1 t s mark l).left k ≡ 1 → runs_at (step1 t s mark l).state k ≡ 0
unfolding step1
gone_anew t s mark None k l = λ e. absurd (omega arith)
gone_anew t s true (Some j) k l =
    λ e. let q : j ≡ k = one_eq j k (omega arith) in set_at s.runs j 0 k (omega arith) q
gone_anew t s false (Some j) k l =
    if_ind
    (λ (z : Marked). finished_by z.left k + cut_by z.left k ≡ 1 → runs_at z.state k ≡ 0)
    (judge 3 (task_at t j) (runs_at s j) s.mode).cut
    (λ c e. let q : j ≡ k = one_eq j k (omega arith) in set_at s.runs j 0 k (omega arith) q)
    (λ c e. absurd (omega arith))

pub next_starts : (t : Table) (s : State) (mark : Bool) (k : ℕ) → TableRules t → Shaped s → k < t.ntasks →
    finished_by (settle t s mark).left k + cut_by (settle t s mark).left k ≡ 1 → runs_at (settle t s mark).state k ≡ 0
unfolding settle step4
next_starts t s mark k rules h l e =
    let one = (step1 t s mark s.last).state in
    step3_runs t (step2 t s.mode one) k ∙
    step2_runs t s.mode one rules.tasks_high (alike_shaped (step1_alike t s mark s.last) h) k l ∙
    if_ind (λ (n : ℕ). n ≡ 0) (drops t s.mode one k) (λ q. refl)
    (λ q. gone_anew t s mark s.last k (omega (arith, h.runs, rules.tasks_high)) e)

-- "Used counts stay": whatever becomes of the mode, step 5 finds the used count as it was unless
-- the period ended, and then 0.
pub used_stays : (t : Table) (s : State) (mark : Bool) (i : ℕ) → i < t.nservers → t.nservers ≤ 32 → Shaped s →
    (elapsed_at s i ≡ period_at t i → ⊥) → used_at (settle t s mark).state i ≡ used_at s i
used_stays t s mark i l few h n =
    used_settled t s mark i l few h ∙
    ap (λ (b : Bool). if b then 0 else used_at s i) (ne_eqb (elapsed_at s i) (period_at t i) n)

pub used_anew : (t : Table) (s : State) (mark : Bool) (i : ℕ) → i < t.nservers → t.nservers ≤ 32 → Shaped s →
    elapsed_at s i ≡ period_at t i → used_at (settle t s mark).state i ≡ 0
used_anew t s mark i l few h e =
    used_settled t s mark i l few h ∙
    ap (λ (b : Bool). if b then 0 else used_at s i) (eq-eqb (elapsed_at s i) (period_at t i) e)

-- "After a rise, judge again at the new limit": a HI job at its limits in N and in D1 rises twice,
-- or is cut if it is at its limit in D2 too; a MI job, whose level does not lie above D1, is cut
-- there.
pub judged_again : (k : Task) (c : ℕ) → k.level ≡ HI → c ≡ (in_mode k.limit N).0 → c ≡ (in_mode k.limit D1).0 →
    judge 3 k c N ≡ record { mode = D2; cut = eqb c (in_mode k.limit D2).0 }
judged_again k c high n d =
    raises_mode 2 k c N n (ap (raises N) high) ∙
    raises_mode 1 k c D1 d (ap (raises D1) high) ∙
    go (eqb c (in_mode k.limit D2).0) refl
  where
    go : (b : Bool) → eqb c (in_mode k.limit D2).0 ≡ b → judge 1 k c D2 ≡ record { mode = D2; cut = b }
    go true e = is_cut 0 k c D2 (eqb-true c (in_mode k.limit D2).0 e) (ap (raises D2) high)
    go false e = below_limit 0 k c D2 (eqb-false c (in_mode k.limit D2).0 e)

pub judged_again_mi : (k : Task) (c : ℕ) → k.level ≡ MI → c ≡ (in_mode k.limit N).0 → c ≡ (in_mode k.limit D1).0 →
    judge 3 k c N ≡ record { mode = D1; cut = true }
judged_again_mi k c middle n d =
    raises_mode 2 k c N n (ap (raises N) middle) ∙ is_cut 1 k c D1 d (ap (raises D1) middle)

-- a waiting job that is not LO is not discarded, so step 3 leaves the mode
waits_on : (t : Table) (m : Mode) (s : State) (k : ℕ) → t.ntasks ≤ 64 → Shaped s → k < t.ntasks → 0 < waiting_at s k →
    is_low (task_at t k).level ≡ false → (step3 t (step2 t m s)).mode ≡ s.mode
unfolding step3 some_waits
waits_on t m s k many h l w low =
    ap
    (λ (b : Bool). (if b then step2 t m s else with_mode (step2 t m s) N).mode)
    (any_at (task_waits (step2 t m s)) t.ntasks k l
    (lt-ltb 0 (waiting_at (step2 t m s) k)
    (omega (arith, step2_counted t m s many h k l, discards_low t m s k low)))) ∙
    step2_mode t m s

-- In a whole tick: the job that is below its limit in D2 stays, and the tick is in D2; the one that
-- is at it is cut.
again_one : (t : Table) (s : State) (k : ℕ) (b : Bool) → s.last ≡ Some k → s.mode ≡ N →
    (task_at t k).level ≡ HI →
    runs_at s k ≡ limit_at t N k → runs_at s k ≡ limit_at t D1 k → eqb (runs_at s k) (limit_at t D2 k) ≡ b →
    step1 t s false s.last ≡ judged s k (record { mode = D2; cut = b })
unfolding step1
again_one t s k b last mode high n d e =
    ap (step1 t s false) last ∙
    ap (judged s k)
    (ap (judge 3 (task_at t k) (runs_at s k)) mode ∙
    judged_again (task_at t k) (runs_at s k) high n d ∙
    ap (λ (b : Bool). record { mode = D2; cut = b }) e)

pub rises_twice : (t : Table) (s : State) (k : ℕ) → t.ntasks ≤ 64 → Shaped s → k < t.ntasks → 0 < waiting_at s k →
    s.last ≡ Some k → s.mode ≡ N → (task_at t k).level ≡ HI →
    runs_at s k ≡ limit_at t N k → runs_at s k ≡ limit_at t D1 k → runs_at s k < limit_at t D2 k →
    ((tick_taken t s false).answer.mode ≡ D2) × ((tick_taken t s false).answer.left ≡ Nobody)
unfolding tick_taken settle step4
rises_twice t s k many h l w last mode high n d b =
    (ap (λ (m : Marked). (step3 t (step2 t s.mode m.state)).mode) is ∙ stays, ap (λ (m : Marked). m.left) is)
  where
    is : step1 t s false s.last ≡ record { state = with_mode s D2; left = Nobody }
    is = again_one t s k false last mode high n d (ne_eqb (runs_at s k) (limit_at t D2 k) (λ e. omega arith))

    stays : (step3 t (step2 t s.mode (with_mode s D2))).mode ≡ D2
    stays = waits_on t s.mode (with_mode s D2) k many (alike_shaped (mode_alike s D2) h) l w (ap is_low high)

pub cut_at_once : (t : Table) (s : State) (k : ℕ) → s.last ≡ Some k → s.mode ≡ N → (task_at t k).level ≡ HI →
    runs_at s k ≡ limit_at t N k → runs_at s k ≡ limit_at t D1 k → runs_at s k ≡ limit_at t D2 k →
    (tick_taken t s false).answer.left ≡ Cut k
unfolding tick_taken settle
cut_at_once t s k last mode high n d b =
    ap
    (λ (m : Marked). m.left)
    (again_one t s k true last mode high n d (eq-eqb (runs_at s k) (limit_at t D2 k) b))

-- A job that is cut without a rise leaves the run as one that is finished by mark would: the tick
-- is made of the same state, and only how the job left is another.
abbrev pub tick_from : Table → State → State → Left → Stepped
tick_from t s one left =
    let z : Settled =
    record {
      state = step4 t (step3 t (step2 t s.mode one));
      left = left;
      discarded = discards t s.mode one;
    } in
    record { answer = tick_answer t s.ticks z; state = advance t z.state (choose t z.state) }

pub tick_done : (t : Table) (s : State) (k : ℕ) → s.last ≡ Some k →
    tick_taken t s true ≡ tick_from t s (without_front s k) (Done k)
unfolding tick_taken settle step1
tick_done t s k last =
    ap (λ (l : Option ℕ). let one = step1 t s true l in tick_from t s one.state one.left) last

pub tick_cut : (t : Table) (s : State) (k : ℕ) → s.last ≡ Some k → runs_at s k ≡ limit_at t s.mode k →
    raises s.mode (task_at t k).level ≡ false → tick_taken t s false ≡ tick_from t s (without_front s k) (Cut k)
unfolding tick_taken settle step1
tick_cut t s k last n u =
    ap (λ (l : Option ℕ). let one = step1 t s false l in tick_from t s one.state one.left) last ∙
    ap (λ (j : Judged). let one = judged s k j in tick_from t s one.state one.left)
    (is_cut 2 (task_at t k) (runs_at s k) s.mode n u)

step3_normal : (t : Table) (s : State) → ((k : ℕ) → k < t.ntasks → waiting_at (step3 t s) k ≡ 0) → (step3 t s).mode ≡ N
unfolding step3 some_waits
step3_normal t s =
    if_ind
    (λ (z : State). ((k : ℕ) → k < t.ntasks → waiting_at z k ≡ 0) → z.mode ≡ N)
    (some_waits t s)
    (λ e f.
    let w = any_found (task_waits s) t.ntasks e in
    absurd (omega (arith, ltb-true 0 (waiting_at s w.0) w.2, f w.0 w.1)))
    (λ e f. refl)

-- "Mode not N and no job waiting: mode N": where step 5 finds no job waiting, it finds N.
pub none_waits_normal : (t : Table) (s : State) (mark : Bool) →
    ((k : ℕ) → k < t.ntasks → waiting_at (settle t s mark).state k ≡ 0) → (settle t s mark).state.mode ≡ N
unfolding settle step4
none_waits_normal t s mark = step3_normal t (step2 t s.mode (step1 t s mark s.last).state)

-- and where it finds one, it finds the mode that step 1 left.
step3_stays : (t : Table) (s : State) (k : ℕ) → k < t.ntasks → 0 < waiting_at (step3 t s) k → (step3 t s).mode ≡ s.mode
unfolding step3 some_waits
step3_stays t s k l =
    if_ind
    (λ (z : State). 0 < waiting_at z k → z.mode ≡ s.mode)
    (some_waits t s)
    (λ e w. refl)
    (λ e w. absurd (clash (some_waits t s) (any_at (task_waits s) t.ntasks k l (lt-ltb 0 (waiting_at s k) w)) e))

pub waits_as_risen : (t : Table) (s : State) (mark : Bool) (k : ℕ) → k < t.ntasks →
    0 < waiting_at (settle t s mark).state k → (settle t s mark).state.mode ≡ (step1 t s mark s.last).state.mode
unfolding settle step4
waits_as_risen t s mark k l w =
    step3_stays t (step2 t s.mode (step1 t s mark s.last).state) k l w
    ∙ step2_mode t s.mode (step1 t s mark s.last).state

-- From a fresh start of a table that keeps the rules nothing is ever answered 13.
pub never_13 : (t : Table) (es : List Event) (e : Event) → Sized t → table_keeps t ≡ true →
    no_of (event_of (after (fresh_run t) es) e).answer ≡ 13 → ⊥
never_13 t es (Release k) z q a =
    clash (sound (after (fresh_run t) es)) (reached_sound t es z q) ((release_13 (after (fresh_run t) es) k).0 a)
never_13 t es (Tick mark) z q a =
    clash (sound (after (fresh_run t) es)) (reached_sound t es z q) ((tick_13 (after (fresh_run t) es) mark).0 a)
