-- A taken tick goes by the rules of specs/Condition2.antt: each step of the definition is read off
-- its laws, and what step 5 chooses is the highest of those that are able. Assumes nothing.
use Rattle.std.specs.Prelude.{if◌then◌else◌, None, Option, Some}
use mathlib.Core.Path.{◌≡◌, refl, ap, sym, ◌∙◌}
use mathlib.Core.Bool.{Bool, true, false}
use mathlib.Core.Logic.{◌⊎◌, inl, inr, ◌↔◌}
use Prim.Native.Nat.{ℕ, zero, suc, ◌+◌, ◌<◌}
use native.Mathlib.Omega.{arith}
use lib.Dec.{eqb}
use borrow.Author.Tests.{leb-true, le-leb, eqb-true, eqb-false, eq-eqb, ne_eqb, ltb-true, ltb-false, lt-ltb}
use Rattle.std.proofs.lemmas.Bool.{false_from_ne_true, cases_Bool, and_from}
use Rattle.std.specs.Cmp.{first_so, second_so}
use Rattle.laws.proofs.Choice.{clash, if_ind}
use Rattle.laws.specs.Rows.{any_below}
use Rattle.laws.proofs.Rows.{any_at, any_none, any_found}
use Rattle.laws.proofs.Highest.{highest_exactly, none_exactly}
use Rattle.table.specs.declared.Kind.TheVariants.{Timed}
use Rattle.table.specs.declared.Mode.{Mode}
use Rattle.table.specs.declared.Table.{Table}
use Rattle.table.specs.Rows.{server_at, task_at, period_at, phase_at, priority_at, limit_at, task_priority_at}
use Rattle.table.specs.Rows.{is_timed}
use Rattle.table.proofs.Rows.{timed_exactly}
use Rattle.table.proofs.Rules.{TableRules}
use Rattle.run.specs.declared.State.{State}
use Rattle.run.specs.declared.Run.{Run}
use Rattle.run.specs.declared.Judged.{Judged}
use Rattle.events.specs.declared.Left.{Left}
use Rattle.events.specs.declared.Left.TheVariants.{Nobody, Cut}
use Rattle.run.specs.State.{used_at, elapsed_at, started, in_force, passes, waiting_at, runs_at, owner, task_waits, waits_for, waits}
use Rattle.events.specs.Answers.{charged}
use Rattle.run.specs.Tick.{height, counts_as, raises, raised, judge, judged, step1, drops, discards, step2, step4}
use Rattle.run.specs.Tick.{settle, able, highest_able, highest_task, choose, advance, tick_taken}
use Rattle.run.proofs.Judge.{height_at_most, Enough, enough_raised}
use Rattle.run.proofs.Shape.{Shaped, RunShaped, alike_shaped, step1_alike}
use Rattle.run.proofs.Sound.{StateSound}
use Rattle.run.proofs.Steps.{step1_waiting, drops_exactly, runs_stay, step2_runs, step3_runs}
use Rattle.run.proofs.Steps.{waiting_settled, runs_after}
use Rattle.run.proofs.Tick.{used_after, elapsed_after, elapsed_settled, ticks_after, accepted_after}
use Rattle.run.proofs.Tick.{turn_run, turn_empty, turn_idle, turn_last, owner_exactly}
use Rattle.events.proofs.Answers.{charged_is}
use Rattle.events.proofs.Answers.{charged_le, one_charged, one_same}
use Rattle.run.proofs.Tick.{highest_charged, charged_highest}
use Rattle.run.proofs.Tick.{timed_able, waiting_able, able_room, able_started, able_cause}
use Rattle.run.proofs.Tick.{force_started, force_low, started_settled}
use Rattle.run.proofs.Slips.{used_anew, used_stays, none_waits_normal, waits_as_risen, next_starts}
use Rattle.run.proofs.Count.{tick-jobs}
use Rattle.promises.specs.Condition2.{RunSized, OneTick, table, old, new, OnTheWay, Judging, stays}
use Rattle.promises.specs.Condition2.{rises, is_cut, Ends, Step1}
use Rattle.promises.specs.Condition2.{Discarded, Step2, Step3, Step4, Waits, Started, Able, Highest}
use Rattle.promises.specs.Condition2.{Step5, HighestTask, Step6, Step7, Says, ByTheRules}

-- A run that code holds is one whose arrays have their lengths.
pub held_shaped : (r : Run) → RunSized r → RunShaped r
held_shaped r h =
    record {
      table = h.table;
      state = record { used = h.used; elapsed = h.elapsed; waiting = h.waiting; runs = h.runs };
    }

pub shaped_held : {r : Run} → RunShaped r → RunSized r
shaped_held h =
    record {
      table = h.table;
      used = h.state.used;
      elapsed = h.state.elapsed;
      waiting = h.state.waiting;
      runs = h.state.runs;
    }

-- Step 1. What is judged goes as the page says, from any mode.
abbrev pub left_by : ℕ → Judged → Left
left_by k j = if j.cut then Cut k else Nobody

judging : (n : ℕ) (t : Table) (k c : ℕ) (m : Mode) → Enough n m →
    Judging t k c m (judge n (task_at t k) c m).mode (left_by k (judge n (task_at t k) c m))
unfolding judge
judging zero t k c m h = absurd (omega (arith, height_at_most (counts_as m)))
judging (suc n) t k c m h =
    if_ind so (eqb c (limit_at t m k))
    (λ e.
    if_ind so (raises m (task_at t k).level)
    (λ u.
    let above = ltb-true (height (counts_as m)) (height (task_at t k).level) u in
    rises m _ _ (eqb-true c (limit_at t m k) e) above
    (judging n t k c (raised m) (enough_raised n m (task_at t k).level above h)))
    (λ u. is_cut m (eqb-true c (limit_at t m k) e)
    (λ above. clash (raises m (task_at t k).level) (lt-ltb _ _ above) u)))
    (λ e. stays m (eqb-false c (limit_at t m k) e))
  where
    so : Judged → Type 0
    so j = Judging t k c m j.mode (left_by k j)

ends : (t : Table) (s : State) (mark : Bool) (l : Option ℕ) →
    Ends t s mark l (step1 t s mark l).state.mode (step1 t s mark l).left
unfolding step1
ends t s mark None = (refl, refl)
ends t s true (Some k) = (refl, refl)
ends t s false (Some k) =
    let j = judge 3 (task_at t k) (runs_at s k) s.mode in
    go j.cut j.mode (judging 3 t k (runs_at s k) s.mode (omega arith))
  where
    go : (b : Bool) (m : Mode) → Judging t k (runs_at s k) s.mode m (if b then Cut k else Nobody) →
        Judging t k (runs_at s k) s.mode (judged s k (record { mode = m; cut = b })).state.mode
        (judged s k (record { mode = m; cut = b })).left
    go true m p = p
    go false m p = p

-- A job waits after a tick, or none does.
pub waits_or_none : (x : OneTick) →
    ((k : ℕ) × (k < (table x).ntasks) × (0 < waiting_at (new x) k)) ⊎
    ((k : ℕ) → k < (table x).ntasks → waiting_at (new x) k ≡ 0)
waits_or_none x =
    let some = task_waits (new x) in
    let n = (table x).ntasks in
    elim (cases_Bool (any_below n some)) [
      | inl e ↦ let f = any_found some n e in inl (f.0, f.1, ltb-true 0 (waiting_at (new x) f.0) f.2)
      | inr e ↦ inr (λ k l. omega (arith, ltb-false 0 (waiting_at (new x) k) (any_none some n k e l)))
    ]

-- The tick that is taken with a mark, and what its steps leave on the way.
abbrev pub made : Table → State → Bool → OneTick
made t s mark =
    record {
      before = record { table = t; state = s };
      mark = mark;
      says = (tick_taken t s mark).answer;
      after = record { table = t; state = (tick_taken t s mark).state };
    }

abbrev way_of : Table → State → Bool → OnTheWay
way_of t s mark =
    record {
      mode = (step1 t s mark s.last).state.mode;
      runs = runs_at (settle t s mark).state;
      used = used_at (settle t s mark).state;
      elapsed = elapsed_at (settle t s mark).state;
    }

-- Step 2, in the mode that step 1 leaves.
pub dropped : (x : OneTick) (w : OnTheWay) (s : State) (k : ℕ) → s.mode ≡ w.mode →
    (drops (table x) (old x).mode s k ≡ true) ↔ Discarded x w k
dropped x w s k e = (
  λ d.
      let p = (drops_exactly (table x) (old x).mode s k).0 d in
      record { entered = sym e ∙ p.0; before = p.1; low = p.2 },
  λ d. (drops_exactly (table x) (old x).mode s k).1 (e ∙ d.entered, d.before, d.low),
)

module _ (t : Table) (s : State) (mark : Bool) (rules : TableRules t) (shape : Shaped s) (sound : StateSound t s) where
  abbrev one : State
  one = (step1 t s mark s.last).state

  abbrev z : State
  z = (settle t s mark).state

  abbrev x : OneTick
  x = made t s mark

  abbrev w : OnTheWay
  w = way_of t s mark

  by1 : Step1 x w
  unfolding tick_taken settle
  by1 = ends t s mark s.last

  stayed : (k : ℕ) → (Discarded x w k → ⊥) → drops t s.mode one k ≡ false
  stayed k n =
      elim (cases_Bool (drops t s.mode one k)) [
        | inl e ↦ absurd (n ((dropped x w one k refl).0 e))
        | inr e ↦ e
      ]

  by2 : Step2 x w
  unfolding tick_taken advance settle discards
  by2 =
      record {
        gone =
            λ k l d.
            omega (
              arith,
              waiting_settled t s mark rules shape sound k l,
              step1_waiting t s mark s.last rules.tasks_high shape sound.last k,
              ap (λ (b : Bool). if b then waiting_at one k else 0) ((dropped x w one k refl).1 d),
            );
        kept =
            λ k l n.
            omega (
              arith,
              waiting_settled t s mark rules shape sound k l,
              ap (λ (b : Bool). if b then waiting_at one k else 0) (stayed k n),
            );
        counted = tick-jobs t s mark rules shape sound;
      }

  by3 : Step3 x w
  unfolding tick_taken advance
  by3 =
      record {
        none = none_waits_normal t s mark;
        some = λ k l h. waits_as_risen t s mark k l h;
        told = refl;
      }

  by4 : Step4 x w
  by4 =
      record {
        refilled =
            λ i l e. (
              used_anew t s mark i l rules.servers_high shape e,
              elapsed_settled t s mark i l rules.servers_high shape ∙
                  ap (λ (b : Bool). if b then 0 else elapsed_at s i) (eq-eqb (elapsed_at s i) (period_at t i) e),
            );
        kept =
            λ i l n. (
              used_stays t s mark i l rules.servers_high shape n,
              elapsed_settled t s mark i l rules.servers_high shape ∙
                  ap (λ (b : Bool). if b then 0 else elapsed_at s i) (ne_eqb (elapsed_at s i) (period_at t i) n),
            );
      }

  waits_is : (i k : ℕ) → Waits x i k ↔ ((k < t.ntasks) × (waits_for t z i k ≡ true))
  unfolding tick_taken advance
  waits_is i k = (
    λ h. (
      h.there,
      and_from (task_waits z k) (eqb (owner z.mode (task_at t k)) i) (lt-ltb 0 (waiting_at z k) h.waiting)
          (eq-eqb (owner z.mode (task_at t k)) i ((owner_exactly z.mode (task_at t k) i).1 h.belongs)),
    ),
    λ p.
        record {
          there = p.0;
          waiting = ltb-true 0 (waiting_at z k) (first_so (task_waits z k) (eqb (owner z.mode (task_at t k)) i) p.1);
          belongs =
              (owner_exactly z.mode (task_at t k) i).0
              (eqb-true (owner z.mode (task_at t k)) i
              (second_so (task_waits z k) (eqb (owner z.mode (task_at t k)) i) p.1));
        },
  )

  -- a server has started in the words of the statement
  started_is : (i : ℕ) → Started x i ↔ (started t z i ≡ true)
  started_is i = (
    λ h. started_settled t s mark i ∙ le-leb (phase_at t i) s.ticks.0 h,
    λ e. leb-true (phase_at t i) s.ticks.0 (sym (started_settled t s mark i) ∙ e),
  )

  able_is : (i : ℕ) → Able x w i ↔ ((i < t.nservers) × (able t z i ≡ true))
  unfolding tick_taken waits
  able_is i = (λ h. (h.there, to h h.cause), back)
    where
      force : Able x w i → used_at z i < in_force t z i
      force h = omega (arith, h.below, force_started t z i ((started_is i).0 h.started))

      to : Able x w i → ((server_at t i).kind ≡ Timed) ⊎ ((k : ℕ) × Waits x i k) → able t z i ≡ true
      to h (inl e) = timed_able t z i (ap is_timed e) (force h)
      to h (inr (k, q)) =
          let p = (waits_is i k).0 q in
          waiting_able t z i (any_at (waits_for t z i) t.ntasks k p.0 p.1) (force h)

      why : (is_timed (server_at t i).kind ≡ true) ⊎ (waits t z i ≡ true) →
          ((server_at t i).kind ≡ Timed) ⊎ ((k : ℕ) × Waits x i k)
      why (inl e) = inl ((timed_exactly (server_at t i).kind).0 e)
      why (inr e) =
          let f = any_found (waits_for t z i) t.ntasks e in
          inr (f.0, (waits_is i f.0).1 (f.1, f.2))

      back : (i < t.nservers) × (able t z i ≡ true) → Able x w i
      back p =
          record {
            there = p.0;
            started = (started_is i).1 (able_started t z i p.1);
            below = omega (arith, able_room t z i p.1, force_low t z i);
            cause = why (able_cause t z i p.1);
          }

  server_is : (i : ℕ) → (highest_able t z ≡ Some i) ↔ Highest x w i
  unfolding highest_able
  server_is = highest_exactly t.nservers (able t z) (priority_at t) rules.servers_differ (Able x w) able_is

  task_is : (i k : ℕ) → (highest_task t z i ≡ Some k) ↔ HighestTask x i k
  unfolding highest_task
  task_is i =
      highest_exactly t.ntasks (waits_for t z i) (task_priority_at t) rules.tasks_differ (Waits x i) (waits_is i)

  no_server_lem : (highest_able t z ≡ None) ↔ ((i : ℕ) → Able x w i → ⊥)
  unfolding highest_able
  no_server_lem = none_exactly t.nservers (able t z) (priority_at t) rules.servers_differ (Able x w) able_is

  no_task_lem : (i : ℕ) → (highest_task t z i ≡ None) ↔ ((k : ℕ) → Waits x i k → ⊥)
  unfolding highest_task
  no_task_lem i =
      none_exactly t.ntasks (waits_for t z i) (task_priority_at t) rules.tasks_differ (Waits x i) (waits_is i)

  by5 : Step5 x w
  unfolding tick_taken
  by5 =
      record {
        charged = λ i h. after i h.0.there ∙ ap (λ n. used_at z i + n) (is_charged i h);
        others = λ i l n. elim (charged_is (choose t z) i) [
          | inl c ↦ omega (arith, after i l)
          | inr c ↦ absurd (n ((server_is i).0 (charged_highest t z i c)))
        ];
        one =
            λ i j l m p q.
            one_charged (choose t z) i j (omega (arith, after i l, charged_le (choose t z) i))
            (omega (arith, after j m, charged_le (choose t z) j));
      }
    where
      after : (i : ℕ) → i < t.nservers →
          used_at (tick_taken t s mark).state i ≡ used_at z i + charged (choose t z) i
      after i l = used_after t s mark i l rules.servers_high shape

      is_charged : (i : ℕ) → Highest x w i → charged (choose t z) i ≡ 1
      is_charged i h = highest_charged t z i i ((server_is i).1 h) ∙ one_same i

  by6 : Step6 x w
  unfolding tick_taken advance settle step4
  by6 =
      record {
        left = λ k l e. next_starts t s mark k rules shape l e;
        gone = λ k l d. found k l ∙ ap (λ (b : Bool). if b then 0 else runs_at one k) ((dropped x w one k refl).1 d);
        kept =
            λ k l e n.
            found k l ∙ ap (λ (b : Bool). if b then 0 else runs_at one k) (stayed k n) ∙
            runs_stay t s mark s.last k e;
        runs = runs_after t s mark rules.tasks_high shape;
      }
    where
      found : (k : ℕ) → k < t.ntasks → runs_at z k ≡ (if drops t s.mode one k then 0 else runs_at one k)
      found k l =
          step3_runs t (step2 t s.mode one) k ∙
          step2_runs t s.mode one rules.tasks_high (alike_shaped (step1_alike t s mark s.last) shape) k l

  by7 : Step7 x w
  unfolding tick_taken
  by7 =
      record {
        elapsed = λ i l h. aged i l ∙ rw ((started_is i).0 h);
        stays = λ i l n. aged i l ∙ rw (late i n) (omega arith);
        ticks = ticks_after t s mark;
        tick = refl;
        accepted = accepted_after t s mark;
        same = refl;
      }
    where
      aged : (i : ℕ) → i < t.nservers → elapsed_at (tick_taken t s mark).state i ≡ elapsed_at z i + passes t z i
      aged i l = elapsed_after t s mark i l rules.servers_high shape

      late : (i : ℕ) → (Started x i → ⊥) → started t z i ≡ false
      late i n = false_from_ne_true (started t z i) (λ e. n ((started_is i).1 e))

  by8 : Says x w
  unfolding tick_taken advance choose
  by8 =
      record {
        run =
            λ i k. (
              λ e.
                  let p = turn_run (highest_task t z) (highest_able t z) i k e in
                  ((server_is i).0 p.0, (task_is i k).0 p.1),
              λ p. rw ((server_is i).1 p.0, (task_is i k).1 p.1),
            );
        empty =
            λ i. (
              λ e.
                  let p = turn_empty (highest_task t z) (highest_able t z) i e in
                  ((server_is i).0 p.0, (no_task_lem i).0 p.1),
              λ p. rw ((server_is i).1 p.0, (no_task_lem i).1 p.1),
            );
        timed =
            λ i e.
            let p = turn_empty (highest_task t z) (highest_able t z) i e in
            elim ((server_is i).0 p.0).0.cause [
              | inl k ↦ k
              | inr q ↦ absurd ((no_task_lem i).0 p.1 q.0 q.1)
            ];
        idle = (λ e. no_server_lem.0 (turn_idle (highest_task t z) (highest_able t z) e), λ f. rw (no_server_lem.1 f));
        last = turn_last (choose t z);
      }

  pub by_the_rules : ByTheRules x
  by_the_rules =
      record {
        way = w;
        step1 = by1;
        step2 = by2;
        step3 = by3;
        step4 = by4;
        step5 = by5;
        step6 = by6;
        step7 = by7;
        says = by8;
      }
