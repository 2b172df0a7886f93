-- What the rule of request No. 4 comes to: specs/AlarmMode.antt from the rules of a tick, and a cut
-- beside a mark from the definition, whose two ticks are made of one state. Assumes nothing.
use Rattle.std.proofs.Common.{None, Option, Some}
use mathlib.Core.Path.{◌≡◌, refl, ap, ap₂, sym, subst, ◌∙◌}
use mathlib.Core.Bool.{Bool, true, false}
use mathlib.Core.List.{List, [], ◌∷◌}
use mathlib.Core.Logic.{◌⊎◌, inl, inr}
use Prim.Native.Nat.{ℕ, ◌≤◌, ◌<◌}
use native.Mathlib.Omega.{arith}
use lib.Dec.{ltb}
use borrow.Author.Tests.{ltb-true}
use Rattle.laws.specs.Choice.{unless◌say◌else◌}
use Rattle.std.proofs.lemmas.Bool.{false_from_ne_true}
use Rattle.table.specs.declared.Level.{Level}
use Rattle.table.specs.declared.Level.TheVariants.{LO, MI, HI}
use Rattle.table.specs.declared.Mode.{Mode}
use Rattle.table.specs.declared.Mode.TheVariants.{N, D1, D2}
use Rattle.table.specs.declared.Refusal.TheVariants.{NoJobRan, CountSpent, Unsound}
use Rattle.table.specs.declared.Table.{Table}
use Rattle.table.specs.Rows.{task_at, limit_at}
use Rattle.table.proofs.Rules.{table_rules}
use Rattle.events.specs.Boxes.{after_in, answers_in}
use Rattle.run.specs.declared.State.{State}
use Rattle.run.specs.declared.Run.{Run}
use Rattle.events.specs.declared.Event.{Event}
use Rattle.events.specs.declared.Event.TheVariants.{Release, Tick}
use Rattle.events.specs.declared.Left.{Left}
use Rattle.events.specs.declared.Left.TheVariants.{Done, Cut}
use Rattle.events.specs.declared.Answered.{Answered}
use Rattle.run.specs.State.{waiting_at, runs_at}
use Rattle.run.specs.Sound.{sound}
use Rattle.run.specs.Release.{fresh_run, refused}
use Rattle.queues.specs.Queues.{ran_job}
use Rattle.run.specs.Tick.{height, raises, without_front, Stepped, tick_taken, ticked, tick_of}
use Rattle.run.specs.Events.{event_of, after, answers}
use Rattle.run.proofs.Judge.{raised_by_one}
use Rattle.run.proofs.Taken.{ReleaseTaken, release_taken, release_ind, tick_ind}
use Rattle.run.proofs.Shape.{RunShaped, fresh_run_shaped, event_table, event_run_shaped}
use Rattle.run.proofs.Sound.{LastSound, sound_table, sound_state_lem}
use Rattle.events.proofs.Answers.{same_or_not, one_past_lem}
use Rattle.run.proofs.Kept.{waiting_taken}
use Rattle.run.proofs.Slips.{tick_from, tick_done, tick_cut}
use Rattle.promises.specs.Condition2.{OneTick, table, old, new, LiesAbove, Judging, stays, rises, is_cut}
use Rattle.promises.specs.Condition2.{Ends, ByTheRules}
use Rattle.promises.specs.AlarmMode.{mode_height, AtLimit, BackToN, AboveRaises, RisesNoHigher, RaisedFromN}
use Rattle.promises.specs.AlarmMode.{RaisedFromD1, FallsToN, LowChangesNothing, ElseCut, NowCut, left_as}
use Rattle.promises.specs.AlarmMode.{ReleasesOf, NoHigherThanReleased, PanelAloneStaysInN, CostsOneCut, LowFaultInN}
use Rattle.promises.proofs.Ticks.{zeros}
use Rattle.promises.proofs.ByTheRules.{waits_or_none, made, by_the_rules}
use Rattle.promises.proofs.RulesSettle.{discarded_or_not}
use Rattle.promises.proofs.Condition2.{every_tick}

-- Judging leaves the mode, or raises it, by a job at its limit and up to its level.
record Up (t : Table) (k c : ℕ) (m m' : Mode) : Type 0 where
  limit : c ≡ limit_at t m k
  higher : mode_height m < mode_height m'
  level : mode_height m' ≤ height (task_at t k).level

judging_up : {t : Table} {k c : ℕ} {m m' : Mode} {l : Left} → Judging t k c m m' l → (m' ≡ m) ⊎ Up t k c m m'
judging_up (stays m h) = inl refl
judging_up (is_cut m e h) = inl refl
judging_up {t} {k} (rises m m' l e u j) =
    let one = raised_by_one m (task_at t k).level u in
    inr
    (elim (judging_up j) [
      | inl q ↦
          let same = ap mode_height q in
          record { limit = e; higher = omega (arith, one, same); level = omega (arith, one, same, u) }
      | inr q ↦ record { limit = e; higher = omega (arith, one, q.higher); level = q.level }
    ])

-- A job whose level lies above the mode leaves it higher; any other is cut, and the mode stays.
judged_above : {t : Table} {k c : ℕ} {m m' : Mode} {l : Left} → Judging t k c m m' l → c ≡ limit_at t m k →
    LiesAbove t k m → mode_height m < mode_height m'
judged_above (stays m h) e u = absurd (h e)
judged_above (is_cut m e h) d u = absurd (h u)
judged_above {t} {k} (rises m m' l e u j) d v =
    let one = raised_by_one m (task_at t k).level u in
    elim (judging_up j) [ inl q ↦ omega (arith, one, ap mode_height q) | inr q ↦ omega (arith, one, q.higher) ]

judged_else : {t : Table} {k c : ℕ} {m m' : Mode} {l : Left} → Judging t k c m m' l → c ≡ limit_at t m k →
    (LiesAbove t k m → ⊥) → (m' ≡ m) × (l ≡ Cut k)
judged_else (stays m h) e n = absurd (h e)
judged_else (is_cut m e h) d n = (refl, refl)
judged_else (rises m m' l e u j) d n = absurd (n u)

-- Step 1 of a tick.
ends_up : (t : Table) (s : State) (mark : Bool) (v : Option ℕ) (m : Mode) (l : Left) → Ends t s mark v m l →
    (m ≡ s.mode) ⊎ ((k : ℕ) × (v ≡ Some k) × (mark ≡ false) × Up t k (runs_at s k) s.mode m)
ends_up t s mark None m l e = inl e.0
ends_up t s true (Some k) m l e = inl e.0
ends_up t s false (Some k) m l j = elim (judging_up j) [ inl q ↦ inl q | inr q ↦ inr (k, refl, refl, q) ]

module _ (x : OneTick) (p : ByTheRules x) where
  -- Step 3: the tick is in the mode that step 1 left, or no job waits and it is in N.
  found : (x.says.mode ≡ p.way.mode) ⊎ BackToN x
  found =
      elim (waits_or_none x) [
        | inl w ↦ inl (p.step3.some w.0 w.1 w.2)
        | inr n ↦ inr (record { mode = p.step3.none n; none = n })
      ]

  judged : (k : ℕ) → AtLimit x k → Judging (table x) k (runs_at (old x) k) (old x).mode p.way.mode x.says.left
  judged k a =
      subst
      (λ v. Ends (table x) (old x) false v p.way.mode x.says.left)
      a.ran
      (subst
      (λ b. Ends (table x) (old x) b (old x).last p.way.mode x.says.left)
      a.mark
      p.step1)

  -- So the mode stays, or falls to N as no job waits, or a job raised it.
  rose_or_not : (x.says.mode ≡ (old x).mode) ⊎ (BackToN x ⊎
      ((k : ℕ) × AtLimit x k × Up (table x) k (runs_at (old x) k) (old x).mode x.says.mode))
  rose_or_not = elim found [
    | inr n ↦ inr (inl n)
    | inl e ↦ elim (ends_up (table x) (old x) x.mark (old x).last _ _ p.step1) [
      | inl q ↦ inl (e ∙ q)
      | inr (k, v, m, u) ↦ inr (inr (k, record { ran = v; mark = m; limit = u.limit }, rw e u))
    ]
  ]

-- heights told apart
level_of_lem : (l : Level) → (1 ≤ height l → (l ≡ MI) ⊎ (l ≡ HI)) × (2 ≤ height l → l ≡ HI)
level_of_lem LO = (λ h. absurd (omega (arith, h)), λ h. absurd (omega (arith, h)))
level_of_lem MI = (λ h. inl refl, λ h. absurd (omega (arith, h)))
level_of_lem HI = (λ h. inr refl, λ h. refl)

above_n : (m : Mode) → (m ≡ N → ⊥) → 1 ≤ mode_height m
above_n N h = absurd (h refl)
above_n D1 h = omega arith
above_n D2 h = omega arith

pub above_raises : AboveRaises
above_raises x k h a u =
    elim (found x (every_tick x h)) [
      | inl e ↦ inl (rw e (judged_above (judged x (every_tick x h) k a) a.limit u))
      | inr n ↦ inr n
    ]

pub rises_no_higher : RisesNoHigher
rises_no_higher x h up =
    elim (rose_or_not x (every_tick x h)) [
      | inl e ↦ absurd (omega (arith, ap mode_height e))
      | inr (inl n) ↦ absurd (omega (arith, ap mode_height n.mode))
      | inr (inr (k, a, u)) ↦ (k, a, u.level)
    ]

pub raised_from_n : RaisedFromN
raised_from_n x h e n =
    let high = above_n x.says.mode n in
    let (k, a, l) = rises_no_higher x h (omega (arith, ap mode_height e, high)) in
    (k, a, (level_of_lem (task_at (table x) k).level).0 (omega (arith, l, high)))

pub raised_from_d1 : RaisedFromD1
raised_from_d1 x h e d =
    let high = ap mode_height d in
    let (k, a, l) = rises_no_higher x h (omega (arith, ap mode_height e, high)) in
    (k, a, (level_of_lem (task_at (table x) k).level).1 (omega (arith, l, high)))

pub falls_to_n : FallsToN
falls_to_n x h down =
    elim (rose_or_not x (every_tick x h)) [
      | inl e ↦ absurd (omega (arith, ap mode_height e))
      | inr (inl n) ↦ n
      | inr (inr (k, a, u)) ↦ absurd (omega (arith, u.higher))
    ]

pub low_changes_nothing : LowChangesNothing
low_changes_nothing x k h ran low =
    elim (rose_or_not x (every_tick x h)) [
      | inl e ↦ inl e
      | inr (inl n) ↦ inr n
      | inr (inr (j, a, u)) ↦
          let job : Some j ≡ Some k = sym a.ran ∙ ran in
          let same : j ≡ k = cc in
          absurd (omega (arith, u.higher, u.level, ap (λ n. height (task_at (table x) n).level) same, ap height low))
    ]

pub else_cut : ElseCut
else_cut x k h a n =
    let j = judged_else (judged x (every_tick x h) k a) a.limit n in
    (j.1, elim (found x (every_tick x h)) [ inl e ↦ inl (e ∙ j.0) | inr w ↦ inr w ])

pub now_cut : NowCut
now_cut x k h a c = (else_cut x k h a (λ u. below c u)).0
  where
    below : (((old x).mode ≡ N) × ((task_at (table x) k).level ≡ LO)) ⊎
        (((old x).mode ≡ D1) × ((task_at (table x) k).level ≡ MI)) →
        LiesAbove (table x) k (old x).mode → ⊥
    below (inl (m, l)) u = omega (arith, u, ap mode_height m, ap height l)
    below (inr (m, l)) u = omega (arith, u, ap mode_height m, ap height l)

-- Over a run: the mode, and the level of every task with a waiting job, are at most so high.
record AtMost (most : ℕ) (r : Run) : Type 0 where
  mode : mode_height r.state.mode ≤ most
  level : (k : ℕ) → k < r.table.ntasks → 0 < waiting_at r.state k → height (task_at r.table k).level ≤ most

-- a tick raises the mode by a job that waits, and adds none
tick_at_most : (most : ℕ) (x : OneTick) → ByTheRules x → sound x.before ≡ true → AtMost most x.before →
    AtMost most x.after
tick_at_most most x p safe a =
    record {
      mode = rw p.step3.told (up (rose_or_not x p));
      level =
          λ k l w. rw p.step7.same (a.level k (there k l) (waited k (there k l) w));
    }
  where
    there : (k : ℕ) → k < x.after.table.ntasks → k < (table x).ntasks
    there k l = omega (arith, ap (λ (t : Table). t.ntasks) p.step7.same)

    waited : (k : ℕ) → k < (table x).ntasks → 0 < waiting_at (new x) k → 0 < waiting_at (old x) k
    waited k l w =
        elim (discarded_or_not x p.way k) [
          | inl d ↦ absurd (omega (arith, p.step2.gone k l d))
          | inr n ↦ omega (arith, p.step2.kept k l n)
        ]

    up : (x.says.mode ≡ (old x).mode) ⊎ (BackToN x ⊎
        ((k : ℕ) × AtLimit x k × Up (table x) k (runs_at (old x) k) (old x).mode x.says.mode)) →
        mode_height x.says.mode ≤ most
    up (inl e) = omega (arith, ap mode_height e, a.mode)
    up (inr (inl n)) = omega (arith, ap mode_height n.mode)
    up (inr (inr (k, q, u))) =
        let last = subst (LastSound (table x) (old x)) q.ran (sound_state_lem x.before safe).last in
        omega (arith, u.level, a.level k last.below last.waits)

event_at_most : (most : ℕ) (r : Run) (e : Event) → RunShaped r →
    ReleasesOf (λ k. height (task_at r.table k).level ≤ most) (e ∷ []) → AtMost most r →
    AtMost most (event_of r e).run
event_at_most most r (Tick mark) h so a =
    tick_ind (λ (z : Answered Run). AtMost most z.run) r mark (λ why. a)
    (λ y.
    let t = r.table in
    let s = r.state in
    tick_at_most most (made t s mark)
    (by_the_rules t s mark (table_rules t h.table (sound_table r y.sound)) h.state (sound_state_lem r y.sound))
    y.sound
    a)
event_at_most most r (Release k) h so a =
    release_ind (λ (z : Answered Run). AtMost most z.run) r k (λ why. a)
    (λ y. record { mode = a.mode; level = λ j l w. level y j l w (same_or_not k j) })
  where
    level : ReleaseTaken r k → (j : ℕ) → j < r.table.ntasks → 0 < waiting_at (release_taken r k).run.state j →
        (k ≡ j) ⊎ (k ≡ j → ⊥) → height (task_at r.table j).level ≤ most
    level y j l w (inl e) = subst (λ n. height (task_at r.table n).level ≤ most) e so.0
    level y j l w (inr n) = a.level j l (omega (arith, w, waiting_taken r k j h y, one_past_lem k j n))

run_at_most : (most : ℕ) (t : Table) (r : Run) (es : List Event) → r.table ≡ t → RunShaped r →
    ReleasesOf (λ k. height (task_at t k).level ≤ most) es → AtMost most r → AtMost most (after r es)
unfolding after_in
run_at_most most t r [] e h so a = a
run_at_most most t r (Release k ∷ es) e h so a =
    run_at_most most t (event_of r (Release k)).run es (event_table r (Release k) ∙ e)
    (event_run_shaped r (Release k) h) so.1
    (event_at_most most r (Release k) h (rw e so.0, tt) a)
run_at_most most t r (Tick mark ∷ es) e h so a =
    run_at_most most t (event_of r (Tick mark)).run es (event_table r (Tick mark) ∙ e)
    (event_run_shaped r (Tick mark) h) so
    (event_at_most most r (Tick mark) h tt a)

pub no_higher_than_released : NoHigherThanReleased
no_higher_than_released t es most z so =
    (run_at_most most t (fresh_run t) es refl (fresh_run_shaped t z) so
    (record { mode = omega arith; level = λ k l w. absurd (omega (arith, w, zeros 64 k)) })).mode

lowest : (m : Mode) → mode_height m ≤ 0 → m ≡ N
lowest N h = refl
lowest D1 h = absurd (omega (arith, h))
lowest D2 h = absurd (omega (arith, h))

all_low : (t : Table) (es : List Event) → ReleasesOf (λ k. (task_at t k).level ≡ LO) es →
    ReleasesOf (λ k. height (task_at t k).level ≤ 0) es
all_low t [] so = tt
all_low t (Release k ∷ es) so = (omega (arith, ap height so.0), all_low t es so.1)
all_low t (Tick mark ∷ es) so = all_low t es so

pub panel_alone_stays_in_n : PanelAloneStaysInN
panel_alone_stays_in_n t es z so = lowest _ (no_higher_than_released t es 0 z (all_low t es so))

-- Two answered ticks that differ in how the job left, and in nothing else.
record ButLeft (k : ℕ) (cut done : Answered Run) : Type 0 where
  left : cut.answer ≡ left_as (Cut k) cut.answer
  answer : done.answer ≡ left_as (Done k) cut.answer
  run : done.run ≡ cut.run

-- A tick, its mark being taken: by the tests of 13 and 10, what is answered.
abbrev answered : Run → Bool → Bool → Stepped → Answered Run
answered r safe few d =
    unless safe say refused r Unsound
    else unless few say refused r CountSpent
    else ticked r d

module _ (r : Run) (k : ℕ) (last : r.state.last ≡ Some k) where
  abbrev few : Bool
  few = ltb r.state.ticks.0 4000000000

  abbrev tick : Left → Answered Run
  tick l = answered r (sound r) few (tick_from r.table r.state (without_front r.state k) l)

  ended_by_mark : tick_of r true ≡ tick (Done k)
  unfolding tick_of
  ended_by_mark =
      ap
      (λ (v : Option ℕ). unless sound r say refused r Unsound
      else unless ran_job v say refused r NoJobRan
      else unless few say refused r CountSpent
      else ticked r (tick_taken r.table r.state true))
      last ∙
      ap (answered r (sound r) few) (tick_done r.table r.state k last)

  module _ (limit : runs_at r.state k ≡ limit_at r.table r.state.mode k)
      (not-above : LiesAbove r.table k r.state.mode → ⊥) where
    cut_at_limit : tick_of r false ≡ tick (Cut k)
    unfolding tick_of
    cut_at_limit =
        ap (answered r (sound r) few)
        (tick_cut r.table r.state k last limit
        (false_from_ne_true (raises r.state.mode (task_at r.table k).level) (λ u. not-above (ltb-true _ _ u))))

    but_left : ButLeft k (tick_of r false) (tick_of r true)
    but_left =
        subst (λ z. ButLeft k z (tick_of r true)) (sym cut_at_limit)
        (subst (ButLeft k (tick (Cut k))) (sym ended_by_mark) (go (sound r) few))
      where
        at : Left → Stepped
        at l = tick_from r.table r.state (without_front r.state k) l

        go : (safe on : Bool) → ButLeft k (answered r safe on (at (Cut k))) (answered r safe on (at (Done k)))
        go false on = record { left = refl; answer = refl; run = refl }
        go true false = record { left = refl; answer = refl; run = refl }
        go true true = record { left = refl; answer = refl; run = refl }

pub costs_one_cut : CostsOneCut
unfolding answers_in after_in
costs_one_cut r k es a rest last limit n e =
    let both = but_left r k last limit n in
    let first : (tick_of r false).answer ≡ a = cc in
    let later : answers (tick_of r false).run es ≡ rest = cc in
    record {
      cut = subst (λ b. b ≡ left_as (Cut k) b) first both.left;
      instead =
          ap₂
          ◌∷◌
          (both.answer ∙ ap (left_as (Done k)) first)
          (ap (λ z. answers z es) both.run ∙ later);
      run = ap (λ z. after z es) both.run;
    }

pub low_fault_in_n : LowFaultInN
low_fault_in_n r k es a rest last mode low limit =
    costs_one_cut r k es a rest last (limit ∙ ap (λ m. limit_at r.table m k) (sym mode))
    (λ u. omega (arith, u, ap mode_height mode, ap height low))
