-- The rules of a tick settle it: they speak of the rows in use alone, and leave no choice. Assumes
-- nothing.
use Rattle.std.proofs.Common.{None, Option, Some}
use mathlib.Core.Path.{◌≡◌, refl, ap, ap₂, sym, ◌∙◌}
use mathlib.Core.Bool.{Bool, true, false}
use mathlib.Core.Logic.{◌⊎◌, inl, inr}
use Prim.Native.Nat.{ℕ, zero, suc, ◌+◌, ◌<◌}
use native.Mathlib.Omega.{arith}
use lib.ListN.{get_or}
use lib.Seq.{get_or-take}
use borrow.Author.Tests.{eq-eqb, ne_eqb, lt-ltb, ltb-true}
use Rattle.laws.specs.Rows.{sum_below}
use Rattle.std.proofs.lemmas.Bool.{false_from_ne_true, cases_Bool}
use Rattle.laws.proofs.Choice.{clash, le_or_lt}
use Rattle.laws.proofs.Rows.{sum_cong}
use Rattle.table.specs.declared.Mode.{Mode}
use Rattle.table.specs.declared.Server.{Server}
use Rattle.table.specs.declared.Task.{Task}
use Rattle.table.specs.declared.Table.{Table}
use Rattle.units.specs.declared.Ticks.{Ticks}
use Rattle.table.specs.Rows.{Rows, rows_of, no_server, no_task, server_at, task_at, period_at, phase_at, in_mode}
use Rattle.table.specs.Rows.{limit_at}
use Rattle.run.specs.declared.State.{State}
use Rattle.run.specs.declared.Run.{Run}
use Rattle.events.specs.declared.Turn.{Turn}
use Rattle.events.specs.declared.Turn.TheVariants.{Run as Ran, Empty, Idle}
use Rattle.run.specs.declared.Judged.{Judged}
use Rattle.events.specs.declared.Left.{Left}
use Rattle.events.specs.declared.Left.TheVariants.{Nobody, Done, Cut}
use Rattle.events.specs.declared.TickAnswer.{TickAnswer}
use Rattle.run.specs.State.{used_at, elapsed_at, waiting_at, runs_at, with_mode}
use Rattle.run.specs.Sound.{sound}
use Rattle.events.specs.Answers.{charged, ran, finished_by, cut_by}
use Rattle.events.specs.Count.{any_finished, any_cut}
use Rattle.run.specs.Tick.{height, counts_as, raises, judge, drops}
use Rattle.run.proofs.Judge.{height_at_most, Enough, enough_raised}
use Rattle.run.proofs.Sound.{LastSound, sound_state_lem}
use Rattle.events.proofs.Answers.{same_or_not, one_here}
use Rattle.events.proofs.Answers.{one_is, one_eq, charged_is}
use Rattle.promises.specs.Condition2.{OneTick, OnTheWay, Judging, stays, rises}
use Rattle.promises.specs.Condition2.{is_cut, table, old, new, Ends, Discarded}
use Rattle.promises.specs.Condition2.{Waits, Started, Able, Highest, HighestTask, ByTheRules, leaves}
use Rattle.promises.specs.InUse.{SameRows, SameInUse, RulesSettle}
use Rattle.promises.proofs.ByTheRules.{dropped, left_by, waits_or_none}

-- Rows in use of two tables.
pub server_same : {t u : Table} → SameRows t u → (i : ℕ) → i < t.nservers → server_at t i ≡ server_at u i
server_same {t} {u} h i l =
    sym (get_or-take t.nservers t.servers i no_server l) ∙
    ap (λ (a : Rows). get_or a.servers i no_server) h.rows ∙
    get_or-take u.nservers u.servers i no_server (omega (arith, h.nservers))

pub task_same : {t u : Table} → SameRows t u → (k : ℕ) → k < t.ntasks → task_at t k ≡ task_at u k
task_same {t} {u} h k l =
    sym (get_or-take t.ntasks t.tasks k no_task l) ∙
    ap (λ (a : Rows). get_or a.tasks k no_task) h.rows ∙
    get_or-take u.ntasks u.tasks k no_task (omega (arith, h.ntasks))

same_back : {r q : Run} → SameInUse r q → SameInUse q r
same_back h =
    let t = h.tables in
    record {
      tables = record { nservers = sym t.nservers; ntasks = sym t.ntasks; rows = sym t.rows };
      mode = sym h.mode;
      used = λ i l. sym (h.used i (omega (arith, t.nservers)));
      elapsed = λ i l. sym (h.elapsed i (omega (arith, t.nservers)));
      waiting = λ k l. sym (h.waiting k (omega (arith, t.ntasks)));
      runs = λ k l. sym (h.runs k (omega (arith, t.ntasks)));
      last = sym h.last;
      ticks = sym h.ticks;
      accepted = sym h.accepted;
    }

-- Step 1. Judging leaves no choice: what it comes to is what the definition computes.
judging_comes : (t : Table) (k c : ℕ) {m m' : Mode} {l : Left} → Judging t k c m m' l → (n : ℕ) → Enough n m →
    ((judge n (task_at t k) c m).mode ≡ m') × (left_by k (judge n (task_at t k) c m) ≡ l)
unfolding judge
judging_comes t k c {m} j zero h = absurd (omega (arith, height_at_most (counts_as m)))
judging_comes t k c (stays m n) (suc i) h = rw (ne_eqb c (limit_at t m k) n) (refl, refl)
judging_comes t k c (rises m m' l e u j) (suc i) h =
    rw (eq-eqb c (limit_at t m k) e, lt-ltb (height (counts_as m)) (height (task_at t k).level) u)
    (judging_comes t k c j i (enough_raised i m (task_at t k).level u h))
judging_comes t k c (is_cut m e n) (suc i) h =
    rw
    (eq-eqb c (limit_at t m k) e, false_from_ne_true (raises m (task_at t k).level) (λ u. n (ltb-true _ _ u)))
    (refl, refl)

judging_same : (t u : Table) (k c : ℕ) {m m' m'' : Mode} {l l' : Left} → task_at t k ≡ task_at u k →
    Judging t k c m m' l → Judging u k c m m'' l' → (m' ≡ m'') × (l ≡ l')
judging_same t u k c {m} e i j =
    let a = judging_comes t k c i 3 (omega arith) in
    let b = judging_comes u k c j 3 (omega arith) in
    let same = ap (λ (v : Task). judge 3 v c m) e in (
      sym a.0 ∙ ap (λ (v : Judged). v.mode) same ∙ b.0,
      sym a.1 ∙ ap (left_by k) same ∙ b.1,
    )

ends_same : (t u : Table) (s z : State) (mark : Bool) (v : Option ℕ) {m m' : Mode} {l l' : Left} → LastSound t s v →
    ((k : ℕ) → k < t.ntasks → task_at t k ≡ task_at u k) → s.mode ≡ z.mode →
    ((k : ℕ) → k < t.ntasks → runs_at s k ≡ runs_at z k) →
    Ends t s mark v m l → Ends u z mark v m' l' → (m ≡ m') × (l ≡ l')
ends_same t u s z mark None q tasks mode runs a b = (a.0 ∙ mode ∙ sym b.0, a.1 ∙ sym b.1)
ends_same t u s z true (Some k) q tasks mode runs a b = (a.0 ∙ mode ∙ sym b.0, a.1 ∙ sym b.1)
ends_same t u s z false (Some k) {m} {m'} {l} {l'} q tasks mode runs a b =
    judging_same t u k (runs_at s k) (tasks k q.below) a
    (rw (mode, runs k q.below) b)

-- Steps 5 and 6: the same are able, the same wait, so the same is said.
record Found (x y : OneTick) (w v : OnTheWay) : Type 0 where
  same : SameInUse x.before y.before
  mode : x.says.mode ≡ y.says.mode
  waiting : (k : ℕ) → k < (table x).ntasks → waiting_at (new x) k ≡ waiting_at (new y) k
  used : (i : ℕ) → i < (table x).nservers → w.used i ≡ v.used i

found_back : {x y : OneTick} {w v : OnTheWay} → Found x y w v → Found y x v w
found_back f =
    record {
      same = same_back f.same;
      mode = sym f.mode;
      waiting = λ k l. sym (f.waiting k (omega (arith, f.same.tables.ntasks)));
      used = λ i l. sym (f.used i (omega (arith, f.same.tables.nservers)));
    }

waits_same : {x y : OneTick} {w v : OnTheWay} → Found x y w v → (i k : ℕ) → Waits x i k → Waits y i k
waits_same f i k h =
    let e = task_same f.same.tables k h.there in
    record {
      there = omega (arith, f.same.tables.ntasks, h.there);
      waiting = omega (arith, f.waiting k h.there, h.waiting);
      belongs = (
        λ n. sym (ap (λ (a : Task). a.home) e) ∙ h.belongs.0 (f.mode ∙ n),
        λ n. sym (ap (λ (a : Task). a.degraded) e) ∙ h.belongs.1 (λ d. n (sym f.mode ∙ d)),
      );
    }

started_same : (x y : OneTick) → SameInUse x.before y.before → (i : ℕ) → i < (table x).nservers → Started x i →
    Started y i
started_same x y s i l h =
    omega (
      arith,
      h,
      ap (λ (a : Server). a.phase.0) (server_same s.tables i l),
      ap (λ (n : Ticks). n.0) s.ticks,
    )

able_same : {x y : OneTick} {w v : OnTheWay} → Found x y w v → (i : ℕ) → Able x w i → Able y v i
able_same {x} {y} f i h =
    let e = server_same f.same.tables i h.there in
    record {
      there = omega (arith, f.same.tables.nservers, h.there);
      started = started_same x y f.same i h.there h.started;
      below =
          omega (
            arith,
            f.used i h.there,
            h.below,
            ap₂ (λ (a : Server) (m : Mode). (in_mode a.capacity m).0) e f.mode,
          );
      cause =
          elim h.cause [
            | inl k ↦ inl (sym (ap (λ (a : Server). a.kind) e) ∙ k)
            | inr q ↦ inr (q.0, waits_same f i q.0 q.1)
          ];
    }

highest_same : {x y : OneTick} {w v : OnTheWay} → Found x y w v → (i : ℕ) → Highest x w i → Highest y v i
highest_same f i h = (
  able_same f i h.0,
  λ j a.
      let b = able_same (found_back f) j a in
      omega (
        arith,
        h.1 j b,
        ap (λ (a : Server). a.priority) (server_same f.same.tables i h.0.there),
        ap (λ (a : Server). a.priority) (server_same f.same.tables j b.there),
      ),
)

highest_task_same : {x y : OneTick} {w v : OnTheWay} → Found x y w v → (i k : ℕ) → HighestTask x i k → HighestTask y i k
highest_task_same f i k h = (
  waits_same f i k h.0,
  λ j a.
      let b = waits_same (found_back f) i j a in
      omega (
        arith,
        h.1 j b,
        ap (λ (a : Task). a.priority) (task_same f.same.tables k h.0.there),
        ap (λ (a : Task). a.priority) (task_same f.same.tables j b.there),
      ),
)

turn_same : {x y : OneTick} (p : ByTheRules x) (q : ByTheRules y) → Found x y p.way q.way → (u : Turn) →
    x.says.turn ≡ u → y.says.turn ≡ u
turn_same p q f (Ran i k) e =
    let h = (p.says.run i k).0 e in
    (q.says.run i k).1 (highest_same f i h.0, highest_task_same f i k h.1)
turn_same p q f (Empty i) e =
    let h = (p.says.empty i).0 e in
    (q.says.empty i).1 (highest_same f i h.0, λ k a. h.1 k (waits_same (found_back f) i k a))
turn_same p q f Idle e = q.says.idle.1 (λ i a. p.says.idle.0 e i (able_same (found_back f) i a))

-- Step 2: the jobs of the same tasks are discarded.
discarded_same : {x y : OneTick} {w v : OnTheWay} → SameInUse x.before y.before → w.mode ≡ v.mode → (k : ℕ) →
    k < (table x).ntasks → Discarded x w k → Discarded y v k
discarded_same h e k l d =
    record {
      entered = sym e ∙ d.entered;
      before = λ b. d.before (h.mode ∙ b);
      low = sym (ap (λ (a : Task). a.level) (task_same h.tables k l)) ∙ d.low;
    }

pub discarded_or_not : (x : OneTick) (w : OnTheWay) (k : ℕ) → Discarded x w k ⊎ (Discarded x w k → ⊥)
discarded_or_not x w k =
    let s = with_mode (old x) w.mode in
    let d = dropped x w s k refl in
    elim (cases_Bool (drops (table x) (old x).mode s k)) [
      | inl e ↦ inl (d.0 e)
      | inr e ↦ inr (λ g. clash (drops (table x) (old x).mode s k) (d.1 g) e)
    ]

leaves_is : (l : Left) (k : ℕ) → (finished_by l k + cut_by l k ≡ 0) ⊎ (finished_by l k + cut_by l k ≡ 1)
leaves_is Nobody k = inl refl
leaves_is (Done j) k = elim (one_is j k) [ inl e ↦ inl (omega arith) | inr e ↦ inr (omega arith) ]
leaves_is (Cut j) k = elim (one_is j k) [ inl e ↦ inl (omega arith) | inr e ↦ inr (omega arith) ]

-- Step 5: the server that is said to be charged is the one whose used count rose.
module _ (x : OneTick) (p : ByTheRules x) where
  pub charged_top : (i : ℕ) (u : Turn) → x.says.turn ≡ u → charged u i ≡ 1 → Highest x p.way i
  charged_top i (Ran j k) e c = ((p.says.run i k).0 (e ∙ ap (λ (n : ℕ). Ran n k) (one_eq j i c))).0
  charged_top i (Empty j) e c = ((p.says.empty i).0 (e ∙ ap Empty (one_eq j i c))).0
  charged_top i Idle e c = absurd (omega arith)

  one_top : (i j : ℕ) → Highest x p.way i → Highest x p.way j → i ≡ j
  one_top i j a b =
      p.step5.one i j a.0.there b.0.there (omega (arith, p.step5.charged i a))
      (omega (arith, p.step5.charged j b))

  not_top : (i : ℕ) (u : Turn) → x.says.turn ≡ u → charged u i ≡ 0 → Highest x p.way i → ⊥
  not_top i (Ran j k) e c h = omega (arith, one_here j i (one_top j i ((p.says.run j k).0 e).0 h))
  not_top i (Empty j) e c h = omega (arith, one_here j i (one_top j i ((p.says.empty j).0 e).0 h))
  not_top i Idle e c h = p.says.idle.0 e i h.0

  charge_counted : (i : ℕ) → i < (table x).nservers → used_at (new x) i ≡ p.way.used i + charged x.says.turn i
  charge_counted i l =
      elim (charged_is x.says.turn i) [
        | inl c ↦ omega (arith, p.step5.others i l (not_top i x.says.turn refl c))
        | inr c ↦ omega (arith, p.step5.charged i (charged_top i x.says.turn refl c))
      ]

says_same : (a b : TickAnswer) → a.tick ≡ b.tick → a.mode ≡ b.mode → a.turn ≡ b.turn → a.left ≡ b.left →
    a.discarded ≡ b.discarded → a ≡ b
says_same a b e f g h i =
    let z :
    ◌≡◌ {A = TickAnswer}
    (record { tick = a.tick; mode = a.mode; turn = a.turn; left = a.left; discarded = a.discarded })
    (record { tick = b.tick; mode = b.mode; turn = b.turn; left = b.left; discarded = b.discarded }) =
    rw (e, f, g, h, i) in
    z

-- Two ticks by the rules, on runs that are the same in use: step by step they come to the same.
module _ (x y : OneTick) (safe : sound x.before ≡ true) (marks : x.mark ≡ y.mark)
    (h : SameInUse x.before y.before) (p : ByTheRules x) (q : ByTheRules y) where
  first : (p.way.mode ≡ q.way.mode) × (x.says.left ≡ y.says.left)
  first =
      ends_same (table x) (table y) (old x) (old y) x.mark (old x).last (sound_state_lem x.before safe).last
      (task_same h.tables) h.mode h.runs p.step1 (rw (marks, h.last) q.step1)

  left : (k : ℕ) → leaves x k ≡ leaves y k
  left k = ap (λ (l : Left). finished_by l k + cut_by l k) first.1

  task : (k : ℕ) → k < (table x).ntasks → k < (table y).ntasks
  task k l = omega (arith, h.tables.ntasks)

  server : (i : ℕ) → i < (table x).nservers → i < (table y).nservers
  server i l = omega (arith, h.tables.nservers)

  there : (k : ℕ) → k < (table x).ntasks → Discarded x p.way k → Discarded y q.way k
  there = discarded_same h first.0

  back : (k : ℕ) → k < (table x).ntasks → Discarded y q.way k → Discarded x p.way k
  back k l = discarded_same (same_back h) (sym first.0) k (task k l)

  waiting : (k : ℕ) → k < (table x).ntasks → waiting_at (new x) k ≡ waiting_at (new y) k
  waiting k l =
      elim (discarded_or_not x p.way k) [
        | inl d ↦ p.step2.gone k l d ∙ sym (q.step2.gone k (task k l) (there k l d))
        | inr n ↦
            omega (
              arith,
              p.step2.kept k l n,
              q.step2.kept k (task k l) (λ d. n (back k l d)),
              left k,
              h.waiting k l,
            )
      ]

  discarded : x.says.discarded ≡ y.says.discarded
  discarded =
      omega (
        arith,
        p.step2.counted,
        q.step2.counted,
        ap (λ n. sum_below n (waiting_at (new y))) h.tables.ntasks,
        ap (λ n. sum_below n (waiting_at (old y))) h.tables.ntasks,
        sum_cong (waiting_at (new x)) (waiting_at (new y)) (table x).ntasks waiting,
        sum_cong (waiting_at (old x)) (waiting_at (old y)) (table x).ntasks h.waiting,
        ap any_finished first.1,
        ap any_cut first.1,
      )

  mode : x.says.mode ≡ y.says.mode
  mode =
      elim (waits_or_none x) [
        | inl (k, l, w) ↦
            p.step3.some k l w ∙ first.0 ∙ sym (q.step3.some k (task k l) (omega (arith, waiting k l)))
        | inr n ↦
            p.step3.none n ∙
            sym
            (q.step3.none
            (λ k l. let m : k < (table x).ntasks = omega (arith, h.tables.ntasks) in sym (waiting k m) ∙ n k m))
      ]

  counts : (i : ℕ) → i < (table x).nservers → (p.way.used i ≡ q.way.used i) × (p.way.elapsed i ≡ q.way.elapsed i)
  counts i l = go (same_or_not (elapsed_at (old x) i) (period_at (table x) i))
    where
      period : period_at (table x) i ≡ period_at (table y) i
      period = ap (λ (a : Server). a.period.0) (server_same h.tables i l)

      go : (elapsed_at (old x) i ≡ period_at (table x) i) ⊎ (elapsed_at (old x) i ≡ period_at (table x) i → ⊥) →
          (p.way.used i ≡ q.way.used i) × (p.way.elapsed i ≡ q.way.elapsed i)
      go (inl e) =
          let a = p.step4.refilled i l e in
          let b = q.step4.refilled i (server i l) (sym (h.elapsed i l) ∙ e ∙ period) in
          (a.0 ∙ sym b.0, a.1 ∙ sym b.1)
      go (inr n) =
          let a = p.step4.kept i l n in
          let b = q.step4.kept i (server i l) (λ e. n (h.elapsed i l ∙ e ∙ sym period)) in
          (a.0 ∙ h.used i l ∙ sym b.0, a.1 ∙ h.elapsed i l ∙ sym b.1)

  turn : x.says.turn ≡ y.says.turn
  turn =
      sym
      (turn_same p q
      (record { same = h; mode = mode; waiting = waiting; used = λ i l. (counts i l).0 })
      x.says.turn
      refl)

  fronts : (k : ℕ) → k < (table x).ntasks → p.way.runs k ≡ q.way.runs k
  fronts k l = go (leaves_is x.says.left k) (discarded_or_not x p.way k)
    where
      go : (leaves x k ≡ 0) ⊎ (leaves x k ≡ 1) → Discarded x p.way k ⊎ (Discarded x p.way k → ⊥) →
          p.way.runs k ≡ q.way.runs k
      go (inr e) d = p.step6.left k l e ∙ sym (q.step6.left k (task k l) (sym (left k) ∙ e))
      go (inl e) (inl d) = p.step6.gone k l d ∙ sym (q.step6.gone k (task k l) (there k l d))
      go (inl e) (inr n) =
          p.step6.kept k l e n ∙ h.runs k l ∙
          sym (q.step6.kept k (task k l) (sym (left k) ∙ e) (λ d. n (back k l d)))

  last : (v : Option ℕ) → (new y).last ≡ v → (new x).last ≡ v
  last (Some k) e = let f = (q.says.last k).0 e in (p.says.last k).1 (f.0, turn ∙ f.1)
  last None e = go (new x).last refl
    where
      go : (v : Option ℕ) → (new x).last ≡ v → (new x).last ≡ None
      go None d = d
      go (Some k) d =
          let f = (p.says.last k).0 d in
          let c = (q.says.last k).1 (f.0, sym turn ∙ f.1) in
          let z : ◌≡◌ {A = ℕ} 0 1 = cc in
          absurd (omega arith)

  tables_after : {A : Type 0} (f : Table → A) → f (table x) ≡ f (table y) → f x.after.table ≡ f y.after.table
  tables_after f e = ap f p.step7.same ∙ e ∙ sym (ap f q.step7.same)

  afters : SameInUse x.after y.after
  afters =
      record {
        tables =
            record {
              nservers = tables_after (λ t. t.nservers) h.tables.nservers;
              ntasks = tables_after (λ t. t.ntasks) h.tables.ntasks;
              rows = tables_after rows_of h.tables.rows;
            };
        mode = p.step3.told ∙ mode ∙ sym q.step3.told;
        used =
            λ i m.
            let l = in_servers i m in
            charge_counted x p i l ∙
            ap₂ (λ (n : ℕ) (u : Turn). n + charged u i) (counts i l).0 turn ∙
            sym (charge_counted y q i (server i l));
        elapsed =
            λ i m.
            let l = in_servers i m in
            elim (le_or_lt (phase_at (table x) i) (old x).ticks.0) [
              | inl g ↦
                  omega (
                    arith,
                    p.step7.elapsed i l g,
                    q.step7.elapsed i (server i l) (started_same x y h i l g),
                    (counts i l).1,
                  )
              | inr g ↦
                  omega (
                    arith,
                    p.step7.stays i l (λ b. omega (arith, b)),
                    q.step7.stays i (server i l) (λ b. let c = started_same y x (same_back h) i (server i l) b in omega (arith, c)),
                    (counts i l).1,
                  )
            ];
        waiting = λ k m. waiting k (in_tasks k m);
        runs =
            λ k m.
            let l = in_tasks k m in
            p.step6.runs k l ∙ ap₂ (λ (n : ℕ) (u : Turn). n + ran u k) (fronts k l) turn ∙
            sym (q.step6.runs k (task k l));
        last = last (new y).last refl;
        ticks =
            ap
            (λ (n : ℕ). record { 0 = n })
            (omega (arith, p.step7.ticks, q.step7.ticks, ap (λ (n : Ticks). n.0) h.ticks));
        accepted = p.step7.accepted ∙ h.accepted ∙ sym q.step7.accepted;
      }
    where
      in_servers : (i : ℕ) → i < x.after.table.nservers → i < (table x).nservers
      in_servers i l = omega (arith, ap (λ (t : Table). t.nservers) p.step7.same)

      in_tasks : (k : ℕ) → k < x.after.table.ntasks → k < (table x).ntasks
      in_tasks k l = omega (arith, ap (λ (t : Table). t.ntasks) p.step7.same)

pub rules_settle : RulesSettle
rules_settle x y safe marks h p q = (
  says_same
      x.says
      y.says
      (p.step7.tick ∙ h.ticks ∙ sym q.step7.tick)
      (mode x y safe marks h p q)
      (turn x y safe marks h p q)
      (first x y safe marks h p q).1
      (discarded x y safe marks h p q),
  afters x y safe marks h p q,
)
