-- The rules of a table, of a state and of task times, as inequalities: each test holds exactly if
-- its inequality does. Assumes nothing.
use Rattle.std.proofs.Common.{None, Option, Some, Ok, Err}
use mathlib.Core.Path.{◌≡◌, refl, ap, subst}
use mathlib.Core.Bool.{Bool, true, false, ◌&&◌}
use mathlib.Core.List.{List, [], ◌∷◌}
use mathlib.Core.Logic.Iff
use mathlib.Core.Logic.{◌⊎◌, inl, inr, ◌↔◌}
use Prim.Native.Nat.{ℕ, zero, suc, ◌-◌, ◌%◌, ◌≤◌, ◌<◌}
use native.Mathlib.Omega.{arith}
use lib.ListN.{length, get_or}
use lib.Dec.{eqb}
use borrow.Author.Tests.{leb-false, lt-leb, eqb-true, eq-eqb, not-true}
use Rattle.laws.specs.Choice.{every, within}
use Rattle.laws.specs.Rows.{all_below}
use Rattle.std.proofs.lemmas.Bool.{false_from_ne_true}
use Rattle.laws.proofs.Choice.{clash}
use Rattle.laws.proofs.Rows.{all_at, all_build}
use Rattle.decimal.specs.Lines.{line_feed, split}
use Rattle.table.specs.declared.ByMode.{ByMode}
use Rattle.table.specs.declared.Server.{Server}
use Rattle.table.specs.declared.Task.{Task}
use Rattle.table.specs.Refusals.{is_kept, breaks, Standing}
use Rattle.table.specs.declared.Level.{Level}
use Rattle.table.specs.declared.Level.TheVariants.{LO, MI, HI}
use Rattle.table.specs.declared.Mode.{Mode}
use Rattle.table.specs.declared.Mode.TheVariants.{N, D1, D2}
use Rattle.table.specs.declared.Table.{Table}
use Rattle.table.specs.Rows.{rows_of, is_low, is_d2, no_server, no_task, task_at, phase_at}
use Rattle.table.specs.Rules.{server_keeps, task_keeps, task_fault, task_stands, keeps, table_keeps}
use Rattle.table.proofs.Pairs.{differ_at, differ_build}
use Rattle.units.specs.declared.Micros.{Micros}
use Rattle.text.specs.declared.ServerLine.{ServerLine}
use Rattle.text.specs.declared.TaskLine.{TaskLine}
use Rattle.text.specs.declared.Line.{Line}
use Rattle.text.specs.declared.Line.TheVariants.{OfTick, OfServer, OfTask, Malformed}
use Rattle.text.specs.Line.{no_line, read_line}
use Rattle.text.specs.Write.{task_times_whole, all_lines, times_whole, not_zero, phase_not_zero, no_phase_zero}
use Rattle.text.proofs.Refused.{standing_0}
use Rattle.text.proofs.RoundTrip.{nothing_said}
use Rattle.run.specs.declared.State.{State}
use Rattle.queues.specs.Queues.{is_last}
use Rattle.run.proofs.Sound.{TaskSound, JobSound, LastSound, sound_exactly}
use Rattle.promises.specs.Condition1.{line_at, is_server, is_task, TimesWhole, NoPhaseZero}
use Rattle.promises.specs.Condition1.{All, TaskFits, Gives}
use Rattle.promises.specs.Condition1.{ServerRow, TaskRow, TableExactly, SoundTask, SoundLast}
use Rattle.promises.specs.Condition1.{SoundExactly}
use Rattle.promises.proofs.Tests.{Tests, is_le, is_lt, is_eq, is_in, both, ◌and◌}
use Rattle.promises.proofs.Asked.{faults}
use Rattle.units.specs.declared.Ticks.{Ticks}

-- each test of a list, and all of them
infixr 5 ◌also◌
data TestsAll : List Bool → List {1} (Type 0) → Type 1 where
  none : TestsAll [] []
  ◌also◌ : {b : Bool} {bs : List Bool} {P : Type 0} {Ps : List {1} (Type 0)} → Tests b P →
      TestsAll bs Ps → TestsAll (b ∷ bs) (P ∷ Ps)

tests : {bs : List Bool} {Ps : List {1} (Type 0)} → TestsAll bs Ps → Tests (every bs) (All Ps)
unfolding every
tests none = (λ e. tt, λ p. refl)
tests (◌also◌ {b} {bs} f fs) = both b (every bs) f (tests fs)

-- each row
rows : (n : ℕ) (p : ℕ → Bool) (P : ℕ → Type 0) → ((i : ℕ) → Tests (p i) (P i)) →
    Tests (all_below n p) ((i : ℕ) → i < n → P i)
rows n p P f = (λ e i h. (f i).0 (all_at p n i e h), λ q. all_build p n (λ i h. (f i).1 (q i h)))

-- 41 to 45: none is told of a task exactly if it has none of these faults
is_kept_lem : (s : Standing) → Tests (is_kept s) (Gives s 0 0)
is_kept_lem (Ok tt) = (λ e. (refl, refl), λ p. refl)
is_kept_lem (Err f) = (
  λ e. absurd (clash false e refl),
  λ p. ap is_kept ((standing_0 (Err f)).0 p.0),
)

task_fits : (ss : List Server) (home degraded : ℕ) (limit : ByMode Ticks) →
    Tests (is_kept (task_fault ss home degraded limit)) (TaskFits ss home degraded limit)
task_fits ss home degraded limit =
    Iff.trans (is_kept_lem (task_fault ss home degraded limit)) (faults ss home degraded limit).none

-- A table's rows.
server_row : (s : Server) → Tests (every (server_keeps s)) (ServerRow s)
unfolding server_keeps
server_row s =
    let p = s.period.0 in
    tests
    (is_in 0 15 s.partition
    also is_in 1 255 s.priority
    also is_in 1 1000000 p
    also is_le s.capacity.n.0 p
    also is_le s.capacity.d1.0 p
    also is_le s.capacity.d2.0 p
    also is_lt s.phase.0 p
    also none)

task_row : (ss : List Server) (k : Task) → Tests (task_stands ss k) (TaskRow ss k)
unfolding task_stands task_keeps
task_row ss k =
    both (every (task_keeps k)) (is_kept (task_fault ss k.home k.degraded k.limit))
    (tests
    (is_in 1 255 k.priority
    also is_in 1 100000 k.limit.n.0
    also is_in 1 100000 k.limit.d1.0
    also is_in 1 100000 k.limit.d2.0
    also none))
    (task_fits ss k.home k.degraded k.limit)

pub table_exactly : TableExactly
unfolding table_keeps keeps
table_exactly t =
    let a = rows_of t in
    let ss = a.servers in
    let ks = a.tasks in
    let n = length ss in
    let m = length ks in
    let p : ℕ → ℕ = λ i. (get_or ss i no_server).priority in
    let q : ℕ → ℕ = λ k. (get_or ks k no_task).priority in
    let f =
    tests
    (is_in 1 10000 a.tick.0
    also is_in 1 32 n
    also is_in 1 64 m
    also rows n (λ i. every (server_keeps (get_or ss i no_server)))
    (λ i. ServerRow (get_or ss i no_server)) (λ i. server_row (get_or ss i no_server))
    also rows m (λ k. task_stands ss (get_or ks k no_task)) (λ k. TaskRow ss (get_or ks k no_task))
    (λ k. task_row ss (get_or ks k no_task))
    also (differ_at n p, differ_build n p)
    also (differ_at m q, differ_build m q)
    also none) in
    let g =
    both (within 1 32 t.nservers) (within 1 64 t.ntasks && keeps a)
    (is_in 1 32 t.nservers)
    (both (within 1 64 t.ntasks) (keeps a) (is_in 1 64 t.ntasks) f) in
    (λ e. let r = g.0 e in (r.0, r.1.0, r.1.1), λ r. g.1 (r.0, (r.1, r.2)))

-- A state's clauses.
last_is : (l : Option ℕ) (k : ℕ) → Tests (is_last l k) (l ≡ Some k)
last_is None k = (
  λ e. absurd (clash false e refl),
  λ e. let z : ◌≡◌ {A = ℕ} 0 1 = cc in absurd (omega arith),
)
last_is (Some j) k = (λ e. ap Some (eqb-true j k e), λ e. let z : j ≡ k = cc in eq-eqb j k z)

is_d2_lem : (m : Mode) → Tests (is_d2 m) (m ≡ D2)
is_d2_lem N = (λ e. absurd (clash false e refl), λ e. ap is_d2 e)
is_d2_lem D1 = (λ e. absurd (clash false e refl), λ e. ap is_d2 e)
is_d2_lem D2 = (λ e. refl, λ e. refl)

is_low_lem : (l : Level) → Tests (is_low l) (l ≡ LO)
is_low_lem LO = (λ e. refl, λ e. refl)
is_low_lem MI = (λ e. absurd (clash false e refl), λ e. ap is_low e)
is_low_lem HI = (λ e. absurd (clash false e refl), λ e. ap is_low e)

sound_task_lem : (t : Table) (s : State) (k : ℕ) → TaskSound t s k ↔ SoundTask t s k
sound_task_lem t s k = (
  λ f.
      f.queue
      and f.none
      and (λ w. front (last_is s.last k).0 (f.front w))
      and (λ d l. f.low ((is_d2_lem s.mode).1 d) ((is_low_lem (task_at t k).level).1 l))
      and tt,
  λ p.
      record {
        queue = p.0;
        none = p.1.0;
        front = λ w. front (last_is s.last k).1 (p.1.1.0 w);
        low = λ d l. p.1.1.1.0 ((is_d2_lem s.mode).0 d) ((is_low_lem (task_at t k).level).0 l);
      },
)
  where
    front : {A B C D : Type 0} → (B → C) → A ⊎ (B × D) → A ⊎ (C × D)
    front f (inl a) = inl a
    front f (inr p) = inr (f p.0, p.1)

sound_last_lem : (t : Table) (s : State) → LastSound t s s.last ↔ SoundLast t s
sound_last_lem t s = (to, λ f. back s.last refl f)
  where
    to : LastSound t s s.last → SoundLast t s
    to f k e =
        let j : JobSound t s k = subst (LastSound t s) e f in
        j.below and j.waits and j.ran and j.tick and tt

    back : (l : Option ℕ) → s.last ≡ l → SoundLast t s → LastSound t s l
    back None e f = tt
    back (Some k) e f =
        let p = f k e in
        record { below = p.0; waits = p.1.0; ran = p.1.1.0; tick = p.1.1.1.0 }

pub state_exactly : SoundExactly
state_exactly r =
    let t = r.table in
    let s = r.state in (
      λ e.
          let p = (sound_exactly r).0 e in
          let f = p.1 in
          p.0
          and (λ i h. let g = f.servers i h in g.elapsed and g.used and g.room
          and (λ l. g.before (lt-leb (phase_at t i) s.ticks.0 l)) and tt)
          and (λ k h. (sound_task_lem t s k).0 (f.tasks k h))
          and (sound_last_lem t s).0 f.last
          and f.counts.ticks
          and f.counts.accepted
          and f.counts.waiting
          and tt,
      λ p.
          let q = p.1.1.1.1 in
          (sound_exactly r).1 (
            p.0,
            record {
              servers =
                  λ i h.
                  let g = p.1.0 i h in
                  record {
                    elapsed = g.0;
                    used = g.1.0;
                    room = g.1.1.0;
                    before = λ q. g.1.1.1.0 (leb-false (phase_at t i) s.ticks.0 q);
                  };
              tasks = λ k h. (sound_task_lem t s k).1 (p.1.1.0 k h);
              last = (sound_last_lem t s).1 p.1.1.1.0;
              counts = record { ticks = q.0; accepted = q.1.0; waiting = q.1.1.0 };
            },
          ),
    )

-- "each task time was whole ticks": of each line
no_task_lem : {A : Type 0} (l : Line) (k : TaskLine) → is_task l ≡ false → l ≡ OfTask k → A
no_task_lem l k f e = absurd (clash (is_task l) (ap is_task e) f)

task_times : (t : ℕ) (l : Line) →
    Tests (task_times_whole t l)
    ((k : TaskLine) → l ≡ OfTask k →
    All ((k.limit.n.0 % t ≡ 0) ∷ (k.limit.d1.0 % t ≡ 0) ∷ (k.limit.d2.0 % t ≡ 0) ∷ []))
unfolding every
task_times t (OfTick u) = (λ e k q. no_task_lem (OfTick u) k refl q, λ f. refl)
task_times t (OfServer s) = (λ e k q. no_task_lem (OfServer s) k refl q, λ f. refl)
task_times t (OfTask x) =
    let f =
    tests
    (is_eq (x.limit.n.0 % t) 0
    also is_eq (x.limit.d1.0 % t) 0
    also is_eq (x.limit.d2.0 % t) 0
    also none) in
    (λ e k q. let z : x ≡ k = cc in rw (← z) (f.0 e), λ g. f.1 (g x refl))
task_times t (Malformed word field) = (λ e k q. no_task_lem (Malformed word field) k refl q, λ f. refl)

-- "no phase 0 was written": of each line
no_server_lem : {A : Type 0} (l : Line) (s : ServerLine) → is_server l ≡ false → l ≡ OfServer s → A
no_server_lem l s f e = absurd (clash (is_server l) (ap is_server e) f)

not_zero_lem : (p : Option Micros) → Tests (not_zero p) (p ≡ Some (record { 0 = 0 }) → ⊥)
not_zero_lem None = (λ e q. let z : ◌≡◌ {A = ℕ} 0 1 = cc in omega arith, λ f. refl)
not_zero_lem (Some u) = (
  λ e q.
      let z : u ≡ record { 0 = 0 } = cc in
      clash (eqb u.0 0) (eq-eqb u.0 0 (ap (λ (x : Micros). x.0) z)) (not-true (eqb u.0 0) e),
  λ f. rw (false_from_ne_true (eqb u.0 0) (λ e. f (ap Some (of_none u (eqb-true u.0 0 e))))),
)
  where
    of_none : (x : Micros) → x.0 ≡ 0 → x ≡ record { 0 = 0 }
    of_none x e = rw (← e)

phase_written : (l : Line) →
    Tests (phase_not_zero l) ((s : ServerLine) → l ≡ OfServer s → s.phase ≡ Some (record { 0 = 0 }) → ⊥)
phase_written (OfTick u) = (λ e s q. no_server_lem (OfTick u) s refl q, λ f. refl)
phase_written (OfServer x) = (
  λ e s q. let z : x ≡ s = cc in rw (← z) ((not_zero_lem x.phase).0 e),
  λ f. (not_zero_lem x.phase).1 (f x refl),
)
phase_written (OfTask k) = (λ e s q. no_server_lem (OfTask k) s refl q, λ f. refl)
phase_written (Malformed word field) = (λ e s q. no_server_lem (Malformed word field) s refl q, λ f. refl)

-- What a test asks of each line, where it asks nothing of a line of no known word.
module _ (p : Line → Bool) (P : Line → Type 0) (none : p no_line ≡ true) (f : (l : Line) → Tests (p l) (P l)) where
  each_part : (ps : List (List ℕ)) → Tests (all_lines p ps) ((i : ℕ) → p (read_line (get_or ps i [])) ≡ true)
  unfolding all_lines
  each_part [] = (λ e i. rw (nothing_said, none), λ g. refl)
  each_part (q ∷ ps) =
      let h = both (p (read_line q)) (all_lines p ps) (λ e. e, λ e. e) (each_part ps) in
      (λ e. each (h.0 e), λ g. h.1 (g 0, λ i. g (suc i)))
    where
      each : (p (read_line q) ≡ true) × ((i : ℕ) → p (read_line (get_or ps i [])) ≡ true) →
          (i : ℕ) → p (read_line (get_or (q ∷ ps) i [])) ≡ true
      each r zero = r.0
      each r (suc i) = r.1 i

  each_line : (text : List ℕ) →
      Tests (all_lines p (split line_feed text)) ((n : ℕ) → 1 ≤ n → P (line_at text n))
  each_line text = (
    λ e n h. (f (line_at text n)).0 ((each_part (split line_feed text)).0 e (n - 1)),
    λ g.
        (each_part (split line_feed text)).1
        (λ i.
        let z : suc i - 1 ≡ i = omega arith in
        (f (read_line (get_or (split line_feed text) i []))).1
        (subst (λ j. P (read_line (get_or (split line_feed text) j []))) z (g (suc i) (omega arith)))),
  )

pub times_whole_lem : (t : ℕ) (text : List ℕ) → Tests (times_whole t text) (TimesWhole t text)
times_whole_lem t text =
    let g = each_line (task_times_whole t) _ refl (task_times t) text in
    (λ e n k h. g.0 e n h k, λ w. g.1 (λ n h k. w n k h))

pub no_phase_zero_lem : (text : List ℕ) → Tests (no_phase_zero text) (NoPhaseZero text)
no_phase_zero_lem text =
    let g = each_line phase_not_zero _ refl phase_written text in
    (λ e n s h. g.0 e n h s, λ w. g.1 (λ n h s. w n s h))
