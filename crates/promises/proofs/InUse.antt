-- What is answered rests on the rows in use alone: so does each test of an event, and what a tick
-- does is settled by its rules. Assumes nothing.
use Rattle.std.specs.Prelude.{if◌then◌else◌, None, Option, Some}
use mathlib.Core.Path.{fun_ext, ◌≡◌, refl, ap, ap₂, sym, ◌∙◌}
use mathlib.Core.Bool.{Bool, true, not, ◌&&◌, ◌||◌}
use mathlib.Core.List.{List, [], ◌∷◌}
use mathlib.Core.Logic.{inl, inr}
use Prim.Native.Nat.{ℕ, ◌+◌, ◌≤◌, ◌<◌}
use native.Mathlib.Omega.{arith}
use lib.Dec.{leb, ltb, eqb}
use borrow.Author.Tests.{ltb-true, le-ltb, lt-ltb}
use Rattle.laws.specs.Choice.{every, within}
use Rattle.laws.specs.Search.{least}
use Rattle.laws.specs.Rows.{all_below, sum_below}
use Rattle.laws.proofs.Choice.{le_or_lt}
use Rattle.laws.proofs.Rows.{all_cong, sum_cong}
use Rattle.table.specs.declared.Mode.{Mode}
use Rattle.table.specs.declared.Server.{Server}
use Rattle.table.specs.declared.Task.{Task}
use Rattle.units.specs.declared.Ticks.{Ticks}
use Rattle.table.specs.declared.Table.{Table}
use Rattle.table.specs.Rows.{priority_at, in_mode, is_low, is_d2}
use Rattle.table.specs.Rules.{keeps, table_keeps}
use Rattle.table.proofs.Rules.{table_rules}
use Rattle.text.specs.Write.{wrote}
use Rattle.verdict.specs.Verdict.{interference, meets, response_at, verdict_of}
use Rattle.verdict.proofs.Interference.{interference_above}
use Rattle.events.specs.Boxes.{after_in, answers_in}
use Rattle.run.specs.declared.Run.{Run}
use Rattle.events.specs.declared.Event.{Event}
use Rattle.events.specs.declared.Event.TheVariants.{Release, Tick}
use Rattle.events.specs.declared.Answer.TheVariants.{Ticked}
use Rattle.events.specs.declared.Answered.{Answered}
use Rattle.run.specs.State.{waiting_at}
use Rattle.run.specs.Sound.{sound_server, sound_task, sound_last, sound_counts, sound_state}
use Rattle.run.specs.Sound.{sound}
use Rattle.run.specs.Release.{release_of}
use Rattle.queues.specs.Queues.{ran_job}
use Rattle.run.specs.Tick.{tick_of}
use Rattle.run.specs.Events.{event_of, after, answers}
use Rattle.run.proofs.Taken.{is_task, level_taken, has_room, counts_on, mark_taken, release_taken}
use Rattle.run.proofs.Taken.{release_cases, tick_cases}
use Rattle.run.proofs.Shape.{RunShaped, event_run_shaped}
use Rattle.run.proofs.Sound.{sound_table, sound_state_lem}
use Rattle.run.proofs.Kept.{waiting_released}
use Rattle.promises.specs.Condition2.{ByTheRules}
use Rattle.promises.specs.InUse.{SameRows, SameInUse, InUse, TablesInUse}
use Rattle.promises.proofs.ByTheRules.{made, by_the_rules, held_shaped}
use Rattle.promises.proofs.RulesSettle.{server_same, task_same, rules_settle}

-- Whether a run is sound rests on the rows in use too: each test of it has the same answer.
both : {a b c d : Bool} → a ≡ b → c ≡ d → (a && c) ≡ (b && d)
both = ap₂ ◌&&◌

all_same : (f g : ℕ → Bool) (n m : ℕ) → ((k : ℕ) → k < n → f k ≡ g k) → n ≡ m → all_below n f ≡ all_below m g
all_same f g n m e q = all_cong f g n e ∙ ap (λ (n : ℕ). all_below n g) q

module _ {t u : Table} (h : SameRows t u) where
  keeps_same : table_keeps t ≡ table_keeps u
  unfolding table_keeps
  keeps_same =
      both (ap (within 1 32) h.nservers) (both (ap (within 1 64) h.ntasks) (ap keeps h.rows))

  wrote_same : (room : List ℕ) → wrote t room ≡ wrote u room
  unfolding wrote
  wrote_same room = rw (keeps_same, h.rows)

  interference_same : (m : Mode) (i : ℕ) → i < t.nservers → (R : ℕ) → interference t m i R ≡ interference u m i R
  interference_same m i l R =
      interference_above t u m i R h.nservers (priority i l) priority (λ j d g. server_same h j d)
    where
      priority : (j : ℕ) → j < t.nservers → priority_at t j ≡ priority_at u j
      priority j d = ap (λ (a : Server). a.priority) (server_same h j d)

  response_same : (m : Mode) (i : ℕ) → i < t.nservers → response_at t m i ≡ response_at u m i
  unfolding response_at meets
  response_same m i l =
      let e = server_same h i l in
      let meet = fun_ext (λ (R : ℕ). ap₂ (λ (a : Server) (n : ℕ). leb ((in_mode a.capacity m).0 + n) R) e (interference_same m i l R)) in
      ap₂
      (λ (a : Server) (p : ℕ → Bool). if eqb (in_mode a.capacity m).0 0 then Some 0 else least p 1 a.period.0)
      e
      meet

verdict_same : (t u : Table) (h : SameRows t u) (i : ℕ) (m : Mode) → verdict_of t i m ≡ verdict_of u i m
unfolding verdict_of
verdict_same t u h i m =
    elim (le_or_lt t.nservers i) [
      | inl g ↦ rw (keeps_same h, le-ltb i t.nservers g, le-ltb i u.nservers (omega (arith, h.nservers)))
      | inr l ↦ rw (keeps_same h, lt-ltb i t.nservers l, lt-ltb i u.nservers (omega (arith, h.nservers)), response_same h m i l)
    ]

pub tables_in_use : TablesInUse
tables_in_use t u h = (keeps_same h, wrote_same h, verdict_same t u h)

module _ {r q : Run} (h : SameInUse r q) where
  server_tests_lem : (i : ℕ) → i < r.table.nservers →
      every (sound_server r.table r.state i) ≡ every (sound_server q.table q.state i)
  unfolding sound_server
  server_tests_lem i l =
      let e = server_same h.tables i l in
      rw (h.elapsed i l, h.used i l, h.ticks, ap (λ (a : Server). a.period.0) e, ap (λ (a : Server). a.phase.0) e, e)

  task_tests_lem : (k : ℕ) → k < r.table.ntasks →
      every (sound_task r.table r.state k) ≡ every (sound_task q.table q.state k)
  unfolding sound_task
  task_tests_lem k l =
      let e = task_same h.tables k l in
      let limit = ap₂ (λ (a : Task) (m : Mode). (in_mode a.limit m).0) e h.mode in
      rw (h.waiting k l, h.runs k l, limit, e, h.mode, h.last)

  last_test : (v : Option ℕ) → sound_last r.table r.state v ≡ sound_last q.table q.state v
  unfolding sound_last every
  last_test None = refl
  last_test (Some k) =
      elim (le_or_lt r.table.ntasks k) [
        | inl g ↦ rw (le-ltb k r.table.ntasks g, le-ltb k q.table.ntasks (omega (arith, h.tables.ntasks)))
        | inr l ↦ rw (h.waiting k l, h.runs k l, h.ticks, h.tables.ntasks)
      ]

  counts_tests : every (sound_counts r.table r.state) ≡ every (sound_counts q.table q.state)
  unfolding sound_counts
  counts_tests =
      let waiting =
      sum_cong (waiting_at r.state) (waiting_at q.state) r.table.ntasks h.waiting ∙
      ap (λ (n : ℕ). sum_below n (waiting_at q.state)) h.tables.ntasks in
      rw (waiting, h.ticks, h.accepted)

  sound_same : sound r ≡ sound q
  unfolding sound sound_state every
  sound_same =
      both (keeps_same h.tables)
      (both (all_same _ _ r.table.nservers q.table.nservers server_tests_lem h.tables.nservers)
      (both (all_same _ _ r.table.ntasks q.table.ntasks task_tests_lem h.tables.ntasks)
      (both (last_test r.state.last ∙ ap (sound_last q.table q.state) h.last)
      (both counts_tests refl))))

-- One event, taken or refused.
abbrev Alike : Answered Run → Answered Run → Type 0
Alike a b = (a.answer ≡ b.answer) × SameInUse a.run b.run

module _ (r q : Run) (shape : RunShaped r) (shape' : RunShaped q) (h : SameInUse r q) where
  job_same : (k : ℕ) → k < r.table.ntasks → r.table.ntasks ≤ 64 →
      SameInUse (release_taken r k).run (release_taken q k).run
  job_same k l many =
      record {
        tables = h.tables;
        mode = h.mode;
        used = h.used;
        elapsed = h.elapsed;
        waiting =
            λ j m.
            omega (
              arith,
              waiting_released r.state k j (omega (arith, shape.state.waiting)),
              waiting_released q.state k j (omega (arith, shape'.state.waiting, h.tables.ntasks)),
              h.waiting j m,
            );
        runs = h.runs;
        last = h.last;
        ticks = h.ticks;
        accepted = ap (λ (n : ℕ). n + 1) h.accepted;
      }

  release_same : (k : ℕ) → Alike (release_of r k) (release_of q k)
  unfolding release_of
  release_same k =
      release_cases (λ (a : Answered Run). Alike a (release_of q k)) r k (λ a. rw (safe ∙ a) (refl, h))
      (λ a b. rw (safe ∙ a, there ∙ b) (refl, h))
      (λ a b c. rw (safe ∙ a, there ∙ b, level b ∙ c) (refl, h))
      (λ a b c d. rw (safe ∙ a, there ∙ b, level b ∙ c, room b ∙ d) (refl, h))
      (λ a b c d e. rw (safe ∙ a, there ∙ b, level b ∙ c, room b ∙ d, count ∙ e) (refl, h))
      (λ y. rw
      (safe ∙ y.sound, there ∙ y.task, level y.task ∙ y.level, room y.task ∙ y.queue, count ∙ y.count) (
        refl,
        job_same k (ltb-true k r.table.ntasks y.task)
            (table_rules r.table shape.table (sound_table r y.sound)).tasks_high,
      ))
    where
      safe : sound q ≡ sound r
      safe = sym (sound_same h)

      there : is_task q k ≡ is_task r k
      there = ap (ltb k) (sym h.tables.ntasks)

      level : is_task r k ≡ true → level_taken q k ≡ level_taken r k
      level b =
          sym
          (ap₂
          (λ (m : Mode) (a : Task). not (is_d2 m && is_low a.level))
          h.mode
          (task_same h.tables k (ltb-true k r.table.ntasks b)))

      room : is_task r k ≡ true → has_room q k ≡ has_room r k
      room b = ap (λ (n : ℕ). ltb n 16) (sym (h.waiting k (ltb-true k r.table.ntasks b)))

      count : counts_on q.state.accepted ≡ counts_on r.state.accepted
      count = ap counts_on (sym h.accepted)

  rules_of_lem : (r : Run) (mark : Bool) → RunShaped r → sound r ≡ true → ByTheRules (made r.table r.state mark)
  rules_of_lem r mark z e =
      by_the_rules r.table r.state mark (table_rules r.table z.table (sound_table r e)) z.state
      (sound_state_lem r e)

  tick_same : (mark : Bool) → Alike (tick_of r mark) (tick_of q mark)
  unfolding tick_of
  tick_same mark =
      tick_cases (λ (a : Answered Run). Alike a (tick_of q mark)) r mark (λ a. rw (safe ∙ a) (refl, h))
      (λ a b. rw (safe ∙ a, job ∙ b) (refl, h))
      (λ a b c. rw (safe ∙ a, job ∙ b, count ∙ c) (refl, h))
      (λ y.
      let e =
      rules_settle (made r.table r.state mark) (made q.table q.state mark) y.sound refl h
      (rules_of_lem r mark shape y.sound) (rules_of_lem q mark shape' (safe ∙ y.sound)) in
      rw (safe ∙ y.sound, job ∙ y.job, count ∙ y.count) (ap Ticked e.0, e.1))
    where
      safe : sound q ≡ sound r
      safe = sym (sound_same h)

      job : mark_taken q mark ≡ mark_taken r mark
      job = ap (λ (v : Option ℕ). not mark || ran_job v) (sym h.last)

      count : counts_on q.state.ticks.0 ≡ counts_on r.state.ticks.0
      count = ap (λ (n : Ticks). counts_on n.0) (sym h.ticks)

  event_same : (e : Event) → Alike (event_of r e) (event_of q e)
  event_same (Release k) = release_same k
  event_same (Tick mark) = tick_same mark

-- Any events.
events_same : (r q : Run) (es : List Event) → RunShaped r → RunShaped q → SameInUse r q →
    (answers r es ≡ answers q es) × SameInUse (after r es) (after q es)
unfolding answers_in after_in
events_same r q [] z z' h = (refl, h)
events_same r q (e ∷ es) z z' h =
    let a = event_same r q z z' h e in
    let b =
    events_same (event_of r e).run (event_of q e).run es (event_run_shaped r e z) (event_run_shaped q e z') a.1 in
    (ap₂ ◌∷◌ a.0 b.0, b.1)

pub in_use : InUse
in_use r q es z z' h = events_same r q es (held_shaped r z) (held_shaped q z') h
