-- The steps of a frame box on the parts of its run, case by case as the code asks. Assumes nothing.
use Rattle.std.proofs.Common.{Err, None, Ok, Option, Some}
use mathlib.Core.Path.{◌≡◌, refl, sym, ap, subst, ◌∙◌}
use mathlib.Core.Bool.{Bool, true, false, not, ◌&&◌, ◌||◌}
use mathlib.Core.List.{List, [], ◌∷◌}
use mathlib.Core.Logic.{◌⊎◌, inl, inr}
use Prim.Native.Nat.{ℕ, zero, suc, ◌+◌, ◌*◌, ◌/◌, ◌≤◌, ◌<◌}
use native.Mathlib.Omega.{arith}
use native.Mathlib.Nat.{add-zero}
use lib.Dec.{ltb, eqb, lit<}
use lib.ListN.{length, get_or, take, drop, length-take}
use lib.Seq.{get_or-take}
use Rattle.std.specs.Simd.{first_chunks}
use Rattle.std.proofs.lemmas.List.{get_or-drop, drop-drop}
use borrow.Author.Tests.{ltb-true, ltb-false, lt-ltb, le-ltb, le-leb, lt-leb, eq-eqb, ne_eqb}
use Rattle.laws.specs.Choice.{every, within}
use Rattle.laws.specs.Rows.{anew}
use Rattle.std.specs.Cmp.{first_so, second_so}
use Rattle.std.proofs.lemmas.Bool.{cases_Bool}
use Rattle.laws.proofs.Choice.{within_high}
use Rattle.laws.proofs.Highest.{Top, top_skip, top_take, top_keep}
use Rattle.table.specs.declared.Refusal.TheVariants.{NoTask, QueueFull, NoJobRan, CountSpent, Unsound, RoomShort}
use Rattle.table.specs.declared.Mode.TheVariants.{N}
use Rattle.slots.specs.Frame.{owner_at}
use Rattle.events.specs.declared.Answer.TheVariants.{Released, Ticked}
use Rattle.events.specs.declared.Left.{Left}
use Rattle.events.specs.declared.Left.TheVariants.{Nobody, Done, Cut}
use Rattle.events.specs.declared.Turn.{Turn}
use Rattle.events.specs.declared.Turn.TheVariants.{Run as Ran, Empty, Idle}
use Rattle.events.specs.declared.Event.{Event}
use Rattle.events.specs.declared.Event.TheVariants.{Release, Tick}
use Rattle.events.specs.Values.{line_said, lines_said}
use Rattle.events.specs.Boxes.{after_line_in}
use Rattle.events.proofs.Boxes.{Going, going_end as going-end-in, line_keeps as line-keeps-in}
use Rattle.events.proofs.Values.{lines_length, lines_left}
use Rattle.queues.specs.Queues.{turn_of, last_of, ran_job, is_last}
use Rattle.queues.specs.Sound.{last_sound, counts_sound, queue_sound}
use Rattle.queues.specs.Inner.{left_waiting, left_runs}
use Rattle.queues.proofs.Inner.{waiting_left, runs_left}
use Rattle.queues.proofs.Queues.{anew_one, unchanged}
use Rattle.queues.proofs.Sound.{LastSound}
use Rattle.frametable.specs.declared.FrameTable.{FrameTable}
use Rattle.frametable.specs.declared.FrameTask.{FrameTask}
use Rattle.frametable.specs.Rows.{no_frame_task, frame_task_at, frame_rows_of, partition_at, frame_priority_at, frame_limit_at}
use Rattle.frametable.specs.Rules.{frame_keeps, frame_table_keeps}
use Rattle.frametable.proofs.Rules.{FrameTableRules, frame_table_rules}
use Rattle.framerun.specs.declared.FrameState.{FrameState}
use Rattle.framerun.specs.declared.FrameRun.{FrameRun}
use Rattle.framerun.specs.State.{queues_of, waiting_at, runs_at}
use Rattle.framerun.specs.Sound.{sound_task, sound_state, frame_sound}
use Rattle.framerun.specs.Release.{refused, fresh_frame, with_job, start_of, release_of}
use Rattle.events.specs.Answers.{ran}
use Rattle.framerun.specs.Tick.{Settled, settle, highest_task, turn_at, advance, tick_taken, tick_of, ticked}
use Rattle.framerun.specs.Events.{event_of, frame_box}
use Rattle.framerun.specs.Many.{untaken, taken, frame_many_of}
use Rattle.framerun.proofs.Sound.{StateSound, sound_table, sound_state_lem}
use Rattle.framerun.proofs.Tick.{settled_row, found_front}
use Rattle.framerun.proofs.Kept.{FrameShaped, Good, event_keeps}
use Rattle.framescheduler.specs.Inner.{Head, tasks_sound, state_of, head_of, run_of, LastLow, Settles, Numbered, highest_in}
use Rattle.framescheduler.specs.Inner.{TurnLow, RunsOn, SoundRun}

-- a start
pub start_taken : (t : FrameTable) → frame_table_keeps t ≡ true → record { answer = Ok tt; run = fresh_frame t } ≡ start_of t
unfolding start_of
start_taken t e = rw e

pub start_unsound : (t : FrameTable) → frame_table_keeps t ≡ false →
    record { answer = Err Unsound; run = fresh_frame t } ≡ start_of t
unfolding start_of
start_unsound t e = rw e

-- a row in use, among the rows in use
row_asked : (t : FrameTable) (k : ℕ) → k < length (take t.ntasks t.tasks) →
    get_or (take t.ntasks t.tasks) k no_frame_task ≡ frame_task_at t k
row_asked t k h = get_or-take t.ntasks t.tasks k no_frame_task (omega (arith, length-take t.ntasks t.tasks))

-- soundness, as the door asks it
module _ (t : FrameTable) (s : FrameState) where
  pub table_breaks : frame_table_keeps t ≡ false → false ≡ frame_sound (record { table = t; state = s })
  unfolding frame_sound
  table_breaks e = rw e

  pub state_asked : frame_table_keeps t ≡ true →
      every
      (tasks_sound t s t.ntasks
      ∷ last_sound t.ntasks (queues_of s) s.ticks.0 s.last
      ∷ every (counts_sound t.ntasks (waiting_at s) s.ticks.0 s.accepted)
      ∷ [])
      ≡ frame_sound (record { table = t; state = s })
  unfolding frame_sound sound_state
  state_asked e = rw e

  -- a row in use, as a loop over the rows reads it
  pub task_asked : (k : ℕ) → k < length (take t.ntasks t.tasks) →
      every (sound_task t s k)
      ≡ every
      (queue_sound (get_or (take t.ntasks t.tasks) k no_frame_task).limit.0 (waiting_at s k) (runs_at s k) (is_last s.last k))
  unfolding sound_task
  task_asked k h =
      let e = row_asked t k h in
      ap (λ (x : FrameTask). every (queue_sound x.limit.0 (waiting_at s k) (runs_at s k) (is_last s.last k))) (sym e)

-- a table that keeps the rules has no more rows than its array holds
pub tasks_fit : (t : FrameTable) → frame_table_keeps t ≡ true → t.ntasks ≤ 64
unfolding frame_table_keeps
tasks_fit t e =
    within_high 1 64 t.ntasks (first_so (within 1 64 t.ntasks) (frame_keeps (frame_rows_of t)) e)

-- what soundness says of a run in parts
module _ (t : FrameTable) (h : Head) (w c : List ℕ) (r : SoundRun (run_of t h w c)) where
  pub run_rules : FrameTableRules t
  run_rules = frame_table_rules t (record { tasks = r.sized }) (sound_table (run_of t h w c) r.sound)

  pub run_state : StateSound t (state_of h w c)
  run_state = sound_state_lem (run_of t h w c) r.sound

  pub run_shaped : FrameShaped (run_of t h w c)
  run_shaped =
      record { table = record { tasks = r.sized }; state = record { waiting = r.waiting; runs = r.runs } }

  pub last_low : LastLow h.last
  last_low = go h.last run_state.last
    where
      go : (l : Option ℕ) → LastSound t.ntasks (queues_of (state_of h w c)) h.ticks.0 l → LastLow l
      go None q = tt
      go (Some k) q = omega (arith, q.below, run_rules.tasks_high)

  pub numbered : Numbered t
  numbered = record { few = run_rules.tasks_high; least = λ k l. (run_rules.task k l).priority_low }

-- The mark.
pub rules_of : (r : FrameRun) → SoundRun r → FrameTableRules r.table
rules_of r s = run_rules r.table (head_of r.state) r.state.waiting r.state.runs s

module _ (t : FrameTable) (h : Head) (w c : List ℕ) where
  pub settle_none : (mark : Bool) → h.last ≡ None → Settles t h mark w c w c Nobody
  unfolding settle
  settle_none mark e = rw e

  pub settle_done : (mark : Bool) (k : ℕ) (w' c' : List ℕ) → h.last ≡ Some k → k < 64 → mark ≡ true →
      w' ≡ left_waiting w k → c' ≡ left_runs c k → Settles t h mark w c w' c' (Done k)
  unfolding settle
  settle_done mark k w' c' e l m p q = rw (p ∙ waiting_left w k l, q ∙ runs_left c k l, e, m)

  pub settle_cut : (mark : Bool) (k : ℕ) (w' c' : List ℕ) → h.last ≡ Some k → k < 64 → mark ≡ false →
      get_or c k 0 ≡ frame_limit_at t k → w' ≡ left_waiting w k → c' ≡ left_runs c k → Settles t h mark w c w' c' (Cut k)
  unfolding settle
  settle_cut mark k w' c' e l m a p q =
      rw (p ∙ waiting_left w k l, q ∙ runs_left c k l, e, m, eq-eqb (get_or c k 0) (frame_limit_at t k) a)

  pub settle_stay : (mark : Bool) (k : ℕ) → h.last ≡ Some k → mark ≡ false → (get_or c k 0 ≡ frame_limit_at t k → ⊥) →
      Settles t h mark w c w c Nobody
  unfolding settle
  settle_stay mark k e m a = rw (e, m, ne_eqb (get_or c k 0) (frame_limit_at t k) a)

-- The walk for the highest task: a row that is higher is kept, any other passed.
abbrev pub waits_of : FrameTable → List ℕ → ℕ → ℕ → Bool
waits_of t w p k = ltb 0 (get_or w k 0) && eqb (partition_at t k) p

module _ (t : FrameTable) (w : List ℕ) (p n height row : ℕ) (l : n < t.ntasks) (r : Numbered t)
    (top : Top n (waits_of t w p) (frame_priority_at t) height row) where
  top_higher : (waits_of t w p n && ltb height (frame_priority_at t n)) ≡ true →
      Top (n + 1) (waits_of t w p) (frame_priority_at t) (frame_priority_at t n) n
  top_higher e =
      top_take (waits_of t w p) (frame_priority_at t) n height row top
      (first_so (waits_of t w p n) (ltb height (frame_priority_at t n)) e)
      (ltb-true height (frame_priority_at t n) (second_so (waits_of t w p n) (ltb height (frame_priority_at t n)) e))

  top_other : (waits_of t w p n && ltb height (frame_priority_at t n)) ≡ false →
      Top (n + 1) (waits_of t w p) (frame_priority_at t) height row
  top_other e = go (cases_Bool (waits_of t w p n))
    where
      go : (waits_of t w p n ≡ true) ⊎ (waits_of t w p n ≡ false) →
          Top (n + 1) (waits_of t w p) (frame_priority_at t) height row
      go (inl q) =
          top_keep (waits_of t w p) (frame_priority_at t) n height row top
          (ltb-false height (frame_priority_at t n) (rw q at e)) (r.least n l)
      go (inr q) = top_skip (waits_of t w p) (frame_priority_at t) n height row top q

-- the same of a row as a loop over the rows reads it
abbrev Walked : FrameTable → List ℕ → (p n height row : ℕ) → FrameTask → Type 0
Walked t w p n height row x =
    (((ltb 0 (get_or w n 0) && eqb x.partition p) && ltb height x.priority) ≡ true →
    Top (n + 1) (waits_of t w p) (frame_priority_at t) x.priority n) ×
    (((ltb 0 (get_or w n 0) && eqb x.partition p) && ltb height x.priority) ≡ false →
    Top (n + 1) (waits_of t w p) (frame_priority_at t) height row)

pub top-walk : (t : FrameTable) (w : List ℕ) (p n height row : ℕ) → n < length (take t.ntasks t.tasks) → Numbered t →
    Top n (waits_of t w p) (frame_priority_at t) height row →
    Walked t w p n height row (get_or (take t.ntasks t.tasks) n no_frame_task)
top-walk t w p n height row h r top =
    let l : n < t.ntasks = omega (arith, length-take t.ntasks t.tasks, h) in
    subst (Walked t w p n height row) (sym (row_asked t n h))
    (top_higher t w p n height row l r top, top_other t w p n height row l r top)

-- A release of a sound run, by the first test that fails.
module _ (r : FrameRun) (k : ℕ) (e : frame_sound r ≡ true) where
  pub release_absent : r.table.ntasks ≤ k → refused r NoTask ≡ release_of r k
  unfolding release_of
  release_absent h = rw (e, le-ltb k r.table.ntasks h)

  module _ (l : k < r.table.ntasks) where
    pub release_full : 16 ≤ waiting_at r.state k → refused r QueueFull ≡ release_of r k
    unfolding release_of
    release_full h = rw (e, lt-ltb k r.table.ntasks l, le-ltb (waiting_at r.state k) 16 h)

    pub release_spent : waiting_at r.state k < 16 → 4000000000 ≤ r.state.accepted →
        refused r CountSpent ≡ release_of r k
    unfolding release_of
    release_spent h g =
        rw (
          e,
          lt-ltb k r.table.ntasks l,
          lt-ltb (waiting_at r.state k) 16 h,
          le-ltb r.state.accepted 4000000000 g,
        )

    pub release_taken_lem : waiting_at r.state k < 16 → r.state.accepted < 4000000000 →
        record { answer = Released k; run = record { table = r.table; state = with_job r.state k } } ≡ release_of r k
    unfolding release_of
    release_taken_lem h g =
        rw (
          e,
          lt-ltb k r.table.ntasks l,
          lt-ltb (waiting_at r.state k) 16 h,
          lt-ltb r.state.accepted 4000000000 g,
        )

-- A tick of a sound run, likewise.
module _ (r : FrameRun) (mark : Bool) (e : frame_sound r ≡ true) where
  pub tick_no_job : (not mark || ran_job r.state.last) ≡ false → refused r NoJobRan ≡ tick_of r mark
  unfolding tick_of
  tick_no_job h = rw (e, h)

  pub tick_spent : (not mark || ran_job r.state.last) ≡ true → 4000000000 ≤ r.state.ticks.0 →
      refused r CountSpent ≡ tick_of r mark
  unfolding tick_of
  tick_spent h g = rw (e, h, le-ltb r.state.ticks.0 4000000000 g)

  pub tick_taken_lem : (not mark || ran_job r.state.last) ≡ true → r.state.ticks.0 < 4000000000 →
      ticked r (tick_taken r.table r.state mark) ≡ tick_of r mark
  unfolding tick_of
  tick_taken_lem h g = rw (e, h, lt-ltb r.state.ticks.0 4000000000 g)

-- The job that runs is of a row in use, and has run few ticks.
abbrev pub TurnIn : ℕ → Turn → Type 0
TurnIn n (Ran p k) = k < n
TurnIn n (Empty p) = Unit {0}
TurnIn n Idle = Unit {0}

pub runs_anew : (n : ℕ) (turn : Turn) (c c' : List ℕ) → TurnIn n turn → RunsOn turn c c' →
    anew n (λ k x. x + ran turn k) c ≡ c'
runs_anew n (Ran p k) c c' b q = anew_one n k c b ∙ sym q
runs_anew n (Empty p) c c' b q = unchanged n c ∙ sym q
runs_anew n Idle c c' b q = unchanged n c ∙ sym q

-- A tick: the queues w and c were made w' and c' by the mark, and c' was made c'' by the turn.
module _ (t : FrameTable) (h : Head) (w c : List ℕ) (mark : Bool) (r : SoundRun (run_of t h w c)) (w' c' : List ℕ) (left : Left)
    (settles : Settles t h mark w c w' c' left) where
  -- what is found is what the definition finds
  found_is : turn_of (owner_at h.ticks.0) (highest_in t w' (owner_at h.ticks.0)) ≡ turn_at t (state_of h w' c')
  unfolding turn_at highest_task
  found_is = refl

  turn_front : (turn : Turn) → turn ≡ turn_at t (state_of h w' c') → TurnIn t.ntasks turn × TurnLow turn c'
  unfolding turn_at
  turn_front turn e = go (highest_task t z p) refl turn (e ∙ at)
    where
      p : ℕ
      p = owner_at h.ticks.0

      z : FrameState
      z = state_of h w' c'

      at : turn_at t z ≡ turn_of p (highest_task t z p)
      at = refl

      rules : FrameTableRules t
      rules = run_rules t h w c r

      row : (k : ℕ) → k < t.ntasks → 0 < get_or w' k 0 → get_or c' k 0 < frame_limit_at t k
      row k l g =
          subst
          (λ (x : FrameState). 0 < waiting_at x k → runs_at x k < frame_limit_at t k)
          (ap (λ (x : Settled). x.state) settles)
          (settled_row t (state_of h w c) rules (run_shaped t h w c r).state (run_state t h w c r) mark h.last refl
          (run_state t h w c r).last k l).front
          g

      go : (a : Option ℕ) → highest_task t z p ≡ a → (turn : Turn) → turn ≡ turn_of p a →
          TurnIn t.ntasks turn × TurnLow turn c'
      go (Some k) q turn d =
          let f = found_front t z k q in
          rw d (
            f.below,
            (
              omega (arith, f.below, rules.tasks_high),
              omega (arith, row k f.below f.waits, (rules.task k f.below).limit_high),
            ),
          )
      go None q turn d = rw d (tt, tt)

  pub turn_low : (turn : Turn) → turn ≡ turn_of (owner_at h.ticks.0) (highest_in t w' (owner_at h.ticks.0)) →
      TurnLow turn c'
  turn_low turn e = (turn_front turn (e ∙ found_is)).1

  pub tick_is : (turn : Turn) (c'' : List ℕ) →
      turn ≡ turn_of (owner_at h.ticks.0) (highest_in t w' (owner_at h.ticks.0)) → RunsOn turn c' c'' →
      record {
        answer =
            Ticked (record { tick = h.ticks; mode = N; turn = turn; left = left; discarded = 0 });
        run =
            run_of t (record { last = last_of turn; ticks = record { 0 = h.ticks.0 + 1 }; accepted = h.accepted }) w' c'';
      }
      ≡ ticked (run_of t h w c) (tick_taken t (state_of h w c) mark)
  unfolding tick_taken advance
  tick_is turn c'' e q =
      let d = e ∙ found_is in
      rw (settles, ← d, runs_anew t.ntasks turn c' c'' (turn_front turn d).0 q)

-- 13 and 12 of many lines, as the code asks them.
pub many_unsound : (r : FrameRun) (values room : List ℕ) → frame_sound r ≡ false →
    untaken Unsound r room ≡ frame_many_of r values room
unfolding frame_many_of
many_unsound r values room e = rw e

pub many_short : (r : FrameRun) (values room : List ℕ) → frame_sound r ≡ true → length room / 9 < length values / 2 →
    untaken RoomShort r room ≡ frame_many_of r values room
unfolding frame_many_of
many_short r values room e h =
    rw (e, lt-leb (9 * length (lines_said values)) (length room) (omega (arith, lines_length values)))

pub many_taken : (r : FrameRun) (values room : List ℕ) → frame_sound r ≡ true → length values / 2 ≤ length room / 9 →
    taken r (lines_said values) room ≡ frame_many_of r values room
unfolding frame_many_of
many_taken r values room e h =
    rw (e, le-leb (9 * length (lines_said values)) (length room) (omega (arith, lines_length values)))

-- the two numbers of a line, among all of them
pair_at : (n i : ℕ) (vs d : List ℕ) → i < n → get_or (first_chunks 2 n vs) i d ≡ take 2 (drop (2 * i) vs)
pair_at zero i vs d h = absurd (omega arith)
pair_at (suc n) zero vs d h = refl
pair_at (suc n) (suc i) vs d h =
    let e : 2 * suc i ≡ 2 + 2 * i = omega arith in
    pair_at n i (drop 2 vs) d (omega arith) ∙ ap (take 2) (drop-drop (2 * i) 2 vs) ∙ rw e

pub line_left : (vs : List ℕ) (ps : List (List ℕ)) (i : ℕ) (d : List ℕ) → ps ≡ first_chunks 2 (length vs / 2) vs →
    i < length (lines_said vs) →
    drop i (lines_said vs)
    ≡ line_said (get_or (get_or ps i d) 0 0) (get_or (get_or ps i d) 1 0) ∷ drop (i + 1) (lines_said vs)
line_left vs ps i d q h =
    let e : get_or ps i d ≡ take 2 (drop (2 * i) vs) =
    ap (λ xs. get_or xs i d) q ∙ pair_at (length vs / 2) i vs d (omega (arith, lines_length vs)) in
    let ys = drop (2 * i) vs in
    rw (e, get_or-take 2 ys 0 0 (lit< tt), get_or-take 2 ys 1 0 (lit< tt), get_or-drop (2 * i) vs 0 0, get_or-drop (2 * i) vs 1 0, add-zero)
    (lines_left vs i h)

-- All lines, as the code hands them back.
pub going_end : (r : FrameRun) (ls : List (Option Event)) (room : List ℕ) (z : FrameRun) (left : List ℕ) (i : ℕ) →
    i ≡ length ls → Going frame_box r ls room z left i →
    record { many = record { answer = Ok tt; run = z }; room = left } ≡ taken r ls room
going_end r ls room z left i e g =
    let h = going-end-in frame_box r ls room z left i e g in
    rw (h.0, ← h.1)

-- a line keeps the run sound, and its rows in their arrays
pub line_keeps : (r : FrameRun) (l : Option Event) (z : FrameRun) → SoundRun r → z ≡ after_line_in frame_box r l →
    SoundRun z
line_keeps r l z s e =
    let g = line-keeps-in frame_box Good event_keeps r l (run_shaped r.table (head_of r.state) r.state.waiting r.state.runs s, s.sound) in
    let g' : Good z = subst Good (sym e) g in
    record { sized = g'.0.table.tasks; sound = g'.1; waiting = g'.0.state.waiting; runs = g'.0.state.runs }

pub event_unsound : (r : FrameRun) (e : Event) → frame_sound r ≡ false → refused r Unsound ≡ event_of r e
unfolding release_of tick_of
event_unsound r (Release k) q = rw q
event_unsound r (Tick mark) q = rw q
