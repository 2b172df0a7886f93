-- An event is taken, its tests all having held, or refused with the run as it was: what is shown of
-- both is shown of the event. Assumes nothing.
use mathlib.Core.Path.{◌≡◌}
use mathlib.Core.Bool.{Bool, true, false, not, ◌||◌}
use Prim.Native.Nat.{ℕ}
use lib.Dec.{ltb}
use Rattle.laws.proofs.Choice.{if_ind}
use Rattle.table.specs.declared.Refusal.{Refusal}
use Rattle.table.specs.declared.Refusal.TheVariants.{NoTask, QueueFull, NoJobRan, CountSpent, Unsound}
use Rattle.events.specs.declared.Answer.TheVariants.{Released}
use Rattle.queues.specs.Queues.{ran_job}
use Rattle.framerun.specs.declared.FrameRun.{FrameRun}
use Rattle.events.specs.declared.Answered.{Answered}
use Rattle.framerun.specs.State.{waiting_at}
use Rattle.framerun.specs.Sound.{frame_sound}
use Rattle.framerun.specs.Release.{refused, with_job, release_of}
use Rattle.framerun.specs.Tick.{tick_taken, ticked, tick_of}

-- the tests of a release and of a tick, in their order
module _ (r : FrameRun) (k : ℕ) where
  abbrev pub is_task : Bool
  is_task = ltb k r.table.ntasks

  abbrev pub has_room : Bool
  has_room = ltb (waiting_at r.state k) 16

abbrev pub counts_on : ℕ → Bool
counts_on n = ltb n 4000000000

abbrev pub mark_taken : FrameRun → Bool → Bool
mark_taken r mark = not mark || ran_job r.state.last

-- what has held where a release is taken
pub record ReleaseTaken (r : FrameRun) (k : ℕ) : Type 0 where
  pub sound : frame_sound r ≡ true
  pub task : is_task r k ≡ true
  pub queue : has_room r k ≡ true
  pub count : counts_on r.state.accepted ≡ true

-- what has held where a tick is taken
pub record TickTaken (r : FrameRun) (mark : Bool) : Type 0 where
  pub sound : frame_sound r ≡ true
  pub job : mark_taken r mark ≡ true
  pub count : counts_on r.state.ticks.0 ≡ true

-- a release and a tick that are taken
abbrev pub release_taken : FrameRun → ℕ → Answered FrameRun
release_taken r k = record { answer = Released k; run = record { table = r.table; state = with_job r.state k } }

abbrev pub ticked_taken : FrameRun → Bool → Answered FrameRun
ticked_taken r mark = ticked r (tick_taken r.table r.state mark)

-- by the first test that fails
pub release_cases : (P : Answered FrameRun → Type 0) (r : FrameRun) (k : ℕ) →
    (frame_sound r ≡ false → P (refused r Unsound)) →
    (frame_sound r ≡ true → is_task r k ≡ false → P (refused r NoTask)) →
    (frame_sound r ≡ true → is_task r k ≡ true → has_room r k ≡ false → P (refused r QueueFull)) →
    (frame_sound r ≡ true → is_task r k ≡ true → has_room r k ≡ true → counts_on r.state.accepted ≡ false →
    P (refused r CountSpent)) →
    (ReleaseTaken r k → P (release_taken r k)) → P (release_of r k)
unfolding release_of
release_cases P r k c13 c6 c8 c10 y =
    if_ind P (frame_sound r)
    (λ e1.
    if_ind P (is_task r k)
    (λ e2.
    if_ind P (has_room r k)
    (λ e3.
    if_ind P (counts_on r.state.accepted)
    (λ e4. y (record { sound = e1; task = e2; queue = e3; count = e4 }))
    (c10 e1 e2 e3))
    (c8 e1 e2))
    (c6 e1))
    c13

pub tick_cases : (P : Answered FrameRun → Type 0) (r : FrameRun) (mark : Bool) →
    (frame_sound r ≡ false → P (refused r Unsound)) →
    (frame_sound r ≡ true → mark_taken r mark ≡ false → P (refused r NoJobRan)) →
    (frame_sound r ≡ true → mark_taken r mark ≡ true → counts_on r.state.ticks.0 ≡ false → P (refused r CountSpent)) →
    (TickTaken r mark → P (ticked_taken r mark)) → P (tick_of r mark)
unfolding tick_of
tick_cases P r mark c13 c9 c10 y =
    if_ind P (frame_sound r)
    (λ e1.
    if_ind P (mark_taken r mark)
    (λ e2.
    if_ind P (counts_on r.state.ticks.0) (λ e3. y (record { sound = e1; job = e2; count = e3 })) (c10 e1 e2))
    (c9 e1))
    c13

-- taken or refused
pub release_ind : (P : Answered FrameRun → Type 0) (r : FrameRun) (k : ℕ) → ((why : Refusal) → P (refused r why)) →
    (ReleaseTaken r k → P (release_taken r k)) → P (release_of r k)
release_ind P r k n y =
    release_cases P r k (λ a. n Unsound) (λ a b. n NoTask) (λ a b c. n QueueFull) (λ a b c d. n CountSpent) y

pub tick_ind : (P : Answered FrameRun → Type 0) (r : FrameRun) (mark : Bool) → ((why : Refusal) → P (refused r why)) →
    (TickTaken r mark → P (ticked_taken r mark)) → P (tick_of r mark)
tick_ind P r mark n y = tick_cases P r mark (λ a. n Unsound) (λ a b. n NoJobRan) (λ a b c. n CountSpent) y
