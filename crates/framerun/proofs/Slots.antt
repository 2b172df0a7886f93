-- The taken ticks of a frame box are given slot after slot, as the frame has them, whatever was sent:
-- so as many of them as the frame has in as many slots in a row. Assumes nothing.
use Rattle.std.proofs.Common.{None, Option, Some}
use mathlib.Core.Path.{◌≡◌, refl, sym, ap, subst, ◌∙◌}
use mathlib.Core.Bool.{Bool}
use mathlib.Core.List.{List, [], ◌∷◌}
use Prim.Native.Nat.{ℕ, zero, suc, ◌+◌, ◌≤◌}
use native.Mathlib.Omega.{arith}
use native.Mathlib.Nat.{add-zero}
use lib.Dec.{eqb}
use lib.ListN.{length, take, drop, length-drop}
use lib.Seq.{length-take-le}
use Rattle.laws.specs.Choice.{one_if}
use Rattle.laws.specs.Rows.{sum_below}
use Rattle.laws.proofs.Rows.{sum_cong}
use Rattle.slots.specs.Frame.{owner_at, held_by}
use Rattle.units.specs.declared.Ticks.{Ticks}
use Rattle.events.specs.declared.Answer.{Answer}
use Rattle.events.specs.declared.TickAnswer.{TickAnswer}
use Rattle.events.specs.declared.Event.{Event}
use Rattle.events.specs.declared.Event.TheVariants.{Release, Tick}
use Rattle.events.specs.Answers.{charged}
use Rattle.events.specs.Count.{ticks_in, given_to}
use Rattle.events.specs.Boxes.{answers_in}
use Rattle.queues.specs.Queues.{turn_of}
use Rattle.frametable.specs.declared.FrameTable.{FrameTable}
use Rattle.framerun.specs.declared.FrameState.{FrameState}
use Rattle.framerun.specs.declared.FrameRun.{FrameRun}
use Rattle.events.specs.declared.Answered.{Answered}
use Rattle.framerun.specs.Tick.{settle, highest_task, turn_at, tick_taken}
use Rattle.framerun.specs.Events.{event_of, frame_box}
use Rattle.framerun.proofs.Taken.{release_ind, tick_ind}
use Rattle.framerun.proofs.Tick.{settle_alike, ticks_after}

-- some answers are to ticks s, s + 1, .., each given to the partition of its slot
abbrev pub Slotted : ℕ → List TickAnswer → Type 0
Slotted s [] = Unit {0}
Slotted s (a ∷ rest) =
    (a.tick.0 ≡ s) × ((p : ℕ) → charged a.turn p ≡ one_if (eqb (owner_at s) p)) × Slotted (s + 1) rest

-- one tick
turn_owner : (t : FrameTable) (s : FrameState) (p : ℕ) → charged (turn_at t s) p ≡ one_if (eqb (owner_at s.ticks.0) p)
unfolding turn_at
turn_owner t s p = go (highest_task t s (owner_at s.ticks.0))
  where
    go : (a : Option ℕ) → charged (turn_of (owner_at s.ticks.0) a) p ≡ one_if (eqb (owner_at s.ticks.0) p)
    go (Some k) = refl
    go None = refl

tick_owner : (t : FrameTable) (s : FrameState) (mark : Bool) →
    ((tick_taken t s mark).answer.tick.0 ≡ s.ticks.0) ×
    ((p : ℕ) → charged (tick_taken t s mark).answer.turn p ≡ one_if (eqb (owner_at s.ticks.0) p))
unfolding tick_taken
tick_owner t s mark =
    let z = (settle t s mark s.last).state in
    let e : z.ticks ≡ s.ticks = (settle_alike t s mark s.last).ticks in (
      ap (λ (n : Ticks). n.0) e,
      λ p. turn_owner t z p ∙ ap (λ (n : Ticks). one_if (eqb (owner_at n.0) p)) e,
    )

-- any events
answer_slotted : (r : FrameRun) (e : Event) (rest : List Answer) →
    Slotted (event_of r e).run.state.ticks.0 (ticks_in rest) →
    Slotted r.state.ticks.0 (ticks_in ((event_of r e).answer ∷ rest))
unfolding ticks_in
answer_slotted r (Release k) rest =
    release_ind
    (λ (a : Answered FrameRun).
    Slotted a.run.state.ticks.0 (ticks_in rest) → Slotted r.state.ticks.0 (ticks_in (a.answer ∷ rest)))
    r
    k
    (λ why h. h)
    (λ y h. h)
answer_slotted r (Tick mark) rest =
    tick_ind
    (λ (a : Answered FrameRun).
    Slotted a.run.state.ticks.0 (ticks_in rest) → Slotted r.state.ticks.0 (ticks_in (a.answer ∷ rest)))
    r
    mark
    (λ why h. h)
    (λ y h.
    let o = tick_owner r.table r.state mark in
    (o.0, o.1, subst (λ n. Slotted n (ticks_in rest)) (ticks_after r.table r.state mark) h))

pub slotted : (r : FrameRun) (es : List Event) → Slotted r.state.ticks.0 (ticks_in (answers_in frame_box r es))
unfolding answers_in ticks_in
slotted r [] = tt
slotted r (e ∷ es) =
    answer_slotted r e (answers_in frame_box (event_of r e).run es) (slotted (event_of r e).run es)

-- some of them in a row
slotted_drop : (i s : ℕ) (ts : List TickAnswer) → Slotted s ts → Slotted (s + i) (drop i ts)
slotted_drop zero s ts h = subst (λ n. Slotted n ts) (sym (add-zero s)) h
slotted_drop (suc i) s [] h = tt
slotted_drop (suc i) s (a ∷ ts) h =
    let e : s + 1 + i ≡ s + suc i = omega arith in
    subst (λ n. Slotted n (drop i ts)) e (slotted_drop i (s + 1) ts h.2)

slotted_take : (w s : ℕ) (ts : List TickAnswer) → Slotted s ts → Slotted s (take w ts)
slotted_take zero s ts h = tt
slotted_take (suc w) s [] h = tt
slotted_take (suc w) s (a ∷ ts) h = (h.0, h.1, slotted_take w (s + 1) ts h.2)

-- counted from the front
sum_front : (f : ℕ → ℕ) (n : ℕ) → sum_below (suc n) f ≡ f 0 + sum_below n (λ j. f (suc j))
unfolding sum_below
sum_front f zero = omega arith
sum_front f (suc n) = omega (arith, sum_front f n)

held_front : (p s w : ℕ) → held_by p s (suc w) ≡ one_if (eqb (owner_at s) p) + held_by p (s + 1) w
unfolding held_by
held_front p s w =
    sum_front (λ j. one_if (eqb (owner_at (s + j)) p)) w
    ∙ rw (add-zero s) (ap (λ x. one_if (eqb (owner_at s) p) + x) (later w))
  where
    later : (w : ℕ) →
        sum_below w (λ j. one_if (eqb (owner_at (s + suc j)) p)) ≡ sum_below w (λ j. one_if (eqb (owner_at (s + 1 + j)) p))
    later w =
        sum_cong (λ j. one_if (eqb (owner_at (s + suc j)) p)) (λ j. one_if (eqb (owner_at (s + 1 + j)) p)) w
        (λ j l. ap (λ n. one_if (eqb (owner_at n) p)) (omega arith))

given_held : (p s : ℕ) (ts : List TickAnswer) → Slotted s ts → given_to p ts ≡ held_by p s (length ts)
unfolding given_to held_by sum_below
given_held p s [] h = refl
given_held p s (a ∷ ts) h = omega (arith, h.1 p, given_held p (s + 1) ts h.2, held_front p s (length ts))

-- So of any w taken ticks in a row a partition is given what the frame has in w slots.
pub given_slots : (r : FrameRun) (es : List Event) (p i w : ℕ) →
    i + w ≤ length (ticks_in (answers_in frame_box r es)) →
    given_to p (take w (drop i (ticks_in (answers_in frame_box r es)))) ≡ held_by p (r.state.ticks.0 + i) w
given_slots r es p i w h =
    let ts = ticks_in (answers_in frame_box r es) in
    let s = r.state.ticks.0 in
    let n : length (take w (drop i ts)) ≡ w = length-take-le w (drop i ts) (omega (arith, length-drop i ts)) in
    given_held p (s + i) (take w (drop i ts)) (slotted_take w (s + i) (drop i ts) (slotted_drop i s ts (slotted r es)))
    ∙ ap (held_by p (s + i)) n
