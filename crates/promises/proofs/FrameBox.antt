-- Request No. 6, proved: each statement of specs/FrameBox.antt from its facts. Assumes nothing.
use Rattle.std.proofs.Common.{None, Option, Some, Ok}
use mathlib.Core.Path.{◌≡◌, refl, sym, ap, subst, ◌∙◌}
use mathlib.Core.Bool.{Bool, true, false, ◌&&◌}
use mathlib.Core.List.{List}
use mathlib.Core.Logic.{◌⊎◌, inl, inr, ◌↔◌}
use Prim.Native.Nat.{ℕ, ◌+◌, ◌≤◌, ◌<◌}
use native.Mathlib.Omega.{arith}
use lib.Dec.{eqb}
use lib.ListN.{length}
use borrow.Author.Tests.{ltb-true, lt-ltb, eqb-true, eq-eqb}
use Rattle.std.specs.Cmp.{first_so, second_so}
use Rattle.std.proofs.lemmas.Bool.{and_from}
use Rattle.laws.proofs.Choice.{if_ind, clash, within_high}
use Rattle.laws.proofs.Highest.{highest_exactly, none_exactly}
use Rattle.text.specs.Read.{reading_number}
use Rattle.text.proofs.Refused.{reading_0}
use Rattle.text.proofs.TableText.{handed_back}
use Rattle.slots.specs.Frame.{owner_at}
use Rattle.slots.proofs.Frame.{frame_length, frame_is_the_rule, two_of_24, least_24, shares}
use Rattle.events.specs.declared.Answer.TheVariants.{Ticked}
use Rattle.events.specs.declared.Left.TheVariants.{Done, Cut}
use Rattle.events.specs.declared.TickAnswer.{TickAnswer}
use Rattle.events.specs.declared.Turn.TheVariants.{Run as Ran, Empty}
use Rattle.events.specs.Answers.{no_of, starting_number}
use Rattle.events.specs.Boxes.{after_in}
use Rattle.queues.specs.Queues.{waits_in, turn_of}
use Rattle.frametable.specs.declared.FrameTable.{FrameTable}
use Rattle.frametable.specs.Inner.{FrameSized}
use Rattle.frametable.specs.Rows.{partition_at, frame_priority_at, frame_limit_at}
use Rattle.frametable.specs.Rules.{frame_table_keeps}
use Rattle.frametable.specs.Text.{frame_read, frame_shown}
use Rattle.frametable.proofs.Rows.{frame_table_sized}
use Rattle.frametable.proofs.Rules.{frame_table_rules, frame_tests, frame_rows_table}
use Rattle.frametable.proofs.Text.{frame_rows_keep as rows_keep, frame_refused_no_table}
use Rattle.frametable.proofs.TextExactly.{frame_read_exactly}
use Rattle.framerun.specs.declared.FrameState.{FrameState}
use Rattle.framerun.specs.declared.FrameRun.{FrameRun}
use Rattle.events.specs.declared.Answered.{Answered}
use Rattle.framerun.specs.State.{queues_of, waiting_at, runs_at}
use Rattle.framerun.specs.Tick.{Settled, settle, highest_task, turn_at, tick_taken}
use Rattle.framerun.proofs.Taken.{tick_ind}
use Rattle.framerun.proofs.Sound.{sound_table}
use Rattle.framerun.specs.Sound.{frame_sound}
use Rattle.framerun.specs.Release.{start_of}
use Rattle.framerun.specs.Events.{frame_box}
use Rattle.framerun.proofs.Kept.{reached_sound}
use Rattle.framerun.proofs.Slots.{given_slots}
use Rattle.framerun.proofs.Count.{jobs_balance, jobs_balance_of}
use Rattle.framerun.proofs.Refused.{refused_as_it_was, release_13, release_6, release_8, release_10, release_taken_lem, tick_13}
use Rattle.framerun.proofs.Refused.{tick_9, tick_10, tick_taken_lem, TickCase, tick_number_lem, start_13, start_run}
use Rattle.promises.specs.FrameBox.{FrameIsTheRule, TwoOf24, Least24, Shares, GivenAsTheFrame, AlarmsGiven, SaysSo}
use Rattle.promises.specs.FrameBox.{FrameReadExactly, EachTick, EachLeaving, FrameJobs, FrameRefusals, FrameAsItWas, FrameFromTheText, FrameHandedBack}

pub frame_rule : FrameIsTheRule
frame_rule = (frame_length, frame_is_the_rule)

pub two_held : TwoOf24
two_held = two_of_24

pub least_held : Least24
least_held = least_24

pub shares_held : Shares
shares_held = shares

pub given_as_the_frame : GivenAsTheFrame
given_as_the_frame = given_slots

pub alarms_given : AlarmsGiven
alarms_given r es i h = rw (given_slots r es _ i _ h) (two_of_24 (r.state.ticks.0 + i))

pub frame_jobs : FrameJobs
frame_jobs t es z e = (jobs_balance t es z e, jobs_balance_of t es z e)

pub frame_as_it_was : FrameAsItWas
frame_as_it_was = refused_as_it_was

-- What a turn says is what was found.
turn_run : (p : ℕ) (f : Option ℕ) (k : ℕ) → (turn_of p f ≡ Ran p k) ↔ (f ≡ Some k)
turn_run p (Some j) k = (λ e. let q : j ≡ k = cc in ap Some q, λ e. let q : j ≡ k = cc in ap (Ran p) q)
turn_run p None k = (
  λ e. let z : ◌≡◌ {A = ℕ} 0 1 = cc in absurd (omega arith),
  λ e. let z : ◌≡◌ {A = ℕ} 0 1 = cc in absurd (omega arith),
)

turn_empty : (p : ℕ) (f : Option ℕ) → (turn_of p f ≡ Empty p) ↔ (f ≡ None)
turn_empty p (Some j) = (
  λ e. let z : ◌≡◌ {A = ℕ} 0 1 = cc in absurd (omega arith),
  λ e. let z : ◌≡◌ {A = ℕ} 0 1 = cc in absurd (omega arith),
)
turn_empty p None = (λ e. refl, λ e. refl)

turn_either : (p : ℕ) (f : Option ℕ) → (turn_of p f ≡ Empty p) ⊎ ((k : ℕ) × (turn_of p f ≡ Ran p k))
turn_either p (Some j) = inr (j, refl)
turn_either p None = inl refl

-- Of partition p, the highest task with a waiting job, said of what waits.
module _ (t : FrameTable) (s : FrameState) (p : ℕ)
    (apart : (i j : ℕ) → i < t.ntasks → j < t.ntasks → (i ≡ j → ⊥) → frame_priority_at t i ≡ frame_priority_at t j → ⊥) where
  abbrev Is : ℕ → Type 0
  Is j = (j < t.ntasks) × (0 < waiting_at s j) × (partition_at t j ≡ p)

  marked : ℕ → Bool
  marked j = waits_in (queues_of s) j && eqb (partition_at t j) p

  is : (j : ℕ) → Is j ↔ ((j < t.ntasks) × (marked j ≡ true))
  unfolding marked
  is j =
      let w : Bool = waits_in (queues_of s) j in
      let o : Bool = eqb (partition_at t j) p in (
        λ q. (q.0, and_from w o (lt-ltb 0 (waiting_at s j) q.1) (eq-eqb (partition_at t j) p q.2)),
        λ q. (
          q.0,
          ltb-true 0 (waiting_at s j) (first_so w o q.1),
          eqb-true (partition_at t j) p (second_so w o q.1),
        ),
      )

  found_exactly : (k : ℕ) →
      (highest_task t s p ≡ Some k) ↔ (Is k × ((j : ℕ) → Is j → frame_priority_at t j ≤ frame_priority_at t k))
  unfolding highest_task marked
  found_exactly k = highest_exactly t.ntasks marked (frame_priority_at t) apart Is is k

  nothing_exactly : (highest_task t s p ≡ None) ↔ ((j : ℕ) → Is j → ⊥)
  unfolding highest_task marked
  nothing_exactly = none_exactly t.ntasks marked (frame_priority_at t) apart Is is

taken_says : (r : FrameRun) (mark : Bool) →
    ((i j : ℕ) → i < r.table.ntasks → j < r.table.ntasks → (i ≡ j → ⊥) →
    frame_priority_at r.table i ≡ frame_priority_at r.table j → ⊥) →
    SaysSo r.table (settle r.table r.state mark r.state.last).state
    (tick_taken r.table r.state mark).answer
unfolding tick_taken turn_at
taken_says r mark apart =
    let t = r.table in
    let z = (settle t r.state mark r.state.last).state in
    let p = owner_at z.ticks.0 in
    let f = highest_task t z p in
    record {
      tick = refl;
      mode = refl;
      discarded = refl;
      runs =
          λ k. (
            λ e.
                let q = (found_exactly t z p apart k).0 ((turn_run p f k).0 e) in
                (q.0.0, q.0.1, q.0.2, λ j l w o. q.1 j (l, w, o)),
            λ q.
                (turn_run p f k).1
                ((found_exactly t z p apart k).1 ((q.0, q.1, q.2), λ j i. q.3 j i.0 i.1 i.2)),
          );
      empty = (
        λ e j l o w. (nothing_exactly t z p apart).0 ((turn_empty p f).0 e) j (l, w, o),
        λ n. (turn_empty p f).1 ((nothing_exactly t z p apart).1 (λ j i. n j i.0 i.2 i.1)),
      );
      either = turn_either p f;
    }

pub each_tick : EachTick
each_tick r mark a sized =
    tick_ind
    (λ (x : Answered FrameRun).
    x.answer ≡ Ticked a → SaysSo r.table (settle r.table r.state mark r.state.last).state a)
    r
    mark
    (λ why e. let z : ◌≡◌ {A = ℕ} 0 1 = cc in absurd (omega arith))
    (λ y e.
    let d : (tick_taken r.table r.state mark).answer ≡ a = cc in
    subst (SaysSo r.table (settle r.table r.state mark r.state.last).state) d
    (taken_says r mark (frame_table_rules r.table sized (sound_table r y.sound)).tasks_differ))

-- Who leaves, by the mark and the last-run job.
module _ (t : FrameTable) (s : FrameState) (k : ℕ) where
  abbrev Leaves : Bool → Option ℕ → Settled → Type 0
  Leaves mark l z =
      ((z.left ≡ Done k) ↔ ((mark ≡ true) × (l ≡ Some k))) ×
      ((z.left ≡ Cut k) ↔ ((mark ≡ false) × (l ≡ Some k) × (runs_at s k ≡ frame_limit_at t k)))

  settle_leaves : (mark : Bool) (l : Option ℕ) → Leaves mark l (settle t s mark l)
  unfolding settle
  settle_leaves mark None = (
    (
      λ e. let z : ◌≡◌ {A = ℕ} 0 1 = cc in absurd (omega arith),
      λ q. let e = q.1 in let z : ◌≡◌ {A = ℕ} 0 1 = cc in absurd (omega arith),
    ),
    (
      λ e. let z : ◌≡◌ {A = ℕ} 0 1 = cc in absurd (omega arith),
      λ q. let e = q.1 in let z : ◌≡◌ {A = ℕ} 0 1 = cc in absurd (omega arith),
    ),
  )
  settle_leaves true (Some j) = (
    (λ e. let q : j ≡ k = cc in (refl, ap Some q), λ q. let e = q.1 in let d : j ≡ k = cc in ap Done d),
    (
      λ e. let z : ◌≡◌ {A = ℕ} 0 1 = cc in absurd (omega arith),
      λ q. absurd (clash true refl q.0),
    ),
  )
  settle_leaves false (Some j) =
      if_ind (Leaves false (Some j)) (eqb (runs_at s j) (frame_limit_at t j))
      (λ b. (
        (
          λ e. let z : ◌≡◌ {A = ℕ} 0 1 = cc in absurd (omega arith),
          λ q. absurd (clash false q.0 refl),
        ),
        (
          λ e.
              let d : j ≡ k = cc in
              (refl, ap Some d, subst (λ i. runs_at s i ≡ frame_limit_at t i) d (eqb-true (runs_at s j) (frame_limit_at t j) b)),
          λ q. let e = q.1 in let d : j ≡ k = cc in ap Cut d,
        ),
      ))
      (λ b. (
        (
          λ e. let z : ◌≡◌ {A = ℕ} 0 1 = cc in absurd (omega arith),
          λ q. absurd (clash false q.0 refl),
        ),
        (
          λ e. let z : ◌≡◌ {A = ℕ} 0 1 = cc in absurd (omega arith),
          λ q.
              let e = q.1 in
              let d : j ≡ k = cc in
              absurd
              (clash (eqb (runs_at s j) (frame_limit_at t j))
              (eq-eqb (runs_at s j) (frame_limit_at t j) (subst (λ i. runs_at s i ≡ frame_limit_at t i) (sym d) q.2)) b),
        ),
      ))

pub each_leaving : EachLeaving
unfolding tick_taken
each_leaving r mark a e k =
    tick_ind
    (λ (x : Answered FrameRun).
    x.answer ≡ Ticked a →
    ((a.left ≡ Done k) ↔ ((mark ≡ true) × (r.state.last ≡ Some k))) ×
    ((a.left ≡ Cut k) ↔
    ((mark ≡ false) × (r.state.last ≡ Some k) × (runs_at r.state k ≡ frame_limit_at r.table k))))
    r
    mark
    (λ why q. let z : ◌≡◌ {A = ℕ} 0 1 = cc in absurd (omega arith))
    (λ y q.
    let d : (tick_taken r.table r.state mark).answer ≡ a = cc in
    subst
    (λ (b : TickAnswer).
    ((b.left ≡ Done k) ↔ ((mark ≡ true) × (r.state.last ≡ Some k))) ×
    ((b.left ≡ Cut k) ↔
    ((mark ≡ false) × (r.state.last ≡ Some k) × (runs_at r.state k ≡ frame_limit_at r.table k))))
    d
    (settle_leaves r.table r.state k mark r.state.last))
    e

pub frame_refusals : FrameRefusals
frame_refusals = (
  start_13,
  λ r k.
      record {
        no_13 = release_13 r k;
        no_6 = release_6 r k;
        no_8 = release_8 r k;
        no_10 = release_10 r k;
        taken = release_taken_lem r k;
      },
  λ r mark.
      record {
        no_13 = tick_13 r mark;
        no_9 = tick_9 r mark;
        no_10 = tick_10 r mark;
        taken = (λ e. subst (TickCase r mark) e (tick_number_lem r mark), λ p. ap no_of ((tick_taken_lem r mark).1 p));
      },
)

pub frame_read_so : FrameReadExactly
frame_read_so = frame_read_exactly

-- From the text.
read_taken : (text : List ℕ) → reading_number (frame_shown (frame_read text)).answer ≡ 0 →
    (frame_read text).answer ≡ Ok tt
unfolding frame_shown
read_taken text e = reading_0 (frame_read text).answer e

read_keeps : (text : List ℕ) → reading_number (frame_shown (frame_read text)).answer ≡ 0 →
    FrameSized (frame_shown (frame_read text)).table × (frame_table_keeps (frame_shown (frame_read text)).table ≡ true)
unfolding frame_shown
read_keeps text e =
    let k = rows_keep text (read_taken text e) in
    let a = (frame_read text).rows in
    (frame_table_sized a (within_high 1 64 (length a.tasks) (frame_tests a k).count), frame_rows_table a k)

shown_answer : (text : List ℕ) → (frame_shown (frame_read text)).answer ≡ (frame_read text).answer
unfolding frame_shown
shown_answer text = refl

started : (t : FrameTable) → frame_table_keeps t ≡ true → starting_number (start_of t).answer ≡ 0
unfolding start_of
started t e = rw e

pub frame_handed_back : FrameHandedBack
frame_handed_back text = handed_back (frame_shown (frame_read text))

pub frame_from_the_text : FrameFromTheText
frame_from_the_text text = (
  λ e.
      let t = (frame_shown (frame_read text)).table in
      let k = read_keeps text e in (
        k.1,
        started t k.1,
        λ es.
            subst (λ (r : FrameRun). frame_sound (after_in frame_box r es) ≡ true) (sym (start_run t))
            (reached_sound t es k.0 k.1).1,
      ),
  λ n. frame_refused_no_table text (λ e. n (shown_number text e)),
)
  where
    shown_number : (text : List ℕ) → (frame_read text).answer ≡ Ok tt →
        reading_number (frame_shown (frame_read text)).answer ≡ 0
    shown_number text e = ap reading_number (shown_answer text ∙ e)
