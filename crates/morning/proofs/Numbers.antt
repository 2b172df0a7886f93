-- The numbers of a night, as its taken ticks tell them: what is counted from the answers, and each
-- task's discards, is a count over the taken ticks, since every other answer counts 0. And the
-- events of some lines and then others. Assumes nothing.
use Rattle.std.proofs.Common.{None, Option, Some}
use mathlib.Core.Path.{◌≡◌, refl, ap, sym, ◌∙◌}
use mathlib.Core.List.{List, [], ◌∷◌, ◌++◌, append_assoc}
use Prim.Native.Nat.{ℕ, ◌+◌, ◌≤◌}
use native.Mathlib.Omega.{arith}
use lib.ListN.{length, length-append}
use Rattle.table.specs.declared.Table.{Table}
use Rattle.events.specs.Boxes.{after_in, after_lines_in, answers_in}
use Rattle.run.specs.declared.Run.{Run}
use Rattle.events.specs.declared.Left.{Left}
use Rattle.events.specs.declared.TickAnswer.{TickAnswer}
use Rattle.events.specs.declared.Event.{Event}
use Rattle.events.specs.declared.Event.TheVariants.{Release, Tick}
use Rattle.events.specs.declared.Answer.{Answer}
use Rattle.events.specs.declared.Answer.TheVariants.{Released, Ticked, No}
use Rattle.events.specs.declared.Answered.{Answered}
use Rattle.run.specs.Release.{fresh_run}
use Rattle.run.specs.Tick.{settle}
use Rattle.run.specs.Events.{event_of, after, answers}
use Rattle.events.specs.Count.{over_all, by_left, if_ticked}
use Rattle.run.specs.Count.{discarded_by, discarded_of}
use Rattle.run.specs.Many.{after_lines, ticks_among}
use Rattle.run.specs.Found.{TakenTick, taken_by, taken_ticks}
use Rattle.run.proofs.Taken.{release_ind, tick_ind}
use Rattle.run.proofs.Tick.{ticks_after}
use Rattle.run.proofs.Refused.{counts_within}
use Rattle.morning.specs.Numbers.{events_in, by_tick}
use Rattle.morning.specs.Inner.{over_ticks}

-- Some events and then others.
pub taken_append : (r : Run) (es fs : List Event) →
    taken_ticks r (es ++ fs) ≡ taken_ticks r es ++ taken_ticks (after r es) fs
unfolding taken_ticks after_in
taken_append r [] fs = refl
taken_append r (e ∷ es) fs =
    ap (λ (ms : List TakenTick). taken_by r e (event_of r e).answer ++ ms) (taken_append (event_of r e).run es fs)
    ∙ sym (append_assoc (taken_by r e (event_of r e).answer) (taken_ticks (event_of r e).run es) _)

pub after_append : (r : Run) (es fs : List Event) → after r (es ++ fs) ≡ after (after r es) fs
unfolding after_in
after_append r [] fs = refl
after_append r (e ∷ es) fs = after_append (event_of r e).run es fs

pub events_append : (ks ls : List (Option Event)) → events_in (ks ++ ls) ≡ events_in ks ++ events_in ls
unfolding events_in
events_append [] ls = refl
events_append (Some e ∷ ks) ls = ap (λ (es : List Event). e ∷ es) (events_append ks ls)
events_append (None ∷ ks) ls = events_append ks ls

pub after_lines_lem : (r : Run) (ls : List (Option Event)) → after_lines r ls ≡ after r (events_in ls)
unfolding after_lines_in after_in events_in
after_lines_lem r [] = refl
after_lines_lem r (Some e ∷ ls) = after_lines_lem (event_of r e).run ls
after_lines_lem r (None ∷ ls) = after_lines_lem r ls

pub ticks_among_lem : (r : Run) (ls : List (Option Event)) → ticks_among r ls ≡ taken_ticks r (events_in ls)
unfolding ticks_among taken_ticks events_in
ticks_among_lem r [] = refl
ticks_among_lem r (Some e ∷ ls) =
    ap (λ (ms : List TakenTick). taken_by r e (event_of r e).answer ++ ms) (ticks_among_lem (event_of r e).run ls)
ticks_among_lem r (None ∷ ls) = ticks_among_lem r ls

-- A count over the answers.
module _ (f : TickAnswer → ℕ) where
  over_now : (r : Run) (e : Event) (es : List Event) →
      over_all (by_tick f) (answers (event_of r e).run es) ≡
      over_ticks (λ m. f m.answer) (taken_ticks (event_of r e).run es) →
      by_tick f (event_of r e).answer + over_all (by_tick f) (answers (event_of r e).run es) ≡
      over_ticks (λ m. f m.answer) (taken_by r e (event_of r e).answer ++ taken_ticks (event_of r e).run es)
  unfolding over_ticks
  over_now r (Release k) es =
      release_ind
      (λ (a : Answered Run).
      over_all (by_tick f) (answers a.run es) ≡ over_ticks (λ m. f m.answer) (taken_ticks a.run es) →
      by_tick f a.answer + over_all (by_tick f) (answers a.run es) ≡
      over_ticks (λ m. f m.answer) (taken_ticks a.run es))
      r
      k
      (λ why h. omega arith)
      (λ y h. omega arith)
  over_now r (Tick mark) es =
      tick_ind
      (λ (a : Answered Run).
      over_all (by_tick f) (answers a.run es) ≡ over_ticks (λ m. f m.answer) (taken_ticks a.run es) →
      by_tick f a.answer + over_all (by_tick f) (answers a.run es) ≡
      over_ticks (λ m. f m.answer) (taken_by r (Tick mark) a.answer ++ taken_ticks a.run es))
      r
      mark
      (λ why h. omega arith)
      (λ y h. omega arith)

  pub over_answers : (r : Run) (es : List Event) →
      over_all (by_tick f) (answers r es) ≡ over_ticks (λ m. f m.answer) (taken_ticks r es)
  unfolding answers_in taken_ticks over_all over_ticks
  over_answers r [] = refl
  over_answers r (e ∷ es) = over_now r e es (over_answers (event_of r e).run es)

-- by the job that left
left_by_tick : (g : Left → ℕ) (a : Answer) → by_left g a ≡ by_tick (λ x. g x.left) a
left_by_tick g (Released k) = refl
left_by_tick g (Ticked x) = refl
left_by_tick g (No why) = refl

over_left : (g : Left → ℕ) (xs : List Answer) → over_all (by_left g) xs ≡ over_all (by_tick (λ x. g x.left)) xs
unfolding over_all
over_left g [] = refl
over_left g (a ∷ xs) = omega (arith, left_by_tick g a, over_left g xs)

pub over_lefts : (g : Left → ℕ) (r : Run) (es : List Event) →
    over_all (by_left g) (answers r es) ≡ over_ticks (λ m. g m.answer.left) (taken_ticks r es)
over_lefts g r es = over_left g (answers r es) ∙ over_answers (λ x. g x.left) r es

-- A task's discards.
discarded_now : (r : Run) (e : Event) (es : List Event) (k : ℕ) →
    discarded_of (event_of r e).run es k ≡ over_ticks (λ m. m.discarded k) (taken_ticks (event_of r e).run es) →
    discarded_by r e k + discarded_of (event_of r e).run es k ≡
    over_ticks (λ m. m.discarded k) (taken_by r e (event_of r e).answer ++ taken_ticks (event_of r e).run es)
unfolding over_ticks
discarded_now r (Release j) es k h = omega arith
discarded_now r (Tick mark) es k h =
    tick_ind
    (λ (a : Answered Run).
    discarded_of a.run es k ≡ over_ticks (λ m. m.discarded k) (taken_ticks a.run es) →
    if_ticked a.answer ((settle r.table r.state mark).discarded k) + discarded_of a.run es k ≡
    over_ticks (λ m. m.discarded k) (taken_by r (Tick mark) a.answer ++ taken_ticks a.run es))
    r
    mark
    (λ why h. omega arith)
    (λ y h. omega arith)
    h

pub discarded_taken : (r : Run) (es : List Event) (k : ℕ) →
    discarded_of r es k ≡ over_ticks (λ m. m.discarded k) (taken_ticks r es)
unfolding discarded_of taken_ticks over_ticks
discarded_taken r [] k = refl
discarded_taken r (e ∷ es) k = discarded_now r e es k (discarded_taken (event_of r e).run es k)

-- The count of taken ticks.
ticks_now : (r : Run) (e : Event) →
    (event_of r e).run.state.ticks.0 ≡ r.state.ticks.0 + length (taken_by r e (event_of r e).answer)
ticks_now r (Release k) =
    release_ind (λ (a : Answered Run). a.run.state.ticks.0 ≡ r.state.ticks.0 + 0) r k (λ why. omega arith)
    (λ y. omega arith)
ticks_now r (Tick mark) =
    tick_ind
    (λ (a : Answered Run). a.run.state.ticks.0 ≡ r.state.ticks.0 + length (taken_by r (Tick mark) a.answer))
    r
    mark
    (λ why. omega arith)
    (λ y. ticks_after r.table r.state mark)

pub ticks_taken : (r : Run) (es : List Event) →
    (after r es).state.ticks.0 ≡ r.state.ticks.0 + length (taken_ticks r es)
unfolding after_in taken_ticks
ticks_taken r [] = omega arith
ticks_taken r (e ∷ es) =
    omega (
      arith,
      ticks_now r e,
      ticks_taken (event_of r e).run es,
      length-append (taken_by r e (event_of r e).answer) (taken_ticks (event_of r e).run es),
    )

pub ticks_most : (t : Table) (es : List Event) → length (taken_ticks (fresh_run t) es) ≤ 4000000000
ticks_most t es =
    omega (arith, ticks_taken (fresh_run t) es, (counts_within (fresh_run t) es (omega arith) (omega arith)).0)
