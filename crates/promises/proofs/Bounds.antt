-- The two bounds of specs/Bounds.antt, proved. Why they hold: First.antt, Second.antt, and crate
-- bounds beneath. Assumes nothing.
use mathlib.Core.Path.{◌≡◌, refl, ap, ◌∙◌}
use mathlib.Core.Bool.{true, ◌&&◌, ◌||◌}
use mathlib.Core.List.{List, [], ◌∷◌, ◌++◌}
use mathlib.Core.Logic.{◌⊎◌, inl, inr}
use Prim.Native.Nat.{ℕ, ◌+◌, ◌*◌, ◌-◌, ◌≤◌, ◌<◌}
use native.Mathlib.Omega.{arith}
use lib.Dec.{eqb}
use lib.ListN.{length, drop}
use borrow.Author.Tests.{le-leb, eq-eqb}
use Rattle.laws.specs.RoundUp.{up}
use Rattle.std.proofs.lemmas.Bool.{and_from}
use Rattle.std.specs.Cmp.{first_so, second_so}
use Rattle.laws.proofs.Choice.{le_or_lt}
use Rattle.table.specs.declared.Mode.TheVariants.{N}
use Rattle.table.specs.declared.Table.{Table}
use Rattle.table.specs.Rows.{server_at, period_at, phase_at, capacity_at, is_timed}
use Rattle.table.specs.Rules.{table_keeps}
use Rattle.verdict.specs.declared.Verdict.TheVariants.{Response}
use Rattle.verdict.specs.Verdict.{verdict_of}
use Rattle.verdict.proofs.Verdicts.{response_exactly}
use Rattle.events.specs.Boxes.{answers_in}
use Rattle.run.specs.declared.Run.{Run}
use Rattle.events.specs.declared.Event.{Event}
use Rattle.events.specs.declared.Event.TheVariants.{Release, Tick}
use Rattle.events.specs.declared.Answered.{Answered}
use Rattle.events.specs.declared.TickAnswer.{TickAnswer}
use Rattle.run.specs.State.{fresh}
use Rattle.run.specs.Sound.{sound, sound_state}
use Rattle.run.specs.Release.{fresh_run}
use Rattle.run.specs.Tick.{tick_taken}
use Rattle.run.specs.Events.{answers}
use Rattle.run.proofs.Taken.{release_ind, tick_ind, release_taken, ticked_taken}
use Rattle.run.proofs.Shape.{Shaped, fresh_shaped}
use Rattle.run.proofs.Sound.{state_facts}
use Rattle.run.specs.Found.{TakenTick, taken_by, taken_ticks}
use Rattle.promises.specs.Bounds.{in_row, charges, largest_capacity, elapsed_first, started_first, normal}
use Rattle.promises.specs.Bounds.{waits_until, tick_answer, tick_answers, answers_of, whole_period, FirstBound, SecondBound}
use Rattle.promises.specs.Bounds.{FromTheAnswers, PeriodsFromTheStart}
use Rattle.promises.proofs.Accepted.{accepted}
use Rattle.promises.proofs.Ticks.{tick_at, started_told, Follows, follows, zeros, period_begins}
use Rattle.promises.proofs.Lists.{in_row_length, elapsed_in_row, started_in_row}
use Rattle.promises.proofs.First.{charged_most, charged_touched}
use Rattle.promises.proofs.Second.{charged_prefix, charged_whole}

-- the taken ticks of a fresh run follow on its state
from_fresh : (t : Table) (es : List Event) (ms : List TakenTick) → table_keeps t ≡ true →
    ms ≡ taken_ticks (fresh_run t) es → Follows t fresh ms
from_fresh t es ms e q = rw q (follows (fresh_run t) es (accepted t e).few fresh_shaped)

pub first_bound : FirstBound
first_bound t es ms i s W T B e q l p h m b =
    rw
    (b, p)
    (charged_touched t fresh ms (from_fresh t es ms e q) (accepted t e) (λ j r. omega (arith, zeros 32 j)) i s W l h m)

-- Stronger: from any sound state, with the largest capacity in force in the W ticks themselves.
pub first_bound_anywhere : (r : Run) (es : List Event) (i s W : ℕ) → Shaped r.state → sound r ≡ true → 1 ≤ W →
    s + W ≤ length (taken_ticks r es) →
    charges i (in_row (taken_ticks r es) s W) ≤
    largest_capacity r.table i (in_row (taken_ticks r es) s W) * (up (W - 1) (period_at r.table i) + 1)
unfolding sound
first_bound_anywhere r es i s W shape e h m =
    let keeps = table_keeps r.table in
    let state = sound_state r.table r.state in
    let a = accepted r.table (first_so keeps state e) in
    let z = state_facts r.table r.state (second_so keeps state e) in
    let f = follows r es a.few shape in
    charged_most
    r.table
    r.state
    (taken_ticks r es)
    f
    a
    (λ j l. (z.servers j l).elapsed)
    i
    s
    W
    s
    W
    h
    (omega arith)
    (omega arith)
    m

pub second_bound : SecondBound
second_bound t es ms i s T C R e q l p k c v n u w =
    let a = accepted t e in
    let f = from_fresh t es ms e q in
    let d = rw k at c in
    let r = ((response_exactly t N i (record { 0 = R }) d).0 v).1 in
    rw (p, k) (charged_whole t ms f a i R s l d r (rw p at n) (rw p at u) (rw (p, k) at w))

-- The prefix form, of a period that need not be whole: after x ticks of it at most R - x of the C
-- charges are missing.
pub second_bound_prefix : (t : Table) (es : List Event) (ms : List TakenTick) (i s x R : ℕ) → table_keeps t ≡ true →
    ms ≡ taken_ticks (fresh_run t) es → i < t.nservers → 1 ≤ capacity_at t N i →
    verdict_of t i N ≡ Response (record { 0 = R }) → x ≤ period_at t i → s + x ≤ length ms →
    elapsed_first i (drop s ms) ≡ 0 → started_first t i (drop s ms) ≡ true →
    normal (in_row ms 0 (s + x)) ≡ true →
    (is_timed (server_at t i).kind || waits_until t i (capacity_at t N i) (in_row ms s x)) ≡ true →
    capacity_at t N i ≤ charges i (in_row ms s x) + (R - x)
second_bound_prefix t es ms i s x R e q l c v =
    let r = ((response_exactly t N i (record { 0 = R }) c).0 v).1 in
    charged_prefix t ms (from_fresh t es ms e q) (accepted t e) i R s l c r x

-- The tick answers, from the answers.
pub from_the_answers : FromTheAnswers
unfolding taken_ticks tick_answers answers_in
from_the_answers r [] = refl
from_the_answers r (Release k ∷ es) =
    release_ind
    (λ (a : Answered Run).
    answers_of (taken_ticks a.run es) ≡ tick_answer a.answer ++ tick_answers (answers a.run es))
    r
    k
    (λ why. from_the_answers r es)
    (λ y. from_the_answers (release_taken r k).run es)
from_the_answers r (Tick mark ∷ es) =
    tick_ind
    (λ (a : Answered Run).
    answers_of (taken_by r (Tick mark) a.answer ++ taken_ticks a.run es) ≡
    tick_answer a.answer ++ tick_answers (answers a.run es))
    r
    mark
    (λ why. from_the_answers r es)
    (λ y.
    ap
    (λ (rest : List TickAnswer). (tick_taken r.table r.state mark).answer ∷ rest)
    (from_the_answers (ticked_taken r mark).run es))

pub periods_from_the_start : PeriodsFromTheStart
periods_from_the_start t es ms i q T F e r l p g h = rw (p, g) (go (le_or_lt 1 (period_at t i)))
  where
    n : phase_at t i + q * period_at t i + period_at t i ≤ length ms
    n = rw (p, g) at h

    go : (1 ≤ period_at t i) ⊎ (period_at t i < 1) →
        whole_period t i (in_row ms (phase_at t i + q * period_at t i) (period_at t i)) ≡ true
    go (inl o) =
        let P = period_at t i in
        let s = phase_at t i + q * P in
        let f = from_fresh t es ms e r in
        let c = elapsed_in_row i ms s P (omega (arith, n)) o ∙ period_begins t ms f i l o q (omega (arith, n)) in
        let d = f.told s (omega (arith, n)) in
        let b =
        started_in_row t i ms s P (omega (arith, n)) o ∙ started_told t (tick_at ms s) d i ∙
        le-leb (phase_at t i) (tick_at ms s).found.ticks.0 (omega (arith, f.number s (omega (arith, n)))) in
        let long = eqb (length (in_row ms s P)) P in
        let new = eqb (elapsed_first i (in_row ms s P)) 0 in
        and_from
        (long && new)
        (started_first t i (in_row ms s P))
        (and_from long new (eq-eqb (length (in_row ms s P)) P (in_row_length ms s P n))
        (eq-eqb (elapsed_first i (in_row ms s P)) 0 c))
        b
    go (inr o) = let z : period_at t i ≡ 0 = omega arith in rw z
