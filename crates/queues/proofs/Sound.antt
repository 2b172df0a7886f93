-- What it says that queues are sound, as plain facts, and back: from the facts, that they are. And
-- each step keeps them so. Assumes nothing.
use Rattle.std.proofs.Common.{None, Option, Some}
use mathlib.Core.Path.{◌≡◌, refl, ap, sym, ◌∙◌}
use mathlib.Core.Bool.{Bool, true, ◌&&◌, ◌||◌}
use mathlib.Core.List.{[], ◌∷◌}
use mathlib.Core.Logic.{◌⊎◌, inl, inr}
use Prim.Native.Nat.{ℕ, ◌+◌, ◌-◌, ◌≤◌, ◌<◌}
use native.Mathlib.Omega.{arith}
use lib.Dec.{leb, ltb, eqb}
use lib.ListN.{length}
use borrow.Author.Tests.{ltb-true, leb-true, eqb-true, lt-ltb, le-ltb, le-leb, eq-eqb}
use Rattle.laws.specs.Choice.{every}
use Rattle.laws.specs.Rows.{sum_below}
use Rattle.std.proofs.lemmas.Bool.{and_from, or_cases, or_left, or_right}
use Rattle.std.specs.Cmp.{first_so, second_so}
use Rattle.laws.proofs.Choice.{le_or_lt, every_at}
use Rattle.events.specs.declared.Turn.{Turn}
use Rattle.events.specs.declared.Turn.TheVariants.{Run as Ran, Empty, Idle}
use Rattle.events.specs.Answers.{ran}
use Rattle.events.proofs.Answers.{one_here, one_past_lem, one_eq, same_or_not, ran_is}
use Rattle.queues.specs.Queues.{Queues, waiting_in, runs_in, waits_in, joined, front_gone, last_of, is_last}
use Rattle.queues.specs.Sound.{front_sound, queue_sound, last_sound, counts_sound}
use Rattle.queues.proofs.Queues.{set_at, set_past, joined_waiting_lem, joined_sum}

-- a task's queue: its front job, if there is one, has not reached its limit, but for the last-run job
pub record QueueSound (limit w c : ℕ) (last : Bool) : Type 0 where
  pub queue : w ≤ 16
  pub none : w ≡ 0 → c ≡ 0
  pub front : 0 < w → (c < limit) ⊎ ((last ≡ true) × (c ≡ limit))

-- the last-run task
pub record JobSound (n : ℕ) (q : Queues) (ticks k : ℕ) : Type 0 where
  pub below : k < n
  pub waits : 0 < waiting_in q k
  pub ran : 1 ≤ runs_in q k
  pub tick : 1 ≤ ticks

abbrev pub LastSound : ℕ → Queues → ℕ → Option ℕ → Type 0
LastSound n q ticks None = Unit {0}
LastSound n q ticks (Some k) = JobSound n q ticks k

pub record CountsSound (n : ℕ) (q : Queues) (taken released : ℕ) : Type 0 where
  pub ticks : taken ≤ 4000000000
  pub accepted : released ≤ 4000000000
  pub waiting : sum_below n (waiting_in q) ≤ released

-- From the tests to the facts.
pub front_none : (limit w c : ℕ) (last : Bool) → front_sound limit w c last ≡ true → w ≡ 0 → c ≡ 0
front_none limit w c last e z = eqb-true c 0 (rw (le-ltb 0 w (omega arith)) at e)

pub front_some : (limit w c : ℕ) (last : Bool) → front_sound limit w c last ≡ true → 0 < w →
    (c < limit) ⊎ ((last ≡ true) × (c ≡ limit))
front_some limit w c last e h = go (or_cases below (last && at) (rw (lt-ltb 0 w h) at e))
  where
    below : Bool
    below = ltb c limit

    at : Bool
    at = eqb c limit

    go : (below ≡ true) ⊎ ((last && at) ≡ true) → (c < limit) ⊎ ((last ≡ true) × (c ≡ limit))
    go (inl p) = inl (ltb-true c limit p)
    go (inr p) = inr (first_so last at p, eqb-true c limit (second_so last at p))

pub queue_facts : (limit w c : ℕ) (last : Bool) → every (queue_sound limit w c last) ≡ true → QueueSound limit w c last
queue_facts limit w c last e =
    let at = every_at (queue_sound limit w c last) e in
    record {
      queue = leb-true w 16 (at 0);
      none = front_none limit w c last (at 1);
      front = front_some limit w c last (at 1);
    }

pub last_facts : (n : ℕ) (q : Queues) (ticks : ℕ) (l : Option ℕ) → last_sound n q ticks l ≡ true → LastSound n q ticks l
last_facts n q ticks None e = tt
last_facts n q ticks (Some k) e =
    let at = every_at (ltb k n ∷ waits_in q k ∷ leb 1 (runs_in q k) ∷ leb 1 ticks ∷ []) e in
    record {
      below = ltb-true k n (at 0);
      waits = ltb-true 0 (waiting_in q k) (at 1);
      ran = leb-true 1 (runs_in q k) (at 2);
      tick = leb-true 1 ticks (at 3);
    }

pub counts_facts : (n : ℕ) (q : Queues) (ticks accepted : ℕ) → every (counts_sound n (waiting_in q) ticks accepted) ≡ true →
    CountsSound n q ticks accepted
counts_facts n q ticks accepted e =
    let at = every_at (counts_sound n (waiting_in q) ticks accepted) e in
    record {
      ticks = leb-true ticks 4000000000 (at 0);
      accepted = leb-true accepted 4000000000 (at 1);
      waiting = leb-true (sum_below n (waiting_in q)) accepted (at 2);
    }

-- From the facts to the tests.
pub front_test : (limit w c : ℕ) (last : Bool) → QueueSound limit w c last → front_sound limit w c last ≡ true
front_test limit w c last f = go (le_or_lt w 0)
  where
    below : Bool
    below = ltb c limit

    at : Bool
    at = eqb c limit

    some : (c < limit) ⊎ ((last ≡ true) × (c ≡ limit)) → (below || (last && at)) ≡ true
    some (inl p) = or_left below (last && at) (lt-ltb c limit p)
    some (inr p) = or_right below (last && at) (and_from last at p.0 (eq-eqb c limit p.1))

    go : (w ≤ 0) ⊎ (0 < w) → front_sound limit w c last ≡ true
    go (inl h) = rw (le-ltb 0 w h) (eq-eqb c 0 (f.none (omega arith)))
    go (inr h) = rw (lt-ltb 0 w h) (some (f.front h))

pub queue_tests : (limit w c : ℕ) (last : Bool) → QueueSound limit w c last → every (queue_sound limit w c last) ≡ true
unfolding every
queue_tests limit w c last f = rw (le-leb w 16 f.queue, front_test limit w c last f)

pub last_tests : (n : ℕ) (q : Queues) (ticks : ℕ) (l : Option ℕ) → LastSound n q ticks l → last_sound n q ticks l ≡ true
unfolding every
last_tests n q ticks None f = refl
last_tests n q ticks (Some k) f =
    rw (
      lt-ltb k n f.below,
      lt-ltb 0 (waiting_in q k) f.waits,
      le-leb 1 (runs_in q k) f.ran,
      le-leb 1 ticks f.tick,
    )

pub counts_tests : (n : ℕ) (q : Queues) (ticks accepted : ℕ) → CountsSound n q ticks accepted →
    every (counts_sound n (waiting_in q) ticks accepted) ≡ true
unfolding every
counts_tests n q ticks accepted f =
    rw (
      le-leb ticks 4000000000 f.ticks,
      le-leb accepted 4000000000 f.accepted,
      le-leb (sum_below n (waiting_in q)) accepted f.waiting,
    )

-- A release into a queue that is not full.
pub joined_queue : (q : Queues) (k j limit c : ℕ) (last : Bool) → k < length q.waiting → waiting_in q k < 16 →
    1 ≤ limit → QueueSound limit (waiting_in q j) c last → QueueSound limit (waiting_in (joined q k) j) c last
joined_queue q k j limit c last l room low f =
    record {
      queue = most (same_or_not k j);
      none = λ z. f.none (omega (arith, joined_waiting_lem q k j l));
      front = λ h. first (le_or_lt (waiting_in q j) 0);
    }
  where
    most : (k ≡ j) ⊎ (k ≡ j → ⊥) → waiting_in (joined q k) j ≤ 16
    most (inl e) =
        let w : waiting_in q k ≡ waiting_in q j = ap (waiting_in q) e in
        omega (arith, joined_waiting_lem q k j l, one_here k j e)
    most (inr n) = omega (arith, joined_waiting_lem q k j l, one_past_lem k j n, f.queue)

    first : (waiting_in q j ≤ 0) ⊎ (0 < waiting_in q j) → (c < limit) ⊎ ((last ≡ true) × (c ≡ limit))
    first (inl z) = inl (omega (arith, f.none (omega arith)))
    first (inr w) = f.front w

pub joined_last : (n : ℕ) (q : Queues) (k ticks : ℕ) → k < length q.waiting → (l : Option ℕ) → LastSound n q ticks l →
    LastSound n (joined q k) ticks l
joined_last n q k ticks h None f = tt
joined_last n q k ticks h (Some j) f =
    record { below = f.below; waits = omega (arith, joined_waiting_lem q k j h, f.waits); ran = f.ran; tick = f.tick }

pub joined_counts : (n : ℕ) (q : Queues) (k ticks accepted : ℕ) → k < length q.waiting → k < n →
    accepted < 4000000000 → CountsSound n q ticks accepted → CountsSound n (joined q k) ticks (accepted + 1)
joined_counts n q k ticks accepted h b room f =
    record {
      ticks = f.ticks;
      accepted = omega arith;
      waiting = omega (arith, joined_sum q n k h b, f.waiting);
    }

-- A queue as a tick leaves it before a job runs: no front job at its limit.
pub record JudgedQueue (limit w c : ℕ) : Type 0 where
  pub queue : w ≤ 16
  pub none : w ≡ 0 → c ≡ 0
  pub front : 0 < w → c < limit

-- A queue of which nothing left: of the last-run task it is told apart that the job was not at its limit.
pub stays_judged : (limit w c : ℕ) (last : Bool) → QueueSound limit w c last → (0 < w → c < limit) →
    JudgedQueue limit w c
stays_judged limit w c last f b = record { queue = f.queue; none = f.none; front = b }

-- a task that is not the last-run one is below its limit, and the last-run one not beyond it
pub other_below : (limit w c : ℕ) (last : Bool) → QueueSound limit w c last → (last ≡ true → ⊥) → 0 < w → c < limit
other_below limit w c last f n h = go (f.front h)
  where
    go : (c < limit) ⊎ ((last ≡ true) × (c ≡ limit)) → c < limit
    go (inl p) = p
    go (inr p) = absurd (n p.0)

pub within_limit : (limit w c : ℕ) (last : Bool) → QueueSound limit w c last → 0 < w → c ≤ limit
within_limit limit w c last f h = elim (f.front h) [ inl p ↦ omega arith | inr p ↦ omega (arith, p.1) ]

-- the queue of the task whose front job left: "the front job's count starts at 0"
pub gone_judged : (q : Queues) (j k limit : ℕ) → j < length q.waiting → j < length q.runs → j ≡ k →
    waiting_in q k ≤ 16 → 1 ≤ limit → JudgedQueue limit (waiting_in (front_gone q j) k) (runs_in (front_gone q j) k)
gone_judged q j k limit h l e most low =
    let w = set_at q.waiting j (waiting_in q j - 1) k h e in
    let c = set_at q.runs j 0 k l e in
    let same : waiting_in q j ≡ waiting_in q k = ap (waiting_in q) e in
    record { queue = omega arith; none = λ z. c; front = λ z. omega arith }

-- the queue of another task
pub other_judged : (q : Queues) (j k limit : ℕ) → (j ≡ k → ⊥) → JudgedQueue limit (waiting_in q k) (runs_in q k) →
    JudgedQueue limit (waiting_in (front_gone q j) k) (runs_in (front_gone q j) k)
other_judged q j k limit n f =
    let w = set_past q.waiting j (waiting_in q j - 1) k n in
    let c = set_past q.runs j 0 k n in
    record {
      queue = omega (arith, f.queue);
      none = λ z. c ∙ f.none (sym w ∙ z);
      front = λ z. omega (arith, f.front (omega arith));
    }

-- A job runs: it waits, has run one tick more, and is the last-run one.
ran_last : (turn : Turn) (k : ℕ) → ran turn k ≡ 1 → is_last (last_of turn) k ≡ true
ran_last (Ran i j) k r = eq-eqb j k (one_eq j k r)
ran_last (Empty i) k r = absurd (omega arith)
ran_last Idle k r = absurd (omega arith)

pub ran_queue : (turn : Turn) (k limit w c d : ℕ) → JudgedQueue limit w c → (ran turn k ≡ 1 → 0 < w) →
    d ≡ c + ran turn k → QueueSound limit w d (is_last (last_of turn) k)
ran_queue turn k limit w c d f runs e = record { queue = f.queue; none = none (ran_is turn k); front = front (ran_is turn k) }
  where
    none : (ran turn k ≡ 0) ⊎ (ran turn k ≡ 1) → w ≡ 0 → d ≡ 0
    none (inl r) z = omega (arith, f.none z)
    none (inr r) z = absurd (omega (arith, runs r))

    front : (ran turn k ≡ 0) ⊎ (ran turn k ≡ 1) → 0 < w →
        (d < limit) ⊎ ((is_last (last_of turn) k ≡ true) × (d ≡ limit))
    front (inl r) h = inl (omega (arith, f.front h))
    front (inr r) h =
        elim (le_or_lt limit d) [
          | inl l ↦ inr (ran_last turn k r, omega (arith, f.front h))
          | inr l ↦ inl l
        ]
