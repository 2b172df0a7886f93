-- From the text to the promises, with nothing asked of sizes: a text that is read, the table that
-- is handed back, a start with it, and any events. Conditions 2 and 3 then hold of what is
-- answered, and 13 is never said. proofs/FromTheText.antt proves it.
use Rattle.std.specs.Prelude.{◌≡◌, true, ◌||◌, List, ℕ, ◌+◌, ◌*◌, ◌-◌, ◌≤◌, ◌<◌, length}
use Rattle.laws.specs.Rows.{sum_below}
use Rattle.laws.specs.RoundUp.{up}
use Rattle.table.specs.declared.Mode.TheVariants.{N}
use Rattle.table.specs.declared.Table.{Table}
use Rattle.table.specs.Rows.{server_at, period_at, capacity_at, is_timed}
use Rattle.text.specs.Read.{reading_number, read, shown}
use Rattle.verdict.specs.declared.Verdict.TheVariants.{Response}
use Rattle.verdict.specs.Verdict.{verdict_of}
use Rattle.run.specs.declared.Run.{Run}
use Rattle.events.specs.declared.Event.{Event}
use Rattle.events.specs.declared.Answer.TheVariants.{Ticked}
use Rattle.run.specs.State.{waiting_at}
use Rattle.events.specs.Answers.{no_of}
use Rattle.events.specs.Answers.{starting_number}
use Rattle.run.specs.Release.{start_of}
use Rattle.run.specs.Tick.{tick_of}
use Rattle.run.specs.Events.{event_of, after, answers}
use Rattle.events.specs.Count.{released_in, finished_in, cut_in, discarded_in}
use Rattle.run.specs.Found.{taken_ticks}
use Rattle.promises.specs.Bounds.{in_row, charges, largest_capacity, touched}
use Rattle.promises.specs.Bounds.{normal, whole_period, waits_until}
use Rattle.promises.specs.Condition2.{OneTick, ByTheRules}

-- r is the run that a start with table t hands back, and the events es follow.
pub record Promised (t : Table) (r : Run) (es : List Event) : Type 0 where
  -- the next tick, if it is taken, goes as the rules say
  pub tick : (x : OneTick) → x.before ≡ after r es →
      tick_of x.before x.mark ≡ record { answer = Ticked x.says; run = x.after } →
      ByTheRules x
  -- the next event is not answered 13
  pub never_13 : (e : Event) → no_of (event_of (after r es) e).answer ≡ 13 → ⊥
  -- "jobs released = finished + cut + discarded + waiting, counted from the answers given"
  pub jobs :
      released_in (answers r es) ≡
      finished_in (answers r es) + cut_in (answers r es) + discarded_in (answers r es) +
      sum_below t.ntasks (waiting_at (after r es).state)
  -- "In any W taken ticks in a row, W at least 1, a server of period T is charged at most B times
  -- (the round-up of (W-1)/T, plus 1), B being its largest capacity in force in the periods
  -- touched."
  pub first : (i s W : ℕ) → i < t.nservers → 1 ≤ W → s + W ≤ length (taken_ticks r es) →
      charges i (in_row (taken_ticks r es) s W) ≤
      largest_capacity t i (touched t (taken_ticks r es) i s W) * (up (W - 1) (period_at t i) + 1)
  -- "And while the mode has been normal since the start, a server of normal capacity C, at least
  -- 1, with verdict R is charged exactly C ticks, all within the first R, in each whole period
  -- where it is timed, or has a waiting job at each tick until C is reached."
  pub second : (i s T C R : ℕ) → i < t.nservers → T ≡ period_at t i → C ≡ capacity_at t N i → 1 ≤ C →
      verdict_of t i N ≡ Response (record { 0 = R }) →
      normal (in_row (taken_ticks r es) 0 (s + T)) ≡ true →
      whole_period t i (in_row (taken_ticks r es) s T) ≡ true →
      (is_timed (server_at t i).kind || waits_until t i C (in_row (taken_ticks r es) s T)) ≡ true →
      (charges i (in_row (taken_ticks r es) s T) ≡ C) × (charges i (in_row (taken_ticks r es) s R) ≡ C)

-- every text that is taken, and any events
abbrev pub FromTheText : Type 0
FromTheText =
    (text : List ℕ) (t : Table) (es : List Event) → reading_number (shown (read text)).answer ≡ 0 →
    t ≡ (shown (read text)).table →
    (starting_number (start_of t).answer ≡ 0) × Promised t (start_of t).run es
