-- What a day desk may conclude from a page of the morning report (02, No. 1), in the page's own
-- numbers, which crate morning defines. proofs/Morning.antt proves it.
use Rattle.std.specs.Prelude.{◌≡◌, true, List, [], ◌∷◌, ◌++◌, ℕ, ◌+◌, ◌≤◌, ◌<◌, length, None, Option, Some}
use Rattle.laws.specs.Rows.{sum_below}
use Rattle.decimal.specs.Lines.{closed}
use Rattle.table.specs.declared.Kind.TheVariants.{Event as EventKind}
use Rattle.table.specs.declared.Mode.{Mode}
use Rattle.table.specs.declared.Mode.TheVariants.{N, D1, D2}
use Rattle.table.specs.declared.Table.{Table}
use Rattle.table.specs.Rows.{server_at}
use Rattle.table.specs.Rules.{table_keeps}
use Rattle.table.specs.Inner.{Sized}
use Rattle.text.specs.Read.{reading_number, read, shown}
use Rattle.run.specs.declared.Run.{Run}
use Rattle.events.specs.declared.Turn.{Turn}
use Rattle.events.specs.declared.Turn.TheVariants.{Run as Ran, Empty, Idle}
use Rattle.events.specs.declared.Event.{Event}
use Rattle.events.specs.declared.Answer.{Answer}
use Rattle.run.specs.State.{waits}
use Rattle.events.specs.Answers.{no_of, charged}
use Rattle.run.specs.Release.{fresh_run}
use Rattle.run.specs.Events.{event_of, after, answers}
use Rattle.events.specs.Count.{over_all, released_of, discarded_in}
use Rattle.run.specs.Many.{after_line, after_lines}
use Rattle.run.specs.Found.{TakenTick, taken_ticks}
use Rattle.lines.specs.EventLine.{event_lines}
use Rattle.morning.specs.Numbers.{events_in, by_tick, server_numbers, task_numbers, mode_number}
use Rattle.morning.specs.Page.{report_lines, report}
use Rattle.promises.specs.Bounds.{in_row}

-- how many taken ticks say `idle`
abbrev pub is_idle : Turn → ℕ
is_idle (Ran i k) = 0
is_idle (Empty i) = 0
is_idle Idle = 1

abbrev pub idle_ticks : List Answer → ℕ
idle_ticks = over_all (by_tick (λ a. is_idle a.turn))

-- "it had a waiting job", as step 5 finds it, "and was not charged"; and so in each of some ticks
abbrev pub PassedOver : Table → ℕ → TakenTick → Type 0
PassedOver t i m = (waits t m.found i ≡ true) × (charged m.answer.turn i ≡ 0)

abbrev pub AllPassedOver : Table → ℕ → List TakenTick → Type 0
AllPassedOver t i [] = Unit {0}
AllPassedOver t i (m ∷ ms) = PassedOver t i m × AllPassedOver t i ms

-- r is a fresh run with table t, and es are the events of the night.
pub record Concluded (t : Table) (r : Run) (es : List Event) : Type 0 where
  -- The ticks spent in the three modes add up to the ticks taken, which the run has counted.
  pub modes : mode_number r es N + mode_number r es D1 + mode_number r es D2 ≡ length (taken_ticks r es)
  pub ticks : length (taken_ticks r es) ≡ (after r es).state.ticks.0
  -- The ticks charged, of all servers, and the idle ticks add up to the ticks taken.
  pub charges :
      sum_below t.nservers (λ i. (server_numbers r es i).charged) + idle_ticks (answers r es) ≡
      length (taken_ticks r es)
  -- A server's empty turns are ticks in which it was charged; an event server has none.
  pub empty : (i : ℕ) → (server_numbers r es i).empty ≤ (server_numbers r es i).charged
  pub event : (i : ℕ) → (server_at t i).kind ≡ EventKind → (server_numbers r es i).empty ≡ 0
  -- A server's longest row is a row of taken ticks in each of which it had a waiting job and was not
  -- charged, and no such row is longer.
  pub row : (i : ℕ) →
      (s : ℕ) × (s + (server_numbers r es i).longest ≤ length (taken_ticks r es)) ×
      AllPassedOver t i (in_row (taken_ticks r es) s (server_numbers r es i).longest)
  pub longest : (i s w : ℕ) → s + w ≤ length (taken_ticks r es) →
      AllPassedOver t i (in_row (taken_ticks r es) s w) → w ≤ (server_numbers r es i).longest
  -- Of each task, the releases that were accepted are the jobs finished, cut, discarded and still
  -- waiting.
  pub jobs : (k : ℕ) → k < t.ntasks →
      released_of k (answers r es) ≡
      (task_numbers r es k).finished + (task_numbers r es k).cut + (task_numbers r es k).discarded +
      (task_numbers r es k).waiting
  -- The tasks' discards add up to those that the answers tell.
  pub discards : sum_below t.ntasks (λ k. (task_numbers r es k).discarded) ≡ discarded_in (answers r es)

-- From a fresh start with an accepted table, whatever the events.
abbrev pub MorningConcludes : Type 0
MorningConcludes =
    (t : Table) (es : List Event) → Sized t → table_keeps t ≡ true → Concluded t (fresh_run t) es

-- From the two files, with nothing asked of sizes: for a table text that is taken the report is the page of these
-- numbers.
abbrev pub MorningFromTheText : Type 0
MorningFromTheText =
    (text events : List ℕ) (t : Table) → reading_number (shown (read text)).answer ≡ 0 →
    t ≡ (shown (read text)).table →
    (report text events ≡ closed (report_lines (fresh_run t) (events_in (event_lines events)))) ×
    Concluded t (fresh_run t) (events_in (event_lines events))

-- a line that is no event, or an event that is answered no
abbrev pub IsRefused : Run → Option Event → Type 0
IsRefused r (Some e) = 1 ≤ no_of (event_of r e).answer
IsRefused r None = Unit {0}

-- each of these lines, one after the other
abbrev pub AllRefused : Run → List (Option Event) → Type 0
AllRefused r [] = Unit {0}
AllRefused r (l ∷ ls) = IsRefused r l × AllRefused (after_line r l) ls

-- "refused lines count nowhere": they may be left out, or put in anywhere, and the page is the same.
abbrev pub RefusedCountNowhere : Type 0
RefusedCountNowhere =
    (r : Run) (before ls later : List (Option Event)) → AllRefused (after_lines r before) ls →
    report_lines r (events_in (before ++ (ls ++ later))) ≡ report_lines r (events_in (before ++ later))

-- "An empty file gives all zeros."
pub record AllZeros (r : Run) (es : List Event) : Type 0 where
  pub servers : (i : ℕ) → server_numbers r es i ≡ record { charged = 0; empty = 0; longest = 0 }
  pub tasks : (k : ℕ) → task_numbers r es k ≡ record { finished = 0; cut = 0; discarded = 0; waiting = 0 }
  pub modes : (m : Mode) → mode_number r es m ≡ 0

abbrev pub EmptyFile : Type 0
EmptyFile = (t : Table) → AllZeros (fresh_run t) (events_in (event_lines []))
