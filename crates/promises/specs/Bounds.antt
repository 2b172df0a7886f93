-- Condition 3. The two bounds on what a server is charged, as they were asked for. They speak of
-- the answers that a run gives and of what step 5 finds. proofs/Bounds.antt proves both.
use Rattle.std.specs.Prelude.{◌≡◌, Bool, true, false, ◌&&◌, ◌||◌, List, [], ◌∷◌, ◌++◌, map, ℕ, ◌+◌, ◌*◌, ◌-◌, ◌≤◌, ◌<◌, leb, eqb, length, take, drop, if◌then◌else◌}
use Rattle.laws.specs.Choice.{larger}
use Rattle.laws.specs.RoundUp.{up}
use Rattle.table.specs.declared.Mode.{Mode}
use Rattle.table.specs.declared.Mode.TheVariants.{N, D1, D2}
use Rattle.table.specs.declared.Table.{Table}
use Rattle.table.specs.Rows.{server_at, period_at, phase_at, capacity_at, is_timed}
use Rattle.table.specs.Rules.{table_keeps}
use Rattle.verdict.specs.declared.Verdict.TheVariants.{Response}
use Rattle.verdict.specs.Verdict.{verdict_of}
use Rattle.run.specs.declared.Run.{Run}
use Rattle.events.specs.declared.Event.{Event}
use Rattle.events.specs.declared.TickAnswer.{TickAnswer}
use Rattle.events.specs.declared.Answer.{Answer}
use Rattle.events.specs.declared.Answer.TheVariants.{Released, Ticked, No}
use Rattle.run.specs.State.{elapsed_at, waits}
use Rattle.events.specs.Answers.{charged}
use Rattle.run.specs.Release.{fresh_run}
use Rattle.run.specs.Events.{answers}
use Rattle.run.specs.Found.{TakenTick, taken_ticks}

-- "W taken ticks in a row": w of them, from tick s on
abbrev pub in_row : List TakenTick → ℕ → ℕ → List TakenTick
in_row ms s w = take w (drop s ms)

-- "is charged": how often these ticks' answers charge server i
unfoldable pub charges : ℕ → List TakenTick → ℕ
charges i [] = 0
charges i (m ∷ ms) = charged m.answer.turn i + charges i ms

-- 02, No. 7: server i has started at a tick, by the number that the tick's answer tells
abbrev pub started_at : Table → ℕ → TakenTick → Bool
started_at t i m = leb (phase_at t i) m.answer.tick.0

-- its capacity "in force" at a tick: that of the mode that the tick's answer tells; "Until that tick
-- the server has no budget"
abbrev pub in_force_at : Table → ℕ → TakenTick → ℕ
in_force_at t i m = if started_at t i m then capacity_at t m.answer.mode i else 0

-- "its largest capacity in force" in these ticks
unfoldable pub largest_capacity : Table → ℕ → List TakenTick → ℕ
largest_capacity t i [] = 0
largest_capacity t i (m ∷ ms) = larger (in_force_at t i m) (largest_capacity t i ms)

-- how many ticks of its period step 5 finds elapsed for server i at the first of these ticks
abbrev pub elapsed_first : ℕ → List TakenTick → ℕ
elapsed_first i [] = 0
elapsed_first i (m ∷ ms) = elapsed_at m.found i

-- the tick with which the period of server i begins that tick x lies in; before its phase none is
-- elapsed, and a tick lies in no period
abbrev pub beginning : List TakenTick → ℕ → ℕ → ℕ
beginning ms i x = x - elapsed_first i (drop x ms)

-- "the periods touched": the taken ticks of the periods of server i that the w ticks from tick s on lie in
abbrev pub touched : Table → List TakenTick → ℕ → ℕ → ℕ → List TakenTick
touched t ms i s w =
    in_row ms (beginning ms i s) (beginning ms i (s + (w - 1)) + period_at t i - beginning ms i s)

-- "Start afresh with an accepted table and send any events. In any W taken ticks in a row, W at least 1, a server of
-- period T is charged at most B times (the round-up of (W-1)/T, plus 1), B being its largest capacity in force in the
-- periods touched."
abbrev pub FirstBound : Type 0
FirstBound =
    (t : Table) (es : List Event) (ms : List TakenTick) (i s W T B : ℕ) → table_keeps t ≡ true →
    ms ≡ taken_ticks (fresh_run t) es → i < t.nservers → T ≡ period_at t i → 1 ≤ W → s + W ≤ length ms →
    B ≡ largest_capacity t i (touched t ms i s W) → charges i (in_row ms s W) ≤ B * (up (W - 1) T + 1)

abbrev pub is_normal : Mode → Bool
is_normal N = true
is_normal D1 = false
is_normal D2 = false

-- "the mode has been normal" in these ticks
unfoldable pub normal : List TakenTick → Bool
normal [] = true
normal (m ∷ ms) = is_normal m.answer.mode && normal ms

-- server i has started at the first of these ticks
abbrev pub started_first : Table → ℕ → List TakenTick → Bool
started_first t i [] = true
started_first t i (m ∷ ms) = started_at t i m

-- "each whole period": these ticks are as many as the period of server i, and step 5 finds none of it elapsed at the
-- first; 02, No. 7, of the phase: "whole periods after it"
abbrev pub whole_period : Table → ℕ → List TakenTick → Bool
whole_period t i ms = eqb (length ms) (period_at t i) && eqb (elapsed_first i ms) 0 && started_first t i ms

-- "has a waiting job at each tick until C is reached": at each of these ticks until server i is charged c times in them
unfoldable pub waits_until : Table → ℕ → ℕ → List TakenTick → Bool
waits_until t i c [] = true
waits_until t i c (m ∷ ms) = eqb c 0 || waits t m.found i && waits_until t i (c - charged m.answer.turn i) ms

-- "And while the mode has been normal since the start, a server of normal capacity C, at least 1, with verdict R is
-- charged exactly C ticks, all within the first R, in each whole period where it is timed, or has a waiting job at each
-- tick until C is reached."
abbrev pub SecondBound : Type 0
SecondBound =
    (t : Table) (es : List Event) (ms : List TakenTick) (i s T C R : ℕ) → table_keeps t ≡ true →
    ms ≡ taken_ticks (fresh_run t) es → i < t.nservers → T ≡ period_at t i → C ≡ capacity_at t N i → 1 ≤ C →
    verdict_of t i N ≡ Response (record { 0 = R }) → normal (in_row ms 0 (s + T)) ≡ true →
    whole_period t i (in_row ms s T) ≡ true →
    (is_timed (server_at t i).kind || waits_until t i C (in_row ms s T)) ≡ true →
    (charges i (in_row ms s T) ≡ C) × (charges i (in_row ms s R) ≡ C)

-- The taken ticks' answers are the tick answers among all that is answered, in the same order.
abbrev pub tick_answer : Answer → List TickAnswer
tick_answer (Released k) = []
tick_answer (Ticked a) = a ∷ []
tick_answer (No why) = []

unfoldable pub tick_answers : List Answer → List TickAnswer
tick_answers [] = []
tick_answers (a ∷ rest) = tick_answer a ++ tick_answers rest

abbrev pub answers_of : List TakenTick → List TickAnswer
answers_of = map (λ m. m.answer)

abbrev pub FromTheAnswers : Type 0
FromTheAnswers = (r : Run) (es : List Event) → answers_of (taken_ticks r es) ≡ tick_answers (answers r es)

-- From a fresh start the whole periods of a server of period T and phase F are the T ticks from tick F on, from tick
-- F + T on, from F + 2 T on, ..: "from it on, periods count from it"
abbrev pub PeriodsFromTheStart : Type 0
PeriodsFromTheStart =
    (t : Table) (es : List Event) (ms : List TakenTick) (i q T F : ℕ) → table_keeps t ≡ true →
    ms ≡ taken_ticks (fresh_run t) es → i < t.nservers → T ≡ period_at t i → F ≡ phase_at t i →
    F + q * T + T ≤ length ms → whole_period t i (in_row ms (F + q * T) T) ≡ true
