-- What a day desk may conclude from the morning report, proved. What the page counts is counted over
-- the taken ticks, one after the other: each is in one mode, charges one server or is idle, and is an
-- empty turn only of a timed server. A refused line takes no tick and leaves the run as it was.
-- Assumes nothing.
use Rattle.std.proofs.Common.{None, Option, Some}
use mathlib.Core.Path.{◌≡◌, refl, ap, sym, subst, ◌∙◌}
use mathlib.Core.Bool.{Bool, true, false}
use mathlib.Core.List.{List, [], ◌∷◌, ◌++◌}
use mathlib.Core.Logic.{◌⊎◌, inl, inr}
use Prim.Native.Nat.{ℕ, zero, suc, ◌+◌, ◌≤◌}
use native.Mathlib.Omega.{arith}
use lib.Dec.{ltb, eqb}
use lib.ListN.{length, take}
use borrow.Author.Tests.{eq-eqb, eqb-true}
use Rattle.laws.specs.Rows.{sum_below}
use Rattle.std.proofs.lemmas.Bool.{and_from, cases_Bool}
use Rattle.std.specs.Cmp.{first_so, second_so}
use Rattle.laws.proofs.Choice.{clash, if_ind, larger_right}
use Rattle.laws.proofs.Rows.{sum_cong, sum_add, sum_zero}
use Rattle.decimal.specs.Lines.{split}
use Rattle.table.specs.declared.Kind.TheVariants.{Event as EventKind}
use Rattle.table.specs.declared.Mode.{Mode}
use Rattle.table.specs.declared.Mode.TheVariants.{N, D1, D2}
use Rattle.table.specs.declared.Refusal.{Refusal}
use Rattle.table.specs.declared.Table.{Table}
use Rattle.table.specs.Rows.{server_at, is_timed}
use Rattle.text.specs.Read.{read, shown}
use Rattle.text.proofs.Refused.{reading_0}
use Rattle.text.proofs.RoundTrip.{read_keeps, read_sized}
use Rattle.events.specs.Boxes.{after_in, answers_in}
use Rattle.run.specs.declared.State.{State}
use Rattle.run.specs.declared.Run.{Run}
use Rattle.events.specs.declared.Turn.{Turn}
use Rattle.events.specs.declared.Turn.TheVariants.{Run as Ran, Empty, Idle}
use Rattle.events.specs.declared.Event.{Event}
use Rattle.events.specs.declared.Event.TheVariants.{Release, Tick}
use Rattle.events.specs.declared.Answer.{Answer}
use Rattle.events.specs.declared.Answer.TheVariants.{Released, Ticked, No}
use Rattle.events.specs.declared.Answered.{Answered}
use Rattle.run.specs.State.{waits}
use Rattle.events.specs.Answers.{one, no_of, charged}
use Rattle.run.specs.Release.{fresh_run}
use Rattle.run.specs.Tick.{settle, choose, tick_taken}
use Rattle.run.specs.Events.{event_of, after}
use Rattle.events.specs.Count.{over_all}
use Rattle.run.specs.Count.{discarded_of}
use Rattle.run.specs.Found.{TakenTick, tick_taken_so, taken_by, taken_ticks}
use Rattle.run.proofs.Taken.{tick_ind}
use Rattle.run.proofs.Shape.{event_table, fresh_run_shaped}
use Rattle.events.proofs.Answers.{one_same, one_eq, one_is}
use Rattle.run.proofs.Tick.{charged_runs, charged_empty, answer_turn}
use Rattle.events.proofs.Answers.{sum_one}
use Rattle.run.proofs.Kept.{fresh_keeps}
use Rattle.run.proofs.Refused.{refused_as_it_was}
use Rattle.run.proofs.Count.{jobs_balance_of, discarded_by_task}
use Rattle.lines.specs.EventLine.{closed_lines, event_lines}
use Rattle.morning.specs.Numbers.{events_in, empty_turn, passed_over, row_from, longest_row, in_this_mode, server_numbers}
use Rattle.morning.specs.Page.{morning_lines, report}
use Rattle.morning.specs.Inner.{over_ticks, ServerBelow, AllFit}
use Rattle.morning.proofs.Inner.{first_within, all_fit}
use Rattle.morning.proofs.Numbers.{taken_append, after_append, events_append, after_lines_lem, over_answers, ticks_taken}
use Rattle.morning.proofs.Page.{same_page}
use Rattle.promises.specs.Bounds.{in_row}
use Rattle.promises.specs.Morning.{is_idle, PassedOver, AllPassedOver, MorningConcludes}
use Rattle.promises.specs.Morning.{MorningFromTheText, AllRefused, RefusedCountNowhere, EmptyFile}
use Rattle.promises.proofs.Ticks.{zeros}

-- Each tick is in one mode.
one_mode : (m : Mode) → in_this_mode N m + in_this_mode D1 m + in_this_mode D2 m ≡ 1
one_mode N = refl
one_mode D1 = refl
one_mode D2 = refl

modes_add : (ms : List TakenTick) →
    over_ticks (λ x. in_this_mode N x.answer.mode) ms + over_ticks (λ x. in_this_mode D1 x.answer.mode) ms +
    over_ticks (λ x. in_this_mode D2 x.answer.mode) ms ≡
    length ms
unfolding over_ticks
modes_add [] = refl
modes_add (m ∷ ms) = omega (arith, one_mode m.answer.mode, modes_add ms)

-- Each tick charges one server of the table, or is idle.
one_turn : (n : ℕ) (u : Turn) → ServerBelow n u → sum_below n (charged u) + is_idle u ≡ 1
one_turn n (Ran j k) b = omega (arith, sum_cong (charged (Ran j k)) (one j) n (λ i l. refl), sum_one j n b)
one_turn n (Empty j) b = omega (arith, sum_cong (charged (Empty j)) (one j) n (λ i l. refl), sum_one j n b)
one_turn n Idle b = omega (arith, sum_zero (charged Idle) n (λ i l. refl))

turns_add : (t : Table) (ms : List TakenTick) → AllFit t ms →
    sum_below t.nservers (λ i. over_ticks (λ m. charged m.answer.turn i) ms) +
    over_ticks (λ m. is_idle m.answer.turn) ms ≡
    length ms
unfolding over_ticks
turns_add t [] f = omega (arith, sum_zero (λ i. 0) t.nservers (λ i l. refl))
turns_add t (m ∷ ms) f =
    omega (
      arith,
      sum_add (charged m.answer.turn) (λ i. over_ticks (λ m. charged m.answer.turn i) ms) t.nservers,
      one_turn t.nservers m.answer.turn f.0.server,
      turns_add t ms f.1,
    )

-- An empty turn is a charge, and of a timed server.
empty_charged : (u : Turn) (i : ℕ) → empty_turn u i ≤ charged u i
empty_charged (Ran j k) i = omega arith
empty_charged (Empty j) i = omega arith
empty_charged Idle i = omega arith

over_le : (f g : TakenTick → ℕ) (ms : List TakenTick) → ((m : TakenTick) → f m ≤ g m) →
    over_ticks f ms ≤ over_ticks g ms
unfolding over_ticks
over_le f g [] h = omega arith
over_le f g (m ∷ ms) h = omega (arith, h m, over_le f g ms h)

empty_timed : (t : Table) (z : State) (i : ℕ) → choose t z ≡ Empty i → is_timed (server_at t i).kind ≡ true
empty_timed t z i e = go (cases_Bool (waits t z i))
  where
    c : charged (choose t z) i ≡ 1
    c = ap (λ u. charged u i) e ∙ one_same i

    go : (waits t z i ≡ true) ⊎ (waits t z i ≡ false) → is_timed (server_at t i).kind ≡ true
    go (inl w) =
        let r = charged_runs t z i c w in
        let q : Ran i r.0 ≡ Empty i = sym r.1.turn ∙ e in
        let x : ◌≡◌ {A = ℕ} 0 1 = cc in
        absurd (omega arith)
    go (inr w) = (charged_empty t z i c w).1

never_empty : (t : Table) (z : State) (i : ℕ) → (server_at t i).kind ≡ EventKind → (u : Turn) → choose t z ≡ u →
    empty_turn u i ≡ 0
never_empty t z i k (Ran j l) e = refl
never_empty t z i k (Empty j) e =
    elim (one_is j i) [
      | inl o ↦ o
      | inr o ↦
          absurd
          (clash
          (is_timed (server_at t i).kind)
          (empty_timed t z i (e ∙ ap Empty (one_eq j i o)))
          (ap is_timed k))
    ]
never_empty t z i k Idle e = refl

-- what is 0 of each tick that a run with this table takes is 0 of all
over_zero : (f : TakenTick → ℕ) (t : Table) →
    ((s : State) (mark : Bool) → f (tick_taken_so (settle t s mark) (tick_taken t s mark).answer) ≡ 0) →
    (r : Run) (es : List Event) → r.table ≡ t → over_ticks f (taken_ticks r es) ≡ 0
unfolding over_ticks taken_ticks
over_zero f t h r [] e = refl
over_zero f t h r (x ∷ es) e = now x (over_zero f t h (event_of r x).run es (event_table r x ∙ e))
  where
    Zero : Bool → Table → Type 0
    Zero mark t = f (tick_taken_so (settle t r.state mark) (tick_taken t r.state mark).answer) ≡ 0

    now : (x : Event) → over_ticks f (taken_ticks (event_of r x).run es) ≡ 0 →
        over_ticks f (taken_by r x (event_of r x).answer ++ taken_ticks (event_of r x).run es) ≡ 0
    now (Release k) rest = rest
    now (Tick mark) rest =
        tick_ind
        (λ (a : Answered Run).
        over_ticks f (taken_ticks a.run es) ≡ 0 →
        over_ticks f (taken_by r (Tick mark) a.answer ++ taken_ticks a.run es) ≡ 0)
        r
        mark
        (λ why q. q)
        (λ y q. omega (arith, subst (Zero mark) (sym e) (h r.state mark)))
        rest

no_empty_turn : (t : Table) (i : ℕ) → (server_at t i).kind ≡ EventKind → (r : Run) (es : List Event) → r.table ≡ t →
    over_ticks (λ m. empty_turn m.answer.turn i) (taken_ticks r es) ≡ 0
no_empty_turn t i k =
    over_zero (λ m. empty_turn m.answer.turn i) t
    (λ s mark. never_empty t (settle t s mark).state i k _ (sym (answer_turn t s mark)))

-- The longest row.
module _ (t : Table) (i : ℕ) where
  passed : (m : TakenTick) → passed_over t i m ≡ true → PassedOver t i m
  unfolding passed_over
  passed m e =
      let w : Bool = waits t m.found i in
      let c : Bool = eqb (charged m.answer.turn i) 0 in
      (first_so w c e, eqb-true (charged m.answer.turn i) 0 (second_so w c e))

  is_passed : (m : TakenTick) → PassedOver t i m → passed_over t i m ≡ true
  unfolding passed_over
  is_passed m p =
      and_from (waits t m.found i) (eqb (charged m.answer.turn i) 0) p.0
      (eq-eqb (charged m.answer.turn i) 0 p.1)

  -- the first ticks
  first_row : (ms : List TakenTick) →
      (row_from (passed_over t i) ms ≤ length ms) × AllPassedOver t i (take (row_from (passed_over t i) ms) ms)
  unfolding row_from
  first_row [] = (omega arith, tt)
  first_row (m ∷ ms) =
      let q = first_row ms in
      if_ind
      (λ (n : ℕ). (n ≤ suc (length ms)) × AllPassedOver t i (take n (m ∷ ms)))
      (passed_over t i m)
      (λ e. (omega (arith, q.0), (passed m e, q.1)))
      (λ e. (omega arith, tt))

  row_there_lem : (ms : List TakenTick) →
      (s : ℕ) × (s + longest_row (passed_over t i) ms ≤ length ms) ×
      AllPassedOver t i (in_row ms s (longest_row (passed_over t i) ms))
  unfolding longest_row
  row_there_lem [] = (0, omega arith, tt)
  row_there_lem (m ∷ ms) =
      let a = first_row (m ∷ ms) in
      let b = row_there_lem ms in
      if_ind
      (λ (n : ℕ). (s : ℕ) × (s + n ≤ suc (length ms)) × AllPassedOver t i (in_row (m ∷ ms) s n))
      (ltb (row_from (passed_over t i) (m ∷ ms)) (longest_row (passed_over t i) ms))
      (λ e. (suc b.0, omega (arith, b.1), b.2))
      (λ e. (0, omega (arith, a.0), a.1))

  first_most : (ms : List TakenTick) (w : ℕ) → w ≤ length ms → AllPassedOver t i (take w ms) →
      w ≤ row_from (passed_over t i) ms
  unfolding row_from
  first_most ms zero h p = omega arith
  first_most [] (suc w) h p = absurd (omega arith)
  first_most (m ∷ ms) (suc w) h p =
      rw (is_passed m p.0) (omega (arith, first_most ms w (omega arith) p.1))

  none_longer : (ms : List TakenTick) (s w : ℕ) → s + w ≤ length ms → AllPassedOver t i (in_row ms s w) →
      w ≤ longest_row (passed_over t i) ms
  unfolding longest_row
  none_longer ms zero w h p =
      omega (arith, first_most ms w (omega arith) p, first_within (passed_over t i) ms)
  none_longer [] (suc s) w h p = absurd (omega arith)
  none_longer (m ∷ ms) (suc s) w h p =
      omega (
        arith,
        none_longer ms s w (omega arith) p,
        larger_right (row_from (passed_over t i) (m ∷ ms)) (longest_row (passed_over t i) ms),
      )

pub morning_concludes : MorningConcludes
morning_concludes t es z e =
    let r = fresh_run t in
    let ms = taken_ticks r es in
    record {
      modes =
          omega (
            arith,
            over_answers (λ a. in_this_mode N a.mode) r es,
            over_answers (λ a. in_this_mode D1 a.mode) r es,
            over_answers (λ a. in_this_mode D2 a.mode) r es,
            modes_add ms,
          );
      ticks = omega (arith, ticks_taken r es);
      charges =
          omega (
            arith,
            sum_cong
                (λ i. (server_numbers r es i).charged)
                (λ i. over_ticks (λ m. charged m.answer.turn i) ms)
                t.nservers
                (λ i l. over_answers (λ a. charged a.turn i) r es),
            over_answers (λ a. is_idle a.turn) r es,
            turns_add t ms (all_fit r es (fresh_run_shaped t z) (fresh_keeps t z e)),
          );
      empty =
          λ i.
          omega (
            arith,
            over_answers (λ a. empty_turn a.turn i) r es,
            over_answers (λ a. charged a.turn i) r es,
            over_le (λ m. empty_turn m.answer.turn i) (λ m. charged m.answer.turn i) ms
                (λ m. empty_charged m.answer.turn i),
          );
      event = λ i k. over_answers (λ a. empty_turn a.turn i) r es ∙ no_empty_turn t i k r es refl;
      row = λ i. row_there_lem t i ms;
      longest = λ i. none_longer t i ms;
      jobs = jobs_balance_of t es z e;
      discards = sym (discarded_by_task r es t.ntasks refl);
    }

pub morning_from_the_text : MorningFromTheText
unfolding report morning_lines
morning_from_the_text text events t n q =
    let taken = reading_0 (shown (read text)).answer n in
    rw q (
      rw taken,
      morning_concludes _ (events_in (event_lines events)) (read_sized text taken) (read_keeps text taken),
    )

-- A refused line.
refused_why : (a : Answer) → 1 ≤ no_of a → (why : Refusal) × (a ≡ No why)
refused_why (Released k) h = absurd (omega arith)
refused_why (Ticked a) h = absurd (omega arith)
refused_why (No why) h = (why, refl)

none_taken : (r : Run) (e : Event) (a : Answer) (why : Refusal) → a ≡ No why → taken_by r e a ≡ []
none_taken r (Release k) a why q = refl
none_taken r (Tick mark) a why q = rw q

-- the ticks taken and the run after refused lines and then others are those of the others
gone : (r : Run) (ls : List (Option Event)) (fs : List Event) → AllRefused r ls →
    (taken_ticks r (events_in ls ++ fs) ≡ taken_ticks r fs) × (after r (events_in ls ++ fs) ≡ after r fs)
unfolding taken_ticks after_in events_in
gone r [] fs h = (refl, refl)
gone r (None ∷ ls) fs h = gone r ls fs h.1
gone r (Some e ∷ ls) fs h =
    let w = refused_why (event_of r e).answer h.0 in
    let same = refused_as_it_was r e w.0 w.1 in
    let q = gone (event_of r e).run ls fs h.1 in (
      ap
          (λ (ms : List TakenTick). ms ++ taken_ticks (event_of r e).run (events_in ls ++ fs))
          (none_taken r e (event_of r e).answer w.0 w.1)
          ∙ q.0
          ∙ ap (λ (x : Run). taken_ticks x fs) same,
      q.1 ∙ ap (λ (x : Run). after x fs) same,
    )

pub refused_count_nowhere : RefusedCountNowhere
refused_count_nowhere r before ls later h =
    let bs = events_in before in
    let fs = events_in later in
    let q = gone (after r bs) ls fs (rw (after_lines_lem r before) at h) in
    rw (events_append before (ls ++ later), events_append ls later, events_append before later)
    (same_page r (bs ++ (events_in ls ++ fs)) (bs ++ fs)
    (taken_append r bs (events_in ls ++ fs)
    ∙ ap (λ (ms : List TakenTick). taken_ticks r bs ++ ms) q.0
    ∙ sym (taken_append r bs fs))
    (after_append r bs (events_in ls ++ fs) ∙ q.1 ∙ sym (after_append r bs fs)))

pub empty_file : EmptyFile
unfolding split closed_lines event_lines events_in answers_in taken_ticks after_in over_all discarded_of longest_row
empty_file t =
    record {
      servers = λ i. refl;
      tasks = λ k. rw (zeros 64 k);
      modes = λ m. refl;
    }
