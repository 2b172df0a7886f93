-- Servers that start late: what specs/Phases.antt states, proved. Before its phase a server has no
-- capacity in force, so it is not able; a verdict reads no phase; and with all phases 0 each test that
-- looks at one is passed. Assumes nothing.
use Rattle.std.specs.Prelude.{if◌then◌else◌, Option, Some}
use mathlib.Core.Path.{fun_ext, ◌≡◌, refl, ap, ap₂, sym, subst, ◌∙◌}
use mathlib.Core.Bool.{Bool, true, false, ◌&&◌}
use mathlib.Core.List.{List, [], ◌∷◌, ◌++◌}
use Prim.Native.Nat.{ℕ, ◌+◌, ◌<◌}
use native.Mathlib.Omega.{arith}
use native.Mathlib.Nat.{add-zero}
use lib.Dec.{leb, ltb, eqb}
use lib.ListN.{length, get_or, take, length-drop, length-take, get_or-map}
use lib.Seq.{get_or-drop, get_or-take}
use borrow.Author.Tests.{le-leb, lt-leb, lt-ltb, eqb-true}
use Rattle.laws.specs.Choice.{unless◌say◌else◌, every, within}
use Rattle.laws.specs.Search.{least}
use Rattle.laws.specs.Rows.{listed}
use Rattle.laws.proofs.Choice.{within_low}
use Rattle.laws.proofs.Rows.{all_at, all_cong, sum_cong}
use Rattle.laws.proofs.Anew.{anew_cong}
use Rattle.laws.proofs.Highest.{highest_cong}
use Rattle.units.specs.declared.Ticks.{Ticks}
use Rattle.table.specs.declared.Mode.{Mode}
use Rattle.table.specs.declared.Mode.TheVariants.{N, D1, D2}
use Rattle.table.specs.declared.Server.{Server}
use Rattle.table.specs.declared.Table.{Table}
use Rattle.table.specs.Rows.{rows_of, no_server, server_at, priority_at, period_at, phase_at, in_mode, capacity_at}
use Rattle.table.specs.Rules.{server_keeps, keeps, table_keeps}
use Rattle.table.proofs.Rules.{TableRules, table_rules}
use Rattle.verdict.specs.Verdict.{demand, interference, meets, response_at, told, verdict_of}
use Rattle.verdict.specs.declared.Verdict.TheVariants.{No}
use Rattle.table.specs.declared.Refusal.TheVariants.{NoServer}
use Rattle.table.specs.declared.ByMode.{ByMode}
use Rattle.verdict.specs.Fits.{row_verdicts, verdicts_of, from_verdicts, fits_of}
use Rattle.events.specs.declared.Answer.{Answer}
use Rattle.events.specs.declared.Answer.TheVariants.{Ticked}
use Rattle.events.specs.declared.Event.{Event}
use Rattle.events.specs.declared.Event.TheVariants.{Release, Tick}
use Rattle.events.specs.declared.TickAnswer.{TickAnswer}
use Rattle.events.specs.declared.Turn.{Turn}
use Rattle.events.specs.Answers.{charged}
use Rattle.events.specs.Boxes.{after_in, answers_in}
use Rattle.run.specs.declared.State.{State}
use Rattle.run.specs.declared.Run.{Run}
use Rattle.events.specs.declared.Answered.{Answered}
use Rattle.run.specs.State.{used_at, elapsed_at, started, in_force, passes, waits, with_budgets, with_counts}
use Rattle.run.specs.Sound.{sound_server, sound_state, sound}
use Rattle.run.specs.Release.{release_of}
use Rattle.run.specs.Tick.{settle, able, highest_able, highest_task, turn_for, choose, step5, step6, advance, tick_taken, tick_of}
use Rattle.run.specs.Events.{event_of, after, answers}
use Rattle.run.specs.Found.{TakenTick, taken_by, taken_ticks}
use Rattle.run.proofs.Shape.{Shaped, event_table}
use Rattle.run.proofs.Sound.{StateSound, sound_table, sound_state_lem}
use Rattle.run.proofs.Taken.{release_ind, tick_ind, release_taken, ticked_taken}
use Rattle.run.proofs.Tick.{used_settled, elapsed_settled, used_after, elapsed_after, answer_turn}
use Rattle.run.proofs.Tick.{answer_tick, charged_passes, passes_late, started_settled}
use Rattle.morning.specs.Numbers.{passed_over}
use Rattle.promises.specs.Condition2.{table, new}
use Rattle.promises.specs.Bounds.{charges, normal}
use Rattle.promises.specs.Phases.{BeforeItsPhase, ReportedBefore, at_once, all_at_once, VerdictsUnchanged, no_phases}
use Rattle.promises.specs.Phases.{base_server_keeps, base_keeps, base_table_keeps, base_sound_server, base_sound_state, base_sound}
use Rattle.promises.specs.Phases.{base_able, base_choose, base_step7, base_tick_taken, base_event_of, base_box, AllPhases0}
use Rattle.promises.specs.Phases.{late, P9Reached}
use Rattle.promises.proofs.ByTheRules.{held_shaped}
use Rattle.promises.proofs.Ticks.{no_tick, tick_at, Told, tick_on, told_one, told_more}
use Rattle.promises.proofs.Opened.{opened}
use Rattle.verdict.specs.declared.Verdict.{Verdict}

-- A tick before the phase.
Unmoved : Table → ℕ → TickAnswer → State → Type 0
Unmoved t i a z = (charged a.turn i ≡ 0) × (used_at z i ≡ 0) × (elapsed_at z i ≡ 0)

module _ (t : Table) (s : State) (mark : Bool) (rules : TableRules t) (shape : Shaped s) (f : StateSound t s) (i : ℕ)
    (l : i < t.nservers) (h : s.ticks.0 < phase_at t i) where
  abbrev z : State
  z = (settle t s mark).state

  yet : started t s i ≡ false
  yet = lt-leb (phase_at t i) s.ticks.0 h

  none : passes t z i ≡ 0
  none = passes_late t z i (started_settled t s mark i ∙ yet)

  free : charged (choose t z) i ≡ 0
  free = omega (arith, charged_passes t z i, none)

  left : (b : Bool) (n : ℕ) → n ≡ 0 → (if b then 0 else n) ≡ 0
  left true n e = refl
  left false n e = e

  unmoved : Unmoved t i (tick_taken t s mark).answer (tick_taken t s mark).state
  unfolding Unmoved
  unmoved =
      let b = (f.servers i l).before yet in
      let over = eqb (elapsed_at s i) (period_at t i) in
      let u = used_settled t s mark i l rules.servers_high shape ∙ left over (used_at s i) b.0 in
      let e = elapsed_settled t s mark i l rules.servers_high shape ∙ left over (elapsed_at s i) b.1 in (
        ap (λ turn. charged turn i) (answer_turn t s mark) ∙ free,
        omega (arith, used_after t s mark i l rules.servers_high shape, u, free),
        omega (arith, elapsed_after t s mark i l rules.servers_high shape, e, none),
      )

pub before_its_phase : BeforeItsPhase
unfolding Unmoved
before_its_phase x i h l p =
    let r = x.before in
    tick_ind
    (λ (a : Answered Run). a ≡ record { answer = Ticked x.says; run = x.after } →
    Unmoved (table x) i x.says (new x))
    r
    x.mark
    (λ why e.
    let d = ap (λ (a : Answered Run). a.answer) e in
    let z : ◌≡◌ {A = ℕ} 0 1 = cc in
    absurd (omega arith))
    (λ y e.
    let shape = held_shaped r h.held in
    let d = ap (λ (a : Answered Run). a.answer) e in
    let says : (tick_taken r.table r.state x.mark).answer ≡ x.says = cc in
    let number : x.says.tick.0 ≡ r.state.ticks.0 =
    ap (λ (a : TickAnswer). a.tick.0) (sym says) ∙ ap (λ (n : Ticks). n.0) (answer_tick r.table r.state x.mark) in
    let m =
    unmoved r.table r.state x.mark
    (table_rules r.table shape.table (sound_table r y.sound))
    shape.state
    (sound_state_lem r y.sound)
    i
    l
    (omega (arith, p, number)) in
    subst
    (λ (a : TickAnswer). Unmoved (table x) i a (new x))
    says
    (subst
    (λ (z : Run). Unmoved (table x) i (tick_taken r.table r.state x.mark).answer z.state)
    (ap (λ (a : Answered Run). a.run) e)
    m))
    h.taken

-- Each taken tick tells what step 5 found and chose, from any run.
ticks_told : (r : Run) (es : List Event) (x : ℕ) → x < length (taken_ticks r es) →
    Told r.table (tick_at (taken_ticks r es) x)
unfolding taken_ticks
ticks_told r [] x h = absurd (omega arith)
ticks_told r (Release k ∷ es) x h =
    release_ind
    (λ (a : Answered Run). x < length (taken_ticks a.run es) → Told r.table (tick_at (taken_ticks a.run es) x))
    r
    k
    (λ why. ticks_told r es x)
    (λ y. ticks_told (release_taken r k).run es x)
    h
ticks_told r (Tick mark ∷ es) x h =
    tick_ind
    (λ (a : Answered Run). x < length (taken_by r (Tick mark) a.answer ++ taken_ticks a.run es) →
    Told r.table (tick_at (taken_by r (Tick mark) a.answer ++ taken_ticks a.run es) x))
    r
    mark
    (λ why. ticks_told r es x)
    (λ y.
    told_more r.table (tick_on r.table r.state mark) (taken_ticks (ticked_taken r mark).run es)
    (told_one r.table r.state mark)
    (ticks_told (ticked_taken r mark).run es)
    x)
    h

pub reported_before : ReportedBefore
unfolding passed_over
reported_before r es x i m ms e p = rw free (beside (waits r.table m.found i))
  where
    all : List TakenTick
    all = taken_ticks r es

    there : x < length all
    there = omega (arith, ap length e, length-drop x (taken_ticks r es))

    is : tick_at all x ≡ m
    is =
        ap (tick_at (taken_ticks r es)) (sym (add-zero x))
        ∙ sym (get_or-drop x (taken_ticks r es) 0 no_tick)
        ∙ ap (λ (ns : List TakenTick). tick_at ns 0) e

    says : Told r.table m
    says = subst (Told r.table) is (ticks_told r es x there)

    free : charged m.answer.turn i ≡ 0
    free =
        let d = ap (λ (n : Ticks). n.0) says.tick in
        let late = lt-leb (phase_at r.table i) m.found.ticks.0 (omega (arith, p, d)) in
        omega (
          arith,
          ap (λ turn. charged turn i) says.turn,
          charged_passes r.table m.found i,
          passes_late r.table m.found i late,
        )

    beside : (b : Bool) → (b && true) ≡ b
    beside true = refl
    beside false = refl

-- A verdict reads kind, priority, period and capacity of the rows, and nothing else of a server.
module _ (t u : Table) (h : all_at_once t ≡ all_at_once u) where
  count : t.nservers ≡ u.nservers
  count = ap (λ (x : Table). x.nservers) h

  row : (j : ℕ) → at_once (server_at t j) ≡ at_once (server_at u j)
  row j =
      sym (get_or-map at_once t.servers j no_server)
      ∙ ap (λ (x : Table). get_or x.servers j no_server) h
      ∙ get_or-map at_once u.servers j no_server

  priority : (j : ℕ) → priority_at t j ≡ priority_at u j
  priority j = ap (λ (s : Server). s.priority) (row j)

  period : (j : ℕ) → period_at t j ≡ period_at u j
  period j = ap (λ (s : Server). s.period.0) (row j)

  capacity : (m : Mode) (j : ℕ) → capacity_at t m j ≡ capacity_at u m j
  capacity m j = ap (λ (s : Server). (in_mode s.capacity m).0) (row j)

  asks : (m : Mode) (i R : ℕ) → interference t m i R ≡ interference u m i R
  unfolding interference
  asks m i R =
      rw (count, priority i)
      (sum_cong
      (λ j. if ltb (priority_at u i) (priority_at t j)
      then demand (server_at t j).kind (period_at t j) (capacity_at t m j) R else 0)
      (λ j. if ltb (priority_at u i) (priority_at u j)
      then demand (server_at u j).kind (period_at u j) (capacity_at u m j) R else 0)
      u.nservers
      (λ j l.
      ap
      (λ (s : Server).
      if ltb (priority_at u i) s.priority then demand s.kind s.period.0 (in_mode s.capacity m).0 R else 0)
      (row j)))

  response : (m : Mode) (i : ℕ) → response_at t m i ≡ response_at u m i
  unfolding response_at meets
  response m i =
      let meet =
      fun_ext (λ (R : ℕ). ap₂ (λ (c n : ℕ). leb (c + n) R) (capacity m i) (asks m i R)) in
      rw (capacity m i, period i)
      (ap (λ (p : ℕ → Bool). if eqb (capacity_at u m i) 0 then Some 0 else least p 1 (period_at u i)) meet)

  verdict : table_keeps t ≡ true → table_keeps u ≡ true → (i : ℕ) (m : Mode) → verdict_of t i m ≡ verdict_of u i m
  unfolding verdict_of
  verdict e g i m =
      rw (e, g)
      (ap₂ (λ (n : ℕ) (a : Option ℕ). unless ltb i n say No NoServer else told a) count (response m i))

  fit : table_keeps t ≡ true → table_keeps u ≡ true → fits_of t ≡ fits_of u
  unfolding fits_of verdicts_of
  fit e g =
      let same : row_verdicts t ≡ row_verdicts u =
      fun_ext
      (λ (i : ℕ). rw (verdict e g i N, verdict e g i D1, verdict e g i D2)) in
      rw (e, g) (ap (λ (rows : ℕ → ByMode Verdict). from_verdicts (listed 32 rows)) same)

pub verdicts_unchanged : VerdictsUnchanged
verdicts_unchanged t u e g h = (verdict t u h e g, fit t u h e g)

-- With all phases 0 every server has started at every tick.
row_was : (s : Server) → s.phase.0 ≡ 0 → every (server_keeps s) ≡ every (base_server_keeps s)
unfolding server_keeps every
row_was s e = go (within 1 1000000 s.period.0) refl
  where
    go : (b : Bool) → within 1 1000000 s.period.0 ≡ b → every (server_keeps s) ≡ every (base_server_keeps s)
    go true q =
        rw (q, lt-ltb s.phase.0 s.period.0 (omega (arith, e, within_low 1 1000000 s.period.0 q)))
    go false q = rw q

aged : State → List ℕ → State
aged s xs = with_counts (with_budgets s s.used xs) (record { 0 = s.ticks.0 + 1 }) s.accepted

module _ (t : Table) (n : no_phases t ≡ true) where
  phase_0 : (i : ℕ) → i < t.nservers → phase_at t i ≡ 0
  phase_0 i l = eqb-true (phase_at t i) 0 (all_at (λ i. eqb (phase_at t i) 0) t.nservers i n l)

  begun : (s : State) (i : ℕ) → i < t.nservers → started t s i ≡ true
  begun s i l = le-leb (phase_at t i) s.ticks.0 (omega (arith, phase_0 i l))

  able_was : (s : State) (i : ℕ) → i < t.nservers → able t s i ≡ base_able t s i
  unfolding able in_force
  able_was s i l = rw (begun s i l)

  choose_was : (s : State) → choose t s ≡ base_choose t s
  unfolding choose highest_able
  choose_was s =
      ap (turn_for (highest_task t s)) (highest_cong t.nservers (able t s) (base_able t s) (priority_at t) (able_was s))

  advance_was : (s : State) (turn : Turn) → advance t s turn ≡ base_step7 t (step6 t (step5 t s turn) turn)
  unfolding advance aged
  advance_was s turn =
      ap (aged (step6 t (step5 t s turn) turn))
      (anew_cong t.nservers (λ i e. e + passes t s i) (λ i e. e + 1) s.elapsed (λ i e l. rw (begun s i l)))

  taken_was : (s : State) (mark : Bool) → tick_taken t s mark ≡ base_tick_taken t s mark
  unfolding tick_taken
  taken_was s mark =
      let z = (settle t s mark).state in
      rw (choose_was z, advance_was z (base_choose t z))

  keeps_was : keeps (rows_of t) ≡ base_keeps (rows_of t)
  unfolding keeps
  keeps_was =
      let ss = take t.nservers t.servers in
      rw
      (all_cong
      (λ i. every (server_keeps (get_or ss i no_server)))
      (λ i. every (base_server_keeps (get_or ss i no_server)))
      (length ss)
      (λ i l.
      let below : i < t.nservers = omega (arith, l, length-take t.nservers t.servers) in
      row_was (get_or ss i no_server)
      (ap (λ (s : Server). s.phase.0) (get_or-take t.nservers t.servers i no_server below) ∙ phase_0 i below)))

  table_was : table_keeps t ≡ base_table_keeps t
  unfolding table_keeps
  table_was = rw keeps_was

  server_was : (s : State) (i : ℕ) → i < t.nservers → every (sound_server t s i) ≡ every (base_sound_server t s i)
  unfolding sound_server every
  server_was s i l = rw (begun s i l)

  state_was : (s : State) → sound_state t s ≡ base_sound_state t s
  unfolding sound_state
  state_was s =
      rw
      (all_cong (λ i. every (sound_server t s i)) (λ i. every (base_sound_server t s i)) t.nservers (server_was s))

sound_was : (r : Run) → no_phases r.table ≡ true → sound r ≡ base_sound r
unfolding sound
sound_was r n = rw (table_was r.table n, state_was r.table n r.state)

event_was : (r : Run) (e : Event) → no_phases r.table ≡ true → event_of r e ≡ base_event_of r e
unfolding release_of tick_of
event_was r (Release k) n = rw (sound_was r n)
event_was r (Tick mark) n = rw (sound_was r n, taken_was r.table n r.state mark)

stay : (r : Run) (e : Event) → no_phases r.table ≡ true → no_phases (event_of r e).run.table ≡ true
stay r e n = ap no_phases (event_table r e) ∙ n

answers_was : (r : Run) (es : List Event) → no_phases r.table ≡ true → answers r es ≡ answers_in base_box r es
unfolding answers_in
answers_was r [] n = refl
answers_was r (e ∷ es) n =
    let q = event_was r e n in
    ap₂ (λ (a : Answer) (more : List Answer). a ∷ more)
    (ap (λ (d : Answered Run). d.answer) q)
    (answers_was (event_of r e).run es (stay r e n) ∙ ap (λ (d : Answered Run). answers_in base_box d.run es) q)

after_was : (r : Run) (es : List Event) → no_phases r.table ≡ true → after r es ≡ after_in base_box r es
unfolding after_in
after_was r [] n = refl
after_was r (e ∷ es) n =
    after_was (event_of r e).run es (stay r e n)
    ∙ ap (λ (d : Answered Run). after_in base_box d.run es) (event_was r e n)

pub all_phases_0 : AllPhases0
all_phases_0 = (table_was, λ r es n. (answers_was r es n, after_was r es n))

-- P9, computed.
pub p9_reached : P9Reached
unfolding late opened taken_ticks charges normal
p9_reached = (refl, refl, refl, refl, refl)
