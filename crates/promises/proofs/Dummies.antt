-- Each dummy of specs/Dummies.antt is refuted by one input, worked out; those that invent
-- something, by the rules of a tick. Assumes nothing.
use Rattle.std.proofs.Common.{Result}
use mathlib.Core.Path.{◌≡◌, refl, ap, sym, ◌∙◌}
use mathlib.Core.Bool.{Bool, false}
use mathlib.Core.Logic.{inl, inr}
use Prim.Native.Nat.{ℕ}
use native.Mathlib.Omega.{arith}
use Rattle.laws.specs.Quoted.{lined}
use Rattle.table.specs.declared.Kind.TheVariants.{Timed}
use Rattle.table.specs.declared.Mode.TheVariants.{N}
use Rattle.text.specs.Read.{reading_number}
use Rattle.verdict.specs.declared.Verdict.TheVariants.{Response}
use Rattle.run.specs.declared.Run.{Run}
use Rattle.run.specs.declared.State.{State}
use Rattle.events.specs.declared.Event.TheVariants.{Tick}
use Rattle.events.specs.declared.Answer.{Answer}
use Rattle.events.specs.declared.Answered.{Answered}
use Rattle.events.specs.Answers.{no_of}
use Rattle.run.specs.Release.{fresh_run}
use Rattle.run.specs.Tick.{tick_of}
use Rattle.table.specs.Example.{example}
use Rattle.promises.specs.Example.{example_text, two}
use Rattle.run.proofs.Shape.{RunShaped, fresh_run_shaped, event_run_shaped}
use Rattle.promises.specs.Condition2.{RunSized, OneTick, ByTheRules}
use Rattle.promises.specs.Dummies.{NoReader, NoRelease, Ticks, RefusesEverything, AlwaysIdle}
use Rattle.promises.specs.Dummies.{Untouched, Repeats, Invents, InventsDiscards}
use Rattle.promises.specs.Dummies.{InventsCharges, NoTick, NoVerdict}
use Rattle.promises.proofs.ByTheRules.{shaped_held}
use Rattle.promises.proofs.Condition2.{every_tick}
use Rattle.promises.proofs.RulesSettle.{charged_top}
use Rattle.promises.proofs.Opened.{opened}
use Rattle.table.specs.declared.Table.{Table}
use Rattle.text.specs.declared.ReadError.{ReadError}
use Rattle.text.specs.TableText.{handed, answer_in}

pub no_reader : NoReader
unfolding opened handed
no_reader f h d =
    let text = lined example_text in
    let e : reading_number (answer_in (f text)) ≡ 0 =
    ap (λ (r : Result Table ReadError). reading_number (answer_in r)) (h text)
    in
    omega (arith, e, d text)

held_example : RunSized (fresh_run example)
unfolding opened
held_example = shaped_held (fresh_run_shaped example (record { servers = refl; tasks = refl }))

pub no_release : NoRelease
unfolding opened
no_release f h d =
    let r = fresh_run example in
    let e : no_of (f r 0).answer ≡ 0 = ap (λ (a : Answered Run). no_of a.answer) (h r 0 held_example) in
    omega (arith, e, d r 0 held_example)

pub no_verdict : NoVerdict
unfolding opened
no_verdict f h d =
    let e : f example 0 N ≡ Response (record { 0 = 2 }) = h example 0 N held_example.table in
    let m = d example 0 N held_example.table refl (omega arith) (omega arith) in
    let z : ◌≡◌ {A = ℕ} 0 1 = cc in
    omega arith

-- Two timed servers of period 2 and capacity 1: tick 0 charges row 0, tick 1 row 1.
abbrev start : Run
start = fresh_run (two Timed 2 1 2 1)

abbrev next : Run
next = (tick_of start false).run

shaped : RunShaped start
unfolding opened
shaped = fresh_run_shaped (two Timed 2 1 2 1) (record { servers = refl; tasks = refl })

held_start : RunSized start
held_start = shaped_held shaped

held_next : RunSized next
held_next = shaped_held (event_run_shaped start (Tick false) shaped)

module _ (f : Run → Bool → Answered Run) (h : Ticks f) where
  first : (f start false).answer ≡ (tick_of start false).answer
  first = ap (λ (a : Answered Run). a.answer) (h start false held_start)

  refuses : RefusesEverything f → ⊥
  unfolding opened
  refuses d = omega (arith, ap no_of first, d start false held_start)

  idle : AlwaysIdle f → ⊥
  unfolding opened
  idle d = let e = d start false _ held_start first in let z : ◌≡◌ {A = ℕ} 0 1 = cc in omega arith

  untouched : Untouched f → ⊥
  unfolding opened
  untouched d =
      let e : (f start false).run.state.ticks.0 ≡ 1 =
      ap (λ (a : Answered Run). a.run.state.ticks.0) (h start false held_start) in
      omega (arith, e, ap (λ (s : State). s.ticks.0) (d start false _ held_start first))

  repeats : Repeats f → ⊥
  unfolding opened
  repeats d =
      let second =
      ap (λ (r : Run). (f r false).answer) (ap (λ (a : Answered Run). a.run) (h start false held_start)) ∙
      ap (λ (a : Answered Run). a.answer) (h next false held_next) in
      let e = d start false false _ _ held_start first second in
      let z : ◌≡◌ {A = ℕ} 0 1 = cc in
      omega arith

  -- what it takes goes by the rules
  abbrev tick_by : Invents f → OneTick
  tick_by c = record { before = c.run; mark = c.mark; says = c.says; after = (f c.run c.mark).run }

  rules : (c : Invents f) → ByTheRules (tick_by c)
  rules c =
      every_tick (tick_by c)
      (record {
        held = c.held;
        taken =
            sym (h c.run c.mark c.held) ∙
            ap (λ (a : Answer). record { answer = a; run = (f c.run c.mark).run }) c.taken;
      })

  discards : InventsDiscards f → ⊥
  discards d = d.discards (rules d.case).step2.counted

  charges : InventsCharges f → ⊥
  charges d =
      let r = rules d.case in
      let top = charged_top (tick_by d.case) r d.server d.case.says.turn refl d.charge in
      let used = r.step5.charged d.server top in
      let below = top.0.below in
      elim d.not [
        | inl p ↦ omega (arith, top.0.there)
        | inr (inl p) ↦ omega arith
        | inr (inr p) ↦ omega arith
      ]

pub no_tick_lem : NoTick
no_tick_lem f h =
    record {
      refuses = refuses f h;
      idle = idle f h;
      untouched = untouched f h;
      repeats = repeats f h;
      discards = discards f h;
      charges = charges f h;
    }
