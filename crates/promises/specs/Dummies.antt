-- 01, How we will read your contracts: "Dummies we will try". No function that meets the contract,
-- on inputs that code can hold, is one of them. proofs/Dummies.antt proves it.
use Rattle.std.specs.Prelude.{◌≡◌, Bool, true, List, ◌⊎◌, ℕ, ◌+◌, ◌≤◌, ◌<◌, Result}
use Rattle.laws.specs.Rows.{sum_below}
use Rattle.table.specs.declared.Mode.{Mode}
use Rattle.table.specs.declared.Table.{Table}
use Rattle.table.specs.Rows.{capacity_at}
use Rattle.table.specs.Rules.{table_keeps}
use Rattle.table.specs.Inner.{Sized}
use Rattle.text.specs.Read.{reading_number, read, shown}
use Rattle.verdict.specs.declared.Verdict.{Verdict}
use Rattle.verdict.specs.declared.Verdict.TheVariants.{Misses}
use Rattle.verdict.specs.Verdict.{verdict_of}
use Rattle.run.specs.declared.Run.{Run}
use Rattle.events.specs.declared.Turn.TheVariants.{Idle}
use Rattle.events.specs.declared.TickAnswer.{TickAnswer}
use Rattle.events.specs.declared.Answer.TheVariants.{Ticked}
use Rattle.events.specs.declared.Answered.{Answered}
use Rattle.run.specs.State.{used_at, waiting_at}
use Rattle.events.specs.Answers.{no_of, charged}
use Rattle.run.specs.Release.{release_of}
use Rattle.run.specs.Tick.{tick_of}
use Rattle.events.specs.Count.{any_finished, any_cut}
use Rattle.promises.specs.Condition2.{RunSized}
use Rattle.text.specs.declared.ReadError.{ReadError}
use Rattle.text.specs.TableText.{handed, answer_in}

-- The contracts.
abbrev pub Reads : (List ℕ → Result Table ReadError) → Type 0
Reads f = (text : List ℕ) → f text ≡ handed (shown (read text))

abbrev pub Releases : (Run → ℕ → Answered Run) → Type 0
Releases f = (r : Run) (k : ℕ) → RunSized r → f r k ≡ release_of r k

abbrev pub Ticks : (Run → Bool → Answered Run) → Type 0
Ticks f = (r : Run) (mark : Bool) → RunSized r → f r mark ≡ tick_of r mark

abbrev pub Judges : (Table → ℕ → Mode → Verdict) → Type 0
Judges f = (t : Table) (i : ℕ) (m : Mode) → Sized t → f t i m ≡ verdict_of t i m

-- "one refusing everything"
abbrev pub NoReader : Type 0
NoReader =
    (f : List ℕ → Result Table ReadError) → Reads f →
    ((text : List ℕ) → 1 ≤ reading_number (answer_in (f text))) → ⊥

abbrev pub NoRelease : Type 0
NoRelease =
    (f : Run → ℕ → Answered Run) → Releases f →
    ((r : Run) (k : ℕ) → RunSized r → 1 ≤ no_of (f r k).answer) → ⊥

abbrev pub RefusesEverything : (Run → Bool → Answered Run) → Type 0
RefusesEverything f = (r : Run) (mark : Bool) → RunSized r → 1 ≤ no_of (f r mark).answer

-- "one always idle": each tick that it takes says so
abbrev pub AlwaysIdle : (Run → Bool → Answered Run) → Type 0
AlwaysIdle f =
    (r : Run) (mark : Bool) (a : TickAnswer) → RunSized r → (f r mark).answer ≡ Ticked a → a.turn ≡ Idle

-- "a run that hands its state back untouched", though it takes the tick
abbrev pub Untouched : (Run → Bool → Answered Run) → Type 0
Untouched f =
    (r : Run) (mark : Bool) (a : TickAnswer) → RunSized r → (f r mark).answer ≡ Ticked a →
    (f r mark).run.state ≡ r.state

-- "one that schedules the first tick and repeats that answer": of two ticks taken one after the
-- other the second says what the first did
abbrev pub Repeats : (Run → Bool → Answered Run) → Type 0
Repeats f =
    (r : Run) (mark next : Bool) (a b : TickAnswer) → RunSized r → (f r mark).answer ≡ Ticked a →
    (f (f r mark).run next).answer ≡ Ticked b → b.turn ≡ a.turn

-- "one that reports invented discards or charges", be it on one run only
pub record Invents (f : Run → Bool → Answered Run) : Type 0 where
  pub run : Run
  pub mark : Bool
  pub says : TickAnswer
  pub held : RunSized run
  pub taken : (f run mark).answer ≡ Ticked says

-- what waited is not what waits, left or, as it says, was discarded
pub record InventsDiscards (f : Run → Bool → Answered Run) : Type 0 where
  pub case : Invents f
  pub discards :
      sum_below case.run.table.ntasks (waiting_at (f case.run case.mark).run.state) +
      (any_finished case.says.left + any_cut case.says.left) +
      case.says.discarded ≡
      sum_below case.run.table.ntasks (waiting_at case.run.state) → ⊥

-- the server that it says was charged is none, has used nothing, or more than the mode allows
pub record InventsCharges (f : Run → Bool → Answered Run) : Type 0 where
  pub case : Invents f
  pub server : ℕ
  pub charge : charged case.says.turn server ≡ 1
  pub not :
      (case.run.table.nservers ≤ server) ⊎
      ((used_at (f case.run case.mark).run.state server ≡ 0) ⊎
      (capacity_at case.run.table case.says.mode server <
      used_at (f case.run case.mark).run.state server))

pub record NoDummy (f : Run → Bool → Answered Run) : Type 0 where
  pub refuses : RefusesEverything f → ⊥
  pub idle : AlwaysIdle f → ⊥
  pub untouched : Untouched f → ⊥
  pub repeats : Repeats f → ⊥
  pub discards : InventsDiscards f → ⊥
  pub charges : InventsCharges f → ⊥

abbrev pub NoTick : Type 0
NoTick = (f : Run → Bool → Answered Run) → Ticks f → NoDummy f

-- "a verdict that is always "misses"", where there is a capacity
abbrev pub NoVerdict : Type 0
NoVerdict =
    (f : Table → ℕ → Mode → Verdict) → Judges f →
    ((t : Table) (i : ℕ) (m : Mode) → Sized t → table_keeps t ≡ true → i < t.nservers →
    1 ≤ capacity_at t m i → f t i m ≡ Misses) →
    ⊥
