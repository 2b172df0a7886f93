-- Request No. 5 of document 02: "Does this table fit, yes or no." What the commissioning crew may
-- conclude from the answer. proofs/Fits.antt proves it.
use Rattle.std.specs.Prelude.{◌≡◌, true, false, ◌||◌, List, [], ◌∷◌, ◌⊎◌, ◌↔◌, ℕ, ◌+◌, ◌≤◌, ◌<◌, get_or}
use Rattle.table.specs.declared.Mode.{Mode}
use Rattle.table.specs.declared.Mode.TheVariants.{N, D1, D2}
use Rattle.table.specs.declared.Table.{Table}
use Rattle.table.specs.Rows.{server_at, period_at, capacity_at, is_timed, mode_value}
use Rattle.table.specs.Rules.{table_keeps}
use Rattle.text.specs.Read.{reading_number, read, shown}
use Rattle.verdict.specs.declared.Verdict.TheVariants.{Response, Misses}
use Rattle.table.specs.declared.ByMode.{ByMode}
use Rattle.verdict.specs.declared.Fits.{Fits}
use Rattle.verdict.specs.declared.Fits.TheVariants.{Yes, Miss}
use Rattle.verdict.specs.Verdict.{verdict_of}
use Rattle.verdict.specs.Fits.{verdicts_of, from_verdicts, fits_of, fits_number, fits_values}
use Rattle.run.specs.declared.Run.{Run}
use Rattle.events.specs.declared.Event.{Event}
use Rattle.run.specs.Sound.{sound}
use Rattle.run.specs.Release.{fresh_run, start_of}
use Rattle.run.specs.Found.{TakenTick, taken_ticks}
use Rattle.fitting.specs.Fits.{run_fits}
use Rattle.promises.specs.Bounds.{in_row, charges, normal, whole_period, waits_until}
use Rattle.verdict.specs.declared.Verdict.{Verdict}

-- "A table or state refused by 13 is refused here too." Nothing else is.
abbrev pub Refused13 : Type 0
Refused13 =
    (t : Table) →
    ((fits_number (fits_of t) ≡ 13) ↔ (table_keeps t ≡ false)) ×
    ((fits_number (fits_of t) ≡ 0) ↔ (table_keeps t ≡ true))

abbrev pub StateRefused13 : Type 0
StateRefused13 =
    (r : Run) →
    ((fits_number (run_fits r) ≡ 13) ↔ (sound r ≡ false)) ×
    ((fits_number (run_fits r) ≡ 0) ↔ (sound r ≡ true))

-- A sound state is answered what its table is, whatever the run has come to.
abbrev pub StateAsTable : Type 0
StateAsTable = (r : Run) → sound r ≡ true → run_fits r ≡ fits_of r.table

-- "whether any server misses in any of the three modes": yes exactly if no verdict does
abbrev pub YesExactly : Type 0
YesExactly =
    (t : Table) → table_keeps t ≡ true →
    (fits_of t ≡ Yes) ↔ ((m : Mode) (i : ℕ) → i < t.nservers → verdict_of t i m ≡ Misses → ⊥)

-- "the least mode in the order N, D1, D2, then the least row": row j in mode n comes before row i in
-- mode m
abbrev pub Earlier : Mode → ℕ → Mode → ℕ → Type 0
Earlier n j m i = (mode_value n < mode_value m) ⊎ ((n ≡ m) × (j < i))

-- "name it": a miss is named exactly if it is one and none comes before it
abbrev pub MissExactly : Type 0
MissExactly =
    (t : Table) (m : Mode) (i : ℕ) → table_keeps t ≡ true →
    (fits_of t ≡ Miss m i) ↔
    ((i < t.nservers) × (verdict_of t i m ≡ Misses) ×
    ((n : Mode) (j : ℕ) → Earlier n j m i → verdict_of t j n ≡ Misses → ⊥))

-- The answer as numbers: 1 for yes, or 0 with the mode and the row.
abbrev pub ValuesTell : Type 0
ValuesTell =
    (a : Fits) →
    ((fits_values a ≡ 1 ∷ []) ↔ (a ≡ Yes)) ×
    ((m : Mode) (i : ℕ) → (fits_values a ≡ 0 ∷ mode_value m ∷ i ∷ []) ↔ (a ≡ Miss m i))

-- "The answer must equal the one read from all verdicts written out": they are the verdicts of the
-- rows, in all three modes.
pub record Written (t : Table) (i : ℕ) (v : ByMode Verdict) : Type 0 where
  pub n : v.n ≡ verdict_of t i N
  pub d1 : v.d1 ≡ verdict_of t i D1
  pub d2 : v.d2 ≡ verdict_of t i D2

abbrev pub ReadFromAll : Type 0
ReadFromAll =
    (t : Table) → table_keeps t ≡ true →
    (fits_of t ≡ from_verdicts (verdicts_of t)) ×
    ((i : ℕ) (d : ByMode Verdict) → i < t.nservers → Written t i (get_or (verdicts_of t) i d))

-- 01: "For capacity 0 the response is 0." Such a row is never named.
abbrev pub WithoutCapacityNever : Type 0
WithoutCapacityNever =
    (t : Table) (m : Mode) (i : ℕ) → capacity_at t m i ≡ 0 → fits_of t ≡ Miss m i → ⊥

-- A table that fits: every row has a response in every mode, within its period.
abbrev pub AllRespond : Type 0
AllRespond =
    (t : Table) (m : Mode) (i : ℕ) → fits_of t ≡ Yes → i < t.nservers →
    (R : ℕ) × (verdict_of t i m ≡ Response (record { 0 = R })) × (R ≤ period_at t i)

-- "And while the mode has been normal since the start, a server of normal capacity C, at least 1, with
-- verdict R is charged exactly C ticks, all within the first R, in each whole period where it is
-- timed, or has a waiting job at each tick until C is reached": of every server, R being there.
abbrev pub EachServed : Table → List TakenTick → Type 0
EachServed t ms =
    (i s T C : ℕ) → i < t.nservers → T ≡ period_at t i → C ≡ capacity_at t N i → 1 ≤ C →
    normal (in_row ms 0 (s + T)) ≡ true → whole_period t i (in_row ms s T) ≡ true →
    (is_timed (server_at t i).kind || waits_until t i C (in_row ms s T)) ≡ true →
    (charges i (in_row ms s T) ≡ C) ×
    ((R : ℕ) × (verdict_of t i N ≡ Response (record { 0 = R })) × (R ≤ T) ×
    (charges i (in_row ms s R) ≡ C))

-- "Start afresh with an accepted table and send any events": if it fits, condition 3's second bound
-- holds of each server of capacity at least 1, with no verdict to be asked for.
abbrev pub FitsThenServed : Type 0
FitsThenServed =
    (t : Table) (es : List Event) → fits_of t ≡ Yes → EachServed t (taken_ticks (fresh_run t) es)

-- The same from the text: one that is read, and a start with the table that is handed back.
abbrev pub FitsFromTheText : Type 0
FitsFromTheText =
    (text : List ℕ) (t : Table) (es : List Event) → reading_number (shown (read text)).answer ≡ 0 →
    t ≡ (shown (read text)).table → fits_of t ≡ Yes → EachServed t (taken_ticks (start_of t).run es)
