-- 02, No. 1, A morning report, as the program goes through a file: "they are read through a small
-- buffer and the cutting of the file into reads must not show". What stands after some bytes of the
-- file depends on these bytes alone, however they were cut into pieces; that the page is then the
-- report of the whole file is a theorem (proofs/Pieces.antt, `pieces_report`).
use Rattle.std.specs.Prelude.{◌≡◌, Bool, true, false, List, [], ◌∷◌, ◌++◌, ℕ, if◌then◌else◌, Option, None, Some}
use Rattle.decimal.specs.Lines.{closed}
use Rattle.table.specs.declared.Table.{Table}
use Rattle.table.specs.Rules.{table_keeps}
use Rattle.table.specs.Inner.{Sized}
use Rattle.run.specs.declared.Run.{Run}
use Rattle.run.specs.Release.{fresh_run}
use Rattle.run.specs.Many.{after_lines}
use Rattle.run.specs.Found.{taken_ticks}
use Rattle.lines.specs.declared.Held.{Held}
use Rattle.lines.specs.HeldLine.{held_of}
use Rattle.lines.specs.EventLine.{event_lines}
use Rattle.lines.specs.Cutting.{lines_in, left_in}
use Rattle.morning.specs.Numbers.{events_in}
use Rattle.morning.specs.Page.{report_lines}
use Rattle.files.specs.declared.How.{How}
use Rattle.files.specs.declared.How.TheVariants.{On, End, Failed}
use Rattle.report.specs.declared.Morning.{Morning}
use Rattle.report.specs.declared.count.Counts.{Counts}
use Rattle.report.specs.Inner.Count.{Counted, no_counts}

-- What stands between two reads: the run, the line that is not closed yet, and the numbers.
pub record Stand : Type 0 where
  pub run : Run
  pub held : Held
  pub counts : Counts

abbrev pub standing : Morning → Counts → Stand
standing n counts = record { run = n.run; held = n.held; counts = counts }

-- a fresh start with table t: nothing was read, "all zeros"
abbrev pub start_with : Table → Stand
start_with t = record { run = fresh_run t; held = held_of []; counts = no_counts }

-- These bytes of the file were read, from a fresh start with table t: each line that they close was
-- sent to the run, the last one is held, and the columns hold the numbers of the ticks that were
-- taken.
pub record After (t : Table) (bytes : List ℕ) (s : Stand) : Type 0 where
  pub run : s.run ≡ after_lines (fresh_run t) (lines_in [] bytes)
  pub held : s.held ≡ held_of (left_in [] bytes)
  pub counted : Counted t (taken_ticks (fresh_run t) (events_in (lines_in [] bytes))) s.counts
  -- the table keeps the rules, and its arrays have the lengths of every table that code holds
  pub keeps : table_keeps t ≡ true
  pub sized : Sized t

-- some bytes of a file were read so far
abbrev pub AfterSome : Stand → Type 0
AfterSome s = (t : Table) × (bytes : List ℕ) × After t bytes s

-- a piece more, whatever was read before it
abbrev pub Reads : List ℕ → Stand → Stand → Type 0
Reads piece s z = (t : Table) (bytes : List ℕ) → After t bytes s → After t (bytes ++ piece) z

-- some bytes more: what was read is some file
abbrev pub ReadsSome : Stand → Stand → Type 0
ReadsSome s z = (file : List ℕ) × Reads file s z

-- what was read by a turn
abbrev pub piece_of : How → List ℕ → List ℕ
piece_of On bytes = bytes
piece_of End bytes = []
piece_of Failed bytes = []

-- a turn after which the file goes on
abbrev pub goes_on : How → Bool
goes_on On = true
goes_on End = false
goes_on Failed = false

-- a turn after which it was read whole
abbrev pub is_whole : How → Bool
is_whole On = false
is_whole End = true
is_whole Failed = false

-- what was counted, where it was read whole
abbrev pub whole : How → Morning → Option Morning
whole how m = if is_whole how then Some m else None

-- one piece after the other
unfoldable pub ReadsAll : List (List ℕ) → Stand → Stand → Type 0
ReadsAll [] s z = s ≡ z
ReadsAll (p ∷ ps) s z = (m : Stand) × (Reads p s m × ReadsAll ps m z)

-- the file
unfoldable pub joined : List (List ℕ) → List ℕ
joined [] = []
joined (p ∷ ps) = p ++ joined ps

-- The text that is written of what stands: whichever file was read, it is the page of that file.
-- "or an unclosed last one" is a refused line and counts nowhere.
abbrev pub PageOf : Stand → List ℕ → Type 0
PageOf s text =
    (t : Table) (file : List ℕ) → After t file s → text ≡ closed (report_lines (fresh_run t) (events_in (event_lines file)))
