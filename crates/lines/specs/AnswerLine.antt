-- 01, One night in full: the answers as they are printed. "tick, mode, what, server, task, how the
-- earlier job left, its task, discarded. An `idle` tick shows `-` for server and task." Lines are
-- parted by tabs, each closed by a line feed.
use Rattle.std.specs.Prelude.{List, [], ◌∷◌, ◌++◌, map, ℕ, None, Option, Some}
use Rattle.decimal.specs.Number.{digits}
use Rattle.decimal.specs.Lines.{tab, line_feed, join}
use Rattle.table.specs.declared.Refusal.TheVariants.{Malformed}
use Rattle.table.specs.Refusals.{number_of}
use Rattle.text.specs.Read.{reading_number, reading_values}
use Rattle.events.specs.declared.Turn.{Turn}
use Rattle.events.specs.declared.Turn.TheVariants.{Run as Ran, Empty, Idle}
use Rattle.events.specs.declared.Left.{Left}
use Rattle.events.specs.declared.Left.TheVariants.{Nobody, Done, Cut}
use Rattle.events.specs.declared.TickAnswer.{TickAnswer}
use Rattle.events.specs.declared.Event.TheVariants.{Release, Tick}
use Rattle.events.specs.declared.Told.{Told}
use Rattle.events.specs.declared.Told.TheVariants.{No, Released, Ticked}
use Rattle.lines.specs.Words.{release_letter, tick_letter, another_letter, ok_word, no_word, run_word}
use Rattle.lines.specs.Words.{empty_word, idle_word, done_word, cut_word, dash, table_word, mode_word}
use Rattle.events.specs.declared.Event.{Event}
use Rattle.text.specs.TableText.{Reading}

-- "what, server, task"
abbrev pub turn_fields : Turn → List (List ℕ)
turn_fields (Ran i k) = run_word ∷ digits i ∷ digits k ∷ []
turn_fields (Empty i) = empty_word ∷ digits i ∷ dash ∷ []
turn_fields Idle = idle_word ∷ dash ∷ dash ∷ []

-- "how the earlier job left, its task"
abbrev pub left_fields : Left → List (List ℕ)
left_fields Nobody = dash ∷ dash ∷ []
left_fields (Done k) = done_word ∷ digits k ∷ []
left_fields (Cut k) = cut_word ∷ digits k ∷ []

-- "tick, mode, what, server, task, how the earlier job left, its task, discarded"
abbrev pub tick_fields : TickAnswer → List (List ℕ)
tick_fields a =
    digits a.tick.0 ∷ mode_word a.mode ∷ (turn_fields a.turn ++
    (left_fields a.left ++ (digits a.discarded ∷ [])))

-- what became of the line: "the paper's number" for no
abbrev pub no_fields : ℕ → List (List ℕ)
no_fields number = no_word ∷ digits number ∷ []

abbrev pub outcome : Told → List (List ℕ)
outcome (Released k) = ok_word ∷ []
outcome (Ticked a) = tick_fields a
outcome (No number) = no_fields number

-- a release's answer repeats the task, a tick's does not repeat the mark
abbrev pub answer_fields : Option Event → Told → List (List ℕ)
answer_fields (Some (Release k)) x = release_letter ∷ digits k ∷ outcome x
answer_fields (Some (Tick mark)) x = tick_letter ∷ outcome x
answer_fields None x = another_letter ∷ outcome x

-- "another line .. answers `?⇥no⇥1`"
abbrev pub another_fields : List (List ℕ)
another_fields = answer_fields None (No (number_of Malformed))

-- "A refused table prints only `table⇥no⇥number⇥line`, for 5 with the second line after it." 02,
-- No. 2: "with 1, 2, 3 and all of these give the field", which stands after the line.
abbrev pub refused_fields : Reading → List (List ℕ)
refused_fields a = table_word ∷ no_word ∷ digits (reading_number a) ∷ map digits (reading_values a)

abbrev pub printed : List (List ℕ) → List ℕ
printed = join tab

-- a line of text closed by a line feed
abbrev pub closed_line : List (List ℕ) → List ℕ
closed_line fs = printed fs ++ (line_feed ∷ [])
