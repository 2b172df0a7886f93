-- 01, One night in full: "Event lines are `R⇥task` and `T⇥mark`, numbers as in tables; another
-- line, a mark above 1 included, or an unclosed last one, answers `?⇥no⇥1`."
use Rattle.std.specs.Prelude.{Bool, List, [], ◌∷◌, ℕ, leb, eqb, length, get_or, if◌then◌else◌, None, Option, Some}
use Rattle.laws.specs.Choice.{every}
use Rattle.decimal.specs.Number.{is_number, worth}
use Rattle.decimal.specs.Lines.{tab, line_feed, split, same}
use Rattle.events.specs.declared.Event.TheVariants.{Release, Tick}
use Rattle.lines.specs.Words.{release_letter, tick_letter}
use Rattle.events.specs.declared.Event.{Event}

-- `R⇥task`
unfoldable pub release_form : List (List ℕ) → List Bool
release_form fs = eqb (length fs) 2 ∷ same (get_or fs 0 []) release_letter ∷ is_number (get_or fs 1 []) ∷ []

-- `T⇥mark`, the mark 0 or 1
unfoldable pub tick_form : List (List ℕ) → List Bool
tick_form fs =
    eqb (length fs) 2
    ∷ same (get_or fs 0 []) tick_letter
    ∷ is_number (get_or fs 1 [])
    ∷ leb (worth (get_or fs 1 [])) 1
    ∷ []

unfoldable pub event_said : List (List ℕ) → Option Event
event_said fs =
    if every (release_form fs) then Some (Release (worth (get_or fs 1 [])))
    else (if every (tick_form fs) then Some (Tick (eqb (worth (get_or fs 1 [])) 1))
    else None)

-- what a line says, without its line feed
unfoldable pub event_line : List ℕ → Option Event
event_line l = event_said (split tab l)

-- The lines of an event file, from the parts that its line feeds leave: the last part is nothing,
-- or an unclosed line.
unfoldable pub closed_lines : List (List ℕ) → List (Option Event)
closed_lines [] = []
closed_lines ([] ∷ []) = []
closed_lines ((b ∷ l) ∷ []) = None ∷ []
closed_lines (l ∷ (m ∷ ms)) = event_line l ∷ closed_lines (m ∷ ms)

unfoldable pub event_lines : List ℕ → List (Option Event)
event_lines text = closed_lines (split line_feed text)
