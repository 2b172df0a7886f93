-- 01, One night in full: a table file and an event file, and the whole output.
use Rattle.std.specs.Prelude.{List, [], ◌∷◌, ℕ, Option, Err, Ok}
use Rattle.decimal.specs.Lines.{closed}
use Rattle.text.specs.Read.{read, shown}
use Rattle.run.specs.declared.Run.{Run}
use Rattle.run.specs.Release.{fresh_run}
use Rattle.run.specs.Events.{the_box}
use Rattle.events.specs.Boxes.{Box, told_in, after_line_in}
use Rattle.lines.specs.EventLine.{event_lines}
use Rattle.lines.specs.AnswerLine.{answer_fields, refused_fields, printed}
use Rattle.events.specs.declared.Event.{Event}
use Rattle.text.specs.declared.ReadError.TheVariants.{Equal, Refused}
use Rattle.text.specs.TableText.{Reading}

-- the answers of a box to some event lines, a line each
unfoldable pub answer_lines_in : {S : Type 0} → Box S → S → List (Option Event) → List (List ℕ)
answer_lines_in b s [] = []
answer_lines_in b s (l ∷ ls) = printed (answer_fields l (told_in b s l)) ∷ answer_lines_in b (after_line_in b s l) ls

-- "Start afresh with an accepted table and send any events"; "A refused table prints only" its one
-- line. The same for every box, whatever its table is.
unfoldable pub night_lines : {S : Type 0} → Box S → Reading → S → List (Option Event) → List (List ℕ)
night_lines b (Ok tt) s ls = answer_lines_in b s ls
night_lines b (Err (Refused why line field)) s ls = printed (refused_fields (Err (Refused why line field))) ∷ []
night_lines b (Err (Equal first second)) s ls = printed (refused_fields (Err (Equal first second))) ∷ []

abbrev pub answer_lines : Run → List (Option Event) → List (List ℕ)
answer_lines r ls = answer_lines_in the_box r ls

unfoldable pub night : List ℕ → List ℕ → List ℕ
night table events =
    let d = shown (read table) in
    closed (night_lines the_box d.answer (fresh_run d.table) (event_lines events))
