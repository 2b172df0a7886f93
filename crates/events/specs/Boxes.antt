-- A box, whatever it holds: whether what is handed in is sound, what it answers to an event, and what
-- it is after it. It takes events one after the other, in any order; each is taken or refused, and
-- answered.
use Rattle.std.specs.Prelude.{Bool, List, [], ◌∷◌, None, Option, Some}
use Rattle.table.specs.declared.Refusal.TheVariants.{Malformed}
use Rattle.table.specs.Refusals.{number_of}
use Rattle.events.specs.declared.Event.{Event}
use Rattle.events.specs.declared.Answer.{Answer}
use Rattle.events.specs.declared.Told.{Told}
use Rattle.events.specs.declared.Told.TheVariants.{No}
use Rattle.events.specs.Values.{told_of}

pub record Box (S : Type 0) : Type 0 where
  pub sound : S → Bool
  pub answer : S → Event → Answer
  pub next : S → Event → S

-- what is held after some events
unfoldable pub after_in : {S : Type 0} → Box S → S → List Event → S
after_in b s [] = s
after_in b s (e ∷ es) = after_in b (b.next s e) es

-- the answers to some events, in order
unfoldable pub answers_in : {S : Type 0} → Box S → S → List Event → List Answer
answers_in b s [] = []
answers_in b s (e ∷ es) = b.answer s e ∷ answers_in b (b.next s e) es

-- what is told to a line, and what is held after it; "another line .. answers `?⇥no⇥1`" and changes
-- nothing
abbrev pub told_in : {S : Type 0} → Box S → S → Option Event → Told
told_in b s (Some e) = told_of (b.answer s e)
told_in b s None = No (number_of Malformed)

abbrev pub after_line_in : {S : Type 0} → Box S → S → Option Event → S
after_line_in b s (Some e) = b.next s e
after_line_in b s None = s

-- the same for some lines, one after the other
unfoldable pub told_all_in : {S : Type 0} → Box S → S → List (Option Event) → List Told
told_all_in b s [] = []
told_all_in b s (l ∷ ls) = told_in b s l ∷ told_all_in b (after_line_in b s l) ls

unfoldable pub after_lines_in : {S : Type 0} → Box S → S → List (Option Event) → S
after_lines_in b s [] = s
after_lines_in b s (l ∷ ls) = after_lines_in b (after_line_in b s l) ls
