-- Event lines worked out by hand. So a wrong definition is a false equation that can be seen.
-- Assumes nothing.
use Rattle.std.proofs.Common.{None, Option, Some}
use mathlib.Core.Path.{◌≡◌, refl}
use mathlib.Core.Bool.{true}
use mathlib.Core.List.{List, [], ◌∷◌, ◌++◌}
use Prim.Native.Nat.{ℕ}
use Rattle.laws.specs.Choice.{every}
use Rattle.laws.specs.Quoted.{bytes, lined}
use Rattle.decimal.specs.Number.{are_digits, number_form, is_number, worth_from}
use Rattle.decimal.specs.Lines.{split, same}
use Rattle.events.specs.declared.Event.TheVariants.{Release, Tick}
use Rattle.lines.specs.EventLine.{release_form, tick_form, event_said, event_line, closed_lines, event_lines}
use Rattle.lines.specs.HeldLine.{longest, too_long, line_in, held_of}
use Rattle.events.specs.declared.Event.{Event}

unfoldable computed : Unit {0}
unfolding
    every are_digits number_form is_number worth_from split same release_form tick_form
    event_said event_line closed_lines event_lines longest too_long line_in held_of
computed = tt

-- what a line says that was held between two pieces
abbrev held_says : List ℕ → Option Event
held_says l = event_line (line_in (held_of l))

pub line_of_13 : held_says (bytes "R\t12345678901") ≡ Some (Release 12345678901)
unfolding computed
line_of_13 = refl

pub line_of_14 : held_says (bytes "R\t123456789012") ≡ None
unfolding computed
line_of_14 = refl

-- a mark above 1, and an unclosed last line
pub other_lines : event_lines (lined ("T\t1" ∷ "T\t2" ∷ []) ++ bytes "T\t0") ≡ Some (Tick true) ∷ None ∷ None ∷ []
unfolding computed
other_lines = refl
