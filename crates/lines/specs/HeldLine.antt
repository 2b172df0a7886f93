-- The line of an event file that is not closed yet, as it is held between two pieces: its bytes
-- while it may still be an event line, and else only that it is too long.
use Rattle.std.specs.Prelude.{List, ◌++◌, ℕ, suc, ◌-◌, leb, length, take, replicate, if◌then◌else◌}
use Rattle.lines.specs.declared.Held.{Held}

-- `R⇥task` is the longest event line: a letter, a tab and 11 digits.
unfoldable pub longest : ℕ
longest = 13

-- a line that is too long, of which no more is held
unfoldable pub too_long : Held
too_long = record { bytes = replicate longest 0; len = suc longest }

-- the line that h holds; one that is too long is held as any that is
unfoldable pub line_in : Held → List ℕ
line_in h = if leb h.len longest then take h.len h.bytes else replicate (suc longest) 0

-- how a line is held
unfoldable pub held_of : List ℕ → Held
held_of l =
    if leb (length l) longest
    then record { bytes = l ++ replicate (longest - length l) 0; len = length l }
    else too_long
