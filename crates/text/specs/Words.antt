-- 01, Tables: the words of table text, as bytes, and what the words of a kind and of a level mean.
use Rattle.std.specs.Prelude.{Bool, ◌||◌, List, ℕ, if◌then◌else◌}
use Rattle.laws.specs.Quoted.{bytes}
use Rattle.decimal.specs.Lines.{same}
use Rattle.table.specs.declared.Kind.{Kind}
use Rattle.table.specs.declared.Kind.TheVariants.{Event, Timed}
use Rattle.table.specs.declared.Level.{Level}
use Rattle.table.specs.declared.Level.TheVariants.{LO, MI, HI}

unfoldable pub tick_word : List ℕ
tick_word = bytes "tick"

unfoldable pub server_word : List ℕ
server_word = bytes "server"

unfoldable pub task_word : List ℕ
task_word = bytes "task"

unfoldable pub event_word : List ℕ
event_word = bytes "event"

unfoldable pub timed_word : List ℕ
timed_word = bytes "timed"

unfoldable pub lo_word : List ℕ
lo_word = bytes "LO"

unfoldable pub mi_word : List ℕ
mi_word = bytes "MI"

unfoldable pub hi_word : List ℕ
hi_word = bytes "HI"

-- "kind": one of two words. Form and meaning are two definitions, as for numbers.
abbrev pub is_kind : List ℕ → Bool
is_kind w = same w event_word || same w timed_word

abbrev pub kind_of : List ℕ → Kind
kind_of w = if same w timed_word then Timed else Event

abbrev pub kind_word : Kind → List ℕ
kind_word Event = event_word
kind_word Timed = timed_word

-- "level": one of three words
abbrev pub is_level : List ℕ → Bool
is_level w = same w lo_word || (same w mi_word || same w hi_word)

abbrev pub level_of : List ℕ → Level
level_of w = if same w hi_word then HI else if same w mi_word then MI else LO

abbrev pub level_word : Level → List ℕ
level_word LO = lo_word
level_word MI = mi_word
level_word HI = hi_word
