-- Small texts of a frame box worked out by hand: the number, the line and the field that each is
-- answered with, and the rows. So a wrong definition is a false equation that can be seen. Assumes
-- nothing.
use Rattle.std.proofs.Common.{Ok}
use mathlib.Core.Path.{◌≡◌, refl}
use mathlib.Core.List.{List, [], ◌∷◌, ◌++◌}
use Prim.Native.Nat.{ℕ}
use Prim.Native.String.{String}
use lib.ListN.{replicate}
use Rattle.laws.specs.Choice.{every}
use Rattle.laws.specs.Search.{least, first_failed, first_of}
use Rattle.laws.specs.RoundUp.{up}
use Rattle.laws.specs.Quoted.{bytes, lined}
use Rattle.decimal.specs.Number.{are_digits, number_form, is_number, worth_from}
use Rattle.decimal.specs.Lines.{split, same}
use Rattle.table.specs.declared.Refusal.TheVariants.{OutOfBounds}
use Rattle.table.specs.Pairs.{later_equal, first_pair}
use Rattle.text.specs.Words.{tick_word, server_word, task_word}
use Rattle.text.specs.Line.{tick_form, field_tests, form_tests}
use Rattle.text.specs.Read.{reading_number, reading_values}
use Rattle.frametable.specs.declared.FrameTask.{FrameTask}
use Rattle.frametable.specs.Rows.{FrameRows, no_frame_task, frame_table_of}
use Rattle.frametable.specs.Rules.{frame_task_keeps}
use Rattle.frametable.specs.Line.{frame_task_form, frame_line_by, frame_line_of, read_frame_line}
use Rattle.frametable.specs.Text.{frame_placed, frame_task_bounds, frame_bounds, frame_standing, frame_grown, frame_ended, frame_read, frame_shown}
use Rattle.table.specs.Refusals.{breaks}

unfoldable computed : Unit {0}
unfolding
    every least first_failed first_of up are_digits number_form is_number worth_from split same later_equal first_pair
    tick_word server_word task_word tick_form field_tests form_tests frame_task_keeps frame_task_form frame_line_by frame_line_of
    read_frame_line frame_placed frame_task_bounds frame_bounds frame_standing frame_grown frame_ended frame_read frame_shown
    frame_table_of
computed = tt

-- the number, and what comes back with it: line and field, or both lines
abbrev said : List ℕ → List ℕ
said text = reading_number (frame_read text).answer ∷ reading_values (frame_read text).answer

-- a `tick` line of 1,000 microseconds, and these lines below it
abbrev below : List String → List ℕ
below lines = lined ("tick\t1000" ∷ lines)

-- a row, by its numbers
abbrev row : ℕ → ℕ → ℕ → FrameTask
row partition priority limit =
    record { partition = partition; priority = priority; limit = record { 0 = limit } }

-- one task of each partition: a limit of 1 tick, one of 2 and a half and one of half a tick, the
-- last two rounded up
abbrev three : List ℕ
three = below ("task\t0\t3\t1000" ∷ "task\t1\t255\t2500" ∷ "task\t2\t1\t500" ∷ [])

pub three_taken : said three ≡ 0 ∷ []
unfolding computed
three_taken = refl

pub three_rows : (frame_read three).rows.tasks ≡ row 0 3 1 ∷ row 1 255 3 ∷ row 2 1 1 ∷ []
unfolding computed
three_rows = refl

pub three_shown : (frame_shown (frame_read three)).table.ntasks ≡ 3
unfolding computed
three_shown = refl

-- "a greater partition is 2", at its field; and the leftmost field is told
pub partition_3 : said (below ("task\t3\t1\t1000" ∷ [])) ≡ 2 ∷ 2 ∷ 1 ∷ []
unfolding computed
partition_3 = refl

pub leftmost_out_of_bounds : said (below ("task\t3\t0\t0" ∷ [])) ≡ 2 ∷ 2 ∷ 1 ∷ []
unfolding computed
leftmost_out_of_bounds = refl

pub priority_256 : said (below ("task\t2\t256\t0" ∷ [])) ≡ 2 ∷ 2 ∷ 2 ∷ []
unfolding computed
priority_256 = refl

-- a limit is judged as it is rounded up: 1 to 100,000 ticks
pub limit_of_0 : said (below ("task\t2\t1\t0" ∷ [])) ≡ 2 ∷ 2 ∷ 3 ∷ []
unfolding computed
limit_of_0 = refl

pub limit_of_100000_ticks : said (below ("task\t2\t1\t100000000" ∷ [])) ≡ 0 ∷ []
unfolding computed
limit_of_100000_ticks = refl

pub limit_just_above : said (below ("task\t2\t1\t100000001" ∷ [])) ≡ 2 ∷ 2 ∷ 3 ∷ []
unfolding computed
limit_just_above = refl

-- a 65th task of partition 3 is told as the line itself; the 64th is none too many
abbrev above : ℕ → FrameRows
above n = record { tick = record { 0 = 1000 }; tasks = replicate n no_frame_task }

pub task_65 : frame_standing 66 (above 64) (read_frame_line (bytes "task\t3\t1\t1000")) ≡ breaks OutOfBounds 0
unfolding computed
task_65 = refl

pub task_64 : frame_standing 65 (above 63) (read_frame_line (bytes "task\t2\t1\t1000")) ≡ Ok tt
unfolding computed
task_64 = refl

-- 5 with both lines: the first pair, the smaller row first, of whatever partitions
pub equal_priorities :
    said (below ("task\t0\t9\t1000" ∷ "task\t1\t7\t1000" ∷ "task\t2\t8\t1000" ∷ "task\t2\t7\t1000" ∷ []))
    ≡ 5 ∷ 3 ∷ 5 ∷ []
unfolding computed
equal_priorities = refl

-- lines of document 01's tables: a `server` line, whole or not, and its `task` line
pub server_line_lem : said (below ("server\t0\ttimed\t1\t2000\t1000\t1000\t1000" ∷ [])) ≡ 1 ∷ 2 ∷ 0 ∷ []
unfolding computed
server_line_lem = refl

pub server_word_lem : said (below ("server" ∷ [])) ≡ 1 ∷ 2 ∷ 0 ∷ []
unfolding computed
server_word_lem = refl

pub task_of_7_fields : said (below ("task\t0\t0\t1\tLO\t1000\t1000\t1000" ∷ [])) ≡ 1 ∷ 2 ∷ 0 ∷ []
unfolding computed
task_of_7_fields = refl

-- 1 before 2, the count of fields before a malformed one, and a line's place before all
pub malformed_field : said (below ("task\t3\tx\t0" ∷ [])) ≡ 1 ∷ 2 ∷ 2 ∷ []
unfolding computed
malformed_field = refl

pub field_missing : said (below ("task\tx\t1" ∷ [])) ≡ 1 ∷ 2 ∷ 0 ∷ []
unfolding computed
field_missing = refl

pub misplaced_tick : said (below ("task\t0\t1\t1000" ∷ "tick\tx" ∷ [])) ≡ 1 ∷ 3 ∷ 0 ∷ []
unfolding computed
misplaced_tick = refl

pub task_first : said (lined ("task\t0\t1\t1000" ∷ [])) ≡ 1 ∷ 1 ∷ 0 ∷ []
unfolding computed
task_first = refl

pub tick_of_10001 : said (lined ("tick\t10001" ∷ [])) ≡ 2 ∷ 1 ∷ 1 ∷ []
unfolding computed
tick_of_10001 = refl

-- nothing, no task, and a last line that is not closed
pub empty_text : said [] ≡ 1 ∷ 1 ∷ 0 ∷ []
unfolding computed
empty_text = refl

pub no_task_lem : said (below []) ≡ 1 ∷ 2 ∷ 0 ∷ []
unfolding computed
no_task_lem = refl

pub unclosed : said (below [] ++ bytes "task\t0\t1\t1000") ≡ 1 ∷ 2 ∷ 0 ∷ []
unfolding computed
unclosed = refl
