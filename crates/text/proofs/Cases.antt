-- Small texts worked out by hand: the number, the line and the field that each is answered with, and what is
-- written. So a wrong definition is a false equation that can be seen. Assumes nothing.
use mathlib.Core.Path.{◌≡◌, refl}
use mathlib.Core.Bool.{false}
use mathlib.Core.List.{List, [], ◌∷◌, ◌++◌}
use Prim.Native.Nat.{ℕ}
use Prim.Native.String.{String}
use lib.ListN.{length, replicate}
use Rattle.laws.specs.Choice.{every}
use Rattle.laws.specs.Search.{least, first_failed, first_of}
use Rattle.laws.specs.RoundUp.{up}
use Rattle.laws.specs.Quoted.{bytes, lined}
use Rattle.laws.specs.Rows.{all_below}
use Rattle.decimal.specs.Number.{are_digits, number_form, is_number, worth_from, digits_in, digits}
use Rattle.decimal.specs.Lines.{split, join, closed, same}
use Rattle.table.specs.declared.Refusal.TheVariants.{OutOfBounds}
use Rattle.table.specs.Rows.{table_of, no_server}
use Rattle.table.specs.Rules.{table_keeps, keeps, server_keeps, task_keeps, task_fault, task_stands, differ}
use Rattle.table.specs.Pairs.{later_equal, first_pair}
use Rattle.text.specs.Words.{tick_word, server_word, task_word, event_word, timed_word, lo_word, mi_word, hi_word}
use Rattle.text.specs.Line.{tick_form, server_form, task_form, field_tests, form_tests, line_by, line_of, read_line, fields_of, write_line}
use Rattle.text.specs.Standing.{placed, server_bounds, task_bounds, bounds, server_whole, wholes, fault, standing, grown}
use Rattle.text.specs.Read.{reading_number, reading_values, compared, ended, read}
use Rattle.text.specs.Write.{server_lines, task_lines, lines_of, write, wrote, all_lines, times_whole, no_phase_zero}
use Rattle.table.specs.Refusals.{breaks}

unfoldable computed : Unit {0}
unfolding
    every least first_failed first_of up all_below are_digits number_form is_number worth_from digits_in digits split join closed same table_of
    table_keeps keeps server_keeps task_keeps task_fault task_stands differ later_equal first_pair tick_word server_word
    task_word event_word timed_word lo_word mi_word hi_word tick_form server_form task_form field_tests form_tests line_by line_of read_line
    fields_of write_line placed server_bounds task_bounds bounds server_whole wholes fault standing grown compared
    ended read server_lines task_lines lines_of write wrote all_lines
computed = tt

-- the number, and what comes back with it: line and field, or both lines
abbrev said : List ℕ → List ℕ
said text = reading_number (read text).answer ∷ reading_values (read text).answer

-- a `tick` line and a timed server below it, with these times
abbrev server : String → String → List ℕ
server tick times = bytes "tick\t" ++ lined (tick ∷ []) ++ bytes "server\t0\ttimed\t1\t" ++ lined (times ∷ [])

-- a whole text: a server of 2 ticks, and a task with these limits
abbrev whole : String → List ℕ
whole limits = server "1000" "2000\t1000\t1000\t1000" ++ bytes "task\t0\t0\t1\tLO\t" ++ lined (limits ∷ [])

-- and one with a task of one tick, below a server with these times
abbrev above : String → List ℕ
above times = server "1000" times ++ lined ("task\t0\t0\t1\tLO\t1000\t1000\t1000" ∷ [])

pub tick_of_0 : said (lined ("tick\t0" ∷ [])) ≡ 2 ∷ 1 ∷ 1 ∷ []
unfolding computed
tick_of_0 = refl

pub parted_by_a_blank : said (lined ("tick 1000" ∷ [])) ≡ 1 ∷ 1 ∷ 0 ∷ []
unfolding computed
parted_by_a_blank = refl

pub field_too_many : said (lined ("tick\t1000\t1" ∷ [])) ≡ 1 ∷ 1 ∷ 0 ∷ []
unfolding computed
field_too_many = refl

-- the count of fields comes before a malformed one, and so does a line's place
pub count_before_a_field : said (lined ("tick\tx\t1" ∷ [])) ≡ 1 ∷ 1 ∷ 0 ∷ []
unfolding computed
count_before_a_field = refl

pub misplaced_before_a_field : said (lined ("server\tx\ttimed\t1\t2000\t1000\t1000\t1000" ∷ [])) ≡ 1 ∷ 1 ∷ 0 ∷ []
unfolding computed
misplaced_before_a_field = refl

-- "leftmost field concerned": of two malformed, of two out of bounds, of two not whole
pub leftmost_malformed : said (server "1000" "2000\tx\t1000\t") ≡ 1 ∷ 2 ∷ 5 ∷ []
unfolding computed
leftmost_malformed = refl

pub leftmost_out_of_bounds : said (server "1000" "2000\t1000\t3000\t4000") ≡ 2 ∷ 2 ∷ 6 ∷ []
unfolding computed
leftmost_out_of_bounds = refl

pub leftmost_not_whole : said (server "1000" "2500\t1000\t1500\t1000") ≡ 3 ∷ 2 ∷ 4 ∷ []
unfolding computed
leftmost_not_whole = refl

-- a 33rd server of partition 16
pub row_before_a_number :
    standing 34 (record { tick = record { 0 = 1000 }; servers = replicate 32 no_server; tasks = [] })
    (read_line (bytes "server\t16\ttimed\t1\t2000\t0\t0\t0"))
    ≡ breaks OutOfBounds 0
unfolding computed
row_before_a_number = refl

-- below a tick, and not whole: 2 comes before 3
pub period_of_half_a_tick : said (server "2" "1\t0\t0\t0") ≡ 2 ∷ 2 ∷ 4 ∷ []
unfolding computed
period_of_half_a_tick = refl

pub period_too_long : said (server "1" "1000001\t0\t0\t0") ≡ 2 ∷ 2 ∷ 4 ∷ []
unfolding computed
period_too_long = refl

pub capacity_above_the_period : said (server "1000" "2000\t2001\t0\t0") ≡ 2 ∷ 2 ∷ 5 ∷ []
unfolding computed
capacity_above_the_period = refl

pub limit_of_200_ticks : said (whole "200000\t200000\t200000") ≡ 0 ∷ []
unfolding computed
limit_of_200_ticks = refl

pub byte_after_the_last_line : said (whole "1000\t1000\t1000" ++ bytes "x") ≡ 1 ∷ 4 ∷ 0 ∷ []
unfolding computed
byte_after_the_last_line = refl

pub written_in_microseconds : write (read (whole "1000\t2000\t3000")).rows ≡ whole "1000\t2000\t3000"
unfolding computed
written_in_microseconds = refl

pub time_of_d2_not_whole : times_whole 1000 (whole "1000\t1000\t1500") ≡ false
unfolding computed
time_of_d2_not_whole = refl

-- one byte stands behind the text, and stays there
pub byte_behind_the_text :
    let text = whole "1000\t2000\t3000" in
    (wrote (table_of (read text).rows) (replicate (length text) 0 ++ (7 ∷ []))).room ≡ text ++ (7 ∷ [])
unfolding computed
byte_behind_the_text = refl

-- 02, No. 7: a server of 2 ticks with a phase, "0 to period less 1, in whole ticks, as a last field"
pub phase_of_the_last_tick : said (above "2000\t1000\t1000\t1000\t1000") ≡ 0 ∷ []
unfolding computed
phase_of_the_last_tick = refl

pub phase_equal_to_the_period : said (server "1000" "2000\t1000\t1000\t1000\t2000") ≡ 2 ∷ 2 ∷ 8 ∷ []
unfolding computed
phase_equal_to_the_period = refl

-- above the period less one tick by a microsecond, and not whole: 2 comes before 3
pub phase_above_by_a_microsecond : said (server "1000" "2000\t1000\t1000\t1000\t1001") ≡ 2 ∷ 2 ∷ 8 ∷ []
unfolding computed
phase_above_by_a_microsecond = refl

pub phase_not_whole : said (server "1000" "2000\t1000\t1000\t1000\t999") ≡ 3 ∷ 2 ∷ 8 ∷ []
unfolding computed
phase_not_whole = refl

pub phase_empty : said (server "1000" "2000\t1000\t1000\t1000\t") ≡ 1 ∷ 2 ∷ 8 ∷ []
unfolding computed
phase_empty = refl

-- the count of fields comes before a malformed phase
pub field_after_the_phase : said (server "1000" "2000\t1000\t1000\t1000\t\t") ≡ 1 ∷ 2 ∷ 0 ∷ []
unfolding computed
field_after_the_phase = refl

pub phase_after_a_capacity : said (server "1000" "2000\t1000\t1000\t2001\t2000") ≡ 2 ∷ 2 ∷ 7 ∷ []
unfolding computed
phase_after_a_capacity = refl

pub phase_written : write (read (above "2000\t1000\t1000\t1000\t1000")).rows ≡ above "2000\t1000\t1000\t1000\t1000"
unfolding computed
phase_written = refl

pub phase_of_0_left_out : write (read (above "2000\t1000\t1000\t1000\t0")).rows ≡ above "2000\t1000\t1000\t1000"
unfolding computed
phase_of_0_left_out = refl

pub phase_of_0_written : no_phase_zero (above "2000\t1000\t1000\t1000\t0") ≡ false
unfolding computed
phase_of_0_written = refl
