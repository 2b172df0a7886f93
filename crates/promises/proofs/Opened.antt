-- Every definition that a figure computes with, under one name.
use Rattle.laws.specs.Choice.{every}
use Rattle.laws.specs.Search.{least, first_failed, first_of}
use Rattle.laws.specs.RoundUp.{up}
use Rattle.laws.specs.Rows.{all_below, any_below, sum_below, highest, anew}
use Rattle.decimal.specs.Number.{are_digits, number_form, is_number, worth_from, digits_in, digits}
use Rattle.decimal.specs.Lines.{split, join, closed, same}
use Rattle.table.specs.Rows.{table_of}
use Rattle.table.specs.Rules.{table_keeps, keeps, server_keeps, task_keeps, task_fault, task_stands, differ}
use Rattle.table.specs.Pairs.{later_equal, first_pair}
use Rattle.text.specs.Words.{tick_word, server_word, task_word, event_word, timed_word, lo_word, mi_word, hi_word}
use Rattle.text.specs.Line.{tick_form, server_form, task_form, field_tests, form_tests, line_by, line_of, read_line}
use Rattle.text.specs.Standing.{placed, server_bounds, task_bounds, bounds, server_whole, wholes, fault, standing, grown}
use Rattle.text.specs.Read.{compared, ended, read, shown}
use Rattle.verdict.specs.Verdict.{verdict_of, response_at, meets, interference}
use Rattle.events.specs.Boxes.{after_in, answers_in}
use Rattle.run.specs.State.{in_force, waits, some_waits}
use Rattle.run.specs.Sound.{sound, sound_state, sound_server, sound_task, sound_last, sound_counts}
use Rattle.run.specs.Release.{start_of, release_of}
use Rattle.run.specs.Tick.{judge, step1, drops, discards, step2, step3, step4, settle, able, highest_able, highest_task, choose}
use Rattle.run.specs.Tick.{advance, tick_taken, tick_of}
use Rattle.lines.specs.EventLine.{release_form, tick_form as tickLineForm, event_said, event_line, closed_lines, event_lines}
use Rattle.lines.specs.Night.{night_lines, night, answer_lines_in}
use Rattle.table.specs.Example.{example}
use Rattle.promises.specs.Example.{two}

unfoldable pub opened : Unit {0}
unfolding
    every least first_failed first_of up all_below any_below sum_below highest anew are_digits number_form is_number worth_from digits_in
    digits split join closed same table_of table_keeps keeps server_keeps task_keeps task_fault task_stands differ later_equal
    first_pair tick_word server_word task_word event_word timed_word lo_word mi_word hi_word tick_form server_form
    task_form field_tests form_tests line_by line_of read_line placed server_bounds task_bounds bounds server_whole wholes fault standing grown compared ended read shown verdict_of response_at meets interference in_force waits some_waits
    sound sound_state sound_server sound_task sound_last sound_counts start_of release_of judge step1
    drops discards step2 step3 step4 settle able highest_able highest_task choose advance tick_taken tick_of after_in
    answers_in
    release_form tickLineForm event_said event_line closed_lines event_lines
    answer_lines_in night_lines night example two
opened = tt
