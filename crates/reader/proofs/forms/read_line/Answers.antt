-- `reader::forms::read_line` meets its contract: the words are compared in turn, and the one that
-- stands there, with its tab, tells the form. Assumes nothing.
use mathlib.Core.Path.{refl, sym, ◌∙◌}
use native.Mathlib.Omega.{arith}
use Rattle.decimal.proofs.Lines.{high}
use Rattle.text.specs.declared.Word.TheVariants.{ATick, AServer, ATask}
use Rattle.text.specs.Words.{tick_word, server_word, task_word}
use Rattle.reader.proofs.Line.{leads_tick, leads_server, leads_task, long, line_led, no_form_read}
use Rattle.reader.proofs.forms.read_line.Goals as goal

pub server_line-requires : goal.server_line-requires
unfolding high server_word
server_line-requires c =
    omega
    (arith, long c.args.text.now server_word refl (sym c.begins.ensures ∙ c.if-begins.true))

pub returns-then-begins : goal.returns-then-begins
unfolding high server_word
returns-then-begins c =
    c.server_line.ensures
    ∙ line_led c.args.text.now server_word refl
    (sym c.begins.ensures ∙ c.if-begins.true) AServer leads_server

pub task_line-requires : goal.task_line-requires
unfolding high task_word
task_line-requires c =
    omega (arith, long c.args.text.now task_word refl (sym c.begins-2.ensures ∙ c.if-begins-2.true))

pub returns-then-begins-2 : goal.returns-then-begins-2
unfolding high task_word
returns-then-begins-2 c =
    c.task_line.ensures
    ∙ line_led c.args.text.now task_word refl (sym c.begins-2.ensures ∙ c.if-begins-2.true) ATask leads_task

pub tick_line-requires : goal.tick_line-requires
unfolding high tick_word
tick_line-requires c =
    omega (arith, long c.args.text.now tick_word refl (sym c.begins-3.ensures ∙ c.if-begins-3.true))

pub returns-then-begins-3 : goal.returns-then-begins-3
unfolding high tick_word
returns-then-begins-3 c =
    c.tick_line.ensures
    ∙ line_led c.args.text.now tick_word refl (sym c.begins-3.ensures ∙ c.if-begins-3.true) ATick leads_tick

pub returns : goal.returns
unfolding server_word task_word tick_word
returns c =
    no_form_read c.args.text.now c.read_word-w.result c.read_word-w.ensures
    (sym c.begins.ensures ∙ c.if-begins.false)
    (sym c.begins-2.ensures ∙ c.if-begins-2.false)
    (sym c.begins-3.ensures ∙ c.if-begins-3.false)
