-- `reader::frame::read_line` meets its contract: the two words are compared in turn, and the one that
-- stands there, with its tab, tells the form. Assumes nothing.
use mathlib.Core.Path.{refl, sym, ◌∙◌}
use native.Mathlib.Omega.{arith}
use Rattle.decimal.proofs.Lines.{high}
use Rattle.text.specs.declared.Word.TheVariants.{ATick, ATask}
use Rattle.text.specs.Words.{tick_word, task_word}
use Rattle.reader.proofs.Line.{leads_tick, leads_task, long}
use Rattle.reader.proofs.FrameText.{frame_led, frame_no_form_read}
use Rattle.reader.proofs.frame.read_line.Goals as goal

pub task_line-requires : goal.task_line-requires
unfolding high task_word
task_line-requires c =
    omega
    (arith, long c.args.text.now task_word refl (sym c.begins.ensures ∙ c.if-begins.true))

pub returns-then-begins : goal.returns-then-begins
unfolding high task_word
returns-then-begins c =
    c.task_line.ensures
    ∙ frame_led c.args.text.now task_word refl
    (sym c.begins.ensures ∙ c.if-begins.true) ATask leads_task

pub tick_line-requires : goal.tick_line-requires
unfolding high tick_word
tick_line-requires c =
    omega (arith, long c.args.text.now tick_word refl (sym c.begins-2.ensures ∙ c.if-begins-2.true))

pub returns-then-begins-2 : goal.returns-then-begins-2
unfolding high tick_word
returns-then-begins-2 c =
    c.tick_line.ensures
    ∙ frame_led c.args.text.now tick_word refl (sym c.begins-2.ensures ∙ c.if-begins-2.true) ATick leads_tick

pub returns : goal.returns
unfolding task_word tick_word
returns c =
    frame_no_form_read c.args.text.now
    (sym c.begins.ensures ∙ c.if-begins.false)
    (sym c.begins-2.ensures ∙ c.if-begins-2.false)
    c.read_word-w.result c.read_word-w.ensures
