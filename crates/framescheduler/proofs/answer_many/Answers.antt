-- `framescheduler::answer_many` meets its contract: 13, 12, else the lines taken. Assumes nothing.
use mathlib.Core.Path.{sym, ◌∙◌}
use borrow.Author.Rules.{rules}
use native.Mathlib.Omega.{arith}
use Rattle.framescheduler.proofs.Inner.{many_unsound, many_short, many_taken}
use Rattle.framescheduler.proofs.answer_many.Goals as goal

pub returns-then-not-run_sound : goal.returns-then-not-run_sound
returns-then-not-run_sound c =
    let a = c.args in
    many_unsound a.r a.lines.now a.told.now (sym c.run_sound.ensures ∙ c.if-not-run_sound.true)

pub returns-then-told-lines : goal.returns-then-told-lines
returns-then-told-lines c =
    let a = c.args in
    many_short a.r a.lines.now a.told.now (sym c.run_sound.ensures ∙ c.if-not-run_sound.false) c.if-told-lines.true

-- behind the door the run is sound
pub answer_lines-requires : goal.answer_lines-requires
answer_lines-requires c = (
  c.if-told-lines.false,
  record {
    sized = omega arith;
    sound = sym c.run_sound.ensures ∙ c.if-not-run_sound.false;
    waiting = search rules;
    runs = search rules;
  },
  c.the_frame.ensures,
)

pub returns : goal.returns
returns c =
    let a = c.args in
    c.answer_lines.ensures
    ∙ many_taken a.r a.lines.now a.told.now (sym c.run_sound.ensures ∙ c.if-not-run_sound.false) c.if-told-lines.false
