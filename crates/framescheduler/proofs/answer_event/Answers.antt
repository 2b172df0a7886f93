-- `framescheduler::answer_event` meets its contract. Assumes nothing.
use mathlib.Core.Path.{sym, ◌∙◌}
use borrow.Author.Rules.{rules}
use native.Mathlib.Omega.{arith}
use Rattle.framescheduler.proofs.Inner.{event_unsound}
use Rattle.framescheduler.proofs.answer_event.Goals as goal

pub returns-then-not-run_sound : goal.returns-then-not-run_sound
returns-then-not-run_sound c =
    event_unsound c.args.r c.args.e (sym c.run_sound.ensures ∙ c.if-not-run_sound.true)

-- behind the door the run is sound
pub event_in-answer-requires : goal.event_in-answer-requires
event_in-answer-requires c = (
  record {
    sized = omega arith;
    sound = sym c.run_sound.ensures ∙ c.if-not-run_sound.false;
    waiting = search rules;
    runs = search rules;
  },
  c.the_frame.ensures,
)
