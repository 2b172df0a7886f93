-- `files::pieces::answer_last` meets its contract: a line is held exactly if its length is not 0.
-- Assumes nothing.
use Rattle.std.proofs.Common.{rules, refl, arith}
use Rattle.lines.specs.HeldLine.{longest}
use Rattle.lines.proofs.HeldLine.{empty_held}
use Rattle.files.proofs.Turns.{last_some}
use Rattle.files.proofs.pieces.answer_last.Goals as goal

pub returns-then-h-gt0 : goal.returns-then-h-gt0
unfolding longest
returns-then-h-gt0 c = rw (last_some c.args.h (search rules) c.if-h-gt0.true) c.put_another.ensures

pub returns : goal.returns
returns c = rw (empty_held c.args.h (omega (arith, c.if-h-gt0.false))) (record { leaves = refl; ends = omega arith })
