-- `cutter::read_held` meets its contract: a line that is too long for an event line is another
-- line. Assumes nothing.
use Rattle.std.proofs.Common.{sym, ap, ◌∙◌}
use Rattle.lines.specs.EventLine.{event_line}
use Rattle.lines.specs.HeldLine.{longest}
use Rattle.lines.proofs.EventLine.{long_another}
use Rattle.lines.proofs.HeldLine.{line_in_lem, line_long, many_long}
use Rattle.cutter.proofs.read_held.Goals as goal

pub returns-then-h-gt-LONGEST_EVENT : goal.returns-then-h-gt-LONGEST_EVENT
unfolding longest
returns-then-h-gt-LONGEST_EVENT c =
    long_another _ (rw (line_long c.args.h c.if-h-gt-LONGEST_EVENT.true) many_long)

pub returns : goal.returns
unfolding longest
returns c =
    c.read_event.ensures ∙ ap event_line (sym (line_in_lem c.args.h c.if-h-gt-LONGEST_EVENT.false))
