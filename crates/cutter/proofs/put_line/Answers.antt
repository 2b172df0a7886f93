-- `cutter::put_line` meets its contract: the two numbers of what the line says, at once where
-- nothing is held and it has one digit. Assumes nothing.
use Rattle.std.proofs.Common.{rules, arith, ◌≡◌, ◌++◌, List, ℕ, ap, sym, ◌∙◌, get_or}
use Rattle.std.proofs.lemmas.List.Edits.{sets}
use Rattle.decimal.specs.Lines.{tab}
use Rattle.events.specs.Values.{line_values}
use Rattle.events.proofs.Values.{line_length}
use Rattle.lines.specs.EventLine.{event_line}
use Rattle.lines.specs.HeldLine.{line_in}
use Rattle.lines.proofs.Cutting.{copied}
use Rattle.lines.proofs.HeldLine.{empty_held}
use Rattle.cutter.proofs.Inner.{three}
use Rattle.cutter.proofs.put_line.Goals as goal

pub returns-in-9 : goal.returns-in-9
returns-in-9 c =
    let part = c.args.part.now in
    let t : get_or part 1 0 ≡ tab = search rules in
    let e = rw t at (three part (omega (arith, c.in-9.len_at_least, c.in-9.len_below))) in
    c.put_short.ensures ∙
    ap (λ (l : List ℕ). sets c.args.lines.now c.args.at (line_values (event_line l)))
    (sym (rw (empty_held c.args.h c.if-h-eq0.true) e))

pub returns-in_default : goal.returns-in_default
returns-in_default c =
    let v = c.copy_from_slice.ensures.after ∙ c.line_values.ensures ∙ ap line_values c.read_line.ensures in
    rw v
    (copied c.args.lines.now (line_values (event_line (line_in c.args.h ++ c.args.part.now))) c.args.at _
    (omega (arith, line_length (event_line (line_in c.args.h ++ c.args.part.now)))) (omega (arith, c.requires)))
