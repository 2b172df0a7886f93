-- `printer::store_outcome` meets its contract: the first of the nine numbers decides what they
-- tell; what a tick tells is stored field after field. Assumes nothing.
use Rattle.std.proofs.Common.{rules, arith, [], ◌∷◌, ◌++◌, get_or}
use Rattle.decimal.specs.Number.{digits}
use Rattle.events.specs.Values.{told_said}
use Rattle.laws.proofs.Choice.{others}
use Rattle.lines.specs.AnswerLine.{turn_fields, left_fields}
use Rattle.printer.proofs.Inner.{at_most, then, rest_then}
use Rattle.printer.proofs.store_outcome.Goals as goal

pub returns-in-0 : goal.returns-in-0
unfolding told_said
returns-in-0 c =
    rw c.in-0.is
    (at_most (then c.store_all-a.ensures c.store_last.ensures) (omega arith))

pub returns-in-1 : goal.returns-in-1
unfolding told_said
returns-in-1 c =
    rw c.in-1.is
    (at_most (then c.store_all-a-in-1.ensures c.store_byte.ensures) (omega arith))

pub returns-in_default : goal.returns-in_default
unfolding told_said
returns-in_default c =
    let t = turn_fields c.turn_said.result in
    let u = left_fields c.left_said.result in
    let last = get_or c.args.told.now 8 0 in
    let d = digits last ∷ [] in
    let o = others (get_or c.args.told.now 0 0) (search rules) (search rules) in
    rw (o.1, ← c.left_said.ensures, ← c.turn_said.ensures, ← c.mode_said.ensures)
    (then (then c.store_field-a.ensures c.store_mode-b.ensures)
    (rest_then t (u ++ d) c.store_turn-c.ensures
    (rest_then u d c.store_left-d.ensures c.store_last-in_default.ensures)))
