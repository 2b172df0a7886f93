-- `printer::print_lines` meets its contract: before line i the first i are stored (Printing.antt).
-- Assumes nothing.
use Rattle.std.proofs.Common.{rules, arith, [], ◌∙◌, ◌/◌, ◌≤◌, ◌<◌, inl, inr, length}
use Rattle.std.proofs.lemmas.List.{length_push}
use Rattle.std.proofs.lemmas.Slice.Zip.{zip_turn, zip_end}
use Rattle.lines.specs.Print.{longest_answer}
use Rattle.lines.proofs.Print.{print_short, print_some}
use Rattle.lines.proofs.Chunks.{parts, parts_length, part_at}
use Rattle.printer.proofs.Printing.{print_start, print_next, print_done, part_fields}
use Rattle.printer.proofs.print_lines.Goals as goal
use Rattle.printer.proofs.print_lines.Goals.{After-min-many, else-room-lt-LONGEST_ANSWER-via-then-room-lt-LONGEST_ANSWER+else-lent-ne0, else-room-lt-LONGEST_ANSWER-via-else-room-lt-LONGEST_ANSWER}

pub returns-then-lent-ne0 : goal.returns-then-lent-ne0
unfolding longest_answer
returns-then-lent-ne0 c =
    let a = c.args in
    print_short a.lines.now a.told.now a.room.now
    (λ e. c.if-lent-ne0.true (omega (arith, e, c.min-lent.ensures, c.as_chunks.ensures.front_len, c.as_chunks-2.ensures.front_len)))
    c.if-room-lt-LONGEST_ANSWER.true

-- as many lines as both arrays hold
both : (c : After-min-many) →
    (c.min-many.result ≤ length c.args.lines.now / 2) × (c.min-many.result ≤ length c.args.told.now / 9)
both c = (
  omega (arith, c.min-many.ensures, c.min-lent.ensures, c.as_chunks.ensures.front_len),
  omega (arith, c.min-many.ensures, c.min-lent.ensures, c.as_chunks-2.ensures.front_len),
)

pub loop-line-init : goal.loop-line-init
loop-line-init c = print_start _ _ _ _

pub loop-line-preserved : goal.loop-line-preserved
loop-line-preserved c =
    let a = c.args in
    let l = c.loop-line in
    let n = c.min-many.result in
    let i = length l.yielded in
    let b = both (goal.at.loop-line-preserved c).After-min-many in
    let t = zip_turn (parts 2 n a.lines.now) (parts 9 n a.told.now) l.yielded c.into_iter-line-iterator.result l.line-iterator c.next.new.self c.next.result
    (search rules) (search rules) l.yielded_by (c.in-Some.line, c.in-Some.told) c.in-Some.is c.next.ensures.steps in
    let h : i < n = omega (arith, t.0, parts_length 2 n a.lines.now b.0) in
    let e = part_fields a.lines.now a.told.now c.in-Some.line.now c.in-Some.told.now i (t.2 [] ∙ part_at 2 n i a.lines.now [] h b.0) (t.3 [] ∙ part_at 9 n i a.told.now [] h b.1) in
    rw (length_push l.yielded (c.in-Some.line, c.in-Some.told))
    (print_next n a.lines.now a.told.now a.room.now l.room l.at i l.invariant h (rw e at c.store_line-at.ensures))

pub returns : goal.returns
unfolding longest_answer
returns c =
    let a = c.args in
    let l = c.loop-line in
    let n = c.min-many.result in
    let i = length l.yielded in
    let b = both (goal.at.returns c).After-min-many in
    let t = zip_end (parts 2 n a.lines.now) (parts 9 n a.told.now) l.yielded c.into_iter-line-iterator.result l.line-iterator c.next.new.self c.next.result
    (search rules) (search rules) l.yielded_by c.in-None.is c.next.ensures.steps in
    let h : n ≤ i = omega (arith, t, parts_length 2 n a.lines.now b.0, parts_length 9 n a.told.now b.1) in
    print_done n a.lines.now a.told.now a.room.now l.room l.at i l.invariant h (omega (arith, c.min-many.ensures))
    ∙ rw (c.min-many.ensures, c.min-lent.ensures, c.as_chunks.ensures.front_len, c.as_chunks-2.ensures.front_len)
    (print_some a.lines.now a.told.now a.room.now
    (elim c.else-room-lt-LONGEST_ANSWER.branch [
      | else-room-lt-LONGEST_ANSWER-via-then-room-lt-LONGEST_ANSWER+else-lent-ne0 w ↦
          inr (omega (arith, w.if-lent-ne0.false, c.min-lent.ensures, c.as_chunks.ensures.front_len, c.as_chunks-2.ensures.front_len))
      | else-room-lt-LONGEST_ANSWER-via-else-room-lt-LONGEST_ANSWER w ↦ inl w.if-room-lt-LONGEST_ANSWER.false
    ]))
