-- `reader::fields::read_fields` meets its contract: k fields are behind `at`, and those from there
-- on give the rest; the line ends where it does seen from there. Assumes nothing.
use Rattle.std.proofs.Common.{Option}
use mathlib.Core.Path.{◌≡◌, sym, ap, ◌∙◌}
use mathlib.Core.List.{List, map}
use Prim.Native.Nat.{ℕ, ◌+◌}
use native.Mathlib.Omega.{arith}
use borrow.Author.Tests.{not-true, not-false}
use lib.ListN.{length, drop}
use Rattle.decimal.specs.Inner.Fields.{fields_from}
use Rattle.decimal.proofs.Inner.Fields.{line_found}
use Rattle.reader.specs.declared.fields.Fields.{Fields}
use Rattle.reader.specs.Inner.Fields.{expected_of, line_end, counted, telling, passed}
use Rattle.reader.proofs.Inner.Fields.{noted_by, pass_next, pass_last, pass_over, line_next, line_last, next_within}
use Rattle.reader.proofs.fields.read_fields.Goals as goal

-- what the fields before k gave
abbrev before : Option ℕ → List ℕ → ℕ → List ℕ → ℕ → Fields
before wrong values k text from = record { wrong = wrong; values = values; count = k; end = line_end text from }

pub returns-then-not-f : goal.returns-then-not-f
returns-then-not-f c =
    let f = c.read_field-f in
    let l = c.loop-k in
    let a = c.args in
    let none = not-true _ c.if-not-f.true in
    let b = before l.wrong l.values l.k a.text.now a.from in
    let with_it = noted_by b l.k f.result.number
    c.first_wrong-wrong.result c.unwrap_or.result c.first_wrong-wrong.ensures c.unwrap_or.ensures in
    let ends = line_last a.least a.text.now a.shape.now l.k l.at b f.result
    (omega arith) f.ensures none in
    rw (c.count.ensures, sym (l.invariant.3 ∙ ends))
    (ap (λ (x : Fields). telling (counted a.least (l.k + 1) x.wrong) x) with_it
    ∙ sym
    (l.invariant.2
    ∙ pass_last a.least a.text.now a.shape.now l.k l.at b f.result (omega arith) f.ensures none))

-- a field is followed by another within the text
pub overflow_add-at : goal.overflow_add-at
overflow_add-at c =
    let f = c.read_field-f in
    let l = c.loop-k in
    let a = c.args in
    let onward = next_within a.least a.text.now a.shape.now l.k l.at
    (before l.wrong l.values l.k a.text.now a.from) f.result (omega arith) f.ensures (not-false _ c.if-not-f.false) in
    record { fits = omega (arith, onward) }

pub loop-k-preserved : goal.loop-k-preserved
loop-k-preserved c =
    let f = c.read_field-f in
    let l = c.loop-k in
    let a = c.args in
    let more = not-false _ c.if-not-f.false in
    let b = before l.wrong l.values l.k a.text.now a.from in
    let with_it = noted_by b l.k f.result.number
    c.first_wrong-wrong.result c.unwrap_or.result c.first_wrong-wrong.ensures c.unwrap_or.ensures in
    let onward = next_within a.least a.text.now a.shape.now l.k l.at b f.result (omega arith) f.ensures more in (
      omega arith,
      omega (arith, onward),
      l.invariant.2
          ∙ pass_next a.least a.text.now a.shape.now l.k l.at b f.result (omega arith) f.ensures more
          ∙ ap
          (λ x. passed a.least (map expected_of (drop (l.k + 1) a.shape.now)) (l.k + 1) x
          (fields_from a.text.now (f.result.end.at + 1)))
          (sym with_it),
      l.invariant.3
          ∙ line_next a.least a.text.now a.shape.now l.k l.at b f.result (omega arith) f.ensures more,
    )

pub returns : goal.returns
returns c =
    let l = c.loop-k in
    let a = c.args in
    let ends = line_found a.text.now l.at c.find.result c.find.ensures.value l.invariant.1 (c.find.ensures.upper_bound l.invariant.1) in
    let all : length a.shape.now ≡ l.k = omega arith in
    rw (all, sym (l.invariant.3 ∙ ends))
    (pass_over a.least a.text.now a.shape.now l.k l.at
    (before l.wrong l.values l.k a.text.now a.from) (omega arith)
    ∙ sym l.invariant.2)
