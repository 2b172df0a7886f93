-- `reader::forms::read_word` meets its contract: the word is the first field, and from its end the
-- line feed is looked for. Assumes nothing.
use mathlib.Core.Path.{◌≡◌, sym, ap}
use mathlib.Core.List.{List}
use Prim.Native.Nat.{ℕ, ◌≤◌}
use native.Mathlib.Omega.{arith}
use lib.ListN.{length}
use lib.Seq.{length-take-le}
use Rattle.decimal.specs.declared.End.{End}
use Rattle.decimal.specs.Inner.Fields.{field_end}
use Rattle.decimal.proofs.Inner.Fields.{end_within}
use Rattle.reader.proofs.Line.{word_read}
use Rattle.reader.proofs.forms.read_word.Goals as goal

-- the first field lies within the text
lies : (text : List ℕ) (e : End) → e ≡ field_end text 0 → e.at ≤ length text
lies text e q = omega (arith, ap (λ (x : End). x.at) q, end_within text 0 (omega arith))

pub slice_bounds-leading_word-end : goal.slice_bounds-leading_word-end
slice_bounds-leading_word-end c =
    let e = c.field_end-e in
    sym (length-take-le e.result.at c.args.text.now (lies c.args.text.now e.result e.ensures))

pub returns : goal.returns
returns c =
    let e = c.field_end-e in
    let f = c.find in
    word_read c.args.text.now e.result c.leading_word.result f.result
    e.ensures c.leading_word.ensures f.ensures.value
    (f.ensures.upper_bound (lies c.args.text.now e.result e.ensures))
