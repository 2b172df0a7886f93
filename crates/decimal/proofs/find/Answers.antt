-- `decimal::find` meets its contract: b stands at i, or the search goes on from i + 1, or there are
-- no more bytes. Assumes nothing.
use Rattle.std.proofs.Common.{◌≡◌, ◌+◌, ◌-◌, length, sym, ◌∙◌, arith}
use Rattle.decimal.proofs.Inner.{byte_of}
use Rattle.decimal.proofs.Lines.{find_here, find_on, find_none}
use Rattle.decimal.proofs.find.Goals as goal

pub returns-then-text-at-clause-value : goal.returns-then-text-at-clause-value
returns-then-text-at-clause-value c = omega (arith, find_none c.args.b c.args.text.now c.args.at c.if-text-at.true)

pub returns-then-x-b-clause-value : goal.returns-then-x-b-clause-value
returns-then-x-b-clause-value c =
    let i = c.loop-i.i in
    let a = c.args in
    let b = byte_of a.text.now a.at (length a.text.now - a.at) i (omega arith) in
    omega (arith, find_here a.b a.text.now (a.at + i) (omega arith) (sym b ∙ c.if-x-b.true))

pub loop-i-preserved : goal.loop-i-preserved
loop-i-preserved c =
    let i = c.loop-i.i in
    let a = c.args in
    let b = byte_of a.text.now a.at (length a.text.now - a.at) i (omega arith) in
    let e : a.at + (i + 1) ≡ a.at + i + 1 = omega arith in
    rw e (omega (arith, find_on a.b a.text.now (a.at + i) (omega arith) (λ n. c.if-x-b.false (b ∙ n))))

pub returns-clause-value : goal.returns-clause-value
returns-clause-value c =
    omega (arith, find_none c.args.b c.args.text.now (c.args.at + c.loop-i.i) (omega arith))
