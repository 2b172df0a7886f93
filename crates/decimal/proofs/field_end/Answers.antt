-- `decimal::field_end` meets its contract: no byte before i ends the field, so it ends where the one
-- that goes on at i does. Assumes nothing.
use Rattle.std.proofs.Common.{◌≡◌, ◌+◌, ◌-◌, length, sym, ◌∙◌, arith}
use Rattle.decimal.proofs.Inner.{byte_of}
use Rattle.decimal.proofs.Inner.Fields.{end_past, end_feed, end_tab, end_on}
use Rattle.decimal.proofs.field_end.Goals as goal

pub returns-then-text-at : goal.returns-then-text-at
returns-then-text-at c = end_past _ _ c.if-text-at.true

pub returns-then-b-eq-TAB : goal.returns-then-b-eq-TAB
returns-then-b-eq-TAB c =
    let l = c.loop-i in
    let a = c.args in
    let b = byte_of a.text.now a.at (length a.text.now - a.at) l.i (omega arith) in
    end_tab a.text.now (a.at + l.i) (omega arith) (sym b ∙ c.if-b-eq-TAB.true) ∙ sym l.invariant

pub returns-then-b-eq-LINE_FEED : goal.returns-then-b-eq-LINE_FEED
returns-then-b-eq-LINE_FEED c =
    let l = c.loop-i in
    let a = c.args in
    let b = byte_of a.text.now a.at (length a.text.now - a.at) l.i (omega arith) in
    end_feed a.text.now (a.at + l.i) (omega arith) (sym b ∙ c.if-b-eq-LINE_FEED.true) ∙ sym l.invariant

pub loop-i-preserved : goal.loop-i-preserved
loop-i-preserved c =
    let l = c.loop-i in
    let a = c.args in
    let b = byte_of a.text.now a.at (length a.text.now - a.at) l.i (omega arith) in
    let e : a.at + (l.i + 1) ≡ a.at + l.i + 1 = omega arith in
    rw e (l.invariant
    ∙ end_on a.text.now (a.at + l.i) (omega arith) (λ t. c.if-b-eq-TAB.false (b ∙ t))
    (λ f. c.if-b-eq-LINE_FEED.false (b ∙ f)))

pub returns : goal.returns
returns c =
    let l = c.loop-i in
    let a = c.args in
    let e : length a.text.now ≡ a.at + l.i = omega arith in
    rw e (end_past a.text.now (a.at + l.i) (omega arith) ∙ sym l.invariant)
