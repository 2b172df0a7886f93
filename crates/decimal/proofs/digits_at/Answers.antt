-- `decimal::digits_at` meets its contract: the first i bytes from `at` on are digits of the worth so
-- far, at most 11 of them, so that it is below 10 ^ 11. Assumes nothing.
use Rattle.std.proofs.Common.{◌≡◌, ◌+◌, ◌-◌, get_or, refl, ◌∙◌, arith}
use Rattle.laws.proofs.Choice.{is_within}
use Rattle.decimal.specs.Number.{are_digits, worth_from}
use Rattle.decimal.proofs.Inner.{byte_of, digits_more, worths_more, worth_few, digits_from}
use Rattle.decimal.proofs.digits_at.Goals as goal

pub loop-i-init : goal.loop-i-init
unfolding are_digits worth_from
loop-i-init c = record { digits = refl; worths = refl }

pub returns-then-d-gt9 : goal.returns-then-d-gt9
returns-then-d-gt9 c =
    let l = c.loop-i in
    let a = c.args in
    let b = byte_of a.s.now a.at (a.at + c.min.result - a.at) l.i (omega arith) in
    digits_from a.s.now a.at l.i _ _ (omega arith) l.invariant.digits l.invariant.worths
    (λ h. rw b at (c.digit-d.ensures.none c.if-d-gt9.true))

pub overflow_mul-worth : goal.overflow_mul-worth
overflow_mul-worth c =
    let l = c.loop-i in
    record { fits = omega (arith, l.invariant.worths, worth_few c.args.s.now c.args.at l.i (omega arith) l.invariant.digits) }

pub overflow_add-worth : goal.overflow_add-worth
overflow_add-worth c =
    let l = c.loop-i in
    record { fits = omega (arith, l.invariant.worths, worth_few c.args.s.now c.args.at l.i (omega arith) l.invariant.digits, c.if-d-gt9.false) }

pub loop-i-preserved : goal.loop-i-preserved
loop-i-preserved c =
    let l = c.loop-i in
    let a = c.args in
    let b = byte_of a.s.now a.at (a.at + c.min.result - a.at) l.i (omega arith) in
    let d = c.digit-d.ensures.worths c.if-d-gt9.false ∙ b in
    let w = is_within 48 57 (get_or a.s.now (a.at + l.i) 0) (omega arith) (omega arith) in
    record {
      digits = digits_more a.s.now a.at l.i (omega arith) w l.invariant.digits;
      worths = worths_more a.s.now a.at l.i l.worth c.digit-d.result (omega arith) d l.invariant.worths;
    }

pub returns : goal.returns
returns c =
    let l = c.loop-i in
    let a = c.args in
    let e : c.min.result ≡ l.i = omega arith in
    rw e (digits_from a.s.now a.at l.i _ _ (omega arith) l.invariant.digits l.invariant.worths (λ h. absurd (omega arith)))
