-- `cutter::hold` meets its contract: the held bytes, those behind them, and zeros. Assumes nothing.
use Rattle.std.proofs.Common.{rules, arith, ◌≡◌, List, ◌++◌, append-nil, ℕ, ◌+◌, ◌-◌, ◌∙◌, length, take, drop, length-drop, replicate, refl}
use Rattle.std.proofs.Math.ListN.{drop_of_length-le}
use Rattle.std.proofs.Math.Seq.{length-take-le}
use Rattle.std.proofs.lemmas.Slice.{take-put_mid, drop-put_mid}
use borrow.Rule.Slice.PartMut.{put_mid}
use Rattle.lines.specs.HeldLine.{longest}
use Rattle.lines.proofs.HeldLine.{held_with, past_long, past_part}
use Rattle.cutter.proofs.hold.Goals as goal
use Rattle.cutter.proofs.hold.Goals.{Start, then-h-gt-LONGEST_EVENT-via-then-h-gt-LONGEST_EVENT, then-h-gt-LONGEST_EVENT-via-else-h-gt-LONGEST_EVENT+then-h-part}

long : (c : Start) → length c.args.h.bytes ≡ longest
unfolding longest
long c = search rules

pub returns-then-h-gt-LONGEST_EVENT : goal.returns-then-h-gt-LONGEST_EVENT
unfolding longest
returns-then-h-gt-LONGEST_EVENT c =
    c.too_long.ensures ∙ elim c.then-h-gt-LONGEST_EVENT.branch [
      | then-h-gt-LONGEST_EVENT-via-then-h-gt-LONGEST_EVENT w ↦ past_long _ _ w.if-h-gt-LONGEST_EVENT.true
      | then-h-gt-LONGEST_EVENT-via-else-h-gt-LONGEST_EVENT+then-h-part w ↦
          past_part _ _ w.if-h-gt-LONGEST_EVENT.false (long (goal.at.returns-then-h-gt-LONGEST_EVENT c).Start) w.if-h-part.true
    ]

-- what stands after both writes: k places are left behind n
filled : (bytes part zeros : List ℕ) (len n k : ℕ) → length bytes ≡ n + k → n ≡ len + length part →
    zeros ≡ replicate (length (take k (drop n (put_mid len (n - len) bytes part)))) 0 →
    (put_mid n k (put_mid len (n - len) bytes part) zeros ≡ (take len bytes ++ part) ++ zeros)
    × (zeros ≡ replicate k 0)
filled bytes part zeros len n k e m z =
    let d : drop n (put_mid len (n - len) bytes part) ≡ drop n bytes =
    drop-put_mid len (n - len) bytes part n (omega arith) (omega arith) (omega arith) in
    let t : take n (put_mid len (n - len) bytes part) ≡ take len bytes ++ part =
    take-put_mid len (n - len) bytes part n m (omega arith) in
    let l : length (drop n bytes) ≡ k = omega (arith, length-drop n bytes) in (
      rw (t, d, drop_of_length-le (drop n bytes) {i = k} (omega arith), append-nil zeros),
      z ∙ rw (d, length-take-le k (drop n bytes) (omega arith)),
    )

pub returns : goal.returns
unfolding longest
returns c =
    let h = c.args.h in
    let part = c.args.part.now in
    let n = h.len + length part in
    let s = long (goal.at.returns c).Start in
    let z = rw c.copy_from_slice.ensures.after at (c.fill.ensures.after (λ y e. e)) in
    let f = filled h.bytes part c.fill.new.self h.len n (13 - n) (omega (arith, s, c.if-h-gt-LONGEST_EVENT.false, c.if-h-part.false)) refl z in
    rw (c.copy_from_slice.ensures.after, f.0)
    (held_with h part c.fill.new.self c.if-h-gt-LONGEST_EVENT.false s c.if-h-part.false f.1)
