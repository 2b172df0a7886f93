-- `serving::serve_any` meets its contract: the lines are cut into numbers of its own, and answered
-- (crate lines, proofs/Serving.antt). Assumes nothing.
use mathlib.Core.Path.{◌≡◌, refl, sym, ap, ◌∙◌}
use mathlib.Core.List.{List, ◌++◌}
use Prim.Native.Nat.{ℕ, ◌*◌, ◌≤◌}
use native.Mathlib.Omega.{arith}
use lib.ListN.{length, take, drop, replicate, length-replicate, length-append}
use lib.Seq.{length-take-le}
use Rattle.lines.specs.declared.Held.{Held}
use Rattle.lines.specs.declared.Cut.{Cut}
use Rattle.lines.specs.Cutting.{cut_of}
use Rattle.lines.specs.Serving.{batch, lines_at_once}
use Rattle.lines.proofs.Serving.{cut_many, cut_fits, cut_served}
use Rattle.serving.proofs.serve_any.Goals as goal

-- the numbers before any line is cut
abbrev zeros : List ℕ
zeros = replicate (2 * batch) 0

-- The part of them that is lent.
module _ (most room : ℕ) (e : most ≡ lines_at_once room) where
  low : 2 * most ≤ 2 * batch
  low = omega (arith, e)

  lent_long : length (take (2 * most) zeros) ≡ 2 * most
  lent_long = length-take-le (2 * most) zeros (omega (arith, low, length-replicate {A = ℕ} (2 * batch) 0))

  long : length (take (2 * most) zeros) ≡ 2 * lines_at_once room
  long = lent_long ∙ ap (λ n. 2 * n) e

  -- the lines that were cut into it: their numbers stand at the front of all of them
  module _ (h : Held) (bytes : List ℕ) (c : Cut) (left : List ℕ)
      (cut : record { cut = c; room = left } ≡ cut_of h bytes (take (2 * most) zeros))
      (same : length left ≡ length (take (2 * most) zeros)) where
    many : 2 * c.many ≤ 2 * batch
    many = omega (arith, cut_many h bytes (take (2 * most) zeros) room long c left (drop (2 * most) zeros) cut)

    front : 2 * c.many ≤ length (left ++ drop (2 * most) zeros)
    front =
        omega (
          arith,
          length-append left (drop (2 * most) zeros),
          same,
          long,
          cut_many h bytes (take (2 * most) zeros) room long c left (drop (2 * most) zeros) cut,
        )

pub slice_bounds-values-end : goal.slice_bounds-values-end
unfolding batch
slice_bounds-values-end g c = low _ _ c.lines_at_once-most.ensures

pub slice_bounds-cut_lines-end : goal.slice_bounds-cut_lines-end
unfolding batch
slice_bounds-cut_lines-end g c = sym (lent_long _ _ c.lines_at_once-most.ensures)

pub overflow_mul-values-2 : goal.overflow_mul-values-2
unfolding batch
overflow_mul-values-2 g c =
    let d = c.cut_lines-c in
    record { fits = omega (arith, many _ _ c.lines_at_once-most.ensures c.args.h c.args.input.now d.result d.new.lines d.ensures d.auto.lines) }

pub slice_bounds-values-end-2 : goal.slice_bounds-values-end-2
unfolding batch
slice_bounds-values-end-2 g c =
    let d = c.cut_lines-c in front _ _ c.lines_at_once-most.ensures c.args.h c.args.input.now d.result d.new.lines d.ensures d.auto.lines

pub slice_bounds-answer_lines-end : goal.slice_bounds-answer_lines-end
unfolding batch
slice_bounds-answer_lines-end g c =
    let d = c.cut_lines-c in
    sym (length-take-le _ _
    (front _ _ c.lines_at_once-most.ensures c.args.h c.args.input.now d.result d.new.lines d.ensures d.auto.lines))

pub answer_lines-requires : goal.answer_lines-requires
unfolding batch
answer_lines-requires g c =
    let a = c.args in
    let d = c.cut_lines-c in
    cut_fits a.h a.input.now (take (2 * c.lines_at_once-most.result) zeros) (length a.room.now)
    (long _ _ c.lines_at_once-most.ensures) d.result d.new.lines (drop (2 * c.lines_at_once-most.result) zeros) d.ensures

pub returns : goal.returns
unfolding batch
returns g c =
    let a = c.args in
    let d = c.cut_lines-c in
    c.answer_lines.ensures ∙
    cut_served a.h a.input.now (take (2 * c.lines_at_once-most.result) zeros) (length a.room.now)
    (long _ _ c.lines_at_once-most.ensures) d.result d.new.lines (drop (2 * c.lines_at_once-most.result) zeros) d.ensures
    g.B.LineBox.the_box a.r a.room.now refl
