-- `serving::answer_lines` meets its contract: the box is told of the lines, and what it tells is
-- printed (crate lines, proofs/Serving.antt).
-- Assumes nothing.
use mathlib.Core.Path.{◌≡◌, sym, ap, ◌∙◌}
use mathlib.Core.List.{List}
use Prim.Native.Nat.{ℕ, ◌*◌, ◌/◌, ◌≤◌}
use native.Mathlib.Omega.{arith}
use lib.ListN.{length, take, replicate, length-replicate}
use lib.Seq.{length-take-le}
use Rattle.events.specs.declared.Many.{Many}
use Rattle.events.specs.Values.{lines_said}
use Rattle.events.specs.Boxes.{Box}
use Rattle.events.proofs.Values.{line_values_length}
use Rattle.lines.specs.Serving.{batch, service_in}
use Rattle.lines.specs.Many.{many_in}
use Rattle.lines.specs.Inner.{Fit, is_taken}
use Rattle.lines.proofs.Serving.{Telling, many_told, told_sound, told_unsound, printed_text}
use Rattle.lines.proofs.Serving.{cut_unsound, cut_refused, cut_answered}
use Rattle.serving.proofs.answer_lines.Goals as goal

-- what is told, before anything is
abbrev zeros : List ℕ
zeros = replicate (9 * batch) 0

-- Two numbers a line, and there is room for what is told.
module _ (values : List ℕ) (m : ℕ) (f : Fit values m) where
  nine : 9 * (length values / 2) ≡ 9 * length (lines_said values)
  nine = omega (arith, ap length f.said, line_values_length (lines_said values))

  fits : 9 * length (lines_said values) ≤ length zeros
  fits = omega (arith, f.few, length-replicate {A = ℕ} (9 * batch) 0)

  told_room : (told : List ℕ) → length told ≡ length zeros → 9 * (length values / 2) ≤ length told
  told_room told e = omega (arith, nine, fits, e)

  -- what the box told
  telling : {S : Type 0} (b : Box S) (s : S) (many : Many S) (told : List ℕ) →
      record { many = many; room = told } ≡ many_in b s values zeros →
      Telling b s (lines_said values) many.answer many.run told
  telling b s many told e = many_told b s values zeros fits many told e

pub returns-in_default : goal.returns-in_default
unfolding batch
returns-in_default g c =
    let a = c.args in
    let m = c.answer_many-m in
    let b = g.B.LineBox.the_box in
    let ls = lines_said a.lines.now in
    ap (λ x. service_in x a.room.now) c.refused.ensures ∙
    cut_unsound b a.r a.h a.c ls a.room.now
    (told_unsound b a.r ls _ _ _ (telling a.lines.now _ c.requires b a.r m.result m.new.told m.ensures)
    (ap is_taken c.in_default.is))

pub returns-in_default-answer : goal.returns-in_default-answer
unfolding batch
returns-in_default-answer g c =
    let a = c.args in
    let m = c.answer_many-m in
    let b = g.B.LineBox.the_box in
    let ls = lines_said a.lines.now in
    ap (λ x. service_in x a.room.now) c.refused-in_default-answer.ensures ∙
    cut_refused b a.r a.h a.c ls a.room.now
    (told_sound b a.r ls _ _ _ (telling a.lines.now _ c.requires b a.r m.result m.new.told m.ensures) c.in-Ok.is)
    (ap is_taken c.in_default-answer.is)

pub slice_bounds-told-end : goal.slice_bounds-told-end
unfolding batch
slice_bounds-told-end g c = told_room c.args.lines.now _ c.requires c.answer_many-m.new.told c.answer_many-m.auto.told

pub slice_bounds-print_lines-end : goal.slice_bounds-print_lines-end
unfolding batch
slice_bounds-print_lines-end g c =
    sym (length-take-le _ _ (told_room c.args.lines.now _ c.requires c.answer_many-m.new.told c.answer_many-m.auto.told))

pub returns : goal.returns
unfolding batch
returns g c =
    let a = c.args in
    let m = c.answer_many-m in
    let b = g.B.LineBox.the_box in
    let ls = lines_said a.lines.now in
    let t = telling a.lines.now _ c.requires b a.r m.result m.new.told m.ensures in
    let q = told_sound b a.r ls _ _ _ t c.in-Ok.is in
    let text =
    printed_text b a.r a.lines.now _ a.room.now c.requires
    (ap (λ k. take k m.new.told) (nine a.lines.now _ c.requires) ∙ t.front q) _ _
    c.print_lines-p.ensures in
    cut_answered b a.r a.h a.c ls a.room.now q c.in-Ok-answer.is _ _ _ (t.after q) text.0 text.1
