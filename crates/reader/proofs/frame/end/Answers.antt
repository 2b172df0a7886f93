-- `reader::frame::end` meets its contract: without a task a line is missing, else the rows of the
-- first pair are told as lines. Assumes nothing.
use Rattle.std.proofs.Common.{Some}
use mathlib.Core.Path.{◌≡◌, refl, sym, ap, ◌∙◌}
use Prim.Native.Nat.{ℕ, ◌<◌}
use native.Mathlib.Omega.{arith}
use borrow.Author.Tests.{eq-eqb, ne_eqb}
use Rattle.frametable.specs.declared.FrameTable.{FrameTable}
use Rattle.frametable.specs.Rows.{frame_rows_of}
use Rattle.frametable.specs.Rules.{equal_frame_tasks}
use Rattle.frametable.specs.Text.{frame_shown}
use Rattle.text.specs.TableText.{handed}
use Rattle.reader.specs.Inner.Frame.{FrameAbove}
use Rattle.reader.proofs.Read.{pair_below}
use Rattle.reader.proofs.FrameText.{frame_count, frame_nil, frame_ended_none, frame_ended_pair, frame_ended_taken}
use Rattle.reader.proofs.frame.end.Goals as goal

-- the rows of a pair that was found are rows in use
tasks_low : (n i j : ℕ) (t : FrameTable) → FrameAbove n t → equal_frame_tasks (frame_rows_of t).tasks ≡ Some (i, j) →
    (i < 64) × (j < 64)
tasks_low n i j t a e =
    let count = frame_count t a.whole in pair_below _ 64 _ _ _ (omega (arith, count, a.few)) e

pub returns-then-t-eq0 : goal.returns-then-t-eq0
unfolding frame_shown handed
returns-then-t-eq0 c =
    let t = c.args.t in
    let none = frame_nil t c.requires.whole ∙ eq-eqb _ 0 c.if-t-eq0.true in
    ap (λ x. handed (frame_shown x)) (frame_ended_none c.args.n (frame_rows_of t) none)

pub overflow_add-result : goal.overflow_add-result
overflow_add-result c =
    let low = tasks_low _ _ _ _ c.requires (sym c.equal_frame_tasks.ensures ∙ c.in-Some.is) in
    record { fits = omega (arith, low.0) }

pub overflow_add-result-in-Some : goal.overflow_add-result-in-Some
overflow_add-result-in-Some c =
    let low = tasks_low _ _ _ _ c.requires (sym c.equal_frame_tasks.ensures ∙ c.in-Some.is) in
    record { fits = omega (arith, low.1) }

pub returns-in-Some : goal.returns-in-Some
unfolding frame_shown handed
returns-in-Some c =
    let t = c.args.t in
    let some = frame_nil t c.requires.whole ∙ ne_eqb _ 0 c.if-t-eq0.false in
    ap (λ x. handed (frame_shown x))
    (frame_ended_pair c.args.n (frame_rows_of t) some (sym c.equal_frame_tasks.ensures ∙ c.in-Some.is))

pub returns : goal.returns
unfolding frame_shown handed
returns c =
    let t = c.args.t in
    let some = frame_nil t c.requires.whole ∙ ne_eqb _ 0 c.if-t-eq0.false in
    ap handed
    (frame_ended_taken c.args.n (frame_rows_of t) some t refl c.requires.whole
    (sym c.equal_frame_tasks.ensures ∙ c.in_default.is))
