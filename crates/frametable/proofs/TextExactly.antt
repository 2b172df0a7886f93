-- 02, No. 6 and 01, Numbers for no: "Each is given exactly in its case." The cases of a frame box's
-- text, each with what is answered: every text is in one, and is answered as the case says. So 1, 2
-- and 5 are given exactly there, with line and field or both lines. Assumes nothing.
use Rattle.std.proofs.Common.{None, Option, Some}
use mathlib.Core.Path.{◌≡◌, refl, sym, subst, ◌∙◌}
use mathlib.Core.Bool.{Bool, true, false}
use mathlib.Core.List.{List, []}
use mathlib.Core.Logic.{◌↔◌, ◌⊎◌, inl, inr}
use Prim.Native.Nat.{ℕ, suc, ◌+◌, ◌≤◌, ◌<◌}
use native.Mathlib.Omega.{arith}
use lib.ListN.{length, get_or}
use Rattle.laws.specs.Choice.{unless◌say◌else◌}
use Rattle.laws.proofs.Choice.{le_or_lt}
use Rattle.decimal.specs.Lines.{line_feed}
use Rattle.decimal.proofs.Lines.{split_some}
use Rattle.table.specs.declared.Refusal.TheVariants.{Malformed}
use Rattle.text.specs.Standing.{is_nil}
use Rattle.text.specs.TableText.{ReadOf, refused_beside}
use Rattle.text.proofs.TableText.{text_long, text_short, first_told, all_told_lem, FirstBroken, first_or_all}
use Rattle.frametable.specs.Rows.{FrameRows, no_frame_rows}
use Rattle.frametable.specs.Rules.{equal_frame_tasks}
use Rattle.frametable.specs.Text.{frame_ended, frame_text, frame_read}
use Rattle.frametable.specs.Exactly.{parts, closed_lines, FirstKept, rows_said, AllKept, FrameCase, too_long, line_broken}
use Rattle.frametable.specs.Exactly.{unclosed, no_task, equal_tasks, all_taken}

module _ (text : List ℕ) where
  one_more : length (parts text) ≡ suc (closed_lines text)
  one_more = omega (arith, split_some line_feed text)

  -- where all closed lines keep the rules, the last part is told, and then the end
  end_told : AllKept text →
      frame_read text ≡
      (unless is_nil (get_or (parts text) (closed_lines text) []) say
      refused_beside no_frame_rows Malformed (1 + closed_lines text) 0
      else frame_ended (1 + closed_lines text) (rows_said text))
  unfolding frame_read
  end_told a =
      sym (text_short frame_text text a.short)
      ∙ all_told_lem frame_text 1 no_frame_rows (parts text) (closed_lines text) one_more a.kept

  case_told : (r : ReadOf FrameRows) → FrameCase text r → frame_read text ≡ r
  unfolding frame_read frame_ended
  case_told r (too_long h) = sym (text_long frame_text text h)
  case_told r (line_broken i why field h l s b) =
      sym (text_short frame_text text h)
      ∙ first_told frame_text 1 no_frame_rows (parts text) i why field (omega (arith, one_more)) s b
  case_told r (unclosed a e) = end_told a ∙ rw e
  case_told r (no_task a e f) = end_told a ∙ rw (e, f)
  case_told r (equal_tasks i j a e f p) = end_told a ∙ rw (e, f, p)
  case_told r (all_taken a e f p) = end_told a ∙ rw (e, f, p)

  -- every text is in a case
  abbrev SomeCase : Type 0
  SomeCase = (r : ReadOf FrameRows) × FrameCase text r

  some_case : SomeCase
  some_case = length_case (le_or_lt (length text) 16384)
    where
      end_case : AllKept text → (b : Bool) → is_nil (get_or (parts text) (closed_lines text) []) ≡ b →
          (d : Bool) → is_nil (rows_said text).tasks ≡ d → (p : Option (ℕ × ℕ)) →
          equal_frame_tasks (rows_said text).tasks ≡ p → SomeCase
      end_case a false e d f p q = (_, unclosed a e)
      end_case a true e true f p q = (_, no_task a e f)
      end_case a true e false f (Some (i, j)) q = (_, equal_tasks i j a e f q)
      end_case a true e false f None q = (_, all_taken a e f q)

      line_case : length text ≤ 16384 →
          FirstBroken frame_text 1 no_frame_rows (parts text) (closed_lines text) ⊎ FirstKept text (closed_lines text) →
          SomeCase
      line_case h (inl f) = (_, line_broken f.place f.why f.field h f.below f.kept f.broken)
      line_case h (inr k) =
          end_case (record { short = h; kept = k }) (is_nil (get_or (parts text) (closed_lines text) [])) refl
          (is_nil (rows_said text).tasks) refl (equal_frame_tasks (rows_said text).tasks) refl

      length_case : (length text ≤ 16384) ⊎ (16384 < length text) → SomeCase
      length_case (inl h) = line_case h (first_or_all frame_text 1 no_frame_rows (parts text) (closed_lines text))
      length_case (inr h) = (_, too_long h)

  -- The statement to quote.
  pub frame_read_exactly : (r : ReadOf FrameRows) → (frame_read text ≡ r) ↔ FrameCase text r
  frame_read_exactly r = (
    λ e.
        let s = some_case in subst (FrameCase text) (sym (case_told s.0 s.1) ∙ e) s.1,
    case_told r,
  )
