-- 02, No. 6 and 01, Numbers for no: "Each is given exactly in its case." The cases of a frame box's
-- text, each with what is answered: 1, 2 and 5 with line and field or both lines. That every text is in
-- one, and answered so, is proofs/TextExactly.antt.
use Rattle.std.specs.Prelude.{◌≡◌, true, false, List, [], map, ℕ, ◌+◌, ◌-◌, ◌≤◌, ◌<◌, length, get_or, take, None, Some, Ok}
use Rattle.decimal.specs.Lines.{line_feed, split}
use Rattle.table.specs.declared.Refusal.{Refusal}
use Rattle.table.specs.declared.Refusal.TheVariants.{Malformed, OutOfBounds}
use Rattle.text.specs.Standing.{is_nil}
use Rattle.text.specs.TableText.{ReadOf, taken, refused_beside, equal_beside, rows_grown, standing_of}
use Rattle.frametable.specs.Rows.{FrameRows, no_frame_rows}
use Rattle.frametable.specs.Rules.{equal_frame_tasks}
use Rattle.frametable.specs.Line.{read_frame_line}
use Rattle.frametable.specs.Text.{frame_text}
use Rattle.table.specs.Refusals.{breaks, Standing}

module _ (text : List ℕ) where
  -- the text, cut behind each line feed: part i is line i + 1, and the last is what stands after the
  -- last line feed
  abbrev pub parts : List (List ℕ)
  parts = split line_feed text

  abbrev pub closed_lines : ℕ
  closed_lines = length parts - 1

  -- how line i + 1 stands, and that the first n lines keep the rules where they stand
  abbrev pub line_standing : ℕ → Standing
  line_standing i = standing_of frame_text 1 no_frame_rows parts i

  abbrev pub FirstKept : ℕ → Type 0
  FirstKept n = (j : ℕ) → j < n → line_standing j ≡ Ok tt

  -- the rows of all closed lines
  abbrev pub rows_said : FrameRows
  rows_said = rows_grown frame_text no_frame_rows (map read_frame_line (take closed_lines parts))

  -- "length first", and every closed line keeps the rules
  pub record AllKept : Type 0 where
    pub short : length text ≤ 16384
    pub kept : FirstKept closed_lines

-- the cases, in the order of the page, and what is answered in each
pub data FrameCase (text : List ℕ) : ReadOf FrameRows → Type 0 where
  too_long : 16384 < length text → FrameCase text (refused_beside no_frame_rows OutOfBounds 0 0)
  line_broken : (i : ℕ) (why : Refusal) (field : ℕ) → length text ≤ 16384 → i < closed_lines text →
      FirstKept text i → line_standing text i ≡ breaks why field →
      FrameCase text (refused_beside no_frame_rows why (1 + i) field)
  unclosed : AllKept text → is_nil (get_or (parts text) (closed_lines text) []) ≡ false →
      FrameCase text (refused_beside no_frame_rows Malformed (1 + closed_lines text) 0)
  no_task : AllKept text → is_nil (get_or (parts text) (closed_lines text) []) ≡ true →
      is_nil (rows_said text).tasks ≡ true →
      FrameCase text (refused_beside no_frame_rows Malformed (1 + closed_lines text) 0)
  equal_tasks : (i j : ℕ) → AllKept text → is_nil (get_or (parts text) (closed_lines text) []) ≡ true →
      is_nil (rows_said text).tasks ≡ false → equal_frame_tasks (rows_said text).tasks ≡ Some (i, j) →
      FrameCase text (equal_beside no_frame_rows (2 + i) (2 + j))
  all_taken : AllKept text → is_nil (get_or (parts text) (closed_lines text) []) ≡ true →
      is_nil (rows_said text).tasks ≡ false → equal_frame_tasks (rows_said text).tasks ≡ None →
      FrameCase text (taken (rows_said text))
