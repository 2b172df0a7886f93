-- 01, One night in full, as a program goes through it with any box: the event file comes in pieces,
-- and after each of them some bytes are made for the writer. That all of them together are the
-- answers to the whole file is a theorem (proofs/Pieces.antt, `pieces_lines`).
use Rattle.std.specs.Prelude.{◌≡◌, Bool, true, false, List, [], ◌∷◌, ◌++◌, ℕ}
use Rattle.decimal.specs.Lines.{closed}
use Rattle.events.specs.Boxes.{Box, after_lines_in}
use Rattle.lines.specs.declared.Held.{Held}
use Rattle.lines.specs.HeldLine.{line_in, held_of}
use Rattle.lines.specs.Cutting.{lines_in, left_in}
use Rattle.lines.specs.AnswerLine.{another_fields, closed_line}
use Rattle.lines.specs.Night.{answer_lines_in}

-- A night so far: what the box holds, the line that is not closed yet, the bytes that were made for
-- the writer last, and whether it goes on.
pub record Stand (S : Type 0) : Type 0 where
  pub run : S
  pub held : Held
  pub text : List ℕ
  pub going : Bool

-- some bytes of the file: each line that they close is answered, the last one held
abbrev pub piece_in : {S : Type 0} → Box S → S → Held → List ℕ → Stand S
piece_in b s h bytes =
    let ls = lines_in (line_in h) bytes in
    record {
      run = after_lines_in b s ls;
      held = held_of (left_in (line_in h) bytes);
      text = closed (answer_lines_in b s ls);
      going = true;
    }

-- "or an unclosed last one" is another line: the file ends
abbrev pub last_text : List ℕ → List ℕ
last_text [] = []
last_text (b ∷ l) = closed_line another_fields

abbrev pub end_in : {S : Type 0} → S → Held → Stand S
end_in s h = record { run = s; held = h; text = last_text (line_in h); going = false }

-- What is written of a file that is read in these pieces: the text of each, and of its end.
unfoldable pub written_in : {S : Type 0} → Box S → S → Held → List (List ℕ) → List ℕ
written_in b s h [] = (end_in s h).text
written_in b s h (p ∷ ps) = let d = piece_in b s h p in d.text ++ written_in b d.run d.held ps

-- the file
unfoldable pub joined : List (List ℕ) → List ℕ
joined [] = []
joined (p ∷ ps) = p ++ joined ps

-- what holds between two turns: no event is refused by 13, and a line is held in one way only
pub record Ready {S : Type 0} (b : Box S) (s : S) (h : Held) : Type 0 where
  pub sound : b.sound s ≡ true
  pub held : h ≡ held_of (line_in h)
