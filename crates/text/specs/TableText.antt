-- 01, Numbers for no: how the text of a table is read, of whatever kind the table is. "Reading:
-- length first; then line by line". What is a kind's own (what its lines say, where they may stand,
-- what is asked at the end) is a record TableText; document 01's is table_text in Read.antt.
use Rattle.std.specs.Prelude.{◌≡◌, List, [], ◌∷◌, map, ◌↔◌, ℕ, ◌+◌, leb, length, get_or, take, None, Option, Some, Err, Ok, Result}
use Rattle.laws.specs.Choice.{unless◌say◌else◌}
use Rattle.decimal.specs.Lines.{line_feed, split}
use Rattle.table.specs.declared.Refusal.{Refusal}
use Rattle.table.specs.declared.Refusal.TheVariants.{Malformed, OutOfBounds}
use Rattle.text.specs.Standing.{is_nil}
use Rattle.text.specs.declared.ReadError.{ReadError}
use Rattle.text.specs.declared.ReadError.TheVariants.{Equal, Refused}
use Rattle.table.specs.Refusals.{breaks, Standing}

-- What the reader answers: that the text is taken, or why it is none.
abbrev pub Reading : Type 0
Reading = Result (Unit {0}) ReadError

-- The answer, and the rows of a text that is taken.
pub record ReadOf (A : Type 0) : Type 0 where
  pub answer : Reading
  pub rows : A

abbrev pub taken : {A : Type 0} → A → ReadOf A
taken a = record { answer = Ok tt; rows = a }

-- "a refused read hands back no table": beside a refusal stand the rows of nothing
abbrev pub refused_beside : {A : Type 0} → A → Refusal → ℕ → ℕ → ReadOf A
refused_beside none why line field = record { answer = Err (Refused why line field); rows = none }

abbrev pub equal_beside : {A : Type 0} → A → ℕ → ℕ → ReadOf A
equal_beside none first second = record { answer = Err (Equal first second); rows = none }

-- The answer with the table that the rows make: of a refused text the table of nothing.
pub record Read (T : Type 0) : Type 0 where
  pub answer : Reading
  pub table : T

-- As the reader hands it back: the table of a text that is taken, or why it is none.
abbrev pub handed_by : {T : Type 0} → T → Reading → Result T ReadError
handed_by t (Ok tt) = Ok t
handed_by t (Err why) = Err why

unfoldable pub handed : {T : Type 0} → Read T → Result T ReadError
handed r = handed_by r.table r.answer

-- What is answered by what is handed back: beside the table, or why there is none.
abbrev pub answer_in : {T : Type 0} → Result T ReadError → Reading
answer_in (Ok t) = Ok tt
answer_in (Err why) = Err why

-- What is handed back says what was read: the answer, and a table exactly where the text is taken.
pub record HandsBack {T : Type 0} (r : Read T) : Type 0 where
  pub answer : answer_in (handed r) ≡ r.answer
  pub table : (t : T) → (handed r ≡ Ok t) ↔ ((r.answer ≡ Ok tt) × (r.table ≡ t))

-- 5, "equal priorities", "both lines". "Rows count from 0 within their kind, lines from 1": row 0
-- stands on line `top`. Where no two are equal, r is said.
abbrev pub pair_told : {A : Type 0} → A → ℕ → Option (ℕ × ℕ) → ReadOf A → ReadOf A
pair_told none top (Some (i, j)) r = equal_beside none (top + i) (top + j)
pair_told none top None r = r

-- The first line that breaks a rule is told. Where line n keeps them, r is said.
abbrev pub line_told : {A : Type 0} → A → ℕ → Standing → ReadOf A → ReadOf A
line_told none n (Ok tt) r = r
line_told none n (Err f) r = refused_beside none f.why n f.field

-- A kind of table, as its text is read. A are its rows, L is what a line of it can say.
pub record TableText (A L : Type 0) : Type 0 where
  -- the rows of nothing
  pub none : A
  -- what a line says
  pub says : List ℕ → L
  -- whether it keeps the rules as line n, below these rows
  pub stands : ℕ → A → L → Standing
  -- the rows with those of one more line, which keeps the rules there
  pub grows : A → L → A
  -- what is answered where the text ends before line n
  pub ends : ℕ → A → ReadOf A

-- From line n on, a being the rows above it. "an unclosed last line 1 at itself": the last part is
-- what stands after the last line feed. (There is always a part.)
unfoldable pub read_lines : {A L : Type 0} → TableText A L → ℕ → A → List (List ℕ) → ReadOf A
read_lines k n a [] = refused_beside k.none Malformed n 0
read_lines k n a (l ∷ []) = unless is_nil l say refused_beside k.none Malformed n 0 else k.ends n a
read_lines k n a (l ∷ (m ∷ ms)) =
    line_told k.none n (k.stands n a (k.says l)) (read_lines k (n + 1) (k.grows a (k.says l)) (m ∷ ms))

-- "length first": "The text is at most 16,384 bytes"; "text too long (line 0)"
unfoldable pub read_text : {A L : Type 0} → TableText A L → List ℕ → ReadOf A
read_text k text =
    unless leb (length text) 16384 say refused_beside k.none OutOfBounds 0 0
    else read_lines k 1 k.none (split line_feed text)

-- each line keeps the rules where it stands: the first as line n, below the rows a
abbrev pub LinesKeep : {A L : Type 0} → TableText A L → ℕ → A → List L → Type 0
LinesKeep k n a [] = Unit {0}
LinesKeep k n a (l ∷ ls) = (k.stands n a l ≡ Ok tt) × LinesKeep k (n + 1) (k.grows a l) ls

-- the rows a with those of the lines
unfoldable pub rows_grown : {A L : Type 0} → TableText A L → A → List L → A
rows_grown k a [] = a
rows_grown k a (l ∷ ls) = rows_grown k (k.grows a l) ls

-- how line n + i stands, part i of the text, below the rows a of all lines above line n
abbrev pub standing_of : {A L : Type 0} → TableText A L → ℕ → A → List (List ℕ) → ℕ → Standing
standing_of k n a ps i = k.stands (n + i) (rows_grown k a (map k.says (take i ps))) (k.says (get_or ps i []))
