-- What is given by a table file: by how it was read and, where it was, what the reader says of its
-- text.
use Rattle.std.specs.Prelude.{ℕ, ◌≤◌, ◌≡◌, Bool, true, false, List, [], length, if◌then◌else◌, Option, Some, None, Result, Ok, Err}
use Rattle.text.specs.declared.ReadError.{ReadError}
use Rattle.text.specs.declared.ReadError.TheVariants.{Equal, Refused}
use Rattle.text.specs.TableText.{Reading}
use Rattle.lines.specs.AnswerLine.{closed_line, refused_fields}
use Rattle.files.specs.declared.How.{How}
use Rattle.files.specs.declared.How.TheVariants.{On, End, Failed}
use Rattle.files.specs.Answers.{Out}

abbrev pub is_failed : How → Bool
is_failed On = false
is_failed End = false
is_failed Failed = true

-- "A refused table prints only" its one line
abbrev pub is_refused : Reading → Bool
is_refused (Ok tt) = false
is_refused (Err (Refused why line field)) = true
is_refused (Err (Equal first second)) = true

-- what is printed of a reader's answer: nothing of a table that was taken
abbrev pub said_of : Reading → List ℕ
said_of a = if is_refused a then closed_line (refused_fields a) else []

-- a table that was taken is handed on; of a refused one, the answer says whether its line was written
abbrev pub Said : {T : Type 0} → Result T ReadError → Result T Bool → Type 0
Said (Ok t) r = r ≡ Ok t
Said (Err why) (Ok t) = ⊥
Said (Err why) (Err written) = Out (length (said_of (Err why))) written

-- a read failed; or the reader of this kind of table answers
abbrev pub given_by : {T : Type 0} → (List ℕ → Result T ReadError) → How → List ℕ → Option (Result T ReadError)
given_by read how text = if is_failed how then None else Some (read text)

-- What the reads of the system answered, and the bytes that they left, are not known.
pub record Handed {T : Type 0} (read : List ℕ → Result T ReadError) (g : Option (Result T ReadError)) : Type 0 where
  pub how : How
  pub text : List ℕ
  pub short : length text ≤ 16385
  pub given : g ≡ given_by read how text
