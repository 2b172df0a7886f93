-- Only contracts of inner functions cite this file; a buyer need not read it. It says what is
-- answered to a line: what it says, and where it ends.
use Rattle.std.specs.Prelude.{ℕ, List}
use Rattle.decimal.specs.Inner.Fields.{first_line, fields_from, first_field}
use Rattle.text.specs.declared.Word.{Word}
use Rattle.text.specs.declared.Line.{Line}
use Rattle.text.specs.Line.{leading, line_by, read_line}
use Rattle.reader.specs.declared.forms.LineRead.{LineRead}
use Rattle.reader.specs.Inner.Fields.{line_end}

-- what is said, and where the line ends in which a place of a text lies
abbrev pub line_read : {L : Type 0} → List ℕ → ℕ → L → LineRead L
line_read text at said = record { said = said; end = line_end text at }

-- the fields from a place on, behind a leading word
abbrev pub read_behind : Word → List ℕ → ℕ → LineRead Line
read_behind word text from = line_read text from (line_by word (fields_from text from))

-- the leading word of the line at the front of a text
abbrev pub first_word : List ℕ → LineRead Word
first_word text = line_read text 0 (leading (first_field text 0))

-- the line at the front of a text
abbrev pub first_read : List ℕ → LineRead Line
first_read text = line_read text 0 (read_line (first_line text))
