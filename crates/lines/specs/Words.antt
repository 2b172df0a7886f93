-- The words of event lines and answer lines, as bytes.
use Rattle.std.specs.Prelude.{List, ℕ}
use Rattle.laws.specs.Quoted.{bytes}
use Rattle.table.specs.declared.Mode.{Mode}
use Rattle.table.specs.declared.Mode.TheVariants.{N, D1, D2}

abbrev pub release_letter : List ℕ
release_letter = bytes "R"

abbrev pub tick_letter : List ℕ
tick_letter = bytes "T"

abbrev pub another_letter : List ℕ
another_letter = bytes "?"

abbrev pub ok_word : List ℕ
ok_word = bytes "ok"

abbrev pub no_word : List ℕ
no_word = bytes "no"

abbrev pub run_word : List ℕ
run_word = bytes "run"

abbrev pub empty_word : List ℕ
empty_word = bytes "empty"

abbrev pub idle_word : List ℕ
idle_word = bytes "idle"

abbrev pub done_word : List ℕ
done_word = bytes "done"

abbrev pub cut_word : List ℕ
cut_word = bytes "cut"

abbrev pub dash : List ℕ
dash = bytes "-"

abbrev pub table_word : List ℕ
table_word = bytes "table"

abbrev pub mode_word : Mode → List ℕ
mode_word N = bytes "N"
mode_word D1 = bytes "D1"
mode_word D2 = bytes "D2"
