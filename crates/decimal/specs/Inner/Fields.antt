-- Only contracts of `field_end` and `read_field`, which crate reader calls, and of inner functions
-- cite this file; a buyer need not read it. 01, Our forms for each place: "a line begins anywhere in
-- the lent text and is read there": what stands in a text from a place on, up to the end of its
-- line, and the first field of it.
use Rattle.std.specs.Prelude.{ℕ, ◌+◌, List, [], length, drop, nat_lt, slice_index_or}
use Rattle.decimal.specs.declared.End.{End}
use Rattle.decimal.specs.declared.Field.{Field}
use Rattle.decimal.specs.Number.{read_number}
use Rattle.decimal.specs.Lines.{tab, line_feed, split}

-- "each closed by a line feed": what stands before the first one, or all where none does
unfoldable pub first_line : List ℕ → List ℕ
first_line text = slice_index_or (split line_feed text) 0 []

-- "parted by tabs"
abbrev pub fields_from : List ℕ → ℕ → List (List ℕ)
fields_from text at = split tab (first_line (drop at text))

abbrev pub first_field : List ℕ → ℕ → List ℕ
first_field text at = slice_index_or (fields_from text at) 0 []

-- the place after it, and whether another field follows
unfoldable pub field_end : List ℕ → ℕ → End
field_end text at =
    record { at = at + length (first_field text at); more = nat_lt 1 (length (fields_from text at)) }

unfoldable pub field_from : List ℕ → ℕ → Field
field_from text at = record { number = read_number (first_field text at); end = field_end text at }
