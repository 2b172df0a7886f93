-- Only contracts of inner functions cite this file; a buyer need not read it. It says what one pass
-- over the fields of a line finds: the first field that is not as it should be, the number of each,
-- how many there are, and where the line ends.
use Rattle.std.specs.Prelude.{List, [], ◌∷◌, map, ℕ, ◌+◌, ltb, eqb, length, drop, set, replicate, if◌then◌else◌, None, Option, Some, unwrap_or}
use Rattle.decimal.specs.Number.{worth}
use Rattle.decimal.specs.declared.Field.{Field}
use Rattle.decimal.specs.Lines.{same}
use Rattle.decimal.specs.Inner.Fields.{first_line, fields_from, first_field, field_end}
use Rattle.table.specs.declared.Kind.{Kind}
use Rattle.table.specs.declared.Kind.TheVariants.{Event, Timed}
use Rattle.table.specs.declared.Level.{Level}
use Rattle.table.specs.declared.Level.TheVariants.{LO, MI, HI}
use Rattle.text.specs.Words.{timed_word, mi_word, hi_word}
use Rattle.text.specs.Line.{Expected, a_number, a_kind, a_level, fits}
use Rattle.reader.specs.declared.fields.Fields.{Fields}
use Rattle.units.specs.declared.Micros.{Micros}

-- what a letter of a shape stands for: `n` a number, `k` a kind, `l` a level
abbrev pub expected_of : ℕ → Expected
expected_of letter = if eqb letter 110 then a_number else if eqb letter 107 then a_kind else a_level

-- the number of a field that is as expected: the worth of a number, the place of a word among those
-- of its kind
abbrev pub value_of : Expected → List ℕ → ℕ
value_of a_number f = worth f
value_of a_kind f = if same f timed_word then 1 else 0
value_of a_level f = if same f hi_word then 2 else if same f mi_word then 1 else 0

abbrev pub kind_at : ℕ → Kind
kind_at v = if eqb v 1 then Timed else Event

abbrev pub level_at : ℕ → Level
level_at v = if eqb v 2 then HI else if eqb v 1 then MI else LO

-- field k, the last of its form, of a line of so many fields; its number is v
abbrev pub last_of : ℕ → ℕ → ℕ → Option Micros
last_of count k v = if ltb count k then None else Some (record { 0 = v })

unfoldable pub read_field : Expected → List ℕ → Option ℕ
read_field e f = if fits e f then Some (value_of e f) else None

-- the field that begins at a place of a text, read so
unfoldable pub field_as : Expected → List ℕ → ℕ → Field
field_as e text at = record { number = read_field e (first_field text at); end = field_end text at }

-- where the line ends in which a place of a text lies
abbrev pub line_end : List ℕ → ℕ → ℕ
line_end text at = at + length (first_line (drop at text))

-- the first place that is told, field k being as it was read
abbrev pub first_wrong : Option ℕ → Option ℕ → ℕ → Option ℕ
first_wrong wrong (Some v) k = wrong
first_wrong (Some j) None k = Some j
first_wrong None None k = Some k

-- nothing is told yet of a line that ends at a place
abbrev pub no_fields : ℕ → Fields
no_fields end = record { wrong = None; values = replicate 8 0; count = 0; end = end }

-- With field k, from 0, as it was read. Of a field that is not as expected the number is never
-- asked for.
abbrev pub noted : Fields → ℕ → Option ℕ → Fields
noted r k n =
    record {
      wrong = first_wrong r.wrong n (k + 1);
      values = set r.values k (unwrap_or n 0);
      count = k + 1;
      end = r.end;
    }

-- the line ends after n fields: too few are told before any field
abbrev pub counted : ℕ → ℕ → Option ℕ → Option ℕ
counted least n wrong = if ltb n least then Some 0 else wrong

-- another place told, and all else as it was
abbrev pub telling : Option ℕ → Fields → Fields
telling wrong r = record { wrong = wrong; values = r.values; count = r.count; end = r.end }

-- From field k on, r being what the fields before it gave; too many are told before any field.
-- (There is always a field.)
unfoldable pub passed : ℕ → List Expected → ℕ → Fields → List (List ℕ) → Fields
passed least es k r [] = r
passed least [] k r (f ∷ fs) = telling (Some 0) r
passed least (e ∷ es) k r (f ∷ []) =
    let q = noted r k (read_field e f) in telling (counted least (k + 1) q.wrong) q
passed least (e ∷ es) k r (f ∷ (g ∷ fs)) = passed least es (k + 1) (noted r k (read_field e f)) (g ∷ fs)

-- the fields from a place of a text on, as a shape expects them, up to the end of the line
abbrev pub fields_passed : ℕ → List ℕ → List ℕ → ℕ → Fields
fields_passed least shape text from =
    passed least (map expected_of shape) 0 (no_fields (line_end text from)) (fields_from text from)
