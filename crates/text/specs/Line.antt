-- 01, Tables: what a line says, in microseconds, as it stands. Here is judged only whether the line
-- has the form of a `tick`, a `server` or a `task` line; bounds and rows are judged in
-- Standing.antt, and know nothing of bytes.
use Rattle.std.specs.Prelude.{Bool, List, [], ◌∷◌, ◌++◌, ℕ, ◌-◌, ltb, length, get_or, if◌then◌else◌, None, Option, Some}
use Rattle.laws.specs.Choice.{within}
use Rattle.laws.specs.Search.{first_failed}
use Rattle.decimal.specs.Number.{is_number, worth, digits}
use Rattle.decimal.specs.Lines.{tab, split, join, same}
use Rattle.units.specs.declared.Micros.{Micros}
use Rattle.table.specs.declared.ByMode.{ByMode}
use Rattle.text.specs.declared.ServerLine.{ServerLine}
use Rattle.text.specs.declared.TaskLine.{TaskLine}
use Rattle.text.specs.declared.Word.{Word}
use Rattle.text.specs.declared.Word.TheVariants.{ATick, AServer, ATask, Unknown}
use Rattle.text.specs.declared.Line.{Line}
use Rattle.text.specs.declared.Line.TheVariants.{OfTick, OfServer, OfTask, Malformed}
use Rattle.text.specs.Words.{tick_word, server_word, task_word, is_kind, kind_of, kind_word, is_level, level_of, level_word}

-- What a field is expected to be. Form and meaning are two definitions, as for numbers.
pub data Expected : Type 0 where
  a_number : Expected
  a_kind : Expected
  a_level : Expected

abbrev pub fits : Expected → List ℕ → Bool
fits a_number f = is_number f
fits a_kind f = is_kind f
fits a_level f = is_level f

-- The form of a kind of line: what each field after its leading word is expected to be, and how
-- many fields there are at least.
pub record Form : Type 0 where
  pub fields : List Expected
  pub least : ℕ

-- "`tick`: microseconds in a tick"
unfoldable pub tick_form : Form
tick_form = record { fields = a_number ∷ []; least = 1 }

-- "`server`: partition 0 to 15; kind; priority 1 to 255, greater first; period; capacities in N,
-- D1, D2." 02, No. 7: "Each server row gets a phase .. as a last field. .. A row without the field
-- has phase 0": the last field may be absent.
unfoldable pub server_form : Form
server_form =
    record {
      fields = a_number ∷ a_kind ∷ a_number ∷ a_number ∷ a_number ∷ a_number ∷ a_number ∷ a_number ∷ [];
      least = 7;
    }

-- "`task`: home server; degraded server; priority 1 to 255, greater first; level; limits for N, D1,
-- D2"
unfoldable pub task_form : Form
task_form =
    record {
      fields = a_number ∷ a_number ∷ a_number ∷ a_level ∷ a_number ∷ a_number ∷ a_number ∷ [];
      least = 7;
    }

-- 1, "malformed", field by field: each is what is expected there
unfoldable pub field_tests : List Expected → List (List ℕ) → List Bool
field_tests es [] = []
field_tests [] (f ∷ fs) = []
field_tests (e ∷ es) (f ∷ fs) = fits e f ∷ field_tests es fs

-- 02, No. 2: "a wrong .. count of fields in 1 .. is told first, as 0": the place of a test in the
-- list is the field that it is about, and 0 is the line itself
unfoldable pub form_tests : Form → List (List ℕ) → List Bool
form_tests form fs =
    within form.least (length form.fields) (length fs) ∷ field_tests form.fields fs

-- Fields count from 1 after the leading word. One that is missing is empty: no number and no word.
abbrev pub field_at : List (List ℕ) → ℕ → List ℕ
field_at fs k = get_or fs (k - 1) []

-- "text holds microseconds"
abbrev pub micros_at : List (List ℕ) → ℕ → Micros
micros_at fs k = record { 0 = worth (field_at fs k) }

-- fields 5 to 7: "in N, D1, D2"
abbrev pub times_at : List (List ℕ) → ByMode Micros
times_at fs = record { n = micros_at fs 5; d1 = micros_at fs 6; d2 = micros_at fs 7 }

-- field k, the last of its form, where the line goes so far
abbrev pub last_at : List (List ℕ) → ℕ → Option Micros
last_at fs k = if ltb (length fs) k then None else Some (micros_at fs k)

abbrev pub server_said : List (List ℕ) → ServerLine
server_said fs =
    record {
      partition = worth (field_at fs 1);
      kind = kind_of (field_at fs 2);
      priority = worth (field_at fs 3);
      period = micros_at fs 4;
      capacity = times_at fs;
      phase = last_at fs 8;
    }

abbrev pub task_said : List (List ℕ) → TaskLine
task_said fs =
    record {
      home = worth (field_at fs 1);
      degraded = worth (field_at fs 2);
      priority = worth (field_at fs 3);
      level = level_of (field_at fs 4);
      limit = times_at fs;
    }

-- the leading word, and of a line the one that it has
abbrev pub leading : List ℕ → Word
leading w =
    if same w tick_word then ATick
    else if same w server_word then AServer
    else if same w task_word then ATask
    else Unknown

abbrev pub word_of : Line → Word
word_of (OfTick t) = ATick
word_of (OfServer s) = AServer
word_of (OfTask k) = ATask
word_of (Malformed word field) = word

-- the field at which a line is malformed, if it is
abbrev pub malformed_at : Line → Option ℕ
malformed_at (OfTick t) = None
malformed_at (OfServer s) = None
malformed_at (OfTask k) = None
malformed_at (Malformed word field) = Some field

-- what a line of any kind of table says where no field is wrong, and the field that is
abbrev pub unless_wrong : {L : Type 0} → Option ℕ → (ℕ → L) → L → L
unless_wrong (Some field) malformed said = malformed field
unless_wrong None malformed said = said

-- 02, No. 2: "leftmost field concerned"
abbrev pub formed_or : {L : Type 0} → (ℕ → L) → Form → List (List ℕ) → L → L
formed_or malformed form fs said = unless_wrong (first_failed (form_tests form fs)) malformed said

-- of document 01's lines
abbrev pub said_unless : Option ℕ → Line → Line
said_unless wrong said = unless_wrong wrong (Malformed (word_of said)) said

abbrev pub formed : Form → List (List ℕ) → Line → Line
formed form fs said = formed_or (Malformed (word_of said)) form fs said

-- a line of no known word: "a wrong leading word .. is told first, as 0"
abbrev pub no_line : Line
no_line = Malformed Unknown 0

-- The leading word tells which form the fields after it must have.
unfoldable pub line_by : Word → List (List ℕ) → Line
line_by ATick fs = formed tick_form fs (OfTick (micros_at fs 1))
line_by AServer fs = formed server_form fs (OfServer (server_said fs))
line_by ATask fs = formed task_form fs (OfTask (task_said fs))
line_by Unknown fs = no_line

unfoldable pub line_of : List (List ℕ) → Line
line_of [] = no_line
line_of (w ∷ fs) = line_by (leading w) fs

-- "lines parted by tabs"
unfoldable pub read_line : List ℕ → Line
read_line l = line_of (split tab l)

-- The same, written. A malformed line is never written.
abbrev pub times_fields : ByMode Micros → List (List ℕ)
times_fields x = digits x.n.0 ∷ digits x.d1.0 ∷ digits x.d2.0 ∷ []

abbrev pub last_fields : Option Micros → List (List ℕ)
last_fields None = []
last_fields (Some u) = digits u.0 ∷ []

unfoldable pub fields_of : Line → List (List ℕ)
fields_of (OfTick t) = tick_word ∷ digits t.0 ∷ []
fields_of (OfServer s) =
    server_word
    ∷ digits s.partition
    ∷ kind_word s.kind
    ∷ digits s.priority
    ∷ digits s.period.0
    ∷ (times_fields s.capacity ++ last_fields s.phase)
fields_of (OfTask k) =
    task_word
    ∷ digits k.home
    ∷ digits k.degraded
    ∷ digits k.priority
    ∷ level_word k.level
    ∷ times_fields k.limit
fields_of (Malformed word field) = []

unfoldable pub write_line : Line → List ℕ
write_line l = join tab (fields_of l)
