-- Nothing but number 4 and the field moved: each line says what it said, its number is the old one,
-- 41 to 45 being 4, and its row is the same; so line by line the text is told as before. A test
-- that asks nothing of a field changes nothing where every test is asked. Assumes nothing.
use Rattle.std.specs.Prelude.{if◌then◌else◌, None, Option, Some, Ok, Err}
use mathlib.Core.Path.{◌≡◌, refl}
use mathlib.Core.Bool.{Bool, true, false, not, ◌&&◌, and_assoc}
use mathlib.Core.List.{List, [], ◌∷◌}
use Prim.Native.Nat.{ℕ, ◌+◌}
use native.Mathlib.Omega.{arith}
use lib.Dec.{leb, eqb, leb-zero, leb-suc-zero, leb-suc-suc}
use lib.ListN.{length}
use borrow.Author.Tests.{ne_eqb}
use Rattle.laws.specs.Choice.{unless◌say◌else◌, every, within}
use Rattle.laws.specs.Search.{first_failed, is_found}
use Rattle.laws.proofs.Choice.{if_ind}
use Rattle.laws.proofs.Search.{all_hold}
use Rattle.decimal.specs.Lines.{tab, line_feed, split, same}
use Rattle.table.specs.declared.ByMode.{ByMode}
use Rattle.table.specs.declared.Server.{Server}
use Rattle.table.specs.declared.Refusal.{Refusal}
use Rattle.table.specs.declared.Refusal.TheVariants.{Malformed as MalformedWhy, OutOfBounds}
use Rattle.table.specs.declared.Refusal.TheVariants.{NotWhole, AbsentRow, OtherPartition}
use Rattle.table.specs.declared.Refusal.TheVariants.{NotTimed, OtherServer, Falling}
use Rattle.table.specs.Refusals.{number_of, standing_number, breaks, Standing}
use Rattle.table.specs.Pairs.{equal_servers, equal_tasks}
use Rattle.table.specs.Rows.{Rows, no_rows}
use Rattle.table.specs.Rules.{row_there, same_partition, degraded_timed, timed_at_home, task_fault}
use Rattle.text.specs.declared.Word.TheVariants.{ATick, AServer, ATask, Unknown}
use Rattle.text.specs.declared.Line.{Line}
use Rattle.text.specs.declared.Line.TheVariants.{OfTick, OfServer, OfTask, Malformed}
use Rattle.text.specs.Words.{tick_word, server_word, task_word}
use Rattle.text.specs.Line.{Expected, fits, Form, tick_form, server_form, task_form, field_tests}
use Rattle.text.specs.Line.{form_tests, micros_at, server_said, task_said, said_unless, formed, line_by}
use Rattle.text.specs.Line.{line_of, read_line}
use Rattle.text.specs.Standing.{is_nil, limits_of, placed, server_bounds, task_bounds, bounds}
use Rattle.text.specs.Standing.{server_whole, wholes, fault, tell◌at◌or◌, standing, grown}
use Rattle.text.specs.TableText.{read_lines}
use Rattle.text.specs.Read.{ReadRows, refused, pair_said, compared, ended, line_said, table_text, read}
use Rattle.text.proofs.Refused.{standing_0}
use Rattle.promises.specs.OldReading.{OldLine, old_tick, old_server, old_task, old_malformed}
use Rattle.promises.specs.OldReading.{old_all_fit, old_has, old_formed, old_line_of, old_read_line}
use Rattle.promises.specs.OldReading.{old_placed, old_server_bounds, old_task_bounds, old_bounds}
use Rattle.promises.specs.OldReading.{old_server_whole, old_wholes, old_task_fault, old_fault}
use Rattle.promises.specs.OldReading.{old_standing, old_grown, OldAnswer, old_refused}
use Rattle.promises.specs.OldReading.{old_pair_said, old_compared, old_ended, old_line_said}
use Rattle.promises.specs.OldReading.{old_read_from, old_read, number_before, as_before}
use Rattle.promises.specs.OldReading.{NothingElseMoved}
use Rattle.units.specs.declared.Ticks.{Ticks}

-- What a line said before: each field is what is expected there, and there is none beyond.
abbrev before : Line → OldLine
before (OfTick t) = old_tick t
before (OfServer s) = old_server s
before (OfTask k) = old_task k
before (Malformed word field) = old_malformed

and_swap : (a b c : Bool) → (a && (b && c)) ≡ (b && (a && c))
and_swap true b c = refl
and_swap false true c = refl
and_swap false false c = refl

fields_fit : (es : List Expected) (fs : List (List ℕ)) →
    (leb (length fs) (length es) && every (field_tests es fs)) ≡ old_all_fit es fs
unfolding field_tests every old_all_fit
fields_fit es [] = rw (leb-zero (length es))
fields_fit [] (f ∷ fs) = rw (leb-suc-zero (length fs))
fields_fit (e ∷ es) (f ∷ fs) =
    rw (leb-suc-suc (length fs) (length es), ← fields_fit es fs)
    (and_swap (leb (length fs) (length es)) (fits e f) (every (field_tests es fs)))

has_form : (form : Form) (fs : List (List ℕ)) → every (form_tests form fs) ≡ old_has form fs
unfolding form_tests every old_has
has_form form fs =
    let n = length fs in
    let es = form.fields in
    rw (← fields_fit es fs)
    (and_assoc (leb form.least n) (leb n (length es)) (every (field_tests es fs)))

formed_before : (form : Form) (fs : List (List ℕ)) (said : Line) →
    before (formed form fs said) ≡ old_formed form fs (before said)
formed_before form fs said =
    rw (← has_form form fs, all_hold (form_tests form fs)) (go (first_failed (form_tests form fs)))
  where
    go : (x : Option ℕ) →
        before (said_unless x said) ≡ (if not (is_found x) then before said else old_malformed)
    go (Some field) = refl
    go None = refl

line_before : (fs : List (List ℕ)) → before (line_of fs) ≡ old_line_of fs
unfolding line_of line_by old_line_of
line_before [] = refl
line_before (w ∷ fs) = go (same w tick_word) (same w server_word) (same w task_word)
  where
    go : (t s k : Bool) →
        before
        (line_by (if t then ATick else if s then AServer else if k then ATask else Unknown) fs) ≡
        (if t then old_formed tick_form fs (old_tick (micros_at fs 1))
        else if s then old_formed server_form fs (old_server (server_said fs))
        else if k then old_formed task_form fs (old_task (task_said fs))
        else old_malformed)
    go true s k = formed_before tick_form fs (OfTick (micros_at fs 1))
    go false true k = formed_before server_form fs (OfServer (server_said fs))
    go false false true = formed_before task_form fs (OfTask (task_said fs))
    go false false false = refl

read_line_before : (l : List ℕ) → before (read_line l) ≡ old_read_line l
unfolding read_line old_read_line
read_line_before l = line_before (split tab l)

-- The number of a line before: 1, 2, 3 and 4 are judged by the same tests.
abbrev number : Standing → ℕ
number s = number_before (standing_number s)

tests_before : (p : Bool) (bs cs : List Bool) (f : Standing) →
    number
    (unless p say breaks MalformedWhy 0
    else tell OutOfBounds at first_failed bs
    or tell NotWhole at first_failed cs
    or f) ≡
    (unless p say 1 else unless every bs say 2 else unless every cs say 3 else number f)
tests_before p bs cs f =
    rw (all_hold bs, all_hold cs) (go p (first_failed bs) (first_failed cs))
  where
    go : (q : Bool) (x y : Option ℕ) →
        number
        (unless q say breaks MalformedWhy 0 else tell OutOfBounds at x or tell NotWhole at y or f) ≡
        (unless q say 1
        else unless not (is_found x) say 2
        else unless not (is_found y) say 3
        else number f)
    go false x y = refl
    go true (Some field) y = refl
    go true None (Some field) = refl
    go true None None = refl

-- 41 to 45: absent rows and falling limits are parted by field
fault_before : (ss : List Server) (home degraded : ℕ) (limit : ByMode Ticks) →
    number (task_fault ss home degraded limit) ≡ old_task_fault ss home degraded limit
unfolding task_fault old_task_fault
fault_before ss home degraded limit =
    go (row_there ss home) (row_there ss degraded) (same_partition ss home degraded)
    (degraded_timed ss degraded) (timed_at_home ss home degraded)
    (leb limit.n.0 limit.d1.0) (leb limit.d1.0 limit.d2.0)
  where
    go : (h d p t s r q : Bool) →
        number
        (unless h say breaks AbsentRow 1
        else unless d say breaks AbsentRow 2
        else unless p say breaks OtherPartition 2
        else unless t say breaks NotTimed 2
        else unless s say breaks OtherServer 2
        else unless r say breaks Falling 6
        else unless q say breaks Falling 7
        else (Ok tt)) ≡
        (unless h && d say 4
        else unless p say 4
        else unless t say 4
        else unless s say 4
        else unless r && q say 4
        else 0)
    go false d p t s r q = refl
    go true false p t s r q = refl
    go true true false t s r q = refl
    go true true true false s r q = refl
    go true true true true false r q = refl
    go true true true true true false q = refl
    go true true true true true true false = refl
    go true true true true true true true = refl

-- a malformed line is 1, wherever it stands
malformed_before : (p : Bool) (field : ℕ) →
    number (unless p say breaks MalformedWhy 0 else breaks MalformedWhy field) ≡ 1
malformed_before true field = refl
malformed_before false field = refl

standing_before : (n : ℕ) (a : Rows) (l : Line) →
    number (standing n a l) ≡ old_standing n a (before l)
unfolding
    every standing placed bounds server_bounds task_bounds wholes server_whole fault
    old_standing old_placed old_bounds old_server_bounds old_task_bounds old_wholes old_server_whole old_fault
standing_before n a (OfTick t) = tests_before (placed n a ATick) (bounds a (OfTick t)) [] (Ok tt)
standing_before n a (OfServer s) =
    tests_before (placed n a AServer) (bounds a (OfServer s)) (wholes a (OfServer s)) (Ok tt)
standing_before n a (OfTask k) =
    rw (← fault_before a.servers k.home k.degraded (limits_of a.tick.0 k.limit))
    (tests_before (placed n a ATask) (bounds a (OfTask k)) [] (fault a (OfTask k)))
standing_before n a (Malformed word field) = malformed_before (placed n a word) field

grown_before : (a : Rows) (l : Line) → grown a l ≡ old_grown a (before l)
unfolding grown old_grown
grown_before a (OfTick t) = refl
grown_before a (OfServer s) = refl
grown_before a (OfTask k) = refl
grown_before a (Malformed word field) = refl

-- The text: what is said where nothing is refused is as before, so all is.
pair_before : (top : ℕ) (x : Option (ℕ × ℕ)) (r : ReadRows) (o : OldAnswer) → as_before r ≡ o →
    as_before (pair_said top x r) ≡ old_pair_said top x o
pair_before top (Some (i, j)) r o e = refl
pair_before top None r o e = e

compared_before : (a : Rows) → as_before (compared a) ≡ old_compared a
unfolding compared old_compared
compared_before a =
    pair_before 2 (equal_servers a.servers) _ _
    (pair_before (2 + length a.servers) (equal_tasks a.tasks) _ _ refl)

unless_before : (b : Bool) (why : Refusal) (line : ℕ) (r : ReadRows) (o : OldAnswer) →
    as_before r ≡ o →
    as_before (unless b say refused why line 0 else r) ≡
    (unless b say old_refused (number_before (number_of why)) line else o)
unless_before true why line r o e = e
unless_before false why line r o e = refl

ended_before : (n : ℕ) (a : Rows) → as_before (ended n a) ≡ old_ended n a
unfolding ended old_ended
ended_before n a = unless_before (not (is_nil a.tasks)) MalformedWhy n _ _ (compared_before a)

-- a line that breaks a rule had a number
broken_before : (why : Refusal) (field : ℕ) → eqb (number (breaks why field)) 0 ≡ false
broken_before why field =
    if_ind (λ (m : ℕ). eqb m 0 ≡ false) (within 41 45 (number_of why)) (λ e. refl)
    (λ e. ne_eqb (number_of why) 0 (λ z. kept ((standing_0 (breaks why field)).0 z)))
  where
    kept : breaks why field ≡ Ok tt → ⊥
    kept e = let c : ◌≡◌ {A = ℕ} 0 1 = cc in omega arith

line_said_before : (n : ℕ) (s : Standing) (r : ReadRows) (o : OldAnswer) → as_before r ≡ o →
    as_before (line_said n s r) ≡ old_line_said n (number s) o
line_said_before n (Ok tt) r o e = e
line_said_before n (Err f) r o e = rw (broken_before f.why f.field)

from_before : (n : ℕ) (a : Rows) (ps : List (List ℕ)) →
    as_before (read_lines table_text n a ps) ≡ old_read_from n a ps
unfolding read_lines old_read_from
from_before n a [] = refl
from_before n a (l ∷ []) = unless_before (is_nil l) MalformedWhy n _ _ (ended_before n a)
from_before n a (l ∷ (m ∷ ms)) =
    let x = read_line l in
    rw (← read_line_before l, ← standing_before n a x, ← grown_before a x)
    (line_said_before n (standing n a x) _ _ (from_before (n + 1) (grown a x) (m ∷ ms)))

pub nothing_else_moved : NothingElseMoved
unfolding read old_read
nothing_else_moved text =
    unless_before (leb (length text) 16384) OutOfBounds 0 _ _
    (from_before 1 no_rows (split line_feed text))
