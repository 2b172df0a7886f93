-- A line and its text are inverse: what a written line says is what was written, and a line that
-- has a form is written as it stands. Nothing here knows a bound or a row. Assumes nothing.
use Rattle.std.specs.Prelude.{if◌then◌else◌, None, Option, Some}
use mathlib.Core.Path.{◌≡◌, refl, sym, ap, ap₂, ◌∙◌}
use mathlib.Core.Bool.{Bool, true, false, ◌||◌}
use mathlib.Core.List.{List, [], ◌∷◌, ◌++◌}
use mathlib.Core.Logic.{◌⊎◌, inl, inr}
use Prim.Native.Nat.{ℕ, suc, ◌≤◌, ◌<◌}
use native.Mathlib.Omega.{arith}
use lib.Dec.{ltb}
use lib.ListN.{length, get_or, take}
use borrow.Author.Tests.{ltb-true, ltb-false}
use Rattle.laws.specs.Choice.{every, within}
use Rattle.laws.specs.Search.{least, first_failed}
use Rattle.std.specs.Cmp.{first_so, second_so}
use Rattle.std.proofs.lemmas.Bool.{or_cases}
use Rattle.laws.proofs.Choice.{clash, if_ind, within_low, within_high}
use Rattle.laws.proofs.Search.{failed_none}
use Rattle.decimal.specs.Number.{worth, digits}
use Rattle.decimal.specs.Lines.{tab, line_feed, split, same}
use Rattle.decimal.proofs.Numbers.{worth_digits, number_digits, digits_worth, digits_length}
use Rattle.decimal.proofs.Lines.{all_high, high, lacks, high_digits, all_high_lack, join_lacks, split_joined, join_split, same_eq, AllUpTo, join_length}
use Rattle.table.specs.declared.Kind.{Kind}
use Rattle.table.specs.declared.Kind.TheVariants.{Event, Timed}
use Rattle.table.specs.declared.Level.{Level}
use Rattle.table.specs.declared.Level.TheVariants.{LO, MI, HI}
use Rattle.table.specs.declared.ByMode.{ByMode}
use Rattle.text.specs.declared.ServerLine.{ServerLine}
use Rattle.text.specs.declared.Word.{Word}
use Rattle.text.specs.declared.Word.TheVariants.{ATick, AServer, ATask, Unknown}
use Rattle.text.specs.declared.Line.{Line}
use Rattle.text.specs.declared.Line.TheVariants.{OfTick, OfServer, OfTask, Malformed}
use Rattle.text.specs.Words.{tick_word, server_word, task_word, event_word, timed_word, lo_word, mi_word, hi_word, is_kind, kind_of, kind_word, is_level, level_of, level_word}
use Rattle.text.specs.Line.{Expected, a_number, a_kind, a_level, fits, Form, tick_form, server_form, task_form, field_tests, form_tests, micros_at, server_said, task_said, leading, word_of, said_unless, formed, line_by, line_of, read_line, times_fields, last_fields, fields_of, write_line}
use Rattle.units.specs.declared.Micros.{Micros}

-- A line that has a text: it has a form, and each number has at most 11 digits.
abbrev pub Short : ℕ → Type 0
Short n = n < 100000000000

abbrev pub ShortTimes : ByMode Micros → Type 0
ShortTimes x = Short x.n.0 × Short x.d1.0 × Short x.d2.0

abbrev pub ShortLast : Option Micros → Type 0
ShortLast None = Unit {0}
ShortLast (Some u) = Short u.0

abbrev pub Writable : Line → Type 0
Writable (OfTick t) = Short t.0
Writable (OfServer s) =
    Short s.partition × Short s.priority × Short s.period.0 × ShortTimes s.capacity × ShortLast s.phase
Writable (OfTask k) = Short k.home × Short k.degraded × Short k.priority × ShortTimes k.limit
Writable (Malformed word field) = ⊥

abbrev pub Formed : Line → Type 0
Formed (OfTick t) = Unit {0}
Formed (OfServer s) = Unit {0}
Formed (OfTask k) = Unit {0}
Formed (Malformed word field) = ⊥

-- words: a kind and a level come back from theirs
kind_word_lem : (k : Kind) → is_kind (kind_word k) ≡ true
unfolding event_word timed_word same
kind_word_lem Event = refl
kind_word_lem Timed = refl

kind_back : (k : Kind) → kind_of (kind_word k) ≡ k
unfolding event_word timed_word same
kind_back Event = refl
kind_back Timed = refl

word_kind : (w : List ℕ) → is_kind w ≡ true → kind_word (kind_of w) ≡ w
word_kind w e = go (same w timed_word) refl
  where
    event : same w timed_word ≡ false → (same w event_word ≡ true) ⊎ (same w timed_word ≡ true) → event_word ≡ w
    event f (inl q) = sym (same_eq w event_word q)
    event f (inr q) = absurd (clash (same w timed_word) q f)

    go : (b : Bool) → same w timed_word ≡ b → kind_word (kind_of w) ≡ w
    go true q = rw q (sym (same_eq w timed_word q))
    go false q = rw q (event q (or_cases (same w event_word) (same w timed_word) e))

level_word_lem : (x : Level) → is_level (level_word x) ≡ true
unfolding lo_word mi_word hi_word same
level_word_lem LO = refl
level_word_lem MI = refl
level_word_lem HI = refl

level_back : (x : Level) → level_of (level_word x) ≡ x
unfolding lo_word mi_word hi_word same
level_back LO = refl
level_back MI = refl
level_back HI = refl

word_level : (w : List ℕ) → is_level w ≡ true → level_word (level_of w) ≡ w
word_level w e = go (same w hi_word) refl
  where
    lo : same w hi_word ≡ false → same w mi_word ≡ false →
        (same w lo_word ≡ true) ⊎ ((same w mi_word || same w hi_word) ≡ true) → lo_word ≡ w
    lo f g (inl q) = sym (same_eq w lo_word q)
    lo f g (inr q) = absurd (clash (same w mi_word || same w hi_word) q (rw (f, g)))

    mi : (b : Bool) → same w mi_word ≡ b → same w hi_word ≡ false → level_word (if b then MI else LO) ≡ w
    mi true q f = sym (same_eq w mi_word q)
    mi false q f = lo f q (or_cases (same w lo_word) (same w mi_word || same w hi_word) e)

    go : (b : Bool) → same w hi_word ≡ b → level_word (level_of w) ≡ w
    go true q = rw q (sym (same_eq w hi_word q))
    go false q = rw q (mi (same w mi_word) refl q)

-- words are letters
tick_high : high tick_word ≡ true
unfolding tick_word high
tick_high = refl

server_high : high server_word ≡ true
unfolding server_word high
server_high = refl

task_high : high task_word ≡ true
unfolding task_word high
task_high = refl

kind_high : (k : Kind) → high (kind_word k) ≡ true
unfolding event_word timed_word high
kind_high Event = refl
kind_high Timed = refl

level_high : (x : Level) → high (level_word x) ≡ true
unfolding lo_word mi_word hi_word high
level_high LO = refl
level_high MI = refl
level_high HI = refl

-- fields have a form exactly if none of its tests fails
abbrev pub Has : Form → List (List ℕ) → Type 0
Has form fs = every (form_tests form fs) ≡ true

said_formed : (form : Form) (fs : List (List ℕ)) (said : Line) → Has form fs → formed form fs said ≡ said
said_formed form fs said h = ap (λ x. said_unless x said) ((failed_none (form_tests form fs)).1 h)

-- what a line may be whose leading word asks for a form
formed_ind : (P : Line → Type 0) (form : Form) (fs : List (List ℕ)) (said : Line) → (Has form fs → P said) →
    ((field : ℕ) → P (Malformed (word_of said) field)) → P (formed form fs said)
formed_ind P form fs said f m = go (first_failed (form_tests form fs)) refl
  where
    go : (x : Option ℕ) → first_failed (form_tests form fs) ≡ x → P (said_unless x said)
    go (Some field) e = m field
    go None e = f ((failed_none (form_tests form fs)).0 e)

-- what the fields of a server's line say, with its last field or without
abbrev with_phase : ServerLine → Option Micros → ServerLine
with_phase s p =
    record {
      partition = s.partition;
      kind = s.kind;
      priority = s.priority;
      period = s.period;
      capacity = s.capacity;
      phase = p;
    }

server_of_fields : (s : ServerLine) (p : Option Micros) → Writable (OfServer (with_phase s p)) →
    line_of (fields_of (OfServer (with_phase s p))) ≡ OfServer (with_phase s p)
unfolding line_of line_by fields_of server_form form_tests field_tests every same tick_word server_word task_word
server_of_fields s None w =
    let fs = digits s.partition ∷ kind_word s.kind ∷ digits s.priority ∷ digits s.period.0 ∷ times_fields s.capacity in
    said_formed server_form fs (OfServer (server_said fs))
    (rw (
      number_digits s.partition w.0,
      kind_word_lem s.kind,
      number_digits s.priority w.1,
      number_digits s.period.0 w.2,
      number_digits s.capacity.n.0 w.3.0,
      number_digits s.capacity.d1.0 w.3.1,
      number_digits s.capacity.d2.0 w.3.2,
    ))
    ∙ rw (
      worth_digits s.partition,
      kind_back s.kind,
      worth_digits s.priority,
      worth_digits s.period.0,
      worth_digits s.capacity.n.0,
      worth_digits s.capacity.d1.0,
      worth_digits s.capacity.d2.0,
    )
server_of_fields s (Some u) w =
    let fs =
    digits s.partition
    ∷ kind_word s.kind
    ∷ digits s.priority
    ∷ digits s.period.0
    ∷ (times_fields s.capacity ++ (digits u.0 ∷ [])) in
    said_formed server_form fs (OfServer (server_said fs))
    (rw (
      number_digits s.partition w.0,
      kind_word_lem s.kind,
      number_digits s.priority w.1,
      number_digits s.period.0 w.2,
      number_digits s.capacity.n.0 w.3.0,
      number_digits s.capacity.d1.0 w.3.1,
      number_digits s.capacity.d2.0 w.3.2,
      number_digits u.0 w.4,
    ))
    ∙ rw (
      worth_digits s.partition,
      kind_back s.kind,
      worth_digits s.priority,
      worth_digits s.period.0,
      worth_digits s.capacity.n.0,
      worth_digits s.capacity.d1.0,
      worth_digits s.capacity.d2.0,
      worth_digits u.0,
    )

-- what the fields of a line say
line_of_fields : (l : Line) → Writable l → line_of (fields_of l) ≡ l
unfolding line_of line_by fields_of tick_form server_form task_form form_tests field_tests every same tick_word server_word task_word
line_of_fields (OfTick t) w =
    let fs = digits t.0 ∷ [] in
    said_formed tick_form fs (OfTick (micros_at fs 1)) (rw (number_digits t.0 w)) ∙ rw (worth_digits t.0)
line_of_fields (OfServer s) w = server_of_fields s s.phase w
line_of_fields (OfTask k) w =
    let fs = digits k.home ∷ digits k.degraded ∷ digits k.priority ∷ level_word k.level ∷ times_fields k.limit in
    said_formed task_form fs (OfTask (task_said fs))
    (rw (
      number_digits k.home w.0,
      number_digits k.degraded w.1,
      number_digits k.priority w.2,
      level_word_lem k.level,
      number_digits k.limit.n.0 w.3.0,
      number_digits k.limit.d1.0 w.3.1,
      number_digits k.limit.d2.0 w.3.2,
    ))
    ∙ rw (
      worth_digits k.home,
      worth_digits k.degraded,
      worth_digits k.priority,
      level_back k.level,
      worth_digits k.limit.n.0,
      worth_digits k.limit.d1.0,
      worth_digits k.limit.d2.0,
    )
line_of_fields (Malformed word field) w = absurd w

-- each field is at least `0` byte by byte, so a line's text has no line feed, and tabs only between
-- fields
last_high : (p : Option Micros) → all_high (last_fields p) ≡ true
unfolding all_high
last_high None = refl
last_high (Some u) = rw (high_digits u.0)

fields_high : (l : Line) → all_high (fields_of l) ≡ true
unfolding fields_of all_high
fields_high (OfTick t) = rw (tick_high, high_digits t.0)
fields_high (OfServer s) =
    rw (
      server_high,
      high_digits s.partition,
      kind_high s.kind,
      high_digits s.priority,
      high_digits s.period.0,
      high_digits s.capacity.n.0,
      high_digits s.capacity.d1.0,
      high_digits s.capacity.d2.0,
      last_high s.phase,
    )
fields_high (OfTask k) =
    rw (
      task_high,
      high_digits k.home,
      high_digits k.degraded,
      high_digits k.priority,
      level_high k.level,
      high_digits k.limit.n.0,
      high_digits k.limit.d1.0,
      high_digits k.limit.d2.0,
    )
fields_high (Malformed word field) = refl

fields_some : (l : Line) → Writable l → 0 < length (fields_of l)
unfolding fields_of
fields_some (OfTick t) w = omega arith
fields_some (OfServer s) w = omega arith
fields_some (OfTask k) w = omega arith
fields_some (Malformed word field) w = absurd w

pub line_lacks : (l : Line) → lacks line_feed (write_line l) ≡ true
unfolding write_line
line_lacks l =
    join_lacks line_feed tab (fields_of l) refl (all_high_lack line_feed (fields_of l) (omega arith) (fields_high l))

-- what is written is read
pub read_write_line : (l : Line) → Writable l → read_line (write_line l) ≡ l
unfolding read_line write_line
read_write_line l w =
    rw (split_joined tab (fields_of l) (fields_some l w) (all_high_lack tab (fields_of l) (omega arith) (fields_high l)))
    (line_of_fields l w)

-- what a leading word may be
lead_ind : (P : Word → Type 0) (w : List ℕ) → (tick_word ≡ w → P ATick) → (server_word ≡ w → P AServer) →
    (task_word ≡ w → P ATask) → P Unknown → P (leading w)
lead_ind P w f g h m =
    if_ind P (same w tick_word) (λ e. f (sym (same_eq w tick_word e)))
    (λ a. if_ind P (same w server_word) (λ e. g (sym (same_eq w server_word e)))
    (λ b. if_ind P (same w task_word) (λ e. h (sym (same_eq w task_word e))) (λ c. m)))

-- a word alone has no form: the count of its fields is wrong
none_formed : (word : Word) → line_by word [] ≡ Malformed word 0
unfolding line_by tick_form server_form task_form form_tests field_tests first_failed least
none_formed ATick = refl
none_formed AServer = refl
none_formed ATask = refl
none_formed Unknown = refl

pub no_fields_lem : (w : List ℕ) → line_of (w ∷ []) ≡ Malformed (leading w) 0
unfolding line_of
no_fields_lem w = none_formed (leading w)

-- what is read of a field, written: the field, if it is as expected
back : Expected → List ℕ → List ℕ
back a_number f = digits (worth f)
back a_kind f = kind_word (kind_of f)
back a_level f = level_word (level_of f)

back_fits : (e : Expected) (f : List ℕ) → fits e f ≡ true → back e f ≡ f
unfolding back
back_fits a_number f h = digits_worth f h
back_fits a_kind f h = word_kind f h
back_fits a_level f h = word_level f h

-- and of the fields from place k on
back_from : List Expected → ℕ → List (List ℕ) → List (List ℕ)
back_from [] k fs = []
back_from (e ∷ es) k fs = back e (get_or fs k []) ∷ back_from es (suc k) fs

back_next : (es : List Expected) (k : ℕ) (f : List ℕ) (fs : List (List ℕ)) → back_from es (suc k) (f ∷ fs) ≡ back_from es k fs
unfolding back_from
back_next [] k f fs = refl
back_next (e ∷ es) k f fs = ap (λ r. back e (get_or fs k []) ∷ r) (back_next es (suc k) f fs)

back_all : (es : List Expected) (fs : List (List ℕ)) → length fs ≤ length es → every (field_tests es fs) ≡ true →
    back_from (take (length fs) es) 0 fs ≡ fs
unfolding back_from field_tests every
back_all es [] l h = refl
back_all [] (f ∷ fs) l h = absurd (omega arith)
back_all (e ∷ es) (f ∷ fs) l h =
    rw (
      back_fits e f (first_so (fits e f) (every (field_tests es fs)) h),
      back_next (take (length fs) es) 0 f fs,
      back_all es fs (omega arith) (second_so (fits e f) (every (field_tests es fs)) h),
    )

-- how many fields have a form, and n of them that do
pub form_count : (form : Form) (fs : List (List ℕ)) → Has form fs →
    (form.least ≤ length fs) × (length fs ≤ length form.fields)
unfolding form_tests every
form_count form fs h =
    let m = length form.fields in
    let p = first_so (within form.least m (length fs)) (every (field_tests form.fields fs)) h in
    (within_low form.least m (length fs) p, within_high form.least m (length fs) p)

form_back : (form : Form) (fs : List (List ℕ)) (n : ℕ) → length fs ≡ n → Has form fs →
    back_from (take n form.fields) 0 fs ≡ fs
unfolding form_tests every
form_back form fs n e h =
    let c = within form.least (length form.fields) (length fs) in
    let t = every (field_tests form.fields fs) in
    rw (← e) (back_all form.fields fs (form_count form fs h).1 (second_so c t h))

-- a server's line goes on to its last field or ends before it
server_fields : (fs : List (List ℕ)) → Has server_form fs → fields_of (OfServer (server_said fs)) ≡ server_word ∷ fs
unfolding fields_of server_form back back_from
server_fields fs h = go (ltb (length fs) 8) refl
  where
    c : (7 ≤ length fs) × (length fs ≤ 8)
    c = form_count server_form fs h

    go : (b : Bool) → ltb (length fs) 8 ≡ b → fields_of (OfServer (server_said fs)) ≡ server_word ∷ fs
    go true e = rw e (ap (λ r. server_word ∷ r) (form_back server_form fs 7 (omega (arith, c, ltb-true (length fs) 8 e)) h))
    go false e = rw e (ap (λ r. server_word ∷ r) (form_back server_form fs 8 (omega (arith, c, ltb-false (length fs) 8 e)) h))

fields_of_line : (fs : List (List ℕ)) → Formed (line_of fs) → fields_of (line_of fs) ≡ fs
unfolding fields_of tick_form server_form task_form back back_from line_of line_by
fields_of_line [] f = absurd f
fields_of_line (w ∷ fs) f =
    lead_ind (λ word. Formed (line_by word fs) → fields_of (line_by word fs) ≡ w ∷ fs) w
    (λ e.
    formed_ind (λ l. Formed l → fields_of l ≡ w ∷ fs) tick_form fs (OfTick (micros_at fs 1))
    (λ h u. ap₂ ◌∷◌ e (form_back tick_form fs 1 (omega (arith, form_count tick_form fs h)) h)) (λ field u. absurd u))
    (λ e.
    formed_ind (λ l. Formed l → fields_of l ≡ w ∷ fs) server_form fs (OfServer (server_said fs))
    (λ h u. server_fields fs h ∙ ap (λ x. x ∷ fs) e) (λ field u. absurd u))
    (λ e.
    formed_ind (λ l. Formed l → fields_of l ≡ w ∷ fs) task_form fs (OfTask (task_said fs))
    (λ h u. ap₂ ◌∷◌ e (form_back task_form fs 7 (omega (arith, form_count task_form fs h)) h)) (λ field u. absurd u))
    (λ u. absurd u)
    f

-- what is read of a line that has a form is written as it stands
pub write_read_line : (l : List ℕ) → Formed (read_line l) → write_line (read_line l) ≡ l
unfolding read_line write_line
write_read_line l f = rw (fields_of_line (split tab l) f) (join_split tab l)

-- how long a line is
pub short_digits : (n : ℕ) → Short n → length (digits n) ≤ 11
short_digits n h = digits_length n 10 (omega arith)

kind_length : (k : Kind) → length (kind_word k) ≤ 11
unfolding event_word timed_word
kind_length Event = omega arith
kind_length Timed = omega arith

level_length : (x : Level) → length (level_word x) ≤ 11
unfolding lo_word mi_word hi_word
level_length LO = omega arith
level_length MI = omega arith
level_length HI = omega arith

times_length : (x : ByMode Micros) → ShortTimes x → AllUpTo 11 (times_fields x)
times_length x w = (short_digits x.n.0 w.0, (short_digits x.d1.0 w.1, (short_digits x.d2.0 w.2, tt)))

last_length : (x : ByMode Micros) (p : Option Micros) → ShortTimes x → ShortLast p → AllUpTo 11 (times_fields x ++ last_fields p)
last_length x None w v = times_length x w
last_length x (Some u) w v = (
  short_digits x.n.0 w.0,
  (short_digits x.d1.0 w.1, (short_digits x.d2.0 w.2, (short_digits u.0 v, tt))),
)

fields_length : (l : Line) → Writable l → AllUpTo 11 (fields_of l)
unfolding fields_of tick_word server_word task_word
fields_length (OfTick t) w = (omega arith, (short_digits t.0 w, tt))
fields_length (OfServer s) w = (
  omega arith,
  (
    short_digits s.partition w.0,
    (
      kind_length s.kind,
      (
        short_digits s.priority w.1,
        (short_digits s.period.0 w.2, last_length s.capacity s.phase w.3 w.4),
      ),
    ),
  ),
)
fields_length (OfTask k) w = (
  omega arith,
  (
    short_digits k.home w.0,
    (
      short_digits k.degraded w.1,
      (
        short_digits k.priority w.2,
        (level_length k.level, times_length k.limit w.3),
      ),
    ),
  ),
)
fields_length (Malformed word field) w = absurd w

last_many : (p : Option Micros) → length (last_fields p) ≤ 1
last_many None = omega arith
last_many (Some u) = omega arith

fields_many : (l : Line) → length (fields_of l) ≤ 9
unfolding fields_of
fields_many (OfTick t) = omega arith
fields_many (OfServer s) = omega (arith, last_many s.phase)
fields_many (OfTask k) = omega arith
fields_many (Malformed word field) = omega arith

pub line_length : (l : Line) → Writable l → length (write_line l) ≤ 108
unfolding write_line
line_length l w = omega (arith, join_length tab 11 (fields_of l) (fields_length l w), fields_many l)
