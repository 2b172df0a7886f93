-- What is told of a line, by number and field. A standing makes one test after the other, and each
-- is a question of the page, in the same order and at the same field: so the first test that fails
-- is the first question that does not hold. Assumes nothing.
use Rattle.std.specs.Prelude.{if◌then◌else◌, None, Option, Some, Ok}
use mathlib.Core.Path.{◌≡◌, refl, sym, ap, ◌∙◌}
use mathlib.Core.Bool.{Bool, true, false, not, ◌&&◌, ◌||◌}
use mathlib.Core.List.{List, [], ◌∷◌, ◌++◌}
use mathlib.Core.Logic.Iff
use mathlib.Core.Logic.{◌⊎◌, inl, inr, ◌↔◌}
use Prim.Native.Nat.{ℕ, zero, suc, ◌+◌, ◌*◌, ◌%◌, ◌≤◌, ◌<◌}
use native.Mathlib.Omega.{arith}
use native.Mathlib.Nat.{add-zero}
use lib.Dec.{leb, ltb, eqb, leb-suc-suc}
use lib.ListN.{length, get_or}
use borrow.Author.Tests.{eqb-true, eq-eqb, lt-ltb, le-ltb}
use Rattle.laws.specs.Choice.{unless◌say◌else◌, within}
use Rattle.laws.specs.Search.{first_failed}
use Rattle.std.proofs.lemmas.Bool.{cases_Bool, or_left, or_right, or_cases}
use Rattle.std.specs.Cmp.{first_so, second_so}
use Rattle.laws.proofs.Choice.{clash}
use Rattle.laws.proofs.Choice.{within_low, within_high, is_within, le_or_lt}
use Rattle.laws.proofs.Search.{failed_empty, failed_here, one_past, failed_past}
use Rattle.decimal.specs.Number.{is_number, worth}
use Rattle.decimal.specs.Lines.{tab, split, same}
use Rattle.decimal.proofs.Lines.{same_eq}
use Rattle.table.specs.declared.ByMode.{ByMode}
use Rattle.table.specs.declared.Kind.{Kind}
use Rattle.table.specs.declared.Kind.TheVariants.{Event, Timed}
use Rattle.table.specs.declared.Server.{Server}
use Rattle.table.specs.declared.Refusal.{Refusal}
use Rattle.table.specs.declared.Refusal.TheVariants.{Malformed, OutOfBounds, NotWhole}
use Rattle.table.specs.declared.Refusal.TheVariants.{AbsentRow, OtherPartition, NotTimed}
use Rattle.table.specs.declared.Refusal.TheVariants.{OtherServer, Falling}
use Rattle.table.specs.Refusals.{number_of, breaks, Standing}
use Rattle.table.specs.Rows.{Rows, is_timed}
use Rattle.table.specs.Rules.{stays_home, task_fault}
use Rattle.text.specs.declared.Word.{Word}
use Rattle.text.specs.declared.Word.TheVariants.{ATick, AServer, ATask, Unknown}
use Rattle.text.specs.declared.Line.{Line}
use Rattle.text.specs.declared.Line.TheVariants.{OfTick, OfServer, OfTask}
use Rattle.text.specs.Words.{event_word, timed_word, is_kind, lo_word, mi_word, hi_word, is_level}
use Rattle.text.specs.Line.{Expected, fits, Form, tick_form, server_form, task_form}
use Rattle.text.specs.Line.{field_tests, form_tests, field_at, micros_at, server_said, task_said, leading}
use Rattle.text.specs.Line.{word_of, malformed_at, said_unless, formed, line_by, line_of, read_line}
use Rattle.text.specs.Standing.{is_nil, phase_said, limits_of, placed, server_bounds, task_bounds, bounds}
use Rattle.text.specs.Standing.{server_whole, wholes, fault, tell◌at◌or◌, standing}
use Rattle.promises.specs.Condition1.{Asked, no◌at◌unless◌, Tells, Gives, IsNumber, IsKind}
use Rattle.promises.specs.Condition1.{IsLevel, kind_at, partition_at, fault_asked, asked_by}
use Rattle.promises.specs.Condition1.{line_asked, EachFault}
use Rattle.promises.proofs.Tests.{Tests, is_le, is_lt, is_eq, is_in, both, ◌and◌}
use Rattle.units.specs.declared.Ticks.{Ticks}

-- what is told of a standing is what its questions tell
pub record Told (s : Standing) (qs : List {1} Asked) : Type 0 where
  pub exactly : (number field : ℕ) → Gives s number field ↔ Tells qs number field

kept : Told (Ok tt) []
kept =
    record {
      exactly = λ number field. (
        λ s. (sym s.0, sym s.1),
        λ q. (sym q.0, sym q.1),
      );
    }

-- one test and its question, above the others
ask : (b : Bool) {P : Type 0} (why : Refusal) (field : ℕ) {r : Standing} {qs : List {1} Asked} →
    Tests b P → Told r qs →
    Told (unless b say breaks why field else r) ((no number_of why at field unless P) ∷ qs)
ask true why field t f =
    record {
      exactly =
          λ number told. (
            λ s. inr (t.0 refl, (f.exactly number told).0 s),
            λ q.
                elim q [
                  | inl p ↦ absurd (p.0 (t.0 refl))
                  | inr p ↦ (f.exactly number told).1 p.1
                ],
          );
    }
ask false why field t f =
    record {
      exactly =
          λ number told. (
            λ s. inl (λ p. clash false (t.1 p) refl, sym s.0, sym s.1),
            λ q.
                elim q [
                  | inl p ↦ (sym p.1, sym p.2)
                  | inr p ↦ absurd (clash false (t.1 p.0) refl)
                ],
          );
    }

-- tests from place k on, and their questions; a test that always holds asks nothing
infixr 5 ◌also◌
data Asks (why : Refusal) : ℕ → List Bool → List {1} Asked → Type 1 where
  none : {k : ℕ} → Asks why k [] []
  ◌also◌ : {k : ℕ} {b : Bool} {bs : List Bool} {P : Type 0} {qs : List {1} Asked} → Tests b P →
      Asks why (suc k) bs qs → Asks why k (b ∷ bs) ((no number_of why at k unless P) ∷ qs)
  unasked : {k : ℕ} {bs : List Bool} {qs : List {1} Asked} → Asks why (suc k) bs qs →
      Asks why k (true ∷ bs) qs

-- the tests one by one
abbrev told_from : Refusal → ℕ → List Bool → Standing → Standing
told_from why k [] r = r
told_from why k (b ∷ bs) r = unless b say breaks why k else told_from why (suc k) bs r

asked_from : (why : Refusal) {k : ℕ} {bs : List Bool} {qs rs : List {1} Asked} {r : Standing} →
    Asks why k bs qs → Told r rs → Told (told_from why k bs r) (qs ++ rs)
asked_from why none f = f
asked_from why (◌also◌ {k} {b} t ts) f = ask b why k t (asked_from why ts f)
asked_from why (unasked ts) f = asked_from why ts f

-- the first of them that fails, found at a place counted from k on
abbrev found_from : Refusal → ℕ → Option ℕ → Standing → Standing
found_from why k (Some j) r = breaks why (k + j)
found_from why k None r = r

past : (why : Refusal) (k : ℕ) (x : Option ℕ) (r : Standing) →
    found_from why k (one_past x) r ≡ found_from why (suc k) x r
past why k (Some j) r = let z : k + suc j ≡ suc k + j = omega arith in rw z
past why k None r = refl

one_by_one : (why : Refusal) (k : ℕ) (bs : List Bool) (r : Standing) →
    found_from why k (first_failed bs) r ≡ told_from why k bs r
one_by_one why k [] r = rw failed_empty
one_by_one why k (false ∷ bs) r = rw (failed_here bs, add-zero k)
one_by_one why k (true ∷ bs) r =
    rw (failed_past bs) (past why k (first_failed bs) r ∙ one_by_one why (suc k) bs r)

tell_first : (why : Refusal) (x : Option ℕ) (r : Standing) → (tell why at x or r) ≡ found_from why 0 x r
tell_first why (Some j) r = let z : 0 + j ≡ j = omega arith in rw z
tell_first why None r = refl

asked : (why : Refusal) {bs : List Bool} {qs rs : List {1} Asked} {r : Standing} →
    Asks why 0 bs qs → Told r rs → Told (tell why at first_failed bs or r) (qs ++ rs)
asked why {bs} {qs} {rs} {r} ts f =
    rw (tell_first why (first_failed bs) r, one_by_one why 0 bs r) (asked_from why ts f)

-- Fields from place k on, each by its place: the first m of them must be there, and of one after
-- them something is asked where it is.
abbrev where_there : Expected → ℕ → List (List ℕ) → Bool
where_there e k fs = if ltb k (length fs) then fits e (get_or fs k []) else true

abbrev expected_from : ℕ → List Expected → ℕ → List (List ℕ) → List Bool
expected_from m [] k fs = []
expected_from zero (e ∷ es) k fs = where_there e k fs ∷ expected_from zero es (suc k) fs
expected_from (suc m) (e ∷ es) k fs = fits e (get_or fs k []) ∷ expected_from m es (suc k) fs

next_expected : (m : ℕ) (es : List Expected) (k : ℕ) (f : List ℕ) (fs : List (List ℕ)) →
    expected_from m es (suc k) (f ∷ fs) ≡ expected_from m es k fs
next_expected m [] k f fs = refl
next_expected zero (e ∷ es) k f fs =
    rw (leb-suc-suc (suc k) (length fs))
    (ap (λ bs. where_there e k fs ∷ bs) (next_expected zero es (suc k) f fs))
next_expected (suc m) (e ∷ es) k f fs =
    ap (λ bs. fits e (get_or fs k []) ∷ bs) (next_expected m es (suc k) f fs)

-- of none nothing is asked
none_there : (es : List Expected) (k : ℕ) → first_failed (expected_from 0 es k []) ≡ None
none_there [] k = failed_empty
none_there (e ∷ es) k =
    rw (le-ltb k 0 (omega arith), failed_past (expected_from 0 es (suc k) []), none_there es (suc k))

failed_same : (b : Bool) (bs cs : List Bool) → first_failed bs ≡ first_failed cs →
    first_failed (b ∷ bs) ≡ first_failed (b ∷ cs)
failed_same true bs cs e = rw (failed_past bs, failed_past cs, e)
failed_same false bs cs e = rw (failed_here bs, failed_here cs)

by_place : (m : ℕ) (es : List Expected) (fs : List (List ℕ)) → m ≤ length fs → length fs ≤ length es →
    first_failed (field_tests es fs) ≡ first_failed (expected_from m es 0 fs)
unfolding field_tests
by_place zero es [] l h = failed_empty ∙ sym (none_there es 0)
by_place (suc m) es [] l h = absurd (omega arith)
by_place m [] (f ∷ fs) l h = absurd (omega arith)
by_place zero (e ∷ es) (f ∷ fs) l h =
    rw (lt-ltb 0 (suc (length fs)) (omega arith), next_expected zero es 0 f fs)
    (failed_same (fits e f) (field_tests es fs) (expected_from zero es 0 fs)
    (by_place zero es fs (omega arith) (omega arith)))
by_place (suc m) (e ∷ es) (f ∷ fs) l h =
    rw (next_expected m es 0 f fs)
    (failed_same (fits e f) (field_tests es fs) (expected_from m es 0 fs)
    (by_place m es fs (omega arith) (omega arith)))

-- as many as expected, or nothing is asked after that
abbrev as_many : Form → List (List ℕ) → Bool
as_many form fs = within form.least (length form.fields) (length fs)

-- what is expected of each field of a form
abbrev expected_by : Form → List (List ℕ) → List Bool
expected_by form fs = expected_from form.least form.fields 0 fs

form_by_place : (form : Form) (fs : List (List ℕ)) →
    first_failed (form_tests form fs) ≡ first_failed (as_many form fs ∷ expected_by form fs)
unfolding form_tests
form_by_place form fs = go (cases_Bool (as_many form fs))
  where
    m : ℕ
    m = length form.fields

    go : (as_many form fs ≡ true) ⊎ (as_many form fs ≡ false) →
        first_failed (as_many form fs ∷ field_tests form.fields fs) ≡
        first_failed (as_many form fs ∷ expected_by form fs)
    go (inl h) =
        failed_same (as_many form fs) (field_tests form.fields fs) (expected_by form fs)
        (by_place form.least form.fields fs (within_low form.least m (length fs) h)
        (within_high form.least m (length fs) h))
    go (inr h) =
        rw (
          h,
          failed_here (field_tests form.fields fs),
          failed_here (expected_by form fs),
        )

-- A line that is to have a form: it stands in its place, its fields are as expected, and then the
-- rules of what it says.
abbrev rules_of : Rows → Line → Standing
rules_of a l =
    tell OutOfBounds at first_failed (bounds a l) or tell NotWhole at first_failed (wholes a l)
    or fault a l

formed_standing : (n : ℕ) (a : Rows) (l : Line) (x : Option ℕ) → malformed_at l ≡ None →
    standing n a (said_unless x l) ≡
    (unless placed n a (word_of l) say breaks Malformed 0 else tell Malformed at x or rules_of a l)
unfolding standing
formed_standing n a l (Some field) e = refl
formed_standing n a l None e = rw e

formed_told : (n : ℕ) (a : Rows) (form : Form) (fs : List (List ℕ)) (l : Line) {P : Type 0}
    {qs rs : List {1} Asked} → malformed_at l ≡ None → Tests (placed n a (word_of l)) P →
    Asks Malformed 0 (as_many form fs ∷ expected_by form fs) qs →
    Told (rules_of a l) rs →
    Told (standing n a (formed form fs l)) ((no 1 at 0 unless P) ∷ (qs ++ rs))
formed_told n a form fs l e t ts f =
    rw (formed_standing n a l (first_failed (form_tests form fs)) e, form_by_place form fs)
    (ask (placed n a (word_of l)) Malformed 0 t (asked Malformed ts f))

-- The tests of a field, of a count and of a place.
same_self : (w : List ℕ) → same w w ≡ true
unfolding same
same_self [] = refl
same_self (x ∷ w) = rw (eq-eqb x x refl) (same_self w)

is_word : (f w : List ℕ) → Tests (same f w) (f ≡ w)
is_word f w = (same_eq f w, λ e. rw e (same_self w))

either : (a b : Bool) {P Q : Type 0} → Tests a P → Tests b Q → Tests (a || b) (P ⊎ Q)
either a b f g = (
  λ e. elim (or_cases a b e) [ inl p ↦ inl (f.0 p) | inr q ↦ inr (g.0 q) ],
  λ s. elim s [ inl p ↦ or_left a b (f.1 p) | inr q ↦ or_right a b (g.1 q) ],
)

number : (f : List ℕ) → Tests (is_number f) (IsNumber f)
number f = Iff.rfl

kind : (f : List ℕ) → Tests (is_kind f) (IsKind f)
unfolding event_word timed_word
kind f = either (same f event_word) (same f timed_word) (is_word f event_word) (is_word f timed_word)

level : (f : List ℕ) → Tests (is_level f) (IsLevel f)
unfolding lo_word mi_word hi_word
level f =
    either (same f lo_word) (same f mi_word || same f hi_word) (is_word f lo_word)
    (either (same f mi_word) (same f hi_word) (is_word f mi_word) (is_word f hi_word))

as_many_lem : (m x : ℕ) → Tests (within m m x) (x ≡ m)
as_many_lem m x = (
  λ e. omega (arith, within_low m m x e, within_high m m x e),
  λ e. is_within m m x (omega arith) (omega arith),
)

where_so : (b : Bool) {c : Bool} {P Q : Type 0} → Tests b P → Tests c Q → Tests (if b then c else true) (P → Q)
where_so true f g = (λ e p. g.0 e, λ h. g.1 (h (f.0 refl)))
where_so false f g = (λ e p. absurd (clash false (f.1 p) refl), λ h. refl)

empty : {A : Type 0} (xs : List A) → Tests (is_nil xs) (length xs ≡ 0)
empty [] = (λ e. refl, λ e. refl)
empty (x ∷ xs) = (λ e. absurd (clash false e refl), λ e. absurd (omega arith))

some : {A : Type 0} (xs : List A) → Tests (not (is_nil xs)) (1 ≤ length xs)
some [] = (λ e. absurd (clash false e refl), λ e. absurd (omega arith))
some (x ∷ xs) = (λ e. omega arith, λ e. refl)

is_timed_lem : (k : Kind) → Tests (is_timed k) (k ≡ Timed)
is_timed_lem Timed = (λ e. refl, λ e. refl)
is_timed_lem Event = (λ e. absurd (clash false e refl), λ e. ap is_timed e)

stays : (k : Kind) (home degraded : ℕ) →
    Tests (stays_home k home degraded) (k ≡ Timed → degraded ≡ home)
stays Timed home degraded = (λ e t. eqb-true degraded home e, λ f. eq-eqb degraded home (f refl))
stays Event home degraded = (λ e t. absurd (clash false (ap is_timed t) refl), λ f. refl)

-- 41 to 45
fault_told : (ss : List Server) (home degraded : ℕ) (limit : ByMode Ticks) →
    Told (task_fault ss home degraded limit) (fault_asked ss home degraded limit)
unfolding task_fault
fault_told ss home degraded limit =
    ask (ltb home (length ss)) AbsentRow 1 (is_lt home (length ss))
    (ask (ltb degraded (length ss)) AbsentRow 2 (is_lt degraded (length ss))
    (ask (eqb (partition_at ss degraded) (partition_at ss home)) OtherPartition 2
    (is_eq (partition_at ss degraded) (partition_at ss home))
    (ask (is_timed (kind_at ss degraded)) NotTimed 2 (is_timed_lem (kind_at ss degraded))
    (ask (stays_home (kind_at ss home) home degraded) OtherServer 2
    (stays (kind_at ss home) home degraded)
    (ask (leb limit.n.0 limit.d1.0) Falling 6 (is_le limit.n.0 limit.d1.0)
    (ask (leb limit.d1.0 limit.d2.0) Falling 7 (is_le limit.d1.0 limit.d2.0)
    kept))))))

-- each line, by its leading word
word_told : (n : ℕ) (a : Rows) (fs : List (List ℕ)) (word : Word) →
    Told (standing n a (line_by word fs)) (asked_by word n a fs)
unfolding
    line_by tick_form server_form task_form placed bounds server_bounds task_bounds wholes server_whole
    fault standing
word_told n a fs ATick =
    formed_told n a tick_form fs (OfTick (micros_at fs 1)) refl (is_eq n 1)
    (as_many_lem 1 (length fs) also number (field_at fs 1) also none)
    (asked OutOfBounds (unasked (is_in 1 10000 (worth (field_at fs 1)) also none))
    (asked NotWhole none kept))
word_told n a fs AServer =
    let s = server_said fs in
    let t = a.tick.0 in
    let p = s.period.0 in
    let q = (phase_said s.phase).0 in
    formed_told n a server_form fs (OfServer s) refl
    (both (ltb 1 n) (is_nil a.tasks) (is_lt 1 n) (empty a.tasks))
    (is_in 7 8 (length fs)
    also number (field_at fs 1)
    also kind (field_at fs 2)
    also number (field_at fs 3)
    also number (field_at fs 4)
    also number (field_at fs 5)
    also number (field_at fs 6)
    also number (field_at fs 7)
    also where_so (ltb 7 (length fs)) (is_lt 7 (length fs)) (number (field_at fs 8))
    also none)
    (asked OutOfBounds
    (is_lt (length a.servers) 32
    also is_in 0 15 s.partition
    also unasked
    (is_in 1 255 s.priority
    also is_in t (1000000 * t) p
    also is_le s.capacity.n.0 p
    also is_le s.capacity.d1.0 p
    also is_le s.capacity.d2.0 p
    also is_le (q + t) p
    also none))
    (asked NotWhole
    (unasked
    (unasked
    (unasked
    (unasked
    (is_eq (p % t) 0
    also is_eq (s.capacity.n.0 % t) 0
    also is_eq (s.capacity.d1.0 % t) 0
    also is_eq (s.capacity.d2.0 % t) 0
    also is_eq (q % t) 0
    also none)))))
    kept))
word_told n a fs ATask =
    let k = task_said fs in
    let limit = limits_of a.tick.0 k.limit in
    formed_told n a task_form fs (OfTask k) refl (some a.servers)
    (as_many_lem 7 (length fs)
    also number (field_at fs 1)
    also number (field_at fs 2)
    also number (field_at fs 3)
    also level (field_at fs 4)
    also number (field_at fs 5)
    also number (field_at fs 6)
    also number (field_at fs 7)
    also none)
    (asked OutOfBounds
    (is_lt (length a.tasks) 64
    also unasked
    (unasked
    (is_in 1 255 k.priority
    also unasked
    (is_in 1 100000 limit.n.0
    also is_in 1 100000 limit.d1.0
    also is_in 1 100000 limit.d2.0
    also none))))
    (asked NotWhole none (fault_told a.servers k.home k.degraded limit)))
word_told n a fs Unknown = ask false Malformed 0 (λ e. clash false e refl, λ e. absurd e) kept

pub line_told_lem : (n : ℕ) (a : Rows) (line : List ℕ) →
    Told (standing n a (read_line line)) (line_asked n a (split tab line))
unfolding read_line line_of line_by
line_told_lem n a line = by_fields (split tab line)
  where
    by_fields : (fs : List (List ℕ)) → Told (standing n a (line_of fs)) (line_asked n a fs)
    by_fields [] = word_told n a [] Unknown
    by_fields (w ∷ fs) = word_told n a fs (leading w)

-- A number and a field that one question alone has are told exactly where those above it hold and
-- it does not; past the last stands 0 and 0, told where all hold.
abbrev ToldAt : List {1} Asked → ℕ → Type 0
ToldAt [] zero = Unit {0}
ToldAt [] (suc k) = ⊥
ToldAt (q ∷ qs) zero = q.holds → ⊥
ToldAt (q ∷ qs) (suc k) = q.holds × ToldAt qs k

abbrev has : Asked → ℕ → ℕ → Bool
has q number field = eqb number q.number && eqb field q.field

abbrev none_has : List {1} Asked → ℕ → ℕ → Bool
none_has [] number field = not (eqb number 0 && eqb field 0)
none_has (q ∷ qs) number field = not (has q number field) && none_has qs number field

abbrev alone_at : ℕ → List {1} Asked → ℕ → ℕ → Bool
alone_at zero [] number field = eqb number 0 && eqb field 0
alone_at (suc k) [] number field = false
alone_at zero (q ∷ qs) number field = has q number field && none_has qs number field
alone_at (suc k) (q ∷ qs) number field = not (has q number field) && alone_at k qs number field

both_eq : (a b x y : ℕ) → Tests (eqb a x && eqb b y) ((a ≡ x) × (b ≡ y))
both_eq a b x y = both (eqb a x) (eqb b y) (is_eq a x) (is_eq b y)

not_both : {A : Type 0} (b : Bool) → not b ≡ true → b ≡ true → A
not_both true e f = absurd (clash false e refl)
not_both false e f = absurd (clash false f refl)

none_tells : (qs : List {1} Asked) (number field : ℕ) → none_has qs number field ≡ true →
    Tells qs number field → ⊥
none_tells [] number field e t =
    not_both (eqb number 0 && eqb field 0) e ((both_eq number field 0 0).1 t)
none_tells (q ∷ qs) number field e t =
    let b = has q number field in
    let c = none_has qs number field in
    elim t [
      | inl p ↦
          not_both b (first_so (not b) c e)
          ((both_eq number field q.number q.field).1 (p.1, p.2))
      | inr p ↦ none_tells qs number field (second_so (not b) c e) p.1
    ]

alone_tells : (k : ℕ) (qs : List {1} Asked) (number field : ℕ) → alone_at k qs number field ≡ true →
    Tells qs number field ↔ ToldAt qs k
alone_tells zero [] number field e = (λ t. tt, λ f. (both_eq number field 0 0).0 e)
alone_tells (suc k) [] number field e = absurd (clash false e refl)
alone_tells zero (q ∷ qs) number field e =
    let b = has q number field in
    let c = none_has qs number field in
    let z = (both_eq number field q.number q.field).0 (first_so b c e) in (
      λ t.
          elim t [
            | inl p ↦ p.0
            | inr p ↦ absurd (none_tells qs number field (second_so b c e) p.1)
          ],
      λ f. inl (f, z.0, z.1),
    )
alone_tells (suc k) (q ∷ qs) number field e =
    let b = has q number field in
    let c = alone_at k qs number field in
    let f = alone_tells k qs number field (second_so (not b) c e) in (
      λ t.
          elim t [
            | inl p ↦
                not_both b (first_so (not b) c e)
                ((both_eq number field q.number q.field).1 (p.1, p.2))
            | inr p ↦ (p.0, f.0 p.1)
          ],
      λ p. inr (p.0, f.1 p.1),
    )

-- what does not hold, said without `not`
not_lt : (a b : ℕ) → (a < b → ⊥) ↔ (b ≤ a)
not_lt a b = (λ f. elim (le_or_lt b a) [ inl h ↦ h | inr h ↦ absurd (f h) ], λ h l. omega arith)

not_le : (a b : ℕ) → (a ≤ b → ⊥) ↔ (b < a)
not_le a b = (λ f. elim (le_or_lt a b) [ inl h ↦ absurd (f h) | inr h ↦ h ], λ h l. omega arith)

not_timed : (k : Kind) → (k ≡ Timed → ⊥) ↔ (k ≡ Event)
not_timed Event = (λ f. refl, λ e t. clash false (ap is_timed t) refl)
not_timed Timed = (λ f. absurd (f refl), λ e t. clash true refl (ap is_timed e))

not_stays : (k : Kind) (P : Type 0) → ((k ≡ Timed → P) → ⊥) ↔ ((k ≡ Timed) × (P → ⊥))
not_stays Event P = (
  λ f. absurd (f (λ t. absurd (clash false (ap is_timed t) refl))),
  λ p f. p.1 (f p.0),
)
not_stays Timed P = (λ f. (refl, λ p. f (λ t. p)), λ p f. p.1 (f p.0))

-- the five of `RowsFit`, and what follows them
five : {A B C D E R : Type 0} →
    (A × (B × (C × (D × (E × R))))) ↔ ((A × (B × (C × (D × (E × Unit {0}))))) × R)
five = (
  λ p. (
    p.0 and p.1.0 and p.1.1.0 and p.1.1.1.0 and p.1.1.1.1.0 and tt,
    p.1.1.1.1.1,
  ),
  λ p.
      let q = p.0 in
      q.0 and q.1.0 and q.1.1.0 and q.1.1.1.0 and q.1.1.1.1.0 and p.1,
)

-- 41 to 45 one by one
pub faults : EachFault
faults ss home degraded limit =
    let n = limit.n.0 in
    let d1 = limit.d1.0 in
    let d2 = limit.d2.0 in
    let timed = not_timed (kind_at ss degraded) in
    let stay = not_stays (kind_at ss home) (degraded ≡ home) in
    record {
      no_41_home = Iff.trans (told_at_lem 0 41 1 refl) (not_lt home (length ss));
      no_41_degraded =
          Iff.trans (told_at_lem 1 41 2 refl) (Iff.and Iff.rfl (not_lt degraded (length ss)));
      no_42 =
          Iff.trans (told_at_lem 2 42 2 refl)
          (λ p. (p.0, p.1.0, p.1.1), λ p. (p.0, (p.1, p.2)));
      no_43 =
          Iff.trans (told_at_lem 3 43 2 refl) (
            λ p. (p.0, p.1.0, p.1.1.0, timed.0 p.1.1.1),
            λ p. (p.0, (p.1, (p.2, timed.1 p.3))),
          );
      no_44 =
          Iff.trans (told_at_lem 4 44 2 refl) (
            λ p.
                let s = stay.0 p.1.1.1.1 in
                (p.0, p.1.0, p.1.1.0, p.1.1.1.0, s.0, s.1),
            λ p. (p.0, (p.1, (p.2, (p.3, stay.1 (p.4, p.5))))),
          );
      no_45_d1 =
          Iff.trans (told_at_lem 5 45 6 refl) (Iff.trans five (Iff.and Iff.rfl (not_le n d1)));
      no_45_d2 =
          Iff.trans (told_at_lem 6 45 7 refl) (
            λ p. let q = five.0 p in (q.0, q.1.0, (not_le d1 d2).0 q.1.1),
            λ p. five.1 (p.0, (p.1, (not_le d1 d2).1 p.2)),
          );
      none = told_at_lem 7 0 0 refl;
    }
  where
    told_at_lem : (k number field : ℕ) →
        alone_at k (fault_asked ss home degraded limit) number field ≡ true →
        Gives (task_fault ss home degraded limit) number field ↔
        ToldAt (fault_asked ss home degraded limit) k
    told_at_lem k number field e =
        Iff.trans ((fault_told ss home degraded limit).exactly number field)
        (alone_tells k (fault_asked ss home degraded limit) number field e)
