-- One pass over the fields of a line: what it finds field by field is the first that is not as it
-- should be, 0 for their count, and the number of each. By induction over the fields, with what is
-- expected of each. Assumes nothing.
use Rattle.std.specs.Cmp.{first_so, second_so}
use Rattle.std.specs.Prelude.{if◌then◌else◌, None, Option, Some, unwrap_or}
use mathlib.Core.Path.{◌≡◌, refl, ap, ◌∙◌}
use mathlib.Core.Bool.{Bool, true, false}
use mathlib.Core.List.{List, [], ◌∷◌, map}
use Prim.Native.Nat.{ℕ, zero, suc, ◌+◌, ◌-◌, ◌≤◌, ◌<◌}
use native.Mathlib.Omega.{arith}
use native.Mathlib.Nat.{add-zero, zero-add}
use native.Mathlib.Numerals.{add-one}
use lib.Dec.{ltb}
use lib.ListN.{length, get_or, take, drop, set, length-set, drop_of_length-le}
use lib.Seq.{drop-cons, get_or-set_same, get_or-set_other}
use borrow.Author.Tests.{ltb-true, ltb-false, lt-leb}
use Rattle.laws.specs.Choice.{every, within}
use Rattle.laws.specs.Search.{first_failed}
use Rattle.laws.proofs.Choice.{if_ind, within_high, is_within}
use Rattle.laws.proofs.Search.{failed_none, failed_empty, failed_here, one_past, failed_past}
use Rattle.decimal.specs.Number.{read_number}
use Rattle.decimal.specs.declared.End.{End}
use Rattle.decimal.specs.declared.Field.{Field}
use Rattle.decimal.specs.Lines.{tab}
use Rattle.decimal.specs.Inner.Fields.{first_line, fields_from, first_field, field_end, field_from}
use Rattle.decimal.proofs.Lines.{split_some}
use Rattle.decimal.proofs.Inner.Fields.{end_taken, end_from, end_within, field_more, field_last, line_behind_tab}
use Rattle.text.specs.Words.{event_word, timed_word, lo_word, mi_word, hi_word}
use Rattle.text.specs.Line.{Expected, a_number, fits, Form, field_tests, form_tests}
use Rattle.text.proofs.Lines.{form_count}
use Rattle.reader.specs.declared.fields.Fields.{Fields}
use Rattle.reader.specs.Inner.Fields.{expected_of, value_of, read_field, field_as, line_end, first_wrong, no_fields, noted, counted, telling, passed}

-- one field, read where it stands
pub number_field_lem : (text : List ℕ) (at : ℕ) → field_from text at ≡ field_as a_number text at
unfolding field_from field_as read_number read_field
number_field_lem text at = refl

pub word_field : (x : Expected) (text : List ℕ) (at : ℕ) (n : Option ℕ) (e : End) → e ≡ field_end text at →
    n ≡ read_field x (take (e.at - at) (drop at text)) → record { number = n; end = e } ≡ field_as x text at
unfolding field_as
word_field x text at n e q r = rw (r, q, end_taken text at)

-- and the place of the field lies in the text
pub ruleset field_steps = (number_field_lem, word_field, end_from, end_within)

-- a field that is a word, the words byte by byte
pub read_by : (e : Expected) (f : List ℕ) → read_field e f ≡ (if fits e f then Some (value_of e f) else None)
unfolding read_field
read_by e f = refl

pub timed_bytes : timed_word ≡ 116 ∷ 105 ∷ 109 ∷ 101 ∷ 100 ∷ []
unfolding timed_word
timed_bytes = refl

pub event_bytes : event_word ≡ 101 ∷ 118 ∷ 101 ∷ 110 ∷ 116 ∷ []
unfolding event_word
event_bytes = refl

pub hi_bytes : hi_word ≡ 72 ∷ 73 ∷ []
unfolding hi_word
hi_bytes = refl

pub mi_bytes : mi_word ≡ 77 ∷ 73 ∷ []
unfolding mi_word
mi_bytes = refl

pub lo_bytes : lo_word ≡ 76 ∷ 79 ∷ []
unfolding lo_word
lo_bytes = refl

pub ruleset kinds = (read_by, timed_bytes, event_bytes)

pub ruleset levels = (read_by, hi_bytes, mi_bytes, lo_bytes)

read_fits : (e : Expected) (f : List ℕ) → fits e f ≡ true → read_field e f ≡ Some (value_of e f)
unfolding read_field
read_fits e f h = rw h

read_not : (e : Expected) (f : List ℕ) → fits e f ≡ false → read_field e f ≡ None
unfolding read_field
read_not e f h = rw h

pub noted_by : (r : Fields) (k : ℕ) (n : Option ℕ) (w : Option ℕ) (v : ℕ) → w ≡ first_wrong r.wrong n (k + 1) →
    v ≡ unwrap_or n 0 → record { wrong = w; values = set r.values k v; count = k + 1; end = r.end } ≡ noted r k n
noted_by r k n w v e f = rw (e, f)

-- the pass, a field further
step : (least : ℕ) (e : Expected) (es : List Expected) (k : ℕ) (r : Fields) (f : List ℕ)
    (fs : List (List ℕ)) → 0 < length fs →
    passed least (e ∷ es) k r (f ∷ fs) ≡ passed least es (k + 1) (noted r k (read_field e f)) fs
unfolding passed
step least e es k r f [] h = absurd (omega arith)
step least e es k r f (g ∷ fs) h = refl

over : (least k : ℕ) (r : Fields) (fs : List (List ℕ)) → 0 < length fs →
    telling (Some 0) r ≡ passed least [] k r fs
unfolding passed
over least k r [] h = absurd (omega arith)
over least k r (f ∷ fs) h = refl

-- and over the bytes of the line and the letters of the shape
module _ (least : ℕ) (text shape : List ℕ) (k at : ℕ) (r : Fields) where
  shape_next : k < length shape →
      map expected_of (drop k shape) ≡
      expected_of (get_or shape k 0) ∷ map expected_of (drop (k + 1) shape)
  shape_next h = rw (add-one k, drop-cons shape k 0 h)

  module _ (f : Field) (h : k < length shape) (read : f ≡ field_as (expected_of (get_or shape k 0)) text at) where
    number_read : f.number ≡ read_field (expected_of (get_or shape k 0)) (first_field text at)
    unfolding field_as
    number_read = ap (λ (x : Field). x.number) read

    end_read : f.end ≡ field_end text at
    unfolding field_as
    end_read = ap (λ (x : Field). x.end) read

    pub pass_next : f.end.more ≡ true →
        passed least (map expected_of (drop k shape)) k r (fields_from text at) ≡
        passed least (map expected_of (drop (k + 1) shape)) (k + 1) (noted r k f.number)
        (fields_from text (f.end.at + 1))
    pass_next m =
        let cut = field_more text at (rw end_read at m) in
        rw (shape_next h, cut.0, number_read, end_read)
        (step least (expected_of (get_or shape k 0)) (map expected_of (drop (k + 1) shape)) k r
        (first_field text at) (fields_from text ((field_end text at).at + 1))
        (split_some tab (first_line (drop ((field_end text at).at + 1) text))))

    pub line_next : f.end.more ≡ true → line_end text at ≡ line_end text (f.end.at + 1)
    line_next m = rw end_read (line_behind_tab text at (rw end_read at m))

    pub next_within : f.end.more ≡ true → f.end.at < length text
    next_within m = rw end_read (field_more text at (rw end_read at m)).1

    pub pass_last : f.end.more ≡ false →
        passed least (map expected_of (drop k shape)) k r (fields_from text at) ≡
        telling (counted least (k + 1) (noted r k f.number).wrong) (noted r k f.number)
    unfolding passed
    pass_last m = rw (shape_next h, (field_last text at (rw end_read at m)).0, number_read)

    pub line_last : f.end.more ≡ false → line_end text at ≡ f.end.at
    line_last m = rw end_read (field_last text at (rw end_read at m)).1

  pub pass_over : length shape ≤ k →
      telling (Some 0) r ≡ passed least (map expected_of (drop k shape)) k r (fields_from text at)
  pass_over h =
      rw (drop_of_length-le shape h)
      (over least k r (fields_from text at) (split_some tab (first_line (drop at text))))

-- a place among the tests from field k on, as a field
abbrev from : ℕ → Option ℕ → Option ℕ
from k (Some j) = Some (k + j)
from k None = None

from_start : (x : Option ℕ) → from 0 x ≡ x
from_start (Some j) = rw (zero-add j)
from_start None = refl

from_here : (k : ℕ) (bs : List Bool) → Some k ≡ from k (first_failed (false ∷ bs))
from_here k bs = rw (failed_here bs, add-zero k)

from_past : (k : ℕ) (x : Option ℕ) → from (k + 1) x ≡ from k (one_past x)
from_past k (Some j) = let q : k + 1 + j ≡ k + suc j = omega arith in rw q
from_past k None = refl

from_next : (k : ℕ) (bs : List Bool) →
    from (k + 1) (first_failed bs) ≡ from k (first_failed (true ∷ bs))
from_next k bs = rw (failed_past bs) (from_past k (first_failed bs))

-- what is told of the fields before k, and else of those from there on
abbrev or_else : Option ℕ → Option ℕ → Option ℕ
or_else (Some j) g = Some j
or_else None g = g

or_none : (w : Option ℕ) (k : ℕ) → w ≡ or_else w (from k (first_failed []))
or_none (Some j) k = refl
or_none None k = rw failed_empty

or_first : (w : Option ℕ) (k : ℕ) (g : Option ℕ) → or_else (first_wrong w None k) g ≡ or_else w (Some k)
or_first (Some j) k g = refl
or_first None k g = refl

-- one field more, and bs the tests of those after it
noted_told : (r : Fields) (k : ℕ) (e : Expected) (f : List ℕ) (bs : List Bool) →
    or_else (noted r k (read_field e f)).wrong (from (k + 1 + 1) (first_failed bs)) ≡
    or_else r.wrong (from (k + 1) (first_failed (fits e f ∷ bs)))
noted_told r k e f bs = go (fits e f) refl
  where
    go : (b : Bool) → fits e f ≡ b →
        or_else (noted r k (read_field e f)).wrong (from (k + 1 + 1) (first_failed bs)) ≡
        or_else r.wrong (from (k + 1) (first_failed (b ∷ bs)))
    go true q = rw (read_fits e f q) (ap (or_else r.wrong) (from_next (k + 1) bs))
    go false q =
        rw (read_not e f q)
        (or_first r.wrong (k + 1) (from (k + 1 + 1) (first_failed bs))
        ∙ ap (or_else r.wrong) (from_here (k + 1) bs))

-- n fields where there should be from `least` to m: that is told before any field
abbrev told : ℕ → ℕ → ℕ → Option ℕ → Option ℕ
told least m n w = if within least m n then w else Some 0

too_many : (least m n : ℕ) (w : Option ℕ) → m < n → Some 0 ≡ told least m n w
too_many least m n w h =
    if_ind (λ x. Some 0 ≡ x) (within least m n)
    (λ e. absurd (omega (arith, within_high least m n e))) (λ e. refl)

counted_told : (least m n : ℕ) (w : Option ℕ) → n ≤ m → counted least n w ≡ told least m n w
counted_told least m n w h = go (ltb n least) refl
  where
    go : (b : Bool) → ltb n least ≡ b → (if b then Some 0 else w) ≡ told least m n w
    go true p = rw (lt-leb least n (ltb-true n least p))
    go false p = rw (is_within least m n (ltb-false n least p) h)

pass_told : (least : ℕ) (es : List Expected) (k : ℕ) (r : Fields) (fs : List (List ℕ)) →
    0 < length fs →
    (passed least es k r fs).wrong ≡
    told least (k + length es) (k + length fs)
    (or_else r.wrong (from (k + 1) (first_failed (field_tests es fs))))
unfolding passed field_tests
pass_told least es k r [] h = absurd (omega arith)
pass_told least [] k r (f ∷ fs) h =
    too_many least (k + length {A = Expected} []) (k + length (f ∷ fs)) _ (omega arith)
pass_told least (e ∷ es) k r (f ∷ []) h =
    let q = noted r k (read_field e f) in
    let m = k + length (e ∷ es) in
    counted_told least m (k + 1) q.wrong (omega arith)
    ∙ ap (told least m (k + 1)) (or_none q.wrong (k + 1 + 1) ∙ noted_told r k e f [])
pass_told least (e ∷ es) k r (f ∷ (g ∷ fs)) h =
    let m : k + 1 + length es ≡ k + length (e ∷ es) = omega arith in
    let n : k + 1 + length (g ∷ fs) ≡ k + length (f ∷ (g ∷ fs)) = omega arith in
    rw (m, n, noted_told r k e f (field_tests es (g ∷ fs))) at
    (pass_told least es (k + 1) (noted r k (read_field e f)) (g ∷ fs) (omega arith))

-- the numbers of the fields: those before field k stay, and field by field they are what the fields
-- say
pass_below : (least : ℕ) (es : List Expected) (k : ℕ) (r : Fields) (fs : List (List ℕ)) (j : ℕ) →
    j < k →
    get_or (passed least es k r fs).values j 0 ≡ get_or r.values j 0
unfolding passed
pass_below least es k r [] j h = refl
pass_below least [] k r (f ∷ fs) j h = refl
pass_below least (e ∷ es) k r (f ∷ []) j h =
    get_or-set_other r.values k j (unwrap_or (read_field e f) 0) 0 (λ e. omega arith)
pass_below least (e ∷ es) k r (f ∷ (g ∷ fs)) j h =
    pass_below least es (k + 1) (noted r k (read_field e f)) (g ∷ fs) j (omega arith)
    ∙ get_or-set_other r.values k j (unwrap_or (read_field e f) 0) 0 (λ e. omega arith)

noted_here : (r : Fields) (k : ℕ) (e : Expected) (f : List ℕ) → fits e f ≡ true →
    k < length r.values →
    get_or (noted r k (read_field e f)).values k 0 ≡ value_of e f
noted_here r k e f q h = rw (read_fits e f q) (get_or-set_same r.values k (value_of e f) 0 h)

pass_value : (least : ℕ) (es : List Expected) (k : ℕ) (r : Fields) (fs : List (List ℕ)) →
    every (field_tests es fs) ≡ true → length fs ≤ length es → k + length es ≤ length r.values →
    (i : ℕ) → i < length fs →
    get_or (passed least es k r fs).values (k + i) 0 ≡ value_of (get_or es i a_number) (get_or fs i [])
unfolding passed field_tests every
pass_value least es k r [] a n l i h = absurd (omega arith)
pass_value least [] k r (f ∷ fs) a n l i h = absurd (omega arith)
pass_value least (e ∷ es) k r (f ∷ []) a n l zero h =
    rw (add-zero k)
    (noted_here r k e f (first_so (fits e f) true a) (omega arith))
pass_value least (e ∷ es) k r (f ∷ []) a n l (suc i) h = absurd (omega arith)
pass_value least (e ∷ es) k r (f ∷ (g ∷ fs)) a n l zero h =
    rw (add-zero k)
    (pass_below least es (k + 1) (noted r k (read_field e f)) (g ∷ fs) k (omega arith)
    ∙ noted_here r k e f (first_so (fits e f) (every (field_tests es (g ∷ fs))) a) (omega arith))
pass_value least (e ∷ es) k r (f ∷ (g ∷ fs)) a n l (suc i) h =
    let q : k + suc i ≡ k + 1 + i = omega arith in
    rw q
    (pass_value least es (k + 1) (noted r k (read_field e f)) (g ∷ fs)
    (second_so (fits e f) (every (field_tests es (g ∷ fs))) a) (omega arith)
    (omega (arith, length-set r.values k (unwrap_or (read_field e f) 0))) i (omega arith))

-- how many there are
pass_count : (least : ℕ) (es : List Expected) (k : ℕ) (r : Fields) (fs : List (List ℕ)) →
    0 < length fs → length fs ≤ length es → (passed least es k r fs).count ≡ k + length fs
unfolding passed
pass_count least es k r [] h l = absurd (omega arith)
pass_count least [] k r (f ∷ fs) h l = absurd (omega arith)
pass_count least (e ∷ es) k r (f ∷ []) h l = refl
pass_count least (e ∷ es) k r (f ∷ (g ∷ fs)) h l =
    let q : k + 1 + length (g ∷ fs) ≡ k + length (f ∷ (g ∷ fs)) = omega arith in
    pass_count least es (k + 1) (noted r k (read_field e f)) (g ∷ fs) (omega arith) (omega arith) ∙ q

-- the end of the line stays as it was
pass_end : (least : ℕ) (es : List Expected) (k : ℕ) (r : Fields) (fs : List (List ℕ)) →
    (passed least es k r fs).end ≡ r.end
unfolding passed
pass_end least es k r [] = refl
pass_end least [] k r (f ∷ fs) = refl
pass_end least (e ∷ es) k r (f ∷ []) = refl
pass_end least (e ∷ es) k r (f ∷ (g ∷ fs)) = pass_end least es (k + 1) (noted r k (read_field e f)) (g ∷ fs)

-- the fields of a form: the first that is wrong, 0 for their count, and where none is the number of
-- each and how many there are
module _ (form : Form) (fs : List (List ℕ)) (end : ℕ) where
  pub pass_ends : (passed form.least form.fields 0 (no_fields end) fs).end ≡ end
  pass_ends = pass_end form.least form.fields 0 (no_fields end) fs

  pub pass_wrong : 0 < length fs →
      (passed form.least form.fields 0 (no_fields end) fs).wrong ≡ first_failed (form_tests form fs)
  unfolding form_tests
  pass_wrong h =
      rw (zero-add (length form.fields), zero-add (length fs)) at
      (pass_told form.least form.fields 0 (no_fields end) fs h)
      ∙ go (within form.least (length form.fields) (length fs)) (field_tests form.fields fs)
    where
      go : (b : Bool) (bs : List Bool) →
          (if b then from 1 (first_failed bs) else Some 0) ≡ first_failed (b ∷ bs)
      go true bs = from_next 0 bs ∙ from_start (first_failed (true ∷ bs))
      go false bs = from_here 0 bs ∙ from_start (first_failed (false ∷ bs))

  pub pass_values : first_failed (form_tests form fs) ≡ None → length form.fields ≤ 8 →
      (i : ℕ) → i < length fs →
      get_or (passed form.least form.fields 0 (no_fields end) fs).values i 0 ≡
      value_of (get_or form.fields i a_number) (get_or fs i [])
  unfolding form_tests every
  pass_values w l i h =
      let c = within form.least (length form.fields) (length fs) in
      let t = every (field_tests form.fields fs) in
      let a = (failed_none (form_tests form fs)).0 w in
      rw (zero-add i) at
      (pass_value form.least form.fields 0 (no_fields end) fs (second_so c t a) (form_count form fs a).1
      (omega arith) i h)

  pub pass_many : first_failed (form_tests form fs) ≡ None → 0 < length fs →
      (passed form.least form.fields 0 (no_fields end) fs).count ≡ length fs
  pass_many w h =
      let a = (failed_none (form_tests form fs)).0 w in
      pass_count form.least form.fields 0 (no_fields end) fs h (form_count form fs a).1 ∙ zero-add (length fs)
