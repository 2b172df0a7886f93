-- A line, told from its leading word where it stands and from the one pass over its fields: the
-- first that is wrong, and where none is what their numbers say. Assumes nothing.
use Rattle.std.specs.Prelude.{if◌then◌else◌, None, Option, Some}
use mathlib.Core.Path.{◌≡◌, refl, sym, ap, ◌∙◌}
use mathlib.Core.Bool.{Bool, true, false}
use mathlib.Core.List.{List, [], ◌∷◌, ◌++◌}
use Prim.Native.Nat.{ℕ, ◌+◌, ◌-◌, ◌≤◌, ◌<◌}
use native.Mathlib.Omega.{arith}
use native.Mathlib.Nat.{zero-add}
use native.Mathlib.Numerals.{add-one}
use lib.Dec.{ltb, eqb}
use lib.Pointwise.{pointwise}
use borrow.Author.Tests.{ltb-false, eqb-true, eqb-false, eq-eqb, ne_eqb}
use lib.ListN.{length, get_or, take, drop, length-take, length-append, get_or-append}
use lib.Seq.{get_or-take, get_or-append_seam, take-take, take-suc, take-append_seam}
use Rattle.std.proofs.lemmas.Bool.{false_from_ne_true}
use Rattle.laws.proofs.Choice.{clash}
use Rattle.laws.specs.Search.{first_failed}
use Rattle.laws.proofs.Search.{failed_none}
use Rattle.decimal.specs.Lines.{tab, line_feed, same}
use Rattle.decimal.specs.declared.End.{End}
use Rattle.decimal.specs.Inner.Fields.{first_line, fields_from, first_field, field_end}
use Rattle.decimal.proofs.Lines.{split_some, Finds, high, high_at, same_eq, same_self}
use Rattle.decimal.proofs.Inner.Fields.{end_past_high, end_tab, end_within, end_taken, field_taken, field_more, field_last, line_behind_tab, line_on_from, line_found}
use Rattle.table.specs.declared.Kind.{Kind}
use Rattle.table.specs.declared.Level.{Level}
use Rattle.text.specs.declared.Word.{Word}
use Rattle.text.specs.declared.Word.TheVariants.{ATick, AServer, ATask}
use Rattle.text.specs.declared.Line.{Line}
use Rattle.text.specs.declared.Line.TheVariants.{OfTick, OfServer, OfTask, Malformed}
use Rattle.text.specs.Words.{tick_word, server_word, task_word, timed_word, mi_word, hi_word, kind_of, level_of}
use Rattle.text.specs.Line.{a_number, a_kind, a_level, Form, tick_form, server_form, task_form, form_tests, micros_at, last_at, server_said, task_said, leading, word_of, unless_wrong, formed_or, formed, line_by, line_of, read_line}
use Rattle.text.proofs.Lines.{form_count, no_fields_lem}
use Rattle.reader.specs.declared.fields.Fields.{Fields}
use Rattle.reader.specs.Inner.Fields.{value_of, kind_at, level_at, last_of, line_end, no_fields, passed}
use Rattle.reader.specs.declared.forms.LineRead.{LineRead}
use Rattle.reader.specs.Inner.Lines.{first_word, line_read, read_behind, first_read}
use Rattle.reader.proofs.Inner.Fields.{pass_ends, pass_wrong, pass_values, pass_many}
use Rattle.units.specs.declared.Micros.{Micros}

-- a word by its place
kind_said : (f : List ℕ) → kind_at (value_of a_kind f) ≡ kind_of f
kind_said f = go (same f timed_word)
  where
    go : (b : Bool) → kind_at (if b then 1 else 0) ≡ (if b then Kind.Timed else Kind.Event)
    go true = refl
    go false = refl

level_said : (f : List ℕ) → level_at (value_of a_level f) ≡ level_of f
level_said f = go (same f hi_word) (same f mi_word)
  where
    go : (a b : Bool) →
        level_at (if a then 2 else if b then 1 else 0) ≡
        (if a then Level.HI else if b then Level.MI else Level.LO)
    go true b = refl
    go false true = refl
    go false false = refl

-- the fields after the leading word, read as a form asks, of a line that ends at a place
abbrev pub ReadAs : Form → List ℕ → ℕ → Fields → Type 0
ReadAs form text from r =
    r ≡ passed form.least form.fields 0 (no_fields (line_end text from)) (fields_from text from)

module _ (form : Form) (text : List ℕ) (from : ℕ) (r : Fields) (read : ReadAs form text from r) where
  first_wrong_lem : (w : Option ℕ) → r.wrong ≡ w → first_failed (form_tests form (fields_from text from)) ≡ w
  first_wrong_lem w e =
      sym
      (pass_wrong form (fields_from text from) (line_end text from) (split_some tab (first_line (drop from text))))
      ∙ ap (λ (x : Fields). x.wrong) (sym read)
      ∙ e

  -- of a line of any kind of table: where it ends, and what it says where a field is wrong
  pub line_ends : r.end ≡ line_end text from
  line_ends = ap (λ (x : Fields). x.end) read ∙ pass_ends form (fields_from text from) (line_end text from)

  pub form_wrong : {L : Type 0} (malformed : ℕ → L) (said : L) (field : ℕ) → r.wrong ≡ Some field →
      malformed field ≡ formed_or malformed form (fields_from text from) said
  form_wrong malformed said field e = ap (λ x. unless_wrong x malformed said) (sym (first_wrong_lem (Some field) e))

  pub lined : {L : Type 0} (l said : L) → l ≡ said → record { said = l; end = r.end } ≡ line_read text from said
  lined l said e = rw (e, line_ends)

  pub form_not : (said : Line) (field : ℕ) → r.wrong ≡ Some field →
      record { said = Malformed (word_of said) field; end = r.end } ≡
      line_read text from (formed form (fields_from text from) said)
  form_not said field e =
      lined (Malformed (word_of said) field) (formed form (fields_from text from) said)
      (form_wrong (Malformed (word_of said)) said field e)

  module _ (none : r.wrong ≡ None) where
    -- and where none is
    pub form_right : {L : Type 0} (malformed : ℕ → L) (said : L) →
        said ≡ formed_or malformed form (fields_from text from) said
    form_right malformed said = ap (λ x. unless_wrong x malformed said) (sym (first_wrong_lem None none))

    form_has : (said : Line) → said ≡ formed form (fields_from text from) said
    form_has said = form_right (Malformed (word_of said)) said

    value_at : length form.fields ≤ 8 → (i : ℕ) → i < length (fields_from text from) →
        get_or r.values i 0 ≡ value_of (get_or form.fields i a_number) (get_or (fields_from text from) i [])
    value_at l i h =
        ap (λ (x : Fields). get_or x.values i 0) read
        ∙ pass_values form (fields_from text from) (line_end text from) (first_wrong_lem None none) l i h

    pub value_read : length form.fields ≤ 8 → (i : ℕ) → i < form.least →
        get_or r.values i 0 ≡ value_of (get_or form.fields i a_number) (get_or (fields_from text from) i [])
    value_read l i h =
        let has = (failed_none (form_tests form (fields_from text from))).0 (first_wrong_lem None none) in
        value_at l i (omega (arith, (form_count form (fields_from text from) has).0))

    many_read : r.count ≡ length (fields_from text from)
    many_read =
        ap (λ (x : Fields). x.count) read
        ∙ pass_many form (fields_from text from) (line_end text from) (first_wrong_lem None none)
        (split_some tab (first_line (drop from text)))

    -- field k, the last of its form, a number
    pub last_read : (k : ℕ) → 0 < k → length form.fields ≤ 8 → get_or form.fields (k - 1) a_number ≡ a_number →
        last_of r.count k (get_or r.values (k - 1) 0) ≡ last_at (fields_from text from) k
    last_read k p l e = rw many_read (go (ltb (length (fields_from text from)) k) refl)
      where
        go : (b : Bool) → ltb (length (fields_from text from)) k ≡ b →
            (if b then None else Some (record { 0 = get_or r.values (k - 1) 0 }))
            ≡ (if b then None else Some (micros_at (fields_from text from) k))
        go true q = refl
        go false q =
            let h = ltb-false (length (fields_from text from)) k q in
            rw (rw e at (value_at l (k - 1) (omega arith)))

-- and what it says where no field is wrong
module _ (text : List ℕ) (from : ℕ) (r : Fields) where
  pub tick_read : ReadAs tick_form text from r → r.wrong ≡ None →
      OfTick (record { 0 = get_or r.values 0 0 }) ≡
      formed tick_form (fields_from text from) (OfTick (micros_at (fields_from text from) 1))
  unfolding tick_form
  tick_read e w =
      rw (value_read tick_form text from r e w (omega arith) 0 (omega arith))
      (form_has tick_form text from r e w (OfTick (micros_at (fields_from text from) 1)))

  pub server_read : (kind : Kind) (phase : Option Micros) → kind ≡ kind_at (get_or r.values 1 0) →
      phase ≡ last_of r.count 8 (get_or r.values 7 0) →
      ReadAs server_form text from r → r.wrong ≡ None →
      OfServer (record {
        partition = get_or r.values 0 0;
        kind = kind;
        priority = get_or r.values 2 0;
        period = record { 0 = get_or r.values 3 0 };
        capacity = record {
          n = record { 0 = get_or r.values 4 0 };
          d1 = record { 0 = get_or r.values 5 0 };
          d2 = record { 0 = get_or r.values 6 0 };
        };
        phase = phase;
      }) ≡ formed server_form (fields_from text from) (OfServer (server_said (fields_from text from)))
  unfolding server_form
  server_read kind phase k p e w =
      let v = value_read server_form text from r e w (omega arith) in
      rw (
        k,
        p ∙ last_read server_form text from r e w 8 (omega arith) (omega arith) refl,
        v 0 (omega arith),
        v 1 (omega arith),
        v 2 (omega arith),
        v 3 (omega arith),
        v 4 (omega arith),
        v 5 (omega arith),
        v 6 (omega arith),
        kind_said (get_or (fields_from text from) 1 []),
      )
      (form_has server_form text from r e w (OfServer (server_said (fields_from text from))))

  pub task_read : (level : Level) → level ≡ level_at (get_or r.values 3 0) →
      ReadAs task_form text from r → r.wrong ≡ None →
      OfTask (record {
        home = get_or r.values 0 0;
        degraded = get_or r.values 1 0;
        priority = get_or r.values 2 0;
        level = level;
        limit = record {
          n = record { 0 = get_or r.values 4 0 };
          d1 = record { 0 = get_or r.values 5 0 };
          d2 = record { 0 = get_or r.values 6 0 };
        };
      }) ≡ formed task_form (fields_from text from) (OfTask (task_said (fields_from text from)))
  unfolding task_form
  task_read level k e w =
      let v = value_read task_form text from r e w (omega arith) in
      rw (
        k,
        v 0 (omega arith),
        v 1 (omega arith),
        v 2 (omega arith),
        v 3 (omega arith),
        v 4 (omega arith),
        v 5 (omega arith),
        v 6 (omega arith),
        level_said (get_or (fields_from text from) 3 []),
      )
      (form_has task_form text from r e w (OfTask (task_said (fields_from text from))))

-- the words, byte by byte
pub tick_bytes : tick_word ≡ 116 ∷ 105 ∷ 99 ∷ 107 ∷ []
unfolding tick_word
tick_bytes = refl

pub server_bytes : server_word ≡ 115 ∷ 101 ∷ 114 ∷ 118 ∷ 101 ∷ 114 ∷ []
unfolding server_word
server_bytes = refl

pub task_bytes : task_word ≡ 116 ∷ 97 ∷ 115 ∷ 107 ∷ []
unfolding task_word
task_bytes = refl

pub ruleset words = (tick_bytes, server_bytes, task_bytes)

pub leads_tick : ATick ≡ leading tick_word
unfolding same tick_word
leads_tick = refl

pub leads_server : AServer ≡ leading server_word
unfolding same tick_word server_word
leads_server = refl

pub leads_task : ATask ≡ leading task_word
unfolding same tick_word server_word task_word
leads_task = refl

turned : (x y : ℕ) → eqb x y ≡ eqb y x
turned x y = go (eqb x y) refl
  where
    go : (b : Bool) → eqb x y ≡ b → b ≡ eqb y x
    go true e = sym (eq-eqb y x (sym (eqb-true x y e)))
    go false e = sym (ne_eqb y x (λ q. eqb-false x y e (sym q)))

-- what std compares place by place
pub same_places : (a b : List ℕ) → pointwise eqb a b ≡ same b a
unfolding same
same_places [] [] = refl
same_places [] (y ∷ b) = refl
same_places (x ∷ a) [] = refl
same_places (x ∷ a) (y ∷ b) = rw (same_places a b, turned x y)

-- a text begins with a word and its tab
abbrev pub led_by : List ℕ → List ℕ → Bool
led_by w text = same (take (length w + 1) text) (w ++ (tab ∷ []))

-- Then the word is the first field of the line there, and the fields after it are those from behind
-- the tab on. Bytes of words are at least `0`.
module _ (text w : List ℕ) (is-high : high w ≡ true) (stands : led_by w text ≡ true) where
  front : take (length w + 1) text ≡ w ++ (tab ∷ [])
  front = same_eq (take (length w + 1) text) (w ++ (tab ∷ [])) stands

  pub long : length w < length text
  long =
      omega
      (arith, ap length front, length-take (length w + 1) text, length-append w (tab ∷ []))

  byte : (j : ℕ) → j < length w + 1 → get_or text j 0 ≡ get_or (w ++ (tab ∷ [])) j 0
  byte j h = sym (get_or-take (length w + 1) text j 0 h) ∙ ap (λ x. get_or x j 0) front

  ends : field_end text 0 ≡ record { at = length w; more = true }
  ends =
      rw (zero-add (length w)) at
      (end_past_high text 0 (length w) (omega (arith, long)) (λ j h.
      rw (zero-add j, byte j (omega arith), get_or-append w (tab ∷ []) 0 j h) (high_at w j is-high h)))
      ∙ sym (end_tab text (length w) long (byte (length w) (omega arith) ∙ seam))
    where
      seam : get_or (w ++ (tab ∷ [])) (length w) 0 ≡ 9
      seam = get_or-append_seam w tab [] 0

  first : first_field text 0 ≡ w
  unfolding field_end
  first =
      let m : length (first_field text 0) ≡ length w = omega (arith, ap (λ (x : End). x.at) ends) in
      rw m at (field_taken text 0)
      ∙ sym (take-take (length w) (length w + 1) text (omega arith))
      ∙ ap (take (length w)) front
      ∙ take-append_seam w (tab ∷ [])

  pub parts : (fields_from text 0 ≡ w ∷ fields_from text (length w + 1))
      × (line_end text 0 ≡ line_end text (length w + 1))
  parts =
      let more = ap (λ (x : End). x.more) ends in
      ((rw ends at (field_more text 0 more)).0 ∙ rw first, rw ends at (line_behind_tab text 0 more))

  -- the word tells the form that the fields after it must have
  pub line_led : (word : Word) → word ≡ leading w →
      read_behind word text (length w + 1) ≡ first_read text
  unfolding read_line line_of
  line_led word e = rw (e, parts.0, parts.1)

-- where none of the words stands so, the line has no form
module _ (text : List ℕ) where
  pub other_word : (w : List ℕ) → led_by w text ≡ false → (field_end text 0).more ≡ true →
      same (first_field text 0) w ≡ false
  unfolding field_end
  other_word w none more =
      false_from_ne_true (same (first_field text 0) w) (λ e. clash _ (stands (same_eq (first_field text 0) w e)) none)
    where
      stands : first_field text 0 ≡ w → led_by w text ≡ true
      stands e =
          let cut = rw (e, zero-add (length w)) at (field_more text 0 more) in
          rw (
            add-one (length w),
            take-suc text (length w) 0 cut.1,
            sym (rw e at (field_taken text 0)),
            cut.2,
          )
          (same_self (w ++ (tab ∷ [])))

  no_form : led_by server_word text ≡ false → led_by task_word text ≡ false → led_by tick_word text ≡ false →
      Malformed (leading (first_field text 0)) 0 ≡ read_line (first_line text)
  unfolding read_line line_of line_by
  no_form s k t = go (field_end text 0).more refl
    where
      go : (b : Bool) → (field_end text 0).more ≡ b → Malformed (leading (first_field text 0)) 0 ≡ read_line (first_line text)
      go true e =
          rw (
            (field_more text 0 e).0,
            other_word tick_word t e,
            other_word server_word s e,
            other_word task_word k e,
          )
      go false e = sym (ap line_of (field_last text 0 e).0 ∙ no_fields_lem (first_field text 0))

  pub word_read : (e : End) (word : Word) (end : ℕ) → e ≡ field_end text 0 → word ≡ leading (take e.at text) →
      Finds line_feed text e.at end → end ≤ length text →
      record { said = word; end = end } ≡ first_word text
  word_read e word end q r f h =
      let z : e.at - 0 ≡ e.at = omega arith in
      let taken : take e.at text ≡ first_field text 0 = rw (← q, z) at (end_taken text 0) in
      let within : e.at ≤ length text =
      omega (arith, ap (λ (x : End). x.at) q, end_within text 0 (omega arith)) in
      let ends = line_found text e.at end f within h in
      rw (r, taken, sym ends, ← (rw (← q) at (line_on_from text 0)))

  pub no_form_read : (w : LineRead Word) → w ≡ first_word text →
      led_by server_word text ≡ false → led_by task_word text ≡ false → led_by tick_word text ≡ false →
      record { said = Malformed w.said 0; end = w.end } ≡ first_read text
  no_form_read w e s k t = rw (e, no_form s k t)
