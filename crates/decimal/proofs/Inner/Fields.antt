-- The line at the front of some bytes, and where its first field ends: byte by byte, as a loop finds
-- it, and what stands before and after that place. Assumes nothing.
use Rattle.std.proofs.Common.{◌≡◌, ℕ, zero, suc, ◌+◌, ◌-◌, ◌<◌, ◌≤◌, Bool, true, false, eqb, ◌⊎◌, List, [], ◌∷◌, length, get_or, take, drop, sym, refl, ap, ◌∙◌, inl, inr, add-zero, zero-add, add-one, arith, length-drop, drop_of_length-le, length-take, length-take-le, get_or-drop, take_all, drop-cons, drop-drop, ltb-false, ltb-true, lt-ltb, eq-eqb, ne_eqb, eqb-true}
use lib.Arith.{lt_of_le-ne}
use Rattle.decimal.specs.Lines.{tab, line_feed, to_first, split, index_of}
use Rattle.decimal.specs.Inner.Fields.{first_line, fields_from, first_field, field_end}
use Rattle.decimal.specs.Number.{is_number}
use Rattle.std.proofs.lemmas.Bool.{false_from_ne_true}
use Rattle.laws.proofs.Choice.{le_or_lt}
use Rattle.decimal.proofs.Numbers.{digit_at, number_is_digits}
use Rattle.decimal.proofs.Lines.{index_cut, index_last, Finds, cut_at, last_at_lem, split_some, split_here, split_on}

-- one byte more at the front
first_longer : (x : ℕ) (ps : List (List ℕ)) → get_or (to_first x ps) 0 [] ≡ x ∷ get_or ps 0 []
first_longer x [] = refl
first_longer x (p ∷ ps) = refl

parts_stay : (x : ℕ) (ps : List (List ℕ)) → 0 < length ps → length (to_first x ps) ≡ length ps
parts_stay x [] h = absurd (omega arith)
parts_stay x (p ∷ ps) h = refl

pub line_feed_lem : (x : ℕ) (xs : List ℕ) → eqb x line_feed ≡ true → first_line (x ∷ xs) ≡ []
unfolding first_line
line_feed_lem x xs e = rw (split_here line_feed x xs e)

pub line_on : (x : ℕ) (xs : List ℕ) → eqb x line_feed ≡ false → first_line (x ∷ xs) ≡ x ∷ first_line xs
unfolding first_line
line_on x xs e = rw (split_on line_feed x xs e) (first_longer x (split line_feed xs))

-- where the first field ends, a place further on
module _ (text : List ℕ) (at : ℕ) where
  pub end_past : length text ≤ at → record { at = at; more = false } ≡ field_end text at
  unfolding field_end first_line split
  end_past h = rw (drop_of_length-le text h, add-zero at)

  module _ (here : at < length text) where
    pub end_feed : get_or text at 0 ≡ 10 → record { at = at; more = false } ≡ field_end text at
    unfolding field_end split
    end_feed e =
        rw
        (drop-cons text at 0 here, line_feed_lem (get_or text at 0) (drop (suc at) text) (eq-eqb _ 10 e), add-zero at)

    pub end_tab : get_or text at 0 ≡ 9 → record { at = at; more = true } ≡ field_end text at
    unfolding field_end
    end_tab e =
        let q : eqb (get_or text at 0) 10 ≡ false = ne_eqb (get_or text at 0) 10 (λ p. omega (arith, e, p)) in
        let rest = first_line (drop (suc at) text) in
        rw (
          drop-cons text at 0 here,
          line_on (get_or text at 0) (drop (suc at) text) q,
          split_here tab (get_or text at 0) rest (eq-eqb _ 9 e),
          add-zero at,
          lt-ltb 1 (suc (length (split tab rest))) (omega (arith, split_some tab rest)),
        )

    pub end_on : (get_or text at 0 ≡ 9 → ⊥) → (get_or text at 0 ≡ 10 → ⊥) → field_end text at ≡ field_end text (at + 1)
    unfolding field_end
    end_on t f =
        let rest = first_line (drop (suc at) text) in
        let q : at + suc (length (get_or (split tab rest) 0 [])) ≡ suc at + length (get_or (split tab rest) 0 []) = omega arith in
        rw (
          add-one at,
          drop-cons text at 0 here,
          line_on (get_or text at 0) (drop (suc at) text) (ne_eqb _ 10 f),
          split_on tab (get_or text at 0) rest (ne_eqb _ 9 t),
          first_longer (get_or text at 0) (split tab rest),
          parts_stay (get_or text at 0) (split tab rest) (split_some tab rest),
          q,
        )

-- The first field stands at the front, and what stands after it is no digit. After its tab the next
-- field begins, and the line goes on; without one the line ends with it.
abbrev Front : List ℕ → List ℕ → List (List ℕ) → Type 0
Front l line fs =
    let f = get_or fs 0 [] in
    let m = length f in
    (f ≡ take m l)
    × (m < length l → get_or l m 0 < 48)
    × (length line ≡ m + length (first_line (drop m l)))
    × (1 < length fs →
    (fs ≡ f ∷ split tab (first_line (drop (suc m) l))) × (m < length l) × (get_or l m 0 ≡ tab))
    × (length fs ≤ 1 → (fs ≡ f ∷ []) × (length line ≡ m))

to_first_lem : (x : ℕ) (p : List ℕ) (ps qs : List (List ℕ)) → qs ≡ p ∷ ps → to_first x qs ≡ (x ∷ p) ∷ ps
to_first_lem x p ps qs e = rw e

front : (l : List ℕ) → Front l (first_line l) (split tab (first_line l))
unfolding first_line split
front [] = (refl, λ h. absurd (omega arith), refl, λ h. absurd (omega arith), λ h. (refl, refl))
front (x ∷ xs) = go (eqb x 10) refl (eqb x 9) refl (front xs)
  where
    rest : List ℕ
    rest = first_line xs

    whole : {line : List ℕ} → first_line (x ∷ xs) ≡ line → length line ≡ 0 + length (first_line (x ∷ xs))
    whole e = ap length (sym e) ∙ sym (zero-add (length (first_line (x ∷ xs))))

    go : (b : Bool) → eqb x 10 ≡ b → (c : Bool) → eqb x 9 ≡ c → Front xs rest (split tab rest) →
        Front (x ∷ xs) (first_line (x ∷ xs)) (split tab (first_line (x ∷ xs)))
    go true e c g ih =
        rw (line_feed_lem x xs e) (
          refl,
          λ h. omega (arith, eqb-true x 10 e),
          whole (line_feed_lem x xs e),
          λ h. absurd (omega arith),
          λ h. (refl, refl),
        )
    go false e true g ih =
        rw (line_on x xs e, split_here tab x rest g) (
          refl,
          λ h. omega (arith, eqb-true x 9 g),
          whole (line_on x xs e),
          λ h. (refl, omega arith, eqb-true x 9 g),
          λ h. absurd (omega (arith, split_some tab rest)),
        )
    go false e false g ih =
        rw (
          line_on x xs e,
          split_on tab x rest g,
          first_longer x (split tab rest),
          parts_stay x (split tab rest) (split_some tab rest),
        ) (
          ap (λ r. x ∷ r) ih.0,
          λ h. ih.1 (omega arith),
          omega (arith, ih.2),
          λ h. (to_first_lem x _ _ (split tab rest) (ih.3 h).0, omega (arith, (ih.3 h).1), (ih.3 h).2),
          λ h. (to_first_lem x _ _ (split tab rest) (ih.4 h).0, omega (arith, (ih.4 h).1)),
        )

pub field_taken : (text : List ℕ) (at : ℕ) →
    first_field text at ≡ take (length (first_field text at)) (drop at text)
field_taken text at = (front (drop at text)).0

pub field_within : (text : List ℕ) (at : ℕ) → at ≤ length text → at + length (first_field text at) ≤ length text
field_within text at h =
    omega (
      arith,
      ap length (field_taken text at),
      length-take (length (first_field text at)) (drop at text),
      length-drop at text,
    )

pub end_from : (text : List ℕ) (at : ℕ) → at ≤ (field_end text at).at
unfolding field_end
end_from text at = omega arith

pub end_within : (text : List ℕ) (at : ℕ) → at ≤ length text → (field_end text at).at ≤ length text
unfolding field_end
end_within text at h = field_within text at h

pub end_taken : (text : List ℕ) (at : ℕ) → take ((field_end text at).at - at) (drop at text) ≡ first_field text at
unfolding field_end
end_taken text at =
    let e : at + length (first_field text at) - at ≡ length (first_field text at) = omega arith in
    rw e (sym (field_taken text at))

-- bytes that are at least `0` end no field
pub end_past_high : (text : List ℕ) (at k : ℕ) → at + k ≤ length text →
    ((j : ℕ) → j < k → 48 ≤ get_or text (at + j) 0) → field_end text at ≡ field_end text (at + k)
end_past_high text at zero h f = ap (field_end text) (sym (add-zero at))
end_past_high text at (suc k) h f =
    let l : 48 ≤ get_or text (at + k) 0 = f k (omega arith) in
    let q : at + k + 1 ≡ at + suc k = omega arith in
    end_past_high text at k (omega arith) (λ j i. f j (omega arith)) ∙
    rw q at (end_on text (at + k) (omega arith) (λ e. omega (arith, e, l)) (λ e. omega (arith, e, l)))

module _ (text : List ℕ) (at : ℕ) where
  -- a line ends where it does, seen from its beginning or from the end of a field
  pub line_on_from : at + length (first_line (drop at text)) ≡
      (field_end text at).at + length (first_line (drop (field_end text at).at text))
  unfolding field_end
  line_on_from =
      rw (← drop-drop (length (first_field text at)) at text) (omega (arith, (front (drop at text)).2))

  pub field_more : (field_end text at).more ≡ true →
      let e = (field_end text at).at in
      (fields_from text at ≡ first_field text at ∷ fields_from text (e + 1))
      × (e < length text)
      × (get_or text e 0 ≡ tab)
  unfolding field_end
  field_more h =
      let m = length (first_field text at) in
      let q : at + suc m ≡ at + m + 1 = omega arith in
      let p = rw (drop-drop (suc m) at text, q) at ((front (drop at text)).3 (ltb-true 1 _ h)) in
      (p.0, omega (arith, p.1, length-drop at text), sym (get_or-drop at text m 0) ∙ p.2)

  pub field_last : (field_end text at).more ≡ false →
      (fields_from text at ≡ first_field text at ∷ []) × (at + length (first_line (drop at text)) ≡ (field_end text at).at)
  unfolding field_end
  field_last h =
      let p = (front (drop at text)).4 (ltb-false 1 _ h) in (p.0, omega (arith, p.1))

  -- a line goes on behind a tab
  pub line_behind_tab : (field_end text at).more ≡ true →
      let e = (field_end text at).at in
      at + length (first_line (drop at text)) ≡ e + 1 + length (first_line (drop (e + 1) text))
  line_behind_tab h =
      let e = (field_end text at).at in
      let p = field_more h in
      let byte = ne_eqb (get_or text e 0) 10 (λ q. omega (arith, q, p.2)) in
      line_on_from
      ∙ rw (drop-cons text e 0 p.1, line_on (get_or text e 0) (drop (suc e) text) byte, add-one e) (omega arith)

-- bytes of which the first field is all, and of which it is not
pub field_all : (s : List ℕ) → (field_end s 0).at ≡ length s → first_field s 0 ≡ s
unfolding field_end
field_all s e = field_taken s 0 ∙ take_all (length (first_field s 0)) s (omega (arith, e))

pub field_not_all : (s : List ℕ) → ((field_end s 0).at ≡ length s → ⊥) → is_number s ≡ false
unfolding field_end
field_not_all s e = false_from_ne_true (is_number s) (λ p. omega (arith, digit_at s m (number_is_digits s p) l, (front s).1 l))
  where
    m : ℕ
    m = length (first_field s 0)

    l : m < length s
    l = lt_of_le-ne (omega (arith, field_within s 0 (omega arith))) (λ q. e (omega (arith, q)))

-- the line at the front is the first part of the text between line feeds
pub line_closed : (l : List ℕ) → length (first_line l) < length l →
    split line_feed l ≡ first_line l ∷ split line_feed (drop (suc (length (first_line l))) l)
unfolding first_line
line_closed l h = go (le_or_lt (length l) (index_of line_feed l))
  where
    go : (length l ≤ index_of line_feed l) ⊎ (index_of line_feed l < length l) →
        split line_feed l ≡ first_line l ∷ split line_feed (drop (suc (length (first_line l))) l)
    go (inl q) = absurd (omega (arith, rw (index_last line_feed l q) at h))
    go (inr q) =
        rw (index_cut line_feed l q, length-take-le (index_of line_feed l) l (omega arith))

pub line_open : (l : List ℕ) → length l ≤ length (first_line l) → split line_feed l ≡ l ∷ []
unfolding first_line
line_open l h = go (le_or_lt (length l) (index_of line_feed l))
  where
    go : (length l ≤ index_of line_feed l) ⊎ (index_of line_feed l < length l) → split line_feed l ≡ l ∷ []
    go (inl q) = index_last line_feed l q
    go (inr q) =
        absurd
        (omega
        (arith, rw (index_cut line_feed l q) at h, length-take-le (index_of line_feed l) l (omega arith)))

pub line_within : (l : List ℕ) → length (first_line l) ≤ length l
unfolding first_line
line_within l = go (le_or_lt (length (first_line l)) (length l))
  where
    go : (length (first_line l) ≤ length l) ⊎ (length l < length (first_line l)) → length (first_line l) ≤ length l
    go (inl h) = h
    go (inr h) = omega (arith, ap (λ ps. length (get_or ps 0 [])) (line_open l (omega arith)))

-- and ends where a search for the line feed ends
pub line_found : (text : List ℕ) (from e : ℕ) → Finds line_feed text from e → from ≤ length text → e ≤ length text →
    from + length (first_line (drop from text)) ≡ e
unfolding first_line
line_found text from e f h g = go (le_or_lt (length text) e)
  where
    low : from ≤ e
    low = omega (arith, f)

    go : (length text ≤ e) ⊎ (e < length text) → from + length (get_or (split line_feed (drop from text)) 0 []) ≡ e
    go (inl q) = rw (last_at_lem line_feed text from e f h q) (omega (arith, length-drop from text))
    go (inr q) =
        rw (cut_at line_feed text from e f q)
        (omega (arith, low, length-take-le (e - from) (drop from text) (omega (arith, length-drop from text))))
