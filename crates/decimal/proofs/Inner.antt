-- Digits in a row, one more at a time, and what they say of the field in which they stand: it is a
-- number if nothing stands after them and they lead well. Assumes nothing.
pub mod Fields
use Rattle.std.specs.Prelude.{if◌then◌else◌, None, Option, Some}
use Rattle.std.proofs.Common.{◌≡◌, ℕ, zero, suc, ◌+◌, ◌-◌, ◌*◌, ◌%◌, ◌^◌, ◌<◌, ◌≤◌, min, Bool, true, false, List, [], ◌∷◌, ◌++◌, length, get_or, take, drop, sym, refl, ap, ◌∙◌, inl, inr, add-zero, mul-le-mul_right, pow-suc, add-one, arith, lit<, length-drop, drop_of_length-le, length-take, length-take-le, get_or-drop, get_or-take, take-suc, ne_eqb}
use native.Mathlib.Nat.{pow-zero, pow-le-pow_right}
use lib.Arith.{lt_of_le-ne}
use Rattle.laws.specs.Choice.{within, every}
use Rattle.std.specs.Cmp.{first_so, second_so}
use Rattle.std.proofs.lemmas.Bool.{false_from_ne_true}
use Rattle.laws.proofs.Choice.{clash, within_low, within_high, is_within, le_or_lt}
use Rattle.decimal.specs.Number.{are_digits, leads_well, number_form, is_number, worth_from, worth, read_number}
use Rattle.decimal.specs.declared.Digits.{Digits}
use Rattle.decimal.specs.declared.End.{End}
use Rattle.decimal.specs.declared.Field.{Field}
use Rattle.decimal.specs.Lines.{split}
use Rattle.decimal.specs.Inner.Fields.{first_line, first_field, field_end, field_from}
use Rattle.decimal.specs.Inner.{Digit, DigitsFrom, as_number}
use Rattle.decimal.proofs.Inner.Fields.{end_past, field_taken, field_within, end_past_high, field_all, field_not_all}
use Rattle.decimal.proofs.Numbers.{digit_at, number_long, number_is_digits, digits_append, worth_more}

-- a byte less 48, going round
pub digit_of : (b r : ℕ) → b < 256 → r < 18446744073709551616 → (r + 48) % 18446744073709551616 ≡ b → Digit b r
digit_of b r h k e =
    record {
      worths = λ l. omega arith;
      none = λ l. false_from_ne_true (within 48 57 b) (λ w. omega (arith, within_low 48 57 b w, within_high 48 57 b w));
    }

-- a byte of a part, in the whole
pub byte_of : (s : List ℕ) (at n i : ℕ) → i < n → get_or (take n (drop at s)) i 0 ≡ get_or s (at + i) 0
byte_of s at n i h = get_or-take n (drop at s) i 0 h ∙ get_or-drop at s i 0

-- the first i bytes from `at` on, and one more
part_more : (s : List ℕ) (at i : ℕ) → at + i < length s →
    take (i + 1) (drop at s) ≡ take i (drop at s) ++ (get_or s (at + i) 0 ∷ [])
part_more s at i l =
    rw (add-one i, take-suc (drop at s) i 0 (omega (arith, length-drop at s)), get_or-drop at s i 0)

pub digits_more : (s : List ℕ) (at i : ℕ) → at + i < length s → within 48 57 (get_or s (at + i) 0) ≡ true →
    are_digits (take i (drop at s)) ≡ true → are_digits (take (i + 1) (drop at s)) ≡ true
unfolding are_digits
digits_more s at i l w e =
    rw (part_more s at i l) (digits_append (take i (drop at s)) (get_or s (at + i) 0 ∷ []) e (rw w))

pub worths_more : (s : List ℕ) (at i v d : ℕ) → at + i < length s → 48 + d ≡ get_or s (at + i) 0 →
    v ≡ worth (take i (drop at s)) → v * 10 + d ≡ worth (take (i + 1) (drop at s))
worths_more s at i v d l w e =
    let q : get_or s (at + i) 0 - 48 ≡ d = omega arith in
    rw (part_more s at i l, worth_more 0 (get_or s (at + i) 0) (take i (drop at s)), q, e)

-- ten digits and one more are far from 2 ^ 64
below_more : (v d p w : ℕ) → d ≤ 9 → w < (v * 10 + d + 1) * p → w < (v + 1) * (p * 10)
below_more v d p w h l =
    let m : v * 10 + d + 1 ≤ v * 10 + 10 = omega arith in omega (arith, mul-le-mul_right p m)

worth_below : (v : ℕ) (bs : List ℕ) → are_digits bs ≡ true → worth_from v bs < (v + 1) * 10 ^ length bs
unfolding are_digits worth_from
worth_below v [] e = omega (arith, pow-zero 10)
worth_below v (b ∷ bs) e =
    let w = first_so (within 48 57 b) (are_digits bs) e in
    let d : b - 48 ≤ 9 = omega (arith, within_high 48 57 b w) in
    rw (pow-suc 10 (length bs))
    (below_more v (b - 48) (10 ^ length bs) (worth_from (v * 10 + (b - 48)) bs) d
    (worth_below (v * 10 + (b - 48)) bs (second_so (within 48 57 b) (are_digits bs) e)))

pub worth_few : (s : List ℕ) (at i : ℕ) → i < 11 → are_digits (take i (drop at s)) ≡ true →
    worth (take i (drop at s)) < 10000000000
worth_few s at i h e =
    let bs = take i (drop at s) in
    let m : length bs ≤ 10 = omega (arith, length-take i (drop at s)) in
    omega (arith, worth_below 0 bs e, pow-le-pow_right {n = 10} (lit< tt) m)

-- the first i bytes from `at` on are all the digits there
pub digits_from : (s : List ℕ) (at i stop v : ℕ) → at + i ≤ stop → are_digits (take i (drop at s)) ≡ true →
    v ≡ worth (take i (drop at s)) → (at + i < stop → within 48 57 (get_or s (at + i) 0) ≡ false) →
    DigitsFrom s at stop (record { worth = v; end = at + i })
digits_from s at i stop v h d w f =
    let e : at + i - at ≡ i = omega arith in
    record { low = omega arith; high = h; digits = rw e d; worths = rw e w; ends = f }

-- a field of digits alone, by their worth, how many they are and the first of them
digits_read : (f : List ℕ) → are_digits f ≡ true → length f ≤ 11 →
    as_number (worth f) (length f) (get_or f 0 0) ≡ read_number f
unfolding read_number is_number number_form every
digits_read [] e h = refl
digits_read (b ∷ bs) e h =
    rw (
      ne_eqb (suc (length bs)) 0 (λ p. omega arith),
      is_within 1 11 (suc (length bs)) (omega arith) h,
      e,
    )
    (go (leads_well (b ∷ bs)))
  where
    go : (t : Bool) →
        (if t then Some (worth (b ∷ bs)) else None) ≡
        (if every (true ∷ true ∷ t ∷ []) then Some (worth (b ∷ bs)) else None)
    go true = refl
    go false = refl

first_asked : (v k a b : ℕ) → (0 < k → a ≡ b) → as_number v k a ≡ as_number v k b
first_asked v zero a b h = refl
first_asked v (suc k) a b h = ap (as_number v (suc k)) (h (omega arith))

-- a field with a byte after its first k, which are digits: that byte is none, or it is the 12th
longer_not : (l : List ℕ) (k m : ℕ) → k < m → m ≤ length l → (k < 11 → within 48 57 (get_or l k 0) ≡ false) →
    is_number (take m l) ≡ false
longer_not l k m h g f =
    false_from_ne_true
    (is_number (take m l))
    (λ p. elim (le_or_lt 11 k) [
      | inl q ↦ omega (arith, number_long (take m l) p, length-take-le m l g)
      | inr q ↦ no_digit p q
    ])
  where
    no_digit : is_number (take m l) ≡ true → k < 11 → ⊥
    no_digit p q =
        let d = digit_at (take m l) k (number_is_digits (take m l) p) (omega (arith, length-take-le m l g)) in
        let e = get_or-take m l k 0 h in
        let w = is_within 48 57 (get_or l k 0) (omega (arith, d.0, e)) (omega (arith, d.1, e)) in
        clash (within 48 57 (get_or l k 0)) w (f q)

-- no field begins past the end
pub field_past : (text : List ℕ) (at : ℕ) → length text ≤ at →
    record { number = None; end = record { at = at; more = false } } ≡ field_from text at
unfolding field_from first_line split read_number is_number number_form every
field_past text at h = rw (← end_past text at h, drop_of_length-le text h)

-- bytes, read as their first field
module _ (s : List ℕ) (f : Field) (r : f ≡ field_from s 0) where
  pub number_not_all : (f.end.at ≡ length s → ⊥) → None ≡ read_number s
  unfolding field_from read_number
  number_not_all h = rw (field_not_all s (λ e. h (ap (λ (x : Field). x.end.at) r ∙ e)))

  pub number_all : f.end.at ≡ length s → f.number ≡ read_number s
  unfolding field_from
  number_all h =
      ap (λ (x : Field). x.number) r
      ∙ ap read_number (field_all s (sym (ap (λ (x : Field). x.end.at) r) ∙ h))

-- a field whose digits were walked, and whose end was looked for after them
module _ (text : List ℕ) (at : ℕ) (d : Digits) (w : DigitsFrom text at (min (at + 11) (length text)) d) (e : End)
    (q : e ≡ field_end text d.end) where
  here : at + (d.end - at) ≡ d.end
  here = omega (arith, w.low)

  within_text : d.end ≤ length text
  within_text = omega (arith, w.high)

  high_before : (j : ℕ) → j < d.end - at → 48 ≤ get_or text (at + j) 0
  high_before j h =
      let l = length-take-le (d.end - at) (drop at text) (omega (arith, length-drop at text, within_text)) in
      let b = digit_at (take (d.end - at) (drop at text)) j w.digits (omega arith) in
      omega (arith, b.0, get_or-take (d.end - at) (drop at text) j 0 h, get_or-drop at text j 0)

  ends_there : e ≡ field_end text at
  ends_there =
      q ∙ sym (rw here at (end_past_high text at (d.end - at) (omega (arith, here, within_text)) high_before))

  field_long : e.at ≡ at + length (first_field text at)
  unfolding field_end
  field_long = ap (λ (x : End). x.at) ends_there

  reads : (n : Option ℕ) → n ≡ read_number (first_field text at) → record { number = n; end = e } ≡ field_from text at
  unfolding field_from
  reads n r = rw (r, ends_there)

  -- another byte stands after the digits
  pub field_longer : (e.at ≡ d.end → ⊥) → record { number = None; end = e } ≡ field_from text at
  unfolding read_number field_end
  field_longer h =
      let m = length (first_field text at) in
      let a : d.end ≤ e.at = omega (arith, ap (λ (x : End). x.at) q) in
      let b : d.end < e.at = lt_of_le-ne a (λ p. h (sym p)) in
      let g = field_within text at (omega (arith, w.low, within_text)) in
      let byte = get_or-drop at text (d.end - at) 0 in
      reads None
      (sym
      (rw (
        field_taken text at,
        longer_not (drop at text) (d.end - at) m (omega (arith, field_long))
            (omega (arith, length-drop at text))
            (λ l. rw (byte, here) (w.ends (omega (arith, b, field_long, g)))),
      )))

  -- none does
  pub field_whole : (n : Option ℕ) → e.at ≡ d.end →
      n ≡ as_number d.worth (d.end - at) (get_or text at 0) → record { number = n; end = e } ≡ field_from text at
  field_whole n f r =
      let k = d.end - at in
      let l = drop at text in
      let m : length (first_field text at) ≡ k = omega (arith, field_long, f, w.low) in
      let long = length-take-le k l (omega (arith, length-drop at text, within_text)) in
      let byte = rw (add-zero at) at (get_or-drop at text 0 0) in
      reads n
      (r
      ∙ first_asked d.worth k (get_or text at 0) (get_or (take k l) 0 0)
      (λ j. sym (get_or-take k l 0 0 j ∙ byte))
      ∙ rw w.worths
      (rw long at (digits_read (take k l) w.digits (omega (arith, long, w.high))))
      ∙ ap read_number (sym (rw m at (field_taken text at))))
