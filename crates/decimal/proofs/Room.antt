-- Bytes put into a lent room: one text after another is one text, and where there is room for all
-- of it the room holds it, and else what it held. Assumes nothing.
use Rattle.std.proofs.Common.{◌≡◌, ℕ, suc, ◌+◌, ◌-◌, ◌*◌, ◌/◌, ◌%◌, ◌^◌, ◌<◌, ◌≤◌, max, ◌⊎◌, List, [], ◌∷◌, ◌++◌, length, get_or, take, drop, set, sym, refl, ap, ◌∙◌, subst, inl, inr, append_assoc, add-zero, add-suc, suc-add, add-one, arith, length-append, length-take-le, take-suc, take_at, drop_at}
use lib.Seq.{sets, length-sets, sets-eq, set_out, set_comm}
use Rattle.laws.proofs.Choice.{le_or_lt}
use Rattle.decimal.specs.Number.{digits}
use Rattle.decimal.specs.Lines.{tab, line_feed, join, closed}
use Rattle.decimal.specs.Room.{Put, Spelled, most_digits, spelled}
use Rattle.decimal.proofs.Numbers.{digits_one, digits_more, digits_some, digits_length}
use Rattle.decimal.proofs.Lines.{closed_append}

-- stores, one after another and past the end
pub sets_append : (d : List ℕ) (at : ℕ) (xs ys : List ℕ) → sets d at (xs ++ ys) ≡ sets (sets d at xs) (at + length xs) ys
sets_append d at [] ys = rw (add-zero at)
sets_append d at (x ∷ xs) ys =
    rw (add-suc at (length xs), ← suc-add at (length xs)) (sets_append (set d at x) (suc at) xs ys)

sets_out : (d : List ℕ) (at : ℕ) (xs : List ℕ) → length d ≤ at → sets d at xs ≡ d
sets_out d at [] h = refl
sets_out d at (x ∷ xs) h = rw (set_out d at x h) (sets_out d (suc at) xs (omega arith))

-- one byte, and no byte
pub put_in : (b : ℕ) (d : List ℕ) (at : ℕ) → at < length d → Put (b ∷ []) d at (set d at b) (at + 1)
put_in b d at h = record { leaves = refl; ends = omega arith }

pub put_past : (b : ℕ) (d : List ℕ) (at next : ℕ) → length d ≤ at → next ≡ max at (length d + 1) → Put (b ∷ []) d at d next
put_past b d at next h e = record { leaves = sym (sets_out d at (b ∷ []) h); ends = omega arith }

pub put_none : (d : List ℕ) (at : ℕ) → Put [] d at d at
put_none d at = record { leaves = refl; ends = omega arith }

-- The digits of a number, found from the last one on: those of what is left of it are yet to be
-- stored before place `end`.
abbrev before : ℕ → List ℕ → ℕ → Spelled
before left text end =
    let first = end - length (digits left) in record { text = sets text first (digits left); first = first }

pub record LastDigits (n : ℕ) (text₀ text : List ℕ) (end left : ℕ) : Type 0 where
  pub within : end ≤ most_digits
  pub some : 1 ≤ end
  pub enough : length (digits left) ≤ end
  pub same : before left text end ≡ spelled n text₀

pub spell_start : (n : ℕ) (text : List ℕ) → n < 2 ^ 64 → LastDigits n text text most_digits n
unfolding spelled
spell_start n text h =
    record { within = omega arith; some = omega arith; enough = digits_length n 19 (omega arith); same = refl }

-- the last byte may be stored first
sets_last : (d : List ℕ) (at : ℕ) (xs : List ℕ) (y : ℕ) →
    sets d at (xs ++ (y ∷ [])) ≡ sets (set d (at + length xs) y) at xs
sets_last d at [] y = rw (add-zero at)
sets_last d at (x ∷ xs) y =
    let e : suc at + length xs ≡ at + suc (length xs) = omega arith in
    sets_last (set d at x) (suc at) xs y
    ∙ rw (e, set_comm d at (at + suc (length xs)) x y (λ q. omega arith))

pub spell_next : (n : ℕ) (text₀ text : List ℕ) (end left : ℕ) → LastDigits n text₀ text end left → 10 ≤ left →
    LastDigits n text₀ (set text (end - 1) (48 + left % 10)) (end - 1) (left / 10)
spell_next n text₀ text end left w h =
    let v = left / 10 in
    let d = 48 + left % 10 in
    let e : v * 10 + left % 10 ≡ left = omega arith in
    let g : digits left ≡ digits v ++ (d ∷ []) = rw e at (digits_more v (left % 10) (omega arith) (omega arith)) in
    let m : length (digits left) ≡ length (digits v) + 1 = rw g (length-append (digits v) (d ∷ [])) in
    let f : end - 1 - length (digits v) ≡ end - length (digits left) = omega arith in
    let l : end - length (digits left) + length (digits v) ≡ end - 1 = omega (arith, w.enough) in
    record {
      within = omega (arith, w.within);
      some = omega (arith, w.enough, digits_some v);
      enough = omega (arith, w.enough);
      same = rw (f, ← l, ← sets_last text (end - length (digits left)) (digits v) d, ← g) w.same;
    }

pub spell_done : (n : ℕ) (text₀ text : List ℕ) (end left : ℕ) → LastDigits n text₀ text end left → left < 10 →
    ◌≡◌ {A = Spelled} (record { text = set text (end - 1) (48 + left); first = end - 1 }) (spelled n text₀)
spell_done n text₀ text end left w h = rw (digits_one left h) at w.same

-- what is spelled in a text of so many bytes: it keeps its length, and ends with the digits
pub record Ends (n : ℕ) (text : List ℕ) (first : ℕ) : Type 0 where
  pub within : first ≤ most_digits
  pub long : length text ≡ most_digits
  pub said : take (most_digits - first) (drop first text) ≡ digits n

pub spelled_ends : (n : ℕ) (text₀ : List ℕ) {text : List ℕ} {first : ℕ} → n < 2 ^ 64 → length text₀ ≡ most_digits →
    ◌≡◌ {A = Spelled} (record { text = text; first = first }) (spelled n text₀) → Ends n text first
unfolding spelled
spelled_ends n text₀ h l e =
    let ds = digits n in
    let f = most_digits - length ds in
    let m : length ds ≤ most_digits = digits_length n 19 (omega arith) in
    let rest = drop (f + length ds) text₀ in
    rw (ap (λ s. s.first) e, ap (λ s. s.text) e)
    (record {
      within = omega arith;
      long = length-sets text₀ f ds ∙ l;
      said =
          rw (
            sets-eq ds text₀ f (omega arith),
            append_assoc (take f text₀) ds rest,
            drop_at (take f text₀) (ds ++ rest) f (length-take-le f text₀ (omega arith)),
          )
          (take_at ds rest (most_digits - f) (omega arith));
    })

-- one text
module _ {d : List ℕ} {at : ℕ} {e : List ℕ} {r : ℕ} where
  -- the room keeps its length
  pub put_length : (xs : List ℕ) → Put xs d at e r → length e ≡ length d
  put_length xs p = ap length p.leaves ∙ length-sets d at xs

  -- the same bytes, said otherwise
  pub put_as : {xs ys : List ℕ} → xs ≡ ys → Put xs d at e r → Put ys d at e r
  put_as q p = subst (λ zs. Put zs d at e r) q p

  -- where there is room: the text stands from its place on, and nothing beyond it changed
  pub put_fits : (xs : List ℕ) → at + length xs ≤ length d → Put xs d at e r →
      (e ≡ take at d ++ (xs ++ drop (at + length xs) d)) × (r ≡ at + length xs)
  put_fits xs h p =
      (p.leaves ∙ sets-eq xs d at h ∙ append_assoc (take at d) xs (drop (at + length xs) d), omega (arith, p.ends))

  -- the place that is answered tells whether there was room
  pub put_whole : (xs : List ℕ) → r ≤ length d → Put xs d at e r → at + length xs ≤ length d
  put_whole xs h p = omega (arith, p.ends)

-- at the front of a room that is long enough: as many bytes as are answered are the text
pub put_front : (xs : List ℕ) {d : List ℕ} {e : List ℕ} {r : ℕ} → length xs ≤ length d → Put xs d 0 e r → take r e ≡ xs
put_front xs {d = d} {r = r} h p =
    let whole = put_fits xs (omega arith) p in
    let size : length xs ≡ r = omega (arith, whole.1) in
    ap (take r) whole.0 ∙ take_at xs (drop (0 + length xs) d) r size

-- one text after another
module _ {d : List ℕ} {at : ℕ} {e : List ℕ} {k : ℕ} {f : List ℕ} {r : ℕ} where
  pub put_more : (xs ys : List ℕ) → Put xs d at e k → Put ys e k f r → Put (xs ++ ys) d at f r
  put_more xs ys p q =
      record {
        leaves = go (le_or_lt (at + length xs) (length d));
        ends = omega (arith, p.ends, q.ends, put_length xs p, length-append xs ys);
      }
    where
      go : (at + length xs ≤ length d) ⊎ (length d < at + length xs) → f ≡ sets d at (xs ++ ys)
      go (inl h) =
          let m : k ≡ at + length xs = omega (arith, p.ends) in
          q.leaves ∙ rw (m, p.leaves) (sym (sets_append d at xs ys))
      go (inr h) =
          let m : length e ≤ k = omega (arith, p.ends, put_length xs p) in
          let l : length (sets d at xs) ≤ at + length xs = omega (arith, length-sets d at xs) in
          q.leaves ∙ sets_out e k ys m ∙ p.leaves ∙
          sym (sets_append d at xs ys ∙ sets_out (sets d at xs) (at + length xs) ys l)

  -- a loop over bytes: one byte more
  pub put_next : (xs : List ℕ) (i : ℕ) → i < length xs → Put (take i xs) d at e k → Put (get_or xs i 0 ∷ []) e k f r →
      Put (take (i + 1) xs) d at f r
  put_next xs i h p q = rw (add-one i, take-suc xs i 0 h) (put_more (take i xs) (get_or xs i 0 ∷ []) p q)

  -- a line, field by field: one with the tab after it, then those that follow
  pub put_field : (p q : List ℕ) (ps : List (List ℕ)) → Put (p ++ (tab ∷ [])) d at e k →
      Put (closed (join tab (q ∷ ps) ∷ [])) e k f r →
      Put (closed (join tab (p ∷ (q ∷ ps)) ∷ [])) d at f r
  unfolding join closed
  put_field p q ps a b =
      let l = join tab (q ∷ ps) ++ (line_feed ∷ []) in
      put_as
      (append_assoc p (tab ∷ []) l ∙ sym (append_assoc p (tab ∷ join tab (q ∷ ps)) (line_feed ∷ [])))
      (put_more (p ++ (tab ∷ [])) l a b)

  -- and the last one, with the line feed
  pub put_last : (p : List ℕ) → Put p d at e k → Put (line_feed ∷ []) e k f r →
      Put (closed (join tab (p ∷ []) ∷ [])) d at f r
  unfolding join closed
  put_last p a b = put_more p (line_feed ∷ []) a b

  -- lines after lines
  pub put_lines : (ks ls : List (List ℕ)) → Put (closed ks) d at e k → Put (closed ls) e k f r →
      Put (closed (ks ++ ls)) d at f r
  put_lines ks ls a b = put_as (sym (closed_append ks ls)) (put_more (closed ks) (closed ls) a b)
