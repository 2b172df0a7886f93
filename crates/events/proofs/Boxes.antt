-- Laws of every box: what is told to some lines and then to others, one line after the other, and
-- where all lines are events. Assumes nothing.
use Rattle.std.proofs.Common.{None, Option, Some}
use mathlib.Core.Path.{◌≡◌, refl, ap, sym, ◌∙◌}
use mathlib.Core.List.{List, [], ◌∷◌, ◌++◌, map}
use Prim.Native.Nat.{ℕ, suc, ◌+◌, ◌*◌, ◌≤◌}
use native.Mathlib.Omega.{arith}
use lib.ListN.{length, drop, drop_of_length-le}
use Rattle.events.specs.declared.Event.{Event}
use Rattle.events.specs.declared.Told.{Told}
use Rattle.events.specs.Values.{told_of, told_values, all_values, told_put}
use Rattle.events.specs.Boxes.{Box, after_in, answers_in, told_in, after_line_in, told_all_in, after_lines_in}
use Rattle.events.proofs.Values.{Laid, laid_start, laid_on, laid_end, told_length, told_put_lem}

module _ {S : Type 0} (b : Box S) where
  -- Some lines and then others; a line more.
  pub told_append : (s : S) (ks ls : List (Option Event)) →
      told_all_in b s (ks ++ ls) ≡ told_all_in b s ks ++ told_all_in b (after_lines_in b s ks) ls
  unfolding told_all_in after_lines_in
  told_append s [] ls = refl
  told_append s (k ∷ ks) ls = ap (λ (xs : List Told). told_in b s k ∷ xs) (told_append (after_line_in b s k) ks ls)

  pub after_append : (s : S) (ks ls : List (Option Event)) →
      after_lines_in b s (ks ++ ls) ≡ after_lines_in b (after_lines_in b s ks) ls
  unfolding after_lines_in
  after_append s [] ls = refl
  after_append s (k ∷ ks) ls = after_append (after_line_in b s k) ks ls

  -- something is told to each line
  pub told_all_length : (s : S) (ls : List (Option Event)) → length (told_all_in b s ls) ≡ length ls
  unfolding told_all_in
  told_all_length s [] = refl
  told_all_length s (l ∷ ls) = ap suc (told_all_length (after_line_in b s l) ls)

  -- Where all lines are events, each is told its answer.
  pub told_answers : (s : S) (es : List Event) → told_all_in b s (map Some es) ≡ map told_of (answers_in b s es)
  unfolding told_all_in answers_in
  told_answers s [] = refl
  told_answers s (e ∷ es) = ap (λ (xs : List Told). told_of (b.answer s e) ∷ xs) (told_answers (b.next s e) es)

  pub after_events : (s : S) (es : List Event) → after_lines_in b s (map Some es) ≡ after_in b s es
  unfolding after_lines_in after_in
  after_events s [] = refl
  after_events s (e ∷ es) = after_events (b.next s e) es

  -- What each event keeps is kept over events and over lines.
  module _ (Kept : S → Type 0) (keeps : (s : S) (e : Event) → Kept s → Kept (b.next s e)) where
    pub after_keeps : (s : S) (es : List Event) → Kept s → Kept (after_in b s es)
    unfolding after_in
    after_keeps s [] h = h
    after_keeps s (e ∷ es) h = after_keeps (b.next s e) es (keeps s e h)

    pub line_keeps : (s : S) (l : Option Event) → Kept s → Kept (after_line_in b s l)
    line_keeps s (Some e) h = keeps s e h
    line_keeps s None h = h

    pub lines_keep : (s : S) (ls : List (Option Event)) → Kept s → Kept (after_lines_in b s ls)
    unfolding after_lines_in
    lines_keep s [] h = h
    lines_keep s (l ∷ ls) h = lines_keep (after_line_in b s l) ls (line_keeps s l h)

-- Lines taken one after the other, in code: after i of them z is what is held, and `left` the room
-- into which is put what was told so far.
pub record Going {S : Type 0} (b : Box S) (s : S) (ls : List (Option Event)) (room : List ℕ) (z : S) (left : List ℕ) (i : ℕ) :
    Type 0 where
  pub held : after_lines_in b s ls ≡ after_lines_in b z (drop i ls)
  pub told : Laid 9 (all_values (told_all_in b s ls)) (all_values (told_all_in b z (drop i ls))) room left i

module _ {S : Type 0} (b : Box S) where
  pub going_start : (s : S) (ls : List (Option Event)) (room : List ℕ) → Going b s ls room s room 0
  going_start s ls room = record { held = refl; told = laid_start 9 (all_values (told_all_in b s ls)) room }

  -- one line more
  pub held_on : (s : S) (ls : List (Option Event)) (z : S) (i : ℕ) (l : Option Event) (y : S) →
      drop i ls ≡ l ∷ drop (i + 1) ls → y ≡ after_line_in b z l → after_lines_in b s ls ≡ after_lines_in b z (drop i ls) →
      after_lines_in b s ls ≡ after_lines_in b y (drop (i + 1) ls)
  unfolding after_lines_in
  held_on s ls z i l y d q g = g ∙ rw d (ap (λ x. after_lines_in b x (drop (i + 1) ls)) (sym q))

  pub going_on : (s : S) (ls : List (Option Event)) (room : List ℕ) (z : S) (left : List ℕ) (i : ℕ) (l : Option Event) (y : S)
      (x : Told) (left' : List ℕ) → 9 * (i + 1) ≤ length room → drop i ls ≡ l ∷ drop (i + 1) ls →
      y ≡ after_line_in b z l → x ≡ told_in b z l → left' ≡ told_put left (9 * i) x → Going b s ls room z left i →
      Going b s ls room y left' (i + 1)
  unfolding told_all_in all_values
  going_on s ls room z left i l y x left' h d q v p g =
      let rest = all_values (told_all_in b y (drop (i + 1) ls)) in
      record {
        held = held_on s ls z i l y d q g.held;
        told =
            laid_on 9 (all_values (told_all_in b s ls)) (all_values (told_all_in b z (drop i ls))) room left i (told_values x) rest
            left' (told_length x) h
            (ap (λ xs. all_values (told_all_in b z xs)) d ∙ rw (v, q))
            (p ∙ told_put_lem left (9 * i) x (omega (arith, g.told.long)))
            g.told;
      }

  -- all of them
  pub going_end : (s : S) (ls : List (Option Event)) (room : List ℕ) (z : S) (left : List ℕ) (i : ℕ) → i ≡ length ls →
      Going b s ls room z left i →
      (after_lines_in b s ls ≡ z) × (all_values (told_all_in b s ls) ++ drop (9 * length ls) room ≡ left)
  unfolding after_lines_in told_all_in all_values
  going_end s ls room z left i e g =
      let d : drop i ls ≡ [] = drop_of_length-le ls {i = i} (omega (arith, e)) in
      let rest = all_values (told_all_in b z (drop i ls)) in (
        g.held ∙ rw d,
        rw (← e) (sym (laid_end 9 (all_values (told_all_in b s ls)) rest room left i (rw d) g.told)),
      )
