-- A file served in buffers of any length, into rooms of any length, by any box, is answered as the
-- whole file is: what stands after some buffers is what stands after their bytes, but for a line that
-- is too long, of which only that is held. Assumes nothing.
use Rattle.std.proofs.Common.{Option}
use mathlib.Core.Path.{◌≡◌, refl, sym, ap, ◌∙◌}
use mathlib.Core.Bool.{Bool, true, false, ◌||◌}
use mathlib.Core.List.{List, [], ◌∷◌, ◌++◌, append-nil}
use Prim.Native.Nat.{ℕ, zero, suc, ◌≤◌, ◌<◌}
use native.Mathlib.Omega.{arith}
use lib.Dec.{leb}
use lib.ListN.{length, take, drop}
use lib.Seq.{take-append_seam}
use borrow.Author.Tests.{le-leb}
use Rattle.laws.specs.Choice.{unless◌say◌else◌}
use Rattle.laws.proofs.Choice.{if_ind}
use Rattle.decimal.specs.Lines.{closed}
use Rattle.decimal.proofs.Lines.{closed_append}
use Rattle.table.specs.declared.Refusal.{Refusal}
use Rattle.table.specs.declared.Refusal.TheVariants.{RoomShort, Unsound}
use Rattle.text.specs.Standing.{is_nil}
use Rattle.events.specs.Boxes.{Box, told_in, after_line_in, after_lines_in}
use Rattle.events.proofs.Boxes.{after_append}
use Rattle.lines.specs.declared.Held.{Held}
use Rattle.lines.specs.EventLine.{event_lines}
use Rattle.lines.specs.AnswerLine.{answer_fields, printed}
use Rattle.lines.specs.HeldLine.{longest, too_long, line_in, held_of}
use Rattle.lines.specs.Cutting.{lines_in, left_in, last_line, taken_for, cutting}
use Rattle.lines.specs.Print.{longest_answer}
use Rattle.lines.specs.Night.{answer_lines_in}
use Rattle.lines.specs.Serving.{batch, lines_at_once, Service, unserved, served_from, serve_in}
use Rattle.lines.proofs.HeldLine.{held_again, none_held}
use Rattle.lines.proofs.Cutting.{lines_append, left_append, alike_lines, alike_left, file_lines}
use Rattle.events.specs.declared.Event.{Event}

-- From what s is, with the line in h held, the bytes were taken and are answered by `text`; then the
-- box holds z, and the line in k is held.
pub record AnsweredBy {S : Type 0} (b : Box S) (s : S) (h : Held) (bytes text : List ℕ) (z : S) (k : Held) :
    Type 0 where
  pub run : z ≡ after_lines_in b s (lines_in (line_in h) bytes)
  pub held : held_of (line_in k) ≡ held_of (left_in (line_in h) bytes)
  pub out : text ≡ closed (answer_lines_in b s (lines_in (line_in h) bytes))

-- A line is held exactly if its length is not 0.
pub some_held : (c : ℕ) (l : List ℕ) → 0 < (held_of (c ∷ l)).len
unfolding held_of too_long
some_held c l =
    if_ind (λ (x : Held). 0 < x.len) (leb (length (c ∷ l)) longest) (λ e. omega arith) (λ e. omega arith)

pub none_len : (held_of []).len ≡ 0
unfolding held_of longest
none_len = refl

last_alike : (l m : List ℕ) → held_of l ≡ held_of m → last_line l ≡ last_line m
last_alike [] [] e = refl
last_alike [] (c ∷ m) e = absurd (omega (arith, none_len, ap (λ (x : Held). x.len) e, some_held c m))
last_alike (c ∷ l) [] e = absurd (omega (arith, none_len, ap (λ (x : Held). x.len) e, some_held c l))
last_alike (c ∷ l) (d ∷ m) e = refl

-- the bytes of a buffer that were taken, and what was put into the room
abbrev pub eaten_of : {S : Type 0} → Service S → List ℕ → List ℕ
eaten_of d bytes = take d.eaten bytes

abbrev pub put_of : {S : Type 0} → Service S → List ℕ
put_of d = take d.put d.room

at_least : (room : ℕ) → longest_answer ≤ room → 0 < lines_at_once room
unfolding longest_answer batch
at_least room l = omega arith

module _ {S : Type 0} (b : Box S) where
  answers_append : (s : S) (xs ys : List (Option Event)) →
      answer_lines_in b s (xs ++ ys) ≡ answer_lines_in b s xs ++ answer_lines_in b (after_lines_in b s xs) ys
  unfolding answer_lines_in after_lines_in
  answers_append s [] ys = refl
  answers_append s (x ∷ xs) ys =
      ap (λ z. printed (answer_fields x (told_in b s x)) ∷ z) (answers_append (after_line_in b s x) xs ys)

  pub answered_none : (s : S) (h : Held) → AnsweredBy b s h [] [] s h
  unfolding lines_in left_in after_lines_in answer_lines_in closed
  answered_none s h = record { run = refl; held = refl; out = refl }

  -- Bytes after bytes.
  pub answered_join : (s : S) (h : Held) (xs t : List ℕ) (z : S) (k : Held) → AnsweredBy b s h xs t z k →
      (ys u : List ℕ) (w : S) (j : Held) → AnsweredBy b z k ys u w j → AnsweredBy b s h (xs ++ ys) (t ++ u) w j
  answered_join s h xs t z k a ys u w j d =
      let before = lines_in (line_in h) xs in
      let ls = lines_in (line_in k) ys in
      let all : lines_in (line_in h) (xs ++ ys) ≡ before ++ ls =
      lines_append (line_in h) xs ys ∙
      ap (λ x. before ++ x) (sym (alike_lines (line_in k) (left_in (line_in h) xs) ys a.held)) in
      record {
        run =
            d.run ∙ ap (λ x. after_lines_in b x ls) a.run ∙ sym (after_append b s before ls) ∙
            sym (ap (after_lines_in b s) all);
        held =
            d.held ∙ alike_left (line_in k) (left_in (line_in h) xs) ys a.held ∙
            sym (ap held_of (left_append (line_in h) xs ys));
        out =
            ap (λ x. t ++ x) d.out ∙
            ap (λ x. x ++ closed (answer_lines_in b z ls)) a.out ∙
            ap (λ x. closed (answer_lines_in b s before) ++ closed (answer_lines_in b x ls)) a.run ∙
            sym (closed_append (answer_lines_in b s before) (answer_lines_in b (after_lines_in b s before) ls)) ∙
            sym (ap closed (answers_append s before ls)) ∙
            sym (ap (λ x. closed (answer_lines_in b s x)) all);
      }

  -- Any one buffer more, whatever of it is taken.
  module _ (s : S) (h : Held) (bytes text : List ℕ) (z : S) (k : Held) (a : AnsweredBy b s h bytes text z k)
      (more room : List ℕ) where
    abbrev Next : Service S → Type 0
    Next d = AnsweredBy b s h (bytes ++ eaten_of d more) (text ++ put_of d) d.run d.held

    -- nothing is taken
    next_none : (why : Refusal) → Next (unserved why z k room)
    next_none why = rw (append-nil bytes, append-nil text) a

    -- some lines are
    next_first : (n : ℕ) → Next (served_from b z (cutting n (line_in k) more) room)
    unfolding cutting
    next_first n =
        let some = take (taken_for n more) more in
        let line = closed (answer_lines_in b z (lines_in (line_in k) some)) in
        answered_join s h bytes text z k a some _ _ _
        (record {
          run = refl;
          held = held_again (left_in (line_in k) some);
          out = take-append_seam line (drop (length line) room);
        })

    pub answered_more : Next (serve_in b z k more room)
    unfolding serve_in
    answered_more = go (b.sound z) (leb longest_answer (length room) || is_nil more)
      where
        go : (p q : Bool) →
            Next
            (unless p say unserved Unsound z k room
            else unless q say unserved RoomShort z k room
            else served_from b z (cutting (lines_at_once (length room)) (line_in k) more) room)
        go false q = next_none Unsound
        go true false = next_none RoomShort
        go true true = next_first (lines_at_once (length room))

  -- The file ends: from a start with nothing held, what is answered is what the whole file is.
  pub answered_file : (s : S) (bytes text : List ℕ) (z : S) (k : Held) → AnsweredBy b s (held_of []) bytes text z k →
      text ++ closed (answer_lines_in b z (last_line (line_in k))) ≡ closed (answer_lines_in b s (event_lines bytes))
  answered_file s bytes text z k a =
      let ls = lines_in (line_in (held_of [])) bytes in
      let last = last_line (line_in k) in
      let all : ls ++ last ≡ event_lines bytes =
      rw (last_alike (line_in k) (left_in (line_in (held_of [])) bytes) a.held, none_held) (file_lines bytes) in
      ap (λ x. x ++ closed (answer_lines_in b z last)) a.out ∙
      ap (λ x. closed (answer_lines_in b s ls) ++ closed (answer_lines_in b x last)) a.run ∙
      sym (closed_append (answer_lines_in b s ls) (answer_lines_in b (after_lines_in b s ls) last)) ∙
      sym (ap closed (answers_append s ls last)) ∙
      ap (λ x. closed (answer_lines_in b s x)) all

  -- So for two buffers, and likewise for any number of them.
  pub two_served : (s : S) (h : Held) (xs ys room lent : List ℕ) →
      let d = serve_in b s h xs room in
      let e = serve_in b d.run d.held ys lent in
      AnsweredBy b s h (eaten_of d xs ++ eaten_of e ys) (put_of d ++ put_of e) e.run e.held
  two_served s h xs ys room lent =
      let d = serve_in b s h xs room in
      answered_more s h (eaten_of d xs) (put_of d) d.run d.held
      (answered_more s h [] [] s h (answered_none s h) xs room)
      ys
      lent

  -- Where there is room for one answer, something is taken of any buffer that is not empty.
  pub served_some : (s : S) (h : Held) (c : ℕ) (bytes room : List ℕ) → b.sound s ≡ true →
      longest_answer ≤ length room → 0 < (serve_in b s h (c ∷ bytes) room).eaten
  unfolding serve_in cutting taken_for
  served_some s h c bytes room q l = rw (q, le-leb longest_answer (length room) l)
      (go (lines_at_once (length room)) (at_least (length room) l))
    where
      go : (n : ℕ) → 0 < n → 0 < taken_for n (c ∷ bytes)
      go zero h = absurd (omega arith)
      go (suc n) h = omega arith
