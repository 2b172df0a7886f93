-- Lines that were cut from a buffer are told to a box and printed: what stands is what the buffer is
-- answered. Lines and what is told to them, printed from their numbers, are printed as they are.
-- Assumes nothing.
use Rattle.std.proofs.lemmas.Bool.{cases_Bool}
use Rattle.std.proofs.Common.{Err, None, Ok, Option, Result, Some}
use mathlib.Core.Path.{◌≡◌, refl, sym, ap, ◌∙◌}
use mathlib.Core.Bool.{Bool, true, false, ◌||◌}
use mathlib.Core.List.{List, [], ◌∷◌, ◌++◌, append_assoc}
use mathlib.Core.Logic.{◌⊎◌, inl, inr}
use Prim.Native.Nat.{ℕ, ◌+◌, ◌*◌, ◌/◌, ◌≤◌, ◌<◌, min}
use native.Mathlib.Omega.{arith}
use lib.Dec.{leb}
use lib.ListN.{length, take, drop}
use lib.Seq.{sets-eq, take_at, drop-append_seam}
use borrow.Author.Tests.{le-leb, lt-leb}
use Rattle.laws.specs.Choice.{unless◌say◌else◌}
use Rattle.laws.proofs.Choice.{clash, le_or_lt}
use Rattle.decimal.specs.Lines.{line_feed, closed}
use Rattle.table.specs.declared.Refusal.TheVariants.{RoomShort, Unsound}
use Rattle.text.specs.Standing.{is_nil}
use Rattle.events.specs.declared.Event.TheVariants.{Release, Tick}
use Rattle.events.specs.declared.Told.{Told}
use Rattle.events.specs.Values.{lines_said, line_values, all_line_values, told_values, all_values}
use Rattle.events.specs.Boxes.{Box, told_in, after_line_in, told_all_in, after_lines_in}
use Rattle.events.proofs.Values.{told_length, told_back, values_length, lines_back, line_values_length}
use Rattle.events.proofs.Boxes.{told_all_length}
use Rattle.lines.specs.declared.Held.{Held}
use Rattle.lines.specs.declared.Cut.{Cut}
use Rattle.lines.specs.declared.Printed.{Printed}
use Rattle.lines.specs.HeldLine.{line_in}
use Rattle.lines.specs.AnswerLine.{answer_fields, printed, closed_line}
use Rattle.lines.specs.Cutting.{Cutting, cutting, CutInto, cut_done, cut_first, cut_of}
use Rattle.lines.specs.Print.{longest_answer, answer_text, first_line, PrintedInto, printed_first, print_of}
use Rattle.lines.specs.Night.{answer_lines_in}
use Rattle.events.specs.declared.Many.{Many}
use Rattle.lines.specs.Many.{LentIn, taken_in, many_in}
use Rattle.lines.specs.Serving.{batch, lines_at_once, Service, unserved, serve_in}
use Rattle.lines.specs.Inner.{Fit, is_taken, answered_cut}
use Rattle.lines.proofs.Cutting.{cut_few}
use Rattle.lines.proofs.Print.{print_none, print_long}
use Rattle.events.specs.declared.Event.{Event}
use Rattle.table.specs.declared.Refusal.{Refusal}

line_first : (l : Option Event) (rest : List ℕ) → first_line (line_values l ++ rest) ≡ l
line_first (Some (Release k)) rest = refl
line_first (Some (Tick true)) rest = refl
line_first (Some (Tick false)) rest = refl
line_first None rest = refl

line_after : (l : Option Event) (rest : List ℕ) → drop 2 (line_values l ++ rest) ≡ rest
line_after (Some (Release k)) rest = refl
line_after (Some (Tick mark)) rest = refl
line_after None rest = refl

told_after : (x : Told) (rest : List ℕ) → drop 9 (told_values x ++ rest) ≡ rest
told_after x rest =
    ap (λ n. drop n (told_values x ++ rest)) (sym (told_length x)) ∙ drop-append_seam (told_values x) rest

-- What a box tells to some lines at once: 13 is decided, or all is told, and stands at the front of
-- the room.
pub record Telling {S : Type 0} (b : Box S) (s : S) (ls : List (Option Event)) (answer : Result (Unit {0}) Refusal) (run : S) (told : List ℕ) :
    Type 0 where
  pub refused : b.sound s ≡ false → answer ≡ Err Unsound
  pub taken : b.sound s ≡ true → answer ≡ Ok tt
  pub after : b.sound s ≡ true → run ≡ after_lines_in b s ls
  pub front : b.sound s ≡ true → take (9 * length ls) told ≡ all_values (told_all_in b s ls)

-- What 13 and then 12 refuse, said in another form.
pub doors_same : {A B : Type 0} (f : A → B) (sound enough : Bool) (x y z : A) →
    f (unless sound say x else unless enough say y else z) ≡ unless sound say f x else unless enough say f y else f z
doors_same f true true x y z = refl
doors_same f true false x y z = refl
doors_same f false enough x y z = refl

-- a text at the front of a room
abbrev fronted : List ℕ → List ℕ → List ℕ
fronted text room = text ++ drop (length text) room

module _ {S : Type 0} (b : Box S) where
  -- nine numbers for each line
  pub told_long : (s : S) (ls : List (Option Event)) → length (all_values (told_all_in b s ls)) ≡ 9 * length ls
  told_long s ls = omega (arith, values_length (told_all_in b s ls), told_all_length b s ls)

  -- which stand at the front
  pub told_front : (s : S) (ls : List (Option Event)) (room : List ℕ) →
      take (9 * length ls) (all_values (told_all_in b s ls) ++ drop (9 * length ls) room) ≡ all_values (told_all_in b s ls)
  told_front s ls room =
      take_at (all_values (told_all_in b s ls)) (drop (9 * length ls) room) (9 * length ls) (told_long s ls)

  -- so the text of the numbers is the text of the lines
  pub text_back : (s : S) (ls : List (Option Event)) →
      answer_text (length ls) (all_line_values ls) (all_values (told_all_in b s ls)) ≡ closed (answer_lines_in b s ls)
  unfolding answer_text all_line_values all_values told_all_in closed answer_lines_in
  text_back s [] = refl
  text_back s (l ∷ ls) =
      let values = all_line_values ls in
      let told = all_values (told_all_in b (after_line_in b s l) ls) in
      rw (line_first l values, line_after l values, told_back (told_in b s l) told, told_after (told_in b s l) told)
      (ap (λ t. closed_line (answer_fields l (told_in b s l)) ++ t) (text_back (after_line_in b s l) ls) ∙
      append_assoc (printed (answer_fields l (told_in b s l))) (line_feed ∷ [])
      (closed (answer_lines_in b (after_line_in b s l) ls)))

  -- That is what a box tells to many lines (specs/Many.antt), where the room holds it.
  module _ (s : S) (values told : List ℕ) (fits : 9 * length (lines_said values) ≤ length told) (many : Many S)
      (now : List ℕ)
      (m : record { many = many; room = now } ≡ many_in b s values told) where
    all_told : b.sound s ≡ true → record { many = many; room = now } ≡ taken_in b s (lines_said values) told
    unfolding many_in
    all_told q = m ∙ rw (q, le-leb (9 * length (lines_said values)) (length told) fits)

    pub many_told : Telling b s (lines_said values) many.answer many.run now
    unfolding many_in
    many_told =
        let ls = lines_said values in
        record {
          refused = λ q. ap (λ (x : LentIn S). x.many.answer) m ∙ rw q;
          taken = λ q. ap (λ (x : LentIn S). x.many.answer) (all_told q);
          after = λ q. ap (λ (x : LentIn S). x.many.run) (all_told q);
          front = λ q. ap (λ (x : LentIn S). take (9 * length ls) x.room) (all_told q) ∙ told_front s ls told;
        }

  -- A box that answered is sound.
  module _ (s : S) (ls : List (Option Event)) (answer : Result (Unit {0}) Refusal) (run : S) (told : List ℕ)
      (t : Telling b s ls answer run told) where
    pub told_sound : answer ≡ Ok tt → b.sound s ≡ true
    told_sound e = go (cases_Bool (b.sound s))
      where
        go : (b.sound s ≡ true) ⊎ (b.sound s ≡ false) → b.sound s ≡ true
        go (inl q) = q
        go (inr q) = absurd (clash (is_taken answer) (ap is_taken e) (ap is_taken (t.refused q)))

    pub told_unsound : is_taken answer ≡ false → b.sound s ≡ false
    told_unsound e = go (cases_Bool (b.sound s))
      where
        go : (b.sound s ≡ true) ⊎ (b.sound s ≡ false) → b.sound s ≡ false
        go (inl q) = absurd (clash (is_taken answer) (ap is_taken (t.taken q)) e)
        go (inr q) = q

  -- What it tells, printed.
  printed_all : (s : S) (ls : List (Option Event)) (room : List ℕ) → longest_answer * length ls ≤ length room →
      print_of (all_line_values ls) (all_values (told_all_in b s ls)) room
      ≡ printed_first (length ls) (all_line_values ls) (all_values (told_all_in b s ls)) room
  unfolding longest_answer answer_text
  printed_all s [] room h =
      sym
      (print_none (all_line_values []) (all_values (told_all_in b s [])) room
      (omega (arith, line_values_length [], told_long s [])))
  printed_all s (l ∷ ls) room h =
      let values = all_line_values (l ∷ ls) in
      let told = all_values (told_all_in b s (l ∷ ls)) in
      let n : min (min (length values / 2) (length told / 9)) (length room / 140) ≡ length (l ∷ ls) =
      omega (arith, line_values_length (l ∷ ls), told_long s (l ∷ ls)) in
      sym (print_long values told room (omega arith)) ∙ ap (λ k. printed_first k values told room) n

  pub printed_text : (s : S) (values told room : List ℕ) → Fit values (length room) →
      told ≡ all_values (told_all_in b s (lines_said values)) → (p : Printed) (left : List ℕ) →
      record { printed = p; room = left } ≡ print_of values told room →
      (p.put ≡ length (closed (answer_lines_in b s (lines_said values)))) ×
      (left ≡ fronted (closed (answer_lines_in b s (lines_said values))) room)
  printed_text s values told room f e p left q =
      let ls = lines_said values in
      let a : record { printed = p; room = left } ≡ printed_first (length ls) (all_line_values ls)
      (all_values (told_all_in b s ls)) room =
      q ∙ ap (λ v. print_of v told room) f.said ∙ ap (λ t. print_of (all_line_values ls) t room) e ∙
      printed_all s ls room f.fits in (
        ap (λ (x : PrintedInto). x.printed.put) a ∙ ap length (text_back s ls),
        ap (λ (x : PrintedInto). x.room) a ∙ ap (λ t. fronted t room) (text_back s ls),
      )

  -- What is handed back of lines that were cut.
  module _ (s : S) (h : Held) (c : Cut) (ls : List (Option Event)) (room : List ℕ) where
    pub cut_unsound : b.sound s ≡ false → unserved Unsound s h room ≡ answered_cut b s h c ls room
    unfolding answered_cut
    cut_unsound q = rw q

    pub cut_refused : b.sound s ≡ true → is_taken c.answer ≡ false →
        unserved RoomShort s h room ≡ answered_cut b s h c ls room
    unfolding answered_cut
    cut_refused q e = rw (q, e)

    pub cut_answered : b.sound s ≡ true → c.answer ≡ Ok tt → (run : S) (put : ℕ) (left : List ℕ) →
        run ≡ after_lines_in b s ls →
        put ≡ length (closed (answer_lines_in b s ls)) →
        left ≡ fronted (closed (answer_lines_in b s ls)) room →
        ◌≡◌ {A = Service S}
        (record { answer = Ok tt; run = run; held = c.held; eaten = c.eaten; put = put; room = left })
        (answered_cut b s h c ls room)
    unfolding answered_cut
    cut_answered q e run put left a p d = rw (q, e, a, p, d)

-- The lines that are cut from a buffer, at most as many as their answers have room.
module _ (h : Held) (bytes lent : List ℕ) (room : ℕ) (long : length lent ≡ 2 * lines_at_once room) (c : Cut)
    (left more : List ℕ)
    (e : record { cut = c; room = left } ≡ cut_of h bytes lent) where
  abbrev whole : Cutting
  whole = cutting (lines_at_once room) (line_in h) bytes

  same_test : leb 2 (length lent) ≡ leb longest_answer room
  unfolding longest_answer batch
  same_test = go (le_or_lt longest_answer room)
    where
      go : (longest_answer ≤ room) ⊎ (room < longest_answer) → leb 2 (length lent) ≡ leb longest_answer room
      go (inl l) = le-leb 2 (length lent) (omega (arith, long)) ∙ sym (le-leb longest_answer room l)
      go (inr l) = lt-leb 2 (length lent) (omega (arith, long)) ∙ sym (lt-leb longest_answer room l)

  cut_taken : (leb longest_answer room || is_nil bytes) ≡ true → record { cut = c; room = left } ≡ cut_done whole lent
  unfolding cut_of cut_first
  cut_taken q =
      let half : length lent / 2 ≡ lines_at_once room = omega (arith, long) in
      e ∙ rw (same_test, q, half)

  cut_short : (leb longest_answer room || is_nil bytes) ≡ false →
      ◌≡◌ {A = CutInto} (record { cut = c; room = left })
      (record { cut = record { answer = Err RoomShort; held = h; eaten = 0; many = 0 }; room = lent })
  unfolding cut_of
  cut_short q = e ∙ rw (same_test, q)

  -- the numbers of the lines stand at the front
  cut_front : (leb longest_answer room || is_nil bytes) ≡ true → take (2 * c.many) (left ++ more) ≡ all_line_values
      whole.lines
  cut_front q =
      let t = cut_taken q in
      let values = all_line_values whole.lines in
      let n : c.many ≡ length whole.lines = ap (λ (x : CutInto). x.cut.many) t in
      let few = cut_few (lines_at_once room) (line_in h) bytes in
      let k : 0 + length values ≤ length lent = omega (arith, line_values_length whole.lines, long, few) in
      let s : left ≡ values ++ drop (0 + length values) lent = ap (λ (x : CutInto). x.room) t ∙
      sets-eq values lent 0 k in
      rw (s, append_assoc values (drop (0 + length values) lent) more)
      (take_at values (drop (0 + length values) lent ++ more) (2 * c.many)
      (omega (arith, line_values_length whole.lines, n)))

  -- and there are as many
  pub cut_many : c.many ≤ lines_at_once room
  cut_many = go (cases_Bool (leb longest_answer room || is_nil bytes))
    where
      go : ((leb longest_answer room || is_nil bytes) ≡ true) ⊎ ((leb longest_answer room || is_nil bytes) ≡ false) →
          c.many ≤ lines_at_once room
      go (inl q) =
          omega (arith, ap (λ (x : CutInto). x.cut.many) (cut_taken q), cut_few (lines_at_once room) (line_in h) bytes)
      go (inr q) = omega (arith, ap (λ (x : CutInto). x.cut.many) (cut_short q))

  abbrev said : List (Option Event)
  said = lines_said (take (2 * c.many) (left ++ more))

  said_taken : (leb longest_answer room || is_nil bytes) ≡ true → said ≡ whole.lines
  said_taken q = ap lines_said (cut_front q) ∙ lines_back whole.lines

  none_cut : (leb longest_answer room || is_nil bytes) ≡ false → c.many ≡ 0
  none_cut q = ap (λ (x : CutInto). x.cut.many) (cut_short q)

  pub cut_fits : Fit (take (2 * c.many) (left ++ more)) room
  unfolding longest_answer all_line_values lines_said
  cut_fits = go (cases_Bool (leb longest_answer room || is_nil bytes))
    where
      go : ((leb longest_answer room || is_nil bytes) ≡ true) ⊎ ((leb longest_answer room || is_nil bytes) ≡ false) →
          Fit (take (2 * c.many) (left ++ more)) room
      go (inl q) =
          let few = cut_few (lines_at_once room) (line_in h) bytes in
          record {
            said = rw (said_taken q) (cut_front q);
            few = rw (said_taken q) (omega (arith, few));
            fits = rw (said_taken q) (omega (arith, few));
          }
      go (inr q) =
          let z : 2 * c.many ≡ 0 = omega (arith, none_cut q) in
          rw z (record { said = refl; few = omega arith; fits = omega arith })

  pub cut_served : {S : Type 0} (b : Box S) (s : S) (answers : List ℕ) → length answers ≡ room →
      answered_cut b s h c said answers ≡ serve_in b s h bytes answers
  unfolding answered_cut serve_in
  cut_served b s answers a = go (cases_Bool (leb longest_answer room || is_nil bytes))
    where
      go : ((leb longest_answer room || is_nil bytes) ≡ true) ⊎ ((leb longest_answer room || is_nil bytes) ≡ false) →
          answered_cut b s h c said answers ≡ serve_in b s h bytes answers
      go (inl q) =
          let t : c ≡ (cut_done whole lent).cut = ap (λ (x : CutInto). x.cut) (cut_taken q) in
          rw (a, q, said_taken q, t)
      go (inr q) =
          let t : is_taken c.answer ≡ false = ap (λ (x : CutInto). is_taken x.cut.answer) (cut_short q) in
          rw (a, q, t)
