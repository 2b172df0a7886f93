-- Many event lines at once: what is told to some lines and then to others, one line after the
-- other; a sound run stays sound over them. Assumes nothing.
use Rattle.std.proofs.Common.{None, Option, Some}
use mathlib.Core.Path.{◌≡◌, refl, ap, subst, ◌∙◌}
use mathlib.Core.Bool.{Bool, true, false, ◌&&◌}
use mathlib.Core.List.{List, [], ◌∷◌}
use mathlib.Core.Logic.{◌↔◌, ◌⊎◌, inl, inr}
use Prim.Native.Nat.{ℕ, ◌*◌, ◌≤◌, ◌<◌}
use native.Mathlib.Omega.{arith}
use lib.Dec.{leb}
use lib.ListN.{length, get_or, drop}
use lib.Seq.{drop-append_seam, drop_at}
use borrow.Author.Tests.{leb-true, leb-false, le-leb, lt-leb}
use Rattle.laws.specs.Choice.{unless◌say◌else◌}
use Rattle.std.specs.Cmp.{first_so, second_so}
use Rattle.laws.proofs.Choice.{if_ind}
use Rattle.table.specs.declared.Refusal.TheVariants.{RoomShort, Unsound}
use Rattle.run.specs.declared.Run.{Run}
use Rattle.events.specs.declared.Answer.{Answer}
use Rattle.events.specs.declared.Answer.TheVariants.{Released as AnswerReleased, Ticked as AnswerTicked}
use Rattle.events.specs.declared.Answer.TheVariants.{No as AnswerNo}
use Rattle.events.specs.declared.Answered.{Answered}
use Rattle.events.specs.declared.Event.{Event}
use Rattle.events.specs.declared.Event.TheVariants.{Release, Tick}
use Rattle.events.specs.declared.Told.{Told}
use Rattle.events.specs.declared.Told.TheVariants.{No, Released, Ticked}
use Rattle.run.specs.Sound.{sound}
use Rattle.run.specs.Events.{the_box}
use Rattle.run.specs.Tick.{settle, tick_of}
use Rattle.run.specs.Found.{TakenTick, tick_taken_so, taken_by, all_found, all_told}
use Rattle.events.specs.Values.{told_of, lines_said, told_at}
use Rattle.run.specs.Many.{ticks_at, ticks_among, LentBoth, unfound, taken_finding, find_of}
use Rattle.run.specs.Many.{told_to, told_to_all, after_lines, Lent, untaken, taken, many_of}
use Rattle.events.specs.Values.{all_values}
use Rattle.events.specs.Answers.{taking_number}
use Rattle.events.proofs.Values.{values_length, values_at}
use Rattle.events.proofs.Boxes.{told_all_length, lines_keep as lines-keep-in}
use Rattle.run.proofs.Found.{all_found_length, all_told_length}
use Rattle.run.proofs.Shape.{RunShaped, event_run_shaped}
use Rattle.run.proofs.Kept.{event_keeps}
use Rattle.events.proofs.Answers.{Given}
use Rattle.run.proofs.Taken.{release_ind}

-- A tick is told to a line exactly if one is taken there.
abbrev pub TickTold : Told → List TakenTick → Type 0
TickTold (No number) ms = ms ≡ []
TickTold (Released k) ms = ms ≡ []
TickTold (Ticked a) ms = (m : TakenTick) × (ms ≡ m ∷ []) × (m.answer ≡ a)

pub tick_told : (r : Run) (l : Option Event) → TickTold (told_to r l) (ticks_at r l)
tick_told r None = refl
tick_told r (Some (Release k)) =
    release_ind (λ (a : Answered Run). TickTold (told_of a.answer) []) r k (λ why. refl) (λ y. refl)
tick_told r (Some (Tick mark)) = go (tick_of r mark).answer
  where
    go : (a : Answer) → TickTold (told_of a) (taken_by r (Tick mark) a)
    go (AnswerReleased k) = refl
    go (AnswerTicked a) = (tick_taken_so (settle r.table r.state mark) a, refl, refl)
    go (AnswerNo why) = refl

-- A run keeps its shape over lines, and stays sound.
pub lines_keep : (r : Run) (ls : List (Option Event)) → RunShaped r → sound r ≡ true →
    RunShaped (after_lines r ls) × (sound (after_lines r ls) ≡ true)
lines_keep r ls h q =
    lines-keep-in the_box (λ (r : Run). RunShaped r × (sound r ≡ true))
    (λ (r : Run) (e : Event) (p : RunShaped r × (sound r ≡ true)).
    (event_run_shaped r e p.0, event_keeps r e p.0 p.1))
    r
    ls
    (h, q)

-- 13 and 12 of many lines, each exactly in its case and 13 first; else they are taken.
door_ind : {A : Type 0} (P : A → Type 0) (r : Run) (enough : Bool) {x y z : A} → (sound r ≡ false → P x) →
    (sound r ≡ true → enough ≡ false → P y) → (sound r ≡ true → enough ≡ true → P z) →
    P (unless sound r say x else unless enough say y else z)
door_ind P r enough c13 c12 y = if_ind P (sound r) (λ e. if_ind P enough (y e) (c12 e)) c13

module _ (r : Run) (values room : List ℕ) where
  abbrev lines : List (Option Event)
  lines = lines_said values

  -- "lent room shorter than the text"
  abbrev Many12 : Type 0
  Many12 = (sound r ≡ true) × (length room < 9 * length lines)

  abbrev ManyYes : Type 0
  ManyYes = (sound r ≡ true) × (9 * length lines ≤ length room)

  abbrev pub ManyCase : ℕ → Type 0
  ManyCase = Given ((13, sound r ≡ false) ∷ (12, Many12) ∷ (0, ManyYes) ∷ [])

  many_cases : (P : Lent → Type 0) → (sound r ≡ false → P (untaken Unsound r room)) →
      (Many12 → P (untaken RoomShort r room)) → (ManyYes → P (taken r lines room)) → P (many_of r values room)
  unfolding many_of
  many_cases P c13 c12 y =
      door_ind P r (leb (9 * length lines) (length room)) c13
      (λ e f. c12 (e, leb-false (9 * length lines) (length room) f))
      (λ e f. y (e, leb-true (9 * length lines) (length room) f))

  pub many_number : ManyCase (taking_number (many_of r values room).many.answer)
  many_number = many_cases (λ (l : Lent). ManyCase (taking_number l.many.answer)) (λ e. e) (λ p. p) (λ p. p)

  pub many_13 : (taking_number (many_of r values room).many.answer ≡ 13) ↔ (sound r ≡ false)
  unfolding many_of
  many_13 = (λ e. subst ManyCase e many_number, λ p. rw p)

  pub many_12 : (taking_number (many_of r values room).many.answer ≡ 12) ↔ Many12
  unfolding many_of
  many_12 = (
    λ e. subst ManyCase e many_number,
    λ p. rw (p.0, lt-leb (9 * length lines) (length room) p.1),
  )

  pub many_taken : ManyYes → many_of r values room ≡ taken r lines room
  unfolding many_of
  many_taken p = rw (p.0, le-leb (9 * length lines) (length room) p.1)

  -- "room as it was", "it, as it was"
  pub many_as_it_was : (taking_number (many_of r values room).many.answer ≡ 0 → ⊥) →
      ((many_of r values room).many.run ≡ r) × ((many_of r values room).room ≡ room)
  many_as_it_was =
      many_cases
      (λ (l : Lent). (taking_number l.many.answer ≡ 0 → ⊥) → (l.many.run ≡ r) × (l.room ≡ room))
      (λ e n. (refl, refl))
      (λ p n. (refl, refl))
      (λ p n. absurd (n refl))

  -- "A writer changes nothing beyond the text."
  pub many-beyond :
      drop (9 * length lines) (many_of r values room).room ≡ drop (9 * length lines) room
  many-beyond =
      let n = 9 * length lines in
      let told = told_to_all r lines in
      let v = all_values told in
      let e : length v ≡ n = omega (arith, values_length told, told_all_length the_box r lines) in
      many_cases (λ (l : Lent). drop n l.room ≡ drop n room) (λ p. refl) (λ p. refl)
      (λ p. rw (← e) (drop-append_seam v (drop (length v) room)))

  -- where they are taken, the nine numbers from 9i on tell what is told to line i
  pub many_told : (i : ℕ) → ManyYes → i < length lines →
      told_at (many_of r values room).room (9 * i) ≡ get_or (told_to_all r lines) i (No 0)
  many_told i p l =
      ap (λ (x : Lent). told_at x.room (9 * i)) (many_taken p)
      ∙ values_at (told_to_all r lines) (drop (9 * length lines) room) i (omega (arith, told_all_length the_box r lines))

  pub many_keeps : RunShaped r → sound r ≡ true → sound (many_of r values room).many.run ≡ true
  many_keeps h e =
      many_cases (λ (l : Lent). sound l.many.run ≡ true) (λ f. e) (λ p. e) (λ p. (lines_keep r lines h e).1)

-- The same where of the taken ticks is handed out what is told and what is found: 12 if either room is
-- short.
module _ (r : Run) (values told found : List ℕ) where
  abbrev many : ℕ
  many = length (lines_said values)

  abbrev told_fits : Bool
  told_fits = leb (9 * many) (length told)

  abbrev found_fits : Bool
  found_fits = leb (96 * many) (length found)

  abbrev Find12 : Type 0
  Find12 = (sound r ≡ true) × ((length told < 9 * many) ⊎ (length found < 96 * many))

  abbrev FindYes : Type 0
  FindYes = (sound r ≡ true) × (9 * many ≤ length told) × (96 * many ≤ length found)

  abbrev pub FindCase : ℕ → Type 0
  FindCase = Given ((13, sound r ≡ false) ∷ (12, Find12) ∷ (0, FindYes) ∷ [])

  one_short : (told_fits && found_fits) ≡ false → (length told < 9 * many) ⊎ (length found < 96 * many)
  one_short = go told_fits refl
    where
      go : (b : Bool) → told_fits ≡ b → (b && found_fits) ≡ false →
          (length told < 9 * many) ⊎ (length found < 96 * many)
      go true e f = inr (leb-false (96 * many) (length found) f)
      go false e f = inl (leb-false (9 * many) (length told) e)

  short_one : (length told < 9 * many) ⊎ (length found < 96 * many) → (told_fits && found_fits) ≡ false
  short_one (inl h) = rw (lt-leb (9 * many) (length told) h)
  short_one (inr h) = rw (lt-leb (96 * many) (length found) h) (go told_fits)
    where
      go : (b : Bool) → (b && false) ≡ false
      go true = refl
      go false = refl

  find_cases : (P : LentBoth → Type 0) → (sound r ≡ false → P (unfound Unsound r told found)) →
      (Find12 → P (unfound RoomShort r told found)) → (FindYes → P (taken_finding r (lines_said values) told found)) →
      P (find_of r values told found)
  unfolding find_of
  find_cases P c13 c12 y =
      door_ind P r (told_fits && found_fits) c13 (λ e f. c12 (e, one_short f))
      (λ e f.
      y (
        e,
        leb-true (9 * many) (length told) (first_so told_fits found_fits f),
        leb-true (96 * many) (length found) (second_so told_fits found_fits f),
      ))

  abbrev find_number : ℕ
  find_number = taking_number (find_of r values told found).finding.answer

  pub find_number_lem : FindCase find_number
  find_number_lem =
      find_cases (λ (l : LentBoth). FindCase (taking_number l.finding.answer)) (λ e. e) (λ p. p) (λ p. p)

  pub find_13 : (find_number ≡ 13) ↔ (sound r ≡ false)
  unfolding find_of
  find_13 = (λ e. subst FindCase e find_number_lem, λ p. rw p)

  pub find_12 : (find_number ≡ 12) ↔ Find12
  unfolding find_of
  find_12 = (λ e. subst FindCase e find_number_lem, λ p. rw (p.0, short_one p.1))

  pub find_taken : FindYes → find_of r values told found ≡ taken_finding r (lines_said values) told found
  unfolding find_of
  find_taken p = rw (p.0, le-leb (9 * many) (length told) p.1, le-leb (96 * many) (length found) p.2)

  -- "room as it was", "it, as it was"
  pub find_as_it_was : (find_number ≡ 0 → ⊥) → ((find_of r values told found).finding.run ≡ r)
      × ((find_of r values told found).finding.ticks ≡ 0) × ((find_of r values told found).told ≡ told)
      × ((find_of r values told found).found ≡ found)
  find_as_it_was =
      find_cases
      (λ (l : LentBoth).
      (taking_number l.finding.answer ≡ 0 → ⊥) →
      (l.finding.run ≡ r) × (l.finding.ticks ≡ 0) × (l.told ≡ told) × (l.found ≡ found))
      (λ e n. (refl, refl, refl, refl))
      (λ p n. (refl, refl, refl, refl))
      (λ p n. absurd (n refl))

  -- "A writer changes nothing beyond the text."
  abbrev Beyond : LentBoth → Type 0
  Beyond l =
      (drop (9 * l.finding.ticks) l.told ≡ drop (9 * l.finding.ticks) told)
      × (drop (96 * l.finding.ticks) l.found ≡ drop (96 * l.finding.ticks) found)

  pub find_beyond : Beyond (find_of r values told found)
  find_beyond =
      let ms = ticks_among r (lines_said values) in
      find_cases Beyond (λ p. (refl, refl)) (λ p. (refl, refl))
      (λ p. (
        drop_at (all_told ms) (drop (9 * length ms) told) (9 * length ms) (all_told_length ms),
        drop_at (all_found r.table ms) (drop (96 * length ms) found) (96 * length ms)
            (all_found_length r.table ms),
      ))

  pub find_keeps : RunShaped r → sound r ≡ true → sound (find_of r values told found).finding.run ≡ true
  find_keeps h e =
      find_cases (λ (l : LentBoth). sound l.finding.run ≡ true) (λ f. e) (λ p. e)
      (λ p. (lines_keep r (lines_said values) h e).1)
