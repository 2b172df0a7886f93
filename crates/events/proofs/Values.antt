-- Event lines and what is told to them, as plain numbers: the numbers of a line or of what is told
-- to it say it again, at any place among others. Assumes nothing.
use Rattle.std.proofs.Common.{None, Option, Some}
use mathlib.Core.Path.{◌≡◌, refl, sym, ap, ap₂, ◌∙◌}
use mathlib.Core.Bool.{true, false}
use mathlib.Core.List.{List, [], ◌∷◌, ◌++◌, append_assoc, append-nil}
use Prim.Native.Nat.{ℕ, zero, suc, ◌+◌, ◌*◌, ◌/◌, ◌≤◌, ◌<◌}
use native.Mathlib.Omega.{arith}
use native.Mathlib.Nat.{add-zero, mul-zero}
use lib.Dec.{leb}
use lib.ListN.{length, get_or, take, drop, length-append, take-append-drop}
use lib.Seq.{get_or-drop, drop-append_seam, drop-append-add, paste, take-paste, drop-paste, length-paste, take_all, drop-drop}
use borrow.Author.Tests.{le-leb, leb-true}
use Rattle.laws.proofs.Choice.{if_ind}
use Rattle.units.specs.declared.Ticks.{Ticks}
use Rattle.table.specs.declared.Mode.{Mode}
use Rattle.table.specs.Rows.{mode_value}
use Rattle.table.proofs.Rows.{mode_back}
use Rattle.events.specs.declared.TickAnswer.{TickAnswer}
use Rattle.events.specs.declared.Turn.{Turn}
use Rattle.events.specs.declared.Turn.TheVariants.{Run as Ran, Empty, Idle}
use Rattle.events.specs.declared.Left.{Left}
use Rattle.events.specs.declared.Left.TheVariants.{Nobody, Done, Cut}
use Rattle.events.specs.declared.Event.TheVariants.{Release, Tick}
use Rattle.events.specs.declared.Told.{Told}
use Rattle.events.specs.declared.Told.TheVariants.{No, Released, Ticked}
use Rattle.events.specs.Values.{line_values, all_line_values, line_said, lines_said, told_values, told_said}
use Rattle.events.specs.Values.{turn_values, left_values, told_at, all_values, told_put}
use Rattle.events.specs.declared.Event.{Event}

-- An event line, of its two numbers.
pub line_length : (l : Option Event) → length (line_values l) ≡ 2
line_length None = refl
line_length (Some (Tick mark)) = refl
line_length (Some (Release k)) = refl

-- The numbers of some lines, and other numbers behind them.
line_past : (l : Option Event) (ys : List ℕ) → lines_said (line_values l ++ ys) ≡ l ∷ lines_said ys
unfolding lines_said
line_past None ys = refl
line_past (Some (Tick true)) ys = refl
line_past (Some (Tick false)) ys = refl
line_past (Some (Release k)) ys = refl

pub lines_past : (ls : List (Option Event)) (ys : List ℕ) → lines_said (all_line_values ls ++ ys) ≡ ls ++ lines_said ys
unfolding all_line_values
lines_past [] ys = refl
lines_past (l ∷ ls) ys =
    ap lines_said (append_assoc (line_values l) (all_line_values ls) ys)
    ∙ line_past l (all_line_values ls ++ ys)
    ∙ ap (λ (xs : List (Option Event)). l ∷ xs) (lines_past ls ys)

pub lines_back : (ls : List (Option Event)) → lines_said (all_line_values ls) ≡ ls
unfolding lines_said
lines_back ls = ap lines_said (sym (append-nil (all_line_values ls))) ∙ lines_past ls [] ∙ append-nil ls

pub line_values_length : (ls : List (Option Event)) → length (all_line_values ls) ≡ 2 * length ls
unfolding all_line_values
line_values_length [] = refl
line_values_length (l ∷ ls) =
    omega (arith, length-append (line_values l) (all_line_values ls), line_length l, line_values_length ls)

-- Some numbers say half as many lines, and line i is said by the two numbers from 2i on.
pub lines_length : (xs : List ℕ) → length (lines_said xs) ≡ length xs / 2
unfolding lines_said
lines_length [] = refl
lines_length (x ∷ []) = refl
lines_length (x ∷ (v ∷ xs)) = omega (arith, lines_length xs)

pub line_at_lem : (xs : List ℕ) (i : ℕ) → i < length (lines_said xs) →
    get_or (lines_said xs) i None ≡ line_said (get_or xs (2 * i) 0) (get_or xs (2 * i + 1) 0)
unfolding lines_said
line_at_lem [] i h = absurd (omega arith)
line_at_lem (x ∷ []) i h = absurd (omega arith)
line_at_lem (x ∷ (v ∷ xs)) zero h = refl
line_at_lem (x ∷ (v ∷ xs)) (suc i) h =
    let e : 2 * suc i ≡ suc (suc (2 * i)) = omega arith in
    let f : 2 * suc i + 1 ≡ suc (suc (2 * i + 1)) = omega arith in
    rw (f, e) (line_at_lem xs i (omega arith))

-- What is told, of its nine numbers.
abbrev ticked_of : Ticks → Mode → Turn → Left → ℕ → Told
ticked_of tick m turn left n =
    Ticked (record { tick = tick; mode = m; turn = turn; left = left; discarded = n })

-- they are nine, and tell it again
abbrev TellsAgain : Told → List ℕ → Type 0
TellsAgain x ys = (length (told_values x) ≡ 9) × (told_at (told_values x ++ ys) 0 ≡ x)

ticked_again : (tick : Ticks) (m : Mode) (turn : Turn) (left : Left) (n : ℕ) (ys : List ℕ) →
    TellsAgain (ticked_of tick m turn left n) ys
unfolding told_values told_said
ticked_again tick m Idle Nobody n ys = (refl, rw (mode_back m))
ticked_again tick m Idle (Done j) n ys = (refl, rw (mode_back m))
ticked_again tick m Idle (Cut j) n ys = (refl, rw (mode_back m))
ticked_again tick m (Empty i) Nobody n ys = (refl, rw (mode_back m))
ticked_again tick m (Empty i) (Done j) n ys = (refl, rw (mode_back m))
ticked_again tick m (Empty i) (Cut j) n ys = (refl, rw (mode_back m))
ticked_again tick m (Ran i k) Nobody n ys = (refl, rw (mode_back m))
ticked_again tick m (Ran i k) (Done j) n ys = (refl, rw (mode_back m))
ticked_again tick m (Ran i k) (Cut j) n ys = (refl, rw (mode_back m))

told_again : (x : Told) (ys : List ℕ) → TellsAgain x ys
unfolding told_values told_said
told_again (No n) ys = (refl, refl)
told_again (Released k) ys = (refl, refl)
told_again (Ticked a) ys = ticked_again a.tick a.mode a.turn a.left a.discarded ys

pub told_length : (x : Told) → length (told_values x) ≡ 9
told_length x = (told_again x []).0

pub told_back : (x : Told) (ys : List ℕ) → told_at (told_values x ++ ys) 0 ≡ x
told_back x ys = (told_again x ys).1

-- the same at any place
pub told_drop : (l : List ℕ) (n : ℕ) → told_at l n ≡ told_at (drop n l) 0
told_drop l n =
    rw (
      get_or-drop n l 0 0 ∙ ap (λ k. get_or l k 0) (add-zero n),
      get_or-drop n l 1 0,
      get_or-drop n l 2 0,
      get_or-drop n l 3 0,
      get_or-drop n l 4 0,
      get_or-drop n l 5 0,
      get_or-drop n l 6 0,
      get_or-drop n l 7 0,
      get_or-drop n l 8 0,
    )

pub told_past : (xs ys : List ℕ) (n : ℕ) → told_at (xs ++ ys) (length xs + n) ≡ told_at ys n
told_past xs ys n =
    told_drop (xs ++ ys) (length xs + n)
    ∙ ap (λ (l : List ℕ). told_at l 0) (drop-append-add xs ys n)
    ∙ sym (told_drop ys n)

pub told_at_lem : (xs : List ℕ) (x : Told) (ys : List ℕ) → told_at (xs ++ (told_values x ++ ys)) (length xs) ≡ x
told_at_lem xs x ys =
    told_drop (xs ++ (told_values x ++ ys)) (length xs)
    ∙ ap (λ (l : List ℕ). told_at l 0) (drop-append_seam xs (told_values x ++ ys))
    ∙ told_back x ys

-- All of it as numbers: nine for each line, and what is told to line i is told by the nine from 9i
-- on.
pub values_length : (xs : List Told) → length (all_values xs) ≡ 9 * length xs
unfolding all_values
values_length [] = refl
values_length (x ∷ xs) =
    omega (arith, length-append (told_values x) (all_values xs), told_length x, values_length xs)

pub values_append : (xs ys : List Told) → all_values (xs ++ ys) ≡ all_values xs ++ all_values ys
unfolding all_values
values_append [] ys = refl
values_append (x ∷ xs) ys =
    ap (λ (zs : List ℕ). told_values x ++ zs) (values_append xs ys)
    ∙ sym (append_assoc (told_values x) (all_values xs) (all_values ys))

pub values_at : (xs : List Told) (ys : List ℕ) (i : ℕ) → i < length xs →
    told_at (all_values xs ++ ys) (9 * i) ≡ get_or xs i (No 0)
unfolding all_values
values_at [] ys i h = absurd (omega arith)
values_at (x ∷ xs) ys zero h =
    ap (λ (l : List ℕ). told_at l 0) (append_assoc (told_values x) (all_values xs) ys) ∙ told_back x (all_values xs ++ ys)
values_at (x ∷ xs) ys (suc i) h =
    let e : 9 * suc i ≡ length (told_values x) + 9 * i = omega (arith, told_length x) in
    ap₂ (λ (l : List ℕ) (n : ℕ). told_at l n) (append_assoc (told_values x) (all_values xs) ys) e
    ∙ told_past (told_values x) (all_values xs ++ ys) (9 * i)
    ∙ values_at xs ys i (omega arith)

-- The numbers of a turn and of a job that left, one by one.
turn_listed : (turn : Turn) (xs : List ℕ) →
    get_or (turn_values turn) 0 0 ∷ get_or (turn_values turn) 1 0 ∷ get_or (turn_values turn) 2 0 ∷ xs ≡ turn_values turn ++ xs
turn_listed Idle xs = refl
turn_listed (Empty i) xs = refl
turn_listed (Ran i k) xs = refl

left_listed : (l : Left) (xs : List ℕ) →
    get_or (left_values l) 0 0 ∷ get_or (left_values l) 1 0 ∷ xs ≡ left_values l ++ xs
left_listed Nobody xs = refl
left_listed (Done k) xs = refl
left_listed (Cut k) xs = refl

pub told_listed : (a : TickAnswer) (m : ℕ) (ws ls : List ℕ) → m ≡ mode_value a.mode → ws ≡ turn_values a.turn →
    ls ≡ left_values a.left →
    2 ∷ a.tick.0 ∷ m ∷ get_or ws 0 0 ∷ get_or ws 1 0 ∷ get_or ws 2 0 ∷ get_or ls 0 0 ∷ get_or ls 1 0 ∷ a.discarded ∷ []
    ≡ told_values (Ticked a)
unfolding told_values
told_listed a m ws ls e f g =
    rw (e, f, g)
    (ap (λ xs. 2 ∷ a.tick.0 ∷ mode_value a.mode ∷ xs)
    (turn_listed a.turn _ ∙ ap (λ xs. turn_values a.turn ++ xs) (left_listed a.left (a.discarded ∷ []))))

-- The lines that are left, of two numbers each.
pub lines_left : (vs : List ℕ) (i : ℕ) → i < length (lines_said vs) →
    drop i (lines_said vs) ≡ line_said (get_or vs (2 * i) 0) (get_or vs (2 * i + 1) 0) ∷ drop (i + 1) (lines_said vs)
unfolding lines_said
lines_left [] i h = absurd (omega arith)
lines_left (x ∷ []) i h = absurd (omega arith)
lines_left (x ∷ (v ∷ vs)) zero h = refl
lines_left (x ∷ (v ∷ vs)) (suc i) h =
    let a : 2 * suc i ≡ suc (suc (2 * i)) = omega arith in
    let b : suc (suc (2 * i)) + 1 ≡ suc (suc (2 * i + 1)) = omega arith in
    let c : suc i + 1 ≡ suc (i + 1) = omega arith in
    rw (a, b, c) (lines_left vs i (omega arith))

-- Lists of w numbers each, put one after the other at the front of a lent room: after n of them `left`
-- is the room, and of all their numbers `rest` is still to be put.
pub record Laid (w : ℕ) (all rest room left : List ℕ) (n : ℕ) : Type 0 where
  pub put : all ≡ take (w * n) left ++ rest
  pub beyond : drop (w * n) left ≡ drop (w * n) room
  pub long : length left ≡ length room

pub laid_start : (w : ℕ) (all room : List ℕ) → Laid w all all room room 0
laid_start w all room = record { put = rw (mul-zero w); beyond = refl; long = refl }

pub laid_on : (w : ℕ) (all rest room left : List ℕ) (n : ℕ) (xs rest' left' : List ℕ) → length xs ≡ w →
    w * (n + 1) ≤ length room → rest ≡ xs ++ rest' → left' ≡ paste left (w * n) xs w → Laid w all rest room left n →
    Laid w all rest' room left' (n + 1)
laid_on w all rest room left n xs rest' left' e b q p g =
    let m : w * (n + 1) ≡ w * n + w = omega arith in
    let f : w * n ≤ length left = omega (arith, g.long) in
    let k : w ≤ length xs = omega (arith, e) in
    record {
      put =
          g.put
          ∙ rw (q, p, m, take-paste left (w * n) xs w f k, take_all w xs (omega (arith, e)))
          (sym (append_assoc (take (w * n) left) xs rest'));
      beyond =
          rw (p, m, drop-paste left (w * n) xs w f k)
          (sym (drop-drop w (w * n) left) ∙ ap (drop w) g.beyond ∙ drop-drop w (w * n) room);
      long = rw p (length-paste left (w * n) xs w (omega (arith, g.long)) k ∙ g.long);
    }

pub laid_end : (w : ℕ) (all rest room left : List ℕ) (n : ℕ) → rest ≡ [] → Laid w all rest room left n →
    left ≡ all ++ drop (w * n) room
laid_end w all rest room left n e g =
    let v : all ≡ take (w * n) left = g.put ∙ rw e (append-nil (take (w * n) left)) in
    rw (v, ← g.beyond) (sym (take-append-drop (w * n) left))

-- What is told is put where the room has nine places for it.
pub told_put_lem : (room : List ℕ) (at : ℕ) (x : Told) → at + 9 ≤ length room →
    told_put room at x ≡ paste room at (told_values x) 9
told_put_lem room at x h = rw (le-leb (at + 9) (length room) h)

pub told_put_length : (room : List ℕ) (at : ℕ) (x : Told) → length (told_put room at x) ≡ length room
told_put_length room at x =
    if_ind (λ (ys : List ℕ). length ys ≡ length room) (leb (at + 9) (length room))
    (λ e. length-paste room at (told_values x) 9 (leb-true (at + 9) (length room) e) (omega (arith, told_length x)))
    (λ e. refl)
