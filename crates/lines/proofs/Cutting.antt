-- An event file may be cut anywhere: its lines are the same. A line is closed at the first line
-- feed, so the loop that looks for line feeds finds what the definition says byte by byte. Assumes
-- nothing.
use Rattle.std.proofs.lemmas.Bool.{or_parts}
use Rattle.std.specs.Prelude.{if◌then◌else◌, if◌then◌else◌, Err, None, Ok, Option, Some}
use mathlib.Core.Path.{◌≡◌, refl, sym, ap, ◌∙◌}
use mathlib.Core.Bool.{Bool, true, false, ◌||◌}
use mathlib.Core.List.{List, [], ◌∷◌, ◌++◌, append_assoc, append-nil}
use mathlib.Core.Logic.{◌↔◌}
use Prim.Native.Nat.{ℕ, zero, suc, ◌+◌, ◌*◌, ◌-◌, ◌/◌, ◌≤◌, ◌<◌}
use native.Mathlib.Omega.{arith}
use lib.Dec.{leb, eqb}
use native.Mathlib.Nat.{zero-add}
use native.Mathlib.Numerals.{add-one}
use lib.ListN.{length, get_or, take, drop, set, length-drop}
use lib.Seq.{sets, sets-eq, length-sets, take_all, take-length, drop-drop, drop-append_seam}
use borrow.Author.Tests.{le-leb, lt-leb, leb-false}
use borrow.Rule.Slice.PartMut.{put_mid}
use Rattle.laws.proofs.Choice.{clash, if_ind}
use Rattle.decimal.specs.Lines.{line_feed, to_first, split, index_of, slice}
use Rattle.decimal.proofs.Room.{sets_append}
use Rattle.table.specs.declared.Refusal.TheVariants.{RoomShort}
use Rattle.text.specs.Standing.{is_nil}
use Rattle.events.specs.declared.Event.TheVariants.{Release, Tick}
use Rattle.events.specs.Values.{line_values, all_line_values}
use Rattle.events.specs.Answers.{taking_number}
use Rattle.events.proofs.Values.{line_length, line_values_length}
use Rattle.lines.specs.declared.Held.{Held}
use Rattle.lines.specs.EventLine.{event_line, closed_lines, event_lines}
use Rattle.lines.specs.HeldLine.{line_in, held_of}
use Rattle.lines.specs.Cutting.{lines_in, left_in, last_line, taken_for, Cutting}
use Rattle.lines.specs.Cutting.{cutting, CutInto, cut_first, cut_of}
use Rattle.lines.proofs.HeldLine.{alike_says, alike_more, none_held}
use Rattle.events.specs.declared.Event.{Event}

-- one byte: a line feed, or another
lines_at : (l : List ℕ) (b : ℕ) (bs : List ℕ) → eqb b line_feed ≡ true → lines_in l (b ∷ bs) ≡ event_line l ∷ lines_in [] bs
unfolding lines_in
lines_at l b bs e = rw e

lines_on : (l : List ℕ) (b : ℕ) (bs : List ℕ) → eqb b line_feed ≡ false → lines_in l (b ∷ bs) ≡ lines_in (l ++ (b ∷ [])) bs
unfolding lines_in
lines_on l b bs e = rw e

left_at : (l : List ℕ) (b : ℕ) (bs : List ℕ) → eqb b line_feed ≡ true → left_in l (b ∷ bs) ≡ left_in [] bs
unfolding left_in
left_at l b bs e = rw e

left_on : (l : List ℕ) (b : ℕ) (bs : List ℕ) → eqb b line_feed ≡ false → left_in l (b ∷ bs) ≡ left_in (l ++ (b ∷ [])) bs
unfolding left_in
left_on l b bs e = rw e

-- the cutting of the file into pieces does not show
pub lines_append : (l xs ys : List ℕ) → lines_in l (xs ++ ys) ≡ lines_in l xs ++ lines_in (left_in l xs) ys
unfolding lines_in left_in
lines_append l [] ys = refl
lines_append l (b ∷ xs) ys = go (eqb b line_feed) refl (lines_append [] xs ys) (lines_append (l ++ (b ∷ [])) xs ys)
  where
    go : (t : Bool) → eqb b line_feed ≡ t → lines_in [] (xs ++ ys) ≡ lines_in [] xs ++ lines_in (left_in [] xs) ys →
        lines_in (l ++ (b ∷ [])) (xs ++ ys) ≡ lines_in (l ++ (b ∷ [])) xs ++ lines_in (left_in (l ++ (b ∷ [])) xs) ys →
        lines_in l (b ∷ (xs ++ ys)) ≡ lines_in l (b ∷ xs) ++ lines_in (left_in l (b ∷ xs)) ys
    go true e h k =
        rw (lines_at l b (xs ++ ys) e, lines_at l b xs e, left_at l b xs e) (ap (λ x. event_line l ∷ x) h)
    go false e h k = rw (lines_on l b (xs ++ ys) e, lines_on l b xs e, left_on l b xs e) k

pub left_append : (l xs ys : List ℕ) → left_in l (xs ++ ys) ≡ left_in (left_in l xs) ys
unfolding left_in
left_append l [] ys = refl
left_append l (b ∷ xs) ys = go (eqb b line_feed) refl (left_append [] xs ys) (left_append (l ++ (b ∷ [])) xs ys)
  where
    go : (t : Bool) → eqb b line_feed ≡ t → left_in [] (xs ++ ys) ≡ left_in (left_in [] xs) ys →
        left_in (l ++ (b ∷ [])) (xs ++ ys) ≡ left_in (left_in (l ++ (b ∷ [])) xs) ys →
        left_in l (b ∷ (xs ++ ys)) ≡ left_in (left_in l (b ∷ xs)) ys
    go true e h k = rw (left_at l b (xs ++ ys) e, left_at l b xs e) h
    go false e h k = rw (left_on l b (xs ++ ys) e, left_on l b xs e) k

-- Lines that are held alike are cut alike.
pub alike_lines : (l m bs : List ℕ) → held_of l ≡ held_of m → lines_in l bs ≡ lines_in m bs
unfolding lines_in
alike_lines l m [] h = refl
alike_lines l m (b ∷ bs) h = go (eqb b line_feed) refl
    (alike_lines (l ++ (b ∷ [])) (m ++ (b ∷ [])) bs (alike_more l m (b ∷ []) h))
  where
    go : (t : Bool) → eqb b line_feed ≡ t → lines_in (l ++ (b ∷ [])) bs ≡ lines_in (m ++ (b ∷ [])) bs →
        lines_in l (b ∷ bs) ≡ lines_in m (b ∷ bs)
    go true e k = rw (lines_at l b bs e, lines_at m b bs e, alike_says l m h)
    go false e k = rw (lines_on l b bs e, lines_on m b bs e) k

pub alike_left : (l m bs : List ℕ) → held_of l ≡ held_of m → held_of (left_in l bs) ≡ held_of (left_in m bs)
unfolding left_in
alike_left l m [] h = h
alike_left l m (b ∷ bs) h = go (eqb b line_feed) refl
    (alike_left (l ++ (b ∷ [])) (m ++ (b ∷ [])) bs (alike_more l m (b ∷ []) h))
  where
    go : (t : Bool) → eqb b line_feed ≡ t → held_of (left_in (l ++ (b ∷ [])) bs) ≡ held_of (left_in (m ++ (b ∷ [])) bs) →
        held_of (left_in l (b ∷ bs)) ≡ held_of (left_in m (b ∷ bs))
    go true e k = rw (left_at l b bs e, left_at m b bs e)
    go false e k = rw (left_on l b bs e, left_on m b bs e) k

-- One byte more is taken.
abbrev with_line : Option Event → ℕ → Cutting → Cutting
with_line x n c = record { lines = x ∷ c.lines; left = c.left; eaten = n + c.eaten }

cut_at : (n : ℕ) (l : List ℕ) (b : ℕ) (bs : List ℕ) → eqb b line_feed ≡ true →
    cutting (suc n) l (b ∷ bs) ≡ with_line (event_line l) 1 (cutting n [] bs)
unfolding cutting taken_for
cut_at n l b bs e =
    let some = take (taken_for n bs) bs in
    let one : suc (taken_for n bs) ≡ 1 + taken_for n bs = omega arith in
    rw (e, lines_at l b some e, left_at l b some e, one)

cut_on : (n : ℕ) (l : List ℕ) (b : ℕ) (bs : List ℕ) → eqb b line_feed ≡ false → (c : Cutting) →
    cutting (suc n) (l ++ (b ∷ [])) bs ≡ c →
    cutting (suc n) l (b ∷ bs) ≡ record { lines = c.lines; left = c.left; eaten = suc c.eaten }
unfolding cutting taken_for
cut_on n l b bs e c h =
    let some = take (taken_for (suc n) bs) bs in
    rw (e, lines_on l b some e, left_on l b some e)
    (ap (λ (x : Cutting). record { lines = x.lines; left = x.left; eaten = suc x.eaten }) h)

-- no room for a line, or no byte: nothing is taken
cut_none : (l bs : List ℕ) → cutting 0 l bs ≡ record { lines = []; left = l; eaten = 0 }
unfolding cutting taken_for lines_in left_in
cut_none l bs = refl

pub cut_nothing : (n : ℕ) (l : List ℕ) → cutting n l [] ≡ record { lines = []; left = l; eaten = 0 }
unfolding cutting taken_for lines_in left_in
cut_nothing zero l = refl
cut_nothing (suc n) l = refl

-- no line feed: all of it belongs to the line that is not closed yet
cut_rest : (n : ℕ) (l bs : List ℕ) → length bs ≤ index_of line_feed bs →
    cutting (suc n) l bs ≡ record { lines = []; left = l ++ bs; eaten = length bs }
unfolding index_of
cut_rest n l [] h = cut_nothing (suc n) l ∙ rw (append-nil l)
cut_rest n l (b ∷ bs) h = go (eqb b line_feed) refl h (cut_rest n (l ++ (b ∷ [])) bs)
  where
    go : (t : Bool) → eqb b line_feed ≡ t → length (b ∷ bs) ≤ index_of line_feed (b ∷ bs) →
        (length bs ≤ index_of line_feed bs →
        cutting (suc n) (l ++ (b ∷ [])) bs ≡ record { lines = []; left = (l ++ (b ∷ [])) ++ bs; eaten = length bs }) →
        cutting (suc n) l (b ∷ bs) ≡ record { lines = []; left = l ++ (b ∷ bs); eaten = length (b ∷ bs) }
    go true e k ih = absurd (omega (arith, rw (e, index_of) at k))
    go false e k ih =
        cut_on n l b bs e (record { lines = []; left = (l ++ (b ∷ [])) ++ bs; eaten = length bs })
        (ih (omega (arith, rw (e, index_of) at k))) ∙
        rw (append_assoc l (b ∷ []) bs)

-- a line feed: the line before it is closed
cut_line : (n : ℕ) (l bs : List ℕ) → index_of line_feed bs < length bs →
    cutting (suc n) l bs
    ≡ with_line (event_line (l ++ take (index_of line_feed bs) bs)) (suc (index_of line_feed bs))
    (cutting n [] (drop (suc (index_of line_feed bs)) bs))
unfolding index_of
cut_line n l [] h = absurd (omega arith)
cut_line n l (b ∷ bs) h = go (eqb b line_feed) refl h (cut_line n (l ++ (b ∷ [])) bs)
  where
    go : (t : Bool) → eqb b line_feed ≡ t → index_of line_feed (b ∷ bs) < length (b ∷ bs) →
        (index_of line_feed bs < length bs →
        cutting (suc n) (l ++ (b ∷ [])) bs
        ≡ with_line (event_line ((l ++ (b ∷ [])) ++ take (index_of line_feed bs) bs)) (suc (index_of line_feed bs))
        (cutting n [] (drop (suc (index_of line_feed bs)) bs))) →
        cutting (suc n) l (b ∷ bs)
        ≡ with_line (event_line (l ++ take (index_of line_feed (b ∷ bs)) (b ∷ bs))) (suc (index_of line_feed (b ∷ bs)))
        (cutting n [] (drop (suc (index_of line_feed (b ∷ bs))) (b ∷ bs)))
    go true e k ih = cut_at n l b bs e ∙ rw (e, index_of, append-nil l)
    go false e k ih =
        let j = index_of line_feed bs in
        let c = cutting n [] (drop (suc j) bs) in
        let s : suc (suc j + c.eaten) ≡ suc (suc j) + c.eaten = omega arith in
        cut_on n l b bs e (with_line (event_line ((l ++ (b ∷ [])) ++ take j bs)) (suc j) c)
        (ih (omega (arith, rw (e, index_of) at k))) ∙
        rw (e, index_of, append_assoc l (b ∷ []) (take j bs), s)

-- no more bytes are taken than there are
pub taken_within : (k : ℕ) (bs : List ℕ) → taken_for k bs ≤ length bs
unfolding taken_for
taken_within zero bs = omega arith
taken_within (suc k) [] = omega arith
taken_within (suc k) (b ∷ bs) =
    if_ind (λ m. suc m ≤ suc (length bs)) (eqb b line_feed) (λ e. omega (arith, taken_within k bs))
    (λ e. omega (arith, taken_within (suc k) bs))

-- at most as many lines as there is room for
pub cut_few : (n : ℕ) (l bs : List ℕ) → length (cutting n l bs).lines ≤ n
cut_few zero l bs = omega (arith, ap (λ (c : Cutting). length c.lines) (cut_none l bs))
cut_few (suc n) l [] = omega (arith, ap (λ (c : Cutting). length c.lines) (cut_nothing (suc n) l))
cut_few (suc n) l (b ∷ bs) = go (eqb b line_feed) refl (cut_few n [] bs) (cut_few (suc n) (l ++ (b ∷ [])) bs)
  where
    go : (t : Bool) → eqb b line_feed ≡ t → length (cutting n [] bs).lines ≤ n →
        length (cutting (suc n) (l ++ (b ∷ [])) bs).lines ≤ suc n → length (cutting (suc n) l (b ∷ bs)).lines ≤ suc n
    go true e h k = rw (cut_at n l b bs e) (omega arith)
    go false e h k = rw (cut_on n l b bs e (cutting (suc n) (l ++ (b ∷ [])) bs) refl) k

-- As `decimal::find` answers: e is the first line feed from a place on, or the end.
abbrev Finds : List ℕ → ℕ → ℕ → Type 0
Finds l from e = e ≡ from + index_of line_feed (slice from (length l) l)

there : (l : List ℕ) (from e : ℕ) → Finds l from e → e ≡ from + index_of line_feed (drop from l)
unfolding slice
there l from e h = rw (take-length l) at h

-- After `at` bytes of the input, which closed so many lines: what is cut in all is what stands, and
-- what is cut from the rest.
abbrev rest : ℕ → Held → List ℕ → ℕ → ℕ → Cutting
rest most k input at many = cutting (most - many) (line_in k) (drop at input)

pub record Going (h : Held) (input room : List ℕ) (k : Held) (left : List ℕ) (at many : ℕ) : Type 0 where
  pub within : at ≤ length input
  pub few : many ≤ length room / 2
  pub same : length left ≡ length room
  pub cut : (cutting (length room / 2) (line_in h) input).left ≡ (rest (length room / 2) k input at many).left
  pub eaten : (cutting (length room / 2) (line_in h) input).eaten ≡ at + (rest (length room / 2) k input at many).eaten
  pub closed : length (cutting (length room / 2) (line_in h) input).lines
      ≡ many + length (rest (length room / 2) k input at many).lines
  pub leaves : sets room 0 (all_line_values (cutting (length room / 2) (line_in h) input).lines)
      ≡ sets left (2 * many) (all_line_values (rest (length room / 2) k input at many).lines)

pub going_start : (h : Held) (input room : List ℕ) → Going h input room h room 0 0
going_start h input room =
    let e : length room / 2 - 0 ≡ length room / 2 = omega arith in
    record {
      within = omega arith;
      few = omega arith;
      same = refl;
      cut = rw e;
      eaten = rw e (omega arith);
      closed = rw e (omega arith);
      leaves = rw e;
    }

-- a part of a room copied over, as it is stored number by number
pub copied : (room part : List ℕ) (at k : ℕ) → k ≡ length part → at + k ≤ length room →
    put_mid at k room part ≡ sets room at part
copied room part at k e h =
    sym (sets-eq part room at (omega arith) ∙ rw (← e, drop-drop k at room, append_assoc (take at room) part (drop (at + k) room)))

-- the two numbers of a line, stored
pub stored : (d : List ℕ) (at : ℕ) (v : List ℕ) (x : Option Event) → v ≡ line_values x →
    set (set d at (get_or v 0 0)) (at + 1) (get_or v 1 0) ≡ sets d at (line_values x)
stored d at v (Some (Release k)) e = rw (e, add-one at)
stored d at v (Some (Tick mark)) e = rw (e, add-one at)
stored d at v None e = rw (e, add-one at)

module _ (h : Held) (input room : List ℕ) (k : Held) (left : List ℕ) (at many : ℕ)
    (g : Going h input room k left at many) where
  abbrev most : ℕ
  most = length room / 2

  -- a line feed at e: the line before it is put, and nothing is held
  next : (e : ℕ) → Finds input at e → e < length input → many < most →
      rest most k input at many
      ≡ with_line (event_line (line_in k ++ take (e - at) (drop at input))) (suc (e - at))
      (rest most (held_of []) input (e + 1) (many + 1))
  next e f l m = go (index_of line_feed (drop at input)) refl (there input at e f)
    where
      go : (i : ℕ) → i ≡ index_of line_feed (drop at input) → e ≡ at + i →
          rest most k input at many
          ≡ with_line (event_line (line_in k ++ take (e - at) (drop at input))) (suc (e - at))
          (rest most (held_of []) input (e + 1) (many + 1))
      go i q r =
          let s : e - at ≡ i = omega arith in
          let t : e + 1 ≡ at + suc i = omega arith in
          let u : most - many ≡ suc (most - (many + 1)) = omega arith in
          rw (s, t, u, none_held, ← drop-drop (suc i) at input, q)
          (cut_line (most - (many + 1)) (line_in k) (drop at input) (omega (arith, length-drop at input)))

  pub going_line : (e : ℕ) (k' : Held) (left' : List ℕ) → Finds input at e → e < length input → many < most → at ≤ e →
      k' ≡ held_of [] →
      left' ≡ sets left (2 * many) (line_values (event_line (line_in k ++ take (e - at) (drop at input)))) →
      Going h input room k' left' (e + 1) (many + 1)
  unfolding all_line_values
  going_line e k' left' f l m b q w =
      let n = next e f l m in
      let x = event_line (line_in k ++ take (e - at) (drop at input)) in
      let c = rest most (held_of []) input (e + 1) (many + 1) in
      let two : 2 * many + length (line_values x) ≡ 2 * (many + 1) = omega (arith, line_length x) in
      rw q
      (record {
        within = omega arith;
        few = omega arith;
        same = ap length w ∙ length-sets left (2 * many) (line_values x) ∙ g.same;
        cut = g.cut ∙ ap (λ z. z.left) n;
        eaten = omega (arith, g.eaten, ap (λ (z : Cutting). z.eaten) n);
        closed = omega (arith, g.closed, ap (λ (z : Cutting). length z.lines) n);
        leaves =
            g.leaves ∙ ap (λ z. sets left (2 * many) (all_line_values z.lines)) n ∙
            sets_append left (2 * many) (line_values x) (all_line_values c.lines) ∙
            rw (two, ← w);
      })

  -- what is handed back
  done : (c : Cutting) → rest most k input at many ≡ c → c.lines ≡ [] → (held : Held) (eaten : ℕ) → held ≡ held_of
      c.left →
      eaten ≡ at + c.eaten →
      ◌≡◌ {A = CutInto} (record { cut = record { answer = Ok tt; held = held; eaten = eaten; many = many }; room = left }) (cut_first h input room)
  unfolding cut_first all_line_values
  done c q none held eaten a b =
      let z = cutting most (line_in h) input in
      let p : z.left ≡ c.left = g.cut ∙ ap (λ x. x.left) q in
      let r : z.eaten ≡ eaten = g.eaten ∙ ap (λ (x : Cutting). at + x.eaten) q ∙ sym b in
      let n : c.lines ≡ [] = none in
      let s : length z.lines ≡ many =
      omega (arith, g.closed, ap (λ (x : Cutting). length x.lines) q, ap length none) in
      let w : sets room 0 (all_line_values z.lines) ≡ left =
      g.leaves ∙ ap (λ (x : Cutting). sets left (2 * many) (all_line_values x.lines)) q ∙ rw none in
      rw (r, s, w, p, a)

  -- no line feed in the rest
  pub going_rest : (e : ℕ) (held : Held) → Finds input at e → length input ≤ e → e ≤ length input → many < most →
      held ≡ held_of (line_in k ++ take (length input - at) (drop at input)) →
      ◌≡◌ {A = CutInto} (record { cut = record { answer = Ok tt; held = held; eaten = e; many = many }; room = left }) (cut_first h input room)
  going_rest e held f l b m q =
      let u : most - many ≡ suc (most - (many + 1)) = omega arith in
      let d = drop at input in
      done (record { lines = []; left = line_in k ++ d; eaten = length d })
      (rw u (cut_rest (most - (many + 1)) (line_in k) d (omega (arith, there input at e f, length-drop at input))))
      refl
      held
      e
      (q ∙ rw (take_all (length input - at) d (omega (arith, length-drop at input))))
      (omega (arith, length-drop at input, g.within))

  -- no room for one more line
  pub going_full : (held : Held) → most ≤ many → held ≡ held_of (line_in k ++ []) →
      ◌≡◌ {A = CutInto} (record { cut = record { answer = Ok tt; held = held; eaten = at; many = most }; room = left }) (cut_first h input room)
  going_full held m q =
      let u : most - many ≡ 0 = omega arith in
      let e : most ≡ many = omega (arith, g.few) in
      ap (λ n. record { cut = record { answer = Ok tt; held = held; eaten = at; many = n }; room = left }) e
      ∙ done (record { lines = []; left = line_in k; eaten = 0 })
      (rw u (cut_none (line_in k) (drop at input)))
      refl
      held
      at
      (q ∙ rw (append-nil (line_in k)))
      (omega arith)

-- at the door: no byte, no room, and the rest
pub cut_empty : (h : Held) (bytes room : List ℕ) → length bytes ≡ 0 → (held : Held) → held ≡ held_of
    (line_in h ++ bytes) →
    ◌≡◌ {A = CutInto} (record { cut = record { answer = Ok tt; held = held; eaten = 0; many = 0 }; room = room })
    (cut_of h bytes room)
unfolding cut_of cut_first all_line_values
cut_empty h (b ∷ bytes) room e held q = absurd (omega arith)
cut_empty h [] room e held q = go (leb 2 (length room))
  where
    go : (t : Bool) →
        ◌≡◌ {A = CutInto}
        (record { cut = record { answer = Ok tt; held = held; eaten = 0; many = 0 }; room = room })
        (if t || true then cut_first h [] room
        else record { cut = record { answer = Err RoomShort; held = h; eaten = 0; many = 0 }; room = room })
    go true = rw (cut_nothing (length room / 2) (line_in h), q, append-nil (line_in h))
    go false = rw (cut_nothing (length room / 2) (line_in h), q, append-nil (line_in h))

pub cut_short : (h : Held) (bytes room : List ℕ) → (length bytes ≡ 0 → ⊥) → length room < 2 →
    ◌≡◌ {A = CutInto} (record { cut = record { answer = Err RoomShort; held = h; eaten = 0; many = 0 }; room = room }) (cut_of h bytes room)
unfolding cut_of
cut_short h [] room e l = absurd (e refl)
cut_short h (b ∷ bytes) room e l = rw (lt-leb 2 (length room) l)

pub cut_long : (h : Held) (bytes room : List ℕ) → 2 ≤ length room → cut_first h bytes room ≡ cut_of h bytes room
unfolding cut_of
cut_long h bytes room l = rw (le-leb 2 (length room) l)

-- 12, "lent room shorter than the text", exactly where a byte is there to take and no line has
-- room; then the room is as it was, and never is a place changed beyond the lines.
some_byte : (bytes : List ℕ) → is_nil bytes ≡ false → 1 ≤ length bytes
some_byte [] e = absurd (clash true refl e)
some_byte (b ∷ bytes) e = omega arith

module _ (h : Held) (bytes room : List ℕ) where
  abbrev uncut : CutInto
  uncut =
      record { cut = record { answer = Err RoomShort; held = h; eaten = 0; many = 0 }; room = room }

  abbrev Short : Type 0
  Short = (1 ≤ length bytes) × (length room < 2)

  door : (P : CutInto → Type 0) → (Short → P uncut) → P (cut_first h bytes room) → P (cut_of h bytes room)
  unfolding cut_of
  door P short long =
      if_ind P (leb 2 (length room) || is_nil bytes) (λ e. long)
      (λ e.
      let f = or_parts (leb 2 (length room)) (is_nil bytes) e in
      short (some_byte bytes f.1, leb-false 2 (length room) f.0))

  pub cut_12 : (taking_number (cut_of h bytes room).cut.answer ≡ 12) ↔ Short
  unfolding cut_first
  cut_12 = (
    door (λ c. taking_number c.cut.answer ≡ 12 → Short) (λ p e. p) (λ e. absurd (omega arith)),
    λ p.
        let e = cut_short h bytes room (λ z. omega (arith, p.0)) p.1 in
        ap (λ c. taking_number c.cut.answer) (sym e),
  )

  pub cut_0 : (taking_number (cut_of h bytes room).cut.answer ≡ 0) ↔ (Short → ⊥)
  unfolding cut_first
  cut_0 = (
    λ e p. let q = cut_12.1 p in omega arith,
    λ n. door (λ c. taking_number c.cut.answer ≡ 0) (λ p. absurd (n p)) refl,
  )

  abbrev AsItWas : CutInto → Type 0
  AsItWas c = (c.room ≡ room) × (c.cut.held ≡ h) × (c.cut.eaten ≡ 0)

  pub cut_as_it_was : (taking_number (cut_of h bytes room).cut.answer ≡ 0 → ⊥) →
      AsItWas (cut_of h bytes room)
  unfolding cut_first
  cut_as_it_was =
      door (λ c. (taking_number c.cut.answer ≡ 0 → ⊥) → AsItWas c) (λ p n. (refl, refl, refl))
      (λ n. absurd (n refl))

  pub cut_beyond : drop (2 * (cut_of h bytes room).cut.many) (cut_of h bytes room).room ≡
      drop (2 * (cut_of h bytes room).cut.many) room
  unfolding cut_first
  cut_beyond =
      let n = length room / 2 in
      let ls = (cutting n (line_in h) bytes).lines in
      let v = all_line_values ls in
      let e = line_values_length ls in
      let q : sets room 0 v ≡ v ++ drop (0 + length v) room =
      sets-eq v room 0 (omega (arith, cut_few n (line_in h) bytes)) in
      door (λ c. drop (2 * c.cut.many) c.room ≡ drop (2 * c.cut.many) room) (λ p. refl)
      (rw (← e, q, zero-add (length v)) (drop-append_seam v (drop (length v) room)))

-- The lines of a whole file: those that it closes, and an unclosed last one.
-- the parts of a text before which h stands
prefixed : List ℕ → List (List ℕ) → List (List ℕ)
prefixed h [] = h ∷ []
prefixed h (p ∷ ps) = (h ++ p) ∷ ps

some_part : (b : ℕ) (xs : List ℕ) → (p : List ℕ) × (ps : List (List ℕ)) × (split b xs ≡ p ∷ ps)
unfolding split
some_part b [] = ([], [], refl)
some_part b (x ∷ xs) = go (eqb x b) refl (some_part b xs)
  where
    go : (t : Bool) → eqb x b ≡ t → (p : List ℕ) × (ps : List (List ℕ)) × (split b xs ≡ p ∷ ps) →
        (p : List ℕ) × (ps : List (List ℕ)) × (split b (x ∷ xs) ≡ p ∷ ps)
    go true e ih = ([], split b xs, rw (e, split))
    go false e ih = (x ∷ ih.0, ih.1, rw (e, split) (ap (to_first x) ih.2))

before_nothing : (b : ℕ) (xs : List ℕ) → prefixed [] (split b xs) ≡ split b xs
unfolding prefixed
before_nothing b xs = let s = some_part b xs in rw s.2

split_at : (b : ℕ) (bs : List ℕ) → eqb b line_feed ≡ true → split line_feed (b ∷ bs) ≡ [] ∷ split line_feed bs
unfolding split
split_at b bs e = rw (e, split)

split_on : (b : ℕ) (bs : List ℕ) → eqb b line_feed ≡ false → split line_feed (b ∷ bs) ≡ to_first b (split line_feed bs)
unfolding split
split_on b bs e = rw (e, split)

parts_closed : (h : List ℕ) (b : ℕ) (bs : List ℕ) → eqb b line_feed ≡ true →
    prefixed h (split line_feed (b ∷ bs)) ≡ h ∷ split line_feed bs
unfolding prefixed
parts_closed h b bs e = rw (split_at b bs e, append-nil h)

parts_held : (h : List ℕ) (b : ℕ) (bs : List ℕ) → eqb b line_feed ≡ false →
    prefixed h (split line_feed (b ∷ bs)) ≡ prefixed (h ++ (b ∷ [])) (split line_feed bs)
unfolding prefixed
parts_held h b bs e =
    let s = some_part line_feed bs in
    rw (split_on b bs e, s.2, append_assoc h (b ∷ []) s.0)

lines_closed : (h bs : List ℕ) → closed_lines (h ∷ split line_feed bs) ≡ event_line h ∷ closed_lines (split line_feed bs)
unfolding closed_lines
lines_closed h bs = let s = some_part line_feed bs in rw s.2

file_from : (l bs : List ℕ) → lines_in l bs ++ last_line (left_in l bs) ≡ closed_lines (prefixed l (split line_feed bs))
unfolding lines_in left_in split prefixed closed_lines
file_from [] [] = refl
file_from (b ∷ l) [] = refl
file_from l (b ∷ bs) = go (eqb b line_feed) refl (file_from [] bs) (file_from (l ++ (b ∷ [])) bs)
  where
    go : (t : Bool) → eqb b line_feed ≡ t →
        lines_in [] bs ++ last_line (left_in [] bs) ≡ closed_lines (prefixed [] (split line_feed bs)) →
        lines_in (l ++ (b ∷ [])) bs ++ last_line (left_in (l ++ (b ∷ [])) bs) ≡ closed_lines
        (prefixed (l ++ (b ∷ [])) (split line_feed bs)) →
        lines_in l (b ∷ bs) ++ last_line (left_in l (b ∷ bs)) ≡ closed_lines (prefixed l (split line_feed (b ∷ bs)))
    go true e h k =
        rw (lines_at l b bs e, left_at l b bs e, parts_closed l b bs e, lines_closed l bs, ← before_nothing line_feed bs)
        (ap (λ x. event_line l ∷ x) h)
    go false e h k = rw (lines_on l b bs e, left_on l b bs e, parts_held l b bs e) k

pub file_lines : (text : List ℕ) → lines_in [] text ++ last_line (left_in [] text) ≡ event_lines text
unfolding event_lines
file_lines text = rw (before_nothing line_feed text) at (file_from [] text)
