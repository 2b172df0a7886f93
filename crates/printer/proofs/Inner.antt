-- An answer line stored field by field is the line: what one call leaves, the next goes on from.
-- Assumes nothing.
use mathlib.Core.Path.{◌≡◌, refl, ap, ◌∙◌}
use mathlib.Core.List.{List, [], ◌∷◌, ◌++◌, append_assoc}
use Prim.Native.Nat.{ℕ, ◌+◌, ◌≤◌, ◌<◌, ◌^◌}
use native.Mathlib.Omega.{arith}
use native.Mathlib.Nat.{add_assoc, zero-add}
use native.Mathlib.Numerals.{add-one}
use lib.ListN.{length, get_or, take, drop, set, length-append}
use lib.Seq.{sets, sets-eq, take-suc, take_at, length-take-le}
use Rattle.decimal.specs.Number.{digits}
use Rattle.decimal.specs.Lines.{tab, line_feed, join}
use Rattle.decimal.proofs.Numbers.{digits_length}
use Rattle.decimal.proofs.Room.{sets_append}
use Rattle.lines.specs.AnswerLine.{closed_line}
use Rattle.printer.specs.Inner.{RoomAt, stored, fields_stored, rest_stored, line_stored, number_field, Stores}

-- a loop over bytes: one byte more
pub store_next : (d : List ℕ) (at : ℕ) (xs : List ℕ) (i : ℕ) → i < length xs →
    set (sets d at (take i xs)) (at + i) (get_or xs i 0) ≡ sets d at (take (i + 1) xs)
store_next d at xs i h =
    rw (
      add-one i,
      take-suc xs i 0 h,
      sets_append d at (take i xs) (get_or xs i 0 ∷ []),
      length-take-le i xs (omega arith),
    )

-- one text after another
pub stored_more : (xs ys : List ℕ) (p : RoomAt) → stored ys (stored xs p) ≡ stored (xs ++ ys) p
stored_more xs ys p =
    rw (sets_append p.room p.at xs ys, length-append xs ys, add_assoc p.at (length xs) (length ys))

-- two fields may be taken for one
join_two : (f g : List ℕ) (fs : List (List ℕ)) → join tab ((f ++ (tab ∷ g)) ∷ fs) ≡ join tab (f ∷ (g ∷ fs))
unfolding join
join_two f g [] = refl
join_two f g (h ∷ fs) = append_assoc f (tab ∷ g) (tab ∷ join tab (h ∷ fs))

-- a line, field by field
line_from : (fs : List (List ℕ)) (f : List ℕ) (p : RoomAt) → line_stored (f ∷ fs) p ≡ stored (closed_line (f ∷ fs)) p
unfolding join
line_from [] f p = stored_more f (line_feed ∷ []) p
line_from (g ∷ fs) f p =
    ap (λ q. stored (line_feed ∷ []) (fields_stored fs q)) (stored_more f (tab ∷ g) p)
    ∙ line_from fs (f ++ (tab ∷ g)) p
    ∙ ap (λ l. stored (l ++ (line_feed ∷ [])) p) (join_two f g fs)

pub line_stored_lem : (fs : List (List ℕ)) (p : RoomAt) → line_stored fs p ≡ stored (closed_line fs) p
unfolding join
line_stored_lem [] p = refl
line_stored_lem (f ∷ fs) p = line_from fs f p

fields_more : (xs ys : List (List ℕ)) (p : RoomAt) → fields_stored ys (fields_stored xs p) ≡ fields_stored (xs ++ ys) p
fields_more [] ys p = refl
fields_more (x ∷ xs) ys p = fields_more xs ys (stored (tab ∷ x) p)

-- a text at the front of a room that holds it
pub front : (text room : List ℕ) → length text ≤ length room → sets room 0 text ≡ text ++ drop (length text) room
front text room h = sets-eq text room 0 (omega arith) ∙ rw (zero-add (length text))

-- a line at the front of a room
pub line_front : (fs : List (List ℕ)) {m : ℕ} {room left : List ℕ} {n : ℕ} → Stores (line_stored fs) m room 0 left n →
    m ≤ length room → take n left ≡ closed_line fs
line_front fs {m} {room} {left} {n} p h =
    let t = closed_line fs in
    let e = p.leaves ∙ line_stored_lem fs (record { room = room; at = 0 }) in
    let k : n ≡ 0 + length t = ap (λ q. q.at) e in
    ap (take n) (ap (λ q. q.room) e ∙ front t room (omega (arith, p.short)))
    ∙ take_at t (drop (length t) room) n (omega arith)

module _ {f : RoomAt → RoomAt} {m : ℕ} {room : List ℕ} {at : ℕ} {left : List ℕ} {next : ℕ} where
  -- at most as many bytes as anything more
  pub at_most : {n : ℕ} → Stores f m room at left next → m ≤ n → Stores f n room at left next
  at_most p h = record { leaves = p.leaves; short = omega (arith, p.short) }

  -- one call after another
  pub then : {g : RoomAt → RoomAt} {n : ℕ} {z : List ℕ} {r : ℕ} → Stores f m room at left next →
      Stores g n left next z r → Stores (λ p. g (f p)) (m + n) room at z r
  then {g} p q = record { leaves = q.leaves ∙ ap g p.leaves; short = omega (arith, p.short, q.short) }

-- fields with the rest of the line after them, texts, and a number after a tab
module _ {room : List ℕ} {at : ℕ} {left : List ℕ} {next : ℕ} where
  pub rest_then : (xs ys : List (List ℕ)) {m n : ℕ} {z : List ℕ} {r : ℕ} →
      Stores (fields_stored xs) m room at left next → Stores (rest_stored ys) n left next z r →
      Stores (rest_stored (xs ++ ys)) (m + n) room at z r
  rest_then xs ys p q =
      let t = then p q in
      record {
        leaves = t.leaves ∙ ap (stored (line_feed ∷ [])) (fields_more xs ys (record { room = room; at = at }));
        short = t.short;
      }

  pub text_then : (xs ys : List ℕ) {m n : ℕ} {z : List ℕ} {r : ℕ} → Stores (stored xs) m room at left next →
      Stores (stored ys) n left next z r → Stores (stored (xs ++ ys)) (m + n) room at z r
  text_then xs ys p q =
      let t = then p q in
      record { leaves = t.leaves ∙ stored_more xs ys (record { room = room; at = at }); short = t.short }

  pub field_stored : (n : ℕ) {xs : List ℕ} {z : List ℕ} {r : ℕ} → n < 2 ^ 64 → xs ≡ digits n →
      Stores (stored (tab ∷ [])) 1 room at left next → Stores (stored xs) (length xs) left next z r →
      Stores (fields_stored (digits n ∷ [])) number_field room at z r
  field_stored n {xs} h e p q =
      let s : length xs ≤ 20 = rw e (digits_length n 19 (omega arith)) in
      rw e at (at_most {n = number_field} (text_then (tab ∷ []) xs p q) (omega arith))
