-- Where text is cut: a part ends before the first byte b from its place on, or with the text where
-- there is none; every loop over lines and over fields goes from a place to the next by these laws.
-- Cutting and joining are inverse: parts that lack the parting byte come back from the text in
-- which it parts them, and a text comes back from its parts. Assumes nothing.
use Rattle.std.proofs.Common.{◌≡◌, ℕ, zero, suc, ◌+◌, ◌-◌, ◌*◌, ◌<◌, ◌≤◌, Bool, true, false, not, ◌&&◌, eqb, leb, List, [], ◌∷◌, ◌++◌, length, get_or, take, drop, sym, refl, ap, ◌∙◌, append_assoc, add-one, arith, length-append, length-drop, drop_of_length-le, drop-cons, drop-drop, eq-eqb, ne_eqb, eqb-true, le-leb, leb-true}
use lib.Seq.{take-length}
use lib.Pointwise.{pointwise}
use borrow.Author.Tests.{not-true}
use Rattle.std.proofs.lemmas.Bool.{and_from}
use Rattle.std.specs.Cmp.{first_so, second_so}
use Rattle.laws.proofs.Choice.{clash, within_low}
use Rattle.laws.specs.Choice.{within}
use Rattle.decimal.proofs.Numbers.{are_digits_lem, number_is_digits}
use Rattle.decimal.specs.Lines.{to_first, split, line_feed, join, closed, same, index_of, slice}
use Rattle.decimal.specs.Number.{are_digits, is_number, digits}

-- the first b of a list
pub index_cut : (b : ℕ) (l : List ℕ) → index_of b l < length l →
    split b l ≡ take (index_of b l) l ∷ split b (drop (suc (index_of b l)) l)
unfolding index_of split
index_cut b [] h = absurd (omega arith)
index_cut b (x ∷ xs) h = go (eqb x b) refl h (index_cut b xs)
  where
    go : (t : Bool) → eqb x b ≡ t → index_of b (x ∷ xs) < length (x ∷ xs) →
        (index_of b xs < length xs → split b xs ≡ take (index_of b xs) xs ∷ split b (drop (suc (index_of b xs)) xs)) →
        split b (x ∷ xs) ≡ take (index_of b (x ∷ xs)) (x ∷ xs) ∷ split b (drop (suc (index_of b (x ∷ xs))) (x ∷ xs))
    go true e l ih = rw (e, split, index_of)
    go false e l ih = rw (e, split, index_of) (rw (ih (omega (arith, rw (e, index_of) at l))))

pub index_last : (b : ℕ) (l : List ℕ) → length l ≤ index_of b l → split b l ≡ l ∷ []
unfolding index_of split
index_last b [] h = refl
index_last b (x ∷ xs) h = go (eqb x b) refl h (index_last b xs)
  where
    go : (t : Bool) → eqb x b ≡ t → length (x ∷ xs) ≤ index_of b (x ∷ xs) →
        (length xs ≤ index_of b xs → split b xs ≡ xs ∷ []) → split b (x ∷ xs) ≡ (x ∷ xs) ∷ []
    go true e l ih = absurd (omega (arith, rw (e, index_of) at l))
    go false e l ih = rw (e, split, index_of) (rw (ih (omega (arith, rw (e, index_of) at l))))

-- there is always a part
pub split_some : (b : ℕ) (l : List ℕ) → 0 < length (split b l)
unfolding split
split_some b [] = omega arith
split_some b (x ∷ xs) = go (eqb x b) refl
  where
    first : (ps : List (List ℕ)) → 0 < length (to_first x ps)
    first [] = omega arith
    first (p ∷ ps) = omega arith

    go : (t : Bool) → eqb x b ≡ t → 0 < length (split b (x ∷ xs))
    go true e = rw (e, split) (omega arith)
    go false e = rw (e, split) (first (split b xs))

-- A search for b from a place on answers e: as `find` does.
abbrev pub Finds : ℕ → List ℕ → ℕ → ℕ → Type 0
Finds b l from e = e ≡ from + index_of b (slice from (length l) l)

there : (b : ℕ) (l : List ℕ) (from e : ℕ) → Finds b l from e → e ≡ from + index_of b (drop from l)
unfolding slice
there b l from e h = rw (take-length l) at h

-- it finds b: the part that begins at `from` ends before it, and the next begins after it
pub cut_at : (b : ℕ) (l : List ℕ) (from e : ℕ) → Finds b l from e → e < length l →
    split b (drop from l) ≡ take (e - from) (drop from l) ∷ split b (drop (e + 1) l)
cut_at b l from e h k = go (index_of b (drop from l)) refl (there b l from e h)
  where
    go : (i : ℕ) → i ≡ index_of b (drop from l) → e ≡ from + i →
        split b (drop from l) ≡ take (e - from) (drop from l) ∷ split b (drop (e + 1) l)
    go i q r =
        let s : e - from ≡ i = omega arith in
        let t : e + 1 ≡ from + suc i = omega arith in
        rw (s, t, ← drop-drop (suc i) from l, q) (index_cut b (drop from l) (omega (arith, length-drop from l)))

-- it finds none: the part is the last
pub last_at_lem : (b : ℕ) (l : List ℕ) (from e : ℕ) → Finds b l from e → from ≤ length l → length l ≤ e →
    split b (drop from l) ≡ drop from l ∷ []
last_at_lem b l from e h g k =
    index_last b (drop from l) (omega (arith, length-drop from l, there b l from e h))

-- no byte is b
unfoldable pub lacks : ℕ → List ℕ → Bool
lacks b [] = true
lacks b (x ∷ xs) = not (eqb x b) && lacks b xs

unfoldable pub all_lack : ℕ → List (List ℕ) → Bool
all_lack b [] = true
all_lack b (p ∷ ps) = lacks b p && all_lack b ps

-- every byte is at least `0`, so none is a tab or a line feed
unfoldable pub high : List ℕ → Bool
high [] = true
high (x ∷ xs) = leb 48 x && high xs

unfoldable pub all_high : List (List ℕ) → Bool
all_high [] = true
all_high (p ∷ ps) = high p && all_high ps

-- one step of the definition
pub split_here : (b x : ℕ) (xs : List ℕ) → eqb x b ≡ true → split b (x ∷ xs) ≡ [] ∷ split b xs
unfolding split
split_here b x xs e = rw (e, split)

pub split_on : (b x : ℕ) (xs : List ℕ) → eqb x b ≡ false → split b (x ∷ xs) ≡ to_first x (split b xs)
unfolding split
split_on b x xs e = rw (e, split)

-- a text that begins with a part
pub split_part : (b : ℕ) (p r : List ℕ) → lacks b p ≡ true → split b (p ++ (b ∷ r)) ≡ p ∷ split b r
unfolding lacks
split_part b [] r h = split_here b b r (eq-eqb b b refl)
split_part b (x ∷ p) r h =
    split_on b x (p ++ (b ∷ r)) (not-true (eqb x b) (first_so (not (eqb x b)) (lacks b p) h)) ∙
    ap (to_first x) (split_part b p r (second_so (not (eqb x b)) (lacks b p) h))

pub split_whole : (b : ℕ) (p : List ℕ) → lacks b p ≡ true → split b p ≡ p ∷ []
unfolding lacks split
split_whole b [] h = refl
split_whole b (x ∷ p) h =
    split_on b x p (not-true (eqb x b) (first_so (not (eqb x b)) (lacks b p) h)) ∙
    ap (to_first x) (split_whole b p (second_so (not (eqb x b)) (lacks b p) h))

pub split_joined : (b : ℕ) (ps : List (List ℕ)) → 0 < length ps → all_lack b ps ≡ true → split b (join b ps) ≡ ps
unfolding join all_lack
split_joined b [] h a = absurd (omega arith)
split_joined b (p ∷ []) h a = split_whole b p (first_so (lacks b p) true a)
split_joined b (p ∷ (q ∷ ps)) h a =
    split_part b p (join b (q ∷ ps)) (first_so (lacks b p) (all_lack b (q ∷ ps)) a) ∙
    ap (λ r. p ∷ r) (split_joined b (q ∷ ps) (omega arith) (second_so (lacks b p) (all_lack b (q ∷ ps)) a))

join_none : (b : ℕ) (ps : List (List ℕ)) → 0 < length ps → join b ([] ∷ ps) ≡ b ∷ join b ps
unfolding join
join_none b [] h = absurd (omega arith)
join_none b (p ∷ ps) h = refl

join_first : (b x : ℕ) (ps : List (List ℕ)) → 0 < length ps → join b (to_first x ps) ≡ x ∷ join b ps
unfolding join
join_first b x [] h = absurd (omega arith)
join_first b x (p ∷ []) h = refl
join_first b x (p ∷ (q ∷ ps)) h = refl

pub join_split : (b : ℕ) (l : List ℕ) → join b (split b l) ≡ l
unfolding join split
join_split b [] = refl
join_split b (x ∷ l) = go (eqb x b) refl (join_split b l)
  where
    go : (t : Bool) → eqb x b ≡ t → join b (split b l) ≡ l → join b (split b (x ∷ l)) ≡ x ∷ l
    go true e ih = rw (split_here b x l e, join_none b (split b l) (split_some b l), ih, eqb-true x b e)
    go false e ih = rw (split_on b x l e, join_first b x (split b l) (split_some b l), ih)

-- closed lines, and the empty part after the last line feed
pub split_closed : (ls : List (List ℕ)) → all_lack line_feed ls ≡ true → split line_feed (closed ls) ≡ ls ++ ([] ∷ [])
unfolding closed all_lack split
split_closed [] a = refl
split_closed (l ∷ ls) a =
    split_part line_feed l (closed ls) (first_so (lacks line_feed l) (all_lack line_feed ls) a) ∙
    ap (λ r. l ∷ r) (split_closed ls (second_so (lacks line_feed l) (all_lack line_feed ls) a))

pub closed_append : (ks ls : List (List ℕ)) → closed (ks ++ ls) ≡ closed ks ++ closed ls
unfolding closed
closed_append [] ls = refl
closed_append (k ∷ ks) ls =
    rw (closed_append ks ls) (sym (append_assoc k (line_feed ∷ closed ks) (closed ls)))

join_closed : (ls : List (List ℕ)) → join line_feed (ls ++ ([] ∷ [])) ≡ closed ls
unfolding closed join
join_closed [] = refl
join_closed (l ∷ []) = refl
join_closed (l ∷ (m ∷ ms)) = ap (λ r. l ++ (line_feed ∷ r)) (join_closed (m ∷ ms))

pub closed_split : (t : List ℕ) (ls : List (List ℕ)) → split line_feed t ≡ ls ++ ([] ∷ []) → closed ls ≡ t
closed_split t ls e = sym (join_closed ls) ∙ ap (join line_feed) (sym e) ∙ join_split line_feed t

pub high_at : (bs : List ℕ) (j : ℕ) → high bs ≡ true → j < length bs → 48 ≤ get_or bs j 0
unfolding high
high_at [] j e h = absurd (omega arith)
high_at (b ∷ bs) zero e h = leb-true 48 b (first_so (leb 48 b) (high bs) e)
high_at (b ∷ bs) (suc j) e h = high_at bs j (second_so (leb 48 b) (high bs) e) (omega arith)

-- what is high lacks a tab and a line feed
pub high_lacks : (c : ℕ) (bs : List ℕ) → c < 48 → high bs ≡ true → lacks c bs ≡ true
unfolding high lacks
high_lacks c [] h e = refl
high_lacks c (b ∷ bs) h e =
    let l : 48 ≤ b = leb-true 48 b (first_so (leb 48 b) (high bs) e) in
    rw (ne_eqb b c (λ q. omega arith)) (high_lacks c bs h (second_so (leb 48 b) (high bs) e))

pub all_high_lack : (c : ℕ) (ps : List (List ℕ)) → c < 48 → all_high ps ≡ true → all_lack c ps ≡ true
unfolding all_high all_lack
all_high_lack c [] h e = refl
all_high_lack c (p ∷ ps) h e =
    and_from
    (lacks c p)
    (all_lack c ps)
    (high_lacks c p h (first_so (high p) (all_high ps) e))
    (all_high_lack c ps h (second_so (high p) (all_high ps) e))

digits_are_high : (bs : List ℕ) → are_digits bs ≡ true → high bs ≡ true
unfolding are_digits high
digits_are_high [] e = refl
digits_are_high (b ∷ bs) e =
    and_from
    (leb 48 b)
    (high bs)
    (le-leb 48 b (within_low 48 57 b (first_so (within 48 57 b) (are_digits bs) e)))
    (digits_are_high bs (second_so (within 48 57 b) (are_digits bs) e))

pub high_digits : (n : ℕ) → high (digits n) ≡ true
high_digits n = digits_are_high (digits n) (are_digits_lem n)

-- so a number is one field
pub number_lacks : (c : ℕ) (bs : List ℕ) → c < 48 → is_number bs ≡ true → lacks c bs ≡ true
number_lacks c bs h e = high_lacks c bs h (digits_are_high bs (number_is_digits bs e))

lacks_append : (c : ℕ) (xs ys : List ℕ) → lacks c xs ≡ true → lacks c ys ≡ true → lacks c (xs ++ ys) ≡ true
unfolding lacks
lacks_append c [] ys p q = q
lacks_append c (x ∷ xs) ys p q =
    and_from
    (not (eqb x c))
    (lacks c (xs ++ ys))
    (first_so (not (eqb x c)) (lacks c xs) p)
    (lacks_append c xs ys (second_so (not (eqb x c)) (lacks c xs) p) q)

-- so does a line of fields that lack it, if another byte parts them
pub join_lacks : (c b : ℕ) (ps : List (List ℕ)) → eqb b c ≡ false → all_lack c ps ≡ true → lacks c (join b ps) ≡ true
unfolding join all_lack lacks
join_lacks c b [] h a = refl
join_lacks c b (p ∷ []) h a = first_so (lacks c p) true a
join_lacks c b (p ∷ (q ∷ ps)) h a =
    lacks_append
    c
    p
    (b ∷ join b (q ∷ ps))
    (first_so (lacks c p) (all_lack c (q ∷ ps)) a)
    (rw h (join_lacks c b (q ∷ ps) h (second_so (lacks c p) (all_lack c (q ∷ ps)) a)))

-- how long a text is of which no part is longer than m
abbrev pub AllUpTo : ℕ → List (List ℕ) → Type 0
AllUpTo m [] = Unit {0}
AllUpTo m (p ∷ ps) = (length p ≤ m) × AllUpTo m ps

pub join_length : (b m : ℕ) (ps : List (List ℕ)) → AllUpTo m ps → length (join b ps) ≤ length ps * (m + 1)
unfolding join
join_length b m [] a = omega arith
join_length b m (p ∷ []) a = omega (arith, a.0)
join_length b m (p ∷ (q ∷ ps)) a =
    rw (length-append p (b ∷ join b (q ∷ ps))) (omega (arith, a.0, join_length b m (q ∷ ps) a.1))

pub closed_length : (m : ℕ) (ls : List (List ℕ)) → AllUpTo m ls → length (closed ls) ≤ length ls * (m + 1)
unfolding closed
closed_length m [] a = omega arith
closed_length m (l ∷ ls) a =
    rw (length-append l (line_feed ∷ closed ls)) (omega (arith, a.0, closed_length m ls a.1))

-- equal byte by byte
pub same_eq : (v w : List ℕ) → same v w ≡ true → v ≡ w
unfolding same
same_eq [] [] e = refl
same_eq [] (y ∷ w) e = absurd (clash false e refl)
same_eq (x ∷ v) [] e = absurd (clash false e refl)
same_eq (x ∷ v) (y ∷ w) e =
    rw (eqb-true x y (first_so (eqb x y) (same v w) e), same_eq v w (second_so (eqb x y) (same v w) e))

pub same_self : (v : List ℕ) → same v v ≡ true
unfolding same
same_self [] = refl
same_self (x ∷ v) = rw (eq-eqb x x refl) (same_self v)

pub same_long : (a b : List ℕ) → (length a ≡ length b → ⊥) → same a b ≡ false
unfolding same
same_long [] [] h = absurd (h refl)
same_long [] (y ∷ ys) h = refl
same_long (x ∷ xs) [] h = refl
same_long (x ∷ xs) (y ∷ ys) h = go (eqb x y) (same_long xs ys (λ e. h (ap suc e)))
  where
    go : (t : Bool) → same xs ys ≡ false → (t && same xs ys) ≡ false
    go true e = e
    go false e = refl

-- and as std compares two slices
pub same_is : (a b : List ℕ) → pointwise eqb a b ≡ same a b
unfolding same
same_is [] [] = refl
same_is [] (y ∷ ys) = refl
same_is (x ∷ xs) [] = refl
same_is (x ∷ xs) (y ∷ ys) = ap (λ t. eqb x y && t) (same_is xs ys)

-- A search finds the byte at the place where it begins, or goes on from the next place.
pub find_here : (b : ℕ) (l : List ℕ) (i : ℕ) → i < length l → get_or l i 0 ≡ b →
    index_of b (slice i (length l) l) ≡ 0
unfolding slice index_of
find_here b l i h e = rw (take-length l, drop-cons l i 0 h, eq-eqb (get_or l i 0) b e, index_of)

pub find_on : (b : ℕ) (l : List ℕ) (i : ℕ) → i < length l → (get_or l i 0 ≡ b → ⊥) →
    index_of b (slice i (length l) l) ≡ suc (index_of b (slice (i + 1) (length l) l))
unfolding slice index_of
find_on b l i h n = rw (take-length l, drop-cons l i 0 h, ne_eqb (get_or l i 0) b n, index_of, add-one i)

-- and at the end it finds none
pub find_none : (b : ℕ) (l : List ℕ) (i : ℕ) → length l ≤ i → index_of b (slice i (length l) l) ≡ 0
unfolding slice index_of
find_none b l i h = rw (take-length l, drop_of_length-le l h)
