-- The first pair of equal priorities: what it is, that nothing else is it, and that there is none exactly where all differ.
-- Each of the two searches has one answer, and nested loops over the rows find it. Assumes nothing.
use Rattle.std.proofs.Common.{None, Option, Some, is_none}
use mathlib.Core.Path.{◌≡◌, refl, sym, ap, ◌∙◌}
use mathlib.Core.Bool.{true, not}
use mathlib.Core.Logic.{inl, inr}
use mathlib.Core.List.{List}
use Prim.Native.Nat.{ℕ, suc, ◌+◌, ◌-◌, ◌≤◌, ◌<◌}
use native.Mathlib.Omega.{arith}
use lib.Dec.{eqb}
use Rattle.std.proofs.Common.{map, slice_index}
use Rattle.std.proofs.lemmas.List.{length-map, get_or-map, get_or-drop}
use lib.Seq.{get_or-take}
use lib.ListN.{length, get_or, take, drop}
use borrow.Author.Count.{below_more}
use borrow.Author.Tests.{eqb-true, eqb-false, eq-eqb, ne_eqb}
use Rattle.laws.specs.Search.{first_of}
use Rattle.laws.specs.Rows.{all_below}
use Rattle.std.proofs.lemmas.Bool.{false_from_ne_true}
use Rattle.laws.proofs.Choice.{clash, le_or_lt}
use Rattle.laws.proofs.Search.{hit, miss, is_least, found_passes, found_first, none_passes}
use Rattle.laws.proofs.Search.{First, first, nowhere, first_at, first_none, first_is}
use Rattle.laws.proofs.Rows.{all_at, all_build}
use Rattle.table.specs.Pairs.{later_equal, first_pair, equal_rows}
use Rattle.table.specs.Rules.{differ}

-- no two rows below n are equal
abbrev pub AllDiffer : ℕ → (ℕ → ℕ) → Type 0
AllDiffer n p = (i j : ℕ) → i < j → j < n → p i ≡ p j → ⊥

-- rows i and j are equal, in this order, and no pair before them is
pub record IsFirst (n : ℕ) (p : ℕ → ℕ) (i j : ℕ) : Type 0 where
  pub ordered : i < j
  pub below : j < n
  pub equal : p i ≡ p j
  pub rows : (a b : ℕ) → a < i → a < b → b < n → p a ≡ p b → ⊥
  pub row : (b : ℕ) → i < b → b < j → p i ≡ p b → ⊥

abbrev pub Paired : ℕ → (ℕ → ℕ) → Option (ℕ × ℕ) → Type 0
Paired n p (Some (i, j)) = IsFirst n p i j
Paired n p None = AllDiffer n p

no_later : (n : ℕ) (p : ℕ → ℕ) (i : ℕ) → ((j : ℕ) → i < j → j < n → p i ≡ p j → ⊥) → later_equal n p i ≡ None
unfolding later_equal
no_later n p i h =
    sym (is_least (λ j. eqb (p i) (p j)) (suc i) (n - suc i) None (miss (λ y a b. ne_eqb (p i) (p y) (h y (omega arith) (omega arith)))))

a_later : (n : ℕ) (p : ℕ → ℕ) (i j : ℕ) → IsFirst n p i j → later_equal n p i ≡ Some j
unfolding later_equal
a_later n p i j f =
    sym
    (is_least
    (λ k. eqb (p i) (p k))
    (suc i)
    (n - suc i)
    (Some j)
    (hit
    j
    (omega (arith, f.ordered))
    (omega (arith, f.ordered, f.below))
    (eq-eqb (p i) (p j) f.equal)
    (λ y a b. ne_eqb (p i) (p y) (f.row y (omega arith) b))))

later_found : (n : ℕ) (p : ℕ → ℕ) (i j : ℕ) → later_equal n p i ≡ Some j → (i < j) × (j < n) × (p i ≡ p j)
unfolding later_equal
later_found n p i j e =
    let f = found_passes (λ k. eqb (p i) (p k)) (suc i) (n - suc i) j e in
    (omega (arith, f.1), omega (arith, f.1, f.2), eqb-true (p i) (p j) f.0)

later_first : (n : ℕ) (p : ℕ → ℕ) (i j : ℕ) → later_equal n p i ≡ Some j → (b : ℕ) → i < b → b < j → p i ≡ p b → ⊥
unfolding later_equal
later_first n p i j e b h k =
    eqb-false (p i) (p b) (found_first (λ m. eqb (p i) (p m)) (suc i) (n - suc i) j e b (omega arith) k)

later_none : (n : ℕ) (p : ℕ → ℕ) (i : ℕ) → later_equal n p i ≡ None → (j : ℕ) → i < j → j < n → p i ≡ p j → ⊥
unfolding later_equal
later_none n p i e j h k =
    eqb-false (p i) (p j) (none_passes (λ m. eqb (p i) (p m)) (suc i) (n - suc i) e j (omega arith) (omega arith))

-- what is a first pair, or none where all differ, is what the definition says
pub is_pair : (n : ℕ) (p : ℕ → ℕ) (a : Option (ℕ × ℕ)) → Paired n p a → a ≡ first_pair n p
unfolding first_pair
is_pair n p (Some (i, j)) f =
    first_at (λ i j. Some (i, j)) None (later_equal n p) n i j
    (record {
      below = omega (arith, f.ordered, f.below);
      found = a_later n p i j f;
      none_before = λ k h. no_later n p k (λ b l u. f.rows k b h l u);
    })
is_pair n p None f = first_none (λ i j. Some (i, j)) None (later_equal n p) n (λ k h. no_later n p k (f k))

-- and what the definition says is one
pub pair_is : (n : ℕ) (p : ℕ → ℕ) → Paired n p (first_pair n p)
unfolding first_pair
pair_is n p = go (first_of (λ i j. Some (i, j)) None (later_equal n p) n) (first_is (λ i j. Some (i, j)) None (later_equal n p) n)
  where
    go : (a : Option (ℕ × ℕ)) → First (λ i j. Some (i, j)) None (later_equal n p) n a → Paired n p a
    go a (first i j f) =
        let l = later_found n p i j f.found in
        record {
          ordered = l.0;
          below = l.1;
          equal = l.2;
          rows = λ k b h. later_none n p k (f.none_before k h) b;
          row = later_first n p i j f.found;
        }
    go a (nowhere f) = λ i j h k. later_none n p i (f i (omega arith)) j h k

-- the pair that is found is equal, ordered and first
pub pair_found : (n : ℕ) (p : ℕ → ℕ) (i j : ℕ) → first_pair n p ≡ Some (i, j) → IsFirst n p i j
pair_found n p i j e = rw e at (pair_is n p)

pub pair_none : (n : ℕ) (p : ℕ → ℕ) → first_pair n p ≡ None → AllDiffer n p
pair_none n p e = rw e at (pair_is n p)

-- the rule that priorities differ, by rows
pub differ_at : (n : ℕ) (p : ℕ → ℕ) → differ n p ≡ true → AllDiffer n p
unfolding differ
differ_at n p e i j h k q =
    clash
    (not (eqb (p i) (p j)))
    (all_at (λ a. not (eqb (p a) (p j))) j i (all_at (λ b. all_below b (λ a. not (eqb (p a) (p b)))) n j e k) h)
    (rw (eq-eqb (p i) (p j) q))

pub differ_build : (n : ℕ) (p : ℕ → ℕ) → AllDiffer n p → differ n p ≡ true
unfolding differ
differ_build n p f =
    all_build (λ b. all_below b (λ a. not (eqb (p a) (p b)))) n
    (λ j k. all_build (λ a. not (eqb (p a) (p j))) j (λ i h. rw (ne_eqb (p i) (p j) (f i j h k))))

-- two different rows, in either order
pub differ_rows : (n : ℕ) (p : ℕ → ℕ) → differ n p ≡ true → (i j : ℕ) → i < n → j < n → (i ≡ j → ⊥) → p i ≡ p j → ⊥
differ_rows n p e i j h k d q =
    elim (le_or_lt j i) [
      | inl a ↦ elim (le_or_lt i j) [ inl b ↦ d (omega arith) | inr b ↦ differ_at n p e j i b h (sym q) ]
      | inr a ↦ differ_at n p e i j a k q
    ]

-- priorities differ exactly where no pair is found
pub differ_pair : (n : ℕ) (p : ℕ → ℕ) → differ n p ≡ true → first_pair n p ≡ None
differ_pair n p e = sym (is_pair n p None (differ_at n p e))

pub pair_differ : (n : ℕ) (p : ℕ → ℕ) → first_pair n p ≡ None → differ n p ≡ true
pair_differ n p e = differ_build n p (pair_none n p e)

-- and so whether a pair is found tells it
pub differ_found : (n : ℕ) (p : ℕ → ℕ) → is_none (first_pair n p) ≡ differ n p
differ_found n p = go (first_pair n p) refl
  where
    go : (a : Option (ℕ × ℕ)) → first_pair n p ≡ a → is_none a ≡ differ n p
    go None e = sym (pair_differ n p e)
    go (Some (i, j)) e =
        let f = pair_found n p i j e in
        sym (false_from_ne_true (differ n p) (λ d. differ_at n p d i j f.ordered f.below f.equal))

-- A search over priorities row by row that has come to row j after row i: no pair before it is equal.
pub record Sought (ps : List ℕ) (i j : ℕ) : Type 0 where
  pub after : i < j
  pub rows : (a : ℕ) → a < i → (b : ℕ) → a < b → b < length ps → slice_index ps a ≡ slice_index ps b → ⊥
  pub row : (b : ℕ) → b < j → i < b → slice_index ps i ≡ slice_index ps b → ⊥

module _ {ps : List ℕ} where
  pub sought_next : {i j k : ℕ} → Sought ps i j → (slice_index ps i ≡ slice_index ps j → ⊥) → k ≡ j + 1 → Sought ps i k
  sought_next {i} {j} {k} s d e =
      rw e
      (record {
        after = omega (arith, s.after);
        rows = s.rows;
        row = below_more (λ b. i < b → slice_index ps i ≡ slice_index ps b → ⊥) j s.row (λ h. d);
      })

  pub sought_all : {i j : ℕ} → Sought ps i j → length ps ≤ i → None ≡ equal_rows ps
  sought_all s h = is_pair (length ps) (slice_index ps) None (λ a b k l. s.rows a (omega arith) b k l)

  pub sought_first : {i j : ℕ} → Sought ps i j → j < length ps → slice_index ps i ≡ slice_index ps j →
      Some (i, j) ≡ equal_rows ps
  sought_first {i} {j} s h e =
      is_pair (length ps) (slice_index ps) (Some (i, j))
      (record {
        ordered = s.after;
        below = h;
        equal = e;
        rows = λ a b k. s.rows a k b;
        row = λ b k l. s.row b l k;
      })

paired_cong : (n : ℕ) (p q : ℕ → ℕ) → ((i : ℕ) → i < n → p i ≡ q i) → (a : Option (ℕ × ℕ)) → Paired n p a →
    Paired n q a
paired_cong n p q e (Some (i, j)) w =
    let l = w.below in
    let k : i < n = omega (arith, w.ordered) in
    record {
      ordered = w.ordered;
      below = l;
      equal = sym (e i k) ∙ w.equal ∙ e j l;
      rows = λ a b f g h u. w.rows a b f g h (e a (omega arith) ∙ u ∙ sym (e b h));
      row = λ b f g u. w.row b f g (e i k ∙ u ∙ sym (e b (omega arith)));
    }
paired_cong n p q e None w = λ i j h k u. w i j h k (e i (omega arith) ∙ u ∙ sym (e j k))

-- the priorities in their order and those of the rows, by number, are the same
pub rows_equal : {A : Type 0} (f : A → ℕ) (d : A) (xs : List A) →
    equal_rows (map f xs) ≡ first_pair (length xs) (λ i. f (get_or xs i d))
rows_equal f d xs =
    rw (length-map xs f)
    (is_pair (length xs) (λ i. f (get_or xs i d)) _
    (paired_cong (length xs) (slice_index (map f xs)) (λ i. f (get_or xs i d)) (λ i h. get_or-map f xs i d 0 h) _
    (pair_is (length xs) (slice_index (map f xs)))))

-- a row's priority as a walk over the rows reads it, and over those after one
module _ {A : Type 0} (f : A → ℕ) (xs : List A) where
  pub priority_read : (i : ℕ) (x : A) → i < length xs → x ≡ get_or xs i x → f x ≡ slice_index (map f xs) i
  priority_read i x h e = ap f e ∙ sym (get_or-map f xs i x 0 h)

  pub priority_after : (i j : ℕ) (y : A) → j < length xs - i → y ≡ get_or (take (length xs - i) (drop i xs)) j y →
      f y ≡ slice_index (map f xs) (i + j)
  priority_after i j y h e =
      priority_read (i + j) y (omega arith)
      (e ∙ get_or-take (length xs - i) (drop i xs) j y h ∙ get_or-drop i xs j y)
