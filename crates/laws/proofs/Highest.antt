-- The highest marked row: what it is, and how a walk over the rows finds it. Assumes nothing.
use Rattle.std.proofs.Common.{None, Option, Some}
use mathlib.Core.Path.{◌≡◌, refl, sym, ◌∙◌}
use mathlib.Core.Bool.{Bool, true, false, not, ◌&&◌}
use mathlib.Core.Logic.{◌⊎◌, inl, inr, ◌↔◌}
use Prim.Native.Nat.{ℕ, zero, suc, ◌+◌, ◌≤◌, ◌<◌}
use native.Mathlib.Omega.{arith}
use native.Mathlib.Numerals.{add-one}
use lib.Dec.{ltb}
use borrow.Author.Tests.{lt-ltb, le-ltb, ltb-true, ltb-false}
use borrow.Author.Count.{below_more}
use Rattle.laws.specs.Rows.{all_below, highest, found_by}
use Rattle.std.proofs.lemmas.Bool.{and_from, cases_Bool}
use Rattle.laws.proofs.Choice.{clash}
use Rattle.laws.proofs.Search.{Searched, hit, miss, is_least}
use Rattle.laws.proofs.Rows.{all_build, all_fails}

-- row i is marked, no marked row below n is higher, and none before it is as high
pub record Stands (n : ℕ) (marked : ℕ → Bool) (priority : ℕ → ℕ) (i : ℕ) : Type 0 where
  pub below : i < n
  pub is : marked i ≡ true
  pub top : (j : ℕ) → j < n → marked j ≡ true → priority j ≤ priority i
  pub first : (j : ℕ) → j < i → marked j ≡ true → priority j < priority i

abbrev pub Picked : ℕ → (ℕ → Bool) → (ℕ → ℕ) → Option ℕ → Type 0
Picked n marked priority None = (j : ℕ) → j < n → marked j ≡ false
Picked n marked priority (Some i) = Stands n marked priority i

module _ (marked : ℕ → Bool) (priority : ℕ → ℕ) where
  -- a walk over the rows: before the first, then row n
  pub picked_none : Picked 0 marked priority None
  picked_none j h = absurd (omega arith)

  pub picked_skip : (n : ℕ) (a : Option ℕ) → Picked n marked priority a → marked n ≡ false →
      Picked (n + 1) marked priority a
  picked_skip n None f e = below_more (λ j. marked j ≡ false) n f e
  picked_skip n (Some i) s e =
      record {
        below = omega (arith, s.below);
        is = s.is;
        top =
            below_more (λ j. marked j ≡ true → priority j ≤ priority i) n s.top (λ q. absurd (clash (marked n) q e));
        first = s.first;
      }

  pub picked_new : (n : ℕ) → Picked n marked priority None → marked n ≡ true → Picked (n + 1) marked priority (Some n)
  picked_new n f e =
      record {
        below = omega arith;
        is = e;
        top =
            below_more (λ j. marked j ≡ true → priority j ≤ priority n) n
            (λ j h q. absurd (clash (marked j) q (f j h))) (λ q. omega arith);
        first = λ j h q. absurd (clash (marked j) q (f j h));
      }

  pub picked_take : (n b : ℕ) → Picked n marked priority (Some b) → marked n ≡ true → priority b < priority n →
      Picked (n + 1) marked priority (Some n)
  picked_take n b s e l =
      record {
        below = omega arith;
        is = e;
        top =
            below_more (λ j. marked j ≡ true → priority j ≤ priority n) n
            (λ j h q. omega (arith, s.top j h q)) (λ q. omega arith);
        first = λ j h q. omega (arith, s.top j h q);
      }

  pub picked_keep : (n b : ℕ) → Picked n marked priority (Some b) → priority n ≤ priority b →
      Picked (n + 1) marked priority (Some b)
  picked_keep n b s l =
      record {
        below = omega (arith, s.below);
        is = s.is;
        top = below_more (λ j. marked j ≡ true → priority j ≤ priority b) n s.top (λ q. l);
        first = s.first;
      }

  not_higher : (i j : ℕ) → (marked j ≡ true → priority j ≤ priority i) →
      not (marked j && ltb (priority i) (priority j)) ≡ true
  not_higher i j f = go (marked j) refl
    where
      go : (b : Bool) → marked j ≡ b → not (b && ltb (priority i) (priority j)) ≡ true
      go true e = rw (le-ltb (priority i) (priority j) (f e))
      go false e = refl

  is_higher : (i j : ℕ) → marked j ≡ true → priority i < priority j →
      not (marked j && ltb (priority i) (priority j)) ≡ false
  is_higher i j e l = rw (e, lt-ltb (priority i) (priority j) l)

  -- who is picked is who is highest
  pub picked_is : (n : ℕ) (a : Option ℕ) → Picked n marked priority a → a ≡ highest n marked priority
  unfolding highest
  picked_is n a p =
      is_least (λ i. marked i && all_below n (λ j. not (marked j && ltb (priority i) (priority j)))) 0 n a (go a p)
    where
      no_mark : (i : ℕ) → marked i ≡ false →
          (marked i && all_below n (λ j. not (marked j && ltb (priority i) (priority j)))) ≡ false
      no_mark i e = rw e

      lower : (i k : ℕ) → k < n → marked k ≡ true → (marked i ≡ true → priority i < priority k) → (b : Bool) →
          marked i ≡ b →
          (b && all_below n (λ j. not (marked j && ltb (priority i) (priority j)))) ≡ false
      lower i k h e l true q =
          all_fails (λ j. not (marked j && ltb (priority i) (priority j))) n k h (is_higher i k e (l q))
      lower i k h e l false q = refl

      go : (a : Option ℕ) → Picked n marked priority a →
          Searched (λ i. marked i && all_below n (λ j. not (marked j && ltb (priority i) (priority j)))) 0 n a
      go None f = miss (λ y l u. no_mark y (f y (omega arith)))
      go (Some i) s =
          hit
          i
          (omega arith)
          (omega (arith, s.below))
          (and_from
          (marked i)
          (all_below n (λ j. not (marked j && ltb (priority i) (priority j))))
          s.is
          (all_build (λ j. not (marked j && ltb (priority i) (priority j))) n (λ j h. not_higher i j (s.top j h))))
          (λ y l u. lower y i s.below s.is (s.first y u) (marked y) refl)

  -- so the highest row is picked
  walk : (n : ℕ) → (a : Option ℕ) × Picked n marked priority a
  walk zero = (None, picked_none)
  walk (suc n) = go (walk n).0 (walk n).1 (cases_Bool (marked n))
    where
      one : (a : Option ℕ) → Picked (n + 1) marked priority a → (a : Option ℕ) × Picked (suc n) marked priority a
      one a p = (a, rw (add-one n) at p)

      order : (b : ℕ) → Picked n marked priority (Some b) → marked n ≡ true → (t : Bool) →
          ltb (priority b) (priority n) ≡ t → (a : Option ℕ) × Picked (suc n) marked priority a
      order b s e true q = one (Some n) (picked_take n b s e (ltb-true (priority b) (priority n) q))
      order b s e false q = one (Some b) (picked_keep n b s (ltb-false (priority b) (priority n) q))

      go : (a : Option ℕ) → Picked n marked priority a → (marked n ≡ true) ⊎ (marked n ≡ false) →
          (a : Option ℕ) × Picked (suc n) marked priority a
      go a p (inr e) = one a (picked_skip n a p e)
      go None p (inl e) = one (Some n) (picked_new n p e)
      go (Some b) p (inl e) = order b p e (ltb (priority b) (priority n)) refl

  pub highest_picked : (n : ℕ) → Picked n marked priority (highest n marked priority)
  highest_picked n = rw (← picked_is n (walk n).0 (walk n).1) (walk n).1

  -- read off an answer
  pub highest_at : (n i : ℕ) → highest n marked priority ≡ Some i → Stands n marked priority i
  highest_at n i e = rw e at (highest_picked n)

  pub highest_none : (n : ℕ) → highest n marked priority ≡ None → (j : ℕ) → j < n → marked j ≡ false
  highest_none n e = rw e at (highest_picked n)

-- A walk that keeps the highest marked row passed, by its number and its priority, priorities being at
-- least 1: height 0 is nothing found.
pub found_there : (height row : ℕ) → 0 < height → found_by height row ≡ Some row
found_there zero row h = absurd (omega arith)
found_there (suc height) row h = refl

pub record Top (n : ℕ) (marked : ℕ → Bool) (priority : ℕ → ℕ) (height row : ℕ) : Type 0 where
  pub picked : Picked n marked priority (found_by height row)
  pub level : 0 < height → height ≡ priority row

module _ (marked : ℕ → Bool) (priority : ℕ → ℕ) where
  pub top_none : (row : ℕ) → Top 0 marked priority 0 row
  top_none row = record { picked = λ j h. absurd (omega arith); level = λ h. absurd (omega arith) }

  pub top_skip : (n height row : ℕ) → Top n marked priority height row → marked n ≡ false →
      Top (n + 1) marked priority height row
  top_skip n height row p e =
      record { picked = picked_skip marked priority n (found_by height row) p.picked e; level = p.level }

  pub top_take : (n height row : ℕ) → Top n marked priority height row → marked n ≡ true → height < priority n →
      Top (n + 1) marked priority (priority n) n
  top_take n height row p e l =
      record
      { picked = rw (found_there (priority n) n (omega arith)) (go height p.picked p.level l); level = λ h. refl }
    where
      go : (height : ℕ) → Picked n marked priority (found_by height row) → (0 < height → height ≡ priority row) →
          height < priority n →
          Picked (n + 1) marked priority (Some n)
      go zero q v h = picked_new marked priority n q e
      go (suc height) q v h = picked_take marked priority n row q e (omega (arith, v (omega arith)))

  pub top_keep : (n height row : ℕ) → Top n marked priority height row → priority n ≤ height → 1 ≤ priority n →
      Top (n + 1) marked priority height row
  top_keep n height row p l g = record { picked = go height p.picked p.level l; level = p.level }
    where
      go : (height : ℕ) → Picked n marked priority (found_by height row) → (0 < height → height ≡ priority row) →
          priority n ≤ height →
          Picked (n + 1) marked priority (found_by height row)
      go zero q v h = absurd (omega arith)
      go (suc height) q v h = picked_keep marked priority n row q (omega (arith, v (omega arith)))

  pub top_is : (n height row : ℕ) → Top n marked priority height row → found_by height row ≡ highest n marked priority
  top_is n height row p = picked_is marked priority n (found_by height row) p.picked

-- Where no two rows have one priority, the highest is the row above which none stands, said of what
-- the mark means.
module _ (n : ℕ) (marked : ℕ → Bool) (priority : ℕ → ℕ)
    (apart : (i j : ℕ) → i < n → j < n → (i ≡ j → ⊥) → priority i ≡ priority j → ⊥)
    (Is : ℕ → Type 0) (is : (j : ℕ) → Is j ↔ ((j < n) × (marked j ≡ true))) where
  pub highest_exactly : (i : ℕ) →
      (highest n marked priority ≡ Some i) ↔ (Is i × ((j : ℕ) → Is j → priority j ≤ priority i))
  highest_exactly i = (to, λ p. sym (picked_is marked priority n (Some i) (stands p)))
    where
      to : highest n marked priority ≡ Some i → Is i × ((j : ℕ) → Is j → priority j ≤ priority i)
      to e =
          let h = highest_at marked priority n i e in
          ((is i).1 (h.below, h.is), λ j q. h.top j ((is j).0 q).0 ((is j).0 q).1)

      stands : Is i × ((j : ℕ) → Is j → priority j ≤ priority i) → Stands n marked priority i
      stands p =
          let b = ((is i).0 p.0).0 in
          record {
            below = b;
            is = ((is i).0 p.0).1;
            top = λ j l q. p.1 j ((is j).1 (l, q));
            first =
                λ j l q.
                let d : j < n = omega arith in
                let c : j ≡ i → ⊥ = λ z. omega arith in
                omega (arith, p.1 j ((is j).1 (d, q)), apart j i d b c);
          }

  pub none_exactly : (highest n marked priority ≡ None) ↔ ((j : ℕ) → Is j → ⊥)
  none_exactly = (
    λ e j q. clash (marked j) ((is j).0 q).1 (highest_none marked priority n e j ((is j).0 q).0),
    λ f.
        sym
        (picked_is marked priority n None
        (λ j l. elim (cases_Bool (marked j)) [ inl e ↦ absurd (f j ((is j).1 (l, e))) | inr e ↦ e ])),
  )

-- The highest rests on the rows below n alone.
pub highest_cong : (n : ℕ) (p q : ℕ → Bool) (priority : ℕ → ℕ) → ((i : ℕ) → i < n → p i ≡ q i) →
    highest n p priority ≡ highest n q priority
highest_cong n p q priority e = go (highest n p priority) refl
  where
    go : (a : Option ℕ) → highest n p priority ≡ a → highest n p priority ≡ highest n q priority
    go (Some i) f =
        let s = highest_at p priority n i f in
        f
        ∙ picked_is q priority n (Some i)
        (record {
          below = s.below;
          is = sym (e i s.below) ∙ s.is;
          top = λ j l m. s.top j l (e j l ∙ m);
          first = λ j l m. s.first j l (e j (omega (arith, s.below)) ∙ m);
        })
    go None f = f ∙ picked_is q priority n None (λ j l. sym (e j l) ∙ highest_none p priority n f j l)
