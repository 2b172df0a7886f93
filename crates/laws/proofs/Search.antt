-- The least number that passes a test: what a search finds. Assumes nothing.
use Rattle.std.proofs.Common.{None, Option, Some}
use mathlib.Core.Path.{◌≡◌, refl, sym, ap, subst, ◌∙◌}
use mathlib.Core.Bool.{Bool, true, false, not}
use mathlib.Core.List.{List, [], ◌∷◌}
use mathlib.Core.Logic.{◌⊎◌, ◌↔◌, inl, inr}
use Prim.Native.Nat.{ℕ, zero, suc, ◌+◌, ◌≤◌, ◌<◌}
use native.Mathlib.Omega.{arith}
use lib.ListN.{length, get_or}
use borrow.Author.Tests.{not-true, not-false}
use Rattle.laws.specs.Choice.{every}
use Rattle.laws.specs.Search.{least, first_failed, is_found, first_of}
use Rattle.laws.proofs.Choice.{le_or_lt, clash, every_at, every_build, every_fails}

-- what a search among r, .., r + n - 1 answers: the least that passes, or nothing where none does
pub data Searched (p : ℕ → Bool) (r n : ℕ) : Option ℕ → Type 0 where
  hit : (x : ℕ) → r ≤ x → x < r + n → p x ≡ true → ((y : ℕ) → r ≤ y → y < x → p y ≡ false) → Searched p r n (Some x)
  miss : ((y : ℕ) → r ≤ y → y < r + n → p y ≡ false) → Searched p r n None

pub least_is : (p : ℕ → Bool) (r n : ℕ) → Searched p r n (least p r n)
unfolding least
least_is p r zero = miss (λ y a b. absurd (omega arith))
least_is p r (suc n) = go (p r) refl (least_is p (suc r) n)
  where
    first : (y : ℕ) → r ≤ y → p r ≡ false → (r < y → p y ≡ false) → p y ≡ false
    first y a e f = elim (le_or_lt y r) [ inl k ↦ (let q : y ≡ r = omega arith in rw q e) | inr k ↦ f k ]

    next : (a : Option ℕ) → p r ≡ false → Searched p (suc r) n a → Searched p r (suc n) a
    next a e (hit x l u t z) = hit x (omega arith) (omega arith) t (λ y b c. first y b e (λ k. z y k c))
    next a e (miss z) = miss (λ y b c. first y b e (λ k. z y k (omega arith)))

    go : (b : Bool) → p r ≡ b → Searched p (suc r) n (least p (suc r) n) → Searched p r (suc n) (least p r (suc n))
    go true e ih = rw (e, least) (hit r (omega arith) (omega arith) e (λ y a b. absurd (omega arith)))
    go false e ih = rw (e, least) (next (least p (suc r) n) e ih)

-- two answers to one search are equal
pub searched_one : (p : ℕ → Bool) (r n : ℕ) (a b : Option ℕ) → Searched p r n a → Searched p r n b → a ≡ b
searched_one p r n a b (hit x l u t z) (hit y m v s w) = same (le_or_lt x y) (le_or_lt y x)
  where
    same : (x ≤ y) ⊎ (y < x) → (y ≤ x) ⊎ (x < y) → Some x ≡ Some y
    same (inr k) q = absurd (clash (p y) s (z y m k))
    same (inl k) (inr h) = absurd (clash (p x) t (w x l h))
    same (inl k) (inl h) = let e : x ≡ y = omega arith in rw e
searched_one p r n a b (hit x l u t z) (miss w) = absurd (clash (p x) t (w x l u))
searched_one p r n a b (miss z) (hit y m v s w) = absurd (clash (p y) s (z y m v))
searched_one p r n a b (miss z) (miss w) = refl

-- so whatever answers a search is what `least` finds
pub is_least : (p : ℕ → Bool) (r n : ℕ) (a : Option ℕ) → Searched p r n a → a ≡ least p r n
is_least p r n a s = searched_one p r n a (least p r n) s (least_is p r n)

pub found_passes : (p : ℕ → Bool) (r n x : ℕ) → least p r n ≡ Some x → (p x ≡ true) × (r ≤ x) × (x < r + n)
found_passes p r n x e = go (least p r n) e (least_is p r n)
  where
    go : (a : Option ℕ) → a ≡ Some x → Searched p r n a → (p x ≡ true) × (r ≤ x) × (x < r + n)
    go a q (hit y l u t z) = let s : y ≡ x = cc in (rw (← s) t, omega arith, omega arith)
    go a q (miss z) = let c : ◌≡◌ {A = ℕ} 0 1 = cc in absurd (omega arith)

pub found_first : (p : ℕ → Bool) (r n x : ℕ) → least p r n ≡ Some x → (y : ℕ) → r ≤ y → y < x → p y ≡ false
found_first p r n x e = go (least p r n) e (least_is p r n)
  where
    go : (a : Option ℕ) → a ≡ Some x → Searched p r n a → (y : ℕ) → r ≤ y → y < x → p y ≡ false
    go a q (hit v l u t z) y h k = let s : v ≡ x = cc in z y h (omega arith)
    go a q (miss z) y h k = let c : ◌≡◌ {A = ℕ} 0 1 = cc in absurd (omega arith)

pub none_passes : (p : ℕ → Bool) (r n : ℕ) → least p r n ≡ None → (y : ℕ) → r ≤ y → y < r + n → p y ≡ false
none_passes p r n e = go (least p r n) e (least_is p r n)
  where
    go : (a : Option ℕ) → a ≡ None → Searched p r n a → (y : ℕ) → r ≤ y → y < r + n → p y ≡ false
    go a q (hit v l u t z) y h k = let c : ◌≡◌ {A = ℕ} 0 1 = cc in absurd (omega arith)
    go a q (miss z) y h k = z y h k

-- Searches within a search: search i finds j, and no search before it finds anything.
pub record FirstAt (search : ℕ → Option ℕ) (n i j : ℕ) : Type 0 where
  pub below : i < n
  pub found : search i ≡ Some j
  pub none_before : (k : ℕ) → k < i → search k ≡ None

abbrev pub NoneFinds : (ℕ → Option ℕ) → ℕ → Type 0
NoneFinds search n = (k : ℕ) → k < n → search k ≡ None

not_found : (a : Option ℕ) → is_found a ≡ false → a ≡ None
not_found (Some x) e = absurd (clash true refl e)
not_found None e = refl

module _ {A : Type 0} (make : ℕ → ℕ → A) (none : A) (search : ℕ → Option ℕ) (n : ℕ) where
  abbrev finds : ℕ → Bool
  finds k = is_found (search k)

  -- what is first is what the definition makes
  pub first_at : (i j : ℕ) → FirstAt search n i j → make i j ≡ first_of make none search n
  unfolding first_of
  first_at i j f =
      rw (
        ← is_least finds 0 n (Some i)
            (hit i (omega arith) (omega (arith, f.below)) (rw f.found) (λ k a b. rw (f.none_before k b))),
        f.found,
      )

  pub first_none : NoneFinds search n → none ≡ first_of make none search n
  unfolding first_of
  first_none f = rw (← is_least finds 0 n None (miss (λ k a b. rw (f k (omega arith)))))

  -- and what the definition makes is made of what is first, or of none
  pub data First : A → Type 0 where
    first : (i j : ℕ) → FirstAt search n i j → First (make i j)
    nowhere : NoneFinds search n → First none

  pub first_is : First (first_of make none search n)
  first_is = outer (least finds 0 n) refl
    where
      inner : (i : ℕ) (b : Option ℕ) → least finds 0 n ≡ Some i → search i ≡ b → First (first_of make none search n)
      inner i None e f = absurd (clash (finds i) (found_passes finds 0 n i e).0 (ap is_found f))
      inner i (Some j) e f =
          let a : FirstAt search n i j =
          record {
            below = omega (arith, (found_passes finds 0 n i e).2);
            found = f;
            none_before = λ k h. not_found (search k) (found_first finds 0 n i e k (omega arith) h);
          } in
          subst First (first_at i j a) (first i j a)

      outer : (a : Option ℕ) → least finds 0 n ≡ a → First (first_of make none search n)
      outer (Some i) e = inner i (search i) e refl
      outer None e =
          let f : NoneFinds search n =
          λ k h. not_found (search k) (none_passes finds 0 n e k (omega arith) (omega arith)) in
          subst First (first_none f) (nowhere f)

-- The first test of a list that fails. Past the list nothing fails, whatever stands there.
inside : (bs : List Bool) (k : ℕ) (d e : Bool) → k < length bs → get_or bs k d ≡ get_or bs k e
inside [] k d e h = absurd (omega arith)
inside (b ∷ bs) zero d e h = refl
inside (b ∷ bs) (suc k) d e h = inside bs k d e (omega arith)

abbrev failing : List Bool → ℕ → Bool
failing bs k = not (get_or bs k true)

-- as a loop over the tests has it
pub fails_first : (bs : List Bool) (k : ℕ) → k < length bs → ((j : ℕ) → j < k → get_or bs j false ≡ true) →
    get_or bs k false ≡ false → Some k ≡ first_failed bs
unfolding first_failed
fails_first bs k h before e =
    is_least (failing bs) 0 (length bs) (Some k)
    (hit k (omega arith) (omega arith) (ap not (inside bs k true false h ∙ e))
    (λ j a l. ap not (inside bs j true false (omega arith) ∙ before j l)))

pub fails_nowhere : (bs : List Bool) → ((k : ℕ) → k < length bs → get_or bs k false ≡ true) →
    None ≡ first_failed bs
unfolding first_failed
fails_nowhere bs f =
    is_least (failing bs) 0 (length bs) None
    (miss (λ j a l. ap not (inside bs j true false (omega arith) ∙ f j (omega arith))))

-- of two that fail the first
pub first_of_two : first_failed (true ∷ false ∷ false ∷ []) ≡ Some 1
unfolding first_failed least
first_of_two = refl

-- what the place that is found says of the tests
pub record FailsAt (bs : List Bool) (k : ℕ) : Type 0 where
  pub below : k < length bs
  pub fails : get_or bs k true ≡ false
  pub first : (j : ℕ) → j < k → get_or bs j true ≡ true

pub failed_at : (bs : List Bool) (k : ℕ) → (first_failed bs ≡ Some k) ↔ FailsAt bs k
unfolding first_failed
failed_at bs k = (
  λ e.
      let p = found_passes (failing bs) 0 (length bs) k e in
      record {
        below = omega (arith, p.2);
        fails = not-true (get_or bs k true) p.0;
        first = λ j l. not-false (get_or bs j true) (found_first (failing bs) 0 (length bs) k e j (omega arith) l);
      },
  λ f.
      sym
      (fails_first bs k f.below
      (λ j l. inside bs j false true (omega (arith, f.below)) ∙ f.first j l)
      (inside bs k false true f.below ∙ f.fails)),
)

-- none fails exactly if all hold
pub failed_none : (bs : List Bool) → (first_failed bs ≡ None) ↔ (every bs ≡ true)
unfolding first_failed
failed_none bs = (
  λ e.
      sym
      (every_build bs
      (λ k l.
      inside bs k false true l
      ∙ not-false (get_or bs k true) (none_passes (failing bs) 0 (length bs) e k (omega arith) (omega arith)))),
  λ e. sym (fails_nowhere bs (λ k l. inside bs k false true l ∙ every_at bs e k)),
)

pub failed_some : (bs : List Bool) (k : ℕ) → first_failed bs ≡ Some k → every bs ≡ false
failed_some bs k e =
    let f = (failed_at bs k).0 e in
    sym (every_fails bs k f.below (inside bs k false true f.below ∙ f.fails))

pub all_hold : (bs : List Bool) → every bs ≡ not (is_found (first_failed bs))
all_hold bs = go (first_failed bs) refl
  where
    go : (x : Option ℕ) → first_failed bs ≡ x → every bs ≡ not (is_found x)
    go (Some k) e = failed_some bs k e
    go None e = (failed_none bs).0 e

-- test by test: none of no test fails; one that fails is the first; past one that holds it is the
-- first of the others, a place further on
pub failed_empty : first_failed [] ≡ None
unfolding first_failed least
failed_empty = refl

pub failed_here : (bs : List Bool) → first_failed (false ∷ bs) ≡ Some 0
unfolding first_failed least
failed_here bs = refl

abbrev pub one_past : Option ℕ → Option ℕ
one_past (Some k) = Some (suc k)
one_past None = None

pub failed_past : (bs : List Bool) → first_failed (true ∷ bs) ≡ one_past (first_failed bs)
unfolding every
failed_past bs = go (first_failed bs) refl
  where
    first : (k : ℕ) → FailsAt bs k → (j : ℕ) → j < suc k → get_or (true ∷ bs) j true ≡ true
    first k f zero l = refl
    first k f (suc j) l = f.first j (omega arith)

    go : (x : Option ℕ) → first_failed bs ≡ x → first_failed (true ∷ bs) ≡ one_past x
    go (Some k) e =
        let f = (failed_at bs k).0 e in
        (failed_at (true ∷ bs) (suc k)).1
        (record { below = omega (arith, f.below); fails = f.fails; first = first k f })
    go None e = (failed_none (true ∷ bs)).1 ((failed_none bs).0 e)
