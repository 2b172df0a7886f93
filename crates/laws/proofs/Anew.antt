-- Lists made anew row by row: their rows, their length, and how a loop makes them. Assumes nothing.
use mathlib.Core.Path.{◌≡◌, refl, ap, sym, ◌∙◌}
use mathlib.Core.List.{List, [], ◌∷◌}
use Prim.Native.Nat.{ℕ, zero, suc, ◌+◌, ◌≤◌, ◌<◌}
use native.Mathlib.Omega.{arith}
use native.Mathlib.Numerals.{add-one}
use lib.ListN.{length, get_or, set}
use lib.Seq.{set-get_or}
use Rattle.laws.specs.Rows.{anew}

pub length_anew : (n : ℕ) (f : ℕ → ℕ → ℕ) (xs : List ℕ) → length (anew n f xs) ≡ length xs
unfolding anew
length_anew zero f xs = refl
length_anew (suc n) f [] = refl
length_anew (suc n) f (x ∷ xs) = ap suc (length_anew n (λ i. f (suc i)) xs)

-- a row below n is made anew, any other stays
pub anew_at : (n : ℕ) (f : ℕ → ℕ → ℕ) (xs : List ℕ) (i d : ℕ) → i < n → i < length xs →
    get_or (anew n f xs) i d ≡ f i (get_or xs i d)
unfolding anew
anew_at zero f xs i d h l = absurd (omega arith)
anew_at (suc n) f [] i d h l = absurd (omega arith)
anew_at (suc n) f (x ∷ xs) zero d h l = refl
anew_at (suc n) f (x ∷ xs) (suc i) d h l = anew_at n (λ j. f (suc j)) xs i d (omega arith) (omega arith)

pub anew_past : (n : ℕ) (f : ℕ → ℕ → ℕ) (xs : List ℕ) (i d : ℕ) → n ≤ i → get_or (anew n f xs) i d ≡ get_or xs i d
unfolding anew
anew_past zero f xs i d h = refl
anew_past (suc n) f [] i d h = refl
anew_past (suc n) f (x ∷ xs) zero d h = absurd (omega arith)
anew_past (suc n) f (x ∷ xs) (suc i) d h = anew_past n (λ j. f (suc j)) xs i d (omega arith)

-- a loop: no row yet, then row i
pub anew_none : (f : ℕ → ℕ → ℕ) (xs : List ℕ) → xs ≡ anew 0 f xs
unfolding anew
anew_none f xs = refl

put_suc : (f : ℕ → ℕ → ℕ) (xs : List ℕ) (i d : ℕ) → set (anew i f xs) i (f i (get_or xs i d)) ≡ anew (suc i) f xs
unfolding anew
put_suc f [] zero d = refl
put_suc f [] (suc i) d = refl
put_suc f (x ∷ xs) zero d = refl
put_suc f (x ∷ xs) (suc i) d = ap (λ ys. f 0 x ∷ ys) (put_suc (λ j. f (suc j)) xs i d)

module _ (f : ℕ → ℕ → ℕ) (xs ys : List ℕ) (i d : ℕ) (e : ys ≡ anew i f xs) where
  -- row i is still as it was
  pub anew_row : get_or ys i d ≡ get_or xs i d
  anew_row = rw e (anew_past i f xs i d (omega arith))

  -- it is made anew by a store, or stays as it is
  pub anew_put : (v : ℕ) → f i (get_or ys i d) ≡ v → set ys i v ≡ anew (i + 1) f xs
  anew_put v h = rw (← h, anew_row, e, add-one i) (put_suc f xs i d)

  pub anew_stay : f i (get_or ys i d) ≡ get_or ys i d → ys ≡ anew (i + 1) f xs
  anew_stay h = sym (set-get_or ys i d) ∙ anew_put (get_or ys i d) h

pub anew_cong : (n : ℕ) (f g : ℕ → ℕ → ℕ) (xs : List ℕ) → ((i x : ℕ) → i < n → f i x ≡ g i x) →
    anew n f xs ≡ anew n g xs
unfolding anew
anew_cong zero f g xs h = refl
anew_cong (suc n) f g [] h = refl
anew_cong (suc n) f g (x ∷ xs) h =
    rw (h 0 x (omega arith), anew_cong n (λ i. f (suc i)) (λ i. g (suc i)) xs (λ i y l. h (suc i) y (omega arith)))

-- what stays as it is, row by row, stays
pub anew_same : (n : ℕ) (f : ℕ → ℕ → ℕ) (xs : List ℕ) → ((i x : ℕ) → f i x ≡ x) → anew n f xs ≡ xs
unfolding anew
anew_same zero f xs h = refl
anew_same (suc n) f [] h = refl
anew_same (suc n) f (x ∷ xs) h = rw (h 0 x, anew_same n (λ i. f (suc i)) xs (λ i. h (suc i)))
