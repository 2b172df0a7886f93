-- A number, byte by byte. Its digits and their worth are inverse: one number has one text. A law on
-- digits goes by `digits_ind`: a number is below 10, or it is ten times a smaller one and a last
-- digit. Assumes nothing.
use Rattle.std.proofs.Common.{◌≡◌, ℕ, zero, suc, ◌+◌, ◌-◌, ◌*◌, ◌/◌, ◌%◌, ◌^◌, ◌<◌, ◌≤◌, true, false, not, eqb, ◌⊎◌, List, [], ◌∷◌, ◌++◌, length, get_or, sym, refl, ◌∙◌, inl, inr, append_assoc, append-nil, pow-suc, arith, length-append, le-ltb, lt-ltb, ne_eqb, eqb-true}
use lib.ListN.{get_or-append}
use lib.Arith.{lt_of_le-ne}
use borrow.Author.Tests.{eqb-false, not-true}
use Rattle.laws.specs.Choice.{within, every}
use Rattle.std.specs.Cmp.{first_so, second_so}
use Rattle.std.proofs.lemmas.Bool.{and_from, or_cases}
use Rattle.laws.proofs.Choice.{within_low, within_high, every_at, is_within, le_or_lt}
use Rattle.decimal.specs.Number.{are_digits, leads_well, number_form, is_number, worth_from, worth, digits_in, digits}

-- digits
pub digit_at : (s : List ℕ) (i : ℕ) → are_digits s ≡ true → i < length s → (48 ≤ get_or s i 0) × (get_or s i 0 ≤ 57)
unfolding are_digits
digit_at [] i e h = absurd (omega arith)
digit_at (b ∷ bs) zero e h =
    let w = first_so (within 48 57 b) (are_digits bs) e in (within_low 48 57 b w, within_high 48 57 b w)
digit_at (b ∷ bs) (suc i) e h = digit_at bs i (second_so (within 48 57 b) (are_digits bs) e) (omega arith)

-- what the form of a number says
pub number_long : (s : List ℕ) → is_number s ≡ true → length s ≤ 11
unfolding is_number number_form
number_long s e = within_high 1 11 (length s) (every_at (number_form s) e 0)

pub number_is_digits : (s : List ℕ) → is_number s ≡ true → are_digits s ≡ true
unfolding is_number number_form
number_is_digits s e = every_at (number_form s) e 1

-- one step of the definition
in_one : (f n : ℕ) → n < 10 → digits_in f n ≡ (48 + n) ∷ []
unfolding digits_in
in_one zero n h = refl
in_one (suc f) n h = rw (lt-ltb n 10 h, digits_in)

in_more : (f n : ℕ) → 10 ≤ n → digits_in (suc f) n ≡ digits_in f (n / 10) ++ ((48 + n % 10) ∷ [])
unfolding digits_in
in_more f n h = rw (le-ltb n 10 h, digits_in)

-- how many last digits may be taken off does not matter, if they are enough
enough : (f g n : ℕ) → n ≤ f → n ≤ g → digits_in f n ≡ digits_in g n
enough zero g n h k = in_one zero n (omega arith) ∙ sym (in_one g n (omega arith))
enough (suc f) zero n h k = in_one (suc f) n (omega arith) ∙ sym (in_one zero n (omega arith))
enough (suc f) (suc g) n h k = go (le_or_lt 10 n) (enough f g (n / 10))
  where
    go : (10 ≤ n) ⊎ (n < 10) → (n / 10 ≤ f → n / 10 ≤ g → digits_in f (n / 10) ≡ digits_in g (n / 10)) →
        digits_in (suc f) n ≡ digits_in (suc g) n
    go (inl l) ih = rw (in_more f n l, in_more g n l, ih (omega arith) (omega arith))
    go (inr l) ih = in_one (suc f) n l ∙ sym (in_one (suc g) n l)

pub digits_one : (n : ℕ) → n < 10 → digits n ≡ (48 + n) ∷ []
unfolding digits
digits_one n h = in_one n n h

pub digits_more : (v d : ℕ) → 0 < v → d < 10 → digits (v * 10 + d) ≡ digits v ++ ((48 + d) ∷ [])
unfolding digits
digits_more v d h k = go (v * 10 + d) refl
  where
    go : (n : ℕ) → n ≡ v * 10 + d → digits_in n n ≡ digits_in v v ++ ((48 + d) ∷ [])
    go zero e = absurd (omega arith)
    go (suc n) e =
        let q : suc n / 10 ≡ v = omega arith in
        let r : suc n % 10 ≡ d = omega arith in
        rw (in_more n (suc n) (omega arith), q, r, enough n v v (omega arith) (omega arith))

pub digits_two : (n : ℕ) → 10 ≤ n → n < 100 → digits n ≡ (48 + n / 10) ∷ (48 + n % 10) ∷ []
digits_two n h l =
    let e : n / 10 * 10 + n % 10 ≡ n = omega arith in
    rw (digits_one (n / 10) (omega arith)) at (rw e at (digits_more (n / 10) (n % 10) (omega arith) (omega arith)))

-- a property of every number, from those of one digit and of one digit more
pub digits_ind : (P : ℕ → Type 0) → ((n : ℕ) → n < 10 → P n) → ((v d : ℕ) → 0 < v → d < 10 → P v → P (v * 10 + d)) →
    (n : ℕ) → P n
digits_ind P one more n = go (suc n) n (omega arith)
  where
    step : (b n : ℕ) → 10 ≤ n → P (n / 10) → P n
    step b n h p =
        let e : n / 10 * 10 + n % 10 ≡ n = omega arith in
        rw e at (more (n / 10) (n % 10) (omega arith) (omega arith) p)

    go : (b n : ℕ) → n < b → P n
    go zero n h = absurd (omega arith)
    go (suc b) n h = elim (le_or_lt 10 n) [ inl k ↦ step b n k (go b (n / 10) (omega arith)) | inr k ↦ one n k ]

-- worth: one digit more
pub worth_more : (v b : ℕ) (bs : List ℕ) → worth_from v (bs ++ (b ∷ [])) ≡ worth_from v bs * 10 + (b - 48)
unfolding worth_from
worth_more v b [] = refl
worth_more v b (c ∷ bs) = worth_more (v * 10 + (c - 48)) b bs

pub worth_digits : (n : ℕ) → worth (digits n) ≡ n
unfolding worth_from
worth_digits =
    digits_ind
    (λ n. worth_from 0 (digits n) ≡ n)
    (λ n h. rw (digits_one n h) (omega arith))
    (λ v d h k e. rw (digits_more v d h k, worth_more 0 (48 + d) (digits v), e) (omega arith))

-- form: digits, of which there are few, and the first of which is not 0
pub digits_append : (bs cs : List ℕ) → are_digits bs ≡ true → are_digits cs ≡ true → are_digits (bs ++ cs) ≡ true
unfolding are_digits
digits_append [] cs p q = q
digits_append (b ∷ bs) cs p q =
    and_from
    (within 48 57 b)
    (are_digits (bs ++ cs))
    (first_so (within 48 57 b) (are_digits bs) p)
    (digits_append bs cs (second_so (within 48 57 b) (are_digits bs) p) q)

one_digit : (d : ℕ) → d < 10 → are_digits ((48 + d) ∷ []) ≡ true
unfolding are_digits
one_digit d h = and_from (within 48 57 (48 + d)) true (is_within 48 57 (48 + d) (omega arith) (omega arith)) refl

pub are_digits_lem : (n : ℕ) → are_digits (digits n) ≡ true
are_digits_lem =
    digits_ind
    (λ n. are_digits (digits n) ≡ true)
    (λ n h. rw (digits_one n h) (one_digit n h))
    (λ v d h k e. rw (digits_more v d h k) (digits_append (digits v) ((48 + d) ∷ []) e (one_digit d k)))

pub digits_some : (n : ℕ) → 0 < length (digits n)
digits_some =
    digits_ind
    (λ n. 0 < length (digits n))
    (λ n h. rw (digits_one n h) (omega arith))
    (λ v d h k e. rw (digits_more v d h k, length-append (digits v) ((48 + d) ∷ [])) (omega arith))

pub digits_length : (n k : ℕ) → n < 10 ^ suc k → length (digits n) ≤ suc k
digits_length =
    digits_ind
    (λ n. (k : ℕ) → n < 10 ^ suc k → length (digits n) ≤ suc k)
    (λ n h k l. rw (digits_one n h) (omega arith))
    (λ v d h k e j l. rw (digits_more v d h k, length-append (digits v) ((48 + d) ∷ [])) (go v d j h e l))
  where
    go : (v d j : ℕ) → 0 < v → ((k : ℕ) → v < 10 ^ suc k → length (digits v) ≤ suc k) → v * 10 + d < 10 ^ suc j →
        length (digits v) + 1 ≤ suc j
    go v d zero h e l = absurd (omega (arith, pow-suc 10 0))
    go v d (suc j) h e l = omega (arith, e j (omega (arith, pow-suc 10 (suc j))))

no_zero_first : (n : ℕ) → 0 < n → eqb (get_or (digits n) 0 0) 48 ≡ false
no_zero_first =
    digits_ind
    (λ n. 0 < n → eqb (get_or (digits n) 0 0) 48 ≡ false)
    (λ n h p. rw (digits_one n h) (ne_eqb (48 + n) 48 (λ q. omega arith)))
    (λ v d h k e p. rw (digits_more v d h k, get_or-append (digits v) ((48 + d) ∷ []) 0 0 (digits_some v)) (e h))

leads_well_lem : (n : ℕ) → leads_well (digits n) ≡ true
leads_well_lem zero = rw (digits_one 0 (omega arith))
leads_well_lem (suc n) = rw (no_zero_first (suc n) (omega arith))

pub number_digits : (n : ℕ) → n < 100000000000 → is_number (digits n) ≡ true
unfolding is_number number_form every
number_digits n h =
    rw
    (is_within 1 11 (length (digits n)) (digits_some n) (digits_length n 10 (omega arith)), are_digits_lem n, leads_well_lem n)

-- the way back: what stands after the digits of v
digits_from : (v : ℕ) (bs : List ℕ) → 0 < v → are_digits bs ≡ true → digits (worth_from v bs) ≡ digits v ++ bs
unfolding are_digits worth_from
digits_from v [] h e = sym (append-nil (digits v))
digits_from v (b ∷ bs) h e =
    let w = first_so (within 48 57 b) (are_digits bs) e in
    let l : 48 ≤ b = within_low 48 57 b w in
    let u : b ≤ 57 = within_high 48 57 b w in
    let q : 48 + (b - 48) ≡ b = omega arith in
    digits_from (v * 10 + (b - 48)) bs (omega arith) (second_so (within 48 57 b) (are_digits bs) e) ∙
    rw (digits_more v (b - 48) h (omega arith), q, append_assoc (digits v) (b ∷ []) bs)

-- the first digit, and the digits after it
from_first : (b : ℕ) (bs : List ℕ) → are_digits (b ∷ bs) ≡ true → (eqb b 48 ≡ false) ⊎ (bs ≡ []) →
    digits (worth_from 0 (b ∷ bs)) ≡ b ∷ bs
unfolding are_digits worth_from
from_first b bs a s = go s
  where
    w : within 48 57 b ≡ true
    w = first_so (within 48 57 b) (are_digits bs) a

    l : 48 ≤ b
    l = within_low 48 57 b w

    u : b ≤ 57
    u = within_high 48 57 b w

    one : digits (b - 48) ≡ b ∷ []
    one = let q : 48 + (b - 48) ≡ b = omega (arith, l) in rw (digits_one (b - 48) (omega (arith, l, u)), q)

    rest : are_digits bs ≡ true
    rest = second_so (within 48 57 b) (are_digits bs) a

    z : 0 * 10 + (b - 48) ≡ b - 48
    z = omega arith

    go : (eqb b 48 ≡ false) ⊎ (bs ≡ []) → digits (worth_from (0 * 10 + (b - 48)) bs) ≡ b ∷ bs
    go (inl q) =
        rw z
        (digits_from (b - 48) bs (lt_of_le-ne (omega arith) (λ y. eqb-false b 48 q (omega (arith, l)))) rest ∙ rw one)
    go (inr q) = rw (z, q, one)

pub digits_worth : (bs : List ℕ) → is_number bs ≡ true → digits (worth bs) ≡ bs
unfolding is_number number_form
digits_worth bs e = go bs (within_low 1 11 (length bs) (t 0)) (t 1) (t 2)
  where
    t : (k : ℕ) → get_or (number_form bs) k true ≡ true
    t = every_at (number_form bs) e

    one : (bs : List ℕ) → length bs ≡ 0 → bs ≡ []
    one [] h = refl
    one (b ∷ bs) h = absurd (omega arith)

    lead : (b : ℕ) (bs : List ℕ) → (not (eqb b 48) ≡ true) ⊎ (eqb (suc (length bs)) 1 ≡ true) →
        (eqb b 48 ≡ false) ⊎ (bs ≡ [])
    lead b bs (inl p) = inl (not-true (eqb b 48) p)
    lead b bs (inr p) = inr (one bs (omega (arith, eqb-true (suc (length bs)) 1 p)))

    go : (bs : List ℕ) → 1 ≤ length bs → are_digits bs ≡ true → leads_well bs ≡ true → digits (worth bs) ≡ bs
    go [] h a l = absurd (omega arith)
    go (b ∷ bs) h a l = from_first b bs a (lead b bs (or_cases (not (eqb b 48)) (eqb (suc (length bs)) 1) l))
