-- The ledger of one server. In any stretch of ticks its charges are those before the first refill,
-- those of the whole periods, and those since the last refill; each part is within the capacity,
-- and the refills are a period apart. From it the bound on any window, the bound for a budget that
-- may be kept (an event server's) and the one for a budget that was spent at the start (a timed
-- server's). Assumes nothing.
use mathlib.Core.Path.{◌≡◌}
use mathlib.Core.Logic.{◌⊎◌, inl, inr}
use Prim.Native.Nat.{ℕ, zero, suc, ◌+◌, ◌*◌, ◌-◌, ◌≤◌, ◌<◌}
use native.Mathlib.Omega.{arith}
use native.Mathlib.Nat.{add-zero, add-suc, mul-le-mul_right}
use Rattle.laws.specs.RoundUp.{up}
use Rattle.laws.proofs.Choice.{le_or_lt}
use Rattle.laws.proofs.RoundUp.{lt_up}
use Rattle.bounds.proofs.Windows.{window, window_none, window_next}

-- A server by time: what step 5 finds at a tick (used, elapsed, capacity), and 1 where the tick
-- charges it, else 0.
pub record Course : Type 0 where
  pub used : ℕ → ℕ
  pub elapsed : ℕ → ℕ
  pub capacity : ℕ → ℕ
  pub charge : ℕ → ℕ

-- From tick x to the next: the counts go on (elapsed by 1, or by 0 in a tick that does not charge),
-- or the period is over and both begin anew.
pub data Next (T : ℕ) (k : Course) (x : ℕ) : Type 0 where
  goes : k.elapsed x + k.charge x ≤ k.elapsed (suc x) → k.elapsed (suc x) ≤ suc (k.elapsed x) →
      k.used (suc x) ≡ k.used x + k.charge x → Next T k x
  refills : suc (k.elapsed x) ≡ T → k.elapsed (suc x) ≡ 0 → k.used (suc x) ≡ 0 → Next T k x

-- The first n ticks of a server of period T: a charge needs used below capacity.
pub record Account (T n : ℕ) (k : Course) : Type 0 where
  pub inside : (x : ℕ) → x < n → k.elapsed x < T
  pub once : (x : ℕ) → x < n → k.charge x ≤ 1
  pub room : (x : ℕ) → x < n → k.charge x ≤ k.capacity x - k.used x
  pub next : (x : ℕ) → suc x < n → Next T k x

-- the account of fewer ticks
pub account_of : (T n m : ℕ) (k : Course) → Account T n k → m ≤ n → Account T m k
account_of T n m k a h =
    record {
      inside = λ x l. a.inside x (omega arith);
      once = λ x l. a.once x (omega arith);
      room = λ x l. a.room x (omega arith);
      next = λ x l. a.next x (omega arith);
    }

-- The ticks s to z, which are w + 1, in which no capacity passes B: without a refill, or with p + 1
-- of them, the first after a charges.
pub data Ledger (T B : ℕ) (k : Course) (s w z : ℕ) : Type 0 where
  within : k.elapsed z ≤ k.elapsed s + w → window k.charge s (suc w) + k.used s ≡ k.used z + k.charge z →
      window k.charge s (suc w) + k.elapsed s ≤ k.elapsed z + k.charge z →
      window k.charge s (suc w) ≤ B - k.used s →
      Ledger T B k s w z
  across : (p a : ℕ) → suc p * T + k.elapsed z ≤ w + k.elapsed s →
      window k.charge s (suc w) ≤ a + p * B + (k.used z + k.charge z) → k.used z + k.charge z ≤ B →
      k.used z ≤ k.elapsed z → a ≤ B - k.used s → a + k.elapsed s ≤ T → Ledger T B k s w z

-- Nothing of a budget B is left from before tick s: its period begins there, or it is spent.
abbrev pub Clean : ℕ → Course → ℕ → Type 0
Clean B k s = (k.elapsed s ≡ 0) ⊎ (B ≤ k.used s)

module _ (T B n : ℕ) (k : Course) (a : Account T n k) where
  opens : (s : ℕ) → s < n → k.capacity s ≤ B → Ledger T B k s 0 s
  opens s h b =
      let e : window k.charge s 1 ≡ k.charge s = rw (window_next, window_none, add-zero s) (omega arith) in
      within (omega arith) (omega arith) (omega arith) (omega (arith, a.room s h))

  one_more : (s w z : ℕ) → s + suc w ≡ z →
      window k.charge s (suc (suc w)) ≡ window k.charge s (suc w) + k.charge z
  one_more s w z e = rw (← e) (window_next k.charge s (suc w))

  step : (s w z : ℕ) → s + suc w ≡ suc z → suc z < n → k.capacity (suc z) ≤ B → Next T k z → Ledger T B k s w z →
      Ledger T B k s (suc w) (suc z)
  step s w z e h b (goes e1 e2 e3) (within l1 l2 l3 l4) =
      let m = one_more s w (suc z) e in
      let r = a.room (suc z) h in
      within (omega arith) (omega arith) (omega arith) (omega arith)
  step s w z e h b (goes e1 e2 e3) (across p f l1 l2 l3 l4 l5 l6) =
      let m = one_more s w (suc z) e in
      let r = a.room (suc z) h in
      across p f (omega arith) (omega arith) (omega arith) (omega arith) l5 l6
  step s w z e h b (refills e1 e2 e3) (within l1 l2 l3 l4) =
      let m = one_more s w (suc z) e in
      let r = a.room (suc z) h in
      let o = a.once z (omega arith) in
      across 0 (window k.charge s (suc w)) (omega arith) (omega arith) (omega arith) (omega arith) l4 (omega arith)
  step s w z e h b (refills e1 e2 e3) (across p f l1 l2 l3 l4 l5 l6) =
      let m = one_more s w (suc z) e in
      let r = a.room (suc z) h in
      across (suc p) f (omega arith) (omega arith) (omega arith) (omega arith) l5 l6

  pub ledger : (s w : ℕ) → s + w < n → ((x : ℕ) → x ≤ w → k.capacity (s + x) ≤ B) → Ledger T B k s w (s + w)
  ledger s zero h b = rw (add-zero s) (opens s (omega arith) (rw (add-zero s) at (b 0 (omega arith))))
  ledger s (suc w) h b =
      rw
      (add-suc s w)
      (step
      s
      w
      (s + w)
      (add-suc s w)
      (omega arith)
      (rw (add-suc s w) at (b (suc w) (omega arith)))
      (a.next (s + w) (omega arith))
      (ledger s w (omega arith) (λ x l. b x (omega arith))))

  -- In any window: as many times the capacity as the window can touch periods.
  pub charges_most : (s w : ℕ) → 1 ≤ w → s + w ≤ n → ((x : ℕ) → x < w → k.capacity (s + x) ≤ B) →
      window k.charge s w ≤ B * (up (w - 1) T + 1)
  charges_most s zero p h b = absurd (omega arith)
  charges_most s (suc w) p h b =
      let e : suc w - 1 ≡ w = omega arith in
      rw e (go (ledger s w (omega arith) (λ x l. b x (omega arith))))
    where
      go : Ledger T B k s w (s + w) → window k.charge s (suc w) ≤ B * (up w T + 1)
      go (within l1 l2 l3 l4) = omega arith
      go (across p f l1 l2 l3 l4 l5 l6) =
          let i = a.inside s (omega arith) in
          omega (arith, mul-le-mul_right B (lt_up w T p (omega arith) (omega arith)))

  -- In any window, of a budget that may be kept to the end of one period and spent at once in the
  -- next.
  pub charges_kept : (s w : ℕ) → s + w ≤ n → B ≤ T → ((x : ℕ) → x < w → k.capacity (s + x) ≤ B) →
      window k.charge s w ≤ up (w + (T - B)) T * B
  charges_kept s zero h f b = omega (arith, window_none k.charge s)
  charges_kept s (suc w) h f b = go (ledger s w (omega arith) (λ x l. b x (omega arith)))
    where
      least : (p : ℕ) → 0 < T → p * T < suc w + (T - B) → suc p * B ≤ up (suc w + (T - B)) T * B
      least p t l = mul-le-mul_right B (lt_up (suc w + (T - B)) T p t l)

      go : Ledger T B k s w (s + w) → window k.charge s (suc w) ≤ up (suc w + (T - B)) T * B
      go (within l1 l2 l3 l4) =
          let i = a.inside s (omega arith) in
          omega (arith, least 0 (omega arith) (omega arith))
      go (across p g l1 l2 l3 l4 l5 l6) =
          let i = a.inside s (omega arith) in
          let o = a.once (s + w) (omega arith) in
          elim (le_or_lt (g + (k.used (s + w) + k.charge (s + w))) B) [
            | inl m ↦ omega (arith, least p (omega arith) (omega arith))
            | inr m ↦ omega (arith, least (suc p) (omega arith) (omega arith))
          ]

  -- In a window before which nothing was left over.
  pub charges_clean : (s w : ℕ) → s + w ≤ n → Clean B k s → ((x : ℕ) → x < w → k.capacity (s + x) ≤ B) →
      window k.charge s w ≤ up w T * B
  charges_clean s zero h f b = omega (arith, window_none k.charge s)
  charges_clean s (suc w) h f b = go (ledger s w (omega arith) (λ x l. b x (omega arith))) f
    where
      least : (p : ℕ) → 0 < T → p * T < suc w → suc p * B ≤ up (suc w) T * B
      least p t l = mul-le-mul_right B (lt_up (suc w) T p t l)

      go : Ledger T B k s w (s + w) → Clean B k s → window k.charge s (suc w) ≤ up (suc w) T * B
      go (within l1 l2 l3 l4) c =
          let i = a.inside s (omega arith) in
          omega (arith, least 0 (omega arith) (omega arith))
      go (across p g l1 l2 l3 l4 l5 l6) (inl e) =
          let i = a.inside s (omega arith) in
          omega (arith, least (suc p) (omega arith) (omega arith))
      go (across p g l1 l2 l3 l4 l5 l6) (inr e) =
          let i = a.inside s (omega arith) in
          omega (arith, least p (omega arith) (omega arith))

  -- In a period, from its first tick on: at most the capacity.
  pub charges_period : (s w : ℕ) → s + w ≤ n → w ≤ T → k.elapsed s ≡ 0 → ((x : ℕ) → x < w → k.capacity (s + x) ≤ B) →
      window k.charge s w ≤ B
  charges_period s zero h f e b = omega (arith, window_none k.charge s)
  charges_period s (suc w) h f e b = go (ledger s w (omega arith) (λ x l. b x (omega arith)))
    where
      go : Ledger T B k s w (s + w) → window k.charge s (suc w) ≤ B
      go (within l1 l2 l3 l4) = omega arith
      go (across p g l1 l2 l3 l4 l5 l6) = absurd (omega arith)

module _ (T n : ℕ) (k : Course) (a : Account T n k) where
  -- used never passes elapsed, if it did not at first
  pub used_low : k.used 0 ≤ k.elapsed 0 → (x : ℕ) → x < n → k.used x ≤ k.elapsed x
  used_low h zero l = h
  used_low h (suc x) l = go (a.next x l) (used_low h x (omega arith))
    where
      go : Next T k x → k.used x ≤ k.elapsed x → k.used (suc x) ≤ k.elapsed (suc x)
      go (goes e1 e2 e3) i = omega arith
      go (refills e1 e2 e3) i = omega arith

  -- in a period, used is what was charged since its first tick
  since : (s : ℕ) → k.elapsed s ≡ 0 → k.used s ≡ 0 → (w : ℕ) → w < T → s + w < n →
      (k.used (s + w) ≡ window k.charge s w) × (k.elapsed (s + w) ≤ w)
  since s e u zero h l = rw (add-zero s, window_none k.charge s) (omega arith)
  since s e u (suc w) h l =
      rw
      (add-suc s w, window_next k.charge s w)
      (go (a.next (s + w) (omega (arith, add-suc s w))) (since s e u w (omega arith) (omega arith)))
    where
      go : Next T k (s + w) → (k.used (s + w) ≡ window k.charge s w) × (k.elapsed (s + w) ≤ w) →
          (k.used (suc (s + w)) ≡ window k.charge s w + k.charge (s + w)) × (k.elapsed (suc (s + w)) ≤ suc w)
      go (goes e1 e2 e3) i = omega arith
      go (refills e1 e2 e3) i = absurd (omega arith)

  pub used_since : (s : ℕ) → k.elapsed s ≡ 0 → k.used s ≡ 0 → (w : ℕ) → w < T → s + w < n →
      k.used (s + w) ≡ window k.charge s w
  used_since s e u w h l = (since s e u w h l).0
