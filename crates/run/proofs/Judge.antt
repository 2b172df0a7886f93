-- Judging a job at its limit, "after a rise, judge again at the new limit": since limits do not
-- fall, a job that stays is below its limit in the mode that was reached, and one that is cut is at
-- it. Each law is one of any mode; that three judgements are enough for three modes is said by
-- their heights. Assumes nothing.
use mathlib.Core.Path.{◌≡◌, refl}
use mathlib.Core.Bool.{true, false}
use Prim.Native.Nat.{ℕ, zero, suc, ◌+◌, ◌≤◌, ◌<◌}
use native.Mathlib.Omega.{arith}
use lib.Dec.{eqb}
use borrow.Author.Tests.{eqb-true, eqb-false, eq-eqb, ne_eqb, ltb-true}
use Rattle.laws.proofs.Choice.{clash, if_ind}
use Rattle.table.specs.declared.ByMode.{ByMode}
use Rattle.table.specs.declared.Level.{Level}
use Rattle.table.specs.declared.Level.TheVariants.{LO, MI, HI}
use Rattle.table.specs.declared.Mode.{Mode}
use Rattle.table.specs.declared.Mode.TheVariants.{N, D1, D2}
use Rattle.table.specs.declared.Task.{Task}
use Rattle.table.specs.Rows.{in_mode}
use Rattle.run.specs.declared.Judged.{Judged}
use Rattle.run.specs.Tick.{height, counts_as, raises, raised, judge}
use Rattle.units.specs.declared.Ticks.{Ticks}

-- "its run count equals its limit in the present mode": a job that is not at its limit stays, and
-- so does the mode.
pub below_limit : (n : ℕ) (k : Task) (c : ℕ) (m : Mode) → (c ≡ (in_mode k.limit m).0 → ⊥) →
    judge (suc n) k c m ≡ record { mode = m; cut = false }
unfolding judge
below_limit n k c m h = rw (ne_eqb c (in_mode k.limit m).0 h)

-- "at its limit a job raises the mode only if its level lies above the present one"; "After a rise,
-- judge again at the new limit."
pub raises_mode : (n : ℕ) (k : Task) (c : ℕ) (m : Mode) → c ≡ (in_mode k.limit m).0 → raises m k.level ≡ true →
    judge (suc n) k c m ≡ judge n k c (raised m)
unfolding judge
raises_mode n k c m h u = rw (eq-eqb c (in_mode k.limit m).0 h, u)

-- "otherwise it is cut"
pub is_cut : (n : ℕ) (k : Task) (c : ℕ) (m : Mode) → c ≡ (in_mode k.limit m).0 → raises m k.level ≡ false →
    judge (suc n) k c m ≡ record { mode = m; cut = true }
unfolding judge
is_cut n k c m h u = rw (eq-eqb c (in_mode k.limit m).0 h, u)

-- limits that do not fall
pub record Rises (x : ByMode Ticks) : Type 0 where
  pub first : (in_mode x N).0 ≤ (in_mode x D1).0
  pub next : (in_mode x D1).0 ≤ (in_mode x D2).0

-- what became of a job of task k that has run c ticks and was judged in mode m
pub record JudgedRight (k : Task) (c : ℕ) (m : Mode) (j : Judged) : Type 0 where
  pub up : (x : ByMode Ticks) → Rises x → (in_mode x m).0 ≤ (in_mode x j.mode).0
  pub stays : j.cut ≡ false → c < (in_mode k.limit j.mode).0
  pub cut : j.cut ≡ true → c ≡ (in_mode k.limit j.mode).0

-- it is below its limit, or it is cut at it
stays_right : (k : Task) (c : ℕ) (m : Mode) → c < (in_mode k.limit m).0 → JudgedRight k c m (record { mode = m; cut = false })
stays_right k c m h = record { up = λ x r. omega arith; stays = λ e. h; cut = λ e. absurd (clash false e refl) }

cut_right : (k : Task) (c : ℕ) (m : Mode) → c ≡ (in_mode k.limit m).0 → JudgedRight k c m (record { mode = m; cut = true })
cut_right k c m h = record { up = λ x r. omega arith; stays = λ e. absurd (clash true refl e); cut = λ e. h }

-- Levels and modes: there are three heights, a job that raises the mode raises it by one, and its
-- limit does not fall.
pub height_at_most : (l : Level) → height l ≤ 2
height_at_most LO = omega arith
height_at_most MI = omega arith
height_at_most HI = omega arith

pub raised_by_one : (m : Mode) (l : Level) → height (counts_as m) < height l →
    height (counts_as (raised m)) ≡ height (counts_as m) + 1
raised_by_one N l h = refl
raised_by_one D1 l h = refl
raised_by_one D2 l h = absurd (omega (arith, height_at_most l))

limit_raised : (x : ByMode Ticks) → Rises x → (m : Mode) → (in_mode x m).0 ≤ (in_mode x (raised m)).0
limit_raised x r N = r.first
limit_raised x r D1 = r.next
limit_raised x r D2 = omega arith

-- So n judgements are enough from mode m on, if n and its height make 3.
abbrev pub Enough : ℕ → Mode → Type 0
Enough n m = 3 ≤ n + height (counts_as m)

pub enough_raised : (n : ℕ) (m : Mode) (l : Level) → height (counts_as m) < height l → Enough (suc n) m →
    Enough n (raised m)
enough_raised n m l u h = omega (arith, raised_by_one m l u)

judged_so : (n : ℕ) (k : Task) (c : ℕ) (m : Mode) → Enough n m → Rises k.limit → c ≤ (in_mode k.limit m).0 →
    JudgedRight k c m (judge n k c m)
unfolding judge
judged_so zero k c m h r l = absurd (omega (arith, height_at_most (counts_as m)))
judged_so (suc n) k c m h r l =
    if_ind
    (JudgedRight k c m)
    (eqb c (in_mode k.limit m).0)
    (λ e.
    if_ind
    (JudgedRight k c m)
    (raises m k.level)
    (λ u.
    let up = limit_raised k.limit r m in
    let j =
    judged_so n k c (raised m)
    (enough_raised n m k.level (ltb-true (height (counts_as m)) (height k.level) u) h)
    r (omega (arith, up)) in
    record { up = λ x q. omega (arith, limit_raised x q m, j.up x q); stays = j.stays; cut = j.cut })
    (λ u. cut_right k c m (eqb-true c (in_mode k.limit m).0 e)))
    (λ e. stays_right k c m (omega (arith, eqb-false c (in_mode k.limit m).0 e)))

pub judged_right : (k : Task) (c : ℕ) (m : Mode) → Rises k.limit → c ≤ (in_mode k.limit m).0 →
    JudgedRight k c m (judge 3 k c m)
judged_right k c m = judged_so 3 k c m (omega arith)
