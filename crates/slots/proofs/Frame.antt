-- What the frame gives: to each tick the owner of its slot, and to alarm sending two of any 24 slots
-- in a row. What holds from each of the 1,200 slots on, which is computed, holds from every tick on,
-- since the frame goes round. Assumes nothing.
use mathlib.Core.Path.{◌≡◌, refl, ap, ◌∙◌}
use mathlib.Core.Bool.{Bool, true}
use mathlib.Core.List.{List}
use mathlib.Core.Logic.{inl, inr}
use Prim.Native.Nat.{ℕ, zero, suc, ◌+◌, ◌-◌, ◌≤◌, ◌<◌, ◌%◌}
use native.Mathlib.Omega.{arith}
use lib.Dec.{leb, eqb}
use lib.ListN.{length, get_or}
use borrow.Author.Tests.{leb-true, ltb-true}
use Rattle.laws.specs.Choice.{one_if, within}
use Rattle.laws.specs.Rows.{all_below, sum_below}
use Rattle.laws.proofs.Choice.{within_high, le_or_lt}
use Rattle.laws.proofs.Rows.{all_at, sum_cong, listed_at, length_listed}
use Rattle.slots.specs.Frame.{measuring, alarm_sending, panel, rule_of, owner_at, the_frame}
use Rattle.slots.specs.Frame.{held_by, stretch, assured}
use Rattle.slots.proofs.Cases.{one_slot_fewer}

-- The frame has 1,200 slots, and each is its owner's by the rule.
pub frame_length : length the_frame ≡ 1200
unfolding the_frame
frame_length = length_listed 1200 rule_of

pub frame_is_the_rule : (i : ℕ) → i < 1200 → get_or the_frame i 0 ≡ rule_of i
unfolding the_frame
frame_is_the_rule i h = listed_at 1200 rule_of i 0 h

-- The slot of a tick is its owner's.
pub frame_owner : (t : ℕ) → get_or the_frame (t % 1200) 0 ≡ owner_at t
unfolding owner_at
frame_owner t = frame_is_the_rule (t % 1200) (omega arith)

-- the same of any copy of the frame
pub owner_in : (f : List ℕ) (t : ℕ) → f ≡ the_frame → get_or f (t % 1200) 0 ≡ owner_at t
owner_in f t e = ap (λ x. get_or x (t % 1200) 0) e ∙ frame_owner t

-- An owner is one of the three partitions.
slots_owned : all_below 1200 (λ i. within 0 2 (rule_of i)) ≡ true
unfolding all_below rule_of
slots_owned = refl

pub owner_high : (t : ℕ) → owner_at t ≤ panel
unfolding owner_at
owner_high t =
    within_high 0 2 (rule_of (t % 1200))
    (all_at (λ i. within 0 2 (rule_of i)) 1200 (t % 1200) slots_owned (omega arith))

-- Round the end: ticks with one slot have one owner, and as many slots from them on.
pub owner_round : (s t : ℕ) → s % 1200 ≡ t % 1200 → owner_at s ≡ owner_at t
unfolding owner_at
owner_round s t e = ap rule_of e

pub held_round : (p s w : ℕ) → held_by p s w ≡ held_by p (s % 1200) w
unfolding held_by
held_round p s w =
    sum_cong (λ j. one_if (eqb (owner_at (s + j)) p)) (λ j. one_if (eqb (owner_at (s % 1200 + j)) p)) w
    (λ j h. ap (λ x. one_if (eqb x p)) (owner_round (s + j) (s % 1200 + j) (omega arith)))

-- what is computed from each slot on holds from every tick on
from_every : (test : ℕ → Bool) (p w : ℕ) → all_below 1200 (λ s. test (held_by p s w)) ≡ true →
    (s : ℕ) → test (held_by p s w) ≡ true
from_every test p w e s =
    ap test (held_round p s w)
    ∙ all_at (λ i. test (held_by p i w)) 1200 (s % 1200) e (omega arith)

alarm_slots : all_below 1200 (λ s. leb assured (held_by alarm_sending s stretch)) ≡ true
unfolding all_below sum_below held_by owner_at rule_of
alarm_slots = refl

-- "any 24 slots in a row, round the end too, hold at least 2 for alarm sending"
pub two_of_24 : (s : ℕ) → assured ≤ held_by alarm_sending s stretch
two_of_24 s =
    leb-true assured (held_by alarm_sending s stretch) (from_every (leb assured) alarm_sending stretch alarm_slots s)

-- and never more than 4
few_slots : all_below 1200 (λ s. leb (held_by alarm_sending s 24) 4) ≡ true
unfolding all_below sum_below held_by owner_at rule_of
few_slots = refl

pub at_most_4_of_24 : (s : ℕ) → held_by alarm_sending s 24 ≤ 4
at_most_4_of_24 s =
    leb-true (held_by alarm_sending s 24) 4 (from_every (λ n. leb n 4) alarm_sending 24 few_slots s)

-- More slots in a row hold no fewer.
pub held_more : (p s w v : ℕ) → w ≤ v → held_by p s w ≤ held_by p s v
unfolding held_by sum_below
held_more p s w zero h = let e : w ≡ 0 = omega arith in rw e (omega arith)
held_more p s w (suc v) h =
    elim (le_or_lt w v) [
      | inl l ↦ omega (arith, held_more p s w v l)
      | inr l ↦ (let e : w ≡ suc v = omega arith in rw e (omega arith))
    ]

pub two_of_more : (s w : ℕ) → stretch ≤ w → assured ≤ held_by alarm_sending s w
two_of_more s w h = omega (arith, two_of_24 s, held_more alarm_sending s stretch w h)

-- 24 is the least such number: the 23 slots from 596 on hold one.
pub least_24 : (w : ℕ) → w < stretch → (s : ℕ) × (held_by alarm_sending s w < assured)
least_24 w h = (
  596,
  omega (
    arith,
    held_more alarm_sending 596 w (stretch - 1) (omega arith),
    ltb-true (held_by alarm_sending 596 (stretch - 1)) assured one_slot_fewer,
  ),
)

-- Of the whole frame measuring has 408 slots, alarm sending 198 and the panel 594.
pub shares : (held_by measuring 0 1200 ≡ 408) × (held_by alarm_sending 0 1200 ≡ 198) × (held_by panel 0 1200 ≡ 594)
unfolding sum_below held_by owner_at rule_of
shares = (refl, refl, refl)
