-- Slots and ticks, worked out by hand from the words of request No. 6, and computed. A slip in a
-- definition shows here as an equation that is false. Assumes nothing.
use mathlib.Core.Path.{◌≡◌, refl}
use mathlib.Core.Bool.{true}
use mathlib.Core.List.{[], ◌∷◌, map}
use Prim.Native.Nat.{◌-◌}
use lib.Dec.{leb, ltb}
use Rattle.laws.specs.Rows.{sum_below}
use Rattle.slots.specs.Frame.{measuring, alarm_sending, panel, rule_of, owner_at, held_by, stretch, assured}

-- slots 0 to 11: "measuring if i mod 12 is 0, 3, 6 or 9, to alarm sending if it is 1 or 7, else to
-- the panel"
pub first_twelve :
    map rule_of (0 ∷ 1 ∷ 2 ∷ 3 ∷ 4 ∷ 5 ∷ 6 ∷ 7 ∷ 8 ∷ 9 ∷ 10 ∷ 11 ∷ []) ≡
    measuring ∷ alarm_sending ∷ panel ∷ measuring ∷ panel ∷ panel
    ∷ measuring ∷ alarm_sending ∷ panel ∷ measuring ∷ panel ∷ panel ∷ []
unfolding rule_of
first_twelve = refl

-- and the next, by the same remainders
pub thirteenth_on : map rule_of (12 ∷ 13 ∷ 14 ∷ []) ≡ measuring ∷ alarm_sending ∷ panel ∷ []
unfolding rule_of
thirteenth_on = refl

-- "slots 600 to 611 all belong to measuring for the self_test": without it 601 and 607 would be
-- alarm sending's and 611 the panel's
pub self_test : map rule_of (600 ∷ 601 ∷ 607 ∷ 611 ∷ []) ≡ measuring ∷ measuring ∷ measuring ∷ measuring ∷ []
unfolding rule_of
self_test = refl

-- and no other slot does: 612 is measuring's by its remainder
pub beside_the_self_test :
    map rule_of (599 ∷ 612 ∷ 613 ∷ 614 ∷ []) ≡ panel ∷ measuring ∷ alarm_sending ∷ panel ∷ []
unfolding rule_of
beside_the_self_test = refl

pub last_slot : rule_of 1199 ≡ panel
unfolding rule_of
last_slot = refl

-- "Tick t has slot t mod 1,200.": 0, 1,199, 0, 1 and, of the last tick that is taken, 400
pub ticks_round :
    map owner_at (0 ∷ 1199 ∷ 1200 ∷ 1201 ∷ 4000000000 ∷ []) ≡
    measuring ∷ panel ∷ measuring ∷ alarm_sending ∷ panel ∷ []
unfolding owner_at rule_of
ticks_round = refl

-- of 12 slots in a row 2 are alarm sending's, of the self-test's none, and round the end, from 1,194
-- to 5, 2
pub alarms_of_12 : map (λ s. held_by alarm_sending s 12) (0 ∷ 600 ∷ 1194 ∷ []) ≡ 2 ∷ 0 ∷ 2 ∷ []
unfolding held_by sum_below owner_at rule_of
alarms_of_12 = refl

-- of the 24 slots from 596 on, with the self_test among them, two are alarm sending's, 613 and 619
pub thinnest : leb assured (held_by alarm_sending 596 stretch) ≡ true
unfolding held_by sum_below owner_at rule_of
thinnest = refl

-- of the 23 from there on one is, 613
pub one_slot_fewer : ltb (held_by alarm_sending 596 (stretch - 1)) assured ≡ true
unfolding held_by sum_below owner_at rule_of
one_slot_fewer = refl
