-- 02, No. 6: the frame of the older cabinet, which "gives slots by a fixed frame of 1,200", by the
-- rule of its words, and how many slots in a row a partition has.
use Rattle.std.specs.Prelude.{◌||◌, List, ℕ, ◌+◌, ◌%◌, eqb, if◌then◌else◌}
use Rattle.laws.specs.Choice.{within, one_if}
use Rattle.laws.specs.Rows.{sum_below, listed}

-- "0 measuring, 1 alarm sending, 2 panel"
abbrev pub measuring : ℕ
measuring = 0

abbrev pub alarm_sending : ℕ
alarm_sending = 1

abbrev pub panel : ℕ
panel = 2

-- "Slot i belongs to measuring if i mod 12 is 0, 3, 6 or 9, to alarm sending if it is 1 or 7, else
-- to the panel"
abbrev pub by_remainder : ℕ → ℕ
by_remainder m =
    if eqb m 0 || (eqb m 3 || (eqb m 6 || eqb m 9)) then measuring
    else if eqb m 1 || eqb m 7 then alarm_sending
    else panel

-- "slots 600 to 611 all belong to measuring for the self_test"
unfoldable pub rule_of : ℕ → ℕ
rule_of i = if within 600 611 i then measuring else by_remainder (i % 12)

-- "Tick t has slot t mod 1,200."
unfoldable pub owner_at : ℕ → ℕ
owner_at t = rule_of (t % 1200)

-- the frame by the rule, slot after slot
unfoldable pub the_frame : List ℕ
the_frame = listed 1200 rule_of

-- how many of w slots in a row a partition has, from the slot of tick s on, "round the end too"
unfoldable pub held_by : ℕ → ℕ → ℕ → ℕ
held_by p s w = sum_below w (λ j. one_if (eqb (owner_at (s + j)) p))

-- "any 24 slots in a row, round the end too, hold at least 2 for alarm sending"
abbrev pub stretch : ℕ
stretch = 24

abbrev pub assured : ℕ
assured = 2
