-- The servers that delay a row, as a loop over the rows finds them: those found so far ask what the
-- rows passed ask. Assumes nothing.
use Rattle.std.specs.Prelude.{if◌then◌else◌}
use mathlib.Core.Path.{◌≡◌, refl, ap, subst, ◌∙◌}
use mathlib.Core.Bool.{Bool, true, false}
use mathlib.Core.List.{List}
use Prim.Native.Nat.{ℕ, ◌+◌, ◌*◌, ◌≤◌, ◌<◌}
use native.Mathlib.Omega.{arith}
use native.Mathlib.Nat.{add-zero}
use lib.Dec.{ltb}
use lib.ListN.{length, get_or, set, take, length-set}
use lib.Seq.{get_or-take}
use borrow.Author.Tests.{lt-ltb}
use Rattle.std.proofs.lemmas.List.{take_more_set}
use Rattle.std.proofs.lemmas.List.Sums.{sum_by_push}
use Rattle.laws.specs.Rows.{sum_below}
use Rattle.laws.specs.RoundUp.{up}
use Rattle.laws.proofs.Rows.{sum_next}
use Rattle.table.specs.declared.Kind.{Kind}
use Rattle.table.specs.declared.Kind.TheVariants.{Event, Timed}
use Rattle.table.specs.declared.Mode.{Mode}
use Rattle.table.specs.declared.Table.{Table}
use Rattle.table.specs.declared.Server.{Server}
use Rattle.table.specs.Rows.{no_server, in_mode, server_at, priority_at, period_at, capacity_at}
use Rattle.verdict.specs.declared.delayer.Delayer.{Delayer}
use Rattle.verdict.specs.Verdict.{demand, demand_at, interference}
use Rattle.verdict.specs.Inner.{late_of, Delays, asked_by, interference_in, Delaying}
use Rattle.verdict.proofs.Interference.{part_at, part_lower}

-- the term of each kind
demand_late : (k : Kind) (t c r : ℕ) → up (r + late_of k t c) t * c ≡ demand k t c r
demand_late Timed t c r = rw (add-zero r)
demand_late Event t c r = refl

demand_none : (k : Kind) (t c r : ℕ) → c ≡ 0 → demand k t c r ≡ 0
demand_none Timed t c r e = rw e (omega arith)
demand_none Event t c r e = rw e (omega arith)

module _ (t : Table) (m : Mode) (i r j : ℕ) where
  -- a row of higher priority adds what it asks, none where it has no capacity
  part_higher : (d : Delayer) → priority_at t i < priority_at t j →
      Delays (server_at t j).kind (period_at t j) (capacity_at t m j) d → asked_by d r ≡ part_at t m i r j
  part_higher d h e =
      rw (e.late_is, e.period_is, e.capacity_is, lt-ltb (priority_at t i) (priority_at t j) h)
      (demand_late (server_at t j).kind (period_at t j) (capacity_at t m j) r)

  part_none : capacity_at t m j ≡ 0 → part_at t m i r j ≡ 0
  part_none e = go (ltb (priority_at t i) (priority_at t j))
    where
      go : (b : Bool) → (if b then demand_at t m r j else 0) ≡ 0
      go true = demand_none (server_at t j).kind (period_at t j) (capacity_at t m j) r e
      go false = refl

-- a row in use, as a loop over the rows reads it
pub at_hand : (t : Table) (i : ℕ) → i < t.nservers → get_or (take t.nservers t.servers) i no_server ≡ server_at t i
at_hand t i h = get_or-take t.nservers t.servers i no_server h

pub delays_at : (t : Table) (m : Mode) (i : ℕ) (s : Server) (c : ℕ) (d : Delayer) → s ≡ server_at t i →
    c ≡ (in_mode s.capacity m).0 → Delays s.kind s.period.0 c d →
    Delays (server_at t i).kind (period_at t i) (capacity_at t m i) d
delays_at t m i s c d e f k =
    subst (λ (x : Server). Delays x.kind x.period.0 (in_mode x.capacity m).0 d) e
    (subst (λ (y : ℕ). Delays s.kind s.period.0 y d) f k)

-- n servers are found: those of the first i rows that delay row k
pub record Passed (t : Table) (m : Mode) (k i n : ℕ) (ds : List Delayer) : Type 0 where
  pub few : n ≤ i
  pub long : length ds ≡ 32
  pub asks : (r : ℕ) → interference_in (take n ds) r ≡ sum_below i (part_at t m k r)

module _ (t : Table) (m : Mode) (k : ℕ) (ds : List Delayer) where
  pub none_passed : length ds ≡ 32 → Passed t m k 0 0 ds
  unfolding sum_below
  none_passed e = record { few = omega arith; long = e; asks = λ r. refl }

  module _ (i n : ℕ) (x : Passed t m k i n ds) where
    row_left : ((r : ℕ) → part_at t m k r i ≡ 0) → Passed t m k (i + 1) n ds
    row_left z =
        record {
          few = omega (arith, x.few);
          long = x.long;
          asks = λ r. omega (arith, x.asks r, sum_next (part_at t m k r) i, z r);
        }

    -- a row that is not higher, and one without capacity, is left out
    pub lower_passed : priority_at t i ≤ priority_at t k → Passed t m k (i + 1) n ds
    lower_passed h = row_left (λ r. part_lower t m k r i h)

    pub idle_passed : capacity_at t m i ≡ 0 → Passed t m k (i + 1) n ds
    idle_passed z = row_left (λ r. part_none t m k r i z)

    -- any other is put after those found
    pub higher_passed : (d : Delayer) → i < 32 → priority_at t k < priority_at t i →
        Delays (server_at t i).kind (period_at t i) (capacity_at t m i) d → Passed t m k (i + 1) (n + 1) (set ds n d)
    higher_passed d b h e =
        let l : n < length ds = omega (arith, x.few, x.long) in
        record {
          few = omega (arith, x.few);
          long = length-set ds n d ∙ x.long;
          asks =
              λ r.
              ap (λ xs. interference_in xs r) (take_more_set ds n d l)
              ∙ omega (
                arith,
                sum_by_push (λ y. asked_by y r) (take n ds) d,
                x.asks r,
                sum_next (part_at t m k r) i,
                part_higher t m k r i d h e,
              );
        }

    pub all_passed : i ≡ t.nservers → i ≤ 32 → Delaying t m k (record { count = n; delayers = ds })
    unfolding interference
    all_passed e h = record { few = omega (arith, x.few); asks = λ r. rw (← e) (x.asks r) }
