-- `report::count::no_counts` meets its contract: each column of a default is zeros. Assumes nothing.
use mathlib.Core.Path.{◌≡◌, refl, ap₂}
use mathlib.Core.List.{List, [], ◌∷◌}
use Prim.Native.Nat.{ℕ, suc, ◌<◌}
use native.Mathlib.Omega.{arith}
use lib.ListN.{length, get_or, replicate}
use Rattle.std.specs.Array.{AllOfLen}
use Rattle.report.specs.declared.count.Counts.{Counts}
use Rattle.report.specs.Inner.Count.{no_counts}
use Rattle.report.proofs.count.no_counts.Goals as goal

-- numbers that are all 0
zeros_here : (xs : List ℕ) → ((i : ℕ) → i < length xs → get_or xs i 0 ≡ 0) → xs ≡ replicate (length xs) 0
zeros_here [] h = refl
zeros_here (x ∷ xs) h = ap₂ (λ y ys. y ∷ ys) (h 0 (omega arith)) (zeros_here xs (λ i l. h (suc i) (omega arith)))

abbrev Zeros : List ℕ → ℕ → Type 0
Zeros xs n = AllOfLen (λ x. x ≡ 0) xs n

zeros : {xs : List ℕ} {n : ℕ} → Zeros xs n → xs ≡ replicate n 0
zeros {xs} q = rw q.long at (zeros_here xs (λ i l. q.at i 0 (omega (arith, q.long))))

-- what the derived default says of its columns
columns : (r : Counts) → Zeros r.charged 32 × (Zeros r.empty 32 × (Zeros r.row 32 × (Zeros r.longest 32
    × (Zeros r.finished 64 × (Zeros r.cut 64 × (Zeros r.discarded 64 × Zeros r.modes 3)))))) →
    record {
      charged = r.charged;
      empty = r.empty;
      row = r.row;
      longest = r.longest;
      finished = r.finished;
      cut = r.cut;
      discarded = r.discarded;
      modes = r.modes;
    }
    ≡ no_counts
columns r (a, (b, (d, (e, (f, (g, (h, m))))))) =
    rw (zeros a, zeros b, zeros d, zeros e, zeros f, zeros g, zeros h, zeros m)

pub returns : goal.returns
returns c = columns c.default.result c.default.ensures
