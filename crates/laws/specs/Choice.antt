-- Choosing by a test, and lists of tests. Tests are Bool: `ltb`, `leb`, `eqb` of lib.Dec, `not`,
-- `◌&&◌`, `◌||◌` of mathlib.Core.Bool.
use mathlib.Core.Bool.{Bool, true, ◌&&◌}
use Rattle.std.specs.Prelude.{List, [], ◌∷◌, ℕ, leb, ltb, if◌then◌else◌}

-- `m` unless the test holds.
infixr 5 unless◌say◌else◌
abbrev pub unless◌say◌else◌ : {A : Type 0} → Bool → A → A → A
unless◌say◌else◌ b m r = if b then r else m

-- every test of the list holds
unfoldable pub every : List Bool → Bool
every [] = true
every (b ∷ bs) = b && every bs

-- `x` lies from `low` to `high`
abbrev pub within : ℕ → ℕ → ℕ → Bool
within low high x = leb low x && leb x high

-- the larger of two numbers
abbrev pub larger : ℕ → ℕ → ℕ
larger a b = if ltb a b then b else a

-- a test as a number: 1 where it holds
abbrev pub one_if : Bool → ℕ
one_if b = if b then 1 else 0
