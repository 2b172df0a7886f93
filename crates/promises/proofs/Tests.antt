-- A test and what it asks: a comparison holds exactly if its inequality does, and two tests at once
-- exactly if both do. Assumes nothing.
use mathlib.Core.Path.{◌≡◌}
use mathlib.Core.Bool.{Bool, true, ◌&&◌}
use mathlib.Core.Logic.{◌↔◌}
use Prim.Native.Nat.{ℕ, ◌≤◌, ◌<◌}
use lib.Dec.{leb, ltb, eqb}
use borrow.Author.Tests.{leb-true, le-leb, ltb-true, lt-ltb, eqb-true, eq-eqb}
use Rattle.laws.specs.Choice.{within}
use Rattle.std.proofs.lemmas.Bool.{and_from}
use Rattle.std.specs.Cmp.{first_so, second_so}
use Rattle.laws.proofs.Choice.{within_low, within_high, is_within}
use Rattle.promises.specs.Condition1.{Within}

-- a test holds exactly if P is so
abbrev pub Tests : Bool → Type 0 → Type 0
Tests b P = (b ≡ true) ↔ P

pub is_le : (a b : ℕ) → Tests (leb a b) (a ≤ b)
is_le a b = (leb-true a b, le-leb a b)

pub is_lt : (a b : ℕ) → Tests (ltb a b) (a < b)
is_lt a b = (ltb-true a b, lt-ltb a b)

pub is_eq : (a b : ℕ) → Tests (eqb a b) (a ≡ b)
is_eq a b = (eqb-true a b, eq-eqb a b)

pub is_in : (l h x : ℕ) → Tests (within l h x) (Within l h x)
is_in l h x = (λ e. (within_low l h x e, within_high l h x e), λ p. is_within l h x p.0 p.1)

pub both : (a b : Bool) {P Q : Type 0} → Tests a P → Tests b Q → Tests (a && b) (P × Q)
both a b f g = (
  λ e. (f.0 (first_so a b e), g.0 (second_so a b e)),
  λ p. and_from a b (f.1 p.0) (g.1 p.1),
)

-- what `All` lists, one after the other
infixr 4 ◌and◌
abbrev pub ◌and◌ : {P Q : Type 0} → P → Q → P × Q
◌and◌ p q = (p, q)
