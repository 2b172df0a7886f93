-- 01, How we will read your contracts: "For each public function the contract settles the answer,
-- the next state and the lent bytes on every input, refused input too. Show that any two outcomes
-- allowed by it are equal". proofs/ shows it of each public function of the libraries, in a file
-- for each crate. It is said of the contract itself, by what rattle makes of its clauses for
-- callers: `Kinds.ps` and `Kinds.r` are the parameters and the result, `Reads.Asked` what the
-- `requires` asks of a call, and `Reads.Learnt` what the `ensures` tells of its outcome. κs are the
-- lifetimes, a the arguments.
use Rattle.std.specs.Prelude.{ℕ, ◌≡◌, List}
use contract.Lifetimes.{Lfts}
use denote.Triple.Clauses.{Lasts, at_exit}
use borrow.Fn.Kinds.{ParamKind, ResultKind, In, Out, Dens, res_t, ended_of}

module _ {n : ℕ} (ps : List (ParamKind n)) (r : ResultKind n) where
  -- An outcome of a call: "the answer", of which "the next state" is a part, and "the lent bytes",
  -- what the call leaves in each parameter that is a `&mut`. The others are as they were passed.
  pub record Outcome (κs : Lfts n) (a : Dens κs ps) : Type 0 where
    pub answer : (res_t r κs).Denot
    pub lent : Lasts (ended_of n ps r) κs a

  -- "allowed by it"
  abbrev pub Allowed : Out n ps r → (κs : Lfts n) (a : Dens κs ps) → Outcome κs a → Type 0
  Allowed learnt κs a x = learnt κs a x.answer (at_exit (ended_of n ps r) κs a x.lent)

  pub record OneOutcome (asked : In n ps) (learnt : Out n ps r) : Type 0 where
    -- "on every input, refused input too": nothing is asked
    pub every_input : (κs : Lfts n) (a : Dens κs ps) → asked κs a
    -- "any two outcomes allowed by it are equal"
    pub one_outcome : (κs : Lfts n) (a : Dens κs ps) (x y : Outcome κs a) → Allowed learnt κs a x →
        Allowed learnt κs a y → x ≡ y
