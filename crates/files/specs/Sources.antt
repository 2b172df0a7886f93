-- Which of what is opened is standard input: the one named `-`. Assumes nothing.
use Rattle.std.specs.Prelude.{◌≡◌, Bool, true, false, List, ℕ, Option, IfSome}
use Rattle.laws.specs.Quoted.{bytes}
use Rattle.decimal.specs.Lines.{same}
use Rattle.files.specs.declared.source.Source.{Source}
use Rattle.files.specs.declared.source.Source.TheVariants.{Input, Named}

abbrev pub is_input : {I F : Type 0} → Source I F → Bool
is_input (Input i) = true
is_input (Named f) = false

-- the bytes that are left to be read, where they are known
abbrev pub source_remaining : {I F : Type 0} → (I → Option (List ℕ)) → (F → Option (List ℕ)) → Source I F → Option (List ℕ)
source_remaining of_input of_file (Input i) = of_input i
source_remaining of_input of_file (Named f) = of_file f

-- The system says how a word reads; what was opened by it is standard input exactly if that is `-`.
pub record Opened {I F : Type 0} (r : Option (Source I F)) : Type 0 where
  pub name : List ℕ
  pub compared : IfSome r (λ s. is_input s ≡ same name (bytes "-"))
