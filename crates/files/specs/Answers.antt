-- What the contracts of this crate say of a program's words, of reading and of writing. What the
-- operating system answers is not known, so each says what is made of it, whatever it is. Assumes
-- nothing.
use Rattle.std.specs.Prelude.{ℕ, zero, suc, ◌≤◌, ◌<◌, ◌≡◌, Bool, true, false, ◌&&◌, List, eqb, length, take, Result, Ok, Err, IfOk}
use Rattle.std.specs.IoError.{error_kind}
use Rattle.std.specs.declared.io.Error.{Error}
use Rattle.std.specs.declared.io.ErrorKind.{ErrorKind}
use Rattle.std.specs.declared.io.ErrorKind.TheVariants.{Interrupted}
use Rattle.laws.specs.Quoted.{bytes}
use Rattle.decimal.specs.Lines.{same}
use Rattle.files.specs.declared.Taken.{Taken}
use Rattle.files.specs.declared.How.{How}
use Rattle.files.specs.declared.How.TheVariants.{On, End, Failed}

-- `--help` is the only word after the program's name
unfoldable pub help_asked : ℕ → List ℕ → Bool
help_asked words first = eqb words 2 && same first (bytes "--help")

-- The system says with how many words the program was called, and which is the first of them.
pub record Asked (r : Bool) : Type 0 where
  pub told : ℕ
  pub first : List ℕ
  pub compared : r ≡ help_asked told first

-- The system says how many words the program was called with; the answer is whether they are as
-- many as asked.
pub record Called (words : ℕ) (r : Bool) : Type 0 where
  pub told : ℕ
  pub compared : r ≡ eqb told words

-- so many bytes can be cut from the front, and are so many
abbrev pub IsPrefixLen : ℕ → List ℕ → Type 0
IsPrefixLen n xs = (n ≤ length xs) × (n ≡ length (take n xs))

-- how a call ended that failed with an error of this kind: one that was interrupted is to be tried
-- again
abbrev pub failed_how : ErrorKind → How
failed_how Interrupted = On
failed_how _ = Failed

-- how a call that moves bytes ended, by what it answered: how many, none where there is no more, or
-- that it failed
abbrev pub how_of : Result ℕ Error → How
how_of (Ok zero) = End
how_of (Ok (suc n)) = On
how_of (Err error) = failed_how (error_kind error)

-- how many bytes it moved
abbrev pub moved : Result ℕ Error → ℕ
moved (Ok n) = n
moved (Err error) = 0

-- The system, asked to fill `room` bytes, answered `got`: how many, and no more than these, or an
-- error.
pub record Told (room : ℕ) (r : Taken) : Type 0 where
  pub got : Result ℕ Error
  pub within : IfOk got (λ n. n ≤ room)
  pub compared : r ≡ record { len = moved got; how = how_of got }

-- Of `many` bytes the system said that it took so many; the answer is whether these are all.
pub record Out (many : ℕ) (r : Bool) : Type 0 where
  pub taken : ℕ
  pub within : taken ≤ many
  pub compared : r ≡ eqb taken many

-- More bytes than there are are never written.
pub record First (room n : ℕ) (r : Bool) : Type 0 where
  pub beyond : room < n → r ≡ false
  pub first : n ≤ room → Out n r

-- The file came to its end
abbrev pub is_end : How → Bool
is_end On = false
is_end End = true
is_end Failed = false

-- How the last read of a file ended, and whether the system said that it took all that was made of it;
-- the answer is whether the file ended there and it did.
pub record Ended (r : Bool) : Type 0 where
  pub how : How
  pub taken : Bool
  pub compared : r ≡ (taken && is_end how)
