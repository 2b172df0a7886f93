-- A quoted text as bytes, and lines of it, each closed by a line feed. Every text that document 01
-- quotes has one byte a character.
use Rattle.std.specs.Prelude.{List, ◌++◌, [] as none, ◌∷◌ as ◌before◌, ℕ}
use Prim.Native.Char.{code}
use Prim.Native.String.{String, [], ◌∷◌}

abbrev pub bytes : String → List ℕ
bytes [] = none
bytes (c ∷ s) = ◌before◌ (code c) (bytes s)

abbrev pub lined : List String → List ℕ
lined none = none
lined (◌before◌ l ls) = bytes l ++ ◌before◌ 10 (lined ls)
