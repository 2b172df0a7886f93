-- 01, Tables: "Text is lines parted by tabs, each closed by a line feed, the last too". Event lines
-- and printed answers are parted and closed alike.
use Rattle.std.specs.Prelude.{ℕ, suc, Bool, true, false, ◌&&◌, List, [], ◌∷◌, ◌++◌, take, drop, ◌==◌}

abbrev pub tab : ℕ
tab = 9

abbrev pub line_feed : ℕ
line_feed = 10

-- the parts with one byte more at the front of the first
abbrev pub to_first : ℕ → List (List ℕ) → List (List ℕ)
to_first x [] = (x ∷ []) ∷ []
to_first x (p ∷ ps) = (x ∷ p) ∷ ps

-- What stands before, between and after the bytes b: one part more than there are such bytes. Of
-- text that is closed by line feeds the last part is empty.
unfoldable pub split : ℕ → List ℕ → List (List ℕ)
split b [] = [] ∷ []
split b (x ∷ xs) = elim (x == b) [ true ↦ [] ∷ split b xs | false ↦ to_first x (split b xs) ]

-- fields "parted by tabs"
unfoldable pub join : ℕ → List (List ℕ) → List ℕ
join b [] = []
join b (p ∷ []) = p
join b (p ∷ (q ∷ ps)) = p ++ (b ∷ join b (q ∷ ps))

-- lines, "each closed by a line feed, the last too"
unfoldable pub closed : List (List ℕ) → List ℕ
closed [] = []
closed (l ∷ ls) = l ++ (line_feed ∷ closed ls)

-- equal byte by byte
unfoldable pub same : List ℕ → List ℕ → Bool
same [] [] = true
same [] (y ∷ ys) = false
same (x ∷ xs) [] = false
same (x ∷ xs) (y ∷ ys) = x == y && same xs ys

-- the place of the first byte b of a list, or its length
unfoldable pub index_of : ℕ → List ℕ → ℕ
index_of b [] = 0
index_of b (x ∷ xs) = elim (x == b) [ true ↦ 0 | false ↦ suc (index_of b xs) ]

-- the bytes from one place up to, not including, another
unfoldable pub slice : ℕ → ℕ → List ℕ → List ℕ
slice from to l = drop from (take to l)
