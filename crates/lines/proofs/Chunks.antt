-- Some numbers cut into parts of n each, as `as_chunks` lends them: part i is the n numbers from place
-- n * i on. Assumes nothing.
use Rattle.std.proofs.Common.{◌≡◌, List, ℕ, zero, suc, ◌+◌, ◌*◌, ◌/◌, ◌≤◌, ◌<◌, length, get_or, take, drop, refl, ◌∙◌, arith}
use Rattle.std.proofs.Math.Nat.{mul-zero, mul-suc}
use Rattle.std.proofs.Math.Seq.{drop-drop, length-take-le}
use Rattle.std.proofs.lemmas.List.{get_or-take}
use Rattle.std.specs.Simd.{first_chunks}

pub chunk_at : (n k i : ℕ) (xs d : List ℕ) → i < k → get_or (first_chunks n k xs) i d ≡ take n (drop (n * i) xs)
chunk_at n zero i xs d h = absurd (omega arith)
chunk_at n (suc k) zero xs d h = rw (mul-zero n)
chunk_at n (suc k) (suc i) xs d h =
    let e : n * suc i ≡ n + n * i = omega (arith, mul-suc n i) in
    chunk_at n k i (drop n xs) d (omega arith) ∙ rw (e, drop-drop (n * i) n xs)

chunks_length : (n k : ℕ) (xs : List ℕ) → length (first_chunks n k xs) ≡ k
chunks_length n zero xs = refl
chunks_length n (suc k) xs = omega (arith, chunks_length n k (drop n xs))

-- the first of these parts
abbrev pub parts : ℕ → ℕ → List ℕ → List (List ℕ)
parts n many xs = take many (first_chunks n (length xs / n) xs)

pub parts_length : (n many : ℕ) (xs : List ℕ) → many ≤ length xs / n → length (parts n many xs) ≡ many
parts_length n many xs l =
    length-take-le many (first_chunks n (length xs / n) xs) (omega (arith, chunks_length n (length xs / n) xs))

pub part_at : (n many i : ℕ) (xs d : List ℕ) → i < many → many ≤ length xs / n →
    get_or (parts n many xs) i d ≡ take n (drop (n * i) xs)
part_at n many i xs d h l =
    get_or-take many (first_chunks n (length xs / n) xs) i d h ∙ chunk_at n (length xs / n) i xs d (omega arith)
