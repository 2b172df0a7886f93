-- A line that is held: what is held of a line says what the line says, and with more bytes it is
-- held as the line with them is. Lines that are longer than every event line are held as one, and
-- say the same. Assumes nothing.
use mathlib.Core.Path.{◌≡◌, refl, sym, ap, ◌∙◌}
use mathlib.Core.List.{List, [], ◌++◌, append-nil}
use mathlib.Core.Logic.{◌⊎◌, inl, inr}
use Prim.Native.Nat.{ℕ, suc, ◌+◌, ◌-◌, ◌≤◌, ◌<◌}
use native.Mathlib.Omega.{arith}
use lib.ListN.{length, take, replicate, length-append, length-replicate}
use lib.Seq.{take-append_seam}
use lib.Seq.{length-take-le}
use borrow.Author.Tests.{le-leb, lt-leb}
use Rattle.laws.proofs.Choice.{le_or_lt}
use Rattle.lines.specs.declared.Held.{Held}
use Rattle.lines.specs.EventLine.{event_line}
use Rattle.lines.specs.HeldLine.{longest, too_long, line_in, held_of}
use Rattle.lines.proofs.EventLine.{long_another}

pub line_in_lem : (h : Held) → h.len ≤ longest → line_in h ≡ take h.len h.bytes
unfolding line_in
line_in_lem h l = rw (le-leb h.len longest l)

pub line_long : (h : Held) → longest < h.len → line_in h ≡ replicate (suc longest) 0
unfolding line_in
line_long h l = rw (lt-leb h.len longest l)

-- how a line is held
abbrev padded : List ℕ → List ℕ
padded l = l ++ replicate (longest - length l) 0

held_short : (l : List ℕ) → length l ≤ longest → held_of l ≡ record { bytes = padded l; len = length l }
unfolding held_of
held_short l h = rw (le-leb (length l) longest h)

held_long : (l : List ℕ) → longest < length l → held_of l ≡ too_long
unfolding held_of
held_long l h = rw (lt-leb (length l) longest h)

-- a line that is too long, as it is read back
back_long : line_in too_long ≡ replicate (suc longest) 0
unfolding too_long
back_long = line_long too_long (omega arith)

pub many_long : longest < length (replicate {A = ℕ} (suc longest) 0)
many_long = omega (arith, length-replicate {A = ℕ} (suc longest) 0)

-- what is held of a line is the line, or both are too long
pub line_held : (l : List ℕ) →
    (line_in (held_of l) ≡ l) ⊎ ((longest < length (line_in (held_of l))) × (longest < length l))
line_held l = go (le_or_lt (length l) longest)
  where
    go : (length l ≤ longest) ⊎ (longest < length l) →
        (line_in (held_of l) ≡ l) ⊎ ((longest < length (line_in (held_of l))) × (longest < length l))
    go (inl h) =
        inl
        (rw (held_short l h)
        (line_in_lem (record { bytes = padded l; len = length l }) h ∙ take-append_seam l
        (replicate (longest - length l) 0)))
    go (inr h) = inr (rw (held_long l h, back_long) many_long, h)

-- it says the same
pub held_says_lem : (l : List ℕ) → event_line (line_in (held_of l)) ≡ event_line l
held_says_lem l = go (line_held l)
  where
    go : (line_in (held_of l) ≡ l) ⊎ ((longest < length (line_in (held_of l))) × (longest < length l)) →
        event_line (line_in (held_of l)) ≡ event_line l
    go (inl e) = ap event_line e
    go (inr h) = sym (long_another (line_in (held_of l)) h.0) ∙ long_another l h.1

-- and with more bytes it is held alike
pub held_more : (l p : List ℕ) → held_of (line_in (held_of l) ++ p) ≡ held_of (l ++ p)
held_more l p = go (line_held l)
  where
    go : (line_in (held_of l) ≡ l) ⊎ ((longest < length (line_in (held_of l))) × (longest < length l)) →
        held_of (line_in (held_of l) ++ p) ≡ held_of (l ++ p)
    go (inl e) = ap (λ x. held_of (x ++ p)) e
    go (inr h) =
        held_long (line_in (held_of l) ++ p) (omega (arith, length-append (line_in (held_of l)) p, h.0)) ∙
        sym (held_long (l ++ p) (omega (arith, length-append l p, h.1)))

-- So two lines that are held alike say the same, and stay alike with more bytes.
pub alike_says : (l m : List ℕ) → held_of l ≡ held_of m → event_line l ≡ event_line m
alike_says l m e = sym (held_says_lem l) ∙ ap (λ h. event_line (line_in h)) e ∙ held_says_lem m

pub alike_more : (l m p : List ℕ) → held_of l ≡ held_of m → held_of (l ++ p) ≡ held_of (m ++ p)
alike_more l m p e = sym (held_more l p) ∙ ap (λ h. held_of (line_in h ++ p)) e ∙ held_more m p

pub held_again : (l : List ℕ) → held_of (line_in (held_of l)) ≡ held_of l
held_again l = rw (append-nil (line_in (held_of l)), append-nil l) at (held_more l [])

-- nothing is held
pub none_held : line_in (held_of []) ≡ []
unfolding line_in held_of longest
none_held = refl

pub empty_held : (h : Held) → h.len ≡ 0 → line_in h ≡ []
empty_held h e = line_in_lem h (omega arith) ∙ rw e

-- The bytes of h, part behind them, and zeros behind these.
pub held_with : (h : Held) (part zeros : List ℕ) → h.len ≤ longest → length h.bytes ≡ longest →
    length part ≤ longest - h.len → zeros ≡ replicate (longest - (h.len + length part)) 0 →
    ◌≡◌ {A = Held} (record { bytes = (take h.len h.bytes ++ part) ++ zeros; len = h.len + length part })
    (held_of (line_in h ++ part))
held_with h part zeros low long fits e =
    let x = take h.len h.bytes ++ part in
    let n : length x ≡ h.len + length part =
    omega (arith, length-append (take h.len h.bytes) part, length-take-le h.len h.bytes (omega arith)) in
    rw (e, line_in_lem h low, held_short x (omega arith), n)

-- one that is too long already, and one that is with the bytes
pub past_long : (h : Held) (part : List ℕ) → longest < h.len → too_long ≡ held_of (line_in h ++ part)
past_long h part l =
    sym (held_long (line_in h ++ part) (omega (
      arith,
      length-append (line_in h) part,
      ap length (line_long h l),
      many_long,
    )))

pub past_part : (h : Held) (part : List ℕ) → h.len ≤ longest → length h.bytes ≡ longest →
    longest - h.len < length part →
    too_long ≡ held_of (line_in h ++ part)
past_part h part l e g =
    sym
    (held_long (line_in h ++ part)
    (omega (
      arith,
      length-append (line_in h) part,
      ap length (line_in_lem h l),
      length-take-le h.len h.bytes (omega arith),
    )))
