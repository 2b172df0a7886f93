-- A turn of a program, by how the read ended, and the line that is held at the end of a file. Assumes
-- nothing.
use mathlib.Core.Path.{◌≡◌, refl, ap, ◌∙◌}
use mathlib.Core.Bool.{false}
use mathlib.Core.List.{List, [], ◌∷◌}
use Prim.Native.Nat.{ℕ, ◌+◌, ◌≤◌, ◌<◌}
use native.Mathlib.Omega.{arith}
use lib.ListN.{length, take, drop}
use lib.Seq.{length-take-le, take_at}
use Rattle.laws.proofs.Choice.{le_or_lt}
use mathlib.Core.Logic.{◌⊎◌, inl, inr}
use Rattle.decimal.specs.Number.{digits, digits_in}
use Rattle.decimal.specs.Lines.{join}
use Rattle.decimal.specs.Room.{Put}
use Rattle.decimal.proofs.Room.{put_fits}
use Rattle.events.specs.Boxes.{Box}
use Rattle.lines.specs.declared.Held.{Held}
use Rattle.lines.specs.HeldLine.{longest, line_in}
use Rattle.lines.specs.AnswerLine.{another_fields, closed_line}
use Rattle.lines.specs.Pieces.{piece_in, last_text}
use Rattle.lines.proofs.HeldLine.{line_in_lem, line_long, many_long}
use Rattle.files.specs.declared.How.{How}
use Rattle.files.specs.declared.How.TheVariants.{On, End, Failed}
use Rattle.files.specs.Turns.{turn_in}

-- A line is held exactly if its length is not 0.
line_some : (h : Held) → length h.bytes ≡ longest → 0 < h.len → 0 < length (line_in h)
line_some h l p = go (le_or_lt h.len longest)
  where
    go : (h.len ≤ longest) ⊎ (longest < h.len) → 0 < length (line_in h)
    go (inl q) = rw (line_in_lem h q) (omega (arith, length-take-le h.len h.bytes (omega arith)))
    go (inr q) = rw (line_long h q) (omega (arith, many_long))

pub last_some : (h : Held) → length h.bytes ≡ longest → 0 < h.len → last_text (line_in h) ≡ closed_line another_fields
last_some h l p = go (line_in h) (line_some h l p)
  where
    go : (x : List ℕ) → 0 < length x → last_text x ≡ closed_line another_fields
    go [] q = absurd (omega arith)
    go (b ∷ x) q = refl

another_long : length (closed_line another_fields) ≡ 7
unfolding digits digits_in join
another_long = refl

last_long : (l : List ℕ) → length (last_text l) ≤ 7
last_long [] = omega arith
last_long (b ∷ l) = omega (arith, another_long)

-- where the room holds it, it stands at the front
pub last_put : (l room left : List ℕ) (n : ℕ) → 7 ≤ length room → Put (last_text l) room 0 left n → take n left ≡ last_text l
last_put l room left n h p =
    let text = last_text l in
    let f = put_fits text (omega (arith, last_long l)) p in
    let m : length text ≡ n = omega (arith, f.1) in
    ap (take n) f.0 ∙ take_at text (drop (0 + length text) room) n m

-- A turn, by how the read ended.
module _ {S : Type 0} (b : Box S) (s : S) (h : Held) (how : How) (bytes : List ℕ) where
  pub turn_on : how ≡ On → piece_in b s h bytes ≡ turn_in b s h how bytes
  unfolding turn_in
  turn_on e = rw e

  pub turn_end : (text : List ℕ) → how ≡ End → text ≡ last_text (line_in h) →
      record { run = s; held = h; text = text; going = false } ≡ turn_in b s h how bytes
  unfolding turn_in
  turn_end text e t = rw (e, t)

  pub turn_failed : how ≡ Failed →
      record { run = s; held = h; text = []; going = false } ≡ turn_in b s h how bytes
  unfolding turn_in
  turn_failed e = rw e
