-- The line that fits prints, put field by field, and how short it is. Assumes nothing.
use mathlib.Core.Path.{◌≡◌, refl}
use mathlib.Core.List.{List, [], ◌∷◌, ◌++◌}
use Prim.Native.Nat.{ℕ, ◌≤◌, ◌<◌}
use native.Mathlib.Omega.{arith}
use lib.ListN.{length, length-append}
use Rattle.laws.specs.Quoted.{bytes}
use Rattle.decimal.specs.Number.{digits}
use Rattle.decimal.specs.Lines.{tab, line_feed, join, closed}
use Rattle.decimal.specs.Room.{Put}
use Rattle.decimal.proofs.Numbers.{digits_length}
use Rattle.decimal.proofs.Room.{put_more, put_field, put_last}
use Rattle.table.specs.declared.Mode.{Mode}
use Rattle.table.specs.declared.Mode.TheVariants.{N, D1, D2}
use Rattle.table.specs.declared.Table.{Table}
use Rattle.table.proofs.Rules.{few_servers}
use Rattle.verdict.specs.declared.Fits.{Fits}
use Rattle.verdict.specs.declared.Fits.TheVariants.{Yes, Miss}
use Rattle.verdict.specs.Fits.{fits_of}
use Rattle.verdict.proofs.Verdicts.{misses_exactly}
use Rattle.verdict.proofs.Fitting.{Answers, unsound, none, least_miss, fits_is}
use Rattle.lines.specs.Words.{no_word, mode_word}
use Rattle.fits.specs.Line.{fits_line}

module _ {d : List ℕ} {at : ℕ} {e1 : List ℕ} {k1 : ℕ} {e2 : List ℕ} {k2 : ℕ} {e3 : List ℕ} {k3 : ℕ} where
  -- `no` and a number
  pub no_put : (n : ℕ) → Put (no_word ++ (tab ∷ [])) d at e1 k1 → Put (digits n) e1 k1 e2 k2 →
      Put (line_feed ∷ []) e2 k2 e3 k3 →
      Put (closed (join tab (no_word ∷ digits n ∷ []) ∷ [])) d at e3 k3
  no_put n a b c = put_field no_word (digits n) [] a (put_last (digits n) b c)

  -- `no`, the mode and the row
  pub miss_put : (m : Mode) (i : ℕ) {e4 : List ℕ} {k4 : ℕ} {e5 : List ℕ} {k5 : ℕ} →
      Put (no_word ++ (tab ∷ [])) d at e1 k1 → Put (mode_word m) e1 k1 e2 k2 →
      Put (tab ∷ []) e2 k2 e3 k3 → Put (digits i) e3 k3 e4 k4 → Put (line_feed ∷ []) e4 k4 e5 k5 →
      Put (fits_line (Miss m i)) d at e5 k5
  miss_put m i a b c p q =
      put_field no_word (mode_word m) (digits i ∷ []) a
      (put_field (mode_word m) (digits i) [] (put_more (mode_word m) (tab ∷ []) b c) (put_last (digits i) p q))

pub yes_line : bytes "yes\n" ≡ fits_line Yes
unfolding join closed
yes_line = refl

-- A row has at most two digits, so no line is longer than 9 bytes.
mode_short : (m : Mode) → length (mode_word m) ≤ 2
mode_short N = omega arith
mode_short D1 = omega arith
mode_short D2 = omega arith

miss_short : (m : Mode) (i : ℕ) → i < 32 → length (fits_line (Miss m i)) ≤ 9
unfolding join closed
miss_short m i h =
    let ds = digits i in
    omega (
      arith,
      mode_short m,
      digits_length i 1 (omega arith),
      length-append (mode_word m) (tab ∷ ds),
      length-append (mode_word m ++ (tab ∷ ds)) (line_feed ∷ []),
    )

no_short : (n : ℕ) → n < 100 → length (closed (join tab (no_word ∷ digits n ∷ []) ∷ [])) ≤ 9
unfolding join closed
no_short n h = omega (arith, digits_length n 1 (omega arith), length-append (digits n) (line_feed ∷ []))

pub line_short : (t : Table) → length (fits_line (fits_of t)) ≤ 9
line_short t = go (fits_of t) (fits_is t)
  where
    go : (a : Fits) → Answers t a → length (fits_line a) ≤ 9
    go a (unsound e) = no_short 13 (omega arith)
    go a (none e f) = yes-short
      where
        yes-short : length (fits_line Yes) ≤ 9
        yes-short = rw (← yes_line) (omega arith)
    go a (least_miss m i l) =
        let s = ((misses_exactly t m i).0 l.missed).0 in
        miss_short m i (omega (arith, s.there, few_servers t s.keeps))
