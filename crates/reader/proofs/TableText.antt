-- A whole text, of whatever kind the table is, read line by line: what a loop at a line has yet to
-- find out is what is said of the lines from there on. Assumes nothing.
use Rattle.std.proofs.Common.{Ok}
use mathlib.Core.Path.{◌≡◌, sym, ap, ◌∙◌}
use mathlib.Core.List.{List, ◌∷◌}
use Prim.Native.Nat.{ℕ, suc, ◌+◌, ◌-◌, ◌≤◌, ◌<◌}
use native.Mathlib.Omega.{arith}
use native.Mathlib.Nat.{zero-add}
use lib.ListN.{length, take, drop, length-drop, drop_of_length-le}
use lib.Seq.{take_all, drop-drop}
use Rattle.decimal.specs.Lines.{line_feed, split}
use Rattle.decimal.specs.Inner.Fields.{first_line}
use Rattle.decimal.proofs.Lines.{split_some}
use Rattle.decimal.proofs.Inner.Fields.{line_closed, line_open, line_within}
use Rattle.table.specs.declared.Refusal.{Refusal}
use Rattle.table.specs.declared.Refusal.TheVariants.{Malformed}
use Rattle.text.specs.TableText.{refused_beside, line_told, TableText, read_lines}
use Rattle.text.proofs.Standing.{not_nil}
use Rattle.text.proofs.TableText.{from_line}
use Rattle.table.specs.Refusals.{breaks}
use Rattle.reader.specs.declared.forms.LineRead.{LineRead}
use Rattle.reader.specs.Inner.Lines.{line_read}

-- what is lent of the text, from a place on
lent : (text : List ℕ) (at : ℕ) → take (length text - at) (drop at text) ≡ drop at text
lent text at = take_all (length text - at) (drop at text) (omega (arith, length-drop at text))

-- the line at the front of it
pub line_lent : {L : Type 0} (says : List ℕ → L) (text : List ℕ) (at : ℕ) (r : LineRead L) →
    let part = take (length text - at) (drop at text) in
    r ≡ line_read part 0 (says (first_line part)) →
    (r.said ≡ says (first_line (drop at text))) × (r.end ≡ length (first_line (drop at text)))
line_lent {L} says text at r e =
    let f = rw (lent text at) at e in (
      ap (λ (x : LineRead L). x.said) f,
      ap (λ (x : LineRead L). x.end) f ∙ zero-add (length (first_line (drop at text))),
    )

-- where a line ends
pub within : (text : List ℕ) (at end : ℕ) → end ≡ length (first_line (drop at text)) → at ≤ length text → at + end ≤ length text
within text at end e h = omega (arith, e, line_within (drop at text), length-drop at text)

module _ {A L : Type 0} (k : TableText A L) where
  -- line n begins at `from` and ends at e
  module _ (n : ℕ) (a : A) (text : List ℕ) (from e : ℕ) (ends : e ≡ from + length (first_line (drop from text))) where
    pub from_unclosed : length text ≤ e → from < length text →
        refused_beside k.none Malformed n 0 ≡ read_lines k n a (split line_feed (drop from text))
    unfolding read_lines
    from_unclosed h g =
        rw (
          line_open (drop from text) (omega (arith, length-drop from text)),
          not_nil (drop from text) (omega (arith, length-drop from text)),
        )

    closed_at : e < length text →
        split line_feed (drop from text) ≡ first_line (drop from text) ∷ split line_feed (drop (e + 1) text)
    closed_at h =
        let m = length (first_line (drop from text)) in
        let q : from + suc m ≡ e + 1 = omega arith in
        rw (drop-drop (suc m) from text, q) at (line_closed (drop from text) (omega (arith, length-drop from text)))

    from_closed : (l : L) → e < length text → l ≡ k.says (first_line (drop from text)) →
        line_told k.none n (k.stands n a l) (read_lines k (n + 1) (k.grows a l) (split line_feed (drop (e + 1) text)))
        ≡ read_lines k n a (split line_feed (drop from text))
    from_closed l h q =
        rw (
          closed_at h,
          from_line
              k
              n
              a
              (first_line (drop from text))
              (split line_feed (drop (e + 1) text))
              (split_some line_feed (drop (e + 1) text)),
          q,
        )

    pub from_broken : (l : L) (why : Refusal) (field : ℕ) → e < length text →
        l ≡ k.says (first_line (drop from text)) → k.stands n a l ≡ breaks why field →
        refused_beside k.none why n field ≡ read_lines k n a (split line_feed (drop from text))
    from_broken l why field h q j = rw j at (from_closed l h q)

    pub from_kept : (l : L) (b : A) → e < length text → l ≡ k.says (first_line (drop from text)) →
        k.stands n a l ≡ Ok tt → b ≡ k.grows a l →
        read_lines k n a (split line_feed (drop from text)) ≡
        read_lines k (n + 1) b (split line_feed (drop (e + 1) text))
    from_kept l b h q j g =
        sym (rw j at (from_closed l h q))
        ∙ ap (λ x. read_lines k (n + 1) x (split line_feed (drop (e + 1) text))) (sym g)

  pub from_end : (n : ℕ) (a : A) (text : List ℕ) (from : ℕ) → length text ≤ from →
      k.ends n a ≡ read_lines k n a (split line_feed (drop from text))
  unfolding read_lines split
  from_end n a text from h = rw (drop_of_length-le text h)
