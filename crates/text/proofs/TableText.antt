-- What the reader answers to a text, of whatever kind the table is, by the lines as they are
-- counted: part i of the text is line n + i where the first is line n. The first line that does not
-- stand is told; where all stand, what follows the last line feed is, and then the end. So a text
-- is taken exactly if its lines, each closed, all keep the rules where they stand, and it ends as
-- it should. Assumes nothing.
use Rattle.std.proofs.Common.{None, Option, Some, Err, Ok}
use mathlib.Core.Path.{◌≡◌, refl, sym, ap, subst, ◌∙◌}
use mathlib.Core.Bool.{Bool, true, false}
use mathlib.Core.List.{List, [], ◌∷◌, ◌++◌, map}
use mathlib.Core.Logic.{◌⊎◌, inl, inr}
use Prim.Native.Nat.{ℕ, zero, suc, ◌+◌, ◌≤◌, ◌<◌}
use native.Mathlib.Omega.{arith}
use native.Mathlib.Nat.{add-zero}
use lib.Dec.{leb}
use lib.ListN.{length, get_or, take, drop, length-drop, length-append, drop_of_length-le}
use lib.Seq.{drop-cons}
use borrow.Author.Tests.{leb-true, le-leb, lt-leb}
use Rattle.laws.specs.Choice.{unless◌say◌else◌}
use Rattle.laws.proofs.Choice.{if_ind}
use Rattle.laws.proofs.Rows.{upto}
use Rattle.decimal.specs.Lines.{line_feed, split}
use Rattle.table.specs.declared.Refusal.{Refusal}
use Rattle.table.specs.declared.Refusal.TheVariants.{Malformed, OutOfBounds}
use Rattle.text.specs.Standing.{is_nil}
use Rattle.text.specs.TableText.{Read, handed, handed_by, answer_in, HandsBack, ReadOf, refused_beside, pair_told, line_told, TableText, read_lines, read_text, LinesKeep, rows_grown, standing_of, Reading}
use Rattle.text.proofs.Standing.{is_nil_lem}
use Rattle.table.specs.Refusals.{breaks, Standing}
use Rattle.text.specs.declared.ReadError.TheVariants.{Refused}

-- the answer is no refusal: the text is taken, or two of its lines have equal priorities
abbrev pub NotRefused : Reading → Type 0
NotRefused r = (why : Refusal) (line field : ℕ) → r ≡ Err (Refused why line field) → ⊥

pub taken_not : {r : Reading} → r ≡ Ok tt → NotRefused r
taken_not e why line field f = let z : ◌≡◌ {A = ℕ} 0 1 = cc in omega arith

pub unless_not : {A : Type 0} (none : A) (b : Bool) (why : Refusal) (n : ℕ) (r : ReadOf A) →
    NotRefused (unless b say refused_beside none why n 0 else r).answer →
    (b ≡ true) × ((unless b say refused_beside none why n 0 else r) ≡ r)
unless_not none true why n r e = (refl, refl)
unless_not none false why n r e = absurd (e why n 0 refl)

pub pair_taken : {A : Type 0} (none : A) (top : ℕ) (p : Option (ℕ × ℕ)) (r : ReadOf A) →
    (pair_told none top p r).answer ≡ Ok tt → (p ≡ None) × (r.answer ≡ Ok tt)
pair_taken none top (Some (i, j)) r e = let z : ◌≡◌ {A = ℕ} 0 1 = cc in absurd (omega arith)
pair_taken none top None r e = (refl, e)

line_not : {A : Type 0} (none : A) (n : ℕ) (j : Standing) (r : ReadOf A) →
    NotRefused (line_told none n j r).answer → (j ≡ Ok tt) × NotRefused r.answer
line_not none n (Ok tt) r e = (refl, e)
line_not none n (Err f) r e = absurd (e f.why n f.field refl)

module _ {A L : Type 0} (k : TableText A L) where
  -- one line
  pub from_line : (n : ℕ) (a : A) (l : List ℕ) (ms : List (List ℕ)) → 0 < length ms →
      read_lines k n a (l ∷ ms) ≡
      line_told k.none n (k.stands n a (k.says l)) (read_lines k (n + 1) (k.grows a (k.says l)) ms)
  unfolding read_lines
  from_line n a l [] h = absurd (omega arith)
  from_line n a l (m ∷ ms) h = refl

  -- the standing of part i below the rows a, the first part being line n
  abbrev pub standing_at : ℕ → A → List (List ℕ) → ℕ → Standing
  standing_at n a ps i = standing_of k n a ps i

  -- of the parts after the first, the same
  next_standing : (n : ℕ) (a : A) (l : List ℕ) (ps : List (List ℕ)) (i : ℕ) →
      standing_at n a (l ∷ ps) (suc i) ≡ standing_at (n + 1) (k.grows a (k.says l)) ps i
  unfolding rows_grown
  next_standing n a l ps i = let e : n + suc i ≡ n + 1 + i = omega arith in rw (standing_at, standing_of, e)

  first_standing : (n : ℕ) (a : A) (l : List ℕ) (ps : List (List ℕ)) →
      standing_at n a (l ∷ ps) 0 ≡ k.stands n a (k.says l)
  unfolding rows_grown
  first_standing n a l ps = rw (standing_at, standing_of, add-zero n)

  -- what is answered from the first part on is what is answered below the parts that stand
  past_kept : (n : ℕ) (a : A) (ps : List (List ℕ)) (i : ℕ) → i < length ps →
      ((j : ℕ) → j < i → standing_at n a ps j ≡ Ok tt) →
      read_lines k n a ps ≡ read_lines k (n + i) (rows_grown k a (map k.says (take i ps))) (drop i ps)
  unfolding rows_grown
  past_kept n a ps zero h s = rw (add-zero n)
  past_kept n a [] (suc i) h s = absurd (omega arith)
  past_kept n a (l ∷ ps) (suc i) h s =
      let e : n + 1 + i ≡ n + suc i = omega arith in
      from_line n a l ps (omega arith) ∙ rw (sym (first_standing n a l ps) ∙ s 0 (omega arith))
      (past_kept (n + 1) (k.grows a (k.says l)) ps i (omega arith)
      (λ j g. sym (next_standing n a l ps j) ∙ s (suc j) (omega arith)) ∙ rw e)

  -- the first part but the last that does not stand is told
  pub first_told : (n : ℕ) (a : A) (ps : List (List ℕ)) (i : ℕ) (why : Refusal) (field : ℕ) →
      suc i < length ps → ((j : ℕ) → j < i → standing_at n a ps j ≡ Ok tt) →
      standing_at n a ps i ≡ breaks why field → read_lines k n a ps ≡ refused_beside k.none why (n + i) field
  first_told n a ps i why field h s b =
      let rows = rows_grown k a (map k.says (take i ps)) in
      let more : 0 < length (drop (suc i) ps) = omega (arith, length-drop (suc i) ps) in
      past_kept n a ps i (omega arith) s ∙ rw (drop-cons ps i [] (omega arith))
      (from_line (n + i) rows (get_or ps i []) (drop (suc i) ps) more ∙ rw b)

  -- all parts but the last, which is part c, stand
  pub all_told_lem : (n : ℕ) (a : A) (ps : List (List ℕ)) (c : ℕ) → length ps ≡ suc c →
      ((j : ℕ) → j < c → standing_at n a ps j ≡ Ok tt) →
      read_lines k n a ps ≡
      (unless is_nil (get_or ps c []) say refused_beside k.none Malformed (n + c) 0
      else k.ends (n + c) (rows_grown k a (map k.says (take c ps))))
  unfolding read_lines
  all_told_lem n a ps c e s =
      let d = drop_of_length-le ps {i = suc c} (omega arith) in
      past_kept n a ps c (omega arith) s ∙ rw (drop-cons ps c [] (omega arith), d)

  pub all_kept : (n : ℕ) (a : A) (ps : List (List ℕ)) (c : ℕ) → length ps ≡ suc c →
      ((j : ℕ) → j < c → standing_at n a ps j ≡ Ok tt) → LinesKeep k n a (map k.says (take c ps))
  all_kept n a [] c e s = absurd (omega arith)
  all_kept n a (l ∷ ps) zero e s = tt
  all_kept n a (l ∷ ps) (suc c) e s = (
    sym (first_standing n a l ps) ∙ s 0 (omega arith),
    all_kept (n + 1) (k.grows a (k.says l)) ps c (omega arith)
        (λ j g. sym (next_standing n a l ps j) ∙ s (suc j) (omega arith)),
  )

  -- One of the two is so: a first part does not stand, or all do.
  pub record FirstBroken (n : ℕ) (a : A) (ps : List (List ℕ)) (c : ℕ) : Type 0 where
    pub place : ℕ
    pub why : Refusal
    pub field : ℕ
    pub below : place < c
    pub kept : (j : ℕ) → j < place → standing_at n a ps j ≡ Ok tt
    pub broken : standing_at n a ps place ≡ breaks why field

  pub first_or_all : (n : ℕ) (a : A) (ps : List (List ℕ)) (c : ℕ) →
      FirstBroken n a ps c ⊎ ((j : ℕ) → j < c → standing_at n a ps j ≡ Ok tt)
  first_or_all n a ps zero = inr (λ j l. absurd (omega arith))
  first_or_all n a ps (suc c) = go (first_or_all n a ps c) (standing_at n a ps c) refl
    where
      go : FirstBroken n a ps c ⊎ ((j : ℕ) → j < c → standing_at n a ps j ≡ Ok tt) → (s : Standing) →
          standing_at n a ps c ≡ s →
          FirstBroken n a ps (suc c) ⊎ ((j : ℕ) → j < suc c → standing_at n a ps j ≡ Ok tt)
      go (inl f) s e =
          inl
          (record {
            place = f.place;
            why = f.why;
            field = f.field;
            below = omega (arith, f.below);
            kept = f.kept;
            broken = f.broken;
          })
      go (inr r) (Ok tt) e = inr (upto (λ j. standing_at n a ps j ≡ Ok tt) c r e)
      go (inr r) (Err f) e =
          inl (record { place = c; why = f.why; field = f.field; below = omega arith; kept = r; broken = e })

  -- closed lines that all stand lead to the end
  from_kept : (n : ℕ) (a : A) (ls : List (List ℕ)) → LinesKeep k n a (map k.says ls) →
      read_lines k n a (ls ++ ([] ∷ [])) ≡ k.ends (n + length ls) (rows_grown k a (map k.says ls))
  unfolding read_lines rows_grown
  from_kept n a [] s = rw (add-zero n)
  from_kept n a (l ∷ ls) s =
      let e : n + 1 + length ls ≡ n + suc (length ls) = omega arith in
      from_line n a l (ls ++ ([] ∷ [])) (omega (arith, length-append ls ([] ∷ []))) ∙
      rw s.0 (from_kept (n + 1) (k.grows a (k.says l)) ls s.1 ∙ rw e)

  record Ran (n : ℕ) (a : A) (ps : List (List ℕ)) : Type 0 where
    lines : List (List ℕ)
    parts : ps ≡ lines ++ ([] ∷ [])
    kept : LinesKeep k n a (map k.says lines)

  from_not : (n : ℕ) (a : A) (ps : List (List ℕ)) → NotRefused (read_lines k n a ps).answer → Ran n a ps
  unfolding read_lines
  from_not n a [] e = absurd (e Malformed n 0 refl)
  from_not n a (l ∷ []) e =
      let p = unless_not k.none (is_nil l) Malformed n (k.ends n a) e in
      record { lines = []; parts = rw (is_nil_lem l p.0); kept = tt }
  from_not n a (l ∷ (m ∷ ms)) e =
      let b = k.grows a (k.says l) in
      let j = line_not k.none n (k.stands n a (k.says l)) (read_lines k (n + 1) b (m ∷ ms)) e in
      let ih = from_not (n + 1) b (m ∷ ms) j.1 in
      record { lines = l ∷ ih.lines; parts = ap (λ ps. l ∷ ps) ih.parts; kept = (j.0, ih.kept) }

  -- the whole text
  pub text_long : (text : List ℕ) → 16384 < length text →
      refused_beside k.none OutOfBounds 0 0 ≡ read_text k text
  unfolding read_text
  text_long text h = rw (lt-leb (length text) 16384 h)

  pub text_short : (text : List ℕ) → length text ≤ 16384 →
      read_lines k 1 k.none (split line_feed text) ≡ read_text k text
  unfolding read_text
  text_short text h = rw (le-leb (length text) 16384 h)

  not_short : (text : List ℕ) → NotRefused (read_text k text).answer → length text ≤ 16384
  unfolding read_text
  not_short text e =
      leb-true (length text) 16384
      (unless_not k.none (leb (length text) 16384) OutOfBounds 0
      (read_lines k 1 k.none (split line_feed text)) e).0

  -- A text that is short enough, whose lines are each closed and keep the rules where they stand.
  pub record TextKept (text : List ℕ) : Type 0 where
    pub short : length text ≤ 16384
    pub lines : List (List ℕ)
    pub closes : split line_feed text ≡ lines ++ ([] ∷ [])
    pub kept : LinesKeep k 1 k.none (map k.says lines)

  -- It is answered what is said at its end, and every other text is refused.
  pub kept_ends : (text : List ℕ) (w : TextKept text) →
      read_text k text ≡
      k.ends (1 + length w.lines) (rows_grown k k.none (map k.says w.lines))
  kept_ends text w =
      sym (text_short text w.short)
      ∙ ap (read_lines k 1 k.none) w.closes
      ∙ from_kept 1 k.none w.lines w.kept

  pub not_refused_kept : (text : List ℕ) → NotRefused (read_text k text).answer → TextKept text
  not_refused_kept text e =
      let s = not_short text e in
      let r =
      from_not 1 k.none (split line_feed text)
      (subst (λ (x : ReadOf A). NotRefused x.answer) (sym (text_short text s)) e) in
      record { short = s; lines = r.lines; closes = r.parts; kept = r.kept }

  -- What holds of every refusal that can be, and of every end, holds of the answer to every text.
  module _ (P : ReadOf A → Type 0)
      (broken : (n : ℕ) (a : A) (l : L) (why : Refusal) (field : ℕ) → k.stands n a l ≡ breaks why field →
      P (refused_beside k.none why n field))
      (unclosed : (n : ℕ) → P (refused_beside k.none Malformed n 0))
      (ends : (n : ℕ) (a : A) → P (k.ends n a)) where
    lines_ind : (n : ℕ) (a : A) (ps : List (List ℕ)) → P (read_lines k n a ps)
    unfolding read_lines
    lines_ind n a [] = unclosed n
    lines_ind n a (l ∷ []) = if_ind P (is_nil l) (λ e. ends n a) (λ e. unclosed n)
    lines_ind n a (l ∷ (m ∷ ms)) =
        go (k.stands n a (k.says l)) refl (lines_ind (n + 1) (k.grows a (k.says l)) (m ∷ ms))
      where
        go : (s : Standing) → k.stands n a (k.says l) ≡ s → {r : ReadOf A} → P r → P (line_told k.none n s r)
        go (Ok tt) e p = p
        go (Err f) e p = broken n a (k.says l) f.why f.field e

    pub text_ind : P (refused_beside k.none OutOfBounds 0 0) → (text : List ℕ) → P (read_text k text)
    unfolding read_text
    text_ind long text =
        if_ind P (leb (length text) 16384) (λ e. lines_ind 1 k.none (split line_feed text)) (λ e. long)

  -- "a refused read hands back no table": so it is, if it is so of every end
  pub taken_or_none : ((n : ℕ) (a : A) → ((k.ends n a).answer ≡ Ok tt) ⊎ ((k.ends n a).rows ≡ k.none)) →
      (text : List ℕ) → ((read_text k text).answer ≡ Ok tt) ⊎ ((read_text k text).rows ≡ k.none)
  taken_or_none ends text =
      text_ind (λ r. (r.answer ≡ Ok tt) ⊎ (r.rows ≡ k.none)) (λ n a l why field e. inr refl)
      (λ n. inr refl) ends (inr refl) text

-- what is handed back as a table is the table of a text that is taken
pub handed_taken : {T : Type 0} (r : Read T) (t : T) → handed r ≡ Ok t → (r.answer ≡ Ok tt) × (r.table ≡ t)
unfolding handed
handed_taken r t e = go r.answer refl e
  where
    go : (a : Reading) → r.answer ≡ a → handed_by r.table a ≡ Ok t → (r.answer ≡ Ok tt) × (r.table ≡ t)
    go (Ok tt) f h = (f, cc)
    go (Err why) f h = cc

pub handed_back : {T : Type 0} (r : Read T) → HandsBack r
unfolding handed
handed_back r =
    record {
      answer = answered r.answer;
      table = λ t. (handed_taken r t, λ p. rw p.0 (ap Ok p.1));
    }
  where
    answered : (a : Reading) → answer_in (handed_by r.table a) ≡ a
    answered (Ok tt) = refl
    answered (Err why) = refl
