-- The reader's cases: each gives its number, its line and its field, for 5 both lines, and every
-- text is in one of them, so each is given exactly in its case. Assumes nothing.
use Rattle.std.specs.Prelude.{if◌then◌else◌, None, Option, Some, Ok, Err}
use mathlib.Core.Path.{◌≡◌, refl, sym, ap, subst, ◌∙◌}
use mathlib.Core.Bool.{Bool, true, false}
use mathlib.Core.List.{List, [], ◌∷◌, ◌++◌, map}
use mathlib.Core.Logic.{◌⊎◌, inl, inr}
use Prim.Native.Nat.{ℕ, zero, suc, ◌+◌, ◌-◌, ◌≤◌, ◌<◌}
use native.Mathlib.Omega.{arith}
use lib.ListN.{length, get_or, take, get_or-map}
use lib.Seq.{take-suc, take_all}
use borrow.Author.Tests.{le-leb, lt-leb}
use Rattle.laws.proofs.Choice.{le_or_lt}
use Rattle.decimal.specs.Lines.{line_feed, split}
use Rattle.decimal.proofs.Lines.{split_some}
use Rattle.table.specs.declared.Refusal.{Refusal}
use Rattle.table.specs.declared.Refusal.TheVariants.{Malformed as MalformedWhy}
use Rattle.table.specs.Refusals.{standing_number, standing_field, breaks, Standing}
use Rattle.table.specs.Rows.{Rows, no_rows, no_server, no_task}
use Rattle.table.specs.Pairs.{equal_servers as pairOfServers, equal_tasks as pairOfTasks}
use Rattle.table.proofs.Pairs.{Paired, is_pair, pair_is}
use Rattle.text.specs.Line.{no_line, read_line}
use Rattle.text.specs.Standing.{is_nil}
use Rattle.text.specs.TableText.{read_lines}
use Rattle.text.specs.Read.{ReadRows, refused}
use Rattle.text.specs.Read.{reading_number, reading_values, compared, ended, table_text, read, shown}
use Rattle.text.specs.Allowed.{grown_by}
use Rattle.text.specs.Write.{lines_of}
use Rattle.text.proofs.Ticks.{rounded}
use Rattle.text.proofs.Refused.{standing_0}
use Rattle.text.proofs.Standing.{not_nil}
use Rattle.text.proofs.Allowed.{told}
use Rattle.text.proofs.RoundTrip.{nothing_said}
use Rattle.text.proofs.TableText.{standing_at, first_told, all_told_lem, all_kept, FirstBroken}
use Rattle.text.proofs.TableText.{first_or_all}
use Rattle.promises.specs.Condition1.{closed_lines, bytes_at, line_at, end_line, rows_above}
use Rattle.promises.specs.Condition1.{standing_of, fault_at, fault_field, StandAbove, Complete}
use Rattle.promises.specs.Condition1.{is_server, is_task, NoneEqual, ReadCase, too_long}
use Rattle.promises.specs.Condition1.{first_fault, unclosed}
use Rattle.promises.specs.Condition1.{missing, equal_servers, equal_tasks, taken, EachRead}
use Rattle.promises.proofs.Pairs.{Stretch, none_lines, none_rows, first_lines, first_rows}
use Rattle.promises.proofs.Pairs.{servers_stretch, tasks-stretch}

-- what comes back with the answer r
abbrev Comes : ReadRows → ℕ → List ℕ → Type 0
Comes r k values = (reading_number r.answer ≡ k) × (reading_values r.answer ≡ values)

-- a part of a text that ends with an empty part
empty_last : (xs : List (List ℕ)) (m : ℕ) → get_or (xs ++ ([] ∷ [])) m [] ≡ get_or xs m []
empty_last [] zero = refl
empty_last [] (suc m) = refl
empty_last (x ∷ xs) zero = refl
empty_last (x ∷ xs) (suc m) = empty_last xs m

nil : {A : Type 0} (xs : List A) → length xs ≡ 0 → xs ≡ []
nil [] e = refl
nil (x ∷ xs) e = absurd (omega arith)

module _ (text : List ℕ) where
  abbrev parts : List (List ℕ)
  parts = split line_feed text

  abbrev many : ℕ
  many = closed_lines text

  -- the rows of all closed lines
  abbrev rows : Rows
  rows = grown_by no_rows (map read_line (take many parts))

  one_more : length parts ≡ suc many
  one_more = omega (arith, split_some line_feed text)

  end : many + 1 - 1 ≡ many
  end = omega arith

  -- parts 0 to n - 1 stand
  abbrev AllKept : ℕ → Type 0
  AllKept n = (j : ℕ) → j < n → standing_at table_text 1 no_rows parts j ≡ Ok tt

  -- what stands after the last line feed
  abbrev rest : List ℕ
  rest = bytes_at text (end_line text)

  -- line j + 1 is part j
  standing_at_lem : (j : ℕ) → standing_of text (suc j) ≡ standing_at table_text 1 no_rows parts j
  standing_at_lem j =
      let e : 1 + j ≡ suc j = omega arith in
      let f : suc j - 1 ≡ j = omega arith in
      rw (e, f)

  fault_at_lem : (j : ℕ) → fault_at text (suc j) ≡ standing_number (standing_at table_text 1 no_rows parts j)
  fault_at_lem j = ap standing_number (standing_at_lem j)

  field_at_lem : (j : ℕ) → fault_field text (suc j) ≡ standing_field (standing_at table_text 1 no_rows parts j)
  field_at_lem j = ap standing_field (standing_at_lem j)

  stand_kept : (n : ℕ) → StandAbove text (suc n) → AllKept n
  stand_kept n s j l =
      (standing_0 (standing_at table_text 1 no_rows parts j)).0
      (sym (fault_at_lem j) ∙ s (suc j) (omega arith) (omega arith))

  kept_stand : (n : ℕ) → AllKept n → StandAbove text (suc n)
  kept_stand n k zero h l = absurd (omega arith)
  kept_stand n k (suc j) h l = fault_at_lem j ∙ ap standing_number (k j (omega arith))

  end_stand : StandAbove text (end_line text) → AllKept many
  end_stand s = stand_kept many (λ m h l. s m h (omega arith))

  short_read : length text ≤ 16384 → read text ≡ read_lines table_text 1 no_rows parts
  unfolding read
  short_read h = rw (le-leb (length text) 16384 h)

  -- where all closed lines stand
  read_end : length text ≤ 16384 → StandAbove text (end_line text) → (b : Bool) →
      is_nil rest ≡ b →
      read text ≡ (if b then ended (end_line text) rows else refused MalformedWhy (end_line text) 0)
  read_end h s b e =
      let z : 1 + many ≡ many + 1 = omega arith in
      short_read h ∙ all_told_lem table_text 1 no_rows parts many one_more (end_stand s) ∙ rw (← e, z, end)

  -- A complete text: its lines are those of its rows, but for rounding, so lines of equal priority
  -- are rows of equal priority.
  read_complete : Complete text → read text ≡ compared rows
  unfolding ended
  read_complete c =
      let e = nil rest c.closes in
      let t = rw end at c.task in
      read_end c.short c.stand true (rw e) ∙ rw (not_nil rows.tasks t)

  lines_are : Complete text → (m : ℕ) →
      rounded rows.tick.0 (line_at text (suc m)) ≡ get_or (lines_of rows) m no_line
  unfolding rounded
  lines_are c m =
      let t = rows.tick.0 in
      let ls = take many parts in
      let z : suc m - 1 ≡ m = omega arith in
      let e : get_or parts many [] ≡ [] = rw end at (nil rest c.closes) in
      let p : parts ≡ ls ++ ([] ∷ []) =
      sym (take_all (suc many) parts (omega (arith, one_more)))
      ∙ take-suc parts many [] (omega (arith, one_more))
      ∙ rw e in
      let q : get_or parts m [] ≡ get_or ls m [] = ap (λ ps. get_or ps m []) p ∙ empty_last ls m in
      let k = all_kept table_text 1 no_rows parts many one_more (end_stand c.stand) in
      let d = told (map read_line ls) k (rw end at c.task) in
      rw (z, q, d.lines)
      (sym (get_or-map (rounded t) (map read_line ls) m no_line ∙
      ap (λ l. rounded t (get_or (map read_line ls) m l)) (sym nothing_said) ∙
      ap (rounded t) (get_or-map read_line ls m [])))

  abbrev server_priority : ℕ → ℕ
  server_priority i = (get_or rows.servers i no_server).priority

  abbrev task_priority : ℕ → ℕ
  task_priority i = (get_or rows.tasks i no_task).priority

  abbrev servers : ℕ
  servers = length rows.servers

  abbrev tasks : ℕ
  tasks = length rows.tasks

  of_servers : Complete text → Stretch is_server text 2 servers server_priority
  of_servers c = servers_stretch text rows (lines_are c)

  of_tasks : Complete text → Stretch is_task text (2 + servers) tasks task_priority
  of_tasks c = tasks-stretch text rows (lines_are c)

  servers_differ : Complete text → NoneEqual is_server text → pairOfServers rows.servers ≡ None
  servers_differ c d =
      let f = none_rows is_server text 2 servers server_priority (of_servers c) d in
      sym (is_pair servers server_priority None f)

  tasks_differ : Complete text → NoneEqual is_task text → pairOfTasks rows.tasks ≡ None
  tasks_differ c d =
      let f = none_rows is_task text (2 + servers) tasks task_priority (of_tasks c) d in
      sym (is_pair tasks task_priority None f)

  -- a first part that does not stand is told, with its line and its field
  first_fault_told : (n : ℕ) → length text ≤ 16384 → n < many → StandAbove text (suc n) →
      (s : Standing) → standing_at table_text 1 no_rows parts n ≡ s → 1 ≤ standing_number s →
      (Comes (read text) (standing_number s) (suc n ∷ standing_field s ∷ []))
      × ((read text).rows ≡ no_rows)
  first_fault_told n h l a (Ok tt) e b = absurd (omega arith)
  first_fault_told n h l a (Err f) e b =
      let z : 1 + n ≡ suc n = omega arith in
      let q : read text ≡ refused f.why (1 + n) f.field =
      short_read h
      ∙ first_told table_text 1 no_rows parts n f.why f.field (omega (arith, one_more)) (stand_kept n a) e in
      rw (q, z) ((refl, refl), refl)

  -- each case gives its number and values; the text is taken, or its rows do not come back
  case_told : (k : ℕ) (values : List ℕ) → ReadCase text k values →
      Comes (read text) k values
      × (((read text).answer ≡ Ok tt) ⊎ ((1 ≤ k) × ((read text).rows ≡ no_rows)))
  unfolding read ended compared
  case_told k values (too_long h) =
      rw (lt-leb (length text) 16384 h) ((refl, refl), inr (omega arith, refl))
  case_told k values (first_fault zero h l c a b) = absurd (omega arith)
  case_told k values (first_fault (suc n) h l c a b) =
      let e = fault_at_lem n in
      let r = first_fault_told n h (omega arith) a (standing_at table_text 1 no_rows parts n) refl (rw e at b) in
      rw (e, field_at_lem n) (r.0, inr (rw e at b, r.1))
  case_told k values (unclosed h a b) =
      rw (read_end h a false (not_nil rest b)) ((refl, refl), inr (omega arith, refl))
  case_told k values (missing h a b t) =
      let e = nil rest b in
      let z = nil rows.tasks (rw end at t) in
      rw (read_end h a true (rw e), z) ((refl, refl), inr (omega arith, refl))
  case_told k values (equal_servers x y c f) =
      let r = first_rows is_server text 2 servers server_priority (of_servers c) x y f in
      let u : 2 + (x - 2) ≡ x = omega (arith, r.0) in
      let v : 2 + (y - 2) ≡ y = omega (arith, r.0, r.1) in
      let p = is_pair servers server_priority (Some ((x - 2), (y - 2))) r.2 in
      rw (read_complete c, ← p, u, v) ((refl, refl), inr (omega arith, refl))
  case_told k values (equal_tasks x y c d f) =
      let top = 2 + servers in
      let r = first_rows is_task text top tasks task_priority (of_tasks c) x y f in
      let u : top + (x - top) ≡ x = omega (arith, r.0) in
      let v : top + (y - top) ≡ y = omega (arith, r.0, r.1) in
      let p = is_pair tasks task_priority (Some ((x - top), (y - top))) r.2 in
      rw (read_complete c, servers_differ c d, ← p, u, v) ((refl, refl), inr (omega arith, refl))
  case_told k values (taken c d e) =
      rw (read_complete c, servers_differ c d, tasks_differ c e) ((refl, refl), inl refl)

  abbrev SomeCase : Type 0
  SomeCase = (k : ℕ) × (values : List ℕ) × ReadCase text k values

  -- a complete text is taken, or a pair of lines is equal
  task_case : Complete text → NoneEqual is_server text → (q : Option (ℕ × ℕ)) → Paired tasks task_priority q →
      SomeCase
  task_case c d (Some (i, j)) f =
      let top = 2 + servers in
      let first = first_lines is_task text top tasks task_priority (of_tasks c) i j f in
      (5, (top + i) ∷ (top + j) ∷ [], equal_tasks (top + i) (top + j) c d first)
  task_case c d None f =
      (0, [], taken c d (none_lines is_task text (2 + servers) tasks task_priority (of_tasks c) f))

  pair_case : Complete text → (q : Option (ℕ × ℕ)) → Paired servers server_priority q → SomeCase
  pair_case c (Some (i, j)) f =
      let first = first_lines is_server text 2 servers server_priority (of_servers c) i j f in
      (5, (2 + i) ∷ (2 + j) ∷ [], equal_servers (2 + i) (2 + j) c first)
  pair_case c None f =
      let d = none_lines is_server text 2 servers server_priority (of_servers c) f in
      task_case c d (pairOfTasks rows.tasks) (pair_is tasks task_priority)

  -- a closed line that does not stand has a number
  some_number : (n : ℕ) (why : Refusal) (field : ℕ) →
      standing_at table_text 1 no_rows parts n ≡ breaks why field → 1 ≤ fault_at text (suc n)
  some_number n why field e = go (le_or_lt 1 (fault_at text (suc n)))
    where
      go : (1 ≤ fault_at text (suc n)) ⊎ (fault_at text (suc n) < 1) → 1 ≤ fault_at text (suc n)
      go (inl h) = h
      go (inr h) =
          let k = (standing_0 (standing_at table_text 1 no_rows parts n)).0 (sym (fault_at_lem n) ∙ omega arith) in
          let z : ◌≡◌ {A = ℕ} 0 1 = cc in
          absurd (omega arith)

  -- every text is in a case
  some_case : SomeCase
  some_case = length_case (le_or_lt (length text) 16384)
    where
      lines : ℕ
      lines = length (rows_above text (end_line text)).tasks

      end_case : length text ≤ 16384 → StandAbove text (end_line text) →
          (length rest ≤ 0) ⊎ (0 < length rest) → (lines ≤ 0) ⊎ (0 < lines) → SomeCase
      end_case h a (inr b) t = (1, end_line text ∷ 0 ∷ [], unclosed h a b)
      end_case h a (inl b) (inl t) =
          (1, end_line text ∷ 0 ∷ [], missing h a (omega arith) (omega arith))
      end_case h a (inl b) (inr t) =
          let c : Complete text = record { short = h; stand = a; closes = omega arith; task = t } in
          pair_case c (pairOfServers rows.servers) (pair_is servers server_priority)

      line_case : length text ≤ 16384 → FirstBroken table_text 1 no_rows parts many ⊎ AllKept many → SomeCase
      line_case h (inl f) =
          let n = f.place in (
            fault_at text (suc n),
            suc n ∷ fault_field text (suc n) ∷ [],
            first_fault (suc n) h (omega arith) (omega (arith, f.below)) (kept_stand n f.kept)
                (some_number n f.why f.field f.broken),
          )
      line_case h (inr k) =
          let s = kept_stand many k in
          end_case h (λ m g l. s m g (omega arith)) (le_or_lt (length rest) 0) (le_or_lt lines 0)

      length_case : (length text ≤ 16384) ⊎ (16384 < length text) → SomeCase
      length_case (inr h) = (2, 0 ∷ 0 ∷ [], too_long h)
      length_case (inl h) = line_case h (first_or_all table_text 1 no_rows parts many)

pub each_read : EachRead
unfolding shown
each_read text k values = (
  λ r.
      let s = some_case text in
      let t = (case_told text s.0 s.1 s.2).0 in
      subst (λ n. ReadCase text n values) (sym t.0 ∙ r.0)
      (subst (ReadCase text s.0) (sym t.1 ∙ r.1) s.2),
  λ c. (case_told text k values c).0,
)

-- "a refused read hands back no table", and number 0 is the answer of a text that is taken
pub refused_rows : (text : List ℕ) → (reading_number (read text).answer ≡ 0 → ⊥) →
    (read text).rows ≡ no_rows
refused_rows text n =
    let s = some_case text in
    let t = (case_told text s.0 s.1 s.2).1 in
    elim t [ inl e ↦ absurd (n (ap reading_number e)) | inr p ↦ p.1 ]

pub is_taken_lem : (text : List ℕ) → reading_number (read text).answer ≡ 0 → (read text).answer ≡ Ok tt
is_taken_lem text z =
    let s = some_case text in
    let t = case_told text s.0 s.1 s.2 in
    elim t.1 [ inl e ↦ e | inr p ↦ absurd (omega (arith, t.0.0, p.0)) ]
