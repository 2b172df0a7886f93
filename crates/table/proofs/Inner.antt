-- The rules row by row, joined to the rules of a whole table. A row below a count is the same row
-- of the list and of its part in use. Assumes nothing.
use mathlib.Core.Path.{◌≡◌, refl, sym, ap, ◌∙◌}
use mathlib.Core.Bool.{Bool, true, false, ◌&&◌}
use mathlib.Core.List.{List, [], ◌∷◌}
use Prim.Native.Nat.{ℕ, zero, suc, ◌≤◌, ◌<◌}
use native.Mathlib.Omega.{arith}
use lib.ListN.{length, get_or, take}
use native.Mathlib.Numerals.{add-one}
use lib.Seq.{length-take-le, get_or-take, take-length}
use Rattle.laws.specs.Choice.{every, within}
use Rattle.laws.specs.Rows.{all_below}
use Rattle.laws.proofs.Choice.{within_high}
use Rattle.std.specs.List.{list_all}
use Rattle.std.proofs.lemmas.List.Folds.{list_all_more}
use Rattle.laws.proofs.Rows.{all_cong}
use Rattle.std.proofs.Common.{map, is_none}
use Rattle.table.specs.declared.Server.{Server}
use Rattle.table.specs.declared.Task.{Task}
use Rattle.table.specs.declared.Table.{Table}
use Rattle.table.specs.Rows.{no_server, no_task}
use Rattle.table.specs.Rules.{server_keeps, task_stands, differ, tick_keeps, keeps, table_keeps}
use Rattle.table.proofs.Pairs.{differ_rows, differ_found, rows_equal}
use Rattle.table.specs.Inner.{servers_keep, tasks_keep}
use Rattle.table.specs.Pairs.{equal_rows}

-- the rules of a whole table speak of the part in use; the code asks the same of the first rows
pub all_in_use : {A : Type 0} (f : A → Bool) (d : A) (xs : List A) (n : ℕ) → n ≤ length xs →
    all_below n (λ i. f (get_or xs i d))
    ≡ all_below (length (take n xs)) (λ i. f (get_or (take n xs) i d))
all_in_use f d xs n l =
    rw (length-take-le n xs l)
    (all_cong (λ i. f (get_or xs i d)) (λ i. f (get_or (take n xs) i d)) n
    (λ i h. ap f (sym (get_or-take n xs i d h))))

-- what all rows of a list keep, as a walk over them and by number
pub all_rows : {A : Type 0} (p : A → Bool) (d : A) (xs : List A) →
    list_all p xs ≡ all_below (length xs) (λ i. p (get_or xs i d))
unfolding all_below
all_rows p d xs = ap (list_all p) (sym (take-length xs)) ∙ upto (length xs) (omega arith)
  where
    upto : (n : ℕ) → n ≤ length xs → list_all p (take n xs) ≡ all_below n (λ i. p (get_or xs i d))
    upto zero h = refl
    upto (suc n) h =
        ap (λ k. list_all p (take k xs)) (sym (add-one n)) ∙ list_all_more p xs n d (omega arith) ∙
        ap (λ b. b && p (get_or xs n d)) (upto n (omega arith))

-- the tests that the code asks in a row are the list of the rules
chain : (a b c d e f g : Bool) →
    (a && b && c && d && e && f && g) ≡ (a && (b && every (c ∷ true ∷ true ∷ d ∷ e ∷ f ∷ g ∷ [])))
unfolding every
chain false b c d e f g = refl
chain true false c d e f g = refl
chain true true false d e f g = refl
chain true true true false e f g = refl
chain true true true true false f g = refl
chain true true true true true false g = refl
chain true true true true true true false = refl
chain true true true true true true true = refl

held : (a b x y : Bool) → (a ≡ true → b ≡ true → x ≡ y) → (a && (b && x)) ≡ (a && (b && y))
held false b x y h = refl
held true false x y h = refl
held true true x y h = h refl refl

pub table_tests : (t : Table) → length t.servers ≡ 32 → length t.tasks ≡ 64 →
    let ss = take t.nservers t.servers in
    let ks = take t.ntasks t.tasks in
    (within 1 32 t.nservers
    && within 1 64 t.ntasks
    && tick_keeps t.tick.0
    && servers_keep ss
    && tasks_keep ks ss
    && is_none (equal_rows (map (λ (s : Server). s.priority) ss))
    && is_none (equal_rows (map (λ (k : Task). k.priority) ks)))
    ≡ table_keeps t
unfolding table_keeps keeps
table_tests t a b =
    let ss = take t.nservers t.servers in
    let ks = take t.ntasks t.tasks in
    chain _ _ _ _ _ _ _
    ∙ held (within 1 32 t.nservers) (within 1 64 t.ntasks) _ _ (λ c d.
    let x = length-take-le t.nservers t.servers (omega (arith, within_high 1 32 t.nservers c)) in
    let y = length-take-le t.ntasks t.tasks (omega (arith, within_high 1 64 t.ntasks d)) in
    rw (
      all_rows (λ s. every (server_keeps s)) no_server ss,
      all_rows (task_stands ss) no_task ks,
      rows_equal (λ (s : Server). s.priority) no_server ss,
      rows_equal (λ (k : Task). k.priority) no_task ks,
      differ_found (length ss) (λ i. (get_or ss i no_server).priority),
      differ_found (length ks) (λ k. (get_or ks k no_task).priority),
      x,
      y,
      c,
      d,
    ))

-- read off the rules: two rows of the rows in use
pub column_apart : {A : Type 0} (f : A → ℕ) (d : A) (xs : List A) (n : ℕ) → n ≤ length xs →
    differ (length (take n xs)) (λ i. f (get_or (take n xs) i d)) ≡ true → (i j : ℕ) → i < n → j < n → (i ≡ j → ⊥) →
    f (get_or xs i d) ≡ f (get_or xs j d) → ⊥
column_apart f d xs n l e i j h k u q =
    differ_rows
    (length (take n xs))
    (λ a. f (get_or (take n xs) a d))
    e
    i
    j
    (omega (arith, length-take-le n xs l))
    (omega (arith, length-take-le n xs l))
    u
    (ap f (get_or-take n xs i d h) ∙ q ∙ ap f (sym (get_or-take n xs j d k)))
