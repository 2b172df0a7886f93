-- The page, put line by line and field by field: a line is its first field, and then a tab and a
-- field each; no line is longer than its fields may be, so the room holds all of them. Assumes
-- nothing.
use mathlib.Core.Path.{◌≡◌, refl, sym, ap, ◌∙◌}
use mathlib.Core.List.{List, [], ◌∷◌, ◌++◌, append_assoc}
use Prim.Native.Nat.{ℕ, zero, suc, ◌+◌, ◌≤◌, ◌^◌, ◌<◌}
use native.Mathlib.Omega.{arith}
use native.Mathlib.Numerals.{add-one}
use lib.ListN.{length, get_or, take, length-append}
use Rattle.laws.specs.Quoted.{bytes}
use Rattle.decimal.specs.Number.{digits}
use Rattle.decimal.specs.Lines.{tab, line_feed, join, closed}
use Rattle.decimal.specs.Room.{Put}
use Rattle.decimal.proofs.Numbers.{digits_length}
use Rattle.decimal.proofs.Lines.{AllUpTo, join_length, closed_append}
use Rattle.decimal.proofs.Room.{put_none, put_as, put_more, put_front, put_lines}
use Rattle.lines.specs.AnswerLine.{printed}
use Rattle.morning.specs.Page.{row_lines, page_lines}
use Rattle.report.specs.declared.count.Counts.{Counts}
use Rattle.report.specs.Inner.Page.{FieldPut, LinesPut, server_line_in, task_line_in}
use Rattle.report.specs.Inner.Page.{server_lines_in, task_lines_in, mode_lines_in, page_in, longest_page}

-- what follows the first field of a line: a tab and a field each, and the line feed
abbrev pub after_first : List (List ℕ) → List ℕ
after_first [] = line_feed ∷ []
after_first (f ∷ fs) = tab ∷ (f ++ after_first fs)

line_is : (w : List ℕ) (fs : List (List ℕ)) → w ++ after_first fs ≡ closed (join tab (w ∷ fs) ∷ [])
unfolding join closed
line_is w [] = refl
line_is w (f ∷ fs) =
    ap (λ x. w ++ (tab ∷ x)) (line_is f fs) ∙ sym (append_assoc w (tab ∷ join tab (f ∷ fs)) (line_feed ∷ []))

line_short : (w : List ℕ) (fs : List (List ℕ)) → AllUpTo 20 (w ∷ fs) → length fs ≤ 5 →
    length (closed (join tab (w ∷ fs) ∷ [])) ≤ 127
unfolding closed
line_short w fs a h =
    let l = join tab (w ∷ fs) in
    omega (arith, length-append l (line_feed ∷ []), join_length tab 20 (w ∷ fs) a)

module _ {d : List ℕ} {at : ℕ} {e : List ℕ} {k : ℕ} {f : List ℕ} {r : ℕ} where
  -- a number has at most 20 digits
  pub field_put : (x : ℕ) → x < 2 ^ 64 → Put (tab ∷ []) d at e k → Put (digits x) e k f r → FieldPut x d at f r
  field_put x h p q =
      record { put = put_more (tab ∷ []) (digits x) p q; short = digits_length x 19 (omega arith) }

  -- one field of a line, and those that follow it
  pub after_put : (x : List ℕ) (fs : List (List ℕ)) → Put (tab ∷ x) d at e k → Put (after_first fs) e k f r →
      Put (after_first (x ∷ fs)) d at f r
  after_put x fs p q = put_more (tab ∷ x) (after_first fs) p q

  -- a whole line
  pub line_put : (w : List ℕ) (fs : List (List ℕ)) → AllUpTo 20 (w ∷ fs) → length fs ≤ 5 →
      Put w d at e k → Put (after_first fs) e k f r → LinesPut (join tab (w ∷ fs) ∷ []) d at f r
  line_put w fs a h p q =
      record {
        put = put_as (line_is w fs) (put_more w (after_first fs) p q);
        short = omega (arith, line_short w fs a h);
      }

  -- lines after lines
  pub lines_put : (ks ls : List (List ℕ)) → LinesPut ks d at e k → LinesPut ls e k f r → LinesPut (ks ++ ls) d at f r
  lines_put ks ls p q =
      record {
        put = put_lines ks ls p.put q.put;
        short =
            omega (
              arith,
              ap length (closed_append ks ls),
              length-append (closed ks) (closed ls),
              length-append ks ls,
              p.short,
              q.short,
            );
      }

  -- a row more
  pub rows_put : (line : ℕ → List ℕ) (i : ℕ) → LinesPut (row_lines line i) d at e k →
      LinesPut (line i ∷ []) e k f r → LinesPut (row_lines line (i + 1)) d at f r
  unfolding row_lines
  rows_put line i p q = rw (add-one i) (lines_put (row_lines line i) (line i ∷ []) p q)

pub rows_none : (line : ℕ → List ℕ) (d : List ℕ) (at : ℕ) → LinesPut (row_lines line 0) d at d at
unfolding row_lines closed
rows_none line d at = record { put = put_none d at; short = omega arith }

rows_many : (line : ℕ → List ℕ) (n : ℕ) → length (row_lines line n) ≡ n
unfolding row_lines
rows_many line zero = refl
rows_many line (suc n) = omega (arith, length-append (row_lines line n) (line n ∷ []), rows_many line n)

-- the lines of a server, a task and a mode
pub server_put : (c : Counts) (i : ℕ) {d : List ℕ} {at : ℕ} {e1 : List ℕ} {k1 : ℕ} {e2 : List ℕ} {k2 : ℕ}
    {e3 : List ℕ} {k3 : ℕ} {e4 : List ℕ} {k4 : ℕ} {e5 : List ℕ} {k5 : ℕ} {e6 : List ℕ} {k6 : ℕ} →
    Put (bytes "server") d at e1 k1 → FieldPut i e1 k1 e2 k2 →
    FieldPut (get_or c.charged i 0) e2 k2 e3 k3 → FieldPut (get_or c.empty i 0) e3 k3 e4 k4 →
    FieldPut (get_or c.longest i 0) e4 k4 e5 k5 → Put (line_feed ∷ []) e5 k5 e6 k6 →
    LinesPut (server_line_in c i ∷ []) d at e6 k6
server_put c i w f1 f2 f3 f4 l =
    let x = digits (get_or c.charged i 0) in
    let y = digits (get_or c.empty i 0) in
    let z = digits (get_or c.longest i 0) in
    line_put (bytes "server") (digits i ∷ x ∷ y ∷ z ∷ [])
    (omega arith, (f1.short, (f2.short, (f3.short, (f4.short, tt))))) (omega arith) w
    (after_put (digits i) (x ∷ y ∷ z ∷ []) f1.put
    (after_put x (y ∷ z ∷ []) f2.put (after_put y (z ∷ []) f3.put (after_put z [] f4.put l))))

pub task_put : (c : Counts) (waiting : List ℕ) (i : ℕ) {d : List ℕ} {at : ℕ} {e1 : List ℕ} {k1 : ℕ} {e2 : List ℕ} {k2 : ℕ}
    {e3 : List ℕ} {k3 : ℕ} {e4 : List ℕ} {k4 : ℕ} {e5 : List ℕ} {k5 : ℕ} {e6 : List ℕ} {k6 : ℕ} {e7 : List ℕ} {k7 : ℕ} →
    Put (bytes "task") d at e1 k1 → FieldPut i e1 k1 e2 k2 →
    FieldPut (get_or c.finished i 0) e2 k2 e3 k3 → FieldPut (get_or c.cut i 0) e3 k3 e4 k4 →
    FieldPut (get_or c.discarded i 0) e4 k4 e5 k5 → FieldPut (get_or waiting i 0) e5 k5 e6 k6 →
    Put (line_feed ∷ []) e6 k6 e7 k7 → LinesPut (task_line_in c waiting i ∷ []) d at e7 k7
task_put c waiting i w f1 f2 f3 f4 f5 l =
    let x = digits (get_or c.finished i 0) in
    let y = digits (get_or c.cut i 0) in
    let z = digits (get_or c.discarded i 0) in
    let h = digits (get_or waiting i 0) in
    line_put (bytes "task") (digits i ∷ x ∷ y ∷ z ∷ h ∷ [])
    (omega arith, (f1.short, (f2.short, (f3.short, (f4.short, (f5.short, tt)))))) (omega arith) w
    (after_put (digits i) (x ∷ y ∷ z ∷ h ∷ []) f1.put
    (after_put x (y ∷ z ∷ h ∷ []) f2.put
    (after_put y (z ∷ h ∷ []) f3.put (after_put z (h ∷ []) f4.put (after_put h [] f5.put l)))))

pub mode_put : (word : List ℕ) (x : ℕ) {d : List ℕ} {at : ℕ} {e1 : List ℕ} {k1 : ℕ} {e2 : List ℕ} {k2 : ℕ}
    {e3 : List ℕ} {k3 : ℕ} {e4 : List ℕ} {k4 : ℕ} {e5 : List ℕ} {k5 : ℕ} →
    length word ≤ 2 → Put (bytes "mode") d at e1 k1 →
    Put (tab ∷ []) e1 k1 e2 k2 → Put word e2 k2 e3 k3 → FieldPut x e3 k3 e4 k4 → Put (line_feed ∷ []) e4 k4 e5 k5 →
    LinesPut (printed (bytes "mode" ∷ word ∷ digits x ∷ []) ∷ []) d at e5 k5
mode_put word x h w t p f l =
    line_put (bytes "mode") (word ∷ digits x ∷ []) (omega arith, (omega arith, (f.short, tt))) (omega arith) w
    (after_put word (digits x ∷ []) (put_more (tab ∷ []) word t p) (after_put (digits x) [] f.put l))

-- the page stands at the front of the room, whole
pub page_put : (nservers ntasks : ℕ) (c : Counts) (waiting : List ℕ) {d : List ℕ} {e1 : List ℕ} {k1 : ℕ} {e2 : List ℕ}
    {k2 : ℕ} {e3 : List ℕ} {r : ℕ} → nservers ≤ 32 → ntasks ≤ 64 → longest_page ≤ length d →
    LinesPut (server_lines_in nservers c) d 0 e1 k1 → LinesPut (task_lines_in ntasks c waiting) e1 k1 e2 k2 →
    LinesPut (mode_lines_in c.modes) e2 k2 e3 r → take r e3 ≡ closed (page_in nservers ntasks c waiting)
unfolding page_lines
page_put nservers ntasks c waiting {d = d} hs ht long p q m =
    let ss = server_lines_in nservers c in
    let ts = task_lines_in ntasks c waiting in
    let ms = mode_lines_in c.modes in
    let all = lines_put ss (ts ++ ms) p (lines_put ts ms q m) in
    let page = closed (ss ++ (ts ++ ms)) in
    let few : length (ss ++ (ts ++ ms)) ≤ 99 =
    omega (
      arith,
      length-append ss (ts ++ ms),
      length-append ts ms,
      rows_many (server_line_in c) nservers,
      rows_many (task_line_in c waiting) ntasks,
    ) in
    put_front page (omega (arith, all.short)) all.put
