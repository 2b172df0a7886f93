-- The text of a table as the writer makes it, row by row, and what it leaves in the lent room.
-- Assumes nothing.
use Rattle.std.proofs.Common.{Ok}
use mathlib.Core.Path.{◌≡◌, refl, sym, ap}
use mathlib.Core.Bool.{true, false, ◌&&◌}
use mathlib.Core.List.{List, [], ◌∷◌, ◌++◌, map, map-append, append-nil, append_assoc}
use Prim.Native.Nat.{ℕ, ◌+◌, ◌≤◌, ◌<◌}
use native.Mathlib.Omega.{arith}
use native.Mathlib.Numerals.{add-one}
use lib.ListN.{length, get_or, take, drop}
use lib.Seq.{take-suc, take_at}
use borrow.Author.Tests.{le-leb, lt-leb}
use Rattle.laws.specs.Choice.{within}
use Rattle.std.specs.Cmp.{first_so, second_so}
use Rattle.laws.proofs.Choice.{within_high}
use Rattle.decimal.specs.Lines.{tab, join, closed}
use Rattle.decimal.specs.Room.{Put}
use Rattle.decimal.proofs.Room.{put_as, put_fits, put_lines, put_more, put_none}
use Rattle.table.specs.declared.Server.{Server}
use Rattle.table.specs.declared.Task.{Task}
use Rattle.table.specs.declared.Table.{Table}
use Rattle.table.specs.declared.Refusal.TheVariants.{RoomShort, Unsound}
use Rattle.table.specs.Rows.{rows_of, no_server, no_task}
use Rattle.table.specs.Rules.{keeps, table_keeps}
use Rattle.table.proofs.Rules.{rows_keep}
use Rattle.text.specs.declared.Line.{Line}
use Rattle.text.specs.declared.Line.TheVariants.{OfTick, OfServer, OfTask}
use Rattle.text.specs.Line.{write_line}
use Rattle.text.specs.Write.{server_back, task_back, server_lines, task_lines, lines_of, write, unwritten, wrote}
use Rattle.text.proofs.Allowed.{keeps_rows}
use Rattle.text.proofs.RoundTrip.{written_fits}

-- what the writer needs of a table that keeps the rules
pub bounds : (t : Table) → table_keeps t ≡ true → (t.nservers ≤ 32) × (t.ntasks ≤ 64) × (t.tick.0 ≤ 10000)
unfolding table_keeps
bounds t e =
    let n = within 1 32 t.nservers in
    let m = within 1 64 t.ntasks in (
      within_high 1 32 t.nservers (first_so n (m && keeps (rows_of t)) e),
      within_high 1 64 t.ntasks (first_so m (keeps (rows_of t)) (second_so n (m && keeps (rows_of t)) e)),
      (keeps_rows (rows_of t) (rows_keep t e)).good.high,
    )

-- fields that follow others: those before them, and from a tab on
join_behind : (b : ℕ) (p : List ℕ) (ps qs : List (List ℕ)) →
    join b (p ∷ (ps ++ qs)) ≡ join b (p ∷ ps) ++ join b ([] ∷ qs)
unfolding join
join_behind b p [] [] = sym (append-nil p)
join_behind b p [] (q ∷ qs) = refl
join_behind b p (r ∷ ps) qs =
    rw (join_behind b r ps qs) (sym (append_assoc p (b ∷ join b (r ∷ ps)) (join b ([] ∷ qs))))

module _ {d : List ℕ} {at : ℕ} {e : List ℕ} {k : ℕ} {f : List ℕ} {r : ℕ} where
  pub put_behind : (p : List ℕ) (ps qs : List (List ℕ)) → Put (join tab (p ∷ ps)) d at e k →
      Put (join tab ([] ∷ qs)) e k f r → Put (join tab (p ∷ (ps ++ qs))) d at f r
  put_behind p ps qs a b =
      put_as (sym (join_behind tab p ps qs)) (put_more (join tab (p ∷ ps)) (join tab ([] ∷ qs)) a b)

  -- a field with the tab after it, then those that follow
  pub put_joined : (p q : List ℕ) (ps : List (List ℕ)) → Put (p ++ (tab ∷ [])) d at e k →
      Put (join tab (q ∷ ps)) e k f r → Put (join tab (p ∷ (q ∷ ps))) d at f r
  unfolding join
  put_joined p q ps a b =
      put_as (append_assoc p (tab ∷ []) (join tab (q ∷ ps))) (put_more (p ++ (tab ∷ [])) (join tab (q ∷ ps)) a b)

-- one row more: f is a row's line
lines_next : {A : Type 0} (f : A → Line) (z : A) (xs : List A) (i : ℕ) → i < length xs →
    map write_line (map f (take (i + 1) xs)) ≡ map write_line (map f (take i xs)) ++ (write_line (f (get_or xs i z)) ∷ [])
lines_next f z xs i h =
    rw (add-one i, take-suc xs i z h, map-append f (take i xs) (get_or xs i z ∷ []))
    (map-append write_line (map f (take i xs)) (f (get_or xs i z) ∷ []))

module _ {d : List ℕ} {at : ℕ} {e : List ℕ} {k : ℕ} {g : List ℕ} {r : ℕ} where
  put_next : {A : Type 0} (f : A → Line) (z : A) (xs : List A) (i : ℕ) → i < length xs →
      Put (closed (map write_line (map f (take i xs)))) d at e k →
      Put (closed (write_line (f (get_or xs i z)) ∷ [])) e k g r →
      Put (closed (map write_line (map f (take (i + 1) xs)))) d at g r
  put_next f z xs i h p q =
      rw (lines_next f z xs i h) (put_lines (map write_line (map f (take i xs))) (write_line (f (get_or xs i z)) ∷ []) p q)

  pub put_next_server : (t : ℕ) (ss : List Server) (i : ℕ) → i < length ss →
      Put (closed (map write_line (server_lines t (take i ss)))) d at e k →
      Put (closed (write_line (OfServer (server_back t (get_or ss i no_server))) ∷ [])) e k g r →
      Put (closed (map write_line (server_lines t (take (i + 1) ss)))) d at g r
  unfolding server_lines
  put_next_server t = put_next (λ s. OfServer (server_back t s)) no_server

  pub put_next_task : (t : ℕ) (ks : List Task) (i : ℕ) → i < length ks →
      Put (closed (map write_line (task_lines t (take i ks)))) d at e k →
      Put (closed (write_line (OfTask (task_back t (get_or ks i no_task))) ∷ [])) e k g r →
      Put (closed (map write_line (task_lines t (take (i + 1) ks)))) d at g r
  unfolding task_lines
  put_next_task t = put_next (λ x. OfTask (task_back t x)) no_task

pub no_servers : (t : ℕ) (d : List ℕ) (at : ℕ) → Put (closed (map write_line (server_lines t []))) d at d at
unfolding server_lines closed
no_servers t d at = put_none d at

pub no_tasks : (t : ℕ) (d : List ℕ) (at : ℕ) → Put (closed (map write_line (task_lines t []))) d at d at
unfolding task_lines closed
no_tasks t d at = put_none d at

-- the `tick` line, the servers, the tasks
lines_written : (t : Table) →
    closed ((write_line (OfTick t.tick) ∷ []) ++ (map write_line (server_lines t.tick.0 (rows_of t).servers) ++
    map write_line (task_lines t.tick.0 (rows_of t).tasks))) ≡ write (rows_of t)
unfolding write lines_of
lines_written t =
    ap (λ ls. closed (write_line (OfTick t.tick) ∷ ls))
    (sym (map-append write_line (server_lines t.tick.0 (rows_of t).servers) (task_lines t.tick.0 (rows_of t).tasks)))

pub put_rows : (t : Table) {d e f g : List ℕ} {at j k r : ℕ} → Put (closed (write_line (OfTick t.tick) ∷ [])) d at e j →
    Put (closed (map write_line (server_lines t.tick.0 (rows_of t).servers))) e j f k →
    Put (closed (map write_line (task_lines t.tick.0 (rows_of t).tasks))) f k g r → Put (write (rows_of t)) d at g r
put_rows t p q s =
    let ss = map write_line (server_lines t.tick.0 (rows_of t).servers) in
    let ks = map write_line (task_lines t.tick.0 (rows_of t).tasks) in
    put_as (lines_written t) (put_lines (write_line (OfTick t.tick) ∷ []) (ss ++ ks) p (put_lines ss ks q s))

-- what is answered and left: 13, 12, and the text
pub wrote_unsound : (t : Table) (room : List ℕ) → table_keeps t ≡ false → unwritten Unsound room ≡ wrote t room
unfolding wrote
wrote_unsound t room e = rw e

-- the text made in a room of its own, of 16,384 bytes
pub made : (t : Table) → table_keeps t ≡ true → {d e : List ℕ} {n : ℕ} → length d ≡ 16384 →
    Put (write (rows_of t)) d 0 e n →
    (n ≡ length (write (rows_of t))) × (take n e ≡ write (rows_of t)) × (n ≤ 16384)
made t k {d} {e} {n} l p =
    let x = write (rows_of t) in
    let h = written_fits t k in
    let f = put_fits x (omega (arith, h)) p in
    let m : n ≡ length x = omega (arith, f.1) in
    (m, rw f.0 (take_at x (drop (0 + length x) d) n (sym m)), omega (arith, h))

pub wrote_short : (t : Table) (room : List ℕ) → table_keeps t ≡ true → {n : ℕ} → n ≡ length (write (rows_of t)) →
    length room < n →
    unwritten RoomShort room ≡ wrote t room
unfolding wrote
wrote_short t room e m h = rw (e, lt-leb (length (write (rows_of t))) (length room) (omega arith))

pub wrote_all : (t : Table) → table_keeps t ≡ true → {n : ℕ} → n ≡ length (write (rows_of t)) → {x : List ℕ} →
    x ≡ write (rows_of t) → {room : List ℕ} →
    n ≤ length room → {left : List ℕ} {r : ℕ} → Put x room 0 left r → record { answer = Ok n; room = left } ≡ wrote t room
unfolding wrote
wrote_all t e m q {room} h p =
    let y = write (rows_of t) in
    let z : 0 + length y ≡ length y = omega arith in
    let f = put_fits y (omega arith) (put_as q p) in
    rw (e, le-leb (length y) (length room) (omega arith), f.0, m, z)
