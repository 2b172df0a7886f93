-- Counting taken ticks: which columns change, and where; that they then hold the numbers of one tick
-- more; and how a loop goes over many ticks. Assumes nothing.
use Rattle.std.specs.Prelude.{if◌then◌else◌}
use mathlib.Core.Path.{◌≡◌, refl, sym, ap, ap₂, ◌∙◌}
use mathlib.Core.Bool.{Bool, true, false, not, ◌&&◌}
use mathlib.Core.List.{List, [], ◌∷◌, ◌++◌, append_assoc, append-nil}
use mathlib.Core.Logic.{◌⊎◌, inl, inr}
use Prim.Native.Nat.{ℕ, zero, suc, ◌+◌, ◌*◌, ◌-◌, ◌≤◌, ◌<◌}
use native.Mathlib.Omega.{arith}
use native.Mathlib.Nat.{add-zero}
use native.Mathlib.Numerals.{add-one}
use lib.Dec.{eqb, ltb}
use lib.ListN.{length, get_or, set, take, drop, length-set, length-append, length-drop}
use lib.Seq.{set-get_or, take-take, take-add, take_at, drop_at, drop-drop}
use borrow.Rule.Slice.PartMut.{put_mid, drop_put}
use borrow.Author.Tests.{eqb-true, eqb-false, ne_eqb, lt-ltb}
use Rattle.laws.specs.Choice.{larger, one_if}
use Rattle.laws.proofs.Choice.{clash, if_ind}
use Rattle.laws.proofs.Rows.{sum_part}
use Rattle.table.specs.declared.Table.{Table}
use Rattle.events.specs.declared.Turn.{Turn}
use Rattle.events.specs.declared.Turn.TheVariants.{Run as Ran, Empty, Idle}
use Rattle.events.specs.declared.Left.{Left}
use Rattle.events.specs.declared.Left.TheVariants.{Nobody, Done, Cut}
use Rattle.events.specs.declared.TickAnswer.{TickAnswer}
use Rattle.events.specs.declared.Told.TheVariants.{Ticked}
use Rattle.run.specs.State.{waits}
use Rattle.events.specs.Answers.{one, charged, finished_by, cut_by}
use Rattle.table.specs.Rows.{mode_value}
use Rattle.table.proofs.Rows.{mode_below}
use Rattle.events.specs.Values.{turn_values, left_values, told_values}
use Rattle.run.specs.Found.{TakenTick, found_values, all_found, all_told}
use Rattle.queues.proofs.Queues.{set_at, set_past}
use Rattle.events.proofs.Answers.{one_here, one_past_lem, same_or_not}
use Rattle.events.proofs.Answers.{charged_le}
use Rattle.events.proofs.Values.{told_length}
use Rattle.run.proofs.Found.{found_length, found_server, found_task}
use Rattle.morning.specs.Numbers.{empty_turn, passed_over, in_this_mode}
use Rattle.morning.specs.Inner.{over_ticks, row_to, ServerBelow, TaskBelow, TickFits}
use Rattle.morning.proofs.Inner.{over_next, over_most, row_next, row_most, longest_next}
use Rattle.report.specs.Inner.Count.{added, turn_counted, left_counted, uncharged, row_after, RowsCounted}
use Rattle.report.specs.Inner.Count.{DiscardsCounted, TickHanded, TicksHanded, Columns, Counted}
use Rattle.report.specs.declared.count.Counts.{Counts}

-- The rows of i servers counted: those of the others are as they were.
pub record RowsGoing (i : ℕ) (found : List ℕ) (c d : Counts) : Type 0 where
  pub done : RowsCounted i found c d
  pub row_rest : (j : ℕ) → i ≤ j → get_or d.row j 0 ≡ get_or c.row j 0
  pub longest_rest : (j : ℕ) → i ≤ j → get_or d.longest j 0 ≡ get_or c.longest j 0

-- The discards of k tasks counted: those of the others are as they were.
pub record DiscardsGoing (k : ℕ) (found : List ℕ) (c d : Counts) : Type 0 where
  pub done : DiscardsCounted k found c d
  pub rest : (j : ℕ) → k ≤ j → get_or d.discarded j 0 ≡ get_or c.discarded j 0

-- where no job was discarded nothing is to be counted
discards_none : (n : ℕ) (found : List ℕ) (c : Counts) → ((k : ℕ) → k < n → get_or found (32 + k) 0 ≡ 0) →
    DiscardsCounted n found c c
discards_none n found c h = record { only = refl; long = refl; discarded = λ k l. omega (arith, h k l) }

-- A row to which n is added, or another: b says which.
added_cell : (xs : List ℕ) (p n j : ℕ) (b : Bool) → (b ≡ true → p ≡ j) → (b ≡ false → p ≡ j → ⊥) → p < length xs →
    get_or (added xs p n) j 0 ≡ get_or xs j 0 + (if b then n else 0)
added_cell xs p n j true f g l =
    set_at xs p (get_or xs p 0 + n) j l (f refl) ∙ ap (λ k. get_or xs k 0 + n) (f refl)
added_cell xs p n j false f g l = set_past xs p (get_or xs p 0 + n) j (g refl) ∙ sym (add-zero (get_or xs j 0))

added_row : (xs : List ℕ) (p n j : ℕ) → p < length xs → get_or (added xs p n) j 0 ≡ get_or xs j 0 + (if eqb p j then n else 0)
added_row xs p n j l = added_cell xs p n j (eqb p j) (eqb-true p j) (eqb-false p j) l

-- What is told of a taken tick, number by number.
abbrev what_of : Turn → ℕ
what_of u = get_or (turn_values u) 0 0

abbrev server_of : Turn → ℕ
server_of u = get_or (turn_values u) 1 0

abbrev how_of : Left → ℕ
how_of h = get_or (left_values h) 0 0

abbrev task_of : Left → ℕ
task_of h = get_or (left_values h) 1 0

record Tells (a : TickAnswer) (xs : List ℕ) : Type 0 where
  pub long : length xs ≡ 9
  pub mode : get_or xs 2 0 ≡ mode_value a.mode
  pub what : get_or xs 3 0 ≡ what_of a.turn
  pub server : get_or xs 4 0 ≡ server_of a.turn
  pub how : get_or xs 6 0 ≡ how_of a.left
  pub task : get_or xs 7 0 ≡ task_of a.left
  pub discarded : get_or xs 8 0 ≡ a.discarded

turn_listed : (u : Turn) (xs : List ℕ) →
    turn_values u ++ xs ≡ what_of u ∷ server_of u ∷ get_or (turn_values u) 2 0 ∷ xs
turn_listed (Ran i k) xs = refl
turn_listed (Empty i) xs = refl
turn_listed Idle xs = refl

left_listed : (h : Left) (xs : List ℕ) → left_values h ++ xs ≡ how_of h ∷ task_of h ∷ xs
left_listed Nobody xs = refl
left_listed (Done k) xs = refl
left_listed (Cut k) xs = refl

told_listed : (a : TickAnswer) →
    told_values (Ticked a) ≡
    2 ∷ a.tick.0 ∷ mode_value a.mode ∷ what_of a.turn ∷ server_of a.turn ∷ get_or (turn_values a.turn) 2 0
    ∷ how_of a.left ∷ task_of a.left ∷ a.discarded ∷ []
unfolding told_values
told_listed a =
    ap (λ (l : List ℕ). 2 ∷ a.tick.0 ∷ mode_value a.mode ∷ l)
    (turn_listed a.turn (left_values a.left ++ (a.discarded ∷ []))
    ∙ ap (λ (l : List ℕ). what_of a.turn ∷ server_of a.turn ∷ get_or (turn_values a.turn) 2 0 ∷ l)
    (left_listed a.left (a.discarded ∷ [])))

tells : (a : TickAnswer) (xs : List ℕ) → xs ≡ told_values (Ticked a) → Tells a xs
tells a xs e =
    let f = e ∙ told_listed a in
    record {
      long = ap length f;
      mode = ap (λ (l : List ℕ). get_or l 2 0) f;
      what = ap (λ (l : List ℕ). get_or l 3 0) f;
      server = ap (λ (l : List ℕ). get_or l 4 0) f;
      how = ap (λ (l : List ℕ). get_or l 6 0) f;
      task = ap (λ (l : List ℕ). get_or l 7 0) f;
      discarded = ap (λ (l : List ℕ). get_or l 8 0) f;
    }

-- the rows told are rows of the arrays, and those counted are in use
server_below : (n : ℕ) (u : Turn) → n ≤ 32 → ServerBelow n u → server_of u < 32
server_below n (Ran i k) h b = omega arith
server_below n (Empty i) h b = omega arith
server_below n Idle h b = omega arith

charged_below : (n : ℕ) (u : Turn) → ServerBelow n u → not (eqb (what_of u) 0) ≡ true → server_of u < n
charged_below n (Ran i k) b e = b
charged_below n (Empty i) b e = b
charged_below n Idle b e = absurd (clash false e refl)

empty_below : (n : ℕ) (u : Turn) → ServerBelow n u → eqb (what_of u) 1 ≡ true → server_of u < n
empty_below n (Ran i k) b e = absurd (clash false e refl)
empty_below n (Empty i) b e = b
empty_below n Idle b e = absurd (clash false e refl)

task_below : (n : ℕ) (h : Left) → n ≤ 64 → TaskBelow n h → task_of h < 64
task_below n Nobody l b = omega arith
task_below n (Done k) l b = omega arith
task_below n (Cut k) l b = omega arith

finished_below : (n : ℕ) (h : Left) → TaskBelow n h → eqb (how_of h) 1 ≡ true → task_of h < n
finished_below n Nobody b e = absurd (clash false e refl)
finished_below n (Done k) b e = b
finished_below n (Cut k) b e = absurd (clash false e refl)

cut_below : (n : ℕ) (h : Left) → TaskBelow n h → eqb (how_of h) 2 ≡ true → task_of h < n
cut_below n Nobody b e = absurd (clash false e refl)
cut_below n (Done k) b e = absurd (clash false e refl)
cut_below n (Cut k) b e = b

-- what they count is what the answer says of each row
none_either : (b : Bool) → ◌≡◌ {A = ℕ} (if b then 0 else 0) 0
none_either true = refl
none_either false = refl

turn_charged : (u : Turn) (i : ℕ) → (if eqb (server_of u) i then one_if (not (eqb (what_of u) 0)) else 0) ≡ charged u i
turn_charged (Ran j k) i = refl
turn_charged (Empty j) i = refl
turn_charged Idle i = none_either (eqb 0 i)

turn_empty : (u : Turn) (i : ℕ) → (if eqb (server_of u) i then one_if (eqb (what_of u) 1) else 0) ≡ empty_turn u i
turn_empty (Ran j k) i = none_either (eqb j i)
turn_empty (Empty j) i = refl
turn_empty Idle i = none_either (eqb 0 i)

left_finished : (h : Left) (k : ℕ) → (if eqb (task_of h) k then one_if (eqb (how_of h) 1) else 0) ≡ finished_by h k
left_finished Nobody k = none_either (eqb 0 k)
left_finished (Done j) k = refl
left_finished (Cut j) k = none_either (eqb j k)

left_cut : (h : Left) (k : ℕ) → (if eqb (task_of h) k then one_if (eqb (how_of h) 2) else 0) ≡ cut_by h k
left_cut Nobody k = none_either (eqb 0 k)
left_cut (Done j) k = none_either (eqb j k)
left_cut (Cut j) k = refl

-- The row of a server goes on where a job of it waits and it is not charged, else it is over.
row_goes : (p row : ℕ) → row_after p row ≡ (if ltb 0 p && true then suc row else 0)
row_goes zero row = refl
row_goes (suc p) row = rw (ne_eqb (suc p) 0 (λ e. omega arith), lt-ltb 0 (suc p) (omega arith)) (add-one row)

row_over : (b : Bool) (row : ℕ) → 0 ≡ (if b && false then suc row else 0)
row_over true row = refl
row_over false row = refl

row_charged : (found : List ℕ) (s i row : ℕ) → s < length found →
    row_after (get_or (set found s 0) i 0) row ≡ (if ltb 0 (get_or found i 0) && eqb (one s i) 0 then suc row else 0)
row_charged found s i row l = go (same_or_not s i)
  where
    go : (s ≡ i) ⊎ (s ≡ i → ⊥) →
        row_after (get_or (set found s 0) i 0) row ≡ (if ltb 0 (get_or found i 0) && eqb (one s i) 0 then suc row else 0)
    go (inl e) = rw (set_at found s 0 i l e, one_here s i e) (row_over (ltb 0 (get_or found i 0)) row)
    go (inr n) = rw (set_past found s 0 i n, one_past_lem s i n) (row_goes (get_or found i 0) row)

row_told : (u : Turn) (found : List ℕ) (i row : ℕ) → server_of u < length found →
    row_after (get_or (uncharged (what_of u) (server_of u) found) i 0) row ≡
    (if ltb 0 (get_or found i 0) && eqb (charged u i) 0 then suc row else 0)
row_told (Ran s k) found i row l = row_charged found s i row l
row_told (Empty s) found i row l = row_charged found s i row l
row_told Idle found i row l = rw (set-get_or found 0 0) (row_goes (get_or found i 0) row)

-- one tick counts at most 1
one_most : (i j : ℕ) → one i j ≤ 1
one_most i j = if_ind (λ (n : ℕ). n ≤ 1) (eqb i j) (λ e. omega arith) (λ e. omega arith)

empty_most : (u : Turn) (i : ℕ) → empty_turn u i ≤ 1
empty_most (Ran j k) i = omega arith
empty_most (Empty j) i = one_most j i
empty_most Idle i = omega arith

finished_most : (h : Left) (k : ℕ) → finished_by h k ≤ 1
finished_most Nobody k = omega arith
finished_most (Done j) k = one_most j k
finished_most (Cut j) k = omega arith

cut_most : (h : Left) (k : ℕ) → cut_by h k ≤ 1
cut_most Nobody k = omega arith
cut_most (Done j) k = omega arith
cut_most (Cut j) k = one_most j k

-- One tick more: d is what stands when the rows are counted, e when all is.
module _ (t : Table) (ms : List TakenTick) (m : TakenTick) where
  abbrev turn : Turn
  turn = m.answer.turn

  abbrev left : Left
  left = m.answer.left

  abbrev server_row : ℕ
  server_row = server_of turn

  abbrev task_row : ℕ
  task_row = task_of left

  abbrev mode_row : ℕ
  mode_row = mode_value m.answer.mode

  module _ {found : List ℕ} {c d e : Counts} (few : (t.nservers ≤ 32) × (t.ntasks ≤ 64)) (finds : found ≡ found_values t m)
      (fits : TickFits t m)
      (seen : (k : ℕ) → k < t.ntasks →
      (get_or (uncharged (what_of turn) server_row found) (32 + k) 0 ≡ m.discarded k)
      × (get_or (uncharged (what_of turn) server_row found) (32 + k) 0 ≤ 255))
      (was : Counted t ms c)
      (rows : RowsCounted t.nservers (uncharged (what_of turn) server_row found)
      (turn_counted (what_of turn) server_row (record c { modes = added c.modes mode_row 1 })) d)
      (gone : DiscardsCounted t.ntasks (uncharged (what_of turn) server_row found)
      (left_counted (how_of left) task_row d) e) where
    abbrev charge : ℕ
    charge = one_if (not (eqb (what_of turn) 0))

    abbrev vacant : ℕ
    vacant = one_if (eqb (what_of turn) 1)

    abbrev finish : ℕ
    finish = one_if (eqb (how_of left) 1)

    abbrev broken : ℕ
    broken = one_if (eqb (how_of left) 2)

    server_low : server_row < 32
    server_low = server_below t.nservers turn few.0 fits.server

    task_low : task_row < 64
    task_low = task_below t.ntasks left few.1 fits.task

    -- which column became what
    charged_is : e.charged ≡ added c.charged server_row charge
    charged_is = ap (λ (x : Counts). x.charged) gone.only ∙ ap (λ (x : Counts). x.charged) rows.only

    empty_is : e.empty ≡ added c.empty server_row vacant
    empty_is = ap (λ (x : Counts). x.empty) gone.only ∙ ap (λ (x : Counts). x.empty) rows.only

    row_is : e.row ≡ d.row
    row_is = ap (λ (x : Counts). x.row) gone.only

    longest_is : e.longest ≡ d.longest
    longest_is = ap (λ (x : Counts). x.longest) gone.only

    finished_is : e.finished ≡ added c.finished task_row finish
    finished_is =
        ap (λ (x : Counts). x.finished) gone.only ∙ ap (λ (x : Counts). added x.finished task_row finish) rows.only

    cut_is : e.cut ≡ added c.cut task_row broken
    cut_is = ap (λ (x : Counts). x.cut) gone.only ∙ ap (λ (x : Counts). added x.cut task_row broken) rows.only

    modes_is : e.modes ≡ added c.modes mode_row 1
    modes_is = ap (λ (x : Counts). x.modes) gone.only ∙ ap (λ (x : Counts). x.modes) rows.only

    discarded_was : d.discarded ≡ c.discarded
    discarded_was = ap (λ (x : Counts). x.discarded) rows.only

    -- a job of it waits
    waits_found : (i : ℕ) → i < t.nservers → ltb 0 (get_or found i 0) ≡ waits t m.found i
    waits_found i l =
        ap (λ (x : List ℕ). ltb 0 (get_or x i 0)) finds ∙ ap (ltb 0) (found_server t m i (omega (arith, few.0))) ∙ fits.waits i l

    row_then : (i : ℕ) → i < t.nservers → get_or d.row i 0 ≡ row_to (passed_over t i) 0 (ms ++ (m ∷ []))
    unfolding passed_over
    row_then i l =
        rows.row i l
        ∙ ap (row_after (get_or (uncharged (what_of turn) server_row found) i 0)) (was.row i l)
        ∙ row_told turn found i (row_to (passed_over t i) 0 ms) (omega (arith, server_low, ap length finds, found_length t m))
        ∙ ap (λ (w : Bool). if w && eqb (charged turn i) 0 then suc (row_to (passed_over t i) 0 ms) else 0)
        (waits_found i l)
        ∙ sym (row_next (passed_over t i) 0 ms m)

    discarded_then : (k : ℕ) → k < t.ntasks →
        get_or e.discarded k 0 ≡ get_or c.discarded k 0 + get_or (uncharged (what_of turn) server_row found) (32 + k) 0
    discarded_then k l =
        gone.discarded k l
        ∙ ap (λ (x : List ℕ). get_or x k 0 + get_or (uncharged (what_of turn) server_row found) (32 + k) 0) discarded_was

    abbrev columns : Columns c
    columns = was.columns

    tick_next : Counted t (ms ++ (m ∷ [])) e
    tick_next =
        record {
          columns =
              record {
                charged = ap length charged_is ∙ length-set c.charged server_row _ ∙ columns.charged;
                empty = ap length empty_is ∙ length-set c.empty server_row _ ∙ columns.empty;
                row = ap length row_is ∙ rows.long.0 ∙ columns.row;
                longest = ap length longest_is ∙ rows.long.1 ∙ columns.longest;
                finished = ap length finished_is ∙ length-set c.finished task_row _ ∙ columns.finished;
                cut = ap length cut_is ∙ length-set c.cut task_row _ ∙ columns.cut;
                discarded = gone.long ∙ ap length discarded_was ∙ columns.discarded;
                modes = ap length modes_is ∙ length-set c.modes mode_row _ ∙ columns.modes;
              };
          charged =
              λ i l.
              ap (λ (x : List ℕ). get_or x i 0) charged_is
              ∙ added_row c.charged server_row charge i (omega (arith, server_low, columns.charged))
              ∙ ap₂ ◌+◌ (was.charged i l) (turn_charged turn i)
              ∙ sym (over_next (λ x. charged x.answer.turn i) ms m);
          empty =
              λ i l.
              ap (λ (x : List ℕ). get_or x i 0) empty_is
              ∙ added_row c.empty server_row vacant i (omega (arith, server_low, columns.empty))
              ∙ ap₂ ◌+◌ (was.empty i l) (turn_empty turn i)
              ∙ sym (over_next (λ x. empty_turn x.answer.turn i) ms m);
          row = λ i l. ap (λ (x : List ℕ). get_or x i 0) row_is ∙ row_then i l;
          longest =
              λ i l.
              ap (λ (x : List ℕ). get_or x i 0) longest_is
              ∙ rows.longest i l
              ∙ ap₂ larger (was.longest i l) (row_then i l)
              ∙ sym (longest_next (passed_over t i) ms m);
          finished =
              λ k l.
              ap (λ (x : List ℕ). get_or x k 0) finished_is
              ∙ added_row c.finished task_row finish k (omega (arith, task_low, columns.finished))
              ∙ ap₂ ◌+◌ (was.finished k l) (left_finished left k)
              ∙ sym (over_next (λ x. finished_by x.answer.left k) ms m);
          cut =
              λ k l.
              ap (λ (x : List ℕ). get_or x k 0) cut_is
              ∙ added_row c.cut task_row broken k (omega (arith, task_low, columns.cut))
              ∙ ap₂ ◌+◌ (was.cut k l) (left_cut left k)
              ∙ sym (over_next (λ x. cut_by x.answer.left k) ms m);
          discarded =
              λ k l.
              discarded_then k l
              ∙ ap₂ ◌+◌ (was.discarded k l) (seen k l).0
              ∙ sym (over_next (λ x. x.discarded k) ms m);
          small =
              λ k l. omega (arith, discarded_then k l, was.small k l, (seen k l).1, length-append ms (m ∷ []));
          modes = λ x.
              ap (λ (y : List ℕ). get_or y (mode_value x) 0) modes_is
              ∙ added_cell c.modes mode_row 1 (mode_value x) (eqb (mode_value x) mode_row)
              (λ q. sym (eqb-true (mode_value x) mode_row q))
              (λ q p. eqb-false (mode_value x) mode_row q (sym p)) (omega (arith, mode_below m.answer.mode, columns.modes))
              ∙ ap (λ n. n + in_this_mode x m.answer.mode) (was.modes x)
              ∙ sym (over_next (λ y. in_this_mode x y.answer.mode) ms m);
        }

-- A tick handed in: what each function that counts a part of it asks for, and what all of them leave.
module _ {t : Table} {ms : List TakenTick} {m : TakenTick} {nservers ntasks : ℕ} {told found : List ℕ} {c : Counts}
    (h : TickHanded t ms m nservers ntasks told found c) where
  abbrev mode : ℕ
  mode = get_or told 2 0

  abbrev what : ℕ
  what = get_or told 3 0

  abbrev server : ℕ
  server = get_or told 4 0

  abbrev how : ℕ
  how = get_or told 6 0

  abbrev task : ℕ
  task = get_or told 7 0

  abbrev seen : List ℕ
  seen = uncharged what server found

  abbrev says : Tells m.answer told
  says = tells m.answer told h.tells

  found_long : length found ≡ 96
  found_long = ap length h.finds ∙ found_length t m

  -- a number of which each tick counts at most 1
  few_counted : {x : ℕ} (f : TakenTick → ℕ) → ((y : TakenTick) → f y ≤ 1) → x ≡ over_ticks f ms → x < 4000000000
  few_counted f most e = omega (arith, over_most f ms most, h.within)

  pub mode_ready : (mode < 3) × (get_or c.modes mode 0 < 4000000000)
  mode_ready =
      let x = m.answer.mode in
      rw says.mode (
        mode_below x,
        few_counted (λ y. in_this_mode x y.answer.mode) (λ y. one_most (mode_value x) (mode_value y.answer.mode))
            (h.counted.modes x),
      )

  pub turn_ready : (server < 32) × (length found ≡ 96) × (not (eqb what 0) ≡ true → get_or c.charged server 0 < 4294967295) ×
      (eqb what 1 ≡ true → get_or c.empty server 0 < 4294967295)
  turn_ready =
      let u = m.answer.turn in
      let s = server_of u in
      let b = h.fits.server in
      rw (says.what, says.server) (
        server_below t.nservers u (omega (arith, h.rows.0, h.few.0)) b,
        found_long,
        λ e.
            let l = h.counted.charged s (charged_below t.nservers u b e) in
            omega (arith, few_counted (λ y. charged y.answer.turn s) (λ y. charged_le y.answer.turn s) l),
        λ e.
            let l = h.counted.empty s (empty_below t.nservers u b e) in
            omega (arith, few_counted (λ y. empty_turn y.answer.turn s) (λ y. empty_most y.answer.turn s) l),
      )

  pub rows_ready : {found' row : List ℕ} → found' ≡ seen → row ≡ c.row →
      (nservers ≤ 32) × (length found' ≡ 96) × ((i : ℕ) → i < nservers → get_or row i 0 < 4294967295)
  rows_ready e f =
      rw (e, f) (
        h.few.0,
        length-set found server _ ∙ found_long,
        λ i k. omega (arith, h.counted.row i (omega (arith, h.rows.0)), row_most (passed_over t i) ms, h.within),
      )

  pub left_ready : {finished cut : List ℕ} → finished ≡ c.finished → cut ≡ c.cut →
      (task < 64) × (eqb how 1 ≡ true → get_or finished task 0 < 18446744073709551615) ×
      (eqb how 2 ≡ true → get_or cut task 0 < 18446744073709551615)
  left_ready p q =
      let d = m.answer.left in
      let k = task_of d in
      let b = h.fits.task in
      rw (p, q, says.how, says.task) (
        task_below t.ntasks d (omega (arith, h.rows.1, h.few.1)) b,
        λ e.
            let l = h.counted.finished k (finished_below t.ntasks d b e) in
            omega (arith, few_counted (λ y. finished_by y.answer.left k) (λ y. finished_most y.answer.left k) l),
        λ e.
            let l = h.counted.cut k (cut_below t.ntasks d b e) in
            omega (arith, few_counted (λ y. cut_by y.answer.left k) (λ y. cut_most y.answer.left k) l),
      )

  pub discards_ready : {found' discarded : List ℕ} → found' ≡ seen → discarded ≡ c.discarded →
      (ntasks ≤ 64) × (length found' ≡ 96) ×
      ((k : ℕ) → k < ntasks → get_or discarded k 0 + 255 < 18446744073709551616)
  discards_ready e f =
      rw (e, f) (
        h.few.1,
        length-set found server _ ∙ found_long,
        λ k i. omega (arith, h.counted.small k (omega (arith, h.rows.1)), h.within),
      )

  -- what step 2 discarded of a task
  seen_task : (k : ℕ) → k < t.ntasks → get_or seen (32 + k) 0 ≡ m.discarded k
  seen_task k l =
      set_past found server _ (32 + k) (λ e. omega (arith, turn_ready.0))
      ∙ ap (λ (x : List ℕ). get_or x (32 + k) 0) h.finds
      ∙ found_task t m k l (omega (arith, h.rows.1, h.few.1))

  pub nothing_discarded : {found' : List ℕ} (d : Counts) → found' ≡ seen → get_or told 8 0 ≤ 0 → DiscardsCounted ntasks found' d d
  nothing_discarded {found'} d e z =
      discards_none ntasks found' d
      (λ k l.
      let b : k < t.ntasks = omega (arith, h.rows.1) in
      ap (λ (x : List ℕ). get_or x (32 + k) 0) e
      ∙ omega (arith, seen_task k b, sum_part m.discarded t.ntasks k b, h.fits.counted, says.discarded))

  -- all of it counted
  pub tick_counted : {found' : List ℕ} {d e : Counts} → found' ≡ seen → ((k : ℕ) → get_or found' k 0 < 256) →
      RowsCounted nservers found' (turn_counted what server (record c { modes = added c.modes mode 1 })) d →
      DiscardsCounted ntasks found' (left_counted how task d) e → Counted t (ms ++ (m ∷ [])) e
  tick_counted p bytes r g =
      let b : (k : ℕ) → get_or seen k 0 < 256 = rw p at bytes in
      let v : (k : ℕ) → k < t.ntasks → (get_or seen (32 + k) 0 ≡ m.discarded k) × (get_or seen (32 + k) 0 ≤ 255) =
      λ k l. (seen_task k l, omega (arith, b (32 + k))) in
      tick_next t ms m (omega (arith, h.rows.0, h.few.0), omega (arith, h.rows.1, h.few.1)) h.finds h.fits
      (rw (says.what, says.server) at v)
      h.counted
      (rw (h.rows.0, p, says.what, says.server, says.mode) at r)
      (rw (h.rows.1, p, says.what, says.server, says.how, says.task) at g)

-- Many ticks handed in. The first of them stands at the front of what was told and found.
front : (a b : ℕ) (xs ys zs : List ℕ) → length ys ≡ a → take (a + b) xs ≡ ys ++ zs →
    (take a xs ≡ ys) × (take b (drop a xs) ≡ zs)
front a b xs ys zs l e =
    let f : take a xs ≡ ys = sym (take-take a (a + b) xs (omega arith)) ∙ ap (take a) e ∙ take_at ys zs a l in (
      f,
      sym (drop_at (take a xs) (take b (drop a xs)) a (ap length f ∙ l))
          ∙ ap (drop a) (sym (take-add a b xs) ∙ e)
          ∙ drop_at ys zs a l,
    )

module _ {t : Table} {ms : List TakenTick} {m : TakenTick} {new : List TakenTick} {nservers ntasks n : ℕ}
    {told found : List ℕ} {c : Counts} (h : TicksHanded t ms (m ∷ new) nservers ntasks (suc n) told found c) where
  told_front : (take 9 told ≡ told_values (Ticked m.answer)) × (take (9 * n) (drop 9 told) ≡ all_told new)
  unfolding all_told
  told_front =
      let e : 9 + 9 * n ≡ 9 * suc n = omega arith in
      front 9 (9 * n) told (told_values (Ticked m.answer)) (all_told new) (told_length (Ticked m.answer))
      (ap (λ k. take k told) e ∙ h.tells)

  found_front : (take 96 found ≡ found_values t m) × (take (96 * n) (drop 96 found) ≡ all_found t new)
  unfolding all_found
  found_front =
      let e : 96 + 96 * n ≡ 96 * suc n = omega arith in
      front 96 (96 * n) found (found_values t m) (all_found t new) (found_length t m)
      (ap (λ k. take k found) e ∙ h.finds)

  pub first_handed : (a b : ℕ) → a ≡ 9 → b ≡ 96 →
      TickHanded t ms m nservers ntasks (take a told) (take b found) c
  first_handed a b e f =
      rw (e, f)
      (record {
        rows = h.rows;
        few = h.few;
        tells = told_front.0;
        finds = found_front.0;
        fits = h.fits.0;
        counted = h.counted;
        within = omega (arith, h.within);
      })

  rest_handed : (told' found' : List ℕ) (d : Counts) → told' ≡ drop 9 told → found' ≡ drop 96 found →
      Counted t (ms ++ (m ∷ [])) d → TicksHanded t (ms ++ (m ∷ [])) new nservers ntasks n told' found' d
  rest_handed told' found' d e f k =
      rw (e, f)
      (record {
        rows = h.rows;
        few = h.few;
        many = omega (arith, h.many);
        tells = told_front.1;
        told_long = omega (arith, length-drop 9 told, h.told_long);
        finds = found_front.1;
        found_long = omega (arith, length-drop 96 found, h.found_long);
        fits = h.fits.1;
        counted = k;
        within = omega (arith, h.within, length-append ms (m ∷ []));
      })

-- Some are counted, others are left, and together they are all.
pub record TicksLeft (t : Table) (all : List TakenTick) (nservers ntasks n : ℕ)
    (told found : List ℕ) (c : Counts) : Type 0 where
  pub done : List TakenTick
  pub left : List TakenTick
  pub handed : TicksHanded t done left nservers ntasks n told found c
  pub together : done ++ left ≡ all

-- the same where a tick is left
pub record TickLeft (t : Table) (all : List TakenTick) (nservers ntasks n : ℕ)
    (told found : List ℕ) (c : Counts) : Type 0 where
  pub done : List TakenTick
  pub tick : TakenTick
  pub rest : List TakenTick
  pub handed : TicksHanded t done (tick ∷ rest) nservers ntasks (suc n) told found c
  pub together : done ++ (tick ∷ rest) ≡ all

module _ {t : Table} {all : List TakenTick} {nservers ntasks : ℕ} {told found : List ℕ} {c : Counts} where
  pub none_left : TicksLeft t all nservers ntasks 0 told found c → Counted t all c
  none_left g = go g.left g.handed g.together
    where
      go : (left : List TakenTick) → TicksHanded t g.done left nservers ntasks 0 told found c →
          g.done ++ left ≡ all → Counted t all c
      go [] h e = rw (← e, append-nil g.done) h.counted
      go (m ∷ new) h e = absurd (omega (arith, h.many))

  pub one_left : (k : ℕ) {n : ℕ} → k ≡ suc n → TicksLeft t all nservers ntasks k told found c →
      TickLeft t all nservers ntasks n told found c
  one_left k {n} q g = go g.left (rw q at g.handed) g.together
    where
      go : (left : List TakenTick) → TicksHanded t g.done left nservers ntasks (suc n) told found c →
          g.done ++ left ≡ all → TickLeft t all nservers ntasks n told found c
      go [] h e = absurd (omega (arith, h.many))
      go (m ∷ new) h e = record { done = g.done; tick = m; rest = new; handed = h; together = e }

  pub rest_left : {n : ℕ} (g : TickLeft t all nservers ntasks n told found c)
      {told' found' : List ℕ} {d : Counts} →
      told' ≡ drop 9 told → found' ≡ drop 96 found → Counted t (g.done ++ (g.tick ∷ [])) d →
      TicksLeft t all nservers ntasks n told' found' d
  rest_left {n} g {told'} {found'} {d} e f k =
      record {
        done = g.done ++ (g.tick ∷ []);
        left = g.rest;
        handed =
            rest_handed g.handed told' found' d e f k;
        together = append_assoc g.done (g.tick ∷ []) g.rest ∙ g.together;
      }

-- what was told and found of the ticks after the next, its own part put back
pub told_next : (i : ℕ) (told : List ℕ) → drop (9 * (i + 1)) told ≡ drop 9 (drop (9 * i) told)
told_next i told =
    let e : 9 * (i + 1) ≡ 9 * i + 9 = omega arith in
    ap (λ j. drop j told) e ∙ sym (drop-drop 9 (9 * i) told)

pub found_next : (i : ℕ) (found part : List ℕ) → 96 * i + 96 ≤ length found → length part ≡ 96 * i + 96 - 96 * i →
    drop (96 * (i + 1)) (put_mid (96 * i) (96 * i + 96 - 96 * i) found part) ≡ drop 96 (drop (96 * i) found)
found_next i found part l k =
    let e : 96 * (i + 1) ≡ 96 * i + 96 = omega arith in
    ap (λ j. drop j (put_mid (96 * i) (96 * i + 96 - 96 * i) found part)) e
    ∙ drop_put (96 * i) (96 * i + 96) found part (omega arith) l k
    ∙ sym (drop-drop 96 (96 * i) found)
