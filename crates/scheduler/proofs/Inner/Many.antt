-- Many event lines taken one after the other: after i of them the run, what was told and the rest
-- of the room are what the definition says of the lines so far. Assumes nothing.
use Rattle.std.proofs.Common.{Ok, Option, if◌then◌else◌}
use Rattle.std.proofs.lemmas.Bool.{cases_Bool}
use mathlib.Core.Path.{◌≡◌, refl, sym, ap, ap₂, subst, ◌∙◌}
use mathlib.Core.Bool.{Bool, true, false}
use mathlib.Core.List.{List, [], ◌∷◌, ◌++◌}
use mathlib.Core.Logic.{inl, inr}
use Prim.Native.Nat.{ℕ, zero, suc, ◌+◌, ◌*◌, ◌/◌, ◌≤◌, ◌<◌}
use native.Mathlib.Omega.{arith}
use native.Mathlib.Nat.{add-zero}
use lib.Dec.{lit<}
use lib.ListN.{length, get_or, take, drop, drop_of_length-le}
use lib.Seq.{paste, get_or-take}
use Rattle.std.specs.Simd.{first_chunks}
use Rattle.std.proofs.lemmas.List.{get_or-drop, drop-drop}
use borrow.Author.Tests.{le-leb, lt-leb}
use Rattle.laws.proofs.Choice.{if_ind}
use Rattle.table.specs.declared.Table.{Table}
use Rattle.table.specs.declared.Refusal.{Refusal}
use Rattle.table.specs.declared.Refusal.TheVariants.{RoomShort, Unsound}
use Rattle.events.specs.Boxes.{after_lines_in}
use Rattle.run.specs.declared.Run.{Run}
use Rattle.events.specs.declared.TickAnswer.{TickAnswer}
use Rattle.events.specs.declared.Told.{Told}
use Rattle.events.specs.declared.Told.TheVariants.{No, Released, Ticked}
use Rattle.run.specs.Events.{the_box}
use Rattle.run.specs.Sound.{sound}
use Rattle.events.specs.Values.{line_said, lines_said, told_values}
use Rattle.run.specs.Found.{TakenTick, found_values, all_found, all_told}
use Rattle.run.specs.Many.{told_to, after_line, after_lines, untaken, taken, many_of}
use Rattle.run.specs.Many.{ticks_at, ticks_among, unfound, taken_finding, find_of}
use Rattle.run.proofs.Shape.{RunShaped}
use Rattle.events.proofs.Values.{told_length, lines_length, lines_left, Laid, laid_on, laid_end}
use Rattle.events.proofs.Boxes.{Going as GoingIn, going_end as going-end-in, held_on}
use Rattle.run.proofs.Found.{found_length}
use Rattle.run.proofs.ManyLines.{TickTold, tick_told, lines_keep}
use Rattle.run.specs.declared.State.{State}
use Rattle.scheduler.specs.declared.sheets.Sheets.{Sheets}
use Rattle.scheduler.specs.Inner.Events.{SoundRun, FoundAt, run_of}
use Rattle.scheduler.specs.Inner.Many.{Tells}
use Rattle.scheduler.proofs.Inner.Events.{shaped}
use Rattle.events.specs.declared.Event.{Event}

-- After i of the lines, from run r: z is the run, and `left` the room.
abbrev pub Going : Run → List (Option Event) → List ℕ → Run → List ℕ → ℕ → Type 0
Going r ls room z left i = GoingIn the_box r ls room z left i

pub going_end : (r : Run) (ls : List (Option Event)) (room : List ℕ) (z : Run) (left : List ℕ) (i : ℕ) → i ≡ length ls →
    Going r ls room z left i →
    record { many = record { answer = Ok tt; run = z }; room = left } ≡ taken r ls room
going_end r ls room z left i e g =
    let h = going-end-in the_box r ls room z left i e g in
    rw (h.0, ← h.1)

-- the two numbers of a line, among all of them
pair_at : (n i : ℕ) (vs d : List ℕ) → i < n → get_or (first_chunks 2 n vs) i d ≡ take 2 (drop (2 * i) vs)
pair_at zero i vs d h = absurd (omega arith)
pair_at (suc n) zero vs d h = refl
pair_at (suc n) (suc i) vs d h =
    let e : 2 * suc i ≡ 2 + 2 * i = omega arith in
    pair_at n i (drop 2 vs) d (omega arith) ∙ ap (take 2) (drop-drop (2 * i) 2 vs) ∙ rw e

pub line_left : (vs : List ℕ) (ps : List (List ℕ)) (i : ℕ) (d : List ℕ) → ps ≡ first_chunks 2 (length vs / 2) vs →
    i < length (lines_said vs) →
    drop i (lines_said vs)
    ≡ line_said (get_or (get_or ps i d) 0 0) (get_or (get_or ps i d) 1 0) ∷ drop (i + 1) (lines_said vs)
line_left vs ps i d q h =
    let e : get_or ps i d ≡ take 2 (drop (2 * i) vs) =
    ap (λ xs. get_or xs i d) q ∙ pair_at (length vs / 2) i vs d (omega (arith, lines_length vs)) in
    let ys = drop (2 * i) vs in
    rw (e, get_or-take 2 ys 0 0 (lit< tt), get_or-take 2 ys 1 0 (lit< tt), get_or-drop (2 * i) vs 0 0, get_or-drop (2 * i) vs 1 0, add-zero)
    (lines_left vs i h)

-- Of some ticks, one after the other, what is told and what is found is put into two lent rooms: after m
-- of them v' and f' are the rooms, and `rest` are the ticks that are still to come.
pub record Kept (t : Table) (all rest : List TakenTick) (v f v' f' : List ℕ) (m : ℕ) : Type 0 where
  pub ticks : length all ≡ m + length rest
  pub told : Laid 9 (all_told all) (all_told rest) v v' m
  pub found : Laid 96 (all_found t all) (all_found t rest) f f' m

-- what is found has a place for each row
found_long : (t : Table) (ms : List TakenTick) (f : List ℕ) → FoundAt t ms f → length f ≡ 96
found_long t [] f e = ap length e
found_long t (m ∷ ms) f e = ap length e ∙ found_length t m

-- What was told of a tick that is taken, and what was found at it, is put behind that of m ticks before
-- it; nothing else is.
abbrev pub is_tick : Told → Bool
is_tick (No number) = false
is_tick (Released k) = false
is_tick (Ticked a) = true

pub record Puts (x : Told) (seen v f : List ℕ) (m : ℕ) (v' f' : List ℕ) (r : ℕ) : Type 0 where
  pub ticks : r ≡ (if is_tick x then m + 1 else m)
  pub told : v' ≡ (if is_tick x then paste v (9 * m) (told_values x) 9 else v)
  pub found : f' ≡ (if is_tick x then paste f (96 * m) seen 96 else f)

module _ (seen v f : List ℕ) (m : ℕ) (v' f' : List ℕ) (n : ℕ) where
  pub puts_tick : (x : Told) (a : TickAnswer) → x ≡ Ticked a → n ≡ m + 1 → v' ≡ paste v (9 * m) (told_values x) 9 →
      f' ≡ paste f (96 * m) seen 96 → Puts x seen v f m v' f' n
  puts_tick (No number) a e h p q = cc
  puts_tick (Released k) a e h p q = cc
  puts_tick (Ticked b) a e h p q = record { ticks = h; told = p; found = q }

  pub puts_none : (x : Told) → ((a : TickAnswer) → x ≡ Ticked a → ⊥) → n ≡ m → v' ≡ v → f' ≡ f → Puts x seen v f m v' f' n
  puts_none (No number) g h p q = record { ticks = h; told = p; found = q }
  puts_none (Released k) g h p q = record { ticks = h; told = p; found = q }
  puts_none (Ticked a) g h p q = absurd (g a refl)

-- a line, at which a tick is taken or not
module _ (t : Table) (all rest : List TakenTick) (v f v' f' : List ℕ) (m : ℕ) (b : 9 * (m + 1) ≤ length v)
    (d : 96 * (m + 1) ≤ length f) (seen v'' f'' : List ℕ) (n : ℕ) where
  kept_none : (ms : List TakenTick) → ms ≡ [] → v'' ≡ v' → f'' ≡ f' → n ≡ m → Kept t all (ms ++ rest) v f v' f' m →
      Kept t all rest v f v'' f'' n
  kept_none ms e p q h k = rw (p, q, h) (rw e at k)

  kept_tick : (x : TakenTick) (ms : List TakenTick) → ms ≡ x ∷ [] → FoundAt t ms seen →
      v'' ≡ paste v' (9 * m) (told_values (Ticked x.answer)) 9 → f'' ≡ paste f' (96 * m) seen 96 → n ≡ m + 1 →
      Kept t all (ms ++ rest) v f v' f' m → Kept t all rest v f v'' f'' n
  unfolding all_told all_found
  kept_tick x ms e s p q h k =
      let k' : Kept t all (x ∷ rest) v f v' f' m = rw e at k in
      let s' : seen ≡ found_values t x = rw e at s in
      let a = x.answer in
      rw h
      (record {
        ticks = omega (arith, k'.ticks);
        told =
            laid_on 9 (all_told all) (all_told (x ∷ rest)) v v' m (told_values (Ticked a)) (all_told rest) v''
            (told_length (Ticked a)) b refl p k'.told;
        found =
            laid_on 96 (all_found t all) (all_found t (x ∷ rest)) f f' m seen (all_found t rest) f''
            (found_long t (x ∷ []) seen s') d (ap (λ xs. xs ++ all_found t rest) (sym s')) q k'.found;
      })

  kept_on : (x : Told) (ms : List TakenTick) → TickTold x ms → FoundAt t ms seen → Puts x seen v' f' m v'' f'' n →
      Kept t all (ms ++ rest) v f v' f' m → Kept t all rest v f v'' f'' n
  kept_on (No number) ms e s p k = kept_none ms e p.told p.found p.ticks k
  kept_on (Released j) ms e s p k = kept_none ms e p.told p.found p.ticks k
  kept_on (Ticked a) ms (x, e, q) s p k =
      let told = p.told ∙ ap (λ y. paste v' (9 * m) (told_values (Ticked y)) 9) (sym q) in
      kept_tick x ms e s told p.found p.ticks k

pub puts_few : (x : Told) (seen v f : List ℕ) (m : ℕ) (v' f' : List ℕ) (n : ℕ) → Puts x seen v f m v' f' n →
    n ≤ m + 1
puts_few x seen v f m v' f' n p =
    rw p.ticks (if_ind (λ (k : ℕ). k ≤ m + 1) (is_tick x) (λ e. omega arith) (λ e. omega arith))

-- After i of the lines, among which m ticks are taken.
pub record Seeking (r : Run) (ls : List (Option Event)) (v f : List ℕ) (z : Run) (v' f' : List ℕ) (m i : ℕ) : Type 0 where
  pub run : after_lines r ls ≡ after_lines z (drop i ls)
  pub kept : Kept r.table (ticks_among r ls) (ticks_among z (drop i ls)) v f v' f' m

pub seeking_on : (r : Run) (ls : List (Option Event)) (v f : List ℕ) (z : Run) (v' f' : List ℕ) (m i : ℕ) (l : Option Event)
    (y : Run) (x : Told) (seen v'' f'' : List ℕ) (n : ℕ) → 9 * (m + 1) ≤ length v → 96 * (m + 1) ≤ length f →
    drop i ls ≡ l ∷ drop (i + 1) ls → y ≡ after_line z l → x ≡ told_to z l → FoundAt r.table (ticks_at z l) seen →
    Puts x seen v' f' m v'' f'' n → Seeking r ls v f z v' f' m i → Seeking r ls v f y v'' f'' n (i + 1)
unfolding ticks_among
seeking_on r ls v f z v' f' m i l y x seen v'' f'' n b c d q e s p g =
    let all = ticks_among r ls in
    let rest = ticks_among (after_line z l) (drop (i + 1) ls) in
    let k : Kept r.table all (ticks_at z l ++ rest) v f v' f' m =
    subst (λ js. Kept r.table all (ticks_among z js) v f v' f' m) d g.kept in
    record {
      run = held_on the_box r ls z i l y d q g.run;
      kept =
          rw q
          (kept_on r.table all rest v f v' f' m b c seen v'' f'' n x (ticks_at z l)
          (subst (λ w. TickTold w (ticks_at z l)) (sym e) (tick_told z l)) s p k);
    }

pub seeking_end : (r : Run) (ls : List (Option Event)) (v f : List ℕ) (z : Run) (v' f' : List ℕ) (m i : ℕ) →
    i ≡ length ls → Seeking r ls v f z v' f' m i →
    record { finding = record { answer = Ok tt; run = z; ticks = m }; told = v'; found = f' } ≡ taken_finding r ls v f
unfolding after_lines_in ticks_among all_told all_found
seeking_end r ls v f z v' f' m i e g =
    let d : drop i ls ≡ [] = drop_of_length-le ls {i = i} (omega (arith, e)) in
    let u : after_lines r ls ≡ z = g.run ∙ rw d in
    let k = g.kept in
    let ms = ticks_among r ls in
    let rest = ticks_among z (drop i ls) in
    let n : length ms ≡ m = k.ticks ∙ rw d (add-zero m) in
    let p = laid_end 9 (all_told ms) (all_told rest) v v' m (rw d) k.told in
    let q = laid_end 96 (all_found r.table ms) (all_found r.table rest) f f' m (rw d) k.found in
    rw (u, n) (ap₂ (λ x y. record { finding = record { answer = Ok tt; run = z; ticks = m }; told = x; found = y }) p q)

-- A line keeps the run sound, and its counts in their arrays.
pub line_keeps : (t : Table) (ss : Sheets) (s : State) → SoundRun t ss s → (l : Option Event) (x : Told) (s' : State)
    (f' : List ℕ) → Tells t x s' f' (run_of t s) l → SoundRun t ss s'
unfolding after_lines_in
line_keeps t ss s p l x s' f' q =
    let z : RunShaped (run_of t s) = record { table = p.shows.sized; state = shaped t ss s p } in
    let a = lines_keep (run_of t s) (l ∷ []) z p.sound in
    let y = a.0.state in
    record {
      shows = p.shows;
      sound = rw q.run a.1;
      used_long = ap (λ r. length r.state.used) q.run ∙ y.used;
      elapsed_long = ap (λ r. length r.state.elapsed) q.run ∙ y.elapsed;
      waiting_long = ap (λ r. length r.state.waiting) q.run ∙ y.waiting;
      runs_long = ap (λ r. length r.state.runs) q.run ∙ y.runs;
    }

-- The cases of many lines.
pub many_unsound : (r : Run) (vs room : List ℕ) → sound r ≡ false → untaken Unsound r room ≡ many_of r vs room
unfolding many_of
many_unsound r vs room e = rw e

pub many_short : (r : Run) (vs room : List ℕ) → sound r ≡ true → length room / 9 < length vs / 2 →
    untaken RoomShort r room ≡ many_of r vs room
unfolding many_of
many_short r vs room e h =
    rw (e, lt-leb (9 * length (lines_said vs)) (length room) (omega (arith, lines_length vs)))

pub many_taken : (r : Run) (vs room : List ℕ) → sound r ≡ true → length vs / 2 ≤ length room / 9 →
    taken r (lines_said vs) room ≡ many_of r vs room
unfolding many_of
many_taken r vs room e h =
    rw (e, le-leb (9 * length (lines_said vs)) (length room) (omega (arith, lines_length vs)))

-- where a room is short: 13, and else what is said of a sound run
pub many_refused : (r : Run) (vs room : List ℕ) (why : Refusal) → why ≡ (if sound r then RoomShort else Unsound) →
    (sound r ≡ true → untaken RoomShort r room ≡ many_of r vs room) → untaken why r room ≡ many_of r vs room
many_refused r vs room why e short =
    rw e
    (elim (cases_Bool (sound r)) [
      | inl s ↦ rw s (short s)
      | inr s ↦ rw s (many_unsound r vs room s)
    ])

pub find_unsound : (r : Run) (vs told found : List ℕ) → sound r ≡ false →
    unfound Unsound r told found ≡ find_of r vs told found
unfolding find_of
find_unsound r vs told found e = rw e

pub find_refused : (r : Run) (vs told found : List ℕ) (why : Refusal) → why ≡ (if sound r then RoomShort else Unsound) →
    (sound r ≡ true → unfound RoomShort r told found ≡ find_of r vs told found) →
    unfound why r told found ≡ find_of r vs told found
find_refused r vs told found why e short =
    rw e
    (elim (cases_Bool (sound r)) [
      | inl s ↦ rw s (short s)
      | inr s ↦ rw s (find_unsound r vs told found s)
    ])

module _ (r : Run) (vs told found : List ℕ) (e : sound r ≡ true) where
  pub find_short_told : length told / 9 < length vs / 2 → unfound RoomShort r told found ≡ find_of r vs told found
  unfolding find_of
  find_short_told h = rw (e, lt-leb (9 * length (lines_said vs)) (length told) (omega (arith, lines_length vs)))

  module _ (h : length vs / 2 ≤ length told / 9) where
    pub find_short_found : length found / 96 < length vs / 2 → unfound RoomShort r told found ≡ find_of r vs told found
    unfolding find_of
    find_short_found g =
        rw (
          e,
          le-leb (9 * length (lines_said vs)) (length told) (omega (arith, lines_length vs)),
          lt-leb (96 * length (lines_said vs)) (length found) (omega (arith, lines_length vs)),
        )

    pub find_taken : length vs / 2 ≤ length found / 96 →
        taken_finding r (lines_said vs) told found ≡ find_of r vs told found
    unfolding find_of
    find_taken g =
        rw (
          e,
          le-leb (9 * length (lines_said vs)) (length told) (omega (arith, lines_length vs)),
          le-leb (96 * length (lines_said vs)) (length found) (omega (arith, lines_length vs)),
        )
