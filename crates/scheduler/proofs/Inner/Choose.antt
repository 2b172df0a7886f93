-- The highest marked row, kept as a priority and a row, 0 being nothing found: how a walk over
-- tasks finds the highest of each server, and a walk over servers the highest that is able.
-- Priorities of a table are at least 1. Assumes nothing.
use Rattle.std.specs.Prelude.{if◌then◌else◌, None, Some}
use mathlib.Core.Path.{◌≡◌, refl, sym, ap, ap₂, subst, ◌∙◌}
use mathlib.Core.Bool.{Bool, true, false, ◌&&◌, ◌||◌}
use mathlib.Core.List.{List, ◌++◌}
use mathlib.Core.Logic.{◌⊎◌, inl, inr}
use Prim.Native.Nat.{ℕ, zero, suc, ◌+◌, ◌≤◌, ◌<◌}
use native.Mathlib.Omega.{arith}
use native.Mathlib.Nat.{min-le_right}
use lib.Dec.{leb, ltb, eqb}
use lib.ListN.{length, get_or, set, take, drop, replicate, get_or-replicate, length-take, take-append-drop}
use lib.Seq.{get_or-set_same, get_or-set_other, get_or-take, length-take-le, ext_get_or}
use borrow.Author.Tests.{lt-ltb, ltb-true, ltb-false, eq-eqb, ne_eqb}
use Rattle.laws.specs.Rows.{any_below, highest, anew, found_by}
use Rattle.laws.proofs.Anew.{length_anew, anew_at}
use Rattle.std.specs.Cmp.{first_so, second_so}
use Rattle.std.proofs.lemmas.Bool.{and_from}
use Rattle.laws.proofs.Rows.{any_at, none_build}
use Rattle.laws.proofs.Highest.{Top, top_none, top_skip, top_take, top_keep, top_is, highest_at, highest_none}
use Rattle.table.specs.declared.Mode.{Mode}
use Rattle.table.specs.declared.Mode.TheVariants.{N, D1, D2}
use Rattle.table.specs.declared.Table.{Table}
use Rattle.table.specs.Rows.{task_at, priority_at, task_priority_at}
use Rattle.table.proofs.Rules.{TableRules}
use Rattle.run.specs.declared.State.{State}
use Rattle.events.specs.declared.Turn.TheVariants.{Idle}
use Rattle.run.specs.Found.{top_priority, priority_found}
use Rattle.run.specs.State.{used_at, in_force, waiting_at, owner, waits_for, waits}
use Rattle.queues.specs.Queues.{turn_of}
use Rattle.run.specs.Tick.{able, highest_able, highest_task, choose}
use Rattle.events.proofs.Answers.{same_or_not}
use Rattle.scheduler.specs.declared.sheets.Sheets.{Sheets}
use Rattle.scheduler.specs.Inner.Columns.{timed_of, ServersOn}
use Rattle.scheduler.specs.Inner.Choose.{capacity_column, with_tops}
use Rattle.scheduler.proofs.Inner.Columns.{timed_on, capacity_on, phase_on}

-- what is found has the servers' places; and it is known by the numbers in them
pub places_there : (f : List ℕ) → take 32 f ≡ replicate 32 0 → 32 ≤ length f
places_there f e = omega (arith, length-take 32 f, ap length e, min-le_right 32 (length f))

first_places : (f f₀ : List ℕ) (g : ℕ → ℕ) → 32 ≤ length f → drop 32 f ≡ drop 32 f₀ →
    ((i : ℕ) → i < 32 → get_or f i 0 ≡ g i) → f ≡ with_tops g f₀
first_places f f₀ g n e h =
    let ys = anew 32 (λ i x. g i) (replicate 32 0) in
    let k : length (take 32 f) ≡ 32 = length-take-le 32 f n in
    sym (take-append-drop 32 f)
    ∙ ap₂ (λ (xs zs : List ℕ). xs ++ zs)
    (ext_get_or 0 (take 32 f) ys (k ∙ sym (length_anew 32 (λ i x. g i) (replicate 32 0)))
    (λ i l.
    let m : i < 32 = omega (arith, k) in
    get_or-take 32 f i 0 m ∙ h i m ∙ sym (anew_at 32 (λ i x. g i) (replicate 32 0) i 0 m m)))
    e

module _ (marked : ℕ → Bool) (priority : ℕ → ℕ) where
  -- something is found exactly if some row is marked
  found_some : (n height row : ℕ) → found_by height row ≡ highest n marked priority → ltb 0 height ≡ any_below n marked
  found_some n zero row e = sym (none_build marked n (highest_none marked priority n (sym e)))
  found_some n (suc height) row e =
      let s = highest_at marked priority n row (sym e) in
      lt-ltb 0 (suc height) (omega arith) ∙ sym (any_at marked n row s.below s.is)

module _ (t : Table) (s : State) where
  -- of each server, its highest task with a waiting job among the first k
  abbrev pub Tops : ℕ → List ℕ → List ℕ → Type 0
  Tops k height top = (i : ℕ) → i < 32 → Top k (waits_for t s i) (task_priority_at t) (get_or height i 0) (get_or top i 0)

  pub tops_none : (f : List ℕ) → take 32 f ≡ replicate 32 0 → Tops 0 f (replicate 32 0)
  tops_none f e i h =
      let z : get_or f i 0 ≡ 0 =
      sym (get_or-take 32 f i 0 h) ∙ ap (λ (xs : List ℕ). get_or xs i 0) e ∙ get_or-replicate {A = ℕ} 32 i 0 0 h in
      rw (z, get_or-replicate {A = ℕ} 32 i 0 0 h) (top_none (waits_for t s i) (task_priority_at t) 0)

  others : (i k o : ℕ) → o ≡ owner s.mode (task_at t k) → (i ≡ o → ⊥) → waits_for t s i k ≡ false
  others i k o e d = go (ltb 0 (waiting_at s k))
    where
      go : (b : Bool) → (b && eqb (owner s.mode (task_at t k)) i) ≡ false
      go true = ne_eqb (owner s.mode (task_at t k)) i (λ q. d (sym q ∙ sym e))
      go false = refl

  its : (i k o : ℕ) → o ≡ owner s.mode (task_at t k) → i ≡ o → ltb 0 (waiting_at s k) ≡ true → waits_for t s i k ≡ true
  its i k o e d w =
      and_from (ltb 0 (waiting_at s k)) (eqb (owner s.mode (task_at t k)) i) w
      (eq-eqb (owner s.mode (task_at t k)) i (sym e ∙ sym d))

  not_its : (i k : ℕ) → ltb 0 (waiting_at s k) ≡ false → waits_for t s i k ≡ false
  not_its i k w = rw w

  -- Task k, of priority p, belongs to server o: it is above what was found of o, or not.
  module _ (k o p : ℕ) (height top : List ℕ) (e : o ≡ owner s.mode (task_at t k)) (f : p ≡ task_priority_at t k) where
    pub tops_take : 32 ≤ length height → length top ≡ 32 → o < 32 →
        (ltb 0 (waiting_at s k) && ltb (get_or height o 0) p) ≡ true → Tops k height top →
        Tops (k + 1) (set height o p) (set top o k)
    tops_take lh lt l h q i b = rw f (go (same_or_not i o))
      where
        w : ltb 0 (waiting_at s k) ≡ true
        w = first_so (ltb 0 (waiting_at s k)) (ltb (get_or height o 0) p) h

        above : get_or height o 0 < task_priority_at t k
        above =
            subst (λ x. get_or height o 0 < x) f
            (ltb-true (get_or height o 0) p (second_so (ltb 0 (waiting_at s k)) (ltb (get_or height o 0) p) h))

        go : (i ≡ o) ⊎ (i ≡ o → ⊥) →
            Top (k + 1) (waits_for t s i) (task_priority_at t) (get_or (set height o (task_priority_at t k)) i 0)
            (get_or (set top o k) i 0)
        go (inl y) =
            rw (y, get_or-set_same height o (task_priority_at t k) 0 (omega arith), get_or-set_same top o k 0 (omega arith))
            (top_take (waits_for t s o) (task_priority_at t) k (get_or height o 0) (get_or top o 0) (q o l) (its o k o e refl w)
            above)
        go (inr d) =
            rw (get_or-set_other height o i (task_priority_at t k) 0 d, get_or-set_other top o i k 0 d)
            (top_skip (waits_for t s i) (task_priority_at t) k (get_or height i 0) (get_or top i 0) (q i b) (others i k o e d))

    pub tops_leave : 1 ≤ task_priority_at t k → (ltb 0 (waiting_at s k) && ltb (get_or height o 0) p) ≡ false →
        Tops k height top → Tops (k + 1) height top
    tops_leave g h q i b = go (same_or_not i o) (ltb 0 (waiting_at s k)) refl
      where
        go : (i ≡ o) ⊎ (i ≡ o → ⊥) → (w : Bool) → ltb 0 (waiting_at s k) ≡ w →
            Top (k + 1) (waits_for t s i) (task_priority_at t) (get_or height i 0) (get_or top i 0)
        go (inr d) w y =
            top_skip (waits_for t s i) (task_priority_at t) k (get_or height i 0) (get_or top i 0) (q i b) (others i k o e d)
        go (inl x) false y =
            top_skip (waits_for t s i) (task_priority_at t) k (get_or height i 0) (get_or top i 0) (q i b) (not_its i k y)
        go (inl x) true y =
            top_keep (waits_for t s i) (task_priority_at t) k (get_or height i 0) (get_or top i 0) (q i b)
            (rw (x, ← f) (ltb-false (get_or height o 0) p (rw y at h))) g

  pub tops_found : (height top : List ℕ) → Tops t.ntasks height top → (i : ℕ) → i < 32 →
      found_by (get_or height i 0) (get_or top i 0) ≡ highest_task t s i
  unfolding highest_task
  tops_found height top p i h =
      top_is (waits_for t s i) (task_priority_at t) t.ntasks (get_or height i 0) (get_or top i 0) (p i h)

  -- the height of a server is the priority of its highest task with a waiting job
  height_found : (i height row : ℕ) → Top t.ntasks (waits_for t s i) (task_priority_at t) height row →
      height ≡ top_priority t s i
  unfolding top_priority highest_task
  height_found i height row p =
      go height p.level ∙ ap (priority_found t) (top_is (waits_for t s i) (task_priority_at t) t.ntasks height row p)
    where
      go : (height : ℕ) → (0 < height → height ≡ task_priority_at t row) →
          height ≡ priority_found t (found_by height row)
      go zero v = refl
      go (suc height) v = v (omega arith)

  pub tops_noted : (f f₀ top : List ℕ) → 32 ≤ length f → drop 32 f ≡ drop 32 f₀ → Tops t.ntasks f top →
      f ≡ with_tops (top_priority t s) f₀
  tops_noted f f₀ top n e p =
      first_places f f₀ (top_priority t s) n e (λ i h. height_found i (get_or f i 0) (get_or top i 0) (p i h))

  pub waits_found : (i height row : ℕ) → found_by height row ≡ highest_task t s i → ltb 0 height ≡ waits t s i
  unfolding highest_task waits
  waits_found i height row e = found_some (waits_for t s i) (task_priority_at t) t.ntasks height row e

  -- a capacity and a phase from the sheet, and the ticks taken: the capacity in force
  pub force_is : (xs : Sheets) (i c p : ℕ) → ServersOn t xs → i < t.nservers →
      c ≡ get_or xs.servers (capacity_column s.mode + i) 0 → p ≡ get_or xs.servers (192 + i) 0 →
      (if leb p s.ticks.0 then c else 0) ≡ in_force t s i
  unfolding in_force
  force_is xs i c p o h e f = rw (e, f, capacity_on t xs o i h s.mode, phase_on t xs o i h)

  -- the test of the walk over servers: the capacity in force, and what the first walk found
  pub able_is : (xs : Sheets) (i b w : ℕ) → ServersOn t xs → i < t.nservers → b ≡ in_force t s i →
      ltb 0 w ≡ waits t s i → (ltb (used_at s i) b && (timed_of xs i || ltb 0 w)) ≡ able t s i
  unfolding able
  able_is xs i b w p h e g = rw (e, timed_on t xs p i h, g)

  pub able_found : (height row : ℕ) → Top t.nservers (able t s) (priority_at t) height row →
      found_by height row ≡ highest_able t s
  unfolding highest_able
  able_found height row p = top_is (able t s) (priority_at t) t.nservers height row p

  -- what is said at the end
  pub says_idle : highest_able t s ≡ None → Idle ≡ choose t s
  unfolding choose
  says_idle e = rw e

  module _ (row : ℕ) (p : highest_able t s ≡ Some row) where
    pub says_turn : (h x : ℕ) → found_by h x ≡ highest_task t s row → turn_of row (found_by h x) ≡ choose t s
    unfolding choose
    says_turn h x q = rw p (ap (turn_of row) q)

    -- a row found is a row of the table
    pub row_there_lem : row < t.nservers
    unfolding highest_able
    row_there_lem = (highest_at (able t s) (priority_at t) t.nservers row p).below

pub owner_row : (t : Table) → TableRules t → (m : Mode) (k : ℕ) → k < t.ntasks → owner m (task_at t k) < t.nservers
owner_row t r N k h = (r.task k h).home
owner_row t r D1 k h = (r.task k h).degraded
owner_row t r D2 k h = (r.task k h).degraded
