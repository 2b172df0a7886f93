-- The steps of a tick on a state that is lent, case by case as the code makes them. Assumes nothing.
use Rattle.std.specs.Prelude.{if◌then◌else◌, None, Some}
use mathlib.Core.Path.{◌≡◌, refl, sym, ap, ◌∙◌}
use mathlib.Core.Bool.{Bool, true, false, not}
use mathlib.Core.List.{List, [], ◌∷◌, ◌++◌}
use Prim.Native.Nat.{ℕ, zero, suc, ◌+◌, ◌≤◌, ◌<◌}
use native.Mathlib.Omega.{arith}
use native.Mathlib.Nat.{add-zero, zero-add, suc-add}
use lib.Dec.{leb, eqb}
use lib.ListN.{length, get_or, set, replicate, get_or-replicate}
use borrow.Author.Tests.{ltb-true}
use Rattle.laws.specs.Rows.{anew, any_below, sum_below}
use Rattle.laws.proofs.Anew.{anew_cong, anew_same, anew_row, anew_put, anew_stay}
use Rattle.laws.proofs.Rows.{sum_next, sum_cong, sum_zero}
use Rattle.table.specs.declared.ByMode.{ByMode}
use Rattle.table.specs.declared.Level.{Level}
use Rattle.table.specs.declared.Mode.{Mode}
use Rattle.table.specs.declared.Mode.TheVariants.{N}
use Rattle.table.specs.declared.Table.{Table}
use Rattle.table.specs.declared.Task.{Task}
use Rattle.table.specs.Rows.{period_at, task_at, in_mode, is_low}
use Rattle.run.specs.declared.Judged.{Judged}
use Rattle.events.specs.declared.Left.{Left}
use Rattle.events.specs.declared.Left.TheVariants.{Nobody, Done, Cut}
use Rattle.run.specs.declared.State.{State}
use Rattle.events.specs.declared.Turn.{Turn}
use Rattle.events.specs.declared.Turn.TheVariants.{Run as Ran, Empty, Idle}
use Rattle.run.specs.State.{passes, some_waits, with_mode, with_budgets, with_queues, with_last, with_counts}
use Rattle.events.specs.Answers.{charged, ran}
use Rattle.queues.specs.Queues.{last_of}
use Rattle.run.specs.Tick.{height, counts_as, raises, raised, judge, without_front, step1, enters, drops, discards, step2, step3, step4, settle, advance}
use Rattle.run.proofs.Judge.{below_limit, raises_mode, is_cut, height_at_most, Enough, enough_raised}
use Rattle.queues.proofs.Queues.{anew_one, unchanged}
use Rattle.scheduler.specs.declared.sheets.Sheets.{Sheets}
use Rattle.scheduler.specs.Inner.Columns.{level_of}
use Rattle.scheduler.specs.Inner.Steps.{Judges, none_found, kept_of, gone_of, noted_of, Discards, waits_at}
use Rattle.scheduler.specs.Inner.Steps.{SettlesMode, Refills, SettledSo, Charges, RunsFront, Ages}
use Rattle.scheduler.proofs.Inner.Columns.{low_on, period_on, phase_on}
use Rattle.units.specs.declared.Ticks.{Ticks}

-- Step 1: a job that was judged from mode m₀ on is still to be judged in mode m.
abbrev pub StillJudged : ByMode Ticks → Level → ℕ → Mode → Mode → Type 0
StillJudged x l c m₀ m =
    (n : ℕ) × Enough (suc n) m ×
    ((k : Task) → k.limit ≡ x → k.level ≡ l → judge 3 k c m₀ ≡ judge (suc n) k c m)

module _ (x : ByMode Ticks) (l : Level) (c : ℕ) (m₀ m : Mode) where
  pub judged_on : StillJudged x l c m₀ m → c ≡ (in_mode x m).0 → raises m l ≡ true → StillJudged x l c m₀ (raised m)
  judged_on (zero, h, f) q u =
      absurd (omega (arith, height_at_most l, ltb-true (height (counts_as m)) (height l) u))
  judged_on (suc n, h, f) q u = (
    n,
    enough_raised (suc n) m l (ltb-true (height (counts_as m)) (height l) u) h,
    λ k e g. f k e g ∙ raises_mode (suc n) k c m (rw e q) (rw g u),
  )

  pub judged_cut : StillJudged x l c m₀ m → c ≡ (in_mode x m).0 → raises m l ≡ false →
      Judges x l c m₀ (record { mode = m; cut = true })
  judged_cut (n, h, f) q u k e g = sym (f k e g ∙ is_cut n k c m (rw e q) (rw g u))

  pub judged_stays : StillJudged x l c m₀ m → (c ≡ (in_mode x m).0 → ⊥) →
      Judges x l c m₀ (record { mode = m; cut = false })
  judged_stays (n, h, f) q k e g = sym (f k e g ∙ below_limit n k c m (rw e q))

-- Step 1, case by case.
module _ (t : Table) (s : State) (mark : Bool) where
  abbrev MarksSo : State → Left → Type 0
  MarksSo s' l = step1 t s mark s.last ≡ record { state = s'; left = l }

  pub no_job : s.last ≡ None → MarksSo s Nobody
  unfolding step1
  no_job q = rw q

  module _ (k : ℕ) (q : s.last ≡ Some k) where
    pub done : mark ≡ true → MarksSo (without_front s k) (Done k)
    unfolding step1
    done m = rw (q, m)

    module _ (m : mark ≡ false) (j : Judged)
        (p : j ≡ judge 3 (task_at t k) (get_or s.runs k 0) s.mode) where
      pub cut : j.cut ≡ true → MarksSo (without_front (with_mode s j.mode) k) (Cut k)
      unfolding step1
      cut f = rw (q, m, ← p, f)

      pub stays : j.cut ≡ false → MarksSo (with_mode s j.mode) Nobody
      unfolding step1
      stays f = rw (q, m, ← p, f)

-- Step 2: the counts of a task are cleared exactly if its level is LO, and its jobs counted.
module _ (ks : Sheets) (xs ys : List ℕ) (k : ℕ) (e : ys ≡ anew k (kept_of ks) xs) where
  pub drop_put : is_low (level_of ks k) ≡ true → set ys k 0 ≡ anew (k + 1) (kept_of ks) xs
  drop_put l = anew_put (kept_of ks) xs ys k 0 e 0 (rw l)

  pub drop_stay : is_low (level_of ks k) ≡ false → ys ≡ anew (k + 1) (kept_of ks) xs
  drop_stay l = anew_stay (kept_of ks) xs ys k 0 e (rw l)

  pub drop_count : (n : ℕ) → n ≡ sum_below k (λ j. gone_of ks j (get_or xs j 0)) → is_low (level_of ks k) ≡ true →
      n + get_or ys k 0 ≡ sum_below (k + 1) (λ j. gone_of ks j (get_or xs j 0))
  drop_count n h l = rw (h, anew_row (kept_of ks) xs ys k 0 e, sum_next (λ j. gone_of ks j (get_or xs j 0)) k) (rw l)

pub drop_none : (ks : Sheets) (xs : List ℕ) (k n : ℕ) → n ≡ sum_below k (λ j. gone_of ks j (get_or xs j 0)) →
    is_low (level_of ks k) ≡ false → n ≡ sum_below (k + 1) (λ j. gone_of ks j (get_or xs j 0))
drop_none ks xs k n h l = rw (h, sum_next (λ j. gone_of ks j (get_or xs j 0)) k) (rw (l, add-zero))

-- What is discarded of a task is noted at its place, behind the servers' places.
set_behind : (xs ys : List ℕ) (k v : ℕ) → set (xs ++ ys) (length xs + k) v ≡ xs ++ set ys k v
set_behind [] ys k v = ap (λ n. set ys n v) (zero-add k)
set_behind (x ∷ xs) ys k v =
    ap (λ n. set (x ∷ xs ++ ys) n v) (suc-add (length xs) k)
    ∙ ap (λ (zs : List ℕ). x ∷ zs) (set_behind xs ys k v)

pub noted_none : (gone : ℕ → ℕ) → none_found ≡ noted_of 0 gone
unfolding anew
noted_none gone = refl

zeros_stay : (n m : ℕ) (gone : ℕ → ℕ) → ((k : ℕ) → gone k ≡ 0) → replicate m 0 ≡ anew n (λ k x. gone k) (replicate m 0)
unfolding anew
zeros_stay zero m gone h = refl
zeros_stay (suc n) zero gone h = refl
zeros_stay (suc n) (suc m) gone h =
    rw (h 0) (ap (λ (xs : List ℕ). 0 ∷ xs) (zeros_stay n m (λ k. gone (suc k)) (λ k. h (suc k))))

noted_zeros : (n : ℕ) (gone : ℕ → ℕ) → ((k : ℕ) → gone k ≡ 0) → none_found ≡ noted_of n gone
noted_zeros n gone h = ap (λ (xs : List ℕ). replicate 32 0 ++ xs) (zeros_stay n 64 gone h)

noted_cong : (n : ℕ) (gone gone' : ℕ → ℕ) → ((k : ℕ) → k < n → gone k ≡ gone' k) → noted_of n gone ≡ noted_of n gone'
noted_cong n gone gone' h =
    ap (λ (xs : List ℕ). replicate 32 0 ++ xs)
    (anew_cong n (λ k x. gone k) (λ k x. gone' k) (replicate 64 0) (λ k x l. h k l))

module _ (gone : ℕ → ℕ) (f : List ℕ) (k : ℕ) (e : f ≡ noted_of k gone) where
  pub note_put : (v : ℕ) → gone k ≡ v → set f (32 + k) v ≡ noted_of (k + 1) gone
  note_put v h =
      let ys = anew k (λ j x. gone j) (replicate 64 0) in
      ap (λ (xs : List ℕ). set xs (32 + k) v) e
      ∙ set_behind (replicate 32 0) ys k v
      ∙ ap (λ (xs : List ℕ). replicate 32 0 ++ xs) (anew_put (λ j x. gone j) (replicate 64 0) ys k 0 refl v h)

  pub note_stay : k < 64 → gone k ≡ 0 → f ≡ noted_of (k + 1) gone
  note_stay l h =
      let ys = anew k (λ j x. gone j) (replicate 64 0) in
      let z : get_or ys k 0 ≡ 0 =
      anew_row (λ j x. gone j) (replicate 64 0) ys k 0 refl ∙ get_or-replicate {A = ℕ} 64 k 0 0 l in
      e
      ∙ ap (λ (xs : List ℕ). replicate 32 0 ++ xs)
      (anew_stay (λ j x. gone j) (replicate 64 0) ys k 0 refl (h ∙ sym z))

module _ (ss : Sheets) (before : Mode) (s : State) where
  pub discards_not : (f : List ℕ) → f ≡ none_found → enters before s.mode ≡ false → Discards ss before s s f 0
  unfolding step2 discards drops
  discards_not f z q t p =
      let same : (k x : ℕ) → (if drops t before s k then 0 else x) ≡ x = λ k x. rw q in (
        rw (
          anew_same t.ntasks (λ k x. if drops t before s k then 0 else x) s.waiting same,
          anew_same t.ntasks (λ k x. if drops t before s k then 0 else x) s.runs same,
        ),
        sum_zero (discards t before s) t.ntasks (λ k l. rw q),
        z ∙ noted_zeros t.ntasks (discards t before s) (λ k. rw q),
      )

  pub discards_entered : (w' c' f' : List ℕ) (n : ℕ) → enters before s.mode ≡ true →
      w' ≡ anew ss.ntasks (kept_of ss) s.waiting → c' ≡ anew ss.ntasks (kept_of ss) s.runs →
      n ≡ sum_below ss.ntasks (λ k. gone_of ss k (get_or s.waiting k 0)) →
      f' ≡ noted_of ss.ntasks (λ k. gone_of ss k (get_or s.waiting k 0)) →
      Discards ss before s (with_queues s (record { waiting = w'; runs = c' })) f' n
  unfolding step2 discards drops
  discards_entered w' c' f' n q pw pc pn pf t p =
      let m = p.count in
      let same : (k x : ℕ) → k < t.ntasks → (if drops t before s k then 0 else x) ≡ kept_of ss k x =
      λ k x l. rw (q, low_on t ss p k l) in
      let gone : (k : ℕ) → k < t.ntasks → discards t before s k ≡ gone_of ss k (get_or s.waiting k 0) =
      λ k l. rw (q, low_on t ss p k l) in (
        rw (
          pw,
          pc,
          m,
          anew_cong t.ntasks (λ k x. if drops t before s k then 0 else x) (kept_of ss) s.waiting same,
          anew_cong t.ntasks (λ k x. if drops t before s k then 0 else x) (kept_of ss) s.runs same,
        ),
        rw (pn, m) (sum_cong (discards t before s) (λ k. gone_of ss k (get_or s.waiting k 0)) t.ntasks gone),
        rw (pf, m) (sym (noted_cong t.ntasks (discards t before s) (λ k. gone_of ss k (get_or s.waiting k 0)) gone)),
      )

-- Step 3: in N there is nothing to ask; some job waits; none does.
module _ (ss : Sheets) (s : State) where
  pub mode_in_n : s.mode ≡ N → SettlesMode ss s s
  unfolding step3
  mode_in_n e t p = go (some_waits t s)
    where
      go : (b : Bool) → (if b then s else with_mode s N) ≡ s
      go true = refl
      go false = rw (← e)

  pub mode_stays : any_below ss.ntasks (waits_at s.waiting) ≡ true → SettlesMode ss s s
  unfolding step3 some_waits
  mode_stays e t p = rw (rw p.count at e)

  pub mode_falls : any_below ss.ntasks (waits_at s.waiting) ≡ false → SettlesMode ss s (with_mode s N)
  unfolding step3 some_waits
  mode_falls e t p = rw (rw p.count at e)

-- Step 4: a row is refilled exactly if its elapsed count, as it was, equals its period.
abbrev pub refilled : Sheets → List ℕ → ℕ → ℕ → ℕ
refilled ss e i x = if eqb (get_or e i 0) (get_or ss.servers (64 + i) 0) then 0 else x

turned : (b : Bool) (x : ℕ) → (if not b then x else 0) ≡ (if b then 0 else x)
turned true x = refl
turned false x = refl

pub refill_put : (ss : Sheets) (e₀ e xs ys : List ℕ) (i : ℕ) → e ≡ anew i (refilled ss e₀) e₀ → ys ≡ anew i (refilled ss e₀) xs →
    (v : ℕ) → v ≡ (if not (eqb (get_or e i 0) (get_or ss.servers (64 + i) 0)) then get_or ys i 0 else 0) →
    set ys i v ≡ anew (i + 1) (refilled ss e₀) xs
refill_put ss e₀ e xs ys i p q v h =
    anew_put (refilled ss e₀) xs ys i 0 q v
    (rw (← anew_row (refilled ss e₀) e₀ e i 0 p) (sym (h ∙ turned (eqb (get_or e i 0) (get_or ss.servers (64 + i) 0)) (get_or ys i 0))))

pub refills_is : (ss : Sheets) (u e u' e' : List ℕ) → u' ≡ anew ss.nservers (refilled ss e) u →
    e' ≡ anew ss.nservers (refilled ss e) e → Refills ss u e u' e'
unfolding step4
refills_is ss u e u' e' pu pe t s p =
    let f : ℕ → ℕ → ℕ = λ i x. if eqb (get_or e i 0) (period_at t i) then 0 else x in
    let same : (i x : ℕ) → i < t.nservers → refilled ss e i x ≡ f i x = λ i x l. rw (period_on t ss p i l) in
    rw (pu, pe, p.count, anew_cong t.nservers (refilled ss e) f u same, anew_cong t.nservers (refilled ss e) f e same)

-- Steps 1 to 4 put together.
pub settled_is : (t : Table) (s : State) (mark : Bool) (s₁ s₂ s₃ z : State) (l : Left) (n : ℕ) →
    step1 t s mark s.last ≡ record { state = s₁; left = l } → step2 t s.mode s₁ ≡ s₂ →
    sum_below t.ntasks (discards t s.mode s₁) ≡ n → step3 t s₂ ≡ s₃ → step4 t s₃ ≡ z → (f : List ℕ) →
    f ≡ noted_of t.ntasks (discards t s.mode s₁) →
    SettledSo t mark s z f (record { left = l; discarded = n })
unfolding settle
settled_is t s mark s₁ s₂ s₃ z l n e₁ e₂ e e₃ e₄ f g =
    record { state = rw (e₁, e₂, e₃) e₄; left = rw e₁; count = rw e₁ e; found = rw e₁ g }

-- Steps 5 and 6, turn by turn.
module _ (i k : ℕ) (xs ys : List ℕ) where
  pub charges_run : ys ≡ set xs i (get_or xs i 0 + 1) → Charges (Ran i k) xs ys
  charges_run q t l = anew_one t.nservers i xs l ∙ sym q

  pub charges_empty : ys ≡ set xs i (get_or xs i 0 + 1) → Charges (Empty i) xs ys
  charges_empty q t l = anew_one t.nservers i xs l ∙ sym q

  pub runs_run : ys ≡ set xs k (get_or xs k 0 + 1) → RunsFront (Ran i k) xs ys
  runs_run q t l = anew_one t.ntasks k xs l ∙ sym q

module _ (xs : List ℕ) where
  pub charges_idle : Charges Idle xs xs
  charges_idle t l = unchanged t.nservers xs

  pub runs_not : (turn : Turn) → ((i k : ℕ) → turn ≡ Ran i k → ⊥) → RunsFront turn xs xs
  runs_not (Ran i k) n t l = absurd (n i k refl)
  runs_not (Empty i) n t l = unchanged t.ntasks xs
  runs_not Idle n t l = unchanged t.ntasks xs

-- Step 7: a row ages exactly if it has started.
abbrev pub aged : Sheets → ℕ → ℕ → ℕ → ℕ
aged ss ticks i x = x + (if leb (get_or ss.servers (192 + i) 0) ticks then 1 else 0)

pub passing_most : (phase ticks n : ℕ) → n ≡ (if leb phase ticks then 1 else 0) → n ≤ 1
passing_most phase ticks n e = go (leb phase ticks) e
  where
    go : (b : Bool) → n ≡ (if b then 1 else 0) → n ≤ 1
    go true q = omega arith
    go false q = omega arith

pub ages_is : (ss : Sheets) (ticks : ℕ) (xs ys : List ℕ) → ys ≡ anew ss.nservers (aged ss ticks) xs → Ages ss ticks xs ys
ages_is ss ticks xs ys q t s p e =
    let f : ℕ → ℕ → ℕ = λ i x. x + passes t s i in
    let same : (i x : ℕ) → i < t.nservers → aged ss ticks i x ≡ f i x = λ i x l. rw (phase_on t ss p i l, e) in
    rw (q, p.count) (sym (anew_cong t.nservers (aged ss ticks) f xs same))

pub advance_is : (t : Table) (turn : Turn) (s : State) (u e c : List ℕ) →
    anew t.nservers (λ i x. x + charged turn i) s.used ≡ u → anew t.ntasks (λ k x. x + ran turn k) s.runs ≡ c →
    anew t.nservers (λ i x. x + passes t s i) s.elapsed ≡ e →
    advance t s turn
    ≡ with_counts
    (with_last (with_queues (with_budgets s u e) (record { waiting = s.waiting; runs = c })) (last_of turn))
    (record { 0 = s.ticks.0 + 1 })
    s.accepted
unfolding advance
advance_is t turn s u e c p q r = rw (p, q, r)
