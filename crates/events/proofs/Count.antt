-- Every job that was released left or waits still, in any box whose every event keeps that sum.
-- Assumes nothing.
use mathlib.Core.Path.{◌≡◌, refl, ◌∙◌}
use mathlib.Core.List.{List, [], ◌∷◌}
use Prim.Native.Nat.{ℕ, ◌+◌, ◌<◌}
use native.Mathlib.Omega.{arith}
use Rattle.laws.specs.Rows.{sum_below}
use Rattle.laws.proofs.Rows.{sum_cong, sum_zero}
use Rattle.events.specs.declared.Left.{Left}
use Rattle.events.specs.declared.Left.TheVariants.{Nobody, Done, Cut}
use Rattle.events.specs.declared.Answer.{Answer}
use Rattle.events.specs.declared.Event.{Event}
use Rattle.events.specs.Answers.{one, finished_by, cut_by}
use Rattle.events.specs.Count.{over_all, any_finished, any_cut}
use Rattle.events.specs.Boxes.{Box, after_in, answers_in}
use Rattle.events.proofs.Answers.{sum_one}

-- The job that left is of a row in use, so that the rows' counts sum up to what the answer says.
abbrev pub LeftBelow : ℕ → Left → Type 0
LeftBelow n Nobody = Unit {0}
LeftBelow n (Done j) = j < n
LeftBelow n (Cut j) = j < n

pub sum_finished : (n : ℕ) (l : Left) → LeftBelow n l → sum_below n (finished_by l) ≡ any_finished l
sum_finished n Nobody b = sum_zero (finished_by Nobody) n (λ k h. refl)
sum_finished n (Done j) b = sum_cong (finished_by (Done j)) (one j) n (λ k h. refl) ∙ sum_one j n b
sum_finished n (Cut j) b = sum_zero (finished_by (Cut j)) n (λ k h. refl)

pub sum_cut : (n : ℕ) (l : Left) → LeftBelow n l → sum_below n (cut_by l) ≡ any_cut l
sum_cut n Nobody b = sum_zero (cut_by Nobody) n (λ k h. refl)
sum_cut n (Done j) b = sum_zero (cut_by (Done j)) n (λ k h. refl)
sum_cut n (Cut j) b = sum_cong (cut_by (Cut j)) (one j) n (λ k h. refl) ∙ sum_one j n b

-- What waits after some events, with what left in them, is what waited and what was released: each
-- event keeps this sum, `left`, `cut`, `gone` and `more` being what an answer counts.
module _ {S : Type 0} (b : Box S) (Kept : S → Type 0) (keeps : (s : S) (e : Event) → Kept s → Kept (b.next s e))
    (waiting : S → ℕ) (left cut gone more : Answer → ℕ)
    (sums : (s : S) (e : Event) → Kept s →
    waiting (b.next s e) + (left (b.answer s e) + cut (b.answer s e)) + gone (b.answer s e)
    ≡ waiting s + more (b.answer s e)) where
  pub jobs_in : (s : S) (es : List Event) → Kept s →
      waiting (after_in b s es) + (over_all left (answers_in b s es) + over_all cut (answers_in b s es)) +
      over_all gone (answers_in b s es)
      ≡ waiting s + over_all more (answers_in b s es)
  unfolding after_in answers_in over_all
  jobs_in s [] h = omega arith
  jobs_in s (e ∷ es) h = omega (arith, sums s e h, jobs_in (b.next s e) es (keeps s e h))
