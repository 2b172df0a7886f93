-- Equal numbers give equal pages; so ticks that are taken alike, and queues, give one page. Assumes
-- nothing.
use mathlib.Core.Path.{◌≡◌, refl, ap}
use mathlib.Core.List.{List}
use Prim.Native.Nat.{ℕ, zero, suc, ◌<◌}
use native.Mathlib.Omega.{arith}
use Rattle.table.specs.declared.Mode.{Mode}
use Rattle.table.specs.declared.Mode.TheVariants.{N, D1, D2}
use Rattle.run.specs.declared.Run.{Run}
use Rattle.events.specs.declared.Event.{Event}
use Rattle.events.specs.Answers.{charged, finished_by, cut_by}
use Rattle.run.specs.Events.{after}
use Rattle.run.specs.Found.{taken_ticks}
use Rattle.morning.specs.Numbers.{empty_turn, in_this_mode, ServerNumbers, TaskNumbers}
use Rattle.morning.specs.Numbers.{server_numbers, task_numbers, mode_number}
use Rattle.morning.specs.Page.{row_lines, server_line, task_line, page_lines, report_lines}
use Rattle.morning.proofs.Numbers.{over_answers, over_lefts, discarded_taken}

rows_same : (f g : ℕ → List ℕ) (n : ℕ) → ((i : ℕ) → i < n → f i ≡ g i) → row_lines f n ≡ row_lines g n
unfolding row_lines
rows_same f g zero h = refl
rows_same f g (suc n) h = rw (rows_same f g n (λ i l. h i (omega arith)), h n (omega arith))

pub page_same : (n m : ℕ) (s s' : ℕ → ServerNumbers) (k k' : ℕ → TaskNumbers) (d d' : Mode → ℕ) →
    ((i : ℕ) → i < n → s i ≡ s' i) → ((i : ℕ) → i < m → k i ≡ k' i) → ((x : Mode) → d x ≡ d' x) →
    page_lines n m s k d ≡ page_lines n m s' k' d'
unfolding page_lines
page_same n m s s' k k' d d' p q r =
    rw (
      rows_same (λ i. server_line i (s i)) (λ i. server_line i (s' i)) n (λ i l. ap (server_line i) (p i l)),
      rows_same (λ i. task_line i (k i)) (λ i. task_line i (k' i)) m (λ i l. ap (task_line i) (q i l)),
      r N,
      r D1,
      r D2,
    )

-- The page tells no more than the ticks that were taken and the queues after the last line.
pub same_page : (r : Run) (es fs : List Event) → taken_ticks r es ≡ taken_ticks r fs → after r es ≡ after r fs →
    report_lines r es ≡ report_lines r fs
same_page r es fs e a =
    page_same
    r.table.nservers
    r.table.ntasks
    (server_numbers r es)
    (server_numbers r fs)
    (task_numbers r es)
    (task_numbers r fs)
    (mode_number r es)
    (mode_number r fs)
    (λ i l.
    rw (
      over_answers (λ x. charged x.turn i) r es,
      over_answers (λ x. charged x.turn i) r fs,
      over_answers (λ x. empty_turn x.turn i) r es,
      over_answers (λ x. empty_turn x.turn i) r fs,
      e,
    ))
    (λ k l.
    rw (
      over_lefts (λ x. finished_by x k) r es,
      over_lefts (λ x. finished_by x k) r fs,
      over_lefts (λ x. cut_by x k) r es,
      over_lefts (λ x. cut_by x k) r fs,
      discarded_taken r es k,
      discarded_taken r fs k,
      e,
      a,
    ))
    (λ m. rw (over_answers (λ x. in_this_mode m x.mode) r es, over_answers (λ x. in_this_mode m x.mode) r fs, e))
