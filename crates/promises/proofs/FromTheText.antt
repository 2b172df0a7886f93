-- A table that is read has the length of its arrays and keeps the rules, so that each promise holds
-- of it with no more asked. Assumes nothing.
use mathlib.Core.Path.{◌≡◌, refl, sym, subst}
use mathlib.Core.Bool.{true}
use mathlib.Core.List.{List, [], ◌∷◌}
use Rattle.table.specs.declared.Table.{Table}
use Rattle.table.specs.Inner.{Sized}
use Rattle.table.specs.Rules.{table_keeps}
use Rattle.text.proofs.Refused.{reading_0}
use Rattle.text.proofs.RoundTrip.{read_keeps, read_sized}
use Rattle.events.specs.Boxes.{after_in}
use Rattle.run.specs.declared.Run.{Run}
use Rattle.events.specs.declared.Event.{Event}
use Rattle.events.specs.Answers.{starting_number}
use Rattle.run.specs.Release.{fresh_run, start_of}
use Rattle.run.specs.Events.{event_of, after}
use Rattle.run.proofs.Shape.{RunShaped, fresh_run_shaped, event_run_shaped}
use Rattle.run.proofs.Refused.{start_run}
use Rattle.run.proofs.Count.{jobs_balance}
use Rattle.run.proofs.Slips.{never_13}
use Rattle.run.specs.Found.{taken_ticks}
use Rattle.promises.specs.Condition2.{RunSized}
use Rattle.promises.specs.FromTheText.{Promised, FromTheText}
use Rattle.promises.proofs.Bounds.{first_bound, second_bound}
use Rattle.promises.proofs.ByTheRules.{shaped_held}
use Rattle.promises.proofs.Condition2.{every_tick}

-- every run that is reached is one that code holds
pub reached_held : (r : Run) (es : List Event) → RunShaped r → RunSized (after r es)
unfolding after_in
reached_held r [] h = shaped_held h
reached_held r (e ∷ es) h = reached_held (event_of r e).run es (event_run_shaped r e h)

promised : (t : Table) (es : List Event) → Sized t → table_keeps t ≡ true → Promised t (fresh_run t) es
promised t es z e =
    let ms = taken_ticks (fresh_run t) es in
    record {
      tick =
          λ x b q.
          every_tick x
          (record { held = subst RunSized (sym b) (reached_held (fresh_run t) es (fresh_run_shaped t z)); taken = q });
      never_13 = λ v. never_13 t es v z e;
      jobs = jobs_balance t es z e;
      first = λ i s W l h m. first_bound t es ms i s W _ _ e refl l refl h m refl;
      second = λ i s T C R l p k c. second_bound t es ms i s T C R e refl l p k c;
    }

started : (t : Table) → table_keeps t ≡ true → starting_number (start_of t).answer ≡ 0
unfolding start_of
started t e = rw e

pub from_the_text : FromTheText
from_the_text text t es n q =
    let taken = reading_0 _ n in
    let e = read_keeps text taken in
    rw (q, start_run _) (started _ e, promised _ es (read_sized text taken) e)
