-- `night::is_answered` is safe, and the night that it begins is ready: a table that was taken keeps the
-- rules, so a fresh run of it is sound. Assumes nothing.
use Rattle.std.proofs.Common.{◌≡◌, [], Option, Some, Result, Ok, sym}
use Rattle.table.specs.declared.Table.{Table}
use Rattle.text.specs.declared.ReadError.{ReadError}
use Rattle.text.specs.TableText.{handed}
use Rattle.text.specs.Read.{read, shown}
use Rattle.events.specs.declared.Begun.{Begun}
use Rattle.run.specs.Release.{start_of}
use Rattle.run.specs.Events.{the_box}
use Rattle.run.proofs.Kept.{fresh_keeps}
use Rattle.run.proofs.Refused.{start_run}
use Rattle.lines.specs.declared.Held.{Held}
use Rattle.lines.specs.HeldLine.{held_of}
use Rattle.lines.specs.Pieces.{Ready}
use Rattle.lines.proofs.HeldLine.{held_again}
use Rattle.files.specs.Handed.{Handed}
use Rattle.files.proofs.Handed.{given_keeps, given_sized, given_taken}
use Rattle.night.proofs.is_answered.Goals as goal
use Rattle.run.specs.declared.Run.{Run}

begun : (g : Option (Result Table ReadError)) → Handed (λ text. handed (shown (read text))) g → (t : Table) → g ≡ Some (Ok t) →
    (b : Begun Run) → b ≡ start_of t → (h : Held) → h ≡ held_of [] → Ready the_box b.run h
begun g d t e b p h q =
    record {
      sound = rw (p, start_run t) (fresh_keeps t (given_sized g d t e) (given_keeps g d t e));
      held = rw q (sym (held_again []));
    }

pub invariant_of-night : goal.invariant_of-night
invariant_of-night g c =
    record {
      ready =
          begun c.take_table.result c.take_table.ensures _ (given_taken c.in-Some-take_table.is c.say_refused.ensures c.in-Ok.is)
          c.start-started.result c.start-started.ensures c.no_line-held.result c.no_line-held.ensures;
    }
