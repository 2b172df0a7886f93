-- `scheduler::settle::drop_low` meets its contract: of the tasks passed those of level LO are
-- cleared, and their jobs counted and noted. Assumes nothing.
use mathlib.Core.Bool.{true, false}
use mathlib.Core.Path.{◌≡◌, refl, sym, ap, ◌∙◌}
use Prim.Native.Nat.{ℕ, ◌+◌}
use native.Mathlib.Omega.{arith}
use lib.ListN.{get_or}
use Rattle.table.specs.Rows.{is_low}
use Rattle.scheduler.specs.Inner.Columns.{level_of}
use Rattle.laws.specs.Rows.{sum_below}
use Rattle.laws.proofs.Anew.{anew_none, anew_row}
use Rattle.scheduler.specs.Inner.Steps.{kept_of, gone_of}
use Rattle.scheduler.proofs.Inner.Steps.{drop_put, drop_stay, drop_count, drop_none}
use Rattle.scheduler.proofs.Inner.Steps.{noted_none, note_put, note_stay}
use Rattle.scheduler.proofs.settle.drop_low.Goals as goal
use Rattle.scheduler.proofs.settle.drop_low.Goals.{then-is_low, else-is_low}

pub loop-k-init : goal.loop-k-init
unfolding sum_below
loop-k-init c =
    record {
      bound = omega arith;
      waiting = anew_none _ _;
      runs = anew_none _ _;
      count = refl;
      found = c.requires.1 ∙ noted_none _;
    }

pub loop-k-preserved : goal.loop-k-preserved
loop-k-preserved c =
    let l = c.loop-k in
    let v = l.invariant in
    let w₀ = c.args.waiting.now in
    let c₀ = c.args.runs.now in
    let ss = c.args.sheets.now in
    let gone : ℕ → ℕ = λ j. gone_of ss j (get_or w₀ j 0) in
    let level : is_low (level_of ss l.k) ≡ c.is_low.result = sym (c.is_low.ensures ∙ ap is_low c.level.ensures) in
    elim c.if-is_low.branch [
      | then-is_low w ↦
          let low : is_low (level_of ss l.k) ≡ true = level ∙ w.if-is_low.true in
          record {
            bound = omega arith;
            waiting = w.waiting-is ∙ drop_put ss w₀ l.waiting l.k v.waiting low;
            runs = w.runs-is ∙ drop_put ss c₀ l.runs l.k v.runs low;
            count =
                w.count-is ∙ ap (λ x. l.count + x) w.from-count.ensures
                ∙ drop_count ss w₀ l.waiting l.k v.waiting l.count v.count low;
            found =
                w.found-is ∙ note_put gone l.found l.k v.found (get_or l.waiting l.k 0)
                (rw low (sym (anew_row (kept_of ss) w₀ l.waiting l.k 0 v.waiting)));
          }
      | else-is_low w ↦
          let high : is_low (level_of ss l.k) ≡ false = level ∙ w.if-is_low.false in
          record {
            bound = omega arith;
            waiting = w.waiting-is ∙ drop_stay ss w₀ l.waiting l.k v.waiting high;
            runs = w.runs-is ∙ drop_stay ss c₀ l.runs l.k v.runs high;
            count = w.count-is ∙ drop_none ss w₀ l.k l.count v.count high;
            found = w.found-is ∙ note_stay gone l.found l.k v.found (omega arith) (rw high);
          }
    ]
