-- What the writer leaves in room enough is the text that rewrite prints. Assumes nothing.
use Rattle.std.proofs.Common.{Result}
use Rattle.std.specs.Result.{result_unwrap_or}
use mathlib.Core.Path.{◌≡◌, ap, ◌∙◌}
use mathlib.Core.Bool.{true, false}
use mathlib.Core.List.{List}
use mathlib.Core.Logic.{◌⊎◌, inl, inr}
use Prim.Native.Nat.{ℕ, ◌≤◌}
use lib.ListN.{length, take, drop}
use lib.Seq.{take-append_seam}
use Rattle.std.proofs.lemmas.Bool.{cases_Bool}
use Rattle.table.specs.declared.Table.{Table}
use Rattle.table.specs.Rows.{rows_of}
use Rattle.table.specs.Rules.{table_keeps}
use Rattle.text.specs.Write.{Wrote, write, wrote}
use Rattle.text.proofs.RoundTrip.{room_enough}
use Rattle.rewrite.specs.Rewritten.{rewritten}
use Rattle.table.specs.declared.Refusal.{Refusal}

wrote_front : (t : Table) (room : List ℕ) → 16384 ≤ length room →
    take (result_unwrap_or (wrote t room).answer 0) (wrote t room).room ≡ rewritten t
unfolding wrote rewritten
wrote_front t room h = go (cases_Bool (table_keeps t))
  where
    go : (table_keeps t ≡ true) ⊎ (table_keeps t ≡ false) →
        take (result_unwrap_or (wrote t room).answer 0) (wrote t room).room ≡ rewritten t
    go (inl e) =
        let text = write (rows_of t) in
        rw (room_enough t room e h, e) (take-append_seam text (drop (length text) room))
    go (inr e) = rw e

pub front : (t : Table) (room : List ℕ) → 16384 ≤ length room → (w : Result ℕ Refusal) (left : List ℕ) →
    record { answer = w; room = left } ≡ wrote t room → take (result_unwrap_or w 0) left ≡ rewritten t
front t room h w left e =
    ap (λ (x : Wrote). take (result_unwrap_or x.answer 0) x.room) e ∙ wrote_front t room h
