-- A frame box's table that is given as taken keeps the rules, whatever the reads answered, and a start
-- with any table begins with its fresh run. Assumes nothing.
use Rattle.std.proofs.Common.{◌≡◌, true, List, ℕ, Option, Some, Result, Ok, refl, subst}
use Rattle.laws.proofs.Choice.{if_ind}
use Rattle.text.specs.declared.ReadError.{ReadError}
use Rattle.text.specs.TableText.{handed}
use Rattle.text.proofs.TableText.{handed_taken}
use Rattle.frametable.specs.declared.FrameTable.{FrameTable}
use Rattle.frametable.specs.Rules.{frame_table_keeps}
use Rattle.frametable.specs.Text.{frame_read, frame_shown}
use Rattle.frametable.proofs.Rules.{frame_rows_table}
use Rattle.frametable.proofs.Text.{frame_rows_keep}
use Rattle.events.specs.declared.Begun.{Begun}
use Rattle.framerun.specs.declared.FrameRun.{FrameRun}
use Rattle.framerun.specs.Release.{fresh_frame, start_of}
use Rattle.files.specs.Handed.{Handed}
use Rattle.files.proofs.Handed.{handed_read}

read_keeps : (text : List ℕ) → (frame_shown (frame_read text)).answer ≡ Ok tt →
    frame_table_keeps (frame_shown (frame_read text)).table ≡ true
unfolding frame_shown
read_keeps text e = frame_rows_table (frame_read text).rows (frame_rows_keep text e)

pub frame_given_keeps : (g : Option (Result FrameTable ReadError)) → Handed (λ text. handed (frame_shown (frame_read text))) g → (t : FrameTable) →
    g ≡ Some (Ok t) → frame_table_keeps t ≡ true
frame_given_keeps g h t e =
    let d = handed_taken (frame_shown (frame_read h.text)) t (handed_read _ g h t e) in
    subst (λ (x : FrameTable). frame_table_keeps x ≡ true) d.1 (read_keeps h.text d.0)

pub frame_start_run : (t : FrameTable) → (start_of t).run ≡ fresh_frame t
unfolding start_of
frame_start_run t =
    if_ind (λ (a : Begun FrameRun). a.run ≡ fresh_frame t) (frame_table_keeps t) (λ e. refl) (λ e. refl)
