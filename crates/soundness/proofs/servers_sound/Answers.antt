-- `soundness::servers_sound` meets its contract: each row passed is sound, so the first that is not
-- decides. Assumes nothing.
use mathlib.Core.Path.{sym, ◌∙◌}
use native.Mathlib.Omega.{arith}
use lib.ListN.{length-take}
use Rattle.laws.specs.Choice.{every}
use Rattle.laws.proofs.Rows.{all_none, all_more, all_fails}
use Rattle.run.specs.Sound.{sound_server}
use Rattle.soundness.proofs.Inner.{server_asked}
use Rattle.soundness.proofs.servers_sound.Goals as goal

pub loop-i-init : goal.loop-i-init
loop-i-init c = sym (all_none _)

pub returns-then-not-server_sound : goal.returns-then-not-server_sound
returns-then-not-server_sound c =
    let t = c.args.t.now in
    let s = c.args.s.now in
    let i = c.loop-i.i in
    sym
    (all_fails (λ j. every (sound_server t s j)) t.nservers i
    (omega (arith, length-take t.nservers t.servers, c.loop-i-test.true))
    (server_asked t s i c.loop-i-test.true ∙ sym c.server_sound.ensures ∙ c.if-not-server_sound.true))

pub loop-i-preserved : goal.loop-i-preserved
loop-i-preserved c =
    let t = c.args.t.now in
    let s = c.args.s.now in
    let l = c.loop-i in
    all_more (λ j. every (sound_server t s j)) l.i l.invariant
    (server_asked t s l.i c.loop-i-test.true ∙ sym c.server_sound.ensures ∙ c.if-not-server_sound.false)
