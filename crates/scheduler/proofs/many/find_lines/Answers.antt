-- `scheduler::many::find_lines` meets its contract: after each line the state and the rooms are what
-- the definition says of the lines so far and the ticks among them. Assumes nothing.
use mathlib.Core.Path.{sym, ◌∙◌}
use Prim.Native.Nat.{◌+◌, ◌-◌, ◌*◌, ◌≤◌, ◌<◌}
use native.Mathlib.Omega.{arith}
use lib.ListN.{length}
use Rattle.events.specs.Values.{lines_said}
use Rattle.events.proofs.Values.{lines_length, told_put_lem}
use Rattle.scheduler.proofs.Inner.Many.{Puts, line_keeps, line_left, puts_tick, puts_none, puts_few}
use Rattle.std.proofs.lemmas.Slice.{put_mid-paste}
use Rattle.scheduler.proofs.Inner.Many.{seeking_on, seeking_end}
use Rattle.scheduler.proofs.many.find_lines.Goals as goal
use Rattle.scheduler.proofs.many.find_lines.Goals.{Joined-x, in-Ticked, in_default}

-- what was told and found of this line, if it is a tick, is put behind the ticks before it
puts : (c : Joined-x) →
    let l = c.loop-line in
    Puts c.answer_line-x.result c.answer_line-x.new.found l.told l.found l.ticks c.match-x.told c.match-x.found
    c.match-x.ticks
puts c =
    let l = c.loop-line in
    let m = l.ticks in
    let x = c.answer_line-x.result in
    let seen = c.answer_line-x.new.found in
    elim c.match-x.branch [
      | in-Ticked w ↦
          let room : 9 * m + 9 ≤ length l.told =
          omega (arith, c.requires.0, c.as_chunks.ensures.front_len, c.loop-line-test.true, l.invariant.0, l.auto.told) in
          puts_tick seen l.told l.found m _ _ _ x _ w.in-Ticked.is w.ticks-is
          (w.told-is ∙ w.put_told.ensures ∙ told_put_lem l.told (9 * m) x room)
          (w.found-is
          ∙ put_mid-paste (96 * m) (96 * (m + 1) - 96 * m) l.found w.copy_from_slice.new.self seen 96
          w.copy_from_slice.ensures.after (omega arith) (sym c.answer_line-x.array_long))
      | in_default w ↦ puts_none seen l.told l.found m _ _ _ x w.in_default.not-Ticked w.ticks-is w.told-is w.found-is
    ]

pub loop-line-preserved : goal.loop-line-preserved
loop-line-preserved c =
    let l = c.loop-line in
    let a = c.args in
    let vs = a.lines.now in
    let i = l.line-index in
    let m : i < length (lines_said vs) = omega (arith, lines_length vs, c.as_chunks.ensures.front_len, c.loop-line-test.true) in
    let p = puts c in (
      omega (arith, l.invariant.0, puts_few _ _ _ _ _ _ _ _ p),
      λ t s.
          let q = l.invariant.1 t s in
          let y = c.answer_line-x.ensures t q.0 in (
            line_keeps t _ _ q.0 _ _ _ _ y,
            seeking_on _ (lines_said vs) a.told.now a.found.now _ l.told l.found l.ticks i
                _ _ _ _ _ _ _ (omega (arith, c.loop-line-test.true, c.as_chunks.ensures.front_len, c.requires.0, l.invariant.0))
                (omega (arith, c.loop-line-test.true, c.as_chunks.ensures.front_len, c.requires.1, l.invariant.0)) (line_left vs _ i _ c.as_chunks.ensures.front m)
                y.run y.told y.found p q.1,
          ),
    )

pub returns : goal.returns
returns c =
    λ t p.
    let l = c.loop-line in
    let vs = c.args.lines.now in
    seeking_end _ (lines_said vs) _ _ _ _ _ _ l.line-index (omega (arith, lines_length vs, c.as_chunks.ensures.front_len)) (l.invariant.1 t p).1
