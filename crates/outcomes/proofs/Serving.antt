-- Each contract of crate serving settles what it answers and what it leaves in the lent room: two outcomes that it allows equal the
-- same definition's value. Assumes nothing.
use mathlib.Core.List.{[]}
use mathlib.Core.Path.{◌≡◌, ap, sym, ◌∙◌}
use denote.RattleType.{RattleType}
use denote.Param.Laws.{Laws, IsCopy}
use mir.Syntax.{Dict}
use Rattle.std.specs.declared.clone.Clone
use Rattle.serving.specs.declared.LineBox
use Rattle.lines.specs.Serving.{Service}
use Rattle.serving.proofs.serve
use Rattle.serving.proofs.serve_any
use Rattle.outcomes.specs.OneOutcome.{OneOutcome}
use Rattle.outcomes.proofs.OneOutcome.{settled, outlives}

pub serve_settled : OneOutcome serve.Kinds.ps serve.Kinds.r serve.Reads.Asked serve.Reads.Learnt
serve_settled = settled (λ κs a. tt) (λ κs a x y p q.
    (ap (λ v. v.served) (p ∙ sym q), ap (λ v. (tt, (tt, (tt, (v.room, tt))))) (p ∙ sym q)))

-- Of any box: B is the name for it and R what it holds, neither of which holds a reference.
pub serve_any_settled : (B R : RattleType) (m : B.lives ≡ []) (n : R.lives ≡ []) (b : Laws B) (r : Laws R) (c : IsCopy R)
    (g : LineBox.Ghosts B.Denot R.Denot) (d : Dict) (k : Clone.Ghosts R.Denot) (e : Dict) →
    OneOutcome (serve_any.Kinds.ps B R b r c) (serve_any.Kinds.r B R b r c)
    (serve_any.Reads.Asked B R b r c g d k e) (serve_any.Reads.Learnt B R b r c g d k e)
serve_any_settled B R m n b r c g d k e =
    settled
    (λ κs a. (outlives B.lives m _, outlives R.lives n _))
    (λ κs a x y p q. (
      ap
          (λ (v : Service R.Denot).
          record { answer = v.answer; run = v.run; held = v.held; eaten = v.eaten; put = v.put })
          (p ∙ sym q),
      ap (λ (v : Service R.Denot). (tt, (tt, (tt, (v.room, tt))))) (p ∙ sym q),
    ))
