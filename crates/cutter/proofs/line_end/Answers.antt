-- `cutter::line_end` meets its contract: the first four bytes one after the other, or a search.
-- Assumes nothing.
use Rattle.std.proofs.Common.{◌≡◌, List, ℕ, ◌+◌, ◌<◌, length, get_or, refl, arith}
use Rattle.decimal.specs.Lines.{line_feed}
use Rattle.decimal.proofs.Lines.{Finds}
use Rattle.cutter.proofs.Bytes.{finds_here, finds_next}
use Rattle.cutter.proofs.line_end.Goals as goal

-- it does not stand at the first place, nor at the second
past_first : (l : List ℕ) (at e : ℕ) → at + 3 < length l → (get_or l at 0 ≡ line_feed → ⊥) →
    Finds line_feed l (at + 1) e → Finds line_feed l at e
past_first l at e h n f = finds_next line_feed l at (at + 1) e (omega arith) n refl f

past_second : (l : List ℕ) (at e : ℕ) → at + 3 < length l → (get_or l at 0 ≡ line_feed → ⊥) →
    (get_or l (at + 1) 0 ≡ line_feed → ⊥) → Finds line_feed l (at + 2) e → Finds line_feed l at e
past_second l at e h n m f =
    past_first l at e h n (finds_next line_feed l (at + 1) (at + 2) e (omega arith) m (omega arith) f)

pub returns-then-input-at-eq-LINE_FEED-clause-value : goal.returns-then-input-at-eq-LINE_FEED-clause-value
returns-then-input-at-eq-LINE_FEED-clause-value c =
    let a = c.args in finds_here line_feed a.input.now a.at (omega arith) c.if-input-at-eq-LINE_FEED.true

pub returns-then-input-at-eq-LINE_FEED-2-clause-value : goal.returns-then-input-at-eq-LINE_FEED-2-clause-value
returns-then-input-at-eq-LINE_FEED-2-clause-value c =
    let a = c.args in
    past_first a.input.now a.at (a.at + 1) (omega arith) c.if-input-at-eq-LINE_FEED.false
    (finds_here line_feed a.input.now (a.at + 1) (omega arith) c.if-input-at-eq-LINE_FEED-2.true)

pub returns-then-input-at-eq-LINE_FEED-3-clause-value : goal.returns-then-input-at-eq-LINE_FEED-3-clause-value
returns-then-input-at-eq-LINE_FEED-3-clause-value c =
    let a = c.args in
    past_second a.input.now a.at (a.at + 2) (omega arith) c.if-input-at-eq-LINE_FEED.false c.if-input-at-eq-LINE_FEED-2.false
    (finds_here line_feed a.input.now (a.at + 2) (omega arith) c.if-input-at-eq-LINE_FEED-3.true)

pub returns-clause-value : goal.returns-clause-value
returns-clause-value c =
    let a = c.args in
    let e = a.at + 3 in
    past_second a.input.now a.at e (omega arith) c.if-input-at-eq-LINE_FEED.false c.if-input-at-eq-LINE_FEED-2.false
    (finds_next line_feed a.input.now (a.at + 2) e e (omega arith) c.if-input-at-eq-LINE_FEED-3.false (omega arith)
    (finds_here line_feed a.input.now e (omega arith) c.if-input-at-ne-LINE_FEED.false))
