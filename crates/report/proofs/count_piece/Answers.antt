-- `report::count_piece` meets its contract: before each batch, the bytes before it are counted. Assumes
-- nothing.
use Rattle.std.proofs.Common.{List, ℕ, ◌*◌, ◌≤◌, arith, length, sym}
use Rattle.std.proofs.Math.Seq.{length-take-le}
use Rattle.report.specs.Pieces.{Stand, standing}
use Rattle.report.proofs.Pieces.{Batch, batch_eaten, batch_few, batch_handed, batch_next}
use Rattle.report.proofs.count_piece.Goals as goal
use Rattle.report.proofs.count_piece.Goals.{After-cut_lines-c}

-- what stands before the piece, and before a batch
abbrev stands : After-cut_lines-c → Stand
stands c = standing c.args.n c.args.counts.now

abbrev before_batch : After-cut_lines-c → Stand
before_batch c =
    let l = c.loop-at in
    record { run = l.run; held = l.held; counts = l.counts }

abbrev lent : After-cut_lines-c → List ℕ
lent c = c.cut_lines-c.new.lines

cutting : (c : After-cut_lines-c) →
    let l = c.loop-at in
    Batch (stands c) c.args.bytes.now l.at (before_batch c) l.values l.told l.found c.cut_lines-c.result (lent c)
cutting c =
    record {
      start = c.requires;
      going = c.loop-at.invariant;
      more = c.loop-at-test.true;
      cuts = c.cut_lines-c.ensures;
    }

-- the lines stand at the front of the room for them
front : (c : After-cut_lines-c) → 2 * c.cut_lines-c.result.many ≤ length (lent c)
front c = omega (arith, batch_few (cutting c), c.loop-at.invariant.lines_long)

pub overflow_mul-values : goal.overflow_mul-values
overflow_mul-values c = omega (arith, batch_few (cutting (goal.at.overflow_mul-values c).After-cut_lines-c))

pub slice_bounds-values-end : goal.slice_bounds-values-end
slice_bounds-values-end c = front (goal.at.slice_bounds-values-end c).After-cut_lines-c

pub slice_bounds-said-end : goal.slice_bounds-said-end
slice_bounds-said-end c = sym (length-take-le _ _ (front (goal.at.slice_bounds-said-end c).After-cut_lines-c))

pub count_ticks-requires : goal.count_ticks-requires
count_ticks-requires c =
    batch_handed (cutting (goal.at.count_ticks-requires c).After-cut_lines-c) c.find_many-m.ensures

pub overflow_add-at : goal.overflow_add-at
overflow_add-at c = omega (arith, batch_eaten (cutting (goal.at.overflow_add-at c).After-cut_lines-c))

pub loop-at-smaller : goal.loop-at-smaller
loop-at-smaller c = omega (arith, batch_eaten (cutting (goal.at.loop-at-smaller c).After-cut_lines-c))

pub loop-at-preserved : goal.loop-at-preserved
loop-at-preserved c =
    batch_next (cutting (goal.at.loop-at-preserved c).After-cut_lines-c) c.find_many-m.ensures c.count_ticks.ensures
    (omega arith) (omega arith) (omega arith)
