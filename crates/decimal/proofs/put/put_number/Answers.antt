-- `decimal::put::put_number` meets its contract: the number is spelled, and its digits are put.
-- Assumes nothing.
use Rattle.std.proofs.Common.{refl, arith}
use Rattle.decimal.proofs.Room.{Ends, spelled_ends, put_as}
use Rattle.decimal.proofs.put.put_number.Goals as goal
use Rattle.decimal.proofs.put.put_number.Goals.{After-spell-first}

-- the digits, where they stand
ends : (c : After-spell-first) → Ends c.args.n c.spell-first.new.text c.spell-first.result
ends c = spelled_ends _ _ c.ranges.n.fits refl c.spell-first.ensures

pub slice_bounds-put_all-count : goal.slice_bounds-put_all-count
slice_bounds-put_all-count c = (ends (goal.at.slice_bounds-put_all-count c).After-spell-first).within

pub slice_bounds-put_all-start : goal.slice_bounds-put_all-start
slice_bounds-put_all-start c = (ends (goal.at.slice_bounds-put_all-start c).After-spell-first).within

pub slice_bounds-put_all-end : goal.slice_bounds-put_all-end
slice_bounds-put_all-end c = omega (arith, (ends (goal.at.slice_bounds-put_all-end c).After-spell-first).long)

pub returns : goal.returns
returns c = put_as (ends (goal.at.returns c).After-spell-first).said c.put_all.ensures
