-- `printer::store_field` meets its contract: a tab, and then the digits in one of three ways.
-- Assumes nothing.
use mathlib.Core.Path.{refl, sym}
use mathlib.Core.List.{[], ◌∷◌}
use Prim.Native.Nat.{◌+◌, ◌/◌, ◌%◌}
use native.Mathlib.Omega.{arith}
use Rattle.decimal.proofs.Numbers.{digits_one, digits_two}
use Rattle.decimal.proofs.Room.{Ends, spelled_ends}
use Rattle.printer.proofs.Inner.{text_then, field_stored}
use Rattle.printer.proofs.store_field.Goals as goal
use Rattle.printer.proofs.store_field.Goals.{After-spell-first}

-- the digits, where they stand
ends : (c : After-spell-first) → Ends c.args.n c.spell-first.new.text c.spell-first.result
ends c = spelled_ends c.args.n _ (omega arith) refl c.spell-first.ensures

pub returns-then-n-lt10 : goal.returns-then-n-lt10
returns-then-n-lt10 c =
    field_stored c.args.n (omega arith) (sym (digits_one _ c.if-n-lt10.true))
    c.store_byte-a.ensures c.store_byte.ensures

pub returns-then-n-lt100 : goal.returns-then-n-lt100
returns-then-n-lt100 c =
    field_stored c.args.n (omega arith) (sym (digits_two _ (omega (arith, c.if-n-lt10.false)) c.if-n-lt100.true))
    c.store_byte-a.ensures
    (text_then ((48 + c.args.n / 10) ∷ []) ((48 + c.args.n % 10) ∷ [])
    c.store_byte-b.ensures c.store_byte-then-n-lt100.ensures)

pub returns : goal.returns
returns c =
    field_stored c.args.n (omega arith) (ends (goal.at.returns c).After-spell-first).said
    c.store_byte-a.ensures c.store_all.ensures

pub slice_bounds-store_all-count : goal.slice_bounds-store_all-count
slice_bounds-store_all-count c = (ends (goal.at.slice_bounds-store_all-count c).After-spell-first).within

pub slice_bounds-store_all-start : goal.slice_bounds-store_all-start
slice_bounds-store_all-start c = (ends (goal.at.slice_bounds-store_all-start c).After-spell-first).within

pub slice_bounds-store_all-end : goal.slice_bounds-store_all-end
slice_bounds-store_all-end c = omega (arith, (ends (goal.at.slice_bounds-store_all-end c).After-spell-first).long)
