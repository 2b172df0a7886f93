-- `verdict::verdicts_of` meets its contract: a table that breaks the rules has 13 everywhere, and
-- every row of any other is asked. Assumes nothing.
use mathlib.Core.Path.{sym, ◌∙◌}
use borrow.Author.Rules.{rules}
use Rattle.laws.proofs.Rows.{is_listed}
use Rattle.verdict.specs.Fits.{row_verdicts, verdicts_of, no_verdicts}
use Rattle.table.specs.declared.Refusal.TheVariants.{NoServer}
use Rattle.verdict.proofs.Fitting.{none_kept}
use Rattle.verdict.proofs.verdicts_of.Goals as goal

pub returns-then-not-table_keeps : goal.returns-then-not-table_keeps
returns-then-not-table_keeps c =
    rw c.refused.ensures
    (none_kept c.args.t (sym c.table_keeps.ensures ∙ c.if-not-table_keeps.true))

pub returns : goal.returns
unfolding verdicts_of
returns c =
    let i = c.from_fn.ensures.items in
    is_listed 32 (row_verdicts c.args.t) (no_verdicts NoServer) c.from_fn.result i.long
    (λ k h. search rules)
