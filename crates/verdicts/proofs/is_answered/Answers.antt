-- `verdicts::is_answered` is safe, and asks only for verdicts of a table that keeps the rules: one
-- that was taken does. Assumes nothing.
use Rattle.files.proofs.Handed.{given_keeps, given_taken}
use Rattle.verdicts.proofs.is_answered.Goals as goal

pub put_page-n-requires : goal.put_page-n-requires
put_page-n-requires g c =
    given_keeps c.take_table.result c.take_table.ensures _
    (given_taken c.in-Some-take_table.is c.say_refused.ensures c.in-Ok.is)
