-- `writer::put_level` meets its contract: each level has its word. Assumes nothing.
use Rattle.text.specs.Words.{lo_word, mi_word, hi_word}
use Rattle.writer.proofs.put_level.Goals as goal

pub returns-in-LO : goal.returns-in-LO
unfolding lo_word
returns-in-LO c = rw c.in-LO.is c.put_all.ensures

pub returns-in-MI : goal.returns-in-MI
unfolding mi_word
returns-in-MI c = rw c.in-MI.is c.put_all-in-MI.ensures

pub returns-in-HI : goal.returns-in-HI
unfolding hi_word
returns-in-HI c = rw c.in-HI.is c.put_all-in-HI.ensures
