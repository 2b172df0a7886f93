-- The marked figures hold: each computes. Assumes nothing.
use mathlib.Core.Path.{◌≡◌, refl}
use Rattle.laws.specs.Quoted.{lined}
use Rattle.text.specs.Read.{read, shown}
use Rattle.table.specs.Example.{example}
use Rattle.promises.specs.Example.{example_text}
use Rattle.promises.specs.Figures.{AllHold, figures}
use Rattle.promises.proofs.Opened.{opened}

pub marked_figures : AllHold figures
unfolding figures opened
marked_figures = (refl, (refl, (refl, (refl, (refl, (refl, (refl, (refl, (refl, (refl, (refl, tt)))))))))))

-- the example's text is read as its rows
pub example_read : (shown (read (lined example_text))).table ≡ example
unfolding opened
example_read = refl
