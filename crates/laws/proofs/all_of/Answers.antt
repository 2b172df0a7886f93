-- `laws::all_of` meets its contract: all hold exactly if none fails. Assumes nothing.
use Rattle.std.proofs.Common.{◌≡◌, Bool, not, is_none, ℕ, Option, Some, None, refl, ap, sym, ◌∙◌, rules}
use Rattle.laws.specs.Search.{first_failed, is_found}
use Rattle.laws.proofs.Search.{all_hold}
use Rattle.laws.proofs.all_of.Goals as goal

not_found : (x : Option ℕ) → is_none x ≡ not (is_found x)
not_found (Some k) = refl
not_found None = refl

pub returns : goal.returns
returns c =
    let told : c.is_none.result ≡ is_none c.first_failed.result = search rules in
    told ∙ ap is_none c.first_failed.ensures ∙ not_found _ ∙ sym (all_hold c.args.b.now)
