-- A table that is given as taken is one that the reader takes, whatever the reads answered; so it keeps
-- the rules. Assumes nothing.
use Rattle.std.proofs.Common.{◌≡◌, Bool, true, ap, List, ℕ, Option, Some, None, Result, Ok, Err, sym, subst, ◌∙◌}
use Rattle.table.specs.declared.Table.{Table}
use Rattle.table.specs.Rules.{table_keeps}
use Rattle.table.specs.Inner.{Sized}
use Rattle.text.specs.declared.ReadError.{ReadError}
use Rattle.text.specs.TableText.{handed}
use Rattle.text.specs.Read.{read, shown}
use Rattle.text.proofs.TableText.{handed_taken}
use Rattle.text.proofs.RoundTrip.{read_keeps, read_sized}
use Rattle.files.specs.declared.How.{How}
use Rattle.files.specs.declared.How.TheVariants.{On, End, Failed}
use Rattle.files.specs.Handed.{given_by, Handed, Said}

-- Of any kind of table: what is given as taken, the reader answers of that text.
given_read : {T : Type 0} (read : List ℕ → Result T ReadError) (how : How) (text : List ℕ) (t : T) →
    given_by read how text ≡ Some (Ok t) → read text ≡ Ok t
given_read read On text t e = cc
given_read read End text t e = cc
given_read read Failed text t e = cc

pub handed_read : {T : Type 0} (read : List ℕ → Result T ReadError) (g : Option (Result T ReadError)) (h : Handed read g) (t : T) →
    g ≡ Some (Ok t) → read h.text ≡ Ok t
handed_read read g h t e = given_read read h.how h.text t (sym h.given ∙ e)

pub given_keeps : (g : Option (Result Table ReadError)) → Handed (λ text. handed (shown (read text))) g → (t : Table) → g ≡ Some (Ok t) →
    table_keeps t ≡ true
given_keeps g h t e =
    let d = handed_taken (shown (read h.text)) t (handed_read _ g h t e) in
    subst (λ (x : Table). table_keeps x ≡ true) d.1 (read_keeps h.text d.0)

-- Its arrays have the lengths of every table that code holds.
pub given_sized : (g : Option (Result Table ReadError)) → Handed (λ text. handed (shown (read text))) g → (t : Table) → g ≡ Some (Ok t) →
    Sized t
given_sized g h t e =
    let d = handed_taken (shown (read h.text)) t (handed_read _ g h t e) in
    subst Sized d.1 (read_sized h.text d.0)

-- What was said of a reader's answer, and handed on as a table, the reader took.
said_taken : {T : Type 0} (read : Result T ReadError) (r : Result T Bool) (t : T) → Said read r → r ≡ Ok t → read ≡ Ok t
said_taken (Ok u) r t s e = cc
said_taken {T = T} (Err why) r t s e =
    let none : ⊥ = subst (λ (x : Result T Bool). Said (Err why) x) e s in absurd none

pub given_taken : {T : Type 0} {g : Option (Result T ReadError)} {read : Result T ReadError} {r : Result T Bool} {t : T} →
    g ≡ Some read → Said read r → r ≡ Ok t → g ≡ Some (Ok t)
given_taken {T = T} {read = read} {r = r} {t = t} e s f = e ∙ ap Some (said_taken read r t s f)
