-- `cutter::read_event` meets its contract: letter, tab and number decide what the line says.
-- Assumes nothing.
use Rattle.std.proofs.Common.{rules, arith, ◌≡◌, ℕ, ◌-◌, List, length, get_or, take, drop, refl, sym, ap, ◌∙◌, length-drop}
use Rattle.std.proofs.Math.Seq.{take_all}
use Rattle.decimal.specs.Number.{read_number}
use Rattle.lines.proofs.EventLine.{Found, said_short, said_no_tab, said_no_number}
use Rattle.lines.proofs.EventLine.{said_no_letter, said_release, said_tick, said_mark}
use Rattle.cutter.proofs.read_event.Goals as goal
use Rattle.cutter.proofs.read_event.Goals.{In_ok-v}

pub returns-in_default : goal.returns-in_default
returns-in_default c = said_short _ c.in_default.len_below

pub returns-in_default-2 : goal.returns-in_default-2
returns-in_default-2 c = said_no_tab _ (search rules)

-- the number that is read of what stands after the tab
read : (l : List ℕ) → read_number (take (length l - 2) (drop 2 l)) ≡ read_number (drop 2 l)
read l = ap read_number (take_all (length l - 2) (drop 2 l) (omega (arith, length-drop 2 l)))

pub returns-in_err-v : goal.returns-in_err-v
returns-in_err-v c =
    c.from_residual.ensures ∙ said_no_number _ (sym (c.in_err-v.ensures ∙ read c.args.l.now))

found : (c : In_ok-v) (letter : ℕ) → get_or c.args.l.now 0 0 ≡ letter → Found c.args.l.now letter c.in_ok-v.v
found c letter e =
    record {
      long = c.in-9.len_at_least;
      first = e;
      parted = search rules;
      number = sym (c.in_ok-v.ensures ∙ read c.args.l.now);
    }

pub returns-in-82 : goal.returns-in-82
returns-in-82 c = said_release _ _ (found (goal.at.returns-in-82 c).In_ok-v 82 c.in-82.is)

pub returns-in-84 : goal.returns-in-84
returns-in-84 c =
    said_tick _ _ _ (found (goal.at.returns-in-84 c).In_ok-v 84 c.in-84.is) c.if-v-le1.true refl

pub returns-in_default-letter : goal.returns-in_default-letter
returns-in_default-letter c =
    said_mark _ _ (found (goal.at.returns-in_default-letter c).In_ok-v 84 c.in-84.is) c.if-v-le1.false

pub returns-in_default-letter-2 : goal.returns-in_default-letter-2
returns-in_default-letter-2 c = said_no_letter _ (search rules) (search rules)
