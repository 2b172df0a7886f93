-- What a line says, from its bytes. An event line is a letter, a tab and a number, which has no tab
-- and at most 11 digits. So a line that is not of this form, or is longer than the longest, is
-- another line. Assumes nothing.
use Rattle.std.specs.Prelude.{if◌then◌else◌, None, Some}
use mathlib.Core.Path.{◌≡◌, refl, sym, ap, ◌∙◌}
use mathlib.Core.Bool.{Bool, true, false}
use mathlib.Core.List.{List, [], ◌∷◌}
use mathlib.Core.Logic.{◌⊎◌, inl, inr}
use Prim.Native.Nat.{ℕ, ◌≤◌, ◌<◌}
use native.Mathlib.Omega.{arith}
use lib.Dec.{eqb}
use lib.ListN.{length, get_or, drop}
use borrow.Author.Tests.{le-leb, lt-leb, eqb-true}
use Rattle.laws.specs.Choice.{every}
use Rattle.std.proofs.lemmas.Bool.{false_from_ne_true}
use Rattle.laws.proofs.Choice.{clash, every_at}
use Rattle.decimal.specs.Number.{is_number, worth, read_number}
use Rattle.decimal.specs.Lines.{tab, split, join, same}
use Rattle.decimal.proofs.Lines.{lacks, split_part, split_whole, join_split, same_eq, number_lacks}
use Rattle.decimal.proofs.Numbers.{number_long}
use Rattle.events.specs.declared.Event.TheVariants.{Release, Tick}
use Rattle.lines.specs.HeldLine.{longest}
use Rattle.lines.specs.EventLine.{release_form, tick_form, event_said, event_line}

-- a letter, R or T, a tab and a number
record Formed (l : List ℕ) : Type 0 where
  letter : ℕ
  number : List ℕ
  line : l ≡ letter ∷ (tab ∷ number)
  known : (letter ≡ 82) ⊎ (letter ≡ 84)
  numeric : is_number number ≡ true

-- a line is its two fields with the tab between them
two_fields : (letter : ℕ) (fs : List (List ℕ)) → length fs ≡ 2 → same (get_or fs 0 []) (letter ∷ []) ≡ true →
    join tab fs ≡ letter ∷ (tab ∷ get_or fs 1 [])
unfolding join
two_fields letter [] e s = absurd (omega arith)
two_fields letter (f ∷ []) e s = absurd (omega arith)
two_fields letter (f ∷ (g ∷ [])) e s = rw (same_eq f (letter ∷ []) s)
two_fields letter (f ∷ (g ∷ (h ∷ fs))) e s = absurd (omega arith)

-- the first three tests of both forms
abbrev Tested : List ℕ → ℕ → List Bool → Type 0
Tested l letter bs =
    (get_or bs 0 true ≡ eqb (length (split tab l)) 2) ×
    (get_or bs 1 true ≡ same (get_or (split tab l) 0 []) (letter ∷ [])) ×
    (get_or bs 2 true ≡ is_number (get_or (split tab l) 1 []))

formed : (l : List ℕ) (letter : ℕ) → (letter ≡ 82) ⊎ (letter ≡ 84) → (bs : List Bool) → Tested l letter bs →
    every bs ≡ true → Formed l
formed l letter w bs t e =
    record {
      letter = letter;
      number = get_or (split tab l) 1 [];
      line =
          sym (join_split tab l) ∙
          two_fields letter (split tab l)
          (eqb-true (length (split tab l)) 2 (sym t.0 ∙ every_at bs e 0))
          (sym t.1 ∙ every_at bs e 1);
      known = w;
      numeric = sym t.2 ∙ every_at bs e 2;
    }

-- a line that is not of this form is another line
not_event : (l : List ℕ) → (Formed l → ⊥) → None ≡ event_line l
unfolding event_line event_said release_form tick_form
not_event l h =
    let fs = split tab l in
    rw (
      false_from_ne_true (every (release_form fs)) (λ e. h (formed l 82 (inl refl) (release_form fs) (refl, refl, refl) e)),
      false_from_ne_true (every (tick_form fs)) (λ e. h (formed l 84 (inr refl) (tick_form fs) (refl, refl, refl) e)),
    )

pub said_short : (l : List ℕ) → length l < 2 → None ≡ event_line l
said_short l h = not_event l (λ p. omega (arith, ap length p.line))

pub said_no_tab : (l : List ℕ) → (get_or l 1 0 ≡ tab → ⊥) → None ≡ event_line l
said_no_tab l h = not_event l (λ p. h (ap (λ x. get_or x 1 0) p.line))

pub said_no_letter : (l : List ℕ) → (get_or l 0 0 ≡ 82 → ⊥) → (get_or l 0 0 ≡ 84 → ⊥) → None ≡ event_line l
said_no_letter l h k =
    not_event l (λ p. let e = ap (λ x. get_or x 0 0) p.line in elim
    p.known [ inl q ↦ h (e ∙ q) | inr q ↦ k (e ∙ q) ])

pub long_another : (l : List ℕ) → longest < length l → None ≡ event_line l
unfolding longest
long_another l h = not_event l (λ p. omega (arith, ap length p.line, number_long p.number p.numeric))

-- a number is read exactly from its form
number_bad : (bs : List ℕ) → read_number bs ≡ None → is_number bs ≡ false
unfolding read_number
number_bad bs e = go (is_number bs) refl e
  where
    go : (b : Bool) → is_number bs ≡ b → (if b then Some (worth bs) else None) ≡ None → is_number bs ≡ false
    go true q h = let z : ◌≡◌ {A = ℕ} 0 1 = cc in absurd (omega arith)
    go false q h = q

number_value : (bs : List ℕ) (v : ℕ) → read_number bs ≡ Some v → (is_number bs ≡ true) × (worth bs ≡ v)
unfolding read_number
number_value bs v e = go (is_number bs) refl e
  where
    go : (b : Bool) → is_number bs ≡ b → (if b then Some (worth bs) else None) ≡ Some v → (is_number bs ≡ true) ×
        (worth bs ≡ v)
    go true q h = (q, cc)
    go false q h = let z : ◌≡◌ {A = ℕ} 0 1 = cc in absurd (omega arith)

pub said_no_number : (l : List ℕ) → read_number (drop 2 l) ≡ None → None ≡ event_line l
said_no_number l e =
    not_event l (λ p. clash (is_number p.number) p.numeric (rw p.line at (number_bad (drop 2 l) e)))

-- what was found of a line
pub record Found (l : List ℕ) (letter v : ℕ) : Type 0 where
  pub long : 2 ≤ length l
  pub first : get_or l 0 0 ≡ letter
  pub parted : get_or l 1 0 ≡ tab
  pub number : read_number (drop 2 l) ≡ Some v

-- its fields are the letter and the number: neither has a tab
found_fields : (l : List ℕ) (letter v : ℕ) → Found l letter v → lacks tab (letter ∷ []) ≡ true →
    split tab l ≡ (letter ∷ []) ∷ (drop 2 l ∷ [])
found_fields [] letter v f h = absurd (omega (arith, f.long))
found_fields (a ∷ []) letter v f h = absurd (omega (arith, f.long))
found_fields (a ∷ (b ∷ bs)) letter v f h =
    let n = number_value bs v f.number in
    rw
    (f.first, f.parted)
    (split_part tab (letter ∷ []) bs h ∙ ap (λ r. (letter ∷ []) ∷ r)
    (split_whole tab bs (number_lacks tab bs (omega arith) n.0)))

pub said_release : (l : List ℕ) (v : ℕ) → Found l 82 v → Some (Release v) ≡ event_line l
unfolding event_line event_said release_form every same lacks
said_release l v f =
    let n = number_value (drop 2 l) v f.number in rw (found_fields l 82 v f refl, n.0, n.1)

pub said_tick : (l : List ℕ) (v : ℕ) (mark : Bool) → Found l 84 v → v ≤ 1 → eqb v 1 ≡ mark → Some
    (Tick mark) ≡ event_line l
unfolding event_line event_said release_form tick_form every same lacks
said_tick l v mark f h m =
    let n = number_value (drop 2 l) v f.number in
    rw (found_fields l 84 v f refl, n.0, n.1, le-leb v 1 h, m)

pub said_mark : (l : List ℕ) (v : ℕ) → Found l 84 v → 1 < v → None ≡ event_line l
unfolding event_line event_said release_form tick_form every same lacks
said_mark l v f h =
    let n = number_value (drop 2 l) v f.number in
    rw (found_fields l 84 v f refl, n.0, n.1, lt-leb v 1 h)
