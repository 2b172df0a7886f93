-- What only the contracts of inner functions cite: an answer line stored field by field.
use Rattle.std.specs.Prelude.{◌≡◌, List, [], ◌∷◌, ℕ, ◌+◌, ◌≤◌, length}
use Rattle.std.proofs.lemmas.List.Edits.{sets}
use Rattle.decimal.specs.Lines.{tab, line_feed}

-- a lent room, and the place where its next byte goes
pub record RoomAt : Type 0 where
  pub room : List ℕ
  pub at : ℕ

abbrev pub stored : List ℕ → RoomAt → RoomAt
stored text p = record { room = sets p.room p.at text; at = p.at + length text }

-- fields that stand after others: a tab before each
abbrev pub fields_stored : List (List ℕ) → RoomAt → RoomAt
fields_stored [] p = p
fields_stored (f ∷ fs) p = fields_stored fs (stored (tab ∷ f) p)

-- the same, and the line is closed
abbrev pub rest_stored : List (List ℕ) → RoomAt → RoomAt
rest_stored fs p = stored (line_feed ∷ []) (fields_stored fs p)

-- a line from its first field on
abbrev pub line_stored : List (List ℕ) → RoomAt → RoomAt
line_stored [] p = stored (line_feed ∷ []) p
line_stored (f ∷ fs) p = rest_stored fs (stored f p)

-- What a function leaves in the room and answers, and how many bytes it has stored at most.
pub record Stores (f : RoomAt → RoomAt) (most : ℕ) (room : List ℕ) (at : ℕ) (left : List ℕ) (next : ℕ) : Type 0 where
  pub leaves : ◌≡◌ {A = RoomAt} (record { room = left; at = next }) (f (record { room = room; at = at }))
  pub short : next ≤ at + most

-- A number has at most 20 digits, and a tab before it.
abbrev pub number_field : ℕ
number_field = 21

-- `run`, with two numbers
abbrev pub turn_bytes : ℕ
turn_bytes = 4 + number_field + number_field

-- `done`, with one
abbrev pub left_bytes : ℕ
left_bytes = 5 + number_field

-- the tick, a mode of two letters, those, the number discarded and the line feed
abbrev pub outcome_bytes : ℕ
outcome_bytes = number_field + 3 + turn_bytes + left_bytes + number_field + 1

-- the longest line: a release's letter, its task, and all that goes with a tick
abbrev pub line_bytes : ℕ
line_bytes = 1 + number_field + outcome_bytes

-- `table` and `no`, up to three numbers, and the line feed
abbrev pub refused_bytes : ℕ
refused_bytes = 8 + number_field + number_field + number_field + 1
