-- Request No. 6 of document 02: "A frame box." What can be promised of a cabinet that gives its slots by
-- a fixed frame; "Demand 3 does not apply here." proofs/FrameBox.antt proves it.
use Rattle.std.specs.Prelude.{◌≡◌, Bool, true, false, List, ◌⊎◌, ◌↔◌, ℕ, ◌+◌, ◌≤◌, ◌<◌, length, get_or, take, drop, None, Some}
use Rattle.laws.specs.Rows.{sum_below}
use Rattle.table.specs.declared.Mode.TheVariants.{N}
use Rattle.table.specs.declared.Refusal.{Refusal}
use Rattle.text.specs.Read.{reading_number}
use Rattle.text.specs.TableText.{ReadOf, HandsBack}
use Rattle.slots.specs.Frame.{measuring, alarm_sending, panel, rule_of, owner_at, the_frame, held_by, stretch, assured}
use Rattle.events.specs.declared.Event.{Event}
use Rattle.events.specs.declared.Answer.TheVariants.{Released, Ticked, No}
use Rattle.events.specs.declared.Left.TheVariants.{Done, Cut}
use Rattle.events.specs.declared.TickAnswer.{TickAnswer}
use Rattle.events.specs.declared.Turn.TheVariants.{Run as Ran, Empty}
use Rattle.events.specs.Answers.{no_of, starting_number}
use Rattle.events.specs.Count.{released_in, finished_in, cut_in, released_of, finished_of, cut_of, ticks_in, given_to}
use Rattle.events.specs.Boxes.{after_in, answers_in}
use Rattle.frametable.specs.declared.FrameTable.{FrameTable}
use Rattle.frametable.specs.Inner.{FrameSized}
use Rattle.frametable.specs.Rows.{FrameRows, partition_at, frame_priority_at, frame_limit_at, no_frame_table}
use Rattle.frametable.specs.Rules.{frame_table_keeps}
use Rattle.frametable.specs.Text.{frame_read, frame_shown}
use Rattle.frametable.specs.Exactly.{FrameCase}
use Rattle.framerun.specs.declared.FrameState.{FrameState}
use Rattle.framerun.specs.declared.FrameRun.{FrameRun}
use Rattle.framerun.specs.State.{waiting_at, runs_at}
use Rattle.framerun.specs.Sound.{frame_sound}
use Rattle.framerun.specs.Release.{fresh_frame, start_of, release_of}
use Rattle.framerun.specs.Tick.{settle, tick_of}
use Rattle.framerun.specs.Events.{event_of, frame_box}

-- "Show the rule once over the whole table": each entry of the frame is what the rule says. (The array
-- of the code is this list by the contract of slots::the_frame.)
abbrev pub FrameIsTheRule : Type 0
FrameIsTheRule = (length the_frame ≡ 1200) × ((i : ℕ) → i < 1200 → get_or the_frame i 0 ≡ rule_of i)

-- "any 24 slots in a row, round the end too, hold at least 2 for alarm sending", from the slot of any
-- tick s on; and 24 is the least such number
abbrev pub TwoOf24 : Type 0
TwoOf24 = (s : ℕ) → assured ≤ held_by alarm_sending s stretch

abbrev pub Least24 : Type 0
Least24 = (w : ℕ) → w < stretch → (s : ℕ) × (held_by alarm_sending s w < assured)

-- how many slots of the frame each partition has
abbrev pub Shares : Type 0
Shares = (held_by measuring 0 1200 ≡ 408) × (held_by alarm_sending 0 1200 ≡ 198) × (held_by panel 0 1200 ≡ 594)

-- The answers: of any w taken ticks in a row a partition is given as many as the frame has slots for it
-- in w slots, whatever was sent and whatever state was handed in, and no tick is left out.
abbrev pub GivenAsTheFrame : Type 0
GivenAsTheFrame =
    (r : FrameRun) (es : List Event) (p i w : ℕ) → i + w ≤ length (ticks_in (answers_in frame_box r es)) →
    given_to p (take w (drop i (ticks_in (answers_in frame_box r es)))) ≡ held_by p (r.state.ticks.0 + i) w

-- so in any 24 taken ticks in a row alarm sending is given at least 2
abbrev pub AlarmsGiven : Type 0
AlarmsGiven =
    (r : FrameRun) (es : List Event) (i : ℕ) → i + stretch ≤ length (ticks_in (answers_in frame_box r es)) →
    assured ≤ given_to alarm_sending (take stretch (drop i (ticks_in (answers_in frame_box r es))))

-- What a taken tick says. The mark is worked in first: z is the state that the slot's partition p finds.
pub record SaysSo (t : FrameTable) (z : FrameState) (a : TickAnswer) : Type 0 where
  -- "Tick t has slot t mod 1,200", "in mode N only"
  pub tick : a.tick ≡ z.ticks
  pub mode : a.mode ≡ N
  pub discarded : a.discarded ≡ 0
  -- the front job of task k runs exactly if k is the partition's highest task with a waiting job
  pub runs : (k : ℕ) →
      (a.turn ≡ Ran (owner_at z.ticks.0) k) ↔
      ((k < t.ntasks) × (0 < waiting_at z k) × (partition_at t k ≡ owner_at z.ticks.0) ×
      ((j : ℕ) → j < t.ntasks → 0 < waiting_at z j → partition_at t j ≡ owner_at z.ticks.0 →
      frame_priority_at t j ≤ frame_priority_at t k))
  -- "a slot whose partition has no waiting job is `empty`"
  pub empty :
      (a.turn ≡ Empty (owner_at z.ticks.0)) ↔
      ((j : ℕ) → j < t.ntasks → partition_at t j ≡ owner_at z.ticks.0 → 0 < waiting_at z j → ⊥)
  -- there is no third thing to say
  pub either : (a.turn ≡ Empty (owner_at z.ticks.0)) ⊎ ((k : ℕ) × (a.turn ≡ Ran (owner_at z.ticks.0) k))

abbrev pub EachTick : Type 0
EachTick =
    (r : FrameRun) (mark : Bool) (a : TickAnswer) → FrameSized r.table → (tick_of r mark).answer ≡ Ticked a →
    SaysSo r.table (settle r.table r.state mark r.state.last).state a

-- "Mark 1: that job leaves, finished." "a job reaching its limit is cut": mark 0, and its run count
-- equals its limit. Else nobody leaves.
abbrev pub EachLeaving : Type 0
EachLeaving =
    (r : FrameRun) (mark : Bool) (a : TickAnswer) → (tick_of r mark).answer ≡ Ticked a → (k : ℕ) →
    ((a.left ≡ Done k) ↔ ((mark ≡ true) × (r.state.last ≡ Some k))) ×
    ((a.left ≡ Cut k) ↔
    ((mark ≡ false) × (r.state.last ≡ Some k) × (runs_at r.state k ≡ frame_limit_at r.table k)))

-- "jobs released = finished + cut + waiting", from a fresh start, counted from the answers given: in all,
-- and of each task
abbrev pub FrameJobs : Type 0
FrameJobs =
    (t : FrameTable) (es : List Event) → FrameSized t → frame_table_keeps t ≡ true →
    (released_in (answers_in frame_box (fresh_frame t) es)
    ≡ finished_in (answers_in frame_box (fresh_frame t) es) + cut_in (answers_in frame_box (fresh_frame t) es) +
    sum_below t.ntasks (waiting_at (after_in frame_box (fresh_frame t) es).state))
    × ((k : ℕ) → k < t.ntasks →
    released_of k (answers_in frame_box (fresh_frame t) es)
    ≡ finished_of k (answers_in frame_box (fresh_frame t) es) + cut_of k (answers_in frame_box (fresh_frame t) es) +
    waiting_at (after_in frame_box (fresh_frame t) es).state k)

-- "Refusals: 6, 8, 9, 10 and 13 keep their order": each exactly in its case, those before it having held
abbrev pub NoJobRan : FrameRun → Bool → Type 0
NoJobRan r mark = (mark ≡ true) × (r.state.last ≡ None)

pub record ReleaseAnswered (r : FrameRun) (k : ℕ) : Type 0 where
  pub no_13 : (no_of (release_of r k).answer ≡ 13) ↔ (frame_sound r ≡ false)
  pub no_6 : (no_of (release_of r k).answer ≡ 6) ↔ ((frame_sound r ≡ true) × (r.table.ntasks ≤ k))
  pub no_8 : (no_of (release_of r k).answer ≡ 8) ↔
      ((frame_sound r ≡ true) × (k < r.table.ntasks) × (waiting_at r.state k ≡ 16))
  pub no_10 : (no_of (release_of r k).answer ≡ 10) ↔
      ((frame_sound r ≡ true) × (k < r.table.ntasks) × (waiting_at r.state k < 16) × (r.state.accepted ≡ 4000000000))
  pub taken : ((release_of r k).answer ≡ Released k) ↔
      ((frame_sound r ≡ true) × (k < r.table.ntasks) × (waiting_at r.state k < 16) × (r.state.accepted < 4000000000))

pub record TickAnswered (r : FrameRun) (mark : Bool) : Type 0 where
  pub no_13 : (no_of (tick_of r mark).answer ≡ 13) ↔ (frame_sound r ≡ false)
  pub no_9 : (no_of (tick_of r mark).answer ≡ 9) ↔ ((frame_sound r ≡ true) × NoJobRan r mark)
  pub no_10 : (no_of (tick_of r mark).answer ≡ 10) ↔
      ((frame_sound r ≡ true) × (NoJobRan r mark → ⊥) × (r.state.ticks.0 ≡ 4000000000))
  pub taken : (no_of (tick_of r mark).answer ≡ 0) ↔
      ((frame_sound r ≡ true) × (NoJobRan r mark → ⊥) × (r.state.ticks.0 < 4000000000))

abbrev pub FrameRefusals : Type 0
FrameRefusals =
    ((t : FrameTable) → (starting_number (start_of t).answer ≡ 13) ↔ (frame_table_keeps t ≡ false)) ×
    ((r : FrameRun) (k : ℕ) → ReleaseAnswered r k) ×
    ((r : FrameRun) (mark : Bool) → TickAnswered r mark)

-- A refused event takes no tick and changes nothing.
abbrev pub FrameAsItWas : Type 0
FrameAsItWas =
    (r : FrameRun) (e : Event) (why : Refusal) → (event_of r e).answer ≡ No why → (event_of r e).run ≡ r

-- From the text: one that is read gives a table with which a box starts, and every run that it reaches
-- is sound; a refused one hands back no table.
abbrev pub FrameFromTheText : Type 0
FrameFromTheText =
    (text : List ℕ) →
    (reading_number (frame_shown (frame_read text)).answer ≡ 0 →
    (frame_table_keeps (frame_shown (frame_read text)).table ≡ true) ×
    (starting_number (start_of (frame_shown (frame_read text)).table).answer ≡ 0) ×
    ((es : List Event) → frame_sound (after_in frame_box (start_of (frame_shown (frame_read text)).table).run es) ≡ true)) ×
    ((reading_number (frame_shown (frame_read text)).answer ≡ 0 → ⊥) → (frame_shown (frame_read text)).table ≡ no_frame_table)

-- What `reader::read_frame` hands back, the table or why there is none, says this and no more.
abbrev pub FrameHandedBack : Type 0
FrameHandedBack = (text : List ℕ) → HandsBack (frame_shown (frame_read text))

-- "Each is given exactly in its case": what is read from a text is what its case says, 1 and 2 with line
-- and field, 5 with both lines. (The cases are in crate frametable, specs/Exactly.antt.)
abbrev pub FrameReadExactly : Type 0
FrameReadExactly = (text : List ℕ) (r : ReadOf FrameRows) → (frame_read text ≡ r) ↔ FrameCase text r
