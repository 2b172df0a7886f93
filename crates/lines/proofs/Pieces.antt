-- An event file piece by piece, answered by any box: what stands after each batch of a piece, and
-- that the pieces of a file together are answered as the whole file is. Assumes nothing.
use Rattle.std.proofs.Common.{Option, Ok}
use mathlib.Core.Path.{◌≡◌, refl, sym, ap, subst, ◌∙◌}
use mathlib.Core.Bool.{true, ◌||◌}
use mathlib.Core.List.{List, [], ◌∷◌, ◌++◌, append-nil, append_assoc}
use Prim.Native.Nat.{ℕ, zero, suc, ◌+◌, ◌*◌, ◌-◌, ◌≤◌, ◌<◌, min}
use native.Mathlib.Omega.{arith}
use lib.Dec.{eqb, leb}
use lib.ListN.{length, take, drop, length-append, length-drop}
use lib.Seq.{length-take-le, take_all, take-add, take-append-le, take-append-add}
use borrow.Author.Tests.{le-leb}
use Rattle.laws.proofs.Choice.{if_ind}
use Rattle.decimal.specs.Lines.{line_feed, closed}
use Rattle.text.specs.Standing.{is_nil}
use Rattle.events.specs.Boxes.{Box, after_lines_in}
use Rattle.lines.specs.declared.Held.{Held}
use Rattle.lines.specs.HeldLine.{line_in, held_of}
use Rattle.lines.specs.Cutting.{lines_in, left_in, last_line, taken_for, cutting}
use Rattle.lines.specs.Print.{longest_answer}
use Rattle.lines.specs.EventLine.{event_lines}
use Rattle.lines.specs.Night.{answer_lines_in, night_lines}
use Rattle.lines.specs.declared.Served.{Served}
use Rattle.lines.specs.Serving.{batch, lines_at_once, Service, service_in, served_from, serve_in}
use Rattle.lines.specs.Pieces.{piece_in, last_text, written_in, joined, Ready}
use Rattle.lines.proofs.Cutting.{taken_within}
use Rattle.lines.proofs.HeldLine.{held_again}
use Rattle.lines.proofs.Answered.{AnsweredBy, answered_none, answered_join, answered_more, answered_file}
use Rattle.events.specs.declared.Event.{Event}
use Rattle.text.specs.TableText.{Reading}

-- of some bytes, room for n lines takes n at least
taken_enough : (n k : ℕ) (bs : List ℕ) → n ≤ k → n ≤ length bs → n ≤ taken_for k bs
unfolding taken_for
taken_enough zero k bs h l = omega arith
taken_enough (suc n) zero bs h l = absurd (omega arith)
taken_enough (suc n) (suc k) [] h l = absurd (omega arith)
taken_enough (suc n) (suc k) (b ∷ bs) h l =
    if_ind (λ m. suc n ≤ suc m) (eqb b line_feed)
    (λ e. omega (arith, taken_enough n k bs (omega arith) (omega arith)))
    (λ e. omega (arith, taken_enough n (suc k) bs (omega arith) (omega arith)))

-- Before byte `at` of a piece: the bytes before it are answered at the front of the room, whose
-- length is `lent`.
pub record Going {S : Type 0} (b : Box S) (s : S) (h : Held) (bytes : List ℕ) (lent at put : ℕ) (room : List ℕ)
    (z : S) (k : Held) : Type 0 where
  pub within : at ≤ length bytes
  pub few : put ≤ at * 140
  pub fits : length bytes * 140 ≤ lent
  pub long : length room ≡ lent
  pub ready : Ready b z k
  pub by : AnsweredBy b s h (take at bytes) (take put room) z k

module _ {S : Type 0} (b : Box S) where
  -- room for the answers to m lines takes m lines
  serve_first : (z : S) (k : Held) (bytes room : List ℕ) (m : ℕ) → b.sound z ≡ true → 0 < m →
      m ≤ 1024 → length room ≡ m * 140 →
      serve_in b z k bytes room ≡ served_from b z (cutting m (line_in k) bytes) room
  unfolding serve_in longest_answer batch
  serve_first z k bytes room m q some few long =
      let most : lines_at_once (length room) ≡ m = omega (arith, long) in
      rw (q, le-leb 140 (length room) (omega arith), most)

  -- what a buffer leaves is sound where what lines leave is
  pub served_sound : (s : S) (h : Held) (bytes room : List ℕ) → b.sound s ≡ true →
      ((ls : List (Option Event)) → b.sound (after_lines_in b s ls) ≡ true) → b.sound (serve_in b s h bytes room).run ≡ true
  unfolding serve_in
  served_sound s h bytes room q keeps =
      let Sound = λ (d : Service S). b.sound d.run ≡ true in
      if_ind Sound (b.sound s)
      (λ e. if_ind Sound (leb longest_answer (length room) || is_nil bytes) (λ f. keeps _) (λ f. q)) (λ e. q)

  module _ (s : S) (h : Held) (bytes : List ℕ) where
    pub going_start : (room : List ℕ) → length bytes * 140 ≤ length room → Ready b s h →
        Going b s h bytes (length room) 0 0 room s h
    going_start room l r =
        record {
          within = omega arith;
          few = omega arith;
          fits = l;
          long = refl;
          ready = r;
          by = answered_none b s h;
        }

    -- a batch more: the part of the room that was lent for it is left with its answers
    pub going_next : (lent at put : ℕ) (room : List ℕ) (z : S) (k : Held) → Going b s h bytes lent at put room z k →
        at < length bytes → (m : ℕ) → m ≡ min 1024 (length bytes - at) →
        (end : ℕ) → end ≡ put + m * 140 → (d : Service S) →
        length d.room ≡ length (take (end - put) (drop put room)) →
        (b.sound z ≡ true → b.sound d.run ≡ true) →
        d ≡ serve_in b z k (take (length bytes - at) (drop at bytes)) (take (end - put) (drop put room)) →
        (0 < d.eaten) ×
        Going b s h bytes lent (at + d.eaten) (put + d.put)
        (take put room ++ (d.room ++ drop (end - put) (drop put room)))
        d.run d.held
    unfolding cutting
    going_next lent at put room z k g more m most end ends d l kept e =
        let rest = take (length bytes - at) (drop at bytes) in
        let part = take (end - put) (drop put room) in
        let one : rest ≡ drop at bytes =
        take_all (length bytes - at) (drop at bytes) (omega (arith, length-drop at bytes)) in
        let fits : end ≤ length room = omega (arith, g.few, g.fits, g.long) in
        let size : length part ≡ m * 140 =
        length-take-le (end - put) (drop put room) (omega (arith, length-drop put room)) ∙
        omega arith in
        let first : d ≡ served_from b z (cutting m (line_in k) rest) part =
        e ∙ serve_first z k rest part m g.ready.sound (omega arith) (omega arith) size in
        let eats : d.eaten ≡ taken_for m rest = ap (λ (x : Service S). x.eaten) first in
        let there : length rest ≡ length bytes - at = ap length one ∙ length-drop at bytes in
        let line = closed (answer_lines_in b z (lines_in (line_in k) (take (taken_for m rest) rest))) in
        let puts : d.put ≡ length line = ap (λ (x : Service S). x.put) first in
        let leaves : d.room ≡ line ++ drop (length line) part = ap (λ (x : Service S). x.room) first in
        let inside : d.put ≤ length d.room =
        omega (arith, ap length leaves, length-append line (drop (length line) part), puts) in
        let after = drop (end - put) (drop put room) in
        let cut : length (take put room) ≡ put =
        length-take-le put room (omega (arith, g.few, g.fits, g.long, g.within)) in
        let texts : take (put + d.put) (take put room ++ (d.room ++ after))
        ≡ take put room ++ take d.put d.room =
        ap (λ n. take (n + d.put) (take put room ++ (d.room ++ after))) (sym cut) ∙
        take-append-add (take put room) (d.room ++ after) d.put ∙
        ap (λ x. take put room ++ x) (take-append-le d.put d.room after inside) in
        let enough = taken_enough m m rest (omega arith) (omega (arith, there)) in (
          omega (arith, eats, enough),
          record {
            within = omega (arith, eats, taken_within m rest, there, g.within);
            few = omega (arith, eats, enough, inside, l, size, g.few);
            fits = g.fits;
            long =
                omega (
                  arith,
                  length-append (take put room) (d.room ++ after),
                  length-append d.room after,
                  cut,
                  l,
                  size,
                  ends,
                  fits,
                  g.long,
                  length-drop (end - put) (drop put room),
                  length-drop put room,
                );
            ready =
                record {
                  sound = kept g.ready.sound;
                  held =
                      rw (ap (λ (x : Service S). x.held) first)
                      (sym (held_again (left_in (line_in k) (take (taken_for m rest) rest))));
                };
            by =
                rw (take-add at d.eaten bytes, ← one, texts)
                (subst
                (λ (x : Service S).
                AnsweredBy b s h (take at bytes ++ take x.eaten rest)
                (take put room ++ take x.put x.room)
                x.run x.held)
                (sym e) (answered_more b s h (take at bytes) (take put room) z k g.by rest part));
          },
        )

    -- the same of what code hands back
    pub going_on : {lent at put : ℕ} {room : List ℕ} {z : S} {k : Held} → Going b s h bytes lent at put room z k →
        at < length bytes → {m : ℕ} → m ≡ min 1024 (length bytes - at) → (x : Served S) (left : List ℕ) →
        length left ≡ length (take (put + m * 140 - put) (drop put room)) →
        (b.sound z ≡ true → b.sound x.run ≡ true) →
        service_in x left
        ≡ serve_in b z k (take (length bytes - at) (drop at bytes)) (take (put + m * 140 - put) (drop put room)) →
        (0 < x.eaten) ×
        Going b s h bytes lent (at + x.eaten) (put + x.put)
        (take put room ++ (left ++ drop (put + m * 140 - put) (drop put room)))
        x.run x.held
    going_on g more most x left l kept e = going_next _ _ _ _ _ _ g more _ most _ refl (service_in x left) l kept e

    -- all of the piece
    pub going_done : (lent at put : ℕ) (room : List ℕ) (z : S) (k : Held) → Going b s h bytes lent at put room z k →
        length bytes ≤ at →
        record { run = z; held = k; text = take put room; going = true } ≡ piece_in b s h bytes
    going_done lent at put room z k g l =
        let whole : take at bytes ≡ bytes = take_all at bytes l in
        let a = rw whole at g.by in
        rw (a.run, g.ready.held ∙ a.held, a.out)

  -- A file read in any pieces: what is written of all of them is what answers the file.
  last_written : (z : S) (l : List ℕ) → last_text l ≡ closed (answer_lines_in b z (last_line l))
  unfolding answer_lines_in closed
  last_written z [] = refl
  last_written z (c ∷ l) = refl

  written_from : (s : S) (bytes text : List ℕ) (z : S) (k : Held) →
      AnsweredBy b s (held_of []) bytes text z k → (ps : List (List ℕ)) →
      text ++ written_in b z k ps ≡ closed (answer_lines_in b s (event_lines (bytes ++ joined ps)))
  unfolding written_in joined
  written_from s bytes text z k a [] =
      ap (λ x. text ++ x) (last_written z (line_in k)) ∙ answered_file b s bytes text z k a ∙
      ap (λ x. closed (answer_lines_in b s (event_lines x))) (sym (append-nil bytes))
  written_from s bytes text z k a (p ∷ ps) =
      let d = piece_in b z k p in
      let one : AnsweredBy b z k p d.text d.run d.held =
      record { run = refl; held = held_again (left_in (line_in k) p); out = refl } in
      sym (append_assoc text d.text (written_in b d.run d.held ps)) ∙
      written_from s (bytes ++ p) (text ++ d.text) d.run d.held
      (answered_join b s (held_of []) bytes text z k a p d.text d.run d.held one) ps ∙
      ap (λ x. closed (answer_lines_in b s (event_lines x))) (append_assoc bytes p (joined ps))

  -- So from a table that was taken: the pieces together are the whole night.
  pub pieces_lines : (answer : Reading) (s : S) (ps : List (List ℕ)) → answer ≡ Ok tt →
      written_in b s (held_of []) ps ≡ closed (night_lines b answer s (event_lines (joined ps)))
  unfolding night_lines
  pieces_lines answer s ps e = rw e (written_from s [] [] s (held_of []) (answered_none b s (held_of [])) ps)
