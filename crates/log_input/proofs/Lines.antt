-- Laws of a line that is read in pieces: the next one in what is read, one that a read went on with, and that both stand within the text.
-- Assumes nothing.
use mathlib.Core.Path.{◌≡◌, refl, sym, ◌∙◌}
use mathlib.Core.Bool.{Bool, true, false, cond, true≢false}
use mathlib.Core.List.{List}
use Prim.Native.Nat.{ℕ, ◌+◌, ◌-◌, ◌≤◌, ◌<◌}
use native.Mathlib.Omega.{arith}
use lib.Dec.{eqb, ltb}
use lib.ListN.{length, take}
use borrow.Author.Tests.{ltb-true, ltb-false, lt-ltb, le-ltb, le-leb, lt-leb, eq-eqb, ne_eqb}
use Rattle.laws.proofs.Parts.{front_count}
use Rattle.lines.proofs.Lines.{end_from, end_within}
use Rattle.log_text.specs.Unfinished.{unfinished}
use Rattle.log_text.proofs.Kept.{kept_length}
use Rattle.log_input.specs.declared.Line.{Line}
use Rattle.log_input.specs.Line.{Stands, nothing_left, kept_line, line_in, following, settled, text_settled, line_after, text_after, last_line, text_ended, line_with, text_with, line_read, text_read, goes_on, outside, line_now, text_now}

module _ (text : List ℕ) where
  -- ---- within the text

  -- a line that stands there
  abbrev In : Line → Type 0
  In line = Stands line (length text)

  none_stands : In nothing_left
  none_stands = record { starts = omega arith; ends = omega arith; fits = omega arith }

  in_stands : (from seen end : ℕ) (over : Bool) → from ≤ seen → seen ≤ end → end ≤ length text → In (line_in text from seen end over)
  unfolding line_in
  in_stands from seen end over first last fits =
      record {
        starts = omega (arith, first, end_from (take end text) seen);
        ends = omega (arith, end_within (take end text) seen (omega (arith, last, cut)), cut);
        fits = fits;
      }
    where
      cut : end ≡ length (take end text)
      cut = front_count end text fits

  -- a whole line that follows
  following_stands : (line : Line) → line.end ≤ length text → (following line text).to < (following line text).end → In (following line text)
  unfolding following
  following_stands line fits = go (ltb line.to line.end) refl
    where
      next : Bool → Line
      next t = cond t (line_in text (line.to + 1) (line.to + 1) line.end line.over) line

      go : (t : Bool) → ltb line.to line.end ≡ t → (next t).to < (next t).end → In (next t)
      go true e whole = in_stands (line.to + 1) (line.to + 1) line.end line.over (omega arith) (omega (arith, ltb-true line.to line.end e)) fits
      go false e whole = absurd (omega (arith, ltb-false line.to line.end e, whole))

  -- a line that is at the front now, or was whole before
  settled_stands : (line : Line) → (line.to < line.end → In line) → In (settled line text)
  unfolding settled
  settled_stands line whole = go (ltb line.to line.end) refl line.over
    where
      kept : ℕ
      kept = length (unfinished text line.from line.end)

      go : (t : Bool) → ltb line.to line.end ≡ t → (over : Bool) → In (cond t line (cond over nothing_left (kept_line kept)))
      go true e over = whole (ltb-true line.to line.end e)
      go false e true = none_stands
      go false e false = record { starts = omega arith; ends = omega arith; fits = omega (arith, kept_length text line.from line.end) }

  last_stands : (kept : ℕ) → kept < length text → In (last_line kept)
  unfolding last_line
  last_stands kept room = go (eqb kept 0)
    where
      go : (t : Bool) → In (cond t nothing_left (record { from = 0; to = kept; end = kept + 1; over = true }))
      go true = none_stands
      go false = record { starts = omega arith; ends = omega arith; fits = omega (arith, room) }

  -- ---- the next line in what is read

  module _ (line : Line) where
    -- it, and the text then
    abbrev After : Line → List ℕ → Type 0
    After next text' = (next ≡ line_after line text) × ((text' ≡ text_after line text) × Stands next (length text'))

    pub after_none : {next : Line} → length text < line.end → next ≡ nothing_left → After next text
    unfolding line_after text_after
    after_none out e = rw (lt-ltb (length text) line.end out, e) (refl, (refl, none_stands))

    pub after_settled : {second next : Line} {text' : List ℕ} → line.end ≤ length text → second ≡ following line text
        → (next ≡ settled second text) × (text' ≡ text_settled second text) → length text' ≡ length text → After next text'
    unfolding line_after text_after
    after_settled within e told long =
        rw (le-ltb (length text) line.end within, ← e, long, told.0) (refl, (told.1, rw e (settled_stands (following line text) (following_stands line within))))

  -- ---- a line that a read went on with

  module _ (kept count : ℕ) where
    -- it, and the text then
    abbrev pub Read : Line → List ℕ → Type 0
    Read next text' = (next ≡ line_read kept count text) × ((text' ≡ text_read kept count text) × Stands next (length text'))

    pub read_full : {next : Line} → length text ≤ kept → next ≡ nothing_left → Read next text
    unfolding line_read text_read
    read_full full e = rw (le-leb (length text) kept full, e) (refl, (refl, none_stands))

    module _ (room : kept < length text) where
      pub read_beyond : {next : Line} → length text - kept < count → next ≡ nothing_left → Read next text
      unfolding line_read text_read
      read_beyond beyond e = rw (lt-leb (length text) kept room, lt-ltb (length text - kept) count beyond, e) (refl, (refl, none_stands))

      module _ (fits : count ≤ length text - kept) where
        pub read_last : {next : Line} {text' : List ℕ} → count ≡ 0 → (next ≡ last_line kept) × (text' ≡ text_ended kept text) → length text' ≡ length text → Read next text'
        unfolding line_read text_read line_with text_with
        read_last none made long =
            rw (lt-leb (length text) kept room, le-ltb (length text - kept) count fits, eq-eqb count 0 none, long, made.0) (refl, (made.1, last_stands kept room))

        pub read_some : {next : Line} → (count ≡ 0 → ⊥) → next ≡ line_in text 0 kept (kept + count) false → Read next text
        unfolding line_read text_read line_with text_with
        read_some some e =
            rw (lt-leb (length text) kept room, le-ltb (length text - kept) count fits, ne_eqb count 0 some, e)
            (refl, (refl, in_stands 0 kept (kept + count) false (omega arith) (omega arith) (omega (arith, room, fits))))

  -- ---- the line with what a read brought

  inside_stands : (line : Line) → outside line (length text) ≡ false → In line
  unfolding outside
  inside_stands line = go (ltb line.to line.from) refl (ltb line.end line.to) refl
    where
      go : (t : Bool) → ltb line.to line.from ≡ t → (u : Bool) → ltb line.end line.to ≡ u → cond t true (cond u true (ltb (length text) line.end)) ≡ false → In line
      go true e u f h = absurd (true≢false h)
      go false e true f h = absurd (true≢false h)
      go false e false f h =
          record {
            starts = ltb-false line.to line.from e;
            ends = ltb-false line.end line.to f;
            fits = ltb-false (length text) line.end h;
          }

  module _ (line : Line) (count : ℕ) {out : Bool} (told : out ≡ outside line (length text)) where
    -- it, and the text then
    abbrev Now : Line → List ℕ → Type 0
    Now next text' = (next ≡ line_now line count text) × ((text' ≡ text_now line count text) × Stands next (length text'))

    pub now_none : {next : Line} → out ≡ true → next ≡ nothing_left → Now next text
    unfolding line_now text_now
    now_none o e = rw (← told, o, e) (refl, (refl, none_stands))

    module _ (in_text : out ≡ false) {on : Bool} (goes : on ≡ goes_on line) where
      pub now_read : on ≡ true → {next : Line} {text' : List ℕ} → Read line.end count next text' → Now next text'
      unfolding line_now text_now
      now_read o read = rw (← told, in_text, ← goes, o) read

      pub now_same : on ≡ false → Now line text
      unfolding line_now text_now
      now_same o = rw (← told, in_text, ← goes, o) (refl, (refl, inside_stands line (sym told ∙ in_text)))
