-- Where a stream's places lie on the circle row by row, clause 5.1.4.1.1: as many rows below the heads of their columns as the matrix says. Stream 2's shift
-- never wraps, since the streams of a code block always have dummies before them.
-- Assumes nothing.
use mathlib.Core.Path.{◌≡◌, refl, sym, ◌∙◌, ap}
use mathlib.Core.Bool.{Bool, true, false, cond, ◌&&◌, and-eq-true_iff}
use mathlib.Core.List.{List, ◌++◌}
use Prim.Native.Nat.{ℕ, zero, suc, ◌+◌, ◌-◌, ◌*◌, ◌/◌, ◌%◌, ◌≤◌, ◌<◌}
use native.Mathlib.Omega.{arith}
use lib.Dec.{eqb, leb, ltb, eqb-suc-zero}
use lib.ListN.{length, get_or, drop}
use borrow.Author.Tests.{le-leb, lt-ltb, eq-eqb, ne_eqb, leb-true, ltb-true, eqb-true}
use Rattle.laws.specs.Lists.{tab_from}
use Rattle.laws.proofs.Tab.{tab_from_ext, tab_from_shift}
use Rattle.std.specs.declared.option.Option.{Option}
use Rattle.std.specs.declared.option.Option.TheVariants.{Some, None}
use Rattle.rate_matching.specs.declared.CirclePlace.{CirclePlace}
use Rattle.rate_matching.specs.declared.MatrixPlace.{MatrixPlace}
use Rattle.rate_matching.specs.SubBlocks.{rows, dummies}
use Rattle.rate_matching.specs.Circle.{circle_length}
use Rattle.rate_matching.specs.Places.{place_number, place_of, longest}
use Rattle.rate_matching.specs.Matrix.{length_within, heads_of, heads_within, row_step, written_at, matrix_within}
use Rattle.rate_matching.proofs.Places.{dummies_add, place_lt, place_on_circle}
use Rattle.rate_matching.proofs.Matrix.{dummies_some, written_is, place_by_lem, head_at}
use Rattle.slots.specs.State.{per_block}
use Rattle.slots.specs.Circle.{kept_on, streams_on}
use Rattle.kept_bits.specs.Circle.{reach_of, readable, showable}
use Rattle.kept_bits.specs.inner.Rows.{place_by, kept_by, Along, Streams, Stretch}

-- what was found is what is there
pub found_is : {A : Type 0} (o : Option A) {x y : A} → o ≡ Some x → o ≡ Some y → x ≡ y
found_is o e f = cc

-- whether there is such a circle, and how long it is
pub circle_none : (D : ℕ) → length_within D ≡ None → leb D longest ≡ false
unfolding length_within
circle_none D e = go (leb D longest) refl e
  where
    go : (t : Bool) → leb D longest ≡ t → cond {A = Option ℕ} t (Some (circle_length (rows D))) None ≡ None → leb D longest ≡ false
    go true z f = cc
    go false z f = z

pub circle_some : (D : ℕ) {n : ℕ} → length_within D ≡ Some n → (D ≤ longest) × (n ≡ circle_length (rows D))
unfolding length_within
circle_some D {n} e = go (leb D longest) refl e
  where
    go : (t : Bool) → leb D longest ≡ t → cond t (Some (circle_length (rows D))) None ≡ Some n → (D ≤ longest) × (n ≡ circle_length (rows D))
    go true z f = (leb-true D longest z, cc)
    go false z f = absurd cc

-- where the columns of stream s begin
abbrev pub heads : ℕ → ℕ → List CirclePlace
heads D s = heads_of (rows D) s

module _ {D : ℕ} (w : Streams D) where
  no_whole_row : D % 32 ≡ 0 → ⊥
  no_whole_row e = omega (arith, w.bytes)

  -- places side by side in the stream are entries side by side
  pub written_on : (s i : ℕ) → s < 3 → written_at D (s, i) ≡ dummies D - s / 2 + i
  written_on s i u = omega (arith, written_is D s i, dummies_some D no_whole_row)

  pub written_most : (s i : ℕ) → i ≤ D → written_at D (s, i) ≤ 32 * rows D
  written_most s i h = omega (arith, written_is D s i, dummies_add D)

  pub entry_place : (s i : ℕ) → s < 3 → i < D → place_by (heads D s) (row_step s) (written_at D (s, i)) ≡ place_number D s i
  unfolding place_by
  entry_place s i u h = rw (head_at (rows D) s (written_at D (s, i) % 32) (omega arith)) (sym (place_by_lem D s i no_whole_row u h))

  -- the place of the matrix, and its entry
  pub matrix_some : (s i : ℕ) → s < 3 → i < D → matrix_within D (s, i) ≡ Some (record { row = written_at D (s, i) / 32; column = written_at D (s, i) % 32 })
  unfolding matrix_within
  matrix_some s i u h = simp (le-leb D longest w.most, ne_eqb (D % 32) 0 no_whole_row, le-leb s 2 (omega arith), lt-ltb i D h)

  pub matrix_there : (s i : ℕ) {m : MatrixPlace} → s < 3 → i < D → Some m ≡ matrix_within D (s, i) → (m.column < 32) × (32 * m.row + m.column ≡ written_at D (s, i))
  matrix_there s i {m} u h e = rw (found_is _ (sym e) (matrix_some s i u h)) (omega arith, omega arith)

  first_there : (i : ℕ) → i < D → place_number D 0 i < 32 * rows D
  unfolding place_number
  first_there i h = place_lt (rows D) (dummies D + i) (omega (arith, dummies_add D))

  pub place_there : (s i : ℕ) → s < 3 → i < D → place_number D s i < reach_of D s
  unfolding place_of reach_of
  place_there zero i u h = first_there i h
  place_there (suc s) i u h = rw (eqb-suc-zero s) (place_on_circle D (suc s, i) (record { stream = u; place = h }))

-- no stream reaches past a room for one code block
pub reach_most : {D : ℕ} (s : ℕ) → D ≤ longest → reach_of D s ≤ per_block
unfolding reach_of circle_length rows
reach_most {D} s h = either (eqb s 0)
  where
    either : (t : Bool) → cond t (32 * rows D) (circle_length (rows D)) ≤ per_block
    either true = omega arith
    either false = omega arith

-- nor past the reach of stream 2
pub reach_last : (D s : ℕ) → reach_of D s ≤ circle_length (rows D)
unfolding reach_of circle_length
reach_last D s = either (eqb s 0)
  where
    either : (t : Bool) → cond t (32 * rows D) (circle_length (rows D)) ≤ 96 * rows D
    either true = omega arith
    either false = omega arith

-- the entries of a stretch lie on the circle
pub along : {long D s i n : ℕ} → Stretch long D s i n → Along long (heads D s) (row_step s) (written_at D (s, i)) n
unfolding rows
along {long} {D} {s} {i} {n} w = record {
  most = omega (arith, written_on w.sized s i w.stream, w.within, dummies_add D, w.sized.most);
  places = λ k a b. let from = written_on w.sized s i w.stream in there k (omega (arith, from)) (omega (arith, from, w.within, w.begin)) (omega (arith, from));
}
  where
    there : (k : ℕ) → dummies D - s / 2 ≤ k → k - (dummies D - s / 2) < D → dummies D - s / 2 + (k - (dummies D - s / 2)) ≡ k → place_by (heads D s) (row_step s) k < long
    there k a b e =
        let j : ℕ = k - (dummies D - s / 2) in
        rw (← (written_on w.sized s j w.stream ∙ e), entry_place w.sized s j w.stream b) (omega (arith, place_there w.sized s j w.stream b, w.room))

-- what is read along them
pub kept_along : {long D s i n : ℕ} (circle : List ℕ) → Stretch long D s i n → tab_from (written_at D (s, i)) n (kept_by circle (heads D s) (row_step s)) ≡ tab_from i n (kept_on circle D s)
unfolding kept_by kept_on
kept_along {long} {D} {s} {i} {n} circle w =
    ap (λ (j : ℕ). tab_from j n (kept_by circle (heads D s) (row_step s))) (written_on w.sized s i w.stream)
    ∙ tab_from_shift (dummies D - s / 2) i n (kept_by circle (heads D s) (row_step s))
    ∙ tab_from_ext i n _ (kept_on circle D s)
    (λ k a b. ap (λ (j : ℕ). get_or circle j 0)
    (ap (place_by (heads D s) (row_step s)) (sym (written_on w.sized s k w.stream)) ∙ entry_place w.sized s k w.stream (omega (arith, w.within))))

-- the stream has them
pub heads_there : {long D s i n : ℕ} → Stretch long D s i n → heads_within D s ≡ Some (heads D s)
unfolding heads_within
heads_there {long} {D} {s} w = simp (le-leb D longest w.sized.most, lt-ltb 0 D (omega (arith, w.sized.least)), le-leb s 2 (omega (arith, w.stream)))

-- where stream 2 lies, so does each
pub any_stream : {long D s i n : ℕ} → Stretch long D 2 i n → s < 3 → Stretch long D s i n
unfolding reach_of
any_stream {long} {D} {s} w u = record { sized = w.sized; stream = u; begin = w.begin; within = w.within; room = omega (arith, reach_last D s, w.room) }

-- ---- the test of a stretch

pub readable_told : (long D s i n : ℕ) → readable long D (s, i) n ≡ true → Stretch long D s i n
unfolding readable
readable_told long D s i n t =
    let both = (and-eq-true_iff (leb D longest && ltb i D) (leb 44 D && eqb (D % 8) 4 && leb s 2 && leb n (D - i) && leb (reach_of D s) long)).0 t in
    let low = (and-eq-true_iff (leb D longest) (ltb i D)).0 both.0 in
    let a = (and-eq-true_iff (leb 44 D && eqb (D % 8) 4 && leb s 2 && leb n (D - i)) (leb (reach_of D s) long)).0 both.1 in
    let b = (and-eq-true_iff (leb 44 D && eqb (D % 8) 4 && leb s 2) (leb n (D - i))).0 a.0 in
    let c = (and-eq-true_iff (leb 44 D && eqb (D % 8) 4) (leb s 2)).0 b.0 in
    let d = (and-eq-true_iff (leb 44 D) (eqb (D % 8) 4)).0 c.0 in
    let begin = ltb-true i D low.1 in
    record {
      sized = record { least = leb-true 44 D d.0; most = leb-true D longest low.0; bytes = eqb-true (D % 8) 4 d.1 };
      stream = omega (arith, leb-true s 2 c.1);
      begin = begin;
      within = omega (arith, begin, leb-true n (D - i) b.1);
      room = leb-true (reach_of D s) long a.1;
    }

pub readable_is : {long D s i n : ℕ} → Stretch long D s i n → readable long D (s, i) n ≡ true
unfolding readable
readable_is {long} {D} {s} {i} {n} w =
    simp (
      le-leb D longest w.sized.most,
      lt-ltb i D w.begin,
      le-leb 44 D w.sized.least,
      eq-eqb (D % 8) 4 w.sized.bytes,
      le-leb s 2 (omega (arith, w.stream)),
      le-leb n (D - i) (omega (arith, w.within)),
      le-leb (reach_of D s) long w.room,
    )

-- a stretch is read, and so are all three streams
pub stream_read : (circle out : List ℕ) (D s i : ℕ) {out' : List ℕ} → out' ≡ cond (readable (length circle) D (s, i) (length out)) (tab_from i (length out) (kept_on circle D s)) out
    → Stretch (length circle) D s i (length out) → out' ≡ tab_from i (length out) (kept_on circle D s)
stream_read circle out D s i e w = e ∙ rw (readable_is w)

pub streams_shown : (circle out : List ℕ) (D F : ℕ) {out' : List ℕ} → out' ≡ cond (showable (length circle) D F (length out)) (streams_on circle D F ++ drop (3 * D) out) out
    → F ≤ D → 3 * D ≤ length out → Stretch (length circle) D 2 0 D → out' ≡ streams_on circle D F ++ drop (3 * D) out
unfolding showable
streams_shown circle out D F e low room w = e ∙ simp (readable_is w, le-leb F D low, le-leb D (length out / 3) (omega arith))
