-- Laws of rooms that change their form one after another (`rooms_changed`), and of the number that a change is refused with.
-- Assumes nothing.
use mathlib.Core.Path.{◌≡◌, refl, sym, ◌∙◌, ap, ap₂}
use mathlib.Core.Bool.{Bool, true, false, not}
use mathlib.Core.List.{List, [], ◌++◌}
use Prim.Native.Nat.{ℕ, zero, suc, ◌+◌, ◌-◌, ◌*◌, ◌/◌, ◌≤◌, ◌<◌}
use native.Mathlib.Nat.{div-lt_iff_lt-mul, le-div_iff_mul-le}
use native.Mathlib.Omega.{arith}
use lib.ListN.{length, take, drop, length-drop, take-append-drop}
use lib.Seq.{length-take-le, drop-drop}
use borrow.Author.Tests.{eq-eqb, ne_eqb, lt-ltb, le-ltb, ltb-false}
use borrow.Rule.Slice.PartMut.{put_mid}
use Rattle.laws.proofs.Writing.{Writing, start, same, push_part}
use Rattle.slots.specs.declared.State.{State}
use Rattle.packing.specs.Store.{bytes_a_block}
use Rattle.refusals.proofs.Refusals.{passed, listed}
use Rattle.packing.specs.Change.{bad_blocks, blocks_rule, bytes_rule, change_number}
use Rattle.packing.proofs.Rooms.{in_range, refused_13, refused_5, refused_5_too, accepted}
use Rattle.forms.specs.Change.{room_in, room_changed, rooms_changed, rooms_number}
use Rattle.form_changes.specs.Change.{form_number}

-- ---- the loop over the rooms

-- a room more
one_less : (left a : ℕ) → 0 < left → left * a ≡ a + (left - 1) * a
one_less zero a h = absurd (omega arith)
one_less (suc k) a h = let e : suc k - 1 ≡ k = omega arith in rw e (omega arith)

turn : (four : Bool) (m left : ℕ) (from to : List ℕ) → 0 < left
    → rooms_changed four m left from to
    ≡ room_changed four m (take (room_in (not four) m) from) (take (room_in four m) to)
    ++ rooms_changed four m (left - 1) (drop (room_in (not four) m) from) (drop (room_in four m) to)
unfolding rooms_changed
turn four m zero from to h = absurd (omega arith)
turn four m (suc k) from to h =
    let e : k ≡ suc k - 1 = omega arith in
    ap (λ (l : ℕ). room_changed four m (take (room_in (not four) m) from) (take (room_in four m) to) ++ rooms_changed four m l (drop (room_in (not four) m) from) (drop (room_in four m) to)) e

-- of n rooms `left` are left, i bytes were read and j written; a room has a bytes in the one form and b in the other
pub record Changing (four : Bool) (m n : ℕ) (from to₀ : List ℕ) (a b : ℕ) (to : List ℕ) (left i j : ℕ) : Type 0 where
  pub reads : a ≡ room_in (not four) m
  pub writes : b ≡ room_in four m
  pub read : i + left * a ≡ n * a
  pub wrote : j + left * b ≡ n * b
  pub written : Writing to₀ to j (rooms_changed four m left (drop i from) (drop j to₀)) (rooms_changed four m n from to₀)

pub begin : (four : Bool) (m n left : ℕ) (from to₀ : List ℕ) {a b : ℕ} → left ≡ n → a ≡ room_in (not four) m → b ≡ room_in four m → Changing four m n from to₀ a b to₀ left 0 0
begin four m n left from to₀ e ra rb = rw e (record { reads = ra; writes = rb; read = omega arith; wrote = omega arith; written = start })

module _ {four : Bool} {m n : ℕ} {from to₀ : List ℕ} {a b : ℕ} {to : List ℕ} {left i j : ℕ} (c : Changing four m n from to₀ a b to left i j) where
  pub from_fits : 0 < left → n * room_in (not four) m ≤ length from → i + a ≤ length from
  from_fits h g =
      let g' : n * a ≤ length from = rw c.reads g in
      omega (arith, one_less left a h, c.read)

  pub to_fits : 0 < left → n * room_in four m ≤ length to₀ → j + b ≤ length to
  to_fits h g =
      let g' : n * b ≤ length to₀ = rw c.writes g in
      omega (arith, one_less left b h, c.wrote, c.written.long)

  pub next : 0 < left → n * room_in four m ≤ length to₀ → {part : List ℕ}
      → part ≡ room_changed four m (take (i + a - i) (drop i from)) (take (j + b - j) (drop j to)) → length part ≡ length (take (j + b - j) (drop j to))
      → Changing four m n from to₀ a b (put_mid j (j + b - j) to part) (left - 1) (i + a) (j + b)
  next h g e long = record {
    reads = c.reads;
    writes = c.writes;
    read = omega (arith, one_less left a h, c.read);
    wrote = omega (arith, one_less left b h, c.wrote);
    written = push_part (e ∙ ap₂ (room_changed four m) (ap (λ (k : ℕ). take k (drop i from)) back_a) (ap₂ (λ (k : ℕ) (l : List ℕ). take k l) back_b c.written.rest)) (omega arith) (to_fits h g) (long ∙ part_long) (same coming c.written);
  }
    where
      back_a : i + a - i ≡ room_in (not four) m
      back_a = let e : i + a - i ≡ a = omega arith in e ∙ c.reads

      back_b : j + b - j ≡ room_in four m
      back_b = let e : j + b - j ≡ b = omega arith in e ∙ c.writes

      part_long : length (take (j + b - j) (drop j to)) ≡ j + b - j
      part_long = length-take-le (j + b - j) (drop j to) (rw (length-drop j to) (omega (arith, to_fits h g)))

      after : (k l : ℕ) (xs : List ℕ) {r : ℕ} → l ≡ r → drop r (drop k xs) ≡ drop (k + l) xs
      after k l xs q = rw (← q) (drop-drop l k xs)

      coming : rooms_changed four m left (drop i from) (drop j to₀)
          ≡ room_changed four m (take (room_in (not four) m) (drop i from)) (take (room_in four m) (drop j to₀))
          ++ rooms_changed four m (left - 1) (drop (i + a) from) (drop (j + b) to₀)
      coming =
          turn four m left (drop i from) (drop j to₀) h
          ∙ ap₂ (λ (x y : List ℕ). room_changed four m (take (room_in (not four) m) (drop i from)) (take (room_in four m) (drop j to₀)) ++ rooms_changed four m (left - 1) x y) (after i a from c.reads) (after j b to₀ c.writes)

  pub done : left ≡ 0 → to ≡ rooms_changed four m n from to₀
  unfolding rooms_changed
  done z =
      let told : take j to ++ drop j to₀ ≡ rooms_changed four m n from to₀ = rw z at c.written.told in
      sym (take-append-drop j to) ∙ ap (λ (l : List ℕ). take j to ++ l) c.written.rest ∙ told

-- ---- the number of a change

module _ (state : State) (plain packed : ℕ) where
  -- what number 0 tells
  pub rooms_fit : form_number state plain packed ≡ 0
      → (state.blocks ≤ 5) × ((state.slots * room_in false state.blocks ≤ plain) × (state.slots * room_in true state.blocks ≤ packed))
  unfolding form_number rooms_number change_number
  rooms_fit h =
      let clear = passed _ refl h tt in (
        (in_range state.blocks (clear (blocks_rule state.blocks) (search listed))).1,
        (
          ltb-false plain _ (clear (bytes_rule (state.slots * room_in false state.blocks) plain) (search listed)),
          ltb-false packed _ (clear (bytes_rule (state.slots * room_in true state.blocks) packed) (search listed)),
        ),
      )

  bad_number : bad_blocks state.blocks ≡ true → 13 ≡ form_number state plain packed
  unfolding form_number rooms_number
  bad_number e = (refused_13 _ _ _ _ _ [] [] e).0

  pub none_number : state.blocks ≡ 0 → 13 ≡ form_number state plain packed
  unfolding bad_blocks
  none_number e = bad_number (simp (eq-eqb _ _ e))

  pub many_number : 5 < state.blocks → 13 ≡ form_number state plain packed
  unfolding bad_blocks
  many_number h = bad_number (simp (ne_eqb state.blocks 0 (λ z. omega arith), lt-ltb 5 state.blocks h))

  module _ (some : state.blocks ≡ 0 → ⊥) (few : state.blocks ≤ 5) where
    good : bad_blocks state.blocks ≡ false
    unfolding bad_blocks
    good = simp (ne_eqb _ 0 some, le-ltb 5 state.blocks few)

    long : 0 < state.blocks * 18528
    long = omega arith

    short : 0 < state.blocks * 4632
    short = omega arith

    pub plain_short : plain / (state.blocks * 18528) < state.slots → 5 ≡ form_number state plain packed
    unfolding form_number rooms_number room_in bytes_a_block
    plain_short h = (refused_5 _ _ _ _ _ [] [] good ((div-lt_iff_lt-mul {k = state.blocks * 18528} long).0 h)).0

    module _ (enough : state.slots ≤ plain / (state.blocks * 18528)) where
      pub packed_short : packed / (state.blocks * 4632) < state.slots → 5 ≡ form_number state plain packed
      unfolding form_number rooms_number room_in bytes_a_block
      packed_short h =
          (refused_5_too _ _ _ _ _ [] [] good ((le-div_iff_mul-le {k = state.blocks * 18528} long).0 enough) ((div-lt_iff_lt-mul {k = state.blocks * 4632} short).0 h)).0

      pub both_fit : state.slots ≤ packed / (state.blocks * 4632) → 0 ≡ form_number state plain packed
      unfolding form_number rooms_number room_in bytes_a_block
      both_fit h =
          (accepted _ _ _ _ _ [] [] good ((le-div_iff_mul-le {k = state.blocks * 18528} long).0 enough) ((le-div_iff_mul-le {k = state.blocks * 4632} short).0 h) refl).0
