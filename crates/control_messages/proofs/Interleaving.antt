-- The sub-block interleaver of clause 5.1.4.2.1 as it is worked out: the entries go out in the order of the columns, dummies left out, as many as went in.
-- Assumes nothing.
use mathlib.Core.Path.{◌≡◌, sym, ◌∙◌, ap}
use mathlib.Core.Logic.{◌⊎◌, inl, inr}
use mathlib.Core.Bool.{Bool}
use mathlib.Core.List.{List, [], ◌∷◌, ◌++◌, map}
use Prim.Native.Nat.{ℕ, ◌+◌, ◌-◌, ◌*◌, ◌%◌, ◌≤◌, ◌<◌}
use native.Mathlib.Nat.{add_assoc, mod-lt, mul-le-mul_right}
use native.Mathlib.Omega.{arith}
use lib.Arith.{digits_lt, digits_div, digits_mod}
use lib.Dec.{eqb, eqb→eq, lit<}
use lib.ListN.{length, get_or, drop, set, length-map}
use borrow.Author.Tests.{le-leb, lt-leb}
use Rattle.laws.specs.Bits.{bits_of}
use Rattle.laws.specs.inner.Computed.{all_below}
use Rattle.laws.specs.Lists.{tab, tab_from, keep}
use Rattle.laws.proofs.Computed.{all_below_at}
use Rattle.laws.proofs.Keep.{keep_yes, keep_no}
use Rattle.laws.proofs.Tab.{tab_rest, rest_more, rest_none}
use Rattle.laws.proofs.Writing as writing
use Rattle.laws.proofs.Writing.{Writing}
use Rattle.rate_matching.specs.Columns.{number_of, turned_round, column_table, column}
use Rattle.rate_matching.specs.SubBlocks.{rows, dummies}
use Rattle.rate_matching.proofs.Columns.{table_at, table_below}
use Rattle.rate_matching.proofs.Places.{dummies_add}
use Rattle.control_messages.specs.RateMatching.{control_column, read_control}
use Rattle.control_messages.specs.Working.{Sized, past_dummies, entry_at, in_columns}

-- ---- as many as went in

-- the y places that are read past the dummies, in their order
abbrev pub places_read : ℕ → List ℕ
places_read D = keep (past_dummies D) (tab (32 * rows D) (read_control (rows D)))

all_read : ℕ → Bool
all_read i = eqb (length (places_read (17 + i))) (17 + i)

pub length_places_read : {D : ℕ} → Sized D → length (places_read D) ≡ D
unfolding all_below all_read past_dummies tab tab_from keep rows dummies read_control control_column column turned_round number_of bits_of
length_places_read {D} z =
    let e : 17 + (D - 17) ≡ D = omega (arith, z.least) in
    ap (λ (n : ℕ). length (places_read n)) (sym e)
    ∙ eqb→eq (length (places_read (17 + (D - 17)))) (17 + (D - 17)) (all_below_at all_read 64 tt (D - 17) (omega (arith, z.least, z.most)))
    ∙ e

pub length_in_columns : {D : ℕ} (x : List ℕ) → Sized D → length (in_columns D x) ≡ D
unfolding in_columns
length_in_columns {D} x z = length-map (places_read D) (entry_at D x) ∙ length_places_read z

-- ---- the loop: n entries are out, and k of the places read are passed

pub record Taking (D : ℕ) (x taken₀ taken : List ℕ) (n k : ℕ) : Type 0 where
  pub within : k ≤ 32 * rows D
  pub few : n ≤ D
  pub room : length taken ≡ 80
  pub told : Writing taken₀ taken n (map (entry_at D x) (keep (past_dummies D) (tab_from k (32 * rows D - k) (read_control (rows D))))) (in_columns D x)

module _ {D : ℕ} {x taken₀ : List ℕ} (z : Sized D) where
  pub taking_start : length taken₀ ≡ 80 → Taking D x taken₀ taken₀ 0 0
  unfolding in_columns
  taking_start e = record {
    within = omega arith;
    few = omega arith;
    room = e;
    told = writing.same (ap (λ (l : List ℕ). map (entry_at D x) (keep (past_dummies D) l)) (sym (tab_rest (32 * rows D) (read_control (rows D))))) writing.start;
  }

  module _ {taken : List ℕ} {n k : ℕ} (h : k < 32 * rows D) (w : Taking D x taken₀ taken n k) where
    -- what is read at k
    abbrev pub y : ℕ
    y = read_control (rows D) k

    later : List ℕ
    later = map (entry_at D x) (keep (past_dummies D) (tab_from (k + 1) (32 * rows D - (k + 1)) (read_control (rows D))))

    to_come : map (entry_at D x) (keep (past_dummies D) (tab_from k (32 * rows D - k) (read_control (rows D))))
        ≡ map (entry_at D x) (keep (past_dummies D) (y ∷ tab_from (k + 1) (32 * rows D - (k + 1)) (read_control (rows D))))
    to_come = ap (λ (l : List ℕ). map (entry_at D x) (keep (past_dummies D) l)) (rest_more k (32 * rows D) (read_control (rows D)) h)

    -- a dummy is passed
    pub taking_dummy : y < dummies D → Taking D x taken₀ taken n (k + 1)
    unfolding past_dummies later
    taking_dummy l = record {
      within = omega arith;
      few = w.few;
      room = w.room;
      told = writing.same (to_come ∙ ap (map (entry_at D x)) (keep_no (past_dummies D) y _ (lt-leb (dummies D) y l))) w.told;
    }

    module _ (l : dummies D ≤ y) where
      ahead : Writing taken₀ taken n (entry_at D x y ∷ later) (in_columns D x)
      unfolding past_dummies later
      ahead = writing.same (to_come ∙ ap (map (entry_at D x)) (keep_yes (past_dummies D) y _ (le-leb (dummies D) y l))) w.told

      -- there is an entry still to come
      pub taking_room : n < D
      taking_room = omega (arith, writing.count (omega (arith, w.few, w.room, z.most)) ahead, length_in_columns x z)

      pub taking_next : {v : ℕ} → v ≡ entry_at D x y → Taking D x taken₀ (set taken n v) (n + 1) (k + 1)
      unfolding later
      taking_next {v} e = record {
        within = omega arith;
        few = omega (arith, taking_room);
        room = pushed.long ∙ sym w.told.long ∙ w.room;
        told = pushed;
      }
        where
          pushed : Writing taken₀ (set taken n v) (n + 1) later (in_columns D x)
          pushed = writing.push (omega (arith, taking_room, w.room, z.most)) (writing.same (ap (λ (u : ℕ). u ∷ later) (sym e)) ahead)

  pub taking_ends : {taken : List ℕ} {n k : ℕ} → 32 * rows D ≤ k → Taking D x taken₀ taken n k → taken ≡ in_columns D x ++ drop D taken₀
  unfolding keep
  taking_ends {taken} {n} {k} h w = writing.finish none w.told ∙ ap (λ (m : ℕ). in_columns D x ++ drop m taken₀) all
    where
      none : map (entry_at D x) (keep (past_dummies D) (tab_from k (32 * rows D - k) (read_control (rows D)))) ≡ []
      none = ap (λ (l : List ℕ). map (entry_at D x) (keep (past_dummies D) l)) (rest_none k (32 * rows D) (read_control (rows D)) h)

      all : n ≡ D
      all = omega (arith, writing.count (omega (arith, w.few, w.room, z.most)) (writing.same none w.told), length_in_columns x z)

-- ---- one turn of the loop: row q of column c, whose number the table t has

module _ {D : ℕ} {x taken₀ : List ℕ} (z : Sized D) {t taken : List ℕ} {n c q : ℕ} (e : t ≡ column_table) (hc : c < 32) (hq : q < rows D)
    (w : Taking D x taken₀ taken n (c * rows D + q)) where
  within : c * rows D + q < 32 * rows D
  within = digits_lt hc hq

  -- the y place that the code works out
  abbrev pub placed : ℕ
  placed = get_or t ((c + 16) % 32) 0 + 32 * q

  is : read_control (rows D) (c * rows D + q) ≡ placed
  unfolding read_control control_column
  is = rw (digits_div c hq, digits_mod c hq, ← table_at ((c + 16) % 32) e)

  pub placed_lt : placed < 32 * rows D
  placed_lt = omega (arith, table_below ((c + 16) % 32) e (mod-lt (c + 16) (lit< tt)))

  pub index_lt : dummies D ≤ placed → placed - dummies D < D
  index_lt l = omega (arith, placed_lt, dummies_add D)

  pub room_lt : dummies D ≤ placed → n < D
  room_lt l = taking_room z within w (rw is l)

  -- what is known where the branches meet again
  pub met : {taken' : List ℕ} {n' : ℕ}
      → ((dummies D ≤ placed) × (taken' ≡ set taken n (get_or x (placed - dummies D) 0)) × (n' ≡ n + 1)) ⊎ ((placed < dummies D) × (taken' ≡ taken) × (n' ≡ n))
      → Taking D x taken₀ taken' n' (c * rows D + q + 1)
  unfolding entry_at
  met (inl f) = rw (f.1, f.2) (taking_next z within w (rw is f.0) (rw is))
  met (inr f) = rw (f.1, f.2) (taking_dummy z within w (rw is f.0))

-- where the next turn stands: the next row, or row 0 of the next column
pub next_row : {D : ℕ} {x taken₀ taken : List ℕ} {n : ℕ} (c q : ℕ) → Taking D x taken₀ taken n (c * rows D + q + 1) → Taking D x taken₀ taken n (c * rows D + (q + 1))
next_row {D} c q w = rw (← add_assoc (c * rows D) q 1) w

pub next_column : {D : ℕ} {x taken₀ taken : List ℕ} {n : ℕ} (c q : ℕ) → q + 1 ≡ rows D → Taking D x taken₀ taken n (c * rows D + q + 1)
    → Taking D x taken₀ taken n ((c + 1) * rows D + 0)
next_column {D} c q h w = let e : (c + 1) * rows D + 0 ≡ c * rows D + q + 1 = omega arith in rw e w

-- the places still to be read grow fewer
pub fewer_row : (R c q : ℕ) → c < 32 → q < R → 32 * R - (c * R + (q + 1)) < 32 * R - (c * R + q)
fewer_row R c q hc hq = omega (arith, digits_lt hc hq)

pub fewer_column : (R c q : ℕ) → c < 32 → q < R → q + 1 ≡ R → 32 * R - ((c + 1) * R + 0) < 32 * R - (c * R + q)
fewer_column R c q hc hq e = omega (arith, digits_lt hc hq)

-- behind the last column
pub all_passed : (R c q : ℕ) → 32 ≤ c → 32 * R ≤ c * R + q
all_passed R c q h = omega (arith, mul-le-mul_right R h)
