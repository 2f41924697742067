-- How many data places are unsent or undecided, demand 3 and 02 E2: all of them where none has it, none exactly where all have; and how many a block has.
-- Assumes nothing.
use mathlib.Core.Path.{◌≡◌, refl, sym, ◌∙◌, ap}
use mathlib.Core.Bool.{Bool, true, false}
use mathlib.Core.List.{List}
use Prim.Native.Nat.{ℕ, zero, suc, ◌+◌, ◌-◌, ◌*◌, ◌≤◌, ◌<◌}
use native.Mathlib.Nat.{add-zero}
use native.Mathlib.Decide.{dec_le}
use native.Mathlib.Omega.{arith}
use borrow.Author.Tests.{ne_eqb}
use Rattle.segmentation.specs.Segmentation.{blocks, check_length, size_of, filler, filler_of}
use Rattle.segmentation.specs.CodeBlocks.{taken_before}
use Rattle.segmentation.proofs.Segmentation.{single, several, large_of, blocks_least, size_checks}
use Rattle.segmentation.proofs.CodeBlocks.{taken_all, filler_first}
use Rattle.slots.specs.Circle.{sum_from}
use Rattle.slots.proofs.Sums.{sum_from_done, sum_from_more, sum_from_ext, sum_from_same, sum_from_none}
use Rattle.history.specs.Calls.{Reception}
use Rattle.history.specs.Sent.{DataPlace, sent_data, decided_data, missing, data_without_in, data_without, unsent, undecided, AllSent, NoneSent, AllDecided, data_places_in, data_places}

-- ---- the count of data places that have not what is asked

module _ (A : ℕ) (has : ℕ → ℕ → Bool) where
  -- the same of every data place
  without_same : (t : Bool) → ((r i : ℕ) → DataPlace A r i → has r i ≡ t) → (r : ℕ) → r < blocks (A + 24)
      → data_without_in A has r ≡ data_places_in A r * missing t
  unfolding data_without_in data_places_in
  without_same t all r l =
      sum_from_ext _ (λ (k : ℕ). missing t) (filler_of (A + 24) r) (size_of (A + 24) r - filler_of (A + 24) r)
      (λ i g h. ap missing (all r i (record { block = l; past_filler = g; below_size = omega arith })))
      ∙ sum_from_same (missing t) (filler_of (A + 24) r) (size_of (A + 24) r - filler_of (A + 24) r)

  -- none has it
  without_all : ((r i : ℕ) → DataPlace A r i → has r i ≡ false) → data_without A has ≡ data_places A
  unfolding data_without data_places
  without_all none = sum_from_ext _ _ 0 (blocks (A + 24)) (λ r g l. without_same false none r (omega arith) ∙ omega arith)

  -- all have
  without_none : ((r i : ℕ) → DataPlace A r i → has r i ≡ true) → data_without A has ≡ 0
  unfolding data_without
  without_none all =
      sum_from_ext _ (λ (k : ℕ). 0) 0 (blocks (A + 24)) (λ r g l. without_same true all r (omega arith) ∙ omega arith)
      ∙ sum_from_same 0 0 (blocks (A + 24))
      ∙ omega arith

  -- and only where all have
  none_without : data_without A has ≡ 0 → (r i : ℕ) → DataPlace A r i → has r i ≡ true
  unfolding data_without data_without_in
  none_without z r i d =
      let block = sum_from_none _ 0 (blocks (A + 24)) z r (omega arith) (omega arith) in
      none_missing _ (sum_from_none _ (filler_of (A + 24) r) (size_of (A + 24) r - filler_of (A + 24) r) block i d.past_filler (omega arith))
    where
      none_missing : (t : Bool) → missing t ≡ 0 → t ≡ true
      none_missing true e = refl
      none_missing false e = absurd (omega arith)

  -- one has it not
  without_some : (r i : ℕ) → DataPlace A r i → has r i ≡ false → data_without A has ≡ 0 → ⊥
  without_some r i d f z = let one : ◌≡◌ {A = ℕ} 1 0 = ap missing (sym f ∙ none_without z r i d) in omega arith

-- ---- data places unsent, and undecided

module _ (soft A : ℕ) (xs : List Reception) where
  pub unsent_all : NoneSent soft A xs → unsent soft A xs ≡ data_places A
  unfolding unsent
  unsent_all = without_all A (sent_data soft A xs)

  pub unsent_none : AllSent soft A xs → unsent soft A xs ≡ 0
  unfolding unsent
  unsent_none = without_none A (sent_data soft A xs)

  pub none_unsent : unsent soft A xs ≡ 0 → AllSent soft A xs
  unfolding unsent
  none_unsent = none_without A (sent_data soft A xs)

  pub unsent_some : (r i : ℕ) → DataPlace A r i → sent_data soft A xs r i ≡ false → unsent soft A xs ≡ 0 → ⊥
  unfolding unsent
  unsent_some = without_some A (sent_data soft A xs)

  pub undecided_none : AllDecided soft A xs → undecided soft A xs ≡ 0
  unfolding undecided
  undecided_none = without_none A (decided_data soft A xs)

  pub undecided_some : (r i : ℕ) → DataPlace A r i → decided_data soft A xs r i ≡ false → undecided soft A xs ≡ 0 → ⊥
  unfolding undecided
  undecided_some = without_some A (decided_data soft A xs)

-- ---- how many data places there are

taken_none : (B : ℕ) → taken_before B 0 ≡ 0
unfolding taken_before
taken_none B = refl

taken_more : (B r : ℕ) → taken_before B (suc r) ≡ taken_before B r + (size_of B r - check_length B)
unfolding taken_before
taken_more B r = refl

module _ (A : ℕ) (most : A ≤ 30576) where
  -- code block 0, and the others
  in_first : data_places_in A 0 ≡ size_of (A + 24) 0 - filler (A + 24)
  unfolding data_places_in filler_of
  in_first = refl

  in_others : (r : ℕ) → 1 ≤ r → data_places_in A r ≡ size_of (A + 24) r
  unfolding data_places_in filler_of
  in_others r h = rw (ne_eqb r 0 (λ e. omega arith)) (omega arith)

  from_second : (r n : ℕ) → 1 ≤ r
      → taken_before (A + 24) r + sum_from (data_places_in A) r n ≡ taken_before (A + 24) (r + n) + n * check_length (A + 24)
  from_second r zero h = rw (add-zero r) (omega (arith, sum_from_done (data_places_in A) r))
  from_second r (suc n) h =
      let on : taken_before (A + 24) (r + suc n) ≡ taken_before (A + 24) (suc r + n) = ap (taken_before (A + 24)) (omega arith) in
      omega (
        arith,
        on,
        from_second (suc r) n (omega arith),
        sum_from_more (data_places_in A) r n,
        taken_more (A + 24) r,
        in_others r h,
        size_checks (A + 24) (omega arith) r,
      )

  -- the bits of the block, its check, and the checks of the code blocks
  pub data_places_lem : data_places A ≡ A + 24 + blocks (A + 24) * check_length (A + 24)
  unfolding data_places
  data_places_lem = go (blocks (A + 24) - 1) (omega (arith, blocks_least (A + 24) (omega arith)))
    where
      go : (n : ℕ) → blocks (A + 24) ≡ suc n → sum_from (data_places_in A) 0 (blocks (A + 24)) ≡ A + 24 + blocks (A + 24) * check_length (A + 24)
      go n e =
          let whole : taken_before (A + 24) (1 + n) ≡ filler (A + 24) + (A + 24) = ap (taken_before (A + 24)) (omega arith) ∙ taken_all (A + 24) (omega arith) in
          rw e
          (omega (
            arith,
            whole,
            from_second 1 n (omega arith),
            sum_from_more (data_places_in A) 0 n,
            taken_none (A + 24),
            taken_more (A + 24) 0,
            in_first,
            filler_first (A + 24) (omega arith) (omega arith),
            size_checks (A + 24) (omega arith) 0,
          ))

  -- with one code block
  pub data_places_single : blocks (A + 24) ≡ 1 → data_places A ≡ A + 24
  data_places_single e = elim (dec_le (A + 24) 6144) [
    | yes h ↦ rw (data_places_lem, (single (A + 24) h).1) (omega arith)
    | no h ↦ let large : 6144 < A + 24 = omega arith in absurd (omega (arith, (several (A + 24) large).0))
  ]

  -- with more
  pub data_places_several : 1 < blocks (A + 24) → data_places A ≡ A + 24 + 24 * blocks (A + 24)
  data_places_several h = rw (data_places_lem, (several (A + 24) (large_of (A + 24) h)).1) (omega arith)

  pub some_data_places : data_places A ≡ 0 → ⊥
  some_data_places e = omega (arith, data_places_lem)
