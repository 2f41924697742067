-- What the search over messages finds: no message is nearer; where it is not tied no other is as near, and where it is another is.
-- Assumes nothing.
use mathlib.Core.Path.{◌≡◌, refl, sym, ◌∙◌, ap, ap₂}
use mathlib.Core.Logic.{◌⊎◌, inl, inr, ⊎_elim}
use mathlib.Core.Bool.{Bool, true, false, cond}
use Prim.Native.Nat.{ℕ, zero, suc, ◌≤◌, ◌<◌}
use native.Mathlib.Omega.{arith}
use lib.Dec.{eqb, ltb}
use borrow.Author.Tests.{eqb-true, eqb-false, ltb-true, ltb-false}
use Rattle.report_code.specs.declared.search.Found.{Found}
use Rattle.report_code.specs.Nearest.{nearer_of, nearest_up_to}

pub record Best (f : ℕ → ℕ) (n : ℕ) (found : Found) : Type 0 where
  pub within : found.message ≤ n
  pub attained : f found.message ≡ found.distance
  pub least : (k : ℕ) → k ≤ n → found.distance ≤ f k
  pub alone : found.tied ≡ false → (k : ℕ) → k ≤ n → f k ≡ found.distance → k ≡ found.message
  pub other : found.tied ≡ true → (k : ℕ) × (k ≤ n) × (k ≡ found.message → ⊥) × (f k ≡ found.distance)

not_both : {b : Bool} → b ≡ false → b ≡ true → ⊥
not_both {b} p q = let z : ◌≡◌ {A = ℕ} 0 1 = cc in omega arith

last_or_earlier : (k n : ℕ) → k ≤ suc n → (k ≡ suc n) ⊎ (k ≤ n)
last_or_earlier k n h = go (eqb k (suc n)) refl
  where
    go : (t : Bool) → eqb k (suc n) ≡ t → (k ≡ suc n) ⊎ (k ≤ n)
    go true e = inl (eqb-true k (suc n) e)
    go false e = inr (omega (arith, eqb-false k (suc n) e))

module _ (f : ℕ → ℕ) where
  one_more : (n : ℕ) (found : Found) → Best f n found → Best f (suc n) (nearer_of found (suc n) (f (suc n)))
  unfolding nearer_of
  one_more n found b = go (ltb (f (suc n)) found.distance) (eqb (f (suc n)) found.distance) refl refl
    where
      go : (s t : Bool) → ltb (f (suc n)) found.distance ≡ s → eqb (f (suc n)) found.distance ≡ t
          → Best f (suc n)
          (cond s (record { message = suc n; distance = f (suc n); tied = false })
          (cond t (record { message = found.message; distance = found.distance; tied = true }) found))
      go true t p q =
          let nearer : f (suc n) < found.distance = ltb-true (f (suc n)) found.distance p in
          record {
            within = omega arith;
            attained = refl;
            least = λ k h. ⊎_elim (λ e. rw e (omega arith)) (λ l. omega (arith, b.least k l)) (last_or_earlier k n h);
            alone = λ u k h e. ⊎_elim (λ g. g) (λ l. absurd (omega (arith, b.least k l))) (last_or_earlier k n h);
            other = λ u. absurd (not_both refl u);
          }
      go false true p q =
          let same : f (suc n) ≡ found.distance = eqb-true (f (suc n)) found.distance q in
          record {
            within = omega (arith, b.within);
            attained = b.attained;
            least = λ k h. ⊎_elim (λ e. rw e (omega arith)) (λ l. b.least k l) (last_or_earlier k n h);
            alone = λ u. absurd (not_both u refl);
            other = λ u. (suc n, omega arith, λ e. omega (arith, b.within), same);
          }
      go false false p q =
          let farther : found.distance < f (suc n) = omega (arith, ltb-false (f (suc n)) found.distance p, eqb-false (f (suc n)) found.distance q) in
          record {
            within = omega (arith, b.within);
            attained = b.attained;
            least = λ k h. ⊎_elim (λ e. rw e (omega arith)) (λ l. b.least k l) (last_or_earlier k n h);
            alone = λ u k h e. ⊎_elim (λ g. absurd (far k g e)) (λ l. b.alone u k l e) (last_or_earlier k n h);
            other = λ u. let o = b.other u in (o.0, omega (arith, o.1), o.2, o.3);
          }
        where
          far : (k : ℕ) → k ≡ suc n → f k ≡ found.distance → ⊥
          far k g e = eqb-false (f (suc n)) found.distance q (ap f (sym g) ∙ e)

  pub best : (n : ℕ) → Best f n (nearest_up_to f n)
  unfolding nearest_up_to
  best zero = record {
    within = omega arith;
    attained = refl;
    least = λ k h. let e : k ≡ 0 = omega arith in rw e (omega arith);
    alone = λ u k h e. omega arith;
    other = λ u. absurd (not_both refl u);
  }
  best (suc n) = one_more n (nearest_up_to f n) (best n)

  -- a message that every other is farther than is found, and alone
  module _ (n m : ℕ) (within_range : m ≤ n) (farther : (k : ℕ) → k ≤ n → (k ≡ m → ⊥) → f m < f k) where
    pub found_it : (nearest_up_to f n).message ≡ m
    found_it = go (eqb (nearest_up_to f n).message m) refl
      where
        go : (t : Bool) → eqb (nearest_up_to f n).message m ≡ t → (nearest_up_to f n).message ≡ m
        go true e = eqb-true _ _ e
        go false e =
            absurd
            (omega (arith, farther (nearest_up_to f n).message (best n).within (eqb-false _ _ e), (best n).attained, (best n).least m within_range))

    pub found_alone : (nearest_up_to f n).tied ≡ false
    found_alone = go (nearest_up_to f n).tied refl
      where
        go : (t : Bool) → (nearest_up_to f n).tied ≡ t → t ≡ false
        go false e = refl
        go true e =
            let o = (best n).other e in
            let near : f m ≡ (nearest_up_to f n).distance = ap f (sym found_it) ∙ (best n).attained in
            absurd (omega (arith, farther o.0 o.1 (λ g. o.2 (g ∙ sym found_it)), o.3))

-- only the distances count
pub nearest_same : (f g : ℕ → ℕ) (n : ℕ) → ((k : ℕ) → k ≤ n → f k ≡ g k) → nearest_up_to f n ≡ nearest_up_to g n
unfolding nearest_up_to
nearest_same f g zero h = ap (λ (d : ℕ). record { message = 0; distance = d; tied = false }) (h 0 (omega arith))
nearest_same f g (suc n) h =
    ap₂ (λ (b : Found) (d : ℕ). nearer_of b (suc n) d) (nearest_same f g n (λ k l. h k (omega arith))) (h (suc n) (omega arith))
