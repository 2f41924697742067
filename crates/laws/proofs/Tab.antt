-- Laws of lists given by a rule on the index (`tab_from`, `tab`): length, entries, joining, front.
-- In a loop that writes f i at place i: `tab_rest` is what is to come at the start, `rest_more` one turn, `rest_none` the end.
-- Assumes nothing.
use mathlib.Core.Path.{◌≡◌, refl, sym, ◌∙◌, ap}
use mathlib.Core.List.{List, [], ◌∷◌, ◌++◌, map}
use Prim.Native.Nat.{ℕ, zero, suc, ◌+◌, ◌-◌, ◌≤◌, ◌<◌}
use native.Mathlib.Nat.{add-zero, zero-add, add-suc, suc-add}
use native.Mathlib.Numerals.{add-one}
use native.Mathlib.Omega.{arith}
use lib.ListN.{length, get_or, take}
use lib.Seq.{ext_get_or, take_at}
use Rattle.laws.specs.Lists.{tab, tab_from}

pub length_tab_from : (i n : ℕ) (f : ℕ → ℕ) → length (tab_from i n f) ≡ n
unfolding tab_from
length_tab_from i zero f = refl
length_tab_from i (suc n) f = ap suc (length_tab_from (suc i) n f)

pub get_or_tab_from : (i n : ℕ) (f : ℕ → ℕ) (k d : ℕ) → k < n → get_or (tab_from i n f) k d ≡ f (i + k)
unfolding tab_from
get_or_tab_from i zero f k d h = absurd (no_less h)
  where
    no_less : k < 0 → ⊥
    no_less p = omega arith
get_or_tab_from i (suc n) f zero d h = ap f (sym (add-zero i))
get_or_tab_from i (suc n) f (suc k) d h = get_or_tab_from (suc i) n f k d (omega arith) ∙ ap f (suc-add i k ∙ sym (add-suc i k))

-- f and g agree on the entries
pub tab_from_ext : (i n : ℕ) (f g : ℕ → ℕ) → ((k : ℕ) → i ≤ k → k < i + n → f k ≡ g k) → tab_from i n f ≡ tab_from i n g
unfolding tab_from
tab_from_ext i zero f g h = refl
tab_from_ext i (suc n) f g h =
    ap (λ (x : ℕ). x ∷ tab_from (suc i) n f) (h i (omega arith) (omega arith))
    ∙ ap (λ (l : List ℕ). g i ∷ l) (tab_from_ext (suc i) n f g (λ k a b. h k (omega arith) (omega arith)))

-- the first m entries and the n after them
pub tab_from_split : (i m n : ℕ) (f : ℕ → ℕ) → tab_from i (m + n) f ≡ tab_from i m f ++ tab_from (i + m) n f
unfolding tab_from
tab_from_split i zero n f = rw (zero-add, add-zero)
tab_from_split i (suc m) n f = rw (suc-add m n, add-suc, ← suc-add i m) (ap (λ (l : List ℕ). f i ∷ l) (tab_from_split (suc i) m n f))

-- the index counted from elsewhere
pub tab_from_shift : (i m n : ℕ) (f : ℕ → ℕ) → tab_from (i + m) n f ≡ tab_from m n (λ (k : ℕ). f (i + k))
unfolding tab_from
tab_from_shift i m zero f = refl
tab_from_shift i m (suc n) f = ap (λ (l : List ℕ). f (i + m) ∷ l) (rw (← add-suc) (tab_from_shift i (suc m) n f))

pub map_tab_from : (i n : ℕ) (f g : ℕ → ℕ) → map g (tab_from i n f) ≡ tab_from i n (λ (k : ℕ). g (f k))
unfolding tab_from
map_tab_from i zero f g = refl
map_tab_from i (suc n) f g = ap (λ (l : List ℕ). g (f i) ∷ l) (map_tab_from (suc i) n f g)

pub length_tab : (n : ℕ) (f : ℕ → ℕ) → length (tab n f) ≡ n
unfolding tab
length_tab n f = length_tab_from 0 n f

pub take_tab : (m n : ℕ) (f : ℕ → ℕ) → m ≤ n → take m (tab n f) ≡ tab m f
unfolding tab
take_tab m n f h =
    ap (λ (k : ℕ). take m (tab_from 0 k f)) sum
    ∙ ap (take m) (tab_from_split 0 m (n - m) f)
    ∙ take_at (tab_from 0 m f) (tab_from (0 + m) (n - m) f) m (length_tab_from 0 m f)
  where
    sum : n ≡ m + (n - m)
    sum = omega arith

pub get_or_tab : (n : ℕ) (f : ℕ → ℕ) (i d : ℕ) → i < n → get_or (tab n f) i d ≡ f i
unfolding tab
get_or_tab n f i d h = get_or_tab_from 0 n f i d h ∙ ap f (zero-add i)

-- f and g agree below n
pub tab_ext : (n : ℕ) (f g : ℕ → ℕ) → ((i : ℕ) → i < n → f i ≡ g i) → tab n f ≡ tab n g
unfolding tab
tab_ext n f g h = tab_from_ext 0 n f g (λ k a b. h k (omega arith))

pub tab_split : (m n : ℕ) (f : ℕ → ℕ) → tab (m + n) f ≡ tab m f ++ tab n (λ (k : ℕ). f (m + k))
unfolding tab
tab_split m n f = tab_from_split 0 m n f ∙ ap (λ (l : List ℕ). tab_from 0 m f ++ l) (ap (λ (k : ℕ). tab_from k n f) (zero-add m ∙ sym (add-zero m)) ∙ tab_from_shift m 0 n f)

pub map_tab : (n : ℕ) (f g : ℕ → ℕ) → map g (tab n f) ≡ tab n (λ (k : ℕ). g (f k))
unfolding tab
map_tab n f g = map_tab_from 0 n f g

-- a list whose entries follow a rule
pub tab_of : (l : List ℕ) (n : ℕ) (f : ℕ → ℕ) → length l ≡ n → ((i : ℕ) → i < n → get_or l i 0 ≡ f i) → l ≡ tab n f
tab_of l n f e h = ext_get_or 0 l (tab n f) (e ∙ sym (length_tab n f)) (λ i k. let b : i < n = omega arith in h i b ∙ sym (get_or_tab n f i 0 b))

-- ---- what a loop that has written i of n entries has still to write

pub tab_rest : (n : ℕ) (f : ℕ → ℕ) → tab_from 0 (n - 0) f ≡ tab n f
unfolding tab
tab_rest n f = ap (λ (k : ℕ). tab_from 0 k f) (less n)
  where
    less : (n : ℕ) → n - 0 ≡ n
    less n = omega arith

pub rest_more : (i n : ℕ) (f : ℕ → ℕ) → i < n → tab_from i (n - i) f ≡ f i ∷ tab_from (i + 1) (n - (i + 1)) f
unfolding tab_from
rest_more i n f h = ap (λ (k : ℕ). tab_from i k f) one ∙ ap (λ (j : ℕ). f i ∷ tab_from j (n - (i + 1)) f) (sym (add-one i))
  where
    one : n - i ≡ suc (n - (i + 1))
    one = omega arith

pub rest_none : (i n : ℕ) (f : ℕ → ℕ) → n ≤ i → tab_from i (n - i) f ≡ []
unfolding tab_from
rest_none i n f h = ap (λ (k : ℕ). tab_from i k f) none
  where
    none : n - i ≡ 0
    none = omega arith
