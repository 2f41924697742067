-- Each test of a refusal passes exactly what the papers' words for its range say.
-- Assumes nothing.
use mathlib.Core.Path.{◌≡◌, refl, sym}
use mathlib.Core.Logic.{◌⊎◌, inl, inr, ⊎_elim}
use mathlib.Core.Bool.{Bool, true, false, not, ◌||◌, true≢false}
use mathlib.Core.List.{List}
use Prim.Native.Nat.{ℕ, zero, suc, ◌+◌, ◌*◌, ◌/◌, ◌%◌, ◌≤◌, ◌<◌}
use native.Mathlib.Nat.{not-suc-le-zero}
use native.Mathlib.Decide.{ℕ_discrete}
use native.Mathlib.Omega.{arith}
use lib.Dec.{eqb, ltb}
use borrow.Author.Tests.{lt-ltb, le-ltb, eq-eqb, ne_eqb, ltb-true, ltb-false, eqb-true, eqb-false, not-false}
use Rattle.laws.specs.Bits.{AreBits}
use Rattle.segmentation.specs.Sizes.{bad_size}
use Rattle.segmentation.specs.Segmentation.{blocks}
use Rattle.rate_matching.specs.Circle.{circle_length, cut_at}
use Rattle.rate_matching.specs.SoftBuffer.{soft_share}
use Rattle.codeword.specs.Shares.{symbols}
use Rattle.codeword.specs.Codeword.{block_rows, block_cut}
use Rattle.codeword.specs.Downlink.{bad_receiver, too_short, bad_buffer}
use Rattle.codeword.specs.Build.{bad_modulation, bad_layers, bad_symbol, bad_length, bad_allocation, bad_version, bad_bits}
use Rattle.codeword.proofs.Accepted.{bits_good, given_bits}
use Rattle.slots.specs.declared.Head.{Head}
use Rattle.slots.specs.declared.State.{State}
use Rattle.slots.specs.State.{head_at, too_many, broken, bad_shape, bad_state}
use Rattle.slots.specs.Calls.{size_at_head, share_at_head}
use Rattle.slots.proofs.Tests.{or_left, or_right, inside}
use Rattle.slots.proofs.Accepted.{good}
use Rattle.slots.proofs.HeadLaws.{good_state}
use Rattle.reports.specs.Refusals.{bad_control}
use Rattle.demands.specs.Ranges.{Size, Symbol, Length, Receiver, Control, Within, Shape, Whole, Sound}

-- the test t passes exactly where P holds
pub record Passes (t : Bool) (P : Type 0) : Type 0 where
  pub where_holds : P → t ≡ false
  pub holds : t ≡ false → P

-- ---- one comparison

pub true_test : (b : Bool) → Passes (not b) (b ≡ true)
true_test b = record { where_holds = λ e. rw e; holds = not-false b }

pub false_test : (b : Bool) → Passes b (b ≡ false)
false_test b = record { where_holds = λ e. e; holds = λ e. e }

pub equal_test : (x y : ℕ) → Passes (not (eqb x y)) (x ≡ y)
equal_test x y = record { where_holds = λ e. rw (eq-eqb x y e); holds = λ e. eqb-true x y (not-false (eqb x y) e) }

pub below_test : (x n : ℕ) → Passes (not (ltb x n)) (x < n)
below_test x n = record { where_holds = λ l. rw (lt-ltb x n l); holds = λ e. ltb-true x n (not-false (ltb x n) e) }

-- at least so many of what there is
pub enough_test : (needed there : ℕ) → Passes (ltb there needed) (needed ≤ there)
enough_test needed there = record { where_holds = le-ltb there needed; holds = ltb-false there needed }

-- from 1 on
pub within_test : (most n : ℕ) → Passes (eqb n 0 || ltb most n) (Within 1 most n)
within_test most n = record {
  where_holds = λ w. rw (ne_eqb n 0 (λ e. omega (arith, w.low)), le-ltb most n w.high);
  holds = λ e. let n = inside n most e in record { low = n.0; high = n.1 };
}

-- both of two
pub both : {s t : Bool} {P Q : Type 0} → Passes s P → Passes t Q → Passes (s || t) (P × Q)
both {s} {t} a b = record {
  where_holds = λ p. rw (a.where_holds p.0, b.where_holds p.1);
  holds = λ e. (a.holds (or_left s t e), b.holds (or_right s t e));
}

-- one of two numbers
either_test : (x a b : ℕ) → Passes (not (eqb x a || eqb x b)) ((x ≡ a) ⊎ (x ≡ b))
either_test x a b = record {
  where_holds = ⊎_elim (λ e. rw (eq-eqb x a e)) (λ e. rw (eq-eqb x b e, or-true (eqb x a)));
  holds = λ e. told (eqb x a) refl (eqb x b) refl (not-false (eqb x a || eqb x b) e);
}
  where
    or-true : (t : Bool) → (t || true) ≡ true
    or-true true = refl
    or-true false = refl

    told : (s : Bool) → eqb x a ≡ s → (t : Bool) → eqb x b ≡ t → (s || t) ≡ true → (x ≡ a) ⊎ (x ≡ b)
    told true e t f h = inl (eqb-true x a e)
    told false e true f h = inr (eqb-true x b f)
    told false e false f h = absurd (true≢false (sym h))

-- ---- a block and a grant

pub size_test : (A : ℕ) → Passes (bad_size A) (Size A)
unfolding bad_size
size_test A = within_test 30576 A

-- one of three numbers
modulation_test : (Q : ℕ) → Passes (bad_modulation Q) ((Q ≡ 2) ⊎ ((Q ≡ 4) ⊎ (Q ≡ 6)))
unfolding bad_modulation
modulation_test Q = record {
  where_holds = ⊎_elim (λ e. rw e) (⊎_elim (λ e. rw e) (λ e. rw e));
  holds = λ e. told (eqb Q 2) refl (eqb Q 4) refl (eqb Q 6) refl (not-false (eqb Q 2 || (eqb Q 4 || eqb Q 6)) e);
}
  where
    told : (s : Bool) → eqb Q 2 ≡ s → (t : Bool) → eqb Q 4 ≡ t → (u : Bool) → eqb Q 6 ≡ u → (s || (t || u)) ≡ true → (Q ≡ 2) ⊎ ((Q ≡ 4) ⊎ (Q ≡ 6))
    told true e t f u g h = inl (eqb-true Q 2 e)
    told false e true f u g h = inr (inl (eqb-true Q 4 f))
    told false e false f true g h = inr (inr (eqb-true Q 6 g))
    told false e false f false g h = absurd (true≢false (sym h))

pub symbol_test : (Q N : ℕ) → Passes (bad_symbol Q N) (Symbol Q N)
unfolding bad_symbol bad_layers
symbol_test Q N = record {
  where_holds = λ s. (both (modulation_test Q) (within_test 4 N)).where_holds (s.modulation, s.layers);
  holds = λ e. let s = (both (modulation_test Q) (within_test 4 N)).holds e in record { modulation = s.0; layers = s.1 };
}

pub length_test : (C Q N G : ℕ) → Passes (bad_length C Q N G) (Length C Q N G)
unfolding bad_length symbols
length_test C Q N G = record {
  where_holds = λ l. rw (le-ltb 172800 G l.most, eq-eqb (G % (N * Q)) 0 l.multiple, le-ltb (G / (N * Q)) C l.enough);
  holds = λ e. let rest = or_right (ltb 172800 G) _ e in record {
    most = ltb-false 172800 G (or_left (ltb 172800 G) _ e);
    multiple = eqb-true (G % (N * Q)) 0 (not-false _ (or_left (not (eqb (G % (N * Q)) 0)) _ rest));
    enough = ltb-false (G / (N * Q)) C (or_right (not (eqb (G % (N * Q)) 0)) _ rest);
  };
}

pub allocation_test : (C Q N G : ℕ) → Passes (bad_allocation C Q N G) (Symbol Q N × Length C Q N G)
unfolding bad_allocation
allocation_test C Q N G = both (symbol_test Q N) (length_test C Q N G)

pub version_test : (v : ℕ) → Passes (bad_version v) (v ≤ 3)
unfolding bad_version
version_test v = enough_test v 3

pub bits_test_lem : (l : List ℕ) → Passes (bad_bits l) (AreBits l)
bits_test_lem l = record { where_holds = bits_good l; holds = given_bits l }

-- ---- a receiver

-- no N_cb of the first n code blocks is below 32·R
short_test : (soft B n : ℕ) → Passes (too_short soft B n) ((r : ℕ) → r < n → 32 * block_rows B r ≤ cut_at soft (block_rows B r))
unfolding too_short block_cut
short_test soft B zero = record { where_holds = λ h. refl; holds = λ e r l. absurd (not-suc-le-zero l) }
short_test soft B (suc n) = record {
  where_holds = λ h. rw ((short_test soft B n).where_holds (λ r l. h r (omega arith)), le-ltb (cut_at soft (block_rows B n)) (32 * block_rows B n) (h n (omega arith)));
  holds = λ e r l. elim (ℕ_discrete r n) [
    | yes same ↦ rw same (ltb-false (cut_at soft (block_rows B n)) (32 * block_rows B n) (or_right (too_short soft B n) _ e))
    | no other ↦ (short_test soft B n).holds (or_left (too_short soft B n) _ e) r (omega (arith, l, other))
  ];
}

pub buffer_test : (B release k_mimo processes Nsoft layers : ℕ) → Passes (bad_buffer B release k_mimo processes Nsoft layers) (Receiver B release k_mimo processes Nsoft layers)
unfolding bad_buffer bad_receiver
buffer_test B release k_mimo processes Nsoft layers = record {
  where_holds = λ g. all.where_holds ((g.known, (g.streams, running_is g.running)), g.enough);
  holds = λ e. let g = all.holds e in record { known = g.0.0; streams = g.0.1.0; running = is_running g.0.1.1; enough = g.1 };
}
  where
    running_is : 1 ≤ processes → processes ≡ 0 → ⊥
    running_is some e = omega (arith, some)

    is_running : (processes ≡ 0 → ⊥) → 1 ≤ processes
    is_running some = omega (arith, some)

    all : Passes (bad_buffer B release k_mimo processes Nsoft layers)
        ((((release ≡ 8) ⊎ (release ≡ 11)) × (((k_mimo ≡ 1) ⊎ (k_mimo ≡ 2)) × (processes ≡ 0 → ⊥)))
        × ((r : ℕ) → r < blocks B → 32 * block_rows B r ≤ cut_at (soft_share (blocks B) release k_mimo processes Nsoft layers) (block_rows B r)))
    all = both (both (either_test release 8 11) (both (either_test k_mimo 1 2) (record { where_holds = ne_eqb processes 0; holds = eqb-false processes 0 })))
        (short_test (soft_share (blocks B) release k_mimo processes Nsoft layers) B (blocks B))

-- ---- a report and a control message

pub between_test : (least most n : ℕ) → Passes (ltb n least || ltb most n) (Within least most n)
between_test least most n = record {
  where_holds = λ w. rw (le-ltb n least w.low, le-ltb most n w.high);
  holds = λ e. record { low = ltb-false n least (or_left (ltb n least) _ e); high = ltb-false most n (or_right (ltb n least) _ e) };
}

pub control_test : (Q control : ℕ) → Passes (bad_control Q control) (Control Q control)
unfolding bad_control
control_test Q control = record {
  where_holds = λ k. rw (ne_eqb control 0 (λ e. omega (arith, k.some)), le-ltb 4096 control k.most, eq-eqb (control % Q) 0 k.multiple);
  holds = λ e. let some = eqb-false control 0 (or_left (eqb control 0) _ e) in
      let rest = or_right (eqb control 0) _ e in record {
        some = omega (arith, some);
        most = ltb-false 4096 control (or_left (ltb 4096 control) _ rest);
        multiple = eqb-true (control % Q) 0 (not-false _ (or_right (ltb 4096 control) _ rest));
      };
}

-- ---- a state

pub shape_test : (S M : ℕ) → Passes (bad_shape S M) (Shape S M)
unfolding bad_shape
shape_test S M = record {
  where_holds = λ k. (both (within_test 8 S) (within_test 5 M)).where_holds (k.slots, k.blocks);
  holds = λ e. let k = (both (within_test 8 S) (within_test 5 M)).holds e in record { slots = k.0; blocks = k.1 };
}

pub blocks_test : (M A : ℕ) → Passes (too_many M A) (blocks (A + 24) ≤ M)
unfolding too_many
blocks_test M A = enough_test (blocks (A + 24)) M

-- a head that is whole if it is open is not broken
unbroken_head : (M : ℕ) (h : Head) → (h.opened ≡ true → Whole M h) → broken M h ≡ false
unfolding broken cut_at circle_length
unbroken_head M h w = go h.opened refl
  where
    go : (b : Bool) → h.opened ≡ b → broken M h ≡ false
    go true o = rw (
      o,
      (size_test h.size).where_holds (w o).size,
      (blocks_test M h.size).where_holds (w o).few,
      (short_test h.share (h.size + 24) (blocks (h.size + 24))).where_holds (λ r l. omega (arith, (w o).wide r l)),
    )
    go false o = rw o

pub state_test : (state : State) → Passes (bad_state state) (Sound state)
unfolding bad_state head_at size_at_head share_at_head
state_test state = record {
  where_holds = λ s. good_state state ((shape_test state.slots state.blocks).where_holds s.shape) (λ i l. unbroken_head state.blocks (head_at state i) (s.heads i l));
  holds = λ e. let g = good state e in record {
    shape = (shape_test state.slots state.blocks).holds (or_left (bad_shape state.slots state.blocks) _ e);
    heads = λ i l o. record {
      size = record { low = (g.fits i l o).size_some; high = (g.fits i l o).size_most };
      few = (g.fits i l o).few;
      wide = λ r b. g.wide i l o r;
    };
  };
}
