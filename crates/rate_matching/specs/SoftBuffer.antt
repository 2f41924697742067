-- The soft buffer of a downlink's transport block, clause 5.1.4.1.2: its size N_IR under Release 11 and under Release 8, and each code block's share of it.
-- Assumes nothing.
use Rattle.std.specs.Prelude.{cond, ◌&&◌, ℕ, ◌*◌, ◌/◌, min, eqb, leb}

-- K_C: 5 if N_soft = 35982720; 2 if N_soft = 3654144 and the UE supports no more than two spatial layers; else 1
unfoldable pub k_c : ℕ → ℕ → ℕ
k_c Nsoft layers = cond (eqb Nsoft 35982720) 5 (cond (eqb Nsoft 3654144 && leb layers 2) 2 1)

-- Release 11 divides by K_C, Release 8 has no K_C
unfoldable pub divisor_in : ℕ → ℕ → ℕ → ℕ
divisor_in release Nsoft layers = cond (eqb release 11) (k_c Nsoft layers) 1

-- M_limit
unfoldable pub m_limit : ℕ
m_limit = 8

-- N_IR = ⌊N_soft / (K_C · K_MIMO · min(M_DL_HARQ, M_limit))⌋
unfoldable pub n_ir : ℕ → ℕ → ℕ → ℕ → ℕ → ℕ
n_ir release k_mimo processes Nsoft layers = Nsoft / (divisor_in release Nsoft layers * k_mimo * min processes m_limit)

-- ⌊N_IR / C⌋, each code block's share
unfoldable pub soft_share : ℕ → ℕ → ℕ → ℕ → ℕ → ℕ → ℕ
soft_share C release k_mimo processes Nsoft layers = n_ir release k_mimo processes Nsoft layers / C

-- the share of an uplink's code block, which no circle passes: that of the largest, with R = 193
abbrev pub whole_share : ℕ
whole_share = 18528
