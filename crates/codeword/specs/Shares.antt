-- The shares of the code blocks in a transmission of G bits, clause 5.1.4.1.2.
-- Assumes nothing.
use Rattle.std.specs.Prelude.{cond, ℕ, zero, suc, ◌+◌, ◌-◌, ◌*◌, ◌/◌, ◌%◌, leb}
use Rattle.codeword.specs.declared.Grant.{Grant}

-- a grant in 01's letters
abbrev pub grant : ℕ → ℕ → ℕ → ℕ → Grant
grant Q N v G = record { modulation = Q; layers = N; version = v; bits = G }

-- G' = G / (N_L·Q_m)
unfoldable pub symbols : ℕ → ℕ → ℕ → ℕ
symbols Q N G = G / (N * Q)

-- E of code block r of C: N_L·Q_m·⌊G' / C⌋ where r ≤ C − γ − 1 with γ = G' mod C, else N_L·Q_m·⌈G' / C⌉
unfoldable pub share : ℕ → ℕ → ℕ → ℕ → ℕ → ℕ
share C Q N G r =
    cond (leb (r + symbols Q N G % C + 1) C)
    (N * Q * (symbols Q N G / C))
    (N * Q * ((symbols Q N G + (C - 1)) / C))

-- the sum of the shares of the code blocks before r: where the stretch of code block r starts
unfoldable pub shares_before : ℕ → ℕ → ℕ → ℕ → ℕ → ℕ
shares_before C Q N G zero = 0
shares_before C Q N G (suc r) = shares_before C Q N G r + share C Q N G r

-- both for a grant
abbrev pub granted : ℕ → Grant → ℕ → ℕ
granted C g r = share C g.modulation g.layers g.bits r

abbrev pub granted_before : ℕ → Grant → ℕ → ℕ
granted_before C g r = shares_before C g.modulation g.layers g.bits r
