-- Table 5.1.4-1 of clause 5.1.4.1.1 as printed; no code cites it.
-- Assumes nothing.
use Rattle.std.specs.Prelude.{List, [], ◌∷◌, ℕ}

-- P(0), .., P(31)
unfoldable pub printed_columns : List ℕ
printed_columns =
    0 ∷ 16 ∷ 8 ∷ 24 ∷ 4 ∷ 20 ∷ 12 ∷ 28 ∷ 2 ∷ 18 ∷ 10 ∷ 26 ∷ 6 ∷ 22 ∷ 14 ∷ 30 ∷ 1 ∷ 17 ∷ 9 ∷ 25 ∷ 5 ∷ 21 ∷ 13 ∷ 29 ∷ 3 ∷ 19 ∷ 11 ∷ 27 ∷ 7 ∷ 23 ∷ 15 ∷ 31 ∷ []
