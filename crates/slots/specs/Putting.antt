-- Values put at places as they come, 01 'Receive' and demand 3: what a place keeps meets each value that arrives for it. What is kept, what arrives and how
-- the two meet are parameters; bits that must agree (02, E2) are one case.
-- Assumes nothing.
use Rattle.std.specs.Prelude.{cond, List, [], ◌∷◌, ℕ, eqb, drop, get_or, set}

-- how places that keep an X meet arriving values Y; `none` and `nothing` stand for entries that a list does not have
pub record Keeping (X Y : Type 0) : Type 0 where
  pub none : X
  pub nothing : Y
  pub meets : X → Y → X

-- what is kept after values for some places, in arrival order
unfoldable pub put_along : {X Y : Type 0} → Keeping X Y → List ℕ → List Y → List X → List X
put_along how [] values kept = kept
put_along how (j ∷ js) values kept =
    put_along how js (drop 1 values) (set kept j (how.meets (get_or kept j how.none) (get_or values 0 how.nothing)))

-- those of the values, given for some places in arrival order, that are for place j
unfoldable pub arriving : {X Y : Type 0} → Keeping X Y → List ℕ → List Y → ℕ → List Y
arriving how [] values j = []
arriving how (p ∷ ps) values j =
    cond (eqb p j)
    (get_or values 0 how.nothing ∷ arriving how ps (drop 1 values) j)
    (arriving how ps (drop 1 values) j)

-- what a place that kept `old` keeps after values, in arrival order
unfoldable pub met_by : {X Y : Type 0} → Keeping X Y → X → List Y → X
met_by how old [] = old
met_by how old (w ∷ ws) = met_by how (how.meets old w) ws
