-- Laws of the unit that the cut shortens, in the matcher's ring: all its bits are put, and the first are counted.
-- Assumes nothing.
use mathlib.Core.Path.{◌≡◌, sym, ◌∙◌, ap}
use mathlib.Core.List.{List, ◌++◌, append-nil}
use Prim.Native.Nat.{ℕ, ◌+◌, ◌*◌, ◌≤◌, ◌<◌}
use native.Mathlib.Decide.{dec_lt}
use native.Mathlib.Omega.{arith}
use lib.ListN.{length, take, length-append, length-take}
use lib.Seq.{length-take-le, take-append-add, take-take}
use Rattle.bit_selection.specs.inner.Ring.{Holds, Put, PutTo}

-- nothing is put where there is no bit, or enough is there
pub rest_none : (bits : List ℕ) {most rest n : ℕ} {ring : List ℕ} → n ≤ length ring → rest ≡ 0 → PutTo most (take rest bits) rest ring n ring n
rest_none bits {most} {rest} {n} {ring} h z = record {
  within = omega arith;
  inside = h;
  told = ap (take most) (sym (append-nil (take n ring)) ∙ ap (λ (k : ℕ). take n ring ++ take k bits) (sym z));
}

-- there is room for the whole unit
pub rest_fits : {R most n room : ℕ} → Holds R most (n + 2 * R) room → n < most → n + 2 * R ≤ room
rest_fits {R} {most} {n} {room} h l = elim (dec_lt room (most + 2 * R)) [ yes g ↦ h.fits g | no g ↦ omega arith ]

-- a number of the bits that were put
put_some : {bits ring ring' : List ℕ} {n r c : ℕ} → Put bits ring n ring' r → n ≤ length ring → c ≤ length bits → take (n + c) ring' ≡ take n ring ++ take c bits
put_some {bits} {ring} {ring'} {n} {r} {c} p h g =
    sym (take-take (n + c) r ring' (omega (arith, p.ends)))
    ∙ ap (take (n + c)) p.told
    ∙ ap (λ (k : ℕ). take (k + c) (take n ring ++ bits)) (sym (length-take-le n ring h))
    ∙ take-append-add (take n ring) bits c

pub rest_put : {bits : List ℕ} {most rest n r : ℕ} {ring ring' : List ℕ} → n ≤ length ring → rest ≤ length bits → Put bits ring n ring' r
    → PutTo most (take rest bits) rest ring n ring' (n + rest)
rest_put {bits} {most} {rest} {n} {r} {ring} {ring'} h few p = record {
  within = omega arith;
  inside = omega (arith, p.ends, ap length p.told, length-take r ring', length-append (take n ring) bits, length-take-le n ring h);
  told = ap (take most) (put_some p h few);
}
