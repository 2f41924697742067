-- What the test tells that a code block, a cut and a version pass of which a turn can be sent, clause 5.1.4.1.2.
-- Assumes nothing.
use mathlib.Core.Path.{◌≡◌}
use mathlib.Core.Bool.{true, ◌&&◌, and-eq-true_iff}
use Prim.Native.Nat.{ℕ, ◌*◌, ◌%◌, ◌≤◌}
use native.Mathlib.Omega.{arith}
use lib.Dec.{eqb, leb, ltb}
use borrow.Author.Tests.{eqb-true, leb-true, ltb-true, eq-eqb, le-leb, lt-ltb}
use Rattle.rate_matching.specs.SubBlocks.{rows}
use Rattle.rate_matching.specs.Circle.{circle_length, Cut}
use Rattle.rate_matching.specs.Places.{longest}
use Rattle.rate_matching.specs.Units.{Fitting}
use Rattle.rate_matching.specs.Turns.{matchable}

pub record Matchable (D D1 D2 F Ncb v : ℕ) : Type 0 where
  pub fits : Fitting D D1 D2 F
  pub least : 44 ≤ D
  pub cut : Cut Ncb (rows D)
  pub version : v ≤ 3

pub matchable_told : {D D1 D2 F Ncb v : ℕ} → matchable D D1 D2 F Ncb v ≡ true → Matchable D D1 D2 F Ncb v
unfolding matchable rows
matchable_told {D} {D1} {D2} {F} {Ncb} {v} t =
    let a = (and-eq-true_iff (leb D longest && eqb D1 D && eqb D2 D && leb 44 D && eqb (D % 8) 4 && ltb F D && leb (32 * rows D) Ncb && leb Ncb (circle_length (rows D))) (leb v 3)).0 t in
    let a' = (and-eq-true_iff (leb D longest && eqb D1 D && eqb D2 D && leb 44 D && eqb (D % 8) 4 && ltb F D && leb (32 * rows D) Ncb) (leb Ncb (circle_length (rows D)))).0 a.0 in
    let a'' = (and-eq-true_iff (leb D longest && eqb D1 D && eqb D2 D && leb 44 D && eqb (D % 8) 4 && ltb F D) (leb (32 * rows D) Ncb)).0 a'.0 in
    let b = (and-eq-true_iff (leb D longest && eqb D1 D && eqb D2 D && leb 44 D && eqb (D % 8) 4) (ltb F D)).0 a''.0 in
    let c = (and-eq-true_iff (leb D longest && eqb D1 D && eqb D2 D && leb 44 D) (eqb (D % 8) 4)).0 b.0 in
    let d = (and-eq-true_iff (leb D longest && eqb D1 D && eqb D2 D) (leb 44 D)).0 c.0 in
    let e = (and-eq-true_iff (leb D longest && eqb D1 D) (eqb D2 D)).0 d.0 in
    let f = (and-eq-true_iff (leb D longest) (eqb D1 D)).0 e.0 in
    record {
      fits = record {
        first = eqb-true D1 D f.1;
        second = eqb-true D2 D e.1;
        some = eqb-true (D % 8) 4 c.1;
        most = leb-true D longest f.0;
        filler = ltb-true F D b.1;
      };
      least = leb-true 44 D d.1;
      cut = record {
        some = omega (arith, leb-true 44 D d.1);
        least = leb-true (32 * rows D) Ncb a''.1;
        most = leb-true Ncb (circle_length (rows D)) a'.1;
      };
      version = leb-true v 3 a.1;
    }

pub matchable_is : {D D1 D2 F Ncb v : ℕ} → Matchable D D1 D2 F Ncb v → matchable D D1 D2 F Ncb v ≡ true
unfolding matchable
matchable_is {D} {D1} {D2} m =
    simp (
      le-leb _ _ m.fits.most,
      eq-eqb D1 D m.fits.first,
      eq-eqb D2 D m.fits.second,
      le-leb _ _ m.least,
      eq-eqb (D % 8) 4 m.fits.some,
      lt-ltb _ _ m.fits.filler,
      le-leb _ _ m.cut.least,
      le-leb _ _ m.cut.most,
      le-leb _ _ m.version,
    )

pub rows_few : {D D1 D2 F Ncb v : ℕ} → Matchable D D1 D2 F Ncb v → rows D ≤ 193
unfolding rows
rows_few m = omega (arith, m.fits.most)
