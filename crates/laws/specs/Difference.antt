-- The difference of two natural numbers as a signed number: its range, its multiple, and its comparison with a natural number.
-- Assumes nothing.
use Rattle.std.specs.Prelude.{◌≡◌, refl, Bool, true, false, ℕ, zero, suc, ◌+◌, ◌-◌, ◌*◌, ◌≤◌, ◌<◌, ltb, leb, pos, negsuc, neg_ℤ, ◌-ℤ◌, ◌*ℤ◌}
use Rattle.std.proofs.Common.{sym, ap, ◌∙◌, add-zero, arith, ltb-true, ltb-false, leb-true, leb-false, lt-ltb, le-ltb, le-leb}
use Rattle.std.proofs.Math.Nat.{sub-zero}
use Rattle.std.proofs.lemmas.Bool.{lt-leb}
use Rattle.std.proofs.Math.IntN.{sub_ℕ}
use Rattle.std.specs.Int.Signed.{mag, le_z}

pub pos_sub : (a b : ℕ) → pos a -ℤ pos b ≡ sub_ℕ a b
pos_sub a zero = simp (add-zero, sub-zero, le-ltb a 0 (omega arith))
pos_sub a (suc b) = refl

pub mag_sub : (a b n : ℕ) → a < n → b < n → mag (sub_ℕ a b) < n
mag_sub a b n p q = go (ltb a b) refl
  where
    go : (t : Bool) → ltb a b ≡ t → mag (sub_ℕ a b) < n
    go true e = rw e (omega arith)
    go false e = rw e (omega arith)

pub hundred_sub : (a b : ℕ) → pos 100 *ℤ sub_ℕ a b ≡ sub_ℕ (100 * a) (100 * b)
hundred_sub a b = go (ltb a b) refl
  where
    neg : (m k : ℕ) → m ≡ suc k → neg_ℤ (pos m) ≡ negsuc k
    neg m k e = rw e

    go : (t : Bool) → ltb a b ≡ t → pos 100 *ℤ sub_ℕ a b ≡ sub_ℕ (100 * a) (100 * b)
    go true e =
        let l : a < b = ltb-true a b e in
        let l2 : 100 * a < 100 * b = omega arith in
        rw (e, lt-ltb (100 * a) (100 * b) l2) (neg (100 * suc (b - suc a)) (100 * b - suc (100 * a)) (omega arith))
    go false e =
        let l : b ≤ a = ltb-false a b e in
        rw (e, le-ltb (100 * a) (100 * b) (omega arith)) (ap pos (omega arith))

pub le_sub : (x y z : ℕ) → le_z (sub_ℕ x y) (pos z) ≡ leb x (y + z)
le_sub x y z = go (ltb x y) refl
  where
    go2 : (t : Bool) → leb (x - y) z ≡ t → y ≤ x → leb (x - y) z ≡ leb x (y + z)
    go2 true e h = e ∙ sym (le-leb x (y + z) (omega (arith, leb-true (x - y) z e)))
    go2 false e h = e ∙ sym (lt-leb x (y + z) (omega (arith, leb-false (x - y) z e)))

    go : (t : Bool) → ltb x y ≡ t → le_z (sub_ℕ x y) (pos z) ≡ leb x (y + z)
    go true e = rw e (sym (le-leb x (y + z) (omega (arith, ltb-true x y e))))
    go false e = rw e (go2 (leb (x - y) z) refl (ltb-false x y e))
