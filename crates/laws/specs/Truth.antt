-- Truth values: conjunctions taken apart and put together, and the ladder of refusals.
-- Assumes nothing.
use Rattle.std.specs.Prelude.{◌≡◌, refl, Bool, true, false, ◌&&◌, ◌||◌, cond, ◌⊎◌, ℕ, Result, Ok, Err, is_ok}
use Rattle.std.proofs.Common.{sym, ap, inl, inr}
use Rattle.std.proofs.lemmas.Bool.{false≢true}

pub and_left : (a b : Bool) → (a && b) ≡ true → a ≡ true
and_left true b e = refl
and_left false b e = e

pub and_right : (a b : Bool) → (a && b) ≡ true → b ≡ true
and_right true b e = e
and_right false b e = absurd (false≢true e)

pub and_both : {a b : Bool} → a ≡ true → b ≡ true → (a && b) ≡ true
and_both {a} {b} p q = rw (p, q)

pub and_false : (b : Bool) → (b && false) ≡ false
and_false true = refl
and_false false = refl

pub and_true : (b : Bool) → (b && true) ≡ b
and_true true = refl
and_true false = refl

pub or_either : (a b : Bool) → (a || b) ≡ true → (a ≡ true) ⊎ (b ≡ true)
or_either true b e = inl refl
or_either false b e = inr e

pub or_second : (a b : Bool) → b ≡ true → (a || b) ≡ true
or_second true b e = refl
or_second false b e = e

pub never_true : (b : Bool) → (b ≡ true → ⊥) → b ≡ false
never_true true f = absurd (f refl)
never_true false f = refl

-- where each of two follows from the other, they are the same
pub same_truth : (a b : Bool) → (a ≡ true → b ≡ true) → (b ≡ true → a ≡ true) → a ≡ b
same_truth true b f g = sym (f refl)
same_truth false true f g = g refl
same_truth false false f g = refl

-- what holds of both sides of a choice holds of what is chosen
pub cond_either : {A : Type 0} (P : A → Type 0) (b : Bool) (first second : A) → P first → P second → P (cond b first second)
cond_either P true first second p q = p
cond_either P false first second p q = q

-- the same, where each side has what the test came to
pub cond_cases : {A : Type 0} (P : A → Type 0) (b : Bool) (first second : A) → (b ≡ true → P first) → (b ≡ false → P second) → P (cond b first second)
cond_cases P true first second p q = p refl
cond_cases P false first second p q = q refl

-- "The first that applies is given": what a call comes to, provided that a condition holds; else the refusal beside it.
abbrev pub provided : {A : Type 0} → Bool → A → A → A
provided true refusal call = call
provided false refusal call = refusal

-- what holds of the refusal, and of the call where the condition holds, holds of both together
pub provided_either : {A : Type 0} (P : A → Type 0) (ok : Bool) (refusal call : A) → P refusal → (ok ≡ true → P call) → P (provided ok refusal call)
provided_either P true refusal call r c = c refl
provided_either P false refusal call r c = r

-- of two calls in the same place: both are refused, or the condition holds
pub provided_both : {A : Type 0} (P : A → A → Type 0) (ok : Bool) (refusal call other : A) → P refusal refusal → (ok ≡ true → P call other) → P (provided ok refusal call) (provided ok refusal other)
provided_both P true refusal call other r c = c refl
provided_both P false refusal call other r c = r

-- what doesn't hold of the refusal and holds of both together: the condition holds, and it holds of the call
pub provided_held : {A : Type 0} (P : A → Type 0) (ok : Bool) (refusal call : A) → (P refusal → ⊥) → P (provided ok refusal call) → (ok ≡ true) × P call
provided_held P true refusal call n p = (refl, p)
provided_held P false refusal call n p = absurd (n p)

-- a ladder that comes to 0 beside a refusal that isn't 0: its condition holds, and the rest comes to 0
pub provided_kept : (ok : Bool) (refusal call : ℕ) → (refusal ≡ 0 → ⊥) → provided ok refusal call ≡ 0 → (ok ≡ true) × (call ≡ 0)
provided_kept ok refusal call n e = provided_held (λ x. x ≡ 0) ok refusal call n e

-- a reply that has nothing to say but whether it is refused
module _ {E : Type 0} where
  pub not_refused : {V : Type 0} {v : V} {refusal : E} → Ok v ≡ Err refusal → ⊥
  not_refused e = false≢true (sym (ap is_ok e))

  pub passed : (r : Result (Unit {0}) E) → is_ok r ≡ true → r ≡ Ok tt
  passed (Ok tt) e = refl
  passed (Err refusal) e = absurd (false≢true e)

-- a ladder that comes to `Ok` beside a refusal: its condition holds, and the rest comes to the same
pub provided_ok : {V E : Type 0} {v : V} (ok : Bool) (refusal : E) (call : Result V E) → provided ok (Err refusal) call ≡ Ok v → (ok ≡ true) × (call ≡ Ok v)
provided_ok {v = v} ok refusal call e = provided_held (λ x. x ≡ Ok v) ok (Err refusal) call (λ q. not_refused (sym q)) e
