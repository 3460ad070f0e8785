-- How single numbers stand in a row, for the contracts of `src/stored.rt`; and lists of them, read and written one after the other.
-- Assumes nothing.
use Rattle.std.specs.Prelude.{◌≡◌, refl, List, [], ◌∷◌, ℕ, zero, suc, ◌+◌, ◌-◌, ◌*◌, ◌<◌, ◌≤◌, length, get_or, take, drop, flat_map}
use Rattle.std.proofs.Common.{sym, ap, subst, ◌∙◌, arith, length-append, length-drop, length-take-le, take_all, zero-add}
use Rattle.std.proofs.Math.Decide.{ℕ_discrete}
use Rattle.std.proofs.Math.Nat.{mul-le-mul_left}
use Rattle.std.proofs.lemmas.List.{same_lists, take_more, flat_map_more}
use Rattle.std.specs.Array.{IsFromFnResult, IsFromFnResultFrom, index_steps}
use Rattle.std.specs.Iterator.{CallableAtEachTurn}
use Rattle.std.specs.List.{FoldsTo}
use borrow.Rule.Slice.PartMut.{mid_of, put_mid}
use Rattle.laws.specs.Part.{overlaid, put_overlaid}
use Rattle.laws.specs.Fill.{made, made_length, made_at, overlaid_next}
use denote.Param.Members.{Mut, Called}

-- a number of up to 32 bits stands in one place, which is there and holds no more than such a number can be
abbrev pub one : ℕ → List ℕ
one x = x ∷ []

abbrev pub InOne : ℕ → List ℕ → Type 0
InOne most row = (0 < length row) × (get_or row 0 0 ≤ most)

-- one of 32 bits in one, and a key in two, whatever they hold
abbrev pub There : List ℕ → Type 0
There row = 0 < length row

abbrev pub InTwo : List ℕ → Type 0
InTwo row = 1 < length row

-- `array::from_fn(|i| ..)`, where no call changes what the closure holds: what it gives, and what its calls ask
module _ {F X : Type 0} (g : Mut F (ℕ × Unit {0}) X) (v : ℕ → X) (n : ℕ) (f : F) (gives : (i : ℕ) (y : X) (q : F) → i < n → Called g f (i, tt) y q → (y ≡ v i) × (q ≡ f)) (ys : List X) where
  from_at : (i k : ℕ) (p : F) → p ≡ f → i + k ≡ n → IsFromFnResultFrom g p ys i k → (j : ℕ) (d : X) → i ≤ j → j < n → get_or ys j d ≡ v j
  from_at i zero p e s r j d a b = absurd (omega arith)
  from_at i (suc k) p e s r j d a b =
      let said = gives i r.1 r.0 (omega arith) (subst (λ (h : F). Called g h (i, tt) r.1 r.0) e r.3) in
      go said.0 (λ h. from_at (i + 1) k r.0 said.1 (omega arith) r.4 j d h b) (ℕ_discrete i j)
    where
      go : r.1 ≡ v i → (i + 1 ≤ j → get_or ys j d ≡ v j) → Dec (i ≡ j) → get_or ys j d ≡ v j
      go y h (yes q) = rw (← q) (r.2.1 d ∙ y)
      go y h (no z) = h (omega arith)

  pub made_by_fn : IsFromFnResult g f ys n → ys ≡ made v n
  made_by_fn r =
      same_lists ys (made v n) (r.long ∙ sym (made_length v n)) (λ i d h.
      let l : i < n = omega (arith, r.long) in
      from_at 0 n f refl (omega arith) r.each i d (omega arith) l ∙ sym (made_at v n i d l))

module _ {F : Type 0} (R : F → ℕ → F → Type 0) (f : F) (stays : (i : ℕ) (q : F) → R f i q → q ≡ f) where
  unmoved : (xs : List ℕ) (p q : F) → p ≡ f → FoldsTo R p xs q → q ≡ f
  unmoved [] p q e s = sym s ∙ e
  unmoved (x ∷ xs) p q e s = unmoved xs s.0 q (stays x s.0 (subst (λ (h : F). R h x s.0) e s.1)) s.2

  pub each_below : (Q : F → ℕ → Type 0) (n : ℕ) → ((i : ℕ) → i < n → Q f i) → CallableAtEachTurn (index_steps n) R Q 0 f
  each_below Q n may = record {
    at = λ xs t q x u y s m. subst (λ (h : F). Q h x) (sym (unmoved xs f q refl s)) (may x (rw m.1 m.0));
  }

-- what `&xs[a..]` lends
abbrev pub behind : {X : Type 0} → ℕ → List X → List X
behind a xs = take (length xs - a) (drop a xs)

pub tail : {X : Type 0} (a : ℕ) (xs : List X) → behind a xs ≡ drop a xs
tail a xs = take_all (length xs - a) (drop a xs) (omega (arith, length-drop a xs))

-- and what a buffer holds after the front of `&mut buffer[at..]` was written
pub put_front : (at : ℕ) (buffer lent xs : List ℕ) → lent ≡ overlaid 0 xs (mid_of at (length buffer - at) buffer) → put_mid at (length buffer - at) buffer lent ≡ overlaid at xs buffer
put_front at buffer lent xs e = rw (e, zero-add (length xs)) (put_overlaid at buffer xs)

-- the places of number i of n, w places each, are among those of all
pub within : (w n i most : ℕ) → i < n → w * n ≤ most → w * i + w ≤ most
within w n i most l r = let m : w * (i + 1) ≤ w * n = mul-le-mul_left w (omega arith) in omega arith

-- a loop that writes a list's elements one after the other, each in w places
module _ {X : Type 0} (places : X → List ℕ) (w : ℕ) (long : (x : X) → length (places x) ≡ w) where
  flat_length : (xs : List X) → length (flat_map places xs) ≡ w * length xs
  flat_length [] = omega arith
  flat_length (x ∷ xs) = length-append (places x) (flat_map places xs) ∙ omega (arith, long x, flat_length xs)

  pub put_more : (i k : ℕ) (xs : List X) (d : X) (l₀ l lent : List ℕ) → i < length xs → k ≡ w → w * length xs ≤ length l₀ → l ≡ overlaid 0 (flat_map places (take i xs)) l₀
      → lent ≡ overlaid 0 (places (get_or xs i d)) (mid_of (k * i) (length l - k * i) l) → put_mid (k * i) (length l - k * i) l lent ≡ overlaid 0 (flat_map places (take (i + 1) xs)) l₀
  put_more i k xs d l₀ l lent h e room o n =
      let many : length (take i xs) ≡ i = length-take-le i xs (omega arith) in
      let q : k * i ≡ 0 + length (flat_map places (take i xs)) = rw e (omega (arith, flat_length (take i xs), ap (λ j. w * j) many)) in
      let m : w * i ≤ w * length xs = mul-le-mul_left w (omega arith) in
      let r : k * i ≤ length l₀ = rw e (omega arith) in
      put_front (k * i) l lent (places (get_or xs i d)) n
      ∙ overlaid_next 0 (k * i) l₀ l (flat_map places (take i xs)) (places (get_or xs i d)) o q r
      ∙ ap (λ (ys : List ℕ). overlaid 0 ys l₀) (flat_map_more places [] (take i xs) (get_or xs i d) ∙ ap (flat_map places) (sym (take_more xs i d h)))
