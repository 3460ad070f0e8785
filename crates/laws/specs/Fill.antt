-- A buffer filled from a place on, front to back: lists by their elements, and lists written over a buffer one after the other.
-- Assumes nothing.
use Rattle.std.specs.Prelude.{◌≡◌, refl, List, [], ◌∷◌, ◌++◌, ℕ, zero, suc, ◌+◌, ◌≤◌, ◌<◌, length, get_or, set, take, drop}
use Rattle.std.proofs.Common.{sym, ap, ◌∙◌, append-nil, append_assoc, add-zero, add_assoc, zero-add, add-one, arith, length-append, length-take, length-drop, length-set, drop_of_length-le, take-append-drop, take_at, drop_at, drop-drop, ext_get_or, get_or-set_same, get_or-set_other}
use Rattle.std.proofs.Math.Decide.{ℕ_discrete}
use Rattle.std.proofs.Math.ListN.{get_or-append}
use Rattle.std.proofs.lemmas.List.{get_or_at, set_split}
use Rattle.laws.specs.Part.{overlaid}

-- f 0, f 1, .. f (n - 1)
unfoldable pub made : {X : Type 0} → (ℕ → X) → ℕ → List X
made f zero = []
made f (suc i) = made f i ++ (f i ∷ [])

pub made_more : {X : Type 0} (f : ℕ → X) (i : ℕ) → made f (i + 1) ≡ made f i ++ (f i ∷ [])
unfolding made
made_more f i = rw add-one

pub made_length : {X : Type 0} (f : ℕ → X) (n : ℕ) → length (made f n) ≡ n
unfolding made
made_length f zero = refl
made_length f (suc i) = length-append (made f i) (f i ∷ []) ∙ omega (arith, made_length f i)

pub made_at : {X : Type 0} (f : ℕ → X) (n i : ℕ) (d : X) → i < n → get_or (made f n) i d ≡ f i
unfolding made
made_at f zero i d l = absurd (omega arith)
made_at f (suc n) i d l = go (λ k. made_at f n i d k) (ℕ_discrete i n)
  where
    go : (i < n → get_or (made f n) i d ≡ f i) → Dec (i ≡ n) → get_or (made f (suc n)) i d ≡ f i
    go ih (yes e) = rw e (get_or_at (made f n) (f n) [] d n (made_length f n))
    go ih (no q) = get_or-append (made f n) (f n ∷ []) d i (omega (arith, made_length f n)) ∙ ih (omega arith)

-- nothing written; the length stays; one list written after another is both in a row
module _ {X : Type 0} (at : ℕ) (l : List X) where
  pub overlaid_none : l ≡ overlaid at [] l
  overlaid_none = sym (rw add-zero (take-append-drop at l))

  module _ (xs : List X) (room : at + length xs ≤ length l) where
    pub overlaid_length : length (overlaid at xs l) ≡ length l
    overlaid_length = simp (length-append, length-take, length-drop) (omega arith)

    front : take (at + length xs) (overlaid at xs l) ≡ take at l ++ xs
    front = rw (← append_assoc (take at l) xs (drop (at + length xs) l)) (take_at (take at l ++ xs) (drop (at + length xs) l) (at + length xs) (simp (length-append, length-take) (omega arith)))

    behind : (k : ℕ) → drop (at + length xs + k) (overlaid at xs l) ≡ drop (at + length xs + k) l
    behind k =
        rw (← append_assoc (take at l) xs (drop (at + length xs) l), ← drop-drop k (at + length xs) ((take at l ++ xs) ++ drop (at + length xs) l))
        (ap (drop k) (drop_at (take at l ++ xs) (drop (at + length xs) l) (at + length xs) (simp (length-append, length-take) (omega arith))) ∙ drop-drop k (at + length xs) l)

    pub overlaid_more : (ys : List X) → overlaid (at + length xs) ys (overlaid at xs l) ≡ overlaid at (xs ++ ys) l
    overlaid_more ys = rw (front, behind (length ys), append_assoc, append_assoc, length-append, add_assoc)

-- what was written at the front stands there
module _ {X : Type 0} (xs l : List X) where
  pub overlaid_front : take (length xs) (overlaid 0 xs l) ≡ xs
  overlaid_front = take_at xs (drop (0 + length xs) l) (length xs) refl

  pub overlaid_at : (i : ℕ) (d : X) → i < length xs → get_or (overlaid 0 xs l) i d ≡ get_or xs i d
  overlaid_at i d h = get_or-append xs (drop (0 + length xs) l) d i h

-- one place stored
pub overlaid_one : {X : Type 0} (at : ℕ) (l : List X) (v : X) → at < length l → set l at v ≡ overlaid at (v ∷ []) l
overlaid_one at l v h = rw add-one (set_split l at v h)

-- one list more, written after those that stand there
pub overlaid_next : {X : Type 0} (at k : ℕ) (l₀ l xs ys : List X) → l ≡ overlaid at xs l₀ → k ≡ at + length xs → k ≤ length l₀ → overlaid k ys l ≡ overlaid at (xs ++ ys) l₀
overlaid_next at k l₀ l xs ys e q r = rw (e, q) (overlaid_more at l₀ xs (omega arith) ys)

-- what a loop that fills knows at i: the places from `at` on hold the first i elements
pub record Filled {X : Type 0} (f : ℕ → X) (at : ℕ) (l₀ l : List X) (i : ℕ) : Type 0 where
  pub done : l ≡ overlaid at (made f i) l₀
  pub long : length l ≡ length l₀

pub filled_zero : {X : Type 0} (f : ℕ → X) (at : ℕ) (l : List X) → Filled f at l l 0
unfolding made
filled_zero f at l = record { done = overlaid_none at l; long = refl }

pub filled_more : {X : Type 0} (f : ℕ → X) (at : ℕ) (l₀ l : List X) (i : ℕ) → Filled f at l₀ l i → at + i < length l₀ → (v : X) → v ≡ f i → Filled f at l₀ (set l (at + i) v) (i + 1)
filled_more {X} f at l₀ l i w h v e =
    let q : at + i ≡ at + length (made f i) = omega (arith, made_length f i) in
    record {
      done = overlaid_one (at + i) l v (omega (arith, w.long)) ∙ rw e (overlaid_next at (at + i) l₀ l (made f i) (f i ∷ []) w.done q (omega arith)) ∙ ap (λ (xs : List X). overlaid at xs l₀) (sym (made_more f i));
      long = length-set l (at + i) v ∙ w.long;
    }

-- the same from the front on
pub filled_front : {X : Type 0} (f : ℕ → X) (l₀ l : List X) (i : ℕ) → Filled f 0 l₀ l i → i < length l₀ → (v : X) → v ≡ f i → Filled f 0 l₀ (set l i v) (i + 1)
filled_front f l₀ l i w h v e = rw zero-add at (filled_more f 0 l₀ l i w (omega arith) v e)

pub filled_end : {X : Type 0} (f : ℕ → X) (at n : ℕ) (l₀ l : List X) (i : ℕ) → Filled f at l₀ l i → i ≤ n → n ≤ i → l ≡ overlaid at (made f n) l₀
filled_end f at n l₀ l i w a b = let q : i ≡ n = omega arith in rw q at w.done

-- a list as long as the one that it is written over is all that is left
pub overlaid_whole : {X : Type 0} (xs l : List X) → length xs ≡ length l → overlaid 0 xs l ≡ xs
overlaid_whole xs l e = rw (drop_of_length-le l {i = 0 + length xs} (omega arith), append-nil)

-- all places filled
pub filled_whole : {X : Type 0} (f : ℕ → X) (n : ℕ) (l₀ l : List X) (i : ℕ) → Filled f 0 l₀ l i → i ≤ n → n ≤ i → length l₀ ≡ n → l ≡ made f n
filled_whole f n l₀ l i w a b e = filled_end f 0 n l₀ l i w a b ∙ overlaid_whole (made f n) l₀ (made_length f n ∙ sym e)

-- a list made of f, with the one place stored at which g differs, is made of g
pub made_set : {X : Type 0} (f g : ℕ → X) (n i : ℕ) → i < n → ((x : ℕ) → x < n → (x ≡ i → ⊥) → f x ≡ g x) → set (made f n) i (g i) ≡ made g n
made_set f g n i l e = ext_get_or (g i) (set (made f n) i (g i)) (made g n) (long ∙ sym (made_length g n)) (λ x k. at x (omega (arith, long)) (ℕ_discrete x i))
  where
    long : length (set (made f n) i (g i)) ≡ n
    long = length-set (made f n) i (g i) ∙ made_length f n

    at : (x : ℕ) → x < n → Dec (x ≡ i) → get_or (set (made f n) i (g i)) x (g i) ≡ get_or (made g n) x (g i)
    at x k (yes q) = rw q (get_or-set_same (made f n) i (g i) (g i) (omega (arith, made_length f n)) ∙ sym (made_at g n i (g i) l))
    at x k (no z) = get_or-set_other (made f n) i x (g i) (g i) z ∙ made_at f n x (g i) k ∙ e x k z ∙ sym (made_at g n x (g i) k)
