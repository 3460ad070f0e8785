-- The five elementary steps that every call is a list of, each by what it does at one state while all others stay as they are.
-- Applying a passage is a touch of its far end, then an advance of its near end's place. The end of a search changes nothing that a view shows.
use Rattle.std.specs.Prelude.{◌≡◌, ◌⊎◌, ◌≢◌, ℕ, suc, ◌*◌, ◌≤◌, ◌<◌}
use Rattle.std.proofs.Common.{sym, subst, arith}
use Rattle.std.proofs.Math.Decide.{dec_le, ℕ_discrete}
use Rattle.argument.specs.Route.{Graph}
use Rattle.argument.specs.View.{View}
use Rattle.argument.specs.Front.{Reached, Allowed}
use Rattle.argument.specs.Chain.{Kept, Linked}

-- what holds of one state, and of every other, holds of all
pub at_or : (s : ℕ) {P : ℕ → Type 0} → P s → ((x : ℕ) → x ≢ s → P x) → (x : ℕ) → P x
at_or s {P} a o x = go (ℕ_discrete x s)
  where
    go : Dec (x ≡ s) → P x
    go (yes e) = subst P (sym e) a
    go (no n) = o x n

-- everything known of x stays
pub record Same (v w : View) (x : ℕ) : Type 0 where
  pub mark : w.mark x ≡ v.mark x
  pub label : w.label x ≡ v.label x
  pub via : w.via x ≡ v.via x
  pub front : w.front x ≡ v.front x
  pub bound : w.bound x ≡ v.bound x
  pub place : w.place x ≡ v.place x

-- the waiting state s is dealt at b, which the comparison allows and which is 100 × its label at least; its place is 0
pub record Deal (E : ℕ) (h : ℕ → ℕ → ℕ) (v w : View) (s b : ℕ) : Type 0 where
  pub live : 1 ≤ v.mark s
  pub idle : v.mark s ≢ 2
  pub fresh : v.mark s ≢ 3
  pub pays : 100 * v.label s ≤ b
  pub allowed : Allowed E h v b s
  pub mark : w.mark s ≡ 2
  pub label : w.label s ≡ v.label s
  pub via : w.via s ≡ v.via s
  pub front : w.front s ≡ v.front s
  pub bound : w.bound s ≡ b
  pub place : w.place s ≡ 0
  pub other : (x : ℕ) → x ≢ s → Same v w x

-- a passage is applied at its far end q: a state dealt before keeps all but its front; another is open now, and keeps its label and its passage
-- or gets both from a state dealt before. The front of a seen state doesn't rise
pub record Touch (g : Graph) (start n : ℕ) (v w : View) (q : ℕ) : Type 0 where
  pub inside : q < n
  pub kept : 2 ≤ v.mark q →
      (w.mark q ≡ v.mark q) × (w.label q ≡ v.label q) × (w.via q ≡ v.via q) × (w.bound q ≡ v.bound q) × (w.place q ≡ v.place q)
  pub opened : v.mark q ≤ 1 → (w.mark q ≡ 1) × (w.place q ≡ 0)
  pub front : 1 ≤ v.mark q → w.front q ≤ v.front q
  pub link : v.mark q ≤ 1 → Kept v w q ⊎ Linked g start v w q
  pub other : (x : ℕ) → x ≢ q → Same v w x

-- a touched state that was seen stays seen
pub touch_seen : (g : Graph) (start n : ℕ) (v w : View) (q : ℕ) → Touch g start n v w q → 1 ≤ v.mark q → 1 ≤ w.mark q
touch_seen g start n v w q d l = go (dec_le 2 (v.mark q))
  where
    go : Dec (2 ≤ v.mark q) → 1 ≤ w.mark q
    go (yes a) = omega (arith, d.kept a)
    go (no a) = omega (arith, d.opened (omega arith))

-- the place of p goes past passage i, which has reached its far end where it is a passage of p; all else stays
pub record Advance (g : Graph) (E : ℕ) (v w : View) (p i : ℕ) : Type 0 where
  pub reached : g.edge i → g.near i ≡ p → Reached E g v p i
  pub from : v.place p ≡ i
  pub to : w.place p ≡ suc i
  pub mark : (x : ℕ) → w.mark x ≡ v.mark x
  pub label : (x : ℕ) → w.label x ≡ v.label x
  pub via : (x : ℕ) → w.via x ≡ v.via x
  pub front : (x : ℕ) → w.front x ≡ v.front x
  pub bound : (x : ℕ) → w.bound x ≡ v.bound x
  pub other : (x : ℕ) → x ≢ p → w.place x ≡ v.place x

-- the out state p, whose passages are all applied, is finished
pub record Finish (count : ℕ) (v w : View) (p : ℕ) : Type 0 where
  pub out : v.mark p ≡ 2
  pub all : count ≤ v.place p
  pub mark : w.mark p ≡ 3
  pub label : w.label p ≡ v.label p
  pub via : w.via p ≡ v.via p
  pub front : w.front p ≡ v.front p
  pub bound : w.bound p ≡ v.bound p
  pub place : w.place p ≡ v.place p
  pub other : (x : ℕ) → x ≢ p → Same v w x

-- the out state p is lost, and waits again: its front is 100 × its label, and its place is 0
pub record Lose (v w : View) (p : ℕ) : Type 0 where
  pub out : v.mark p ≡ 2
  pub mark : w.mark p ≡ 4
  pub label : w.label p ≡ v.label p
  pub via : w.via p ≡ v.via p
  pub front : w.front p ≡ 100 * v.label p
  pub place : w.place p ≡ 0
  pub other : (x : ℕ) → x ≢ p → Same v w x
