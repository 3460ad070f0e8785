-- The leads: each block of 16 states has one, the first of its candidates after the last one that was tried. The foremost of the leads is the next candidate, and once that has failed too only its own block has another lead.
use Rattle.std.specs.Prelude.{◌≡◌, Bool, false, cond, ◌&&◌, not, Option, Some, None, List, ◌⊎◌, ℕ, ◌+◌, ◌*◌, ◌/◌, ◌≤◌, ◌<◌, leb, eqb, get_or, set, min}
use Rattle.std.specs.Option.{is_some}
use Rattle.std.proofs.Math.Path.{refl, sym}
use Rattle.std.proofs.Common.{◌∙◌, ap, arith, true≢false}
use Rattle.std.proofs.Math.Bool.{true}
use Rattle.std.proofs.Math.Logic.{inl, inr, ⊎_elim}
use Rattle.std.proofs.Math.Decide.{ℕ_discrete}
use Rattle.std.proofs.Math.Dec.{ltb}
use borrow.Author.Tests.{eq-eqb, ne_eqb, ltb-true, ltb-false, leb-true, lt-ltb, le-ltb, le-leb, lt-leb}
use Rattle.laws.specs.Fill.{made, made_at, made_set}
use Rattle.laws.specs.Truth.{and_left, and_right, and_both, and_false, same_truth}
use Rattle.laws.specs.Least.{Best, best_zero, best_from, best_skip, best_lost, best_won, best_end, best_past, least, least_below, least_passes, least_nothing, least_none, After, least_after, least_only, least_same}
use Rattle.rule.specs.Marks.{is_open}
use Rattle.dealing.specs.Places.{leads_at, leads_by, wins, Leader, leader_none, leader_skip, leader_lost, leader_won}
use Rattle.dealing.specs.LimitedRowLaws.{comes_after, comes_on, next_in, standing, after_of, after_through}

-- t stands at `from` or after it and before `end`, and comes on after the last one; the first of these by key and number, or n
unfoldable pub comes_between : List ℕ → List ℕ → ℕ → Option (ℕ × ℕ) → ℕ → ℕ → ℕ → Bool
comes_between mark row goal last from end t = (leb from t && ltb t end) && comes_on mark row goal last t

unfoldable pub lead_in : List ℕ → List ℕ → ℕ → ℕ → Option (ℕ × ℕ) → ℕ → ℕ → ℕ
lead_in mark row n goal last from end = least (comes_between mark row goal last from end) (λ t. get_or row t 0) n n

-- the lead of block b, the 16 states from 16 * b on; and those of all 16 blocks, each with its key
abbrev pub block_lead : List ℕ → List ℕ → ℕ → ℕ → Option (ℕ × ℕ) → ℕ → ℕ
block_lead mark row n goal last b = lead_in mark row n goal last (16 * b) (16 * b + 16)

unfoldable pub leads_in : List ℕ → List ℕ → ℕ → ℕ → Option (ℕ × ℕ) → List (Option (ℕ × ℕ))
leads_in mark row n goal last = made (λ b. standing row n (block_lead mark row n goal last b)) 16

-- block b has a lead, and its key
abbrev pub has_lead : List (Option (ℕ × ℕ)) → ℕ → Bool
has_lead leads b = is_some (get_or leads b None)

abbrev pub lead_key : List (Option (ℕ × ℕ)) → ℕ → ℕ
lead_key leads b = leads_by (get_or leads b None)

-- the block whose lead is the first by key and number, 16 where none has one; and that lead
unfoldable pub foremost_block : List (Option (ℕ × ℕ)) → ℕ
foremost_block leads = least (has_lead leads) (lead_key leads) 16 16

abbrev lead_of : List (Option (ℕ × ℕ)) → ℕ → Option (ℕ × ℕ)
lead_of leads b = cond (eqb b 16) None (get_or leads b None)

unfoldable pub foremost_lead : List (Option (ℕ × ℕ)) → Option (ℕ × ℕ)
foremost_lead leads = lead_of leads (foremost_block leads)

some_apart : (x : ℕ × ℕ) → Some x ≡ None → ⊥
some_apart x e = let z : ◌≡◌ {A = ℕ} 0 1 = cc in omega arith

-- the lead, by the block that is foremost
module _ (leads : List (Option (ℕ × ℕ))) (b : ℕ) (e : b ≡ foremost_block leads) where
  pub lead_none : b ≡ 16 → None ≡ foremost_lead leads
  unfolding foremost_lead
  lead_none q = rw (← e, eq-eqb b 16 q)

  pub lead_some : (b ≡ 16 → ⊥) → get_or leads b None ≡ foremost_lead leads
  unfolding foremost_lead
  lead_some z = rw (← e, ne_eqb b 16 z)

  pub front_below : (b ≡ 16 → ⊥) → b < 16
  unfolding foremost_block
  front_below z = rw e (least_below _ (lead_key leads) 16 16 (omega arith) (λ q. z (e ∙ q)))

-- what the loop over the leads knows at i: the block whose lead is `best`
pub record Foremost (leads : List (Option (ℕ × ℕ))) (i : ℕ) (best : Option (ℕ × ℕ)) : Type 0 where
  pub block : ℕ
  pub first : Best (has_lead leads) (lead_key leads) 16 i block (leads_by best)
  pub same : best ≡ lead_of leads block
  pub some : (block ≡ 16 → ⊥) → has_lead leads block ≡ true

pub foremost_zero : (leads : List (Option (ℕ × ℕ))) → Foremost leads 0 None
foremost_zero leads = record { block = 16; first = best_zero _ _ _ 0; same = refl; some = λ z. absurd (z refl) }

module _ (leads : List (Option (ℕ × ℕ))) (i : ℕ) (best : Option (ℕ × ℕ)) (w : Foremost leads i best) where
  -- block i has no lead
  pub foremost_skip : get_or leads i None ≡ None → Foremost leads (i + 1) best
  foremost_skip e = record { block = w.block; first = best_skip _ _ _ i _ _ w.first (rw e); same = w.same; some = w.some }

  module _ (x : ℕ × ℕ) (e : get_or leads i None ≡ Some x) where
    -- it has one that can't win
    pub foremost_lost : wins x.1 best ≡ false → Foremost leads (i + 1) best
    foremost_lost q = record { block = w.block; first = go best w q; same = w.same; some = w.some }
      where
        go : (l : Option (ℕ × ℕ)) (v : Foremost leads i l) → wins x.1 l ≡ false → Best (has_lead leads) (lead_key leads) 16 (i + 1) v.block (leads_by l)
        go None v r = absurd (true≢false r)
        go (Some y) v r = best_lost _ _ _ i _ _ v.first (λ z. some_apart y (v.same ∙ rw (eq-eqb v.block 16 z))) (rw e (ltb-false x.1 y.1 r))

    -- it has one that wins
    pub foremost_won : i < 16 → wins x.1 best ≡ true → Foremost leads (i + 1) (Some x)
    foremost_won l q = record {
      block = i;
      first = rw e at (best_won (has_lead leads) (lead_key leads) 16 i _ _ w.first (rw e) (go best w q));
      same = rw (ne_eqb i 16 (λ z. omega arith), e);
      some = λ z. rw e;
    }
      where
        none_block : (v : Foremost leads i None) → Dec (v.block ≡ 16) → v.block ≡ 16
        none_block v (yes z) = z
        none_block v (no z) =
            absurd (true≢false (sym (v.some z) ∙ ap is_some (sym (rw (ne_eqb v.block 16 z) at v.same))))

        go : (l : Option (ℕ × ℕ)) (v : Foremost leads i l) → wins x.1 l ≡ true → (v.block ≡ 16) ⊎ ((v.block ≡ 16 → ⊥) × (lead_key leads i < leads_by l))
        go None v r = inl (none_block v (ℕ_discrete v.block 16))
        go (Some y) v r = inr (λ z. some_apart y (v.same ∙ rw (eq-eqb v.block 16 z)), rw e (ltb-true x.1 y.1 r))

pub foremost_end : (leads : List (Option (ℕ × ℕ))) (i : ℕ) (best : Option (ℕ × ℕ)) → Foremost leads i best → i ≤ 16 → 16 ≤ i → best ≡ foremost_lead leads
unfolding foremost_lead foremost_block
foremost_end leads i best w l g = w.same ∙ ap (lead_of leads) (best_end _ _ _ i 16 _ _ w.first l g)

abbrev key_at : List ℕ → ℕ → ℕ
key_at row t = get_or row t 0

-- a state with its key, by whether it is one
module _ (row : List ℕ) (n s : ℕ) where
  pub standing_some : s < n → standing row n s ≡ Some (s, get_or row s 0)
  standing_some l = rw (lt-ltb s n l)

  pub standing_none : s ≡ n → standing row n s ≡ None
  standing_none e = rw (le-ltb s n (omega arith))

  standing_says : is_some (standing row n s) ≡ true → s < n
  standing_says e = go (ltb s n) refl e
    where
      go : (v : Bool) → ltb s n ≡ v → is_some (cond {A = Option (ℕ × ℕ)} v (Some (s, get_or row s 0)) None) ≡ true → s < n
      go true q r = ltb-true s n q
      go false q r = absurd (true≢false (sym r))

module _ (mark row : List ℕ) (n goal : ℕ) where
  -- whether t comes on in the range, by where it stands
  module _ (last : Option (ℕ × ℕ)) (from end t : ℕ) where
    between_before : t < from → comes_between mark row goal last from end t ≡ false
    unfolding comes_between
    between_before l = rw (lt-leb from t l)

    between_past : end ≤ t → comes_between mark row goal last from end t ≡ false
    unfolding comes_between
    between_past l = rw (le-ltb t end l, and_false (leb from t))

    between_not : comes_on mark row goal last t ≡ false → comes_between mark row goal last from end t ≡ false
    unfolding comes_between
    between_not e = rw e (and_false (leb from t && ltb t end))

    between_on : from ≤ t → t < end → comes_on mark row goal last t ≡ true → comes_between mark row goal last from end t ≡ true
    unfolding comes_between
    between_on l g e = rw (le-leb from t l, lt-ltb t end g) e

    between_says : comes_between mark row goal last from end t ≡ true → (from ≤ t) × (t < end) × (comes_on mark row goal last t ≡ true)
    unfolding comes_between
    between_says e =
        let w = and_left (leb from t && ltb t end) _ e in
        (leb-true from t (and_left _ _ w), ltb-true t end (and_right (leb from t) _ w), and_right (leb from t && ltb t end) _ e)

  -- of all states the lead is the next candidate
  pub lead_all : (last : Option (ℕ × ℕ)) → lead_in mark row n goal last 0 n ≡ next_in mark row n goal last
  unfolding comes_between lead_in next_in
  lead_all last = least_same _ _ (key_at row) (key_at row) n n (omega arith) (λ x l. rw (le-leb 0 x (omega arith), lt-ltb x n l)) (λ _ _ _. refl)

  -- what comes on after the one comes on after the other too, where it comes after that by key and number
  comes_later : (last : Option (ℕ × ℕ)) (t : ℕ) → comes_on mark row goal last t ≡ true → comes_after last t (key_at row t) ≡ true
  unfolding comes_on
  comes_later last t e = and_right (not (eqb t goal)) _ (and_right (is_open (get_or mark t 0)) _ e)

  comes_with : (last other : Option (ℕ × ℕ)) (t : ℕ) → comes_on mark row goal last t ≡ true → comes_after other t (key_at row t) ≡ true → comes_on mark row goal other t ≡ true
  unfolding comes_on
  comes_with last other t e a =
      and_both (and_left (is_open (get_or mark t 0)) _ e) (and_both (and_left (not (eqb t goal)) _ (and_right (is_open (get_or mark t 0)) _ e)) a)

  -- the lead of a block, as it stands among the leads
  lead_at : (last : Option (ℕ × ℕ)) (b : ℕ) → b < 16 → get_or (leads_in mark row n goal last) b None ≡ standing row n (block_lead mark row n goal last b)
  unfolding leads_in
  lead_at last b l = made_at (λ c. standing row n (block_lead mark row n goal last c)) 16 b None l

  -- a lead stands in its block and comes on after the last one
  lead_says : (last : Option (ℕ × ℕ)) (b : ℕ) → block_lead mark row n goal last b < n
      → comes_between mark row goal last (16 * b) (16 * b + 16) (block_lead mark row n goal last b) ≡ true
  unfolding lead_in
  lead_says last b l = least_passes _ (key_at row) n n (λ (q : block_lead mark row n goal last b ≡ n). omega arith)

  -- no candidate is left: no block has a lead
  no_front : (last : Option (ℕ × ℕ)) → next_in mark row n goal last ≡ n → foremost_block (leads_in mark row n goal last) ≡ 16
  unfolding foremost_block next_in lead_in
  no_front last e = least_none _ _ 16 16 (omega arith) (λ b l. rw (lead_at last b l, standing_none row n _ (nothing b)))
    where
      nothing : (b : ℕ) → block_lead mark row n goal last b ≡ n
      nothing b =
          least_none _ (key_at row) n n (omega arith)
          (λ x l. between_not last (16 * b) (16 * b + 16) x (least_nothing (comes_on mark row goal last) (key_at row) n n (omega arith) (omega arith) x l))

  -- u is the next candidate
  module _ (last : Option (ℕ × ℕ)) (u : ℕ) (e : u ≡ next_in mark row n goal last) (m : u < n) where
    abbrev on : Option (ℕ × ℕ)
    on = Some (u, key_at row u)

    there : next_in mark row n goal last ≡ n → ⊥
    there q = omega arith

    next_comes : comes_on mark row goal last u ≡ true
    unfolding next_in
    next_comes = rw e (least_passes _ (key_at row) n n there)

    next_before : (x : ℕ) → x < n → comes_on mark row goal last x ≡ true → (x ≡ u → ⊥) → After (key_at row) u x
    unfolding next_in
    next_before x l c d = rw e (least_after _ (key_at row) n n (omega arith) there x l c (λ q. d (q ∙ sym e)))

    -- after it come those that came after the last one, but for itself
    same_else : (x : ℕ) → x < n → (x ≡ u → ⊥) → comes_on mark row goal on x ≡ comes_on mark row goal last x
    same_else x l d =
        same_truth _ _ (λ c. comes_with on last x c (after_through last u (key_at row u) x (key_at row x) (comes_later last u next_comes) (comes_later on x c)))
        (λ c. comes_with last on x c (after_of (key_at row u) (key_at row x) u x (next_before x l c d)))

    -- so a block that it isn't in keeps its lead
    lead_kept : (b : ℕ) → (b ≡ u / 16 → ⊥) → block_lead mark row n goal last b ≡ block_lead mark row n goal on b
    unfolding lead_in
    lead_kept b d = least_same _ _ (key_at row) (key_at row) n n (omega arith) (λ x l. same_truth _ _ (go x l) (back x l)) (λ _ _ _. refl)
      where
        go : (x : ℕ) → x < n → comes_between mark row goal last (16 * b) (16 * b + 16) x ≡ true → comes_between mark row goal on (16 * b) (16 * b + 16) x ≡ true
        go x l c =
            let w = between_says last (16 * b) (16 * b + 16) x c in
            between_on on (16 * b) (16 * b + 16) x w.0 w.1 (same_else x l (λ q. d (omega (arith, w.0, w.1))) ∙ w.2)

        back : (x : ℕ) → x < n → comes_between mark row goal on (16 * b) (16 * b + 16) x ≡ true → comes_between mark row goal last (16 * b) (16 * b + 16) x ≡ true
        back x l c =
            let w = between_says on (16 * b) (16 * b + 16) x c in
            between_on last (16 * b) (16 * b + 16) x w.0 w.1 (sym (same_else x l (λ q. d (omega (arith, w.0, w.1)))) ∙ w.2)

    -- 16 blocks are all of the states
    module _ (k : n ≤ 256) where
      -- once it has failed, its own block's lead is looked for anew, and all are those after it
      leads_renewed : set (leads_in mark row n goal last) (u / 16) (standing row n (block_lead mark row n goal on (u / 16))) ≡ leads_in mark row n goal on
      unfolding leads_in
      leads_renewed =
          made_set (λ b. standing row n (block_lead mark row n goal last b)) (λ b. standing row n (block_lead mark row n goal on b)) 16 (u / 16) (omega arith)
          (λ b l d. ap (standing row n) (lead_kept b d))

      -- it leads its block
      next_leads : get_or (leads_in mark row n goal last) (u / 16) None ≡ on
      unfolding lead_in
      next_leads =
          lead_at last (u / 16) (omega arith)
          ∙ ap (standing row n)
          (least_only _ (key_at row) n n (omega arith) u m (between_on last (16 * (u / 16)) (16 * (u / 16) + 16) u (omega arith) (omega arith) next_comes)
          (λ x l c d. next_before x l (between_says last (16 * (u / 16)) (16 * (u / 16) + 16) x c).2 d))
          ∙ standing_some row n u m

      -- and its block is foremost
      next_front : foremost_block (leads_in mark row n goal last) ≡ u / 16
      unfolding foremost_block
      next_front = least_only _ _ 16 16 (omega arith) (u / 16) (omega arith) (rw next_leads) (λ b l c d. behind b l (standing_says row n _ (rw (lead_at last b l) at c)) d)
        where
          behind : (b : ℕ) → b < 16 → block_lead mark row n goal last b < n → (b ≡ u / 16 → ⊥) → After (lead_key (leads_in mark row n goal last)) (u / 16) b
          behind b l j d =
              let w = between_says last (16 * b) (16 * b + 16) (block_lead mark row n goal last b) (lead_says last b j) in
              rw (next_leads, lead_at last b l, standing_some row n _ j)
              (⊎_elim (λ a. inl a) (λ a. inr (a.0, omega (arith, w.0, w.1, a.1))) (next_before (block_lead mark row n goal last b) j w.2 (λ q. d (omega (arith, w.0, w.1)))))

  next_low : (last : Option (ℕ × ℕ)) → (next_in mark row n goal last ≡ n → ⊥) → next_in mark row n goal last < n
  unfolding next_in
  next_low last z = least_below _ (key_at row) n n (omega arith) z

  -- the foremost of the leads is the next candidate
  foremost_next : (last : Option (ℕ × ℕ)) → n ≤ 256 → foremost_lead (leads_in mark row n goal last) ≡ standing row n (next_in mark row n goal last)
  unfolding foremost_lead
  foremost_next last k = go (ℕ_discrete (next_in mark row n goal last) n)
    where
      go : Dec (next_in mark row n goal last ≡ n) → foremost_lead (leads_in mark row n goal last) ≡ standing row n (next_in mark row n goal last)
      go (yes e) = rw (no_front last e, standing_none row n _ e)
      go (no z) =
          let l = next_low last z in
          rw (next_front last _ refl l k, ne_eqb (next_in mark row n goal last / 16) 16 (λ q. omega arith), next_leads last _ refl l k, standing_some row n _ l)

-- what the loop that looks for a lead knows at i: `best` leads the states from `from` on and below i; past n it comes only where `from` is
pub record Leading (mark row : List ℕ) (n goal : ℕ) (last : Option (ℕ × ℕ)) (from end i : ℕ) (best : Option (ℕ × ℕ)) : Type 0 where
  pub low : from ≤ i
  pub leads : Leader (comes_between mark row goal last from end) (key_at row) n i best
  pub known : best ≡ standing row n (leads_at n best)

pub leading_zero : (mark row : List ℕ) (n goal : ℕ) (last : Option (ℕ × ℕ)) (from end : ℕ) → Leading mark row n goal last from end from None
leading_zero mark row n goal last from end = record {
  low = omega arith;
  leads = leader_none _ _ n from (best_from _ _ n from 0 (λ x l. between_before mark row n goal last from end x l));
  known = sym (standing_none row n n refl);
}

module _ (mark row : List ℕ) (n goal : ℕ) (last : Option (ℕ × ℕ)) (from end i : ℕ) (best : Option (ℕ × ℕ)) (w : Leading mark row n goal last from end i best) where
  -- it ends at n or `end`; past n it comes only where it made no turn
  pub leading_end : (stop : ℕ) → (stop ≡ n) ⊎ (stop ≡ end) → stop ≤ i → (i ≤ n) ⊎ (i ≡ from) → best ≡ standing row n (lead_in mark row n goal last from end)
  unfolding lead_in
  leading_end stop v l high =
      w.known
      ∙ ap (standing row n)
      (best_past _ _ n i n _ _ w.leads.best
      (λ x a g. ⊎_elim (λ q. absurd (omega arith)) (λ q. between_past mark row n goal last from end x (omega arith)) v)
      (λ x a g. ⊎_elim (λ q. absurd (omega arith)) (λ q. between_before mark row n goal last from end x (omega arith)) high))

  -- the range's end is the lesser of the two
  pub leading_stop : (stop : ℕ) → stop ≡ min end n → stop ≤ i → (i ≤ stop) ⊎ (i ≡ from) → best ≡ standing row n (lead_in mark row n goal last from end)
  leading_stop stop m l r = leading_end stop (lesser (ℕ_discrete stop n)) l (⊎_elim (λ q. inl (omega arith)) (λ q. inr q) r)
    where
      lesser : Dec (stop ≡ n) → (stop ≡ n) ⊎ (stop ≡ end)
      lesser (yes q) = inl q
      lesser (no z) = inr (omega arith)

  -- i doesn't come on
  pub leading_skip : comes_on mark row goal last i ≡ false → Leading mark row n goal last from end (i + 1) best
  leading_skip e = record { low = omega (arith, w.low); leads = leader_skip _ _ n i _ w.leads (between_not mark row n goal last from end i e); known = w.known }

  -- i can't win
  pub leading_lost : wins (key_at row i) best ≡ false → Leading mark row n goal last from end (i + 1) best
  leading_lost e = record { low = omega (arith, w.low); leads = leader_lost _ _ n i _ w.leads e; known = w.known }

  -- i leads from now on
  pub leading_won : i < n → i < end → comes_on mark row goal last i ≡ true → wins (key_at row i) best ≡ true → Leading mark row n goal last from end (i + 1) (Some (i, key_at row i))
  leading_won l g e v = record {
    low = omega (arith, w.low);
    leads = leader_won _ _ n i _ w.leads l (between_on mark row n goal last from end i w.low g e) v;
    known = sym (standing_some row n i l);
  }

-- what trying candidates knows of the leads at the candidate s: they are those after the one tried before it, and it is the next
pub record Led (mark row : List ℕ) (n goal s : ℕ) (leads : List (Option (ℕ × ℕ))) : Type 0 where
  pub before : Option (ℕ × ℕ)
  pub all : leads ≡ leads_in mark row n goal before
  pub next : s ≡ next_in mark row n goal before

module _ (mark row : List ℕ) (n goal s : ℕ) (k : n ≤ 256) where
  -- s has failed: the lead of its block is looked for anew
  pub led_renewed : (leads : List (Option (ℕ × ℕ))) (v : Option (ℕ × ℕ)) → Led mark row n goal s leads → (s ≡ n → ⊥)
      → v ≡ standing row n (block_lead mark row n goal (Some (s, key_at row s)) (s / 16)) → set leads (s / 16) v ≡ leads_in mark row n goal (Some (s, key_at row s))
  led_renewed leads v w z e =
      let l : s < n = rw w.next (next_low mark row n goal w.before (λ q. z (w.next ∙ q))) in
      rw (w.all, e) (leads_renewed mark row n goal w.before s w.next l k)

  -- with the leads after s the foremost one is the next
  module _ (leads : List (Option (ℕ × ℕ))) (last : Option (ℕ × ℕ)) (e : leads ≡ leads_in mark row n goal last) where
    pub led_next : (r : Option (ℕ × ℕ)) → r ≡ foremost_lead leads → r ≡ standing row n (next_in mark row n goal last)
    led_next r q = q ∙ rw e (foremost_next mark row n goal last k)

    pub led_on : Led mark row n goal (next_in mark row n goal last) leads
    led_on = record { before = last; all = e; next = refl }
