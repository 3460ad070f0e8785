-- What the functions over rows rest on: lists by their places, what a row that holds a machine says, and machines written into rows.
use Rattle.std.specs.Prelude.{◌≡◌, Bool, true, false, ◌&&◌, ℕ, zero, suc, ◌+◌, ◌-◌, ◌*◌, ◌/◌, ◌%◌, ◌≤◌, ◌<◌, get_or, take, drop, slice_range, replicate, leb, eqb, Result, Ok, Err}
use Rattle.std.proofs.Math.Path.{refl, sym, ap, subst⁻¹}
use Rattle.std.proofs.Common.{◌∙◌, zero-add, add-zero, suc-add, add_assoc, arith, length-set, length-take, length-drop, take-append-drop, ext_get_or, get_or-take, get_or-drop, drop-drop, length-take-le, eqb-true, leb-true, le-leb}
use mathlib.Core.List.{List, [], ◌∷◌, ◌++◌, append_assoc}
use Rattle.std.proofs.Math.Decide.{ℕ_discrete}
use Rattle.std.proofs.Math.ListN.{length, set, length-append}
use Rattle.std.proofs.lemmas.List.{set-get_or, set-append_left}
use Rattle.laws.specs.Truth.{and_left, and_right, and_both, and_true, provided}
use Rattle.std.specs.List.{list_all, flat_map}
use Rattle.std.proofs.lemmas.List.Folds.{list_all-append}
use Rattle.laws.specs.Part.{overlaid}
use Rattle.laws.specs.Fill.{overlaid_whole, made, made_length, made_at, overlaid_one, overlaid_next}
use Rattle.rule.specs.Marks.{out}
use Rattle.rule.specs.declared.refusals.Refusal.{Refusal}
use Rattle.rule.specs.declared.refusals.Refusal.TheVariants.{BadSizes, BadEnds, BadWeights, Unfit}
use Rattle.checks.specs.Opening.{Task, task, weights_right, holds1, holds2, holds3, fault}
use Rattle.checks.specs.Laws.{right, fault_none}
use Rattle.desk.specs.declared.Machine.{Machine}
use Rattle.desk.specs.Opening.{opening_of, opened_machine, blank_machine, opened}
use Rattle.desk.specs.declared.Reply.TheVariants.{Refused}
use Rattle.desk.specs.declared.Answer.{Answer}
use Rattle.desk.specs.declared.Counted.{Counted}
use Rattle.desk.specs.Reply.{code_of, refused}
use Rattle.desk.specs.Machine.{with_phase, with_mark, with_hands, hands_of}
use Rattle.desk.specs.Take.{dealt, take_of}
use Rattle.desk.specs.Limited.{limited_of}
use Rattle.desk.specs.declared.Event.{Event}
use Rattle.desk.specs.Calls.{call}
use Rattle.desk.specs.ToldLaws.{taken, take_told, limited_told, call_refused}
use Rattle.desk.specs.Laws.{Sized}
use Rattle.deskc.specs.Calls.{turn_of, take_row, take_limited_row}
use Rattle.deskc.specs.Weights.{clamped}
use Rattle.deskc.specs.Row.{at_most, is_row, part, key_halves, key_at, key_from, unpacked, halves, changing, changed, packed}
use Rattle.deskc.specs.StoredLaws.{one, InOne, There, InTwo, behind, tail}

-- a list's own places, written where they stand, leave it as it was
pub part_length : (l : List ℕ) (at n : ℕ) → length (part l at n) ≡ n
unfolding part
part_length l at n = made_length (λ i. get_or l (at + i) 0) n

part_at : (l : List ℕ) (at n i : ℕ) → i < n → get_or (part l at n) i 0 ≡ get_or l (at + i) 0
unfolding part
part_at l at n i h = made_at (λ i. get_or l (at + i) 0) n i 0 h

pub part_taken : (l : List ℕ) (at n : ℕ) → at + n ≤ length l → part l at n ≡ take n (drop at l)
part_taken l at n h =
    ext_get_or 0 (part l at n) (take n (drop at l)) (part_length l at n ∙ simp (length-take, length-drop) (omega arith))
    (λ i q.
    let q' : i < n = omega (arith, part_length l at n) in
    part_at l at n i q' ∙ sym (get_or-take n (drop at l) i 0 q' ∙ get_or-drop at l i 0))

pub own_part : (l : List ℕ) (at n : ℕ) → at + n ≤ length l → overlaid at (part l at n) l ≡ l
own_part l at n h =
    rw (part_length l at n, part_taken l at n h, ← drop-drop n at l, take-append-drop n (drop at l), take-append-drop at l)

pub own_next : {X : Type 0} (at k : ℕ) (l xs ys : List X) → overlaid at xs l ≡ l → overlaid k ys l ≡ l → k ≡ at + length xs → k ≤ length l → overlaid at (xs ++ ys) l ≡ l
own_next at k l xs ys p q e h = sym (overlaid_next at k l l xs ys (sym p) e h) ∙ q

-- the halves of some keys: two for each, at 2 * s the low half of the key of s, and behind it the high one
pub halves_length : (xs : List ℕ) → length (halves xs) ≡ 2 * length xs
unfolding halves
halves_length [] = refl
halves_length (x ∷ xs) = omega (arith, halves_length xs)

pub halves_low : (xs : List ℕ) (s : ℕ) → get_or (halves xs) (2 * s) 0 ≡ get_or xs s 0 % 4294967296
unfolding halves
halves_low [] s = refl
halves_low (x ∷ xs) zero = refl
halves_low (x ∷ xs) (suc s) = let e : 2 * suc s ≡ suc (suc (2 * s)) = omega arith in rw e (halves_low xs s)

pub halves_high : (xs : List ℕ) (s : ℕ) → get_or (halves xs) (2 * s + 1) 0 ≡ get_or xs s 0 / 4294967296
unfolding halves
halves_high [] s = refl
halves_high (x ∷ xs) zero = refl
halves_high (x ∷ xs) (suc s) = let e : 2 * suc s + 1 ≡ suc (suc (2 * s + 1)) = omega arith in rw e (halves_high xs s)

-- what holds of every even place, and of the one behind it, holds of each
by_twos : (P : ℕ → Type 0) → ((s : ℕ) → P (2 * s)) → ((s : ℕ) → P (2 * s + 1)) → (i : ℕ) → P i
by_twos P even odd i = go (ℕ_discrete i (2 * (i / 2)))
  where
    go : Dec (i ≡ 2 * (i / 2)) → P i
    go (yes e) = subst⁻¹ P e (even (i / 2))
    go (no d) = subst⁻¹ P (omega arith) (odd (i / 2))

-- what a test says of a list that it says of each element, and of one element more
all_listed : {X : Type 0} (p : X → Bool) (xs : List X) → list_all p xs ≡ true → (i : ℕ) (d : X) → i < length xs → p (get_or xs i d) ≡ true
all_listed p [] e i d l = absurd (omega arith)
all_listed p (x ∷ xs) e zero d l = and_left (p x) _ e
all_listed p (x ∷ xs) e (suc i) d l = all_listed p xs (and_right (p x) _ e) i d (omega arith)

listed_all : {X : Type 0} (p : X → Bool) (xs : List X) (d : X) → ((i : ℕ) → i < length xs → p (get_or xs i d) ≡ true) → list_all p xs ≡ true
listed_all p [] d e = refl
listed_all p (x ∷ xs) d e = and_both (e 0 (omega arith)) (listed_all p xs d (λ i l. e (suc i) (omega arith)))

pub all_and_last : {X : Type 0} (p : X → Bool) (xs : List X) (x : X) (a b : Bool) → a ≡ list_all p xs → b ≡ (a && p x) → b ≡ list_all p (xs ++ (x ∷ []))
all_and_last p xs x a b e q = q ∙ rw (e, list_all-append, and_true) refl

-- place k of what stands behind others
behind_length : (row : List ℕ) (from k : ℕ) → length (drop k (behind from row)) ≡ length row - (from + k)
behind_length row from k = rw tail (simp (length-drop) (omega arith))

behind_at : (row : List ℕ) (from k i : ℕ) → get_or (drop k (behind from row)) i 0 ≡ get_or row (from + k + i) 0
behind_at row from k i = rw (tail, drop-drop k from row) (get_or-drop (from + k) row i 0)

-- numbers of one place each, and keys, read one after the other
pub part_single : (row : List ℕ) (from count : ℕ) → made (λ i. get_or (drop (1 * i) (behind from row)) 0 0) count ≡ part row from count
unfolding part
part_single row from count =
    let q : (i : ℕ) → get_or (drop (1 * i) (behind from row)) 0 0 ≡ get_or row (from + i) 0 = λ i. behind_at row from (1 * i) 0 ∙ ap (λ k. get_or row k 0) (omega arith) in
    λ j. made (λ i. q i j) count

part_keys : (row : List ℕ) → made (λ i. key_at (drop (2 * i) (behind 807 row)) 0) 256 ≡ made (key_from row) 256
part_keys row =
    let q : (i : ℕ) → key_at (drop (2 * i) (behind 807 row)) 0 ≡ key_from row i =
    λ i. rw (behind_at row 807 (2 * i) 0, behind_at row 807 (2 * i) 1, add-zero (807 + 2 * i)) refl in
    λ j. made (λ i. q i j) 256

-- the machine that is read from a row part by part
pub unpacked_parts : (row mark label via held key : List ℕ) → mark ≡ made (λ i. get_or (drop (1 * i) (behind 7 row)) 0 0) 256 → label ≡ made (λ i. get_or (drop (1 * i) (behind 263 row)) 0 0) 256
    → via ≡ made (λ i. get_or (drop (1 * i) (behind 519 row)) 0 0) 256 → held ≡ made (λ i. get_or (drop (1 * i) (behind 775 row)) 0 0) 32 → key ≡ made (λ i. key_at (drop (2 * i) (behind 807 row)) 0) 256
    → ◌≡◌ {A = Machine} (record { n = get_or row 0 0; k = get_or row 1 0; start = get_or row 2 0; goal = get_or row 3 0; pull = get_or row 4 0; excess = get_or row 5 0; phase = get_or row 6 0; mark = mark; label = label; via = via; held = held; key = key }) (unpacked row)
unfolding unpacked
unpacked_parts row mark label via held key e₁ e₂ e₃ e₄ e₅ =
    rw (e₁, e₂, e₃, e₄, e₅, part_single row 7 256, part_single row 263 256, part_single row 519 256, part_single row 775 32, part_keys row) refl

ones : (xs : List ℕ) → flat_map one xs ≡ xs
ones [] = refl
ones (x ∷ xs) = ap (λ (ys : List ℕ). x ∷ ys) (ones xs)

-- what a row that holds a machine says of its places
pub record Bounds (row : List ℕ) : Type 0 where
  pub long : length row ≡ 1319
  pub pull : get_or row 4 0 ≤ 65535
  pub excess : get_or row 5 0 ≤ 65535
  pub phase : get_or row 6 0 ≤ 255
  pub marks : (i : ℕ) → i < 256 → InOne 255 (drop (1 * i) (behind 7 row))
  pub labels : (i : ℕ) → i < 256 → There (drop (1 * i) (behind 263 row))
  pub vias : (i : ℕ) → i < 256 → InOne 65535 (drop (1 * i) (behind 519 row))
  pub workers : (i : ℕ) → i < 32 → InOne 65535 (drop (1 * i) (behind 775 row))
  pub keys : (i : ℕ) → i < 256 → InTwo (drop (2 * i) (behind 807 row))
  pub halves : (i : ℕ) → i < 512 → get_or row (807 + i) 0 ≤ 4294967295

at_most_at : (row : List ℕ) (from end most : ℕ) → at_most most (slice_range row from end) ≡ true → end ≤ length row → (i : ℕ) → i < end - from → get_or row (from + i) 0 ≤ most
unfolding at_most
at_most_at row from end most e r i l =
    let q : get_or (slice_range row from end) i 0 ≡ get_or row (from + i) 0 = get_or-take (end - from) (drop from row) i 0 l ∙ get_or-drop from row i 0 in
    let many : length (slice_range row from end) ≡ end - from = length-take-le (end - from) (drop from row) (omega (arith, length-drop from row)) in
    rw q at (leb-true (get_or (slice_range row from end) i 0) most (all_listed (λ x. leb x most) (slice_range row from end) e i 0 (omega arith)))

in_one : (row : List ℕ) (from end most : ℕ) → at_most most (slice_range row from end) ≡ true → end ≤ length row → (i : ℕ) → i < end - from → InOne most (drop (1 * i) (behind from row))
in_one row from end most e r i l =
    let q : from + 1 * i + 0 ≡ from + i = omega arith in
    (omega (arith, behind_length row from (1 * i)), rw (behind_at row from (1 * i) 0, q) (at_most_at row from end most e r i l))

pub row_bounds : (row : List ℕ) → is_row row ≡ true → Bounds row
unfolding is_row
row_bounds row e =
    let e₁ = and_right (eqb (length row) 1319) _ e in
    let e₂ = and_right (at_most 65535 (slice_range row 4 6)) _ e₁ in
    let e₃ = and_right (at_most 255 (slice_range row 6 7)) _ e₂ in
    let e₄ = and_right (at_most 255 (slice_range row 7 263)) _ e₃ in
    let e₅ = and_right (at_most 65535 (slice_range row 519 775)) _ e₄ in
    let l : length row ≡ 1319 = eqb-true _ _ (and_left (eqb (length row) 1319) _ e) in
    let weights = at_most_at row 4 6 65535 (and_left (at_most 65535 (slice_range row 4 6)) _ e₁) (omega arith) in
    record {
      long = l;
      pull = weights 0 (omega arith);
      excess = weights 1 (omega arith);
      phase = at_most_at row 6 7 255 (and_left (at_most 255 (slice_range row 6 7)) _ e₂) (omega arith) 0 (omega arith);
      marks = in_one row 7 263 255 (and_left (at_most 255 (slice_range row 7 263)) _ e₃) (omega arith);
      labels = λ i h. omega (arith, behind_length row 263 (1 * i));
      vias = in_one row 519 775 65535 (and_left (at_most 65535 (slice_range row 519 775)) _ e₄) (omega arith);
      workers = in_one row 775 807 65535 (and_left (at_most 65535 (slice_range row 775 807)) _ e₅) (omega arith);
      keys = λ i h. omega (arith, behind_length row 807 (2 * i));
      halves = at_most_at row 807 1319 4294967295 (and_right (at_most 65535 (slice_range row 775 807)) _ e₅) (omega arith);
    }

-- and what need not be tested of a row whose numbers have 32 bits
pub halves_fit : (row : List ℕ) → ((i : ℕ) → get_or row i 0 ≤ 4294967295) → at_most 4294967295 (slice_range row 807 1319) ≡ true
unfolding at_most
halves_fit row narrow =
    listed_all (λ x. leb x 4294967295) (slice_range row 807 1319) 0 (λ i l.
    let h : i < 512 = omega (arith, length-take 512 (drop 807 row)) in
    rw (get_or-take 512 (drop 807 row) i 0 h, get_or-drop 807 row i 0) (le-leb _ _ (narrow (807 + i))))

-- what a call can change, of a machine whose rows are as long as their types say
pub changing_length : (m : Machine) → Sized m → length (changing m) ≡ 1313
unfolding changing
changing_length m s = simp length-append (omega (arith, s.marks, s.labels, s.vias, s.workers, s.keys, halves_length m.key))

-- the phase and the five lists, written one after the other, are what a call can change
in_a_row : (a b c d e : List ℕ) → (((a ++ b) ++ c) ++ d) ++ e ≡ a ++ (b ++ (c ++ (d ++ e)))
in_a_row a b c d e = simp append_assoc

pub changed_parts : (row : List ℕ) (m : Machine) → length row ≡ 1319 → Sized m → (r₁ r₂ r₃ r₄ r₅ r₆ : List ℕ) → r₁ ≡ set row 6 m.phase → r₂ ≡ overlaid 7 (flat_map one m.mark) r₁ → r₃ ≡ overlaid 263 (flat_map one m.label) r₂ → r₄ ≡ overlaid 519 (flat_map one m.via) r₃ → r₅ ≡ overlaid 775 (flat_map one m.held) r₄ → r₆ ≡ overlaid 807 (flat_map key_halves m.key) r₅ → r₆ ≡ changed row m
unfolding changed changing halves
changed_parts row m l s r₁ r₂ r₃ r₄ r₅ r₆ e₁ e₂ e₃ e₄ e₅ e₆ =
    let p₁ : r₁ ≡ overlaid 6 (m.phase ∷ []) row = e₁ ∙ overlaid_one 6 row m.phase (omega arith) in
    let p₂ : r₂ ≡ overlaid 6 ((m.phase ∷ []) ++ m.mark) row =
    (rw (ones m.mark) at e₂) ∙ overlaid_next 6 7 row r₁ (m.phase ∷ []) m.mark p₁ (omega arith) (omega arith) in
    let p₃ : r₃ ≡ overlaid 6 (((m.phase ∷ []) ++ m.mark) ++ m.label) row =
    (rw (ones m.label) at e₃) ∙ overlaid_next 6 263 row r₂ ((m.phase ∷ []) ++ m.mark) m.label p₂ (omega (arith, s.marks)) (omega arith) in
    let p₄ : r₄ ≡ overlaid 6 ((((m.phase ∷ []) ++ m.mark) ++ m.label) ++ m.via) row =
    (rw (ones m.via) at e₄) ∙ overlaid_next 6 519 row r₃ (((m.phase ∷ []) ++ m.mark) ++ m.label) m.via p₃ (simp length-append (omega (arith, s.marks, s.labels))) (omega arith) in
    let p₅ : r₅ ≡ overlaid 6 (((((m.phase ∷ []) ++ m.mark) ++ m.label) ++ m.via) ++ m.held) row =
    (rw (ones m.held) at e₅) ∙ overlaid_next 6 775 row r₄ ((((m.phase ∷ []) ++ m.mark) ++ m.label) ++ m.via) m.held p₄ (simp length-append (omega (arith, s.marks, s.labels, s.vias))) (omega arith) in
    let p₆ : r₆ ≡ overlaid 6 ((((((m.phase ∷ []) ++ m.mark) ++ m.label) ++ m.via) ++ m.held) ++ halves m.key) row =
    e₆ ∙ overlaid_next 6 807 row r₅ (((((m.phase ∷ []) ++ m.mark) ++ m.label) ++ m.via) ++ m.held) (halves m.key) p₅ (simp length-append (omega (arith, s.marks, s.labels, s.vias, s.workers))) (omega arith) in
    p₆ ∙ ap (λ (xs : List ℕ). overlaid 6 (m.phase ∷ xs) row) (in_a_row m.mark m.label m.via m.held (halves m.key))

-- the task's six numbers and what a call can change are the whole row
pub packed_parts : (row r : List ℕ) (m : Machine) → length row ≡ 1319 → Sized m → r ≡ overlaid 0 (m.n ∷ m.k ∷ m.start ∷ m.goal ∷ m.pull ∷ m.excess ∷ []) row → changed r m ≡ packed m
unfolding changed packed
packed_parts row r m l s e =
    overlaid_next 0 6 row r (m.n ∷ m.k ∷ m.start ∷ m.goal ∷ m.pull ∷ m.excess ∷ []) (changing m) e (omega arith) (omega arith)
    ∙ overlaid_whole (m.n ∷ m.k ∷ m.start ∷ m.goal ∷ m.pull ∷ m.excess ∷ changing m) row (omega (arith, changing_length m s))

-- a machine that opening hands back has numbers of 32 bits
pub opened_small : (t : Task) → (((opening_of t).machine.n < 4294967296) × ((opening_of t).machine.k < 4294967296)) × (((opening_of t).machine.start < 4294967296) × ((opening_of t).machine.goal < 4294967296))
unfolding opening_of opened_machine blank_machine
opened_small t = go (fault t) refl
  where
    go : (f : Result (Unit {0}) Refusal) → fault t ≡ f → (((opening_of t).machine.n < 4294967296) × ((opening_of t).machine.k < 4294967296)) × (((opening_of t).machine.start < 4294967296) × ((opening_of t).machine.goal < 4294967296))
    go (Ok u) e =
        let r = right t (fault_none t e) in
        rw e ((omega (arith, r.states), omega (arith, r.workers)), (omega (arith, r.states, r.start_in), omega (arith, r.states, r.goal_in)))
    go (Err refusal) e = rw e ((omega arith, omega arith), (omega arith, omega arith))

-- and rows as long as their types say
pub opened_sized : (t : Task) → Sized (opening_of t).machine
unfolding opening_of opened_machine blank_machine
opened_sized t = go (fault t)
  where
    go : (f : Result (Unit {0}) Refusal) → Sized (opened t f).machine
    go (Ok u) = record { marks = length-set {A = ℕ} (replicate 256 0) t.start _; labels = refl; vias = refl; workers = refl; keys = length-set {A = ℕ} (replicate 256 0) t.start _ }
    go (Err refusal) = record { marks = refl; labels = refl; vias = refl; workers = refl; keys = refl }

-- weights that pass check 3 are small
weights_low : (pull excess : ℕ) → weights_right pull excess ≡ true → (pull ≤ 10000) × (excess ≤ 10000)
unfolding weights_right
weights_low pull excess e =
    let high : excess ≤ 10000 = leb-true _ _ (and_right (leb 100 excess) _ (and_left _ (leb pull excess) e)) in
    let pulled : pull ≤ excess = leb-true _ _ (and_right (leb 100 excess && leb excess 10000) _ e) in
    (omega arith, high)

-- clamped weights are small only where the weights are: out of range, they stay so
weights_clamped : (pull excess : ℕ) → weights_right pull excess ≡ false → weights_right (clamped pull) (clamped excess) ≡ false
weights_clamped pull excess f = go (weights_right (clamped pull) (clamped excess)) refl
  where
    go : (b : Bool) → weights_right (clamped pull) (clamped excess) ≡ b → weights_right (clamped pull) (clamped excess) ≡ false
    go true e =
        let l = weights_low (clamped pull) (clamped excess) e in
        let p : clamped pull ≡ pull = omega (arith, l.0) in
        let q : clamped excess ≡ excess = omega (arith, l.1) in
        rw (p, q) f
    go false e = e

-- a task whose weights are out of range is refused for 1, 2 or 3
weights_refused : (t : Task) → holds3 t ≡ false → opening_of t ≡ refused blank_machine (provided (holds1 t) BadSizes (provided (holds2 t) BadEnds BadWeights))
unfolding opening_of fault
weights_refused t e = go (holds1 t) (holds2 t) refl refl
  where
    go : (a b : Bool) → holds1 t ≡ a → holds2 t ≡ b → opening_of t ≡ refused blank_machine (provided (holds1 t) BadSizes (provided (holds2 t) BadEnds BadWeights))
    go false b p q = rw p
    go true false p q = rw (p, q)
    go true true p q = rw (p, q, e)

-- opening answers to clamped weights as to the weights themselves
pub opening_clamped : (n k start goal pull excess : ℕ) (passages estimates : List ℕ)
    → opening_of (task n k start goal (clamped pull) (clamped excess) passages estimates) ≡ opening_of (task n k start goal pull excess passages estimates)
opening_clamped n k start goal pull excess passages estimates = go (weights_right pull excess) refl
  where
    go : (b : Bool) → weights_right pull excess ≡ b → opening_of (task n k start goal (clamped pull) (clamped excess) passages estimates) ≡ opening_of (task n k start goal pull excess passages estimates)
    go true e =
        let l = weights_low pull excess e in
        let p : clamped pull ≡ pull = omega (arith, l.0) in
        let q : clamped excess ≡ excess = omega (arith, l.1) in
        rw (p, q)
    go false e =
        weights_refused (task n k start goal (clamped pull) (clamped excess) passages estimates) (weights_clamped pull excess e)
        ∙ sym (weights_refused (task n k start goal pull excess passages estimates) e)

-- the halves of the keys that a row holds are the row's own numbers
module _ (row : List ℕ) (e : is_row row ≡ true) where
  abbrev keys : List ℕ
  keys = made (key_from row) 256

  abbrev Own : ℕ → Type 0
  Own i = i < 512 → get_or (halves keys) i 0 ≡ get_or row (807 + i) 0

  own_low : (s : ℕ) → Own (2 * s)
  own_low s h = halves_low keys s ∙ ap (λ (x : ℕ). x % 4294967296) (made_at (key_from row) 256 s 0 (omega arith)) ∙ omega (arith, (row_bounds row e).halves (2 * s) h)

  own_high : (s : ℕ) → Own (2 * s + 1)
  own_high s h =
      halves_high keys s ∙ ap (λ (x : ℕ). x / 4294967296) (made_at (key_from row) 256 s 0 (omega arith))
      ∙ rw (← add_assoc 807 (2 * s) 1) (omega (arith, (row_bounds row e).halves (2 * s) (omega arith)))

  own_halves : halves keys ≡ part row 807 512
  own_halves =
      let long : length (halves keys) ≡ 512 = omega (arith, halves_length keys, made_length (key_from row) 256) in
      ext_get_or 0 (halves keys) (part row 807 512) (long ∙ sym (part_length row 807 512))
      (λ i h. let l : i < 512 = omega arith in by_twos Own own_low own_high i l ∙ sym (part_at row 807 512 i l))

-- a machine handed back as it came leaves the row as it was: a refused call writes nothing
pub changed_unpacked : (row : List ℕ) → is_row row ≡ true → changed row (unpacked row) ≡ row
unfolding changed changing unpacked
changed_unpacked row e =
    let l = (row_bounds row e).long in
    let key : overlaid 807 (part row 807 512) row ≡ row = own_part row 807 512 (omega arith) in
    let held : overlaid 775 (part row 775 32 ++ part row 807 512) row ≡ row =
    own_next 775 807 row (part row 775 32) _ (own_part row 775 32 (omega arith)) key (omega (arith, part_length row 775 32)) (omega arith) in
    let via : overlaid 519 (part row 519 256 ++ (part row 775 32 ++ part row 807 512)) row ≡ row =
    own_next 519 775 row (part row 519 256) _ (own_part row 519 256 (omega arith)) held (omega (arith, part_length row 519 256)) (omega arith) in
    let label : overlaid 263 (part row 263 256 ++ (part row 519 256 ++ (part row 775 32 ++ part row 807 512))) row ≡ row =
    own_next 263 519 row (part row 263 256) _ (own_part row 263 256 (omega arith)) via (omega (arith, part_length row 263 256)) (omega arith) in
    let mark : overlaid 7 (part row 7 256 ++ (part row 263 256 ++ (part row 519 256 ++ (part row 775 32 ++ part row 807 512)))) row ≡ row =
    own_next 7 263 row (part row 7 256) _ (own_part row 7 256 (omega arith)) label (omega (arith, part_length row 7 256)) (omega arith) in
    rw (own_halves row e)
    (own_next 6 7 row (get_or row 6 0 ∷ []) (part row 7 256 ++ (part row 263 256 ++ (part row 519 256 ++ (part row 775 32 ++ part row 807 512)))) (sym (overlaid_one 6 row (get_or row 6 0) (omega arith)) ∙ set-get_or row 6 0) mark (omega arith) (omega arith))

-- a worker's call over a row, by whether the row holds a machine
pub turn_unfit : (row : List ℕ) (a : Answer) (code : ℕ) → is_row row ≡ false → code ≡ code_of (Refused Unfit) → (code ≡ (turn_of row a).code) × (row ≡ (turn_of row a).row)
unfolding turn_of
turn_unfit row a code e q = (rw e q, rw e refl)

pub turn_made : (row next : List ℕ) (given a : Answer) (code : ℕ) → is_row row ≡ true → given ≡ a → code ≡ code_of given.reply → next ≡ changed row given.machine
    → (code ≡ (turn_of row a).code) × (next ≡ (turn_of row a).row)
unfolding turn_of
turn_made row next given a code e g q n = (rw (e, ← g) q, rw (e, ← g) n)

-- one number stored in the second of two lists, and in a list that is written over another
set_past : {X : Type 0} (xs ys : List X) (i : ℕ) (a : X) → set (xs ++ ys) (length xs + i) a ≡ xs ++ set ys i a
set_past [] ys i a = ap (λ (k : ℕ). set ys k a) (zero-add i)
set_past {X} (x ∷ xs) ys i a = ap (λ (k : ℕ). set (x ∷ (xs ++ ys)) k a) (suc-add (length xs) i) ∙ ap (λ (l : List X). x ∷ l) (set_past xs ys i a)

overlaid_set : {X : Type 0} (at : ℕ) (xs l : List X) (i : ℕ) (a : X) → at ≤ length l → i < length xs → overlaid at (set xs i a) l ≡ set (overlaid at xs l) (at + i) a
overlaid_set {X} at xs l i a h q =
    rw (length-set xs i a)
    (sym (rw (length-take-le at l h) at (set_past (take at l) (xs ++ drop (at + length xs) l) i a) ∙ ap (λ (r : List X). take at l ++ r) (set-append_left xs (drop (at + length xs) l) i a q)))

-- a machine with one number changed, written into a row: the machine is written, and the number stored in its place
module _ (row : List ℕ) (long : length row ≡ 1319) (m : Machine) (z : Sized m) where
  changed_set : (next : Machine) (i k x : ℕ) → i < 1313 → k ≡ 6 + i → changing next ≡ set (changing m) i x → changed row next ≡ set (changed row m) k x
  unfolding changed
  changed_set next i k x h q e = ap (λ (xs : List ℕ). overlaid 6 xs row) e ∙ rw q (overlaid_set 6 (changing m) row i x (omega arith) (omega (arith, changing_length m z)))

  changed_phase : (x : ℕ) → changed row (with_phase m x) ≡ set (changed row m) 6 x
  unfolding changing
  changed_phase x = changed_set (with_phase m x) 0 6 x (omega arith) (omega arith) refl

  changed_mark : (s x : ℕ) → s < 256 → changed row (with_mark m s x) ≡ set (changed row m) (7 + s) x
  unfolding changing
  changed_mark s x h =
      changed_set (with_mark m s x) (suc s) (7 + s) x (omega arith) (omega arith)
      (ap (λ (xs : List ℕ). m.phase ∷ xs) (sym (set-append_left m.mark _ s x (omega (arith, z.marks)))))

  changed_held : (w x : ℕ) → w < 32 → changed row (with_hands m (set m.held w x)) ≡ set (changed row m) (775 + w) x
  unfolding changing
  changed_held w x h =
      let front = m.phase ∷ (m.mark ++ (m.label ++ m.via)) in
      let joined : (xs : List ℕ) → front ++ xs ≡ m.phase ∷ (m.mark ++ (m.label ++ (m.via ++ xs))) = λ xs. simp append_assoc in
      let l : length front ≡ 769 = simp length-append (omega (arith, z.marks, z.labels, z.vias)) in
      changed_set (with_hands m (set m.held w x)) (769 + w) (775 + w) x (omega arith) (omega arith)
      (sym (joined (set m.held w x ++ halves m.key)) ∙ ap (λ (xs : List ℕ). front ++ xs) (sym (set-append_left m.held (halves m.key) w x (omega (arith, z.workers))))
      ∙ sym (rw l at (set_past front (m.held ++ halves m.key) w x)) ∙ ap (λ (xs : List ℕ). set xs (769 + w) x) (joined (m.held ++ halves m.key)))

-- what a Take changes of the machine that a row holds, stored in the row
module _ (row : List ℕ) (e : is_row row ≡ true) where
  held_sized : Sized (unpacked row)
  unfolding unpacked
  held_sized = record { marks = part_length row 7 256; labels = part_length row 263 256; vias = part_length row 519 256; workers = part_length row 775 32; keys = made_length (key_from row) 256 }

  pub put_phase : (x : ℕ) → set row 6 x ≡ changed row (with_phase (unpacked row) x)
  put_phase x = sym (changed_phase row (row_bounds row e).long (unpacked row) held_sized x ∙ ap (λ (r : List ℕ). set r 6 x) (changed_unpacked row e))

  pub put_dealt : (worker s : ℕ) → s < 256 → worker < 32 → set (set row (7 + s) out) (775 + worker) s ≡ changed row (dealt (unpacked row) (hands_of (unpacked row)) worker s)
  put_dealt worker s h w =
      let z = held_sized in
      let l = (row_bounds row e).long in
      let marked : changed row (with_mark (unpacked row) s out) ≡ set row (7 + s) out = changed_mark row l (unpacked row) z s out h ∙ ap (λ (r : List ℕ). set r (7 + s) out) (changed_unpacked row e) in
      let sized : Sized (with_mark (unpacked row) s out) = record { marks = length-set (unpacked row).mark s out ∙ z.marks; labels = z.labels; vias = z.vias; workers = z.workers; keys = z.keys } in
      sym (changed_held row l (with_mark (unpacked row) s out) sized worker s w ∙ ap (λ (r : List ℕ). set r (775 + worker) s) marked)

-- a Take of which what its reply tells was written, and a refused call after which nothing was
module _ (row passages estimates : List ℕ) (e : is_row row ≡ true) (given : Answer) (code : ℕ) (q : code ≡ code_of given.reply) where
  pub turn_told : (worker : ℕ) (next : List ℕ) → given ≡ take_of (unpacked row) passages estimates worker → next ≡ changed row (taken (unpacked row) worker given.reply)
      → (code ≡ (take_row row passages estimates worker).code) × (next ≡ (take_row row passages estimates worker).row)
  turn_told worker next g n = turn_made row next given (take_of (unpacked row) passages estimates worker) code e g q (n ∙ ap (changed row) (sym (rw g (take_told (unpacked row) passages estimates worker))))

  pub turn_refused : (v : Event) (refusal : Refusal) → given ≡ call passages estimates (unpacked row) v → given.reply ≡ Refused refusal
      → (code ≡ (turn_of row (call passages estimates (unpacked row) v)).code) × (row ≡ (turn_of row (call passages estimates (unpacked row) v)).row)
  turn_refused v refusal g r =
      let still : given.machine ≡ unpacked row = rw g (call_refused (unpacked row) passages estimates v refusal (rw g at r)) in
      turn_made row row given (call passages estimates (unpacked row) v) code e g q (sym (ap (changed row) still ∙ changed_unpacked row e))

-- a limited Take over a row, by whether the row holds a machine
module _ (row passages estimates : List ℕ) (worker limit code : ℕ) where
  pub counting_unfit : is_row row ≡ false → code ≡ code_of (Refused Unfit) → (code ≡ (take_limited_row row passages estimates worker limit).code) × (row ≡ (take_limited_row row passages estimates worker limit).row)
  unfolding take_limited_row
  counting_unfit e q = (rw e q, rw e refl)

  pub counting_told : (next : List ℕ) (given : Counted) → is_row row ≡ true → given ≡ limited_of (unpacked row) passages estimates worker limit
      → code ≡ given.comparisons * 1099511627776 + code_of given.answer.reply → next ≡ changed row (taken (unpacked row) worker given.answer.reply)
      → (code ≡ (take_limited_row row passages estimates worker limit).code) × (next ≡ (take_limited_row row passages estimates worker limit).row)
  unfolding take_limited_row
  counting_told next given e g q n =
      (rw (e, ← g) q, rw e (n ∙ ap (λ (c : Counted). changed row (taken (unpacked row) worker c.answer.reply)) g ∙ ap (changed row) (sym (limited_told (unpacked row) passages estimates worker limit))))
