-- The slices that reading fills, element by element, and a file that says what they hold.
-- Assumes nothing.
use Rattle.std.specs.Prelude.{◌≡◌, refl, List, ℕ, ◌+◌, ◌*◌, ◌<◌, length, get_or}
use Rattle.std.proofs.Common.{◌∙◌, add_assoc}
use Rattle.std.proofs.Math.Nat.{zero-add}
use native.Mathlib.Omega.{arith}
use Rattle.laws.specs.Fill.{made_length}
use Rattle.laws.specs.Gather.{gathered_even}
use Rattle.taskfile.specs.Bytes.{byte, number_at, word, long}
use Rattle.taskfile.specs.Records.{worker_width, event_of, passage_place, row_place, call_place}
use Rattle.taskfile.specs.Contents.{file_passages, file_estimates, file_calls}
use Rattle.roundtrip.specs.Standing.{Stands, stands_none, stands_head, stands_tail, stands_cons, stands_piece, stands_gathered, stands_element, stands_made}

module _ (file : List ℕ) (m : ℕ) where
  pub passages_length : length (file_passages file m) ≡ 3 * m
  unfolding file_passages
  passages_length = gathered_even _ 3 (λ i. refl) m ∙ omega arith

  module _ (l : List ℕ) where
    pub passages_hold : Stands (file_passages file m) l 0 → (i : ℕ) → i < m
        → (get_or l (3 * i) 0 ≡ word file (passage_place i + 4)) × (get_or l (3 * i + 1) 0 ≡ word file (passage_place i + 6)) × (get_or l (3 * i + 2) 0 ≡ long file (passage_place i + 8))
    unfolding file_passages
    passages_hold s i h =
        let place : 0 + i * 3 ≡ 3 * i = omega arith in
        let t = rw place at (stands_piece _ 3 (λ i. refl) m i s h) in
        (stands_head t, stands_head (stands_tail t), rw (add_assoc (3 * i) 1 1) at (stands_head (stands_tail (stands_tail t))))

    pub passages_stand : ((i : ℕ) → i < m → (get_or l (3 * i) 0 ≡ word file (passage_place i + 4)) × (get_or l (3 * i + 1) 0 ≡ word file (passage_place i + 6)) × (get_or l (3 * i + 2) 0 ≡ long file (passage_place i + 8)))
        → Stands (file_passages file m) l 0
    unfolding file_passages
    passages_stand e =
        stands_gathered _ 3 (λ i. refl) m (λ i h.
        let place : 0 + i * 3 ≡ 3 * i = omega arith in
        rw place (stands_cons (e i h).0 (stands_cons (e i h).1 (stands_cons (rw (add_assoc (3 * i) 1 1) (e i h).2) stands_none))))

  module _ (n : ℕ) where
    pub estimates_length : length (file_estimates file m n) ≡ n * n
    unfolding file_estimates
    estimates_length = gathered_even _ n (λ r. made_length _ n) n

    module _ (l : List ℕ) where
      pub estimates_hold : Stands (file_estimates file m n) l 0 → (r c : ℕ) → r < n → c < n → get_or l (r * n + c) 0 ≡ long file (row_place m n r + 6 + 4 * c)
      unfolding file_estimates
      estimates_hold s r c h k = stands_element _ n (rw zero-add at (stands_piece _ n (λ r. made_length _ n) n r s h)) c k

      pub estimates_stand : ((r c : ℕ) → r < n → c < n → get_or l (r * n + c) 0 ≡ long file (row_place m n r + 6 + 4 * c)) → Stands (file_estimates file m n) l 0
      unfolding file_estimates
      estimates_stand e = stands_gathered _ n (λ r. made_length _ n) n (λ r h. rw zero-add (stands_made _ n (λ c k. e r c h k)))

    module _ (c : ℕ) where
      pub calls_length : length (file_calls file m n c) ≡ c
      unfolding file_calls
      calls_length = made_length _ c

      module _ (l : List ℕ) where
        pub calls_hold : Stands (file_calls file m n c) l 0 → (i : ℕ) → i < c → get_or l i 0 ≡ event_of (byte file (call_place m n i + 4)) (number_at worker_width file (call_place m n i + 5))
        unfolding file_calls
        calls_hold s i h = rw zero-add at (stands_element _ c s i h)

        pub calls_stand : ((i : ℕ) → i < c → get_or l i 0 ≡ event_of (byte file (call_place m n i + 4)) (number_at worker_width file (call_place m n i + 5))) → Stands (file_calls file m n c) l 0
        unfolding file_calls
        calls_stand e = stands_made _ c (λ i h. rw zero-add (e i h))
