-- Numbers in decimal and lines, as a page's methods build them, and the places that they take.
use Rattle.std.specs.Prelude.{◌≡◌, refl, Bool, true, false, cond, List, [], ◌∷◌, ◌++◌, length, get_or, take, ltb}
use Rattle.std.proofs.Common.{ap, append-nil, append_assoc, pow-suc, add-one, length-append, take_all, take-suc, lt-ltb, le-ltb}
use Prim.Native.Nat.{ℕ, zero, suc, ◌+◌, ◌*◌, ◌-◌, ◌/◌, ◌%◌, ◌^◌, ◌≤◌, ◌<◌}
use native.Mathlib.Omega.{arith}
use Rattle.laws.specs.Ascii.{ascii}
use Rattle.report.specs.declared.page.Page.{Page}
use Rattle.report.specs.Decimal.{glyph, decimal_in, decimal}
use Rattle.report.specs.Line.{numbers}
use Rattle.report.specs.PageLaws.{Written, written_next}
use Rattle.report.specs.Laws.{spaced}

-- a number takes so many places at most
pub decimal_most : (most n : ℕ) → length (decimal_in most n) ≤ most
unfolding decimal_in
decimal_most zero n = omega arith
decimal_most (suc more) n = go (ltb n 10) (decimal_most more (n / 10))
  where
    go : (b : Bool) → length (decimal_in more (n / 10)) ≤ more → length (cond b (glyph n ∷ []) (decimal_in more (n / 10) ++ (glyph (n % 10) ∷ []))) ≤ suc more
    go true h = omega arith
    go false h = rw length-append (omega arith)

pub decimal_le : (n : ℕ) → length (decimal n) ≤ 20
decimal_le n = decimal_most 20 n

-- none is cut off a number of 64 bits: it can be read back
abbrev pub read_back : ℕ → List ℕ → ℕ
read_back before [] = before
read_back before (c ∷ cs) = read_back (10 * before + (c - 48)) cs

back_more : (before : ℕ) (cs : List ℕ) (c : ℕ) → read_back before (cs ++ (c ∷ [])) ≡ 10 * read_back before cs + (c - 48)
back_more before [] c = refl
back_more before (d ∷ cs) c = back_more (10 * before + (d - 48)) cs c

digits_back : (most n : ℕ) → n < 10 ^ most → read_back 0 (decimal_in most n) ≡ n
unfolding decimal_in
digits_back zero n l = omega arith
digits_back (suc more) n l = go (ltb n 10) refl (digits_back more (n / 10) (omega (arith, pow-suc 10 more)))
  where
    go : (b : Bool) → ltb n 10 ≡ b → read_back 0 (decimal_in more (n / 10)) ≡ n / 10 → read_back 0 (cond b (glyph n ∷ []) (decimal_in more (n / 10) ++ (glyph (n % 10) ∷ []))) ≡ n
    go true e h = omega arith
    go false e h = rw (back_more 0 (decimal_in more (n / 10)) (glyph (n % 10)), h) (omega arith)

pub decimal_back : (n : ℕ) → n < 18446744073709551616 → read_back 0 (decimal n) ≡ n
decimal_back n l = digits_back 20 n (omega arith)

-- a number that fits so many digits is the same where there may be one more; so its last digit stands behind the decimal of the others
decimal_enough : (most n : ℕ) → n < 10 ^ suc most → decimal_in (suc (suc most)) n ≡ decimal_in (suc most) n
unfolding decimal_in
decimal_enough zero n l = rw (lt-ltb n 10 (omega (arith, pow-suc 10 zero)))
decimal_enough (suc most) n l = ap (λ (front : List ℕ). cond (ltb n 10) (glyph n ∷ []) (front ++ (glyph (n % 10) ∷ []))) (decimal_enough most (n / 10) (omega (arith, pow-suc 10 (suc most))))

module _ (n : ℕ) where
  front_enough : n < 18446744073709551616 → decimal (n / 10) ≡ decimal_in 19 (n / 10)
  front_enough l = decimal_enough 18 (n / 10) (omega arith)

  pub front_le : n < 18446744073709551616 → length (decimal (n / 10)) ≤ 19
  front_le l = rw (front_enough l) (decimal_most 19 (n / 10))

  decimal_digit : n < 10 → glyph (n % 10) ∷ [] ≡ decimal n
  unfolding decimal_in
  decimal_digit l = rw (lt-ltb n 10 l) (ap (λ (d : ℕ). glyph d ∷ []) (omega arith))

  longer : 10 ≤ n → decimal_in 19 (n / 10) ++ (glyph (n % 10) ∷ []) ≡ decimal_in 20 n
  unfolding decimal_in
  longer h = rw (le-ltb n 10 h)

  decimal_more : 10 ≤ n → n < 18446744073709551616 → decimal (n / 10) ++ (glyph (n % 10) ∷ []) ≡ decimal n
  decimal_more h l = rw (front_enough l) (longer h)

  -- on a page: one digit alone, or one behind the others
  module _ (p q : Page) where
    pub written_digit : n < 10 → Written (glyph (n % 10) ∷ []) p q → Written (decimal n) p q
    written_digit l w = rw (← decimal_digit l) w

    pub written_more : (r : Page) → 10 ≤ n → n < 18446744073709551616 → Written (decimal (n / 10)) p q → Written (glyph (n % 10) ∷ []) q r → Written (decimal n) p r
    written_more r h l w d = rw (← decimal_more h l) (written_next (decimal (n / 10)) (glyph (n % 10) ∷ []) p q r w d)

-- numbers one by one: one more at the end; and the line's end behind them
spaced_more : (ns : List ℕ) (n : ℕ) → spaced (ns ++ (n ∷ [])) ≡ spaced ns ++ (ascii " " ++ decimal n)
unfolding spaced
spaced_more [] n = rw append-nil
spaced_more (m ∷ ns) n = rw (spaced_more ns n, append_assoc (decimal m) (spaced ns) (ascii " " ++ decimal n))

pub spaced_end : (ns : List ℕ) → spaced ns ++ ascii "\n" ≡ numbers ns
unfolding spaced numbers
spaced_end [] = refl
spaced_end (n ∷ ns) = rw (append_assoc (decimal n) (spaced ns) (ascii "\n"), spaced_end ns)

-- what a loop that writes numbers behind a word knows at i: the first i stand there, in 21 places each at most
pub record Listed (word ns : List ℕ) (p q : Page) (i : ℕ) : Type 0 where
  pub text : Written (word ++ spaced (take i ns)) p q
  pub few : q.at ≤ p.at + length word + 21 * i

module _ (word ns : List ℕ) (p q : Page) where
  pub listed_zero : Written word p q → Listed word ns p q 0
  unfolding spaced
  listed_zero w = record { text = rw append-nil w; few = omega (arith, w.put.next) }

  module _ (i : ℕ) (w : Listed word ns p q i) (r : Page) where
    pub listed_more : i < length ns → (n : ℕ) → n ≡ get_or ns i 0 → Written (ascii " " ++ decimal n) q r → Listed word ns p r (i + 1)
    listed_more h n e x = record {
      text = rw (add-one i, take-suc ns i 0 h, spaced_more (take i ns) (get_or ns i 0), ← append_assoc word (spaced (take i ns)) (ascii " " ++ decimal (get_or ns i 0)), ← e)
          (written_next (word ++ spaced (take i ns)) (ascii " " ++ decimal n) p q r w.text x);
      few = omega (arith, w.few, x.put.next, decimal_le n);
    }

    -- and the line's end behind them all
    pub listed_end : length ns ≤ i → Written (ascii "\n") q r → Written (word ++ numbers ns) p r
    listed_end h x = rw (← spaced_end ns, ← append_assoc word (spaced ns) (ascii "\n")) (written_next (word ++ spaced ns) (ascii "\n") p q r (rw (take_all i ns h) at w.text) x)
