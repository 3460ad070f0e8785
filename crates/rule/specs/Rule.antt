-- "The rule of a step", as far as it speaks of single numbers: independence of two states, the key, and when a label is set.
use Rattle.std.specs.Prelude.{Bool, ◌&&◌, ◌||◌, not, cond, ℕ, ◌+◌, ◌*◌, ltb, pos, ◌-ℤ◌, ◌*ℤ◌}
use Rattle.std.specs.Int.Signed.{le_z}
use Rattle.rule.specs.Marks.{is_unseen, is_open, is_live}

-- "State s is independent of t when 100 × (label s − label t) ≤ E × h(t,s); the left side is signed and may be negative."
unfoldable pub independent : ℕ → ℕ → ℕ → ℕ → Bool
independent labelS labelT excess h = le_z (pos 100 *ℤ (pos labelS -ℤ pos labelT)) (pos (excess * h))

-- a state with label s depends on one with mark and label t: that one is open or out, and s isn't independent of it
unfoldable pub holds_back : ℕ → ℕ → ℕ → ℕ → ℕ → Bool
holds_back markT labelS labelT excess h = is_live markT && not (independent labelS labelT excess h)

-- "The key of s is 100 × label + W × h(s, goal)."
abbrev pub key_of : ℕ → ℕ → ℕ → ℕ
key_of label pull h = 100 * label + pull * h

-- order 8: "Store each state's key (0 for unseen) in the machine": what is stored for a state with this mark and label
abbrev pub stored_key : ℕ → ℕ → ℕ → ℕ → ℕ
stored_key mark label pull h = cond (is_unseen mark) 0 (key_of label pull h)

-- "Where the far end is unseen or open, and is unseen or has a label greater than held label + cost"
unfoldable pub lowers : ℕ → ℕ → ℕ → Bool
lowers mark label sum = (is_unseen mark || is_open mark) && (is_unseen mark || ltb sum label)
