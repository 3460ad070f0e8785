-- A path that is read out uses no blocked passage, whatever the machine: going back goes on only from a state that is linked, and so came by a passage that isn't blocked.
use Rattle.std.specs.Prelude.{◌≡◌, List, ◌++◌, ℕ, suc, ◌+◌, ◌-◌, ◌≤◌, ◌<◌, length, get_or, take, drop}
use Rattle.std.proofs.Common.{sym, ap, subst, ◌∙◌, add-zero, arith, get_or-append-add, length-take-le}
use Rattle.std.proofs.Math.ListN.{get_or-append}
use Rattle.laws.specs.Part.{overlaid}
use Rattle.laws.specs.Fill.{overlaid_length}
use Rattle.trail.specs.Trail.{path}
use Rattle.trail.specs.Laws.{Joined, path_joined}
use Rattle.desk.specs.declared.Machine.{Machine}
use Rattle.desk.specs.declared.Reply.TheVariants.{Read}
use Rattle.desk.specs.Machine.{trail_of}
use Rattle.desk.specs.Path.{path_of}
use Rattle.desk.specs.Laws.{path_either}
use Rattle.promises.specs.Demand.{NoneBlocked}

-- what was written over a buffer from a place on, read there
written_at : (at i : ℕ) (xs buffer : List ℕ) → at ≤ length buffer → i < length xs → get_or (overlaid at xs buffer) (at + i) 0 ≡ get_or xs i 0
written_at at i xs buffer l h =
    let e : length (take at buffer) ≡ at = length-take-le at buffer l in
    ap (λ (k : ℕ). get_or (overlaid at xs buffer) (k + i) 0) (sym e)
    ∙ get_or-append-add (take at buffer) (xs ++ drop (at + length xs) buffer) i 0
    ∙ get_or-append xs (drop (at + length xs) buffer) 0 i h

-- joined states, written over a buffer that has room for them
joined_written : (passages : List ℕ) (m : Machine) (states buffer : List ℕ) (at : ℕ) → Joined passages m.start m.goal states → 1 ≤ length states → at + length states ≤ length buffer
    → NoneBlocked passages m (overlaid at states buffer) at (length states)
joined_written passages m states buffer at j some room =
    let stands : (i : ℕ) → i < length states → get_or (overlaid at states buffer) (at + i) 0 ≡ get_or states i 0 = λ i h. written_at at i states buffer (omega arith) h in
    record {
      some = some;
      room = rw (overlaid_length at buffer states room) room;
      first = (rw add-zero at (stands 0 some)) ∙ j.first;
      last = stands (length states - 1) (omega arith) ∙ j.last (length states - 1) (omega arith);
      clear = λ i h.
          let (p, l, c, a, b) = j.links i (omega arith) in
          let k : at + suc i ≡ at + i + 1 = omega arith in
          (p, l, c, a ∙ sym (stands i (omega arith)), b ∙ sym (rw k at (stands (suc i) (omega arith))));
    }

pub none_blocked : (m : Machine) (passages estimates buffer : List ℕ) (at many : ℕ) → (path_of m passages estimates buffer at).given.reply ≡ Read many
    → NoneBlocked passages m (path_of m passages estimates buffer at).buffer at many
none_blocked m passages estimates buffer at many =
    path_either m passages estimates buffer at (λ r. r.given.reply ≡ Read many → NoneBlocked passages m r.buffer at many)
    (λ refusal other e. let z : ◌≡◌ {A = ℕ} 0 1 = cc in absurd (omega arith))
    (λ some room e.
    let q : length (path (trail_of m passages)) ≡ many = cc in
    subst (NoneBlocked passages m (overlaid at (path (trail_of m passages)) buffer) at) q
    (joined_written passages m (path (trail_of m passages)) buffer at (path_joined (trail_of m passages) some) (omega (arith, some)) (omega (arith, some, room))))
