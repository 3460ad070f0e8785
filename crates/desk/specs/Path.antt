-- "Path reading": its reply and every place of the caller's buffer, with the refusals 8, 13, 14 and 15.
use Rattle.std.specs.Prelude.{not, List, ℕ, ◌-◌, length, leb, eqb}
use Rattle.laws.specs.Truth.{provided}
use Rattle.rule.specs.declared.refusals.Refusal.{Refusal}
use Rattle.rule.specs.declared.refusals.Refusal.TheVariants.{Unfit, NotFound, BrokenTrail, ShortBuffer}
use Rattle.laws.specs.Part.{overlaid}
use Rattle.trail.specs.Trail.{path}
use Rattle.desk.specs.declared.Machine.{Machine}
use Rattle.desk.specs.declared.Reply.TheVariants.{Read}
use Rattle.desk.specs.declared.Answer.{Answer}
use Rattle.desk.specs.Machine.{hands_of, trail_of}
use Rattle.desk.specs.Reply.{answer, refused}
use Rattle.desk.specs.Fits.{fits}

-- what is handed back, and what the caller's buffer then holds
pub record PathReading : Type 0 where
  pub given : Answer
  pub buffer : List ℕ

abbrev pub path_refused : Machine → List ℕ → Refusal → PathReading
path_refused m buffer refusal = record { given = refused m refusal; buffer = buffer }

-- 8 "task or machine doesn't fit"; 13 "phase isn't 1"; 14 going back fails; 15 "fewer places from the named place to the buffer's end than the path has; a place past the end leaves none"
unfoldable pub path_of : Machine → List ℕ → List ℕ → List ℕ → ℕ → PathReading
path_of m passages estimates buffer at =
    let states = path (trail_of m passages) in
    provided (fits m (hands_of m) passages estimates) (path_refused m buffer Unfit)
    (provided (eqb m.phase 1) (path_refused m buffer NotFound)
    (provided (not (eqb (length states) 0)) (path_refused m buffer BrokenTrail)
    (provided (leb (length states) (length buffer - at)) (path_refused m buffer ShortBuffer)
    (record { given = answer m (Read (length states)); buffer = overlaid at states buffer }))))
