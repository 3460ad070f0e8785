-- Text written piece by piece, and the places that it takes.
use Rattle.std.specs.Prelude.{◌≡◌, refl, false, cond, not, List, [], ◌∷◌, ◌++◌, ℕ, ◌+◌, ◌*◌, ◌≤◌, replicate, T, eqb}
use Rattle.std.proofs.Common.{subst, ◌∙◌, ne_eqb}
use types.Run.{OneOf, miss}
use mir.Val.{has_key}
use denote.Enum.Declared.{tag_of}
use Rattle.rule.specs.declared.refusals.Refusal.{Refusal}
use Rattle.desk.specs.declared.Machine.{Machine}
use Rattle.desk.specs.declared.Reply.{Reply}
use Rattle.desk.specs.contracts.Reply.{the_type}
use Rattle.desk.specs.declared.Reply.TheVariants.{Opened, Took, Brought, Found, NoPath, Wait, Read, Refused, Done, Cut}
use Rattle.desk.specs.Reply.{case_of, when, found, read, refusal}
use Rattle.desk.specs.Path.{path_of}
use Rattle.desk.specs.Calls.{worker_of, call}
use Rattle.desk.specs.Morning.{event_of}
use Rattle.taskfile.specs.declared.Contents.{Contents}
use Rattle.report.specs.declared.page.Page.{Page}
use Rattle.laws.specs.Ascii.{ascii}
use Rattle.report.specs.Decimal.{decimal}
use Rattle.report.specs.Line.{path_line, spoken}
use Rattle.report.specs.PageLaws.{Written}

-- the tag that a match on a reply goes by is the reply's case
tag_case : (r : Reply) → tag_of the_type r ≡ case_of r
tag_case Opened = refl
tag_case (Took s) = refl
tag_case (Brought many) = refl
tag_case (Found cost) = refl
tag_case NoPath = refl
tag_case (Wait s) = refl
tag_case (Read many) = refl
tag_case (Refused why) = refl
tag_case Done = refl
tag_case (Cut limit) = refl

-- a match that is left with the tags `others` is left with a reply of another case
pub other_case : (others : List ℕ) (case : ℕ) (r : Reply) → T (not (has_key others case)) → OneOf others (tag_of the_type r) → eqb (case_of r) case ≡ false
other_case others case r h o = ne_eqb (case_of r) case (λ e. miss others case h (subst (OneOf others) (tag_case r ∙ e) o))

-- a match that has no refusal left is left with a reply of another case
abbrev pub NotRefused : Reply → Type 0
NotRefused r = (why : Refusal) → r ≡ Refused why → ⊥

pub not_refused : (r : Reply) → NotRefused r → eqb (case_of r) refusal ≡ false
not_refused Opened n = refl
not_refused (Took s) n = refl
not_refused (Brought many) n = refl
not_refused (Found cost) n = refl
not_refused NoPath n = refl
not_refused (Wait s) n = refl
not_refused (Read many) n = refl
not_refused (Refused why) n = absurd (n why refl)
not_refused Done n = refl
not_refused (Cut limit) n = refl

-- numbers with a blank before each, which a line's end has yet to follow
unfoldable pub spaced : List ℕ → List ℕ
spaced [] = []
spaced (n ∷ ns) = ascii " " ++ (decimal n ++ spaced ns)

-- the path line of a machine
abbrev pub path_text : Machine → List ℕ → List ℕ → List ℕ
path_text m passages estimates = let r = path_of m passages estimates (replicate 256 0) 0 in path_line r.buffer r.given.reply

-- a path that was read fits the 256 places that it was read into
abbrev pub PathFits : Reply → Type 0
PathFits reply = when read reply (λ many. many) 0 ≤ 256

-- the places that what follows a reply's line may take: a path line, after Found
abbrev pub reserve : Reply → ℕ
reserve reply = when found reply (λ _. 8192) 0

-- the places kept back for a path line while the search goes on: Found comes once, and ends it
abbrev pub spare : Machine → ℕ
spare m = cond (eqb m.phase 0) 8192 0

-- an event's call made and said: the machine, the text, and the places it took
pub record Said (m : Machine) (passages estimates : List ℕ) (event : ℕ) (p q : Page) (next : Machine) : Type 0 where
  pub machine : next ≡ (call passages estimates m (event_of event)).machine
  pub text : Written (spoken passages estimates (worker_of (event_of event)) (call passages estimates m (event_of event))) p q
  pub within : q.at + spare next ≤ p.at + 50 + spare m

-- what was read of a file fits the slices that it was read into
pub record Counts (c : Contents) (passages estimates calls : ℕ) : Type 0 where
  pub passages_in : 3 * c.passages ≤ passages
  pub estimates_in : c.n * c.n ≤ estimates
  pub calls_in : c.calls ≤ calls
