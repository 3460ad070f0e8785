-- A page: text in a lent buffer, put piece by piece, front to back.
use Rattle.std.specs.Prelude.{◌≡◌, refl, List, [], ◌++◌, ℕ, ◌+◌, ◌≤◌, length}
use Rattle.std.proofs.Common.{◌∙◌, arith}
use Rattle.laws.specs.Put.{Put, put_next, put_none}
use Rattle.report.specs.declared.page.Page.{Page}

-- so many places are left
abbrev pub Room : ℕ → Page → Type 0
Room many p = p.at + many ≤ length p.out.now

-- the text was put behind what stood there, in the buffer that was lent, which is as long as it was
pub record Written (text : List ℕ) (p q : Page) : Type 0 where
  pub lent : q.out.ghost_name ≡ p.out.ghost_name
  pub where_it_was : q.out.ref_ptr ≡ p.out.ref_ptr
  pub put : Put p.at text p.out.now q.out.now q.at
  pub long : length q.out.now ≡ length p.out.now
  pub inside : q.at ≤ length q.out.now

-- and it took so many places at most
pub record WrittenIn (most : ℕ) (piece : List ℕ) (p q : Page) : Type 0 where
  pub text : Written piece p q
  pub short : q.at ≤ p.at + most

-- no piece, and one piece after another
pub written_none : (p : Page) → p.at ≤ length p.out.now → Written [] p p
written_none p room = record { lent = refl; where_it_was = refl; put = put_none p.at p.out.now; long = refl; inside = room }

pub written_next : (xs ys : List ℕ) (p q r : Page) → Written xs p q → Written ys q r → Written (xs ++ ys) p r
written_next xs ys p q r a b = record {
  lent = b.lent ∙ a.lent;
  where_it_was = b.where_it_was ∙ a.where_it_was;
  put = put_next p.at q.at r.at xs ys p.out.now q.out.now r.out.now a.put b.put (omega (arith, a.put.next, a.long, a.inside));
  long = b.long ∙ a.long;
  inside = b.inside;
}
