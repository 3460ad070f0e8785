-- Each contract of this crate determines its answer. What that is, and how a line here is read, says `crates/determined/specs/Fixes.antt`.
-- Assumes nothing.
use Rattle.std.specs.Prelude.{◌≡◌, List, ℕ}
use Rattle.determined.specs.Fixes.{Fixes, Answers, same}
use Rattle.report.specs.declared.page.Page.{Page}
use Rattle.report.specs.PageLaws.{Written}
use Rattle.report.specs.contracts as c
use Rattle.report.proofs as f

-- a page on which the same text was put is the same page
same_page : (text : List ℕ) (p q r : Page) → Written text p q → Written text p r → q ≡ r
same_page text p q r v w i = record {
  out = record { ref_ptr = same v.where_it_was w.where_it_was i; ghost_name = same v.lent w.lent i; now = same v.put.done w.put.done i };
  at = same v.put.next w.put.next i;
}

-- session.rt
pub put_path : Fixes c.session.put_path.ended f.session.put_path.Reads.Learnt
put_path κs a x y p q i = (tt, (same_page _ _ _ _ p.text q.text i, (tt, (tt, (tt, tt)))))

pub put_after : Fixes c.session.put_after.ended f.session.put_after.Reads.Learnt
put_after κs a x y p q i = (tt, (same_page _ _ _ _ p.text q.text i, (tt, (tt, (tt, (tt, tt))))))

pub tell : Fixes c.session.tell.ended f.session.tell.Reads.Learnt
tell κs a x y p q i = (same p.machine q.machine i, (same_page _ _ _ _ p.text q.text i, (tt, (tt, (tt, (tt, tt))))))

pub play : Fixes c.session.play.ended f.session.play.Reads.Learnt
play κs a x y p q i = (tt, (same_page _ _ _ _ p q i, (tt, (tt, (tt, (tt, tt))))))

pub opened : Fixes c.session.opened.ended f.session.opened.Reads.Learnt
opened κs a x y p q i = (same p q i, x.1)

pub put_session : Fixes c.session.put_session.ended f.session.put_session.Reads.Learnt
put_session κs a x y p q i = (tt, (same_page _ _ _ _ p q i, (tt, (tt, (tt, (tt, tt))))))

pub put_file : Fixes c.session.put_file.ended f.session.put_file.Reads.Learnt
put_file κs a x y p q i = (tt, (same_page _ _ _ _ p q i, (tt, tt)))

pub report : Answers c.session.report.ended f.session.report.Reads.Asked f.session.report.Reads.Learnt
report = (λ κs a. tt, λ κs a x y p q i. (same p.0 q.0 i, (tt, (same p.1 q.1 i, tt))))

-- line.rt
pub line : Fixes c.page.Page.line.ended f.page.Page.line.Reads.Learnt
line κs a x y p q i = (tt, (same_page _ _ _ _ p.text q.text i, (tt, (tt, tt))))

pub reply : Fixes c.page.Page.reply.ended f.page.Page.reply.Reads.Learnt
reply κs a x y p q i = (tt, (same_page _ _ _ _ p.text q.text i, (tt, (tt, tt))))

pub path : Fixes c.page.Page.path.ended f.page.Page.path.Reads.Learnt
path κs a x y p q i = (tt, (same_page _ _ _ _ p.text q.text i, (tt, (tt, tt))))

-- page.rt
pub byte : Fixes c.page.Page.byte.ended f.page.Page.byte.Reads.Learnt
byte κs a x y p q i = (tt, (same_page _ _ _ _ p q i, (tt, tt)))

pub word : Fixes c.page.Page.word.ended f.page.Page.word.Reads.Learnt
word κs a x y p q i = (tt, (same_page _ _ _ _ p q i, (tt, tt)))

pub decimal : Fixes c.page.Page.decimal.ended f.page.Page.decimal.Reads.Learnt
decimal κs a x y p q i = (tt, (same_page _ _ _ _ p q i, (tt, tt)))

pub number : Fixes c.page.Page.number.ended f.page.Page.number.Reads.Learnt
number κs a x y p q i = (tt, (same_page _ _ _ _ p q i, (tt, tt)))

-- status.rt
pub ending_status : Answers c.status.U8FromEnding.from.ended f.status.U8FromEnding.from.Reads.Asked f.status.U8FromEnding.from.Reads.Learnt
ending_status = (λ κs a. tt, λ κs a x y p q i. (same p q i, x.1))

pub ending_of : Answers c.status.ending_of.ended f.status.ending_of.Reads.Asked f.status.ending_of.Reads.Learnt
ending_of = (λ κs a. tt, λ κs a x y p q i. (same p q i, x.1))

pub status_of : Answers c.status.status_of.ended f.status.status_of.Reads.Asked f.status.status_of.Reads.Learnt
status_of = (λ κs a. tt, λ κs a x y p q i. (same p q i, x.1))
