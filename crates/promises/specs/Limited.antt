-- Order 7, a Take that knows when to stop: its count is right of every machine, and on a machine that a day reaches it is cut short or answers as Take does.
use Rattle.std.specs.Prelude.{◌≡◌, refl, ◌≢◌, List, ℕ, ◌*◌, ◌-◌, ◌≤◌, ◌<◌}
use Rattle.std.proofs.Common.{sym, ap, ◌∙◌, inl, inr, arith}
use Rattle.laws.specs.Count.{count}
use Rattle.rule.specs.Marks.{is_open, is_live}
use Rattle.checks.specs.Opening.{Task}
use Rattle.dealing.specs.Limited.{full_count}
use Rattle.dealing.specs.LimitedLaws.{full_count_most}
use Rattle.desk.specs.declared.Machine.{Machine}
use Rattle.desk.specs.declared.Reply.TheVariants.{Cut}
use Rattle.desk.specs.declared.Answer.{Answer}
use Rattle.desk.specs.Machine.{mark_of, board_of}
use Rattle.desk.specs.Reply.{case_of, value_of}
use Rattle.desk.specs.Take.{take_of}
use Rattle.desk.specs.Limited.{limited_of}
use Rattle.desk.specs.LimitedLaws.{CutOrTake, limited_given, limited_ends}
use Rattle.promises.specs.Day.{reached}
use Rattle.promises.specs.Demand.{Accepted, CountsRight, LikeTake}
use Rattle.promises.specs.Runs.{limited_alike}
use Rattle.promises.specs.Theorem.{run}

pub counts_right : (m : Machine) (passages estimates : List ℕ) (worker limit : ℕ) → CountsRight m estimates limit (limited_of m passages estimates worker limit)
counts_right m passages estimates worker limit =
    limited_ends m passages estimates worker limit (CountsRight m estimates limit)
    (λ turned k. record { refusing = λ x e. (refl, refl); cutting = λ c e. absurd (omega (arith, ap case_of e)); counting = λ r c. absurd (r turned refl); most = few })
    (λ l k. record {
      refusing = λ number e. absurd (omega (arith, ap case_of e));
      cutting = λ c e. (sym (ap value_of e), refl, refl, l);
      counting = λ r c. absurd (c limit refl);
      most = few;
    })
    (λ d made s. record {
      refusing = λ number e. absurd (omega (arith, ap case_of e, s.case));
      cutting = λ c e. absurd (omega (arith, ap case_of e, s.case));
      counting = λ r c. (s.all, s.within);
      most = few;
    })
  where
    few : m.goal < m.n → full_count m.goal m.pull (board_of m estimates) ≤ count (λ s. is_open (mark_of m s)) m.n * (count (λ s. is_live (mark_of m s)) m.n - 1)
    few = full_count_most m.goal m.pull (board_of m estimates)

pub like_take : (t : Task) → Accepted t → LikeTake t
like_take t accepted = record { alike = λ day worker limit. go (reached t day) worker limit (limited_alike (run t accepted day).stands worker limit) }
  where
    go : (m : Machine) (worker limit : ℕ) → CutOrTake m t.passages t.estimates worker limit
        → let r = (limited_of m t.passages t.estimates worker limit).answer in let a = take_of m t.passages t.estimates worker in
        ((c : ℕ) → r.reply ≢ Cut c) → (r.machine ≡ a.machine) × (r.reply ≡ a.reply)
    go m worker limit (inl e) uncut = absurd (uncut limit (ap (λ (x : Answer). x.reply) (limited_given m t.passages t.estimates worker limit ∙ e)))
    go m worker limit (inr e) uncut =
        let q = limited_given m t.passages t.estimates worker limit ∙ e in
        (ap (λ (x : Answer). x.machine) q, ap (λ (x : Answer). x.reply) q)
