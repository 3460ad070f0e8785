-- `put_path`: the path is read into 256 places of its own, so that it fits them, and is then said.
use Rattle.std.proofs.Math.Path.{subst⁻¹}
use Rattle.desk.specs.declared.Answer.{Answer}
use Rattle.report.specs.Laws.{PathFits}
use Rattle.report.specs.SessionLaws.{path_fits}
use Rattle.report.proofs.session.put_path.Goals as goal

pub path-requires : goal.path-requires
path-requires c =
    (subst⁻¹ (λ (a : Answer). PathFits a.reply) c.path-read.ensures.0 (path_fits _ _ _), c.requires)
