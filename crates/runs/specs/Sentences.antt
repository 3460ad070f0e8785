-- Sentences of documents 01 and 02 that no starred run shows and no promise speaks of, each by a case made up for it: one table in five parts, under one claim.
use Rattle.runs.specs.Steps.{Steps, steps}
use Rattle.runs.specs.Limits.{Limits, limits}
use Rattle.runs.specs.Keys.{Keys, keys}
use Rattle.runs.specs.Refusals.{Refusals, refusals}
use Rattle.runs.specs.Files.{Files, files}

pub record Sentences : Type 0 where
  pub rule : Steps
  pub counts : Limits
  pub stored : Keys
  pub numbers : Refusals
  pub bytes : Files

pub sentences : Sentences
sentences = record { rule = steps; counts = limits; stored = keys; numbers = refusals; bytes = files }
