-- Each refusal leaves the buffer; past them the tail of the buffer is lent to the writer and comes back with the path.
use Rattle.std.proofs.Common.{◌≡◌, ◌∙◌, sym, ap, true, refl, arith, length-take, length-drop}
use Rattle.trail.specs.Laws.{path_within, counted_some, counted_none}
use Rattle.desk.specs.Machine.{hands_of, trail_of}
use Rattle.desk.specs.Fits.{fits}
use Rattle.desk.specs.Path.{path_refused}
use Rattle.desk.specs.Laws.{Fitting, fitting, sound_sizes, fits_by, inside, path_unfit, path_early, path_broken, path_short, path_read, path_way, path_written}
use Rattle.desk.proofs.Calls.{refused_by, reads_as, reads_turned}
use Rattle.desk.proofs.Machine.read_path.Goals as goal
use Rattle.desk.proofs.Machine.read_path.Goals.{After-fits, Else-not-fits, then-at-buffer-via-then-at-buffer, then-at-buffer-via-else-at-buffer+then-count-buffer}

-- what the call of `fits` found
found : (c : After-fits) → c.fits.result ≡ fits c.args.self.now (hands_of c.args.self.now) c.args.passages.now c.args.estimates.now
found c = fits_by _ _ _ _ _ c.is_sound-sound.ensures _ c.fits.ensures

-- past the first test the machine fits
module _ (c : Else-not-fits) where
  fit : fits c.args.self.now (hands_of c.args.self.now) c.args.passages.now c.args.estimates.now ≡ true
  fit = sym (fits_by _ _ _ _ _ c.is_sound-sound.ensures _ c.fits.ensures) ∙ c.if-not-fits.false

  facts : Fitting c.args.self.now (hands_of c.args.self.now) c.args.passages.now c.args.estimates.now
  facts = fitting _ _ _ _ fit

pub fits-requires : goal.fits-requires
fits-requires c = sound_sizes _ _ _ c.is_sound-sound.ensures

pub returns-then-not-fits : goal.returns-then-not-fits
returns-then-not-fits c = reads_as (path_unfit _ _ _ _ c.args.at (sym (found (goal.at.returns-then-not-fits c).After-fits) ∙ c.if-not-fits.true))

pub returns-then-self-ne-FOUND : goal.returns-then-self-ne-FOUND
returns-then-self-ne-FOUND c = reads_as (path_early _ _ _ _ c.args.at (fit (goal.at.returns-then-self-ne-FOUND c).Else-not-fits) c.if-self-ne-FOUND.true)

pub path_length-requires : goal.path_length-requires
path_length-requires c =
    let f = facts (goal.at.path_length-requires c).Else-not-fits in
    (inside _ _ _ _ f, (omega (arith, f.task.goal_in, f.task.states), f.task.states))

pub returns-in_err-count : goal.returns-in_err-count
returns-in_err-count c =
    let f = fit (goal.at.returns-in_err-count c).Else-not-fits in
    let (is, none) = refused_by _ _ _ c.in_err-count.ensures.value in
    reads_turned _ c.from_residual.ensures.1
    (path_broken _ _ _ _ c.args.at f c.if-self-ne-FOUND.false _ refl (counted_none _ (sym c.in_err-count.ensures.ok_part ∙ c.path_length.ensures))
    ∙ ap (path_refused c.args.self.now c.args.buffer.now) (sym is))

pub returns-then-at-buffer : goal.returns-then-at-buffer
returns-then-at-buffer c =
    let f = fit (goal.at.returns-then-at-buffer c).Else-not-fits in
    let (many, some) = counted_some _ _ (sym c.in_ok-count.ensures.ok_part ∙ c.path_length.ensures) in
    reads_as
    (path_short _ _ _ _ c.args.at f c.if-self-ne-FOUND.false _ many (λ z. some (sym many ∙ z))
    (elim c.then-at-buffer.branch [ then-at-buffer-via-then-at-buffer w ↦ omega arith | then-at-buffer-via-else-at-buffer+then-count-buffer w ↦ omega arith ]))

pub write_back-requires : goal.write_back-requires
write_back-requires c =
    let f = fit (goal.at.write_back-requires c).Else-not-fits in
    let (many, some) = counted_some _ _ (sym c.in_ok-count.ensures.ok_part ∙ c.path_length.ensures) in (
      path_way _ _ _ c.args.buffer.now c.args.at f c.if-self-ne-FOUND.false _ many (λ z. some (sym many ∙ z)),
      simp (length-take, length-drop) (omega (arith, c.if-count-buffer.false)),
    )

pub overflow_cast-result : goal.overflow_cast-result
overflow_cast-result c =
    let f = facts (goal.at.overflow_cast-result c).Else-not-fits in
    let (many, some) = counted_some _ _ (sym c.in_ok-count.ensures.ok_part ∙ c.path_length.ensures) in
    omega (arith, many, path_within (trail_of c.args.self.now c.args.passages.now), f.task.states)

pub returns : goal.returns
returns c =
    let f = fit (goal.at.returns c).Else-not-fits in
    let (many, some) = counted_some _ _ (sym c.in_ok-count.ensures.ok_part ∙ c.path_length.ensures) in
    let r = reads_as (path_read _ _ _ _ c.args.at f c.if-self-ne-FOUND.false _ many (λ z. some (sym many ∙ z)) c.if-count-buffer.false) in
    (r.0, path_written _ _ _ c.args.buffer.now c.args.at f c.if-self-ne-FOUND.false _ many (λ z. some (sym many ∙ z)) _ c.write_back.ensures ∙ r.1)
