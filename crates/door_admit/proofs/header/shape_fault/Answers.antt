use mathlib.Core.Path.{refl, sym, ◌∙◌}
use borrow.Author.Tests.{le-leb, lt-leb}
use Rattle.model.specs.Refusal.{shape_or, shape_fault}
use Rattle.door_admit.proofs.header.shape_fault.Goals as goal

pub returns-then-s-lt-HEADER : goal.returns-then-s-lt-HEADER
unfolding shape_fault shape_or
returns-then-s-lt-HEADER c = rw (lt-leb _ _ c.if-s-lt-HEADER.true) refl

pub returns-then-not-version_fits : goal.returns-then-not-version_fits
unfolding shape_fault shape_or
returns-then-not-version_fits c = rw (
  le-leb _ _ c.if-s-lt-HEADER.false,
  sym c.version_fits.ensures ∙ c.if-not-version_fits.true,
) refl

pub returns-then-not-limits_fit : goal.returns-then-not-limits_fit
unfolding shape_fault shape_or
returns-then-not-limits_fit c = rw (
  le-leb _ _ c.if-s-lt-HEADER.false,
  sym c.version_fits.ensures ∙ c.if-not-version_fits.false,
  sym c.limits_fit.ensures ∙ c.if-not-limits_fit.true,
) refl

pub returns-then-not-length_fits : goal.returns-then-not-length_fits
unfolding shape_fault shape_or
returns-then-not-length_fits c = rw (
  le-leb _ _ c.if-s-lt-HEADER.false,
  sym c.version_fits.ensures ∙ c.if-not-version_fits.false,
  sym c.limits_fit.ensures ∙ c.if-not-limits_fit.false,
  sym c.length_fits.ensures ∙ c.if-not-length_fits.true,
) refl

pub returns : goal.returns
unfolding shape_fault shape_or
returns c = rw (
  le-leb _ _ c.if-s-lt-HEADER.false,
  sym c.version_fits.ensures ∙ c.if-not-version_fits.false,
  sym c.limits_fit.ensures ∙ c.if-not-limits_fit.false,
  sym c.length_fits.ensures ∙ c.if-not-length_fits.false,
) refl
