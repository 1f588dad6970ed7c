use mathlib.Core.Path.{refl, sym, ◌∙◌}
use Rattle.model.specs.TableFault.{table_fault}
use Rattle.door_admit.specs.Rows.{ranks}
use Rattle.door_admit.proofs.Laws.{class_any, source_any, rank_any, instance_any, unfit_any}
use Rattle.door_admit.proofs.table_faults.table_fault.Goals as goal

pub returns-then-class_taken : goal.returns-then-class_taken
unfolding table_fault
returns-then-class_taken c = rw (sym (c.class_taken.ensures ∙ class_any _ c.args.p (ranks c.args.counted) c.args.n _) ∙ c.if-class_taken.true) refl

pub returns-then-source_broken : goal.returns-then-source_broken
unfolding table_fault
returns-then-source_broken c = rw (
  sym (c.class_taken.ensures ∙ class_any _ c.args.p (ranks c.args.counted) c.args.n _) ∙ c.if-class_taken.false,
  sym (c.source_broken.ensures ∙ source_any _ c.args.p (ranks c.args.counted) c.args.n _ _) ∙ c.if-source_broken.true,
) refl

pub returns-then-rank_taken : goal.returns-then-rank_taken
unfolding table_fault
returns-then-rank_taken c = rw (
  sym (c.class_taken.ensures ∙ class_any _ c.args.p (ranks c.args.counted) c.args.n _) ∙ c.if-class_taken.false,
  sym (c.source_broken.ensures ∙ source_any _ c.args.p (ranks c.args.counted) c.args.n _ _) ∙ c.if-source_broken.false,
  sym (c.rank_taken.ensures ∙ rank_any _ c.args.p (ranks c.args.counted) c.args.n _) ∙ c.if-rank_taken.true,
) refl

pub returns-then-instance_broken : goal.returns-then-instance_broken
unfolding table_fault
returns-then-instance_broken c = rw (
  sym (c.class_taken.ensures ∙ class_any _ c.args.p (ranks c.args.counted) c.args.n _) ∙ c.if-class_taken.false,
  sym (c.source_broken.ensures ∙ source_any _ c.args.p (ranks c.args.counted) c.args.n _ _) ∙ c.if-source_broken.false,
  sym (c.rank_taken.ensures ∙ rank_any _ c.args.p (ranks c.args.counted) c.args.n _) ∙ c.if-rank_taken.false,
  sym (c.instance_broken.ensures ∙ instance_any _ c.args.p (ranks c.args.counted) c.args.n _) ∙ c.if-instance_broken.true,
) refl

pub returns-then-is_unfit : goal.returns-then-is_unfit
unfolding table_fault
returns-then-is_unfit c = rw (
  sym (c.class_taken.ensures ∙ class_any _ c.args.p (ranks c.args.counted) c.args.n _) ∙ c.if-class_taken.false,
  sym (c.source_broken.ensures ∙ source_any _ c.args.p (ranks c.args.counted) c.args.n _ _) ∙ c.if-source_broken.false,
  sym (c.rank_taken.ensures ∙ rank_any _ c.args.p (ranks c.args.counted) c.args.n _) ∙ c.if-rank_taken.false,
  sym (c.instance_broken.ensures ∙ instance_any _ c.args.p (ranks c.args.counted) c.args.n _) ∙ c.if-instance_broken.false,
  sym (c.is_unfit.ensures ∙ unfit_any _ c.args.p (ranks c.args.counted) c.args.n _) ∙ c.if-is_unfit.true,
) refl

pub returns : goal.returns
unfolding table_fault
returns c = rw (
  sym (c.class_taken.ensures ∙ class_any _ c.args.p (ranks c.args.counted) c.args.n _) ∙ c.if-class_taken.false,
  sym (c.source_broken.ensures ∙ source_any _ c.args.p (ranks c.args.counted) c.args.n _ _) ∙ c.if-source_broken.false,
  sym (c.rank_taken.ensures ∙ rank_any _ c.args.p (ranks c.args.counted) c.args.n _) ∙ c.if-rank_taken.false,
  sym (c.instance_broken.ensures ∙ instance_any _ c.args.p (ranks c.args.counted) c.args.n _) ∙ c.if-instance_broken.false,
  sym (c.is_unfit.ensures ∙ unfit_any _ c.args.p (ranks c.args.counted) c.args.n _) ∙ c.if-is_unfit.false,
) refl
