use mathlib.Core.Path.{sym, ◌∙◌}
use borrow.Author.Tests.{eqb-true, eq-eqb}
use Rattle.finite.specs.Logic.{◌or◌, not_both}
use Rattle.sets_of_table.specs.Share.{level_alien, level_own, level_device, level_family, level_group, level_sub}
use Rattle.sets_of_table.proofs.share.level.Goals as goal

pub returns-then-y-x : goal.returns-then-y-x
unfolding ◌or◌
returns-then-y-x c p a b ex ey eo = level_alien p a b (rw (ex, ey) at c.if-y-x.true)

pub returns-then-own : goal.returns-then-own
unfolding ◌or◌
returns-then-own c p a b ex ey eo = level_own p a b (rw (ex, ey) at c.if-y-x.false) (eqb-true a b (sym eo ∙ c.if-own.true))

pub returns-then-x-y : goal.returns-then-x-y
unfolding ◌or◌
returns-then-x-y c p a b ex ey eo =
    level_device p a b (rw (ex, ey) at c.if-y-x.false) (λ e. not_both (eq-eqb a b e) (sym eo ∙ c.if-own.false)) (rw (ex, ey) at c.if-x-y.true)

pub returns-then-x-y-2 : goal.returns-then-x-y-2
unfolding ◌or◌
returns-then-x-y-2 c p a b ex ey eo =
    level_family p a b (rw (ex, ey) at c.if-y-x.false) (λ e. not_both (eq-eqb a b e) (sym eo ∙ c.if-own.false))
    (rw (ex, ey) at c.if-x-y.false) (rw (ex, ey) at c.if-x-y-2.true)

pub returns-then-x-y-3 : goal.returns-then-x-y-3
unfolding ◌or◌
returns-then-x-y-3 c p a b ex ey eo =
    level_group p a b (rw (ex, ey) at c.if-y-x.false) (λ e. not_both (eq-eqb a b e) (sym eo ∙ c.if-own.false))
    (rw (ex, ey) at c.if-x-y.false) (rw (ex, ey) at c.if-x-y-2.false) (rw (ex, ey) at c.if-x-y-3.true)

pub returns : goal.returns
unfolding ◌or◌
returns c p a b ex ey eo =
    level_sub p a b (rw (ex, ey) at c.if-y-x.false) (λ e. not_both (eq-eqb a b e) (sym eo ∙ c.if-own.false))
    (rw (ex, ey) at c.if-x-y.false) (rw (ex, ey) at c.if-x-y-2.false) (rw (ex, ey) at c.if-x-y-3.false)
