use Rattle.finite.specs.Logic.{◌and◌, ◌or◌}
use Rattle.door_rows.specs.Shares.{shares_alien, shares_device, shares_invocation, shares_apart, shares_family, shares_parted, shares_rest}
use Rattle.door_rows.proofs.scopes.shares_at.Goals as goal

pub returns-then-y-x : goal.returns-then-y-x
unfolding ◌and◌ ◌or◌
returns-then-y-x c p e f = shares_alien p _ _ _ _ _ e f c.if-y-x.true

pub returns-then-scope-eq-DEVICE : goal.returns-then-scope-eq-DEVICE
unfolding ◌and◌ ◌or◌
returns-then-scope-eq-DEVICE c p e f = shares_device p _ _ _ _ _ e f c.if-y-x.false c.if-scope-eq-DEVICE.true

pub returns-then-scope-eq-INVOCATION : goal.returns-then-scope-eq-INVOCATION
unfolding ◌and◌ ◌or◌
returns-then-scope-eq-INVOCATION c p e f = shares_invocation p _ _ _ _ _ e f c.if-y-x.false c.if-scope-eq-INVOCATION.true

pub returns-then-x-y : goal.returns-then-x-y
unfolding ◌and◌ ◌or◌
returns-then-x-y c p e f = shares_apart p _ _ _ _ _ e f c.if-y-x.false c.if-scope-eq-DEVICE.false c.if-scope-eq-INVOCATION.false c.if-x-y.true

pub returns-then-scope-eq-FAMILY : goal.returns-then-scope-eq-FAMILY
unfolding ◌and◌ ◌or◌
returns-then-scope-eq-FAMILY c p e f = shares_family p _ _ _ _ _ e f c.if-y-x.false c.if-scope-eq-DEVICE.false
    c.if-scope-eq-INVOCATION.false c.if-x-y.false c.if-scope-eq-FAMILY.true

pub returns-then-x-y-2 : goal.returns-then-x-y-2
unfolding ◌and◌ ◌or◌
returns-then-x-y-2 c p e f =
    shares_parted p _ _ _ _ _ e f c.if-y-x.false
    c.if-scope-eq-DEVICE.false c.if-scope-eq-INVOCATION.false c.if-scope-eq-FAMILY.false c.if-x-y-2.true

pub returns : goal.returns
unfolding ◌and◌ ◌or◌
returns c p e f =
    shares_rest p _ _ _ _ _ e f c.if-y-x.false
    c.if-scope-eq-DEVICE.false c.if-scope-eq-INVOCATION.false c.if-scope-eq-FAMILY.false
    c.if-x-y.false c.if-x-y-2.false
