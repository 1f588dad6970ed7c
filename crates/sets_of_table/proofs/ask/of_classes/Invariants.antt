use Prim.Native.Nat.{◌≤◌}
use Rattle.sets_of_table.specs.Ask.{ClassedTo}
use Rattle.sets_of_table.proofs.ask.of_classes.Given as goal

abbrev pub invariant-loop-q : goal.invariant-loop-q
invariant-loop-q l = (l.q ≤ 4) × ClassedTo l.s l.m l.q l.a
