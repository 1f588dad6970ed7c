use Rattle.run.specs.Layout.{table_of}
use mathlib.Core.Path.{◌≡◌}
use Prim.Native.Nat.{◌≤◌}
use lib.ListN.{length}
use Rattle.find_axioms.specs.Sources.{source_in}
use Rattle.ask_check.specs.Shown.{Numbered, step_number}
use Rattle.ask_check.proofs.show.write_edges.Given as goal

abbrev pub invariant-loop-i : goal.invariant-loop-i
invariant-loop-i l = (l.i ≤ l.size) × (length l.c ≡ length l.initial.c) × Numbered (step_number (table_of l.t) (source_in l.src) l.x l.size l.initial.c) l.i l.initial.c l.c
