use mathlib.Core.Path.{sym, ap, ◌∙◌}
use native.Mathlib.Omega.{arith}
use lib.ListN.{length, length-replicate}
use Prim.Native.Nat.{ℕ, ◌*◌}
use Rattle.model.specs.Limits.{ROWS}
use Rattle.model.specs.Table.{decode}
use Rattle.sets_overlap.specs.Locations.{meeting_begin, meeting_end}
use Rattle.sets_overlap.proofs.meet.Goals as goal

pub rows-unmet-requires : goal.rows-unmet-requires
rows-unmet-requires c = let a = c.requires.0.space in omega arith

pub loop-i-init : goal.loop-i-init
unfolding decode
loop-i-init c = meeting_begin c.requires.0 _ c.rows-unmet.ensures c.requires.1

pub take_in-unmet-requires : goal.take_in-unmet-requires
unfolding decode
take_in-unmet-requires c =
    (c.in-Some.ensures, c.requires.0, c.loop-i.invariant)

pub loop-i-smaller : goal.loop-i-smaller
loop-i-smaller c = c.take_in-unmet.ensures.less

pub loop-i-preserved : goal.loop-i-preserved
loop-i-preserved c = c.take_in-unmet.ensures.meeting

pub shape_of-near : goal.shape_of-near
shape_of-near c =
    c.loop-i.invariant.long ∙ sym (ap length c.requires.1 ∙ length-replicate {A = ℕ} (2 * ROWS) 0)

pub returns : goal.returns
unfolding decode
returns c =
    meeting_end c.requires.0 c.in_default.ensures c.loop-i.invariant
