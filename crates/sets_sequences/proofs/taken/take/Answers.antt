use mathlib.Core.Path.{sym, ◌∙◌}
use Rattle.model.specs.Table.{decode}
use Rattle.sets_of_table.specs.Ask.{few}
use Rattle.sets_sequences.specs.Taken.{take_none}
use Rattle.sets_sequences.proofs.taken.take.Goals as goal

pub getters-gets-requires : goal.getters-gets-requires
unfolding decode
getters-gets-requires c = let r = c.requires.1 in (r.reader, r.atomic, r.given.opened)

pub join_heads-requires : goal.join_heads-requires
join_heads-requires c =
    let pre = c.requires in
    let r = pre.1 in
    record { few = few r.given.opened; reader = r.reader; writer = pre.0; room = r.given.room; getters = c.getters-gets.ensures; mutuals = r.mutuals; heads = r.heads }

pub shape_of-w : goal.shape_of-w
shape_of-w c = c.join_heads.ensures.frame.len

pub returns-then-has_any : goal.returns-then-has_any
returns-then-has_any c = c.join_heads.ensures

pub returns-else-has_any : goal.returns-else-has_any
returns-else-has_any c =
    take_none _ (few c.requires.1.given.opened) c.getters-gets.ensures (sym c.has_any.ensures ∙ c.if-has_any.false)
