use native.Mathlib.Omega.{arith}
use Rattle.sets_grids.specs.Grid.{grid_kept}
use Rattle.sets_grids.specs.Given.{given_kept, given_few}
use Rattle.sets_sync.specs.Synced.{synced}
use Rattle.sets_sync.proofs.all.synchronize.Goals as goal

pub fill_later-requires : goal.fill_later-requires
fill_later-requires c =
    (given_kept c.fill_mutual.ensures.frame c.requires, c.fill_mutual.ensures.grid)

pub fill_heads-requires : goal.fill_heads-requires
fill_heads-requires c =
    (given_kept c.fill_later.ensures.frame (given_kept c.fill_mutual.ensures.frame c.requires), c.fill_later.ensures.grid)

pub fill_taken-requires : goal.fill_taken-requires
fill_taken-requires c =
    let small = given_few c.requires in
    (given_kept c.fill_heads.ensures.frame (given_kept c.fill_later.ensures.frame (given_kept c.fill_mutual.ensures.frame c.requires)), grid_kept (λ o. absurd (omega arith)) c.fill_heads.ensures.frame (grid_kept (λ o. absurd (omega arith)) c.fill_later.ensures.frame c.fill_mutual.ensures.grid), c.fill_heads.ensures.grid)

pub fill_passed-requires : goal.fill_passed-requires
fill_passed-requires c =
    given_kept c.fill_taken.ensures.frame (given_kept c.fill_heads.ensures.frame (given_kept c.fill_later.ensures.frame (given_kept c.fill_mutual.ensures.frame c.requires)))

pub fill_sync-requires : goal.fill_sync-requires
fill_sync-requires c =
    let small = given_few c.requires in
    (given_kept c.fill_passed.ensures.frame (given_kept c.fill_taken.ensures.frame (given_kept c.fill_heads.ensures.frame (given_kept c.fill_later.ensures.frame (given_kept c.fill_mutual.ensures.frame c.requires)))), record { taken = grid_kept (λ o. absurd (omega arith)) c.fill_passed.ensures.frame c.fill_taken.ensures.grid; passed = c.fill_passed.ensures.grid })

pub shape_of-w : goal.shape_of-w
shape_of-w c =
    (synced _ (given_few c.requires) c.fill_mutual.ensures c.fill_later.ensures c.fill_heads.ensures c.fill_taken.ensures c.fill_passed.ensures c.fill_sync.ensures).frame.len

pub returns : goal.returns
returns c =
    synced _ (given_few c.requires) c.fill_mutual.ensures c.fill_later.ensures c.fill_heads.ensures c.fill_taken.ensures c.fill_passed.ensures c.fill_sync.ensures
