use mathlib.Core.Path.{◌≡◌, refl}
use native.Mathlib.Omega.{arith}
use Rattle.find_sources.specs.Sources.{listed_none, listed_more}
use borrow.Author.Rules.{rules}
use Rattle.find_sources.proofs.sources.read_sources.Goals as goal

pub loop-i-init : goal.loop-i-init
loop-i-init c = (search rules, refl, listed_none _ _ refl)

pub loop-i-preserved : goal.loop-i-preserved
loop-i-preserved c =
    let inv = c.loop-i.invariant in
    let more = listed_more _ _ _ _ (omega arith) (rw c.row_bytes.ensures at c.read_source-s.ensures) inv.2 in
    (search rules, more.room, more)

pub returns : goal.returns
returns c =
    let e : c.loop-i.i ≡ c.args.t.now.rows = omega arith in
    rw e at c.loop-i.invariant.2
