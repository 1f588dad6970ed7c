use Rattle.model.specs.Table.{decode}
use Rattle.find_sources.specs.Choice.{fit_told, unfit, missed, fitting}
use Rattle.find_sources.proofs.blanks.candidate_at.Goals as goal

pub returns-then-not-writer_fits : goal.returns-then-not-writer_fits
returns-then-not-writer_fits c = unfit _ _ _ _ (fit_told _ _ _ _ _ _ _ _ c.from-from.ensures (rw c.row_bytes.ensures at c.writer_fits.ensures)) c.if-not-writer_fits.true

pub returns-then-some_miss : goal.returns-then-some_miss
returns-then-some_miss c =
    let d = fit_told _ _ _ _ _ _ _ _ c.from-from.ensures (rw c.row_bytes.ensures at c.writer_fits.ensures) in
    missed _ _ _ _ d _ c.some_miss.ensures c.if-some_miss.true

pub returns : goal.returns
unfolding decode
returns c =
    let d = fit_told _ _ _ _ _ _ _ _ c.from-from.ensures (rw c.row_bytes.ensures at c.writer_fits.ensures) in
    fitting _ _ _ _ d _ c.some_miss.ensures c.if-not-writer_fits.false
    c.if-some_miss.false _ c.some_between.ensures
