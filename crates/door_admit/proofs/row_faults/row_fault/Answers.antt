use Rattle.door_admit.proofs.Laws.{row_codes, row_agent, row_form}
use mathlib.Core.Path.{ap}
use mathlib.Core.Bool.{not}
use Rattle.door_admit.proofs.row_faults.row_fault.Goals as goal

pub returns-then-not-codes_fit : goal.returns-then-not-codes_fit
returns-then-not-codes_fit c = row_codes _ _ _ _ _ _ c.codes_fit.ensures (ap not c.if-not-codes_fit.true)

pub returns-then-not-agent_fits : goal.returns-then-not-agent_fits
returns-then-not-agent_fits c =
    row_agent _ _ _ _ _ _ c.codes_fit.ensures (ap not c.if-not-codes_fit.false) _ c.place_in-x.ensures _
    c.agent_fits.ensures (ap not c.if-not-agent_fits.true)

pub returns : goal.returns
returns c =
    row_form _ _ _ _ _ _ c.codes_fit.ensures (ap not c.if-not-codes_fit.false) _ c.place_in-x.ensures _
    c.agent_fits.ensures _ (ap not c.if-not-agent_fits.false) c.form_fault.ensures
