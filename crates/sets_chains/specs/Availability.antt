-- Every availability operation's two sets, operation by operation. Assumes nothing.
use Rattle.std.specs.Prelude.{◌≡◌, refl, Bool, true, false, List, ℕ}
use Rattle.std.proofs.Common.{sym, ◌∙◌, arith}
use Rattle.finite.specs.Logic.{not_both}
use Rattle.finite.specs.Below.{any_below}
use Rattle.model.specs.Limits.{ROWS}
use Rattle.model.specs.Table.{Table}
use Rattle.bits.specs.Within.{Within, within_refl, within_trans, within_widen}
use Rattle.model_placing.specs.Leads.{meets}
use Rattle.sets_of_rows.specs.declared.Set.{Set}
use Rattle.sets_of_rows.specs.Member.{in_set}
use Rattle.sets_of_rows.specs.First.{First, Rest, next}
use Rattle.sets_of_rows.specs.Family.{nth}
use Rattle.sets_of_rows.specs.Rows.{Rows, rows_at, rows_in_lem}
use Rattle.sets_of_rows.specs.Walk.{Walk}
use Rattle.sets_grids.specs.Regions.{AVAILABLE_AVAILABLE, HAPPENS_END, AVAILABLE_TO, VISIBLE_BY, VISIBLE_BY_END}
use Rattle.sets_grids.specs.Grid.{grid_on_kept}
use Rattle.sets_grids.specs.Happens.{Happening}
use Rattle.sets_grids.specs.Given.{Given, given_kept, given_few}
use Rattle.sets_grids.specs.Available.{makes, shown_to, MadeAvailable}
use Rattle.sets_chains.specs.Alone.{After, MadeOne, after_kept}
use Rattle.sets_chains.specs.Chained.{TurnedTo, turned_begin, turned_turn, turned_end}
use Rattle.sets_chains.specs.Filled.{MadeChains}
use Rattle.sets_chains.specs.Made.{Chained}

-- ---- definitions

-- what operations are made available by, on a device that has chains or not
pub record Ready (t : Table) (n : ℕ) (chains : Bool) (s w : List ℕ) : Type 0 where
  pub device : t.chains ≡ chains
  pub given : Given t n s w
  pub after : After t n w
  pub chained : chains ≡ true → Chained t n w

pub record MadeReady (t : Table) (n : ℕ) (chains : Bool) (s w u : List ℕ) : Type 0 where
  pub ready : Ready t n chains s u
  pub frame : Within AVAILABLE_AVAILABLE HAPPENS_END w u

pub record Both (t : Table) (n k : ℕ) (u : List ℕ) : Type 0 where
  pub to : Rows n (meets t k) (nth u AVAILABLE_TO k)
  pub by : Rows n (shown_to t k) (nth u VISIBLE_BY k)

pub record Making (t : Table) (n : ℕ) (chains : Bool) (s : List ℕ) (x : Set) (w : List ℕ) (left : Set) (u : List ℕ) : Type 0 where
  pub walk : Walk x left
  pub to : TurnedTo n x (λ k u. k ≡ k) (Both t n) (next left) u
  pub ready : Ready t n chains s u
  pub frame : Within AVAILABLE_TO VISIBLE_BY_END w u

-- ---- laws

ready_kept : {t : Table} {n : ℕ} {chains : Bool} {s w u : List ℕ} → Within AVAILABLE_TO VISIBLE_BY_END w u → Ready t n chains s w → Ready t n chains s u
ready_kept f r =
    let l = given_few r.given in
    record {
      device = r.device;
      given = given_kept f r.given;
      after = after_kept l (omega arith) f r.after;
      chained = λ e. record { outs = grid_on_kept (λ h. omega arith) f (r.chained e).outs; ins = grid_on_kept (λ h. omega arith) f (r.chained e).ins };
    }

pub ready_chains : {t : Table} {n : ℕ} {chains : Bool} {s w u : List ℕ} → chains ≡ t.chains → Given t n s w → Happening t n w → MadeChains t n w u → MadeReady t n chains s w u
ready_chains d g h m =
    let few = given_few g in
    record {
      ready = record {
        device = sym d;
        given = given_kept m.frame g;
        after = after_kept few (omega arith) m.frame (record { rows = h.available_rows_lem; visibles = h.available_visibles_lem });
        chained = λ e. record { outs = m.outs; ins = m.ins };
      };
      frame = m.frame;
    }

pub ready_alone : {t : Table} {n : ℕ} {chains : Bool} {s w : List ℕ} → chains ≡ t.chains → chains ≡ false → Given t n s w → Happening t n w → MadeReady t n chains s w w
ready_alone {w = w} d off g h =
    record {
      ready = record {
        device = sym d;
        given = g;
        after = record { rows = h.available_rows_lem; visibles = h.available_visibles_lem };
        chained = λ e. not_both e off;
      };
      frame = within_refl AVAILABLE_AVAILABLE HAPPENS_END w;
    }

pub make_begin : {t : Table} {n : ℕ} {chains : Bool} {s w : List ℕ} (x : Set) → Ready t n chains s w → Making t n chains s x w x w
make_begin {t} {n} {w = w} x r =
    let b = turned_begin n x (λ k u. k ≡ k) (Both t n) w (λ k l. refl) in
    record { walk = b.0; to = b.1; ready = r; frame = within_refl AVAILABLE_TO VISIBLE_BY_END w }

pub make_turn : {t : Table} {n i : ℕ} {chains : Bool} {s w u v : List ℕ} {x left rest : Set} → Making t n chains s x w left u → First left i → Rest left rest
    → MadeOne t n i u v → Making t n chains s x w rest v
make_turn {t} {n} {u = u} {v = v} {x = x} m low h p =
    let few = given_few m.ready.given in
    let b = turned_turn n x (λ k u. k ≡ k) (Both t n) u v m.walk m.to low h (λ k l e f. refl)
    (λ k l e f. record { to = rows_at (p.kept_to k (omega arith) e) f.to; by = rows_at (p.kept_by_lem k (omega arith) e) f.by })
    (λ l. record { to = p.to; by = p.by }) in
    record { walk = b.0; to = b.1; ready = ready_kept p.frame m.ready; frame = within_trans m.frame p.frame }

pub make_end : {t : Table} {n : ℕ} {chains : Bool} {s e w u : List ℕ} {x left : Set} → Rows n (makes t) x → any_below ROWS (in_set left) ≡ false
    → Within AVAILABLE_AVAILABLE HAPPENS_END e w → Making t n chains s x w left u → MadeAvailable t n e u
make_end {t} {n} {u = u} {x = x} {left = left} r e f m =
    let all = turned_end n x (λ k u. k ≡ k) (Both t n) left u (given_few m.ready.given) e m.to in
    record {
      available = record { to = record { row = λ i l o. (all.0 i l (rows_in_lem r i l ∙ o)).to }; by = record { row = λ i l o. (all.0 i l (rows_in_lem r i l ∙ o)).by } };
      frame =
          within_trans (within_widen AVAILABLE_AVAILABLE VISIBLE_BY_END (omega arith) (omega arith) f)
          (within_widen AVAILABLE_AVAILABLE VISIBLE_BY_END (omega arith) (omega arith) m.frame);
    }
