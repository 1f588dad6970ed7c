-- What the tests that the rules of order are written with decide, and what a check accepts, a fill accepts. Assumes nothing.
use Rattle.std.specs.Prelude.{◌≡◌, refl, Bool, true, false, not, List, ◌⊎◌, ◌↔◌, ℕ, ◌<◌, eqb}
use Rattle.std.proofs.Common.{sym, ◌∙◌, ⊎_elim, ne_eqb}
use Rattle.std.proofs.lemmas.Bool.{eqb-false}
use Rattle.finite.specs.Logic.{◌and◌, ◌or◌, split, and_true, or_cases, or_left, or_right, not_in, not_out, not_both}
use Rattle.model.specs.declared.Row.{Row}
use Rattle.model.specs.Limits.{INITIAL, BLANK}
use Rattle.model.specs.Row.{access, plain_read, writes, touches, reads, overlap}
use Rattle.model.specs.Table.{Table, table_under, table_of, sources_of, decode, mode_of, depends_of, dependency}
use Rattle.model.specs.Header.{rows_at}
use Rattle.model.specs.Happens.{happens}
use Rattle.model.specs.Location.{common, before}
use Rattle.model.specs.Race.{clash, conflict}
use Rattle.model.specs.Edge.{before_some}
use Rattle.model.specs.TableFault.{writer_fits, source_fits, source_broken, table_fault}
use Rattle.model.specs.Words.{HappensBefore, WellFormed}
use Rattle.model_laws.specs.AdmissionLaws.{Sound, admitted_sound, sound_admitted, among_right, size_fits}
use Rattle.model_laws.specs.HappensLaws.{happens_is}
use Rattle.model_laws.specs.ChainLaws.{happens_under}
use Rattle.model_laws.specs.PairLaws.{overlap_is, common_in, common_out}
use Rattle.model_laws.specs.ChoiceLaws.{some_before, before_some_lem}
use Rattle.model_promises.specs.Terms.{Fillable}

-- M7, whichever way the switch is: what location order reads, a derivation shows
pub happens_exactly : (chains : Bool) (s : List ℕ) (m k : ℕ)
    → (happens (table_under chains s) m k ≡ true) ↔ HappensBefore (table_of s) m k
unfolding table_of table_under decode mode_of depends_of dependency
happens_exactly chains s m k =
    let h = happens_is (table_of s) m k in
    let e = happens_under chains (table_of s) m k in
    (λ w. h.0 (sym e ∙ w), λ w. e ∙ h.1 w)

-- two rows share a byte
pub overlap_exactly : (r q : Row) → (overlap r q ≡ true) ↔ ((b : ℕ) × (touches r b ≡ true) × (touches q b ≡ true))
overlap_exactly = overlap_is

-- two rows conflict: they are two, one writes, and some byte is of both
pub conflict_exactly : (t : Table) (x y : ℕ) → (conflict t x y ≡ true)
    ↔ ((x ≡ y → ⊥) × ((writes (t.row x) ≡ true) ⊎ (writes (t.row y) ≡ true)) × ((b : ℕ) × (common (t.row x) (t.row y) b ≡ true)))
unfolding conflict clash
conflict_exactly t x y = (
  λ e.
      let d = split e in
      let a = split d.1 in
      let w = split a.0 in
      let c = split w.0 in
      let o = (overlap_is (t.row x) (t.row y)).0 a.1 in (
        eqb-false x y (not_out _ d.0),
        or_cases (writes (t.row x)) (writes (t.row y)) w.1,
        (o.0, shared o.0 c.0 c.1 o.1 o.2),
      ),
  λ h.
      let c = unshared h.2.0 h.2.1 in
      and_true (not_in (ne_eqb x y h.0))
      (and_true (and_true (and_true c.0 c.1) (⊎_elim (λ e. or_left _ e) (λ e. or_right _ e) h.1))
      ((overlap_is (t.row x) (t.row y)).1 (h.2.0, c.2, c.3))),
)
  where
    shared : (b : ℕ) → access (t.row x) ≡ true → access (t.row y) ≡ true → touches (t.row x) b ≡ true → touches (t.row y) b ≡ true
        → common (t.row x) (t.row y) b ≡ true
    shared b p q u v = common_in (t.row x) (t.row y) b p q u v

    unshared : (b : ℕ) → common (t.row x) (t.row y) b ≡ true
        → (access (t.row x) ≡ true) × (access (t.row y) ≡ true) × (touches (t.row x) b ≡ true) × (touches (t.row y) b ≡ true)
    unshared b e = common_out (t.row x) (t.row y) b e

-- edge 1: of a table that a fill doesn't refuse, x is ordered before y at some byte
pub before_some_exactly : (chains : Bool) (s : List ℕ) → Fillable s → (x y : ℕ) → x < rows_at s
    → (before_some (table_under chains s) x y ≡ true) ↔ ((b : ℕ) × (before (table_under chains s) x y b ≡ true))
unfolding table_under decode
before_some_exactly chains s well x y l = (
  λ e. before_some_lem (table_under chains s) x y e,
  λ w. some_before (table_under chains s) x y w.0 (size_fits (admitted_sound true s well) x l) w.1,
)

-- what a check accepts, a fill accepts: a source that fits where no blank is allowed fits where one is
blank_more : (a b c d e : Bool) → (a and not (b or c or (false and d and e))) ≡ false → (a and not (b or c or (true and d and e))) ≡ false
unfolding ◌and◌ ◌or◌
blank_more false b c d e q = refl
blank_more true true c d e q = refl
blank_more true false true d e q = refl
blank_more true false false d e q = not_both refl q

source_more : (t : Table) (source : ℕ → ℕ) (i : ℕ) → source_broken false t source i ≡ false → source_broken true t source i ≡ false
unfolding source_broken source_fits
source_more t source i q =
    blank_more (reads (t.row i)) (eqb (source i) INITIAL) (writer_fits t i (source i)) (plain_read (t.row i)) (eqb (source i) BLANK) q

pub well_fillable : (s : List ℕ) → WellFormed s → Fillable s
unfolding table_fault
well_fillable s well = sound_admitted true s (record { header = h.header; row = h.row; among = among })
  where
    h : Sound false s
    h = admitted_sound false s well

    among : (i : ℕ) → i < rows_at s → table_fault true (table_of s) (sources_of s) i ≡ 0
    among i l =
        let a = among_right h i l in
        rw (a.class, source_more (table_of s) (sources_of s) i a.source, a.rank, a.instance, a.run) refl
