-- A run of rows that are admitted is one that the stages ask for. Assumes nothing.
use Rattle.std.specs.Prelude.{◌≡◌, refl, Bool, true, cond, List, ℕ, ◌+◌, ◌≤◌, ◌<◌, eqb, leb}
use Rattle.std.proofs.Math.Path.{sym, subst}
use Rattle.std.proofs.Common.{◌∙◌, ⊎_elim, arith}
use Rattle.std.proofs.Math.Bool.{false}
use borrow.Author.Tests.{eqb-true, leb-true, ltb-true, not-false}
use Rattle.finite.specs.Logic.{split, and_true, or_cases, not_both, not_so, not_out}
use Rattle.finite.specs.Below.{any_off, any_out}
use Rattle.finite.specs.Lists.{get_d_tabulate}
use Rattle.model.specs.declared.Row.{Row}
use Rattle.model.specs.Limits.{DEPENDENCIES, LONGEST, BYTES}
use Rattle.model.specs.Row.{plain, access, control, operation}
use Rattle.model.specs.Scope.{DEVICE}
use Rattle.model.specs.Availability.{same_reference}
use Rattle.model.specs.Table.{Mode, row_of, source_of, dependency_count, dependency_from, dependency_to, dependency, depends_of}
use Rattle.model.specs.Header.{rows_at, agents_at, has_hosts, row_bytes, dependency_bytes}
use Rattle.model.specs.Table.{mode_of, decode, table_under}
use Rattle.model.specs.Refusal.{dependencies_named, names_missing}
use Rattle.model.specs.RowFault.{codes_fit, kind_fits, plain_fits}
use Rattle.model_laws.specs.AdmissionLaws.{Sound, rows_fit, agents_fit, dependencies_fit_lem, hosts_right, row_right, form_right, access_size, access_end, size_fits}
use Rattle.model_placing.specs.Admitted.{one_class_of, empty_of}
use Rattle.run.specs.Layout.{rows_in}
use Rattle.door_open.specs.Opened.{RunOf}
use Rattle.sets_of_table.specs.Filed.{Coded, coded_fit}
use Rattle.sets_of_table.specs.Fit.{FitRun}

-- ---- definitions

-- what Fit asks of rows alone
pub record RowsFit (row : ℕ → Row) (n : ℕ) : Type 0 where
  pub coded : (i : ℕ) → i < n → Coded (row i)
  pub scoped : (i : ℕ) → i < n → (row i).scope ≤ DEVICE
  pub classed : (i : ℕ) → i < n → access (row i) ≡ true → (row i).class < 4
  pub executed : (i : ℕ) → i < n → control (row i) ≡ true → (row i).class < 5
  pub bare : (i : ℕ) → i < n → plain (row i) ≡ true → (row i).classes ≡ 0
  pub sized : (i : ℕ) → i < n → (row i).size ≤ LONGEST
  pub filled : (i : ℕ) → i < n → access (row i) ≡ true → 1 ≤ (row i).size
  pub ended : (i : ℕ) → i < n → access (row i) ≡ true → (row i).start + (row i).size ≤ BYTES
  pub empty : (i : ℕ) → i < n → access (row i) ≡ false → (row i).size ≡ 0
  pub one : (i j : ℕ) → i < n → j < n → access (row i) ≡ true → access (row j) ≡ true → same_reference (row i) (row j) ≡ true → (row i).class ≡ (row j).class

-- ---- laws: kinds

access_no_control : (r : Row) → access r ≡ true → control r ≡ false
unfolding access control
access_no_control r e = not_so (eqb r.kind 6) (λ f. let a = leb-true r.kind 4 e in let b = eqb-true r.kind 6 f in absurd (omega arith))

plain_no_operation : (r : Row) → plain r ≡ true → operation r ≡ true → ⊥
unfolding plain operation
plain_no_operation r e f = let a = leb-true r.kind 1 e in let b = leb-true 7 r.kind (split f).0 in omega arith

cond_class : (b : Bool) (k : ℕ) → leb k (cond b DEVICE 3) ≡ true → (b ≡ false → k < 4) × (k < 5)
cond_class true k e = let a = leb-true k 4 e in (λ q. not_both refl q, omega arith)
cond_class false k e = let a = leb-true k 3 e in (λ q. omega arith, omega arith)

-- ---- laws: rows of an admitted table

plain_bare : (r : Row) (source : ℕ) → plain r ≡ true → kind_fits r source ≡ true → r.classes ≡ 0
unfolding kind_fits plain_fits
plain_bare r source p e =
    let a = (split (split (split (split (split (split e).0).0).0).0).0).0 in
    ⊎_elim (λ f. not_both p (not_out (plain r) f)) (λ f. eqb-true r.classes 0 (split (split (split (split f).0).0).0).1) (or_cases _ _ a)

module _ {blanks : Bool} {s : List ℕ} (h : Sound blanks s) where
  codes_whole : (i : ℕ) → i < rows_at s → codes_fit (has_hosts s) (agents_at s) (row_of (row_bytes s) i) ≡ true
  unfolding codes_fit
  codes_whole i l =
      let c = (row_right h i l).codes in
      and_true (and_true (and_true (and_true (and_true (and_true c.kind c.agent) c.order) c.scope) c.classes) c.flags) c.class

  bare_of : (i : ℕ) → i < rows_at s → plain (row_of (row_bytes s) i) ≡ true → (row_of (row_bytes s) i).classes ≡ 0
  bare_of i l p =
      ⊎_elim (λ o. absurd (plain_no_operation (row_of (row_bytes s) i) p o.0)) (λ k. plain_bare (row_of (row_bytes s) i) (source_of (row_bytes s) i) p k.1) (form_right h i l)

  rows_are : RowsFit (row_of (row_bytes s)) (rows_at s)
  unfolding table_under decode
  rows_are =
      record {
        coded = λ i l. coded_fit (has_hosts s) (agents_at s) (row_of (row_bytes s) i) (agents_fit h) (codes_whole i l);
        scoped = λ i l. leb-true (row_of (row_bytes s) i).scope DEVICE (row_right h i l).codes.scope;
        classed = λ i l a.
            (cond_class (control (row_of (row_bytes s) i)) (row_of (row_bytes s) i).class (row_right h i l).codes.class).0 (access_no_control (row_of (row_bytes s) i) a);
        executed = λ i l a. (cond_class (control (row_of (row_bytes s) i)) (row_of (row_bytes s) i).class (row_right h i l).codes.class).1;
        bare = λ i l p. bare_of i l p;
        sized = λ i l. size_fits h i l;
        filled = λ i l a. (access_size h i l a).0;
        ended = λ i l a. access_end h i l a;
        empty = λ i l a. empty_of h false i l a;
        one = λ i j l m a b e. one_class_of h false i j l m a b e;
      }

  -- a dependency names two rows
  named : (chains : Bool) (a b : ℕ) → depends_of (mode_of chains s) a b ≡ true → (a < rows_at s) × (b < rows_at s)
  unfolding depends_of dependency mode_of dependencies_named names_missing
  named chains a b e =
      let k = any_out (dependency (mode_of chains s) a b) (dependency_count (dependency_bytes s)) e in
      let l = k.1 in
      let f = dependencies_fit_lem h in
      let p = split k.2 in
      let x : dependency_from (dependency_bytes s) k.0 ≡ a = sym (get_d_tabulate (dependency_from (dependency_bytes s)) DEPENDENCIES k.0 0 (omega arith)) ∙ eqb-true _ a p.0 in
      let y : dependency_to (dependency_bytes s) k.0 ≡ b = sym (get_d_tabulate (dependency_to (dependency_bytes s)) DEPENDENCIES k.0 0 (omega arith)) ∙ eqb-true _ b p.1 in
      let none = not_out _ (hosts_right h).named in
      let fits = not-false _ (any_off (names_missing (dependency_bytes s) (rows_at s)) (dependency_count (dependency_bytes s)) none k.0 l) in
      let q = split fits in
      (subst (λ (z : ℕ). z < rows_at s) x (ltb-true _ (rows_at s) q.0), subst (λ (z : ℕ). z < rows_at s) y (ltb-true _ (rows_at s) q.1))

-- ---- laws: a run

pub fit_of : {blanks : Bool} {t : List ℕ} {n : ℕ} → RunOf blanks t n → FitRun t n
unfolding decode mode_of
fit_of {blanks} {t} {n} h =
    record {
      fit =
          record {
            few = let e = h.all in let l = rows_fit h.sound in omega arith;
            coded = rows.coded;
            scoped = rows.scoped;
            classed = rows.classed;
            executed = rows.executed;
            bare = rows.bare;
            sized = rows.sized;
            filled = rows.filled;
            ended = rows.ended;
            empty = rows.empty;
            one = rows.one;
            named = λ a b e.
                let k = named h.sound h.chains a b (subst (λ (g : Mode). depends_of g a b ≡ true) h.modes e) in
                let x = k.0 in
                let y = k.1 in
                let z = h.all in
                (omega arith, omega arith);
          };
      few = subst (λ (g : Mode). g.dependencies ≤ DEPENDENCIES) (sym h.modes) (dependencies_fit_lem h.sound);
    }
  where
    rows : RowsFit (row_of (rows_in t)) n
    rows = subst (λ (row : ℕ → Row). RowsFit row n) (sym h.rows) (subst (λ (m : ℕ). RowsFit (row_of (row_bytes h.table)) m) (sym h.all) (rows_are h.sound))
