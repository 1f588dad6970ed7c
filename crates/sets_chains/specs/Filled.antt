-- All chains; what an operation's chains make available. Assumes nothing.
use Rattle.std.specs.Prelude.{◌≡◌, Bool, false, List, ℕ, ◌+◌, ◌-◌, ◌*◌, ◌≤◌, ◌<◌, ltb}
use Rattle.std.proofs.Common.{sym, ap, subst, ◌∙◌, arith, lt-ltb}
use Rattle.std.proofs.Math.Bool.{true}
use Rattle.finite.specs.Logic.{◌and◌, ◌or◌, bool_ext, split, and_true, and_on, and_false_left}
use Rattle.finite.specs.Below.{any_below, any_in, any_out}
use Rattle.model.specs.Limits.{ROWS}
use Rattle.model.specs.Moment.{itself}
use Rattle.model.specs.Happens.{happens}
use Rattle.model.specs.Availability.{availability_moment, availability_chain}
use Rattle.model.specs.Table.{Table}
use Rattle.bits.specs.Within.{Within, within_refl, within_trans, within_widen}
use Rattle.model_placing.specs.Shares.{share}
use Rattle.model_placing.specs.Leads.{meets, available_scope, visible_scope}
use Rattle.model_placing.specs.Elements.{available_is, visible_is}
use Rattle.model_placing.specs.Union.{union_by, union}
use Rattle.model_placing.specs.Several.{met_in, meets_union}
use Rattle.sets_of_rows.specs.declared.Set.{Set}
use Rattle.sets_of_rows.specs.Member.{in_set}
use Rattle.sets_of_rows.specs.Kept.{set_kept}
use Rattle.sets_of_rows.specs.Family.{nth}
use Rattle.sets_of_rows.specs.Rows.{Rows, rows_at, rows_in_lem, rows_and, rows_if}
use Rattle.sets_of_table.specs.Known.{Opened}
use Rattle.sets_of_table.specs.Ask.{few}
use Rattle.sets_grids.specs.Regions.{AVAILABLE_AVAILABLE, VISIBLE_VISIBLE, HAPPENS_END}
use Rattle.sets_grids.specs.Grid.{GridOn}
use Rattle.sets_grids.specs.Filling.{member_in}
use Rattle.sets_grids.specs.Happens.{Happening, available_rows}
use Rattle.sets_grids.specs.Available.{makes}
use Rattle.sets_chains.specs.Chained.{sees, outs, ins, Outs, Ins, MadeOuts, MadeIns}

-- ---- definitions

-- the loop's invariant
pub record Chaining (t : Table) (n k : ℕ) (w u : List ℕ) : Type 0 where
  pub outs : Outs t n (5 - k) u
  pub ins : Ins t n (k + 1) u
  pub frame : Within AVAILABLE_AVAILABLE HAPPENS_END w u

-- every operation's chains
pub record MadeChains (t : Table) (n : ℕ) (w u : List ℕ) : Type 0 where
  pub outs : GridOn (makes t) AVAILABLE_AVAILABLE n (outs t) u
  pub ins : GridOn (sees t) VISIBLE_VISIBLE n (ins t) u
  pub frame : Within AVAILABLE_AVAILABLE HAPPENS_END w u

-- j, of n, meets what the member c of x makes available
unfoldable pub met_to : Table → ℕ → ℕ → Set → ℕ → ℕ → Bool
met_to t n a x j c = in_set x c and (ltb j n and met_in t a c j)

-- ---- laws: all chains

module _ {t : Table} {n : ℕ} {s : List ℕ} (o : Opened t n s) where
  sees_scope : (k : ℕ) → sees t k ≡ true → 1 ≤ (t.row k).scope
  unfolding sees
  sees_scope k m = visible_scope t k (visible_is t k ∙ m)

  high : (k : ℕ) → k < n → (t.row k).scope ≤ 4
  high k l = o.fit.scoped k (let r = o.rows in omega arith)

  pub chains_begin : {w : List ℕ} → Happening t n w → Chaining t n 0 w w
  chains_begin {w} h =
      record {
        outs = record { done = λ k l m p. let z = high k l in absurd (omega arith); left = λ k l m p. h.availables.row k l };
        ins = record { done = λ k l m p. let z = sees_scope k m in absurd (omega arith); left = λ k l m p. h.visibles.row k l };
        frame = within_refl AVAILABLE_AVAILABLE HAPPENS_END w;
      }

  pub chains_out : {k : ℕ} {w u : List ℕ} → k < 4 → Chaining t n k w u → Outs t n (4 - k + 1) u
  chains_out {k} {w} {u} l c = subst (λ (p : ℕ). Outs t n p u) (let e : 5 - k ≡ 4 - k + 1 = omega arith in e) c.outs

  pub chains_in : {k q : ℕ} {w u v : List ℕ} → Chaining t n k w u → MadeOuts t n q u v → Ins t n (k + 1) v
  chains_in c m =
      record {
        done = λ k l i p. rows_at (set_kept (VISIBLE_VISIBLE + 2 * k) (λ h. omega arith) m.frame) (c.ins.done k l i p);
        left = λ k l i p. rows_at (set_kept (VISIBLE_VISIBLE + 2 * k) (λ h. omega arith) m.frame) (c.ins.left k l i p);
      }

  pub chains_turn : {k : ℕ} {w u v z : List ℕ} → k < 4 → Chaining t n k w u → MadeOuts t n (4 - k) u v → MadeIns t n (k + 1 + 1) v z → Chaining t n (k + 1) w z
  chains_turn {k} {w} {u} {v} {z} l c m i =
      record {
        outs = subst (λ (p : ℕ). Outs t n p z) (let e : 4 - k ≡ 5 - (k + 1) = omega arith in e)
            (record {
              done = λ k l j p. rows_at (kept k l) (m.outs.done k l j p);
              left = λ k l j p. rows_at (kept k l) (m.outs.left k l j p);
            });
        ins = i.ins;
        frame = within_trans c.frame (within_trans (within_widen AVAILABLE_AVAILABLE HAPPENS_END (omega arith) (omega arith) m.frame)
            (within_widen AVAILABLE_AVAILABLE HAPPENS_END (omega arith) (omega arith) i.frame));
      }
    where
      kept : (k : ℕ) → k < n → nth z AVAILABLE_AVAILABLE k ≡ nth v AVAILABLE_AVAILABLE k
      kept k l = let f = few o in set_kept (AVAILABLE_AVAILABLE + 2 * k) (λ h. omega arith) i.frame

  pub chains_end : {k : ℕ} {w u : List ℕ} → 4 ≤ k → k ≤ 4 → Chaining t n k w u → MadeChains t n w u
  unfolding makes
  chains_end {k} l h c =
      record {
        outs = record { row = λ i b m. c.outs.done i b m (omega (arith, made i m)) };
        ins = record { row = λ i b m. c.ins.done i b m (let z = high i b in omega arith) };
        frame = c.frame;
      }
    where
      made : (i : ℕ) → makes t i ≡ true → 1 ≤ (t.row i).scope
      made i m = available_scope t i (available_is t i ∙ m)

-- ---- laws: what the chains' last operations make available

pub met_off : (t : Table) (n a : ℕ) (x : Set) (c j : ℕ) → in_set x c ≡ false → met_to t n a x j c ≡ false
unfolding met_to
met_off t n a x c j e = and_false_left (in_set x c) _ e

pub met_on : (t : Table) (n a c : ℕ) (x r d g y z v : Set) (b : Bool) → c < n → Rows n (share t (t.row a).agent (t.row c).scope) d → Rows n (available_rows t c) g
    → ((j : ℕ) → in_set y j ≡ (in_set g j and in_set d j)) → b ≡ in_set d c → ((j : ℕ) → in_set z j ≡ (b and in_set y j)) → ((j : ℕ) → in_set v j ≡ (in_set r j or in_set z j))
    → in_set x c ≡ true → (j : ℕ) → in_set v j ≡ (in_set r j or met_to t n a x j c)
unfolding met_to met_in available_rows
met_on t n a c x r d g y z v b l hd hg ey eb ez ev i j =
    ev j ∙ ap (λ (q : Bool). in_set r j or q)
    ((rows_if b (rows_and hg hd ey) ez).is j
    ∙ ap (λ (q : Bool). ltb j n and (q and (happens t (availability_moment t c) (itself j) and share t (t.row a).agent (t.row c).scope j))) (eb ∙ rows_in_lem hd c l)
    ∙ sym (and_on (in_set x c) _ i))

pub met_rows : {t : Table} {n : ℕ} {s : List ℕ} → Opened t n s → (a : ℕ) (x z : Set) → Rows n (availability_chain t a) x
    → ((j : ℕ) → in_set z j ≡ any_below ROWS (met_to t n a x j)) → Rows n (meets t a) z
unfolding met_to union union_by
met_rows {t} {n} o a x z p e = record { is = λ j. e j ∙ bool_ext _ _ (out j) (back j) }
  where
    rows_are : t.rows ≡ n
    rows_are = o.rows

    low : n ≤ ROWS
    low = few o

    out : (j : ℕ) → any_below ROWS (met_to t n a x j) ≡ true → (ltb j n and meets t a j) ≡ true
    out j v =
        let r = any_out (met_to t n a x j) ROWS v in
        let k = split r.2 in
        let m = member_in r.0 p k.0 in
        let q = split k.1 in
        let l = m.0 in
        and_true q.0 (meets_union t a j ∙ any_in (union_by (availability_chain t a) (met_in t a) j) t.rows r.0 (omega (arith, rows_are)) (and_true m.1 q.1))

    back : (j : ℕ) → (ltb j n and meets t a j) ≡ true → any_below ROWS (met_to t n a x j) ≡ true
    back j v =
        let k = split v in
        let r = any_out (union_by (availability_chain t a) (met_in t a) j) t.rows (sym (meets_union t a j) ∙ k.1) in
        let m = split r.2 in
        let l = r.1 in
        any_in (met_to t n a x j) ROWS r.0 (omega (arith, rows_are, low))
        (and_true (p.is r.0 ∙ and_true (lt-ltb r.0 n (omega (arith, rows_are))) m.0) (and_true k.0 m.1))
