-- What visibility operations show of what an operation's chains make available, domain by domain. Assumes nothing.
use Rattle.std.specs.Prelude.{◌≡◌, refl, Bool, true, List, ℕ, ◌+◌, ◌*◌, ◌≤◌, ◌<◌, eqb, ltb}
use Rattle.std.proofs.Common.{sym, subst, ◌∙◌, inl, ⊎_elim, arith, eqb-true, eq-eqb, ltb-true, lt-ltb}
use Rattle.std.proofs.Math.Decide.{ℕ_discrete}
use Rattle.finite.specs.Logic.{◌and◌, ◌or◌, bool_ext, split, and_true, or_cases, or_left, or_right}
use Rattle.finite.specs.Below.{any_below, any_in, any_out}
use Rattle.finite.specs.Closure.{Reach, one, more, through_reach}
use Rattle.model.specs.Limits.{ROWS}
use Rattle.model.specs.Moment.{visibility}
use Rattle.model.specs.Availability.{visibility_moment, availability_chain, visibility_chain}
use Rattle.model.specs.Table.{Table}
use Rattle.model_laws.specs.ChainLaws.{shares_wider, visibility_chain_is}
use Rattle.model_placing.specs.Shares.{share}
use Rattle.model_placing.specs.Leads.{shows, Shown, shows_out, shown_widest}
use Rattle.model_placing.specs.Elements.{shews, visible_is}
use Rattle.model_placing.specs.Chains.{narrows_in, visible_on}
use Rattle.sets_of_rows.specs.declared.Set.{Set}
use Rattle.sets_of_rows.specs.Member.{in_set}
use Rattle.sets_of_rows.specs.Kept.{set_at}
use Rattle.sets_of_rows.specs.Rows.{Rows, rows_and, rows_or}
use Rattle.sets_of_rows.specs.Tasks
use Rattle.sets_of_table.specs.Known.{Opened}
use Rattle.sets_of_table.specs.Ask.{few}
use Rattle.sets_grids.specs.Regions.{AVAILABLE_VISIBLE, VISIBLE_VISIBLE}
use Rattle.sets_grids.specs.Grid.{GridOn, grid_on}
use Rattle.sets_grids.specs.Union.{led_by, union_rows}
use Rattle.sets_grids.specs.Happens.{available_visibles}
use Rattle.sets_grids.specs.Available.{shown_to}
use Rattle.sets_chains.specs.Alone.{wider, After, available_to_shown, scope_rows}
use Rattle.sets_chains.specs.Chained.{sees, ins}

-- ---- definitions

-- row i is of scope q or broader, and of the domain of scope q of a's agent
unfoldable pub in_domain : Table → ℕ → ℕ → ℕ → Bool
in_domain t a q i = (eqb (t.row i).scope q or wider t q i) and share t (t.row a).agent q i

unfoldable pub ends : Table → ℕ → ℕ → ℕ → Bool
ends t a q c = availability_chain t a c and in_domain t a q c

-- w makes visible from that domain what some chain from a makes available to it
unfoldable pub wide_met : Table → ℕ → ℕ → ℕ → ℕ → Bool
wide_met t n a q w = any_below n (led_by (ends t a q) (available_visibles t) w) and in_domain t a q w

-- so does v, or a visibility chain that ends with v
unfoldable pub wide_shown : Table → ℕ → ℕ → ℕ → ℕ → Bool
wide_shown t n a q v = (wide_met t n a q v or any_below n (led_by (wide_met t n a q) (ins t) v)) and share t (t.row a).agent q v

unfoldable pub wide_from : Table → ℕ → ℕ → ℕ → ℕ → Bool
wide_from t n a v d = ltb 0 d and wide_shown t n a d v

-- ---- laws

met_sees : {t : Table} {n : ℕ} {s : List ℕ} → Opened t n s → (a q i : ℕ) → i < n → wide_met t n a q i ≡ true → sees t i ≡ true
unfolding wide_met led_by available_visibles sees
met_sees {t} {n} o a q i l e =
    let r = o.rows in
    let c = any_out (led_by (ends t a q) (available_visibles t) i) n (split e).0 in
    let h = c.1 in
    available_to_shown t c.0 i (omega arith) (omega arith) (split c.2).1

pub wide_rows : {t : Table} {n : ℕ} {s w : List ℕ} → Opened t n s → (a q : ℕ) (ch d own b wide x y m e z v r : Set) → q < 8 → After t n w → GridOn (sees t) VISIBLE_VISIBLE n (ins t) w
    → Rows n (availability_chain t a) ch → Rows n (share t (t.row a).agent q) d → own ≡ set_at s (104 + 2 * q) → Rows n (wider t q) b
    → ((j : ℕ) → in_set wide j ≡ (in_set own j or in_set b j)) → ((j : ℕ) → in_set x j ≡ (in_set wide j and in_set d j)) → ((j : ℕ) → in_set y j ≡ (in_set ch j and in_set x j))
    → ((j : ℕ) → in_set m j ≡ any_below ROWS (Tasks.leads w AVAILABLE_VISIBLE y j)) → ((j : ℕ) → in_set e j ≡ (in_set m j and in_set x j))
    → ((j : ℕ) → in_set z j ≡ any_below ROWS (Tasks.leads w VISIBLE_VISIBLE e j)) → ((j : ℕ) → in_set v j ≡ (in_set e j or in_set z j))
    → ((j : ℕ) → in_set r j ≡ (in_set v j and in_set d j)) → Rows n (wide_shown t n a q) r
unfolding wide_shown wide_met ends in_domain
wide_rows {t} {n} o a q ch d own b wide x y m e z v r low after g hc hd eo hb ew ex ey em ee ez ev er =
    rows_and (rows_or met (union_rows (few o) g met (λ i l h. met_sees o a q i l h) ez) ev) hd er
  where
    inner : Rows n (in_domain t a q) x
    inner = rows_and (rows_or (scope_rows q o low eo) hb ew) hd ex

    met : Rows n (wide_met t n a q) e
    met = rows_and (union_rows (few o) (grid_on (λ k. true) after.visibles) (rows_and hc inner ey) (λ i l h. refl) em) inner ee

-- ---- laws: all domains

domain_out : (t : Table) (a q i : ℕ) → in_domain t a q i ≡ true → (q ≤ (t.row i).scope) × (share t (t.row a).agent q i ≡ true)
unfolding in_domain wider
domain_out t a q i e =
    let h = split e in
    (⊎_elim (λ k. let z = eqb-true (t.row i).scope q k in omega arith) (λ k. let z = ltb-true q (t.row i).scope k in omega arith) (or_cases _ _ h.0), h.1)

domain_in : (t : Table) (a q i : ℕ) → q ≤ (t.row i).scope → share t (t.row a).agent q i ≡ true → in_domain t a q i ≡ true
unfolding in_domain wider
domain_in t a q i l e = go (ℕ_discrete (t.row i).scope q)
  where
    go : Dec ((t.row i).scope ≡ q) → ((eqb (t.row i).scope q or ltb q (t.row i).scope) and share t (t.row a).agent q i) ≡ true
    go (yes z) = and_true (or_left _ (eq-eqb _ _ z)) e
    go (no z) = and_true (or_right _ (lt-ltb q (t.row i).scope (omega arith))) e

last_sees : (t : Table) {w v : ℕ} → Reach (narrows_in t) t.rows w v → visibility t (visibility_moment t v) ≡ true
unfolding narrows_in
last_sees t (one e) = (split e).1
last_sees t (more e h q) = last_sees t q

module _ {t : Table} {n : ℕ} {s : List ℕ} (o : Opened t n s) (on : t.chains ≡ true) (a v : ℕ) (l : v < n) where
  rows_are : t.rows ≡ n
  rows_are = o.rows

  by : (d w : ℕ) → 1 ≤ d → w < n → share t (t.row a).agent d v ≡ true → wide_met t n a d w ≡ true → visibility_chain t w v ≡ true → shows t a v ≡ true
  unfolding wide_met led_by ends available_visibles share
  by d w low m sh e chain =
      let h = split e in
      let c = any_out (led_by (ends t a d) (available_visibles t) w) n h.0 in
      let k = split c.2 in
      let f = split k.0 in
      let p = domain_out t a d c.0 f.1 in
      let q = domain_out t a d w h.1 in
      let there : c.0 < t.rows = let z = c.1 in omega (arith, rows_are) in
      let second : w < t.rows = omega (arith, rows_are, m) in
      shown_widest t o.fit.scoped a v c.0 w d low p.0 q.0 there second
      (λ i g y. shares_wider t.places d i _ _ low g y p.1) (λ i g y. shares_wider t.places d i _ _ low g y q.1) (λ i g y. shares_wider t.places d i _ _ low g y sh)
      f.0 chain (visible_is t w ∙ available_to_shown t c.0 w there second k.1) k.1

  pub wide_shows : any_below 5 (wide_from t n a v) ≡ shown_to t a v
  unfolding wide_from wide_shown shown_to led_by ins sees wide_met ends available_visibles
  wide_shows = bool_ext _ _ forth back
    where
      out : v < t.rows
      out = omega (arith, rows_are, l)

      forth : any_below 5 (wide_from t n a v) ≡ true → (shews (t.row v) and shows t a v) ≡ true
      forth e =
          let d = any_out (wide_from t n a v) 5 e in
          let h = split d.2 in
          let low : 1 ≤ d.0 = let z = ltb-true 0 d.0 h.0 in omega arith in
          let k = split h.1 in
          ⊎_elim
          (λ m. and_true (met_sees' d.0 m) (by d.0 v low l k.1 m ((visibility_chain_is t v v).1 (inl refl))))
          (λ m.
          let w = any_out (led_by (wide_met t n a d.0) (ins t) v) n m in
          let p = split w.2 in
          let vis = last_sees t ((through_reach (narrows_in t) t.rows w.0 v).0 p.1) in
          and_true (sym (visible_is t v) ∙ vis) (by d.0 w.0 low w.1 k.1 p.0 (visible_on t w.0 v on vis ∙ or_right _ p.1)))
          (or_cases _ _ k.0)
        where
          met_sees' : (d : ℕ) → wide_met t n a d v ≡ true → shews (t.row v) ≡ true
          met_sees' d m = met_sees o a d v l m

      put : (d c w : ℕ) → shews (t.row v) ≡ true → Shown t a v d c w → any_below 5 (wide_from t n a v) ≡ true
      put d c w vis h =
          any_in (wide_from t n a v) 5 d (let z = h.high in omega arith)
          (and_true (lt-ltb 0 d (let z = h.low in omega arith)) (and_true
          (⊎_elim (λ e. or_left _ (subst (λ (i : ℕ). wide_met t n a d i ≡ true) (eqb-true w v e) met))
          (λ e. or_right _ (any_in (led_by (wide_met t n a d) (ins t) v) n w (let z = h.second_there in omega (arith, rows_are)) (and_true met e)))
          (or_cases _ _ (sym (visible_on t w v on (visible_is t v ∙ vis)) ∙ h.last))) h.with_last))
        where
          met : wide_met t n a d w ≡ true
          met =
              and_true (any_in (led_by (ends t a d) (available_visibles t) w) n c (let z = h.first_there in omega (arith, rows_are))
              (and_true (and_true h.chain (domain_in t a d c h.first_wide_lem h.with_first)) h.earlier)) (domain_in t a d w h.second_wide h.with_second)

      back : (shews (t.row v) and shows t a v) ≡ true → any_below 5 (wide_from t n a v) ≡ true
      back e = let n = shows_out t a v (split e).1 in put n.0 n.1 n.2 (split e).0 n.3
