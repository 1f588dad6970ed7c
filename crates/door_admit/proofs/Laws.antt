-- Laws that the proofs of admission cite. Assumes nothing.
use mathlib.Core.Path.{◌≡◌, refl, sym, ap, ◌∙◌, fun_ext}
use mathlib.Core.Bool.{Bool, true, false, not, cond}
use mathlib.Core.List.{List, []}
use mathlib.Core.Logic.{⊎_elim}
use Prim.Native.Nat.{ℕ, ◌+◌, ◌*◌, ◌-◌, ◌/◌, ◌%◌, ◌<◌, ◌≤◌}
use native.Mathlib.Omega.{arith}
use native.Mathlib.Decide.{dec_lt, ℕ_discrete}
use lib.ListN.{length, get_or}
use lib.Dec.{ltb, leb, eqb}
use borrow.Author.Tests.{eqb-true, leb-true, eq-eqb, ne_eqb, lt-ltb, le-ltb, le-leb, lt-leb, not-false}
use Rattle.finite.specs.Logic.{◌and◌, and_left, and_right, and_false_left, and_false_right, and_true, and_on, and_on_right, ◌or◌, or_left, or_none}
use Rattle.finite.specs.Logic.{not_in, not_out, not_both, which}
use Rattle.finite.specs.Below.{any_below, any_in, any_off, any_not, any_cong, least, least_is}
use Rattle.model.specs.declared.Row.{Row}
use Rattle.std.specs.declared.result.Result.{Result}
use Rattle.std.specs.declared.result.Result.TheVariants.{Ok, Err}
use Rattle.model.specs.declared.Fault.{Fault}
use Rattle.model.specs.declared.Fault.TheVariants.{Short, Version, Limits, Length, Code, KindFit, Extent, Class, Source, Rank, Buffer, Moments, Room, Instance, Run, AgentKind, Dependencies, Dependency, AgentRow, OperationFit, Rows}
use Rattle.std.specs.Prelude.{is_err}
use Rattle.model.specs.Fault.{fault_number, number_of}
use Rattle.model.specs.declared.Refusal.{Refusal}
use Rattle.model.specs.declared.Admission.{Admission}
use Rattle.model.specs.declared.Admission.TheVariants.{Refused}
use Rattle.model.specs.Limits.{DEPENDENCIES, INITIAL, BLANK}
use Rattle.model.specs.Row.{PLAIN_WRITE, ATOMIC_READ, ATOMIC_WRITE, RMW, BARRIER, CONTROL}
use Rattle.model.specs.Row.{plain, atomic, access, barrier, control, plain_read, reads, ranked, same_instance}
use Rattle.model.specs.Scope.{agent_kind, shares, same_location, mutual_rows}
use Rattle.model.specs.Table.{Mode, Table, OFF, byte_of, pair_of, row_of, mode_of, decode, source_of}
use Rattle.model.specs.Header.{HEADER, ROW_BYTES, pair_at}
use Rattle.model.specs.Table.{dependency_count, table_under, table_of, sources_of}
use Rattle.model.specs.Header.{agents_at, rows_at, has_hosts, row_bytes, dependency_bytes, places_of}
use Rattle.model.specs.Refusal.{shape_or}
use Rattle.model.specs.TableFault.{other_class, other_class_at, class_taken, writer_fits, source_fits, source_broken, same_rank, same_rank_at, rank_taken}
use Rattle.model.specs.TableFault.{apart, apart_at, instance_broken, rival, outside, outside_at, begins, unfit}
use Rattle.model.specs.Refusal.{kind_over, agents_known, dependencies_few, names_missing, dependencies_named, hosts_fault}
use Rattle.model.specs.RowFault.{codes_fit, agent_fits, plain_fits, atomic_fits, barrier_fits, semantics_fit, bytes_fit, kind_fits}
use Rattle.model.specs.Refusal.{refusal, admission_answer, faulty, first_fault, row_fault_at}
use Rattle.model.specs.TableFault.{table_fault}
use Rattle.model.specs.RowFault.{form_fault, row_fault}
use Rattle.model.specs.Refusal.{version_fits, limits_fit, length_fits, header_fault, admission}
use Rattle.door_rows.specs.Starts.{starts_apart}
use Rattle.door_rows.specs.Instances.{of_instance}
use Rattle.door_rows.specs.Places.{IsPlace}
use Rattle.model.specs.Refusal.{shape_fault}
use Rattle.door_admit.specs.Rows.{hosts_fault_in, first_refused, row_fault_in, ranks, rows_admission, of_reference, outside_in}

-- ---- two bytes of row j, by the last and by the first

module _ (b : List ℕ) (j k x : ℕ) where
  pair_is : pair_of b j k ≡ byte_of b j k * 256 + byte_of b j (k + 1)
  unfolding pair_of pair_at byte_of
  pair_is = let e : j * ROW_BYTES + k + 1 ≡ j * ROW_BYTES + (k + 1) = omega arith in rw e refl

  pub pair_last : (v : ℕ) → v ≡ byte_of b j (k + 1) → v < 256 → (v ≡ x % 256 → ⊥) → false ≡ eqb (pair_of b j k) x
  pair_last v e l h = sym (ne_eqb (pair_of b j k) x (λ q. let z = pair_is in h (omega (arith, e, q, z, l))))

  pub pair_first : (u v : ℕ) → u ≡ byte_of b j (k + 1) → u ≡ x % 256 → v ≡ byte_of b j k → u < 256 → eqb v (x / 256) ≡ eqb (pair_of b j k) x
  pair_first u v eu lu ev l = go (ℕ_discrete v (x / 256))
    where
      go : Dec (v ≡ x / 256) → eqb v (x / 256) ≡ eqb (pair_of b j k) x
      go (yes q) =
          let z = pair_is in
          let w : pair_of b j k ≡ x = omega (arith, eu, lu, ev, q, z) in
          eq-eqb v (x / 256) q ∙ sym (eq-eqb (pair_of b j k) x w)
      go (no q) = ne_eqb v (x / 256) q ∙ sym (ne_eqb (pair_of b j k) x (λ w. let z = pair_is in q (omega (arith, eu, ev, w, z, l))))

module _ (b : List ℕ) (v j : ℕ) (x : Bool) where
  start_other : x ≡ eqb (pair_of b j 8) v → not x ≡ true → v ≡ (row_of b j).start → ⊥
  unfolding row_of
  start_other e h q = not_both (eq-eqb (pair_of b j 8) v (sym q)) (sym e ∙ not_out x h)

  rank_other : x ≡ eqb (pair_of b j 14) v → not x ≡ true → eqb (row_of b j).rank v ≡ false
  unfolding row_of
  rank_other e h = sym e ∙ not_out x h

-- ---- 8: the last access of a reference tells of those before it

module _ (b : List ℕ) where
  abbrev bare : Table
  bare = decode b [] OFF 0

  pub reference_off : (v j : ℕ) (x : Bool) → x ≡ eqb (pair_of b j 10) v → not x ≡ true → false ≡ of_reference v (row_of b j)
  unfolding of_reference row_of
  reference_off v j x e h = sym (and_false_right _ _ (sym e ∙ not_out x h))

  pub reference_on : (v j k : ℕ) (x : Bool) → x ≡ eqb (pair_of b j 10) v → not x ≡ false → k ≡ (row_of b j).kind → leb k RMW ≡ of_reference v (row_of b j)
  unfolding of_reference access row_of
  reference_on v j k x e h q = ap (λ (m : ℕ). leb m RMW) q ∙ sym (and_on_right _ _ (sym e ∙ not-false x h))

  class_off : (i j : ℕ) → of_reference (row_of b i).reference (row_of b j) ≡ false → other_class_at bare i j ≡ false
  unfolding other_class_at other_class of_reference decode
  class_off i j h = and_false_left _ _ h

  class_same : (i j : ℕ) → (row_of b j).class ≡ (row_of b i).class → other_class_at bare i j ≡ false
  unfolding other_class_at other_class decode
  class_same i j h = and_false_right _ _ (ap not (eq-eqb (row_of b j).class (row_of b i).class h))

  class_hit : (i j : ℕ) → of_reference (row_of b i).reference (row_of b j) ≡ true → ((row_of b j).class ≡ (row_of b i).class → ⊥) → other_class_at bare i j ≡ true
  unfolding other_class_at other_class of_reference decode
  class_hit i j h d = and_true h (ap not (ne_eqb (row_of b j).class (row_of b i).class d))

  -- row j has row i's reference and class, and its own turn found nothing
  class_before : (i j k : ℕ) → of_reference (row_of b i).reference (row_of b j) ≡ true → (row_of b j).class ≡ (row_of b i).class → class_taken bare j ≡ false → k < j
      → other_class_at bare i k ≡ false
  unfolding other_class_at other_class of_reference class_taken decode
  class_before i j k h q f l =
      let v : (row_of b j).reference ≡ (row_of b i).reference = eqb-true _ _ (and_right _ _ h) in
      let none : any_below j (other_class_at bare j) ≡ false = sym (and_on _ _ (and_left _ _ h)) ∙ f in
      let one : (access (row_of b k) and eqb (row_of b k).reference (row_of b j).reference and not (eqb (row_of b k).class (row_of b j).class)) ≡ false =
      any_off (other_class_at bare j) j none k l in
      rw (v, q) at one

  -- none from row j on, and row j - 1 is of another reference
  pub class_more : (i j : ℕ) (r : Row) (v : Bool) → r ≡ row_of b i → v ≡ of_reference r.reference (row_of b (j - 1)) → v ≡ false
      → ((k : ℕ) → j ≤ k → k < i → other_class_at bare i k ≡ false) → (k : ℕ) → j - 1 ≤ k → k < i → other_class_at bare i k ≡ false
  class_more i j r v row_is told missed later_off k past below_i = go (ℕ_discrete k (j - 1))
    where
      off : other_class_at bare i (j - 1) ≡ false
      off = class_off i (j - 1) (ap (λ (q : Row). of_reference q.reference (row_of b (j - 1))) (sym row_is) ∙ sym told ∙ missed)

      go : Dec (k ≡ j - 1) → other_class_at bare i k ≡ false
      go (yes e) = rw e off
      go (no e) = later_off k (omega arith) below_i

  -- none from row j on, and row j - 1 is of row i's reference: its class tells
  pub class_found : (i j : ℕ) (r : Row) (v : Bool) (c : ℕ) → r ≡ row_of b i → v ≡ of_reference r.reference (row_of b (j - 1)) → v ≡ true
      → c ≡ (row_of b (j - 1)).class → j - 1 < i → any_below i (class_taken bare) ≡ false
      → ((k : ℕ) → j ≤ k → k < i → other_class_at bare i k ≡ false) → not (eqb c r.class) ≡ any_below i (other_class_at bare i)
  class_found i j r v c row_is told hit class_read below_i none later_off = go (ℕ_discrete c r.class)
    where
      here : of_reference (row_of b i).reference (row_of b (j - 1)) ≡ true
      here = ap (λ (q : Row). of_reference q.reference (row_of b (j - 1))) (sym row_is) ∙ sym told ∙ hit

      class_is : r.class ≡ (row_of b i).class
      class_is = ap (λ (q : Row). q.class) row_is

      all : (row_of b (j - 1)).class ≡ (row_of b i).class → (k : ℕ) → k < i → other_class_at bare i k ≡ false
      all q k m = at (dec_lt k (j - 1)) (ℕ_discrete k (j - 1))
        where
          at : Dec (k < j - 1) → Dec (k ≡ j - 1) → other_class_at bare i k ≡ false
          at (yes o) d = class_before i (j - 1) k here q (any_off (class_taken bare) i none (j - 1) below_i) o
          at (no o) (yes e) = rw e (class_same i (j - 1) q)
          at (no o) (no e) = later_off k (omega arith) m

      go : Dec (c ≡ r.class) → not (eqb c r.class) ≡ any_below i (other_class_at bare i)
      go (yes e) = ap not (eq-eqb c r.class e) ∙ sym (any_not (other_class_at bare i) i (all (sym class_read ∙ e ∙ class_is)))
      go (no e) =
          ap not (ne_eqb c r.class e)
          ∙ sym (any_in (other_class_at bare i) i (j - 1) below_i (class_hit i (j - 1) here (λ q. e (class_read ∙ q ∙ sym class_is))))

byte_class : (b : List ℕ) (j : ℕ) → byte_of b j 6 ≡ (row_of b j).class
unfolding row_of
byte_class b j = refl

-- ---- what a test does not read makes no difference to it

module _ (b : List ℕ) (p : List (List ℕ)) (mode : Mode) (n : ℕ) where
  pub class_any : (i : ℕ) → class_taken (decode b [] OFF 0) i ≡ class_taken (decode b p mode n) i
  unfolding class_taken other_class_at decode
  class_any i = refl

  pub source_any : (blanks : Bool) (i : ℕ) →
      source_broken blanks (decode b [] OFF n) (source_of b) i ≡ source_broken blanks (decode b p mode n) (source_of b) i
  unfolding source_broken source_fits writer_fits decode
  source_any blanks i = refl

  pub rank_any : (i : ℕ) → rank_taken (decode b p OFF 0) i ≡ rank_taken (decode b p mode n) i
  unfolding rank_taken same_rank_at decode
  rank_any i = refl

  pub instance_any : (i : ℕ) → instance_broken (decode b p OFF 0) i ≡ instance_broken (decode b p mode n) i
  unfolding instance_broken apart_at decode
  instance_any i = refl

  pub unfit_any : (i : ℕ) → unfit (decode b [] mode 0) i ≡ unfit (decode b p mode n) i
  unfolding unfit begins outside_at decode
  unfit_any i = refl

-- ---- 9: the initial value, and any other source

module _ (blanks : Bool) (t : Table) (i s : ℕ) (x : Bool) (ex : x ≡ eqb s INITIAL) where
  pub source_initial : x ≡ true → true ≡ source_fits blanks t i s
  unfolding source_fits
  source_initial h = sym (or_left _ (or_left _ (sym ex ∙ h)))

  pub source_other : x ≡ false → source_fits blanks t i s ≡ (writer_fits t i s or (blanks and plain_read (t.row i) and eqb s BLANK))
  unfolding source_fits ◌or◌
  source_other h = rw (← ex, h) refl

-- ---- 9: what reads nothing has no source

module _ (b : List ℕ) (n : ℕ) (blanks : Bool) (i : ℕ) (r : Row) (x : Bool) (er : r ≡ row_of b i) (ex : x ≡ reads r) where
  pub source_none : not x ≡ true → false ≡ source_broken blanks (decode b [] OFF n) (source_of b) i
  unfolding source_broken decode
  source_none h = sym (and_false_left _ _ (ap reads (sym er) ∙ sym ex ∙ not_out x h))

  pub source_some : (s : ℕ) (y : Bool) → not x ≡ false → s ≡ source_of b i → y ≡ source_fits blanks (decode b [] OFF n) i s
      → not y ≡ source_broken blanks (decode b [] OFF n) (source_of b) i
  unfolding source_broken decode ◌and◌
  source_some s y h es ey =
      let q : reads (row_of b i) ≡ true = ap reads (sym er) ∙ sym ex ∙ not-false x h in
      rw (q, ← es) (ap not ey)

-- ---- what a guard leaves out: a test that is asked first, of a few bytes, and says no

module _ (b : List ℕ) where
  pub class_none : (i : ℕ) (r : Row) (x : Bool) → r ≡ row_of b i → x ≡ access r → x ≡ false → false ≡ class_taken (decode b [] OFF 0) i
  unfolding class_taken decode ◌and◌
  class_none i r x er ex h = rw (← er, ← ex, h) refl

  pub class_some : (i : ℕ) (r : Row) (x y : Bool) → r ≡ row_of b i → x ≡ access r → x ≡ true → y ≡ any_below i (other_class_at (decode b [] OFF 0) i)
      → y ≡ class_taken (decode b [] OFF 0) i
  unfolding class_taken decode ◌and◌
  class_some i r x y er ex h ey = ey ∙ rw (← er, ← ex, h) refl

  -- another start: no rival
  rival_off : (r : Row) (j : ℕ) (x : Bool) → x ≡ eqb (pair_of b j 8) r.start → not x ≡ true → rival r (row_of b j) ≡ false
  unfolding rival same_location
  rival_off r j x e h = and_false_right _ _ (and_false_left _ _ (and_false_left _ _ (ne_eqb r.start (row_of b j).start (start_other b r.start j x e h))))

  pub outside_off : (r f : Row) (j : ℕ) (x : Bool) → x ≡ eqb (pair_of b j 8) r.start → not x ≡ true → false ≡ outside_in b r f j
  unfolding outside_in outside
  outside_off r f j x e h = sym (and_false_left _ _ (rival_off r j x e h))

  pub outside_on : (r f q : Row) (j : ℕ) (x : Bool) → x ≡ outside r f q → q ≡ row_of b j → x ≡ outside_in b r f j
  unfolding outside_in
  outside_on r f q j x e h = e ∙ ap (outside r f) h

  pub begins_start : (i m : ℕ) (r : Row) (x : Bool) → r ≡ row_of b i → x ≡ eqb (pair_of b m 8) r.start → not x ≡ true → false ≡ begins (decode b [] OFF 0) i m
  unfolding begins decode
  begins_start i m r x er e h = sym (and_false_left _ _ (ap (λ (q : Row). rival q (row_of b m)) (sym er) ∙ rival_off r m x e h))

  pub begins_none : (i m : ℕ) (r f : Row) (x : Bool) → r ≡ row_of b i → f ≡ row_of b m → x ≡ rival r f → x ≡ false → false ≡ begins (decode b [] OFF 0) i m
  unfolding begins decode ◌and◌
  begins_none i m r f x er ef ex h = rw (← er, ← ef, ← ex, h) refl

  outside_any : (i m : ℕ) (r f : Row) → r ≡ row_of b i → f ≡ row_of b m → any_below i (outside_in b r f) ≡ any_below i (outside_at (decode b [] OFF 0) i m)
  unfolding outside_in outside_at decode
  outside_any i m r f er ef = any_cong _ _ i (λ k l. rw (er, ef) refl)

  outside_last : (i m : ℕ) (r f : Row) → r ≡ row_of b i → f ≡ row_of b m → outside r f r ≡ outside_at (decode b [] OFF 0) i m i
  unfolding outside_at decode
  outside_last i m r f er ef = rw (er, ef) refl

  pub begins_some : (i m : ℕ) (r f : Row) (x y z : Bool) → r ≡ row_of b i → f ≡ row_of b m → x ≡ rival r f → x ≡ true
      → y ≡ any_below i (outside_in b r f) → z ≡ outside r f r → not (y or z) ≡ begins (decode b [] OFF 0) i m
  unfolding begins decode ◌and◌
  begins_some i m r f x y z row_is first_is rival_is a_rival any_is own_is =
      let some : y ≡ any_below i (outside_at (decode b [] OFF 0) i m) = any_is ∙ outside_any i m r f row_is first_is in
      let last : z ≡ outside_at (decode b [] OFF 0) i m i = own_is ∙ outside_last i m r f row_is first_is in
      rw (some, last, ← row_is, ← first_is, ← rival_is, a_rival) refl

module _ (b : List ℕ) (p : List (List ℕ)) where
  pub rank_off : (i j : ℕ) (r : Row) (x : Bool) → r ≡ row_of b i → x ≡ eqb (pair_of b j 14) r.rank → not x ≡ true → false ≡ same_rank_at (decode b p OFF 0) i j
  unfolding same_rank_at same_rank decode
  rank_off i j r x er e h =
      let other = ap (λ (q : Row). eqb (row_of b j).rank q.rank) (sym er) ∙ rank_other b r.rank j x e h in
      sym (and_false_left _ _ (and_false_right _ _ other))

  pub rank_start : (i j : ℕ) (r : Row) (x : Bool) → r ≡ row_of b i → x ≡ eqb (pair_of b j 8) r.start → not x ≡ true → false ≡ same_rank_at (decode b p OFF 0) i j
  unfolding same_rank_at decode
  rank_start i j r x er e h =
      let other = starts_apart p r (row_of b j) (start_other b r.start j x e h) in
      sym (and_false_right _ _ (ap (λ (q : Row). mutual_rows p q (row_of b j)) (sym er) ∙ other))

  pub rank_none : (i : ℕ) (r : Row) (x : Bool) → r ≡ row_of b i → x ≡ ranked r → x ≡ false → false ≡ rank_taken (decode b p OFF 0) i
  unfolding rank_taken decode ◌and◌
  rank_none i r x er ex h = rw (← er, ← ex, h) refl

  pub rank_some : (i : ℕ) (r : Row) (x y : Bool) → r ≡ row_of b i → x ≡ ranked r → x ≡ true → y ≡ any_below i (same_rank_at (decode b p OFF 0) i)
      → y ≡ rank_taken (decode b p OFF 0) i
  unfolding rank_taken decode ◌and◌
  rank_some i r x y er ex h ey = ey ∙ rw (← er, ← ex, h) refl

  -- row j beside row i, which is the control barrier r
  module _ (i j : ℕ) (r : Row) (row_is : r ≡ row_of b i) (is_control : r.kind ≡ CONTROL) where
    apart_is : apart_at (decode b p OFF 0) i j
        ≡ (of_instance r.start (row_of b j)
        and not (eqb r.class (row_of b j).class and not (eqb r.agent (row_of b j).agent) and shares p r.class r.agent (row_of b j).agent))
    unfolding apart_at apart same_instance control of_instance decode ◌and◌
    apart_is = rw (← row_is, is_control) refl

    pub apart_other : (v : Bool) → v ≡ of_instance r.start (row_of b j) → not v ≡ true → false ≡ apart_at (decode b p OFF 0) i j
    apart_other v ev h = sym (apart_is ∙ and_false_left _ _ (sym ev ∙ not_out v h))

    module _ (v : Bool) (told : v ≡ of_instance r.start (row_of b j)) (of_it : not v ≡ false) where
      inside : (z : Bool) → z ≡ true → (of_instance r.start (row_of b j) and z) ≡ true
      inside z q = and_true (sym told ∙ not-false v of_it) q

      pub apart_class : (k : ℕ) → k ≡ byte_of b j 6 → (k ≡ r.class → ⊥) → true ≡ apart_at (decode b p OFF 0) i j
      unfolding row_of
      apart_class k ek d = sym (apart_is ∙ inside _ (not_in (and_false_left _ _ (and_false_left _ _ (ne_eqb r.class (byte_of b j 6) (λ q. d (ek ∙ sym q)))))))

      pub apart_agent : (g : ℕ) → g ≡ (row_of b j).agent → g ≡ r.agent → true ≡ apart_at (decode b p OFF 0) i j
      apart_agent g eg q = sym (apart_is ∙ inside _
          (not_in (and_false_left _ _ (and_false_right _ _ (rw (eq-eqb r.agent (row_of b j).agent (sym q ∙ eg)) refl)))))

      pub apart_scope : (k g : ℕ) (s : Bool) → k ≡ byte_of b j 6 → k ≡ r.class → g ≡ (row_of b j).agent → (g ≡ r.agent → ⊥)
          → s ≡ shares p r.class r.agent g
          → not s ≡ apart_at (decode b p OFF 0) i j
      unfolding ◌and◌
      apart_scope k g s class_read same_class agent_read other_agent shares_is =
          let c : eqb r.class (row_of b j).class ≡ true = eq-eqb _ _ (sym same_class ∙ class_read ∙ class_is) in
          let a : eqb r.agent (row_of b j).agent ≡ false = ne_eqb _ _ (λ z. other_agent (agent_read ∙ sym z)) in
          sym (apart_is ∙ rw (← told, not-false v of_it, c, a, ← agent_read, ← shares_is) refl)
        where
          class_is : byte_of b j 6 ≡ (row_of b j).class
          class_is = byte_class b j

  none_at : (i j : ℕ) → ((row_of b i).kind ≡ CONTROL → ⊥) → false ≡ apart_at (decode b p OFF 0) i j
  unfolding apart_at apart same_instance control decode
  none_at i j h = sym (and_false_left _ _ (and_false_left _ _ (and_false_left _ _ (ne_eqb (row_of b i).kind CONTROL h))))

  -- a row that is no control barrier has no instance
  pub instance_none : (i : ℕ) → ((row_of b i).kind ≡ CONTROL → ⊥) → false ≡ instance_broken (decode b p OFF 0) i
  unfolding instance_broken
  instance_none i h = sym (any_not (apart_at (decode b p OFF 0) i) i (λ j l. sym (none_at i j h)))

-- ---- 15, where ranks are plain, and where they are counted

twice : (v : Bool) → not (not v) ≡ v
twice true = refl
twice false = refl

-- a row that has a rank is its own rival
rival_self : (r : Row) → ranked r ≡ true → rival r r ≡ true
unfolding rival same_location
rival_self r e = and_true e (and_true (and_true (same r.start) (same r.size)) (same r.reference))
  where
    same : (k : ℕ) → eqb k k ≡ true
    same k = eq-eqb k k refl

module _ (b : List ℕ) (mode : Mode) (i : ℕ) where
  pub unfit_off : mode.counted ≡ false → false ≡ unfit (decode b [] mode 0) i
  unfolding unfit decode ◌and◌
  unfit_off e = rw e refl

  pub unfit_none : (r : Row) (x : Bool) → mode.counted ≡ true → r ≡ row_of b i → x ≡ ranked r → x ≡ false → false ≡ unfit (decode b [] mode 0) i
  unfolding unfit decode ◌and◌
  unfit_none r x e er ex h = rw (e, ← er, ← ex, h) refl

  -- a run has them all: one that begins with an earlier row, or with row i
  module _ (r : Row) (x : Bool) (e : mode.counted ≡ true) (er : r ≡ row_of b i) (ex : x ≡ ranked r) (h : x ≡ true) where
    unfit_is : unfit (decode b [] mode 0) i ≡ not (any_below i (begins (decode b [] OFF 0) i) or begins (decode b [] OFF 0) i i)
    unfolding unfit begins outside_at decode ◌and◌
    unfit_is = let q : ranked (row_of b i) ≡ true = sym (ex ∙ ap ranked er) ∙ h in rw (e, q) refl

    pub unfit_early : (y : Bool) → y ≡ any_below i (begins (decode b [] OFF 0) i) → y ≡ true → false ≡ unfit (decode b [] mode 0) i
    unfit_early y ey l = sym (unfit_is ∙ ap not (or_left _ (sym ey ∙ l)))

    pub unfit_late : (y z v : Bool) → y ≡ any_below i (begins (decode b [] OFF 0) i) → y ≡ false → z ≡ any_below i (outside_in b r r) → v ≡ outside r r r
        → (z or v) ≡ unfit (decode b [] mode 0) i
    unfolding ◌or◌
    unfit_late y z v ey l ez ev =
        let own : not (z or v) ≡ begins (decode b [] OFF 0) i i = begins_some b i i r r (rival r r) z v er er refl (rival_self r (sym ex ∙ h)) ez ev in
        let q : (any_below i (begins (decode b [] OFF 0) i) or begins (decode b [] OFF 0) i i) ≡ not (z or v) = rw (← ey, l, ← own) refl in
        sym (unfit_is ∙ ap not q ∙ twice (z or v))

-- ---- 6, of a plain row, and of any other

module _ (r : Row) (source : ℕ) (x : Bool) (ex : x ≡ plain r) where
  tidy : (u v w : Bool) → (u and true and true and true and v and w and true) ≡ (u and v and w)
  unfolding ◌and◌
  tidy false v w = refl
  tidy true false w = refl
  tidy true true true = refl
  tidy true true false = refl

  module _ (h : x ≡ true) where
    low : r.kind ≤ PLAIN_WRITE
    unfolding plain
    low = leb-true r.kind PLAIN_WRITE (sym ex ∙ h)

    off : (k : ℕ) → PLAIN_WRITE < k → eqb r.kind k ≡ false
    off k l = ne_eqb r.kind k (λ e. let b = low in absurd (omega arith))

    plain_atomic : atomic r ≡ false
    unfolding atomic
    plain_atomic = and_false_left _ _ (lt-leb ATOMIC_READ r.kind (let b = low in omega arith))

    plain_barrier : barrier r ≡ false
    unfolding barrier
    plain_barrier = or_none (off BARRIER (omega arith)) (off CONTROL (omega arith))

    plain_ranked : ranked r ≡ false
    unfolding ranked
    plain_ranked = or_none (off ATOMIC_WRITE (omega arith)) (off RMW (omega arith))

    plain_access : access r ≡ true
    unfolding access
    plain_access = le-leb r.kind RMW (let b = low in omega arith)

    pub kind_plain : kind_fits r source ≡ (plain_fits r and (reads r or eqb source INITIAL) and eqb r.rank 0)
    unfolding kind_fits bytes_fit ◌or◌
    kind_plain = rw (← ex, h, plain_atomic, plain_barrier, plain_ranked, plain_access) (tidy (plain_fits r) (reads r or eqb source INITIAL) (eqb r.rank 0))

  pub kind_other : x ≡ false
      → kind_fits r source
      ≡ ((not (atomic r) or atomic_fits r) and (not (barrier r) or barrier_fits r) and semantics_fit r and (reads r or eqb source INITIAL)
      and (ranked r or eqb r.rank 0) and bytes_fit r)
  unfolding kind_fits ◌and◌ ◌or◌
  kind_other h = rw (← ex, h) refl

-- ---- 5, 19, and what comes after them

module _ (hosts : Bool) (p : List (List ℕ)) (agents : ℕ) (r : Row) (source : ℕ) (codes : Bool) (ec : codes ≡ codes_fit hosts agents r) where
  pub row_codes : not codes ≡ true → 5 ≡ row_fault hosts p agents r source
  unfolding row_fault
  row_codes h = rw (← ec, not_out codes h) refl

  module _ (h : not codes ≡ false) (x : List ℕ) (ex : IsPlace p r.agent x) (fits : Bool) (ef : fits ≡ agent_fits (get_or x 3 0) r) where
    fits_is : agent_fits (agent_kind p r.agent) r ≡ fits
    unfolding agent_kind IsPlace
    fits_is = ap (λ (k : ℕ). agent_fits k r) (sym (ex 3 (omega arith))) ∙ sym ef

    pub row_agent : not fits ≡ true → 19 ≡ row_fault hosts p agents r source
    unfolding row_fault
    row_agent k = rw (← ec, not-false codes h, fits_is, not_out fits k) refl

    pub row_form : (v : ℕ) → not fits ≡ false → v ≡ form_fault r source → v ≡ row_fault hosts p agents r source
    unfolding row_fault
    row_form v k e = rw (← ec, not-false codes h, fits_is, not-false fits k) e

-- ---- the cascade of 16 to 18

module _ (p : List (List ℕ)) (agents : ℕ) (d : List ℕ) (n : ℕ) (over : Bool) (e : over ≡ any_below agents (kind_over p)) where
  pub hosts_16 : over ≡ true → 16 ≡ hosts_fault_in p agents d n
  unfolding hosts_fault_in
  hosts_16 h = rw (← e, h) refl

  module _ (h : over ≡ false) (k : ℕ) (c : k ≡ pair_at d 0) where
    pub hosts_17 : DEPENDENCIES < k → 17 ≡ hosts_fault_in p agents d n
    unfolding hosts_fault_in dependency_count
    hosts_17 l = rw (← e, h, ← c, lt-leb k DEPENDENCIES l) refl

    module _ (l : k ≤ DEPENDENCIES) (none : Bool) (q : none ≡ any_below (dependency_count d) (names_missing d n)) where
      pub hosts_18 : none ≡ true → 18 ≡ hosts_fault_in p agents d n
      unfolding hosts_fault_in dependency_count
      hosts_18 m = rw (← e, h, ← q, m, ← c, le-leb k DEPENDENCIES l) refl

      pub hosts_pass : none ≡ false → 0 ≡ hosts_fault_in p agents d n
      unfolding hosts_fault_in dependency_count
      hosts_pass m = rw (← e, h, ← q, m, ← c, le-leb k DEPENDENCIES l) refl

-- ---- 1 to 4 come before 16 to 18

module _ (s : List ℕ) where
  pub hosts_is : hosts_fault s ≡ hosts_fault_in (places_of s) (agents_at s) (dependency_bytes s) (rows_at s)
  unfolding hosts_fault hosts_fault_in agents_known dependencies_few dependencies_named
  hosts_is = refl

  pub header_is : header_fault s ≡ cond (eqb (shape_fault s) 0) (hosts_fault s) (shape_fault s)
  unfolding header_fault shape_fault shape_or
  header_is = go (leb HEADER (length s)) (version_fits s) (limits_fit s) (length_fits s) (hosts_fault s)
    where
      go : (a b c d : Bool) (n : ℕ)
          → cond a (cond b (cond c (cond d n 4) 3) 2) 1
          ≡ cond (eqb (cond a (cond b (cond c (cond d 0 4) 3) 2) 1) 0) n (cond a (cond b (cond c (cond d 0 4) 3) 2) 1)
      go true true true true n = refl
      go true true true false n = refl
      go true true false d n = refl
      go true false c d n = refl
      go false b c d n = refl

  pub shape_refused : (h : ℕ) → h ≡ shape_fault s → (h ≡ 0 → ⊥) → h ≡ header_fault s
  shape_refused h e f = rw (header_is, ← e, ne_eqb h 0 f) refl

  pub shape_passed : (h : ℕ) → h ≡ shape_fault s → h ≡ 0 → header_fault s ≡ hosts_fault s
  shape_passed h e f = rw (header_is, ← e, eq-eqb h 0 f) refl

-- ---- a fault has a number

pub fault_counts : (fault : Fault) → fault_number fault ≡ 0 → ⊥
fault_counts Short e = absurd (omega (arith, e))
fault_counts Version e = absurd (omega (arith, e))
fault_counts Limits e = absurd (omega (arith, e))
fault_counts Length e = absurd (omega (arith, e))
fault_counts Code e = absurd (omega (arith, e))
fault_counts KindFit e = absurd (omega (arith, e))
fault_counts Extent e = absurd (omega (arith, e))
fault_counts Class e = absurd (omega (arith, e))
fault_counts Source e = absurd (omega (arith, e))
fault_counts Rank e = absurd (omega (arith, e))
fault_counts Buffer e = absurd (omega (arith, e))
fault_counts Moments e = absurd (omega (arith, e))
fault_counts Room e = absurd (omega (arith, e))
fault_counts Instance e = absurd (omega (arith, e))
fault_counts Run e = absurd (omega (arith, e))
fault_counts AgentKind e = absurd (omega (arith, e))
fault_counts Dependencies e = absurd (omega (arith, e))
fault_counts Dependency e = absurd (omega (arith, e))
fault_counts AgentRow e = absurd (omega (arith, e))
fault_counts OperationFit e = absurd (omega (arith, e))
fault_counts Rows e = absurd (omega (arith, e))

pub fault_found : (r : Result Unit Fault) → is_err r ≡ true → number_of r ≡ 0 → ⊥
fault_found (Ok u) h = not_both h refl
fault_found (Err fault) h = fault_counts fault

pub fault_missed : (r : Result Unit Fault) → is_err r ≡ false → number_of r ≡ 0
fault_missed (Ok u) h = refl
fault_missed (Err fault) h = not_both refl h

-- ---- the number r of row i says whether it has a fault

module _ (f : ℕ → ℕ) (i r : ℕ) where
  pub fault_here : r ≡ f i → (r ≡ 0 → ⊥) → faulty f i ≡ true
  unfolding faulty
  fault_here e h = rw (← e, ne_eqb r 0 h) refl

  pub fault_none : r ≡ f i → r ≡ 0 → faulty f i ≡ false
  unfolding faulty
  fault_none e h = rw (← e, eq-eqb r 0 h) refl

-- ---- before the first row that has a refusal 8 to 10, 14 or 15 none has refusal 8

module _ (blanks : Bool) (b : List ℕ) (p : List (List ℕ)) (mode : Mode) (n : ℕ) where
  abbrev among : ℕ → ℕ
  among = table_fault blanks (decode b p mode n) (source_of b)

  class_fault : (k : ℕ) → class_taken (decode b p mode n) k ≡ true → faulty among k ≡ true
  unfolding faulty table_fault
  class_fault k e = rw e refl

  pub classes_clear : (m i : ℕ) → i ≡ least m (faulty among) → any_below i (class_taken (decode b [] OFF 0)) ≡ false
  classes_clear m i e = any_not (class_taken (decode b [] OFF 0)) i clear
    where
      clear : (k : ℕ) → k < i → class_taken (decode b [] OFF 0) k ≡ false
      clear k l =
          class_any b p mode n k
          ∙ ⊎_elim (λ t. not_both (class_fault k t) ((least_is (faulty among) m).miss k (rw e at l))) (λ f. f) (which (class_taken (decode b p mode n) k))

-- ---- an Ok is no Err

not_err : {A : Type 0} {x : Refusal} → ◌≡◌ {A = Result Unit Refusal} (Ok tt) (Err x) → A
not_err e = let z : ◌≡◌ {A = ℕ} 0 1 = ap which_one e in absurd (omega arith)
  where
    which_one : Result Unit Refusal → ℕ
    which_one (Ok u) = 0
    which_one (Err x) = 1

refusal_in : Result Unit Refusal → Refusal
refusal_in (Ok u) = refusal 0 0
refusal_in (Err x) = x

-- ---- the first faulty row of n

module _ (f : ℕ → ℕ) (n : ℕ) where
  pub refused_here : (i : ℕ) → least n (faulty f) ≡ i → i < n → first_refused f n ≡ Err (refusal (f i) i)
  unfolding first_refused
  refused_here i e h = rw (e, lt-ltb i n h) refl

  pub refused_none : least n (faulty f) ≡ n → first_refused f n ≡ Ok tt
  unfolding first_refused
  refused_none e = rw (e, le-ltb n n (omega arith)) refl

  -- an admission that begins with these faults
  first_hit : (next : Admission) {x : Refusal} → first_refused f n ≡ Err x → admission_answer (first_fault f n next) ≡ Err x
  unfolding first_refused first_fault admission_answer refusal_in
  first_hit next e = go (ltb (least n (faulty f)) n) e
    where
      go : (b : Bool) {x : Refusal} → cond b (Err (refusal (f (least n (faulty f))) (least n (faulty f)))) (Ok (tt {0})) ≡ Err x
          → admission_answer (cond b (Refused (f (least n (faulty f))) (least n (faulty f))) next) ≡ Err x
      go true q = ap Err (ap refusal_in q)
      go false q = not_err q

  first_miss : (next : Admission) → first_refused f n ≡ Ok tt → first_fault f n next ≡ next
  unfolding first_refused first_fault
  first_miss next e = go (ltb (least n (faulty f)) n) e
    where
      go : (b : Bool) → cond b (Err (refusal (f (least n (faulty f))) (least n (faulty f)))) (Ok (tt {0})) ≡ Ok (tt {0})
          → cond b (Refused (f (least n (faulty f))) (least n (faulty f))) next ≡ next
      go true q = not_err (sym q)
      go false q = refl

-- ---- the rows' admission: rows that are faulty by themselves, then those that are among the others

module _ (blanks hosts : Bool) (agents : ℕ) (b : List ℕ) (p : List (List ℕ)) (counted : Bool) (n : ℕ) where
  pub rows_early : {x : Refusal} → first_refused (row_fault_in hosts p agents b) n ≡ Err x
      → admission_answer (rows_admission blanks hosts agents b p counted n) ≡ Err x
  unfolding rows_admission
  rows_early e = first_hit _ n _ e

  module _ (e : first_refused (row_fault_in hosts p agents b) n ≡ Ok tt) where
    pub rows_late : {x : Refusal} → first_refused (among blanks b p (ranks counted) n) n ≡ Err x
        → admission_answer (rows_admission blanks hosts agents b p counted n) ≡ Err x
    unfolding rows_admission
    rows_late h = ap admission_answer (first_miss _ n _ e) ∙ first_hit _ n _ h

    pub rows_pass : first_refused (among blanks b p (ranks counted) n) n ≡ Ok tt
        → admission_answer (rows_admission blanks hosts agents b p counted n) ≡ Ok (record { agents = agents; rows = n })
    unfolding rows_admission admission_answer
    rows_pass h = ap admission_answer (first_miss _ n _ e ∙ first_miss _ n _ h)

-- ---- the header's refusal, and the rows' where it has none

-- of a mode nothing but the ranks is read
faults_ranks : (blanks : Bool) (b : List ℕ) (p : List (List ℕ)) (g : Mode) (n : ℕ)
    → table_fault blanks (decode b p g n) (source_of b) ≡ table_fault blanks (decode b p (ranks g.counted) n) (source_of b)
unfolding table_fault class_taken other_class_at source_broken source_fits writer_fits rank_taken same_rank_at instance_broken apart_at unfit begins outside_at decode
faults_ranks blanks b p g n = fun_ext (λ i. refl)

module _ (blanks : Bool) (s : List ℕ) (h : ℕ) (e : h ≡ header_fault s) where
  pub header_refused : (h ≡ 0 → ⊥) → admission blanks s ≡ Refused h 0
  unfolding admission
  header_refused f = rw (← e, ne_eqb h 0 f) refl

  pub header_passed : h ≡ 0 → admission blanks s ≡ rows_admission blanks (has_hosts s) (agents_at s) (row_bytes s) (places_of s) (mode_of false s).counted (rows_at s)
  unfolding admission table_of table_under sources_of row_fault_at rows_admission row_fault_in
  header_passed f = rw (← e, eq-eqb h 0 f, faults_ranks blanks (row_bytes s) (places_of s) (mode_of false s) (rows_at s)) refl
