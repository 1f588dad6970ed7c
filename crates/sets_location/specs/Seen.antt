-- The rows that see one of a set: for each agent those after its first. Assumes nothing.
use Rattle.std.specs.Prelude.{◌≡◌, refl, Bool, true, false, ℕ, ◌-◌, ◌≤◌, ◌<◌, leb}
use Rattle.std.proofs.Common.{sym, ◌∙◌, arith}
use Rattle.std.proofs.Math.Path.{ap, ap₂}
use Rattle.std.proofs.Math.Bool.{not}
use Rattle.std.proofs.Math.Decide.{dec_lt, ℕ_discrete}
use Rattle.std.proofs.Math.Dec.{ltb, eqb}
use borrow.Author.Tests.{eq-eqb}
use Rattle.finite.specs.Logic.{◌and◌, ◌or◌, and_false_right, and_left, not_both, or_off}
use Rattle.finite.specs.Below.{any_below, any_cong, any_off, least_is}
use Rattle.model.specs.Limits.{ROWS}
use Rattle.model.specs.Table.{Table}
use Rattle.model.specs.Moment.{same_agent}
use Rattle.model_laws.specs.PairLaws.{eqb_swap}
use Rattle.model_closing.specs.Order.{later_row, from_row}
use Rattle.model_placing.specs.Elements.{up_to, seen, seen_from, less_agent, seen_none, seen_step}
use Rattle.sets_of_rows.specs.declared.Set.{Set}
use Rattle.sets_of_rows.specs.Member.{in_set}
use Rattle.sets_of_rows.specs.First.{First, first_next, next}
use Rattle.sets_of_rows.specs.Rows.{Rows, rows_cong, rows_in_lem}

-- ---- definitions

-- the members of x are among n rows
abbrev pub Among : ℕ → Set → Type 0
Among n x = (j : ℕ) → in_set x j ≡ true → j < n

-- the rows that `own` says to be seen of v: those behind it, and where b, itself too
unfoldable pub sees : Table → Bool → ℕ → ℕ → Bool
sees t b v j = eqb (t.row v).agent (t.row j).agent and up_to b v j

-- the invariant: what sees a member of x is in `all`, or sees a member of what is left
pub record Seeing (t : Table) (n : ℕ) (b : Bool) (x all left : Set) : Type 0 where
  pub low : Among n left
  pub is : (j : ℕ) → (in_set all j or (ltb j n and seen t b (in_set left) j)) ≡ (ltb j n and seen t b (in_set x) j)

-- ---- laws: a set that loses its first member

pub fewer_later : {x : Set} (r : Set) {i : ℕ} → First x i → ((j : ℕ) → in_set r j ≡ true → in_set x j ≡ true) → in_set r i ≡ false → i < next r
fewer_later {x} r {i} f sub gone = go (dec_lt i (next r))
  where
    here : next r ≤ i → Dec (next r ≡ i) → in_set r (next r) ≡ true → i < next r
    here l (yes e) t = not_both t (ap (in_set r) e ∙ gone)
    here l (no e) t = not_both (sub (next r) t) (f.miss (next r) (omega arith))

    go : Dec (i < next r) → i < next r
    go (yes l) = l
    go (no l) =
        let b = f.bound in
        here (omega arith) (ℕ_discrete (next r) i) ((least_is (in_set r) ROWS).hit (omega arith))

-- ---- laws: the loop

off_left : (a b : Bool) → a ≡ false → (a or b) ≡ b
unfolding ◌or◌
off_left false b e = refl
off_left true b e = not_both refl e

regroup : (all l a c : Bool) → ((all or (l and a)) or (l and c)) ≡ (all or (l and (a or c)))
unfolding ◌and◌ ◌or◌
regroup true l a c = refl
regroup false true a c = refl
regroup false false a c = refl

module _ (t : Table) (n : ℕ) (rows : t.rows ≡ n) (b : Bool) where
  pub seen_cong : (p q : ℕ → Bool) (y : ℕ) → ((v : ℕ) → v < n → p v ≡ q v) → seen t b p y ≡ seen t b q y
  unfolding seen seen_from
  seen_cong p q y h =
      any_cong _ _ t.rows (λ v l. ap (λ (c : Bool). c and eqb (t.row v).agent (t.row y).agent and up_to b v y) (h v (omega arith)))

  pub seeing_begin : {x : Set} (all : Set) → Among n x → ((j : ℕ) → in_set all j ≡ false) → Seeing t n b x all x
  seeing_begin all low e = record { low = low; is = λ j. off_left _ _ (e j) }

  module _ {x all left : Set} {v : ℕ} (more next_left own agent : Set) (inv : Seeing t n b x all left) (low : First left v) (h : Rows n (sees t b v) own)
      (g : Rows n (same_agent t v) agent) (e : (j : ℕ) → in_set more j ≡ (in_set all j or in_set own j))
      (f : (j : ℕ) → in_set next_left j ≡ (in_set left j and not (in_set agent j))) where
    fewer : (j : ℕ) → in_set next_left j ≡ true → in_set left j ≡ true
    fewer j o = and_left (in_set left j) _ (sym (f j) ∙ o)

    below : v < n
    below = inv.low v low.hit

    agents : (j : ℕ) → j < n → in_set next_left j ≡ less_agent t (in_set left) (t.row v).agent j
    unfolding less_agent same_agent
    agents j l = f j ∙ ap (λ (c : Bool). in_set left j and not c) (rows_in_lem g j l ∙ eqb_swap (t.row v).agent (t.row j).agent)

    pub seeing_turn : Seeing t n b x more next_left
    unfolding sees
    seeing_turn =
        record {
          low = λ j o. inv.low j (fewer j o);
          is = λ j.
              ap₂ ◌or◌ (e j ∙ ap (λ (c : Bool). in_set all j or c) (h.is j)) (ap (λ (c : Bool). ltb j n and c) (seen_cong _ _ j agents))
              ∙ regroup (in_set all j) (ltb j n) (sees t b v j) _
              ∙ ap (λ (c : Bool). in_set all j or (ltb j n and c)) (sym (seen_step t b (in_set left) j v (omega (arith, below)) low.hit low.miss))
              ∙ inv.is j;
        }

    gone : in_set next_left v ≡ false
    unfolding same_agent
    gone =
        f v ∙ and_false_right (in_set left v) (not (in_set agent v))
        (ap not (rows_in_lem g v below ∙ eq-eqb (t.row v).agent (t.row v).agent refl))

    pub seeing_less : ROWS - next next_left < ROWS - next left
    seeing_less =
        let a = fewer_later next_left low fewer gone in
        let c = first_next low in
        let d = low.bound in
        omega arith

  pub seeing_end : {x all : Set} (left : Set) → n ≤ ROWS → any_below ROWS (in_set left) ≡ false → Seeing t n b x all left → Rows n (seen t b (in_set x)) all
  seeing_end left few e inv =
      record {
        is = λ j.
            sym (or_off _ _ (and_false_right (ltb j n) _ (seen_none t b (in_set left) j (λ v l. any_off (in_set left) ROWS e v (omega arith))))) ∙ inv.is j;
      }

-- ---- laws: what `after` and `onward` give

and_swap : (a b : Bool) → (a and b) ≡ (b and a)
unfolding ◌and◌
and_swap true true = refl
and_swap true false = refl
and_swap false true = refl
and_swap false false = refl

pub sees_after : (t : Table) {n : ℕ} (v : ℕ) {x : Set} → Rows n (later_row t v) x → Rows n (sees t false v) x
unfolding later_row sees up_to same_agent
sees_after t {n} v h = rows_cong (λ j l. and_swap (ltb v j) (eqb (t.row v).agent (t.row j).agent)) h

pub sees_onward : (t : Table) {n : ℕ} (v : ℕ) {x : Set} → Rows n (from_row t v) x → Rows n (sees t true v) x
unfolding from_row sees up_to same_agent
sees_onward t {n} v h = rows_cong (λ j l. and_swap (leb v j) (eqb (t.row v).agent (t.row j).agent)) h
