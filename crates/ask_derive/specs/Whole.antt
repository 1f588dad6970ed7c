-- What the calls of a search for a derivation come to, from the rows and from the bytes of a table. Assumes nothing.
use Rattle.std.specs.Prelude.{◌≡◌, Bool, true, false, not, cond, List, ◌++◌, ℕ, suc, ◌+◌, ◌*◌, ◌/◌, ◌≤◌, ◌<◌, length, drop, ltb, eqb}
use Rattle.std.proofs.Math.Path.{refl, ap}
use Rattle.std.proofs.Common.{sym, subst, ◌∙◌, arith, add-one}
use borrow.Author.Tests.{ltb-true, eqb-false, lt-ltb, le-ltb}
use Rattle.finite.specs.Logic.{◌and◌, split, not_out}
use Rattle.finite.specs.Below.{least}
use Rattle.finite.specs.Lists.{Written, written_all}
use Rattle.finite.specs.Walk.{walk, trail, along}
use Rattle.finite.specs.Cycle.{length_trail, length_along, trail_cong}
use Rattle.bits.specs.Bit.{zeros}
use Rattle.bits.specs.Matrix.{rel}
use Rattle.bits.specs.Within.{Within, within_refl, within_trans, within_widen, zeros_within}
use Rattle.std.specs.declared.result.Result.{Result}
use Rattle.std.specs.declared.result.Result.TheVariants.{Ok, Err}
use Rattle.model.specs.declared.{Refusal.Refusal, Counts.Counts}
use Rattle.model.specs.declared.DeriveAnswer.{DeriveAnswer}
use Rattle.model.specs.declared.DeriveAnswer.TheVariants as said
use Rattle.model.specs.Refusal.{refusal, admission_answer}
use Rattle.model.specs.Limits.{ROWS, WORK, STEPS, CLASS_SETS}
use Rattle.model.specs.Table.{Mode, Table, row_of, decode}
use Rattle.model.specs.Moment.{moment_in, moment, program_order}
use Rattle.model.specs.Happens.{step}
use Rattle.model.specs.Check.{wiped}
use Rattle.model.specs.Reason.{two_moments, chain_size, step_number, chain, has_chain_by, Derived, word, chained, not_before, chain_or, ours}
use Rattle.model.specs.Reason.{derived_of, derive_answer, chain_after, work_after}
use Rattle.work_area.specs.Regions.{MUTUAL, SYNC_END, HAPPENS, STEP, CHAINS, CHAINS_END, MOMENTS}
use Rattle.door_pieces.specs.Pieces.{joined, derive_both}
use Rattle.door_pieces.specs.Entry.{door_both, Left, left_same, zeros_wiped, when_refused, when_admitted_lem, table_false}
use Rattle.run.specs.Layout.{table_in}
use Rattle.door_open.specs.Opened.{Entered}
use Rattle.door_pieces.specs.Answers.{not_derived, derive_both_lem}
use Rattle.work_walks.specs.Layers.{in_layer}
use Rattle.ask_derive.specs.Layers.{Layered, Asked, Leading}
use Rattle.ask_derive.specs.Found.{size_is, size_fits, set_has}

-- ---- definitions

-- what comes back, by what is derived
abbrev pub Told : Derived → Result DeriveAnswer Refusal → List ℕ → List ℕ → List ℕ → List ℕ → Type 0
Told o r w u c d = Left derive_answer work_after chain_after o r w u c d

-- ---- laws: the chain that is written

module _ {t : Table} {n s x z : ℕ} {w : List ℕ} (all : n ≡ t.rows) (h : Layered t n s x w) (l : z < 3 * n) (j : ℕ)
    (e : j ≡ least (3 * n) (in_layer w CHAINS MOMENTS z)) where
  chain_trail : chain t s z x ≡ along (step_number t s) x (trail (3 * n) (step t s) x (j + 1) z)
  unfolding chain
  chain_trail =
      ap (λ (i : ℕ). along (step_number t s) x (trail (3 * i) (step t s) x (chain_size t s z x) z)) (sym all)
      ∙ ap (λ (i : ℕ). along (step_number t s) x (trail (3 * n) (step t s) x i z)) (sym (size_is all h z l j e))

  pub chain_length : j + 1 ≡ length (chain t s z x)
  chain_length =
      sym (ap length chain_trail ∙ length_along (step_number t s) x (trail (3 * n) (step t s) x (j + 1) z) ∙ length_trail (3 * n) (step t s) x (j + 1) z)

  chain_is : walk (3 * n) (rel w STEP MOMENTS) x (j + 1) z ≡ true
      → along (step_number t s) x (trail (3 * n) (rel w STEP MOMENTS) x (j + 1) z) ≡ chain t s z x
  chain_is g = ap (along (step_number t s) x) (trail_cong (3 * n) (rel w STEP MOMENTS) (step t s) h.steps.cell x (j + 1) z l g) ∙ sym chain_trail

  pub chain_written : {c d : List ℕ} → walk (3 * n) (rel w STEP MOMENTS) x (j + 1) z ≡ true → j + 1 ≤ length c
      → Written (along (step_number t s) x (trail (3 * n) (rel w STEP MOMENTS) x (j + 1) z)) (j + 1) c d
      → d ≡ chain t s z x ++ drop (length (chain t s z x)) c
  chain_written {c} {d} g room f =
      written_all (chain t s z x) c d (j + 1) chain_length room (subst (λ (k : List ℕ). Written k (j + 1) c d) (chain_is g) f)

-- ---- laws: what is told of two moments

-- with the chain buffer before and after, and the frame of the work area
abbrev Framed : Derived → DeriveAnswer → List ℕ → List ℕ → List ℕ → List ℕ → Type 0
Framed o r c d w u = (Ok r ≡ derive_answer o) × (d ≡ chain_after o c) × Within MUTUAL CHAINS_END w u

-- synchronizes-with was made, then the class sets were tried
both : {w v u : List ℕ} → Within MUTUAL SYNC_END w v → Within HAPPENS CHAINS_END v u → Within MUTUAL CHAINS_END w u
both f g = within_trans (within_widen MUTUAL CHAINS_END (omega arith) (omega arith) f) (within_widen MUTUAL CHAINS_END (omega arith) (omega arith) g)

module _ (t : Table) (m k : ℕ) where
  pub told_word : (c w : List ℕ) → program_order t m k ≡ true → Framed (ours t m k) said.ProgramOrder c c w w
  unfolding ours derive_answer chain_after
  told_word c w e = (rw e refl, rw e refl, within_refl _ _ w)

  module _ (e : program_order t m k ≡ false) (i : ℕ) (f : i ≡ least CLASS_SETS (has_chain_by t m k)) where
    pub told_none : {w v u : List ℕ} (c : List ℕ) → CLASS_SETS ≤ i → Within MUTUAL SYNC_END w v → Within HAPPENS CHAINS_END v u
        → Framed (ours t m k) said.NotBefore c c w u
    unfolding ours chain_or derive_answer chain_after
    told_none c l p q = (rw (e, ← f, le-ltb i CLASS_SETS l) refl, rw (e, ← f, le-ltb i CLASS_SETS l) refl, both p q)

    found : i < CLASS_SETS → ours t m k ≡ chained (i + 1) (chain t (i + 1) m k)
    unfolding ours chain_or
    found l = rw (e, ← f, lt-ltb i CLASS_SETS l) (ap (λ (s : ℕ). chained s (chain t s m k)) (sym (add-one i)))

    chain_told : (size : ℕ) (c d : List ℕ) → i < CLASS_SETS → size ≡ length (chain t (i + 1) m k)
        → d ≡ chain t (i + 1) m k ++ drop (length (chain t (i + 1) m k)) c
        → (Ok (said.Chain (i + 1) size) ≡ derive_answer (ours t m k)) × (d ≡ chain_after (ours t m k) c)
    unfolding derive_answer chain_after
    chain_told size c d l a g = rw (found l) (ap (λ (q : ℕ). Ok (said.Chain (i + 1) q)) a, g)

-- the class set was found, and then the layer of the first moment
module _ {t : Table} {n m k i : ℕ} {u : List ℕ} (all : n ≡ t.rows) (asked : Asked n m k)
    (set_is : i ≡ least CLASS_SETS (has_chain_by t m k)) (a_set : i < CLASS_SETS) (layered : Layered t n (i + 1) k u) (j : ℕ)
    (layer_is : j ≡ least (3 * n) (in_layer u CHAINS MOMENTS m)) where
  fits : (j + 1 ≤ STEPS) × (j + 1 ≤ 3 * n) × (walk (3 * n) (rel u STEP MOMENTS) k (j + 1) m ≡ true)
  fits = size_fits all layered m asked.from j layer_is asked.few asked.to asked.apart (set_has t i m k set_is a_set)

  -- what `write_steps` asks
  pub steps_asked : WORK ≤ length u → Leading n m k (j + 1) u
  steps_asked room = record { room = room; from = asked.from; few = fits.0; short = fits.1; layers = layered.layers; leads = fits.2 }

  pub told_chain : {w v c d : List ℕ} → program_order t m k ≡ false → STEPS ≤ length c → Within MUTUAL SYNC_END w v → Within HAPPENS CHAINS_END v u
      → Written (along (step_number t (i + 1)) k (trail (3 * n) (rel u STEP MOMENTS) k (j + 1) m)) (j + 1) c d
      → Framed (ours t m k) (said.Chain (i + 1) (j + 1)) c d w u
  told_chain {c = c} {d} not_program room synced searched written =
      let a = fits.0 in
      let r = chain_told t m k not_program i set_is (j + 1) c d a_set (chain_length all layered asked.from j layer_is)
      (chain_written all layered asked.from j layer_is fits.2 (omega arith) written) in
      (r.0, r.1, both synced searched)

-- ---- laws: two numbers

module _ (b : List ℕ) (p : List (List ℕ)) (mode : Mode) (n m k : ℕ) where
  pub two_is : two_moments (decode b p mode n) m k ≡ (moment_in n (row_of b (m / 3)) m and moment_in n (row_of b (k / 3)) k and not (eqb m k))
  unfolding two_moments moment decode
  two_is = refl

  -- they are below the moments of the rows, and differ
  pub two_known : n ≤ ROWS → two_moments (decode b p mode n) m k ≡ true → Asked n m k
  unfolding two_moments moment moment_in decode
  two_known few e =
      let a : m / 3 < n = ltb-true _ _ (split (split (split e).0).0).0 in
      let c : k / 3 < n = ltb-true _ _ (split (split (split e).0).1).0 in
      record { few = few; from = omega arith; to = omega arith; apart = eqb-false _ _ (not_out _ (split e).1) }

-- ---- laws: the rows of an admitted table

-- what is derived of two moments is no refusal
ours_wiped : (t : Table) (m k : ℕ) (w : List ℕ) → work_after (ours t m k) w ≡ wiped w
unfolding ours chain_or work_after
ours_wiped t m k w = go (program_order t m k) (ltb i CLASS_SETS)
  where
    i : ℕ
    i = least CLASS_SETS (has_chain_by t m k)

    go : (x y : Bool) → work_after (cond x word (cond y (chained (suc i) (chain t (suc i) m k)) not_before)) w ≡ wiped w
    go true y = refl
    go false true = refl
    go false false = refl

two_told : (t : Table) (m k : ℕ) → two_moments t m k ≡ true → derived_of t m k ≡ ours t m k
unfolding derived_of
two_told t m k e = rw e refl

module _ (t : Table) (m k : ℕ) where
  -- not two moments: nothing is touched
  pub rows_12 : (w c : List ℕ) → two_moments t m k ≡ false → Told (derived_of t m k) (Err (refusal 12 0)) w w c c
  unfolding derived_of derive_answer work_after chain_after
  rows_12 w c e = (rw e refl, rw e refl, rw e refl)

  -- derived, wiped
  pub rows_derived : (r : DeriveAnswer) (w v u c d : List ℕ) → WORK ≤ length w → two_moments t m k ≡ true
      → (Ok r ≡ derive_answer (ours t m k)) × (d ≡ chain_after (ours t m k) c) × Within MUTUAL CHAINS_END w v
      → u ≡ zeros v 0 WORK → Told (derived_of t m k) (Ok r) w u c d
  rows_derived r w v u c d room two derived cleared =
      left_same derive_answer work_after chain_after (two_told t m k two) (
        derived.0,
        cleared ∙ zeros_within 0 WORK w v (omega arith) (within_widen 0 WORK (omega arith) (omega arith) derived.2) ∙ zeros_wiped w room
            ∙ sym (ours_wiped t m k w),
        derived.1,
      )

-- ---- laws: the entry point

module _ (f s : List ℕ) (m k : ℕ) (w c : List ℕ) (a : Result Counts Refusal)
    (e : a ≡ admission_answer (door_both STEPS true f s (length w) (length c))) where
  abbrev told : Derived
  told = derive_both f s m k (length w) (length c)

  pub told_refused : {x : Refusal} → a ≡ Err x → Told told (Err x) w w c c
  unfolding derive_answer work_after chain_after
  told_refused h =
      left_same derive_answer work_after chain_after (derive_both_lem m k (length w) (length c) f s ∙ when_refused not_derived _ a _ e h) (refl, refl, refl)

  pub told_run : {counts : Counts} (h : a ≡ Ok counts) (t : List ℕ) → Entered STEPS true false f s (length w) (length c) t counts.rows
      → (r : Result DeriveAnswer Refusal) (u d : List ℕ) → Told (derived_of (table_in t counts.rows) m k) r w u c d → Told told r w u c d
  told_run admitted t opened r u d derived =
      left_same derive_answer work_after chain_after
      (derive_both_lem m k (length w) (length c) f s ∙ when_admitted_lem not_derived _ a _ e admitted
      ∙ sym (ap (λ (y : Table). derived_of y m k) (opened.table ∙ table_false (joined f s))))
      derived
