-- A step gives each answer exactly when its case holds: the proofs of Stepping.antt. Assumes nothing.
use Rattle.std.specs.Prelude.{◌≡◌, refl, List, ◌⊎◌, ◌↔◌, ℕ, ◌+◌, ◌*◌, ◌≤◌, ◌<◌, take, drop}
use Rattle.std.proofs.Common.{sym, ap, ◌∙◌, subst, inl, inr, arith}
use Rattle.std.proofs.Math.Decide.{dec_lt}
use Rattle.model.specs.declared.{Row.Row, Source.Source}
use Rattle.model.specs.Table.{row_of, source_of}
use Rattle.model.specs.Header.{ROW_BYTES, agents_at, rows_at, row_bytes}
use Rattle.door_write.specs.Encode.{row_list}
use Rattle.door_write.specs.Promise.{row_bytes_again}
use Rattle.door_step.specs.declared.RowReader.{RowReader}
use Rattle.door_step.specs.declared.Stepped.{Stepped}
use Rattle.std.specs.declared.result.Result.{Result}
use Rattle.std.specs.declared.result.Result.TheVariants.{Ok, Err}
use Rattle.model.specs.declared.Refusal.{Refusal}
use Rattle.model.specs.Refusal.{refusal}
use Rattle.std.specs.declared.option.Option.{Option}
use Rattle.std.specs.declared.option.Option.TheVariants.{None, Some}
use Rattle.model.specs.declared.Entry.{Entry}
use Rattle.door_step.specs.Steps.{StepAnswer}
use Rattle.door_step.specs.Steps.{steps_of, stepped_at, step_result}
use Rattle.door_step.specs.Promise.{opened_rows, opened_end, refused_end, from_refused, from_row_lem, from_end}
use Rattle.model_promises.specs.Terms.{Bytes, Fillable, Unfillable}
use Rattle.model_cited.specs.Terms.{source, Opens}
use Rattle.model_cited.specs.Tables.{fillable_or}
use Rattle.model_cited.specs.StepExactly.{Means}

-- ---- the result that a program gets

-- the answer, from the result
abbrev stepped_in : Result Stepped Refusal → StepAnswer
stepped_in (Err r) = StepAnswer.Refused r.number r.row
stepped_in (Ok (Stepped.Row e next)) = StepAnswer.Row e.row e.source next
stepped_in (Ok (Stepped.End next)) = StepAnswer.End next

stepped_back : (x : StepAnswer) → stepped_in (step_result x) ≡ x
unfolding step_result
stepped_back (StepAnswer.Refused n j) = refl
stepped_back (StepAnswer.Row r c next) = refl
stepped_back (StepAnswer.End next) = refl

-- so a result is given exactly for what it is of
result_exactly : (x y : StepAnswer) → (step_result x ≡ step_result y) ↔ (x ≡ y)
result_exactly x y = (λ e. sym (stepped_back x) ∙ ap stepped_in e ∙ stepped_back y, λ e. ap step_result e)

pub steps_refused : (x : StepAnswer) (n j : ℕ) → (step_result x ≡ Err (refusal n j)) ↔ (x ≡ StepAnswer.Refused n j)
unfolding step_result
steps_refused x n j = result_exactly x (StepAnswer.Refused n j)

pub steps_row : (x : StepAnswer) (e : Entry) (next : ℕ)
    → (step_result x ≡ Ok (Stepped.Row e next)) ↔ (x ≡ StepAnswer.Row e.row e.source next)
unfolding step_result
steps_row x e next = result_exactly x (StepAnswer.Row e.row e.source next)

pub steps_end : (x : StepAnswer) (next : ℕ) → (step_result x ≡ Ok (Stepped.End next)) ↔ (x ≡ StepAnswer.End next)
unfolding step_result
steps_end x next = result_exactly x (StepAnswer.End next)

-- ---- a step

module _ (s : List ℕ) (i : ℕ) where
  row_here : Fillable s → i < rows_at s
      → stepped_at s i ≡ StepAnswer.Row (row_of (row_bytes s) i) (source (source_of (row_bytes s) i)) (i + 1)
  row_here e l = from_row_lem s (agents_at s) (rows_at s) e i l

  end_here : Fillable s → rows_at s ≤ i → stepped_at s i ≡ StepAnswer.End i
  end_here e l = from_end s (agents_at s) (rows_at s) e i l

  -- what is said is true
  said : Means s i (stepped_at s i)
  said = go (fillable_or s) (dec_lt i (rows_at s))
    where
      go : Fillable s ⊎ ((n : ℕ) × (j : ℕ) × Unfillable s n j) → Dec (i < rows_at s) → Means s i (stepped_at s i)
      go (inr (n, j, e)) d = subst (Means s i) (sym (from_refused s n j e i)) e
      go (inl e) (yes l) = subst (Means s i) (sym (row_here e l)) (e, l, refl, refl, refl)
      go (inl e) (no l) = subst (Means s i) (sym (end_here e (omega arith))) (e, omega arith, refl)

  pub exactly : (x : StepAnswer) → (stepped_at s i ≡ x) ↔ Means s i x
  exactly x = (λ e. subst (Means s i) e said, back x)
    where
      back : (x : StepAnswer) → Means s i x → stepped_at s i ≡ x
      back (StepAnswer.Refused n j) e = from_refused s n j e i
      back (StepAnswer.Row r c next) (e, l, p, q, n) = row_here e l ∙ rw (p, q, n) refl
      back (StepAnswer.End next) (e, l, n) = end_here e l ∙ rw n refl

-- ---- a call of a reader

module _ (s : List ℕ) (i : ℕ) (r : RowReader) (o : Opens s r) where
  abbrev MeansNext : Option Entry → Type 0
  MeansNext (Some e) =
      Fillable s × (i < rows_at s) × (e.row ≡ row_of (row_bytes s) i) × (e.source ≡ source (source_of (row_bytes s) i))
  MeansNext None = (Fillable s × (rows_at s ≤ i)) ⊎ ((n : ℕ) × (j : ℕ) × Unfillable s n j)

  row_next : Fillable s → i < rows_at s
      → steps_of r i ≡ Some (record { row = row_of (row_bytes s) i; source = source (source_of (row_bytes s) i) })
  row_next e l = opened_rows s r o.0 o.1 (agents_at s) (rows_at s) e i l

  end_next : MeansNext None → steps_of r i ≡ None
  end_next (inl (e, l)) = opened_end s r o.0 o.1 (agents_at s) (rows_at s) e i l
  end_next (inr (n, j, e)) = refused_end s r o.0 o.1 n j e i

  said_next : MeansNext (steps_of r i)
  said_next = go (fillable_or s) (dec_lt i (rows_at s))
    where
      go : Fillable s ⊎ ((n : ℕ) × (j : ℕ) × Unfillable s n j) → Dec (i < rows_at s) → MeansNext (steps_of r i)
      go (inr u) d = subst MeansNext (sym (end_next (inr u))) (inr u)
      go (inl e) (yes l) = subst MeansNext (sym (row_next e l)) (e, l, refl, refl)
      go (inl e) (no l) = subst MeansNext (sym (end_next (inl (e, omega arith)))) (inl (e, omega arith))

  pub next_exactly : (x : Option Entry) → (steps_of r i ≡ x) ↔ MeansNext x
  next_exactly x = (λ e. subst MeansNext e said_next, back x)
    where
      back : (x : Option Entry) → MeansNext x → steps_of r i ≡ x
      back (Some x) (e, l, p, n) = row_next e l ∙ rw (← p, ← n) refl
      back None e = end_next e

-- ---- what follows

pub row_bytes_lem : (s : List ℕ) → Bytes s → (i : ℕ) (r : Row) (c : Source) (next : ℕ)
    → stepped_at s i ≡ StepAnswer.Row r c next
    → row_list r c.0 ≡ take ROW_BYTES (drop (ROW_BYTES * i) (row_bytes s))
row_bytes_lem s bytes i r c next e =
    let m = (exactly s i (StepAnswer.Row r c next)).0 e in
    rw (m.2, m.3) (row_bytes_again s bytes (agents_at s) (rows_at s) m.0 i m.1)

pub refused_everywhere : (s : List ℕ) (i n j : ℕ) → stepped_at s i ≡ StepAnswer.Refused n j
    → (k : ℕ) → stepped_at s k ≡ StepAnswer.Refused n j
refused_everywhere s i n j e k = (exactly s k (StepAnswer.Refused n j)).1 ((exactly s i (StepAnswer.Refused n j)).0 e)

pub end_stays : (s : List ℕ) (i next : ℕ) → stepped_at s i ≡ StepAnswer.End next
    → (k : ℕ) → i ≤ k → stepped_at s k ≡ StepAnswer.End k
end_stays s i next e k l =
    let m = (exactly s i (StepAnswer.End next)).0 e in
    let h = m.1 in
    (exactly s k (StepAnswer.End k)).1 (m.0, omega arith, refl)

pub next_end_stays : (s : List ℕ) (r : RowReader) → Opens s r → (i : ℕ) → steps_of r i ≡ None
    → (k : ℕ) → i ≤ k → steps_of r k ≡ None
next_end_stays s r o i e k l = go ((next_exactly s i r o None).0 e)
  where
    go : (Fillable s × (rows_at s ≤ i)) ⊎ ((n : ℕ) × (j : ℕ) × Unfillable s n j) → steps_of r k ≡ None
    go (inl (f, h)) = (next_exactly s k r o None).1 (inl (f, omega arith))
    go (inr u) = (next_exactly s k r o None).1 (inr u)
