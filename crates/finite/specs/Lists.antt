-- Lists made from a function on places, and lists whose first numbers are written. Assumes nothing.
use Rattle.std.specs.Prelude.{◌≡◌, get_or, set, drop}
use Rattle.std.proofs.Math.Path.{refl}
use Rattle.std.proofs.Common.{sym, ap, ◌∙◌, not-suc-le-zero, arith, length-set, length-append, length-drop, ext_get_or, get_or-set_same, get_or-set_other, get_or-drop, get_or-append-add}
use Rattle.std.proofs.Math.Logic.{⊎_elim}
use mathlib.Core.List.{List, [], ◌∷◌, ◌++◌}
use Prim.Native.Nat.{ℕ, zero, suc, ◌+◌, ◌-◌, ◌≤◌, ◌<◌}
use Rattle.std.proofs.Math.Decide.{dec_lt, ℕ_discrete}
use Rattle.std.proofs.Math.ListN.{length, get_or-append}
use Rattle.std.proofs.lemmas.List.{get_or_at}
use Rattle.std.specs.Array.{IsFromFnResult, IsFromFnResultFrom}
use denote.Param.Members.{Mut, Called}
use mathlib.Core.Path.{subst}
use Rattle.finite.specs.Below.{below_cases}

-- ---- definitions

-- f 0, f 1, .. f (n - 1)
unfoldable pub tabulate : {A : Type 0} → (ℕ → A) → ℕ → List A
tabulate f zero = []
tabulate f (suc n) = tabulate f n ++ (f n ∷ [])

-- d is c but for its first `size` numbers, which are those of l
pub record Written (l : List ℕ) (size : ℕ) (c d : List ℕ) : Type 0 where
  pub len : length d ≡ length c
  pub front : (i : ℕ) → i < size → get_or d i 0 ≡ get_or l i 0
  pub rest : (i : ℕ) → size ≤ i → get_or d i 0 ≡ get_or c i 0

-- ---- laws: made from a function

module _ {A : Type 0} (f : ℕ → A) where
  pub length_tabulate : (n : ℕ) → length (tabulate f n) ≡ n
  unfolding tabulate
  length_tabulate zero = refl
  length_tabulate (suc n) = rw (length-append (tabulate f n) (f n ∷ []), length_tabulate n) (omega arith)

  pub get_d_tabulate : (n k : ℕ) (d : A) → k < n → get_or (tabulate f n) k d ≡ f k
  unfolding tabulate
  get_d_tabulate zero k d h = absurd (not-suc-le-zero h)
  get_d_tabulate (suc n) k d h = ⊎_elim (λ e. rw e (get_or_at (tabulate f n) (f n) [] d n len))
      (λ l. get_or-append (tabulate f n) (f n ∷ []) d k (rw len l) ∙ get_d_tabulate n k d l) (below_cases h)
    where
      len : length (tabulate f n) ≡ n
      len = length_tabulate n

-- an array that calls made, each of which gives h of its number and leaves what the closure holds
module _ {F A : Type 0} (g : Mut F (ℕ × Unit {0}) A) (f : F) (h : ℕ → A) (ys : List A) (d : A)
    (call : (k : ℕ) (p q : F) (y : A) → p ≡ f → Called g p (k, tt) y q → (q ≡ f) × (y ≡ h k)) where
  calls_at : (n i : ℕ) (p : F) → p ≡ f → IsFromFnResultFrom g p ys i n → (k : ℕ) → i ≤ k → k < i + n → get_or ys k d ≡ h k
  calls_at zero i p e r k a b = absurd (omega arith)
  calls_at (suc n) i p e (q, y, at, c, r) k a b = go (ℕ_discrete i k) (λ v. calls_at n (i + 1) q v r k)
    where
      now : (q ≡ f) × (y ≡ h i)
      now = call i p q y e c

      go : Dec (i ≡ k) → (q ≡ f → i + 1 ≤ k → k < i + 1 + n → get_or ys k d ≡ h k) → get_or ys k d ≡ h k
      go (yes w) later = subst (λ (j : ℕ). get_or ys j d ≡ h j) w (at.1 d ∙ now.1)
      go (no w) later = later now.0 (omega arith) (omega arith)

  pub from_fn_tabulates : (n : ℕ) → IsFromFnResult g f ys n → ys ≡ tabulate h n
  from_fn_tabulates n r =
      ext_get_or d ys (tabulate h n) (r.long ∙ sym (length_tabulate h n))
      (λ k l.
      let b : k < n = rw r.long at l in
      calls_at n 0 f refl r.each k (omega arith) (omega arith) ∙ sym (get_d_tabulate h n k d b))

-- functions that agree below the bound
pub tabulate_cong : {A : Type 0} (f g : ℕ → A) (n : ℕ) → ((k : ℕ) → k < n → f k ≡ g k) → tabulate f n ≡ tabulate g n
unfolding tabulate
tabulate_cong f g zero h = refl
tabulate_cong f g (suc n) h = rw (tabulate_cong f g n (λ k l. h k (omega arith)), h n (omega arith)) refl

-- ---- laws: the first numbers written, one after the other

pub written_none : (l c : List ℕ) → Written l 0 c c
written_none l c = record { len = refl; front = λ i h. absurd (omega arith); rest = λ i h. refl }

pub written_more : {l c d : List ℕ} (i v : ℕ) → i < length c → get_or l i 0 ≡ v → Written l i c d → Written l (i + 1) c (set d i v)
written_more {l} {c} {d} i v b e p =
    record {
      len = length-set d i v ∙ p.len;
      front = λ j h. go j h (ℕ_discrete j i);
      rest = λ j h. get_or-set_other d i j v 0 (λ q. omega arith) ∙ p.rest j (omega arith);
    }
  where
    go : (j : ℕ) → j < i + 1 → Dec (j ≡ i) → get_or (set d i v) j 0 ≡ get_or l j 0
    go j h (yes q) = let r = p.len in rw q (get_or-set_same d i v 0 (omega arith) ∙ sym e)
    go j h (no q) = get_or-set_other d i j v 0 q ∙ p.front j (omega arith)

-- all of the list is written
pub written_all : (l c d : List ℕ) (size : ℕ) → size ≡ length l → size ≤ length c → Written l size c d → d ≡ l ++ drop (length l) c
written_all l c d size whole room h = ext_get_or 0 d (l ++ drop (length l) c) (h.len ∙ sym long) (λ k b. at k (dec_lt k (length l)))
  where
    long : length (l ++ drop (length l) c) ≡ length c
    long = length-append l (drop (length l) c) ∙ rw (length-drop (length l) c) (omega arith)

    at : (k : ℕ) → Dec (k < length l) → get_or d k 0 ≡ get_or (l ++ drop (length l) c) k 0
    at k (yes b) = h.front k (omega arith) ∙ sym (get_or-append l (drop (length l) c) 0 k b)
    at k (no b) =
        let p : length l + (k - length l) ≡ k = omega arith in
        h.rest k (omega arith)
        ∙ sym (ap (λ (i : ℕ). get_or (l ++ drop (length l) c) i 0) (sym p) ∙ get_or-append-add l (drop (length l) c) (k - length l) 0
        ∙ get_or-drop (length l) c (k - length l) 0 ∙ ap (λ (i : ℕ). get_or c i 0) p)
