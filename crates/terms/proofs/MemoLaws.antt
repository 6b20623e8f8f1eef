-- The memory of comparisons that held, for any F: it starts with none, a hit is a fact, and a store of a fact keeps it.
-- Assumes nothing.
use mathlib.Core.Path.{◌≡◌, refl, sym, ◌∙◌, ap}
use mathlib.Core.Logic.{◌⊎◌, inl, inr, ⊎_elim}
use mathlib.Core.List.{List, [], ◌∷◌}
use Prim.Native.Nat.{ℕ, zero, suc, ◌+◌, ◌*◌, ◌≤◌, ◌<◌}
use native.Mathlib.Omega.{arith}
use lib.ListN.{get_or, set, replicate}
use Rattle.terms.specs.Term.{Term}
use Rattle.terms.specs.Rows.{term}
use Rattle.terms.specs.Table.{RowsInTable}
use Rattle.terms.specs.declared.memo.Memo.{Memo}
use Rattle.terms.specs.Memo.{code, Remembers, MemoHolds}

-- the last digit to the base 4096, and the number before it
digits : (a b x y : ℕ) → x < 4096 → y < 4096 → a * 4096 + x ≡ b * 4096 + y → (a ≡ b) × (x ≡ y)
digits a b x y p q e = (omega arith, omega arith)

same_code : (k t u l v w : ℕ) → t < 4096 → u < 4096 → v < 4096 → w < 4096 → code k t u ≡ code l v w → (k ≡ l) × (t ≡ v) × (u ≡ w)
same_code k t u l v w p q r s e =
    let low = digits (k * 4096 + t) (l * 4096 + v) u w q s (omega arith) in
    let high = digits k l t v p r low.0 in
    (high.0, high.1, low.1)

pub all_default : {A : Type 0} (d : A) (n i : ℕ) → get_or (replicate n d) i d ≡ d
all_default d zero i = refl
all_default d (suc n) zero = refl
all_default d (suc n) (suc i) = all_default d n i

-- after a store each word is the old one or the one stored
set_either : (old : List ℕ) (i j x : ℕ) → (get_or (set old i x) j 0 ≡ get_or old j 0) ⊎ (get_or (set old i x) j 0 ≡ x)
set_either [] i j x = inl refl
set_either (y ∷ old) zero zero x = inr refl
set_either (y ∷ old) zero (suc j) x = inl refl
set_either (y ∷ old) (suc i) zero x = inl refl
set_either (y ∷ old) (suc i) (suc j) x = set_either old i j x

-- what a walk compares has a number that fits
pub code_bounds : {bytes rest : List ℕ} {t u : ℕ} → RowsInTable bytes (t ∷ u ∷ rest) → {k : ℕ} → k + 2 * t ≤ 65536 → (k ≤ 65536) × (t < 4096) × (u < 4096)
code_bounds g h = (omega arith, omega (arith, g.few, g.below.0), omega (arith, g.few, g.below.1.0))

module _ {bytes : List ℕ} {F : ℕ → Term → Term} where
  pub memo_none : {memo : Memo} → memo.words ≡ replicate 64 0 → MemoHolds bytes F memo
  memo_none e =
      record { fact = λ k t u p q s. absurd (omega (arith, s.1, ap (λ l. get_or l s.0 0) e ∙ all_default 0 64 s.0)) }

  -- a comparison that holds is stored
  pub memo_more : {rest : List ℕ} {k t u : ℕ} → RowsInTable bytes (t ∷ u ∷ rest) → k + 2 * t ≤ 65536
      → {old new : Memo} → MemoHolds bytes F old
      → term bytes u ≡ F k (term bytes t) → Remembers old new k t u → MemoHolds bytes F new
  memo_more {k = k} {t = t} {u = u} g fits {old} {new} h d s =
      record {
        fact =
            λ l v w p q f.
            let read = ap (λ m. get_or m f.0 0) (sym s.1) ∙ f.1 in
            ⊎_elim (λ o. h.fact l v w p q (f.0, sym o ∙ read)) (λ o. stored l v w p q (sym o ∙ read))
            (set_either old.words s.0 f.0 (code k t u));
      }
    where
      stored : (l v w : ℕ) → v < 4096 → w < 4096 → code k t u ≡ code l v w → term bytes w ≡ F l (term bytes v)
      stored l v w p q f =
          let low = code_bounds g fits in
          let same = same_code k t u l v w low.1 low.2 p q f in
          (λ i. term bytes (sym same.2 i)) ∙ d ∙ (λ i. F (same.0 i) (term bytes (same.1 i)))
