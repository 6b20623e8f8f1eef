-- What `row_answer` and `check_terms` answer, each way out, from what their callees answer.
-- Assumes nothing.
use mathlib.Core.Path.{◌≡◌, refl, sym, ◌∙◌, ap, subst}
use mathlib.Core.List.{List, [], ◌∷◌, ◌++◌}
use Prim.Native.Nat.{ℕ, ◌+◌, ◌≤◌, ◌<◌}
use native.Mathlib.Numerals.{add-one}
use native.Mathlib.Omega.{arith}
use Rattle.std.proofs.lemmas.Grind.{common_steps}
use lib.ListN.{length, take, drop, set, length-set, take-append-drop}
use lib.Seq.{take-suc-set, drop-set-lt, drop-drop, length-take-le}
use Rattle.std.specs.Prelude.{Ok, Err}
use Rattle.terms.specs.Sizes.{size_answer, row_answer, TermsAnswer, faultless, faulty, checked, row_step, check_terms}
use Rattle.terms.specs.Buffers.{over}
use Rattle.terms.specs.declared.sizes.RowFault.{RowFault}
use Rattle.terms.specs.declared.sizes.RowFault.TheVariants.{TooLarge}
use Rattle.terms.proofs.SearchLaws.{Ahead, ahead_start, ahead_end, ahead_ends, ahead_goes}

-- `row_answer`: the limit on sizes
pub over_limit : (size : ℕ) → 65535 < size → size_answer size ≡ Err TooLarge
unfolding size_answer
over_limit size l = grind (arith, common_steps)

pub within_limit : (size : ℕ) → size ≤ 65535 → size_answer size ≡ Ok size
unfolding size_answer
within_limit size l = grind (arith, common_steps)

-- `check_terms`: before row k the first k words of the buffer are the sizes so far, the rest is as it was,
-- and the check of the rows ahead answers for the whole
module _ (bytes : List ℕ) (count : ℕ) (before : List ℕ) where
  pub record Checking (work : List ℕ) (k : ℕ) : Type 0 where
    pub ahead : Ahead (row_step bytes) (checked faultless) count (check_terms bytes count) k (take k work)
    pub long : length work ≡ length before
    pub rest : drop k work ≡ drop k before

  pub checking_start : Checking before 0
  unfolding check_terms
  checking_start = record { ahead = ahead_start count (omega arith) refl; long = refl; rest = refl }

  module _ (room : count ≤ length before) (work : List ℕ) (k : ℕ) (at : Checking work k) where
    written : work ≡ over (take k work) before
    written = sym (ap (λ m. take k work ++ drop m before) (length-take-le k work (omega (arith, at.ahead.within, at.long))) ∙ ap (λ l. take k work ++ l) (sym at.rest) ∙ take-append-drop k work)

    ended : (a : TermsAnswer) → checked a (take k work) ≡ check_terms bytes count
        → (a ≡ (check_terms bytes count).answer) × (work ≡ over (check_terms bytes count).sizes before)
    ended a e = (ap (λ r. r.answer) e, written ∙ ap (λ r. over r.sizes before) e)

    pub checking_end : count ≤ k → (faultless ≡ (check_terms bytes count).answer) × (work ≡ over (check_terms bytes count).sizes before)
    checking_end h = ended faultless (ahead_end at.ahead h)

    module _ (h : k < count) where
      pub checking_fault : (fault : RowFault) → Err fault ≡ row_answer bytes k (take k work) → (faulty fault k ≡ (check_terms bytes count).answer) × (work ≡ over (check_terms bytes count).sizes before)
      unfolding row_step
      checking_fault fault e = ended (faulty fault k) (ahead_ends at.ahead h (rw (← e, row_step)))

      pub checking_next : (size : ℕ) → Ok size ≡ row_answer bytes k (take k work) → Checking (set work k size) (k + 1)
      unfolding row_step
      checking_next size e =
          record {
            ahead =
                subst (Ahead (row_step bytes) (checked faultless) count (check_terms bytes count) (k + 1)) (sym taken)
                (ahead_goes at.ahead h (rw (← e, row_step)));
            long = length-set work k size ∙ at.long;
            rest = drop-set-lt (k + 1) work k size (omega arith) ∙ sym (drop-drop 1 k work) ∙ ap (drop 1) at.rest ∙ drop-drop 1 k before;
          }
        where
          taken : take (k + 1) (set work k size) ≡ take k work ++ size ∷ []
          taken = ap (λ m. take m (set work k size)) (add-one k) ∙ take-suc-set work k size (omega (arith, at.long))
