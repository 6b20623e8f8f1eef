-- Numbers 9 and 10 over all lines answer for their declarative reading.
-- Assumes nothing.
use Rattle.std.specs.Prelude.{Result, Ok}
use Rattle.sheets.specs.declared.refusals.Fault.{Fault}
use Rattle.sheets.specs.declared.refusals.Fault.TheVariants.{Numbers, NoInstance}
use Rattle.sheets.specs.declared.refusals.Refusal.{Refusal}
use Rattle.sheets.specs.Refusals.{refusal, refused}
use mathlib.Core.Path.{◌≡◌, refl, sym, ◌∙◌, ap, subst₂}
use mathlib.Core.Logic.{◌↔◌}
use mathlib.Core.Bool.{Bool, true, false}
use mathlib.Core.List.{List, [], ◌∷◌, map}
use Prim.Native.Nat.{ℕ, zero, suc, ◌<◌}
use native.Mathlib.Omega.{arith}
use lib.ListN.{take}
use Rattle.terms.specs.Decides.{Decides}
use Rattle.terms.specs.Search.{ends, goes}
use Rattle.terms.proofs.Tests.{refuted, clash}
use Rattle.terms.proofs.SearchLaws.{After, Answers, stops, passes, Tells, search_means}
use Rattle.rules.specs.RuleTable.{premise_count}
use Rattle.rules.specs.Instance.{Instance}
use Rattle.rules.specs.Stated.{stated, used_premises, Follows}
use Rattle.rules.specs.declared.judgments.LineJudgment.{LineJudgment}
use Rattle.sheets.specs.Layout.{contexts_in}
use Rattle.sheets.specs.Lines.{judgment_of, premises_of, cited_by, stated_at, line_at, line_fits, LineFollows, line_follows?, line_step, check_lines}
use Rattle.sheets.specs.GoodLines.{LineOk, GoodLine, LineFault, misfit, no_instance, FirstFaultyLine}
use Rattle.sheets.proofs.LineLaws.{line_says}

take-map : {A B : Type 0} (f : A → B) (k : ℕ) (xs : List A) → take k (map f xs) ≡ map f (take k xs)
take-map f zero xs = refl
take-map f (suc k) [] = refl
take-map f (suc k) (x ∷ xs) = ap (λ ys. f x ∷ ys) (take-map f k xs)

map-map : {A B D : Type 0} (f : A → B) (g : B → D) (xs : List A) → map g (map f xs) ≡ map (λ x. g (f x)) xs
map-map f g [] = refl
map-map f g (x ∷ xs) = ap (λ ys. g (f x) ∷ ys) (map-map f g xs)

module _ (bytes : List ℕ) (T C : ℕ) where
  -- number 10 is what crate rules decides, from the line and the four lines that its premise words name
  pub follows_is : (n : ℕ)
      → Follows bytes (contexts_in bytes T) (line_at bytes T C n).rule (map (λ p. judgment_of (line_at bytes T C p)) (premises_of (line_at bytes T C n))) (judgment_of (line_at bytes T C n))
      ≡ LineFollows bytes T C n
  unfolding Follows used_premises LineFollows cited_by stated_at
  follows_is n =
      let l = line_at bytes T C n in
      let say = stated bytes (contexts_in bytes T) in
      let read : ℕ → LineJudgment = λ p. judgment_of (line_at bytes T C p) in
      ap (λ ps. Instance l.rule ps (say (judgment_of l)))
      (ap (map say) (take-map read (premise_count l.rule) (premises_of l)) ∙ map-map read say (take (premise_count l.rule) (premises_of l)))

  -- the answer for line n is one of its faults
  abbrev pub FaultAt : ℕ → Result (Unit {0}) Refusal → Type 0
  FaultAt n a = (fault : Fault) × (a ≡ refused fault n) × LineFault bytes T C n fault

  fault_free : (n : ℕ) (fault : Fault) → GoodLine bytes T C n → LineFault bytes T C n fault → ⊥
  fault_free n fault g (misfit bad) = bad g.ok
  fault_free n fault g (no_instance ok q) = q g.follows

  one_fault : (n : ℕ) (a b : Fault) → LineFault bytes T C n a → LineFault bytes T C n b → a ≡ b
  one_fault n a b (misfit bad) (misfit _) = refl
  one_fault n a b (misfit bad) (no_instance ok _) = absurd (bad ok)
  one_fault n a b (no_instance ok _) (misfit bad) = absurd (bad ok)
  one_fault n a b (no_instance _ _) (no_instance _ _) = refl

  pub lines_tell : Tells (GoodLine bytes T C) FaultAt (line_step bytes T C)
  unfolding line_step
  lines_tell =
      record {
        tells = λ n. nine n (line_fits (line_at bytes T C n) n T C) (line_says _ n T C);
        apart = λ n a g f. fault_free n f.0 g f.2;
        one = λ n a b f g. f.1 ∙ ap (λ k. refused k n) (one_fault n f.0 g.0 f.2 g.2) ∙ sym g.1;
      }
    where
      ten : (n : ℕ) → LineOk (line_at bytes T C n) n T C → (d : Dec (LineFollows bytes T C n))
          → After {S = Unit {0}} (FaultAt n) (λ _. GoodLine bytes T C n)
          (elim d [ no _ ↦ ends (refused NoInstance n) | yes _ ↦ goes tt ])
      ten n ok (yes p) = record { ok = ok; follows = p }
      ten n ok (no q) = (NoInstance, refl, no_instance ok q)

      nine : (n : ℕ) (b : Bool) → Decides b (LineOk (line_at bytes T C n) n T C)
          → After {S = Unit {0}} (FaultAt n) (λ _. GoodLine bytes T C n)
          (elim b [
            | false ↦ ends (refused Numbers n)
            | true ↦ elim (line_follows? bytes T C n) [ no _ ↦ ends (refused NoInstance n) | yes _ ↦ goes tt ]
          ])
      nine n true d = ten n (d.0 refl) (line_follows? bytes T C n)
      nine n false d = (Numbers, refl, misfit (refuted d refl))

  means : (count : ℕ) (a : Result (Unit {0}) Refusal)
      → (check_lines bytes T C count ≡ a) ↔ Answers (GoodLine bytes T C) FaultAt (Ok tt) 0 count a
  unfolding check_lines
  means count = search_means lines_tell (Ok tt) count 0 count (omega arith)

  -- no fault exactly if every line keeps the layout and follows
  pub lines_faultless : (count : ℕ) → (check_lines bytes T C count ≡ Ok tt) ↔ ((n : ℕ) → n < count → GoodLine bytes T C n)
  lines_faultless count =
      (λ e. from ((means count (Ok tt)).0 e), λ all. (means count (Ok tt)).1 (passes (λ n low high. all n high) refl))
    where
      from : Answers (GoodLine bytes T C) FaultAt (Ok tt) 0 count (Ok tt) → (n : ℕ) → n < count → GoodLine bytes T C n
      from (stops p low high before f) n h = clash (cc f.1)
      from (passes all e) n h = all n (omega arith) h

  -- and otherwise the first line that fails
  pub lines_faulty : (count : ℕ) (fault : Fault) (place : ℕ) → (check_lines bytes T C count ≡ refused fault place) ↔ FirstFaultyLine bytes T C count fault place
  lines_faulty count fault place = (
    λ e. from ((means count (refused fault place)).0 e),
    λ f.
        (means count (refused fault place)).1
        (stops place (omega arith) f.within (λ n low high. f.before n high) (fault, refl, f.wrong)),
  )
    where
      from : Answers (GoodLine bytes T C) FaultAt (Ok tt) 0 count (refused fault place)
          → FirstFaultyLine bytes T C count fault place
      from (stops p low high before f) =
          let same : ◌≡◌ {A = Refusal} (refusal f.0 p) (refusal fault place) = cc f.1 in
          let there : p ≡ place = ap (λ r. r.place) same in
          record {
            within = omega arith;
            before = λ n h. before n (omega arith) (omega arith);
            wrong = subst₂ (LineFault bytes T C) there (ap (λ r. r.fault) same) f.2;
          }
      from (passes all e) = clash cc
