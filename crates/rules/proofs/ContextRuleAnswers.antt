-- What the own checks of rules 1 to 3 answer, each way out: the rules that read the context table.
-- Assumes nothing.
use mathlib.Core.Path.{◌≡◌, refl, sym, ◌∙◌, ap, subst}
use mathlib.Core.Logic.{◌↔◌}
use mathlib.Core.Bool.{Bool, true, false, ◌&&◌}
use mathlib.Core.List.{List, [], ◌∷◌, cons≢nil}
use Prim.Native.Nat.{ℕ, ◌+◌, ◌≤◌, ◌<◌}
use native.Mathlib.Numerals.{add-one}
use native.Mathlib.Omega.{arith}
use lib.ListN.{drop}
use Rattle.terms.specs.Term.{Term, var}
use Rattle.terms.specs.Tag.{number_in}
use Rattle.terms.specs.Substitution.{shift}
use Rattle.terms.specs.Decides.{Decides}
use Rattle.terms.specs.Rows.{term}
use Rattle.terms.proofs.Tests.{says_no, refuted, decides_via, ◌&◌}
use Rattle.rules.specs.Judgment.{Context, wf, typed}
use Rattle.rules.specs.Instance.{Entry, Instance}
use Rattle.rules.specs.Conditions.{IsUniverse, Declares}
use Rattle.rules.specs.Contexts.{type_of, context, InTables, entry_of}
use Rattle.std.specs.Prelude.{Option, Some, None}
use Rattle.rules.proofs.ContextLaws.{rule_1, rule_2}
use Rattle.rules.proofs.TypingLaws.{rule_3}
use Rattle.rules.proofs.ContextTableLaws.{context_empty, context_step}
use Rattle.rules.proofs.ContextTableEntries.{entry_at, entry_found, entry_missing}

-- WF-CONS, where A is the last entry
cons_agrees : {A q₁ q₃ : Term} {H : Context} → ((A ≡ q₁) × IsUniverse q₃) ↔ Instance 2 (wf H ∷ typed H q₁ q₃ ∷ []) (wf (A ∷ H))
cons_agrees {H = H} = (λ h. rule_2.1 (ap (λ B. B ∷ H) h.0, refl, h.1), λ i. let t = rule_2.0 i in (cc, t.2))

-- WT-VAR, where x is the number of c₁
declares_variable : {G : Context} {c₁ c₃ : Term} (x : ℕ) → x ≡ number_in c₁ → Declares G c₁ c₃ → c₁ ≡ var x
unfolding number_in
declares_variable x e d = d.3 ∙ ap var (sym (e ∙ ap number_in d.3))

declares_entry : {G : Context} {c₁ c₃ : Term} (x : ℕ) → x ≡ number_in c₁ → (d : Declares G c₁ c₃) → Entry G x d.1 × (c₃ ≡ shift 0 (x + 1) d.1)
unfolding number_in
declares_entry {G} x e d =
    let f : d.0 ≡ x = sym (e ∙ ap number_in d.3) in
    (subst (λ y. Entry G y d.1) f d.2, d.4 ∙ ap (λ y. shift 0 y d.1) (sym (add-one d.0) ∙ ap (λ y. y + 1) f))

module _ (terms contexts : List ℕ) where
  pub nil_says : (n : ℕ) (r : Bool) → Decides r (context terms contexts n ≡ context terms contexts 0) → Decides r (Instance 1 [] (wf (context terms contexts n)))
  nil_says n r d = decides_via (λ e. rule_1.1 (e ∙ context_empty terms contexts), λ i. rule_1.0 i ∙ sym (context_empty terms contexts)) d

  -- the instance of WF-CONS in a context
  abbrev Conses : Context → Term → Term → Type 0
  Conses G q₁ q₃ = Instance 2 (wf (drop 1 G) ∷ typed (drop 1 G) q₁ q₃ ∷ []) (wf G)

  pub cons_none : (n : ℕ) {q₁ q₃ : Term} → n ≡ 0 → Decides false (Conses (context terms contexts n) q₁ q₃)
  cons_none n {q₁} {q₃} e = subst (λ G. Decides false (Conses G q₁ q₃)) (sym (ap (context terms contexts) e ∙ context_empty terms contexts)) (says_no (λ i. cons≢nil (sym (rule_2.0 i).0)))

  module _ {ns ts : List ℕ} (g : InTables terms contexts ns ts) (n : ℕ) (within : n ≤ g.given.count) where
    pub cons_says : {q₁ q₃ : Term} (t : ℕ) (a b : Bool) → (n ≡ 0 → ⊥) → t ≡ type_of contexts n → Decides a (term terms t ≡ q₁) → Decides b (IsUniverse q₃) → Decides (a && b) (Conses (context terms contexts n) q₁ q₃)
    cons_says {q₁} {q₃} t a b some e da db =
        subst (λ G. Decides (a && b) (Conses G q₁ q₃)) (sym (context_step terms contexts g.given.count (λ m low high. (g.given.table.rows m low high).earlier) n (omega arith) within))
        (decides_via cons_agrees (subst (λ s. Decides a (term terms s ≡ q₁)) e da & db))

    -- the row of the last entry's type stands in the table
    pub entry_row : (t : ℕ) → (n ≡ 0 → ⊥) → t ≡ type_of contexts n → t < g.given.term_count
    entry_row t some e = omega (arith, (g.given.table.rows n (omega arith) within).known)

    pub found_row : (x row : ℕ) (o : Option ℕ) → o ≡ entry_of contexts n x → o ≡ Some row → row < g.given.term_count
    found_row x row o f h = (entry_at terms contexts g.given.term_count g.given.count g.given.table x n row within (sym f ∙ h)).0

    module _ {c₁ c₃ : Term} (x : ℕ) (e : x ≡ number_in c₁) where
      pub var_no : (r : Bool) → Decides r (c₁ ≡ var x) → r ≡ false → Decides false (Instance 3 (wf (context terms contexts n) ∷ []) (typed (context terms contexts n) c₁ c₃))
      var_no r d f = says_no (λ i. refuted d f (declares_variable x e (rule_3.0 i).1))

      pub var_missing : (o : Option ℕ) → o ≡ entry_of contexts n x → o ≡ None → Decides false (Instance 3 (wf (context terms contexts n) ∷ []) (typed (context terms contexts n) c₁ c₃))
      var_missing o f h = says_no (λ i. let d = (rule_3.0 i).1 in entry_missing terms contexts g.given.term_count g.given.count g.given.table x n within (sym f ∙ h) d.1 (declares_entry x e d).0)

      module _ (o : Option ℕ) (row : ℕ) (f : o ≡ entry_of contexts n x) (h : o ≡ Some row) where
        pub var_found : (r : Bool) → Decides r (c₁ ≡ var x) → r ≡ true → (s : Bool) → Decides s (c₃ ≡ shift 0 (x + 1) (term terms row)) → Decides s (Instance 3 (wf (context terms contexts n) ∷ []) (typed (context terms contexts n) c₁ c₃))
        var_found r d k s m = decides_via (there, back) m
          where
            only : (A : Term) → Entry (context terms contexts n) x A ↔ (A ≡ term terms row)
            only = entry_found terms contexts g.given.term_count g.given.count g.given.table x n row within (sym f ∙ h)

            there : c₃ ≡ shift 0 (x + 1) (term terms row) → Instance 3 (wf (context terms contexts n) ∷ []) (typed (context terms contexts n) c₁ c₃)
            there q = rule_3.1 (refl, (x, term terms row, (only (term terms row)).1 refl, d.0 k, q ∙ ap (λ y. shift 0 y (term terms row)) (add-one x)))

            back : Instance 3 (wf (context terms contexts n) ∷ []) (typed (context terms contexts n) c₁ c₃) → c₃ ≡ shift 0 (x + 1) (term terms row)
            back i =
                let t = declares_entry x e (rule_3.0 i).1 in
                t.1 ∙ ap (shift 0 (x + 1)) ((only _).0 t.0)
