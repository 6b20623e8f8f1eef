-- The terms and the contexts of a list of judgments, each once, with what the tables ask of them.
-- Assumes nothing.
use mathlib.Core.Path.{refl, ap}
use mathlib.Core.Logic.{⊎_elim}
use mathlib.Core.List.Memᴰ
use mathlib.Core.List.Memᴰ.{head as here}
use mathlib.Core.List.Memᴰ.{tail as there}
use mathlib.Core.List.{List, [], ◌∷◌, ◌++◌, flat_map}
use Prim.Native.Nat.{◌≤◌}
use lib.ListN.{length, get_or}
use Rattle.terms.specs.Term.{Term, zer, size}
use Rattle.terms.specs.FreeIndices.{InRange}
use Rattle.terms.specs.Tag.{children}
use Rattle.rules.specs.Judgment.{Context, Judgment, context_of, term?, list?}
use Rattle.rules.specs.Subjects.{subjects}
use Rattle.derivations.specs.Lists.{◌∈◌, distinct}
use Rattle.derivations.specs.Fits.{subterms, terms_of, beginnings, contexts_of, Fits}
use Rattle.derivations.proofs.ListLaws.{in_flat, of_flat}
use Rattle.derivations.proofs.DistinctLaws.{Once, of_distinct, in_distinct, distinct_once}
use Rattle.derivations.proofs.Numbering.{Closed, closed_distinct}
use Rattle.derivations.proofs.Subterms.{self_in, closed_flat, closed_subterms}
use Rattle.derivations.proofs.ContextTableOf.{parents, closed_beginnings, NonEmpty, Listed}
use Rattle.derivations.proofs.LinesOf.{SubjectsIn}

-- D lists the terms and E the contexts
pub record Listing (js : List Judgment) (D : List Term) (E : List Context) : Type 0 where
  pub once_terms : Once D
  pub closed_terms : Closed children D
  pub ranges : (t : Term) → t ∈ D → InRange t
  pub sizes : (t : Term) → t ∈ D → size t ≤ 65535
  pub few_terms : length D ≤ 3072
  pub once_contexts : Once E
  pub closed_contexts : Closed parents E
  pub non_empty : (G : Context) → G ∈ E → NonEmpty G
  pub types : (G : Context) → G ∈ E → get_or G 0 zer ∈ D
  pub few_contexts : length E ≤ 256
  pub subjects_in : (j : Judgment) → j ∈ js → SubjectsIn D j
  pub context_in : (j : Judgment) → j ∈ js → Listed E (context_of j)

-- a beginning has a last entry, which is one of the context's
begins : (H G : Context) → G ∈ beginnings H → NonEmpty G × (get_or G 0 zer ∈ H)
unfolding beginnings
begins [] G m = absurd (Memᴰ.not-nil m)
begins (A ∷ H) G m =
    ⊎_elim (λ e. (record { last = A; rest = H; joined = e }, here (ap (λ K. get_or K 0 zer) e)))
    (λ k. let b = begins H G k in (b.0, there b.1))
    (Memᴰ.cases_cons m)

listed_beginning : (E : List Context) (G : Context) → ((H : Context) → H ∈ beginnings G → H ∈ E) → Listed E G
unfolding beginnings
listed_beginning E [] h = tt
listed_beginning E (A ∷ G) h = h (A ∷ G) (here refl)

module _ (js : List Judgment) where
  in_terms_lem : (j : Judgment) → j ∈ js → (t : Term) → t ∈ (subjects j ++ context_of j) → t ∈ terms_of js
  unfolding terms_of
  in_terms_lem j m t k = in_flat (λ i. flat_map subterms (subjects i ++ context_of i)) js m (in_flat subterms (subjects j ++ context_of j) k (self_in t))

  closed_terms_lem : Closed children (terms_of js)
  unfolding terms_of
  closed_terms_lem = closed_flat children (λ j. flat_map subterms (subjects j ++ context_of j)) js (λ j m. closed_flat children subterms (subjects j ++ context_of j) (λ t k. closed_subterms t))

  in_contexts_lem : (j : Judgment) → j ∈ js → (G : Context) → G ∈ beginnings (context_of j) → G ∈ contexts_of js
  unfolding contexts_of
  in_contexts_lem j m G k = in_flat (λ i. beginnings (context_of i)) js m k

  of_contexts : (G : Context) → G ∈ contexts_of js → (j : Judgment) × (j ∈ js) × (G ∈ beginnings (context_of j))
  unfolding contexts_of
  of_contexts G m = of_flat (λ j. beginnings (context_of j)) js m

  closed_contexts_lem : Closed parents (contexts_of js)
  unfolding contexts_of
  closed_contexts_lem = closed_flat parents (λ j. beginnings (context_of j)) js (λ j m. closed_beginnings (context_of j))

  abbrev pub term_list : List Term
  term_list = distinct term? (terms_of js)

  abbrev pub context_list : List Context
  context_list = distinct (list? term?) (contexts_of js)

  pub listing : Fits js → Listing js term_list context_list
  listing f =
      record {
        once_terms = distinct_once term? (terms_of js);
        closed_terms = closed_distinct children term? (terms_of js) closed_terms_lem;
        ranges = λ t m. f.ranges t (of_distinct term? (terms_of js) t m);
        sizes = λ t m. f.sizes t (of_distinct term? (terms_of js) t m);
        few_terms = f.terms;
        once_contexts = distinct_once (list? term?) (contexts_of js);
        closed_contexts = closed_distinct parents (list? term?) (contexts_of js) closed_contexts_lem;
        non_empty = λ G m. let o = of_contexts G (of_distinct (list? term?) (contexts_of js) G m) in (begins (context_of o.0) G o.2).0;
        types = λ G m.
            let o = of_contexts G (of_distinct (list? term?) (contexts_of js) G m) in
            in_distinct term? (terms_of js) (get_or G 0 zer) (in_terms_lem o.0 o.1 (get_or G 0 zer) (Memᴰ.append_right (subjects o.0) (begins (context_of o.0) G o.2).1));
        few_contexts = f.contexts;
        subjects_in = λ j m t k. in_distinct term? (terms_of js) t (in_terms_lem j m t (Memᴰ.append_left (context_of j) k));
        context_in = λ j m. listed_beginning context_list (context_of j) (λ G k. in_distinct (list? term?) (contexts_of js) G (in_contexts_lem j m G k));
      }
