-- A search through places in order: what is kept along it, what its loop keeps, and what its answer means.
-- Assumes nothing.
use mathlib.Core.Path.{◌≡◌, refl, sym, ◌∙◌, ap, subst}
use mathlib.Core.Logic.{◌↔◌}
use mathlib.Core.Bool.{Bool, true, false}
use Prim.Native.Nat.{ℕ, zero, suc, ◌+◌, ◌-◌, ◌≤◌, ◌<◌}
use native.Mathlib.Numerals.{add-one}
use native.Mathlib.Omega.{arith}
use Rattle.terms.specs.Decides.{Decides}
use Rattle.terms.specs.Search.{Step, ends, goes, search_from, search_places, ends_if, first_at}
use Rattle.terms.proofs.Tests.{refuted}
use Rattle.terms.proofs.Shape.{below_or_last}

-- P holds from m on, before n
abbrev pub Between : (ℕ → Type 0) → ℕ → ℕ → Type 0
Between P m n = (k : ℕ) → m ≤ k → k < n → P k

pub between_none : (P : ℕ → Type 0) (n : ℕ) → Between P n n
between_none P n k low high = absurd (omega arith)

pub between_next : (P : ℕ → Type 0) (m n : ℕ) → Between P m n → P n → Between P m (suc n)
between_next P m n all p k low high = below_or_last P n k high (all k low) p

module _ {S A : Type 0} where
  -- Q holds of the answer that a step ends with, I of the state that it goes on in
  abbrev pub After : (A → Type 0) → (S → Type 0) → Step S A → Type 0
  After Q I (ends a) = Q a
  After Q I (goes t) = I t

  module _ (step : ℕ → S → Step S A) (last : S → A) where
    -- an invariant of places and states leads to what holds of the answer
    module _ (end : ℕ) (Inv : ℕ → S → Type 0) (Q : A → Type 0)
        (keeps : (n : ℕ) (s : S) → n < end → Inv n s → After Q (Inv (suc n)) (step n s))
        (ended : (s : S) → Inv end s → Q (last s)) where
      pub search_keeps : (more n : ℕ) (s : S) → n + more ≡ end → Inv n s → Q (search_from step last more n s)
      unfolding search_from
      search_keeps zero n s e i = let here : n ≡ end = omega arith in ended s (subst (λ m. Inv m s) here i)
      search_keeps (suc more) n s e i =
          on (λ t j. search_keeps more (suc n) t (omega arith) j) (step n s) (keeps n s (omega arith) i)
        where
          on : ((t : S) → Inv (suc n) t → Q (search_from step last more (suc n) t))
              → (x : Step S A) → After Q (Inv (suc n)) x
              → Q (elim x [ ends a ↦ a | goes t ↦ search_from step last more (suc n) t ])
          on rest (ends a) q = q
          on rest (goes t) j = rest t j

    -- a loop's invariant: the search of the places ahead answers for the whole
    pub record Ahead (end : ℕ) (whole : A) (n : ℕ) (s : S) : Type 0 where
      pub within : n ≤ end
      pub future : search_from step last (end - n) n s ≡ whole

  module _ {step : ℕ → S → Step S A} {last : S → A} {end : ℕ} {whole : A} {n : ℕ} {s : S} where
    pub ahead_start : (more : ℕ) → n + more ≡ end → search_from step last more n s ≡ whole
        → Ahead step last end whole n s
    ahead_start more e f = record { within = omega arith; future = ap (λ m. search_from step last m n s) all ∙ f }
      where
        all : end - n ≡ more
        all = omega arith

    module _ (at : Ahead step last end whole n s) where
      pub ahead_end : end ≤ n → last s ≡ whole
      unfolding search_from
      ahead_end h = ap (λ m. search_from step last m n s) none ∙ at.future
        where
          none : 0 ≡ end - n
          none = omega arith

      module _ (h : n < end) where
        more : end - n ≡ suc (end - (n + 1))
        more = omega arith

        pub ahead_ends : {a : A} → step n s ≡ ends a → a ≡ whole
        unfolding search_from
        ahead_ends e = sym (rw (more, e, search_from)) ∙ at.future

        pub ahead_goes : {t : S} → step n s ≡ goes t → Ahead step last end whole (n + 1) t
        unfolding search_from
        ahead_goes e =
            record { within = omega arith; future = sym (rw (more, e, ← (add-one n), search_from)) ∙ at.future }

-- the loop of a search for the first place that passes a test
module _ {A : Type 0} where
  pub record Looking (test : ℕ → Bool) (answer : ℕ → A) (none : A) (end : ℕ) (whole : A) (n : ℕ) : Type 0 where
    pub ahead : Ahead (λ k _. ends_if (test k) (answer k)) (λ _. none) end whole n tt

  module _ {test : ℕ → Bool} {answer : ℕ → A} {none : A} {end : ℕ} {whole : A} {n : ℕ} where
    pub looking_start : (more : ℕ) → n + more ≡ end → first_at test answer none more n ≡ whole
        → Looking test answer none end whole n
    looking_start more e f = record { ahead = ahead_start more e f }

    module _ (at : Looking test answer none end whole n) where
      pub looking_end : end ≤ n → none ≡ whole
      looking_end h = ahead_end at.ahead h

      pub looking_here : n < end → test n ≡ true → answer n ≡ whole
      unfolding ends_if
      looking_here h e = ahead_ends at.ahead h (rw (e, ends_if))

      pub looking_next : n < end → test n ≡ false → Looking test answer none end whole (n + 1)
      unfolding ends_if
      looking_next h e = record { ahead = ahead_goes at.ahead h (rw (e, ends_if)) }

-- what the answer means, where a place is good, or bad with an answer of its own
module _ {A : Type 0} (Good : ℕ → Type 0) (Bad : ℕ → A → Type 0) where
  -- the answer of the first bad place from the start on, or that for none
  pub data Answers (none : A) (start end : ℕ) (a : A) : Type 0 where
    stops : (p : ℕ) → start ≤ p → p < end → Between Good start p → Bad p a → Answers none start end a
    passes : Between Good start end → a ≡ none → Answers none start end a

  module _ (apart : (n : ℕ) (a : A) → Good n → Bad n a → ⊥)
      (one : (n : ℕ) (a b : A) → Bad n a → Bad n b → a ≡ b) where
    pub one_answer : (none : A) (start end : ℕ) (a b : A) → Answers none start end a → Answers none start end b → a ≡ b
    one_answer none start end a b (stops p l h before bad) (stops q m k earlier wrong) =
        one q a b (subst (λ r. Bad r a) same bad) wrong
      where
        same : p ≡ q
        same =
            let not_less : p < q → ⊥ = λ c. apart p a (earlier p l c) bad in
            let not_more : q < p → ⊥ = λ c. apart q b (before q m c) wrong in
            omega arith
    one_answer none start end a b (stops p l h before bad) (passes all e) = absurd (apart p a (all p l h) bad)
    one_answer none start end a b (passes all e) (stops q m k earlier wrong) = absurd (apart q b (all q m k) wrong)
    one_answer none start end a b (passes all e) (passes every f) = e ∙ sym f

  -- the steps of a search without a state tell good places from bad ones
  pub record Tells (step : ℕ → Step (Unit {0}) A) : Type 0 where
    pub tells : (n : ℕ) → After (Bad n) (λ _. Good n) (step n)
    pub apart : (n : ℕ) (a : A) → Good n → Bad n a → ⊥
    pub one : (n : ℕ) (a b : A) → Bad n a → Bad n b → a ≡ b

module _ {A : Type 0} {Good : ℕ → Type 0} {Bad : ℕ → A → Type 0} {step : ℕ → Step (Unit {0}) A}
    (t : Tells Good Bad step) where
  pub good_goes : (n : ℕ) → Good n → step n ≡ goes tt
  good_goes n g = on (step n) (t.tells n)
    where
      on : (x : Step (Unit {0}) A) → After (Bad n) (λ _. Good n) x → x ≡ goes tt
      on (ends a) bad = absurd (t.apart n a g bad)
      on (goes _) good = refl

  pub bad_ends : (n : ℕ) (a : A) → Bad n a → step n ≡ ends a
  bad_ends n a b = on (step n) (t.tells n)
    where
      on : (x : Step (Unit {0}) A) → After (Bad n) (λ _. Good n) x → x ≡ ends a
      on (ends c) bad = ap ends (t.one n c a bad b)
      on (goes _) good = absurd (t.apart n a good b)

  module _ (none : A) (more start end : ℕ) (whole : start + more ≡ end) where
    answered : Answers Good Bad none start end (search_places step none more start)
    answered =
        search_keeps (λ k _. step k) (λ _. none) end (λ n _. (start ≤ n) × Between Good start n)
        (Answers Good Bad none start end) (λ n _ h i. on n h i (step n) (t.tells n)) (λ _ i. passes i.1 refl)
        more start tt whole (omega arith, between_none Good start)
      where
        on : (n : ℕ) → n < end → (start ≤ n) × Between Good start n
            → (x : Step (Unit {0}) A) → After (Bad n) (λ _. Good n) x
            → After (Answers Good Bad none start end) (λ _. (start ≤ suc n) × Between Good start (suc n)) x
        on n h i (ends a) bad = stops n i.0 h i.1 bad
        on n h i (goes _) good = (omega (arith, i.0), between_next Good start n i.1 good)

    pub search_means : (a : A) → (search_places step none more start ≡ a) ↔ Answers Good Bad none start end a
    search_means a = (
      λ e. subst (Answers Good Bad none start end) e answered,
      one_answer Good Bad t.apart t.one none start end (search_places step none more start) a answered,
    )

-- the first place of which P holds, where a test answers for P
module _ {A : Type 0} (P : ℕ → Type 0) (answer : ℕ → A) where
  abbrev pub FirstOf : A → ℕ → ℕ → A → Type 0
  FirstOf = Answers (λ n. P n → ⊥) (λ n a. P n × (a ≡ answer n))

  pub first_tells : {test : ℕ → Bool} → ((n : ℕ) → Decides (test n) (P n))
      → Tells (λ n. P n → ⊥) (λ n a. P n × (a ≡ answer n)) (λ n. ends_if (test n) (answer n))
  unfolding ends_if
  first_tells {test} says =
      record {
        tells = λ n. on n (test n) (says n);
        apart = λ n a f x. f x.0;
        one = λ n a b x y. x.1 ∙ sym y.1;
      }
    where
      on : (n : ℕ) (b : Bool) → Decides b (P n) → After (λ a. P n × (a ≡ answer n)) (λ _. P n → ⊥) (ends_if b (answer n))
      on n true d = (d.0 refl, refl)
      on n false d = refuted d refl

-- two tests that answer alike at every place of the range have one first place
module _ {A : Type 0} (s t : ℕ → Bool) (answer : ℕ → A) (none : A) where
  pub first_same : (more n : ℕ) → Between (λ k. s k ≡ t k) n (n + more)
      → first_at s answer none more n ≡ first_at t answer none more n
  unfolding search_from
  first_same zero n same = refl
  first_same (suc more) n same =
      let rest = first_same more (suc n) (λ k low high. same k (omega arith) (omega arith)) in
      let here = same n (omega arith) (omega arith) in
      λ i. elim (ends_if (here i) (answer n)) [ ends a ↦ a | goes _ ↦ rest i ]

-- the first of the places before `end` of which P holds is answered by its number, and none by `end`
module _ (P : ℕ → Type 0) {test : ℕ → Bool} (says : (n : ℕ) → Decides (test n) (P n)) (end : ℕ) where
  abbrev first : ℕ
  first = first_at test (λ k. k) end end 0

  first_means : (p : ℕ) → (first ≡ p) ↔ FirstOf P (λ k. k) end 0 end p
  first_means = search_means (first_tells P (λ k. k) says) end end 0 end (omega arith)

  pub first_most : first ≤ end
  first_most = from ((first_means first).0 refl)
    where
      from : FirstOf P (λ k. k) end 0 end first → first ≤ end
      from (stops p low high before x) = omega (arith, x.1)
      from (passes all e) = omega (arith, e)

  -- it is below `end` exactly if there is such a place, and that one it is
  pub first_holds : first < end → P first × ((k : ℕ) → k < first → P k → ⊥)
  first_holds l = from ((first_means first).0 refl)
    where
      from : FirstOf P (λ k. k) end 0 end first → P first × ((k : ℕ) → k < first → P k → ⊥)
      from (stops p low high before x) =
          subst (λ q. P q × ((k : ℕ) → k < q → P k → ⊥)) (sym x.1) (x.0, λ k h. before k (omega arith) h)
      from (passes all e) = absurd (omega arith)

  pub first_found : (k : ℕ) → k < end → P k → first < end
  first_found k h p = from ((first_means first).0 refl)
    where
      from : FirstOf P (λ k. k) end 0 end first → first < end
      from (stops q low high before x) = omega (arith, x.1)
      from (passes all e) = absurd (all k (omega arith) h p)

  pub first_at_lem : (k : ℕ) → k < end → P k → ((m : ℕ) → m < k → P m → ⊥) → first ≡ k
  first_at_lem k h p lowest = (first_means k).1 (stops k (omega arith) h (λ m _ l. lowest m l) (p, refl))

  pub first_none : ((k : ℕ) → k < end → P k → ⊥) → first ≡ end
  first_none none = (first_means end).1 (passes (λ k _ h. none k h) refl)
