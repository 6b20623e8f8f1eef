-- A search through places in order: at each it ends with an answer or goes on.
use Rattle.std.specs.Prelude.{Bool, true, false, ℕ, zero, suc}

-- what a search does at a place: it ends with an answer, or goes on in a new state
pub data Step (S A : Type 0) : Type 0 where
  ends : A → Step S A
  goes : S → Step S A

-- the search of so many places from n on, in the state s; `last` answers where it has not ended
unfoldable pub search_from : {S A : Type 0} → (ℕ → S → Step S A) → (S → A) → ℕ → ℕ → S → A
search_from step last zero n s = last s
search_from step last (suc more) n s = elim (step n s) [ ends a ↦ a | goes t ↦ search_from step last more (suc n) t ]

-- the same without a state
abbrev pub search_places : {A : Type 0} → (ℕ → Step (Unit {0}) A) → A → ℕ → ℕ → A
search_places step none more n = search_from (λ k _. step k) (λ _. none) more n tt

-- it ends where a test passes
unfoldable pub ends_if : {A : Type 0} → Bool → A → Step (Unit {0}) A
ends_if true a = ends a
ends_if false a = goes tt

-- the answer for the first of so many places from n on that passes the test
abbrev pub first_at : {A : Type 0} → (ℕ → Bool) → (ℕ → A) → A → ℕ → ℕ → A
first_at test answer none more n = search_places (λ k. ends_if (test k) (answer k)) none more n
