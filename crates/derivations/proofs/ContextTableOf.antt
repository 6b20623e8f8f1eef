-- A well-formed context table for a list of non-empty contexts in which each stands once and its beginnings behind it:
-- row n + 1 is the context numbered n, and 0 is the empty one.
-- Assumes nothing.
use mathlib.Core.Path.{◌≡◌, refl, sym, ◌∙◌, ap, ap₂}
use mathlib.Core.List.Memᴰ
use mathlib.Core.List.Memᴰ.{head as here}
use mathlib.Core.List.{List, [], ◌∷◌, nil≢cons}
use Prim.Native.Nat.{ℕ, zero, suc, ◌*◌, ◌≤◌, ◌<◌}
use native.Mathlib.Omega.{arith}
use lib.ListN.{length, get_or, drop}
use Rattle.terms.specs.Term.{Term, zer}
use Rattle.terms.specs.Rows.{term}
use Rattle.rules.specs.Judgment.{Context, term?, list?}
use Rattle.rules.specs.Contexts.{parent_of, type_of, context, GoodContext, SameContextRow, ContextTable}
use Rattle.rules.proofs.ContextTableLaws.{Earlier, context_empty, context_step}
use Rattle.derivations.specs.Lists.{◌∈◌}
use Rattle.derivations.specs.Fits.{beginnings}
use Rattle.derivations.proofs.DistinctLaws.{Once}
use Rattle.derivations.proofs.Numbering.{number, numbered, numbered_in, number_below, numbered_number, numbered_once, Closed, part_in, part_lower}

-- a context without its last entry, if that has an entry
abbrev pub parents : Context → List Context
parents [] = []
parents (A ∷ []) = []
parents (A ∷ B ∷ G) = (B ∷ G) ∷ []

pub closed_beginnings : (G : Context) → Closed parents (beginnings G)
unfolding beginnings
closed_beginnings [] = tt
closed_beginnings (A ∷ []) = ((λ H m. absurd (Memᴰ.not-nil m)), tt)
closed_beginnings (A ∷ B ∷ G) = ((λ H m. here (Memᴰ.eq_of_singleton m)), closed_beginnings (B ∷ G))

-- the context has a last entry
pub record NonEmpty (G : Context) : Type 0 where
  pub last : Term
  pub rest : Context
  pub joined : G ≡ last ∷ rest

-- a context's number: 0 for the empty one
pub context_number : List Context → Context → ℕ
context_number E [] = 0
context_number E (A ∷ G) = suc (number (list? term?) E (A ∷ G))

-- the empty context has number 0
pub number_empty : (E : List Context) → context_number E [] ≡ 0
unfolding context_number
number_empty E = refl

-- the context with that number
pub context_numbered : List Context → ℕ → Context
context_numbered E zero = []
context_numbered E (suc k) = numbered [] E k

-- empty, or in the list
abbrev pub Listed : List Context → Context → Type 0
Listed E [] = Unit {0}
Listed E (A ∷ G) = (A ∷ G) ∈ E

pub context_number_most : (E : List Context) (G : Context) → Listed E G → context_number E G ≤ length E
unfolding context_number
context_number_most E [] h = omega arith
context_number_most E (A ∷ G) h = number_below (list? term?) E (A ∷ G) h

number_back : (E : List Context) (G : Context) → Listed E G → context_numbered E (context_number E G) ≡ G
unfolding context_number context_numbered
number_back E [] h = refl
number_back E (A ∷ G) h = numbered_number (list? term?) [] E (A ∷ G) h

-- a context without its last entry is empty or in the list
rest_listed : (E : List Context) (G : Context) → ((H : Context) → H ∈ parents G → H ∈ E) → Listed E (drop 1 G)
rest_listed E [] h = tt
rest_listed E (A ∷ []) h = tt
rest_listed E (A ∷ B ∷ G) h = h (B ∷ G) (here refl)

rest_lower : (E : List Context) (k : ℕ) (G : Context) → ((H : Context) → H ∈ parents G → number (list? term?) E H < k) → context_number E (drop 1 G) < suc k
unfolding context_number
rest_lower E k [] h = omega arith
rest_lower E k (A ∷ []) h = omega arith
rest_lower E k (A ∷ B ∷ G) h = omega (arith, h (B ∷ G) (here refl))

-- a context from its last entry and the rest
whole_again : (G : Context) → NonEmpty G → get_or G 0 zer ∷ drop 1 G ≡ G
whole_again [] n = absurd (nil≢cons n.joined)
whole_again (A ∷ G) n = refl

-- the words of a context's row: the number of the context without the last entry, and the row of that entry's type
pub word_of_context : List Term → List Context → Context → ℕ → ℕ
word_of_context D E G zero = context_number E (drop 1 G)
word_of_context D E G (suc j) = number term? D (get_or G 0 zer)

module _ (D : List Term) (E : List Context) (once : Once E) (closed : Closed parents E) (non_empty : (G : Context) → G ∈ E → NonEmpty G)
    (types : (G : Context) → G ∈ E → get_or G 0 zer ∈ D) where
  rest_in : (G : Context) → G ∈ E → Listed E (drop 1 G)
  rest_in G m = rest_listed E G (λ H k. part_in parents (list? term?) E closed G m H k)

  pub context_small : length D ≤ 3072 → length E ≤ 256 → (G : Context) → G ∈ E → (j : ℕ) → word_of_context D E G j < 65536
  unfolding word_of_context
  context_small f g G m zero = omega (arith, context_number_most E (drop 1 G) (rest_in G m))
  context_small f g G m (suc j) = omega (arith, number_below term? D (get_or G 0 zer) (types G m))

  -- bytes whose rows hold these words, over terms that are spelled by their numbers
  module _ (b cs : List ℕ) (spelled : (t : Term) → t ∈ D → term b (number term? D t) ≡ t)
      (parent : (k : ℕ) → k < length E → parent_of cs (suc k) ≡ word_of_context D E (numbered [] E k) 0)
      (entry : (k : ℕ) → k < length E → type_of cs (suc k) ≡ word_of_context D E (numbered [] E k) 1) where
    parent_is : (k : ℕ) → k < length E → parent_of cs (suc k) ≡ context_number E (drop 1 (numbered [] E k))
    unfolding word_of_context
    parent_is k h = parent k h

    type_is : (k : ℕ) → k < length E → type_of cs (suc k) ≡ number term? D (get_or (numbered [] E k) 0 zer)
    unfolding word_of_context
    type_is k h = entry k h

    parent_lower : (k : ℕ) → k < length E → parent_of cs (suc k) < suc k
    parent_lower k h = omega (arith, parent_is k h, rest_lower E k (numbered [] E k) (λ H m. part_lower parents (list? term?) [] E once closed k h H m))

    good_context : (n : ℕ) → 1 ≤ n → n ≤ length E → GoodContext cs (length D) n
    good_context zero low high = absurd (omega arith)
    good_context (suc k) low high =
        record {
          earlier = parent_lower k high;
          known = omega (arith, type_is k high, number_below term? D (get_or (numbered [] E k) 0 zer) (types (numbered [] E k) (numbered_in [] E k high)));
        }

    before : Earlier cs (length E)
    before n low high = (good_context n low high).earlier

    stands_to : (bound n : ℕ) → n < bound → n ≤ length E → context b cs n ≡ context_numbered E n
    unfolding context_numbered
    stands_to zero n l h = absurd (omega arith)
    stands_to (suc bound) zero l h = context_empty b cs
    stands_to (suc bound) (suc k) l h =
        let G = numbered [] E k in
        let m = numbered_in [] E k h in
        let p = parent_lower k h in
        context_step b cs (length E) before (suc k) (omega arith) h
        ∙ ap₂ ◌∷◌ (ap (term b) (type_is k h) ∙ spelled (get_or G 0 zer) (types G m))
        (stands_to bound (parent_of cs (suc k)) (omega arith) (omega arith) ∙ ap (context_numbered E) (parent_is k h) ∙ number_back E (drop 1 G) (rest_in G m))
        ∙ whole_again G (non_empty G m)

    -- the row with a context's number is that context
    pub stands : (G : Context) → Listed E G → context b cs (context_number E G) ≡ G
    stands G h = let l = context_number_most E G h in stands_to (suc (context_number E G)) (context_number E G) (omega arith) l ∙ number_back E G h

    same_context_row : (m n : ℕ) → 1 ≤ m → m ≤ length E → 1 ≤ n → n ≤ length E → SameContextRow cs m n → m ≡ n
    unfolding context_numbered
    same_context_row zero n a h c k s = absurd (omega arith)
    same_context_row (suc m) zero a h c k s = absurd (omega arith)
    same_context_row (suc m) (suc n) a h c k s = ap suc (numbered_once (list? term?) [] E once m n h k same)
      where
        same : numbered [] E m ≡ numbered [] E n
        same =
            sym (stands_to (suc (suc m)) (suc m) (omega arith) h)
            ∙ context_step b cs (length E) before (suc m) (omega arith) h
            ∙ ap₂ ◌∷◌ (ap (term b) s.1) (ap (context b cs) s.0)
            ∙ sym (context_step b cs (length E) before (suc n) (omega arith) k)
            ∙ stands_to (suc (suc n)) (suc n) (omega arith) k

    pub context_table : 4 * length E ≤ length cs → ContextTable cs (length D) (length E)
    context_table whole = record { whole = whole; rows = good_context; distinct = same_context_row }
