-- Rising lists of line numbers: what is listed, how many numbers are below a number, and the numbers that lines have
-- once the listed ones are away.
-- Assumes nothing.
use mathlib.Core.Path.{◌≡◌, refl, sym, ◌∙◌, ap, subst}
use mathlib.Core.Logic.{◌↔◌, ◌⊎◌, inl, inr, ⊎_elim}
use mathlib.Core.Bool.{Bool, true, false, false≢true}
use mathlib.Core.List.{List, [], ◌∷◌}
use Prim.Native.Nat.{ℕ, zero, suc, ◌+◌, ◌-◌, ◌≤◌, ◌<◌}
use native.Mathlib.Decide.{dec_lt}
use native.Mathlib.Omega.{arith}
use lib.ListN.{length, get_or}
use lib.Dec.{ltb}
use borrow.Author.Tests.{lt-ltb, le-ltb, ltb-true}
use Rattle.std.specs.List.{IsAllAdjacentAnswer}
use Rattle.terms.specs.Decides.{Decides}
use Rattle.terms.proofs.Tests.{says_le, says_eq, says_no, refutes, decides_either, decides_via}
use Rattle.terms.proofs.SearchLaws.{stops, passes, search_means, FirstOf, first_tells}
use Rattle.sheets.specs.LineSets.{rises, Rises, is_listed, Listed, Stays, last_listed, count_below, new_number}
use Rattle.sheets.specs.LineSets.{number_before, old_number}
use Rattle.sheets.specs.Withdrawal.{lower_premise}
use Rattle.sheets.specs.WithdrawalSet.{AllLines}
use Rattle.sheets.proofs.LineNumberLaws.{lower_above, lower_upto, lower_less, before_below, before_lower}
use Rattle.sheets.proofs.LineNumberLaws.{lower_before, before_other, before_least}

-- the first number and the others
pub listed_first : (n : ℕ) (set : List ℕ) → Listed (n ∷ set) n
listed_first n set = (0, omega arith, refl)

pub listed_later : (n k : ℕ) (set : List ℕ) → Listed set k → Listed (n ∷ set) k
listed_later n k set l = (suc l.0, omega arith, l.2)

pub listed_split : (n k : ℕ) (set : List ℕ) → Listed (n ∷ set) k → (n ≡ k) ⊎ Listed set k
listed_split n k set l = at l.0 l.1 l.2
  where
    at : (i : ℕ) → i < length (n ∷ set) → get_or (n ∷ set) i 0 ≡ k → (n ≡ k) ⊎ Listed set k
    at zero h e = inl e
    at (suc i) h e = inr (i, omega arith, e)

pub stays_later : (n k : ℕ) (set : List ℕ) → Stays (n ∷ set) k → Stays set k
stays_later n k set stays l = stays (listed_later n k set l)

pub rises_later : (n : ℕ) (set : List ℕ) → Rises (n ∷ set) → Rises set
rises_later n set r i h = subst (λ j. get_or set i 0 < get_or (n ∷ set) j 0) next (r (suc i) (omega arith))
  where
    next : suc i + 1 ≡ suc (i + 1)
    next = omega arith

first_lowest : (n : ℕ) (set : List ℕ) → Rises (n ∷ set) → (i : ℕ) → i < length set → n < get_or set i 0
first_lowest n [] r i h = absurd (omega arith)
first_lowest n (m ∷ set) r zero h = r 0 (omega arith)
first_lowest n (m ∷ set) r (suc i) h =
    omega (arith, r 0 (omega arith), first_lowest m set (rises_later n (m ∷ set) r) i (omega arith))

pub rises_above : (n : ℕ) (set : List ℕ) → Rises (n ∷ set) → (k : ℕ) → Listed set k → n < k
rises_above n set r k l = subst (λ m. n < m) l.2 (first_lowest n set r l.0 l.1)

-- the tests answer for what they test
pub listed_says : (set : List ℕ) (k : ℕ) → Decides (is_listed set k) (Listed set k)
unfolding is_listed
listed_says [] k = says_no (λ l. omega (arith, l.1))
listed_says (n ∷ set) k = decides_via both (decides_either (says_eq n k) (listed_says set k))
  where
    both : ((n ≡ k) ⊎ Listed set k) ↔ Listed (n ∷ set) k
    both = (
      ⊎_elim (λ e. subst (Listed (n ∷ set)) e (listed_first n set)) (listed_later n k set),
      listed_split n k set,
    )

module _ (set : List ℕ) where
  -- the number at place i is not below the next
  abbrev Falls : ℕ → Type 0
  Falls i = get_or set (i + 1) 0 ≤ get_or set i 0

  never_falls : FirstOf Falls (λ _. false) true 0 (length set - 1) true → Rises set
  never_falls (stops p low high before x) i h = absurd (false≢true (sym x.1))
  never_falls (passes all e) i h = let not : Falls i → ⊥ = all i (omega arith) (omega arith) in omega arith

  pub rises_says : Decides (rises set) (Rises set)
  unfolding rises
  rises_says =
      decides_via (never_falls, λ r. passes (λ i low high f. omega (arith, r i (omega arith))) refl)
      (search_means (first_tells Falls (λ _. false) (λ i. says_le (get_or set (i + 1) 0) (get_or set i 0)))
      true (length set - 1) 0 (length set - 1) (omega arith) true)

-- what the comparison of each number with the next answers
pub rises_sorted : (set : List ℕ) (r : Bool) → IsAllAdjacentAnswer (λ m n b. b ≡ ltb m n) set r → r ≡ rises set
rises_sorted set true less = sym ((rises_says set).1 (λ i h. ltb-true _ _ (sym (less i 0 h))))
rises_sorted set false (i, h, more) =
    sym (refutes (rises set) (rises_says set) (λ r. false≢true (more 0 ∙ lt-ltb _ _ (r i h))))

-- a number at a lower place is lower
rises_between : (set : List ℕ) → Rises set → (i j : ℕ) → i < j → j < length set → get_or set i 0 < get_or set j 0
rises_between [] r i j low high = absurd (omega arith)
rises_between (n ∷ set) r i zero low high = absurd (omega arith)
rises_between (n ∷ set) r zero (suc j) low high = first_lowest n set r j (omega arith)
rises_between (n ∷ set) r (suc i) (suc j) low high =
    rises_between set (rises_later n set r) i j (omega arith) (omega arith)

-- the first number is the lowest, the last the highest
pub first_least : (set : List ℕ) → Rises set → (k : ℕ) → Listed set k → get_or set 0 0 ≤ k
first_least [] r k l = absurd (omega (arith, l.1))
first_least (n ∷ set) r k l =
    ⊎_elim (λ e. omega (arith, e)) (λ m. omega (arith, rises_above n set r k m)) (listed_split n k set l)

pub last_listed_lem : (set : List ℕ) → 0 < length set → Listed set (last_listed set)
unfolding last_listed
last_listed_lem set h = (length set - 1, omega arith, refl)

pub last_highest : (set : List ℕ) → Rises set → (k : ℕ) → Listed set k → k ≤ last_listed set
unfolding last_listed
last_highest set r k l = at (dec_lt l.0 (length set - 1))
  where
    at : Dec (l.0 < length set - 1) → k ≤ get_or set (length set - 1) 0
    at (yes h) = omega (arith, l.2, rises_between set r l.0 (length set - 1) h (omega (arith, l.1)))
    at (no h) = omega (arith, l.2, ap (λ i. get_or set i 0) last)
      where
        last : l.0 ≡ length set - 1
        last = omega (arith, l.1)

-- how many are below: the first number counts, or does not
module _ (n : ℕ) (set : List ℕ) (k : ℕ) where
  pub count_more : n < k → count_below (n ∷ set) k ≡ suc (count_below set k)
  unfolding count_below
  count_more h = rw (lt-ltb n k h, count_below)

  pub count_same : k ≤ n → count_below (n ∷ set) k ≡ count_below set k
  unfolding count_below
  count_same h = rw (le-ltb n k h, count_below)

-- of numbers that are all above n, only those from n + 1 to k - 1 are below k
count_above : (set : List ℕ) (n : ℕ) → Rises set → ((k : ℕ) → Listed set k → n < k) → (k : ℕ)
    → count_below set k ≤ k - suc n
unfolding count_below
count_above [] n r above k = omega arith
count_above (m ∷ set) n r above k =
    at (above m (listed_first m set)) (count_above set m (rises_later m set r) (rises_above m set r) k) (dec_lt m k)
  where
    at : n < m → count_below set k ≤ k - suc m → Dec (m < k) → count_below (m ∷ set) k ≤ k - suc n
    at low few (yes h) = omega (arith, count_more m set k h)
    at low few (no h) = omega (arith, count_same m set k (omega arith))

pub count_rest : (n : ℕ) (set : List ℕ) → Rises (n ∷ set) → (k : ℕ) → count_below set k ≤ k - suc n
count_rest n set r k = count_above set n (rises_later n set r) (rises_above n set r) k

pub count_within : (set : List ℕ) → Rises set → (k : ℕ) → count_below set k ≤ k
unfolding count_below
count_within [] r k = omega arith
count_within (n ∷ set) r k = at (dec_lt n k)
  where
    at : Dec (n < k) → count_below (n ∷ set) k ≤ k
    at (yes h) = omega (arith, count_more n set k h, count_rest n set r k)
    at (no h) = omega (arith, count_same n set k (omega arith), count_rest n set r k)

-- a listed number counts for the next one
pub count_here : (set : List ℕ) → Rises set → (k : ℕ) → Listed set k → count_below set (suc k) ≡ suc (count_below set k)
count_here [] r k l = absurd (omega (arith, l.1))
count_here (n ∷ set) r k l = ⊎_elim first (later (count_here set (rises_later n set r) k)) (listed_split n k set l)
  where
    first : n ≡ k → count_below (n ∷ set) (suc k) ≡ suc (count_below (n ∷ set) k)
    first e =
        omega (
          arith,
          count_more n set (suc k) (omega arith),
          count_same n set k (omega arith),
          count_rest n set r k,
          count_rest n set r (suc k),
        )

    later : (Listed set k → count_below set (suc k) ≡ suc (count_below set k)) → Listed set k
        → count_below (n ∷ set) (suc k) ≡ suc (count_below (n ∷ set) k)
    later more m =
        let below : n < k = rises_above n set r k m in
        omega (arith, count_more n set (suc k) (omega arith), count_more n set k below, more m)

-- and one that stays does not
pub count_there : (set : List ℕ) (k : ℕ) → Stays set k → count_below set (suc k) ≡ count_below set k
unfolding count_below
count_there [] k stays = refl
count_there (n ∷ set) k stays = at (count_there set k (stays_later n k set stays)) (dec_lt n k)
  where
    other : n ≡ k → ⊥
    other e = stays (subst (Listed (n ∷ set)) e (listed_first n set))

    at : count_below set (suc k) ≡ count_below set k → Dec (n < k) → count_below (n ∷ set) (suc k) ≡ count_below (n ∷ set) k
    at same (yes h) = omega (arith, count_more n set (suc k) (omega arith), count_more n set k h)
    at same (no h) = omega (arith, count_same n set (suc k) (omega (arith, other)), count_same n set k (omega arith))

count_all : (set : List ℕ) (L : ℕ) → AllLines L set → count_below set L ≡ length set
unfolding count_below
count_all [] L all = refl
count_all (n ∷ set) L all =
    count_more n set L (all n (listed_first n set)) ∙ ap suc (count_all set L (λ k l. all k (listed_later n k set l)))

pub few_listed : (set : List ℕ) (L : ℕ) → Rises set → AllLines L set → length set ≤ L
few_listed set L r all = omega (arith, count_all set L all, count_within set r L)

-- new numbers: one number more in the list is one step of lowering
pub new_lower : (n : ℕ) (set : List ℕ) → Rises (n ∷ set) → (p : ℕ)
    → new_number (n ∷ set) p ≡ lower_premise n (new_number set p)
new_lower n set r p = at (count_rest n set r p) (dec_lt n p)
  where
    at : count_below set p ≤ p - suc n → Dec (n < p) → new_number (n ∷ set) p ≡ lower_premise n (new_number set p)
    at few (yes h) = omega (arith, count_more n set p h, lower_above n (new_number set p) (omega arith))
    at few (no h) = omega (arith, count_same n set p (omega arith), lower_upto n (new_number set p) (omega arith))

-- a number below all that are listed stays as it is, and no other becomes it
new_below : (set : List ℕ) (n : ℕ) → Rises set → ((k : ℕ) → Listed set k → n < k) → (p : ℕ)
    → (new_number set p ≡ n) ↔ (p ≡ n)
new_below set n r above p = omega (arith, count_above set n r above p)

-- the same of the first of the list, so a line that stays has another number before that one is away
pub new_first : (n : ℕ) (set : List ℕ) → Rises (n ∷ set) → (k : ℕ) → (new_number set k ≡ n) ↔ (k ≡ n)
new_first n set r = new_below set n (rises_later n set r) (rises_above n set r)

pub new_other : (n : ℕ) (set : List ℕ) → Rises (n ∷ set) → (k : ℕ) → Stays (n ∷ set) k → new_number set k ≡ n → ⊥
new_other n set r k stays e =
    stays (subst (Listed (n ∷ set)) (sym ((new_first n set r k).0 e)) (listed_first n set))

pub new_less : (set : List ℕ) → Rises set → (k m : ℕ) → Stays set k → k < m → new_number set k < new_number set m
unfolding count_below
new_less [] r k m stays h = omega arith
new_less (n ∷ set) r k m stays h =
    omega (
      arith,
      new_lower n set r k,
      new_lower n set r m,
      lower_less n (new_number set k) (new_number set m) (new_other n set r k stays)
          (new_less set (rises_later n set r) k m (stays_later n k set stays) h),
    )

pub new_within : (set : List ℕ) (L : ℕ) → Rises set → AllLines L set → (k : ℕ) → Stays set k → k < L
    → new_number set k < L - length set
new_within set L r all k stays h = omega (arith, count_all set L all, new_less set r k L stays h)

-- old numbers are those of the lines that stay
pub old_new : (set : List ℕ) → Rises set → (k : ℕ) → Stays set k → old_number set (new_number set k) ≡ k
unfolding old_number count_below
old_new [] r k stays = omega arith
old_new (n ∷ set) r k stays =
    ap (λ m. old_number set (number_before n m)) (new_lower n set r k)
    ∙ ap (old_number set) (before_lower n (new_number set k) (new_other n set r k stays))
    ∙ old_new set (rises_later n set r) k (stays_later n k set stays)

pub new_old : (set : List ℕ) → Rises set → (m : ℕ) → new_number set (old_number set m) ≡ m
unfolding old_number count_below
new_old [] r m = omega arith
new_old (n ∷ set) r m =
    new_lower n set r (old_number set (number_before n m))
    ∙ ap (lower_premise n) (new_old set (rises_later n set r) (number_before n m)) ∙ lower_before n m

pub old_stays : (set : List ℕ) → Rises set → (m : ℕ) → Stays set (old_number set m)
unfolding old_number
old_stays [] r m l = omega (arith, l.1)
old_stays (n ∷ set) r m l =
    let later : Rises set = rises_later n set r in
    ⊎_elim
    (λ e. before_other n m (sym (new_old set later (number_before n m)) ∙ (new_first n set r _).1 (sym e)))
    (old_stays set later (number_before n m)) (listed_split n (old_number set (number_before n m)) set l)

pub old_within : (set : List ℕ) (L : ℕ) → Rises set → AllLines L set → (m : ℕ) → m < L - length set
    → old_number set m < L
old_within set L r all m h = at (dec_lt (old_number set m) L) (dec_lt L (old_number set m))
  where
    stays : Stays set L
    stays l = omega (arith, all L l)

    at : Dec (old_number set m < L) → Dec (L < old_number set m) → old_number set m < L
    at (yes a) c = a
    at (no a) (yes c) =
        absurd (omega (arith, count_all set L all, new_old set r m, new_less set r L (old_number set m) stays c))
    at (no a) (no c) = absurd (omega (arith, count_all set L all, new_old set r m, ap (new_number set) same))
      where
        same : old_number set m ≡ L
        same = omega arith

pub old_below : (set : List ℕ) (n m : ℕ) → ((k : ℕ) → Listed set k → n < k) → m ≤ n → old_number set m ≡ m
unfolding old_number
old_below [] n m above h = refl
old_below (p ∷ set) n m above h =
    ap (old_number set) (before_below p m (omega (arith, above p (listed_first p set))))
    ∙ old_below set n m (λ k l. above k (listed_later p k set l)) h

pub old_least : (set : List ℕ) (m : ℕ) → m ≤ old_number set m
unfolding old_number
old_least [] m = omega arith
old_least (n ∷ set) m = omega (arith, before_least n m, old_least set (number_before n m))
