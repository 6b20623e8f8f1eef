-- What a window answers: each answer exactly if it means what document 02 says.
-- Assumes nothing.
use mathlib.Core.Path.{◌≡◌, refl, subst}
use mathlib.Core.Logic.{◌↔◌, ◌⊎◌, inl, inr, ⊎_elim}
use mathlib.Core.Bool.{Bool, true, false, ◌&&◌, cond}
use Rattle.std.specs.Prelude.{Result, Ok, Err}
use Prim.Native.Nat.{◌≤◌}
use native.Mathlib.Omega.{arith}
use lib.Dec.{ltb}
use Rattle.std.proofs.lemmas.Bool.{and_parts, and_cases, and_right, iff_false, false_from_ne_true}
use borrow.Author.Tests.{ltb-true, ltb-false, leb-true, leb-false, lt-ltb, le-ltb, le-leb, lt-leb}
use Rattle.windows.specs.declared.dates.Date.{Date}
use Rattle.windows.specs.declared.access.Window.{Window}
use Rattle.windows.specs.declared.access.Access.{Access}
use Rattle.windows.specs.declared.access.Access.TheVariants.{Open, Closed}
use Rattle.windows.specs.declared.errors.WindowError.{WindowError}
use Rattle.windows.specs.declared.errors.WindowError.TheVariants.{NoSuchDate, Reversed}
use Rattle.windows.specs.Dates.{exists, day_number}
use Rattle.windows.specs.Access.{all_exist, is_within, open_on, AllExist}
use Rattle.windows.specs.Access.{AccessMeans, is_open, is_closed, no_date, no_days}
use Rattle.windows.proofs.DateLaws.{exists_is, decided}
use Rattle.windows.proofs.OrderLaws.{earlier_is, not_earlier_is}

module _ (w : Window) (d : Date) where
  pub all_exist_lem : (all_exist w d ≡ true) ↔ AllExist w d
  all_exist_lem = (
    λ e.
        let outer = and_parts (exists w.first && exists w.last) (exists d) e in
        let inner = and_parts (exists w.first) (exists w.last) outer.0 in
        record {
          first = (exists_is w.first).0 inner.0;
          last = (exists_is w.last).0 inner.1;
          asked = (exists_is d).0 outer.1;
        },
    λ x. rw ((exists_is w.first).1 x.first, (exists_is w.last).1 x.last, (exists_is d).1 x.asked),
  )

  pub all_exist? : AllExist w d ⊎ (AllExist w d → ⊥)
  all_exist? = decided (all_exist w d) all_exist_lem

  abbrev ends_early : Bool
  ends_early = ltb (day_number w.last) (day_number w.first)

  means : AccessMeans w d (open_on w d)
  unfolding open_on
  means = by_tests (all_exist w d) ends_early (is_within w d) refl refl refl
    where
      by_tests : (all early within : Bool) → all_exist w d ≡ all → ends_early ≡ early → is_within w d ≡ within
          → AccessMeans w d (cond all (cond early (Err Reversed) (Ok (cond within Open Closed))) (Err NoSuchDate))
      by_tests false early within e f g = no_date (iff_false all_exist_lem e)
      by_tests true true within e f g =
          let x = all_exist_lem.0 e in no_days x ((earlier_is w.last w.first x.last x.first).1 (ltb-true _ _ f))
      by_tests true false true e f g =
          let x = all_exist_lem.0 e in
          let both = and_parts _ _ g in
          is_open x ((not_earlier_is d w.first x.asked x.first).1 (leb-true _ _ both.0))
          ((not_earlier_is w.last d x.last x.asked).1 (leb-true _ _ both.1))
      by_tests true false false e f g =
          let x = all_exist_lem.0 e in
          is_closed x ((not_earlier_is w.last w.first x.last x.first).1 (ltb-false _ _ f))
          (⊎_elim (λ h. inl ((earlier_is d w.first x.asked x.first).1 (leb-false _ _ h)))
          (λ h. inr ((earlier_is w.last d x.last x.asked).1 (leb-false _ _ h))) (and_cases _ _ g))

  back : {a : Result Access WindowError} → AccessMeans w d a → open_on w d ≡ a
  unfolding open_on
  back (is_open x not_before not_after) =
      let low = (not_earlier_is d w.first x.asked x.first).0 not_before in
      let high = (not_earlier_is w.last d x.last x.asked).0 not_after in
      let days : day_number w.first ≤ day_number w.last = omega (arith, low, high) in
      rw (all_exist_lem.1 x, le-ltb _ _ days, le-leb _ _ low, le-leb _ _ high)
  back (is_closed x some_day (inl before)) =
      let days = (not_earlier_is w.last w.first x.last x.first).0 some_day in
      let early = (earlier_is d w.first x.asked x.first).0 before in
      rw (all_exist_lem.1 x, le-ltb _ _ days, lt-leb _ _ early)
  back (is_closed x some_day (inr after)) =
      let days = (not_earlier_is w.last w.first x.last x.first).0 some_day in
      let late = (earlier_is w.last d x.last x.asked).0 after in
      rw (all_exist_lem.1 x, le-ltb _ _ days, and_right _ _ (lt-leb _ _ late))
  back (no_date none) = rw (false_from_ne_true (all_exist w d) (λ e. none (all_exist_lem.0 e)))
  back (no_days x before) =
      rw (all_exist_lem.1 x, lt-ltb _ _ ((earlier_is w.last w.first x.last x.first).0 before))

  pub access_is : (a : Result Access WindowError) → (open_on w d ≡ a) ↔ AccessMeans w d a
  access_is a = (λ e. subst (AccessMeans w d) e means, back)
