-- What each answer about a list means: its lines all spell judgments, or the first that spells none, or is one too
-- many, is the fault; and that the words that are put are those of the judgments.
-- Assumes nothing.
use mathlib.Core.Path.{◌≡◌, refl, sym, ◌∙◌, ap, subst}
use mathlib.Core.Logic.{◌↔◌}
use mathlib.Core.List.{List, [], ◌∷◌, ◌++◌}
use Prim.Native.Nat.{ℕ, zero, suc, ◌*◌, ◌/◌, ◌≤◌, ◌<◌}
use native.Mathlib.Decide.{dec_le}
use native.Mathlib.Omega.{arith}
use lib.ListN.{length, get_or, take, drop, length-take}
use lib.Seq.{take_all, take-take, take_at, get_or-take, ext_get_or}
use borrow.Author.Tests.{eq-eqb, ne_eqb}
use Rattle.std.specs.Prelude.{Option, Some, None, Result}
use Rattle.answers.specs.declared.listing.ListError.{ListError}
use Rattle.sheets.specs.declared.finding.Wanted.{Wanted}
use Rattle.sheets.specs.Batch.{wanted_of, wanted_at, wanted_in}
use Rattle.sheets.proofs.BatchLaws.{wanted_count, wanted_at_lem}
use Rattle.answers.specs.Listing.{lines_of, request_in, before, judgments_in, judgments_of, numbers_of}
use Rattle.answers.specs.Listing.{numbers_after, listing_of}
use Rattle.answers.specs.Listing.{SpellsJudgment, Spell, none, one, ListingMeans, all, full, wrong}
use Rattle.answers.proofs.ListingLaws.{words_long}
use Rattle.answers.proofs.JudgmentTextLaws.{request_in_is, no_request_is}

-- line i is the first that spells no judgment
record Stops (lines : List (List ℕ)) (ws : List Wanted) (i : ℕ) : Type 0 where
  inside : i < length lines
  spelled : Spell (take i lines) ws
  unspelled : (w : Wanted) → SpellsJudgment (get_or lines i []) w → ⊥

spell_long : {lines : List (List ℕ)} {ws : List Wanted} → Spell lines ws → length lines ≡ length ws
spell_long none = refl
spell_long (one s rest) = ap suc (spell_long rest)

-- the judgments of lines that all spell one
all_spelled : {lines : List (List ℕ)} {ws : List Wanted} → Spell lines ws → judgments_in lines ≡ ws
unfolding judgments_in before
all_spelled none = refl
all_spelled (one {line = line} {lines = lines} {w = w} s rest) =
    ap (λ r. before r (judgments_in lines)) ((request_in_is line w).1 s) ∙ ap (λ l. w ∷ l) (all_spelled rest)

-- and of lines up to the first that spells none
stops_there : (lines : List (List ℕ)) (i : ℕ) {ws : List Wanted} → i < length lines → Spell (take i lines) ws
    → ((w : Wanted) → SpellsJudgment (get_or lines i []) w → ⊥) → judgments_in lines ≡ ws
unfolding judgments_in before
stops_there [] i h s bad = absurd (omega arith)
stops_there (line ∷ lines) zero h none bad =
    ap (λ r. before r (judgments_in lines)) ((no_request_is line).1 bad)
stops_there (line ∷ lines) (suc i) h (one {w = w} s rest) bad =
    ap (λ r. before r (judgments_in lines)) ((request_in_is line w).1 s)
    ∙ ap (λ l. w ∷ l) (stops_there lines i (omega arith) rest bad)

-- one or the other
data Spelled (lines : List (List ℕ)) : Type 0 where
  whole : {ws : List Wanted} → Spell lines ws → Spelled lines
  until : {ws : List Wanted} (i : ℕ) → Stops lines ws i → Spelled lines

spelled? : (lines : List (List ℕ)) → Spelled lines
spelled? [] = whole none
spelled? (line ∷ lines) = pick (request_in line) refl (spelled? lines)
  where
    pick : (r : Option Wanted) → request_in line ≡ r → Spelled lines → Spelled (line ∷ lines)
    pick None e rest =
        until 0 (record { inside = omega arith; spelled = none; unspelled = (no_request_is line).0 e })
    pick (Some w) e (whole s) = whole (one ((request_in_is line w).0 e) s)
    pick (Some w) e (until i s) =
        until (suc i)
        (record {
          inside = omega (arith, s.inside);
          spelled = one ((request_in_is line w).0 e) s.spelled;
          unspelled = s.unspelled;
        })

module _ (text : List ℕ) where
  -- there is an answer that has its meaning
  means? : (r : Result ℕ ListError) × ListingMeans text r
  means? = pick (spelled? (take 1024 (lines_of text))) (dec_le (length (lines_of text)) 1024)
    where
      pick : Spelled (take 1024 (lines_of text)) → Dec (length (lines_of text) ≤ 1024)
          → (r : Result ℕ ListError) × ListingMeans text r
      pick (whole {ws = ws} s) (yes few) =
          let same = take_all 1024 (lines_of text) few in
          (_, all (subst (λ l. Spell l ws) same s) (omega (arith, spell_long s, ap length same)))
      pick (whole s) (no many) = (_, full s (omega arith))
      pick (until {ws = ws} i s) d =
          let short = length-take 1024 (lines_of text) in
          let small : i < 1024 = omega (arith, short, s.inside) in
          let before_it = take-take i 1024 (lines_of text) (omega arith) in
          let there = get_or-take 1024 (lines_of text) i [] small in (
            _,
            wrong i small (omega (arith, short, s.inside)) (subst (λ l. Spell l ws) before_it s.spelled)
                (λ w p. s.unspelled w (subst (λ l. SpellsJudgment l w) (sym there) p)),
          )

  -- and it is the answer that is given
  meant : {r : Result ℕ ListError} → ListingMeans text r → listing_of text ≡ r
  unfolding listing_of judgments_of
  meant (all {ws = ws} s h) =
      let few : length (lines_of text) ≤ 1024 = omega (arith, spell_long s) in
      rw (
        ap judgments_in (take_all 1024 (lines_of text) few) ∙ all_spelled s,
        eq-eqb (length ws) (length (lines_of text)) (sym (spell_long s)),
      )
  meant (full {ws = ws} s h) =
      let long : length ws ≡ 1024 = omega (arith, spell_long s, length-take 1024 (lines_of text)) in
      rw (
        all_spelled s,
        ne_eqb (length ws) (length (lines_of text)) (λ e. omega arith),
        eq-eqb (length ws) 1024 long,
      )
  meant (wrong {ws = ws} i small inside s bad) =
      let short = length-take 1024 (lines_of text) in
      let long : length ws ≡ i = omega (arith, spell_long s, length-take i (lines_of text)) in
      rw (
        stops_there (take 1024 (lines_of text)) i (omega arith)
            (subst (λ l. Spell l ws) (sym (take-take i 1024 (lines_of text) (omega arith))) s)
            (λ w p. bad w (subst (λ l. SpellsJudgment l w) (get_or-take 1024 (lines_of text) i [] small) p)),
        ne_eqb (length ws) (length (lines_of text)) (λ e. omega arith),
        ne_eqb (length ws) 1024 (λ e. omega arith),
      )

  -- an answer is given exactly if it has its meaning
  pub listing_is : (r : Result ℕ ListError) → (listing_of text ≡ r) ↔ ListingMeans text r
  listing_is r = (λ e. subst (ListingMeans text) (sym (meant means?.1) ∙ e) means?.1, meant)

  -- the judgments of a list that is read whole are those that its lines spell
  pub judgments_are : {ws : List Wanted} → Spell (lines_of text) ws → length ws ≤ 1024 → judgments_of text ≡ ws
  unfolding judgments_of
  judgments_are {ws} s h =
      ap judgments_in (take_all 1024 (lines_of text) (omega (arith, spell_long s))) ∙ all_spelled s

-- the words of judgments, five each, are read back as they were
words_at : (ws : List Wanted) (i : ℕ) → i < length ws → wanted_of (drop (5 * i) (numbers_of ws)) ≡ wanted_at ws i
unfolding wanted_of numbers_of
words_at [] i h = absurd (omega arith)
words_at (w ∷ ws) zero h = refl
words_at (w ∷ ws) (suc i) h = ap (λ n. wanted_of (drop n (numbers_of (w ∷ ws)))) five ∙ words_at ws i (omega arith)
  where
    five : 5 * suc i ≡ suc (suc (suc (suc (suc (5 * i)))))
    five = omega arith

words_wanted : (ws : List Wanted) → wanted_in (numbers_of ws) ≡ ws
words_wanted ws =
    ext_get_or _ (wanted_in (numbers_of ws)) ws long
    (λ i h. wanted_at_lem (numbers_of ws) i (omega (arith, long, many, words_long ws)) ∙ words_at ws i (omega (arith, long)))
  where
    many : length (wanted_in (numbers_of ws)) ≡ length (numbers_of ws) / 5
    many = wanted_count (numbers_of ws)

    long : length (wanted_in (numbers_of ws)) ≡ length ws
    long = omega (arith, many, words_long ws)

-- the words of a list that is read whole are those of the judgments that its lines spell
pub listed_wanted : (text buffer : List ℕ) {ws : List Wanted} → Spell (lines_of text) ws → length ws ≤ 1024
    → wanted_in (take (5 * length ws) (numbers_after text buffer)) ≡ ws
unfolding numbers_after
listed_wanted text buffer {ws} s h =
    ap (λ l. wanted_in (take (5 * length ws) (numbers_of l ++ drop (length (numbers_of l)) buffer)))
    (judgments_are text s h)
    ∙ ap wanted_in (take_at (numbers_of ws) (drop (length (numbers_of ws)) buffer) (5 * length ws) (words_long ws))
    ∙ words_wanted ws
