-- Which texts spell a date: three numerals parted by hyphens, and no other.
-- Assumes nothing.
use mathlib.Core.Path.{◌≡◌, refl, sym, ◌∙◌, ap}
use mathlib.Core.Logic.{◌↔◌, ◌⊎◌, inl, inr}
use mathlib.Core.Bool.{Bool, true, false, cond, false≢true}
use mathlib.Core.List.{List, [], ◌∷◌, ◌++◌}
use Prim.Native.Nat.{ℕ}
use native.Mathlib.Omega.{arith}
use Rattle.std.specs.Prelude.{Option, Some, None, unwrap_or}
use Rattle.std.proofs.lemmas.Option.{none-some}
use Rattle.windows.specs.declared.dates.Date.{Date}
use Rattle.windows.specs.Dates.{date_of}
use Rattle.answers.specs.Numbers.{is_digit, all_digits, is_numeral, spelled}
use Rattle.answers.specs.Parts.{up_to, past}
use Rattle.answers.specs.Dates.{numeral_of, date_from, date_in, Numeral, SpellsDate}
use Rattle.answers.proofs.PartedLaws.{parted, some_before, digits_before}

-- a text is a numeral and is read as what it spells, or it is not read
abbrev IsRead : List ℕ → Type 0
IsRead text = (Numeral text × (numeral_of text ≡ Some (spelled 0 text))) ⊎ (numeral_of text ≡ None)

pub numeral_is : (text : List ℕ) → (is_numeral text ≡ true) ↔ Numeral text
unfolding is_numeral
numeral_is [] = (λ e. absurd (false≢true e), λ n. absurd (omega (arith, n.some)))
numeral_is (byte ∷ text) = (λ e. record { some = omega arith; digits = e }, λ n. n.digits)

read? : (text : List ℕ) → IsRead text
unfolding numeral_of
read? text = pick (is_numeral text) refl
  where
    n : ℕ
    n = spelled 0 text

    pick : (all : Bool) → is_numeral text ≡ all
        → (Numeral text × (cond all (Some n) None ≡ Some n)) ⊎ (cond all (Some n) None ≡ None)
    pick true e = inl ((numeral_is text).0 e, refl)
    pick false e = inr refl

read_numeral : (text : List ℕ) → Numeral text → numeral_of text ≡ Some (spelled 0 text)
unfolding numeral_of
read_numeral text n = rw ((numeral_is text).1 n)

-- digits are no hyphen
before_hyphen : (digits rest : List ℕ) → all_digits digits ≡ true
    → (up_to 45 (digits ++ (45 ∷ rest)) ≡ digits) × (past 45 (digits ++ (45 ∷ rest)) ≡ rest)
unfolding is_digit
before_hyphen = digits_before 45 refl

-- three numbers make a date if all are read
all_read : (year month day : List ℕ) → IsRead year → IsRead month → IsRead day → (d : Date)
    → date_from (numeral_of year) (numeral_of month) (numeral_of day) ≡ Some d
    → (Numeral year × Numeral month × Numeral day) × (d ≡ date_of (spelled 0 year) (spelled 0 month) (spelled 0 day))
unfolding date_from
all_read year month day (inl a) (inl b) (inl c) d e =
    ((a.0, b.0, c.0), ap (λ r. unwrap_or r d) (sym e ∙ (λ i. date_from (a.1 i) (b.1 i) (c.1 i))))
all_read year month day (inl a) (inl b) (inr c) d e =
    absurd (none-some _ (sym (λ i. date_from (a.1 i) (b.1 i) (c i)) ∙ e))
all_read year month day (inl a) (inr b) c d e =
    absurd (none-some _ (sym (λ i. date_from (a.1 i) (b i) (numeral_of day)) ∙ e))
all_read year month day (inr a) b c d e =
    absurd (none-some _ (sym (λ i. date_from (a i) (numeral_of month) (numeral_of day)) ∙ e))

-- where month and day are numerals the text has two hyphens
two_hyphens : (text : List ℕ) → Numeral (up_to 45 (past 45 text)) → Numeral (past 45 (past 45 text))
    → text ≡ up_to 45 text ++ (45 ∷ (up_to 45 (past 45 text) ++ (45 ∷ past 45 (past 45 text))))
two_hyphens text month day =
    parted 45 text (some_before 45 (past 45 text) month.some)
    ∙ ap (λ l. up_to 45 text ++ (45 ∷ l)) (parted 45 (past 45 text) day.some)

forth : (text : List ℕ) (d : Date) → date_in text ≡ Some d → SpellsDate text d
unfolding date_in
forth text d e =
    let rest = past 45 text in
    let read = all_read (up_to 45 text) (up_to 45 rest) (past 45 rest) (read? _) (read? _) (read? _) d e in
    record {
      year = up_to 45 text;
      month = up_to 45 (past 45 text);
      day = past 45 (past 45 text);
      numerals = read.0;
      parted = two_hyphens text read.0.1 read.0.2;
      date = read.1;
    }

back : (text : List ℕ) (d : Date) → SpellsDate text d → date_in text ≡ Some d
unfolding date_in date_from
back text d s =
    let y = before_hyphen s.year (s.month ++ (45 ∷ s.day)) s.numerals.0.digits in
    let m = before_hyphen s.month s.day s.numerals.1.digits in
    let year = ap (up_to 45) s.parted ∙ y.0 in
    let rest = ap (past 45) s.parted ∙ y.1 in
    let month = ap (up_to 45) rest ∙ m.0 in
    let day = ap (past 45) rest ∙ m.1 in
    let y_read = read_numeral s.year s.numerals.0 in
    let m_read = read_numeral s.month s.numerals.1 in
    let d_read = read_numeral s.day s.numerals.2 in
    (λ i. date_from (numeral_of (year i)) (numeral_of (month i)) (numeral_of (day i)))
    ∙ (λ i. date_from (y_read i) (m_read i) (d_read i))
    ∙ ap Some (sym s.date)

-- a date is read exactly if the text spells it
pub date_in_is : (text : List ℕ) (d : Date) → (date_in text ≡ Some d) ↔ SpellsDate text d
date_in_is text d = (forth text d, back text d)

-- and none exactly if it spells none
pub no_date_is : (text : List ℕ) → (date_in text ≡ None) ↔ ((d : Date) → SpellsDate text d → ⊥)
no_date_is text = (λ e d s. none-some _ (sym e ∙ back text d s), λ none. pick none (date_in text) refl)
  where
    pick : ((d : Date) → SpellsDate text d → ⊥) → (r : Option Date) → date_in text ≡ r → r ≡ None
    pick none (Some d) e = absurd (none d (forth text d e))
    pick none None e = refl
