-- Normal and neutral terms: source document 000, section 4, SN and SNe without N-EXP (document 02, A2). One clause a
-- rule, in printed order.
use Rattle.std.specs.Prelude.{Bool, true, false, ◌&&◌, ℕ}
use Rattle.terms.specs.Term.{Term, var, univ, pi, lam, app, sigma, pair, first, second, nat, zer, succ, ind}

mutual
  -- a ∈ SN
  pub data Normal : Term → Type 0 where
    n_abs : {b : Term} → Normal b → Normal (lam b)
    n_pair : {a b : Term} → Normal a → Normal b → Normal (pair a b)
    n_pi : {A B : Term} → Normal A → Normal B → Normal (pi A B)
    n_sig : {A B : Term} → Normal A → Normal B → Normal (sigma A B)
    n_succ : {a : Term} → Normal a → Normal (succ a)
    n_univ : (i : ℕ) → Normal (univ i)
    n_sne : {a : Term} → Neutral a → Normal a
    n_zero : Normal zer
    n_nat : Normal nat

  -- a ∈ SNe
  pub data Neutral : Term → Type 0 where
    n_var : (x : ℕ) → Neutral (var x)
    n_app : {a b : Term} → Neutral a → Normal b → Neutral (app a b)
    n_proj1 : {a : Term} → Neutral a → Neutral (first a)
    n_proj2 : {a : Term} → Neutral a → Neutral (second a)
    n_ind : {P a b c : Term} → Normal P → Neutral a → Normal b → Normal c → Neutral (ind P a b c)

-- The same by computation. What a normal term of a tag that a neutral one can have asks is what N-SNE asks, written
-- out: a call at the term itself would be no recursion.
unfoldable mutual
  pub is_normal : Term → Bool
  is_normal (var x) = true
  is_normal (univ i) = true
  is_normal (pi A B) = is_normal A && is_normal B
  is_normal (lam b) = is_normal b
  is_normal (app a b) = is_neutral a && is_normal b
  is_normal (sigma A B) = is_normal A && is_normal B
  is_normal (pair a b) = is_normal a && is_normal b
  is_normal (first a) = is_neutral a
  is_normal (second a) = is_neutral a
  is_normal nat = true
  is_normal zer = true
  is_normal (succ a) = is_normal a
  is_normal (ind P a b c) = is_normal P && is_neutral a && is_normal b && is_normal c

  pub is_neutral : Term → Bool
  is_neutral (var x) = true
  is_neutral (univ i) = false
  is_neutral (pi A B) = false
  is_neutral (lam b) = false
  is_neutral (app a b) = is_neutral a && is_normal b
  is_neutral (sigma A B) = false
  is_neutral (pair a b) = false
  is_neutral (first a) = is_neutral a
  is_neutral (second a) = is_neutral a
  is_neutral nat = false
  is_neutral zer = false
  is_neutral (succ a) = false
  is_neutral (ind P a b c) = is_normal P && is_neutral a && is_normal b && is_normal c
