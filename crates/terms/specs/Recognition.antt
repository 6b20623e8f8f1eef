-- How the recognisers of normal and neutral terms go: what they look at in a tag, and what they remember of the rows.
-- Only functions inside this crate speak of it: what they answer is said by `Normal` and `Neutral`.
use Rattle.std.specs.Prelude.{◌≡◌, Bool, true, false, List, ℕ, get_or}
use Rattle.terms.specs.Tag.{Tag, none, Var, Univ, Pi, Lam, App, Sigma, Pair, First, Second, Nat, Zero, Succ, Ind}
use Rattle.terms.specs.Rows.{term}
use Rattle.terms.specs.NormalForms.{Normal}

-- "A neutral term is a variable, or an application, projection or ind": the tags that it can have
unfoldable pub heads_neutral : Tag → Bool
heads_neutral none = false
heads_neutral Var = true
heads_neutral Univ = false
heads_neutral Pi = false
heads_neutral Lam = false
heads_neutral App = true
heads_neutral Sigma = false
heads_neutral Pair = false
heads_neutral First = true
heads_neutral Second = true
heads_neutral Nat = false
heads_neutral Zero = false
heads_neutral Succ = false
heads_neutral Ind = true

-- "whose scrutinised part is neutral": the place of that child, 0 where there is none
unfoldable pub scrutinised : Tag → ℕ
scrutinised none = 0
scrutinised Var = 0
scrutinised Univ = 0
scrutinised Pi = 0
scrutinised Lam = 0
scrutinised App = 1
scrutinised Sigma = 0
scrutinised Pair = 0
scrutinised First = 1
scrutinised Second = 1
scrutinised Nat = 0
scrutinised Zero = 0
scrutinised Succ = 0
scrutinised Ind = 2

-- a row that is remembered spells a normal term
pub record Known (bytes : List ℕ) (known : List Bool) : Type 0 where
  pub fact : (n : ℕ) → get_or known n false ≡ true → Normal (term bytes n)
