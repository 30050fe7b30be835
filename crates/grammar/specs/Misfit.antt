-- What refusals 14, 15 and 16 say: "the earliest token: .. 14 does it fit the grammar?" (01, Questions). Which of them it is, the language says.
-- Assumes nothing.
use Rattle.std.specs.Prelude.{ℕ, ◌≡◌, Bool, true, ◌&&◌, List, [], ◌∷◌, ◌++◌, T}
use Rattle.grammar.specs.Grammar.{Part}
use Rattle.grammar.specs.Trial.{Machine, St, ok, parse}

-- the trial of the rule accepts these tokens
abbrev pub Accepts : {Act R : Type 0} (M : Machine Act) (body : R → Part Act R) (r : R) (k : M.Kept) → List ℕ → Type 0
Accepts M body r k l = (s : St M) × (parse {M = M} body r (record { rest = l; kept = k }) ≡ ok s)

-- each of a list is so
abbrev pub every : {A : Type 0} → (A → Bool) → List A → Bool
every is [] = true
every is (x ∷ l) = is x && every is l

-- After w, t is the first that does not fit: w, with more that are tokens, is accepted, and w with t begins no list that is. Of one list this is so of one
-- place at most (proofs/Late.antt, `one_misfit`).
pub record Misfit {A : Type 0} (is_token : A → Bool) (Accepted : List A → Type 0) (w : List A) (t : A) : Type 0 where
  pub rest : List A
  pub are : T (every is_token rest)
  pub fits : Accepted (w ++ rest)
  pub unfit : (l : List A) → Accepted (w ++ (t ∷ l)) → ⊥
