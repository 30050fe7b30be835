-- What is known of the values at hand and of the token that was taken last, by their roles.
-- Assumes nothing.
use mathlib.Core.Path.{◌≡◌, refl, sym, subst}
use mathlib.Core.Bool.{Bool, true, false, cond}
use mathlib.Core.List.{List, [], ◌∷◌, map}
use Prim.Native.Nat.{ℕ, zero, suc, ◌+◌, ◌-◌, ◌<◌}
use native.Mathlib.Omega.{arith}
use native.Mathlib.Decide.{ℕ_discrete}
use lib.Dec.{T}
use Rattle.grammar.specs.Sets.{mem, within}
use Rattle.grammar.proofs.Sets.{mem_within}
use Rattle.tokens.specs.Token.{Token}
use Rattle.pyhyeon.specs.Symbol.{Tee, is_tee, symbol}
use Rattle.pyhyeon.specs.Sorts.{Sort, a-token, a_node, a_signs, a_growing, a_list, a_chain}
use Rattle.pyhyeon.specs.Rules.{names, comparisons, sign_set}
use Rattle.pyhyeon.specs.Action.{token_at_lem}
use Rattle.trees.specs.Tree.{single, chain, growing, whole, Tree, nil}
use Rattle.trees.specs.Roles.{Cat, nothing, expression, else, words, Token_of, FewG, Few, Proper, p_node, p_word, p_child}
use Rattle.trees.proofs.Flow.{Since, still, took, later, after, lastly}
use Rattle.trees.proofs.Stack.{Val, Stack, bottom, ◌▸◌}
use Rattle.trees.proofs.Apt.{usable, exact}
use Rattle.trees.proofs.Making.{code, wrapped}
use Rattle.trees.proofs.Moves.{Mark, plain, arithmetic, comparing, called, filled, Role, arithmetic_codes, marked}
use Rattle.trees.proofs.Proper.{Peopled, proper₂, signs_are}

module _ (source : List ℕ) (toks : List Token) where
  -- the symbol of token n
  abbrev sign : ℕ → ℕ
  sign n = symbol source (token_at_lem source toks n)

  -- a code that is not that of `t`
  pub code_in : (n : ℕ) (l : List ℕ) → (T (mem Tee l) → ⊥) → T (mem (sign n) l) → T (mem (code source toks n) l)
  code_in n l f m = go (is_tee source (token_at_lem source toks n)) m
    where
      go : (b : Bool) → T (mem (cond b Tee (code source toks n)) l) → T (mem (code source toks n) l)
      go true m = absurd (f m)
      go false m = m

  -- what the mark of a token says
  abbrev pub Marked : Mark → ℕ → Type 0
  Marked plain t = Unit {0}
  Marked arithmetic t = T (mem (code source toks t) arithmetic_codes)
  Marked comparing t = T (mem (code source toks t) comparisons)
  Marked called t = Token_of source toks names t
  Marked filled t = Unit {0}

  -- a value of this sort, category and mark; m tokens were taken when it was made
  abbrev pub Is : (s : Sort) → Cat → Mark → ℕ → Val s → Type 0
  Is a-token c b m t = Marked b t
  Is a_node c b m x = Proper source toks single (c ∷ []) x
  Is a_signs c b m v = (v.0 + v.1 ≡ m) × ((i : ℕ) → i < v.1 → T (mem (code source toks (v.0 + i)) sign_set))
  Is a_growing c b m l = Proper source toks growing (c ∷ []) l × (c ≡ else → FewG l)
  Is a_list c b m l = Proper source toks whole (c ∷ []) l × (c ≡ nothing → l ≡ nil) × (c ≡ else → Few l) × Peopled b l
  Is a_chain c b m x = Proper source toks chain (expression ∷ []) x

  abbrev pub base : Role → Sort
  base r = r.sort

  abbrev pub Roled : (σ : List Role) → ℕ → Stack (map base σ) → Type 0
  Roled [] m bottom = Unit {0}
  Roled (r ∷ σ) m (v ▸ st) = Is r.sort r.cat r.mark m v × ((k : ℕ) × Roled σ k st)

  -- n tokens are taken, and m were when the last action was done
  abbrev pub Known : Since → ℕ → ℕ → Type 0
  Known still m n = m ≡ n
  Known (took set) m n = (m + 1 ≡ n) × Token_of source toks set (n - 1)
  Known (later set) m n = T (usable set) → Token_of source toks set (n - 1)

  pub known_after : (f : Since) (set : List ℕ) (m n : ℕ) → Token_of source toks set n → Known f m n → Known (after f set) m (n + 1)
  known_after f set m n h k = go f k
    where
      last : Token_of source toks set (n + 1 - 1)
      last = let e : n + 1 - 1 ≡ n = omega arith in subst (Token_of source toks set) (sym e) h

      go : (f : Since) → Known f m n → Known (after f set) m (n + 1)
      go still k = (omega arith, last)
      go (took s) k = λ u. last
      go (later s) k = λ u. last

  -- the last token
  pub last_in : (f : Since) (m n : ℕ) → Known f m n → T (usable (lastly f)) → Token_of source toks (lastly f) (n - 1)
  last_in still m n k e = absurd e
  last_in (took set) m n k e = k.1
  last_in (later set) m n k e = k e

  pub exactly : (f : Since) (m n : ℕ) → Known f m n → T (exact f) → (m + 1 ≡ n) × Token_of source toks (lastly f) (n - 1)
  exactly still m n k e = absurd e
  exactly (took set) m n k e = k
  exactly (later set) m n k e = absurd e

  -- of a larger set
  pub token_in : (set l : List ℕ) (t : ℕ) → T (within set l) → Token_of source toks set t → Token_of source toks l t
  token_in set l t w (h, m) = (h, mem_within (sign t) set l w m)

  pub marks : (set : List ℕ) (t : ℕ) → Token_of source toks set t → Marked (marked set) t
  marks set t (b, h) =
      go (within set arithmetic_codes) (within set comparisons) (within set names)
      (λ w. code_in t arithmetic_codes (λ u. u) (mem_within (sign t) set arithmetic_codes w h))
      (λ w. code_in t comparisons (λ u. u) (mem_within (sign t) set comparisons w h))
      (λ w. token_in set names t w (b, h))
    where
      go : (x y z : Bool) → (T x → Marked arithmetic t) → (T y → Marked comparing t) → (T z → Marked called t) → Marked (cond x arithmetic (cond y comparing (cond z called plain))) t
      go true y z p q r = p tt
      go false true z p q r = q tt
      go false false true p q r = r tt
      go false false false p q r = tt

  -- one sign more
  pub more_signs : (m n f c : ℕ) → m + 1 ≡ n → T (mem (code source toks (n - 1)) sign_set) → f + c ≡ m → ((i : ℕ) → i < c → T (mem (code source toks (f + i)) sign_set)) →
      (i : ℕ) → i < c + 1 → T (mem (code source toks (f + i)) sign_set)
  more_signs m n f c e t q h i l = go (ℕ_discrete i c)
    where
      go : Dec (i ≡ c) → T (mem (code source toks (f + i)) sign_set)
      go (yes y) = let e₁ : n - 1 ≡ f + i = omega arith in rw e₁ at t
      go (no y) = h i (omega arith)

  pub wrapped_proper : (z c f : ℕ) (x : Tree single) → ((i : ℕ) → i < c → T (mem (code source toks (f + i)) sign_set)) → Proper source toks single (expression ∷ []) x → Proper source toks single (expression ∷ []) (wrapped source toks z c f x)
  unfolding wrapped words
  wrapped_proper z zero f x h p = p
  wrapped_proper z (suc c) f x h p =
      wrapped_proper z c f _ (λ i l. h i (omega arith)) (p_node refl (signs_are (code source toks (f + c)) (h c (omega arith))) (λ u. absurd u) (p_word (p_child p (proper₂ source toks))))
