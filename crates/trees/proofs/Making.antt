-- What each action makes of the trees at hand.
-- Assumes nothing.
use Prim.Native.Nat.{ℕ, zero, suc, ◌+◌, ◌-◌}
use mathlib.Core.Path.{refl}
use mathlib.Core.List.{List, [], ◌∷◌, ◌++◌}
use lib.ListN.{length}
use Rattle.literal.specs.declared.Literal.{Literal}
use Rattle.literal.specs.declared.Literal.TheVariants as L
use Rattle.tokens.specs.Token.{Token}
use Rattle.ast.specs.Kind as kind
use Rattle.ast.specs.Node as field
use Rattle.ast.specs.Literal.{leaf_of_lem}
use Rattle.ast.specs.Operator.{unary_op_lem, binary_op_lem}
use Rattle.pyhyeon.specs.Sorts.{Sort, a_signs, taking, leaving}
use Rattle.pyhyeon.specs.Action.{Action, mark, literal, named, alone, signs_none, signs_more, unary, binary, compare, compare_more, compared, list_none, list_one, list_join, list_done, enclose, empty, group, tuple, pair, attribute, apply, index, lambda, expr, assign, return, branch, elif, else, while, for, define, class, program, token_at_lem}
use Rattle.trees.specs.Tree.{single, row, Tree, node, chained, done, unused, word, child, kids, other, nil, full, one, first, link}
use Rattle.trees.proofs.Editing.{start, start_c, start_g, final, widen, joined}
use Rattle.trees.proofs.Stack.{Stack, ◌▸◌}
use Rattle.trees.proofs.Apt.{Apt}

-- the last fields of a row, which hold nothing
abbrev pub free₁ : Tree (row (field.unused ∷ []))
free₁ = unused done

abbrev pub free₂ : Tree (row (field.unused ∷ field.unused ∷ []))
free₂ = unused free₁

abbrev pub free₃ : Tree (row (field.unused ∷ field.unused ∷ field.unused ∷ []))
free₃ = unused free₂

-- a literal whose token stands from s to e
unfoldable pub leaf : ℕ → ℕ → Literal → Tree single
leaf s e (L.Bool b) = let f = leaf_of_lem s e (L.Bool b) in node kind.Bool s e refl (word f.p free₃)
leaf s e (L.Int z) = let f = leaf_of_lem s e (L.Int z) in node kind.Int s e refl (word f.p (word f.q free₂))
leaf s e (L.String a n) = node kind.String s e refl (word a (word n free₂))
leaf s e (L.Float x) = let f = leaf_of_lem s e (L.Float x) in node kind.Float s e refl (word f.p (word f.q (word s (word e done))))
leaf s e L.None = node kind.None s e refl (unused free₃)

module _ (source : List ℕ) (toks : List Token) where
  abbrev pub from : ℕ → ℕ
  from t = (token_at_lem source toks t).start

  abbrev pub upto : ℕ → ℕ
  upto t = (token_at_lem source toks t).end

  abbrev pub code : ℕ → ℕ
  code t = (token_at_lem source toks t).code

  -- the Unary nodes of c signs from the token f on, the last sign first, around x; the nodes end at z
  unfoldable pub wrapped : ℕ → ℕ → ℕ → Tree single → Tree single
  unfolding unary_op_lem
  wrapped z zero f x = x
  wrapped z (suc c) f x = wrapped z c f (node kind.Unary (from (f + c)) z refl (word (unary_op_lem (code (f + c))) (child x free₂)))

  -- what an action makes of the values at hand, after `at` tokens
  unfoldable pub make : (a : Action) → Apt a → ℕ → {τ : List Sort} → Stack (taking a ++ τ) → Stack (leaving a ∷ τ)
  unfolding leaf wrapped start start_c start_g final widen joined binary_op_lem
  make mark h at st = (at - 1) ▸ st
  make literal h at st = leaf (from (at - 1)) (upto (at - 1)) (token_at_lem source toks (at - 1)).literal ▸ st
  make (named k) h at st = node k (from (at - 1)) (upto (at - 1)) h (word (from (at - 1)) (word (upto (at - 1)) free₂)) ▸ st
  make (alone k) h at st = node k (from (at - 1)) (upto (at - 1)) h (unused free₃) ▸ st
  make signs_none h at st = ◌▸◌ {i = a_signs} (at, 0) st
  make signs_more h at (v ▸ st) = ◌▸◌ {i = a_signs} (v.0, v.1 + 1) st
  make unary h at (x ▸ v ▸ st) = wrapped (upto (at - 1)) v.1 v.0 x ▸ st
  make binary h at (y ▸ t ▸ x ▸ st) = node kind.Binary (start x) (upto (at - 1)) refl (word (binary_op_lem (code t)) (child x (child y free₁))) ▸ st
  make compare h at (y ▸ t ▸ x ▸ st) = first (start x) (upto (at - 1)) (binary_op_lem (code t)) x y ▸ st
  make compare_more h at (y ▸ t ▸ c ▸ st) = link (start_c c) (upto (at - 1)) (start (final c)) (upto (at - 1)) (binary_op_lem (code t)) c y ▸ st
  make compared h at (c ▸ st) = chained c ▸ st
  make list_none h at st = nil ▸ st
  make list_one h at (x ▸ st) = one x ▸ st
  make list_join h at (m ▸ l ▸ st) = joined l m ▸ st
  make list_done h at (l ▸ st) = full l ▸ st
  make (enclose k) h at (l ▸ t ▸ st) = node k (from t) (upto (at - 1)) h (kids l free₃) ▸ st
  make (empty k) h at (t ▸ st) = node k (from t) (upto (at - 1)) h (kids nil free₃) ▸ st
  make group h at (x ▸ t ▸ st) = widen (from t) (upto (at - 1)) x ▸ st
  make tuple h at (l ▸ st) = node kind.Tuple (start_g l) (upto (at - 1)) refl (kids (full l) free₃) ▸ st
  make pair h at (y ▸ x ▸ st) = node kind.Pair (start x) (upto (at - 1)) refl (child x (child y free₂)) ▸ st
  make attribute h at (x ▸ st) = node kind.Attribute (start x) (upto (at - 1)) refl (child x (word (from (at - 1)) (word (upto (at - 1)) free₁))) ▸ st
  make apply h at (l ▸ x ▸ st) = node kind.Call (start x) (upto (at - 1)) refl (child x (kids l free₂)) ▸ st
  make index h at (y ▸ x ▸ st) = node kind.Index (start x) (upto (at - 1)) refl (child x (child y free₂)) ▸ st
  make lambda h at (x ▸ l ▸ t ▸ st) = node kind.Lambda (from t) (upto (at - 1)) refl (kids l (child x free₂)) ▸ st
  make expr h at (x ▸ st) = node kind.Expr (start x) (upto (at - 1)) refl (child x free₃) ▸ st
  make assign h at (y ▸ x ▸ st) = node kind.Assign (start x) (upto (at - 1)) refl (child (widen (start x) (upto (at - 1)) x) (child y free₂)) ▸ st
  make return h at (x ▸ t ▸ st) = node kind.Return (from t) (upto (at - 1)) refl (child x free₃) ▸ st
  make branch h at (o ▸ m ▸ l ▸ x ▸ t ▸ st) = node kind.If (from t) (upto (at - 1)) refl (child x (kids l (kids m (other o done)))) ▸ st
  make elif h at (l ▸ x ▸ t ▸ st) = node kind.Elif (from t) (upto (at - 1)) refl (child x (kids l free₂)) ▸ st
  make else h at (l ▸ t ▸ st) = node kind.Else (from t) (upto (at - 1)) refl (kids l free₃) ▸ st
  make while h at (l ▸ x ▸ t ▸ st) = node kind.While (from t) (upto (at - 1)) refl (child x (kids l free₂)) ▸ st
  make for h at (l ▸ x ▸ i ▸ t ▸ st) = node kind.For (from t) (upto (at - 1)) refl (word (from i) (word (upto i) (child x (kids l done)))) ▸ st
  make (define k) h at (m ▸ l ▸ i ▸ t ▸ st) = node k (from t) (upto (at - 1)) h (word (from i) (word (upto i) (kids l (kids m done)))) ▸ st
  make class h at (l ▸ i ▸ t ▸ st) = node kind.Class (from t) (upto (at - 1)) refl (word (from i) (word (upto i) (kids l free₁))) ▸ st
  make program h at (l ▸ st) = node kind.Program 0 (length source) refl (kids l free₃) ▸ st
