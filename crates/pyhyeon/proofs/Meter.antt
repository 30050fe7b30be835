-- What the actions add to the nodes: no more than their prices. The signs at hand are counted with the nodes, since each will be one.
-- Assumes nothing.
use mathlib.Core.Path.{◌≡◌, refl}
use mathlib.Core.List.{List, [], ◌∷◌}
use Prim.Native.Nat.{ℕ, zero, suc, ◌+◌, ◌≤◌}
use native.Mathlib.Omega.{arith}
use lib.ListN.{length, get_or, drop, length-set, length-append}
use Rattle.grammar.specs.Limits.{Meter}
use Rattle.tokens.specs.Token.{Token}
use Rattle.ast.specs.Node.{Node}
use Rattle.pyhyeon.specs.Machine.{Value, token, node, signs, growing, list, chain, Kept, number, count, one, both, whole, top, write}
use Rattle.pyhyeon.specs.Action.{Action, mark, literal, named, alone, signs_none, signs_more, unary, binary, compare, compare_more, compared, list_none, list_one, list_join, list_done, enclose, empty, group, tuple, pair, attribute, apply, index, lambda, expr, assign, return, branch, elif, else, while, for, define, class, program, unary_node, wrap, bare, perform, machine}
use Rattle.pyhyeon.specs.Prices.{writes}

unfoldable pub owed : List Value → ℕ
unfolding count
owed [] = 0
owed (v ∷ vs) = count v + owed vs

owed_drop : (i : ℕ) (vs : List Value) → owed (drop i vs) ≤ owed vs
unfolding owed
owed_drop zero vs = omega arith
owed_drop (suc i) [] = omega arith
owed_drop (suc i) (v ∷ vs) = let h = owed_drop i vs in omega arith

owed_top : (vs : List Value) → count (get_or vs 0 (token 0)) + owed (drop 1 vs) ≤ owed vs
unfolding owed count
owed_top [] = omega arith
owed_top (v ∷ vs) = omega arith

owed_two : (vs : List Value) → count (get_or vs 0 (token 0)) + count (get_or vs 1 (token 0)) + owed (drop 2 vs) ≤ owed vs
unfolding owed count
owed_two [] = omega arith
owed_two (v ∷ []) = omega arith
owed_two (v ∷ w ∷ vs) = omega arith

count_one : (v : Value) → count (one v) ≤ count v
unfolding count one
count_one (token t) = omega arith
count_one (node n) = omega arith
count_one (signs f c) = omega arith
count_one (growing f l) = omega arith
count_one (list f) = omega arith
count_one (chain w l) = omega arith

count_both : (v w : Value) → count (both v w) ≤ count v
unfolding count both
count_both (token t) w = omega arith
count_both (node n) w = omega arith
count_both (signs f c) w = omega arith
count_both (growing f l) w = omega arith
count_both (list f) w = omega arith
count_both (chain w l) v = omega arith

count_whole : (v : Value) → count (whole v) ≤ count v
unfolding count whole
count_whole (token t) = omega arith
count_whole (node n) = omega arith
count_whole (signs f c) = omega arith
count_whole (growing f l) = omega arith
count_whole (list f) = omega arith
count_whole (chain w l) = omega arith

-- the nodes, and those to come of the signs at hand
unfoldable pub counted : Kept → ℕ
unfolding owed
counted k = length k.nodes + owed k.values

pub counted_nodes : (k : Kept) → length k.nodes ≤ counted k
unfolding counted
counted_nodes k = omega arith

module _ (source : List ℕ) (toks : List Token) where
  write_size : (i : ℕ) (x : Node) (k : Kept) → counted (write i x k) ≤ counted k + 1
  unfolding counted owed count
  write_size i x k = omega (arith, length-append k.nodes (x ∷ []), owed_drop i k.values)

  wrap_size : (c f : ℕ) (k : Kept) → counted (wrap source toks c f k) ≤ counted k + c
  unfolding wrap
  wrap_size zero f k = omega arith
  wrap_size (suc c) f k =
      let x = unary_node source toks (f + c) k in
      omega (arith, write_size 1 x k, wrap_size c f (write 1 x k))

  pub act_size : (a : Action) (k : Kept) → counted (perform source toks a k) ≤ counted k + writes a
  unfolding perform writes counted owed count
  act_size mark k = omega arith
  act_size literal k = write_size 0 _ k
  act_size (named kind) k = write_size 0 _ k
  act_size (alone kind) k = write_size 0 _ k
  act_size signs_none k = omega arith
  act_size signs_more k = omega (arith, owed_top k.values)
  act_size unary k = omega (arith, wrap_size (count (top 1 k)) (number (top 1 k)) (bare source toks k), owed_two k.values)
  act_size binary k = write_size 3 _ k
  act_size compare k = simp length-append (omega (arith, owed_drop 3 k.values))
  act_size compare_more k = simp length-append (omega (arith, owed_drop 3 k.values))
  act_size compared k = omega (arith, owed_top k.values, count_whole (top 0 k))
  act_size list_none k = omega arith
  act_size list_one k = omega (arith, owed_top k.values, count_one (top 0 k))
  act_size list_join k = simp length-set (omega (arith, owed_two k.values, count_both (top 1 k) (top 0 k)))
  act_size list_done k = omega (arith, owed_drop 1 k.values)
  act_size (enclose kind) k = write_size 2 _ k
  act_size (empty kind) k = write_size 1 _ k
  act_size group k = simp length-set (omega (arith, owed_two k.values))
  act_size tuple k = write_size 1 _ k
  act_size pair k = write_size 2 _ k
  act_size attribute k = write_size 1 _ k
  act_size apply k = write_size 2 _ k
  act_size index k = write_size 2 _ k
  act_size lambda k = write_size 3 _ k
  act_size expr k = write_size 1 _ k
  act_size assign k = simp (length-append, length-set) (omega (arith, owed_drop 2 k.values))
  act_size return k = write_size 2 _ k
  act_size branch k = write_size 5 _ k
  act_size elif k = write_size 3 _ k
  act_size else k = write_size 2 _ k
  act_size while k = write_size 3 _ k
  act_size for k = write_size 4 _ k
  act_size (define kind) k = write_size 4 _ k
  act_size class k = write_size 3 _ k
  act_size program k = write_size 1 _ k

  -- an action leaves the number of the next token
  wrap_at : (c f : ℕ) (k : Kept) → (wrap source toks c f k).at ≡ k.at
  unfolding wrap
  wrap_at zero f k = refl
  wrap_at (suc c) f k = wrap_at c f (write 1 (unary_node source toks (f + c) k) k)

  pub act_at : (a : Action) (k : Kept) → (perform source toks a k).at ≡ k.at
  unfolding perform
  act_at mark k = refl
  act_at literal k = refl
  act_at (named kind) k = refl
  act_at (alone kind) k = refl
  act_at signs_none k = refl
  act_at signs_more k = refl
  act_at unary k = wrap_at (count (top 1 k)) (number (top 1 k)) (bare source toks k)
  act_at binary k = refl
  act_at compare k = refl
  act_at compare_more k = refl
  act_at compared k = refl
  act_at list_none k = refl
  act_at list_one k = refl
  act_at list_join k = refl
  act_at list_done k = refl
  act_at (enclose kind) k = refl
  act_at (empty kind) k = refl
  act_at group k = refl
  act_at tuple k = refl
  act_at pair k = refl
  act_at attribute k = refl
  act_at apply k = refl
  act_at index k = refl
  act_at lambda k = refl
  act_at expr k = refl
  act_at assign k = refl
  act_at return k = refl
  act_at branch k = refl
  act_at elif k = refl
  act_at else k = refl
  act_at while k = refl
  act_at for k = refl
  act_at (define kind) k = refl
  act_at class k = refl
  act_at program k = refl

  pub shift_size : (t : ℕ) (k : Kept) → counted (record { at = k.at + 1; nodes = k.nodes; values = k.values }) ≤ counted k
  unfolding counted
  shift_size t k = omega arith

  unfoldable pub meter : Meter (machine source toks) writes
  meter = record { place = λ k. k.at; nodes = counted; place_shift = λ t k. refl; place_run = act_at; nodes_shift = shift_size; nodes_run = act_size }
