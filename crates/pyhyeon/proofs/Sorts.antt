-- Every action finds at hand values of the sorts that it takes, and each rule leaves what it says: so an accepted script leaves one node.
-- Assumes nothing.
use mathlib.Core.Path.{◌≡◌, refl, ap, ◌∙◌}
use mathlib.Core.List.{List, [], ◌∷◌, ◌++◌, map}
use Prim.Native.Nat.{ℕ, zero, suc}
use lib.ListN.{length, get_or, drop}
use Rattle.grammar.specs.Descent.{descend}
use Rattle.grammar.specs.Flow.{bind, where_same, strip, alike, effect, again, flow, Flows}
use Rattle.grammar.proofs.Ends.{Ends}
use Rattle.grammar.proofs.Flow.{descend_leaves}
use Rattle.tokens.specs.Token.{Token}
use Rattle.pyhyeon.specs.Machine.{Value, token, node, signs, growing, list, chain, Kept, number, count, one, both, whole, top}
use Rattle.pyhyeon.specs.Action.{Action, mark, literal, named, alone, signs_none, signs_more, unary, binary, compare, compare_more, compared, list_none, list_one, list_join, list_done, enclose, empty, group, tuple, pair, attribute, apply, index, lambda, expr, assign, return, branch, elif, else, while, for, define, class, program, wrap, bare, perform}
use Rattle.pyhyeon.specs.Rules.{Rule, Program, Line, Simple, Block, Class, E, O, A, C, S, P, U, F, plain}
use Rattle.pyhyeon.specs.Tables.{joined, depth, pyhyeon}
use Rattle.pyhyeon.specs.Reading.{start}
use Rattle.pyhyeon.specs.Sorts.{Sort, a-token, a_node, a_signs, a_growing, a_chain, same-sort, sort_of, sorts, taking, leaving, effects}

-- the rules, as the trial and as the descent take them
pub plain_flows : (r : Rule) → Flows same-sort effects plain r
unfolding flow effect strip bind where_same alike again plain
plain_flows Program = refl
plain_flows Line = refl
plain_flows Simple = refl
plain_flows Block = refl
plain_flows Class = refl
plain_flows E = refl
plain_flows O = refl
plain_flows A = refl
plain_flows C = refl
plain_flows S = refl
plain_flows P = refl
plain_flows U = refl
plain_flows F = refl

pub joined_flows : (r : Rule) → Flows same-sort effects joined r
unfolding flow effect strip bind where_same alike again plain joined
joined_flows Program = refl
joined_flows Line = refl
joined_flows Simple = refl
joined_flows Block = refl
joined_flows Class = refl
joined_flows E = refl
joined_flows O = refl
joined_flows A = refl
joined_flows C = refl
joined_flows S = refl
joined_flows P = refl
joined_flows U = refl
joined_flows F = refl

-- values by their sorts: those below, and one by its place
below : (π : List Sort) {τ : List Sort} (vs : List Value) → map sort_of vs ≡ π ++ τ → map sort_of (drop (length π) vs) ≡ τ
below [] vs e = e
below (i ∷ π) [] e = cc
below (i ∷ π) {τ} (v ∷ vs) e = let t : map sort_of vs ≡ π ++ τ = cc in below π vs t

sort-at : (i : ℕ) (vs : List Value) → sort_of (get_or vs i (token 0)) ≡ get_or (map sort_of vs) i a-token
sort-at i [] = refl
sort-at zero (v ∷ vs) = refl
sort-at (suc i) (v ∷ vs) = sort-at i vs

one_sort : (v : Value) → sort_of v ≡ a_node → sort_of (one v) ≡ a_growing
unfolding one
one_sort (token t) e = cc
one_sort (node n) e = refl
one_sort (signs f c) e = cc
one_sort (growing f l) e = refl
one_sort (list f) e = cc
one_sort (chain w l) e = cc

both_sort : (v w : Value) → sort_of v ≡ a_growing → sort_of (both v w) ≡ a_growing
unfolding both
both_sort (token t) w e = cc
both_sort (node n) w e = cc
both_sort (signs f c) w e = cc
both_sort (growing f l) w e = refl
both_sort (list f) w e = cc
both_sort (chain x l) w e = cc

whole_sort : (v : Value) → sort_of v ≡ a_chain → sort_of (whole v) ≡ a_node
unfolding whole
whole_sort (token t) e = cc
whole_sort (node n) e = refl
whole_sort (signs f c) e = cc
whole_sort (growing f l) e = cc
whole_sort (list f) e = cc
whole_sort (chain w l) e = refl

-- a value in place of those that were taken
placed : (π : List Sort) {i : Sort} {τ : List Sort} (k : Kept) → sorts k ≡ π ++ τ → i ∷ map sort_of (drop (length π) k.values) ≡ i ∷ τ
placed π {i} k e = ap (λ (l : List Sort). i ∷ l) (below π k.values e)

-- the same where its sort is shown first
placed_as : (π : List Sort) {i j : Sort} {τ : List Sort} (k : Kept) → sorts k ≡ π ++ τ → i ≡ j → i ∷ map sort_of (drop (length π) k.values) ≡ j ∷ τ
placed_as π {i} {j} k e h = ap (λ (x : Sort). x ∷ map sort_of (drop (length π) k.values)) h ∙ placed π k e

-- the sort of the value at place i
top_sort : (i : ℕ) {σ : List Sort} (k : Kept) → sorts k ≡ σ → sort_of (top i k) ≡ get_or σ i a-token
top_sort i k e = sort-at i k.values ∙ ap (λ (l : List Sort). get_or l i a-token) e

module _ (source : List ℕ) (toks : List Token) where
  wrap_sorts : {τ : List Sort} (c f : ℕ) (k : Kept) → sorts k ≡ a_node ∷ τ → sorts (wrap source toks c f k) ≡ a_node ∷ τ
  unfolding wrap
  wrap_sorts zero f k e = e
  wrap_sorts (suc c) f k e = wrap_sorts c _ _ (placed (a_node ∷ []) k e)

  act_sorts : (a : Action) (τ : List Sort) (k : Kept) → sorts k ≡ taking a ++ τ → sorts (perform source toks a k) ≡ leaving a ∷ τ
  unfolding perform
  act_sorts mark τ k e = placed [] k e
  act_sorts literal τ k e = placed [] k e
  act_sorts (named kind) τ k e = placed [] k e
  act_sorts (alone kind) τ k e = placed [] k e
  act_sorts signs_none τ k e = placed [] k e
  act_sorts signs_more τ k e = placed (a_signs ∷ []) k e
  act_sorts unary τ k e =
      wrap_sorts (count (top 1 k)) (number (top 1 k)) (bare source toks k)
      (placed_as (taking unary) k e (top_sort 0 k e))
  act_sorts binary τ k e = placed (taking binary) k e
  act_sorts compare τ k e = placed (taking compare) k e
  act_sorts compare_more τ k e = placed (taking compare_more) k e
  act_sorts compared τ k e = placed_as (taking compared) k e (whole_sort (top 0 k) (top_sort 0 k e))
  act_sorts list_none τ k e = placed [] k e
  act_sorts list_one τ k e = placed_as (taking list_one) k e (one_sort (top 0 k) (top_sort 0 k e))
  act_sorts list_join τ k e = placed_as (taking list_join) k e (both_sort (top 1 k) (top 0 k) (top_sort 1 k e))
  act_sorts list_done τ k e = placed (taking list_done) k e
  act_sorts (enclose kind) τ k e = placed (taking (enclose kind)) k e
  act_sorts (empty kind) τ k e = placed (taking (empty kind)) k e
  act_sorts group τ k e = placed_as (taking group) k e (top_sort 0 k e)
  act_sorts tuple τ k e = placed (taking tuple) k e
  act_sorts pair τ k e = placed (taking pair) k e
  act_sorts attribute τ k e = placed (taking attribute) k e
  act_sorts apply τ k e = placed (taking apply) k e
  act_sorts index τ k e = placed (taking index) k e
  act_sorts lambda τ k e = placed (taking lambda) k e
  act_sorts expr τ k e = placed (taking expr) k e
  act_sorts assign τ k e = placed (taking assign) k e
  act_sorts return τ k e = placed (taking return) k e
  act_sorts branch τ k e = placed (taking branch) k e
  act_sorts elif τ k e = placed (taking elif) k e
  act_sorts else τ k e = placed (taking else) k e
  act_sorts while τ k e = placed (taking while) k e
  act_sorts for τ k e = placed (taking for) k e
  act_sorts (define kind) τ k e = placed (taking (define kind)) k e
  act_sorts class τ k e = placed (taking class) k e
  act_sorts program τ k e = placed (taking program) k e

  -- an accepted script leaves one node at hand
  pub at_the_end : Ends (λ _ s. sorts s.kept ≡ a_node ∷ []) (λ _ _. Unit {0}) (descend pyhyeon depth Program 0 (start source toks))
  unfolding start
  at_the_end = descend_leaves same-sort effects pyhyeon joined_flows sorts (λ t k. refl) act_sorts depth Program [] 0 (start source toks) refl
