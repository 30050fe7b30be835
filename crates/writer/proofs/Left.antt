-- What is left to look at when k nodes are passed, of which none has a hollow block.
-- Assumes nothing.
use mathlib.Core.Path.{◌≡◌, sym, ap, ◌∙◌}
use mathlib.Core.Bool.{Bool, true, false}
use mathlib.Core.List.{List}
use Prim.Native.Nat.{ℕ, suc, ◌+◌, ◌-◌, ◌<◌, ◌≤◌}
use native.Mathlib.Omega.{arith}
use borrow.Author.Tests.{eq-eqb, ne_eqb, eqb-true}
use lib.Dec.{eqb}
use Rattle.std.specs.Option.{option_eq}
use Rattle.std.specs.Prelude.{Option, Some as some, None, unwrap_or}
use Rattle.std.proofs.lemmas.Bool.{eqb-false}
use Rattle.ast.specs.Node.{none}
use Rattle.ast.specs.Words.{tabulate, node_at, nodes_of}
use Rattle.standard.specs.Hollow.{block_of, any_hollow_lem}

-- some block of the nodes from number k on is hollow
unfoldable pub left : List ℕ → ℕ → ℕ → Bool
left tree nodes k = any_hollow_lem (tabulate (node_at tree) k (nodes - k))

module _ (tree : List ℕ) (nodes : ℕ) where
  pub left_all : any_hollow_lem (nodes_of tree nodes) ≡ left tree nodes 0
  unfolding left nodes_of
  left_all = let e : nodes ≡ nodes - 0 = omega arith in ap (λ (m : ℕ). any_hollow_lem (tabulate (node_at tree) 0 m)) e

  pub left_none : (k : ℕ) → nodes ≤ k → left tree nodes k ≡ false
  unfolding left any_hollow_lem
  left_none k h = let e : nodes - k ≡ 0 = omega arith in rw e

  module _ (k : ℕ) (h : k < nodes) where
    more : nodes - k ≡ suc (nodes - (k + 1))
    more = omega arith

    pub left_found : block_of (node_at tree k) ≡ none → left tree nodes k ≡ true
    unfolding left any_hollow_lem
    left_found e = rw (more, eq-eqb (block_of (node_at tree k)) none e)

    pub left_passed : (block_of (node_at tree k) ≡ none → ⊥) → left tree nodes k ≡ left tree nodes (k + 1)
    unfolding left any_hollow_lem
    left_passed e = rw (more, ne_eqb (block_of (node_at tree k)) none e)

-- as the code compares it
pub found : (o : Option ℕ) (b : ℕ) {r : Bool} → r ≡ option_eq eqb o (some none) → unwrap_or o 0 ≡ b → r ≡ true → b ≡ none
found None b h u k = absurd (let e : ◌≡◌ {A = Bool} true false = sym k ∙ h in cc)
found (some x) b h u k = sym u ∙ eqb-true x none (sym h ∙ k)

pub passed : (o : Option ℕ) (b : ℕ) {r : Bool} → r ≡ option_eq eqb o (some none) → unwrap_or o 0 ≡ b → r ≡ false → b ≡ none → ⊥
passed None b h u k e = let z : 0 ≡ none = u ∙ e in omega arith
passed (some x) b h u k e = eqb-false x none (sym h ∙ k) (u ∙ e)
