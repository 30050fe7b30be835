-- The theorem: of every script that is accepted, by the trial or by the descent, the nodes are the layout of a proper tree.
-- Assumes nothing.
use mathlib.Core.Path.{◌≡◌, refl, subst}
use mathlib.Core.List.{List}
use Prim.Native.Nat.{ℕ}
use native.Mathlib.Omega.{arith}
use Rattle.grammar.specs.Trial.{Out, ok, fail, out, parse}
use Rattle.tokens.specs.Token.{Token}
use Rattle.ast.specs.Node.{Node}
use Rattle.pyhyeon.specs.Machine.{blank}
use Rattle.pyhyeon.specs.Rules.{Program, plain}
use Rattle.pyhyeon.specs.Action.{machine}
use Rattle.pyhyeon.specs.Reading.{Fits, Work, Accepted, start, tried, trial, descent}
use Rattle.pyhyeon.proofs.Agreement.{accepts}
use Rattle.trees.specs.Law.{TreeOf}
use Rattle.trees.proofs.Facts.{Over, FactOver}
use Rattle.trees.proofs.Grown.{grown_over}

module _ (source : List ℕ) (toks : List Token) where
  -- the machine of nodes itself, and the fact that says nothing
  itself : Over source toks
  itself = record { machine = machine source toks; nodes = λ k. k; shifts = λ c k. refl; runs = λ a k. refl }

  no_fact : FactOver source toks (machine source toks)
  no_fact = record {
    Of = λ σ f n st k. Unit {0};
    forgets = λ σ f n st k h. tt;
    token_keeps = λ σ f set n st l m c p k h. tt;
    act_keeps = λ a f t h n τ st w k p. tt;
  }

  of_fits : (ns : List Node) (o : Out (machine source toks)) → parse plain Program (start source toks) ≡ o → tried source toks o ≡ Fits ns → TreeOf source toks ns
  unfolding itself no_fact start
  of_fits ns (ok s) e f =
      let q : s.kept.nodes ≡ ns = cc in
      subst (TreeOf source toks) q (grown_over source toks itself no_fact blank s refl tt e).of
  of_fits ns fail e f = let z : ◌≡◌ {A = ℕ} 0 1 = cc in absurd (omega arith)
  of_fits ns out e f = let z : ◌≡◌ {A = ℕ} 0 1 = cc in absurd (omega arith)

  pub trial_tree : (ns : List Node) → trial source toks ≡ Fits ns → TreeOf source toks ns
  unfolding trial
  trial_tree ns e = of_fits ns (parse plain Program (start source toks)) refl e

  pub descent_tree : (w : Work) → descent source toks ≡ Accepted w → TreeOf source toks w.nodes
  descent_tree w e = trial_tree w.nodes (accepts source toks w e)
