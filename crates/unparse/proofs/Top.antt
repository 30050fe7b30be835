-- The theorem: what is written, read again by the descent, comes to the steps that were written. Of every machine.
-- Assumes nothing.
use mathlib.Core.Path.{◌≡◌, refl, ap, sym, ◌∙◌}
use mathlib.Core.List.{List, [], ◌++◌, append_assoc}
use Prim.Native.Nat.{ℕ, ◌≤◌}
use Rattle.grammar.specs.Trial.{Machine}
use Rattle.grammar.specs.Descent.{descend}
use Rattle.grammar.specs.Grammar.{call}
use Rattle.grammar.proofs.Sets.{Sees}
use Rattle.grammar.proofs.Ways.{Way, Comes}
use Rattle.pyhyeon.specs.Action.{Action}
use Rattle.pyhyeon.specs.Rules.{Rule}
use Rattle.pyhyeon.specs.Rules as rule
use Rattle.pyhyeon.specs.Tables.{pyhyeon, follow}
use Rattle.unparse.specs.Trees.{Sort, script, Tree}
use Rattle.unparse.specs.Levels.{Level, X}
use Rattle.unparse.proofs.Write.{Steps, put, run, ◌›◌, symbols, perform, write, need, print}
use Rattle.unparse.proofs.Language.{reads}
use Rattle.unparse.proofs.Written.{holds}

-- the symbols of steps, and then those behind them
pub before : (e : Steps) (l : List ℕ) → symbols e l ≡ symbols e [] ++ l
before (put c w) l = refl
before (run c) l = refl
before (d › e) l = before d (symbols e l) ∙ ap (λ (x : List ℕ). symbols d [] ++ x) (before e l) ∙ sym (append_assoc (symbols d []) (symbols e []) l) ∙ ap (λ (x : List ℕ). x ++ l) (sym (before d (symbols e [])))

-- Reading the text of t by the rule r, from k on, with any tokens behind it that may follow, comes to what its steps come to, and leaves those tokens.
abbrev pub Returns : {s : Sort} → Machine Action → Level → Rule → Tree s → Type 0
Returns M l r t = (m : ℕ) → need l t ≤ m → (rest : List ℕ) (k : M.Kept) → Sees (follow r) rest → (n : ℕ) →
    Comes {M = M} (descend pyhyeon m r n (record { rest = print l t ++ rest; kept = k })) (record { rest = rest; kept = perform M (write l t) k })

module _ {M : Machine Action} where
  returns : {s : Sort} (l : Level) (r : Rule) (t : Tree s) →
      ((m : ℕ) → need l t ≤ m → (rest : List ℕ) (k : M.Kept) → Sees (follow r) rest → Way pyhyeon M m (call r) (symbols (write l t) rest) k rest (perform M (write l t) k)) → Returns M l r t
  unfolding print
  returns l r t w m le rest k h n = rw (← before (write l t) rest) (reads (w m le rest k h) h n)

  pub for_Program : (t : Tree script) → Returns M X rule.Program t
  unfolding follow
  for_Program t = returns X rule.Program t (λ m le rest k h. holds M X t m le rest k h.holds)
