-- What is written, read again with the machine of erased trees, comes to the tree.
-- Assumes nothing.
use mathlib.Core.Path.{◌≡◌, ap, ◌∙◌}
use mathlib.Core.List.{List, ◌∷◌, ◌++◌}
use Prim.Native.Nat.{ℕ, ◌≤◌}
use Rattle.grammar.specs.Descent.{Answer, done, descend}
use Rattle.grammar.proofs.Sets.{Sees}
use Rattle.pyhyeon.specs.Rules.{Rule}
use Rattle.pyhyeon.specs.Rules as rule
use Rattle.pyhyeon.specs.Tables.{pyhyeon, follow}
use Rattle.unparse.specs.Trees.{Load, Sort, script, Tree}
use Rattle.unparse.specs.Levels.{Level, X}
use Rattle.unparse.proofs.Write.{write, need, print}
use Rattle.unparse.specs.Values.{Value}
use Rattle.unparse.proofs.Machine.{Kept, keep, trees, loads}
use Rattle.unparse.proofs.Top as written
use Rattle.unparse.proofs.Made.{Made}
use Rattle.unparse.proofs.Built.{built}

-- The descent by the rule r of the text of t, with `rest` behind it and the loads of its tokens at hand, leaves `rest` and one more value, of which `get` is z.
pub record Back {s : Sort} {Z : Type 0} (get : Value → Z) (z : Z) (l : Level) (r : Rule) (t : Tree s) (m : ℕ) (rest : List ℕ) (ahead : List Load) (c : ℕ) (n : Load) (st : List Value) : Type 0 where
  pub count : ℕ
  pub code : ℕ
  pub load : Load
  pub value : Value
  pub is : descend {M = trees} pyhyeon m r 0 (record { rest = print l t ++ rest; kept = keep (loads (write l t) ahead) c n st }) ≡
      done count (record { rest = rest; kept = keep ahead code load (value ∷ st) })
  pub same : get value ≡ z

module _ {s : Sort} {Z : Type 0} {get : Value → Z} {z : Z} {l : Level} {r : Rule} {t : Tree s} where
  back : written.Returns trees l r t → Made get z (write l t) → (m : ℕ) → need l t ≤ m → (rest : List ℕ) (ahead : List Load) (c : ℕ) (n : Load) (st : List Value) → Sees (follow r) rest → Back get z l r t m rest ahead c n st
  back f g m le rest ahead c n st h =
      let x = f m le rest (keep (loads (write l t) ahead) c n st) h 0 in
      let y = g.at ahead c n st in
      record {
        count = x.count;
        code = y.code;
        load = y.load;
        value = y.top;
        is = x.is ∙ ap {B = Answer trees} (λ (k : Kept). done x.count (record { rest = rest; kept = k })) y.is;
        same = y.good;
      }

-- a program
pub for_Program : (t : Tree script) (m : ℕ) → need X t ≤ m → (rest : List ℕ) (ahead : List Load) (c : ℕ) (n : Load) (st : List Value) → Sees (follow rule.Program) rest → Back (λ v. v.result) t X rule.Program t m rest ahead c n st
for_Program t = back (written.for_Program t) (built X t)
