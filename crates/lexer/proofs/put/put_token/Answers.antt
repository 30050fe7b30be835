-- `lexer::put::put_token` meets its contract: what is copied over three words is those three stores.
use native.Mathlib.Omega.{arith}
use mathlib.Core.Path.{◌≡◌, sym}
use mathlib.Core.List.{List, [], ◌∷◌, append_assoc}
use Prim.Native.Nat.{ℕ, ◌+◌, ◌-◌, ◌*◌, ◌≤◌}
use lib.ListN.{length}
use lib.Seq.{sets, sets-eq, drop-drop}
use borrow.Rule.Slice.PartMut.{put_mid}
use Rattle.lexer.proofs.put.put_token.Goals as goal

copied : (l vs : List ℕ) (o n : ℕ) → n ≡ length vs → o + length vs ≤ length l → put_mid o n l vs ≡ sets l o vs
copied l vs o n e h = rw (e, drop-drop, ← append_assoc) (sym (sets-eq vs l o h))

pub returns : goal.returns
returns c =
    let a = c.args in
    let w = c.requires.0 in
    rw c.copy_from_slice.ensures.after (copied a.tokens.now (a.code ∷ a.start ∷ a.end ∷ []) (3 * a.count) (3 * a.count + 3 - 3 * a.count) (omega arith) (omega arith))
