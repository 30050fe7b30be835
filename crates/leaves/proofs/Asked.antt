-- What code hands on of what was asked for.
-- Assumes nothing.
use mathlib.Core.Path.{◌≡◌, refl}
use mathlib.Core.Bool.{true, false, cond, ◌&&◌, ◌||◌}
use mathlib.Core.Bool as bool
use mathlib.Core.List.{List, [], ◌∷◌}
use Prim.Native.Nat.{ℕ}
use native.Mathlib.Omega.{arith}
use lib.Dec.{T, eqb, eqb→eq}
use lib.ListN.{drop}
use Rattle.grammar.specs.Sets.{within}
use Rattle.token.specs.Code.{Int, Bool}
use Rattle.pyhyeon.specs.Tables.{first_f, first_e}
use Rattle.pyhyeon.specs.Missing.{missing, wrong, fault_number, asks_operand}
use Rattle.source.specs.declared.refusal.Reason.TheVariants as reason
use Rattle.source.specs.Reasons.{reason_of}
use Rattle.leaves.specs.declared.State.{State}
use Rattle.leaves.specs.declared.Refused.TheVariants as refused
use Rattle.leaves.specs.Contract.{why, stopped, asked_reason, asked_for}

-- a token by itself is no expression or operand
pub one_reason : (c : ℕ) → asked_reason (c ∷ []) ≡ reason.Misfit
one_reason c = test (eqb Int c) (eqb Bool c) (λ h. eqb→eq Int c h) (λ h. eqb→eq Bool c h)
  where
    test : (a b : bool.Bool) → (T a → Int ≡ c) → (T b → Bool ≡ c) → reason_of (fault_number (cond (((a || false) && ((b || false) && within (drop 2 first_f) (c ∷ []))) && within (c ∷ []) first_e) missing wrong)) ≡ reason.Misfit
    test false b f g = refl
    test true false f g = refl
    test true true f g = let x = f tt in let y = g tt in absurd (omega arith)

-- what has that reason is handed on as that case
pub misfit_asked : (asked : List ℕ) {s : State} → asked_reason asked ≡ reason.Misfit → asked_for asked s ≡ refused.Misfit s
misfit_asked asked {s} = test (asks_operand asked)
  where
    test : (b : bool.Bool) → reason_of (fault_number (cond b missing wrong)) ≡ reason.Misfit → cond b (refused.Missing s) (refused.Misfit s) ≡ refused.Misfit s
    test true e = absurd (let z : ◌≡◌ {A = ℕ} 0 1 = cc in omega arith)
    test false e = refl

pub one_asked : (c : ℕ) {s : State} → asked_for (c ∷ []) s ≡ refused.Misfit s
one_asked c = misfit_asked (c ∷ []) (one_reason c)

-- what it is, and where
pub asked_why : (asked : List ℕ) (s : State) → why (asked_for asked s) ≡ asked_reason asked
asked_why asked s = test (asks_operand asked)
  where
    test : (b : bool.Bool) → why (cond b (refused.Missing s) (refused.Misfit s)) ≡ reason_of (fault_number (cond b missing wrong))
    test true = refl
    test false = refl

pub asked_where : (asked : List ℕ) (s : State) → stopped (asked_for asked s) ≡ s
asked_where asked s = test (asks_operand asked)
  where
    test : (b : bool.Bool) → stopped (cond b (refused.Missing s) (refused.Misfit s)) ≡ s
    test true = refl
    test false = refl

-- what stands for the same at one state does so at each
pub same_asked : (asked set : List ℕ) (s t : State) → asked_for asked s ≡ asked_for set s → asked_for asked t ≡ asked_for set t
same_asked asked set s t = test (asks_operand asked) (asks_operand set)
  where
    test : (a b : bool.Bool) → cond a (refused.Missing s) (refused.Misfit s) ≡ cond b (refused.Missing s) (refused.Misfit s) → cond a (refused.Missing t) (refused.Misfit t) ≡ cond b (refused.Missing t) (refused.Misfit t)
    test true true e = refl
    test false false e = refl
    test true false e = absurd (let z : ◌≡◌ {A = ℕ} 0 1 = cc in omega arith)
    test false true e = absurd (let z : ◌≡◌ {A = ℕ} 0 1 = cc in omega arith)
