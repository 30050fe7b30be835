-- Writes one behind the other.
-- Assumes nothing.
use mathlib.Core.Path.{◌≡◌, refl, sym, ap, ◌∙◌, subst}
use mathlib.Core.List.{List, [], ◌∷◌, ◌++◌}
use Prim.Native.Nat.{ℕ, suc, ◌+◌, ◌≤◌}
use native.Mathlib.Omega.{arith}
use lib.ListN.{length, set, drop, length-append}
use lib.Seq.{sets, length-sets, sets-eq, length-take-le}
use Rattle.printing.specs.Wrote.{Wrote, Shows}

sets_append : (a b l : List ℕ) (i : ℕ) → sets l i (a ++ b) ≡ sets (sets l i a) (i + length a) b
sets_append [] b l i = let e : i + 0 ≡ i = omega arith in rw e
sets_append (x ∷ a) b l i =
    let e : i + suc (length a) ≡ suc i + length a = omega arith in
    rw e (sets_append a b (set l i x) (suc i))

-- the buffer stays as long as it was
pub long : (bytes out out' : List ℕ) (at r : ℕ) → Wrote bytes out at out' r → length out' ≡ length out
long bytes out out' at r w = ap length w.text ∙ length-sets out at bytes

pub none : (out : List ℕ) (at : ℕ) → at ≤ length out → Wrote [] out at out at
none out at h = record { text = refl; next = omega arith; within = h }

module _ {a b out out₁ out₂ : List ℕ} {at r₁ r₂ : ℕ} where
  pub both : Wrote a out at out₁ r₁ → Wrote b out₁ r₁ out₂ r₂ → Wrote (a ++ b) out at out₂ r₂
  both v w =
      record {
        text = w.text ∙ rw (v.text, v.next) (sym (sets_append a b out at));
        next = rw (length-append a b) (omega arith);
        within = let l = long a out out₁ at r₁ v in omega arith;
      }

-- the same bytes under another name
pub same : {a b out out' : List ℕ} {at r : ℕ} → a ≡ b → Wrote b out at out' r → Wrote a out at out' r
same {out = out} {out' = out'} {at = at} {r = r} e w = subst (λ (x : List ℕ). Wrote x out at out' r) (sym e) w

-- a write at the start
pub shows : {bytes out out' : List ℕ} {r : ℕ} → Wrote bytes out 0 out' r → Shows bytes out out' r
shows {bytes} {out} {out'} {r} w =
    let l = long bytes out out' 0 r w in
    let e : 0 + length bytes ≡ r = omega arith in
    record {
      text = w.text ∙ sets-eq bytes out 0 (omega arith) ∙ ap (λ (k : ℕ). bytes ++ drop k out) e;
      count = omega arith;
      within = omega arith;
      lent = sym (length-take-le r out' (omega arith));
    }

-- In a loop: what is left to write makes of the buffer now what all of it makes of it at first.
pub record Todo (all out₀ : List ℕ) (at₀ : ℕ) (rest out : List ℕ) (at : ℕ) : Type 0 where
  pub long : length out ≡ length out₀
  pub text : sets out at rest ≡ sets out₀ at₀ all
  pub next : at + length rest ≡ at₀ + length all
  pub within : at ≤ length out

pub todo_all : (all out : List ℕ) (at : ℕ) → at ≤ length out → Todo all out at all out at
todo_all all out at h = record { long = refl; text = refl; next = refl; within = h }

module _ (all out₀ : List ℕ) (at₀ : ℕ) (todo out : List ℕ) (at : ℕ) (t : Todo all out₀ at₀ todo out at) where
  -- a turn writes the first of what is left
  pub todo_step : (bytes rest out' : List ℕ) (at' : ℕ) → todo ≡ bytes ++ rest → Wrote bytes out at out' at' → Todo all out₀ at₀ rest out' at'
  todo_step bytes rest out' at' e w =
      let l = long bytes out out' at at' w in
      let k : length todo ≡ length bytes + length rest = ap length e ∙ length-append bytes rest in
      record {
        long = l ∙ t.long;
        text = rw (w.text, w.next) (sym (sets_append bytes rest out at)) ∙ ap (sets out at) (sym e) ∙ t.text;
        next = omega arith;
        within = omega arith;
      }

  pub todo_none : todo ≡ [] → Wrote all out₀ at₀ out at
  todo_none e =
      let k : length todo ≡ 0 = ap length e in
      record { text = ap (sets out at) (sym e) ∙ t.text; next = omega arith; within = omega arith }
