-- Writes from the back.
-- Assumes nothing.
use mathlib.Core.Path.{◌≡◌, refl, sym, ap, ◌∙◌, subst}
use mathlib.Core.List.{List, [], ◌++◌, append_assoc, append-nil}
use Prim.Native.Nat.{ℕ, ◌+◌, ◌-◌, ◌≤◌, min}
use native.Mathlib.Omega.{arith}
use lib.ListN.{length, drop, length-append}
use Rattle.writing.specs.Wrote.{Wrote, Empty}
use Rattle.writing.specs.declared.back.Back.{Back}

pub nothing : (o : Back) → Wrote [] o o
nothing o = record { next = omega arith; text = λ h. refl; long = refl; same = refl }

-- one write, and another before it
pub then : {a b : List ℕ} {o p q : Back} → Wrote a o p → Wrote b p q → Wrote (b ++ a) o q
then {a} {b} {o} v w = record {
  next = rw (length-append b a) (omega arith);
  text = λ h. w.text h ∙ ap (λ (l : List ℕ). b ++ l) (v.text (omega arith)) ∙ sym (append_assoc b a (drop (o.at - 1) o.out.now));
  long = w.long ∙ v.long;
  same = w.same ∙ v.same;
}

-- the same bytes under another name
pub same : {a b : List ℕ} {o p : Back} → a ≡ b → Wrote a o p → Wrote b o p
same {o = o} {p = p} e w = subst (λ (x : List ℕ). Wrote x o p) e w

-- In a loop: of the text t the end was put, and this is left of it.
pub record Left (t left : List ℕ) (o n : Back) : Type 0 where
  pub done : List ℕ
  pub parts : t ≡ left ++ done
  pub wrote : Wrote done o n

pub left_all : (t : List ℕ) (o : Back) → Left t t o o
left_all t o = record { done = []; parts = sym (append-nil t); wrote = nothing o }

pub left_less : {t left rest b : List ℕ} {o p q : Back} → Left t left o p → left ≡ rest ++ b → Wrote b p q → Left t rest o q
left_less {rest = rest} {b = b} l e w = record {
  done = b ++ l.done;
  parts = l.parts ∙ ap (λ (x : List ℕ). x ++ l.done) e ∙ append_assoc rest b l.done;
  wrote = then l.wrote w;
}

pub left_none : {t left : List ℕ} {o n : Back} → Left t left o n → left ≡ [] → Wrote t o n
left_none l e = same (sym (l.parts ∙ ap (λ (x : List ℕ). x ++ l.done) e)) l.wrote

-- Whoever begins with `new` stays within the room for the longest text, and one more, whatever is written.
pub within_room : {t before : List ℕ} {o n : Back} → Empty o before → Wrote t o n → n.at ≤ min (length n.out.now) 65536 + 1
within_room e w = rw (w.long, e.holds, w.next, e.start) (omega arith)
