-- Parentheses by the numbers of the rules.
-- Assumes nothing.
use mathlib.Core.Path.{◌≡◌, refl, sym, ◌∙◌}
use mathlib.Core.Bool.{Bool, true, false, cond, not, beq}
use mathlib.Core.List.{List}
use Prim.Native.Nat.{ℕ, zero, suc, ◌≤◌, ◌<◌}
use native.Mathlib.Omega.{arith}
use borrow.Author.Tests.{lt-ltb, le-ltb}
use lib.Dec.{ltb}
use Rattle.source.proofs.Ranges.{at_each}
use Rattle.token.specs.Code.{LParen, RParen}
use Rattle.unparse.specs.Trees.{Op, a, Expr, Tree}
use Rattle.unparse.specs.Trees as tree
use Rattle.unparse.specs.Levels.{Level, T, X, E, O, A, C, S, P, U, G, F, same_level, pick, at_f, at_g, at_p, at_s, at_c, at_a, at_o, at_e, ladder, level_of}
use Rattle.standard.specs.Text.{within, fit_text, tuple_text, text}
use Rattle.writer_expr.specs.Levels.{level_from, rank, rank_of, text_at, text_of}

-- the levels that an expression has
abbrev Own : Level → Type 0
Own T = ⊥
Own X = ⊥
Own E = Unit {0}
Own O = Unit {0}
Own A = Unit {0}
Own C = Unit {0}
Own S = Unit {0}
Own P = Unit {0}
Own U = ⊥
Own G = Unit {0}
Own F = Unit {0}

own_level : (o : Op) → Own (level_of o)
own_level Op.or = tt
own_level Op.and = tt
own_level Op.plus = tt
own_level Op.minus = tt
own_level Op.star = tt
own_level Op.slashes = tt
own_level Op.slash = tt
own_level Op.percent = tt

-- a ladder chooses between two texts as it does between two truth values
module _ (own : Level) (w v : List ℕ) where
  rung : {Y : Type 0} (d : Dec Y) (b : Bool) {t : List ℕ} → t ≡ cond b w v → pick d w t ≡ cond (pick d true b) w v
  rung (yes e) b h = refl
  rung (no f) b h = h

  abbrev at : ((own : Level) → Bool → Bool → (Bool → Bool) → (Bool → Bool) → Bool) → Bool
  at f = f own true false (λ b. b) (λ b. b)

  at_F : at_f own w v (λ t. t) (λ t. t) ≡ cond (at at_f) w v
  at_F = rung (same_level own F) false refl

  at_G : at_g own w v (λ t. t) (λ t. t) ≡ cond (at at_g) w v
  at_G = rung (same_level own G) (at at_f) at_F

  at_P : at_p own w v (λ t. t) (λ t. t) ≡ cond (at at_p) w v
  at_P = rung (same_level own P) (at at_g) at_G

  at_S : at_s own w v (λ t. t) (λ t. t) ≡ cond (at at_s) w v
  at_S = rung (same_level own S) (at at_p) at_P

  at_C : at_c own w v (λ t. t) (λ t. t) ≡ cond (at at_c) w v
  at_C = rung (same_level own C) (at at_s) at_S

  at_A : at_a own w v (λ t. t) (λ t. t) ≡ cond (at at_a) w v
  at_A = rung (same_level own A) (at at_c) at_C

  at_O : at_o own w v (λ t. t) (λ t. t) ≡ cond (at at_o) w v
  at_O = rung (same_level own O) (at at_a) at_A

  at_E : at_e own w v (λ t. t) (λ t. t) ≡ cond (at at_e) w v
  at_E = rung (same_level own E) (at at_o) at_O

  chooses : (l : Level) → ladder own w v (λ t. t) (λ t. t) l ≡ cond (ladder own true false (λ b. b) (λ b. b) l) w v
  chooses T = at_E
  chooses X = at_E
  chooses E = at_E
  chooses O = at_O
  chooses A = at_A
  chooses C = at_C
  chooses S = at_S
  chooses P = at_P
  chooses U = at_G
  chooses G = at_G
  chooses F = at_F

-- it chooses the text in parentheses exactly where a rule behind its own is asked for
abbrev agrees : Level → ℕ → Bool
agrees own n = beq (ladder own true false (λ b. b) (λ b. b) (level_from n)) (not (ltb (rank own) n))

all_agree : (own : Level) → Own own → (n : ℕ) → n ≤ 7 → agrees own n ≡ true
all_agree T o n h = absurd o
all_agree X o n h = absurd o
all_agree E o n h = at_each (agrees E) 0 8 tt n (omega arith) (omega arith)
all_agree O o n h = at_each (agrees O) 0 8 tt n (omega arith) (omega arith)
all_agree A o n h = at_each (agrees A) 0 8 tt n (omega arith) (omega arith)
all_agree C o n h = at_each (agrees C) 0 8 tt n (omega arith) (omega arith)
all_agree S o n h = at_each (agrees S) 0 8 tt n (omega arith) (omega arith)
all_agree P o n h = at_each (agrees P) 0 8 tt n (omega arith) (omega arith)
all_agree U o n h = absurd o
all_agree G o n h = at_each (agrees G) 0 8 tt n (omega arith) (omega arith)
all_agree F o n h = at_each (agrees F) 0 8 tt n (omega arith) (omega arith)

turned_round : (p q : Bool) (w v : List ℕ) → beq p (not q) ≡ true → cond p w v ≡ cond q v w
turned_round true true w v h = absurd (let z : ◌≡◌ {A = ℕ} 0 1 = cc in omega arith)
turned_round true false w v h = refl
turned_round false true w v h = refl
turned_round false false w v h = absurd (let z : ◌≡◌ {A = ℕ} 0 1 = cc in omega arith)

fitted : (own : Level) → Own own → (n : ℕ) → n ≤ 7 → (w : List ℕ) → fit_text own (level_from n) w ≡ cond (ltb (rank own) n) (within LParen w RParen) w
unfolding fit_text
fitted own o n h w =
    chooses own w (within LParen w RParen) (level_from n)
    ∙ turned_round (ladder own true false (λ b. b) (λ b. b) (level_from n)) (ltb (rank own) n) w (within LParen w RParen) (all_agree own o n h)

-- as an E none stand
bare : (own : Level) → Own own → (w : List ℕ) → fit_text own X w ≡ w
bare own o w = let z : 0 ≤ rank own = omega arith in fitted own o 0 (omega arith) w ∙ rw (le-ltb (rank own) 0 z)

-- no rule by number is a whole statement's
no_whole : (n : ℕ) (w : List ℕ) → tuple_text (level_from n) w ≡ fit_text F (level_from n) (within LParen w RParen)
no_whole zero w = refl
no_whole (suc zero) w = refl
no_whole (suc (suc zero)) w = refl
no_whole (suc (suc (suc zero))) w = refl
no_whole (suc (suc (suc (suc zero)))) w = refl
no_whole (suc (suc (suc (suc (suc zero))))) w = refl
no_whole (suc (suc (suc (suc (suc (suc zero)))))) w = refl
no_whole (suc (suc (suc (suc (suc (suc (suc n))))))) w = refl

-- the law of an expression
fits : (own : Level) → Own own → (n : ℕ) → n ≤ 7 → (w : List ℕ) → fit_text own (level_from n) w ≡ cond (ltb (rank own) n) (within LParen (fit_text own X w) RParen) (fit_text own X w)
fits own o n h w = rw (bare own o w) (fitted own o n h w)

text_fits : (x : Tree (a Expr)) (n : ℕ) → n ≤ 7 → text_at n x ≡ cond (ltb (rank_of x) n) (within LParen (text_of x) RParen) (text_of x)
unfolding text rank_of
text_fits (tree.literal c l) n h = fits F tt n h _
text_fits (tree.variable x) n h = fits F tt n h _
text_fits (tree.unary g x) n h = fits G tt n h _
text_fits (tree.binary o x y) n h = fits (level_of o) (own_level o) n h _
text_fits (tree.compare c) n h = fits C tt n h _
text_fits (tree.attribute x m) n h = fits F tt n h _
text_fits (tree.apply x y) n h = fits F tt n h _
text_fits (tree.index x y) n h = fits F tt n h _
text_fits (tree.bracket b x) n h = fits F tt n h _
text_fits (tree.void v) n h = fits F tt n h _
text_fits (tree.dict x) n h = fits F tt n h _
text_fits (tree.set x) n h = fits F tt n h _
text_fits (tree.single x) n h = no_whole n _ ∙ fits F tt n h _
text_fits (tree.tuple x) n h = no_whole n _ ∙ fits F tt n h _
text_fits (tree.lambda x y) n h = fits E tt n h _

-- where parentheses stand, and where not, as the code tells by the rule r
pub fit_in : (x : Tree (a Expr)) (n r : ℕ) → rank_of x ≡ r → n ≤ 7 → n ≤ r → text_of x ≡ text_at n x
fit_in x n r e h k = let l : n ≤ rank_of x = omega arith in sym (text_fits x n h ∙ rw (le-ltb (rank_of x) n l))

pub fit_out : (x : Tree (a Expr)) (n r : ℕ) → rank_of x ≡ r → n ≤ 7 → r < n → within LParen (text_of x) RParen ≡ text_at n x
fit_out x n r e h k = let l : rank_of x < n = omega arith in sym (text_fits x n h ∙ rw (lt-ltb (rank_of x) n l))
