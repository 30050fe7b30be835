-- The standard text is well-formed UTF-8, where its names and literals are.
-- Assumes nothing.
use mathlib.Core.Path.{◌≡◌}
use mathlib.Core.List.{List, ◌∷◌}
use Prim.Native.Nat.{ℕ, suc, ◌*◌}
use native.Mathlib.Omega.{arith}
use Rattle.std.specs.Prelude.{None}
use Rattle.spacing.specs.Indentation.{step}
use Rattle.utf8.specs.Table.{utf8_error_lem}
use Rattle.token.specs.Code.{If, Elif, Else, While, For, In, Def, Return, Lambda, Equal, LParen, RParen, LBracket, RBracket, LBrace, RBrace, Colon, Comma, Dot}
use Rattle.token.specs.Code as token
use Rattle.unparse.specs.Trees.{Item, Sort, Bracket, Void, sign_code, op_code, comparison_code, alone_code}
use Rattle.unparse.specs.Trees as tree
use Rattle.unparse.specs.Levels.{Level, T, X, E, O, A, C, S, P, U, G, F, same_level, pick, at_f, at_g, at_p, at_s, at_c, at_a, at_o, at_e, level_of, below}
use Rattle.standard.specs.Text.{word_text, literal_text, operator, after, led, colon, comma, parting, within, fit_text, bracket_text, void_text, tuple_text, line, opening, text, standard_text}
use Rattle.standard.proofs.Fine as fine
use Rattle.standard.proofs.WellFormed.{Well, empty_well, ◌then◌, low_then, spaces_well, fixed_well, tee_well}

-- ---- blanks, brackets, lines

spaced : {w : List ℕ} → Well w → Well (32 ∷ w)
spaced h = low_then 32 (omega arith) h

operator_well : (c : ℕ) → Well (operator c)
operator_well c = spaced (fixed_well c then spaced empty_well)

after_well : (c : ℕ) {w : List ℕ} → Well w → Well (after c w)
after_well c h = fixed_well c then spaced h

led_well : (x : tree.Tree (Sort.list Item.Name)) {w : List ℕ} → Well w → Well (led x w)
led_well tree.nil h = h
led_well (tree.full x) h = spaced h

colon_well : {w : List ℕ} → Well w → Well (colon w)
colon_well h = fixed_well Colon then spaced h

comma_well : Well comma
comma_well = fixed_well Comma then spaced empty_well

parting_well : (i : Item) → Well (parting i)
parting_well Item.Expr = comma_well
parting_well Item.Name = comma_well
parting_well Item.Pair = comma_well
parting_well Item.Stmt = empty_well
parting_well Item.Elif = empty_well
parting_well Item.Def = empty_well

within_well : (c e : ℕ) {w : List ℕ} → Well w → Well (within c w e)
within_well c e h = fixed_well c then h then fixed_well e

bracket_well : (b : Bracket) {w : List ℕ} → Well w → Well (bracket_text b w)
bracket_well Bracket.squares h = within_well LBracket RBracket h
bracket_well Bracket.treeset h = tee_well then within_well LBrace RBrace h

void_well : (v : Void) → Well (void_text v)
void_well Void.no_pairs = within_well LBrace RBrace empty_well
void_well Void.no_members = within_well LParen RParen (fixed_well RParen)

line_well : (d : ℕ) {w : List ℕ} → Well w → Well (line d w)
line_well d h = spaces_well (step * d) then h then low_then 10 (omega arith) empty_well

opening_well : (d : ℕ) {w b : List ℕ} → Well w → Well b → Well (opening d w b)
opening_well d h k = line_well d (h then fixed_well Colon) then k

-- ---- the ladder of levels: the text, or the text in parentheses

picked : {Y : Type 0} (x : Dec Y) {v w : List ℕ} → Well v → Well w → Well (pick x v w)
picked (yes q) h k = h
picked (no q) h k = k

module _ (own : Level) {w : List ℕ} (h : Well w) where
  abbrev rung : (Level → List ℕ → List ℕ → (List ℕ → List ℕ) → (List ℕ → List ℕ) → List ℕ) → Type 0
  rung at = Well (at own w (within LParen w RParen) (λ v. v) (λ v. v))

  rung_F : rung at_f
  rung_F = picked (same_level own F) h (within_well LParen RParen h)

  rung_G : rung at_g
  rung_G = picked (same_level own G) h rung_F

  rung_P : rung at_p
  rung_P = picked (same_level own P) h rung_G

  rung_S : rung at_s
  rung_S = picked (same_level own S) h rung_P

  rung_C : rung at_c
  rung_C = picked (same_level own C) h rung_S

  rung_A : rung at_a
  rung_A = picked (same_level own A) h rung_C

  rung_O : rung at_o
  rung_O = picked (same_level own O) h rung_A

  rung_E : rung at_e
  rung_E = picked (same_level own E) h rung_O

  fitted : (l : Level) → Well (fit_text own l w)
  unfolding fit_text
  fitted T = rung_E
  fitted X = rung_E
  fitted E = rung_E
  fitted O = rung_O
  fitted A = rung_A
  fitted C = rung_C
  fitted S = rung_S
  fitted P = rung_P
  fitted U = rung_G
  fitted G = rung_G
  fitted F = rung_F

tuple_well : (l : Level) {w : List ℕ} → Well w → Well (tuple_text l w)
tuple_well l h = picked (same_level l T) h (fitted F (within_well LParen RParen h) l)

-- ---- trees

abbrev pub Fine : {s : Sort} → tree.Tree s → Type 0
Fine = fine.Fine (λ w l. Well (word_text w l)) (λ c l. Well (literal_text c l))

well : {s : Sort} (d : ℕ) (l : Level) (t : tree.Tree s) → Fine t → Well (text d l t)
unfolding text fine.Fine
well d l (tree.name w n) h = h
well d l (tree.literal c n) h = fitted F h l
well d l (tree.variable x) h = fitted F (well d X x h) l
well d l (tree.unary g x) h = fitted G (after_well (sign_code g) (well d G x h)) l
well d l (tree.binary o x y) h = fitted (level_of o) (well d (level_of o) x h.0 then operator_well (op_code o) then well d (below o) y h.1) l
well d l (tree.compare c) h = fitted C (well d X c h) l
well d l (tree.attribute x n) h = fitted F (well d F x h.0 then fixed_well Dot then well d X n h.1) l
well d l (tree.apply x y) h = fitted F (well d F x h.0 then within_well LParen RParen (well d X y h.1)) l
well d l (tree.index x y) h = fitted F (well d F x h.0 then within_well LBracket RBracket (well d X y h.1)) l
well d l (tree.bracket b x) h = fitted F (bracket_well b (well d X x h)) l
well d l (tree.void v) h = fitted F (void_well v) l
well d l (tree.dict x) h = fitted F (within_well LBrace RBrace (well d X x h)) l
well d l (tree.set x) h = fitted F (within_well LBrace RBrace (well d X x h)) l
well d l (tree.single x) h = tuple_well l (well d X x h then fixed_well Comma)
well d l (tree.tuple x) h = tuple_well l (well d X x h)
well d l (tree.lambda x y) h = fitted E (fixed_well Lambda then led_well x (well d X x h.0 then colon_well (well d X y h.1))) l
well d l (tree.pair x y) h = well d X x h.0 then colon_well (well d X y h.1)
well d l (tree.two o x y) h = well d S x h.0 then operator_well (comparison_code o) then well d S y h.1
well d l (tree.link x o y) h = well d X x h.0 then operator_well (comparison_code o) then well d S y h.1
well d l (tree.both x y) h = well d X x h.0 then comma_well then well d X y h.1
well d l (tree.also x y) h = well d X x h.0 then comma_well then well d X y h.1
well d l (tree.one x) h = well d X x h
well d l (tree.more {i} x y) h = well d X x h.0 then parting_well i then well d X y h.1
well d l tree.nil h = empty_well
well d l (tree.full x) h = well d X x h
well d l (tree.expression x) h = line_well d (well d T x h)
well d l (tree.assign x y) h = line_well d (well d T x h.0 then operator_well Equal then well d T y h.1)
well d l (tree.return x) h = line_well d (after_well Return (well d T x h))
well d l (tree.alone w) h = line_well d (fixed_well (alone_code w))
well d l (tree.branch x b y z) h =
    opening_well d (after_well If (well d X x h.0)) (well (suc d) X b h.2) then well d X y h.3 then well d X z h.4
well d l (tree.while x b) h = opening_well d (after_well While (well d X x h.0)) (well (suc d) X b h.2)
well d l (tree.for n x b) h = opening_well d (after_well For (well d X n h.0 then spaced (after_well In (well d X x h.1)))) (well (suc d) X b h.3)
well d l (tree.define x) h = well d X x h
well d l (tree.class n x) h = opening_well d (after_well token.Class (well d X n h.0)) (well (suc d) X x h.1)
well d l (tree.def n x b) h = opening_well d (after_well Def (well d X n h.0 then within_well LParen RParen (well d X x h.1))) (well (suc d) X b h.3)
well d l (tree.elif x b) h = opening_well d (after_well Elif (well d X x h.0)) (well (suc d) X b h.2)
well d l tree.without h = empty_well
well d l (tree.otherwise b) h = opening_well d (fixed_well Else) (well (suc d) X b h.1)
well d l (tree.program x) h = well d X x h

pub text_well_formed : (t : tree.Tree Sort.script) → Fine t → utf8_error_lem (standard_text t) ≡ None
unfolding standard_text
text_well_formed t h = (well 0 X t h).holds
