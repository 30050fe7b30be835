-- The text of a tree is read as the signs that the tree is written as, where its leaves are spelled as they should be and every block has a statement.
-- Assumes nothing.
use mathlib.Core.Path.{◌≡◌, refl, ap, ◌∙◌, subst}
use mathlib.Core.Bool.{true}
use mathlib.Core.List.{List, [], ◌∷◌, ◌++◌, append-nil, append_assoc}
use Prim.Native.Nat.{ℕ, suc}
use Rattle.token.specs.Code.{If, Elif, Else, While, For, In, Def, Return, Lambda, Equal, LParen, RParen, LBracket, RBracket, LBrace, RBrace, Colon, Comma, Dot, Newline, Eof}
use Rattle.token.specs.Code as token
use Rattle.pyhyeon.specs.Action as act
use Rattle.rendered.proofs.Lexeme.{apart, is_fixed}
use Rattle.rendered.proofs.Beside.{dot_apart}
use Rattle.rendered.specs.Spelled.{spelled_fixed}
use Rattle.unparse.specs.Trees.{Item, Sort, Sign, Op, Comparison, Alone, Bracket, Void, sign_code, op_code, comparison_code, alone_code, literal_code}
use Rattle.unparse.specs.Trees as tree
use Rattle.unparse.specs.Levels.{Level, T as Lt, X, E, C, S, G, F, level_of, below}
use Rattle.unparse.proofs.Write.{Steps, run, ◌›◌, voided, ending, write}
use Rattle.unparse.proofs.Write as write
use Rattle.standard.specs.Text.{word_text, literal_text, colon, comma, parting, bracket_text, void_text, opening, text, standard_text}
use Rattle.standard.proofs.Signs.{sign, plain, signs}
use Rattle.standard.proofs.Scanning.{Spelt, Reading, Scanned, scanning}
use Rattle.standard.proofs.Spells.{SpeltName, spelt_starts, fixed_spelt, tee_spelt}
use Rattle.standard.proofs.Phrases.{Follow, Ends, Lines, Maybe, space_ends, space_apart, none_ends, free_ends, apart_join, free_then, ends_then, token_ends, lines_maybe, no_lines, lines_then, maybe_then, line_is, block_is, whole_is}
use Rattle.standard.proofs.Keys.{Phrase, key_ends, mark_free, closes, after_ends, colon_ends, comma_free, comma_apart, within_free, ◌then◌by◌, leaf, fixed_starts, keyed, bracketed, between_is}
use Rattle.standard.proofs.Ladder.{fitted, tuple_is}
use Rattle.standard.proofs.Fine.{Filled}
use Rattle.standard.proofs.Fine as fine

-- each leaf is spelled as what it says
abbrev pub Fine : {s : Sort} → tree.Tree s → Type 0
Fine = fine.Fine SpeltName (λ c l. Spelt (literal_text c l) (sign (literal_code c) l))

-- ---- what is shown of a tree of each sort, by its text w and its signs f

record Body (b : tree.Tree (Sort.list Item.Stmt)) (d : ℕ) (w : List ℕ) (f : Follow) : Type 0 where
  maybe : Maybe d w f
  lines : Filled b → Lines d w f

abbrev Claim : (s : Sort) → tree.Tree s → ℕ → List ℕ → Follow → Type 0
Claim (Sort.a Item.Expr) t d w f = Phrase w f
Claim (Sort.a Item.Name) t d w f = Phrase w f
Claim (Sort.a Item.Pair) t d w f = Phrase w f
Claim (Sort.a Item.Stmt) t d w f = Lines d w f
Claim (Sort.a Item.Elif) t d w f = Lines d w f
Claim (Sort.a Item.Def) t d w f = Lines d w f
Claim (Sort.some Item.Expr) t d w f = Phrase w f
Claim (Sort.some Item.Name) t d w f = Phrase w f
Claim (Sort.some Item.Pair) t d w f = Phrase w f
Claim (Sort.some Item.Stmt) t d w f = Lines d w f
Claim (Sort.some Item.Elif) t d w f = Lines d w f
Claim (Sort.some Item.Def) t d w f = Lines d w f
Claim (Sort.list Item.Expr) t d w f = Ends w f
Claim (Sort.list Item.Name) t d w f = Ends w f
Claim (Sort.list Item.Pair) t d w f = Ends w f
Claim (Sort.list Item.Stmt) t d w f = Body t d w f
Claim (Sort.list Item.Elif) t d w f = Maybe d w f
Claim (Sort.list Item.Def) t d w f = Maybe d w f
Claim Sort.chain t d w f = Phrase w f
Claim Sort.several t d w f = Phrase w f
Claim Sort.other t d w f = Maybe d w f
Claim Sort.script t d w f = Maybe d w f

sign-code : (g : Sign) → is_fixed (sign_code g) ≡ true
sign-code Sign.negation = refl
sign-code Sign.negative = refl
sign-code Sign.positive = refl

op-code : (o : Op) → is_fixed (op_code o) ≡ true
op-code Op.or = refl
op-code Op.and = refl
op-code Op.plus = refl
op-code Op.minus = refl
op-code Op.star = refl
op-code Op.slashes = refl
op-code Op.slash = refl
op-code Op.percent = refl

comparison-code : (o : Comparison) → is_fixed (comparison_code o) ≡ true
comparison-code Comparison.less = refl
comparison-code Comparison.less_equal = refl
comparison-code Comparison.greater = refl
comparison-code Comparison.greater_equal = refl
comparison-code Comparison.equal = refl
comparison-code Comparison.not_equal = refl

alone-code : (w : Alone) → is_fixed (alone_code w) ≡ true
alone-code Alone.break = refl
alone-code Alone.continue = refl
alone-code Alone.pass = refl

-- a member behind the others; a key and what stands behind its colon; what the colon of a block stands behind
listed : {v w : List ℕ} {f g : Follow} → Phrase v f → Phrase w g → Phrase (v ++ (comma ++ w)) (λ ss. f (plain Comma ∷ g ss))
listed {w} p q = p then free_then comma_free q.ends by comma_apart w

paired : {v w : List ℕ} {f g : Follow} → Phrase v f → Phrase w g → Phrase (v ++ colon w) (λ ss. f (plain Colon ∷ g ss))
paired {w} p q = p then colon_ends q.ends by apart_join (32 ∷ w) (closes Colon refl)

-- what stands behind a lambda: its colon, or its names and their colon
lambda_is : {w : List ℕ} {g : Follow} → Phrase w g → Phrase (spelled_fixed Lambda ++ colon w) (λ ss. plain Lambda ∷ plain Colon ∷ g ss)
lambda_is {w} q = record { starts = fixed_starts Lambda refl (colon w); ends = ends_then (key_ends Lambda refl) (apart_join (32 ∷ w) (closes Colon refl)) (colon_ends q.ends) }

-- a name behind a dot
dotted : {v : List ℕ} {f : Follow} → Phrase v f → (n : tree.Tree (Sort.a Item.Name)) → Fine n → (d : ℕ) → Phrase (v ++ (spelled_fixed Dot ++ text d X n)) (λ ss. f (plain Dot ∷ signs (write X n) ss))
unfolding text write fine.Fine
dotted p (tree.name w l) h d = p then free_then (mark_free Dot refl refl) (token_ends h.0) by record { holds = λ r. ap apart (append_assoc (spelled_fixed Dot) (word_text w l) r) ∙ dot_apart (word_text w l) r h.1 }

void_is : (v : Void) → Phrase (void_text v) (signs (voided v))
void_is Void.no_pairs = bracketed LBrace RBrace refl refl refl refl refl none_ends
void_is Void.no_members = bracketed LParen RParen refl refl refl refl refl (key_ends RParen refl)

bracket_is : (b : Bracket) (e : Steps) {w : List ℕ} → Ends w (signs e) → Phrase (bracket_text b w) (signs (write.bracketed b e))
bracket_is Bracket.squares e h = bracketed LBracket RBracket refl refl refl refl refl h
bracket_is Bracket.treeset e {w} h =
    leaf tee_spelt then free_ends (within_free LBrace RBrace refl refl refl refl refl h) by apart_join (w ++ spelled_fixed RBrace) (closes LBrace refl)

-- ---- lists, by what they have as members

one_is : (i : Item) (x : tree.Tree (Sort.a i)) (d : ℕ) (e : Steps) (w : List ℕ) → Claim (Sort.a i) x d w (signs e) → Claim (Sort.some i) (tree.one x) d w (signs (ending i e))
one_is Item.Expr x d e w h = h
one_is Item.Name x d e w h = h
one_is Item.Pair x d e w h = h
one_is Item.Stmt x d e w h = h
one_is Item.Elif x d e w h = h
one_is Item.Def x d e w h = h

more_is : (i : Item) (x : tree.Tree (Sort.some i)) (y : tree.Tree (Sort.a i)) (d : ℕ) (e e' : Steps) (v w : List ℕ) → Claim (Sort.some i) x d v (signs e) → Claim (Sort.a i) y d w (signs e') →
    Claim (Sort.some i) (tree.more x y) d (v ++ (parting i ++ w)) (signs (e › write.parted i (ending i e' › run act.list_join)))
more_is Item.Expr x y d e e' v w f g = listed f g
more_is Item.Name x y d e e' v w f g = listed f g
more_is Item.Pair x y d e e' v w f g = listed f g
more_is Item.Stmt x y d e e' v w f g = lines_then f (lines_maybe g)
more_is Item.Elif x y d e e' v w f g = lines_then f (lines_maybe g)
more_is Item.Def x y d e e' v w f g = lines_then f (lines_maybe g)

nil_is : (i : Item) (d : ℕ) → Claim (Sort.list i) tree.nil d [] (λ ss. ss)
nil_is Item.Expr d = none_ends
nil_is Item.Name d = none_ends
nil_is Item.Pair d = none_ends
nil_is Item.Stmt d = record { maybe = no_lines; lines = λ z. absurd z }
nil_is Item.Elif d = no_lines
nil_is Item.Def d = no_lines

full_is : (i : Item) (x : tree.Tree (Sort.some i)) (d : ℕ) (e : Steps) (w : List ℕ) → Claim (Sort.some i) x d w (signs e) → Claim (Sort.list i) (tree.full x) d w (signs (e › run act.list_done))
full_is Item.Expr x d e w h = h.ends
full_is Item.Name x d e w h = h.ends
full_is Item.Pair x d e w h = h.ends
full_is Item.Stmt x d e w h = record { maybe = lines_maybe h; lines = λ z. h }
full_is Item.Elif x d e w h = lines_maybe h
full_is Item.Def x d e w h = lines_maybe h

-- a line that opens a block, and the block
opens : {d : ℕ} {v w : List ℕ} {f g : Follow} → Phrase v f → Lines (suc d) w g →
    Lines d (opening d v w) (λ ss. f (plain Colon ∷ plain Newline ∷ plain token.Indent ∷ g (plain token.Dedent ∷ ss)))
opens p b = let q = p then key_ends Colon refl by closes Colon refl in block_is q.starts q.ends b

claims : {s : Sort} (d : ℕ) (l : Level) (t : tree.Tree s) → Fine t → Claim s t d (text d l t) (signs (write l t))
unfolding text write fine.Fine
claims d l (tree.name w n) h = leaf h.0
claims d l (tree.literal c n) h = fitted F _ (leaf h) l
claims d l (tree.variable x) h = fitted F _ (claims d X x h) l
claims d l (tree.unary g x) h = fitted G _ (keyed (sign_code g) (sign-code g) (claims d G x h).ends) l
claims d l (tree.binary o x y) h = fitted (level_of o) _ (between_is (op_code o) (op-code o) (claims d (level_of o) x h.0) (claims d (below o) y h.1)) l
claims d l (tree.compare c) h = fitted C _ (claims d X c h) l
claims d l (tree.attribute x n) h = fitted F _ (dotted (claims d F x h.0) n h.1 d) l
claims d l (tree.apply x y) h = fitted F _ (claims d F x h.0 then free_ends (within_free LParen RParen refl refl refl refl refl (claims d X y h.1)) by apart_join _ (closes LParen refl)) l
claims d l (tree.index x y) h = fitted F _ (claims d F x h.0 then free_ends (within_free LBracket RBracket refl refl refl refl refl (claims d X y h.1).ends) by apart_join _ (closes LBracket refl)) l
claims d l (tree.bracket b x) h = fitted F _ (bracket_is b (write X x) (claims d X x h)) l
claims d l (tree.void v) h = fitted F _ (void_is v) l
claims d l (tree.dict x) h = fitted F _ (bracketed LBrace RBrace refl refl refl refl refl (claims d X x h).ends) l
claims d l (tree.set x) h = fitted F _ (bracketed LBrace RBrace refl refl refl refl refl (claims d X x h).ends) l
claims d l (tree.single x) h = tuple_is l _ (claims d X x h then key_ends Comma refl by closes Comma refl)
claims d l (tree.tuple x) h = tuple_is l _ (claims d X x h)
claims d l (tree.lambda tree.nil y) h = fitted E _ (lambda_is (claims d X y h.1)) l
claims d l (tree.lambda (tree.full x) y) h = fitted E _ (keyed Lambda refl (paired (claims d X x h.0) (claims d X y h.1)).ends) l
claims d l (tree.pair x y) h = paired (claims d X x h.0) (claims d X y h.1)
claims d l (tree.two o x y) h = between_is (comparison_code o) (comparison-code o) (claims d S x h.0) (claims d S y h.1)
claims d l (tree.link x o y) h = between_is (comparison_code o) (comparison-code o) (claims d X x h.0) (claims d S y h.1)
claims d l (tree.both x y) h = listed (claims d X x h.0) (claims d X y h.1)
claims d l (tree.also x y) h = listed (claims d X x h.0) (claims d X y h.1)
claims d l (tree.one {i} x) h = one_is i x d (write X x) _ (claims d X x h)
claims d l (tree.more {i} x y) h = more_is i x y d (write X x) (write X y) _ _ (claims d X x h.0) (claims d X y h.1)
claims d l (tree.nil {i}) h = nil_is i d
claims d l (tree.full {i} x) h = full_is i x d (write X x) _ (claims d X x h)
claims d l (tree.expression x) h = line_is (claims d Lt x h).starts (claims d Lt x h).ends
claims d l (tree.assign x y) h = let p = between_is Equal refl (claims d Lt x h.0) (claims d Lt y h.1) in line_is p.starts p.ends
claims d l (tree.return x) h = let p = keyed Return refl (claims d Lt x h).ends in line_is p.starts p.ends
claims d l (tree.alone w) h = line_is (spelt_starts (fixed_spelt (alone_code w) (alone-code w))) (key_ends (alone_code w) (alone-code w))
claims d l (tree.branch x b y z) h =
    lines_then (opens (keyed If refl (claims d X x h.0).ends) ((claims (suc d) X b h.2).lines h.1)) (maybe_then (claims d X y h.3) (claims d X z h.4))
claims d l (tree.while x b) h = opens (keyed While refl (claims d X x h.0).ends) ((claims (suc d) X b h.2).lines h.1)
claims d l (tree.for n x b) h =
    opens (keyed For refl (ends_then (claims d X n h.0).ends (space_apart _) (space_ends (after_ends In refl (claims d X x h.1).ends)))) ((claims (suc d) X b h.3).lines h.2)
claims d l (tree.define x) h = claims d X x h
claims d l (tree.class n x) h = opens (keyed token.Class refl (claims d X n h.0).ends) (claims (suc d) X x h.1)
claims d l (tree.def n x b) h =
    opens (keyed Def refl (ends_then (claims d X n h.0).ends (apart_join _ (closes LParen refl)) (free_ends (within_free LParen RParen refl refl refl refl refl (claims d X x h.1))))) ((claims (suc d) X b h.3).lines h.2)
claims d l (tree.elif x b) h = opens (keyed Elif refl (claims d X x h.0).ends) ((claims (suc d) X b h.2).lines h.1)
claims d l tree.without h = no_lines
claims d l (tree.otherwise b) h = lines_maybe (opens (leaf (fixed_spelt Else refl)) ((claims (suc d) X b h.1).lines h.0))
claims d l (tree.program x) h = (claims d X x h).maybe

-- so the standard text is scanned to tokens with the signs that the tree is written as
pub text_scanned : (t : tree.Tree Sort.script) → Fine t → Scanned (standard_text t) (signs (write X t) (plain Eof ∷ []))
unfolding standard_text
text_scanned t h = scanning (subst (λ (l : List ℕ). Reading true 0 l (signs (write X t) (plain Eof ∷ []))) (append-nil (text 0 X t)) (whole_is (claims 0 X t h)))
