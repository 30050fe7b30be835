-- What a text is read as: a derivation, from bytes to the signs of tokens, of which each step is the scanner's.
-- Assumes nothing.
use mathlib.Core.Path.{◌≡◌, refl, ap, ap₂, sym, ◌∙◌}
use mathlib.Core.Bool.{Bool, true, false, cond}
use mathlib.Core.List.{List, [], ◌∷◌, ◌++◌, map, map-append, append_assoc}
use Prim.Native.Nat.{ℕ, zero, suc, ◌+◌, ◌-◌, ◌*◌, ◌≤◌, zero-le}
use native.Mathlib.Omega.{arith}
use lib.Dec.{ltb}
use lib.ListN.{length, drop, replicate, length-append, length-replicate}
use Rattle.source.specs.Bytes.{part}
use Rattle.source.proofs.Lists.{length_at, part_at, drop_more}
use Rattle.token.specs.Code.{Indent, Dedent, Newline, Eof}
use Rattle.tokens.specs.Token.{Token, token}
use Rattle.literal.specs.declared.Literal.{Literal}
use Rattle.spacing.specs.Indentation.{step}
use Rattle.lexer.specs.Value.{text_of}
use Rattle.lexer.specs.Scan.{scanned, mark, lexer, token_list}
use Rattle.lexer.specs.declared.Lexer.{Lexer}
use Rattle.lexer.proofs.Enough.{from, list_is}
use Rattle.rendered.proofs.Lexeme.{Reads, parted}
use Rattle.rendered.proofs.Steps.{space_step, token_step, feed_step}
use Rattle.rendered.proofs.LineSteps.{level_marks, mark_count, Starts, line_step, end_step}
use Rattle.standard.proofs.Loads.{load}
use Rattle.standard.proofs.Signs.{Sign, plain}
use Rattle.standard.proofs.SignIn.{sign_in}

-- The bytes w alone are a token with this sign, wherever they stand, and with whatever text before and after that of the token.
pub record Spelt (w : List ℕ) (g : Sign) : Type 0 where
  pub code : ℕ
  pub literal : ℕ → Literal
  pub text : List ℕ
  pub reads : Reads code w literal text
  pub says : (s before after : List ℕ) (at : ℕ) → part s at (at + length w) ≡ w → at + length w ≤ length s →
      sign_in s (before ++ (text ++ after)) (token code at (at + length w) (literal (length before))) ≡ g

-- the marks between a line at the level `top` and one at `level`
abbrev pub marks : ℕ → ℕ → List Sign
marks top level = cond (ltb top level) (plain Indent ∷ []) (replicate (top - level) (plain Dedent))

-- At the start of a line (true) or within one, where `top` levels are open.
pub data Reading : Bool → ℕ → List ℕ → List Sign → Type 0 where
  r_space : {top : ℕ} {r : List ℕ} {ss : List Sign} → Reading false top r ss → Reading false top (32 ∷ r) ss
  r_token : {top : ℕ} {w r : List ℕ} {g : Sign} {ss : List Sign} → Spelt w g → parted w r ≡ true → Reading false top r ss → Reading false top (w ++ r) (g ∷ ss)
  r_feed : {top : ℕ} {r : List ℕ} {ss : List Sign} → Reading true top r ss → Reading false top (10 ∷ r) (plain Newline ∷ ss)
  r_line : {top level : ℕ} {r : List ℕ} {ss : List Sign} → level ≤ suc top → Starts r → Reading false level r ss → Reading true top (replicate (step * level) 32 ++ r) (marks top level ++ ss)
  r_end : {top : ℕ} → Reading true top [] (replicate top (plain Dedent) ++ plain Eof ∷ [])

-- ---- each is what the scanner reads

-- from this state on the tokens have these signs, whatever text stands before
pub record From (s : List ℕ) (x : Lexer) (ss : List Sign) : Type 0 where
  pub tokens : List Token
  pub text : List ℕ
  pub scans : from s x ≡ scanned tokens text
  pub says : (before : List ℕ) → length before ≡ x.used → map (sign_in s (before ++ text)) tokens ≡ ss

marks_say : (s text : List ℕ) (a e n : ℕ) → map (sign_in s text) (replicate n (mark Dedent a e)) ≡ replicate n (plain Dedent)
unfolding load
marks_say s text a e zero = refl
marks_say s text a e (suc n) = ap (λ (l : List Sign). plain Dedent ∷ l) (marks_say s text a e n)

level_says : (s text : List ℕ) (top level at : ℕ) → map (sign_in s text) (level_marks top level at) ≡ marks top level
unfolding load
level_says s text top level at = go (ltb top level)
  where
    go : (b : Bool) → map (sign_in s text) (cond b (mark Indent at (at + step * level) ∷ []) (replicate (top - level) (mark Dedent at (at + step * level)))) ≡ cond b (plain Indent ∷ []) (replicate (top - level) (plain Dedent))
    go true = refl
    go false = marks_say s text at (at + step * level) (top - level)

pub reads : {flag : Bool} {top : ℕ} {bs : List ℕ} {ss : List Sign} → Reading flag top bs ss → (s : List ℕ) (at count used : ℕ) → at ≤ length s → drop at s ≡ bs → From s (lexer at flag (step * top) count used) ss
unfolding load
reads (r_space {top} {r} d) s at count used h e =
    let f = reads d s (at + 1) count used (omega (arith, length_at s at (32 ∷ r) e)) (drop_more s at (32 ∷ []) r e) in
    record { tokens = f.tokens; text = f.text; scans = space_step s at top count used r h e ∙ f.scans; says = f.says }
reads (r_token {top} {w} {r} {g} {ss} t p d) s at count used h e =
    let b = text_of t.code w in
    let n = length_at s at (w ++ r) e in
    let end : at + length w ≤ length s = omega (arith, length-append w r) in
    let f = reads d s (at + length w) (count + 1) (used + length b) end (drop_more s at w r e) in
    record {
      tokens = token t.code at (at + length w) (t.literal used) ∷ f.tokens;
      text = b ++ f.text;
      scans = token_step s top t.code w r (t.literal used) at count used f.tokens f.text t.reads.lexeme t.reads.no_feed (t.reads.valued used) p h e f.scans;
      says = λ before q.
          let x = token t.code at (at + length w) in
          let a : sign_in s (before ++ (b ++ f.text)) (x (t.literal used)) ≡ g =
          ap₂ (λ (u : ℕ) (m : List ℕ). sign_in s (before ++ (m ++ f.text)) (x (t.literal u))) (sym q) t.reads.adds ∙ t.says s before f.text at (part_at s at w r e) end in
          let k : map (sign_in s (before ++ (b ++ f.text))) f.tokens ≡ ss =
          ap (λ (l : List ℕ). map (sign_in s l) f.tokens) (sym (append_assoc before b f.text)) ∙ f.says (before ++ b) (length-append before b ∙ ap (λ (u : ℕ). u + length b) q) in
          ap₂ ◌∷◌ a k;
    }
reads (r_feed {top} {r} d) s at count used h e =
    let f = reads d s (at + 1) (count + 1) used (omega (arith, length_at s at (10 ∷ r) e)) (drop_more s at (10 ∷ []) r e) in
    record {
      tokens = mark Newline at (at + 1) ∷ f.tokens;
      text = f.text;
      scans = feed_step s r top at count used f.tokens f.text h e f.scans;
      says = λ before q. ap (λ (l : List Sign). plain Newline ∷ l) (f.says before q);
    }
reads (r_line {top} {level} {r} {ss} rises i d) s at count used h e =
    let n = step * level in
    let behind : drop (at + n) s ≡ r = rw length-replicate at (drop_more s at (replicate n 32) r e) in
    let within : at + n ≤ length s = omega (arith, length_at s at (replicate n 32 ++ r) e, length-append (replicate n 32) r, length-replicate {A = ℕ} n 32) in
    let f = reads d s (at + n) (count + mark_count top level) used within behind in
    record {
      tokens = level_marks top level at ++ f.tokens;
      text = f.text;
      scans = line_step s top level r at count used f.tokens f.text rises i h e f.scans;
      says = λ before q. map-append (sign_in s (before ++ f.text)) (level_marks top level at) f.tokens ∙ ap₂ ◌++◌ (level_says s (before ++ f.text) top level at) (f.says before q);
    }
reads (r_end {top}) s at count used h e =
    record {
      tokens = replicate top (mark Dedent at at) ++ mark Eof at at ∷ [];
      text = [];
      scans = end_step s top at count used h e;
      says = λ before q. map-append (sign_in s (before ++ [])) (replicate top (mark Dedent at at)) (mark Eof at at ∷ []) ∙ ap (λ (l : List Sign). l ++ plain Eof ∷ []) (marks_say s (before ++ []) at at top);
    }

-- a whole text
pub record Scanned (s : List ℕ) (ss : List Sign) : Type 0 where
  pub tokens : List Token
  pub text : List ℕ
  pub scans : token_list s ≡ scanned tokens text
  pub says : map (sign_in s text) tokens ≡ ss

pub scanning : {s : List ℕ} {ss : List Sign} → Reading true 0 s ss → Scanned s ss
scanning {s} d = let f = reads d s 0 0 0 zero-le refl in record { tokens = f.tokens; text = f.text; scans = list_is s ∙ f.scans; says = f.says [] refl }
