-- The law of the writer: the standard text of an accepted script, no block of which is empty, is read back as the same script.
-- Assumes nothing.
use mathlib.Core.Path.{◌≡◌, refl, ap, sym, ◌∙◌, subst}
use mathlib.Core.Bool.{Bool, true, false, cond}
use mathlib.Core.List.{List}
use Prim.Native.Nat.{ℕ, ◌<◌}
use native.Mathlib.Omega.{arith}
use borrow.Author.Tests.{eqb-true}
use lib.Dec.{T, eqb}
use lib.ListN.{length}
use Rattle.std.specs.Prelude.{None}
use Rattle.source.proofs.Bools.{and_left}
use Rattle.utf8.specs.Table.{utf8_error_lem}
use Rattle.grammar.specs.Sets.{mem}
use Rattle.token.specs.Code as token
use Rattle.tokens.specs.Token.{Token}
use Rattle.tokens.specs.Token as tok
use Rattle.literal.specs.declared.Literal.TheVariants as L
use Rattle.ast.specs.Node.{Node}
use Rattle.lexer.specs.Scan.{token_list, scanned}
use Rattle.lexer.proofs.Properties.{Spanned, each_at}
use Rattle.lexer.proofs.Laws.{tokens_spanned}
use Rattle.rendered.proofs.Origin.{Origin, tokens_origin}
use Rattle.pyhyeon.specs.Symbol.{Tee, tee_at, is_tee}
use Rattle.pyhyeon.specs.Action.{token_at_lem}
use Rattle.pyhyeon.specs.Rules.{names, literals}
use Rattle.pyhyeon.specs.Reading.{Work, Accepted, descent}
use Rattle.trees.specs.Flat.{flat}
use Rattle.trees.specs.Roles.{Token_of}
use Rattle.trees.specs.Law.{TreeOf}
use Rattle.trees.proofs.Apt.{each}
use Rattle.unparse.specs.Trees.{literal_code}
use Rattle.standard.specs.Erase.{said}
use Rattle.standard.specs.Hollow.{any_hollow_lem}
use Rattle.standard.specs.Text.{word_text, literal_text, standard_text}
use Rattle.standard.proofs.Signs.{sign}
use Rattle.standard.proofs.Scanning.{Spelt}
use Rattle.standard.proofs.Spells.{SpeltName}
use Rattle.standard.proofs.SpeltLeaves.{name_spelt, literal_spelt}
use Rattle.standard.proofs.Scan.{plain_tokens}
use Rattle.standard.proofs.Leaves.{Tokens_are, script_fine}
use Rattle.standard.proofs.Claims as claims
use Rattle.standard.proofs.WellFormed.{Well}
use Rattle.standard.proofs.WellText.{text_well_formed}
use Rattle.standard.proofs.WellLeaves.{WellBytes, WellString, tokens_well, strings_well}
use Rattle.standard.proofs.WellTokens.{name_well, literal_well_said}
use Rattle.standard.proofs.Hollows.{hollow_alike}
use Rattle.standard.proofs.Top.{Rewritten, script_stands}

-- The standard text of what the tree of these nodes says: where the source is well-formed UTF-8, so is the text; it is scanned, and read as such a script;
-- and "writing that again gives the same text", of which no block is empty either.
pub record ReadBack (source text : List ℕ) {toks : List Token} {ns : List Node} (of : TreeOf source toks ns) : Type 0 where
  pub well_formed : utf8_error_lem source ≡ None → utf8_error_lem (standard_text (said source text of.tree)) ≡ None
  pub tokens : List Token
  pub strings : List ℕ
  pub scans : token_list (standard_text (said source text of.tree)) ≡ scanned tokens strings
  pub rewritten : Rewritten source text of (standard_text (said source text of.tree)) tokens strings
  pub filled : any_hollow_lem rewritten.work.nodes ≡ false
  pub same_text : standard_text (said (standard_text (said source text of.tree)) strings rewritten.again.tree) ≡ standard_text (said source text of.tree)

module _ (s : List ℕ) (ts : List Token) (bs : List ℕ) (e : token_list s ≡ scanned ts bs) where
  abbrev token_no : ℕ → Token
  token_no i = token_at_lem s ts i

  origin : (i : ℕ) → i < length ts → ((token_no i).code ≡ token.Indent → ⊥) → ((token_no i).code ≡ token.Dedent → ⊥) → ((token_no i).code ≡ token.Eof → ⊥) → Origin s (token_no i)
  origin i l = each_at (tokens_origin s ts bs e) i (tok.token 0 0 0 L.None) l

  spanned : (i : ℕ) → i < length ts → Spanned (length s) (token_no i)
  spanned i l = each_at (tokens_spanned s ts bs e) i (tok.token 0 0 0 L.None) l

  -- a name by its symbol
  is_name : (i : ℕ) → Token_of s ts names i → (token_no i).code ≡ token.Identifier
  is_name i (l, m) = go (is_tee s (token_no i)) refl m
    where
      t : Token
      t = token_no i

      go : (b : Bool) → is_tee s t ≡ b → T (mem (cond b Tee t.code) names) → t.code ≡ token.Identifier
      go true q m = eqb-true t.code token.Identifier (and_left (eqb t.code token.Identifier) (tee_at s t.start t.end) q)
      go false q m = each (λ c. t.code ≡ c → t.code ≡ token.Identifier) t.code names ((λ h. absurd ((plain_tokens s ts bs e).coded i l h)), ((λ h. h), tt)) m refl

  -- a literal by its symbol
  is_literal : (i : ℕ) → Token_of s ts literals i → T (mem (token_no i).code literals)
  is_literal i (l, m) = go (is_tee s (token_no i)) m
    where
      go : (b : Bool) → T (mem (cond b Tee (token_no i).code) literals) → T (mem (token_no i).code literals)
      go true m = absurd m
      go false m = m

  name_origins : (i : ℕ) → Token_of s ts names i → Origin s (token_no i)
  name_origins i h = let c = is_name i h in origin i h.0 (λ q. omega (arith, sym c ∙ q)) (λ q. omega (arith, sym c ∙ q)) (λ q. omega (arith, sym c ∙ q))

  no_literal : (i : ℕ) → Token_of s ts literals i → (k : ℕ) → mem k literals ≡ false → (token_no i).code ≡ k → ⊥
  no_literal i h k f q = subst T (ap (λ (c : ℕ). mem c literals) q ∙ f) (is_literal i h)

  literal_origins : (i : ℕ) → Token_of s ts literals i → Origin s (token_no i)
  literal_origins i h = origin i h.0 (no_literal i h token.Indent refl) (no_literal i h token.Dedent refl) (no_literal i h token.Eof refl)

  leaves_spelt : Tokens_are SpeltName (λ c l. Spelt (literal_text c l) (sign (literal_code c) l)) s bs ts
  leaves_spelt = record {
    names_are = λ i h. name_spelt s bs (token_no i) (name_origins i h) (spanned i h.0) (is_name i h);
    literals_are = λ i h. literal_spelt s bs (token_no i) (literal_origins i h) (spanned i h.0) (is_literal i h);
  }

  -- ---- and is well-formed

  module _ (u : utf8_error_lem s ≡ None) where
    bytes_well : (i : ℕ) → i < length ts → WellBytes s (token_no i)
    bytes_well i l = each_at (tokens_well s ts bs u e) i (tok.token 0 0 0 L.None) l

    text_well : (i : ℕ) → i < length ts → WellString bs (token_no i)
    text_well i l = each_at (strings_well s ts bs u e) i (tok.token 0 0 0 L.None) l

    leaves_well : Tokens_are (λ w l. Well (word_text w l)) (λ c l. Well (literal_text c l)) s bs ts
    leaves_well = record {
      names_are = λ i h.
          let c = is_name i h in name_well s bs (token_no i) (bytes_well i h.0 (λ q. omega (arith, sym c ∙ q)) (λ q. omega (arith, sym c ∙ q))) (text_well i h.0) c;
      literals_are = λ i h.
          literal_well_said s bs (token_no i) (bytes_well i h.0 (no_literal i h token.Indent refl) (no_literal i h token.Dedent refl)) (text_well i h.0) (is_literal i h) ((plain_tokens s ts bs e).sorted i h);
    }

  -- ---- the law

  pub read_back : (w : Work) (a : descent s ts ≡ Accepted w) → any_hollow_lem w.nodes ≡ false → ReadBack s bs (script_stands s ts bs e w a).of
  read_back w a f =
      let x = script_stands s ts bs e w a in
      let t = x.of.tree in
      let p = plain_tokens s ts bs e in
      let g : any_hollow_lem (flat t) ≡ false = ap any_hollow_lem (sym x.of.is) ∙ f in
      let y = claims.text_scanned (said s bs t) (script_fine SpeltName (λ c l. Spelt (literal_text c l) (sign (literal_code c) l)) s bs ts p leaves_spelt t x.of.proper g) in
      let r = x.rewritten (standard_text (said s bs t)) y.tokens y.text y.scans y.says in
      record {
        well_formed = λ u. text_well_formed (said s bs t) (script_fine (λ w l. Well (word_text w l)) (λ c l. Well (literal_text c l)) s bs ts p (leaves_well u) t x.of.proper g);
        tokens = y.tokens;
        strings = y.text;
        scans = y.scans;
        rewritten = r;
        filled = hollow_alike s bs w.nodes (standard_text (said s bs t)) y.text r.work.nodes r.alike ∙ f;
        same_text = ap standard_text r.same;
      }
